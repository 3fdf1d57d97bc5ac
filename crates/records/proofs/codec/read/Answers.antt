use Rattle.std.proofs.Common.{◌≡◌, Err, refl, arith, ltb-false, rules}
use Rattle.records.specs.declared.Malformed.TheVariants.{Byte}
use Rattle.records.proofs.Fronts.{whole, wrong_byte, wrong_kind}
use Rattle.records.proofs.Trips.{answered, written}
use Rattle.records.proofs.codec.read.Goals as goal

pub returns-in_err-value : goal.returns-in_err-value
returns-in_err-value g c =
    let xs = c.args.bytes.now in
    let w = c.in_ok-words.words in
    let law = g.met.T.Record.lawful in
    let e : c.from_residual-in_err-value.result ≡ Err (Byte 0) = search rules in
    rw e (answered law xs _ (wrong_kind law xs w _ _ (whole xs w _ (omega (arith, ltb-false)) refl refl refl refl (search rules))
    c.from_parts.ensures c.in_err-value.ensures.ok_part))

pub returns-in-Some : goal.returns-in-Some
returns-in-Some g c =
    let xs = c.args.bytes.now in
    let w = c.in_ok-words.words in
    let law = g.met.T.Record.lawful in
    answered law xs _ (wrong_byte law xs _ w _ _ _ _ (whole xs w _ (omega (arith, ltb-false)) refl refl refl refl (search rules))
    (written law _ _ refl c.first_wrong.ensures.fits) c.from_parts.ensures c.in_ok-value.ensures.ok_part c.in-Some.ensures.first)
