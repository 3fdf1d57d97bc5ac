use Rattle.std.proofs.Common.{arith}
use Rattle.records.proofs.Bytes.{front_word}
use Rattle.records.proofs.parts.word.Goals as goal

pub returns : goal.returns
returns c =
    let cut = c.in_ok-word.ensures.cases in
    front_word c.args.bytes.now _ _ c.from_be_bytes.result (omega arith) cut.0 cut.1
    (omega (arith, c.type_inv.bytes 0)) (omega (arith, c.type_inv.bytes 1)) (omega (arith, c.type_inv.bytes 2)) (omega (arith, c.type_inv.bytes 3))
    c.from_be_bytes.ensures
