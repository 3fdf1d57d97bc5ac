use Rattle.std.proofs.Common.{rules, sym, ap, ◌∙◌}
use Rattle.std.specs.Prelude.{option_to_list}
use Rattle.book.proofs.ByDealer.{told_same, told_room, told_more}
use Rattle.book.proofs.duties.Duties.tell.Goals.{in-Some, in_default}
use Rattle.book.proofs.duties.Duties.tell.Goals as goal

pub bounds-free-told : goal.bounds-free-told
bounds-free-told c =
    let is = ap option_to_list (sym c.in-Some.is) ∙ c.late_record.ensures in
    let room = told_room c.args.time c.of_first-duties.result.now c.args.free.now c.loop-i.free c.loop-i.told c.loop-i.i (search rules) c.in-Some.late is (rw c.of_first-duties.ensures c.requires) c.loop-i.invariant in
    rw c.loop-i.auto.free room

pub loop-i-preserved : goal.loop-i-preserved
loop-i-preserved c =
    elim c.match-late_record.branch [
      | in-Some w ↦
          let is = ap option_to_list (sym w.in-Some.is) ∙ c.late_record.ensures in
          let room = told_room c.args.time c.of_first-duties.result.now c.args.free.now c.loop-i.free c.loop-i.told c.loop-i.i (search rules) w.in-Some.late is (rw c.of_first-duties.ensures c.requires) c.loop-i.invariant in
          rw (w.free-is, w.told-is) (told_more c.args.time c.of_first-duties.result.now c.args.free.now c.loop-i.free c.loop-i.told c.loop-i.i (search rules) w.in-Some.late is (rw c.of_first-duties.ensures c.requires) c.loop-i.invariant (rw c.loop-i.auto.free room))
      | in_default w ↦
          rw (w.free-is, w.told-is) (told_same c.args.time c.of_first-duties.result.now c.args.free.now c.loop-i.free c.loop-i.told c.loop-i.i (search rules) (ap option_to_list (sym w.in_default.is) ∙ c.late_record.ensures) c.loop-i.invariant)
    ]
