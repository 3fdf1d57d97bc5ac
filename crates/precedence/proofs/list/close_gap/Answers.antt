use Rattle.market.proofs.InOrder.{ordered_removed}
use Rattle.precedence.proofs.Slices.{gap_closed, left_alone}
use Rattle.precedence.proofs.list.close_gap.Goals as goal

pub returns : goal.returns
returns g c =
    let is = gap_closed _ _ _ c.requires c.copy_within.ensures.after in
    let front = left_alone _ _ _ _ c.requires is in
    record { after = is; front = front; ordered = λ b o. rw front (ordered_removed b _ _ o) }
