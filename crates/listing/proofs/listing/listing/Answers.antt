use Rattle.std.proofs.Common.{rules}
use Rattle.std.proofs.lemmas.Result.{IfOk-weaker}
use Rattle.listing.proofs.Lines.{listed}
use Rattle.listing.proofs.listing.listing.Goals as goal

pub returns : goal.returns
returns c =
    IfOk-weaker c.collect.result _ _
    (λ v taken. rw taken.2.0 (listed _ _ (λ i piece l q call. (search rules)) _ taken.0 _ 0 (cc) (cc) (cc) (cc) taken.1))
    c.collect.ensures.ran
