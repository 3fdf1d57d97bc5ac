use Rattle.std.proofs.Common.{◌∙◌, rules}
use Rattle.precedence.proofs.Slices.{put_is}
use Rattle.precedence.proofs.list.insert.Goals as goal

pub returns : goal.returns
returns g c =
    let is = put_is c.args.list.now c.copy_within.new.self c.place-at.result c.args.item (search rules) c.requires c.copy_within.ensures.after in
    record { after = is ∙ c.place-at.ensures.at; ordered = λ f o. rw is (c.place-at.ensures.ordered f o) }
