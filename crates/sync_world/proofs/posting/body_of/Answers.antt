use Rattle.std.proofs.Common.{rules, ◌≡◌, ◌++◌, ◌∙◌, arith}
use Rattle.sync_world.proofs.PostingLaws.{body_is}
use Rattle.sync_world.proofs.posting.body_of.Goals as goal

pub returns : goal.returns
returns c =
    let put : c.extend_from_slice-2.new.self.items ≡ c.parents.body.items ++ c.args.text.now =
    search rules in
    put ∙ body_is c.args.kind c.parents.parent-index c.args.parents.now c.parents.body.items
    c.args.text.now (omega arith) c.parents.invariant
