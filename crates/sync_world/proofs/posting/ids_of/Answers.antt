use Rattle.std.proofs.Common.{arith}
use Rattle.sync_world.proofs.PostingLaws.{ids_are}
use Rattle.sync_world.proofs.posting.ids_of.Goals as goal

pub returns : goal.returns
returns c =
    ids_are c.args.posts.now c.labels.ids.items c.args.labels.now c.labels.label-index (omega arith)
    c.labels.invariant
