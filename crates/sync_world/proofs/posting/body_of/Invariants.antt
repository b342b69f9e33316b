use Rattle.std.proofs.Common.{◌≡◌, drop}
use Rattle.sync_world.specs.Posting.{head_of}
use Rattle.sync_world.proofs.PostingLaws.{with_ids}
use Rattle.sync_world.proofs.posting.body_of.Given as goal

abbrev pub invariant-parents : goal.invariant-parents
invariant-parents l =
    with_ids l.body.items (drop l.parent-index l.parents)
    ≡ with_ids (head_of l.kind l.parents) l.parents
