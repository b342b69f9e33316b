use Rattle.std.proofs.Common.{◌≡◌, [], drop}
use Rattle.sync_world.proofs.PostingLaws.{with_posts}
use Rattle.sync_world.proofs.posting.ids_of.Given as goal

abbrev pub invariant-labels : goal.invariant-labels
invariant-labels l =
    with_posts l.posts l.ids.items (drop l.label-index l.labels) ≡ with_posts l.posts [] l.labels
