use Rattle.std.proofs.Common.{rules, ◌≡◌, ◌≤◌, ◌<◌, ◌++◌, [], ◌∷◌, length, slice_get}
use Rattle.std.proofs.Common.{slice_index_or}
use Rattle.std.proofs.lemmas.Option.{slice_get_past}
use Rattle.sync_world.proofs.PostingLaws.{none_comes, some_comes}
use Rattle.sync_world.proofs.WireLaws.{get_at}
use Rattle.sync_world.proofs.posting.add_post.Goals as goal

pub returns-in_default : goal.returns-in_default
returns-in_default c =
    let past : length c.args.posts.now ≤ c.args.label = search rules in
    none_comes c.args.ids.now.items (slice_get c.args.posts.now c.args.label)
    (slice_get_past c.args.posts.now c.args.label past)

pub returns : goal.returns
returns c =
    let within : c.args.label < length c.args.posts.now = search rules in
    let is : c.in-Some.id.now ≡ slice_index_or c.args.posts.now c.args.label c.in-Some.id.now =
    search rules in
    let added : c.push.new.self.items ≡ c.args.ids.now.items ++ c.in-Some.id.now ∷ [] =
    search rules in
    some_comes c.args.ids.now.items c.push.new.self.items (slice_get c.args.posts.now c.args.label)
    c.in-Some.id.now
    (get_at c.args.posts.now c.args.label c.in-Some.id.now within is) added
