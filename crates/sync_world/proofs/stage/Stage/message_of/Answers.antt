use Rattle.std.proofs.Common.{rules, ◌≡◌, ◌≤◌, true, length}
use Rattle.world_scripts.specs.Labels.{suits_kind}
use Rattle.sync_world.specs.Posting.{post_body, ids_labelled}
use Rattle.sync_world.proofs.PostingLaws.{body_some, ids_fit, over, unfit_refused}
use Rattle.sync_world.proofs.stage.Stage.message_of.Goals as goal

pub body_of-requires : goal.body_of-requires
body_of-requires c =
    let suits : suits_kind c.in-Some.kind c.args.parents.now ≡ true = search rules in
    let are : c.as_slice-2.result.now ≡ ids_labelled c.args.self.now.posts.items
    c.args.parents.now =
    search rules in
    ids_fit c.args.self.now.posts.items c.as_slice-2.result.now c.args.parents.now c.in-Some.kind
    suits are

pub returns : goal.returns
returns c =
    let are : c.as_slice-2.result.now ≡ ids_labelled c.args.self.now.posts.items
    c.args.parents.now =
    search rules in
    let is : c.in_ok-body.body.items
    ≡ post_body c.in-Some.kind c.as_slice-2.result.now c.args.text.now = search rules in
    let some : 1 ≤ length c.args.text.now = search rules in
    unfit_refused c.args.self.now.groups c.args.self.now.posts.items c.as_slice-2.result.now
    c.args.group c.args.time c.in-Some.kind c.args.parents.now c.args.text.now
    c.in-Some.descriptor.now c.in_ok-body.body.items c.in-Some.ensures are is
    (over c.new.result c.in-Err.field-0 c.args.time c.in_ok-body.body.items c.in-Err.is
    c.new.ensures.empty.0 c.new.ensures.too_long.0 (λ bad.
    (c.new.ensures.bad_timestamp.0 bad).2)
    (body_some c.in-Some.kind c.as_slice-2.result.now c.args.text.now c.in_ok-body.body.items is
    some))
