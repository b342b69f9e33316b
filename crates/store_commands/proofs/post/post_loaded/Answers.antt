use Rattle.std.proofs.Common.{◌≡◌, true, false, refl, sym, ap, ◌∙◌}
use Rattle.std.specs.Prelude.{is_some}
use Rattle.sync_rules.specs.declared.entries.Entry.TheVariants as entry
use Rattle.journal_state.specs.Whole.{StateValue}
use Rattle.sync_rules.specs.Facts.{Id, group_at}
use Rattle.store_commands.specs.Post.{posted_message}
use Rattle.store_commands.proofs.Follow.{post_follows}
use Rattle.store_commands.proofs.Passing.{leaves_on, posted_on, serves_on}
use Rattle.store_commands.proofs.Posts.{posted_entry, posted_fault, posted_unknown}
use Rattle.store_commands.proofs.Posts.{posted_unread}
use Rattle.store_commands.proofs.Serving.{serves_unplanned, serves_unread}
use Rattle.store_commands.proofs.Sessions.{leaves_by, leaves_itself}
use Rattle.store_commands.proofs.post.post_loaded.Goals as goal

-- whether a group is known to the state that a store lends
by_state : (lent state : StateValue) (group : Id) → lent ≡ state
    → is_some (group_at state.facts.groups group) ≡ is_some (group_at lent.facts.groups group)
by_state lent state group same =
    ap (λ (s : StateValue). is_some (group_at s.facts.groups group)) (sym same)

pub returns-then-not-knows_group-clause-posted : goal.returns-then-not-knows_group-clause-posted
returns-then-not-knows_group-clause-posted g c start was =
    let unknown : is_some (group_at c.args.store.now.state.facts.groups c.args.group) ≡ false =
    by_state c.state.result.now c.args.store.now.state c.args.group c.state.ensures
    ∙ sym c.knows_group.ensures ∙ c.if-not-knows_group.true in
    posted_unknown (g.C.Clients.meaning c.args.clients.now) c.args.group c.args.timestamp _ _ _ _ _
    _ c.args.store.now was.run
    was.rests was.facts (record {
      same = refl;
      same_faults = refl;
    }) unknown (record { same = refl; same_faults = refl })

pub returns-in_err-body-clause-posted : goal.returns-in_err-body-clause-posted
returns-in_err-body-clause-posted g c start was =
    let clients = g.C.Clients.meaning c.args.clients.now in
    let known : is_some (group_at c.args.store.now.state.facts.groups c.args.group) ≡ true =
    by_state c.state.result.now c.args.store.now.state c.args.group c.state.ensures
    ∙ sym c.knows_group.ensures ∙ c.if-not-knows_group.false in
    posted_on c.from_residual.result c.in_err-body.field-0.0
    c.from_residual.ensures.1 clients c.args.group c.args.timestamp _ _ _ _ _ _
    (posted_unread clients c.args.group c.args.timestamp _ _ _ _ _ _ c.args.store.now
    was.run was.rests
    was.facts (record { same = refl; same_faults = refl }) known
    c.in_err-body.field-0.0 c.in_err-body.ensures)

pub returns-in_err-post-clause-posted : goal.returns-in_err-post-clause-posted
returns-in_err-post-clause-posted g c start was =
    let clients = g.C.Clients.meaning c.args.clients.now in
    let known : is_some (group_at c.args.store.now.state.facts.groups c.args.group) ≡ true =
    by_state c.state.result.now c.args.store.now.state c.args.group c.state.ensures
    ∙ sym c.knows_group.ensures ∙ c.if-not-knows_group.false in
    posted_on c.from_residual-in_err-post.result c.in_err-post.field-0.0
    c.from_residual-in_err-post.ensures.1 clients c.args.group c.args.timestamp _ _ _ _ _ _
    (posted_fault clients c.args.group c.args.timestamp _ _ _ _ _ _ c.args.store.now
    was.run was.rests
    was.facts (record { same = refl; same_faults = refl }) known
    c.in_ok-body.body.items c.in_err-post.field-0.0 c.in_ok-body.ensures
    c.in_err-post.ensures)

pub add_entry-requires-clause-follows : goal.add_entry-requires-clause-follows
add_entry-requires-clause-follows g c =
    (post_follows (g.C.Clients.meaning c.args.clients.now) c.args.store.now.state.facts
    (posted_message c.args.group c.args.timestamp c.in_ok-body.body.items)
    (entry.Author c.in_ok-post.post.message) c.in_ok-post.ensures.0).follows

pub add_entry-requires-clause-kind : goal.add_entry-requires-clause-kind
add_entry-requires-clause-kind g c =
    (post_follows (g.C.Clients.meaning c.args.clients.now) c.args.store.now.state.facts
    (posted_message c.args.group c.args.timestamp c.in_ok-body.body.items)
    (entry.Author c.in_ok-post.post.message) c.in_ok-post.ensures.0).kind

pub add_entry-requires-clause-plain : goal.add_entry-requires-clause-plain
add_entry-requires-clause-plain g c =
    (post_follows (g.C.Clients.meaning c.args.clients.now) c.args.store.now.state.facts
    (posted_message c.args.group c.args.timestamp c.in_ok-body.body.items)
    (entry.Author c.in_ok-post.post.message) c.in_ok-post.ensures.0).plain

pub returns-clause-posted : goal.returns-clause-posted
returns-clause-posted g c start was =
    posted_entry (g.C.Clients.meaning c.args.clients.now) c.args.group c.args.timestamp _ _ _ _ _ _
    _ c.args.store.now c.in_ok-body.body.items
    (entry.Author c.in_ok-post.post.message) _ was.run was.rests
    was.opened c.in_ok-body.ensures c.in_ok-post.ensures.0
    c.add_entry.ensures.added

pub add_entry-requires-clause-named : goal.add_entry-requires-clause-named
add_entry-requires-clause-named g c = (c.in_ok-post.ensures.1, tt)

pub returns-in_err-body-clause-serves : goal.returns-in_err-body-clause-serves
returns-in_err-body-clause-serves g c served =
    let clients = g.C.Clients.meaning c.args.clients.now in
    serves_on c.from_residual.result c.in_err-body.field-0.0 c.from_residual.ensures.1 clients
    c.args.store.now (g.D.Disk.tells c.args.disk.now)
    (serves_unread clients c.args.store.now (g.D.Disk.tells c.args.disk.now) _ _
    c.in_err-body.field-0.0 served c.in_err-body.ensures)

pub returns-in_err-post-clause-serves : goal.returns-in_err-post-clause-serves
returns-in_err-post-clause-serves g c served =
    let clients = g.C.Clients.meaning c.args.clients.now in
    serves_on c.from_residual-in_err-post.result c.in_err-post.field-0.0
    c.from_residual-in_err-post.ensures.1 clients c.args.store.now
    (g.D.Disk.tells c.args.disk.now)
    (serves_unplanned clients c.args.store.now (g.D.Disk.tells c.args.disk.now) _
    c.in_err-post.field-0.0 served c.in_err-post.ensures)

pub returns-clause-serves : goal.returns-clause-serves
returns-clause-serves g c served = c.add_entry.ensures.serves served tt

pub returns-then-not-knows_group-clause-sessions : goal.returns-then-not-knows_group-clause-sessions
returns-then-not-knows_group-clause-sessions g c =
    leaves_itself c.args.store.now

pub returns-in_err-body-clause-sessions : goal.returns-in_err-body-clause-sessions
returns-in_err-body-clause-sessions g c =
    let came = c.in_err-body.field-0.0 in
    let s = c.args.store.now in
    leaves_on c.from_residual.result came c.from_residual.ensures.1 s s
    (leaves_by s s came (leaves_itself s))

pub returns-in_err-post-clause-sessions : goal.returns-in_err-post-clause-sessions
returns-in_err-post-clause-sessions g c =
    let came = c.in_err-post.field-0.0 in
    let s = c.args.store.now in
    leaves_on c.from_residual-in_err-post.result came c.from_residual-in_err-post.ensures.1 s s
    (leaves_by s s came (leaves_itself s))

pub returns-clause-sessions : goal.returns-clause-sessions
returns-clause-sessions g c =
    c.add_entry.ensures.sessions refl
