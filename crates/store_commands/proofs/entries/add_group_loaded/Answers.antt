use Rattle.std.proofs.Common.{refl, [], ◌∷◌}
use Rattle.sync_words.specs.declared.outcome.Outcome.TheVariants as outcome
use Rattle.session_core.proofs.Unknown.{unknown}
use Rattle.store_commands.specs.declared.commit.Settling.TheVariants as settling
use Rattle.store_commands.specs.Plans.{group_plan}
use Rattle.store_commands.proofs.EntryLemmas.{added_entry, added_refused}
use Rattle.store_commands.proofs.Follow.{group_follows}
use Rattle.store_commands.proofs.Passing.{added_on, leaves_on, serves_on}
use Rattle.store_commands.proofs.Serving.{group_keeps}
use Rattle.store_commands.proofs.Sessions.{group_begins_none, leaves_itself}
use Rattle.store_commands.proofs.entries.add_group_loaded.Goals as goal

pub returns-in_err-entry-clause-added : goal.returns-in_err-entry-clause-added
returns-in_err-entry-clause-added g c start was =
    let clients = g.C.Clients.meaning c.args.clients.now in
    let why = c.in_err-entry.field-0.0 in
    added_on c.from_residual.result (outcome.Refused why)
    c.from_residual.ensures.1 clients (λ f. group_plan clients f c.args.def) settling.Before _ _ _ _
    (added_refused clients (λ f. group_plan clients f c.args.def) settling.Before _ _ _ _ c.args.store.now why
    was.run was.rests was.facts c.in_err-entry.ensures (record {
      same = refl;
      same_faults = refl;
    }))

pub returns-in_err-entry-clause-serves : goal.returns-in_err-entry-clause-serves
returns-in_err-entry-clause-serves g c served =
    serves_on c.from_residual.result (outcome.Refused c.in_err-entry.field-0.0)
    c.from_residual.ensures.1 (g.C.Clients.meaning c.args.clients.now) c.args.store.now
    (g.D.Disk.tells c.args.disk.now) served

pub add_entry-requires-clause-follows : goal.add_entry-requires-clause-follows
add_entry-requires-clause-follows g c =
    let clients = g.C.Clients.meaning c.args.clients.now in
    (group_follows clients c.args.store.now.state.facts c.args.def c.in_ok-entry.entry
    c.in_ok-entry.ensures).follows

pub add_entry-requires-clause-kind : goal.add_entry-requires-clause-kind
add_entry-requires-clause-kind g c =
    let clients = g.C.Clients.meaning c.args.clients.now in
    (group_follows clients c.args.store.now.state.facts c.args.def c.in_ok-entry.entry
    c.in_ok-entry.ensures).kind

pub add_entry-requires-clause-plain : goal.add_entry-requires-clause-plain
add_entry-requires-clause-plain g c =
    let clients = g.C.Clients.meaning c.args.clients.now in
    (group_follows clients c.args.store.now.state.facts c.args.def c.in_ok-entry.entry
    c.in_ok-entry.ensures).plain

pub add_entry-requires-clause-named : goal.add_entry-requires-clause-named
add_entry-requires-clause-named g c = unknown (c.in_ok-entry.entry ∷ [])

pub returns-clause-added : goal.returns-clause-added
returns-clause-added g c start was =
    let clients = g.C.Clients.meaning c.args.clients.now in
    added_entry clients (λ f. group_plan clients f c.args.def) settling.Before _ _ _ _ _ c.args.store.now
    c.in_ok-entry.entry _ was.run was.rests was.opened c.in_ok-entry.ensures
    c.add_entry.ensures.added

pub returns-clause-serves : goal.returns-clause-serves
returns-clause-serves g c served =
    let clients = g.C.Clients.meaning c.args.clients.now in
    c.add_entry.ensures.serves served
    (group_keeps clients c.args.store.now.state.facts c.args.def c.in_ok-entry.entry
    c.in_ok-entry.ensures)

pub returns-in_err-entry-clause-sessions : goal.returns-in_err-entry-clause-sessions
returns-in_err-entry-clause-sessions g c =
    leaves_on c.from_residual.result (outcome.Refused c.in_err-entry.field-0.0)
    c.from_residual.ensures.1 c.args.store.now c.args.store.now (leaves_itself c.args.store.now)

pub returns-clause-sessions : goal.returns-clause-sessions
returns-clause-sessions g c =
    c.add_entry.ensures.sessions
    (group_begins_none (g.C.Clients.meaning c.args.clients.now) c.args.store.now.state.facts c.args.def
    c.in_ok-entry.entry
    c.in_ok-entry.ensures)
