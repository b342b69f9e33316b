use Rattle.std.proofs.Common.{List, [], ◌∷◌, ap, ◌∙◌, refl, subst}
use Rattle.sync_ids.specs.Values.{GroupValue}
use Rattle.sync_rules.specs.declared.entries.Entry.{Entry}
use Rattle.sync_rules.specs.declared.entries.Entry.TheVariants as entry
use Rattle.sync_rules.specs.Knowing.{KnowsGroups}
use Rattle.sync_rules.proofs.GroupLaws.{groups_leave_settled}
use Rattle.sync_words.specs.declared.outcome.Outcome.TheVariants as outcome
use Rattle.sharing_commands.specs.Adding.{GathersFront}
use Rattle.sharing_commands.proofs.Standing.{known_after, known_on}
use Rattle.sharing_commands.proofs.Fronts.{adds_on, none_added}
use Rattle.sharing_commands.proofs.Targets.{group_known}
use Rattle.sharing_commands.proofs.adding.add_group.Goals as goal

pub returns-in_err-def-clause-adds : goal.returns-in_err-def-clause-adds
returns-in_err-def-clause-adds g c =
    let clients = g.C.Clients.meaning c.args.clients.now in
    adds_on c.from_residual.result outcome.Memory c.from_residual.ensures.1 clients _ _ _ _ _
    (none_added c.images_stand.ensures clients c.args.store.now _ _ c.requires.stands.gathering.still_open)

pub returns-in_err-batch-clause-adds : goal.returns-in_err-batch-clause-adds
returns-in_err-batch-clause-adds g c =
    let clients = g.C.Clients.meaning c.args.clients.now in
    adds_on c.from_residual-in_err-batch.result outcome.Memory
    c.from_residual-in_err-batch.ensures.1 clients _ _ _ _ _
    (none_added c.images_stand.ensures clients c.args.store.now _ _ c.requires.stands.gathering.still_open)

pub returns-clause-known : goal.returns-clause-known
returns-clause-known g c =
    let clients = g.C.Clients.meaning c.args.clients.now in
    group_known clients c.args.store.now c.gather.new.store _ _ c.args.def.now c.in_ok-batch.batch
    c.gather.result
    (c.in_ok-batch.ensures ∙ ap (λ (d : GroupValue). entry.Group d ∷ []) c.in_ok-def.ensures)
    c.gather.ensures.adds

pub returns-in_err-def-clause-stands : goal.returns-in_err-def-clause-stands
returns-in_err-def-clause-stands g c =
    known_on c.from_residual.result outcome.Memory c.from_residual.ensures.1
    (g.C.Clients.meaning c.args.clients.now) c.args.store.now (g.D.Disk.tells c.args.disk.now)
    c.args.contact c.requires.stands

pub returns-in_err-batch-clause-stands : goal.returns-in_err-batch-clause-stands
returns-in_err-batch-clause-stands g c =
    known_on c.from_residual-in_err-batch.result outcome.Memory c.from_residual-in_err-batch.ensures.1
    (g.C.Clients.meaning c.args.clients.now) c.args.store.now (g.D.Disk.tells c.args.disk.now)
    c.args.contact c.requires.stands

pub returns-clause-stands : goal.returns-clause-stands
returns-clause-stands g c =
    let clients = g.C.Clients.meaning c.args.clients.now in
    let f = c.args.store.now.state.facts in
    let known = subst (λ s. KnowsGroups s.facts) c.state.ensures
    c.show_sound.ensures.known in
    known_after clients c.args.store.now c.gather.new.store (g.D.Disk.tells c.args.disk.now)
    (g.D.Disk.tells c.gather.new.disk) c.args.contact (entry.Group c.args.def.now ∷ [])
    c.gather.result c.requires.stands (record {
      settled = λ settled. groups_leave_settled clients f c.args.def.now known settled;
      contacts = refl;
    })
    (subst (λ (b : List Entry). GathersFront clients c.args.store.now c.gather.new.store
    (g.D.Disk.tells c.args.disk.now) (g.D.Disk.tells c.gather.new.disk) (b ∷ []) c.gather.result)
    (c.in_ok-batch.ensures ∙ ap (λ (d : GroupValue). entry.Group d ∷ []) c.in_ok-def.ensures)
    c.gather.ensures.adds) c.gather.ensures.gathering
