use Rattle.std.proofs.Common.{List, [], ◌∷◌, refl, subst}
use Rattle.sync_rules.specs.declared.entries.Entry.{Entry}
use Rattle.sync_rules.specs.declared.entries.Entry.TheVariants as entry
use Rattle.sync_rules.proofs.StepKinds.{settled_stays}
use Rattle.sync_words.specs.declared.outcome.Outcome.TheVariants as outcome
use Rattle.sharing_commands.specs.Adding.{GathersFront}
use Rattle.sharing_commands.proofs.Standing.{known_after, known_on}
use Rattle.sharing_commands.proofs.Fronts.{adds_on, none_added}
use Rattle.sharing_commands.proofs.adding.set_level.Goals as goal

pub returns-in_err-batch-clause-adds : goal.returns-in_err-batch-clause-adds
returns-in_err-batch-clause-adds g c =
    let clients = g.C.Clients.meaning c.args.clients.now in
    adds_on c.from_residual.result outcome.Memory c.from_residual.ensures.1 clients _ _ _ _ _
    (none_added c.images_stand.ensures clients c.args.store.now _ _ c.requires.stands.gathering.still_open)

pub returns-in_err-batch-clause-stands : goal.returns-in_err-batch-clause-stands
returns-in_err-batch-clause-stands g c =
    known_on c.from_residual.result outcome.Memory c.from_residual.ensures.1
    (g.C.Clients.meaning c.args.clients.now) c.args.store.now (g.D.Disk.tells c.args.disk.now)
    c.args.contact c.requires.stands

pub returns-clause-stands : goal.returns-clause-stands
returns-clause-stands g c =
    let clients = g.C.Clients.meaning c.args.clients.now in
    let f = c.args.store.now.state.facts in
    known_after clients c.args.store.now c.gather.new.store (g.D.Disk.tells c.args.disk.now)
    (g.D.Disk.tells c.gather.new.disk) c.args.contact
    (entry.Level c.args.contact c.args.group.now c.args.level ∷ []) c.gather.result
    c.requires.stands (record {
      settled = λ settled. settled_stays clients f
          (entry.Level c.args.contact c.args.group.now c.args.level ∷ []) refl settled;
      contacts = refl;
    })
    (subst (λ (b : List Entry). GathersFront clients c.args.store.now c.gather.new.store
    (g.D.Disk.tells c.args.disk.now) (g.D.Disk.tells c.gather.new.disk) (b ∷ []) c.gather.result)
    c.in_ok-batch.ensures c.gather.ensures.adds) c.gather.ensures.gathering
