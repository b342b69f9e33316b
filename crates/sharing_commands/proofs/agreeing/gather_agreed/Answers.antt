use Rattle.sync_words.specs.declared.outcome.Outcome.TheVariants as outcome
use Rattle.sharing_commands.proofs.Fronts.{adds_on, none_added}
use Rattle.sharing_commands.proofs.Standing.{known_on}
use Rattle.sharing_commands.proofs.agreeing.gather_agreed.Goals as goal

pub returns-in_err-said-clause-adds : goal.returns-in_err-said-clause-adds
returns-in_err-said-clause-adds g c =
    let clients = g.C.Clients.meaning c.args.clients.now in
    adds_on c.from_residual.result outcome.Memory c.from_residual.ensures.1 clients _ _ _ _ _
    (none_added c.images_stand.ensures clients c.args.store.now _ _ c.requires.stands.gathering.still_open)

pub returns-in_err-targets-clause-adds : goal.returns-in_err-targets-clause-adds
returns-in_err-targets-clause-adds g c =
    let clients = g.C.Clients.meaning c.args.clients.now in
    adds_on c.from_residual-in_err-targets.result outcome.Memory
    c.from_residual-in_err-targets.ensures.1 clients _ _ _ _ _
    (none_added c.images_stand.ensures clients c.args.store.now _ _ c.requires.stands.gathering.still_open)

pub returns-in_err-said-clause-stands : goal.returns-in_err-said-clause-stands
returns-in_err-said-clause-stands g c =
    known_on c.from_residual.result outcome.Memory c.from_residual.ensures.1
    (g.C.Clients.meaning c.args.clients.now) c.args.store.now (g.D.Disk.tells c.args.disk.now)
    c.args.contact c.requires.stands

pub returns-in_err-targets-clause-stands : goal.returns-in_err-targets-clause-stands
returns-in_err-targets-clause-stands g c =
    known_on c.from_residual-in_err-targets.result outcome.Memory c.from_residual-in_err-targets.ensures.1
    (g.C.Clients.meaning c.args.clients.now) c.args.store.now (g.D.Disk.tells c.args.disk.now)
    c.args.contact c.requires.stands
