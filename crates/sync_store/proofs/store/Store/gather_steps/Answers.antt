use Rattle.std.proofs.Common.{refl, sym, subst, Result}
use Rattle.sync_store.specs.declared.fault.StoreFault.{StoreFault}
use Rattle.sync_store.specs.declared.fault.StoreFault.TheVariants as fault
use Rattle.sync_store.specs.Gathering.{GathersSteps}
use Rattle.sync_store.proofs.Errors.{err_is}
use Rattle.sync_store.proofs.Growth.{starved_none}
use Rattle.sync_store.proofs.MigrateSteps.{same_self}
use Rattle.sync_store.proofs.store.Store.gather_steps.Goals as goal

pub returns-in_err-entries-clause-made : goal.returns-in_err-entries-clause-made
returns-in_err-entries-clause-made g c =
    let clients = g.C.Clients.meaning c.args.clients.now in
    let s = c.args.self.now in
    subst (λ (r : Result (Unit {0}) StoreFault). GathersSteps clients s s r)
    (sym (err_is c.from_residual.result fault.Memory c.from_residual.ensures.1))
    (starved_none clients s s fault.Memory (same_self s) refl c.requires.still_open refl)

pub returns-in_err-framed-clause-made : goal.returns-in_err-framed-clause-made
returns-in_err-framed-clause-made g c =
    let clients = g.C.Clients.meaning c.args.clients.now in
    let s = c.args.self.now in
    subst (λ (r : Result (Unit {0}) StoreFault). GathersSteps clients s s r)
    (sym (err_is c.from_residual-in_err-framed.result fault.Memory
    c.from_residual-in_err-framed.ensures.1))
    (starved_none clients s s fault.Memory (same_self s) refl c.requires.still_open refl)
