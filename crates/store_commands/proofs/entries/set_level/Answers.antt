use Rattle.std.proofs.Common.{refl}
use Rattle.store_commands.specs.declared.commit.Settling.TheVariants as settling
use Rattle.store_commands.specs.Plans.{level_plan}
use Rattle.store_commands.proofs.EntryLemmas.{added_none}
use Rattle.store_commands.proofs.Passing.{added_on}
use Rattle.store_commands.proofs.entries.set_level.Goals as goal

pub returns-in_err-store : goal.returns-in_err-store
returns-in_err-store g c =
    let clients = g.C.Clients.meaning c.args.clients.now in
    added_on c.from_residual.result c.in_err-store.field-0.0 c.from_residual.ensures.1 clients
    (λ f. level_plan f c.args.contact c.args.group.now c.args.level) settling.Before _ _ _ _
    (added_none clients (λ f. level_plan f c.args.contact c.args.group.now c.args.level) settling.Before _ _ _ _ c.in_err-store.field-0.0
    c.in_err-store.ensures.run c.in_err-store.ensures.rests
    c.in_err-store.ensures.by c.in_err-store.ensures.loaded (record {
      same = refl;
      same_faults = refl;
    }))

pub returns : goal.returns
returns g c = c.set_level_loaded.ensures.added c.args.disk.now (record {
  run = c.in_ok-store.ensures.run;
  rests = c.in_ok-store.ensures.rests;
  facts = c.in_ok-store.ensures.loaded;
  synced = c.in_ok-store.ensures.settled;
  opened = c.in_ok-store.ensures.opened;
})
