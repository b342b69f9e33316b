use Rattle.std.proofs.Common.{◌∙◌, sym, refl, inl}
use Rattle.journal_migration.proofs.Own.{own_none}
use Rattle.sync_store.specs.declared.fault.StoreFault.TheVariants as fault
use Rattle.sync_store.proofs.CompactSteps.{leads_unasked}
use Rattle.sync_store.proofs.store.Store.compact.Goals as goal

pub returns-then-generation-eq18446744073709551615-clause-compacted : goal.returns-then-generation-eq18446744073709551615-clause-compacted
returns-then-generation-eq18446744073709551615-clause-compacted g c still = record {
  answer = (inl (sym c.generation.ensures ∙ c.if-generation-eq18446744073709551615.true), refl);
  leads =
      leads_unasked c.cite_laws.ensures.stand (g.C.Clients.meaning c.args.clients.now)
      c.args.self.now fault.Full (g.D.Disk.tells c.args.disk.now) c.is_closed.ensures.numbers;
  own = own_none c.args.self.now.file (g.D.Disk.tells c.args.disk.now).files;
}
