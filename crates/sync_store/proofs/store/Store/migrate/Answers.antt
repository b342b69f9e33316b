use Rattle.std.proofs.Common.{◌≡◌, ◌∙◌, sym, ap, refl, inl}
use Rattle.entry_codec.specs.declared.naming.Format.TheVariants as kind
use Rattle.journal_migration.proofs.Own.{own_none}
use Rattle.sync_store.specs.Store.{format_meant, written_in}
use Rattle.sync_store.proofs.MigrateSteps.{leads_still}
use Rattle.sync_store.proofs.store.Store.migrate.Goals as goal

pub returns-then-generation-eq18446744073709551615-clause-migrated : goal.returns-then-generation-eq18446744073709551615-clause-migrated
returns-then-generation-eq18446744073709551615-clause-migrated g c still =
    let s = c.args.self.now in
    let whole : written_in s ≡ kind.Whole = ap format_meant (sym c.format.ensures)
    ∙ sym c.format_meant.ensures ∙ c.in-Whole.is in
    record {
      answer = (
        record {
          whole = whole;
          last = sym c.generation.ensures ∙ c.if-generation-eq18446744073709551615.true;
        },
        refl,
      );
      leads = leads_still c.cite_laws.ensures.stand (g.C.Clients.meaning c.args.clients.now) s
          (g.D.Disk.tells c.args.disk.now) c.is_closed.ensures.numbers;
      own = own_none s.file (g.D.Disk.tells c.args.disk.now).files;
    }

pub returns-in-Short-clause-migrated : goal.returns-in-Short-clause-migrated
returns-in-Short-clause-migrated g c still =
    let s = c.args.self.now in
    let short : written_in s ≡ kind.Short = ap format_meant (sym c.format.ensures)
    ∙ sym c.format_meant.ensures ∙ c.in-Short.is in
    record {
      answer = inl (short, refl);
      leads = leads_still c.cite_laws.ensures.stand (g.C.Clients.meaning c.args.clients.now) s
          (g.D.Disk.tells c.args.disk.now) c.is_closed.ensures.numbers;
      own = own_none s.file (g.D.Disk.tells c.args.disk.now).files;
    }
