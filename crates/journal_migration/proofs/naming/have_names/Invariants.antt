use Rattle.std.proofs.Common.{take}
use Rattle.std.specs.List.{AllByRecursion}
use Rattle.entry_codec.specs.Naming.{IsNamed}
use Rattle.entry_codec.specs.declared.naming.Format.TheVariants as kind
use Rattle.journal_migration.proofs.naming.have_names.Given as goal

-- the ids so far have names
abbrev pub invariant-ids : goal.invariant-ids
invariant-ids g l =
    AllByRecursion (IsNamed kind.Short (g.N.Names.named l.names)) (take l.id-index l.ids)
