use Rattle.std.proofs.Common.{take}
use Rattle.std.specs.List.{AllByRecursion}
use Rattle.entry_codec.specs.Naming.{IsNamed}
use Rattle.entry_codec.specs.Spelling.{EntryNames}
use Rattle.entry_codec.specs.declared.naming.Format.TheVariants as kind
use Rattle.journal_migration.proofs.naming.are_named.Given as goal

-- the entries so far name what has a name
abbrev pub invariant-entries : goal.invariant-entries
invariant-entries g l =
    AllByRecursion (EntryNames (IsNamed kind.Short (g.N.Names.named l.names)))
    (take l.entry-index l.entries)
