use Rattle.std.proofs.Common.{◌≡◌, take}
use Rattle.journal_migration.specs.Copying.{brought_by, counted_to}
use Rattle.journal_migration.proofs.naming.count_brought.Given as goal

-- the messages of the entries so far
abbrev pub invariant-entries : goal.invariant-entries
invariant-entries l = l.count ≡ counted_to (brought_by (take l.entry-index l.entries))
