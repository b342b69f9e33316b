use Rattle.std.proofs.Common.{◌≡◌, length}
use Rattle.std.specs.List.{AllByRecursion}
use Rattle.retry_table.specs.Contacts.{IsBlank}
use Rattle.retry_table.proofs.all_rows.no_contacts.Given as goal

abbrev pub invariant-loop-i : goal.invariant-loop-i
invariant-loop-i l = AllByRecursion IsBlank l.contacts.items × (length l.contacts.items ≡ l._i)
