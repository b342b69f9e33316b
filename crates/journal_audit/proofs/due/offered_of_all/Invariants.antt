-- What was found and what is left are what there is.
use Rattle.std.proofs.Common.{◌≡◌, ◌++◌, drop, take}
use Rattle.sync_ids.specs.declared.lists.TheConstants.{MAX_IDS}
use Rattle.sync_rules.specs.Sessions.{ids_where}
use Rattle.journal_audit.specs.Lines.{held_in}
use Rattle.journal_audit.specs.Looks.{is_offered, seen_of}
use Rattle.journal_audit.proofs.due.offered_of_all.Given as goal

abbrev pub invariant-loop-n : goal.invariant-loop-n
invariant-loop-n l =
    take MAX_IDS (l.ids.items ++ ids_where (is_offered (seen_of l.facts) l.contact l.now) (drop l.n (held_in l.facts.messages.lines)))
    ≡ take MAX_IDS (ids_where (is_offered (seen_of l.facts) l.contact l.now) (held_in l.facts.messages.lines))
