-- What was found and what is left are what there is from the number on.
use Rattle.std.proofs.Common.{◌≡◌, ◌++◌, drop, take}
use Rattle.sync_ids.specs.declared.lists.TheConstants.{MAX_IDS}
use Rattle.sync_rules.specs.Sessions.{ids_where}
use Rattle.journal_audit.specs.Lines.{held_in}
use Rattle.journal_audit.specs.Looks.{is_sooner, seen_of}
use Rattle.journal_audit.proofs.due.sooner_ids.Given as goal

abbrev pub invariant-loop-n : goal.invariant-loop-n
invariant-loop-n l =
    take MAX_IDS (l.ids.items ++ ids_where (is_sooner (seen_of l.facts) l.contact l.latency l.now) (drop l.n (held_in l.facts.messages.lines)))
    ≡ take MAX_IDS (ids_where (is_sooner (seen_of l.facts) l.contact l.latency l.now) (drop l.from (held_in l.facts.messages.lines)))
