-- The first of those from here on is the first of those from the number on.
use Rattle.std.proofs.Common.{◌≡◌, drop}
use Rattle.sync_rules.specs.Sessions.{first_id, ids_where}
use Rattle.journal_audit.specs.Lines.{held_in}
use Rattle.journal_audit.specs.Looks.{is_sooner, seen_of}
use Rattle.journal_audit.proofs.due.first_sooner.Given as goal

abbrev pub invariant-loop-n : goal.invariant-loop-n
invariant-loop-n l =
    first_id (ids_where (is_sooner (seen_of l.facts) l.contact l.latency l.now) (drop l.n (held_in l.facts.messages.lines)))
    ≡ first_id (ids_where (is_sooner (seen_of l.facts) l.contact l.latency l.now) (drop l.from (held_in l.facts.messages.lines)))
