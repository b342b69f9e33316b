-- The first of what is left is the first of all.
use Rattle.std.proofs.Common.{◌≡◌}
use Rattle.sync_rules.specs.Sessions.{first_id}
use Rattle.journal_audit.specs.Lines.{held_in}
use Rattle.journal_audit.specs.Looks.{ids_at, is_sent, seen_of}
use Rattle.journal_audit.proofs.due.first_sent.Given as goal

abbrev pub invariant-loop-n : goal.invariant-loop-n
invariant-loop-n l =
    first_id (ids_at (is_sent (seen_of l.facts) l.contact l.mode l.now) (held_in l.facts.messages.lines) l.n-iterator)
    ≡ first_id (ids_at (is_sent (seen_of l.facts) l.contact l.mode l.now) (held_in l.facts.messages.lines) l.numbers.keys)
