-- The first of those from here on is the first of all.
use Rattle.std.proofs.Common.{◌≡◌, drop}
use Rattle.sync_rules.specs.Sessions.{first_id, ids_where}
use Rattle.journal_audit.specs.Lines.{held_in}
use Rattle.journal_audit.specs.Looks.{is_sent, seen_of}
use Rattle.journal_audit.proofs.due.first_sent_of_all.Given as goal

abbrev pub invariant-loop-n : goal.invariant-loop-n
invariant-loop-n l =
    first_id (ids_where (is_sent (seen_of l.facts) l.contact l.mode l.now) (drop l.n (held_in l.facts.messages.lines)))
    ≡ first_id (ids_where (is_sent (seen_of l.facts) l.contact l.mode l.now) (held_in l.facts.messages.lines))
