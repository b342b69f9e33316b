-- Entries are taken, and some are left.
use Rattle.std.proofs.Common.{◌≡◌, length}
use Rattle.std.specs.Vec.Iter.{into_iter_items, into_iter_len}
use Rattle.journal_audit.proofs.Plays.{PlaysOn}
use Rattle.journal_audit.proofs.playing.play.Given as goal

abbrev pub invariant-loop-entry : goal.invariant-loop-entry
invariant-loop-entry g l =
    PlaysOn (g.C.Clients.meaning l.clients) l.rows l.initial.facts l.facts l.fn.entries.items (into_iter_items l.entry-iterator)
    × (into_iter_len l.entry-iterator ≡ length (into_iter_items l.entry-iterator))
