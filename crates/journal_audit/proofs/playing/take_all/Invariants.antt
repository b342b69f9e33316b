-- Entries are taken, and some are left.
use Rattle.std.proofs.Common.{◌≡◌, length}
use Rattle.std.specs.Vec.Iter.{into_iter_items, into_iter_len}
use Rattle.journal_audit.proofs.Plays.{TakesOn}
use Rattle.journal_audit.proofs.playing.take_all.Given as goal

abbrev pub invariant-loop-entry : goal.invariant-loop-entry
invariant-loop-entry g l =
    TakesOn (g.C.Clients.meaning l.clients) l.initial.facts l.facts l.known l.fn.entries.items (into_iter_items l.entry-iterator)
    × (into_iter_len l.entry-iterator ≡ length (into_iter_items l.entry-iterator))
