-- The names so far are the first ids.
use Rattle.std.proofs.Common.{◌≡◌, take}
use Rattle.journal_play.proofs.play.names_of.Given as goal

abbrev pub invariant-loop-id : goal.invariant-loop-id
invariant-loop-id l = l.names.items ≡ take l.id-index l.ids
