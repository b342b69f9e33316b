-- Messages that are kept are held under their own ids.
use Rattle.std.proofs.Common.{List, [], ◌∷◌, map, refl}
use Rattle.std.specs.List.{AllByRecursion}
use Rattle.journal_state.specs.declared.messages.KeptMessage.{KeptMessage}
use Rattle.journal_state.specs.Holding.{IsOwnId, held_of}

pub own_kept : (ks : List KeptMessage) → AllByRecursion IsOwnId (map held_of ks)
own_kept [] = tt
own_kept (k ∷ ks) = (refl, own_kept ks)
