-- The calls that changed something of a disk or of the host over it.
use Rattle.std.specs.Prelude.{ℕ, List, [], ◌∷◌}
use Rattle.std.specs.List.{flat_map}
use Rattle.outside.specs.Links.{Answered}

-- a call that changed something: a write or a cut of a file, one that failed, a sync, a dial, bytes sent on a link, an
-- answer of a link; or a host was made over the disk
pub data Change : Type 0 where
  wrote : ℕ → ℕ → List ℕ → Change
  wrote_not : ℕ → ℕ → List ℕ → Change
  cut : ℕ → ℕ → Change
  cut_not : ℕ → ℕ → Change
  synced : ℕ → Change
  dialled : List ℕ → Change
  sent : ℕ → List ℕ → Change
  answered : ℕ → Answered → Change
  hosted : Change

-- the changes of a disk among these, without those of the host over it
abbrev pub on_disk : Change → List Change
on_disk (wrote file at bytes) = wrote file at bytes ∷ []
on_disk (wrote_not file at bytes) = wrote_not file at bytes ∷ []
on_disk (cut file len) = cut file len ∷ []
on_disk (cut_not file len) = cut_not file len ∷ []
on_disk (synced file) = synced file ∷ []
on_disk _ = []

abbrev pub of_disk : List Change → List Change
of_disk changes = flat_map on_disk changes
