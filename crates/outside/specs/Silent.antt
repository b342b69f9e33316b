-- What an object tells that knows nothing but its counts.
use Rattle.std.specs.Prelude.{◌≡◌, ℕ, List, None, Some, slice_index}
use Rattle.outside.specs.Links.{Links}
use Rattle.outside.specs.Outside.{Outside}

-- what is not told has no value
pub not_told : {A P : Type 0} (a : A) → None ≡ Some a → P
not_told a told = cc

-- links of which nothing but the counts is told
abbrev pub silent_links : ℕ → List ℕ → Links
silent_links dialled faults = record { dialled = dialled; faults = λ i. slice_index faults i; told = None; heard = None; readings = None; planned = None; upcoming = None }

-- an object that tells its failed disk calls, the number of its links, and the failures of each
abbrev pub silent : ℕ → ℕ → List ℕ → Outside
silent disk_faults dialled faults = record {
  files = None;
  links = silent_links dialled faults;
  clock = 0;
  moments = λ _ _. Unit {0};
  disk_faults = disk_faults;
  calls = None;
  now_is = λ two _ told _. not_told two told;
  is_now = λ two _ told _. not_told two told;
  reads = λ two told. not_told two told;
  since = λ _ _ _ now. now;
  all_told = λ links told. not_told links told;
  all_heard = λ heard told. not_told heard told;
}
