-- What becomes of the links of a host to which they come by themselves.
use Rattle.std.specs.Prelude.{◌≡◌, ℕ, [], Ok}
use Rattle.std.specs.Option.{option_map}
use Rattle.outside.specs.Host.{DialsLink}
use Rattle.outside.specs.Links.{Links}

-- the next link is made, as by a dial that succeeds; no words asked for it
abbrev pub TakesUp : (link : ℕ) → (old new : Links) → Type 0
TakesUp link old new = DialsLink [] (Ok link) old new

-- No link is left, and no failure of one. What was told of links is told still, of none; what is read
-- off the clock and what is yet to come stay as they were.
pub record ForgetsLinks (old new : Links) : Type 0 where
  pub none_left : new.dialled ≡ 0
  pub unfailed : (link : ℕ) → new.faults link ≡ 0
  pub told : new.told ≡ option_map (λ _. []) old.told
  pub heard : new.heard ≡ option_map (λ _. []) old.heard
  pub same_readings : new.readings ≡ old.readings
  pub same_planned : new.planned ≡ old.planned
  pub same_upcoming : new.upcoming ≡ old.upcoming
