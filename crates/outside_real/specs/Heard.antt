-- What a link may answer, by the room of the buffer that was handed in.
use Rattle.std.specs.Prelude.{ℕ, ◌<◌, ◌≤◌}
use Rattle.outside.specs.declared.host.Heard.{Heard}
use Rattle.outside.specs.declared.host.Heard.TheVariants as heard

-- bytes are some, and fit
abbrev pub FitsBuffer : ℕ → Heard → Type 0
FitsBuffer room (heard.Got n) = (0 < n) × (n ≤ room)
FitsBuffer room heard.Idle = Unit {0}
FitsBuffer room heard.End = Unit {0}
FitsBuffer room heard.Failed = Unit {0}
