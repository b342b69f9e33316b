-- What calls on lines change of what their host tells.
use Rattle.std.specs.Prelude.{◌≡◌}
use Rattle.outside.specs.Outside.{Outside, QuietCall}

-- a call after which a host tells of its disk and its links what it told before
pub record TellsAsBefore (old new : Outside) : Type 0 where
  pub call : QuietCall old new
  pub same_links : new.links ≡ old.links
