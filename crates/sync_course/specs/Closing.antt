-- How a run closes.
use Rattle.std.specs.Prelude.{ℕ, Bool, List, map}
use Rattle.sync_course.specs.declared.ends.LinkEnd.{LinkEnd}
use Rattle.sync_course.specs.Links.{Link}
use Rattle.sync_course.specs.Turns.{Place, is_over}

-- whether it was over, and how each link stands then, in order
pub record Closing : Type 0 where
  pub over : Bool
  pub ends : List LinkEnd

-- that of a run whose last place is this
abbrev pub closing : ℕ → Place → Closing
closing quiet p = record { over = is_over quiet p; ends = map (λ (link : Link). link.stands) p.links }
