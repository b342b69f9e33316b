-- The words and parts of which the lines are made.
use Rattle.std.specs.Prelude.{◌≡◌, ℕ, ◌+◌, ◌≤◌, List, ◌++◌, codes}
use Rattle.std.specs.Fmt.{decimal}
use Rattle.arrayvec.specs.ArrayString.{ArrayString, array_string_len}
use Rattle.sync_rules.specs.declared.entries.Level.{Level}
use Rattle.sync_rules.specs.declared.entries.Level.TheVariants as level
use Rattle.sync_rules.specs.declared.states.Fate.{Fate}
use Rattle.sync_rules.specs.declared.states.Fate.TheVariants as fate
use Rattle.sync_rules.specs.declared.states.Origin.{Origin}
use Rattle.sync_rules.specs.declared.states.Origin.TheVariants as origin

abbrev pub level_text : Level → List ℕ
level_text level.Invisible = codes "invisible"
level_text level.Visible = codes "visible"
level_text level.Shared = codes "shared"

abbrev pub state_text : Fate → List ℕ
state_text fate.Unknown = codes "unknown"
state_text fate.Pending = codes "pending"
state_text fate.Invalid = codes "invalid"
state_text fate.Delivered = codes "delivered"

-- this device itself, or the number of a contact
abbrev pub origin_text : Origin → List ℕ
origin_text origin.Author = codes "self"
origin_text (origin.From contact) = decimal contact

-- ---- texts that take no memory

-- so many bytes at most were added to a text
pub record AddsPart (old new : ArrayString) (part : List ℕ) (most : ℕ) : Type 0 where
  pub bytes : new.bytes ≡ old.bytes ++ part
  pub short : array_string_len new ≤ array_string_len old + most

-- a line was added
abbrev pub AddsLine : (old new : ArrayString) → List ℕ → Type 0
AddsLine old new line = AddsPart old new line 120
