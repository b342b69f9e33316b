-- What two files may stand for - no store, a damaged one, or a journal - and the room that a
-- journal needs.
use Rattle.std.specs.Prelude.{ℕ, ◌+◌, ◌*◌, List}
use Rattle.sync_rules.specs.declared.entries.Entry.{Entry}
use Rattle.sync_rules.specs.Facts.{Facts}
use Rattle.sync_rules.specs.Left.{left_of}
use Rattle.entry_codec.specs.declared.naming.Format.{Format}
use Rattle.entry_codec.specs.declared.naming.Format.TheVariants as kind

-- ---- the room of a journal

-- how many bytes a step of settling is written in: its tag, and an id or a number
abbrev pub step_len : Format → ℕ
step_len kind.Whole = 33
step_len kind.Short = 5

-- the same with the five bytes of a frame of its own
abbrev pub step_bytes : Format → ℕ
step_bytes format = step_len format + 5

-- the room for all that settling may yet add to a journal of these facts, each step in a frame of
-- its own
abbrev pub room_of : Format → Facts → ℕ
room_of format f = step_bytes format * left_of f

-- ---- what files may stand for

pub data Standing : Type 0 where
  -- no header is open
  no_store : Standing
  -- this file is damaged at this place
  damaged : ℕ → ℕ → Standing
  -- a journal
  journal : List (List Entry) → Standing
