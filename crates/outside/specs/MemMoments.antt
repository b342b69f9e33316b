-- The files and the moments of a disk in memory, by the list of its calls.
use Rattle.std.specs.Prelude.{◌≡◌, ℕ, ◌≤◌, List, length, take}
use Rattle.outside.specs.Files.{Two, File, IsImage}
use Rattle.outside.specs.Outside.{Moment}
use Rattle.outside.specs.MemDisk.{Change, kept_after, both_kept, files_of}

-- both files after so many calls
abbrev pub files_at : Two (List ℕ) → List Change → Two File
files_at start calls = files_of (kept_after (both_kept start) calls)

-- A moment that was possible after so many of the calls, from t on; what was sent is read off the
-- calls too.
pub record WasAt (sent_by : List Change → List (List ℕ)) (start : Two (List ℕ))
    (calls : List Change) (t : ℕ) (m : Moment) : Type 0 where
  pub made : ℕ
  pub since : t ≤ made
  pub until : made ≤ length calls
  pub image : IsImage (files_at start (take made calls)) m.files
  pub sent : m.sent ≡ sent_by (take made calls)
