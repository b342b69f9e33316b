-- Which calls of the disk appends take: what each writes, in their order.
use Rattle.std.specs.Prelude.{◌≡◌, ◌==◌, ℕ, ◌+◌, ◌-◌, cond, List, [], ◌∷◌, ◌++◌, length, drop, Option, Some}
use Rattle.std.specs.List.{AllByRecursion}
use Rattle.outside.specs.Changes.{Change, wrote, synced}
use Rattle.outside.specs.Made.{BreaksIn, DoesAll}
use Rattle.outside.specs.Outside.{Outside}
use Rattle.frame_journal.specs.Group.{IsGroup}

-- bytes are written from a place on, and the file is synced
abbrev pub write_calls : ℕ → ℕ → List ℕ → List (Option Change)
write_calls file at bytes = Some (wrote file at bytes) ∷ Some (synced file) ∷ []

-- bytes are written behind a gate, which stands before `end`, and then the gate is opened
abbrev pub append_calls : ℕ → ℕ → List ℕ → List (Option Change)
append_calls file end bytes = write_calls file end bytes ++ write_calls file (end - 1) (1 ∷ [])

-- the frames of a group are written so, where one waits
abbrev pub group_calls : ℕ → ℕ → List ℕ → List (Option Change)
group_calls file end group = cond (length group == 1) [] (append_calls file end (drop 1 group))

-- ---- several appends, each behind the one before

abbrev pub appends : ℕ → ℕ → List (List ℕ) → List (Option Change)
appends file end [] = []
appends file end (bytes ∷ more) = append_calls file end bytes ++ appends file (end + length bytes) more

-- the end behind them
abbrev pub end_behind : ℕ → List (List ℕ) → ℕ
end_behind end [] = end
end_behind end (bytes ∷ more) = end_behind (end + length bytes) more

-- bytes that give frames, at least one, behind an opened gate, and a closed gate behind them
pub record AreFrames (bytes : List ℕ) : Type 0 where
  pub group : IsGroup (1 ∷ bytes)

-- Frames were appended to a file from one end on to another: just the calls of these appends were made of the disk.
pub record Appends (file end end' : ℕ) (old new : Outside) : Type 0 where
  pub added : List (List ℕ)
  pub frames : AllByRecursion AreFrames added
  pub ends : end' ≡ end_behind end added
  pub does : DoesAll (appends file end added) old new

-- That was broken off in a call, which failed.
pub record BreaksAppends (file end : ℕ) (old new : Outside) : Type 0 where
  pub added : List (List ℕ)
  pub frames : AllByRecursion AreFrames added
  pub breaks : BreaksIn (appends file end added) old new
