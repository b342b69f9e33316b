-- What adding several frames at once leaves of a file.
use Rattle.std.specs.Prelude.{◌≡◌, ◌⊎◌, ◌==◌, ℕ, ◌+◌, ◌-◌, max, cond, List, [], ◌∷◌, ◌++◌, length, All}
use Rattle.std.specs.List.{flat_map}
use Rattle.outside.specs.Files.{Two, File, file_of}
use Rattle.outside.specs.Frames.{IsPayload, HasFrames, IsAtRest, end_of, frame_of}
use Rattle.outside.specs.Steps.{other_of}
use Rattle.frame_journal.specs.Journal.{JournalValue}

-- frames with these payloads, each with its gate open, and a closed gate behind them
pub record IsJoined (payloads : List (List ℕ)) (bytes : List ℕ) : Type 0 where
  pub fits : All IsPayload payloads
  pub spelled : bytes ≡ flat_map frame_of payloads ++ 0 ∷ []

-- frames with some payloads, so
pub record IsGroup (bytes : List ℕ) : Type 0 where
  pub payloads : List (List ℕ)
  pub joined : IsJoined payloads bytes

-- the length of the frames of a group, without the closed gate
abbrev pub group_len : List ℕ → ℕ
group_len bytes = length bytes - 1

-- The file has the frames of a group behind its frames, and nothing is pending in it; the other file is as before.
pub record AppendsFrames (file end : ℕ) (group : List ℕ) (old new : Two File) : Type 0 where
  pub other : other_of new file ≡ other_of old file
  pub frames : (added : List (List ℕ)) (header : List ℕ) (payloads : List (List ℕ))
      → IsJoined added group → HasFrames (file_of old file).now header payloads
      → end ≡ end_of payloads
      → HasFrames (file_of new file).now header (payloads ++ added)
  pub at_rest : IsAtRest new file (end + group_len group)

-- The frames are those that the bytes had, or those with all of a group.
abbrev pub BeforeOrWithAll : List ℕ → ℕ → List ℕ → List ℕ → Type 0
BeforeOrWithAll bytes end group left =
    (added : List (List ℕ)) (header : List ℕ) (payloads : List (List ℕ))
    → IsJoined added group → HasFrames bytes header payloads → end ≡ end_of payloads
    → HasFrames left header payloads ⊎ HasFrames left header (payloads ++ added)

-- a journal that was added so many bytes of frames
abbrev pub moved_on : JournalValue → ℕ → JournalValue
moved_on journal n = record journal {
  end = journal.end + n;
  len = max journal.len (journal.end + n);
}

-- a journal that was added a group: it is as before where no frame waits
abbrev pub flushed : JournalValue → List ℕ → JournalValue
flushed journal group = cond (length group == 1) journal (moved_on journal (group_len group))

-- how many calls of the disk a flush makes: none where no frame waits
abbrev pub flush_calls : List ℕ → ℕ
flush_calls group = cond (length group == 1) 0 4
