-- Frames that come to a journal one by one, and are added to it in groups.
use Rattle.std.specs.Prelude.{◌≡◌, ℕ, ◌+◌, nat_le, cond, List, [], ◌++◌, length, Option}
use Rattle.std.specs.List.{flat_map}
use Rattle.outside.specs.Changes.{Change}
use Rattle.outside.specs.Disk.{RelatesTold}
use Rattle.outside.specs.Files.{Two, File, file_of}
use Rattle.outside.specs.Frames.{HasFrames, end_of, frame_of}
use Rattle.outside.specs.Steps.{other_of}
use Rattle.frame_journal.specs.declared.group.TheConstants.{MAX_GROUP}
use Rattle.frame_journal.specs.Appends.{group_calls}
use Rattle.frame_journal.specs.Group.{IsJoined, flush_calls}
use Rattle.frame_journal.specs.Journal.{JournalValue}

-- frames with these payloads come behind those that the file has; the other file is as before
pub record AppendsPayloads (file end : ℕ) (added : List (List ℕ))
    (old new : Two File) : Type 0 where
  pub other : other_of new file ≡ other_of old file
  pub frames : (header : List ℕ) (payloads : List (List ℕ))
      → HasFrames (file_of old file).now header payloads
      → end ≡ end_of payloads → HasFrames (file_of new file).now header (payloads ++ added)

-- a writer moved on by frames with these payloads
pub record MovesWriterOn (n n' : JournalValue) (added : List (List ℕ)) : Type 0 where
  pub file_is : n'.file ≡ n.file
  pub format_is : n'.format ≡ n.format
  pub generation_is : n'.generation ≡ n.generation
  pub end_is : n'.end ≡ n.end + length (flat_map frame_of added)

-- frames with these payloads were written
pub record WritesPayloads (n n' : JournalValue) (added : List (List ℕ))
    (old new : Option (Two File)) : Type 0 where
  pub grows : MovesWriterOn n n' added
  pub adds : RelatesTold (AppendsPayloads n.file n.end added) old new

-- of frames with these payloads, in their order, the first were written, and the rest wait in a group
pub record Gathered (n n' : JournalValue) (group : List ℕ) (payloads : List (List ℕ))
    (old new : Option (Two File)) : Type 0 where
  pub written : List (List ℕ)
  pub rest : List (List ℕ)
  pub parts : written ++ rest ≡ payloads
  pub joined : IsJoined rest group
  pub writes : WritesPayloads n n' written old new

-- frames with these payloads came behind those that wait in a group
pub record GathersFrames (n n' : JournalValue) (group group' : List ℕ) (added : List (List ℕ))
    (old new : Option (Two File)) : Type 0 where
  pub each : (waiting : List (List ℕ)) → IsJoined waiting group
      → Gathered n n' group' (waiting ++ added) old new

-- how many calls of the disk it takes to make room for a frame of so many bytes
abbrev pub room_calls : List ℕ → ℕ → ℕ
room_calls group len = cond (nat_le (length group + len) (MAX_GROUP + 1)) 0 (flush_calls group)

-- and which
abbrev pub making_room : ℕ → ℕ → List ℕ → ℕ → List (Option Change)
making_room file end group len =
    cond (nat_le (length group + len) (MAX_GROUP + 1)) [] (group_calls file end group)
