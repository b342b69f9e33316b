-- A disk in memory as the list of all calls that changed it, from the two files at its begin on.
use Rattle.std.specs.Prelude.{◌≡◌, ◌⊎◌, ℕ, ◌-◌, ◌≤◌, min, Bool, true, false, ◌||◌, nat_le, List, [], ◌∷◌, ◌++◌, length, take, replicate, map, Vec, Option, None, Some, Result, MatchResult}
use Rattle.std.specs.Option.{option_to_list}
use Rattle.std.specs.declared.alloc.Global.{Global}
use Rattle.outside.specs.declared.due.Due.{Due}
use Rattle.outside.specs.declared.due.Due.TheVariants as due
use Rattle.outside.specs.declared.call.Call.{Call}
use Rattle.outside.specs.declared.call.Call.TheVariants as code
use Rattle.outside.specs.declared.reply.Reply.{Reply as KeptReply}
use Rattle.outside.specs.declared.reply.Reply.TheVariants as kept_as
use Rattle.outside.specs.Faults.{one_more, is_listed}
use Rattle.outside.specs.Files.{Two, File, file_of, with_file, settled}
use Rattle.outside.specs.Disk.{after_write, after_cut, overwritten}
use Rattle.outside.specs.Links.{ToldLink, Reply, got, idle, ended, Answered, changed_at, with_sent}
use Rattle.outside.specs.Calls.{Calls}
pub use Rattle.outside.specs.Changes.{Change, wrote, wrote_not, cut, cut_not, synced, dialled, sent, answered, hosted}

abbrev pub reply_of : KeptReply → Reply
reply_of (kept_as.Got bytes) = got bytes.items
reply_of kept_as.Idle = idle
reply_of kept_as.Ended = ended

abbrev pub change_of : Call → Change
change_of (code.Wrote file at bytes) = wrote file at bytes.items
change_of (code.WroteNot file at bytes) = wrote_not file at bytes.items
change_of (code.Cut file len) = cut file len
change_of (code.CutNot file len) = cut_not file len
change_of (code.Synced file) = synced file
change_of (code.Dialled spec) = dialled spec.items
change_of (code.Sent link bytes) = sent link bytes.items
change_of (code.Answered link failures room reply) = answered link (record { failures = failures; room = room; reply = reply_of reply })
change_of code.Hosted = hosted

abbrev pub two_of : {A : Type 0} → A → A → Two A
two_of a b = record { first = a; second = b }

-- a file of a disk in memory, with what it would be had all its writes and cuts since the last sync been made, the failed ones too
pub record KeptFile : Type 0 where
  pub file : File
  pub whole : List ℕ

abbrev pub kept : List ℕ → KeptFile
kept bytes = record { file = settled bytes; whole = bytes }

-- bytes over the bytes from a place on, with zeros up to that place where the list ends before it
abbrev pub padded : List ℕ → ℕ → List ℕ
padded old at = old ++ replicate (at - length old) 0

abbrev pub put : List ℕ → ℕ → List ℕ → List ℕ
put old at bytes = overwritten (padded old at) at bytes

-- No write begins past the end.
abbrev pub after_wrote : KeptFile → ℕ → List ℕ → KeptFile
after_wrote k at bytes =
    let a = min at (length k.file.now) in
    record { file = after_write k.file a (length bytes) (overwritten k.file.now a bytes); whole = put k.whole a bytes }

abbrev pub after_wrote_not : KeptFile → ℕ → List ℕ → KeptFile
after_wrote_not k at bytes =
    let a = min at (length k.file.now) in
    record { file = after_write k.file a (length bytes) k.file.now; whole = put k.whole a bytes }

abbrev pub changed : Two KeptFile → Change → Two KeptFile
changed two (wrote file at bytes) = with_file two file (after_wrote (file_of two file) at bytes)
changed two (wrote_not file at bytes) = with_file two file (after_wrote_not (file_of two file) at bytes)
changed two (cut file n) =
    let k = file_of two file in
    with_file two file (record { file = after_cut k.file n (take n k.file.now); whole = take n k.whole })
changed two (cut_not file n) =
    let k = file_of two file in
    with_file two file (record { file = after_cut k.file n k.file.now; whole = take n k.whole })
changed two (synced file) = with_file two file (kept (file_of two file).file.now)
changed two (dialled _) = two
changed two (sent _ _) = two
changed two (answered _ _) = two
changed two hosted = two

-- both files after these calls
abbrev pub kept_after : Two KeptFile → List Change → Two KeptFile
kept_after two [] = two
kept_after two (c ∷ calls) = kept_after (changed two c) calls

abbrev pub both_kept : Two (List ℕ) → Two KeptFile
both_kept start = record { first = kept start.first; second = kept start.second }

abbrev pub files_of : Two KeptFile → Two File
files_of two = record { first = two.first.file; second = two.second.file }

-- as a read gives them
abbrev pub bytes_of : Two KeptFile → Two (List ℕ)
bytes_of two = record { first = two.first.file.now; second = two.second.file.now }

-- the links after these calls; a host begins with none
abbrev pub link_changed : List ToldLink → Change → List ToldLink
link_changed links (wrote _ _ _) = links
link_changed links (wrote_not _ _ _) = links
link_changed links (cut _ _) = links
link_changed links (cut_not _ _) = links
link_changed links (synced _) = links
link_changed links (dialled spec) = links ++ record { spec = spec; sent = [] } ∷ []
link_changed links (sent link bytes) = with_sent link bytes links
link_changed links (answered _ _) = links
link_changed links hosted = []

abbrev pub links_after : List ToldLink → List Change → List ToldLink
links_after links [] = links
links_after links (c ∷ calls) = links_after (link_changed links c) calls

-- what each link has answered after these calls
abbrev pub answers_changed : List (List Answered) → Change → List (List Answered)
answers_changed heard (wrote _ _ _) = heard
answers_changed heard (wrote_not _ _ _) = heard
answers_changed heard (cut _ _) = heard
answers_changed heard (cut_not _ _) = heard
answers_changed heard (synced _) = heard
answers_changed heard (dialled _) = heard ++ [] ∷ []
answers_changed heard (sent _ _) = heard
answers_changed heard (answered link answer) = changed_at link (λ answers. answers ++ answer ∷ []) heard
answers_changed heard hosted = []

abbrev pub answers_after : List (List Answered) → List Change → List (List Answered)
answers_after heard [] = heard
answers_after heard (c ∷ calls) = answers_after (answers_changed heard c) calls

-- A disk in memory: its files at the begin, what changed them since, how many calls of a disk were made, which are to
-- fail, from which on all fail and leave no trace, how many failed, and how many of these for want of memory.
pub record MemDiskValue : Type 0 where
  pub start : Two (List ℕ)
  pub calls : List Change
  pub made : ℕ
  pub failing : List ℕ
  pub stop : Option ℕ
  pub faults : ℕ
  pub starved : ℕ

-- what a disk in memory tells of its calls
abbrev pub calls_of : MemDiskValue → Calls
calls_of disk = record { start = disk.start; changes = disk.calls; failing = disk.failing; stop = disk.stop; made = disk.made }

-- a disk with a call more
abbrev pub with_call : Change → MemDiskValue → MemDiskValue
with_call call disk = record disk { calls = disk.calls ++ call ∷ [] }

-- the bytes of several vectors
abbrev pub bytes_each : List (Vec ℕ Global) → List (List ℕ)
bytes_each vectors = map (λ v. v.items) vectors

-- both files now
abbrev pub disk_files : MemDiskValue → Two KeptFile
disk_files disk = kept_after (both_kept disk.start) disk.calls

-- the call of this number is at or behind the one from which on all fail
abbrev pub is_stopped : Option ℕ → ℕ → Bool
is_stopped None call = false
is_stopped (Some stop) call = nat_le stop call

-- the next call of the disk is to fail
abbrev pub fails_next : MemDiskValue → Bool
fails_next disk = is_stopped disk.stop disk.made || is_listed disk.failing disk.made

-- what is due at the next call
abbrev pub IsCallDue : MemDiskValue → Due → Type 0
IsCallDue disk due.Fine = fails_next disk ≡ false
IsCallDue disk due.Failure = (is_stopped disk.stop disk.made ≡ false) × (is_listed disk.failing disk.made ≡ true) × (fails_next disk ≡ true)
IsCallDue disk due.Stop = (is_stopped disk.stop disk.made ≡ true) × (fails_next disk ≡ true)

-- what stays at every call of a disk, and that it counts
pub record CountsCall (old new : MemDiskValue) : Type 0 where
  pub start : new.start ≡ old.start
  pub failing : new.failing ≡ old.failing
  pub stop : new.stop ≡ old.stop
  pub made : new.made ≡ one_more old.made
  pub later : old.made ≤ new.made

-- a call that is not to fail and was made, with this change
pub record WasMade (fine : Option Change) (old new : MemDiskValue) : Type 0 where
  pub not_due : fails_next old ≡ false
  pub calls : new.calls ≡ old.calls ++ option_to_list fine
  pub starved : new.starved ≡ old.starved
  pub faults : new.faults ≡ old.faults

-- a call that failed as the list says, and stands among the changes as it does then
pub record FailedAsListed (failed : Option Change) (old new : MemDiskValue) : Type 0 where
  pub going : is_stopped old.stop old.made ≡ false
  pub listed : is_listed old.failing old.made ≡ true
  pub calls : new.calls ≡ old.calls ++ option_to_list failed
  pub starved : new.starved ≡ old.starved

-- a call behind the stop
pub record HasStopped (old new : MemDiskValue) : Type 0 where
  pub stopped : is_stopped old.stop old.made ≡ true
  pub starved : new.starved ≡ old.starved

-- a call that found no memory
pub record FoundNoMemory (old new : MemDiskValue) : Type 0 where
  pub going : is_stopped old.stop old.made ≡ false
  pub starved : new.starved ≡ one_more old.starved

-- a call that stands not among the changes
pub record LeftNoTrace (old new : MemDiskValue) : Type 0 where
  pub calls : new.calls ≡ old.calls
  pub cause : HasStopped old new ⊎ FoundNoMemory old new

pub record HasFailed (failed : Option Change) (old new : MemDiskValue) : Type 0 where
  pub faults : new.faults ≡ one_more old.faults
  pub later : old.faults ≤ new.faults
  pub outcome : FailedAsListed failed old new ⊎ LeftNoTrace old new

-- a call that makes the one change at Ok and the other at a failure
pub record MakesChange {T E : Type 0} (fine failed : Option Change) (result : Result T E) (old new : MemDiskValue) : Type 0 where
  pub counts : CountsCall old new
  pub outcome : MatchResult result (λ _. WasMade fine old new) (λ _. HasFailed failed old new)

-- a disk of which no call was made
abbrev pub fresh_disk : Two (List ℕ) → MemDiskValue
fresh_disk start =
    record {
      start = start;
      calls = [];
      made = 0;
      failing = [];
      stop = None;
      faults = 0;
      starved = 0;
    }
