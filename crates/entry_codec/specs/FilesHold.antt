-- What two files stand for, said without a reader. It is said of files of bytes, as all files are:
-- a clause ranges over all
-- lists of numbers.
use Rattle.std.specs.Prelude.{◌≡◌, ◌⊎◌, ℕ, ◌+◌, ◌<◌, ◌≤◌, List, [], ◌∷◌, ◌++◌, take, slice_index}
use Rattle.std.specs.Prelude.{Some, None}
use Rattle.std.specs.List.{AllByRecursion}
use Rattle.sync_rules.specs.declared.entries.Entry.{Entry}
use Rattle.sync_rules.specs.Clients.{Meaning}
use Rattle.sync_rules.specs.Facts.{facts, nothing}
use Rattle.sync_rules.specs.Legal.{Allowed, Legal}
use Rattle.outside.specs.declared.limits.TheConstants.{MAX_JOURNAL}
use Rattle.outside.specs.Files.{Two, file_of}
use Rattle.outside.specs.Frames.{HasFrames, closed, format_in, frame_at, framed, journal_file}
use Rattle.entry_codec.specs.declared.naming.Format.{Format}
use Rattle.entry_codec.specs.Naming.{format_of}
use Rattle.entry_codec.specs.Payloads.{journal_end, payload, payloads}
use Rattle.entry_codec.specs.Spelling.{IsEntry, IsOfFormat}
use Rattle.entry_codec.specs.Standing.{Standing, damaged, journal, no_store, room_of}
use Rattle.entry_codec.specs.StandingLaws.{HoldsJournal, IsWritable}

-- a batch that may follow these is in the frame at this place, as the format writes it
pub record IsNextBatch (clients : Meaning) (format : Format) (bytes : List ℕ) (place : ℕ)
    (done : List (List Entry))
    (batch : List Entry) : Type 0 where
  pub allowed : Allowed clients (facts done) batch
  pub writable : IsWritable format (facts done) batch
  pub frame : frame_at bytes place ≡ framed (payload format (facts done) batch)

-- A file of this format breaks off at this place: cut there, it has the frames of a legal journal.
-- No batch that may follow
-- that is in a frame there; and where its gate is closed there, room is wanting for what settling
-- may add.
pub record BreaksOff (clients : Meaning) (bytes : List ℕ) (format : Format) (place : ℕ) : Type 0
  where
    pub done : List (List Entry)
    pub legal : Legal clients done
    pub kinds : AllByRecursion (AllByRecursion (IsOfFormat format)) done
    pub within : AllByRecursion (AllByRecursion IsEntry) done
    pub header : List ℕ
    pub frames : HasFrames (take place bytes ++ 0 ∷ []) header (payloads format nothing done)
    pub place_is : place + 1 ≡ journal_end format done
    pub bounded : place + 1 ≤ MAX_JOURNAL
    pub no_batch : (batch : List Entry) → IsNextBatch clients format bytes place done batch → ⊥
    pub no_end : frame_at bytes place ≡ closed → MAX_JOURNAL < place + 1 + room_of format (facts done)

-- The file is of none of our formats, which its sixth byte would say, or it breaks off at this
-- place.
abbrev pub IsDamagedAt : Meaning → List ℕ → ℕ → Type 0
IsDamagedAt clients bytes place =
    ((format_of (format_in bytes) ≡ None) × (place ≡ 5))
    ⊎ ((format : Format) × (format_of (format_in bytes) ≡ Some format)
    × BreaksOff clients bytes format place)

-- what two files stand for: where no header is open no store; a damaged one; or the journal that
-- they hold
abbrev pub HasStanding : Meaning → Two (List ℕ) → Standing → Type 0
HasStanding clients files no_store = journal_file files ≡ None
HasStanding clients files (damaged file place) =
    (journal_file files ≡ Some file) × IsDamagedAt clients (file_of files file) place
HasStanding clients files (journal j) = (file : ℕ) × (format : Format)
    × HoldsJournal clients files file format j

-- each number of these files is a byte
abbrev pub AreBytes : Two (List ℕ) → Type 0
AreBytes files = (file place : ℕ) → slice_index (file_of files file) place < 256

-- what two files stand for, with the word that they do
pub record StandingOf (clients : Meaning) (files : Two (List ℕ)) : Type 0 where
  pub of : Standing
  pub holds : AreBytes files → HasStanding clients files of
