-- A store that is begun: what its files stand for at each moment, and at the end.
use Rattle.std.specs.Prelude.{◌≡◌, ◌⊎◌, ℕ, Bool, true, false, ◌||◌, List, [], Result, Ok, Err}
use Rattle.outside.specs.Files.{Two, File, IsImage, settled, NothingPending}
use Rattle.outside.specs.Frames.{is_open}
use Rattle.outside.specs.Links.{Links, sent_of}
use Rattle.outside.specs.Outside.{Moment, IsNow}
use Rattle.frame_journal.specs.Create.{begun_bytes}
use Rattle.sync_rules.specs.Clients.{Meaning}
use Rattle.entry_codec.specs.Standing.{journal, no_store}
use Rattle.file_standing.specs.Standing.{stands}
use Rattle.sync_store.specs.declared.fault.InitFault.{InitFault}
use Rattle.sync_store.specs.declared.fault.InitFault.TheVariants as init

-- whatever the clients mean, the files stand for no store or for the empty journal
abbrev pub StandsForNone : Two (List ℕ) → Type 0
StandsForNone files =
    ((clients : Meaning) → stands clients files ≡ no_store)
    ⊎ ((clients : Meaning) → stands clients files ≡ journal [])

-- some file has an open header
abbrev pub has_open : Two File → Bool
has_open two = is_open two.first.now || is_open two.second.now

-- A moment while a store is begun: one from before, or, where no header is open, the files stand
-- for no store or for the empty journal, nothing more being sent.
abbrev pub InitMoment : Two File → Links → Moment → Type 0
InitMoment two links m =
    IsNow two links m ⊎ ((has_open two ≡ false) × StandsForNone m.files
    × (m.sent ≡ sent_of links.told))

-- nothing is pending in either file, and no header is open
pub record IsFree (two : Two File) : Type 0 where
  pub first_settled : NothingPending two 0
  pub second_settled : NothingPending two 1
  pub none_open : has_open two ≡ false

-- A store exists exactly where some file has an open header.
abbrev pub IsAnswer : Two File → Result (Unit {0}) InitFault → Type 0
IsAnswer two (Ok _) = has_open two ≡ false
IsAnswer two (Err init.Exists) = has_open two ≡ true
IsAnswer two (Err init.DiskFault) = Unit {0}

-- File 0 reads as a journal of format 2 and generation 1 with no frame, the other file as before,
-- and nothing is pending; so every crash leaves the empty journal, whatever the clients mean.
pub record BeginsJournal (old new : Two File) : Type 0 where
  pub first : new.first ≡ settled (begun_bytes 2 1)
  pub second : new.second ≡ settled old.second.now
  pub each_image : (clients : Meaning) (left : Two (List ℕ)) → IsImage new left
      → stands clients left ≡ journal []
