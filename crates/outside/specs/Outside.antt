-- What an object tells of the outside: files, links, time, and what a crash at each moment would leave.
use Rattle.std.specs.Prelude.{◌≡◌, ◌⊎◌, ℕ, ◌+◌, ◌≤◌, List, length, Option, Some, is_some, Result, OnOk}
use Rattle.outside.specs.Calls.{Calls, CallsGoOn, ChangesNone, OneCall, NoCall, more_calls}
use Rattle.outside.specs.Disk.{RelatesTold}
use Rattle.outside.specs.Files.{Two, File, IsImage, read_files}
use Rattle.outside.specs.Links.{Links, HeardOn, ToldLink, sent_of}

-- a moment: files that a crash then would leave, and the bytes sent by then on each link
pub record Moment : Type 0 where
  pub files : Two (List ℕ)
  pub sent : List (List ℕ)

-- a moment that is possible now
pub record IsNow (files : Two File) (links : Links) (moment : Moment) : Type 0 where
  pub image : IsImage files moment.files
  pub sent : moment.sent ≡ sent_of links.told

-- What an object tells, with the laws of it. Files are told by a disk that knows them and is honest: it behaves as
-- `IsImage` says, and nobody else writes its files.
pub record Outside : Type 1 where
  pub files : Option (Two File)
  pub links : Links
  -- a number that does not fall, and the moments since each value of it
  pub clock : ℕ
  pub moments : ℕ → Moment → Type 0
  pub disk_faults : ℕ
  -- the calls made of the disk, where they are told
  pub calls : Option Calls
  -- the moments of now are those that are possible now, and the files as they read are among the images
  pub now_is : (two : Two File) (m : Moment) → files ≡ Some two → moments clock m → IsNow two links m
  pub is_now : (two : Two File) (m : Moment) → files ≡ Some two → IsNow two links m → moments clock m
  pub reads : (two : Two File) → files ≡ Some two → IsImage two (read_files two)
  -- a moment of now is one of those since any earlier value of the clock
  pub since : (t : ℕ) (m : Moment) → t ≤ clock → moments clock m → moments t m
  pub all_told : (links' : List ToldLink) → links.told ≡ Some links' → length links' ≡ links.dialled
  pub all_heard : (heard : List HeardOn) → links.heard ≡ Some heard → length heard ≡ links.dialled

-- Time goes on: a moment since an earlier value of the clock is one from before the call, or one of the call's own.
pub record LetsTimePass (old new : Outside) (during : Moment → Type 0) : Type 0 where
  pub later : old.clock ≤ new.clock
  pub nothing_else : (t : ℕ) (m : Moment) → t ≤ old.clock → new.moments t m → old.moments t m ⊎ during m
  pub keeps : (t : ℕ) (m : Moment) → t ≤ old.clock → old.moments t m → new.moments t m

-- a call on the disk: links and told-ness stay
pub record DiskCall (old new : Outside) : Type 0 where
  pub same_links : new.links ≡ old.links
  pub same_told : is_some new.files ≡ is_some old.files
  pub calls : RelatesTold OneCall old.calls new.calls
  pub time : LetsTimePass old new (new.moments new.clock)

-- a call on the links or the clock, with its own moments: the disk stays
pub record LinkCall (during : Moment → Type 0) (old new : Outside) : Type 0 where
  pub same_files : new.files ≡ old.files
  pub same_faults : new.disk_faults ≡ old.disk_faults
  pub calls : RelatesTold NoCall old.calls new.calls
  pub time : LetsTimePass old new during

-- the same of a call that sends nothing
abbrev pub QuietCall : Outside → Outside → Type 0
QuietCall old new = LinkCall (new.moments new.clock) old new

-- Each moment since a run of calls began has P; and for a run that began earlier, each moment is one from before or has P.
pub record MomentsAre (old new : Outside) (P : Moment → Type 0) : Type 0 where
  pub later : old.clock ≤ new.clock
  pub each : (m : Moment) → new.moments old.clock m → P m
  pub before : (t : ℕ) (m : Moment) → t ≤ old.clock → new.moments t m → old.moments t m ⊎ P m

-- at each moment of a run a crash leaves what it might have left before the run, and nothing was sent
abbrev pub AnyImage : Outside → Outside → Type 0
AnyImage old new = (two : Two File) → old.files ≡ Some two
    → MomentsAre old new (IsNow two old.links)

-- what no run of calls on a disk changes
pub record DiskRun (old new : Outside) : Type 0 where
  pub same_links : new.links ≡ old.links
  pub same_told : is_some new.files ≡ is_some old.files
  pub later : old.disk_faults ≤ new.disk_faults
  pub calls : RelatesTold CallsGoOn old.calls new.calls

-- a run of calls that only read
pub record OnlyReads (old new : Outside) : Type 0 where
  pub same_files : new.files ≡ old.files
  pub run : DiskRun old new
  pub moments : AnyImage old new
  pub unchanged : RelatesTold ChangesNone old.calls new.calls

-- ---- how many calls of the disk a run makes, where they are told: just so many, or no more

pub record MakesJust (n : ℕ) (old new : Outside) : Type 0 where
  pub made : RelatesTold (λ (a b : Calls). b.made ≡ more_calls n a.made) old.calls new.calls

pub record MakesAtMost (n : ℕ) (old new : Outside) : Type 0 where
  pub made : RelatesTold (λ (a b : Calls). b.made ≤ a.made + n) old.calls new.calls

-- just so many where it succeeds, and no more where it fails
pub record MakesCalls {T E : Type 0} (n : ℕ) (result : Result T E) (old new : Outside) : Type 0 where
  pub just : OnOk result (MakesJust n old new)
  pub most : MakesAtMost n old new
