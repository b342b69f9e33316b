-- What each call on a host does to its links.
use Rattle.std.specs.Prelude.{◌≡◌, ◌≢◌, ℕ, ◌+◌, ◌<◌, ◌≤◌, List, [], ◌∷◌, ◌++◌, length, take, Option, None, Some, Result, Ok, Err}
use Rattle.std.specs.Option.{option_map}
use Rattle.outside.specs.declared.failed.Failed.{Failed}
use Rattle.outside.specs.declared.host.Heard.{Heard}
use Rattle.outside.specs.declared.host.Heard.TheVariants as heard
use Rattle.outside.specs.Faults.{CountsFailure, one_more}
use Rattle.outside.specs.Files.{Two, File, IsImage}
use Rattle.outside.specs.Links.{ToldLink, Links, got, idle, ended, HeardOn, nothing_heard, hear_reply, hear_failure, changed_at, with_sent, sent_of}
use Rattle.outside.specs.Outside.{Outside, Moment}
use Rattle.outside.specs.Disk.{RelatesTold}
use Rattle.outside.specs.Planned.{AnswersAsPlanned, UsesReading}

-- the count of one link stays where its call succeeded and rises by one where it failed, and no other count changes
pub record LinkCause {T E : Type 0} (link : ℕ) (old new : ℕ → ℕ) (result : Result T E) : Type 0 where
  pub later : old link ≤ new link
  pub counts : CountsFailure result (old link) (new link)
  pub others : (i : ℕ) → i ≢ link → new i ≡ old i

-- a dial makes the next link, or none
abbrev pub MakesLink : List ℕ → Result ℕ Failed → Links → Links → Type 0
MakesLink spec (Ok link) old new =
    (link ≡ old.dialled)
    × (new.dialled ≡ old.dialled + 1)
    × (new.told ≡ option_map (λ ls. ls ++ record { spec = spec; sent = [] } ∷ []) old.told)
    × (new.heard ≡ option_map (λ hs. hs ++ nothing_heard ∷ []) old.heard)
MakesLink spec (Err _) old new = (new.dialled ≡ old.dialled) × (new.told ≡ old.told) × (new.heard ≡ old.heard)

pub record DialsLink (spec : List ℕ) (result : Result ℕ Failed) (old new : Links) : Type 0 where
  pub made : MakesLink spec result old new
  pub same_readings : new.readings ≡ old.readings
  pub same_planned : new.planned ≡ old.planned
  pub same_upcoming : new.upcoming ≡ old.upcoming
  pub faults : LinkCause old.dialled old.faults new.faults result

-- a nonce, or none
pub record AsksNonce (link : ℕ) (result : Result (List ℕ) Failed) (old new : Links) : Type 0 where
  pub same_dialled : new.dialled ≡ old.dialled
  pub same_told : new.told ≡ old.told
  pub same_heard : new.heard ≡ old.heard
  pub same_readings : new.readings ≡ old.readings
  pub same_planned : new.planned ≡ old.planned
  pub same_upcoming : new.upcoming ≡ old.upcoming
  pub faults : LinkCause link old.faults new.faults result

-- what an answer adds to what was heard on a link, with this buffer
abbrev pub hear : Heard → List ℕ → HeardOn → HeardOn
hear (heard.Got n) buf = hear_reply (length buf) (got (take n buf))
hear heard.Idle buf = hear_reply (length buf) idle
hear heard.End buf = hear_reply (length buf) ended
hear heard.Failed buf = hear_failure

-- what is known of the number of an answer, and of its link's count: it stays, or rises by one at a failure
abbrev pub IsAnswerCaused : Heard → ℕ → ℕ → ℕ → Type 0
IsAnswerCaused (heard.Got n) room before after = (0 < n) × (n ≤ room) × (after ≡ before)
IsAnswerCaused heard.Idle room before after = after ≡ before
IsAnswerCaused heard.End room before after = after ≡ before
IsAnswerCaused heard.Failed room before after = after ≡ one_more before

pub record HearsAnswer (link : ℕ) (answer : Heard) (buf : List ℕ) (old new : Links) : Type 0 where
  pub same_dialled : new.dialled ≡ old.dialled
  pub same_told : new.told ≡ old.told
  pub heard : new.heard ≡ option_map (changed_at link (hear answer buf)) old.heard
  pub same_readings : new.readings ≡ old.readings
  pub planned : RelatesTold (AnswersAsPlanned link answer buf) old.planned new.planned
  pub same_upcoming : new.upcoming ≡ old.upcoming
  pub later : old.faults link ≤ new.faults link
  pub others : (i : ℕ) → i ≢ link → new.faults i ≡ old.faults i

-- all bytes went out, or some front of them
abbrev pub GoOut : ℕ → List ℕ → Result (Unit {0}) Failed → Option (List ToldLink) → Option (List ToldLink) → Type 0
GoOut link bytes (Ok _) old new = new ≡ option_map (with_sent link bytes) old
GoOut link bytes (Err _) old new = (n : ℕ) × (new ≡ option_map (with_sent link (take n bytes)) old)

pub record SendsOnLink (link : ℕ) (bytes : List ℕ) (result : Result (Unit {0}) Failed) (old new : Links) : Type 0 where
  pub same_dialled : new.dialled ≡ old.dialled
  pub sent : GoOut link bytes result old.told new.told
  pub same_heard : new.heard ≡ old.heard
  pub same_readings : new.readings ≡ old.readings
  pub same_planned : new.planned ≡ old.planned
  pub same_upcoming : new.upcoming ≡ old.upcoming
  pub faults : LinkCause link old.faults new.faults result

-- a moment of a send: the files as a crash might have left them before it, and some front of the bytes sent
pub record SendsPart (old : Outside) (link : ℕ) (bytes : List ℕ) (moment : Moment) : Type 0 where
  pub image : (two : Two File) → old.files ≡ Some two → IsImage two moment.files
  pub count : ℕ
  pub sent : moment.sent ≡ sent_of (option_map (with_sent link (take count bytes)) old.links.told)

-- readings that are told after one more were told before
abbrev pub GrowsReadings : ℕ → Option (List ℕ) → Option (List ℕ) → Type 0
GrowsReadings reading old None = Unit {0}
GrowsReadings reading None (Some new) = ⊥
GrowsReadings reading (Some old) (Some new) = new ≡ old ++ reading ∷ []

pub record ReadsClock (reading : ℕ) (old new : Links) : Type 0 where
  pub same_dialled : new.dialled ≡ old.dialled
  pub same_faults : new.faults ≡ old.faults
  pub same_told : new.told ≡ old.told
  pub same_heard : new.heard ≡ old.heard
  pub readings : GrowsReadings reading old.readings new.readings
  pub same_planned : new.planned ≡ old.planned
  pub upcoming : RelatesTold (UsesReading reading) old.upcoming new.upcoming
