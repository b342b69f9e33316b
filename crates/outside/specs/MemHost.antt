-- A host in memory: a disk whose list of calls has those on the links too, what each link is still to answer, the
-- clock's readings, the nonces, and what is to fail.
use Rattle.std.specs.Prelude.{◌≡◌, ◌≢◌, ◌⊎◌, ℕ, ◌-◌, ◌/◌, ◌^◌, ◌≤◌, nat_lt, Bool, true, false, if◌then◌else◌, List, [], ◌∷◌, ◌++◌, length, take, drop, replicate, map, Option, None, Some, Result, MatchResult, MatchOption, slice_index, slice_index_or, slice_set}
use Rattle.outside.specs.declared.limits.TheConstants.{LINKS}
use Rattle.outside.specs.declared.failed.Failed.{Failed}
use Rattle.outside.specs.declared.host.Heard.{Heard}
use Rattle.outside.specs.Faults.{one_more, is_listed}
use Rattle.outside.specs.Links.{ToldLink, Reply, Planned}
use Rattle.outside.specs.Planned.{reply_to, reply_in, UsesPlan, UsesReading}
use Rattle.outside.specs.MemDisk.{Change, dialled, sent, answered, hosted, MemDiskValue, MakesChange, links_after, with_call, disk_files, files_of}
use Rattle.outside.specs.MemImage.{PicturesDisk}
use Rattle.outside.specs.Files.{IsImage}
use Rattle.outside.specs.Script.{planned_of}
use Rattle.outside.specs.declared.answer.Answer.{Answer}
use Rattle.outside.specs.declared.pick.Pick.{Pick}

-- ---- the clock

-- the readings that were given, and how many were made
pub record Readings : Type 0 where
  pub given : List ℕ
  pub made : ℕ

-- the last reading that was given, or 0
abbrev pub last_of : List ℕ → ℕ
last_of given = slice_index given (length given - 1)

-- so many readings: those that were given, and then the last one again and again
abbrev pub first_readings : ℕ → List ℕ → List ℕ
first_readings n given = take n given ++ replicate (n - length given) (last_of given)

-- the readings that were made; they are not told any more once the count of them stands at its end
abbrev pub readings_told : Readings → Option (List ℕ)
readings_told clock = if nat_lt clock.made (2 ^ 64 - 1) then Some (first_readings clock.made clock.given) else None

-- the next reading
abbrev pub next_reading : Readings → ℕ
next_reading clock = if nat_lt clock.made (length clock.given) then slice_index clock.given clock.made else last_of clock.given

-- the readings to come: those that were given and not made, or the last one again and again
abbrev pub upcoming_of : Readings → List ℕ
upcoming_of clock = if nat_lt clock.made (length clock.given) then drop clock.made clock.given else last_of clock.given ∷ []

-- a reading more at the end; those that were made stay
abbrev pub reading_added : ℕ → Readings → Readings
reading_added at clock = record clock { given = clock.given ++ replicate (clock.made - length clock.given) (last_of clock.given) ++ at ∷ [] }

-- one reading in the place of all that were not made
abbrev pub reading_set : ℕ → Readings → Readings
reading_set at clock = record clock { given = first_readings clock.made clock.given ++ at ∷ [] }

-- ---- the host

-- the numbers of the calls that are to fail, and how many were made
pub record Schedule : Type 0 where
  pub failing : List ℕ
  pub made : ℕ

abbrev pub one_made : Schedule → Schedule
one_made schedule = record schedule { made = one_more schedule.made }

-- the next call is to fail
abbrev pub fails_now : Schedule → Bool
fails_now schedule = is_listed schedule.failing schedule.made

-- A host: its disk; what each of the eight links is still to answer; how many calls on each failed since it answered,
-- and how many at all; its clock; the nonces to be given; its dials and its sends; how many of its calls found no memory.
pub record MemHostValue : Type 0 where
  pub disk : MemDiskValue
  pub scripts : List (List Planned)
  pub silences : List ℕ
  pub faults : List ℕ
  pub clock : Readings
  pub nonces : List (List ℕ)
  pub dials : Schedule
  pub sends : Schedule
  pub starved : ℕ

-- the links that were made
abbrev pub links_of : MemDiskValue → List ToldLink
links_of disk = links_after [] disk.calls

-- a host over this disk of which no call was made
abbrev pub fresh_host : MemDiskValue → MemHostValue
fresh_host disk = record {
  disk = with_call hosted disk;
  scripts = replicate LINKS [];
  silences = replicate LINKS 0;
  faults = replicate LINKS 0;
  clock = record { given = []; made = 0 };
  nonces = [];
  dials = record { failing = []; made = 0 };
  sends = record { failing = []; made = 0 };
  starved = 0;
}

-- what a link is still to answer, and the scripts with that of this link changed
abbrev pub script_of : ℕ → List (List Planned) → List Planned
script_of link scripts = slice_index_or scripts link []

abbrev pub plans_of : List (List Planned) → ℕ → List Planned
plans_of scripts link = script_of link scripts

abbrev pub with_script : ℕ → List Planned → List (List Planned) → List (List Planned)
with_script link script scripts = slice_set scripts link script

-- the next answer of a link with a buffer of so many bytes is left behind
abbrev pub LeavesBehind : (link room : ℕ) → (old new : List (List Planned)) → Type 0
LeavesBehind link room old new = (reply : Option Reply) → reply_to room (script_of link old) ≡ reply → UsesPlan link room reply (plans_of old) (plans_of new)

-- a link is to answer one thing more, behind all else
pub record PlansAnswer (link : ℕ) (answer : Answer) (old new : List (List Planned)) : Type 0 where
  pub more : script_of link new ≡ script_of link old ++ planned_of answer
  pub others : (i : ℕ) → i ≢ link → script_of i new ≡ script_of i old

-- A host began anew over an image of its files: what was planned, heard, sent and read is gone.
pub record CrashesHost (pick : Pick) (old new : MemHostValue) : Type 0 where
  pub disk : MemDiskValue
  pub pictured : PicturesDisk pick (disk_files old.disk) disk
  pub image : IsImage (files_of (disk_files old.disk)) disk.start
  pub anew : new ≡ fresh_host disk

-- what a host keeps of its links
pub record AreLinksWired (disk : MemDiskValue) (sent : List (List ℕ)) (scripts : List (List Planned)) : Type 0 where
  pub sent_is : sent ≡ map (λ link. link.sent) (links_of disk)
  pub few : length sent ≤ LINKS
  pub scripted : length scripts ≡ LINKS

-- ---- counts

-- one count of several rose by one
pub record RaisesCount (link : ℕ) (old new : List ℕ) : Type 0 where
  pub raised : slice_index new link ≡ one_more (slice_index old link)
  pub later : slice_index old link ≤ slice_index new link
  pub others : (i : ℕ) → i ≢ link → slice_index new i ≡ slice_index old i

-- one count of several begins again
pub record BeginsAgain (link : ℕ) (old new : List ℕ) : Type 0 where
  pub begun : slice_index new link ≡ 0
  pub others : (i : ℕ) → i ≢ link → slice_index new i ≡ slice_index old i

-- ---- each call

-- a call on the disk
pub record OnDisk {T E : Type 0} (fine failed : Option Change) (result : Result T E) (old new : MemHostValue) : Type 0 where
  pub makes : MakesChange fine failed result old.disk new.disk
  pub rest : new ≡ record old { disk = new.disk }

-- a call on a link that found no memory
pub record FindsNone (old new : MemHostValue) : Type 0 where
  pub disk : new.disk ≡ old.disk
  pub scripts : new.scripts ≡ old.scripts
  pub starved : new.starved ≡ one_more old.starved

pub record DialMade (spec : List ℕ) (link : ℕ) (old new : MemHostValue) : Type 0 where
  pub fine : fails_now old.dials ≡ false
  pub number : link ≡ length (links_of old.disk)
  pub disk : new.disk ≡ with_call (dialled spec) old.disk
  pub silences : BeginsAgain link old.silences new.silences
  pub faults : new.faults ≡ old.faults
  pub starved : new.starved ≡ old.starved

pub record DialDue (old new : MemHostValue) : Type 0 where
  pub due : fails_now old.dials ≡ true
  pub disk : new.disk ≡ old.disk
  pub starved : new.starved ≡ old.starved

pub record FailsDial (old new : MemHostValue) : Type 0 where
  pub silences : new.silences ≡ old.silences
  pub faults : RaisesCount (length (links_of old.disk)) old.faults new.faults
  pub cause : DialDue old new ⊎ FindsNone old new

-- a dial fails exactly where the list has it or there was no memory
pub record MakesDial (spec : List ℕ) (result : Result ℕ Failed) (old new : MemHostValue) : Type 0 where
  pub rest : new ≡ record old { disk = new.disk; silences = new.silences; faults = new.faults; dials = one_made old.dials; starved = new.starved }
  pub outcome : MatchResult result (λ link. DialMade spec link old new) (λ _. FailsDial old new)

pub record NonceGiven (nonce : List ℕ) (old new : MemHostValue) : Type 0 where
  pub given : old.nonces ≡ nonce ∷ new.nonces
  pub rest : new ≡ record old { nonces = new.nonces }

pub record NoNonce (link : ℕ) (old new : MemHostValue) : Type 0 where
  pub none : old.nonces ≡ []
  pub faults : RaisesCount link old.faults new.faults
  pub rest : new ≡ record old { faults = new.faults }

-- a nonce is the first that was given, and fails exactly where there is none
abbrev pub MakesNonce : ℕ → Result (List ℕ) Failed → MemHostValue → MemHostValue → Type 0
MakesNonce link result old new = MatchResult result (λ nonce. NonceGiven nonce old new) (λ _. NoNonce link old new)

-- a link gave this answer, as its script says
pub record RepliesOnLink (link room : ℕ) (reply : Reply) (old new : MemHostValue) : Type 0 where
  pub plan : UsesPlan link room (Some reply) (plans_of old.scripts) (plans_of new.scripts)
  pub disk : new.disk ≡ with_call (answered link (record { failures = slice_index old.silences link; room = room; reply = reply })) old.disk
  pub silences : BeginsAgain link old.silences new.silences
  pub faults : new.faults ≡ old.faults
  pub starved : new.starved ≡ old.starved

pub record FailureDue (link room : ℕ) (old new : MemHostValue) : Type 0 where
  pub plan : UsesPlan link room None (plans_of old.scripts) (plans_of new.scripts)
  pub disk : new.disk ≡ old.disk
  pub starved : new.starved ≡ old.starved

pub record NoReply (link room : ℕ) (old new : MemHostValue) : Type 0 where
  pub silences : RaisesCount link old.silences new.silences
  pub faults : RaisesCount link old.faults new.faults
  pub cause : FailureDue link room old new ⊎ FindsNone old new

-- a link answers as its script says, and fails exactly where that says so or there was no memory
pub record MakesAnswer (link : ℕ) (answer : Heard) (buf : List ℕ) (old new : MemHostValue) : Type 0 where
  pub rest : new ≡ record old { disk = new.disk; scripts = new.scripts; silences = new.silences; faults = new.faults; starved = new.starved }
  pub outcome : MatchOption (reply_in answer buf) (NoReply link (length buf) old new) (λ reply. RepliesOnLink link (length buf) reply old new)

pub record SendMade (link : ℕ) (bytes : List ℕ) (old new : MemHostValue) : Type 0 where
  pub fine : fails_now old.sends ≡ false
  pub disk : new.disk ≡ with_call (sent link bytes) old.disk
  pub faults : new.faults ≡ old.faults
  pub starved : new.starved ≡ old.starved

-- a send that is to fail lets the first half of its bytes out
pub record SendDue (link : ℕ) (bytes : List ℕ) (old new : MemHostValue) : Type 0 where
  pub due : fails_now old.sends ≡ true
  pub disk : new.disk ≡ with_call (sent link (take (length bytes / 2) bytes)) old.disk
  pub starved : new.starved ≡ old.starved

pub record SendFailed (link : ℕ) (bytes : List ℕ) (old new : MemHostValue) : Type 0 where
  pub faults : RaisesCount link old.faults new.faults
  pub cause : SendDue link bytes old new ⊎ FindsNone old new

-- a send fails exactly where the list has it or there was no memory
pub record MakesSend (link : ℕ) (bytes : List ℕ) (result : Result (Unit {0}) Failed) (old new : MemHostValue) : Type 0 where
  pub rest : new ≡ record old { disk = new.disk; faults = new.faults; sends = one_made old.sends; starved = new.starved }
  pub outcome : MatchResult result (λ _. SendMade link bytes old new) (λ _. SendFailed link bytes old new)

-- a reading of the clock
pub record MakesReading (reading : ℕ) (old new : MemHostValue) : Type 0 where
  pub is_next : reading ≡ next_reading old.clock
  pub upcoming : UsesReading reading (upcoming_of old.clock) (upcoming_of new.clock)
  pub rest : new ≡ record old { clock = record old.clock { made = one_more old.clock.made } }
