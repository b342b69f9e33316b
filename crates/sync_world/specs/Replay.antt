-- What a replay reads and writes, and what it comes to.
use Rattle.std.specs.Prelude.{◌≡◌, ℕ, ◌<◌, List, Ok, Err, slice_get}
use Rattle.std.specs.Io.KnownBytes.{Appends}
use Rattle.outside.specs.Faults.{CountRose}
use Rattle.outside.specs.Input.{ReadsAll, ReadsPart, ReadsTooMuch}
use Rattle.outside.specs.Streams.{Stream, IsIdle, GetsText, GetsFront}
use Rattle.sync_words.specs.Outcomes.{status_of, text_of}
use Rattle.sync_words.specs.declared.outcome.Outcome.{Outcome}
use Rattle.sync_words.specs.declared.outcome.Outcome.TheVariants as outcome
use Rattle.sync_words.specs.declared.status.Status.{Status}
use Rattle.sync_world.specs.Asking.{Wanted, Wrong, Wants}
use Rattle.sync_world.specs.Playing.{ScriptComes, made_by}
use Rattle.sync_world.specs.Showing.{Runs, journal_lines}
use Rattle.sync_world.specs.Standing.{AreManyDevices}
use Rattle.sync_world.specs.declared.asking.Asked.TheVariants as asked
use Rattle.sync_world.specs.declared.player.Player.{Player}
use Rattle.world_scripts.specs.Courses.{Opening, said}
use Rattle.world_scripts.specs.declared.script.TheConstants.{MAX_SCRIPT}
use Rattle.sync_rules.specs.Facts.{Journal}

-- ---- what is printed

-- What is written of a world: its devices have such journals as the promises on many devices speak
-- of, each of them runs, and the text is the lines that these journals make.
pub record WritesWorld (p : Player) (Written : List ℕ → Type 0) : Type 0 where
  pub journals : List Journal
  pub many : AreManyDevices journals p.world.devices.items
  pub run : (d : ℕ) → d < p.devices → Runs (slice_get p.world.devices.items d)
  pub written : Written (journal_lines p.shown journals p.devices)

-- What the printing of a world comes to: the whole text was written, or a front of it where a write
-- failed; where memory was wanting for the text, nothing was written.
abbrev pub PrintsWorld : Player → (out out' : Stream) → Outcome → Type 0
PrintsWorld p out out' outcome.Done = WritesWorld p (Appends out.bytes out'.bytes)
PrintsWorld p out out' outcome.WriteFault =
    CountRose out.faults out'.faults × WritesWorld p (GetsFront out out')
PrintsWorld p out out' outcome.Memory = IsIdle out out'
PrintsWorld p out out' _ = ⊥

-- a world was played to its end and printed
pub record WorldPrinted (what : Opening) (out out' : Stream) (came : Outcome) : Type 0 where
  pub to : Player
  pub played : ScriptComes what (Ok to)
  pub printed : PrintsWorld to out out' came

-- A world was played, and printed where it was played to its end; in each other case nothing was
-- written.
abbrev pub PlaysOut : Opening → (out out' : Stream) → Outcome → Type 0
PlaysOut what out out' outcome.Done = WorldPrinted what out out' outcome.Done
PlaysOut what out out' outcome.WriteFault = WorldPrinted what out out' outcome.WriteFault
PlaysOut what out out' outcome.Memory = IsIdle out out'
PlaysOut what out out' came = ScriptComes what (Err came) × IsIdle out out'

-- ---- a script

-- What the reading of a script comes to, and then its playing: more bytes were read than a script
-- may have, or a read failed, behind no more bytes than that; or the whole input was read, which is
-- the script, and it was played.
abbrev pub OfScript : (input input' out out' : Stream) → Outcome → Type 0
OfScript input input' out out' outcome.TooMuch =
    ((front : List ℕ) × ReadsTooMuch MAX_SCRIPT input.bytes input'.bytes front) × IsIdle out out'
OfScript input input' out out' outcome.ReadFault =
    ((front : List ℕ) × ReadsPart MAX_SCRIPT input.bytes input'.bytes front)
    × CountRose input.faults input'.faults × IsIdle out out'
OfScript input input' out out' outcome.Memory = IsIdle out out'
OfScript input input' out out' came =
    (script : List ℕ) × ReadsAll MAX_SCRIPT input.bytes input'.bytes script
    × PlaysOut (said script) out out' came

-- ---- all words

-- What the words ask for, and what it comes to: the place of the first wrong word is named; and but
-- for a script nothing is read.
abbrev pub ReplaysWords : Wanted → (input input' out out' : Stream) → Outcome → Type 0
ReplaysWords (Wrong place) input input' out out' came =
    (came ≡ outcome.Usage place) × IsIdle input input' × IsIdle out out'
ReplaysWords (Wants asked.Script) input input' out out' came = OfScript input input' out out' came
ReplaysWords (Wants (asked.Generated seed count)) input input' out out' came =
    IsIdle input input' × PlaysOut (made_by seed count) out out' came

-- a replay: what the words ask for came to an outcome; the status is that outcome's, and the error
-- output got its line
pub record Replayed (words : Wanted) (input input' out out' err err' : Stream)
    (given : Status) : Type 0 where
  pub came : Outcome
  pub replays : ReplaysWords words input input' out out' came
  pub status : given ≡ status_of came
  pub line : GetsText err err' (text_of came)
