-- What the words of a command line ask of the program itself, and what it answers. Words are
-- counted from 0.
use Rattle.std.specs.Prelude.{◌≡◌, ◌⊎◌, ℕ, Bool, true, false, not, if◌then◌else◌, List, []}
use Rattle.std.specs.Prelude.{◌∷◌, codes, Option, Some, None}
use Rattle.std.specs.Str.{bytes_eq}
use Rattle.std.specs.Io.KnownBytes.{Appends}
use Rattle.outside.specs.Faults.{CountRose}
use Rattle.outside.specs.Streams.{GetsFront, GetsText, IsIdle, Stream}
use Rattle.sync_words.specs.Outcomes as outcomes
use Rattle.sync_words.specs.declared.outcome.Outcome.{Outcome}
use Rattle.sync_words.specs.declared.outcome.Outcome.TheVariants as outcome
use Rattle.sync_words.specs.declared.status.Status.{Status}
use Rattle.sync_words.specs.declared.status.Status.TheVariants as status
use Rattle.replay_program.specs.declared.help.Help.{Help}
use Rattle.replay_program.specs.declared.help.Help.TheVariants as help
use Rattle.replay_program.specs.declared.help.Topic.{Topic}
use Rattle.replay_program.specs.declared.help.Topic.TheVariants as topic
use Rattle.replay_program.specs.declared.texts.TheConstants.{OVERVIEW, VERSION, GEN}

-- what the program tells of a topic
abbrev pub text_of : Topic → List ℕ
text_of topic.Overview = OVERVIEW.now
text_of topic.Version = VERSION.now
text_of topic.Gen = GEN.now

-- to be told of it where no word stands behind its name
abbrev pub ends_topic : Topic → List (List ℕ) → Help
ends_topic asked [] = help.Tell asked
ends_topic asked (word ∷ words) = help.Wrong 2

-- behind `help`: nothing, or `gen`
abbrev pub asks_topic : List (List ℕ) → Help
asks_topic [] = help.Tell topic.Overview
asks_topic (word ∷ words) =
    if bytes_eq word (codes "gen") then ends_topic topic.Gen words else help.Wrong 1

-- to be told of it where no word follows
abbrev pub is_alone : Topic → List (List ℕ) → Option Help
is_alone asked [] = Some (help.Tell asked)
is_alone asked (word ∷ words) = None

-- what is asked, if the words ask of the program itself
abbrev pub asks_help : List (List ℕ) → Option Help
asks_help [] = None
asks_help (word ∷ words) =
    if bytes_eq word (codes "help") then Some (asks_topic words)
    else if bytes_eq word (codes "--help") then is_alone topic.Overview words
    else if bytes_eq word (codes "-h") then is_alone topic.Overview words
    else if bytes_eq word (codes "--version") then is_alone topic.Version words
    else None

-- whether the first word is none that the program knows
abbrev pub begins_nothing : List (List ℕ) → Bool
begins_nothing [] = false
begins_nothing (word ∷ words) = not (bytes_eq word (codes "gen"))

-- the error output got the text of the outcome, and the status is the outcome's
abbrev pub ReportsOutcome : Outcome → (err err' : Stream) → Status → Type 0
ReportsOutcome came err err' given =
    (given ≡ outcomes.status_of came) × GetsText err err' (outcomes.text_of came)

-- The output got the whole text, and nothing was said; or a front of it, a call on the output
-- failed, and the error output says so.
abbrev pub TellsText : (text : List ℕ) (out out' err err' : Stream) → Status → Type 0
TellsText text out out' err err' given =
    (Appends out.bytes out'.bytes text × IsIdle err err' × (given ≡ status.Done))
    ⊎ (GetsFront out out' text × CountRose out.faults out'.faults
    × ReportsOutcome outcome.WriteFault err err' given)

-- what was asked is told on the output; what is not there is a wrong word, on the error output
-- alone
abbrev pub AnswersHelp : Help → (out out' err err' : Stream) → Status → Type 0
AnswersHelp (help.Tell asked) out out' err err' given =
    TellsText (text_of asked) out out' err err' given
AnswersHelp (help.Wrong place) out out' err err' given =
    IsIdle out out' × ReportsOutcome (outcome.Usage place) err err' given
