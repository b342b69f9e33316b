-- The words of a request.
use Rattle.std.specs.Prelude.{◌==◌, ℕ, ◌+◌, if◌then◌else◌, List, [], ◌∷◌, ◌++◌}
use Rattle.std.specs.Prelude.{Result, Err}
use Rattle.arguments.specs.Arguments.{IsWordOf}
use Rattle.commands.specs.Reading.{IsReadAs, asks}
use Rattle.commands.specs.declared.command.Command.{Command}
use Rattle.commands.specs.declared.command.Command.TheVariants as command
use Rattle.commands.specs.declared.fault.WordsFault.{WordsFault}
use Rattle.commands.specs.declared.fault.WordsFault.TheVariants as fault
use Rattle.request_frames.specs.declared.head.TheConstants.{MAX_INPUT}
use Rattle.sync_ids.specs.declared.message.TheConstants.{MAX_BODY}

-- what stands up to each zero byte, the first of these behind some bytes; what stands behind the last
-- zero byte is no part
abbrev pub parts_from : (part bytes : List ℕ) → List (List ℕ)
parts_from part [] = []
parts_from part (b ∷ bytes) =
    if b == 0 then part ∷ parts_from [] bytes else parts_from (part ++ b ∷ []) bytes

abbrev pub parts_of : List ℕ → List (List ℕ)
parts_of bytes = parts_from [] bytes

-- each word is what its part is handed on as, as a word of the command line is
abbrev pub AreWords : (parts words : List (List ℕ)) → Type 0
AreWords [] [] = Unit {0}
AreWords [] (word ∷ words) = ⊥
AreWords (part ∷ parts) [] = ⊥
AreWords (part ∷ parts) (word ∷ words) = IsWordOf part word × AreWords parts words

-- what was read is what these words ask for, as words of the command line do
pub record WordsAsk (bytes : List ℕ) (result : Result Command WordsFault) : Type 0 where
  pub words : List (List ℕ)
  pub are : AreWords (parts_of bytes) words
  pub read : IsReadAs (asks words) result

-- where memory was found
abbrev pub IsAskedBy : (bytes : List ℕ) → Result Command WordsFault → Type 0
IsAskedBy bytes (Err fault.Memory) = Unit {0}
IsAskedBy bytes result = WordsAsk bytes result

-- how much of an input a command reads at most: one byte more than it takes
abbrev pub reads_most : Command → ℕ
reads_most (command.Post group timestamp) = MAX_BODY + 1
reads_most (command.MailboxIn contact) = MAX_INPUT + 1
reads_most (command.Try name descriptor) = MAX_INPUT + 1
reads_most command.Records = MAX_INPUT + 1
reads_most _ = 0
