-- What is handed on for an argument of the command line.
use Rattle.std.specs.Prelude.{◌≡◌, ℕ, ◌<◌, List, length}
use Rattle.std.specs.Str.{IsUtf8}
use Rattle.sync_ids.specs.declared.def.TheConstants.{MAX_DESCRIPTOR}

-- the argument itself where it is text, and else a word of more bytes than a descriptor has, which is wrong wherever it stands
pub record IsWordOf (argument word : List ℕ) : Type 0 where
  pub text : IsUtf8 argument → word ≡ argument
  pub other : ¬ (IsUtf8 argument) → MAX_DESCRIPTOR < length word
