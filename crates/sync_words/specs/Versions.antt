-- The line of the version.
use Rattle.std.specs.Prelude.{ℕ, List, [], ◌∷◌, ◌++◌}
use Rattle.sync_words.specs.declared.version.TheConstants.{VERSION}

-- a word, and the version behind it
abbrev pub version_text : (word : List ℕ) → List ℕ
version_text word = word ++ (32 ∷ VERSION.now ++ 10 ∷ [])
