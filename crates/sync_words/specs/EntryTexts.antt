-- The lines of the commands that write a journal.
use Rattle.std.specs.Prelude.{ℕ, List, [], ◌∷◌, ◌++◌, codes}
use Rattle.std.specs.Fmt.{decimal}
use Rattle.hex.specs.Hex.{encode_lower}
use Rattle.sync_rules.specs.declared.entries.Level.{Level}
use Rattle.sync_words.specs.Texts.{level_text}

abbrev pub ready_text : List ℕ
ready_text = codes "ready\n"

abbrev pub contact_text : ℕ → List ℕ
contact_text n = codes "contact " ++ (decimal n ++ 10 ∷ [])

abbrev pub group_text : List ℕ → List ℕ
group_text group = codes "group " ++ (encode_lower group ++ 10 ∷ [])

abbrev pub set_level_text : (contact : ℕ) (group : List ℕ) → Level → List ℕ
set_level_text contact group l =
    codes "level " ++ (decimal contact ++ (32 ∷ encode_lower group ++ (32 ∷ level_text l ++ 10 ∷ [])))

abbrev pub posted_text : List ℕ → List ℕ
posted_text id = codes "posted " ++ (encode_lower id ++ 10 ∷ [])

-- where a journal ended before it was written anew as its brief account, and where that ends
abbrev pub compacted_text : (old new : ℕ) → List ℕ
compacted_text old new = codes "compacted " ++ (decimal old ++ (32 ∷ decimal new ++ 10 ∷ []))
