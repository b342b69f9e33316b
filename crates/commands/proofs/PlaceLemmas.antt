-- The word at a place, and what is asked for from there on.
use Rattle.std.proofs.Common.{◌≡◌, ℕ, zero, suc, ◌+◌, List, [], ◌∷◌, drop, refl, sym, ◌∙◌, ap, add-one, String, Option, Some, None, Err, slice_get}
use Rattle.std.specs.String.{string_bytes}
use Rattle.std.specs.declared.alloc.Global.{Global}
use Rattle.commands.specs.declared.fault.WordsFault.{WordsFault}
use Rattle.commands.specs.declared.fault.WordsFault.TheVariants as fault
use Rattle.commands.specs.Reading.{Asked, Rest, word_then, read_or_usage, ReadsWord, StopsAtWord, IsReadAs}
use Rattle.sync_words.specs.Words.{texts}

-- ---- the word at a place

there_by : (words : List (String Global)) (place : ℕ) (word : String Global) → slice_get words place ≡ Some word
    → drop place (texts words) ≡ string_bytes word ∷ drop (suc place) (texts words)
there_by [] place word at = absurd (let e : None ≡ Some word = at in cc)
there_by (w ∷ words) zero word at = let is : w ≡ word = cc in ap (λ (v : String Global). string_bytes v ∷ texts words) is
there_by (w ∷ words) (suc place) word at = there_by words place word at

pub word_there : (words : List (String Global)) (place : ℕ) (word : String Global) → slice_get words place ≡ Some word
    → drop place (texts words) ≡ string_bytes word ∷ drop (place + 1) (texts words)
word_there words place word at =
    there_by words place word at ∙ ap (λ n. string_bytes word ∷ drop n (texts words)) (sym (add-one place))

pub none_there : (words : List (String Global)) (place : ℕ) → slice_get words place ≡ None → drop place (texts words) ≡ []
none_there [] zero at = refl
none_there [] (suc place) at = refl
none_there (w ∷ words) zero at = absurd (let e : Some w ≡ None = at in cc)
none_there (w ∷ words) (suc place) at = none_there words place at

-- ---- what is asked for

module _ {V : Type 0} (read : List ℕ → Option V) (words : List (List ℕ)) (place : ℕ) where
  pub reads_by : (word : List ℕ) (value : V) → drop place words ≡ word ∷ drop (place + 1) words → read word ≡ Some value → ReadsWord read words place value
  reads_by word value there is next =
      ap (word_then read next place) there ∙ ap (λ o. read_or_usage o next place (drop (place + 1) words)) is

  pub stops_wrong : (word : List ℕ) → drop place words ≡ word ∷ drop (place + 1) words → read word ≡ None → StopsAtWord read words place (fault.Usage place)
  stops_wrong word there wrong next =
      ap (word_then read next place) there ∙ ap (λ o. read_or_usage o next place (drop (place + 1) words)) wrong

  pub stops_missing : drop place words ≡ [] → StopsAtWord read words place (fault.Usage place)
  stops_missing none next = ap (word_then read next place) none

  -- a word that stops ends the whole
  pub stopped : (asked : Asked) (e : WordsFault) (next : V → Rest) → asked ≡ word_then read next place (drop place words) → StopsAtWord read words place e
      → IsReadAs asked (Err e)
  stopped asked (fault.Usage at) next is stops = is ∙ stops next
  stopped asked fault.Memory next is stops = tt
