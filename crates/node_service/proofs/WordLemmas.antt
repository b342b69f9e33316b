-- The words of a request as they are read, byte by byte.
use Rattle.std.proofs.Common.{◌≡◌, ◌==◌, ℕ, zero, suc, ◌+◌, ◌<◌, ◌≤◌, Bool, true, false, List, []}
use Rattle.std.proofs.Common.{◌∷◌, ◌++◌, length, drop, refl, sym, ap, subst, String}
use Rattle.std.proofs.Common.{append-nil, arith, ne_eqb, slice_index}
use Rattle.std.proofs.lemmas.List.{drop_more}
use Rattle.std.specs.Prelude.{if◌then◌else◌}
use Rattle.std.specs.String.{string_bytes}
use Rattle.std.specs.declared.alloc.Global.{Global}
use Rattle.arguments.specs.Arguments.{IsWordOf}
use Rattle.sync_words.specs.Words.{texts}
use Rattle.node_service.specs.Words.{AreWords, parts_from, parts_of}

-- the words so far, and those of the rest behind this part, are those of all parts
abbrev pub ReadSo : (parts : List (List ℕ)) (words : List (String Global)) (part rest : List ℕ)
    → Type 0
ReadSo parts words part rest =
    (more : List (List ℕ)) → AreWords (parts_from part rest) more
    → AreWords parts (texts words ++ more)

texts_more : (words : List (String Global)) (word : String Global) (more : List (List ℕ))
    → texts (words ++ word ∷ []) ++ more ≡ texts words ++ (string_bytes word ∷ more)
texts_more [] word more = refl
texts_more (w ∷ words) word more = ap (λ (t : List (List ℕ)). string_bytes w ∷ t) (texts_more words word more)

at_zero : (zero_at : Bool) (part rest : List ℕ) (b : ℕ) (word : List ℕ) (more : List (List ℕ))
    → zero_at ≡ true → IsWordOf part word → AreWords (parts_from [] rest) more
    → AreWords (if zero_at then part ∷ parts_from [] rest else parts_from (part ++ b ∷ []) rest)
    (word ∷ more)
at_zero true part rest b word more is word_is are = (word_is, are)
at_zero false part rest b word more is word_is are = absurd (let e : false ≡ true = is in cc)

at_other : (zero_at : Bool) (part rest : List ℕ) (b : ℕ) (more : List (List ℕ))
    → zero_at ≡ false → AreWords (parts_from (part ++ b ∷ []) rest) more
    → AreWords (if zero_at then part ∷ parts_from [] rest else parts_from (part ++ b ∷ []) rest)
    more
at_other false part rest b more is are = are
at_other true part rest b more is are = absurd (let e : true ≡ false = is in cc)

module _ (parts : List (List ℕ)) (words : List (String Global)) (part rest : List ℕ) (b : ℕ)
    (so : ReadSo parts words part (b ∷ rest)) where
  -- a part ends
  pub part_ends : (word : String Global) → (b == 0) ≡ true → IsWordOf part (string_bytes word)
      → ReadSo parts (words ++ word ∷ []) [] rest
  part_ends word is word_is = λ more are.
      subst (λ (t : List (List ℕ)). AreWords parts t) (sym (texts_more words word more))
      (so (string_bytes word ∷ more) (at_zero (b == 0) part rest b (string_bytes word) more is word_is are))

  -- it goes on
  pub part_goes_on : (b == 0) ≡ false → ReadSo parts words (part ++ b ∷ []) rest
  part_goes_on is = λ more are. so more (at_other (b == 0) part rest b more is are)

pub read_none : (bytes part : List ℕ) (words : List (String Global)) → words ≡ [] → part ≡ []
    → ReadSo (parts_of bytes) words part (drop 0 bytes)
read_none bytes part words w p = rw (w, p) (λ more are. are)

-- nothing stands past the end
pub drop_past : (at : ℕ) (bytes : List ℕ) → length bytes ≤ at → drop at bytes ≡ []
drop_past zero [] past = refl
drop_past (suc at) [] past = refl
drop_past zero (b ∷ bytes) past = absurd (omega (arith, past))
drop_past (suc at) (b ∷ bytes) past = drop_past at bytes (omega (arith, past))

-- no byte is left
pub read_all : (parts : List (List ℕ)) (bytes : List ℕ) (words : List (String Global)) (part : List ℕ)
    (at : ℕ) → length bytes ≤ at → ReadSo parts words part (drop at bytes)
    → AreWords parts (texts words)
read_all parts bytes words part at past so =
    let none : drop at bytes ≡ [] = drop_past at bytes past in
    let all : AreWords parts (texts words ++ []) =
    so [] (rw none tt) in
    subst (λ (t : List (List ℕ)). AreWords parts t) (append-nil (texts words)) all

-- the byte at a place, and those behind it
pub rest_more : (bytes : List ℕ) (at : ℕ) → at < length bytes
    → drop at bytes ≡ slice_index bytes at ∷ drop (at + 1) bytes
rest_more bytes at in_it = drop_more bytes at 0 in_it

module _ (parts : List (List ℕ)) (words words' : List (String Global)) (part part' rest : List ℕ)
    (b : ℕ) (so : ReadSo parts words part (b ∷ rest)) where
  pub part_ended : (word : String Global) → b ≡ 0 → IsWordOf part (string_bytes word)
      → words' ≡ words ++ word ∷ [] → part' ≡ [] → ReadSo parts words' part' rest
  part_ended word zero_at word_is w p =
      let is : (b == 0) ≡ true = rw zero_at refl in
      rw (w, p) (part_ends parts words part rest b so word is word_is)

  pub part_went_on : (b ≡ 0 → ⊥) → words' ≡ words → part' ≡ part ++ b ∷ []
      → ReadSo parts words' part' rest
  part_went_on other w p = rw (w, p) (part_goes_on parts words part rest b so (ne_eqb b 0 other))
