-- Batches as bytes.
use Rattle.std.proofs.Common.{◌≡◌, ℕ, zero, suc, ◌<◌, ◌≤◌, List, [], ◌∷◌, ◌++◌, length, refl, sym, ap, subst, ◌∙◌, arith, append_assoc, length-append}
use Rattle.std.specs.Prelude.{Bool, true, false, ◌==◌, Option, Some, None}
use Rattle.std.specs.List.{AllByRecursion}
use Rattle.std.proofs.lemmas.Bool.{eqb-false, eqb-true}
use Rattle.std.proofs.lemmas.List.{append-nil}
use Rattle.sync_rules.specs.declared.entries.Entry.{Entry}
use Rattle.entry_codec.specs.declared.naming.Format.{Format}
use Rattle.entry_codec.specs.Naming.{AreNames, IsNamed}
use Rattle.entry_codec.specs.Spelling.{EntryNames, IsEntry, IsOfFormat, spelling_in}
use Rattle.entry_codec.specs.Reading.{byte_in, entry_by, held_in}
use Rattle.entry_codec.specs.Payloads.{batch_in, entries_in, followed, put_before, spellings}
use Rattle.entry_codec.proofs.Bounds.{spelled_some}
use Rattle.entry_codec.proofs.FormatKinds.{kind_read}
use Rattle.entry_codec.proofs.LawProofs.{reads}
use Rattle.entry_codec.proofs.Readers.{IsBytes, IsBytes-rest}

-- ---- entries, one behind the other

-- an entry that can be written in a format, where these are the ids held
abbrev pub IsWritten : Format → List (List ℕ) → Entry → Type 0
IsWritten f names e = IsEntry e × EntryNames (IsNamed f names) e × IsOfFormat f e

-- bytes that spell these entries
pub record AreSpelled (f : Format) (names : List (List ℕ)) (bytes : List ℕ) (batch : List Entry) : Type 0 where
  pub is : bytes ≡ spellings f names batch
  pub written : AllByRecursion (IsWritten f names) batch

-- entries before those of an answer
abbrev pub put_all : List Entry → Option (List Entry) → Option (List Entry)
put_all es None = None
put_all es (Some others) = Some (es ++ others)

-- A reader has read these entries of some bytes, and this is left: the answer for all is that for the rest behind them.
pub record InBatch (f : Format) (names : List (List ℕ)) (bytes rest : List ℕ) (entries : List Entry) : Type 0 where
  pub more : ℕ
  pub answer : entries_in f names (length bytes) bytes ≡ put_all entries (entries_in f names more rest)
  pub enough : length rest ≤ more
  pub front : List ℕ
  pub split : bytes ≡ front ++ rest

put_some : (e : Entry) (o : Option (List Entry)) (es : List Entry) → put_before e o ≡ Some es → (others : List Entry) × (o ≡ Some others) × (e ∷ others ≡ es)
put_some e None es h = absurd cc
put_some e (Some others) es h = (others, refl, cc)

followed_some : (g : List ℕ → Option (List Entry)) (o : Option (Entry × List ℕ)) (es : List Entry) → followed g o ≡ Some es
    → (e : Entry) × (rest : List ℕ) × (others : List Entry) × (o ≡ Some (e, rest)) × (g rest ≡ Some others) × (e ∷ others ≡ es)
followed_some g None es h = absurd cc
followed_some g (Some x) es h = let p = put_some x.0 (g x.1) es h in (x.0, x.1, p.0, refl, p.1, p.2)

put_none : (o : Option (List Entry)) → o ≡ put_all [] o
put_none None = refl
put_none (Some es) = refl

put_push : (es : List Entry) (e : Entry) (o : Option (List Entry)) → put_all es (put_before e o) ≡ put_all (es ++ e ∷ []) o
put_push es e None = refl
put_push es e (Some others) = ap (λ (l : List Entry). Some l) (sym (append_assoc es (e ∷ []) others))

whole_some : (bytes front rest : List ℕ) → bytes ≡ front ++ rest → 1 ≤ length rest → 1 ≤ length bytes
whole_some bytes front rest split some = omega (arith, ap length split, length-append front rest)

-- what can be written, part by part
pub written_by : (f : Format) (names : List (List ℕ)) (batch : List Entry) → AllByRecursion IsEntry batch → AllByRecursion (EntryNames (IsNamed f names)) batch
    → AllByRecursion (IsOfFormat f) batch → AllByRecursion (IsWritten f names) batch
written_by f names [] within named kinds = tt
written_by f names (e ∷ es) within named kinds = ((within.0, named.0, kinds.0), written_by f names es within.1 named.1 kinds.1)

pub written_within : (f : Format) (names : List (List ℕ)) (batch : List Entry) → AllByRecursion (IsWritten f names) batch → AllByRecursion IsEntry batch
written_within f names [] all = tt
written_within f names (e ∷ es) all = (all.0.0, written_within f names es all.1)

pub written_named : (f : Format) (names : List (List ℕ)) (batch : List Entry) → AllByRecursion (IsWritten f names) batch → AllByRecursion (EntryNames (IsNamed f names)) batch
written_named f names [] all = tt
written_named f names (e ∷ es) all = (all.0.1, written_named f names es all.1)

pub written_kinds : (f : Format) (names : List (List ℕ)) (batch : List Entry) → AllByRecursion (IsWritten f names) batch → AllByRecursion (IsOfFormat f) batch
written_kinds f names [] all = tt
written_kinds f names (e ∷ es) all = (all.0.2, written_kinds f names es all.1)

-- ---- the kinds of a batch that is read

entries_kinds : (f : Format) (names : List (List ℕ)) (n : ℕ) (bytes : List ℕ) (batch : List Entry) → entries_in f names n bytes ≡ Some batch → AllByRecursion (IsOfFormat f) batch
unfolding entries_in
entries_kinds f names zero [] batch h = let none : [] ≡ batch = cc in subst (AllByRecursion (IsOfFormat f)) none tt
entries_kinds f names (suc n) [] batch h = let none : [] ≡ batch = cc in subst (AllByRecursion (IsOfFormat f)) none tt
entries_kinds f names zero (x ∷ bytes) batch h = absurd cc
entries_kinds f names (suc n) (x ∷ bytes) batch h =
    let p = followed_some (entries_in f names n) (entry_by f (held_in f names) (x ∷ bytes)) batch h in
    subst (AllByRecursion (IsOfFormat f)) p.5 (kind_read f (held_in f names) (x ∷ bytes) p.1 p.0 p.3, entries_kinds f names n p.1 p.2 p.4)

-- they are those that the format has
pub batch_kinds : (f : Format) (names : List (List ℕ)) (bytes : List ℕ) (batch : List Entry) → batch_in f names bytes ≡ Some batch → AllByRecursion (IsOfFormat f) batch
unfolding batch_in
batch_kinds f names [] batch h = absurd cc
batch_kinds f names (x ∷ bytes) batch h = entries_kinds f names (length (x ∷ bytes)) (x ∷ bytes) batch h

module _ (f : Format) (names : List (List ℕ)) (are : AreNames names) where
  -- nothing begins with an entry
  none_empty : (e : Entry) (rest : List ℕ) → entry_by f (held_in f names) [] ≡ Some (e, rest) → ⊥
  unfolding entry_by byte_in
  none_empty e rest h = cc

  entries_none : (n : ℕ) → entries_in f names n [] ≡ Some []
  unfolding entries_in
  entries_none zero = refl
  entries_none (suc n) = refl

  -- an entry is read
  entries_one : (n : ℕ) (bytes rest : List ℕ) (e : Entry) → entry_by f (held_in f names) bytes ≡ Some (e, rest)
      → entries_in f names (suc n) bytes ≡ put_before e (entries_in f names n rest)
  unfolding entries_in
  entries_one n [] rest e read = absurd (none_empty e rest read)
  entries_one n (x ∷ bytes) rest e read = ap (followed (entries_in f names n)) read

  -- no entry is read
  entries_bad : (n : ℕ) (bytes : List ℕ) → 1 ≤ length bytes → entry_by f (held_in f names) bytes ≡ None → entries_in f names n bytes ≡ None
  unfolding entries_in
  entries_bad n [] some read = absurd (omega arith)
  entries_bad zero (x ∷ bytes) some read = refl
  entries_bad (suc n) (x ∷ bytes) some read = ap (followed (entries_in f names n)) read

  -- ---- what is written is read

  entry_back : (e : Entry) (more : List ℕ) → IsWritten f names e → entry_by f (held_in f names) (spelling_in f names e ++ more) ≡ Some (e, more)
  unfolding spelling_in
  entry_back e more is = (reads f names are).back e more is

  entries_back : (n : ℕ) (batch : List Entry) → AllByRecursion (IsWritten f names) batch → length (spellings f names batch) ≤ n
      → entries_in f names n (spellings f names batch) ≡ Some batch
  entries_back n [] all enough = entries_none n
  entries_back zero (e ∷ es) all enough = absurd (omega (arith, spelled_some f names e all.0.0, length-append (spelling_in f names e) (spellings f names es)))
  entries_back (suc n) (e ∷ es) all enough =
      entries_one n (spelling_in f names e ++ spellings f names es) (spellings f names es) e (entry_back e (spellings f names es) all.0)
      ∙ ap (put_before e) (entries_back n es all.1 (omega (arith, spelled_some f names e all.0.0, length-append (spelling_in f names e) (spellings f names es))))

  batch_is : (bytes : List ℕ) → 1 ≤ length bytes → batch_in f names bytes ≡ entries_in f names (length bytes) bytes
  unfolding batch_in
  batch_is [] some = absurd (omega arith)
  batch_is (x ∷ bytes) some = refl

  some_payload : (batch : List Entry) → AllByRecursion (IsWritten f names) batch → 1 ≤ length batch → 1 ≤ length (spellings f names batch)
  some_payload [] all some = absurd (omega arith)
  some_payload (e ∷ es) all some = omega (arith, spelled_some f names e all.0.0, length-append (spelling_in f names e) (spellings f names es))

  pub batch_back : (batch : List Entry) → AllByRecursion (IsWritten f names) batch → 1 ≤ length batch → batch_in f names (spellings f names batch) ≡ Some batch
  batch_back batch all some =
      batch_is (spellings f names batch) (some_payload batch all some) ∙ entries_back (length (spellings f names batch)) batch all (omega arith)

  -- ---- what is read was written

  entry_found : (bytes rest : List ℕ) (e : Entry) → IsBytes bytes → entry_by f (held_in f names) bytes ≡ Some (e, rest)
      → IsWritten f names e × (bytes ≡ spelling_in f names e ++ rest)
  unfolding spelling_in
  entry_found bytes rest e fits h = (reads f names are).sound bytes rest e fits h

  entries_spelled : (n : ℕ) (bytes : List ℕ) (batch : List Entry) → IsBytes bytes → entries_in f names n bytes ≡ Some batch → AreSpelled f names bytes batch
  unfolding entries_in
  entries_spelled zero [] batch fits h =
      let none : [] ≡ batch = cc in
      subst (λ (b : List Entry). AreSpelled f names [] b) none (record { is = refl; written = tt })
  entries_spelled (suc n) [] batch fits h =
      let none : [] ≡ batch = cc in
      subst (λ (b : List Entry). AreSpelled f names [] b) none (record { is = refl; written = tt })
  entries_spelled zero (x ∷ bytes) batch fits h = absurd cc
  entries_spelled (suc n) (x ∷ bytes) batch fits h =
      let p = followed_some (entries_in f names n) (entry_by f (held_in f names) (x ∷ bytes)) batch h in
      let found = entry_found (x ∷ bytes) p.1 p.0 fits p.3 in
      let behind = entries_spelled n p.1 p.2 (IsBytes-rest (x ∷ bytes) (spelling_in f names p.0) p.1 found.1 fits) p.4 in
      let all : AreSpelled f names (x ∷ bytes) (p.0 ∷ p.2) = record {
        is = found.1 ∙ ap (λ (l : List ℕ). spelling_in f names p.0 ++ l) behind.is;
        written = (found.0, behind.written);
      } in
      subst (λ (b : List Entry). AreSpelled f names (x ∷ bytes) b) p.5 all

  pub batch_spelled : (bytes : List ℕ) (batch : List Entry) → IsBytes bytes → batch_in f names bytes ≡ Some batch → AreSpelled f names bytes batch
  unfolding batch_in
  batch_spelled [] batch fits h = absurd cc
  batch_spelled (x ∷ bytes) batch fits h = entries_spelled (length (x ∷ bytes)) (x ∷ bytes) batch fits h

  -- ---- a reader of entries

  pub in_none : (bytes : List ℕ) → InBatch f names bytes bytes []
  in_none bytes = record { more = length bytes; answer = put_none (entries_in f names (length bytes) bytes); enough = omega arith; front = []; split = refl }

  -- the rest is shorter
  pub rest_shorter : (bytes rest left : List ℕ) (entries : List Entry) (e : Entry) → IsBytes bytes → InBatch f names bytes rest entries
      → entry_by f (held_in f names) rest ≡ Some (e, left) → length left < length rest
  rest_shorter bytes rest left entries e fits read h =
      let found = entry_found rest left e (IsBytes-rest bytes read.front rest read.split fits) h in
      omega (arith, spelled_some f names e found.0.0, ap length found.1, length-append (spelling_in f names e) left)

  in_push : (bytes rest left : List ℕ) (entries : List Entry) (e : Entry) (more : ℕ) (front : List ℕ)
      → entries_in f names (length bytes) bytes ≡ put_all entries (entries_in f names more rest)
      → length left < length rest → length rest ≤ more → bytes ≡ front ++ rest → rest ≡ spelling_in f names e ++ left
      → entry_by f (held_in f names) rest ≡ Some (e, left) → InBatch f names bytes left (entries ++ e ∷ [])
  in_push bytes rest left entries e zero front answer shorter enough split found h = absurd (omega arith)
  in_push bytes rest left entries e (suc more) front answer shorter enough split found h = record {
    more = more;
    answer = answer ∙ ap (put_all entries) (entries_one more rest left e h) ∙ put_push entries e (entries_in f names more left);
    enough = omega arith;
    front = front ++ spelling_in f names e;
    split = split ∙ ap (λ (l : List ℕ). front ++ l) found ∙ sym (append_assoc front (spelling_in f names e) left);
  }

  -- one entry more
  pub in_more : (bytes rest left : List ℕ) (entries : List Entry) (e : Entry) → IsBytes bytes → InBatch f names bytes rest entries
      → entry_by f (held_in f names) rest ≡ Some (e, left) → InBatch f names bytes left (entries ++ e ∷ [])
  in_more bytes rest left entries e fits read h =
      in_push bytes rest left entries e read.more read.front read.answer (rest_shorter bytes rest left entries e fits read h) read.enough read.split
      (entry_found rest left e (IsBytes-rest bytes read.front rest read.split fits) h).1 h

  -- no entry is there: the bytes are no batch
  pub in_bad : (bytes rest : List ℕ) (entries : List Entry) → InBatch f names bytes rest entries → 1 ≤ length rest → entry_by f (held_in f names) rest ≡ None
      → batch_in f names bytes ≡ None
  in_bad bytes rest entries read some h =
      batch_is bytes (whole_some bytes read.front rest read.split some) ∙ read.answer ∙ ap (put_all entries) (entries_bad read.more rest some h)

  in_all : (bytes rest : List ℕ) (entries : List Entry) → InBatch f names bytes rest entries → rest ≡ [] → entries_in f names (length bytes) bytes ≡ Some entries
  in_all bytes rest entries read none =
      read.answer ∙ ap (λ (l : List ℕ). put_all entries (entries_in f names read.more l)) none ∙ ap (put_all entries) (entries_none read.more)
      ∙ ap (λ (l : List Entry). Some l) (append-nil entries)

  -- all entries were read
  pub in_done : (bytes rest : List ℕ) (entries : List Entry) → InBatch f names bytes rest entries → rest ≡ [] → 1 ≤ length entries
      → batch_in f names bytes ≡ Some entries
  unfolding batch_in entries_in
  in_done [] rest entries read none some = let clash : Some [] ≡ Some entries = in_all [] rest entries read none in let is : [] ≡ entries = cc in absurd (omega (arith, ap length is))
  in_done (x ∷ bytes) rest entries read none some = in_all (x ∷ bytes) rest entries read none

  -- there was no entry
  pub in_empty : (bytes rest : List ℕ) (entries : List Entry) → IsBytes bytes → InBatch f names bytes rest entries → rest ≡ [] → entries ≡ []
      → batch_in f names bytes ≡ None
  unfolding batch_in
  in_empty [] rest entries fits read none empty = refl
  in_empty (x ∷ bytes) rest entries fits read none empty =
      let is = entries_spelled (length (x ∷ bytes)) (x ∷ bytes) entries fits (in_all (x ∷ bytes) rest entries read none) in
      absurd (omega (arith, ap length (is.is ∙ ap (spellings f names) empty)))

-- ---- what is left of the bytes

pub none_left : (rest : List ℕ) (t : Bool) → t ≡ (length rest == 0) → t ≡ true → rest ≡ []
none_left [] t is full = refl
none_left (x ∷ rest) t is full = let clash : (length (x ∷ rest) == 0) ≡ true = sym is ∙ full in absurd (omega (arith, eqb-true (length (x ∷ rest)) 0 clash))

pub some_left : (rest : List ℕ) (t : Bool) → t ≡ (length rest == 0) → t ≡ false → 1 ≤ length rest
some_left rest t is no_more = omega (arith, eqb-false (length rest) 0 (sym is ∙ no_more))

pub some_entries : (entries : List Entry) → (entries ≡ [] → ⊥) → 1 ≤ length entries
some_entries [] ne = absurd (ne refl)
some_entries (e ∷ es) ne = omega arith
