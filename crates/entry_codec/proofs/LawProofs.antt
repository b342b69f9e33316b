-- What holds of all spellings.
use Rattle.std.proofs.Common.{◌≡◌, ℕ, ◌+◌, ◌≤◌, List, [], ◌∷◌, ◌++◌, length, take, drop, refl, sym, ap, ◌∙◌, arith, length-append}
use Rattle.std.specs.Prelude.{Some, None}
use Rattle.std.specs.List.{AllByRecursion}
use Rattle.std.proofs.lemmas.List.{append-nil, length-take-le, take_at, take-append-drop}
use Rattle.sync_rules.specs.declared.entries.Entry.{Entry}
use Rattle.entry_codec.specs.declared.lengths.TheConstants.{MAX_SPELLING}
use Rattle.entry_codec.specs.declared.naming.Format.{Format}
use Rattle.entry_codec.specs.declared.naming.Format.TheVariants as format
use Rattle.entry_codec.specs.Naming.{AreNames, IsNamed, held_bytes}
use Rattle.entry_codec.specs.Payloads.{payload_len, spellings}
use Rattle.entry_codec.specs.Spelling.{EntryNames, IsEntry, IsOfFormat, SpellsEntry, SpellsIn, entry_bytes, spelling, spelling_in}
use Rattle.entry_codec.specs.Reading.{entry_by, held_in}
use Rattle.entry_codec.specs.Laws.{IsReadIn}
use Rattle.entry_codec.specs.declared.reading.EntryFound.{EntryFound}
use Rattle.entry_codec.specs.declared.reading.EntryFound.TheVariants as found
use Rattle.entry_codec.proofs.Entries.{entry_reads}
use Rattle.entry_codec.proofs.Bounds.{ids_whole, same_short, saved, short, short_some}
use Rattle.entry_codec.proofs.Places.{held_reads}
use Rattle.entry_codec.proofs.Readers.{IsBytes, IsReader, part, part_is}

-- ---- in a format, where these are the ids held

module _ (f : Format) (names : List (List ℕ)) (are : AreNames names) where
  pub reads : IsReader (entry_bytes (held_bytes f names)) (λ e. IsEntry e × EntryNames (IsNamed f names) e × IsOfFormat f e) (entry_by f (held_in f names))
  reads = entry_reads (held_bytes f names) (IsNamed f names) (held_in f names) (held_reads f names are) f

  spelled_read : (e : Entry) (bytes more : List ℕ) → SpellsIn f names e bytes → entry_by f (held_in f names) (bytes ++ more) ≡ Some (e, more)
  unfolding spelling_in
  spelled_read e bytes more s = ap (λ (b : List ℕ). entry_by f (held_in f names) (b ++ more)) s.is ∙ reads.back e more (s.within, s.named, s.kind)

  -- two entries at the front of the same bytes are one
  one_front : (e d : Entry) (a b x y : List ℕ) → SpellsIn f names e a → SpellsIn f names d b → a ++ x ≡ b ++ y → (e ≡ d) × (x ≡ y)
  one_front e d a b x y s t same =
      part_is e d x y (sym (spelled_read e a x s) ∙ ap (entry_by f (held_in f names)) same ∙ spelled_read d b y t)

  pub none_begins : (e d : Entry) (bytes more : List ℕ) → SpellsIn f names e bytes → SpellsIn f names d (bytes ++ more) → (e ≡ d) × (more ≡ [])
  none_begins e d bytes more s t = one_front e d bytes (bytes ++ more) more [] s t (sym (append-nil (bytes ++ more)))

  pub read_back : (e : Entry) (bytes more : List ℕ) (read : EntryFound) → SpellsIn f names e bytes → IsReadIn f names (bytes ++ more) read → read ≡ found.One e (length bytes)
  read_back e bytes more (found.One d used) s is =
      let all : List ℕ = bytes ++ more in
      let split : bytes ++ more ≡ take used all ++ drop used all = sym (take-append-drop used all) in
      let one = one_front e d bytes (take used all) more (drop used all) s is.1 split in
      let len : length (take used all) ≡ used = length-take-le used all is.0 in
      let same : spelling_in f names e ≡ spelling_in f names d = ap (spelling_in f names) one.0 in
      let long : length bytes ≡ used = ap length (s.is ∙ same ∙ sym is.1.is) ∙ len in
      sym (ap (λ (x : Entry). found.One x (length bytes)) one.0 ∙ ap (λ (n : ℕ). found.One d n) long)
  read_back e bytes more found.BadEntry s is =
      absurd (is e (length bytes) (let front : take (length bytes) (bytes ++ more) ≡ bytes = take_at bytes more (length bytes) refl in rw front s))

  -- what is left is no longer than the bytes
  pub found_short : (bytes rest : List ℕ) (e : Entry) → IsBytes bytes → entry_by f (held_in f names) bytes ≡ Some (e, rest) → length rest ≤ length bytes
  found_short bytes rest e fits h =
      let s = reads.sound bytes rest e fits h in
      let len : length bytes ≡ length (entry_bytes (held_bytes f names) e) + length rest = ap length s.1 ∙ length-append (entry_bytes (held_bytes f names) e) rest in
      omega arith

  -- what the reader of an entry answers
  pub found_is : (bytes rest : List ℕ) (e : Entry) (used : ℕ) → IsBytes bytes → entry_by f (held_in f names) bytes ≡ Some (e, rest) → used + length rest ≡ length bytes
      → IsReadIn f names bytes (found.One e used)
  unfolding spelling_in
  found_is bytes rest e used fits h left =
      let s = reads.sound bytes rest e fits h in
      let spelled : List ℕ = entry_bytes (held_bytes f names) e in
      let len : length bytes ≡ length spelled + length rest = ap length s.1 ∙ length-append spelled rest in
      let width : length spelled ≡ used = omega arith in
      let front : take used bytes ≡ spelled = ap (take used) s.1 ∙ take_at spelled rest used width in
      (omega (arith, len), record { kind = s.0.2; within = s.0.0; named = s.0.1; is = front })

  pub bad_is : (bytes : List ℕ) → entry_by f (held_in f names) bytes ≡ None → IsReadIn f names bytes found.BadEntry
  bad_is bytes none e used s =
      let read : entry_by f (held_in f names) bytes ≡ Some (e, drop used bytes) =
      ap (entry_by f (held_in f names)) (sym (take-append-drop used bytes)) ∙ spelled_read e (take used bytes) (drop used bytes) s in
      let clash : None ≡ part e (drop used bytes) = sym none ∙ read in
      absurd cc

-- ---- lengths

pub short_spelling : (e : Entry) (bytes : List ℕ) → SpellsEntry e bytes → (2 ≤ length bytes) × (length bytes ≤ MAX_SPELLING)
unfolding spelling spelling_in
short_spelling e bytes s = let bounds = short e s.within in let len : length bytes ≡ length (spelling e) = ap length s.is in (omega (arith, bounds.0, len), omega (arith, bounds.1, len))

pub not_longer : (names : List (List ℕ)) (e : Entry) → IsEntry e
    → (2 ≤ length (spelling_in format.Short names e)) × (length (spelling_in format.Short names e) ≤ length (spelling e))
not_longer names e is = (short_some names e, omega (arith, saved names e (ids_whole e is)))

-- the length of a spelling does not depend on the names
pub spelled_len : (f : Format) (names : List (List ℕ)) (e : Entry) → length (spelling_in f names e) ≡ length (spelling_in f [] e)
unfolding spelling_in
spelled_len format.Whole names e = refl
spelled_len format.Short names e = same_short names e

pub batch_len_same : (f : Format) (names : List (List ℕ)) (batch : List Entry) → length (spellings f names batch) ≡ payload_len f batch
batch_len_same f names [] = refl
batch_len_same f names (e ∷ es) =
    omega (
      arith,
      length-append (spelling_in f names e) (spellings f names es),
      length-append (spelling_in f [] e) (spellings f [] es),
      spelled_len f names e,
      batch_len_same f names es,
    )

pub batch_not_longer : (batch : List Entry) → AllByRecursion IsEntry batch → payload_len format.Short batch ≤ payload_len format.Whole batch
unfolding spelling spelling_in
batch_not_longer [] all = omega arith
batch_not_longer (e ∷ es) all =
    omega (
      arith,
      (not_longer [] e all.0).1,
      batch_not_longer es all.1,
      length-append (spelling_in format.Whole [] e) (spellings format.Whole [] es),
      length-append (spelling_in format.Short [] e) (spellings format.Short [] es),
    )
