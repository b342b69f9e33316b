-- A definition, and what a body says, is read from its spelling and from nothing else.
use Rattle.std.proofs.Common.{◌≡◌, ℕ, ◌+◌, ◌-◌, ◌^◌, ◌<◌, ◌≤◌, Bool, true, false, cond, ◌&&◌, nat_eq}
use Rattle.std.proofs.Common.{List, [], ◌∷◌, ◌++◌, length, take, drop, refl, sym, ap, subst, ◌∙◌, arith}
use Rattle.std.proofs.Common.{append-nil, drop-drop, eq-eqb, eqb-true, length-drop, lt-ltb}
use Rattle.std.specs.Prelude.{Option, Some, None}
use Rattle.std.specs.Int.{w32, to_be_bytes, from_be_bytes}
use Rattle.std.specs.Cmp.Lexicographic.{pointwise, bytes_decides}
use Rattle.std.proofs.Math.ListN.{drop_of_length-le}
use Rattle.std.proofs.Math.Seq.{take-length}
use Rattle.std.proofs.lemmas.Bool.{and_from, and_parts, le-leb, leb-true, ltb-true}
use Rattle.std.proofs.lemmas.List.{drop_at, length-take-le, take-append-drop, take_at}
use Rattle.std.proofs.lemmas.Nat.{from_be_bytes-to_be_bytes_4}
use Rattle.std.proofs.lemmas.Str.{IsUtf8-from_is_utf8, is_utf8-from_IsUtf8}
use Rattle.sync_ids.specs.Values.{GroupValue}
use Rattle.sync_ids.specs.declared.def.TheConstants.{MAX_DESCRIPTOR, MAX_NAME}
use Rattle.sync_rules.specs.declared.entries.Entry.{Entry}
use Rattle.sync_rules.specs.declared.entries.Entry.TheVariants as entry
use Rattle.entry_codec.specs.Naming.{AreNames}
use Rattle.entry_codec.specs.Spelling.{IsDef, SpellsEntry, counted, def_bytes, spelling_in}
use Rattle.entry_codec.specs.declared.naming.Format.TheVariants as format
use Rattle.entry_codec.specs.Laws.{IsEntryRead, EntriesReadBack}
use Rattle.entry_codec.specs.declared.reading.EntryFound.{EntryFound}
use Rattle.entry_codec.specs.declared.reading.EntryFound.TheVariants as found
use Rattle.client_sharing.specs.declared.bodies.Saying.{Saying}
use Rattle.client_sharing.specs.Bodies.{IsSaying, saying_body, def_cut, def_of, is_def, saying_by}
use Rattle.client_sharing.specs.Bodies.{saying_of}
use Rattle.client_sharing.specs.Bodies.{stance_byte, stance_of, whole_def}

some_same : {A : Type 0} → (a b : A) → Some a ≡ Some b → a ≡ b
some_same a b e = cc

-- ---- definitions

-- what stands behind the name in the spelling of a definition
abbrev behind_name : GroupValue → List ℕ
behind_name d = to_be_bytes w32 d.major ++ counted d.descriptor

cut_back : (d : GroupValue) → IsDef d → def_cut (def_bytes d) ≡ d
cut_back d is =
    let n : ℕ = length d.name in
    let names : take n (d.name ++ behind_name d) ≡ d.name = take_at d.name (behind_name d) n refl in
    let behind : drop n (d.name ++ behind_name d) ≡ behind_name d = drop_at d.name (behind_name d) n refl in
    let four : take 4 (behind_name d) ≡ to_be_bytes w32 d.major =
    take_at (to_be_bytes w32 d.major) (counted d.descriptor) 4 refl in
    let majors : from_be_bytes w32 (take 4 (drop n (d.name ++ behind_name d))) ≡ d.major =
    ap (λ (b : List ℕ). from_be_bytes w32 (take 4 b)) behind ∙ ap (from_be_bytes w32) four
    ∙ from_be_bytes-to_be_bytes_4 d.major is.within.major_fits in
    let descriptors : drop (n + 6) (d.name ++ behind_name d) ≡ d.descriptor =
    sym (drop-drop 6 n (d.name ++ behind_name d)) ∙ ap (drop 6) behind in
    λ i. record { name = names i; major = majors i; descriptor = descriptors i }

is_def-from : (d : GroupValue) → IsDef d → is_def d ≡ true
is_def-from d is =
    let some = lt-ltb 0 (length d.name) is.within.some_name in
    let short = le-leb (length d.name) MAX_NAME is.within.short_name in
    let utf8 = is_utf8-from_IsUtf8 d.name is.utf8_name in
    let fits = lt-ltb d.major (2 ^ 32) is.within.major_fits in
    let few = le-leb (length d.descriptor) MAX_DESCRIPTOR is.within.short_descriptor in
    and_from _ _ some (and_from _ _ short (and_from _ _ utf8 (and_from _ _ fits few)))

is_def-told : (d : GroupValue) → is_def d ≡ true → IsDef d
is_def-told d e =
    let a = and_parts _ _ e in
    let b = and_parts _ _ a.1 in
    let c = and_parts _ _ b.1 in
    let last = and_parts _ _ c.1 in
    record {
      within = record {
        some_name = ltb-true 0 (length d.name) a.0;
        short_name = leb-true (length d.name) MAX_NAME b.0;
        major_fits = ltb-true d.major (2 ^ 32) last.0;
        short_descriptor = leb-true (length d.descriptor) MAX_DESCRIPTOR last.1;
      };
      utf8_name = IsUtf8-from_is_utf8 d.name c.0;
    }

-- whether these bytes spell what is cut from them
abbrev spells_cut : List ℕ → Bool
spells_cut bytes = is_def (def_cut bytes) && pointwise nat_eq bytes (def_bytes (def_cut bytes))

pub def_back : (d : GroupValue) → IsDef d → def_of (def_bytes d) ≡ Some d
unfolding def_of
def_back d is =
    let cut : def_cut (def_bytes d) ≡ d = cut_back d is in
    let same : pointwise nat_eq (def_bytes d) (def_bytes (def_cut (def_bytes d))) ≡ true =
    (bytes_decides (def_bytes d) (def_bytes (def_cut (def_bytes d)))).1 (sym (ap def_bytes cut)) in
    let test : spells_cut (def_bytes d) ≡ true =
    and_from (is_def (def_cut (def_bytes d))) (pointwise nat_eq (def_bytes d) (def_bytes (def_cut (def_bytes d))))
    (ap is_def cut ∙ is_def-from d is) same in
    ap (λ (t : Bool). cond t (Some (def_cut (def_bytes d))) None) test ∙ ap (λ (x : GroupValue). Some x) cut

pub def_told : (bytes : List ℕ) (d : GroupValue) → def_of bytes ≡ Some d → IsDef d × (bytes ≡ def_bytes d)
unfolding def_of
def_told bytes d e = go (spells_cut bytes) refl e where
  go : (t : Bool) → spells_cut bytes ≡ t → cond t (Some (def_cut bytes)) None ≡ Some d → IsDef d × (bytes ≡ def_bytes d)
  go false f h = absurd cc
  go true f h =
      let cut : def_cut bytes ≡ d = some_same (def_cut bytes) d h in
      let parts = and_parts (is_def (def_cut bytes)) (pointwise nat_eq bytes (def_bytes (def_cut bytes))) f in
      let same : bytes ≡ def_bytes (def_cut bytes) = (bytes_decides bytes (def_bytes (def_cut bytes))).0 parts.1 in
      (subst (λ (x : GroupValue). IsDef x) cut (is_def-told (def_cut bytes) parts.0), same ∙ ap def_bytes cut)

-- ---- what the reader of an entry finds behind the tag of a group

-- an entry that takes all of these bytes
all_spelled : (bytes : List ℕ) (d : GroupValue) (used : ℕ) → used ≡ length (2 ∷ bytes)
    → SpellsEntry (entry.Group d) (take used (2 ∷ bytes)) → def_of bytes ≡ Some d
unfolding spelling_in
all_spelled bytes d used all s =
    let front : take used (2 ∷ bytes) ≡ 2 ∷ bytes =
    ap (λ (n : ℕ). take n (2 ∷ bytes)) all ∙ take-length (2 ∷ bytes) in
    let same : 2 ∷ bytes ≡ 2 ∷ def_bytes d = sym front ∙ s.is in
    let rest : bytes ≡ def_bytes d = cc in
    ap def_of rest ∙ def_back d s.within

-- no definition is found where these bytes spell none
none_found : (bytes : List ℕ) (e : Entry) (used : ℕ) → SpellsEntry e (take used (2 ∷ bytes)) → def_of bytes ≡ None
    → whole_def (length (2 ∷ bytes)) (found.One e used) ≡ None
none_found bytes (entry.Group d) used s none = go (nat_eq used (length (2 ∷ bytes))) refl where
  go : (b : Bool) → nat_eq used (length (2 ∷ bytes)) ≡ b → cond b (Some d) None ≡ None
  go true e =
      let some : def_of bytes ≡ Some d = all_spelled bytes d used (eqb-true used (length (2 ∷ bytes)) e) s in
      absurd cc
  go false e = refl
none_found bytes _ used s none = refl

no_names : AreNames []
no_names = record { distinct = refl; whole = tt; few = omega arith }

pub found_def : (bytes : List ℕ) (f : EntryFound) → EntriesReadBack → IsEntryRead (2 ∷ bytes) f
    → whole_def (length (2 ∷ bytes)) f ≡ def_of bytes
unfolding spelling_in
found_def bytes f back is = go (def_of bytes) refl where
  none : (x : EntryFound) → IsEntryRead (2 ∷ bytes) x → def_of bytes ≡ None → whole_def (length (2 ∷ bytes)) x ≡ None
  none (found.One e used) read e' = none_found bytes e used read.1 e'
  none found.BadEntry read e' = refl

  go : (o : Option GroupValue) → def_of bytes ≡ o → whole_def (length (2 ∷ bytes)) f ≡ def_of bytes
  go None e = none f is e ∙ sym e
  go (Some d) e =
      let told = def_told bytes d e in
      let whole : ℕ = length (2 ∷ bytes) in
      let spelled : SpellsEntry (entry.Group d) (2 ∷ bytes) =
      record { kind = tt; within = told.0; named = tt; is = ap (λ (l : List ℕ). 2 ∷ l) told.1 } in
      let same : f ≡ found.One (entry.Group d) whole =
      back format.Whole [] no_names (entry.Group d) (2 ∷ bytes) [] f spelled (subst (λ (l : List ℕ). IsEntryRead l f) (sym (append-nil (2 ∷ bytes))) is) in
      ap (whole_def whole) same ∙ ap (λ (b : Bool). cond b (Some d) None) (eq-eqb whole whole refl) ∙ sym e

-- ---- bodies

stance_back : (join : Bool) → stance_of (stance_byte join) ≡ Some join
stance_back true = refl
stance_back false = refl

stance_told : (byte : ℕ) (join : Bool) → stance_of byte ≡ Some join → byte ≡ stance_byte join
stance_told byte join e = go (nat_eq byte 1) (nat_eq byte 2) refl refl e where
  go : (a b : Bool) → nat_eq byte 1 ≡ a → nat_eq byte 2 ≡ b → cond a (Some true) (cond b (Some false) None) ≡ Some join
      → byte ≡ stance_byte join
  go true b x y h = eqb-true byte 1 x ∙ ap stance_byte (some_same true join h)
  go false true x y h = eqb-true byte 2 y ∙ ap stance_byte (some_same false join h)
  go false false x y h = absurd cc

saying_back : (s : Saying) → length s.previous ≡ 32 → IsDef s.def → saying_of (saying_body s)
    ≡ Some s
unfolding saying_of
saying_back s whole is =
    let front : take 32 (s.previous ++ def_bytes s.def) ≡ s.previous = take_at s.previous (def_bytes s.def) 32 whole in
    let behind : drop 32 (s.previous ++ def_bytes s.def) ≡ def_bytes s.def = drop_at s.previous (def_bytes s.def) 32 whole in
    let def : def_of (drop 32 (s.previous ++ def_bytes s.def)) ≡ Some s.def = ap def_of behind ∙ def_back s.def is in
    ap (λ (o : Option Bool). saying_by o (take 32 (s.previous ++ def_bytes s.def)) (def_of (drop 32 (s.previous ++ def_bytes s.def)))) (stance_back s.join)
    ∙ ap (λ (p : List ℕ). saying_by (Some s.join) p (def_of (drop 32 (s.previous ++ def_bytes s.def)))) front
    ∙ ap (λ (o : Option GroupValue). saying_by (Some s.join) s.previous o) def

saying_told : (body : List ℕ) (s : Saying) → saying_of body ≡ Some s → IsSaying s body
unfolding saying_of
saying_told [] s e = absurd cc
saying_told (byte ∷ rest) s e = go (stance_of byte) (def_of (drop 32 rest)) refl refl e where
  go : (o : Option Bool) (q : Option GroupValue) → stance_of byte ≡ o → def_of (drop 32 rest) ≡ q
      → saying_by o (take 32 rest) q ≡ Some s → IsSaying s (byte ∷ rest)
  go None q x y h = absurd cc
  go (Some join) None x y h = absurd cc
  go (Some join) (Some def) x y h =
      let told = def_told (drop 32 rest) def y in
      let long : length (drop 32 rest) ≡ length rest - 32 = length-drop 32 rest in
      let some : length (drop 32 rest) ≡ length (def_bytes def) = ap length told.1 in
      let here : Saying = record { join = join; previous = take 32 rest; def = def } in
      let same : here ≡ s = some_same here s h in
      subst (λ (z : Saying). IsSaying z (byte ∷ rest)) same (record {
        whole_id = length-take-le 32 rest (omega arith);
        within = told.0;
        is =
            ap (λ (n : ℕ). n ∷ rest) (stance_told byte join x)
            ∙ ap (λ (l : List ℕ). stance_byte join ∷ l) (sym (take-append-drop 32 rest))
            ∙ ap (λ (l : List ℕ). stance_byte join ∷ (take 32 rest ++ l)) told.1;
      })

pub saying_spelled : (body : List ℕ) (s : Saying) → (saying_of body ≡ Some s → IsSaying s body) × (IsSaying s body → saying_of body ≡ Some s)
saying_spelled body s = (saying_told body s, λ is. ap saying_of is.is ∙ saying_back s is.whole_id is.within)

-- ---- what is read of a body

pub saying_none : (body : List ℕ) → length body ≡ 0 → None ≡ saying_of body
unfolding saying_of
saying_none [] none = refl
saying_none (byte ∷ rest) none = absurd (omega arith)

pub saying_first : (body : List ℕ) (byte : ℕ) (rest : List ℕ) (o : Option Bool) (q : Option GroupValue) → body ≡ byte ∷ rest
    → stance_of byte ≡ o → def_of (drop 32 rest) ≡ q → saying_by o (take 32 rest) q ≡ saying_of body
unfolding saying_of
saying_first body byte rest o q e stance def =
    ap (λ (x : Option Bool). saying_by x (take 32 rest) q) (sym stance)
    ∙ ap (saying_by (stance_of byte) (take 32 rest)) (sym def) ∙ ap saying_of (sym e)

no_stance : (id : List ℕ) (q : Option GroupValue) → None ≡ saying_by None id q
no_stance id q = refl

no_def : (o : Option Bool) (id : List ℕ) → None ≡ saying_by o id None
no_def None id = refl
no_def (Some join) id = refl

-- no stance
pub saying_no_stance : (body : List ℕ) (byte : ℕ) (rest : List ℕ) → body ≡ byte ∷ rest → stance_of byte ≡ None → None ≡ saying_of body
saying_no_stance body byte rest e stance =
    no_stance (take 32 rest) (def_of (drop 32 rest)) ∙ saying_first body byte rest None (def_of (drop 32 rest)) e stance refl

-- no definition
pub saying_no_def : (body : List ℕ) (byte : ℕ) (rest : List ℕ) → body ≡ byte ∷ rest → def_of (drop 32 rest) ≡ None → None ≡ saying_of body
saying_no_def body byte rest e def =
    no_def (stance_of byte) (take 32 rest) ∙ saying_first body byte rest (stance_of byte) None e refl def

def_of_none : def_of [] ≡ None
unfolding def_of
def_of_none = refl

-- the id is not whole
pub saying_short : (body : List ℕ) (byte : ℕ) (rest : List ℕ) → body ≡ byte ∷ rest → length rest < 32 → None ≡ saying_of body
saying_short body byte rest e short =
    saying_no_def body byte rest e (let past : length rest ≤ 32 = omega arith in ap def_of (drop_of_length-le rest past) ∙ def_of_none)
