-- Lines as the held messages, and what became of them.
use Rattle.std.proofs.Common.{◌≡◌, ◌≢◌, ℕ, zero, suc, ◌<◌, ◌⊎◌, Bool, true, false, cond, ◌&&◌, ◌||◌, List, [], ◌∷◌, ◌++◌, length, map, Option, Some, None, refl, sym, ◌∙◌, ap, subst, inl, inr, arith, slice_index_or, is_some}
use Rattle.std.specs.FinSet as fin_set
use Rattle.std.specs.Cmp.Lexicographic.{nat_list_cmp_total, texts_ties}
use Rattle.std.specs.List.{AllByRecursion, list_any, slice_get}
use Rattle.std.specs.Option.{option_map}
use Rattle.std.specs.Ordering.{is_eq}
use Rattle.std.proofs.lemmas.Bool.{false≢true, or_left, or_parts, or_right}
use Rattle.sync_rules.specs.Consistency.{ids_of_held}
use Rattle.sync_rules.specs.Facts.{Held, Id, held_at, id_cmp, is_held}
use Rattle.sync_rules.specs.Lists.{has_repeat, is_among, same_id}
use Rattle.sync_rules.specs.Views.{IsFound, place_of}
use Rattle.sync_rules.proofs.Elements.{same_id-is, same_id_itself, same_id_swap}
use Rattle.sync_rules.proofs.Sound.{contains-more}
use Rattle.journal_audit.specs.declared.messages.Line.{Line}
use Rattle.journal_audit.specs.Lines.{held_in, held_of, id_at, ids_flagged, invalid_in}
use Rattle.journal_audit.specs.Lines.{invalid_line, judged_in, judged_line, line_changed}
use Rattle.sync_rules.proofs.PlaceLaws.{place_found}

-- ---- lines by number

pub get_held : (ls : List Line) (n : ℕ) (l : Line) → slice_get ls n ≡ Some l → slice_get (held_in ls) n ≡ Some (held_of l)
get_held [] n l at = cc
get_held (x ∷ ls) zero l at = let same : x ≡ l = cc in ap (λ (y : Line). Some (held_of y)) same
get_held (x ∷ ls) (suc n) l at = get_held ls n l at

-- the line of a held message
pub record HasLine (ls : List Line) (n : ℕ) (h : Held) : Type 0 where
  pub line : Line
  pub at : slice_get ls n ≡ Some line
  pub is : h ≡ held_of line

pub held_get : (ls : List Line) (n : ℕ) (h : Held) → slice_get (held_in ls) n ≡ Some h → HasLine ls n h
held_get [] n h at = absurd (not_some h at) where
  not_some : (h : Held) → None ≡ Some h → ⊥
  not_some h e = cc
held_get (x ∷ ls) zero h at = record { line = x; at = refl; is = let same : held_of x ≡ h = cc in sym same }
held_get (x ∷ ls) (suc n) h at = let later = held_get ls n h at in record { line = later.line; at = later.at; is = later.is }

-- ---- distinct ids

pub among_get : (hs : List Held) (n : ℕ) (h : Held) → slice_get hs n ≡ Some h → is_among (ids_of_held hs) h.id ≡ true
among_get [] n h at = cc
among_get (x ∷ hs) zero h at =
    let same : x ≡ h = cc in or_left (same_id x.id h.id) _ (ap (λ (y : Held). same_id y.id h.id) same ∙ same_id_itself h.id)
among_get (x ∷ hs) (suc n) h at = or_right (same_id x.id h.id) _ (among_get hs n h at)

apart : (hs : List Held) (x : Id) (id : Id) → is_among (ids_of_held hs) x ≡ false → is_among (ids_of_held hs) id ≡ true → same_id x id ≡ false
apart hs x id none some = by (same_id x id) refl where
  by : (b : Bool) → same_id x id ≡ b → b ≡ false
  by true e = absurd (false≢true (sym none ∙ ap (is_among (ids_of_held hs)) (same_id-is x id e) ∙ some))
  by false e = refl

-- each held message stands at its own place
pub place_own : (hs : List Held) (n : ℕ) (h : Held) → has_repeat (ids_of_held hs) ≡ false → slice_get hs n ≡ Some h → place_of hs h.id ≡ Some n
place_own [] n h distinct at = cc
place_own (x ∷ hs) zero h distinct at =
    let same : x ≡ h = cc in
    ap (λ b. cond b (Some 0) (option_map suc (place_of hs h.id))) (ap (λ (y : Held). same_id y.id h.id) same ∙ same_id_itself h.id)
place_own (x ∷ hs) (suc n) h distinct at =
    let parts = or_parts (is_among (ids_of_held hs) x.id) (has_repeat (ids_of_held hs)) distinct in
    ap (λ b. cond b (Some 0) (option_map suc (place_of hs h.id))) (apart hs x.id h.id parts.0 (among_get hs n h at))
    ∙ ap (option_map suc) (place_own hs n h parts.1 at)

-- two messages of one id are at one place
pub same_place : (hs : List Held) (n m : ℕ) (h k : Held) → has_repeat (ids_of_held hs) ≡ false → slice_get hs n ≡ Some h → slice_get hs m ≡ Some k → h.id ≡ k.id → n ≡ m
same_place hs n m h k distinct at at' same =
    let both : Some n ≡ Some m = sym (place_own hs n h distinct at) ∙ ap (place_of hs) same ∙ place_own hs m k distinct at' in
    cc

-- an id that has no place is not held
pub place_none : (hs : List Held) (id : Id) → place_of hs id ≡ None → held_at hs id ≡ None
place_none hs id none = let P : Option ℕ → Type 0 = λ o. IsFound hs id o in subst P none (place_found hs id)

pub among-held : (hs : List Held) (id : Id) → is_among (ids_of_held hs) id ≡ is_held hs id
among-held [] id = refl
among-held (h ∷ hs) id =
    elim (same_id h.id id) as (λ b. (b || is_among (ids_of_held hs) id) ≡ is_some (cond b (Some h) (held_at hs id))) [
      | true ↦ refl
      | false ↦ among-held hs id
    ]

-- ---- flags

-- some line of an id has a flag
abbrev pub flag_at : (Line → Bool) → List Line → Id → Bool
flag_at flag ls id = list_any (λ l. flag l && same_id l.id id) ls

pub among_flagged : (flag : Line → Bool) (ls : List Line) (id : Id) → is_among (ids_flagged flag ls) id ≡ flag_at flag ls id
among_flagged flag [] id = refl
among_flagged flag (l ∷ ls) id =
    elim (flag l) as (λ b. is_among (cond b (l.id ∷ ids_flagged flag ls) (ids_flagged flag ls)) id ≡ ((b && same_id l.id id) || flag_at flag ls id)) [
      | true ↦ ap (λ b. same_id l.id id || b) (among_flagged flag ls id)
      | false ↦ among_flagged flag ls id
    ]

any_tied : (ids : List Id) (id : Id) → list_any (λ k. is_eq (id_cmp id k)) ids ≡ is_among ids id
any_tied [] id = refl
any_tied (x ∷ ids) id = λ i. (sym (texts_ties id x) ∙ same_id_swap id x) i || any_tied ids id i

pub flagged_is : (flag : Line → Bool) (ls : List Line) (id : Id) → fin_set.contains (fin_set.from_list {R = id_cmp} (ids_flagged flag ls)) id ≡ flag_at flag ls id
flagged_is flag ls id = fin_set.contains-from_list nat_list_cmp_total (ids_flagged flag ls) id ∙ any_tied (ids_flagged flag ls) id ∙ among_flagged flag ls id

-- no line has an id that is not held
none_flagged : (flag : Line → Bool) (ls : List Line) (id : Id) → is_among (ids_of_held (held_in ls)) id ≡ false → flag_at flag ls id ≡ false
none_flagged flag [] id none = refl
none_flagged flag (l ∷ ls) id none =
    let parts = or_parts (same_id l.id id) (is_among (ids_of_held (held_in ls)) id) none in
    (λ i. (flag l && parts.0 i) || none_flagged flag ls id parts.1 i) ∙ by (flag l)
  where
    by : (b : Bool) → ((b && false) || false) ≡ false
    by true = refl
    by false = refl

pub not_flagged : (flag : Line → Bool) (ls : List Line) (id : Id) → is_held (held_in ls) id ≡ false → flag_at flag ls id ≡ false
not_flagged flag ls id none = none_flagged flag ls id (among-held (held_in ls) id ∙ none)

-- a line's own flag
pub own_flag : (flag : Line → Bool) (ls : List Line) (n : ℕ) (l : Line) → has_repeat (ids_of_held (held_in ls)) ≡ false → slice_get ls n ≡ Some l → flag_at flag ls l.id ≡ flag l
own_flag flag [] n l distinct at = cc
own_flag flag (x ∷ ls) zero l distinct at =
    let same : x ≡ l = cc in
    let parts = or_parts (is_among (ids_of_held (held_in ls)) x.id) (has_repeat (ids_of_held (held_in ls))) distinct in
    subst (λ (y : Line). flag_at flag (x ∷ ls) y.id ≡ flag y) same
    ((λ i. (flag x && same_id_itself x.id i) || none_flagged flag ls x.id parts.0 i) ∙ by (flag x))
  where
    by : (b : Bool) → ((b && true) || false) ≡ b
    by true = refl
    by false = refl
own_flag flag (x ∷ ls) (suc n) l distinct at =
    let parts = or_parts (is_among (ids_of_held (held_in ls)) x.id) (has_repeat (ids_of_held (held_in ls))) distinct in
    (λ i. (flag x && apart (held_in ls) x.id l.id parts.0 (among_get (held_in ls) n (held_of l) (get_held ls n l at)) i) || flag_at flag ls l.id) ∙ by (flag x) (flag_at flag ls l.id)
    ∙ own_flag flag ls n l parts.1 at
  where
    by : (a b : Bool) → ((a && false) || b) ≡ b
    by true b = refl
    by false b = refl

-- ---- a line changed

module _ (change : Line → Line) where
  -- what does not see the change
  pub same_held : ((l : Line) → held_of (change l) ≡ held_of l) → (n : ℕ) (ls : List Line) → held_in (line_changed change n ls) ≡ held_in ls
  same_held same n [] = refl
  same_held same zero (l ∷ ls) = ap (λ (h : Held). h ∷ held_in ls) (same l)
  same_held same (suc n) (l ∷ ls) = ap (λ (t : List Held). held_of l ∷ t) (same_held same n ls)

  pub same_ids : ((l : Line) → held_of (change l) ≡ held_of l) → (n : ℕ) (ls : List Line) → map (λ l. l.id) (line_changed change n ls) ≡ map (λ l. l.id) ls
  same_ids same n [] = refl
  same_ids same zero (l ∷ ls) = λ i. (same l i).id ∷ map (λ x. x.id) ls
  same_ids same (suc n) (l ∷ ls) = ap (λ (t : List Id). l.id ∷ t) (same_ids same n ls)

  pub same_flagged : (flag : Line → Bool) → ((l : Line) → flag (change l) ≡ flag l) → ((l : Line) → held_of (change l) ≡ held_of l) → (n : ℕ) (ls : List Line)
      → ids_flagged flag (line_changed change n ls) ≡ ids_flagged flag ls
  same_flagged flag keeps same n [] = refl
  same_flagged flag keeps same zero (l ∷ ls) = λ i. cond (keeps l i) ((same l i).id ∷ ids_flagged flag ls) (ids_flagged flag ls)
  same_flagged flag keeps same (suc n) (l ∷ ls) = let rest = same_flagged flag keeps same n ls in λ i. cond (flag l) (l.id ∷ rest i) (rest i)

  pub same_length : (n : ℕ) (ls : List Line) → length (line_changed change n ls) ≡ length ls
  same_length n [] = refl
  same_length zero (l ∷ ls) = refl
  same_length (suc n) (l ∷ ls) = ap suc (same_length n ls)

  pub same_each : (P : Line → Type 0) → ((l : Line) → P l → P (change l)) → (n : ℕ) (ls : List Line) → AllByRecursion P ls → AllByRecursion P (line_changed change n ls)
  same_each P keeps n [] all = tt
  same_each P keeps zero (l ∷ ls) all = (keeps l all.0, all.1)
  same_each P keeps (suc n) (l ∷ ls) all = (all.0, same_each P keeps n ls all.1)

  -- a flag that the change sets
  sets_flag : (flag : Line → Bool) → ((l : Line) → flag (change l) ≡ true) → ((l : Line) → held_of (change l) ≡ held_of l) → (n : ℕ) (ls : List Line) (l : Line) → slice_get ls n ≡ Some l
      → (id : Id) → flag_at flag (line_changed change n ls) id ≡ (same_id l.id id || flag_at flag ls id)
  sets_flag flag sets same n [] l at id = cc
  sets_flag flag sets same zero (x ∷ ls) l at id =
      let one : x ≡ l = cc in
      (λ i. (sets x i && same_id (same x i).id id) || flag_at flag ls id) ∙ by (same_id x.id id) (flag x) (flag_at flag ls id)
      ∙ ap (λ (y : Line). same_id y.id id || flag_at flag (x ∷ ls) id) one
    where
      by : (s f r : Bool) → ((true && s) || r) ≡ (s || ((f && s) || r))
      by true f r = refl
      by false true r = refl
      by false false r = refl
  sets_flag flag sets same (suc n) (x ∷ ls) l at id =
      ap (λ b. (flag x && same_id x.id id) || b) (sets_flag flag sets same n ls l at id) ∙ by (flag x && same_id x.id id) (same_id l.id id) (flag_at flag ls id)
    where
      by : (a b c : Bool) → (a || (b || c)) ≡ (b || (a || c))
      by true true c = refl
      by true false c = refl
      by false b c = refl

  pub flag_inserted : (flag : Line → Bool) → ((l : Line) → flag (change l) ≡ true) → ((l : Line) → held_of (change l) ≡ held_of l) → (n : ℕ) (ls : List Line) (l : Line) → slice_get ls n ≡ Some l
      → fin_set.from_list {R = id_cmp} (ids_flagged flag (line_changed change n ls)) ≡ fin_set.insert (fin_set.from_list {R = id_cmp} (ids_flagged flag ls)) l.id
  flag_inserted flag sets same n ls l at =
      fin_set.same_set nat_list_cmp_total (fin_set.slice_cmp-IsAntisymmetric fin_set.nat_cmp-IsAntisymmetric) _ _ (λ id.
      flagged_is flag (line_changed change n ls) id ∙ sets_flag flag sets same n ls l at id
      ∙ sym (contains-more (fin_set.from_list {R = id_cmp} (ids_flagged flag ls)) l.id id ∙ ap (λ b. same_id l.id id || b) (flagged_is flag ls id)))

  -- the line of a number behind the change
  pub record WasLine (n : ℕ) (ls : List Line) (m : ℕ) (l : Line) : Type 0 where
    pub before : Line
    pub at : slice_get ls m ≡ Some before
    pub became : ((m ≡ n) × (l ≡ change before)) ⊎ ((m ≢ n) × (l ≡ before))

  pub was_line : (n : ℕ) (ls : List Line) (m : ℕ) (l : Line) → slice_get (line_changed change n ls) m ≡ Some l → WasLine n ls m l
  was_line n [] m l at = cc
  was_line zero (x ∷ ls) zero l at = record { before = x; at = refl; became = let same : change x ≡ l = cc in inl (refl, sym same) }
  was_line zero (x ∷ ls) (suc m) l at = record { before = l; at = at; became = inr (λ e. absurd (omega arith), refl) }
  was_line (suc n) (x ∷ ls) zero l at = record { before = x; at = refl; became = let same : x ≡ l = cc in inr (λ e. absurd (omega arith), sym same) }
  was_line (suc n) (x ∷ ls) (suc m) l at =
      let later = was_line n ls m l at in
      record {
        before = later.before;
        at = later.at;
        became = elim later.became [ inl both ↦ inl (ap suc both.0, both.1) | inr both ↦ inr (λ e. both.0 (omega arith), both.1) ];
      }

pub judged_more : (n : ℕ) (ls : List Line) (l : Line) → slice_get ls n ≡ Some l → judged_in (line_changed judged_line n ls) ≡ fin_set.insert (judged_in ls) l.id
judged_more n ls l at = flag_inserted judged_line (λ x. x.judged) (λ x. refl) (λ x. refl) n ls l at

pub invalid_more : (n : ℕ) (ls : List Line) (l : Line) → slice_get ls n ≡ Some l → invalid_in (line_changed invalid_line n ls) ≡ fin_set.insert (invalid_in ls) l.id
invalid_more n ls l at = flag_inserted invalid_line (λ x. x.invalid) (λ x. refl) (λ x. refl) n ls l at

-- ---- the delivered messages

-- by the same ids
pub delivered_same : (ls ls' : List Line) (ns : List ℕ) → map (λ l. l.id) ls ≡ map (λ l. l.id) ls' → map (id_at ls) ns ≡ map (id_at ls') ns
delivered_same ls ls' ns same = λ i. map (λ n. slice_index_or (same i) n []) ns

pub id_at-get : (ls : List Line) (n : ℕ) (l : Line) → slice_get ls n ≡ Some l → id_at ls n ≡ l.id
id_at-get [] n l at = cc
id_at-get (x ∷ ls) zero l at = let same : x ≡ l = cc in ap (λ (y : Line). y.id) same
id_at-get (x ∷ ls) (suc n) l at = id_at-get ls n l at

id_at-push : (ls : List Line) (l : Line) (n : ℕ) → n < length ls → id_at (ls ++ l ∷ []) n ≡ id_at ls n
id_at-push [] l n within = absurd (omega arith)
id_at-push (x ∷ ls) l zero within = refl
id_at-push (x ∷ ls) l (suc n) within = id_at-push ls l n (omega (arith, within))

pub delivered_push : (ls : List Line) (l : Line) (ns : List ℕ) → AllByRecursion (λ n. n < length ls) ns → map (id_at (ls ++ l ∷ [])) ns ≡ map (id_at ls) ns
delivered_push ls l [] within = refl
delivered_push ls l (n ∷ ns) within = λ i. id_at-push ls l n within.0 i ∷ delivered_push ls l ns within.1 i

pub map_push : (ls : List Line) (ns : List ℕ) (n : ℕ) → map (id_at ls) (ns ++ n ∷ []) ≡ map (id_at ls) ns ++ id_at ls n ∷ []
map_push ls [] n = refl
map_push ls (m ∷ ns) n = ap (λ (t : List Id). id_at ls m ∷ t) (map_push ls ns n)

pub among_push : (ids : List Id) (x id : Id) → is_among (ids ++ x ∷ []) id ≡ (same_id x id || is_among ids id)
among_push [] x id = refl
among_push (y ∷ ids) x id = ap (λ b. same_id y id || b) (among_push ids x id) ∙ by (same_id y id) (same_id x id) (is_among ids id)
  where
    by : (a b c : Bool) → (a || (b || c)) ≡ (b || (a || c))
    by true true c = refl
    by true false c = refl
    by false b c = refl

-- ---- one line more

pub flagged_push : (flag : Line → Bool) (ls : List Line) (l : Line) → flag l ≡ false → ids_flagged flag (ls ++ l ∷ []) ≡ ids_flagged flag ls
flagged_push flag [] l off = ap (λ b. cond b (l.id ∷ []) []) off
flagged_push flag (x ∷ ls) l off = let rest = flagged_push flag ls l off in λ i. cond (flag x) (x.id ∷ rest i) (rest i)

-- the line of a number behind one more
pub record OldOrNew (ls : List Line) (l : Line) (m : ℕ) (x : Line) : Type 0 where
  pub cases : (slice_get ls m ≡ Some x) ⊎ ((m ≡ length ls) × (x ≡ l))

pub old_or_new : (ls : List Line) (l : Line) (m : ℕ) (x : Line) → slice_get (ls ++ l ∷ []) m ≡ Some x → OldOrNew ls l m x
old_or_new [] l zero x at = record { cases = let same : l ≡ x = cc in inr (refl, sym same) }
old_or_new [] l (suc m) x at = cc
old_or_new (y ∷ ls) l zero x at = record { cases = inl at }
old_or_new (y ∷ ls) l (suc m) x at = let later = old_or_new ls l m x at in record { cases = elim later.cases [ inl old ↦ inl old | inr both ↦ inr (ap suc both.0, both.1) ] }
