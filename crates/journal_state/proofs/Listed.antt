-- Lists of numbers against lists of ids.
use Rattle.std.proofs.Common.{◌≡◌, ℕ, zero, suc, ◌+◌, ◌<◌, ◌≤◌, Bool, true, false, cond, nat_lt, List, [], ◌∷◌, length, map, take, Some, None, slice_get, refl, sym, ◌∙◌, ap, arith}
use Rattle.std.specs.List.{list_all, position_from}
use Rattle.std.specs.Option.{option_map}
use Rattle.std.proofs.lemmas.Bool.{and_parts, and_from, false≢true}
use Rattle.sync_rules.specs.Facts.{Held, Id}
use Rattle.sync_rules.specs.Sessions.{ids_where, first_id}
use Rattle.retry_table.specs.Table as retry
use Rattle.retry_table.specs.Due.{numbers_where}
use Rattle.journal_state.specs.Whole.{id_at}

-- ---- ids of numbers

pub id_there : (held : List Held) (n : ℕ) (h : Held) → slice_get held n ≡ Some h → id_at held n ≡ h.id
id_there [] n h at = absurd (let e : None ≡ Some h = at in cc)
id_there (x ∷ held) zero h at = let same : x ≡ h = cc in ap (λ (w : Held). w.id) same
id_there (x ∷ held) (suc n) h at = id_there held n h at

-- ---- tests of rows and of messages

module _ (t : retry.KeptRow → Bool) (u : Held → Bool) (name : ℕ → Id) (nothing_kept : t retry.no_kept ≡ false) where
  -- what each message is kept as
  abbrev Suits : ℕ → List retry.KeptRow → List Held → Type 0
  Suits first ks hs = (n : ℕ) (h : Held) → slice_get hs n ≡ Some h → (u h ≡ t (retry.kept_in ks n)) × (name (first + n) ≡ h.id)

  abbrev IsFree : List retry.KeptRow → List Held → Type 0
  IsFree ks hs = (n : ℕ) → length hs ≤ n → retry.kept_in ks n ≡ retry.no_kept

  none_passes : (first : ℕ) (hs : List Held) → Suits first [] hs → ids_where u hs ≡ []
  none_passes first [] suits = refl
  none_passes first (h ∷ hs) suits =
      ap (λ b. cond b (h.id ∷ ids_where u hs) (ids_where u hs)) ((suits 0 h refl).0 ∙ nothing_kept)
      ∙ none_passes (first + 1) hs (λ n x at. ((suits (suc n) x at).0, ap name (omega arith) ∙ (suits (suc n) x at).1))

  none_kept : (first : ℕ) (ks : List retry.KeptRow) → IsFree ks [] → numbers_where t first ks ≡ []
  none_kept first [] free = refl
  none_kept first (k ∷ ks) free =
      ap (λ b. cond b (first ∷ numbers_where t (first + 1) ks) (numbers_where t (first + 1) ks)) (ap t (free 0 (omega arith)) ∙ nothing_kept)
      ∙ none_kept (first + 1) ks (λ n beyond. free (suc n) (omega arith))

  -- the ids of the numbers of the rows that pass are those of the messages that pass
  pub listed : (first : ℕ) (ks : List retry.KeptRow) (hs : List Held) → Suits first ks hs → IsFree ks hs → map name (numbers_where t first ks) ≡ ids_where u hs
  listed first [] hs suits free = sym (none_passes first hs suits)
  listed first (k ∷ ks) [] suits free = ap (map name) (none_kept first (k ∷ ks) free)
  listed first (k ∷ ks) (h ∷ hs) suits free =
      let own : name first ≡ h.id = ap name (omega arith) ∙ (suits 0 h refl).1 in
      let rest : map name (numbers_where t (first + 1) ks) ≡ ids_where u hs =
      listed (first + 1) ks hs (λ n x at. ((suits (suc n) x at).0, ap name (omega arith) ∙ (suits (suc n) x at).1)) (λ n beyond. free (suc n) (omega arith)) in
      ap (λ b. map name (cond b (first ∷ numbers_where t (first + 1) ks) (numbers_where t (first + 1) ks))) (sym (suits 0 h refl).0)
      ∙ elim (u h) as (λ b. map name (cond b (first ∷ numbers_where t (first + 1) ks) (numbers_where t (first + 1) ks)) ≡ cond b (h.id ∷ ids_where u hs) (ids_where u hs)) [
        | true ↦ λ i. own i ∷ rest i
        | false ↦ rest
      ]

  heads : (first : ℕ) (ks : List retry.KeptRow) → first_id (map name (numbers_where t first ks)) ≡ option_map name (position_from t first ks)
  heads first [] = refl
  heads first (k ∷ ks) =
      elim (t k) as (λ b. first_id (map name (cond b (first ∷ numbers_where t (first + 1) ks) (numbers_where t (first + 1) ks)))
      ≡ option_map name (cond b (Some first) (position_from t (first + 1) ks))) [
        | true ↦ refl
        | false ↦ heads (first + 1) ks
      ]

  -- the first number whose row passes is that of the first message that passes
  pub first_listed : (first : ℕ) (ks : List retry.KeptRow) (hs : List Held) → Suits first ks hs → IsFree ks hs → option_map name (position_from t first ks) ≡ first_id (ids_where u hs)
  first_listed first ks hs suits free = sym (heads first ks) ∙ ap first_id (listed first ks hs suits free)

-- ---- bounds

module _ (t : retry.KeptRow → Bool) (nothing_kept : t retry.no_kept ≡ false) (bound : ℕ) where
  abbrev IsBounded : ℕ → List retry.KeptRow → Type 0
  IsBounded first ks = (n : ℕ) → bound ≤ first + n → retry.kept_in ks n ≡ retry.no_kept

  passes_below : (first : ℕ) (k : retry.KeptRow) → (bound ≤ first → k ≡ retry.no_kept) → t k ≡ true → nat_lt first bound ≡ true
  passes_below first k free e = by (nat_lt first bound) refl
    where
      by : (b : Bool) → nat_lt first bound ≡ b → b ≡ true
      by true h = refl
      by false h = let beyond : bound ≤ first = grind (arith, h) in absurd (false≢true (sym (ap t (free beyond) ∙ nothing_kept) ∙ e))

  pub all_below : (first : ℕ) (ks : List retry.KeptRow) → IsBounded first ks → list_all (λ n. nat_lt n bound) (numbers_where t first ks) ≡ true
  all_below first [] free = refl
  all_below first (k ∷ ks) free =
      let rest = all_below (first + 1) ks (λ n beyond. free (suc n) (omega arith)) in
      elim (t k) as (λ b. t k ≡ b → list_all (λ n. nat_lt n bound) (cond b (first ∷ numbers_where t (first + 1) ks) (numbers_where t (first + 1) ks)) ≡ true) [
        | true ↦ λ e. and_from (nat_lt first bound) (list_all (λ n. nat_lt n bound) (numbers_where t (first + 1) ks)) (passes_below first k (λ beyond. free 0 (omega arith)) e) rest
        | false ↦ λ e. rest
      ] refl

  pub found_below : (first : ℕ) (ks : List retry.KeptRow) → IsBounded first ks → (n : ℕ) → position_from t first ks ≡ Some n → nat_lt n bound ≡ true
  found_below first [] free n e = absurd (let none : None ≡ Some n = e in cc)
  found_below first (k ∷ ks) free n e =
      elim (t k) as (λ b. t k ≡ b → cond b (Some first) (position_from t (first + 1) ks) ≡ Some n → nat_lt n bound ≡ true) [
        | true ↦ λ p q. let same : first ≡ n = cc in ap (λ x. nat_lt x bound) (sym same) ∙ passes_below first k (λ beyond. free 0 (omega arith)) p
        | false ↦ λ p q. found_below (first + 1) ks (λ m beyond. free (suc m) (omega arith)) n q
      ] refl e

pub all_taken : (p : ℕ → Bool) (n : ℕ) (xs : List ℕ) → list_all p xs ≡ true → list_all p (take n xs) ≡ true
all_taken p zero xs h = refl
all_taken p (suc n) [] h = refl
all_taken p (suc n) (x ∷ xs) h =
    let both = and_parts (p x) (list_all p xs) h in and_from (p x) (list_all p (take n xs)) both.0 (all_taken p n xs both.1)

-- the id of a held message, as a look-up gives it
pub id_shown : (held : List Held) (n : ℕ) (id : Id) → option_map (λ (h : Held). h.id) (slice_get held n) ≡ Some id → id_at held n ≡ id
id_shown [] n id e = absurd (let none : None ≡ Some id = e in cc)
id_shown (h ∷ held) zero id e = cc
id_shown (h ∷ held) (suc n) id e = id_shown held n id e

pub below_is : (n bound : ℕ) → nat_lt n bound ≡ true → n < bound
below_is n bound e = grind arith
