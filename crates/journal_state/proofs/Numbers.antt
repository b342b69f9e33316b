-- Sessions by their numbers, and the counts of the records taken on them.
use Rattle.std.proofs.Common.{◌≡◌, ℕ, zero, suc, ◌+◌, ◌-◌, ◌<◌, ◌≤◌, false, cond, nat_eq, List, []}
use Rattle.std.proofs.Common.{◌∷◌, ◌++◌, length, Option, Some, None, slice_get, refl, sym, ◌∙◌, ap}
use Rattle.std.proofs.Common.{arith, unwrap_or}
use Rattle.std.proofs.lemmas.Bool.Decides.{nat_tests}
use Rattle.std.specs.FinMap as fin_map
use Rattle.std.specs.Cmp.{nat_cmp_total, unsigned_ties, eq_by_cmp_equiv}
use Rattle.std.specs.Ordering.{nat_cmp, eq_by_cmp}
use Rattle.std.specs.Map.{lookup}
use Rattle.sync_rules.specs.declared.entries.Session.{Session}
use Rattle.sync_rules.specs.Facts.{session_at, takes_of}
use Rattle.journal_state.specs.Begun.{IsNumbered}

-- ---- sessions

other_number : (s : Session) (i n : ℕ) (o : Option Session) → s.number ≡ i → cond (nat_eq s.number (i + suc n)) (Some s) o ≡ o
other_number s i n o is = grind arith

own_number : (s : Session) (i : ℕ) (o : Option Session) → s.number ≡ i → cond (nat_eq s.number (i + 0)) (Some s) o ≡ Some s
own_number s i o is = grind arith

numbered_from : (i n : ℕ) (ss : List Session) → IsNumbered i ss → session_at ss (i + n) ≡ slice_get ss n
numbered_from i n [] h = refl
numbered_from i zero (s ∷ ss) h = own_number s i (session_at ss (i + 0)) h.0
numbered_from i (suc n) (s ∷ ss) h =
    let further : i + suc n ≡ (i + 1) + n = omega arith in
    other_number s i n (session_at ss (i + suc n)) h.0 ∙ (ap (session_at ss) further ∙ numbered_from (i + 1) n ss h.1)

-- the session of a number stands at its place behind the first number
pub numbered_at : (first number : ℕ) (ss : List Session) → first ≤ number → IsNumbered first ss → slice_get ss (number - first) ≡ session_at ss number
numbered_at first number ss le h = let e : first + (number - first) ≡ number = omega arith in sym (ap (session_at ss) (sym e) ∙ numbered_from first (number - first) ss h)

-- and there is none before it
pub numbered_before : (first number : ℕ) (ss : List Session) → number < first → IsNumbered first ss → None ≡ session_at ss number
numbered_before first number [] less h = refl
numbered_before first number (s ∷ ss) less h =
    numbered_before (first + 1) number ss (omega arith) h.1 ∙ sym (ap (λ b. cond b (Some s) (session_at ss number)) (apart (s.number) number (omega (arith, h.0))))
  where
    apart : (a b : ℕ) → b < a → nat_eq a b ≡ false
    apart a b l = grind (arith, nat_tests)

-- one session more
pub numbered_more : (i : ℕ) (ss : List Session) (s : Session) → IsNumbered i ss → s.number ≡ i + length ss → IsNumbered i (ss ++ s ∷ [])
numbered_more i [] s h e = (omega arith, tt)
numbered_more i (x ∷ ss) s h e = (h.0, numbered_more (i + 1) ss s h.1 (omega arith))

-- ---- counts

find-lookup : (q : ℕ) (es : List (ℕ × ℕ)) → fin_map.find nat_cmp q es ≡ lookup (nat_eq q) es
find-lookup q [] = refl
find-lookup q (e ∷ es) = λ i. cond (sym (unsigned_ties q e.0) i) (Some e.1) (find-lookup q es i)

got : (es : List (ℕ × ℕ)) (q : ℕ) → fin_map.get (fin_map.from_entries {R = nat_cmp} es) q ≡ lookup (nat_eq q) es
got es q = fin_map.get-from_entries nat_cmp_total es q ∙ find-lookup q es

swapped : (a b : ℕ) → eq_by_cmp nat_cmp a b ≡ nat_eq b a
swapped a b = (eq_by_cmp_equiv nat_cmp_total).symm a b ∙ sym (unsigned_ties b a)

-- the records taken on a session are those that are counted
pub kept_count : (es : List (ℕ × ℕ)) (n : ℕ) → takes_of (fin_map.from_entries {R = nat_cmp} es) n
    ≡ unwrap_or (lookup (nat_eq n) es) 0
kept_count es n = ap (λ (o : Option ℕ). unwrap_or o 0) (got es n)

-- what is counted once one count is set
pub kept_counted : (es new : List (ℕ × ℕ)) (k v : ℕ) → ((q : ℕ) → lookup (nat_eq q) new ≡ cond (nat_eq k q) (Some v) (lookup (nat_eq q) es))
    → ◌≡◌ {A = fin_map.FinMap nat_cmp ℕ} (fin_map.from_entries new) (fin_map.insert (fin_map.from_entries es) k v)
kept_counted es new k v h =
    fin_map.same_map nat_cmp_total fin_map.nat_cmp-IsAntisymmetric _ _
    (λ q. got new q ∙ h q ∙ sym (fin_map.get-insert nat_cmp_total (fin_map.from_entries es) k v q ∙ (λ i. cond (swapped q k i) (Some v) (got es q i))))
