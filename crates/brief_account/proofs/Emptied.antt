-- Lists of wanted ids that are empty: those with which a brief account begins, which messages leave as they are.
use Rattle.std.proofs.Common.{◌≡◌, ℕ, zero, suc, ◌<◌, ◌≤◌, Bool, true, false, cond, nat_eq}
use Rattle.std.proofs.Common.{eqb-true, lt-ltb, le-ltb, ltb-true, ltb-false, List, [], ◌∷◌, refl}
use Rattle.std.proofs.Common.{sym, ◌∙◌, ap, arith, Option, Some, None, unwrap_or}
use Rattle.std.specs.Prelude.{nat_lt}
use Rattle.std.specs.FinMap as fin_map
use Rattle.std.specs.Ordering.{nat_cmp, eq_by_cmp}
use Rattle.std.specs.Cmp.{nat_cmp_total, unsigned_tied}
use Rattle.std.proofs.lemmas.Bool.{eqb-false}
use Rattle.sync_rules.specs.Facts.{Facts, Id, Wants, change_each, wanted_by_none, wanted_from}
use Rattle.sync_rules.specs.Lists.{without}

-- an empty list for each contact below this number, and none for another
abbrev pub AreEmpty : ℕ → Wants → Type 0
AreEmpty n wanted = (contact : ℕ) → fin_map.get wanted contact ≡ cond (nat_lt contact n) (Some []) None

abbrev pub HasEmptyWanted : Facts → Type 0
HasEmptyWanted g = AreEmpty g.contacts g.wanted

-- ---- a message leaves them

abbrev changed : (List Id → List Id) → Option (List Id) → Option (List Id)
changed f None = None
changed f (Some ids) = Some (f ids)

found_each : (f : List Id → List Id) (es : List (ℕ × List Id)) (contact : ℕ)
    → fin_map.find nat_cmp contact (change_each f es) ≡ changed f (fin_map.find nat_cmp contact es)
found_each f [] contact = refl
found_each f (e ∷ es) contact =
    elim (eq_by_cmp nat_cmp contact e.0) as (λ b. cond b (Some (f e.1)) (fin_map.find nat_cmp contact (change_each f es))
    ≡ changed f (cond b (Some e.1) (fin_map.find nat_cmp contact es))) [
      | true ↦ refl
      | false ↦ found_each f es contact
    ]

pub none_wanted : (n : ℕ) (wanted : Wants) (id : Id) → AreEmpty n wanted → wanted_by_none wanted id ≡ wanted
none_wanted n wanted id empty =
    fin_map.same_map nat_cmp_total fin_map.nat_cmp-IsAntisymmetric (wanted_by_none wanted id) wanted
    (λ contact.
    fin_map.get-from_entries nat_cmp_total (change_each (without id) (fin_map.entries wanted)) contact
    ∙ (found_each (without id) (fin_map.entries wanted) contact
    ∙ (ap (changed (without id)) (sym (fin_map.get-entries wanted contact) ∙ empty contact)
    ∙ (still (nat_lt contact n) ∙ sym (empty contact)))))
  where
    still : (b : Bool) → changed (without id) (cond b (Some []) None) ≡ cond b (Some []) None
    still true = refl
    still false = refl

-- ---- contacts give them

-- what the first contacts make of no lists
abbrev pub emptied : ℕ → Wants
emptied zero = fin_map.empty
emptied (suc n) = fin_map.insert (emptied n) n (wanted_from (emptied n) n)

-- a list that is not there, and one that is empty
none_there : (b : Bool) → unwrap_or {T = List Id} (cond b (Some []) None) [] ≡ []
none_there true = refl
none_there false = refl

further : (a b : ℕ) → b ≤ a → (a ≡ b → ⊥) → suc b ≤ a
further a b le other = grind (arith, le, other)

one_more : (contact n : ℕ) (ids : List Id) → ids ≡ [] → (b : Bool) → nat_eq contact n ≡ b
    → cond b (Some ids) (cond (nat_lt contact n) (Some []) None) ≡ cond (nat_lt contact (suc n)) (Some []) None
one_more contact n ids none true is =
    let same : contact ≡ n = eqb-true contact n is in
    let below : nat_lt contact (suc n) ≡ true = lt-ltb contact (suc n) (omega (arith, same)) in
    ap Some none ∙ sym (ap (λ b. cond b (Some []) None) below)
one_more contact n ids none false is = ap (λ b. cond b (Some []) None) (by (nat_lt contact n) refl)
  where
    by : (b : Bool) → nat_lt contact n ≡ b → nat_lt contact n ≡ nat_lt contact (suc n)
    by true below =
        let k : contact < n = ltb-true contact n below in
        below ∙ sym (lt-ltb contact (suc n) (omega (arith, k)))
    by false above =
        let k : n ≤ contact = ltb-false contact n above in
        let other : contact ≡ n → ⊥ = eqb-false contact n is in
        above ∙ sym (le-ltb contact (suc n) (further contact n k other))

pub contacts_empty : (n : ℕ) → AreEmpty n (emptied n)
contacts_empty zero contact =
    fin_map.get-empty nat_cmp contact
    ∙ sym (ap (λ b. cond b (Some []) None) (le-ltb contact zero (omega arith)))
contacts_empty (suc n) contact =
    let ids : List Id = wanted_from (emptied n) n in
    let none : ids ≡ [] = ap (λ (o : Option (List Id)). unwrap_or o []) (contacts_empty n n)
    ∙ none_there (nat_lt n n) in
    fin_map.get-insert nat_cmp_total (emptied n) n ids contact
    ∙ ((λ i. cond (unsigned_tied contact n i) (Some ids) (contacts_empty n contact i))
    ∙ one_more contact n ids none (nat_eq contact n) refl)
