-- Lists of wanted ids, and the map from contacts to them.
use Rattle.std.proofs.Common.{◌≡◌, ℕ, Bool, true, false, cond, not, List, [], ◌∷◌, map, Option, None, Some, refl, sym, ◌∙◌, ap}
use Rattle.std.specs.FinMap as fin_map
use Rattle.std.specs.Cmp.{nat_cmp_total}
use Rattle.std.specs.List.{filter}
use Rattle.std.specs.Ordering.{eq_by_cmp, nat_cmp}
use Rattle.std.specs.Option.{option_map}
use Rattle.sync_rules.specs.Facts.{Id, Wants, change_each, wanted_by_none}
use Rattle.sync_rules.specs.Lists.{same_id, without}

-- what is left of a list without an id
pub without-filter : (id : Id) (ids : List Id) → filter (λ x. not (same_id x id)) ids ≡ without id ids
without-filter id [] = refl
without-filter id (x ∷ xs) =
    elim (same_id x id) as (λ b. cond (not b) (x ∷ filter (λ y. not (same_id y id)) xs) (filter (λ y. not (same_id y id)) xs) ≡ cond b (without id xs) (x ∷ without id xs)) [
      | true ↦ without-filter id xs
      | false ↦ ap (λ (l : List Id). x ∷ l) (without-filter id xs)
    ]

-- ---- the map

find_each : (f : List Id → List Id) (q : ℕ) (es : List (ℕ × List Id)) → fin_map.find nat_cmp q (change_each f es) ≡ option_map f (fin_map.find nat_cmp q es)
find_each f q [] = refl
find_each f q (e ∷ es) =
    elim (eq_by_cmp nat_cmp q e.0) as (λ b. cond b (Some (f e.1)) (fin_map.find nat_cmp q (change_each f es)) ≡ option_map f (cond b (Some e.1) (fin_map.find nat_cmp q es))) [
      | true ↦ refl
      | false ↦ find_each f q es
    ]

find_map : (f : List Id → List Id) (q : ℕ) (es : List (ℕ × List Id)) → fin_map.find nat_cmp q (map (λ e. (e.0, f e.1)) es) ≡ option_map f (fin_map.find nat_cmp q es)
find_map f q [] = refl
find_map f q (e ∷ es) =
    elim (eq_by_cmp nat_cmp q e.0) as (λ b. cond b (Some (f e.1)) (fin_map.find nat_cmp q (map (λ e. (e.0, f e.1)) es)) ≡ option_map f (cond b (Some e.1) (fin_map.find nat_cmp q es))) [
      | true ↦ refl
      | false ↦ find_map f q es
    ]

-- each list without an id
pub held_by_none : (es : List (ℕ × List Id)) (id : Id)
    → fin_map.from_entries {R = nat_cmp} (map (λ e. (e.0, without id e.1)) es) ≡ wanted_by_none (fin_map.from_entries {R = nat_cmp} es) id
held_by_none es id =
    let wants : Wants = fin_map.from_entries {R = nat_cmp} es in
    fin_map.same_map nat_cmp_total fin_map.nat_cmp-IsAntisymmetric _ _ (λ q.
    fin_map.get-from_entries nat_cmp_total _ q ∙ find_map (without id) q es
    ∙ ap (option_map (without id)) (sym (fin_map.get-from_entries nat_cmp_total es q) ∙ fin_map.get-entries wants q)
    ∙ sym (find_each (without id) q (fin_map.entries wants)) ∙ sym (fin_map.get-from_entries nat_cmp_total (change_each (without id) (fin_map.entries wants)) q))

-- a list taken out and put in again
pub put_back : (wants : Wants) (contact : ℕ) (ids : List Id) → fin_map.insert (fin_map.remove wants contact) contact ids ≡ fin_map.insert wants contact ids
put_back wants contact ids =
    fin_map.same_map nat_cmp_total fin_map.nat_cmp-IsAntisymmetric _ _ (λ q.
    fin_map.get-insert nat_cmp_total (fin_map.remove wants contact) contact ids q
    ∙ ap (cond (eq_by_cmp nat_cmp q contact) (Some ids)) (fin_map.get-remove nat_cmp_total wants contact q)
    ∙ by (eq_by_cmp nat_cmp q contact) (fin_map.get wants q)
    ∙ sym (fin_map.get-insert nat_cmp_total wants contact ids q))
  where
    by : (b : Bool) (o : Option (List Id)) → cond b (Some ids) (cond b None o) ≡ cond b (Some ids) o
    by true o = refl
    by false o = refl

pub put_again : (old mid new : Wants) (contact : ℕ) (ids all : List Id) → mid ≡ fin_map.remove old contact → new ≡ fin_map.insert mid contact ids → ids ≡ all
    → new ≡ fin_map.insert old contact all
put_again old mid new contact ids all taken put is =
    put ∙ ap (λ (w : Wants). fin_map.insert w contact ids) taken ∙ put_back old contact ids ∙ ap (fin_map.insert old contact) is
