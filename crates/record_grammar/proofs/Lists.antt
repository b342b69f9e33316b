-- The ids that a payload is cut into.
use Rattle.std.proofs.Common.{◌≡◌, ℕ, zero, suc, ◌+◌, ◌-◌, ◌*◌, ◌<◌, ◌≤◌, List, [], ◌∷◌, ◌++◌, length, take, drop, refl, sym, ap, ◌∙◌, arith}
use Rattle.std.proofs.lemmas.List.{append_assoc, append-nil, drop-drop}
use Rattle.std.specs.Prelude.{Result, Err, IsErrOf}
use Rattle.sync_ids.specs.declared.lists.ListFault.{ListFault}
use Rattle.sync_ids.specs.declared.lists.ListFault.TheVariants as fault
use Rattle.record_grammar.specs.Reading.{ids_in}

pub length-ids_in : (n : ℕ) (bytes : List ℕ) → length (ids_in n bytes) ≡ n
unfolding ids_in
length-ids_in zero bytes = refl
length-ids_in (suc n) bytes = ap suc (length-ids_in n (drop 32 bytes))

-- one id more is taken
pub ids_in_next : (ids : List (List ℕ)) (payload id : List ℕ) (i count : ℕ) → i < count → id ≡ take 32 (drop (32 * i) payload)
    → ids ++ ids_in (count - i) (drop (32 * i) payload) ≡ ids_in count payload
    → (ids ++ id ∷ []) ++ ids_in (count - (i + 1)) (drop (32 * (i + 1)) payload) ≡ ids_in count payload
unfolding ids_in
ids_in_next ids payload id i count more eid e =
    let left : count - i ≡ suc (count - (i + 1)) = omega arith in
    let step : 32 * i + 32 ≡ 32 * (i + 1) = omega arith in
    let rest : drop 32 (drop (32 * i) payload) ≡ drop (32 * (i + 1)) payload = drop-drop 32 (32 * i) payload ∙ ap (λ (k : ℕ). drop k payload) step in
    let now = rw left at e in
    append_assoc ids (id ∷ []) (ids_in (count - (i + 1)) (drop (32 * (i + 1)) payload)) ∙ rw (eid, ← rest) now

-- none is left
pub ids_in_done : (ids : List (List ℕ)) (payload : List ℕ) (i count : ℕ) → i ≡ count
    → ids ++ ids_in (count - i) (drop (32 * i) payload) ≡ ids_in count payload → ids ≡ ids_in count payload
unfolding ids_in
ids_in_done ids payload i count done e =
    let none : count - i ≡ 0 = omega arith in
    sym (append-nil ids) ∙ (rw none at e)

-- a list of a length in bounds is not refused
pub not_refused : {T : Type 0} → (r : Result T ListFault) (e : ListFault) (n most : ℕ) → r ≡ Err e → (IsErrOf r fault.Empty → n ≡ 0)
    → (IsErrOf r fault.TooMany → most < n) → 1 ≤ n → n ≤ most → ⊥
not_refused r fault.Empty n most is empty too_many some few = let none : n ≡ 0 = empty is in omega arith
not_refused r fault.TooMany n most is empty too_many some few = let more : most < n = too_many is in omega arith
