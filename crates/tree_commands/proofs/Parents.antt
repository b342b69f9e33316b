-- The parents of messages, as they are added.
use Rattle.std.proofs.Common.{◌≡◌, ℕ, zero, suc, ◌+◌, ◌<◌, true, false, cond, List, [], ◌∷◌}
use Rattle.std.proofs.Common.{◌++◌, length, length-append, append_assoc, append-nil, Option, None}
use Rattle.std.proofs.Common.{Some, get_or, refl, sym, ap, ◌∙◌, subst, arith}
use Rattle.std.specs.Prelude.{IfSome}
use Rattle.std.specs.Option.{option_map}
use Rattle.reply_tree.specs.Walks.{RepliesToEarlier}
use Rattle.sync_rules.specs.Clients.{Meaning}
use Rattle.sync_rules.specs.Facts.{Facts, Id, held_at}
use Rattle.sync_rules.specs.Lists.{same_id}
use Rattle.entry_codec.specs.Naming.{place_in}
use Rattle.tree_commands.specs.Trees.{parents_behind, parents_of, place_if, replied_by}
use Rattle.tree_commands.proofs.Numbers.{shifted}

place_less : (ids : List Id) (d : Id) → IfSome (place_in ids d) (λ p. p < length ids)
place_less [] d = tt
place_less (x ∷ ids) d =
    elim (same_id x d) as (λ b. IfSome (cond b (Some 0) (option_map suc (place_in ids d)))
    (λ p. p < suc (length ids))) [
      | true ↦ omega arith
      | false ↦ shifted (length ids) (place_in ids d) (place_less ids d)
    ]

if_less : (ids : List Id) (o : Option Id) (p : ℕ) → place_if ids o ≡ Some p → p < length ids
if_less ids None p e = absurd (let none : None ≡ Some p = e in cc)
if_less ids (Some d) p e = subst (λ o. IfSome o (λ p. p < length ids)) e (place_less ids d)

module _ (clients : Meaning) (f : Facts) where
  -- the parent of a message behind others
  abbrev pub parent_behind : List Id → Id → Option ℕ
  parent_behind earlier id = place_if earlier (replied_by clients f (held_at f.held id))

  pub parents_push : (earlier ids : List Id) (id : Id)
      → parents_behind clients f earlier (ids ++ id ∷ []) ≡ parents_behind clients f earlier ids ++
      parent_behind (earlier ++ ids) id ∷ []
  parents_push earlier [] id = ap (λ (xs : List Id). parent_behind xs id ∷ [])
      (sym (append-nil earlier))
  parents_push earlier (x ∷ ids) id =
      ap (λ (ps : List (Option ℕ)). parent_behind earlier x ∷ ps)
      (parents_push (earlier ++ x ∷ []) ids id
      ∙ ap (λ (xs : List Id). parents_behind clients f (earlier ++ x ∷ []) ids ++ parent_behind xs
      id ∷ []) (append_assoc earlier (x ∷ []) ids))

  pub parents_long : (earlier ids : List Id) → length (parents_behind clients f earlier ids) ≡
      length ids
  parents_long earlier [] = refl
  parents_long earlier (x ∷ ids) = ap suc (parents_long (earlier ++ x ∷ []) ids)

  parents_earlier : (earlier ids : List Id) (n p : ℕ)
      → get_or (parents_behind clients f earlier ids) n None ≡ Some p → p < length earlier + n
  parents_earlier earlier [] n p e = absurd (let none : None ≡ Some p = e in cc)
  parents_earlier earlier (x ∷ ids) zero p e =
      let less : p < length earlier = if_less earlier (replied_by clients f (held_at f.held x)) p
      e in
      omega (arith, less)
  parents_earlier earlier (x ∷ ids) (suc n) p e =
      let less : p < length (earlier ++ x ∷ []) + n =
      parents_earlier (earlier ++ x ∷ []) ids n p e in
      let long : length (earlier ++ x ∷ []) ≡ length earlier + 1 = length-append earlier (x ∷ []) in
      omega (arith, less, long)

  -- each replies to an earlier one
  pub replies_earlier : (ids : List Id) → RepliesToEarlier (parents_of clients f ids)
  replies_earlier ids n p e = let less : p < 0 + n = parents_earlier [] ids n p e in
      omega (arith, less)
