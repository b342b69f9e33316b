-- The place of a held message is found by its id.
use Rattle.std.proofs.Common.{◌≡◌, ℕ, suc, true, false, cond, List, [], ◌∷◌, Option, Some, None}
use Rattle.std.proofs.Common.{refl}
use Rattle.std.proofs.Common.{◌∙◌, ap, arith}
use Rattle.std.specs.Option.{option_map}
use Rattle.sync_rules.specs.Lists.{same_id}
use Rattle.sync_rules.specs.Facts.{Held, Id, held_at}
use Rattle.sync_rules.specs.Views.{IsFound, place_of}
use Rattle.sync_rules.proofs.Elements.{same_id-is}

found_later : (h : Held) (hs : List Held) (id : Id) → same_id h.id id ≡ false → (r : Option ℕ) → IsFound hs id r → IsFound (h ∷ hs) id (option_map suc r)
found_later h hs id other None none = ap (λ b. cond b (Some h) (held_at hs id)) other ∙ none
found_later h hs id other (Some n) at = record {
  message = at.message;
  named = at.named;
  first = ap (λ b. cond b (Some h) (held_at hs id)) other ∙ at.first;
  stands = at.stands;
  within = omega (arith, at.within);
}

pub place_found : (hs : List Held) (id : Id) → IsFound hs id (place_of hs id)
place_found [] id = refl
place_found (h ∷ hs) id =
    elim (same_id h.id id) as (λ b. same_id h.id id ≡ b → IsFound (h ∷ hs) id (cond b (Some 0) (option_map suc (place_of hs id)))) [
      | true ↦ λ e. record {
        message = h;
        named = same_id-is h.id id e;
        first = ap (λ b. cond b (Some h) (held_at hs id)) e;
        stands = refl;
        within = omega arith;
      }
      | false ↦ λ e. found_later h hs id e (place_of hs id) (place_found hs id)
    ] refl
