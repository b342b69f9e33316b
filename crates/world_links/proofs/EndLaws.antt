-- What an end is to hear, and what it then has left.
use Rattle.std.proofs.Common.{◌≡◌, ℕ, zero, suc, ◌+◌, ◌-◌, ◌<◌, ◌≤◌, ◌==◌, min, nat_le, Bool, true, false, List, [], ◌∷◌, ◌++◌, length, take, drop, refl, sym, ap, ◌∙◌, arith, length-drop}
use Rattle.std.proofs.lemmas.List.{drop_all, drop-drop}
use Rattle.std.proofs.lemmas.Bool.{leb-true, leb-false}
use Rattle.outside.specs.Links.{Planned, piece, pause, close}
use Rattle.outside.specs.Planned.{pieces}
use Rattle.world_links.specs.Ends.{answer_to}
use Rattle.world_links.specs.declared.end.TheConstants.{PIECE_LEN}

front_pieces : (n : ℕ) (byte : ℕ) (bytes : List ℕ) → 1 ≤ n → pieces (take n (byte ∷ bytes)) ≡ piece (take n (byte ∷ bytes)) ∷ []
front_pieces zero byte bytes some = absurd (omega arith)
front_pieces (suc n) byte bytes some = refl

answer_some : (cut : Bool) (byte : ℕ) (bytes : List ℕ) → pieces (take PIECE_LEN (byte ∷ bytes)) ≡ answer_to cut (byte ∷ bytes)
answer_some true byte bytes = front_pieces PIECE_LEN byte bytes (omega arith)
answer_some false byte bytes = front_pieces PIECE_LEN byte bytes (omega arith)

-- some input is heard as far as there is room
pub answer_piece : (cut : Bool) (input front : List ℕ) → (length input == 0) ≡ false → front ≡ take PIECE_LEN input → pieces front ≡ answer_to cut input
answer_piece cut [] front some is = cc
answer_piece cut (byte ∷ bytes) front some is = ap pieces is ∙ answer_some cut byte bytes

left_all : (h p : ℕ) (given : List ℕ) → h ≤ length given → length given - h ≤ p → drop (h + min (length given - h) p) given ≡ drop p (drop h given)
left_all h p given within all =
    let whole : h + min (length given - h) p ≡ length given = omega arith in
    let short : length (drop h given) ≤ p = omega (arith, length-drop h given) in
    ap (λ k. drop k given) whole ∙ drop_all (length given) given (omega arith) ∙ sym (drop_all p (drop h given) short)

left_some : (h p : ℕ) (given : List ℕ) → p < length given - h → drop (h + min (length given - h) p) given ≡ drop p (drop h given)
left_some h p given some =
    let front : h + min (length given - h) p ≡ h + p = omega arith in
    ap (λ k. drop k given) front ∙ sym (drop-drop p h given)

-- what is left of the input
pub input_left : (h p : ℕ) (given : List ℕ) → h ≤ length given → drop (h + min (length given - h) p) given ≡ drop p (drop h given)
input_left h p given within =
    elim (nat_le (length given - h) p) as (λ b. nat_le (length given - h) p ≡ b → drop (h + min (length given - h) p) given ≡ drop p (drop h given)) [
      | true ↦ λ e. left_all h p given within (leb-true (length given - h) p e)
      | false ↦ λ e. left_some h p given (leb-false (length given - h) p e)
    ] refl
