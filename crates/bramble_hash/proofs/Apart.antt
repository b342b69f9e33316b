-- Parts are told apart by their lengths.
use Rattle.std.proofs.Common.{◌≡◌, ℕ, List, [], ◌∷◌, ◌++◌, length, take, drop, refl, sym, ap, ◌∙◌}
use Rattle.std.proofs.lemmas.List.{take_at, drop_at}
use Rattle.std.proofs.lemmas.Nat.{from_be_bytes-to_be_bytes_4}
use Rattle.std.specs.Int.{w32, from_be_bytes, to_be_bytes}
use Rattle.std.specs.List.{AllByRecursion}
use Rattle.bramble_hash.specs.Parts.{IsPart, preimage}

pub one_list : (parts others : List (List ℕ)) → AllByRecursion IsPart parts → AllByRecursion IsPart others → preimage parts ≡ preimage others → parts ≡ others
one_list [] [] fit fit' e = refl
one_list [] (q ∷ qs) fit fit' e = cc
one_list (p ∷ ps) [] fit fit' e = cc
one_list (p ∷ ps) (q ∷ qs) fit fit' e =
    let heads : to_be_bytes w32 (length p) ≡ to_be_bytes w32 (length q) = ap (take 4) e in
    let lens : length p ≡ length q = sym (from_be_bytes-to_be_bytes_4 (length p) fit.0) ∙ ap (from_be_bytes w32) heads ∙ from_be_bytes-to_be_bytes_4 (length q) fit'.0 in
    let tails : p ++ preimage ps ≡ q ++ preimage qs = ap (drop 4) e in
    let first : p ≡ q = sym (take_at p (preimage ps) (length p) refl) ∙ ap (take (length p)) tails ∙ take_at q (preimage qs) (length p) (sym lens) in
    let others : preimage ps ≡ preimage qs = sym (drop_at p (preimage ps) (length p) refl) ∙ ap (drop (length p)) tails ∙ drop_at q (preimage qs) (length p) (sym lens) in
    let rest : ps ≡ qs = one_list ps qs fit.1 fit'.1 others in
    cc (first, rest)
