-- A list of labels that is read from the left.
use Rattle.std.proofs.Common.{◌≡◌, ℕ, suc, ◌-◌, ◌^◌, ◌≤◌, ◌==◌, nat_lt, Bool, true, false}
use Rattle.std.proofs.Common.{cond, List, [], ◌∷◌, ◌++◌, length, refl, sym, ◌∙◌, ap}
use Rattle.std.proofs.Common.{take_all, append_assoc, append-nil, Option, Some, None}
use Rattle.std.specs.Prelude.{option_and_then, option_map}
use Rattle.std.specs.List.{slice_split, position_or_len, before_first, after_first}
use Rattle.std.proofs.lemmas.Bool.{ltb-true, ltb-false}
use Rattle.std.proofs.lemmas.List.Splits.{slice_split_first}
use Rattle.sync_words.specs.Words.{number_in}
use Rattle.world_scripts.specs.Cuts.{front_of, behind}
use Rattle.world_scripts.specs.Forms.{each_label}
use Rattle.world_scripts.proofs.CutLemmas.{single}

-- the parts of what is left
abbrev pub parts_of : Option (List ℕ) → List (List ℕ)
parts_of None = []
parts_of (Some text) = slice_split (λ b. b == 44) text

-- labels in front of others
abbrev pub onto : List ℕ → Option (List ℕ) → Option (List ℕ)
onto front None = None
onto front (Some labels) = Some (front ++ labels)

-- a label, if there is one, in front of others
abbrev onto_label : Option ℕ → Option (List ℕ) → Option (List ℕ)
onto_label one all = option_and_then (λ label. option_map (λ labels. label ∷ labels) all) one

onto_cons : (front : List ℕ) (label : ℕ) (labels : Option (List ℕ))
    → onto front (onto_label (Some label) labels) ≡ onto (front ++ label ∷ []) labels
onto_cons front label None = refl
onto_cons front label (Some labels) = ap (λ l. Some l)
    (sym (append_assoc front (label ∷ []) labels))

-- the first part and the others
part_by : (text : List ℕ) (test : Bool) → nat_lt (position_or_len (λ b. b == 44) text)
    (length text) ≡ test
    → slice_split (λ b. b == 44) text ≡ before_first (λ b. b == 44) text ∷ parts_of
    (cond test (Some (after_first (λ b. b == 44) text)) None)
part_by text true is = slice_split_first (λ b. b == 44) text 0 (ltb-true _ _ is)
part_by text false is =
    let few : length text ≤ position_or_len (λ b. b == 44) text = ltb-false _ _ is in
    let front : before_first (λ b. b == 44) text ≡ text =
    take_all (position_or_len (λ b. b == 44) text) text few in
    single 44 text few ∙ ap (λ f. f ∷ []) (sym front)

pub part_first : (text : List ℕ) → parts_of (Some text) ≡ front_of 44 text ∷ parts_of
    (behind 44 text)
unfolding front_of behind
part_first text = part_by text (nat_lt (position_or_len (λ b. b == 44) text) (length text)) refl

-- one more label was read
pub one_more : (all : Option (List ℕ)) (front : List ℕ) (text : List ℕ) (part : List ℕ)
    (left : Option (List ℕ)) (label : ℕ)
    → all ≡ onto front (each_label (parts_of (Some text))) → part ≡ front_of 44 text
    → left ≡ behind 44 text
    → number_in (2 ^ 64 - 1) part ≡ Some label
    → all ≡ onto (front ++ label ∷ []) (each_label (parts_of left))
unfolding each_label
one_more all front text part left label is front_is left_is reads =
    let parts : parts_of (Some text) ≡ part ∷ parts_of left =
    part_first text ∙ (λ i. sym front_is i ∷ parts_of (sym left_is i)) in
    is ∙ ap (λ l. onto front (each_label l)) parts
    ∙ ap (λ n. onto front (onto_label n (each_label (parts_of left)))) reads
    ∙ onto_cons front label (each_label (parts_of left))

-- a part is no label
pub no_label : (all : Option (List ℕ)) (front : List ℕ) (text : List ℕ) (part : List ℕ)
    → all ≡ onto front (each_label (parts_of (Some text))) → part ≡ front_of 44 text
    → number_in (2 ^ 64 - 1) part ≡ None → all ≡ None
unfolding each_label
no_label all front text part is front_is reads =
    let parts : parts_of (Some text) ≡ part ∷ parts_of (behind 44 text) =
    part_first text ∙ ap (λ p. p ∷ parts_of (behind 44 text)) (sym front_is) in
    is ∙ ap (λ l. onto front (each_label l)) parts
    ∙ ap (λ n. onto front (onto_label n (each_label (parts_of (behind 44 text))))) reads

-- no part is left
pub no_more : (all : Option (List ℕ)) (front : List ℕ) (left : Option (List ℕ))
    → all ≡ onto front (each_label (parts_of left)) → left ≡ None → all ≡ Some front
unfolding each_label
no_more all front left is none = is ∙ ap (λ l. onto front (each_label (parts_of l))) none
    ∙ ap (λ l. Some l) (append-nil front)

-- how much is left
abbrev pub left_length : Option (List ℕ) → ℕ
left_length None = 0
left_length (Some text) = suc (length text)
