-- Entries cut into batches: what they hold, how many they are and what they weigh, and how they follow a journal.
use Rattle.std.proofs.Common.{◌≡◌, ℕ, ◌+◌, ◌*◌, Bool, true, false, cond, List, [], ◌∷◌, ◌++◌, length, length-append, refl, sym, ◌∙◌, ap, arith, append_assoc, append-nil, lt-ltb, suc-mul}
use Rattle.std.specs.Prelude.{nat_lt}
use Rattle.std.proofs.lemmas.List.{length_push}
use Rattle.sync_rules.specs.declared.entries.Entry.{Entry}
use Rattle.sync_rules.specs.Facts.{entries_of}
use Rattle.brief_account.specs.Batches.{batches, entries_weigh, open_batches, weighs}
use Rattle.brief_account.specs.Brief.{closed, each_alone, filled}

-- ---- what they hold

pub entries-append : (bs cs : List (List Entry)) → entries_of (bs ++ cs) ≡ entries_of bs ++ entries_of cs
entries-append [] cs = refl
entries-append (b ∷ bs) cs =
    ap (λ (t : List Entry). b ++ t) (entries-append bs cs)
    ∙ sym (append_assoc b (entries_of bs) (entries_of cs))

pub closed_entries : (front : List Entry) → entries_of (closed front) ≡ front
closed_entries [] = refl
closed_entries (e ∷ es) = append-nil (e ∷ es)

pub alone_entries : (es : List Entry) → entries_of (each_alone es) ≡ es
alone_entries [] = refl
alone_entries (e ∷ es) = ap (λ (t : List Entry). e ∷ t) (alone_entries es)

pub alone-append : (es fs : List Entry) → each_alone (es ++ fs) ≡ each_alone es ++ each_alone fs
alone-append [] fs = refl
alone-append (e ∷ es) fs = ap (λ (t : List (List Entry)). (e ∷ []) ∷ t) (alone-append es fs)

closed_count : (front : List Entry) → length (closed front) ≡ open_batches (length front)
closed_count [] = refl
closed_count (e ∷ es) = sym (ap (λ b. cond b 1 0) (lt-ltb 0 (length (e ∷ es)) (omega arith)))

module _ (most : ℕ) (alone : Entry → Bool) where
  pub filled_entries : (front es : List Entry) → entries_of (filled most alone front es) ≡ front ++ es
  filled_entries front [] = closed_entries front ∙ sym (append-nil front)
  filled_entries front (e ∷ es) =
      elim (alone e) as (λ b. entries_of (cond b (closed front ++ (e ∷ []) ∷ filled most alone [] es)
      (cond (nat_lt (length front) most) (filled most alone (front ++ e ∷ []) es)
      (front ∷ filled most alone (e ∷ []) es)))
      ≡ front ++ e ∷ es) [
        | true ↦
            entries-append (closed front) ((e ∷ []) ∷ filled most alone [] es)
            ∙ (λ i. closed_entries front i ++ e ∷ filled_entries [] es i)
        | false ↦
            elim (nat_lt (length front) most) as
            (λ b. entries_of (cond b (filled most alone (front ++ e ∷ []) es)
            (front ∷ filled most alone (e ∷ []) es))
            ≡ front ++ e ∷ es) [
              | true ↦ filled_entries (front ++ e ∷ []) es ∙ append_assoc front (e ∷ []) es
              | false ↦ ap (λ (t : List Entry). front ++ t) (filled_entries (e ∷ []) es)
            ]
      ]

  -- ---- how many they are

  pub filled_count : (front es : List Entry) → length (filled most alone front es) ≡ batches most alone (length front) es
  filled_count front [] = closed_count front
  filled_count front (e ∷ es) =
      elim (alone e) as (λ b. length (cond b (closed front ++ (e ∷ []) ∷ filled most alone [] es)
      (cond (nat_lt (length front) most) (filled most alone (front ++ e ∷ []) es)
      (front ∷ filled most alone (e ∷ []) es)))
      ≡ cond b (open_batches (length front) + (1 + batches most alone 0 es))
      (cond (nat_lt (length front) most) (batches most alone (length front + 1) es) (1 + batches most alone 1 es))) [
        | true ↦
            let rest = filled_count [] es in
            let both = length-append (closed front) ((e ∷ []) ∷ filled most alone [] es) in
            let mine = closed_count front in
            omega (arith, rest, both, mine)
        | false ↦
            elim (nat_lt (length front) most) as
            (λ b. length (cond b (filled most alone (front ++ e ∷ []) es) (front ∷ filled most alone (e ∷ []) es))
            ≡ cond b (batches most alone (length front + 1) es) (1 + batches most alone 1 es)) [
              | true ↦ filled_count (front ++ e ∷ []) es ∙ ap (λ n. batches most alone n es) (length_push front e)
              | false ↦ let rest = filled_count (e ∷ []) es in omega (arith, rest)
            ]
      ]

-- ---- what they weigh

pub weigh-append : (weight : Entry → ℕ) (es fs : List Entry)
    → entries_weigh weight (es ++ fs) ≡ entries_weigh weight es + entries_weigh weight fs
weigh-append weight [] fs = omega arith
weigh-append weight (e ∷ es) fs = let rest = weigh-append weight es fs in omega (arith, rest)

-- the frames of the batches, and the entries
pub weighs_all : (weight : Entry → ℕ) (frame : ℕ) (bs : List (List Entry))
    → weighs weight frame bs ≡ length bs * frame + entries_weigh weight (entries_of bs)
weighs_all weight frame [] = omega arith
weighs_all weight frame (b ∷ bs) =
    let rest = weighs_all weight frame bs in
    let both = weigh-append weight b (entries_of bs) in
    let more : length (b ∷ bs) * frame ≡ length bs * frame + frame = suc-mul (length bs) frame in
    omega (arith, rest, both, more)
