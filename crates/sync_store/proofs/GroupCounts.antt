-- How many groups it takes to add batches.
use Rattle.std.proofs.Common.{◌≡◌, ℕ, suc, ◌+◌, ◌*◌, ◌-◌, ◌≤◌, Bool, true, false, cond, List, [], ◌∷◌, length}
use Rattle.std.proofs.Common.{refl, sym, ap, ◌∙◌, arith}
use Rattle.std.specs.Prelude.{◌==◌}
use Rattle.std.proofs.lemmas.Bool.{eqb-true}
use Rattle.std.proofs.lemmas.Bool.Decides.{nat_tests}
use Rattle.sync_rules.specs.declared.entries.Entry.{Entry}
use Rattle.entry_codec.specs.declared.naming.Format.{Format}
use Rattle.entry_codec.specs.Payloads.{payload_len}
use Rattle.sync_store.specs.Moments.{groups_for}
use Rattle.sync_store.specs.Waiting.{has_place}

-- a batch joins those that wait
pub joins_those : (format : Format) (waiting batches : ℕ) (b : List Entry)
    (rest : List (List Entry)) → has_place waiting batches ≡ true
    → groups_for format waiting batches (b ∷ rest)
    ≡ groups_for format (waiting + (5 + payload_len format b)) (batches + 1) rest
joins_those format waiting batches b rest place =
    ap (λ (x : Bool). cond x
    (groups_for format (waiting + (5 + payload_len format b)) (batches + 1) rest)
    (suc (groups_for format (5 + payload_len format b) 1 rest))) place

-- some bytes wait
none_by : (n : ℕ) (b : Bool) → 1 ≤ n → b ≡ (n == 0) → b ≡ false
none_by n b some is = grind (arith, nat_tests)

-- those that wait are added first
pub adds_first : (format : Format) (waiting batches : ℕ) (rest : List (List Entry)) → 1 ≤ waiting
    → has_place waiting batches ≡ false
    → groups_for format waiting batches rest ≡ suc (groups_for format 0 0 rest)
adds_first format waiting batches [] some full =
    ap (λ (x : Bool). cond x 0 1) (none_by waiting (waiting == 0) some refl)
adds_first format waiting batches (b ∷ rest) some full =
    let alone : 5 + payload_len format b ≡ 0 + (5 + payload_len format b) = omega arith in
    ap (λ (x : Bool). cond x
    (groups_for format (waiting + (5 + payload_len format b)) (batches + 1) rest)
    (suc (groups_for format (5 + payload_len format b) 1 rest))) full
    ∙ ap suc (ap (λ (n : ℕ). groups_for format n 1 rest) alone
    ∙ sym (joins_those format 0 0 b rest refl))

-- there are no more groups than batches
few_by : (x y : Bool) (a b n : ℕ) → (x ≡ false → y ≡ false) → a ≤ n + 1 → b ≤ n + 1
    → cond x a (suc b) ≤ suc n + cond y 0 1
few_by true true a b n some none less = omega (arith, none)
few_by true false a b n some none less = omega (arith, none)
few_by false true a b n some none less =
    let no : true ≡ false = some refl in
    absurd cc
few_by false false a b n some none less = omega (arith, less)

one_by : (y : Bool) → cond y 0 1 ≤ 1
one_by true = omega arith
one_by false = omega arith

-- where a batch waits, some bytes do
abbrev pub AreCounted : ℕ → ℕ → Type 0
AreCounted waiting batches = waiting ≡ 0 → batches ≡ 0

-- where no more may wait, some wait
full_some : (waiting batches : ℕ) → AreCounted waiting batches
    → has_place waiting batches ≡ false → (waiting == 0) ≡ false
full_some waiting batches counted full = by (waiting == 0) refl
  where
    by : (y : Bool) → (waiting == 0) ≡ y → y ≡ false
    by false is = refl
    by true is =
        let none : waiting ≡ 0 = eqb-true waiting 0 is in
        let place : has_place waiting batches ≡ true =
        ap (λ n. has_place n batches) none ∙ ap (λ n. has_place 0 n) (counted none) in
        sym place ∙ full

groups_few : (format : Format) (waiting batches : ℕ) (bs : List (List Entry))
    → AreCounted waiting batches
    → groups_for format waiting batches bs ≤ length bs + cond (waiting == 0) 0 1
groups_few format waiting batches [] counted = omega arith
groups_few format waiting batches (b ∷ bs) counted =
    let more = waiting + (5 + payload_len format b) in
    let one = 5 + payload_len format b in
    let first : groups_for format more (batches + 1) bs ≤ length bs + 1 =
    omega (
      arith,
      groups_few format more (batches + 1) bs (λ none. absurd (omega (arith, none))),
      one_by (more == 0),
    ) in
    few_by (has_place waiting batches) (waiting == 0)
    (groups_for format more (batches + 1) bs) (groups_for format one 1 bs) (length bs)
    (full_some waiting batches counted) first
    (omega (
      arith,
      groups_few format one 1 bs (λ none. absurd (omega (arith, none))),
      one_by (one == 0),
    ))

pub few_groups : (format : Format) (bs : List (List Entry)) → groups_for format 0 0 bs ≤ length bs
few_groups format bs = omega (arith, groups_few format 0 0 bs (λ none. refl))

-- a group that is added is one, unless none waits
same_by : (n : ℕ) (a b : Bool) → 1 ≤ n → a ≡ (n - 1 == 0) → b ≡ (n == 1) → a ≡ b
same_by n a b some first second = grind (arith, nat_tests)

-- one, where this holds not
abbrev pub unless : Bool → ℕ
unless none = cond none 0 1

pub one_group : (n : ℕ) → 1 ≤ n → unless (n - 1 == 0) ≡ unless (n == 1)
one_group n some = ap unless (same_by n (n - 1 == 0) (n == 1) some refl refl)

-- the calls of it
abbrev pub four_unless : Bool → ℕ
four_unless none = cond none 0 4

pub calls_of_group : (b : Bool) → four_unless b ≡ 4 * unless b
calls_of_group true = refl
calls_of_group false = refl
