-- A batch that may follow a journal takes one record at most.
use Rattle.std.proofs.Common.{◌≡◌, ℕ, ◌+◌, ◌≤◌, Bool, true, false, cond, List, [], ◌∷◌, refl, ap}
use Rattle.std.proofs.Common.{Option, unwrap_or}
use Rattle.std.proofs.Common.{◌∙◌, arith}
use Rattle.std.specs.Prelude.{◌==◌, Some}
use Rattle.std.specs.List.{AllByRecursion}
use Rattle.std.specs.FinMap as fin_map
use Rattle.std.specs.Cmp.{nat_cmp_total, unsigned_tied}
use Rattle.std.specs.Ordering.{nat_cmp}
use Rattle.std.proofs.lemmas.Bool.{eqb-true, false≢true}
use Rattle.sync_rules.specs.declared.entries.Entry.{Entry}
use Rattle.sync_rules.specs.declared.entries.Entry.TheVariants as entry
use Rattle.sync_rules.specs.Clients.{Meaning}
use Rattle.sync_rules.specs.Facts.{Facts, after, after_all, takes_of}
use Rattle.sync_rules.specs.Sessions.{taken}
use Rattle.sync_rules.specs.Legal.{Allowed, SuitsRows}
use Rattle.sync_rules.specs.EntryTests.{IsSettlingEntry}
use Rattle.sync_rules.proofs.BatchEntries.{record_each, rows_each, settling_each}
use Rattle.sync_rules.proofs.BatchKinds.{by_kind}
use Rattle.sync_rules.proofs.StepKinds.{is_of_record}

-- how many records an entry takes
abbrev takes_in : Entry → ℕ
takes_in (entry.Take s k) = 1
takes_in _ = 0

abbrev takes_all : List Entry → ℕ
takes_all [] = 0
takes_all (e ∷ es) = takes_in e + takes_all es

more_takes : (takes : fin_map.FinMap nat_cmp ℕ) (s session : ℕ) → takes_of (fin_map.insert takes s (takes_of takes s + 1)) session ≤ takes_of takes session + 1
more_takes takes s session = go (session == s) refl where
  put : takes_of (fin_map.insert takes s (takes_of takes s + 1)) session
      ≡ unwrap_or (cond (session == s) (Some (takes_of takes s + 1)) (fin_map.get takes session)) 0
  put =
      ap (λ (o : Option ℕ). unwrap_or o 0)
      (fin_map.get-insert nat_cmp_total takes s (takes_of takes s + 1) session)
      ∙ ap (λ b. unwrap_or (cond b (Some (takes_of takes s + 1)) (fin_map.get takes session)) 0)
      (unsigned_tied session s)

  go : (b : Bool) → (session == s) ≡ b → takes_of (fin_map.insert takes s (takes_of takes s + 1)) session ≤ takes_of takes session + 1
  go true is =
      let same : takes_of takes session ≡ takes_of takes s = ap (takes_of takes) (eqb-true session s is) in
      let now : takes_of (fin_map.insert takes s (takes_of takes s + 1)) session ≡ takes_of takes s + 1 =
      put ∙ ap (λ b. unwrap_or (cond b (Some (takes_of takes s + 1)) (fin_map.get takes session)) 0)
      is in
      omega (arith, same, now)
  go false is =
      let now : takes_of (fin_map.insert takes s (takes_of takes s + 1)) session ≡ takes_of takes session =
      put ∙ ap (λ b. unwrap_or (cond b (Some (takes_of takes s + 1)) (fin_map.get takes session)) 0)
      is in
      omega (arith, now)

takes_one : (f : Facts) (e : Entry) (session : ℕ) → takes_of (after f e).takes session ≤ takes_of f.takes session + takes_in e
takes_one f (entry.Take s k) session = more_takes f.takes s session
takes_one f _ session = omega arith

takes_more : (f : Facts) (es : List Entry) (session : ℕ) → takes_of (after_all f es).takes session ≤ takes_of f.takes session + takes_all es
takes_more f [] session = omega arith
takes_more f (e ∷ es) session = omega (arith, takes_more (after f e) es session, takes_one f e session)

-- ---- batches

-- an entry that takes none
abbrev TakesNone : Entry → Type 0
TakesNone e = takes_in e ≡ 0

none_taken : (es : List Entry) → AllByRecursion TakesNone es → takes_all es ≡ 0
none_taken [] all = refl
none_taken (e ∷ es) all = omega (arith, all.0, none_taken es all.1)

-- no entry takes more than one, and only that of a record takes one
few_taken : (e : Entry) → takes_in e ≤ 1
few_taken (entry.Take s k) = omega arith
few_taken _ = omega arith

marks_take_none : (e : Entry) → is_of_record e ≡ true → TakesNone e
marks_take_none (entry.Take s k) is = absurd (false≢true is)
marks_take_none _ is = refl

steps_take_none : (e : Entry) → IsSettlingEntry e → TakesNone e
steps_take_none (entry.Take s k) is = absurd is
steps_take_none _ is = refl

rows_take_none : (f : Facts) (e : Entry) → SuitsRows f e → TakesNone e
rows_take_none f (entry.Take s k) is = absurd is
rows_take_none f _ is = refl

batch_takes : (clients : Meaning) (f : Facts) (batch : List Entry) → Allowed clients f batch → takes_all batch ≤ 1
batch_takes clients f =
    by_kind clients f (λ (es : List Entry). takes_all es ≤ 1) (record {
      alone = λ e settled may. omega (arith, few_taken e);
      of_record = λ s k r settled next.
          omega (arith, none_taken (taken f s r) (record_each TakesNone marks_take_none f s r));
      steps = λ e es step is.
          omega (
            arith,
            none_taken (e ∷ es)
                (settling_each TakesNone steps_take_none clients f (e ∷ es) is.2),
          );
      brief = λ n empty. omega arith;
      rows = λ e es row is.
          omega (
            arith,
            none_taken (e ∷ es)
                (rows_each TakesNone rows_take_none f (e ∷ es) is.suits),
          );
    })

pub one_take : (clients : Meaning) (f : Facts) (batch : List Entry) (session : ℕ) → Allowed clients f batch
    → takes_of (after_all f batch).takes session ≤ takes_of f.takes session + 1
one_take clients f batch session is = omega (arith, takes_more f batch session, batch_takes clients f batch is)
