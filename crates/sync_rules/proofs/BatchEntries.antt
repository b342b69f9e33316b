-- What holds of the entries of each kind of batch holds of each entry of a batch that is allowed.
use Rattle.std.proofs.Common.{◌≡◌, ℕ, Bool, true, List, [], ◌∷◌, refl}
use Rattle.std.specs.List.{AllByRecursion, list_all}
use Rattle.std.proofs.lemmas.Bool.{and_from, and_parts}
use Rattle.sync_ids.specs.declared.records.Record.{Record}
use Rattle.sync_rules.specs.declared.entries.Entry.{Entry}
use Rattle.sync_rules.specs.declared.entries.Entry.TheVariants as entry
use Rattle.sync_rules.specs.declared.states.Start.TheVariants as start
use Rattle.sync_rules.specs.Clients.{Meaning}
use Rattle.sync_rules.specs.Facts.{Facts, after}
use Rattle.sync_rules.specs.Sessions.{taken}
use Rattle.sync_rules.specs.Legal.{Allowed, AreRows, IsSettling, MayStandAlone, SuitsRows}
use Rattle.sync_rules.specs.Meeting.{AllMeet, MeetsNoStep}
use Rattle.sync_rules.specs.EntryTests.{IsSettlingEntry}
use Rattle.sync_rules.proofs.BatchKinds.{by_kind}
use Rattle.sync_rules.proofs.MeetingLaws.{allowed_meets}
use Rattle.sync_rules.proofs.StepKinds.{all_of_record, is_of_record, taken_of_record}
use Rattle.sync_rules.proofs.StepLaws.{next_is_settling}

-- a test that each entry passes, and what holds of each that passes
pub all_pass : (test : Entry → Bool) (P : Entry → Type 0) → ((e : Entry) → test e ≡ true → P e)
    → (es : List Entry) → list_all test es ≡ true → AllByRecursion P es
all_pass test P up [] all = tt
all_pass test P up (e ∷ es) all =
    let both = and_parts (test e) (list_all test es) all in
    (up e both.0, all_pass test P up es both.1)

pub passes_all : (test : Entry → Bool) (es : List Entry)
    → AllByRecursion (λ (e : Entry). test e ≡ true) es → list_all test es ≡ true
passes_all test [] all = refl
passes_all test (e ∷ es) all = and_from (test e) (list_all test es) all.0 (passes_all test es all.1)

-- ---- by the kinds of batches

-- the entries that a record is taken as
pub record_each : (P : Entry → Type 0) → ((e : Entry) → is_of_record e ≡ true → P e)
    → (f : Facts) (session : ℕ) (r : Record) → AllByRecursion P (taken f session r)
record_each P up f session r =
    all_pass is_of_record P up (taken f session r)
    (all_of_record is_of_record session (taken_of_record session) f r)

pub settling_each : (P : Entry → Type 0) → ((e : Entry) → IsSettlingEntry e → P e)
    → (clients : Meaning) (f : Facts) (es : List Entry) → IsSettling clients f es
    → AllByRecursion P es
settling_each P up clients f [] is = tt
settling_each P up clients f (e ∷ es) is =
    (up e (next_is_settling clients f e is.0), settling_each P up clients (after f e) es is.1)

pub rows_each : (P : Entry → Type 0) → ((g : Facts) (e : Entry) → SuitsRows g e → P e)
    → (f : Facts) (es : List Entry) → AreRows f es → AllByRecursion P es
rows_each P up f [] is = tt
rows_each P up f (e ∷ es) is = (up f e is.0, rows_each P up (after f e) es is.1)

-- what holds of an entry by itself, of a Take and what a record is taken as, of a step, of the first of a brief account,
-- and of its rows
pub record HoldsOfEach (clients : Meaning) (f : Facts) (P : Entry → Type 0) : Type 0 where
  pub alone : (e : Entry) → MayStandAlone clients f e → P e
  pub take : (s k : ℕ) → P (entry.Take s k)
  pub of_record : (e : Entry) → is_of_record e ≡ true → P e
  pub step : (e : Entry) → IsSettlingEntry e → P e
  pub brief : (n : ℕ) → f.start ≡ start.Empty → P (entry.Brief n)
  pub row : (g : Facts) (e : Entry) → f.start ≡ start.Opening → SuitsRows g e → P e

pub each_by_kind : (clients : Meaning) (f : Facts) (P : Entry → Type 0) → HoldsOfEach clients f P
    → (b : List Entry) → Allowed clients f b → AllByRecursion P b
each_by_kind clients f P holds =
    by_kind clients f (λ (es : List Entry). AllByRecursion P es) (record {
      alone = λ e settled may. (holds.alone e may, tt);
      of_record = λ s k r settled next. (holds.take s k, record_each P holds.of_record f s r);
      steps = λ e es step is. settling_each P holds.step clients f (e ∷ es) is.2;
      brief = λ n empty. (holds.brief n empty, tt);
      rows = λ e es row is. rows_each P (λ g d suits. holds.row g d is.opening suits) f
          (e ∷ es) is.suits;
    })

-- ---- by what each entry meets at its place

pub meeting_each : (clients : Meaning) (P : Entry → Type 0)
    → ((g : Facts) (e : Entry) → MeetsNoStep clients g e → P e)
    → (f : Facts) (es : List Entry) → AllMeet clients f es → AllByRecursion P es
meeting_each clients P up f [] meet = tt
meeting_each clients P up f (e ∷ es) meet =
    (up f e meet.0, meeting_each clients P up (after f e) es meet.1)

pub each_met : (clients : Meaning) (f : Facts) (P : Entry → Type 0)
    → ((g : Facts) (e : Entry) → MeetsNoStep clients g e → P e)
    → (b : List Entry) → Allowed clients f b → AllByRecursion P b
each_met clients f P up b a = meeting_each clients P up f b (allowed_meets clients f b a)
