-- What leaves the sessions of a store as they were.
use Rattle.std.proofs.Common.{◌≡◌, ℕ, true, List, [], ◌∷◌, refl, ap, ◌∙◌, Result, Ok, Err}
use Rattle.std.specs.Prelude.{◌&&◌, Bool}
use Rattle.std.specs.List.{list_all}
use Rattle.std.proofs.lemmas.Bool.{and_parts, false≢true}
use Rattle.sync_ids.specs.Values.{GroupValue}
use Rattle.sync_rules.specs.declared.entries.Entry.{Entry}
use Rattle.sync_rules.specs.declared.entries.Entry.TheVariants as entry
use Rattle.sync_rules.specs.declared.entries.Level.{Level}
use Rattle.sync_rules.specs.declared.states.Refused.{Refused}
use Rattle.sync_rules.specs.Clients.{Meaning}
use Rattle.sync_rules.specs.Facts.{Facts, Id, after, after_all, after_batches}
use Rattle.sync_rules.specs.Legal.{AllSettling}
use Rattle.sync_rules.proofs.StepKinds.{all_settling_only}
use Rattle.sync_store.specs.Refusals.{contact_answer, group_answer, level_answer}
use Rattle.sync_store.specs.Runs.{AddsBatch}
use Rattle.sync_store.specs.Store.{StoreValue}
use Rattle.sync_words.specs.declared.outcome.Outcome.{Outcome}
use Rattle.sync_words.specs.declared.outcome.Outcome.TheVariants as outcome
use Rattle.store_commands.specs.Plans.{adds, contact_plan, group_plan, level_plan, planned}
use Rattle.store_commands.specs.Serving.{LeavesSessions, LeavesSessionsBy, begins_none}

-- ---- facts

-- their sessions, and how many have begun, are the same
pub record SameSessions (f later : Facts) : Type 0 where
  pub sessions : later.sessions ≡ f.sessions
  pub begun : later.begun ≡ f.begun

same_then : (f g h : Facts) → SameSessions f g → SameSessions g h → SameSessions f h
same_then f g h first second = record {
  sessions = second.sessions ∙ first.sessions;
  begun = second.begun ∙ first.begun;
}

one_leaves : (f : Facts) (e : Entry) → begins_none e ≡ true → SameSessions f (after f e)
one_leaves f (entry.Session s) none = absurd (false≢true none)
one_leaves f (entry.Brief n) none = absurd (false≢true none)
one_leaves f _ none = record { sessions = refl; begun = refl }

-- the entries of a batch
pub batch_leaves : (f : Facts) (batch : List Entry) → list_all begins_none batch ≡ true
    → SameSessions f (after_all f batch)
batch_leaves f [] none = record { sessions = refl; begun = refl }
batch_leaves f (e ∷ es) none =
    let both = and_parts (begins_none e) (list_all begins_none es) none in
    same_then f (after f e) (after_all (after f e) es) (one_leaves f e both.0)
    (batch_leaves (after f e) es both.1)

-- several batches
pub batches_leave : (f : Facts) (more : List (List Entry))
    → list_all (list_all begins_none) more ≡ true → SameSessions f (after_batches f more)
batches_leave f [] none = record { sessions = refl; begun = refl }
batches_leave f (b ∷ bs) none =
    let both = and_parts (list_all begins_none b) (list_all (list_all begins_none) bs) none in
    same_then f (after_all f b) (after_batches (after_all f b) bs) (batch_leaves f b both.0)
    (batches_leave (after_all f b) bs both.1)

-- settling
pub settling_leaves : (clients : Meaning) (f : Facts) (more : List (List Entry))
    → AllSettling clients f more → SameSessions f (after_batches f more)
settling_leaves clients f more settling =
    let only = all_settling_only clients f more settling in
    record { sessions = only.sessions; begun = only.begun }

-- a batch, and settling behind it
pub adding_leaves : (clients : Meaning) (f : Facts) (batch : List Entry)
    (more : List (List Entry)) → list_all begins_none batch ≡ true
    → AddsBatch clients f batch more → SameSessions f (after_batches f more)
adding_leaves clients f batch [] none added = record { sessions = refl; begun = refl }
adding_leaves clients f batch (b ∷ rest) none added =
    let behind : SameSessions (after_all f batch) (after_batches (after_all f batch) rest) =
    settling_leaves clients (after_all f batch) rest added.1 in
    let all : SameSessions f (after_batches (after_all f batch) rest) =
    same_then f (after_all f batch) (after_batches (after_all f batch) rest)
    (batch_leaves f batch none) behind in
    let is : after_batches f (b ∷ rest) ≡ after_batches (after_all f batch) rest =
    ap (λ (x : List Entry). after_batches (after_all f x) rest) added.0 in
    record {
      sessions = ap (λ (g : Facts). g.sessions) is ∙ all.sessions;
      begun = ap (λ (g : Facts). g.begun) is ∙ all.begun;
    }

-- ---- stores

-- a store that came to these facts
pub leaves_at : (s s' : StoreValue) (later : Facts) → s'.state.facts ≡ later
    → SameSessions s.state.facts later → LeavesSessions s s'
leaves_at s s' later is same = record {
  sessions = ap (λ (f : Facts). f.sessions) is ∙ same.sessions;
  begun = ap (λ (f : Facts). f.begun) is ∙ same.begun;
}

-- a store that kept its facts
pub leaves_kept : (s s' : StoreValue) → s'.state.facts ≡ s.state.facts → LeavesSessions s s'
leaves_kept s s' is =
    leaves_at s s' s.state.facts is (record { sessions = refl; begun = refl })

pub leaves_itself : (s : StoreValue) → LeavesSessions s s
leaves_itself s = leaves_kept s s refl

pub leaves_then : (s s1 s2 : StoreValue) → LeavesSessions s s1 → LeavesSessions s1 s2
    → LeavesSessions s s2
leaves_then s s1 s2 first second = record {
  sessions = second.sessions ∙ first.sessions;
  begun = second.begun ∙ first.begun;
}

-- ---- by the outcome

pub leaves_by : (s s' : StoreValue) (came : Outcome) → LeavesSessions s s'
    → LeavesSessionsBy s s' came
leaves_by s s' outcome.DiskFault leaves = tt
leaves_by s s' _ leaves = leaves

-- behind a call that left them
pub leaves_behind : (s s1 s2 : StoreValue) (came : Outcome) → LeavesSessions s s1
    → LeavesSessionsBy s1 s2 came → LeavesSessionsBy s s2 came
leaves_behind s s1 s2 outcome.DiskFault first second = tt
leaves_behind s s1 s2 _ first second = leaves_then s s1 s2 first second

-- ---- a batch of one entry

pub alone_begins_none : (e : Entry) → begins_none e ≡ true
    → list_all begins_none (e ∷ []) ≡ true
alone_begins_none e none = ap (λ (b : Bool). b && true) none

planned_begins_none : {A : Type 0} (entry_of : A → Entry) (r : Result A Refused) (e : Entry)
    → ((a : A) → begins_none (entry_of a) ≡ true) → planned entry_of r ≡ adds e
    → begins_none e ≡ true
planned_begins_none entry_of (Ok a) e each is =
    let same : e ≡ entry_of a = cc in ap begins_none same ∙ each a
planned_begins_none entry_of (Err why) e each is = cc

pub contact_begins_none : (f : Facts) (e : Entry) → contact_plan f ≡ adds e
    → begins_none e ≡ true
contact_begins_none f e is =
    planned_begins_none (λ n. entry.Contact n) (contact_answer f) e (λ n. refl) is

pub group_begins_none : (clients : Meaning) (f : Facts) (def : GroupValue) (e : Entry)
    → group_plan clients f def ≡ adds e → begins_none e ≡ true
group_begins_none clients f def e is =
    planned_begins_none (λ (id : Id). entry.Group def) (group_answer clients f def) e (λ id. refl)
    is

pub level_begins_none : (f : Facts) (contact : ℕ) (group : Id) (l : Level) (e : Entry)
    → level_plan f contact group l ≡ adds e → begins_none e ≡ true
level_begins_none f contact group l e is =
    planned_begins_none (λ (u : Unit {0}). entry.Level contact group l)
    (level_answer f contact group) e (λ u. refl) is
