-- What two people agreed on leaves the sessions of a store as they were.
use Rattle.std.proofs.Common.{◌≡◌, ℕ, Bool, true, false, List, [], ◌∷◌, ◌++◌, refl, sym, ap, ◌∙◌}
use Rattle.std.proofs.Common.{Result, Ok, Err}
use Rattle.std.specs.List.{list_all}
use Rattle.std.proofs.lemmas.Bool.{and_from, and_parts}
use Rattle.outside.specs.Outside.{Outside}
use Rattle.sync_rules.specs.declared.entries.Entry.{Entry}
use Rattle.sync_rules.specs.Clients.{Meaning}
use Rattle.sync_rules.specs.Facts.{Facts, Id, after_batches}
use Rattle.sync_store.specs.Store.{StoreValue}
use Rattle.sync_words.specs.declared.outcome.Outcome.{Outcome}
use Rattle.sync_words.specs.declared.outcome.Outcome.TheVariants as outcome
use Rattle.sync_words.specs.Outcomes.{came_to}
use Rattle.client_sharing.specs.declared.agreement.Target.{Target}
use Rattle.store_commands.specs.Serving.{LeavesSessions, LeavesSessionsBy, begins_none}
use Rattle.store_commands.proofs.Sessions.{batches_leave, leaves_at}
use Rattle.sharing_commands.specs.declared.deed.Deed.{Deed}
use Rattle.sharing_commands.specs.declared.deed.Deed.TheVariants as deed
use Rattle.sharing_commands.specs.Adding.{AddsFront}
use Rattle.sharing_commands.specs.Agreement.{agreed_batches, agreed_targets}
use Rattle.sharing_commands.specs.Deeds.{all_batches, batches_for, deed_batches, deed_of}
use Rattle.sharing_commands.proofs.Wholes.{front_of}

-- ---- lists

both_all : {A : Type 0} (test : A → Bool) (xs ys : List A) → list_all test xs ≡ true
    → list_all test ys ≡ true → list_all test (xs ++ ys) ≡ true
both_all test [] ys first second = second
both_all test (x ∷ xs) ys first second =
    let both = and_parts (test x) (list_all test xs) first in
    and_from (test x) (list_all test (xs ++ ys)) both.0 (both_all test xs ys both.1 second)

front_all : {A : Type 0} (test : A → Bool) (front rest : List A)
    → list_all test (front ++ rest) ≡ true → list_all test front ≡ true
front_all test [] rest all = refl
front_all test (x ∷ front) rest all =
    let both = and_parts (test x) (list_all test (front ++ rest)) all in
    and_from (test x) (list_all test front) both.0 (front_all test front rest both.1)

-- ---- what the targets ask for

-- whether none of these batches begins a session
abbrev begin_none : List (List Entry) → Bool
begin_none batches = list_all (list_all begins_none) batches

deed_begins_none : (contact : ℕ) (t : Target) (d : Deed)
    → begin_none (deed_batches contact t d) ≡ true
deed_begins_none contact t deed.Set = refl
deed_begins_none contact t deed.Add = refl
deed_begins_none contact t _ = refl

all_begin_none : (clients : Meaning) (contact : ℕ) (f : Facts) (ts : List Target)
    → begin_none (all_batches clients contact f ts) ≡ true
all_begin_none clients contact f [] = refl
all_begin_none clients contact f (t ∷ ts) =
    let b = batches_for clients contact f t in
    both_all (list_all begins_none) b (all_batches clients contact (after_batches f b) ts)
    (deed_begins_none contact t (deed_of clients contact f t))
    (all_begin_none clients contact (after_batches f b) ts)

-- ---- a store that came by a front of it

module _ (clients : Meaning) (contact : ℕ) (group : Id) (s s' : StoreValue) (o o' : Outside) where
  leaves_opened : (r : Result (Unit {0}) Outcome)
      → AddsFront clients s s' o o' (agreed_batches clients contact group s.state.facts) r
      → s'.closed ≡ false → LeavesSessions s s'
  leaves_opened r added opened =
      let f = s.state.facts in
      let all = agreed_batches clients contact group f in
      let some = front_of s' all added.front r added.answer in
      let none : begin_none (added.front ++ some.rest) ≡ true =
      ap begin_none (sym some.whole)
      ∙ all_begin_none clients contact f (agreed_targets f contact group) in
      leaves_at s s' (after_batches f added.front) (added.adds.comes.runs.facts opened)
      (batches_leave f added.front (front_all (list_all begins_none) added.front some.rest none))

  pub agreed_leaves : (r : Result (Unit {0}) Outcome)
      → AddsFront clients s s' o o' (agreed_batches clients contact group s.state.facts) r
      → LeavesSessionsBy s s' (came_to r)
  agreed_leaves (Ok u) added = leaves_opened (Ok u) added added.answer.0
  agreed_leaves (Err outcome.Full) added = leaves_opened (Err outcome.Full) added added.answer.0
  agreed_leaves (Err outcome.Memory) added =
      leaves_opened (Err outcome.Memory) added added.answer.0
  agreed_leaves (Err outcome.DiskFault) added = tt
  agreed_leaves (Err _) added = absurd added.answer
