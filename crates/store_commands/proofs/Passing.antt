-- An error that goes on by `?`: what holds of the outcome that it is turned into holds of the
-- answer.
use Rattle.std.proofs.Common.{◌≡◌, ℕ, List, ap, sym, subst, Result, Ok, Err}
use Rattle.std.specs.Prelude.{IsErrAnd, IsErrOf, Option}
use Rattle.outside.specs.Files.{Two, File}
use Rattle.outside.specs.Outside.{Outside}
use Rattle.outside.specs.Streams.{Stream}
use Rattle.sync_rules.specs.declared.entries.Entry.{Entry}
use Rattle.sync_rules.specs.Clients.{Meaning}
use Rattle.sync_rules.specs.Facts.{Facts, Id}
use Rattle.sync_store.specs.Store.{StoreValue}
use Rattle.sync_words.specs.declared.outcome.Outcome.{Outcome}
use Rattle.sync_words.specs.declared.outcome.Outcome.TheVariants as outcome
use Rattle.sync_words.specs.Outcomes.{came_to}
use Rattle.store_commands.specs.declared.commit.Settling.{Settling}
use Rattle.store_commands.specs.Commit.{ExtendsBy, ExtendsTold, SettlesAnew, StoreStaysReady}
use Rattle.store_commands.specs.Entries.{EntryAdded, HasAdded}
use Rattle.sync_rules.specs.declared.states.Refused.{Refused}
use Rattle.store_commands.specs.Plans.{EntryPlan, plan_of, refuses}
use Rattle.store_commands.specs.Post.{HasPosted}
use Rattle.store_commands.specs.Looking.{HasLooked}
use Rattle.store_commands.specs.Serving.{LeavesSessionsBy, ServesOn}
use Rattle.store_commands.specs.Shown.{Showing}

-- what holds of an outcome
pub passed : (P : Outcome → Type 0) (r : Result (Unit {0}) Outcome) (x : Outcome) → IsErrAnd r
    (λ e. e ≡ x) → P x → P (came_to r)
passed P (Ok u) x is h = absurd is
passed P (Err e) x is h = subst P (sym is) h

-- what holds of an answer
passed_on : (P : Result (Unit {0}) Outcome → Type 0) (r : Result (Unit {0}) Outcome) (x : Outcome)
    → IsErrAnd r (λ e. e ≡ x) → P (Err x) → P r
passed_on P (Ok u) x is h = absurd is
passed_on P (Err e) x is h = subst (λ (o : Outcome). P (Err o)) (sym is) h

-- what holds at Full
abbrev pub AtFull : Type 0 → Result (Unit {0}) Outcome → Type 0
AtFull P q = IsErrOf q outcome.Full → P

module _ (r : Result (Unit {0}) Outcome) (x : Outcome) (is : IsErrAnd r (λ e. e ≡ x)) where
  pub by_on : (o o' : Outside) → ExtendsBy o o' (Err x) → ExtendsBy o o' r
  by_on o o' = passed_on (λ (q : Result (Unit {0}) Outcome). ExtendsBy o o' q) r x is

  pub told_on_error : (clients : Meaning) (settling : Settling) (j : List (List Entry))
      (batch : List Entry) (two : Two File) (o o' : Outside)
      → ExtendsTold clients settling j batch two o o' (Err x)
      → ExtendsTold clients settling j batch two o o' r
  told_on_error clients settling j batch two o o' =
      passed_on (λ (q : Result (Unit {0}) Outcome). ExtendsTold clients settling j batch two o o' q)
      r x is

  pub anew_on : (clients : Meaning) (s s' : StoreValue) (o o' : Outside)
      → SettlesAnew clients s s' o o' (Err x) → SettlesAnew clients s s' o o' r
  anew_on clients s s' o o' =
      passed_on (λ (q : Result (Unit {0}) Outcome). SettlesAnew clients s s' o o' q) r x is

  pub ready_on : (clients : Meaning) (s : StoreValue) (files : Option (Two File))
      → StoreStaysReady clients s files (Err x) → StoreStaysReady clients s files r
  ready_on clients s files =
      passed_on (λ (q : Result (Unit {0}) Outcome). StoreStaysReady clients s files q) r x is

  pub full_on : (P : Type 0) → AtFull P (Err x) → AtFull P r
  full_on P = passed_on (AtFull P) r x is

  pub entry_on : (clients : Meaning) (asked : Settling) (s : StoreValue) (e : Entry)
      (o o' : Outside) (out out' : Stream) → EntryAdded clients asked s e o o' out out' x
      → EntryAdded clients asked s e o o' out out' (came_to r)
  entry_on clients asked s e o o' out out' =
      passed (λ (came : Outcome). EntryAdded clients asked s e o o' out out' came) r x is

  pub added_on : (clients : Meaning) (plan : Facts → EntryPlan) (asked : Settling) (o o' : Outside)
      (out out' : Stream) → HasAdded clients plan asked o o' out out' x
      → HasAdded clients plan asked o o' out out' (came_to r)
  added_on clients plan asked o o' out out' =
      passed (λ (came : Outcome). HasAdded clients plan asked o o' out out' came) r x is

  pub serves_on : (clients : Meaning) (s : StoreValue) (o : Outside) → ServesOn clients s o x
      → ServesOn clients s o (came_to r)
  serves_on clients s o = passed (λ (came : Outcome). ServesOn clients s o came) r x is

  pub leaves_on : (s s' : StoreValue) → LeavesSessionsBy s s' x → LeavesSessionsBy s s' (came_to r)
  leaves_on s s' = passed (λ (came : Outcome). LeavesSessionsBy s s' came) r x is

  pub looked_on : (clients : Meaning) (shown : Facts → Showing) (o o' : Outside) (out out' : Stream)
      → HasLooked clients shown o o' out out' x
      → HasLooked clients shown o o' out out' (came_to r)
  looked_on clients shown o o' out out' =
      passed (λ (came : Outcome). HasLooked clients shown o o' out out' came) r x is

  pub posted_on : (clients : Meaning) (group : Id) (timestamp : ℕ) (o o' : Outside)
      (input input' out out' : Stream)
      → HasPosted clients group timestamp o o' input input' out out' x
      → HasPosted clients group timestamp o o' input input' out out' (came_to r)
  posted_on clients group timestamp o o' input input' out out' =
      passed (λ (came : Outcome). HasPosted clients group timestamp o o' input input' out out' came)
      r x is

-- ---- refusals

pub refused_on : (r : Result Entry Refused) (why : Refused) → IsErrAnd r (λ e. e ≡ why)
    → plan_of r ≡ refuses why
refused_on (Ok e) why is = absurd is
refused_on (Err e) why is = ap refuses is
