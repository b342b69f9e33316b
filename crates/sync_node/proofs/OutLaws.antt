-- A link that may be sent on, and what is sent there.
use Rattle.std.proofs.Common.{◌≡◌, ℕ, zero, suc, ◌+◌, ◌≤◌, true, false, refl, ap, arith, Option, None, Some, ◌≢◌, Bool, cond, nat_eq, eq-eqb, List, [], ◌∷◌, sym, ◌∙◌, subst, inl, inr, Result, Ok, Err, IfSome}
use Rattle.sync_rules.specs.declared.entries.Session.{Session}
use Rattle.sync_rules.specs.Clients.{Meaning}
use Rattle.sync_rules.specs.Facts.{Facts, session_at}
use Rattle.journal_state.specs.Allowing.{due_of}
use Rattle.sync_course.specs.declared.TheConstants.{MAX_OUTPUTS}
use Rattle.sync_course.specs.Links.{is_going, is_sent_to}
use Rattle.sync_course.specs.LinkTurns.{IsEnough, IsNothingDue}
use Rattle.sync_course.specs.declared.ends.LinkEnd.{LinkEnd}
use Rattle.sync_node.specs.Sending.{EndsBy, MaySend, StaysOrFails}
use Rattle.std.proofs.lemmas.Bool.{cases_eq, ne_eqb}
use Rattle.outside.specs.declared.failed.Failed.{Failed}
use Rattle.record_stream.specs.Reading.{ReaderState}
use Rattle.sync_rules.specs.declared.entries.Out.{Out}
use Rattle.sync_node.specs.declared.link.Link.{Link}
use Rattle.sync_rules.specs.Legal.{Allowed}
use Rattle.sync_rules.specs.Steps.{IsSettled}
use Rattle.journal_state.specs.Whole.{KnowsJudgements, StateValue}
use Rattle.sync_course.specs.declared.ends.LinkEnd.TheVariants as link_end
use Rattle.sync_rules.specs.declared.entries.Entry.TheVariants as entry

-- ---- hearing

pub not_going_end : (e : LinkEnd) → (e ≡ link_end.Going → ⊥) → is_going e ≡ false
not_going_end link_end.Going closed = absurd (closed refl)
not_going_end _ closed = refl

-- ---- sending

pub may_end : (e : LinkEnd) → MaySend e → is_sent_to e ≡ true
may_end link_end.Going may = refl
may_end link_end.Clean may = refl
may_end _ may = absurd may

pub may_not_end : (e : LinkEnd) → (MaySend e → ⊥) → is_sent_to e ≡ false
may_not_end link_end.Going may = absurd (may tt)
may_not_end link_end.Clean may = absurd (may tt)
may_not_end _ may = refl

-- ---- a list of outputs

-- so many outputs were made that no room is left
pub full : (clients : Meaning) (f : Facts) (session now made : ℕ) → MAX_OUTPUTS ≤ made → (room : ℕ)
    → room + made ≡ MAX_OUTPUTS → IsEnough clients f session now room
full clients f session now made used zero rest = tt
full clients f session now made used (suc room) rest = absurd (omega (arith, used, rest))

pub option_none : {A : Type 0} (v : Option A) → ((x : A) → v ≡ Some x → ⊥) → v ≡ None
option_none None never = refl
option_none (Some x) never = absurd (never x refl)

-- nothing is due
pub none_due : (clients : Meaning) (f : Facts) (session now : ℕ)
    → due_of clients f (session_at f.sessions session) now ≡ None → (room : ℕ)
    → IsEnough clients f session now room
none_due clients f session now none zero = tt
none_due clients f session now none (suc room) = by_session (session_at f.sessions session) none
  where
    by_session : (x : Option Session) → due_of clients f x now ≡ None → IsNothingDue clients f x now
    by_session None none = tt
    by_session (Some x) none = none

-- the link is as it was, or failed
pub kept_by : (result : Result (Unit {0}) Failed) (l l' : Link) → EndsBy result l l'
    → StaysOrFails l l'
kept_by (Ok u) l l' ends = inl ends
kept_by (Err e) l l' ends = inr ends

pub sent_session : (l l' : Link) → StaysOrFails l l' → l'.session ≡ l.session
sent_session l l' sent = elim sent [
  | inl same ↦ ap (λ (x : Link). x.session) same
  | inr failed ↦ ap (λ (x : Link). x.session) failed
]

pub sent_then : (l m l' : Link) → StaysOrFails l m → StaysOrFails m l' → StaysOrFails l l'
sent_then l m l' first second = elim second [
  | inl same ↦ subst (StaysOrFails l) (sym same) first
  | inr failed ↦ elim first [
    | inl was ↦ inr (failed ∙ ap (λ (x : Link). record x { end = link_end.Failed }) was)
    | inr was ↦ inr (failed ∙ ap (λ (x : Link). record x { end = link_end.Failed }) was)
  ]
]

-- what holds of the reader while the link is asked holds still
pub still_so : (P : ReaderState → Type 0) (l l' : Link) → StaysOrFails l l'
    → (l.end ≡ link_end.Going → P l.reader) → l'.end ≡ link_end.Going → P l'.reader
still_so P l l' sent holds going = elim sent [
  | inl same ↦
      subst (λ (x : Link). P x.reader) (sym same)
      (holds (ap (λ (x : Link). x.end) (sym same) ∙ going))
  | inr failed ↦
      absurd (let e : link_end.Failed ≡ link_end.Going = sym (ap (λ (x : Link). x.end) failed) ∙ going in cc)
]

-- nothing is owed any more, once that of one link went out
pub all_paid : (n link : ℕ) (owed : List ℕ) → (link ≢ n → owed ≡ [])
    → [] ≡ cond (nat_eq n link) [] owed
all_paid n link owed others = elim (cases_eq link n) [
  | inl same ↦ sym (ap (λ (b : Bool). cond b [] owed) (eq-eqb n link (sym same)))
  | inr other ↦
      sym (ap (λ (b : Bool). cond b [] owed) (ne_eqb n link (λ same. other (sym same)))
      ∙ others other)
]

-- ---- a link that may be sent on

pub may_unfailed : (e : LinkEnd) → MaySend e → e ≢ link_end.Failed
may_unfailed link_end.Going may = λ failed. cc
may_unfailed link_end.Clean may = λ failed. cc
may_unfailed _ may = absurd may

-- ---- what the state that a store lends tells is so of the store

pub due_told : (s t : StateValue) (session now : ℕ) (what : Option Out) → t ≡ s
    → ((clients : Meaning) → KnowsJudgements clients t → what ≡ due_of clients t.facts (session_at t.facts.sessions session) now)
    → (clients : Meaning) → KnowsJudgements clients s → what ≡ due_of clients s.facts (session_at s.facts.sessions session) now
due_told s t session now what same =
    subst (λ (v : StateValue). (clients : Meaning) → KnowsJudgements clients v → what ≡ due_of clients v.facts (session_at v.facts.sessions session) now) same

pub allowed_told : (s t : StateValue) (session now : ℕ) (what : Option Out) → t ≡ s
    → ((clients : Meaning) → KnowsJudgements clients t → IsSettled clients t.facts → IfSome what (λ w. Allowed clients t.facts (entry.Out session now w ∷ [])))
    → (clients : Meaning) → KnowsJudgements clients s → IsSettled clients s.facts → IfSome what (λ w. Allowed clients s.facts (entry.Out session now w ∷ []))
allowed_told s t session now what same =
    subst (λ (v : StateValue). (clients : Meaning) → KnowsJudgements clients v → IsSettled clients v.facts → IfSome what (λ w. Allowed clients v.facts (entry.Out session now w ∷ []))) same
