-- Lists of acts: what two parts of one add up to.
use Rattle.std.proofs.Common.{◌≡◌, ℕ, List, [], ◌∷◌, ◌++◌, append_assoc, refl, sym, ◌∙◌, ap, inl, inr}
use Rattle.outside.specs.Runs.{IsFront}
use Rattle.sync_rules.specs.declared.entries.Entry.{Entry}
use Rattle.sync_course.specs.Acts.{Act, AreQuiet, Does, Send, Fail, IsQuiet, batches_in, commit_acts, event_of, events_of, next_bytes, sends_on, sent_by}
use Rattle.sync_rules.specs.Facts.{Facts}
use Rattle.sync_course.specs.Events.{AreQuietEvents, Break, Commit, Event, Hear, IsQuietEvent, Miss, Pass, Read, batches_of, commits}
use Rattle.sync_course.specs.Owing.{ActStep, MayOwe, Owing, OwesNothing, adds_to}
use Rattle.sync_course.specs.Paths.{Path}
use Rattle.sync_course.proofs.PathLaws.{path_maps}
use Rattle.sync_course.proofs.ToldLaws.{batches_of-append, batches_of_commits}

pub events_of-append : (acts bs : List Act) → events_of (acts ++ bs) ≡ events_of acts ++ events_of bs
events_of-append [] bs = refl
events_of-append (a ∷ acts) bs = ap (λ es. event_of a ∷ es) (events_of-append acts bs)

pub batches_in-append : (acts bs : List Act)
    → batches_in (acts ++ bs) ≡ batches_in acts ++ batches_in bs
batches_in-append acts bs =
    ap (λ es. batches_of es) (events_of-append acts bs)
    ∙ batches_of-append (events_of acts) (events_of bs)

pub sends_on-append : (link : ℕ) (acts bs : List Act)
    → sends_on link (acts ++ bs) ≡ sends_on link acts ++ sends_on link bs
sends_on-append link [] bs = refl
sends_on-append link (a ∷ acts) bs =
    ap (λ l. sent_by link a ++ l) (sends_on-append link acts bs)
    ∙ sym (append_assoc (sent_by link a) (sends_on link acts) (sends_on link bs))

pub commit_acts-append : (bs cs : List (List Entry))
    → commit_acts (bs ++ cs) ≡ commit_acts bs ++ commit_acts cs
commit_acts-append [] cs = refl
commit_acts-append (b ∷ bs) cs =
    ap (λ l. Does (Commit b) ∷ l) (commit_acts-append bs cs)

pub events_of_commits : (bs : List (List Entry)) → events_of (commit_acts bs) ≡ commits bs
events_of_commits [] = refl
events_of_commits (b ∷ bs) = ap (λ es. Commit b ∷ es) (events_of_commits bs)

pub batches_in_commits : (bs : List (List Entry)) → batches_in (commit_acts bs) ≡ bs
batches_in_commits bs =
    ap (λ es. batches_of es) (events_of_commits bs) ∙ batches_of_commits bs

pub commits_send : (link : ℕ) (bs : List (List Entry)) → sends_on link (commit_acts bs) ≡ []
commits_send link [] = refl
commits_send link (b ∷ bs) = commits_send link bs

-- ---- quiet acts: nothing goes out by them, and nothing is told of them but their batches

pub quiet_append : (acts bs : List Act) → AreQuiet acts → AreQuiet bs → AreQuiet (acts ++ bs)
quiet_append [] bs first second = second
quiet_append (a ∷ acts) bs first second = (first.0, quiet_append acts bs first.1 second)

pub commits_are_quiet : (bs : List (List Entry)) → AreQuiet (commit_acts bs)
commits_are_quiet [] = tt
commits_are_quiet (b ∷ bs) = (tt, commits_are_quiet bs)

-- each part of quiet acts is quiet
pub quiet_front : (acts bs : List Act) → AreQuiet (acts ++ bs) → AreQuiet acts
quiet_front [] bs quiet = tt
quiet_front (a ∷ acts) bs quiet = (quiet.0, quiet_front acts bs quiet.1)

pub quiet_behind : (acts bs : List Act) → AreQuiet (acts ++ bs) → AreQuiet bs
quiet_behind [] bs quiet = quiet
quiet_behind (a ∷ acts) bs quiet = quiet_behind acts bs quiet.1

pub quiet_sends : (link : ℕ) (acts : List Act) → AreQuiet acts → sends_on link acts ≡ []
quiet_sends link [] quiet = refl
quiet_sends link (Does e ∷ acts) quiet = quiet_sends link acts quiet.1
quiet_sends link (Send n bytes ∷ acts) quiet = absurd quiet.0
quiet_sends link (Fail n bytes count ∷ acts) quiet = absurd quiet.0

pub quiet_next : (link : ℕ) (acts : List Act) → AreQuiet acts → next_bytes link acts ≡ []
quiet_next link [] quiet = refl
quiet_next link (Does e ∷ acts) quiet = refl
quiet_next link (Send n bytes ∷ acts) quiet = absurd quiet.0
quiet_next link (Fail n bytes count ∷ acts) quiet = absurd quiet.0

quiet_event : (a : Act) → IsQuiet a → IsQuietEvent (event_of a)
quiet_event (Does (Commit batch)) quiet = tt
quiet_event (Does Pass) quiet = tt
quiet_event (Does (Hear link reply)) quiet = absurd quiet
quiet_event (Does (Miss link)) quiet = absurd quiet
quiet_event (Does (Read link now)) quiet = absurd quiet
quiet_event (Does (Break link)) quiet = absurd quiet
quiet_event (Send n bytes) quiet = absurd quiet
quiet_event (Fail n bytes count) quiet = absurd quiet

pub quiet_events : (acts : List Act) → AreQuiet acts → AreQuietEvents (events_of acts)
quiet_events [] quiet = tt
quiet_events (a ∷ acts) quiet = (quiet_event a quiet.0, quiet_events acts quiet.1)

-- a front of what the next act is to send, where more acts come behind
pub next_wide : (link : ℕ) (part : List ℕ) (acts bs : List Act) → IsFront part (next_bytes link acts)
    → IsFront part (next_bytes link (acts ++ bs))
next_wide link part [] bs front = record {
  rest = next_bytes link bs;
  whole = ap (λ p. p ++ next_bytes link bs) (sym (none part front.rest front.whole));
}
  where
    none : (part rest : List ℕ) → [] ≡ part ++ rest → part ≡ []
    none [] rest whole = refl
    none (x ∷ part) rest whole = cc
next_wide link part (a ∷ acts) bs front = front

-- whether an event may happen is a matter of what is owed
pub may_owe_same : {P Q : Type 0} (e : Event) (p : Owing P) (q : Owing Q)
    → ((link : ℕ) → q.owed link ≡ p.owed link) → MayOwe e p → MayOwe e q
may_owe_same (Commit batch) p q same may = tt
may_owe_same Pass p q same may = tt
may_owe_same (Hear link reply) p q same may = λ i. same i ∙ may i
may_owe_same (Miss link) p q same may = λ i. same i ∙ may i
may_owe_same (Read link now) p q same may = λ i. same i ∙ may i
may_owe_same (Break link) p q same may = λ i. same i ∙ may i

-- where nothing is owed every event may happen
pub may_paid : {P : Type 0} (e : Event) (p : Owing P) → OwesNothing p → MayOwe e p
may_paid (Commit batch) p none = tt
may_paid Pass p none = tt
may_paid (Hear link reply) p none = none
may_paid (Miss link) p none = none
may_paid (Read link now) p none = none
may_paid (Break link) p none = none

-- acts of one machine are acts of another between the places that a function gives, where these have the same facts
module _ {P Q : Type 0} (facts_of : P → Facts) (other_facts : Q → Facts) (first : ℕ) (step : P → Event → P → Type 0)
    (other : Q → Event → Q → Type 0) (f : P → Q) (same : (p : P) → other_facts (f p) ≡ facts_of p)
    (each : (p q : P) (e : Event) → step p e q → other (f p) e (f q)) where
  abbrev pub owing_at : Owing P → Owing Q
  owing_at p = record { at = f p.at; owed = p.owed }

  act_maps : (p q : Owing P) (a : Act) → ActStep facts_of first step p a q
      → ActStep other_facts first other (owing_at p) a (owing_at q)
  act_maps p q (Does e) s = (
    may_owe_same e p (owing_at p) (λ link. refl) s.0,
    each p.at q.at e s.1,
    λ link. s.2 link ∙ ap (λ g. p.owed link ++ adds_to g first e link) (sym (same p.at)),
  )
  act_maps p q (Send n bytes) s =
      elim s [
        | inl all ↦ inl (all.0, each p.at q.at Pass all.1, all.2)
        | inr some ↦ inr (record { rest = some.rest; parts = some.parts; stays = ap f some.stays; left = some.left })
      ]
  act_maps p q (Fail n bytes count) s = (s.0, each p.at q.at (Break n) s.1, s.2)

  pub acts_map : (p q : Owing P) (acts : List Act) → Path (ActStep facts_of first step) p acts q
      → Path (ActStep other_facts first other) (owing_at p) acts (owing_at q)
  acts_map p q acts path =
      path_maps (ActStep facts_of first step) (ActStep other_facts first other) owing_at act_maps p q acts path

-- a path of quiet acts is one of their events
pub quiet_path : {P : Type 0} (facts_of : P → Facts) (first : ℕ) (step : P → Event → P → Type 0)
    (p q : Owing P) (acts : List Act) → AreQuiet acts → Path (ActStep facts_of first step) p acts q
    → Path step p.at (events_of acts) q.at
quiet_path facts_of first step p q [] quiet path = ap (λ x. x.at) path
quiet_path facts_of first step p q (Does e ∷ acts) quiet path =
    (path.0.at, path.1.1, quiet_path facts_of first step path.0 q acts quiet.1 path.2)
quiet_path facts_of first step p q (Send n bytes ∷ acts) quiet path = absurd quiet.0
quiet_path facts_of first step p q (Fail n bytes count ∷ acts) quiet path = absurd quiet.0
