-- What is due, the session of a number and whether a journal is settled, as the state answers them.
use Rattle.std.proofs.Common.{◌≡◌, ℕ, Bool, true, false, cond, List, [], ◌∷◌, map, refl, ◌∙◌, sym, ap, Option, Some, None, nat_eq, eqb-true}
use Rattle.std.specs.Prelude.{◌↔◌, IsTrue, is_none}
use Rattle.sync_rules.specs.declared.answers.Judgement.{Judgement}
use Rattle.sync_rules.specs.declared.entries.Entry.{Entry}
use Rattle.sync_rules.specs.declared.entries.Session.{Session}
use Rattle.sync_rules.specs.Clients.{Meaning}
use Rattle.sync_rules.specs.Facts.{Held, Id, session_at}
use Rattle.sync_rules.specs.Steps.{answer_of}
use Rattle.sync_rules.specs.Sessions.{due, due_by, ids_where, may_share, shared_ids}
use Rattle.journal_state.specs.Parts.{shared_among}
use Rattle.journal_state.specs.Whole.{KnowsJudgements, StateValue, shared_of}

-- ---- what is due

shared_along : (g : Held → Option Judgement) (hs : List Held) → shared_among hs (map g hs) ≡ ids_where (λ h. may_share (g h)) hs
shared_along g [] = refl
shared_along g (h ∷ hs) = ap (λ (ids : List Id). cond (may_share (g h)) (h.id ∷ ids) ids) (shared_along g hs)

pub shared_is : (clients : Meaning) (v : StateValue) → KnowsJudgements clients v → shared_of v ≡ shared_ids clients v.facts
shared_is clients v k = ap (shared_among v.facts.held) k ∙ shared_along (answer_of clients v.facts) v.facts.held

pub due_known : (clients : Meaning) (v : StateValue) (s : Session) (now : ℕ) → KnowsJudgements clients v → due_by v.facts (shared_of v) s now ≡ due clients v.facts s now
due_known clients v s now k = ap (λ (ids : List Id). due_by v.facts ids s now) (shared_is clients v k)

-- ---- a session

pub session_number : (ss : List Session) (n : ℕ) (s : Session) → session_at ss n ≡ Some s → s.number ≡ n
session_number [] n s e = absurd (let none : None ≡ Some s = e in cc)
session_number (x ∷ ss) n s e =
    elim (nat_eq x.number n) as (λ b. nat_eq x.number n ≡ b → cond b (Some x) (session_at ss n) ≡ Some s → s.number ≡ n) [
      | true ↦ λ t e. let same : x ≡ s = cc in ap (λ (y : Session). y.number) (sym same) ∙ eqb-true x.number n t
      | false ↦ λ t e. session_number ss n s e
    ] refl e

-- ---- a next step

-- the test whether a step is open, by what the answer tells
pub settled_told : (r : Bool) (o : Option Entry) → (IsTrue r ↔ (o ≡ None)) → r ≡ is_none o
settled_told true o told = sym (ap is_none (told.0 refl))
settled_told false None told = absurd (let wrong : false ≡ true = told.1 refl in cc)
settled_told false (Some e) told = refl
