-- What links bring stays, whatever of it is heard.
use Rattle.std.proofs.Common.{◌≡◌, ◌⊎◌, ℕ, ◌<◌, Bool, cond, eq-eqb, List, [], ◌∷◌, ◌++◌, length, take, drop, refl, sym, ap, ◌∙◌, subst, inl, inr, arith, append_assoc, Some, None, slice_index}
use Rattle.std.proofs.lemmas.Bool.{cases_eq, cases_lt, ne_eqb}
use Rattle.std.proofs.lemmas.List.{take-append-drop}
use Rattle.outside.specs.Links.{HeardOn, Planned, Reply, piece, pause, close, failure, got, idle, ended}
use Rattle.outside.specs.Planned.{UsesPlan, pieces, plan_after, reply_to}
use Rattle.outside.specs.Runs.{reply_bytes}
use Rattle.outside.specs.LinksTold.{links_heard}
use Rattle.outside.specs.HostTold.{host_told}
use Rattle.outside.specs.MemDisk.{answers_after}
use Rattle.outside.specs.MemHost.{MemHostValue, plans_of}
use Rattle.sync_course.specs.declared.TheConstants.{PIECE_LEN}
use Rattle.sync_course.specs.Events.{Event, Hear, Miss, PlansAfter, ChangesThrough, TellsEvents, heard_after}
use Rattle.world_devices.specs.Brought.{brought_on, planned_bytes}
use Rattle.sync_course.proofs.HeardLaws.{at_of, bytes_by, bytes_of, events_tell, none_tell}

-- ---- one plan

pieces_bytes : (bytes : List ℕ) (rest : List Planned) → planned_bytes (pieces bytes ++ rest) ≡ bytes ++ planned_bytes rest
pieces_bytes [] rest = refl
pieces_bytes (byte ∷ bytes) rest = refl

-- what an answer has and what is left of the plan is the plan
answer_bytes : (room : ℕ) (plan : List Planned) (reply : Reply) → reply_to room plan ≡ Some reply → reply_bytes reply ++ planned_bytes (plan_after room plan) ≡ planned_bytes plan
answer_bytes room [] reply next = let same : ended ≡ reply = cc in ap (λ (r : Reply). reply_bytes r ++ []) (sym same)
answer_bytes room (piece bytes ∷ rest) reply next =
    let same : got (take room bytes) ≡ reply = cc in
    ap (λ (r : Reply). reply_bytes r ++ planned_bytes (pieces (drop room bytes) ++ rest)) (sym same)
    ∙ ap (λ (l : List ℕ). take room bytes ++ l) (pieces_bytes (drop room bytes) rest)
    ∙ sym (append_assoc (take room bytes) (drop room bytes) (planned_bytes rest))
    ∙ ap (λ (l : List ℕ). l ++ planned_bytes rest) (take-append-drop room bytes)
answer_bytes room (pause ∷ rest) reply next = let same : idle ≡ reply = cc in ap (λ (r : Reply). reply_bytes r ++ planned_bytes rest) (sym same)
answer_bytes room (close ∷ rest) reply next = let same : ended ≡ reply = cc in ap (λ (r : Reply). reply_bytes r ++ planned_bytes rest) (sym same)
answer_bytes room (failure ∷ rest) reply next = cc

failure_bytes : (room : ℕ) (plan : List Planned) → reply_to room plan ≡ None → planned_bytes (plan_after room plan) ≡ planned_bytes plan
failure_bytes room (piece bytes ∷ rest) next = cc
failure_bytes room _ next = refl

-- ---- the plans of all links, over the events of a run

-- what an event brings on a link and what is left of its plan is its plan
event_brings : (e : Event) (plans plans' : ℕ → List Planned) (link : ℕ) → PlansAfter e plans plans' → bytes_by link e ++ planned_bytes (plans' link) ≡ planned_bytes (plans link)
event_brings (Hear n reply) plans plans' link after =
    elim (cases_eq link n) [
      | inl here ↦
          let own : UsesPlan link PIECE_LEN (Some reply) plans plans' = subst (λ (k : ℕ). UsesPlan k PIECE_LEN (Some reply) plans plans') (sym here) after in
          ap (λ (b : Bool). cond b (reply_bytes reply) [] ++ planned_bytes (plans' link)) (eq-eqb n link (sym here))
          ∙ ap (λ (p : List Planned). reply_bytes reply ++ planned_bytes p) own.left ∙ answer_bytes PIECE_LEN (plans link) reply own.next
      | inr other ↦
          ap (λ (b : Bool). cond b (reply_bytes reply) [] ++ planned_bytes (plans' link)) (ne_eqb n link (λ same. other (sym same)))
          ∙ ap planned_bytes (after.others link other)
    ]
event_brings (Miss n) plans plans' link (inr same) = ap (λ (p : ℕ → List Planned). planned_bytes (p link)) same
event_brings (Miss n) plans plans' link (inl uses) =
    elim (cases_eq link n) [
      | inl here ↦
          let own : UsesPlan link PIECE_LEN None plans plans' = subst (λ (k : ℕ). UsesPlan k PIECE_LEN None plans plans') (sym here) uses in
          ap planned_bytes own.left ∙ failure_bytes PIECE_LEN (plans link) own.next
      | inr other ↦ ap planned_bytes (uses.others link other)
    ]
event_brings _ plans plans' link after = ap (λ (p : ℕ → List Planned). planned_bytes (p link)) after

pub plans_bring : (events : List Event) (plans plans' : ℕ → List Planned) (link : ℕ) → ChangesThrough PlansAfter events plans plans'
    → bytes_of link events ++ planned_bytes (plans' link) ≡ planned_bytes (plans link)
plans_bring [] plans plans' link through = ap (λ (p : ℕ → List Planned). planned_bytes (p link)) through
plans_bring (e ∷ events) plans plans' link through =
    append_assoc (bytes_by link e) (bytes_of link events) (planned_bytes (plans' link))
    ∙ ap (λ (l : List ℕ). bytes_by link e ++ l) (plans_bring events through.0 plans' link through.2)
    ∙ event_brings e plans through.0 link through.1

-- ---- hosts

-- the links that are told as heard
abbrev pub told_heard : MemHostValue → List HeardOn
told_heard h = links_heard (answers_after [] h.disk.calls) (λ i. slice_index h.silences i)

pub no_more : (a b : List ℕ) → a ++ b ≡ [] → b ≡ []
no_more [] b none = none
no_more (x ∷ a) b none = cc

-- of a link that was made, or one whose plan has no bytes
pub told_brings : (events : List Event) (h h' : MemHostValue) (link : ℕ) → TellsEvents events (host_told h) (host_told h')
    → (link < length (told_heard h)) ⊎ (planned_bytes (plans_of h.scripts link) ≡ []) → brought_on h' link ≡ brought_on h link
told_brings events h h' link told sound =
    let some : Some (told_heard h') ≡ Some (heard_after events (told_heard h)) = told.heard in
    let same : told_heard h' ≡ heard_after events (told_heard h) = cc in
    let plans : bytes_of link events ++ planned_bytes (plans_of h'.scripts link) ≡ planned_bytes (plans_of h.scripts link) =
    plans_bring events (plans_of h.scripts) (plans_of h'.scripts) link told.planned in
    ap (λ (l : List HeardOn). at_of l link ++ planned_bytes (plans_of h'.scripts link)) same
    ∙ elim (cases_lt link (length (told_heard h))) [
      | inl within ↦
          ap (λ (l : List ℕ). l ++ planned_bytes (plans_of h'.scripts link)) (events_tell events (told_heard h) link within)
          ∙ append_assoc (at_of (told_heard h) link) (bytes_of link events) (planned_bytes (plans_of h'.scripts link))
          ∙ ap (λ (l : List ℕ). at_of (told_heard h) link ++ l) plans
      | inr past ↦
          let none : planned_bytes (plans_of h.scripts link) ≡ [] = elim sound [ inl made ↦ absurd (omega (arith, made, past)) | inr is ↦ is ] in
          ap (λ (l : List ℕ). l ++ planned_bytes (plans_of h'.scripts link)) (none_tell events (told_heard h) link past ∙ sym (none_tell [] (told_heard h) link past))
          ∙ ap (λ (l : List ℕ). at_of (told_heard h) link ++ l) (no_more (bytes_of link events) (planned_bytes (plans_of h'.scripts link)) (plans ∙ none) ∙ sym none)
    ]
