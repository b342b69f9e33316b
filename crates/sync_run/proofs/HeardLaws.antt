-- The bytes heard on each link at a place of a run are those of the answers that its events have;
-- and so are those that are told.
use Rattle.std.proofs.Common.{◌≡◌, ℕ, zero, suc, ◌+◌, ◌≤◌, List, [], ◌∷◌, ◌++◌, length, append-nil}
use Rattle.std.proofs.Common.{length-append, refl, sym, ◌∙◌, ap, inl, inr, arith, Option, None}
use Rattle.std.proofs.Common.{Some}
use Rattle.std.specs.Option.{option_map}
use Rattle.std.specs.Prelude.{slice_get}
use Rattle.std.proofs.lemmas.Bool.{cases_lt}
use Rattle.std.proofs.lemmas.List.{length-set}
use Rattle.outside.specs.Links.{HeardOn}
use Rattle.sync_rules.specs.declared.entries.Session.{Session}
use Rattle.sync_rules.specs.Clients.{Meaning}
use Rattle.sync_rules.specs.Facts.{Facts}
use Rattle.sync_course.specs.declared.ends.LinkEnd.{LinkEnd}
use Rattle.sync_course.specs.declared.ends.LinkEnd.TheVariants as end
use Rattle.sync_course.specs.Acts.{Act, AreQuiet, Does, Fail, IsQuiet, Send}
use Rattle.sync_course.specs.Events.{Break, Commit, Event, Hear, Miss, Pass, Read, heard_after}
use Rattle.sync_course.specs.Free.{first_free, forget}
use Rattle.sync_course.proofs.FreeLaws.{run_by_cases, run_is_free, step_is_free}
use Rattle.sync_course.proofs.HeardLaws.{at_of, bytes_of, events_tell, free_path_adds, none_tell}
use Rattle.sync_course.proofs.PathLaws.{path_keeps}
use Rattle.sync_course.specs.Links.{Link, closed_from, link_of}
use Rattle.sync_course.specs.Owing.{Owing}
use Rattle.sync_course.specs.Paths.{Path}
use Rattle.sync_course.specs.Suits.{heard_in, heard_at_place}
use Rattle.sync_course.specs.Turns.{Attaches, Greets, Place, RunStep, Settles, Stage, Terms}
use Rattle.sync_course.specs.Turns.{first_place}
use Rattle.sync_rules.specs.declared.entries.Entry.{Entry}
use Rattle.sync_node.specs.OnRuns.{RunActs}
use Rattle.sync_run.specs.Dialling.{unheard}

unheard_length : (n : ℕ) → length (unheard n) ≡ n
unheard_length zero = refl
unheard_length (suc n) = ap suc (unheard_length n)

unheard_none : (n i : ℕ) → at_of (unheard n) i ≡ []
unheard_none zero i = refl
unheard_none (suc n) zero = refl
unheard_none (suc n) (suc i) = unheard_none n i

-- ---- each session has a link

-- so many sessions are still to have one
abbrev to_come : Stage → ℕ
to_come (Settles left) = length left
to_come (Attaches left) = length left
to_come (Greets s left) = suc (length left)
to_come _ = 0

abbrev HasLinks : List Session → Stage → List Link → Type 0
HasLinks sessions stage links = length links + to_come stage ≡ length sessions

length_closed : (all : List Link) (k : ℕ) (links : List Link)
    → length (closed_from all k links) ≡ length links
length_closed all k [] = refl
length_closed all k (x ∷ links) = ap suc (length_closed all (suc k) links)

step_has : (clients : Meaning) (terms : Terms) (sessions : List Session) (before : List Event)
    (p q : Place) (e : Event) → HasLinks sessions p.stage p.links → RunStep clients terms p e q
    → HasLinks sessions q.stage q.links
step_has clients terms sessions before p q e has t =
    let greeted : (x : Session) (stands : LinkEnd) (left : List Session)
    → HasLinks sessions (Greets x left) p.links
    → HasLinks sessions (Attaches left) (p.links ++ link_of x stands ∷ []) =
    λ x stands left has. omega (arith, has, length-append p.links (link_of x stands ∷ [])) in
    run_by_cases clients terms p
    (λ (stage : Stage) (x : Event) (r : Place). HasLinks sessions stage p.links
    → HasLinks sessions r.stage r.links) (record {
      settles = λ left b settling has. has;
      settled = λ left settled has. has;
      begins = λ x left allowed has. has;
      greets = λ x left. greeted x end.Going left;
      breaks = λ x left. greeted x end.Failed left;
      all_begun = λ has. has;
      ends = λ over has. has;
      turns = λ on has. has;
      works = λ n doing link x spot at steps has.
          omega (arith, length-set p.links n spot.link, has);
      goes_on = λ n link at has. has;
      turn_ends = λ n none has. omega (arith, length_closed p.links 0 p.links, has);
    }) q e t has

-- ---- at any place of a run

pub told_of : (told told0 : Option (List HeardOn)) (es : List Event) (n : ℕ) (heard : List HeardOn)
    → told ≡ option_map (λ (h : List HeardOn). heard_after es (unheard n)) told0 → told ≡ Some heard
    → told ≡ Some (heard_after es (unheard n))
told_of told None es n heard is some = cc
told_of told (Some h) es n heard is some = is

no_link : (links : List Link) (i : ℕ) → length links ≤ i → heard_in (slice_get links i) ≡ []
no_link [] i past = refl
no_link (l ∷ links) zero past = absurd (omega (arith, past))
no_link (l ∷ links) (suc i) past = no_link links i (omega (arith, past))

-- no more links stand than there are sessions
pub path_few : (clients : Meaning) (terms : Terms) (sessions : List Session) (f : Facts)
    (es : List Event) (last : Place) → Path (RunStep clients terms) (first_place sessions f) es last
    → length last.links ≤ length sessions
path_few clients terms sessions f es last path =
    let has : HasLinks sessions last.stage last.links =
    path_keeps (RunStep clients terms) (λ before p. HasLinks sessions p.stage p.links)
    (step_has clients terms sessions) [] es (first_place sessions f) last (omega arith) path in
    omega (arith, has)

-- where so many links were made, what is told to be heard is what the place of a run has
pub path_told : (clients : Meaning) (terms : Terms) (sessions : List Session) (f : Facts)
    (es : List Event) (last : Place) (n : ℕ)
    → Path (RunStep clients terms) (first_place sessions f) es last → length last.links ≤ n
    → (i : ℕ) → at_of (heard_after es (unheard n)) i ≡ heard_at_place last i
path_told clients terms sessions f es last n path few i =
    elim (cases_lt i n) [
      | inl within ↦
          events_tell es (unheard n) i (omega (arith, within, unheard_length n))
          ∙ ap (λ (l : List ℕ). l ++ bytes_of i es) (unheard_none n i)
          ∙ sym (free_path_adds clients terms.first es (first_free f) (forget last) i
          (run_is_free clients terms (first_place sessions f) last es path))
      | inr past ↦
          none_tell es (unheard n) i (omega (arith, past, unheard_length n))
          ∙ sym (no_link last.links i (omega (arith, few, past)))
    ]

-- quiet acts bring nothing
pub quiet_brings : (clients : Meaning) (terms : Terms) (p q : Owing Place) (acts : List Act)
    → AreQuiet acts → Path (RunActs clients terms) p acts q → (i : ℕ)
    → heard_at_place q.at i ≡ heard_at_place p.at i
quiet_brings clients terms p q [] quiet path i =
    ap (λ (x : Owing Place). heard_at_place x.at i) path
quiet_brings clients terms p q (Does e ∷ acts) quiet path i =
    quiet_brings clients terms path.0 q acts quiet.1 path.2 i
    ∙ free_path_adds clients terms.first (e ∷ []) (forget p.at) (forget path.0.at) i
    (forget path.0.at, step_is_free clients terms p.at path.0.at e path.1.1, refl)
    ∙ ap (λ (l : List ℕ). heard_at_place p.at i ++ l) (none_by e quiet.0)
    ∙ append-nil (heard_at_place p.at i)
  where
    none_by : (e : Event) → IsQuiet (Does e) → bytes_of i (e ∷ []) ≡ []
    none_by (Commit b) quiet = refl
    none_by Pass quiet = refl
    none_by (Hear link reply) quiet = absurd quiet
    none_by (Miss link) quiet = absurd quiet
    none_by (Read link now) quiet = absurd quiet
    none_by (Break link) quiet = absurd quiet
quiet_brings clients terms p q (Send n bytes ∷ acts) quiet path i = absurd quiet.0
quiet_brings clients terms p q (Fail n bytes count ∷ acts) quiet path i = absurd quiet.0
