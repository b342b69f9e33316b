-- A run of one link that is always Idle, where nothing is due on its session: it ends after as many turns as were to be quiet, or after
-- the turns that it may make where these are fewer.
use Rattle.std.proofs.Common.{◌≡◌, ℕ, zero, suc, ◌+◌, ◌<◌, ◌≤◌, Bool, true, false, cond, ◌&&◌, ◌||◌, nat_le, [], ◌∷◌, ◌++◌, refl, sym, ◌∙◌, ap, inl, inr, arith}
use Rattle.std.specs.Prelude.{nat_lt}
use Rattle.std.proofs.Math.Bool.{and-false}
use Rattle.std.proofs.lemmas.Bool.{le-leb, lt-leb, lt-ltb}
use Rattle.sync_rules.specs.declared.entries.Entry.TheVariants as entry
use Rattle.sync_rules.specs.declared.entries.Session.{Session}
use Rattle.sync_rules.specs.Clients.{Meaning}
use Rattle.sync_rules.specs.Facts.{Facts, after_all, session_at}
use Rattle.sync_rules.specs.Legal.{Allowed}
use Rattle.sync_rules.specs.Steps.{IsSettled}
use Rattle.sync_course.specs.declared.TheConstants.{MAX_OUTPUTS}
use Rattle.sync_course.specs.declared.ends.LinkEnd.TheVariants as end
use Rattle.sync_course.specs.Closing.{closing}
use Rattle.sync_course.specs.Events.{Pass}
use Rattle.sync_course.specs.Links.{Link, beats, link_of, without_redundant}
use Rattle.sync_course.specs.LinkTurns.{Asks, Doing, Done, IsNothingDue, Sends, Spot, Waits}
use Rattle.sync_course.specs.Paths.{Path}
use Rattle.sync_course.proofs.LiftLaws.{begin_step}
use Rattle.sync_course.proofs.PathLaws.{path_then}
use Rattle.sync_course.proofs.KeptLaws.{never, not_itself}
use Rattle.sync_course.specs.Turns.{Attaches, Course, Greets, Place, RunStep, Terms, Works, attached, first_place, is_at_end, is_over, turn_ended, with_spot}
use Rattle.sync_course.specs.Idle.{greeting, idle_turn, idle_turns, idle_run, idle_place, idle_end}

one_link : (link : Link) → without_redundant (link ∷ []) ≡ link ∷ []
one_link link =
    let none = never (beats 0 link 0 link) (not_itself 0 link) in
    ap (λ b. record link { stands = cond (b || false) end.Redundant link.stands } ∷ []) none

module _ (clients : Meaning) (terms : Terms) (s : Session) (now : ℕ) (f : Facts)
    (nothing_due : IsNothingDue clients f (session_at f.sessions (terms.first + 0)) now) where
  idle_turn_path : (n : ℕ) → is_at_end terms (idle_place s n f) ≡ false
      → Path (RunStep clients terms) (idle_place s n f) (idle_turn now) (idle_place s (suc n) f)
  idle_turn_path n on =
      let p1 : Place = record (idle_place s n f) { stage = Works 0 Asks; moved = false } in
      let at : Doing → Spot = λ doing.
      record { doing = doing; link = link_of s end.Going; moved = false; facts = f } in
      let p5 : Place = record (with_spot 0 (at Done) p1) { stage = Works 1 Asks } in
      let ends : idle_place s (suc n) f ≡ turn_ended p5 =
      ap (λ links. record (idle_place s (suc n) f) { links = links }) (sym (one_link (link_of s end.Going))) in
      let works : (doing : Doing) → Place = λ doing. with_spot 0 (at doing) p1 in (
        p1,
        begin_step clients terms (idle_place s n f) refl on,
        (
          works Waits,
          inl (record { spot = at Waits; steps = (refl, refl, refl); leads = refl }),
          (
            works (Sends now MAX_OUTPUTS),
            inl (record { spot = at (Sends now MAX_OUTPUTS); steps = (refl, refl, refl); leads = refl }),
            (
              works Done,
              inl (record { spot = at Done; steps = (nothing_due, refl); leads = refl }),
              (p5, inr refl, (idle_place s (suc n) f, ends, refl)),
            ),
          ),
        ),
      )

  idle_turns_path : (n : ℕ) → ((k : ℕ) → k < n → is_at_end terms (idle_place s k f) ≡ false)
      → Path (RunStep clients terms) (idle_place s 0 f) (idle_turns now n) (idle_place s n f)
  idle_turns_path zero on = refl
  idle_turns_path (suc n) on =
      path_then (RunStep clients terms) (idle_place s 0 f) (idle_place s n f) (idle_place s (suc n) f) (idle_turns now n) (idle_turn now)
      (idle_turns_path n (λ k less. on k (omega (arith, less)))) (idle_turn_path n (on n (omega arith)))

  idle_end_path : (n : ℕ) → is_at_end terms (idle_place s n f) ≡ true → Path (RunStep clients terms) (idle_place s n f) (Pass ∷ []) (idle_end s n f)
  idle_end_path n over =
      let ends : idle_end s n f ≡ cond (is_at_end terms (idle_place s n f)) (idle_end s n f)
      (record (idle_place s n f) { stage = Works 0 Asks; moved = false }) =
      ap (λ b. cond b (idle_end s n f) (record (idle_place s n f) { stage = Works 0 Asks; moved = false })) (sym over) in
      (idle_end s n f, ends, refl)

module _ (clients : Meaning) (terms : Terms) (s : Session) (now : ℕ) (f : Facts) (numbered : terms.first ≡ f.begun) (settled : IsSettled clients f)
    (allowed : Allowed clients f (entry.Session s ∷ []))
    (nothing_due : IsNothingDue clients (after_all f (entry.Session s ∷ []))
    (session_at (after_all f (entry.Session s ∷ [])).sessions (terms.first + 0)) now) where
  -- the facts once the session began
  abbrev began : Facts
  began = after_all f (entry.Session s ∷ [])

  greeting_path : Path (RunStep clients terms) (first_place (s ∷ []) f) (greeting s) (idle_place s 0 began)
  greeting_path =
      let p0 = first_place (s ∷ []) f in
      let p1 : Place = record p0 { stage = Attaches (s ∷ []) } in
      let p2 : Place = record p1 { stage = Greets s []; facts = began } in
      let p3 = attached s [] p2 in
      (p1, (settled, refl), (p2, (refl, allowed, refl), (p3, refl, (idle_place s 0 began, refl, refl))))

  -- not over and with turns left
  goes_on_at : (k : ℕ) → k < terms.quiet → k < terms.turns → is_at_end terms (idle_place s k began) ≡ false
  goes_on_at k quiet turns =
      ap (λ x. (nat_lt 0 k && x) || nat_le terms.turns k) (lt-leb terms.quiet k quiet)
      ∙ ap (λ x. (nat_lt 0 k && false) || x) (lt-leb terms.turns k turns)
      ∙ ap (λ x. x || false) (and-false (nat_lt 0 k))

  -- after so many turns it ends, over or with no turn left
  ends_after : (n : ℕ) (over : Bool) → n ≤ terms.quiet → n ≤ terms.turns
      → is_over terms.quiet (idle_place s n began) ≡ over → (over || nat_le terms.turns n) ≡ true
      → Course clients terms (s ∷ []) f (idle_run s now n) (idle_end s n began)
      × (closing terms.quiet (idle_end s n began) ≡ record { over = over; ends = end.Going ∷ [] })
  ends_after n over quiet turns is ended = (
    record {
      numbered = numbered;
      path =
          path_then (RunStep clients terms) (first_place (s ∷ []) f) (idle_place s 0 began) _ (greeting s)
          (idle_turns now n ++ Pass ∷ []) greeting_path
          (path_then (RunStep clients terms) (idle_place s 0 began) (idle_place s n began) _ (idle_turns now n) (Pass ∷ [])
          (idle_turns_path clients terms s now began nothing_due n
          (λ k less. goes_on_at k (omega (arith, less, quiet)) (omega (arith, less, turns))))
          (idle_end_path clients terms s now began nothing_due n
          (ap (λ x. x || nat_le terms.turns n) is ∙ ended)));
      at_end = refl;
    },
    ap (λ x. record { over = x; ends = end.Going ∷ [] }) is,
  )

  -- as many turns as were to be quiet: the link is quiet
  pub ends_quiet : 0 < terms.quiet → terms.quiet ≤ terms.turns
      → Course clients terms (s ∷ []) f (idle_run s now terms.quiet) (idle_end s terms.quiet began)
      × (closing terms.quiet (idle_end s terms.quiet began) ≡ record { over = true; ends = end.Going ∷ [] })
  ends_quiet some enough =
      let last = le-leb terms.quiet terms.quiet (omega arith) in
      ends_after terms.quiet true (omega arith) enough
      (ap (λ x. x && nat_le terms.quiet terms.quiet) (lt-ltb 0 terms.quiet some)
      ∙ last) refl

  -- fewer turns than were to be quiet: it is unfinished
  pub ends_unfinished : 0 < terms.turns → terms.turns < terms.quiet
      → Course clients terms (s ∷ []) f (idle_run s now terms.turns) (idle_end s terms.turns began)
      × (closing terms.quiet (idle_end s terms.turns began) ≡ record { over = false; ends = end.Going ∷ [] })
  ends_unfinished some fewer =
      ends_after terms.turns false (omega (arith, fewer)) (omega arith)
      (ap (λ x. nat_lt 0 terms.turns && x) (lt-leb terms.quiet terms.turns fewer)
      ∙ and-false (nat_lt 0 terms.turns))
      (le-leb terms.turns terms.turns (omega arith))
