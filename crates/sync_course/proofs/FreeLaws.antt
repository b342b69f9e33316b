-- The steps of a run, case by case, what a property of them owes in each; and that each is one of
-- the machine without the order.
use Rattle.std.proofs.Common.{◌≡◌, ℕ, suc, false, List, [], refl, inl, inr, ◌+◌, Bool, true, cond}
use Rattle.std.proofs.Common.{◌∷◌, length, sym, subst, Option, None, Some}
use Rattle.sync_rules.specs.Clients.{Meaning}
use Rattle.sync_course.specs.Acts.{Act}
use Rattle.sync_course.specs.Events.{Event, Pass, Commit, Break}
use Rattle.sync_course.specs.Free.{Free, FreeFrom, FreeStep, HoldStep, Holds, IsNothingUnderWay, Hold, Rests}
use Rattle.sync_course.specs.Free.{forget, hold_at, owing_free, Hold, Rests, Holds}
use Rattle.sync_course.specs.LinkTurns.{Asks, Done, Doing, LinkStep, Spot}
use Rattle.sync_course.specs.Owing.{ActStep, Owing}
use Rattle.sync_course.specs.Paths.{Path}
use Rattle.sync_course.specs.Turns.{Attaches, Between, Ended, Place, RunStep, Settles, Stage, Terms}
use Rattle.sync_course.specs.Turns.{Works, with_spot, EndsTurn, GoesToNext, Greets, StageStep}
use Rattle.sync_course.specs.Turns.{TurnStep, attached, is_at_end, spot_of, turn_ended, unattached}
use Rattle.sync_course.proofs.ActLaws.{acts_map}
use Rattle.sync_course.proofs.PathLaws.{path_maps}
use Rattle.std.specs.Prelude.{slice_get}
use Rattle.sync_rules.specs.declared.entries.Entry.{Entry}
use Rattle.sync_rules.specs.declared.entries.Entry.TheVariants as entry
use Rattle.sync_rules.specs.declared.entries.Session.{Session}
use Rattle.sync_rules.specs.Facts.{after_all}
use Rattle.sync_rules.specs.Legal.{Allowed, IsSettlingBatch}
use Rattle.sync_rules.specs.Steps.{IsSettled}
use Rattle.sync_course.specs.Links.{Link}

-- a place of this stage
abbrev pub staged : Stage → Place → Place
staged stage p = record p { stage = stage }

module _ (clients : Meaning) (terms : Terms) (p : Place) (T : Stage → Event → Place → Type 0) where
  -- a property of the stage, the event, and the place behind it, for each step of a run
  pub record RunCases : Type 0 where
    pub settles : (left : List Session) (b : List Entry) → IsSettlingBatch clients p.facts b
        → T (Settles left) (Commit b) (record (staged (Settles left) p) {
          facts = after_all p.facts b;
        })
    pub settled : (left : List Session) → IsSettled clients p.facts
        → T (Settles left) Pass (staged (Attaches left) p)
    pub begins : (x : Session) (left : List Session) → Allowed clients p.facts
        (entry.Session x ∷ [])
        → T (Attaches (x ∷ left)) (Commit (entry.Session x ∷ []))
        (record (staged (Greets x left) p) { facts = after_all p.facts (entry.Session x ∷ []) })
    pub greets : (x : Session) (left : List Session) → T (Greets x left) Pass (attached x left p)
    pub breaks : (x : Session) (left : List Session)
        → T (Greets x left) (Break (length p.links)) (unattached x left p)
    pub all_begun : T (Attaches []) Pass (staged Between p)
    pub ends : is_at_end terms p ≡ true → T Between Pass (staged Ended p)
    pub turns : is_at_end terms p ≡ false
        → T Between Pass (record (staged (Works 0 Asks) p) { moved = false })
    pub works : (n : ℕ) (doing : Doing) (link : Link) (e : Event) (spot : Spot)
        → slice_get p.links n ≡ Some link
        → LinkStep clients n (terms.first + n) (spot_of doing link p) e spot
        → T (Works n doing) e (with_spot n spot p)
    pub goes_on : (n : ℕ) (link : Link) → slice_get p.links n ≡ Some link
        → T (Works n Done) Pass (staged (Works (suc n) Asks) p)
    pub turn_ends : (n : ℕ) → slice_get p.links n ≡ None → T (Works n Asks) Pass (turn_ended p)

  module _ (cases : RunCases) where
    to : {stage : Stage} {e : Event} {q r : Place} → q ≡ r → T stage e r → T stage e q
    to {stage = stage} {e = e} same t = subst (T stage e) (sym same) t

    by_end : (n : ℕ) (doing : Doing) (e : Event) (q : Place) → slice_get p.links n ≡ None
        → EndsTurn doing e (staged (Works n doing) p) q → T (Works n doing) e q
    by_end n Asks Pass q none t = to t (cases.turn_ends n none)
    by_end n _ _ q none t = absurd t

    by_next : (n : ℕ) (doing : Doing) (link : Link) (e : Event) (q : Place)
        → slice_get p.links n ≡ Some link → GoesToNext n doing e (staged (Works n doing) p) q
        → T (Works n doing) e q
    by_next n Done link Pass q at t = to t (cases.goes_on n link at)
    by_next n _ link _ q at t = absurd t

    by_turn : (n : ℕ) (doing : Doing) (o : Option Link) (e : Event) (q : Place)
        → slice_get p.links n ≡ o
        → TurnStep clients terms n doing o e (staged (Works n doing) p) q → T (Works n doing) e q
    by_turn n doing None e q at t = by_end n doing e q at t
    by_turn n doing (Some link) e q at t =
        elim t [
          | inl works ↦ to works.leads (cases.works n doing link e works.spot at works.steps)
          | inr next ↦ by_next n doing link e q at next
        ]

    by_end_test : (q : Place) (t : Bool) → is_at_end terms p ≡ t
        → q ≡ cond t (staged Ended p) (record (staged (Works 0 Asks) p) { moved = false })
        → T Between Pass q
    by_end_test q true over same = to same (cases.ends over)
    by_end_test q false on same = to same (cases.turns on)

    by_stage : (stage : Stage) (e : Event) (q : Place)
        → StageStep clients terms stage e (staged stage p) q → T stage e q
    by_stage (Settles left) (Commit b) q t = to t.1 (cases.settles left b t.0)
    by_stage (Settles left) Pass q t = to t.1 (cases.settled left t.0)
    by_stage (Attaches (x ∷ left)) (Commit b) q t =
        to t.2
        (subst (λ c. T (Attaches (x ∷ left)) (Commit c)
        (record (staged (Greets x left) p) { facts = after_all p.facts c })) (sym t.0)
        (cases.begins x left (subst (Allowed clients p.facts) t.0 t.1)))
    by_stage (Attaches []) Pass q t = to t cases.all_begun
    by_stage (Greets x left) Pass q t = to t (cases.greets x left)
    by_stage (Greets x left) (Break on) q t =
        subst (λ k. T (Greets x left) (Break k) q) (sym t.0) (to t.1 (cases.breaks x left))
    by_stage Between Pass q t = by_end_test q (is_at_end terms p) refl t
    by_stage (Works n doing) e q t = by_turn n doing (slice_get p.links n) e q refl t
    by_stage _ _ q t = absurd t

    pub run_by_cases : (q : Place) (e : Event) → RunStep clients terms p e q → T p.stage e q
    run_by_cases q e t = by_stage p.stage e q t

module _ (clients : Meaning) (terms : Terms) where
  -- nothing that is told of: this is taken in hand next
  takes_up : (hold next : Hold) (p : Free) → IsNothingUnderWay hold → IsNothingUnderWay next
      → FreeFrom clients terms.first hold Pass (record p { hold = hold }) (record p { hold = next })
  takes_up hold next p calm then =
      inr (inl (calm, inl (record { hold = next; idle = then; leads = refl })))

  by_link : (n : ℕ) (doing : Doing) (e : Event) (p q : Free) → HoldStep clients terms.first
      (Holds n doing) e p q
      → FreeFrom clients terms.first (Holds n doing) e p q
  by_link n doing Pass p q s = inr (inr s)
  by_link n doing _ p q s = s

  pub step_is_free : (p q : Place) (e : Event) → RunStep clients terms p e q
      → FreeStep clients terms.first (forget p) e (forget q)
  step_is_free p q e t =
      run_by_cases clients terms p
      (λ stage x r.
      FreeFrom clients terms.first (hold_at stage) x (record (forget p) { hold = hold_at stage })
      (forget r)) (record {
        settles = λ left b settling. inl (inl settling, refl);
        settled = λ left settled. takes_up Rests Rests (forget p) tt tt;
        begins = λ x left allowed.
            inr (record { session = x; is = refl; allowed = allowed; leads = refl });
        greets = λ x left. inr (inr refl);
        breaks = λ x left. (refl, refl);
        all_begun = takes_up Rests Rests (forget p) tt tt;
        ends = λ over. takes_up Rests Rests (forget p) tt tt;
        turns = λ on. takes_up Rests (Holds 0 Asks) (forget p) tt tt;
        works = λ n doing link x spot at steps.
            by_link n doing x (record (forget p) { hold = Holds n doing })
            (forget (with_spot n spot p)) (record {
              link = link;
              there = at;
              moved = p.moved;
              spot = spot;
              steps = steps;
              leads = refl;
            });
        goes_on = λ n link at. takes_up (Holds n Done) (Holds (suc n) Asks) (forget p) tt tt;
        turn_ends = λ n none. inr (inl (tt, inr (inr refl)));
      }) q e t

  pub run_is_free : (p q : Place) (es : List Event) → Path (RunStep clients terms) p es q
      → Path (FreeStep clients terms.first) (forget p) es (forget q)
  run_is_free p q es path =
      path_maps (RunStep clients terms) (FreeStep clients terms.first) forget step_is_free p q es
      path

  pub run_acts_are_free : (p q : Owing Place) (acts : List Act)
      → Path (ActStep (λ (x : Place). x.facts) terms.first (RunStep clients terms)) p acts q
      → Path (ActStep (λ (x : Free). x.facts) terms.first (FreeStep clients terms.first))
      (owing_free p) acts (owing_free q)
  run_acts_are_free p q acts path =
      acts_map (λ x. x.facts) (λ x. x.facts) terms.first (RunStep clients terms)
      (FreeStep clients terms.first) forget
      (λ x. refl) step_is_free p q acts path
