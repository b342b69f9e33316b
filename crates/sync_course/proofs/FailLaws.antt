-- A link on which a call failed stands Failed from then on, and no other link does; nothing is
-- committed for one.
use Rattle.std.proofs.Common.{◌≡◌, ◌⊎◌, ℕ, ◌+◌, Bool, true, false, cond, ◌||◌, eq-eqb, List}
use Rattle.std.proofs.Common.{[], ◌∷◌, ◌++◌, refl, sym, ◌∙◌, ap, subst, inl, inr, Option, None}
use Rattle.std.proofs.Common.{Some}
use Rattle.std.specs.Prelude.{slice_get}
use Rattle.std.proofs.Math.Bool.{or-false}
use Rattle.std.proofs.lemmas.Bool.{ne_eqb, or_cases, or_left, or_right}
use Rattle.record_grammar.specs.Stream.{ending}
use Rattle.record_grammar.specs.declared.stream.Ending.{Ending}
use Rattle.record_grammar.specs.declared.stream.Ending.TheVariants as ending_kind
use Rattle.record_grammar.specs.declared.stream.Item.{Item}
use Rattle.sync_rules.specs.declared.entries.Entry.{Entry}
use Rattle.sync_rules.specs.Clients.{Meaning}
use Rattle.sync_rules.specs.Facts.{Facts}
use Rattle.sync_course.specs.declared.ends.LinkEnd.{LinkEnd}
use Rattle.sync_course.specs.declared.ends.LinkEnd.TheVariants as end
use Rattle.sync_course.specs.Events.{Event, Commit, Miss, Break, has_failure}
use Rattle.sync_course.specs.Events.{is_failure}
use Rattle.sync_course.specs.Free.{Begins, Free, FreeStep, Hold, Holds, IsNothingUnderWay, Rests}
use Rattle.sync_course.specs.Free.{first_free, spot_in}
use Rattle.sync_course.specs.Links.{Link, closes, is_going, is_sent_to, new_items, stands_behind}
use Rattle.sync_course.specs.Links.{stands_ended}
use Rattle.sync_course.specs.LinkTurns.{Asks, Takes, Waits, Sends, Puts, Done, Doing, LinkStep}
use Rattle.sync_course.specs.LinkTurns.{Spot}
use Rattle.sync_course.specs.Paths.{Path}
use Rattle.sync_course.specs.Story.{LinkFailed}
use Rattle.sync_course.proofs.FreeSound.{get_same}
use Rattle.sync_course.proofs.FreeSteps.{Closed, Joined, Kept, LinkGoes, Stepped, free_by_cases}
use Rattle.sync_course.proofs.FreeSteps.{free_link}
use Rattle.sync_course.proofs.LinkSteps.{Spares, link_by_cases}
use Rattle.sync_course.proofs.LiftLaws.{get_past, get_set, get_within}
use Rattle.sync_course.proofs.PathLaws.{path_keeps}
use Rattle.sync_course.proofs.ToldLaws.{has_failure-append}

-- ---- one link

-- what takes an item is still asked, and what sends is not closed
abbrev pub TakesOpen : List Item → LinkEnd → Type 0
TakesOpen [] stands = Unit {0}
TakesOpen (it ∷ its) stands = is_going stands ≡ true

abbrev pub DoesOpen : Doing → LinkEnd → Type 0
DoesOpen (Takes its) stands = TakesOpen its stands
DoesOpen (Sends now room) stands = is_sent_to stands ≡ true
DoesOpen (Puts now room) stands = is_sent_to stands ≡ true
DoesOpen _ stands = Unit {0}

abbrev pub is_failed : LinkEnd → Bool
is_failed end.Failed = true
is_failed _ = false

-- an event of the link of this number, how it stands before and behind it, and what it does then:
-- it stands Failed where it did or a call of it failed
pub record StepFails (n : ℕ) (e : Event) (old new : LinkEnd) (doing : Doing) : Type 0 where
  pub failed : is_failed new ≡ (is_failed old || is_failure n e)
  pub opens : DoesOpen doing new

going_opens : (its : List Item) (stands : LinkEnd) → is_going stands ≡ true → TakesOpen its stands
going_opens [] stands going = tt
going_opens (it ∷ its) stands going = going

going_well : (stands : LinkEnd) → is_going stands ≡ true → is_failed stands ≡ false
going_well end.Failed going = cc
going_well _ going = refl

ended_well : (e : Ending) → is_failed (stands_ended e) ≡ false
ended_well ending_kind.Clean = refl
ended_well _ = refl

behind_same : (stands : LinkEnd) (e : Ending)
    → is_failed (stands_behind stands e) ≡ is_failed stands
behind_same end.Going ending_kind.Clean = refl
behind_same end.Going _ = refl
behind_same _ e = refl

-- no call failed
well : {n : ℕ} {e : Event} {old new : LinkEnd} {doing : Doing} → is_failure n e ≡ false
    → is_failed new ≡ is_failed old → DoesOpen doing new → StepFails n e old new doing
well {old = old} none same opens = record {
  failed = same ∙ sym (or-false (is_failed old)) ∙ ap (λ b. is_failed old || b) (sym none);
  opens = opens;
}

-- one did
broke : {n : ℕ} {e : Event} {old : LinkEnd} → is_failure n e ≡ true
    → StepFails n e old end.Failed Done
broke {n = n} {e = e} {old = old} is =
    record { failed = sym (or_right (is_failed old) (is_failure n e) is); opens = tt }

taken : (n place : ℕ) (its : List Item) (b : List Entry) (old : LinkEnd) (closing : Bool)
    → is_going old ≡ true
    → StepFails n (Commit b) old (cond closing (end.NoVersion place) old)
    (Takes (cond closing [] its))
taken n place its b old true going = well refl (sym (going_well old going)) tt
taken n place its b old false going = well refl refl (going_opens its old going)

pub link_step_fails : (clients : Meaning) (n session : ℕ) (p q : Spot) (e : Event)
    → LinkStep clients n session p e q → DoesOpen p.doing p.link.stands
    → StepFails n e p.link.stands q.link.stands q.doing
link_step_fails clients n session p q e s =
    let old : LinkEnd = p.link.stands in
    let end_of = ending 0 p.link.heard in
    link_by_cases clients n session p
    (λ doing x r. DoesOpen doing old
    → StepFails n x old r.link.stands r.doing) (record {
      hears = λ bytes going o. well refl refl (going_opens (new_items p.link.heard bytes) old going);
      idles = λ going o. well refl refl tt;
      ends = λ going o. well refl (ended_well end_of ∙ sym (going_well old going)) tt;
      misses = λ going o. broke (eq-eqb n n refl);
      unasked = λ is o. well refl refl tt;
      settles = λ its b settling o. well refl refl o;
      takes = λ place r its allowed o. taken n place its _ old (closes r) o;
      skips = λ place type_byte len its o. well refl refl (going_opens its old o);
      all_taken = λ settled o. well refl (behind_same old end_of) tt;
      reads = λ now is_open o. well refl refl is_open;
      closed = λ is o. well refl refl tt;
      puts = λ now room what is_due allowed o. well refl refl o;
      enough = λ now room is o. well refl refl tt;
      put = λ now room o. well refl refl o;
      breaks = λ now room o. broke (eq-eqb n n refl);
    }) q e s

-- ---- all links

-- an event and the links before and after it
pub record LinksFail (e : Event) (old new : List Link) : Type 0 where
  pub stays : (i : ℕ) → LinkFailed old i → LinkFailed new i
  pub cause : (i : ℕ) → LinkFailed new i → LinkFailed old i ⊎ (is_failure i e ≡ true)

-- the link in hand
abbrev pub HoldsOpen : Hold → List Link → Type 0
HoldsOpen (Holds n doing) links =
    (link : Link) → slice_get links n ≡ Some link → DoesOpen doing link.stands
HoldsOpen _ links = Unit {0}

idle_opens : (hold : Hold) (links : List Link) → IsNothingUnderWay hold → HoldsOpen hold links
idle_opens Rests links calm = tt
idle_opens (Begins s) links calm = absurd calm
idle_opens (Holds n Asks) links calm = λ link at. tt
idle_opens (Holds n Waits) links calm = λ link at. tt
idle_opens (Holds n Done) links calm = λ link at. tt
idle_opens (Holds n _) links calm = absurd calm

pub record StepFailsAll (e : Event) (p q : Free) : Type 0 where
  pub by : LinksFail e p.links q.links
  pub opens : HoldsOpen q.hold q.links

abbrev pub is_failed_in : Option Link → Bool
is_failed_in None = false
is_failed_in (Some link) = is_failed link.stands

abbrev pub failed_at : List Link → ℕ → Bool
failed_at links i = is_failed_in (slice_get links i)

failed_is : (stands : LinkEnd) → is_failed stands ≡ true → stands ≡ end.Failed
failed_is end.Failed is = refl
failed_is _ is = cc

pub failed_there : (links : List Link) (i : ℕ) → failed_at links i ≡ true → LinkFailed links i
failed_there links i is = there (slice_get links i) refl is
  where
    there : (o : Option Link) → slice_get links i ≡ o → is_failed_in o ≡ true → LinkFailed links i
    there None at is = cc
    there (Some link) at is = record { link = link; there = at; failed = failed_is link.stands is }

there_failed : (links : List Link) (i : ℕ) → LinkFailed links i → failed_at links i ≡ true
there_failed links i f = ap is_failed_in f.there ∙ ap is_failed f.failed

spared_well : (i : ℕ) (e : Event) → Spares i e → is_failure i e ≡ false
spared_well i (Miss on) apart = ne_eqb on i apart
spared_well i (Break on) apart = ne_eqb on i apart
spared_well i _ spares = refl

closed_same : (beaten : Bool) (stands : LinkEnd) → (beaten ≡ true → is_going stands ≡ true)
    → is_failed (cond beaten end.Redundant stands) ≡ is_failed stands
closed_same true stands going = sym (going_well stands (going refl))
closed_same false stands going = refl

module _ (clients : Meaning) (first : ℕ) where
  spared_same : (e : Event) (p q : Free) (i : ℕ) → Spares i e
      → failed_at q.links i ≡ failed_at p.links i
      → failed_at q.links i ≡ (failed_at p.links i || is_failure i e)
  spared_same e p q i spares same =
      same
      ∙ sym (or-false (failed_at p.links i))
      ∙ ap (λ b. failed_at p.links i || b) (sym (spared_well i e spares))

  -- a link stands Failed behind a step where it did before it, or a call of it failed
  goes_fail : (e : Event) (p q : Free) (i : ℕ) → LinkGoes clients first e p q i
      → HoldsOpen p.hold p.links
      → failed_at q.links i ≡ (failed_at p.links i || is_failure i e)
  goes_fail e p q i (Kept k) o = spared_same e p q i k.spares (ap is_failed_in k.same)
  goes_fail e p q i (Closed c) o =
      spared_same e p q i c.spares
      (ap is_failed_in c.now
      ∙ closed_same c.beaten c.was.stands c.going
      ∙ sym (ap is_failed_in c.at))
  goes_fail e p q i (Joined j) o =
      let none : failed_at p.links i ≡ false =
      ap is_failed_in (ap (slice_get p.links) j.is_next ∙ get_past p.links) in
      let way : is_failed j.stands ≡ is_failure i e =
      elim j.way [
        | inl passes ↦ ap is_failed passes.1 ∙ sym (ap (is_failure i) passes.0)
        | inr broke ↦ ap is_failed broke.1 ∙ sym (ap (is_failure i) broke.0 ∙ eq-eqb i i refl)
      ] in
      ap is_failed_in j.now ∙ way ∙ ap (λ b. b || is_failure i e) (sym none)
  goes_fail e p q i (Stepped t) o =
      let fails =
      link_step_fails clients i (first + i) (spot_in t.doing t.link t.moved p) t.spot e t.steps
      (subst (λ h. HoldsOpen h p.links) t.held o t.link t.at) in
      ap is_failed_in t.now ∙ fails.failed
      ∙ ap (λ x. is_failed_in x || is_failure i e) (sym t.at)

  abbrev Opens : Free → Type 0
  Opens p = HoldsOpen p.hold p.links

  -- the link that is in hand is open behind a step
  stays_open : (p q : Free) (e : Event) → FreeStep clients first p e q → Opens p → Opens q
  stays_open p q e t o =
      free_by_cases clients first p (λ x r. Opens r) (record {
        stays = o;
        turns = λ hold calm then. idle_opens hold p.links then;
        sends = λ n now link calm there is_open other at.
            subst (λ l. is_sent_to l.stands ≡ true) (get_same there at) is_open;
        closes = λ calm. tt;
        adds = λ b rests adds. subst (λ h. HoldsOpen h p.links) (sym rests) tt;
        begins = λ x rests allowed. tt;
        greets = λ x begins. tt;
        breaks = λ x begins. tt;
        works = λ n doing link moved x spot holds there steps other at.
            let opens : DoesOpen doing link.stands =
            subst (λ h. HoldsOpen h p.links) holds o link there in
            subst (λ l. DoesOpen spot.doing l.stands)
            (get_same (get_set p.links n spot.link (get_within p.links n link there)) at)
            (link_step_fails clients n (first + n) (spot_in doing link moved p) spot x steps
            opens).opens;
      }) q e t

  -- so the links behind it stand, and the link that is in hand is open
  fails_behind : (p q : Free) (e : Event) → FreeStep clients first p e q → Opens p → (i : ℕ)
      → failed_at q.links i ≡ (failed_at p.links i || is_failure i e)
  fails_behind p q e t o i = goes_fail e p q i (free_link clients first p q e i t) o

  pub free_fails : (p q : Free) (e : Event) → FreeStep clients first p e q
      → HoldsOpen p.hold p.links
      → StepFailsAll e p q
  free_fails p q e t o =
      let so = fails_behind p q e t o in
      record {
        by = record {
          stays = λ i f.
              failed_there q.links i (so i ∙ or_left _ (is_failure i e) (there_failed p.links i f));
          cause = λ i f.
              elim (or_cases _ (is_failure i e) (sym (so i) ∙ there_failed q.links i f)) [
                | inl was ↦ inl (failed_there p.links i was)
                | inr is ↦ inr is
              ];
        };
        opens = stays_open p q e t o;
      }

  -- just the links on which a call failed stand Failed, and the link in hand is open
  pub record FailsJust (before : List Event) (p : Free) : Type 0 where
    pub stays : (i : ℕ) → has_failure i before ≡ true → LinkFailed p.links i
    pub cause : (i : ℕ) → LinkFailed p.links i → has_failure i before ≡ true
    pub opens : HoldsOpen p.hold p.links

  -- the same, by the test of each link
  pub record FailsAsTold (before : List Event) (p : Free) : Type 0 where
    pub each : (i : ℕ) → failed_at p.links i ≡ has_failure i before
    pub opens : HoldsOpen p.hold p.links

  pub push_failure : (i : ℕ) (before : List Event) (e : Event) → has_failure i
      (before ++ e ∷ []) ≡ (has_failure i before || is_failure i e)
  push_failure i before e =
      has_failure-append i before (e ∷ [])
      ∙ ap (λ b. has_failure i before || b) (or-false (is_failure i e))

  pub fails_step : (before : List Event) (p q : Free) (e : Event) → FailsAsTold before p
      → FreeStep clients first p e q
      → FailsAsTold (before ++ e ∷ []) q
  fails_step before p q e k t = record {
    each = λ i.
        fails_behind p q e t k.opens i
        ∙ ap (λ b. b || is_failure i e) (k.each i)
        ∙ sym (push_failure i before e);
    opens = stays_open p q e t k.opens;
  }

  pub first_fails : (f : Facts) → FailsAsTold [] (first_free f)
  first_fails f = record { each = λ i. refl; opens = tt }

  pub path_fails : (f : Facts) (q : Free) (es : List Event) → Path (FreeStep clients first)
      (first_free f) es q → FailsJust es q
  path_fails f q es path =
      let k =
      path_keeps (FreeStep clients first) FailsAsTold fails_step [] es (first_free f) q
      (first_fails f) path in
      record {
        stays = λ i is. failed_there q.links i (k.each i ∙ is);
        cause = λ i failed. sym (k.each i) ∙ there_failed q.links i failed;
        opens = k.opens;
      }
