-- In a world that no fault stands in each device that runs knows a contact for each other one.
use Rattle.std.proofs.Common.{◌≡◌, ℕ, ◌+◌, ◌≤◌, false, List, [], ◌∷◌, ◌++◌, length, sym, ap, subst}
use Rattle.std.proofs.Common.{inl, inr, arith, Some, None, Result, Err}
use Rattle.std.specs.Prelude.{IsErrOf}
use Rattle.std.proofs.lemmas.Bool.{cases_eq}
use Rattle.sync_course.proofs.LiftLaws.{get_within}
use Rattle.sync_rules.specs.Clients.{Meaning}
use Rattle.sync_rules.proofs.Continuing.{continues_journals}
use Rattle.sync_rules.specs.Facts.{Facts, Journal, facts}
use Rattle.world_laws.specs.Worlds.{AreSteps, IsStep, World, journal_at, journal_in}
use Rattle.world_laws.specs.Worlds.{last_of}
use Rattle.world_devices.specs.declared.stop.StepFault.{StepFault}
use Rattle.world_devices.specs.declared.stop.StepFault.TheVariants as fault
use Rattle.world_scripts.specs.declared.step.WorldStep.{WorldStep}
use Rattle.sync_world.specs.Doing.{DoesBy}
use Rattle.sync_world.specs.Leaving.{IsSame}
use Rattle.sync_world.specs.Moving.{fault_after}
use Rattle.sync_world.specs.Refusing.{KnowContacts}
use Rattle.sync_world.specs.Shown.{ReachesWorld}
use Rattle.sync_world.specs.Standing.{AllLinksStand, LeadsFromShown, IsWorld, is_fatal, is_harmed}
use Rattle.sync_world.specs.declared.stage.Stage.{Stage}
use Rattle.sync_world.proofs.CountLaws.{step_count}
use Rattle.sync_world.proofs.WorldLaws.{world_steps}

abbrev contacts_of : Journal → ℕ
contacts_of j = (facts j).contacts

-- ---- contacts only grow

contacts_longer : (before more j : Journal) → j ≡ before ++ more
    → contacts_of before ≤ contacts_of j
contacts_longer before more j is = (continues_journals j before (more, is)).contacts

contacts_same : (before j : Journal) → j ≡ before → contacts_of before ≤ contacts_of j
contacts_same before j is =
    let e : contacts_of j ≡ contacts_of before = ap contacts_of is in omega (arith, e)

contacts_step : (clients : Meaning) (old new : World) → IsStep clients old new → (d : ℕ)
    → contacts_of (journal_at old d) ≤ contacts_of (journal_at new d)
contacts_step clients old new (inl runs) d =
    elim (cases_eq d runs.0) [
      | inl here ↦
          subst (λ (x : ℕ). contacts_of (journal_at old x) ≤ contacts_of (journal_at new x))
          (sym here)
          (contacts_longer (journal_at old runs.0) runs.1.more (journal_at new runs.0)
          runs.1.goes_on)
      | inr other ↦ contacts_same (journal_at old d) (journal_at new d) (runs.1.others d other)
    ]
contacts_step clients old new (inr linked) d =
    contacts_same (journal_at old d) (journal_at new d)
    (ap (λ (js : List Journal). journal_in js d) linked.2.journals)

contacts_steps : (clients : Meaning) (w : World) (worlds : List World) → AreSteps clients w worlds
    → (d : ℕ)
    → contacts_of (journal_at w d) ≤ contacts_of (journal_at (last_of w worlds) d)
contacts_steps clients w [] steps d = omega arith
contacts_steps clients w (x ∷ worlds) steps d =
    let one : contacts_of (journal_at w d) ≤ contacts_of (journal_at x d) =
    contacts_step clients w x steps.0 d in
    let rest : contacts_of (journal_at x d) ≤ contacts_of (journal_at (last_of x worlds) d) =
    contacts_steps clients x worlds steps.1 d in
    omega (arith, one, rest)

pub contacts_reached : (clients : Meaning) (w after : World) → ReachesWorld clients w after
    → (d : ℕ) → (facts (journal_at w d)).contacts ≤ (facts (journal_at after d)).contacts
contacts_reached clients w after reached d =
    subst (λ (x : World). contacts_of (journal_at w d) ≤ contacts_of (journal_at x d)) reached.last
    (contacts_steps clients w reached.worlds reached.steps d)

-- ---- each device knows them

pub contacts_known : (s : Stage) → IsWorld s → s.fault ≡ None → AllLinksStand s.devices.items
    → KnowContacts s.devices.items
contacts_known s is none stand = λ d device n there runs.
    let unharmed : is_harmed s.fault ≡ false = ap is_harmed none in
    let after : World = is.stands.after in
    let up = (is.stands.shown unharmed).up.each d device there in
    let told : n.store.state.facts ≡ facts (journal_in after.journals d) =
    ((stand d device there).each n runs (journal_in after.journals d) up.holds).facts_are in
    let same : n.store.state.facts.contacts ≡ contacts_of (journal_in after.journals d) =
    ap (λ (f : Facts). f.contacts) told in
    let began : length s.devices.items ≤ contacts_of (journal_at is.start d) + 1 =
    is.contacts unharmed d (get_within s.devices.items d device there) in
    let grown : contacts_of (journal_at is.start d) ≤ contacts_of (journal_in after.journals d) =
    contacts_reached _ is.start after is.stands.reached d in
    omega (arith, same, began, grown)

-- a step leaves a world, whatever it answers, by its clauses
pub world_stepped : (made : WorldStep) (old new : Stage) (result : Result (Unit {0}) StepFault)
    → IsWorld old → AllLinksStand old.devices.items
    → (old.fault ≡ None → LeadsFromShown (is_fatal result) old new)
    → (old.fault ≡ None → new.fault ≡ fault_after result)
    → ((f : StepFault) → old.fault ≡ Some f → (result ≡ Err f) × (new ≡ old))
    → (old.fault ≡ None → KnowContacts old.devices.items → IsErrOf result fault.Refused
    → IsSame old new) → (old.fault ≡ None → DoesBy made result old new) → IsWorld new
world_stepped made old new result is stand goes after for_good same does =
    world_steps old new result is goes after for_good
    (λ none fatal. step_count made result old new fatal (does none)
    (same none (contacts_known old is none stand)))
