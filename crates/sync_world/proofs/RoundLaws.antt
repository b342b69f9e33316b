-- What the turns of a round and the rounds of a rest do, over plain values.
use Rattle.std.proofs.Common.{◌≡◌, ◌⊎◌, ℕ, zero, suc, ◌+◌, ◌-◌, ◌<◌, ◌&&◌, not, Bool, true, false}
use Rattle.std.proofs.Common.{map, refl, sym, ◌∙◌, ap, subst, inl, inr, arith, Option, Some}
use Rattle.std.proofs.Common.{None, Result, Ok, Err}
use Rattle.std.specs.List.{list_any}
use Rattle.std.specs.Result.{IsErrAnd}
use Rattle.std.specs.Prelude.{slice_get}
use Rattle.world_devices.specs.declared.stop.StepFault.{StepFault}
use Rattle.world_devices.specs.declared.stop.StepFault.TheVariants as fault
use Rattle.world_scripts.specs.declared.step.TheConstants.{MAX_DEVICES}
use Rattle.sync_world.specs.Doing.{Ground, MakesRound, RestsWithin, TurnsFrom, TurnsIf, TurnsLinked}
use Rattle.sync_world.specs.Doing.{TurnsOnce}
use Rattle.sync_world.specs.Parts.{RoundBy, TurnsBy, TurnsLinkedBy, WhenFull}
use Rattle.sync_world.specs.Refusing.{has_links}
use Rattle.sync_world.specs.Shown.{link_arrived}
use Rattle.sync_world.specs.Turning.{is_moving}
use Rattle.sync_world.specs.declared.stage.Round.{Round}
use Rattle.sync_world.specs.declared.stage.Round.TheVariants as round
use Rattle.sync_world.proofs.DoingLaws.{handed, same_ground, when_full}

-- ---- a device that has had a link, or not

turn_linked : (d : ℕ) (came : Result (Option Bool) StepFault) (old new : Ground)
    → has_links (slice_get old.devices d) ≡ true → TurnsOnce d came old new
    → TurnsLinked d came old new
turn_linked d came old new linked turns =
    subst (λ (b : Bool). TurnsIf b d came old new) (sym linked) turns

pub turn_still : (d : ℕ) (old : Ground) → has_links (slice_get old.devices d) ≡ false
    → TurnsLinked d (Ok (Some true)) old old
turn_still d old unlinked =
    subst (λ (b : Bool). TurnsIf b d (Ok (Some true)) old old) (sym unlinked) (refl, refl)

pub linked_by : (d : ℕ) (r : Result (Option Bool) StepFault) (old new : Ground)
    → has_links (slice_get old.devices d) ≡ true → TurnsBy d r old new → TurnsLinkedBy d r old new
linked_by d (Ok came) old new linked turns = turn_linked d (Ok came) old new linked turns
linked_by d (Err f) old new linked when =
    when_full (TurnsOnce d (Err fault.Full) old new) (TurnsLinked d (Err fault.Full) old new) f
    (turn_linked d (Err fault.Full) old new linked) when

-- ---- the turns of a round, so far

-- a call was broken off
abbrev pub IsBroken : Result (Option Bool) StepFault → Type 0
IsBroken came = (b : Bool) → came ≡ Ok (Some b) → ⊥

pub crash_breaks : IsBroken (Ok None)
crash_breaks b is = cc is

pub full_breaks : IsBroken (Err fault.Full)
full_breaks b is = cc is

-- whatever the turns from this device on do, with those before they are what a round does
pub record TurnsSo (d : ℕ) (still : Bool) (start now : Ground) : Type 0 where
  pub turns : (left : ℕ) (came : Result (Option Bool) StepFault) (new : Ground)
      → left + d ≡ MAX_DEVICES → TurnsFrom left d still came now new
      → TurnsFrom MAX_DEVICES 0 true came start new

pub so_none : (start : Ground) → TurnsSo 0 true start start
so_none start = record {
  turns = λ left came new all turns. let whole : left ≡ MAX_DEVICES =
      omega (arith, all) in subst (λ (n : ℕ). TurnsFrom n 0 true came start new) whole turns;
}

pub so_next : (d : ℕ) (still quiet : Bool) (start now next : Ground) → TurnsSo d still start now
    → TurnsLinked d (Ok (Some quiet)) now next → TurnsSo (d + 1) (still && quiet) start next
so_next d still quiet start now next so turned = record {
  turns = λ left came new all turns. let before : suc left + d ≡ MAX_DEVICES =
      omega (arith, all) in so.turns (suc left) came new before (inl (next, quiet, turned, turns));
}

-- all devices made their turns
so_all : (d : ℕ) (still : Bool) (start now : Ground) → d ≡ MAX_DEVICES → TurnsSo d still start now
    → TurnsFrom MAX_DEVICES 0 true (Ok (Some still)) start now
so_all d still start now all so = let whole : 0 + d ≡ MAX_DEVICES =
    omega (arith, all) in so.turns 0 (Ok (Some still)) now whole (refl, refl)

-- so many are left, and one more
left_from : (d n : ℕ) → d < n → (left : ℕ) × (suc left + d ≡ n)
left_from d n below = (n - suc d, omega (arith, below))

-- one of them was broken off, and so was the round
pub so_ends : (came : Result (Option Bool) StepFault) (d : ℕ) (still : Bool)
    (start now next : Ground) → IsBroken came → d < MAX_DEVICES → TurnsSo d still start now
    → TurnsLinked d came now next → MakesRound came start next
so_ends came d still start now next broken below so turned =
    let left = left_from d MAX_DEVICES below in
    inr (broken, so.turns (suc left.0) came next left.1 (inr (broken, turned)))

-- ---- a round

pub round_made : (d : ℕ) (start now new : Ground) (still some quiet : Bool) → d ≡ MAX_DEVICES
    → TurnsSo d still start now → new.devices ≡ now.devices → new.links ≡ map link_arrived now.links
    → some ≡ list_any is_moving now.links → quiet ≡ (still && not some)
    → MakesRound (Ok (Some quiet)) start new
round_made d start now new still some quiet all so devices links is made =
    inl (
      now,
      still,
      so_all d still start now all so,
      (
        ap (λ (b : Bool). Ok (Some b)) (made ∙ ap (λ (b : Bool). still && not b) is),
        same_ground now.devices new.devices (map link_arrived now.links) new.links devices links,
      ),
    )

-- whether it was quiet
pub quiet_round : (still some : Bool) → still ≡ true → some ≡ false → true ≡ (still && not some)
quiet_round still some quiet none =
    sym (ap (λ (b : Bool). b && not some) quiet ∙ ap (λ (b : Bool). not b) none)

pub loud_round : (still some : Bool) → ((still ≡ true) × (some ≡ true)) ⊎ (still ≡ false)
    → false ≡ (still && not some)
loud_round still some (inl both) =
    sym (ap (λ (b : Bool). b && not some) both.0 ∙ ap (λ (b : Bool). not b) both.1)
loud_round still some (inr moving) = sym (ap (λ (b : Bool). b && not some) moving)

pub round_handed : (r : Result Round StepFault) (e : StepFault) (start new : Ground) → IsErrAnd r
    (λ y. y ≡ e) → WhenFull e (MakesRound (Err fault.Full) start new) → RoundBy r start new
round_handed r e start new is when =
    handed (λ x. RoundBy x start new) (MakesRound (Err fault.Full) start new) r e (λ f w. w) is when

-- what came of a call
pub turned_as : (d : ℕ) (o came : Option Bool) (old new : Ground) → o ≡ came
    → TurnsLinked d (Ok o) old new → TurnsLinked d (Ok came) old new
turned_as d o came old new is turns =
    subst (λ (x : Option Bool). TurnsLinked d (Ok x) old new) is turns

-- ---- the rounds of a rest, so far

-- whatever the rounds that are left do, with those before they are what the rest does
pub record RestsSo (made rounds : ℕ) (start now : Ground) : Type 0 where
  pub rests : (left : ℕ) (came : Result (Option Bool) StepFault) (new : Ground)
      → left + made ≡ rounds → RestsWithin left false came now new
      → RestsWithin rounds false came start new

pub rests_none : (rounds : ℕ) (start : Ground) → RestsSo 0 rounds start start
rests_none rounds start = record {
  rests = λ left came new all rests. let whole : left ≡ rounds =
      omega (arith, all) in subst (λ (n : ℕ). RestsWithin n false came start new) whole rests;
}

pub rests_next : (made rounds : ℕ) (start now next : Ground) → RestsSo made rounds start now
    → MakesRound (Ok (Some false)) now next → RestsSo (made + 1) rounds start next
rests_next made rounds start now next so round = record {
  rests = λ left came new all rests. let before : suc left + made ≡ rounds =
      omega (arith, all) in so.rests (suc left) came new before (inl (next, false, round, rests));
}

pub rests_all : (made rounds : ℕ) (start now : Ground) → made ≡ rounds
    → RestsSo made rounds start now → RestsWithin rounds false (Ok (Some false)) start now
rests_all made rounds start now all so =
    let whole : 0 + made ≡ rounds = omega (arith, all) in
    so.rests 0 (Ok (Some false)) now whole (refl, refl)

pub rests_broken : (came : Result (Option Bool) StepFault) (made rounds : ℕ)
    (start now next : Ground) → IsBroken came → made < rounds → RestsSo made rounds start now
    → MakesRound came now next → RestsWithin rounds false came start next
rests_broken came made rounds start now next broken below so ends =
    let left = left_from made rounds below in
    so.rests (suc left.0) came next left.1 (inr (broken, ends))

-- behind a quiet round there is none
rested : (left : ℕ) (g : Ground) → RestsWithin left true (Ok (Some true)) g g
rested zero g = (refl, refl)
rested (suc left) g = (refl, refl)

rests_quiet : (made rounds : ℕ) (start now next : Ground) → made < rounds
    → RestsSo made rounds start now → MakesRound (Ok (Some true)) now next
    → RestsWithin rounds false (Ok (Some true)) start next
rests_quiet made rounds start now next below so quiet =
    let left = left_from made rounds below in
    so.rests (suc left.0) (Ok (Some true)) next left.1 (inl (next, true, quiet, rested left.0 next))

-- a round after which the rest ends, or goes on
pub rests_last : (made rounds : ℕ) (r : Round) (start now next : Ground)
    → (r ≡ round.Still) ⊎ (r ≡ round.Crashed) → made < rounds → RestsSo made rounds start now
    → RoundBy (Ok r) now next
    → (came : Option Bool) × RestsWithin rounds false (Ok came) start next
rests_last made rounds r start now next (inl still) below so by = (
  Some true,
  rests_quiet made rounds start now next below so
      (subst (λ (x : Round). RoundBy (Ok x) now next) still by),
)
rests_last made rounds r start now next (inr crashed) below so by = (
  None,
  rests_broken (Ok None) made rounds start now next crash_breaks below so
      (subst (λ (x : Round). RoundBy (Ok x) now next) crashed by),
)

pub round_on : (r : Round) (old new : Ground) → r ≡ round.Moving → RoundBy (Ok r) old new
    → MakesRound (Ok (Some false)) old new
round_on r old new is made = subst (λ (x : Round). RoundBy (Ok x) old new) is made
