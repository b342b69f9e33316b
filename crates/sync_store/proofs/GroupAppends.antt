-- Which calls of the disk it takes to add the frames that wait.
use Rattle.std.proofs.Common.{◌≡◌, ℕ, ◌+◌, ◌≤◌, Bool, true, false, cond, List, [], ◌∷◌, length, drop}
use Rattle.std.proofs.Common.{refl, sym, ap, ◌∙◌, subst, arith, length-drop}
use Rattle.std.specs.Prelude.{◌==◌}
use Rattle.std.proofs.lemmas.Bool.{eqb-true}
use Rattle.std.proofs.lemmas.Bool.Decides.{nat_tests}
use Rattle.outside.specs.Made.{BreaksIn, DoesAll}
use Rattle.outside.specs.Outside.{Outside}
use Rattle.frame_journal.specs.Appends.{Appends, AreFrames, BreaksAppends, append_calls, group_calls}
use Rattle.frame_journal.specs.Group.{IsGroup, IsJoined, group_len}
use Rattle.frame_journal.proofs.Appending.{appends_one, breaks_one}
use Rattle.sync_store.specs.Appending.{AppendsFor}
use Rattle.sync_store.specs.Store.{StoreValue}
use Rattle.sync_store.proofs.FitSteps.{true≢false}
use Rattle.sync_store.proofs.GroupSteps.{group_some}

-- the first gate is open
front_is : (added : List (List ℕ)) (group : List ℕ) → IsJoined added group → 2 ≤ length group
    → group ≡ 1 ∷ drop 1 group
front_is [] group joined some = absurd (omega (arith, some, ap length joined.spelled))
front_is (p ∷ ps) group joined some =
    joined.spelled ∙ ap (λ l. 1 ∷ drop 1 l) (sym joined.spelled)

frames_of : (group : List ℕ) → IsGroup group → 2 ≤ length group → AreFrames (drop 1 group)
frames_of group is some =
    record { group = subst IsGroup (front_is is.payloads group is.joined some) is }

-- no frame, or some
some_by : (n : ℕ) (b : Bool) → 1 ≤ n → b ≡ (n == 1) → b ≡ false → 2 ≤ n
some_by n b some is other = grind (arith, nat_tests)

added_by : (file end : ℕ) (group : List ℕ) (b : Bool) (o o' : Outside)
    → (b ≡ true → length group ≡ 1) → (b ≡ false → AreFrames (drop 1 group))
    → DoesAll (cond b [] (append_calls file end (drop 1 group))) o o'
    → Appends file end (end + group_len group) o o'
added_by file end group true o o' none frames does =
    let same : end + group_len group ≡ end = omega (arith, none refl) in
    record { added = []; frames = tt; ends = same; does = does }
added_by file end group false o o' none frames does =
    subst (λ n. Appends file end (end + n) o o') (length-drop 1 group)
    (appends_one file end (drop 1 group) o o' (frames refl) does)

broken_by : (file end : ℕ) (group : List ℕ) (b : Bool) (o o' : Outside)
    → (b ≡ false → AreFrames (drop 1 group))
    → BreaksIn (cond b [] (append_calls file end (drop 1 group))) o o' → BreaksAppends file end o o'
broken_by file end group true o o' frames breaks =
    record { added = []; frames = tt; breaks = breaks }
broken_by file end group false o o' frames breaks =
    breaks_one file end (drop 1 group) o o' (frames refl) breaks

pub group_appends : (file end : ℕ) (group : List ℕ) (o o' : Outside) → IsGroup group
    → DoesAll (group_calls file end group) o o' → Appends file end (end + group_len group) o o'
group_appends file end group o o' is does =
    added_by file end group (length group == 1) o o' (λ one. eqb-true (length group) 1 one)
    (λ some. frames_of group is
    (some_by (length group) (length group == 1) (group_some group is) refl some)) does

pub group_breaks : (file end : ℕ) (group : List ℕ) (o o' : Outside) → IsGroup group
    → BreaksIn (group_calls file end group) o o' → BreaksAppends file end o o'
group_breaks file end group o o' is breaks =
    broken_by file end group (length group == 1) o o'
    (λ some. frames_of group is
    (some_by (length group) (length group == 1) (group_some group is) refl some)) breaks

-- the same in words of the store that it was before those that waited
pub group_appended : (before s new : StoreValue) (file end : ℕ) (o o' : Outside) → file ≡ before.file
    → end ≡ before.end → new.end ≡ before.end + group_len s.waiting → new.closed ≡ false
    → Appends file end (end + group_len s.waiting) o o' → AppendsFor before new o o'
group_appended before s new file end o o' same at ends still appends = record {
  all = λ opened.
      subst (λ n. Appends before.file before.end n o o') (sym ends)
      (subst (λ n. Appends before.file n (n + group_len s.waiting) o o') at
      (subst (λ f. Appends f end (end + group_len s.waiting) o o') same appends));
  broken = λ opened shut. true≢false new.closed shut still;
}

pub group_broken : (before new : StoreValue) (file end : ℕ) (o o' : Outside) → file ≡ before.file
    → end ≡ before.end → new.closed ≡ true → BreaksAppends file end o o'
    → AppendsFor before new o o'
group_broken before new file end o o' same at closed breaks = record {
  all = λ still. true≢false new.closed closed still;
  broken = λ opened shut.
      subst (λ n. BreaksAppends before.file n o o') at
      (subst (λ f. BreaksAppends f end o o') same breaks);
}
