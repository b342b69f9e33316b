-- What calls one after another leave, and why links stand Failed.
use Rattle.std.proofs.Common.{◌≡◌, ◌⊎◌, ℕ, zero, suc, ◌≤◌, List, [], ◌∷◌, inl, inr, arith, refl}
use Rattle.std.proofs.Common.{sym, length, ap, subst, ◌∙◌, Bool, Some, Result, Ok, Err}
use Rattle.std.specs.Prelude.{map, slice_get}
use Rattle.outside.specs.Faults.{CountRose, one_more}
use Rattle.outside.specs.Links.{Links}
use Rattle.outside.specs.Outside.{DiskRun, Outside}
use Rattle.sync_rules.specs.declared.states.Refused.TheVariants as refused
use Rattle.sync_node.specs.declared.link.Link.{Link}
use Rattle.sync_course.specs.declared.ends.LinkEnd.{LinkEnd}
use Rattle.sync_course.specs.declared.ends.LinkEnd.TheVariants as end
use Rattle.sync_node.specs.Causes.{FailByCause, StandsFailed}
use Rattle.sync_node.specs.Going.{LetsNothingFall}
use Rattle.sync_course.specs.Closing.{Closing}
use Rattle.store_commands.specs.Commit.{ExtendsBy}
use Rattle.sync_words.specs.declared.link_words.LinkWords.{LinkWords}
use Rattle.sync_words.specs.declared.outcome.Outcome.{Outcome}
use Rattle.sync_words.specs.declared.outcome.Outcome.TheVariants as outcome
use Rattle.sync_run.specs.Causes.{FailuresRose, IsCaused, RunCaused}
use Rattle.sync_run.specs.Dialling.{FailedOnce, NoneFailed}
use Rattle.sync_run.specs.Parts.{closed_by}

pub rose_before : (a b c : ℕ) → a ≤ b → CountRose b c → CountRose a c
rose_before a b c before rose = let r : one_more b ≤ c = rose in omega (arith, before, r)

pub causes_then : (links mid links' : List Link) (o o1 o' : Outside) → LetsNothingFall o o1
    → LetsNothingFall o1 o' → FailByCause links mid o o1 → FailByCause mid links' o1 o'
    → FailByCause links links' o o'
causes_then links mid links' o o1 o' first second before behind number stands =
    elim (behind number stands) [
      | inl there ↦ elim (before number there) [
        | inl at_first ↦ inl at_first
        | inr rose ↦ let r : one_more (o.links.faults number) ≤ o1.links.faults number = rose in
            inr (omega (arith, r, second.links.faults number))
      ]
      | inr rose ↦
          inr (rose_before (o.links.faults number) (o1.links.faults number) (o'.links.faults number)
          (first.links.faults number) rose)
    ]

pub once_behind : (link : ℕ) (a b c : ℕ → ℕ) → NoneFailed a b → FailedOnce link b c
    → FailedOnce link a c
once_behind link a b c none failed = record {
  once = failed.once ∙ ap one_more (none link);
  others = λ i other. failed.others i other ∙ none i;
}

-- ---- ends

-- a link that is said to have failed stands so
end_failed : (links : List Link) (i : ℕ) (stands : LinkEnd)
    → slice_get (map (λ (l : Link). l.end) links) i ≡ Some stands → stands ≡ end.Failed
    → StandsFailed links i
end_failed [] i stands at failed = cc
end_failed (x ∷ links) zero stands at failed =
    let is : x.end ≡ stands = cc in
    record { link = x; there = refl; failed = is ∙ failed }
end_failed (x ∷ links) (suc i) stands at failed =
    let rest = end_failed links i stands at failed in
    record { link = rest.link; there = rest.there; failed = rest.failed }

-- where no link stood failed before
pub ends_rose : (over : Bool) (links links' : List Link) (ends : Closing) (o o' : Outside)
    → links ≡ [] → ends ≡ closed_by over links'
    → FailByCause links links' o o' → FailuresRose o o' ends
ends_rose over links links' ends o o' none are causes i stands at failed =
    let stood =
    end_failed links' i stands (subst (λ (c : Closing). slice_get c.ends i ≡ Some stands) are at)
    failed in
    elim (causes i stood) [
      | inl before ↦
          let no : slice_get [] i ≡ Some before.link =
          subst (λ (ls : List Link). slice_get ls i ≡ Some before.link) none before.there in
          cc
      | inr rose ↦ rose
    ]

-- ---- by the outcome

-- calls before and behind what was caused so
module _ (words words' : List LinkWords) (o o1 o2 o3 : Outside)
    (more : length words ≤ length words')
    (links : (i : ℕ) → o.links.faults i ≤ o1.links.faults i) (disk : o.disk_faults ≤ o1.disk_faults)
    (dialled : (words ≡ []) ⊎ NoneFailed o.links.faults o1.links.faults)
    (same_links : o3.links ≡ o2.links) (same_faults : o3.disk_faults ≡ o2.disk_faults) where
  rose_on : (i : ℕ) → CountRose (o1.links.faults i) (o2.links.faults i)
      → CountRose (o.links.faults i) (o3.links.faults i)
  rose_on i rose =
      rose_before _ _ _ (links i)
      (subst (λ (l : Links). CountRose (o1.links.faults i) (l.faults i)) (sym same_links) rose)

  pub caused_amid : (r : Result Closing Outcome) → IsCaused words o1 o2 r → IsCaused words' o o3 r
  caused_amid (Ok ends) caused = λ i stands at failed. rose_on i (caused i stands at failed)
  caused_amid (Err outcome.DiskFault) caused =
      rose_before _ _ _ disk (subst (CountRose o1.disk_faults) (sym same_faults) caused)
  caused_amid (Err (outcome.LinkFailed link)) caused =
      elim dialled [
        | inl none ↦ absurd (omega (arith, caused.0, ap (λ (ws : List LinkWords). length ws) none))
        | inr unfailed ↦ (
          omega (arith, caused.0, more),
          subst (λ (l : Links). FailedOnce link o.links.faults l.faults) (sym same_links)
              (once_behind link o.links.faults o1.links.faults o2.links.faults unfailed caused.1),
        )
      ]
  caused_amid (Err outcome.NoStore) caused = tt
  caused_amid (Err (outcome.Damaged place)) caused = tt
  caused_amid (Err (outcome.Refused refused.UnknownContact)) caused = tt
  caused_amid (Err (outcome.Refused refused.TooManySessions)) caused = tt
  caused_amid (Err outcome.Full) caused = tt
  caused_amid (Err outcome.Memory) caused = tt
  caused_amid (Err _) caused = absurd caused

-- no call on a link failed before it
pub caused_behind : (words : List LinkWords) (o o1 o2 o3 : Outside) → DiskRun o o1
    → o3.links ≡ o2.links → o3.disk_faults ≡ o2.disk_faults → (r : Result Closing Outcome)
    → IsCaused words o1 o2 r → IsCaused words o o3 r
caused_behind words o o1 o2 o3 run same_links same_faults =
    caused_amid words words o o1 o2 o3 (omega arith)
    (λ i. omega (arith, ap (λ (l : Links). l.faults i) run.same_links)) run.later
    (inr (λ i. ap (λ (l : Links). l.faults i) run.same_links)) same_links same_faults

-- settling itself was broken off
pub unsettled_caused : (o o' : Outside) (e : Outcome) → ExtendsBy o o' (Err e)
    → RunCaused o o' (Err e)
unsettled_caused o o' outcome.DiskFault by = (tt, by)
unsettled_caused o o' outcome.Full by = (tt, tt)
unsettled_caused o o' outcome.Memory by = (tt, tt)
unsettled_caused o o' _ by = absurd by
