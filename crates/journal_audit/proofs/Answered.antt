-- A judgement by its parts: whether it refuses, and its dependencies.
use Rattle.std.proofs.Common.{◌≡◌, Bool, true, false, not, ◌&&◌, ◌||◌, List, Some, refl, sym}
use Rattle.std.specs.List.{list_all, list_any}
use Rattle.std.proofs.lemmas.Bool.{false≢true}
use Rattle.sync_rules.specs.declared.answers.Judgement.{Judgement}
use Rattle.sync_rules.specs.declared.answers.Judgement.TheVariants as judgement
use Rattle.sync_rules.specs.declared.entries.Entry.{Entry}
use Rattle.sync_rules.specs.declared.entries.Entry.TheVariants as entry
use Rattle.sync_rules.specs.Facts.{Facts, Held, Id, held_at}
use Rattle.sync_rules.specs.Steps.{is_beside, is_elsewhere, step_accepted, step_open}
use Rattle.journal_audit.specs.Answered.{is_refused}
use Rattle.journal_audit.specs.Rounding.{is_bad_by, is_good_by, is_marked}
use Rattle.journal_audit.specs.Sleeping.{deps_in}

pub good_parts : (held : List Held) (marks : List Bool) (group : Id) (answer : Judgement)
    → (not (is_refused answer) && list_all (λ d. is_beside group (held_at held d) && is_marked held marks d) (deps_in answer)) ≡ is_good_by held marks group answer
good_parts held marks group judgement.Refuse = refl
good_parts held marks group (judgement.Accept deps share) = refl

pub bad_parts : (held : List Held) (marks : List Bool) (group : Id) (answer : Judgement)
    → (is_refused answer || list_any (λ d. is_elsewhere group (held_at held d) || is_marked held marks d) (deps_in answer)) ≡ is_bad_by held marks group answer
bad_parts held marks group judgement.Refuse = refl
bad_parts held marks group (judgement.Accept deps share) = refl

pub step_refused : (f : Facts) (h : Held) (answer : Judgement) → is_refused answer ≡ true → Some (entry.Invalid h.id) ≡ step_open f h answer
step_refused f h judgement.Refuse is = refl
step_refused f h (judgement.Accept deps share) is = absurd (false≢true is)

pub step_by_deps : (f : Facts) (h : Held) (answer : Judgement) → is_refused answer ≡ false → step_accepted f h (deps_in answer) ≡ step_open f h answer
step_by_deps f h judgement.Refuse is = absurd (false≢true (sym is))
step_by_deps f h (judgement.Accept deps share) is = refl
