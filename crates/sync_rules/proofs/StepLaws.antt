-- What the step of a message tells, and what the next step of a journal tells.
use Rattle.std.proofs.Common.{◌≡◌, Bool, true, false, cond, ◌⊎◌, List, [], ◌∷◌, refl, ◌∙◌, ap, subst, inl, inr, Option, Some, None}
use Rattle.std.specs.Option.{option_or}
use Rattle.std.specs.List.{list_any, list_all}
use Rattle.std.specs.FinSet as fin_set
use Rattle.sync_rules.specs.declared.answers.Judgement.{Judgement}
use Rattle.sync_rules.specs.declared.answers.Judgement.TheVariants as judgement
use Rattle.sync_rules.specs.declared.entries.Entry.{Entry}
use Rattle.sync_rules.specs.declared.entries.Entry.TheVariants as entry
use Rattle.sync_rules.specs.Clients.{Meaning}
use Rattle.sync_rules.specs.Facts.{Facts, Held, Id}
use Rattle.sync_rules.specs.Steps.{verdict_in, is_failing, is_served, is_ended, step, step_by}
use Rattle.sync_rules.specs.Steps.{step_open, step_accepted, first_step, next}
use Rattle.sync_rules.specs.Lists.{In}
use Rattle.sync_rules.specs.EntryTests.{IsSettlingEntry, IsSettlingEntry}

-- a message that is to be judged
pub record Judges (f : Facts) (h : Held) (id : Id) : Type 0 where
  pub same : id ≡ h.id
  pub unjudged : fin_set.contains f.judged h.id ≡ false

-- a message that is judged and has no end
pub record IsOpen (f : Facts) (h : Held) : Type 0 where
  pub judged : fin_set.contains f.judged h.id ≡ true
  pub no_end : is_ended f h.id ≡ false

-- a message whose client accepts it with these dependencies
pub record Accepts (clients : Meaning) (f : Facts) (h : Held) : Type 0 where
  pub deps : List Id
  pub share : Bool
  pub verdict : verdict_in clients f.groups h.message ≡ judgement.Accept deps share

-- a message that is to be delivered
pub record Delivers (clients : Meaning) (f : Facts) (h : Held) (id : Id) : Type 0 where
  pub same : id ≡ h.id
  pub still_open : IsOpen f h
  pub accepted : Accepts clients f h
  pub served : list_all (is_served f h.message.group) accepted.deps ≡ true

-- a message that is accepted and of which a dependency fails
pub record Fails (clients : Meaning) (f : Facts) (h : Held) : Type 0 where
  pub accepted : Accepts clients f h
  pub failing : list_any (is_failing f h.message.group) accepted.deps ≡ true

-- a message that is to be invalid
pub record Invalidates (clients : Meaning) (f : Facts) (h : Held) (id : Id) : Type 0 where
  pub same : id ≡ h.id
  pub still_open : IsOpen f h
  pub cause : (verdict_in clients f.groups h.message ≡ judgement.Refuse) ⊎ Fails clients f h

-- a message that waits for a dependency
pub record Waits (clients : Meaning) (f : Facts) (h : Held) : Type 0 where
  pub accepted : Accepts clients f h
  pub none_fails : list_any (is_failing f h.message.group) accepted.deps ≡ false
  pub not_served : list_all (is_served f h.message.group) accepted.deps ≡ false

-- a message to which nothing is open
pub record Rests (clients : Meaning) (f : Facts) (h : Held) : Type 0 where
  pub judged : fin_set.contains f.judged h.id ≡ true
  pub rest : (is_ended f h.id ≡ true) ⊎ Waits clients f h

abbrev pub Told : Meaning → Facts → Held → Option Entry → Type 0
Told clients f h None = Rests clients f h
Told clients f h (Some (entry.Judged id)) = Judges f h id
Told clients f h (Some (entry.Deliver id)) = Delivers clients f h id
Told clients f h (Some (entry.Invalid id)) = Invalidates clients f h id
Told clients f h (Some _) = ⊥

module _ (clients : Meaning) (f : Facts) (h : Held) where
  tells_accepted : (deps : List Id) (share : Bool) → verdict_in clients f.groups h.message ≡ judgement.Accept deps share → IsOpen f h
      → Told clients f h (step_accepted f h deps)
  tells_accepted deps share v o =
      elim (list_any (is_failing f h.message.group) deps) as (λ b. list_any (is_failing f h.message.group) deps ≡ b
      → Told clients f h (cond b (Some (entry.Invalid h.id)) (cond (list_all (is_served f h.message.group) deps) (Some (entry.Deliver h.id)) None))) [
        | true ↦ λ e. record {
          same = refl;
          still_open = o;
          cause = inr (record { accepted = record { deps = deps; share = share; verdict = v }; failing = e });
        }
        | false ↦ λ e.
            elim (list_all (is_served f h.message.group) deps) as (λ b. list_all (is_served f h.message.group) deps ≡ b
            → Told clients f h (cond b (Some (entry.Deliver h.id)) None)) [
              | true ↦ λ s. record { same = refl; still_open = o; accepted = record { deps = deps; share = share; verdict = v }; served = s }
              | false ↦ λ s. record {
                judged = o.judged;
                rest = inr (record { accepted = record { deps = deps; share = share; verdict = v }; none_fails = e; not_served = s });
              }
            ] refl
      ] refl

  tells_open : (v : Judgement) → verdict_in clients f.groups h.message ≡ v → IsOpen f h → Told clients f h (step_open f h v)
  tells_open judgement.Refuse e o = record { same = refl; still_open = o; cause = inl e }
  tells_open (judgement.Accept deps share) e o = tells_accepted deps share e o

  pub step_tells : Told clients f h (step clients f h)
  step_tells =
      elim (fin_set.contains f.judged h.id) as (λ b. fin_set.contains f.judged h.id ≡ b
      → Told clients f h (step_by f h (cond b (Some (verdict_in clients f.groups h.message)) None))) [
        | true ↦ λ j.
            elim (is_ended f h.id) as (λ b. is_ended f h.id ≡ b
            → Told clients f h (cond b None (step_open f h (verdict_in clients f.groups h.message)))) [
              | true ↦ λ e. record { judged = j; rest = inl e }
              | false ↦ λ e. tells_open (verdict_in clients f.groups h.message) refl (record { judged = j; no_end = e })
            ] refl
        | false ↦ λ j. record { same = refl; unjudged = j }
      ] refl

-- what a step that is known tells
pub told_some : (clients : Meaning) (f : Facts) (h : Held) (o : Option Entry) → step clients f h ≡ o → Told clients f h o
told_some clients f h o e = subst (Told clients f h) e (step_tells clients f h)

-- ---- the first step of a list

-- a held message that has this step
pub record HasStep (clients : Meaning) (f : Facts) (hs : List Held) (e : Entry) : Type 0 where
  pub of : Held
  pub inside : In of hs
  pub steps : step clients f of ≡ Some e

pub first_step_some : (clients : Meaning) (f : Facts) (hs : List Held) (e : Entry) → first_step clients f hs ≡ Some e → HasStep clients f hs e
first_step_some clients f [] e is = cc
first_step_some clients f (h ∷ hs) e is =
    elim (step clients f h) as (λ o. step clients f h ≡ o → option_or o (first_step clients f hs)
    ≡ Some e → HasStep clients f (h ∷ hs) e) [
      | None ↦ λ s t.
          let later = first_step_some clients f hs e t in
          record { of = later.of; inside = inr later.inside; steps = later.steps }
      | Some x ↦ λ s t. record { of = h; inside = inl refl; steps = s ∙ t }
    ] refl is

pub first_step_none : (clients : Meaning) (f : Facts) (hs : List Held) → first_step clients f hs ≡ None → (h : Held) → In h hs → step clients f h ≡ None
first_step_none clients f [] is h inside = absurd inside
first_step_none clients f (x ∷ hs) is h inside =
    elim (step clients f x) as (λ o. step clients f x ≡ o → option_or o (first_step clients f hs)
    ≡ None → step clients f h ≡ None) [
      | None ↦ λ s t.
          elim inside [
            | inl e ↦ ap (step clients f) e ∙ s
            | inr later ↦ first_step_none clients f hs t h later
          ]
      | Some y ↦ λ s t. cc
    ] refl is

told_settles : (clients : Meaning) (f : Facts) (h : Held) (e : Entry) → Told clients f h (Some e) → IsSettlingEntry e
told_settles clients f h (entry.Judged id) t = tt
told_settles clients f h (entry.Deliver id) t = tt
told_settles clients f h (entry.Invalid id) t = tt
told_settles clients f h _ t = t

-- a next step is an entry of settling
pub next_is_settling : (clients : Meaning) (f : Facts) (e : Entry) → next clients f ≡ Some e → IsSettlingEntry e
next_is_settling clients f e n =
    let s = first_step_some clients f f.held e n in
    told_settles clients f s.of e (told_some clients f s.of (Some e) s.steps)
