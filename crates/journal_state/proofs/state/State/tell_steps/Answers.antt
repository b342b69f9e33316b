use Rattle.std.proofs.Common.{◌≡◌, ◌+◌, ◌≤◌, Option, None, Some, IfSome, refl, sym, ap, subst, ◌∙◌, arith}
use Rattle.std.specs.Option.{option_map}
use Rattle.sync_rules.specs.declared.entries.Entry.{Entry}
use Rattle.sync_rules.specs.Clients.{Meaning}
use Rattle.sync_rules.specs.Left.{left_of}
use Rattle.sync_rules.specs.Steps.{next}
use Rattle.journal_state.specs.declared.account.Told.{Told}
use Rattle.journal_state.specs.Stepping.{stepped}
use Rattle.journal_state.specs.Telling.{told_entry}
use Rattle.journal_state.proofs.Telling.{telling_done, telling_more, telling_none}
use Rattle.journal_state.proofs.state.State.tell_steps.Goals as goal

pub steps-init : goal.steps-init
steps-init g c = record { telling = telling_none (g.C.Clients.meaning c.args.clients.now) c.args.self.now.facts c.args.told.now.items; knows = c.requires }

none_of : (o : Option Told) → ((x : Told) → o ≡ Some x → ⊥) → o ≡ None
none_of None none = refl
none_of (Some x) none = absurd (none x refl)

pub steps-preserved : goal.steps-preserved
steps-preserved g c =
    let clients : Meaning = g.C.Clients.meaning c.args.clients.now in
    let f = c.steps.self.facts in
    let is_next : Some (told_entry f.held c.in-Some.step) ≡ next clients f = c.in-Some.ensures.step clients c.steps.invariant.knows in
    record {
      telling =
          telling_more clients c.args.self.now.facts f c.step.new.self.facts c.args.told.now.items c.steps.told.items c.push.new.self.items c.in-Some.step c.steps.invariant.telling
          is_next c.in-Some.ensures.within (c.in_ok-step.ensures.facts ∙ ap (stepped f) (c.in_ok-step.ensures.step ∙ sym is_next)) c.in_ok-push.ensures.items;
      knows = c.step.ensures.knows;
    }

pub steps-smaller : goal.steps-smaller
steps-smaller g c =
    let clients : Meaning = g.C.Clients.meaning c.args.clients.now in
    let f = c.steps.self.facts in
    let is_next : Some (told_entry f.held c.in-Some.step) ≡ next clients f = c.in-Some.ensures.step clients c.steps.invariant.knows in
    let less : left_of c.step.new.self.facts + 1 ≤ left_of f =
    subst (λ (o : Option Entry). IfSome o (λ _. left_of c.step.new.self.facts + 1 ≤ left_of f)) (c.in_ok-step.ensures.step ∙ sym is_next) c.in_ok-step.ensures.left in
    omega (arith, less)

pub returns : goal.returns
returns g c =
    let clients : Meaning = g.C.Clients.meaning c.args.clients.now in
    let f = c.steps.self.facts in
    let none : c.next_told.result ≡ None = none_of c.next_told.result (λ x e. c.in_default.not-Some x e) in
    record {
      steps =
          telling_done clients c.args.self.now.facts f c.args.told.now.items c.steps.told.items c.steps.invariant.telling
          (sym (c.next_told.ensures.step clients c.steps.invariant.knows) ∙ ap (option_map (told_entry f.held)) none);
      knows = c.steps.invariant.knows;
    }
