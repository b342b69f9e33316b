use Rattle.std.proofs.Common.{◌≡◌, List, [], ◌∷◌, ◌++◌, Some, sym, ap, ◌∙◌, subst, arith}
use Rattle.std.proofs.lemmas.Grind.{common_steps}
use Rattle.sync_rules.specs.declared.entries.Entry.{Entry}
use Rattle.sync_rules.specs.Facts.{Facts, after, after_all}
use Rattle.sync_rules.specs.Legal.{IsSettling}
use Rattle.sync_rules.specs.Steps.{next}
use Rattle.journal_state.specs.Stepping.{stepped}
use Rattle.sync_store.proofs.Steps.{after_push, settling-push}
use Rattle.sync_store.proofs.settling.fill.Goals as goal

pub steps-preserved : goal.steps-preserved
steps-preserved g c =
    let clients = g.C.Clients.meaning c.args.clients.now in
    let f = c.args.state.now.facts in
    let es = c.steps.entries.items in
    let e = c.in-Some.entry in
    let pushed : c.push.new.self.items ≡ es ++ e ∷ [] = grind (arith, common_steps) in
    let before = c.steps.invariant.made in
    let nxt : next clients (after_all f es) ≡ Some e =
    ap (λ (x : Facts). next clients x) (sym before) ∙ sym c.in_ok-entry.ensures.step
    ∙ c.in-Some.is in
    let made : c.step.new.self.facts ≡ after (after_all f es) e = c.in_ok-entry.ensures.facts
    ∙ ap (stepped c.steps.state.facts) c.in-Some.is ∙ ap (λ (x : Facts). after x e) before in
    record {
      settling = subst (λ (xs : List Entry). IsSettling clients f xs) (sym pushed)
          (settling-push clients f es e c.steps.invariant.settling nxt);
      made = made ∙ sym (after_push f es e) ∙ ap (λ (xs : List Entry). after_all f xs) (sym pushed);
      knows = c.step.ensures.knows;
      count = grind (arith, common_steps);
      capacity = omega (arith, c.push.ensures.capacity);
    }
