-- Each turn of the loop puts one next step into the batch.
use Rattle.std.proofs.Common.{◌≡◌, ◌+◌, List, Some, sym, ◌∙◌, ap, subst}
use Rattle.sync_rules.specs.declared.entries.Entry.{Entry}
use Rattle.sync_rules.specs.Facts.{facts}
use Rattle.plain_rules.specs.Settling.{AddsSettling}
use Rattle.sync_rules.specs.Steps.{next}
use Rattle.plain_rules.proofs.Filling.{adds_more}
use Rattle.plain_rules.proofs.settling.settle_batch.Goals as goal

pub loop-count-preserved : goal.loop-count-preserved
loop-count-preserved g c =
    let clients = g.C.Clients.meaning c.args.clients.now in
    let j : List (List Entry) = c.loop-count.j.items in
    let e : Entry = c.in-Some.step in
    let n : next clients (facts j) ≡ Some e =
    ap (λ (x : List (List Entry)). next clients (facts x)) (sym c.as_slice.ensures.value) ∙ (sym c.in_ok-step.ensures ∙ c.in-Some.is) in
    subst (AddsSettling clients (c.loop-count.count + 1) c.args.j.now.items) (sym c.in_ok-push_to_last.ensures.ok)
    (adds_more clients c.loop-count.count c.args.j.now.items j e c.loop-count.invariant n)
