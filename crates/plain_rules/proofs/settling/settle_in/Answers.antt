-- Each turn of the loop appends one settling batch.
use Rattle.std.proofs.Common.{List, sym, ◌∙◌, ap}
use Rattle.sync_rules.specs.declared.entries.Entry.{Entry}
use Rattle.sync_rules.specs.Facts.{facts}
use Rattle.sync_rules.specs.Steps.{next}
use Rattle.sync_rules.proofs.WorkLaws.{settles_then, settles_legal}
use Rattle.plain_rules.proofs.Filling.{fewer_left}
use Rattle.plain_rules.proofs.settling.settle_in.Goals as goal

pub returns-in_err-step-clause-legal : goal.returns-in_err-step-clause-legal
returns-in_err-step-clause-legal g c =
    settles_legal (g.C.Clients.meaning c.args.clients.now) c.args.j.now.items c.steps.j.items c.steps.invariant

pub returns-clause-legal : goal.returns-clause-legal
returns-clause-legal g c =
    settles_legal (g.C.Clients.meaning c.args.clients.now) c.args.j.now.items c.steps.j.items c.steps.invariant

pub settle_batch-requires : goal.settle_batch-requires
settle_batch-requires g c =
    ap (λ (x : List (List Entry)). next (g.C.Clients.meaning c.args.clients.now) (facts x)) (sym c.as_slice.ensures.value)
    ∙ (sym c.in_ok-step.ensures ∙ c.in-Some.is)

pub steps-preserved : goal.steps-preserved
steps-preserved g c =
    settles_then (g.C.Clients.meaning c.args.clients.now) c.args.j.now.items c.steps.j.items c.settle_batch.new.j.items
    c.steps.invariant c.in_ok-settle_batch.ensures.settles

pub returns-in_err-settle_batch-clause-settles : goal.returns-in_err-settle_batch-clause-settles
returns-in_err-settle_batch-clause-settles g c =
    settles_then (g.C.Clients.meaning c.args.clients.now) c.args.j.now.items c.steps.j.items c.settle_batch.new.j.items
    c.steps.invariant c.in_err-settle_batch.ensures.settles

pub returns-in_err-settle_batch-clause-legal : goal.returns-in_err-settle_batch-clause-legal
returns-in_err-settle_batch-clause-legal g c =
    settles_legal (g.C.Clients.meaning c.args.clients.now) c.args.j.now.items c.settle_batch.new.j.items
    (settles_then (g.C.Clients.meaning c.args.clients.now) c.args.j.now.items c.steps.j.items c.settle_batch.new.j.items
    c.steps.invariant c.in_err-settle_batch.ensures.settles)

pub steps-smaller : goal.steps-smaller
steps-smaller g c =
    fewer_left (g.C.Clients.meaning c.args.clients.now) 256 c.steps.j.items c.settle_batch.new.j.items c.in_ok-settle_batch.ensures.added
