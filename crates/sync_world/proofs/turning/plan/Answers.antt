use Rattle.std.proofs.Common.{inr, sym, ◌∙◌}
use Rattle.sync_world.proofs.PlanLaws.{plans_at}
use Rattle.sync_world.proofs.turning.plan.Goals as goal

pub returns-in_ok-plan-in-Some-clause-planned : goal.returns-in_ok-plan-in-Some-clause-planned
returns-in_ok-plan-in-Some-clause-planned c =
    inr (plans_at c.in-Some.at c.args.device.now c.plan.new.self c.args.end.now c.hear.new.self
    c.in_ok-answer-in-Some.answer c.args.is_cut (sym c.at.ensures
    ∙ c.in-Some.is) c.in_ok-answer-in-Some.ensures
    c.in_ok-plan-in-Some.ensures.links c.hear.ensures.input c.hear.ensures.rest
    c.hear.ensures.within)
