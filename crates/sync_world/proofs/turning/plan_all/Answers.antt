use Rattle.std.proofs.Common.{◌<◌, length, refl, arith, ◌∙◌}
use Rattle.std.proofs.lemmas.Option.{slice_get-get_or}
use Rattle.std.specs.Prelude.{slice_index_or}
use Rattle.std.proofs.lemmas.List.{length-set}
use Rattle.sync_world.proofs.PlanLaws.{plan_on, plans_none, plans_then}
use Rattle.sync_world.proofs.TurningLaws.{front_all, front_next}
use Rattle.sync_world.proofs.turning.plan_all.Goals as goal

pub links-init : goal.links-init
links-init c = record {
  files = refl;
  number = refl;
  planned = plans_none c.args.number c.args.device.now c.args.links.now;
  exact = refl;
}

pub links-preserved : goal.links-preserved
links-preserved c =
    let within : c.links.i < length c.links.links = omega arith in
    record {
      files = c.plan_on.ensures.files ∙ c.links.invariant.files;
      number = length-set c.links.links c.links.i c.plan_on.new.link ∙ c.links.invariant.number;
      planned = plans_then c.args.number c.args.device.now c.links.device c.plan_on.new.device
          c.args.links.now c.links.links _ c.links.invariant.planned
          (plan_on c.args.number c.links.i c.links.device c.plan_on.new.device c.links.links
          (slice_index_or c.links.links c.links.i c.index-links-i.result) c.plan_on.new.link
          (slice_get-get_or c.links.links c.links.i c.index-links-i.result within)
          c.plan_on.ensures.files c.in_ok-plan_on.ensures.planned);
      exact = front_next c.links.i c.args.number c.args.device.now c.links.device
          c.plan_on.new.device c.args.links.now c.links.links
          (slice_index_or c.links.links c.links.i c.index-links-i.result) c.plan_on.new.link
          c.links.invariant.exact
          (slice_get-get_or c.links.links c.links.i c.index-links-i.result within)
          c.in_ok-plan_on.ensures.exact;
    }

pub returns-clause-exact : goal.returns-clause-exact
returns-clause-exact c =
    c.links.invariant.exact
    ∙ front_all c.links.i c.args.number c.args.device.now c.args.links.now
    (omega (arith, c.links.invariant.number))
