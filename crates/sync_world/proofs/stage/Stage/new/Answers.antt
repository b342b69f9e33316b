use Rattle.std.proofs.Common.{◌≡◌, ◌-◌, ◌+◌, ◌∷◌, [], None, length, length-append, ap, arith, sym}
use Rattle.std.proofs.Common.{subst, ◌∙◌}
use Rattle.std.specs.List.{AllByRecursion}
use Rattle.world_devices.specs.Linking.{IsNewDevice}
use Rattle.sync_world.proofs.WorldLaws.{all_one_more, begun_world}
use Rattle.sync_world.proofs.stage.Stage.new.Goals as goal

pub devices-preserved : goal.devices-preserved
devices-preserved c =
    let pushed = c.in_ok-push.ensures.items in
    record {
      counted = ap length pushed
          ∙ (length-append c.devices.all.items (c.in_ok-new.field-0 ∷ [])
          ∙ ap (λ n. n + 1) c.devices.invariant.counted);
      new = subst (λ xs. AllByRecursion (IsNewDevice (c.args.devices - 1) 1000) xs) (sym pushed)
          (all_one_more (c.args.devices - 1) 1000 c.devices.all.items c.in_ok-new.field-0
          c.devices.invariant.new c.in_ok-new.ensures);
    }

pub returns-clause-world : goal.returns-clause-world
returns-clause-world c =
    let none : c.new-2.result.items ≡ [] = search in
    begun_world (c.args.devices - 1) 1000 (record {
      alloc = c.args.alloc;
      devices = c.devices.all;
      links = c.new-2.result;
      groups = c.new-3.result;
      posts = c.new-4.result;
      fault = None;
    }) c.devices.invariant.new none (omega arith)
