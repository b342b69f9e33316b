use Rattle.std.proofs.Common.{◌<◌, length, rules}
use Rattle.tree_commands.proofs.Gathers.{one_more}
use Rattle.tree_commands.proofs.gather.gather.Goals as goal

pub delivered-preserved : goal.delivered-preserved
delivered-preserved c =
    let f = c.args.store.now.state.facts in
    let within : c.delivered.k < length f.delivered = search rules in
    record {
      of = λ clients knows. one_more clients f c.args.group.now c.delivered.k c.delivered.thread
          c.add_delivered.new.thread within (c.delivered.invariant.of clients knows)
          (c.in_ok-add_delivered.ensures.added clients knows);
      few = c.in_ok-add_delivered.ensures.few;
      sized = c.in_ok-add_delivered.ensures.sized;
    }
