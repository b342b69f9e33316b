use Rattle.std.proofs.Common.{arith}
use Rattle.std.specs.Prelude.{replicate}
use Rattle.sharing_commands.proofs.Own.{one_more}
use Rattle.sharing_commands.proofs.previous.previous_own.Goals as goal

pub delivered-preserved : goal.delivered-preserved
delivered-preserved c =
    one_more c.args.store.now.state.facts c.args.group.now (replicate 32 0) c.delivered.k _ _
    (omega arith) c.delivered.invariant c.own_or-last.ensures
