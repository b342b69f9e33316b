use Rattle.std.proofs.Common.{List, subst}
use Rattle.sync_rules.specs.declared.entries.Entry.{Entry}
use Rattle.journal_compaction.specs.Items.{AreItems, is_told}
use Rattle.journal_compaction.proofs.plan.Plan.of.Goals as goal

pub returns : goal.returns
returns c clients same =
    let f = c.args.state.now.facts in
    record {
      head = c.in_ok-head.ensures;
      told = subst (λ (es : List Entry). AreItems f is_told c.in_ok-told.told.items es) same
          (c.in_ok-told.ensures f c.requires);
      peers = c.in_ok-peers.ensures;
    }
