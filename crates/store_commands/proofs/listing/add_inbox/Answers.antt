use Rattle.std.proofs.Common.{arith}
use Rattle.std.specs.String.{string_bytes}
use Rattle.sync_rules.specs.Facts.{held_at}
use Rattle.store_commands.specs.Shown.{delivered_line}
use Rattle.store_commands.proofs.Lines.{more_lines}
use Rattle.store_commands.proofs.listing.add_inbox.Goals as goal

pub delivered-preserved : goal.delivered-preserved
delivered-preserved c =
    more_lines (λ id. delivered_line (held_at c.args.store.now.state.facts.held id))
    c.args.store.now.state.facts.delivered c.delivered.k (string_bytes c.args.to.now) _ _
    (omega arith) c.delivered.invariant c.in_ok-add_delivered.ensures
