use Rattle.std.proofs.Common.{◌<◌, drop, length, arith}
use Rattle.std.proofs.lemmas.List.{length-drop}
use Rattle.std.specs.String.{string_bytes}
use Rattle.sync_rules.specs.Facts.{held_at}
use Rattle.store_commands.specs.Shown.{delivered_line}
use Rattle.store_commands.proofs.Lines.{item_behind, more_lines}
use Rattle.store_commands.proofs.listing.add_inbox_from.Goals as goal

pub delivered-preserved : goal.delivered-preserved
delivered-preserved c =
    let f = c.args.store.now.state.facts in
    let part = drop c.args.from f.delivered in
    let within : c.delivered.k < length part =
    omega (
      arith,
      c.delivered-test.true,
      c.min-shown.ensures,
      c.saturating_sub.ensures,
      c.delivered-2.ensures,
      length-drop c.args.from f.delivered,
    ) in
    more_lines (λ id. delivered_line (held_at f.held id)) part c.delivered.k
    (string_bytes c.args.to.now) _ _ within c.delivered.invariant
    (λ id e. c.in_ok-add_delivered.ensures id
    (item_behind f.delivered c.args.from c.delivered.k id e))
