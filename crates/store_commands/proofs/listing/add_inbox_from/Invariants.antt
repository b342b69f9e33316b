use Rattle.std.proofs.Common.{◌≡◌, ◌++◌, take, drop}
use Rattle.std.specs.List.{flat_map}
use Rattle.std.specs.String.{string_bytes}
use Rattle.sync_rules.specs.Facts.{held_at}
use Rattle.store_commands.specs.Shown.{delivered_line}
use Rattle.store_commands.proofs.listing.add_inbox_from.Given as goal

abbrev pub invariant-delivered : goal.invariant-delivered
invariant-delivered l =
    string_bytes l.to
    ≡ string_bytes l.initial.to
    ++ flat_map (λ id. delivered_line (held_at l.store.state.facts.held id))
    (take l.k (drop l.from l.store.state.facts.delivered))
