use Rattle.std.proofs.Common.{◌≡◌, ◌++◌}
use Rattle.std.specs.String.{string_bytes}
use Rattle.store_commands.specs.Shown.{levels_below}
use Rattle.store_commands.proofs.listing.add_levels.Given as goal

abbrev pub invariant-contacts : goal.invariant-contacts
invariant-contacts l =
    string_bytes l.to ≡ string_bytes l.initial.to ++ levels_below l.store.state.facts l.contact
