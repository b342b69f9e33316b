use Rattle.std.proofs.Common.{◌≡◌, ◌++◌, take}
use Rattle.std.specs.List.{flat_map}
use Rattle.std.specs.String.{string_bytes}
use Rattle.store_commands.specs.Shown.{message_line}
use Rattle.store_commands.proofs.listing.add_messages.Given as goal

abbrev pub invariant-messages : goal.invariant-messages
invariant-messages l =
    string_bytes l.to ≡ string_bytes l.initial.to
    ++ flat_map (message_line l.store.state.facts) (take l.n l.store.state.facts.held)
