use Rattle.std.proofs.Common.{◌≡◌, ◌++◌, take}
use Rattle.std.specs.List.{flat_map}
use Rattle.std.specs.String.{string_bytes}
use Rattle.store_commands.specs.Shown.{group_level}
use Rattle.store_commands.proofs.listing.add_contact_levels.Given as goal

abbrev pub invariant-groups : goal.invariant-groups
invariant-groups l =
    string_bytes l.to ≡ string_bytes l.initial.to
    ++ flat_map (group_level l.store.state.facts l.contact)
    (take l.n l.store.state.facts.groups)
