use Rattle.std.proofs.Common.{arith}
use Rattle.std.specs.String.{string_bytes}
use Rattle.store_commands.specs.Shown.{group_level}
use Rattle.store_commands.proofs.Lines.{more_lines}
use Rattle.store_commands.proofs.listing.add_contact_levels.Goals as goal

pub groups-preserved : goal.groups-preserved
groups-preserved c =
    more_lines (group_level c.args.store.now.state.facts c.args.contact)
    c.args.store.now.state.facts.groups c.groups.n (string_bytes c.args.to.now) _ _
    (omega arith) c.groups.invariant c.in_ok-add_level.ensures
