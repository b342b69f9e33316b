-- Whether the files of a store are touched at all, and how a command stands to a node.
use Rattle.std.specs.Prelude.{Bool, true, false, if◌then◌else◌}
use Rattle.commands.specs.Writing.{may_write, uses_store}
use Rattle.commands.specs.declared.command.Command.{Command}
use Rattle.commands.specs.declared.command.Command.TheVariants as command
use Rattle.outside_real.specs.declared.need.Need.{Need}
use Rattle.outside_real.specs.declared.need.Need.TheVariants as need
use Rattle.node_program.specs.declared.beside.Beside.{Beside}
use Rattle.node_program.specs.declared.beside.Beside.TheVariants as beside

abbrev pub touches : Need → Bool
touches need.Nothing = false
touches _ = true

-- A node that holds the store does each command that uses it, and ends where that is asked; but a
-- listing may also be done without it, and what wants the store for as long as it runs is not done.
abbrev pub beside_of : Command → Beside
beside_of command.Quit = beside.Done
beside_of command.Serve = beside.Held
beside_of (command.Sync turns quiet links) = beside.Held
beside_of asked =
    if uses_store asked then (if may_write asked then beside.Done else beside.Listed) else beside.Apart
