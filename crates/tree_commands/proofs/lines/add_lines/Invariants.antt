use Rattle.std.proofs.Common.{◌≡◌, ◌++◌, map, take}
use Rattle.std.specs.List.{flat_map}
use Rattle.std.specs.String.{string_bytes}
use Rattle.journal_state.specs.Whole.{id_at}
use Rattle.tree_commands.specs.Trees.{walk_line}
use Rattle.tree_commands.proofs.lines.add_lines.Given as goal

abbrev pub invariant-items : goal.invariant-items
invariant-items l =
    string_bytes l.to
    ≡ string_bytes l.initial.to
    ++ flat_map
    (walk_line (map (id_at l.store.state.facts.held) l.thread.numbers) l.thread.parents)
    (take l.i l.items)
