-- So many of the groups are copied.
use Rattle.std.proofs.Common.{◌≡◌, take}
use Rattle.visibility_table.specs.Table.{empty_table}
use Rattle.visibility_table.proofs.levels.Levels.groups_alone.Given as goal

abbrev pub invariant-loop-n : goal.invariant-loop-n
invariant-loop-n l = l.table ≡ record empty_table { groups = take l.n l.self.groups }
