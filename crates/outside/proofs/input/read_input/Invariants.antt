use Rattle.std.proofs.Common.{◌+◌, ◌-◌, ◌≤◌, ◌<◌, ◌^◌, ◌≡◌, vec_len}
use Rattle.outside.specs.Input.{ReadsPart}
use Rattle.outside.proofs.input.read_input.Given as goal

abbrev pub invariant-pieces : goal.invariant-pieces
invariant-pieces g l =
    ReadsPart l.most (g.S.Source.tells l.initial.input).bytes (g.S.Source.tells l.input).bytes l.to.items
    × ((g.S.Source.tells l.initial.input).faults ≤ (g.S.Source.tells l.input).faults)
    × (l.most ≡ l.fn.limit)
    × (l.fn.limit < 2 ^ 32)

abbrev pub decreases-pieces : goal.decreases-pieces
decreases-pieces g l = l.most + 1 - vec_len l.to
