-- The place among what is left, counted from the place so far, is the place in the whole.
use Rattle.std.proofs.Common.{◌≡◌, ◌+◌, drop}
use Rattle.std.specs.Option.{option_map}
use Rattle.plain_rules.specs.Lines.{line_place}
use Rattle.plain_rules.proofs.lines.place_in.Given as goal

abbrev pub invariant-loop-n : goal.invariant-loop-n
invariant-loop-n l = option_map (λ k. l.n + k) (line_place (drop l.n l.lines) l.id) ≡ line_place l.lines l.id
