-- The count so far and what is left give what the whole gives.
use Rattle.std.proofs.Common.{◌≡◌, ◌+◌, ◌≤◌, drop, length}
use Rattle.plain_rules.specs.Wants.{wanted_in}
use Rattle.plain_rules.proofs.wants.count_wanted.Given as goal

abbrev pub invariant-loop-line : goal.invariant-loop-line
invariant-loop-line l = record {
  whole : l.count + length (wanted_in l.contact (drop l.line-index l.lines)) ≡ length (wanted_in l.contact l.lines);
  within : l.count ≤ l.line-index;
}
