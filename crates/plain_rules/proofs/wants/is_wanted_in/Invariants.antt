-- What is left gives what the whole gives.
use Rattle.std.proofs.Common.{◌≡◌, drop}
use Rattle.sync_rules.specs.Lists.{is_among}
use Rattle.plain_rules.specs.Wants.{wanted_in}
use Rattle.plain_rules.proofs.wants.is_wanted_in.Given as goal

abbrev pub invariant-loop-line : goal.invariant-loop-line
invariant-loop-line l = is_among (wanted_in l.contact (drop l.line-index l.lines)) l.id ≡ is_among (wanted_in l.contact l.lines) l.id
