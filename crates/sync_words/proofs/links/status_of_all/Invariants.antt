use Rattle.std.proofs.Common.{◌≡◌, drop}
use Rattle.sync_words.specs.Outcomes.{ends_status}
use Rattle.sync_words.proofs.links.status_of_all.Given as goal

abbrev pub invariant-loop-end : goal.invariant-loop-end
invariant-loop-end l = ends_status l.over (drop l.end-index l.ends) ≡ ends_status l.over l.ends
