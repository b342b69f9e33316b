use Rattle.std.proofs.Common.{◌≡◌, ◌+◌, ◌≤◌, drop}
use Rattle.sync_node.specs.Node.{asked_among}
use Rattle.sync_node.proofs.aside.count_asked.Given as goal

abbrev pub invariant-links : goal.invariant-links
invariant-links l = record {
  sum : l.asked + asked_among (drop l.link-index l.links) ≡ asked_among l.links;
  few : l.asked ≤ l.link-index;
}
