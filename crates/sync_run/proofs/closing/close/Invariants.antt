use Rattle.std.proofs.Common.{◌≡◌, ◌++◌, drop, length, map}
use Rattle.sync_node.specs.declared.link.Link.{Link}
use Rattle.sync_run.proofs.closing.close.Given as goal

abbrev pub invariant-links : goal.invariant-links
invariant-links l = record {
  count : length l.ends.items ≡ l.link;
  ends : l.ends.items ++ map (λ (x : Link). x.end) (drop l.link l.node.links) ≡ map (λ (x : Link). x.end) l.node.links;
}
