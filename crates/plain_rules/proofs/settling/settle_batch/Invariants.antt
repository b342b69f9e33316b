-- One settling batch was added, of at most so many entries as were counted.
use Rattle.plain_rules.specs.Settling.{AddsSettling}
use Rattle.plain_rules.proofs.settling.settle_batch.Given as goal

abbrev pub invariant-loop-count : goal.invariant-loop-count
invariant-loop-count g l = AddsSettling (g.C.Clients.meaning l.clients) l.count l.fn.j.items l.j.items
