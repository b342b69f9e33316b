use Rattle.std.proofs.Common.{◌≡◌, ◌+◌, ◌-◌, ◌^◌, ◌≤◌, drop, min}
use Rattle.journal_compaction.specs.Paging.{items_len}
use Rattle.journal_compaction.proofs.paging.items_len.Given as goal

-- with what the other items add it is the length of all
abbrev pub invariant-items : goal.invariant-items
invariant-items l = record {
  few : l.len ≤ 2 ^ 64 - 1;
  whole : min (l.len + items_len l.state.facts l.most l.left (drop l.item-index l.items))
      (2 ^ 64 - 1)
      ≡ min (items_len l.state.facts l.most 0 l.items) (2 ^ 64 - 1);
}
