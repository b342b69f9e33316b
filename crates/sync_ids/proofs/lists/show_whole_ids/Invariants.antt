use Rattle.std.proofs.Common.{take}
use Rattle.sync_ids.specs.Values.{AreIds}
use Rattle.sync_ids.proofs.lists.show_whole_ids.Given as goal

-- the ids so far have 32 bytes each
abbrev pub invariant-ids : goal.invariant-ids
invariant-ids l = AreIds (take l.id-index l.ids)
