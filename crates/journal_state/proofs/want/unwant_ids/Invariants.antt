use Rattle.std.proofs.Common.{take}
use Rattle.sync_rules.specs.Facts.{without_each}
use Rattle.retry_table.specs.Table as retry
use Rattle.journal_state.proofs.want.unwant_ids.Given as goal

abbrev pub invariant-loop-id : goal.invariant-loop-id
invariant-loop-id l =
    retry.ChangesWants l.initial.retry l.retry l.contact (record (retry.wants_of l.initial.retry l.contact) { ids = without_each (take l.id-index l.ids) (retry.wants_of l.initial.retry l.contact).ids })
