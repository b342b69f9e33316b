use Rattle.store_commands.proofs.Loads.{rests_failed, rests_settled}
use Rattle.store_commands.proofs.load.load_store.Goals as goal

pub returns-in-Ok-clause-rests : goal.returns-in-Ok-clause-rests
returns-in-Ok-clause-rests g c =
    λ two told. rests_settled _ _ two c.in-Ok.ensures.any_moment c.in-Ok.ensures.settled told

pub returns-in-Err-Memory-clause-rests : goal.returns-in-Err-Memory-clause-rests
returns-in-Err-Memory-clause-rests g c =
    λ two told. rests_settled _ _ two c.in-Err-Memory.ensures.any_moment
    (rw c.in-Err-Memory.field-0-is at c.in-Err-Memory.ensures.settled) told

pub returns-in-Err-NoStore-clause-rests : goal.returns-in-Err-NoStore-clause-rests
returns-in-Err-NoStore-clause-rests g c =
    λ two told. rests_settled _ _ two c.in-Err-NoStore.ensures.any_moment
    (rw c.in-Err-NoStore.field-0-is at c.in-Err-NoStore.ensures.settled) told

pub returns-in-Err-Damaged-clause-rests : goal.returns-in-Err-Damaged-clause-rests
returns-in-Err-Damaged-clause-rests g c =
    λ two told. rests_settled _ _ two c.in-Err-Damaged.ensures.any_moment
    (rw c.in-Err-Damaged.field-0-is at c.in-Err-Damaged.ensures.settled) told

pub returns-in-Err-DiskFault-clause-rests : goal.returns-in-Err-DiskFault-clause-rests
returns-in-Err-DiskFault-clause-rests g c =
    λ two told. rests_failed _ _ two c.in-Err-DiskFault.ensures.any_moment told
