use Rattle.std.proofs.Common.{refl}
use Rattle.sync_words.specs.Outcomes.{came_to}
use Rattle.store_commands.proofs.Begins.{begun_exists, begun_failed, begun_ready}
use Rattle.store_commands.proofs.init.make_store.Goals as goal

pub returns-in-Ok : goal.returns-in-Ok
returns-in-Ok g c =
    begun_ready _ _ _ _ (came_to c.print_ready.result) c.in-Ok.ensures.run c.in-Ok.ensures.answer
    c.in-Ok.ensures.begun c.in-Ok.ensures.any_moment
    c.print_ready.ensures

pub returns-in-Err-Exists : goal.returns-in-Err-Exists
returns-in-Err-Exists g c =
    begun_exists _ _ _ _ c.in-Err-Exists.ensures.run
    (rw c.in-Err-Exists.field-0-is at c.in-Err-Exists.ensures.answer)
    ((rw c.in-Err-Exists.field-0-is at c.in-Err-Exists.ensures.kept) refl)
    c.in-Err-Exists.ensures.any_moment
    (record { same = refl; same_faults = refl })

pub returns-in-Err-DiskFault : goal.returns-in-Err-DiskFault
returns-in-Err-DiskFault g c =
    begun_failed _ _ _ _ c.in-Err-DiskFault.ensures.run
    ((rw c.in-Err-DiskFault.field-0-is at c.in-Err-DiskFault.ensures.fault) refl)
    c.in-Err-DiskFault.ensures.any_moment
    (record { same = refl; same_faults = refl })
