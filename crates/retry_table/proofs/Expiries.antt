-- Where a row's expiry keeps its number above a bound.
use Rattle.std.proofs.Common.{◌≡◌, ℕ, ◌-◌, ◌^◌, Bool, true, false, not, cond, ◌&&◌, nat_eq, nat_le, None, Some, refl}
use Rattle.due_tree.specs.Due.{is_due}
use Rattle.retry_table.specs.declared.blocks.Times.TheVariants as times
use Rattle.retry_table.specs.Due.{may_be_sent}
use Rattle.retry_table.specs.Queues.{is_timely}
use Rattle.retry_table.specs.Table.{KeptRow}

above : (there : Bool) (number bound : ℕ) → nat_le number bound ≡ false → is_due bound (cond there (Some number) None) ≡ false
above true number bound h = h
above false number bound h = refl

pub not_to_send : (bound : ℕ) (kept : KeptRow) → nat_le kept.row.expiry bound ≡ false → is_timely times.ToSend bound kept ≡ false
not_to_send bound kept h = above (may_be_sent kept) kept.row.expiry bound h

pub not_to_offer : (bound : ℕ) (kept : KeptRow) → nat_le kept.row.expiry bound ≡ false → is_timely times.ToOffer bound kept ≡ false
not_to_offer bound kept h = above (may_be_sent kept && not kept.row.asked) kept.row.expiry bound h

pub not_sooner : (tries bound : ℕ) (kept : KeptRow) → nat_le (2 ^ 64 - 1 - kept.row.expiry) bound ≡ false → is_timely (times.Sooner tries) bound kept ≡ false
not_sooner tries bound kept h =
    above (may_be_sent kept && (not kept.row.asked && nat_eq kept.row.tries tries)) (2 ^ 64 - 1 - kept.row.expiry) bound h
