-- How many batches wait, and whether one more may.
use Rattle.std.specs.Prelude.{ℕ, zero, suc, ◌+◌, ◌==◌, ◌&&◌, Bool, cond, nat_le, nat_lt, List}
use Rattle.std.specs.Prelude.{length, drop, slice_index}
use Rattle.frame_journal.specs.declared.group.TheConstants.{MAX_GROUP}
use Rattle.outside.specs.declared.limits.TheConstants.{MAX_FRAME}
use Rattle.outside.specs.Frames.{size_at}
use Rattle.sync_store.specs.declared.waiting.TheConstants.{MAX_WAITING}

-- so many frames follow each other, up to a closed gate; the first number bounds them
unfoldable pub frames_from : ℕ → List ℕ → ℕ
frames_from zero bytes = 0
frames_from (suc bound) bytes =
    cond (slice_index bytes 0 == 1)
    (suc (frames_from bound (drop (5 + size_at bytes 0) bytes))) 0

-- how many frames wait: each is of a batch
unfoldable pub frames_in : List ℕ → ℕ
frames_in bytes = frames_from (length bytes) bytes

-- One batch more may wait behind so many bytes of so many batches: the longest frame finds room, and
-- they are fewer than may wait.
abbrev pub has_place : ℕ → ℕ → Bool
has_place waiting batches =
    nat_lt batches MAX_WAITING && nat_le (waiting + (MAX_FRAME + 5)) MAX_GROUP
