-- The images that a disk in memory gives, and one of its files by itself.
use Rattle.std.specs.Prelude.{◌≡◌, ℕ, zero, suc, ◌<◌, min, Bool, true, false, not, ◌&&◌, nat_lt, if◌then◌else◌, List, [], ◌∷◌, length, take, slice_index}
use Rattle.outside.specs.declared.pick.Pick.{Pick}
use Rattle.outside.specs.declared.pick.Pick.TheVariants as pick
use Rattle.outside.specs.Files.{Two, File, is_written}
use Rattle.outside.specs.Disk.{overwritten, after_cut}
use Rattle.outside.specs.MemDisk.{Change, wrote, wrote_not, cut, cut_not, synced, dialled, sent}
use Rattle.outside.specs.MemDisk.{answered, hosted, KeptFile, kept, after_wrote, after_wrote_not}
use Rattle.outside.specs.MemDisk.{MemDiskValue, fresh_disk}

-- two numbers name one file
abbrev pub same_file : ℕ → ℕ → Bool
same_file zero zero = true
same_file zero (suc _) = false
same_file (suc _) zero = false
same_file (suc _) (suc _) = true

-- one file after a call
abbrev pub one_changed : ℕ → KeptFile → Change → KeptFile
one_changed file k (wrote other at bytes) = if same_file other file then after_wrote k at bytes else k
one_changed file k (wrote_not other at bytes) = if same_file other file then after_wrote_not k at bytes else k
one_changed file k (cut other n) = if same_file other file then (record { file = after_cut k.file n (take n k.file.now); whole = take n k.whole }) else k
one_changed file k (cut_not other n) = if same_file other file then (record { file = after_cut k.file n k.file.now; whole = take n k.whole }) else k
one_changed file k (synced other) = if same_file other file then kept k.file.now else k
one_changed file k (dialled _) = k
one_changed file k (sent _ _) = k
one_changed file k (answered _ _) = k
one_changed file k hosted = k

abbrev pub one_after : ℕ → KeptFile → List Change → KeptFile
one_after file k [] = k
one_after file k (c ∷ calls) = one_after file (one_changed file k c) calls

-- its bytes as they read
abbrev pub now_changed : ℕ → List ℕ → Change → List ℕ
now_changed file now (wrote other at bytes) = if same_file other file then overwritten now (min at (length now)) bytes else now
now_changed file now (wrote_not _ _ _) = now
now_changed file now (cut other n) = if same_file other file then take n now else now
now_changed file now (cut_not _ _) = now
now_changed file now (synced _) = now
now_changed file now (dialled _) = now
now_changed file now (sent _ _) = now
now_changed file now (answered _ _) = now
now_changed file now hosted = now

abbrev pub now_after : ℕ → List ℕ → List Change → List ℕ
now_after file now [] = now
now_after file now (c ∷ calls) = now_after file (now_changed file now c) calls

-- a sync of this file
abbrev pub is_sync_of : ℕ → Change → Bool
is_sync_of file (synced other) = same_file other file
is_sync_of file (wrote _ _ _) = false
is_sync_of file (wrote_not _ _ _) = false
is_sync_of file (cut _ _) = false
is_sync_of file (cut_not _ _) = false
is_sync_of file (dialled _) = false
is_sync_of file (sent _ _) = false
is_sync_of file (answered _ _) = false
is_sync_of file hosted = false

-- a place as it was at the last sync, or this byte where it is not synced
abbrev pub left_at : ℕ → File → ℕ → ℕ
left_at byte file place = if nat_lt place file.least && not (is_written file.written place) then slice_index file.synced place else byte

-- the greatest length, with this byte at each place that is not synced
pub record IsFilled (byte : ℕ) (file : File) (bytes : List ℕ) : Type 0 where
  pub longest : length bytes ≡ file.greatest
  pub each : (place : ℕ) → place < file.greatest → slice_index bytes place ≡ left_at byte file place

-- the image that was asked for
abbrev pub PickOf : Pick → KeptFile → List ℕ → Type 0
PickOf pick.Old k bytes = bytes ≡ k.file.synced
PickOf pick.New k bytes = bytes ≡ k.whole
PickOf pick.Zero k bytes = IsFilled 0 k.file bytes
PickOf pick.Ones k bytes = IsFilled 1 k.file bytes

-- a fresh disk with the image of both files that was asked for
pub record PicturesDisk (chosen : Pick) (two : Two KeptFile) (disk : MemDiskValue) : Type 0 where
  pub fresh : disk ≡ fresh_disk disk.start
  pub first : PickOf chosen two.first disk.start.first
  pub second : PickOf chosen two.second disk.start.second
