-- What each call on a disk does to the two files.
use Rattle.std.specs.Prelude.{◌≡◌, ◌⊎◌, ℕ, ◌+◌, ◌-◌, ◌≤◌, min, max, List, [], ◌∷◌, ◌++◌, length, take, drop, Option, None, Some, Result, Ok, Err}
use Rattle.outside.specs.declared.failed.Failed.{Failed}
use Rattle.outside.specs.Files.{Two, File, file_of, with_file, settled}

-- told before and after and so related, or not told before and after
abbrev pub RelatesTold : {A : Type 0} → (A → A → Type 0) → Option A → Option A → Type 0
RelatesTold step None None = Unit {0}
RelatesTold step None (Some new) = ⊥
RelatesTold step (Some old) None = ⊥
RelatesTold step (Some old) (Some new) = step old new

-- a read of n bytes into a buffer: as many as there are, or as it has room for
pub record ReadsBytes (bytes : List ℕ) (at : ℕ) (buf : List ℕ) (n : ℕ) : Type 0 where
  pub count : n ≡ min (length buf) (length bytes - at)
  pub given : take n buf ≡ take n (drop at bytes)

-- these bytes over the bytes from a place on
abbrev pub overwritten : List ℕ → ℕ → List ℕ → List ℕ
overwritten old at bytes = take at old ++ bytes ++ drop (at + length bytes) old

-- what may be read after a failed write of n bytes: anything in its range, and the rest as before
pub record IsTorn (at n : ℕ) (old new : List ℕ) : Type 0 where
  pub before : take at new ≡ take at old
  pub behind : drop (at + n) new ≡ drop (at + n) old
  pub no_shorter : length old ≤ length new
  pub no_longer : length new ≤ max (length old) (at + n)

-- a file after a write of n bytes that reads so: the range is pending, and the length that it reaches counts
abbrev pub after_write : File → ℕ → ℕ → List ℕ → File
after_write file at n bytes = record file {
  now = bytes;
  written = file.written ++ (at, n) ∷ [];
  greatest = max file.greatest (at + n);
}

-- a file after a cut to n that reads so: the new length counts
abbrev pub after_cut : File → ℕ → List ℕ → File
after_cut file n bytes = record file { now = bytes; least = min file.least n }

-- A failed write may have reached any part of its range, or no part of the disk has heard of it.
abbrev pub WritesFile : ℕ → ℕ → List ℕ → Result (Unit {0}) Failed → Two File → Two File → Type 0
WritesFile file at bytes (Ok _) old new =
    let f = file_of old file in
    new ≡ with_file old file (after_write f at (length bytes) (overwritten f.now at bytes))
WritesFile file at bytes (Err _) old new =
    let f = file_of old file in
    (new ≡ old)
    ⊎ ((torn : List ℕ) × IsTorn at (length bytes) f.now torn × (new ≡ with_file old file (after_write f at (length bytes) torn)))

-- A failed cut may have been made or not, and its length counts, or no part of the disk has heard of it.
abbrev pub CutsFile : ℕ → ℕ → Result (Unit {0}) Failed → Two File → Two File → Type 0
CutsFile file n (Ok _) old new = let f = file_of old file in new ≡ with_file old file (after_cut f n (take n f.now))
CutsFile file n (Err _) old new =
    let f = file_of old file in
    (new ≡ old) ⊎ (new ≡ with_file old file (after_cut f n (take n f.now))) ⊎ (new ≡ with_file old file (after_cut f n f.now))

-- After a sync nothing is pending in the file; a failed one changes nothing.
abbrev pub SyncsFile : ℕ → Result (Unit {0}) Failed → Two File → Two File → Type 0
SyncsFile file (Ok _) old new = new ≡ with_file old file (settled (file_of old file).now)
SyncsFile file (Err _) old new = new ≡ old
