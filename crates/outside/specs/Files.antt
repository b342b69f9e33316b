-- Two files with what is pending in them, and what a crash may leave of them.
use Rattle.std.specs.Prelude.{◌≡◌, ℕ, zero, suc, ◌+◌, ◌<◌, ◌≤◌, Bool, false, ◌&&◌, nat_lt, nat_le, List, [], length, slice_index}
use Rattle.std.specs.List.{list_any}

-- one for each of the two files
pub record Two (A : Type 0) : Type 0 where
  pub first : A
  pub second : A

abbrev pub file_of : {A : Type 0} → Two A → ℕ → A
file_of two zero = two.first
file_of two (suc _) = two.second

abbrev pub with_file : {A : Type 0} → Two A → ℕ → A → Two A
with_file two zero a = record { first = a; second = two.second }
with_file two (suc _) a = record { first = two.first; second = a }

-- a file: its bytes as a read gives them, its bytes at its last successful sync, and since that sync the
-- ranges that were written, each by its first place and its length, and the least and the greatest length
pub record File : Type 0 where
  pub now : List ℕ
  pub synced : List ℕ
  pub written : List (ℕ × ℕ)
  pub least : ℕ
  pub greatest : ℕ

-- a file in which nothing is pending
abbrev pub settled : List ℕ → File
settled bytes = record { now = bytes; synced = bytes; written = []; least = length bytes; greatest = length bytes }

-- a place is in a range, or in some range of a list
abbrev pub is_within : ℕ × ℕ → ℕ → Bool
is_within range place = nat_le range.0 place && nat_lt place (range.0 + range.1)

abbrev pub is_written : List (ℕ × ℕ) → ℕ → Bool
is_written ranges place = list_any (λ range. is_within range place) ranges

-- What a crash may leave of a file: the length is any from the least to the greatest; the places below the
-- least length that were not written are as at the last sync; all other places hold anything.
pub record IsFileImage (file : File) (bytes : List ℕ) : Type 0 where
  pub no_shorter : file.least ≤ length bytes
  pub no_longer : length bytes ≤ file.greatest
  pub kept : (place : ℕ) → place < file.least → is_written file.written place ≡ false → slice_index bytes place ≡ slice_index file.synced place

-- what a crash may leave of both
pub record IsImage (files : Two File) (left : Two (List ℕ)) : Type 0 where
  pub first : IsFileImage files.first left.first
  pub second : IsFileImage files.second left.second

-- both files as a read gives them
abbrev pub read_files : Two File → Two (List ℕ)
read_files files = record { first = files.first.now; second = files.second.now }

-- both files read as before
abbrev pub ReadsSame : Two File → Two File → Type 0
ReadsSame old new = read_files new ≡ read_files old

-- nothing is pending in this file
abbrev pub NothingPending : Two File → ℕ → Type 0
NothingPending files file = file_of files file ≡ settled (file_of files file).now

-- both files read as before, with nothing pending in them
abbrev pub SyncsBoth : Two File → Two File → Type 0
SyncsBoth old new = new ≡ record { first = settled old.first.now; second = settled old.second.now }
