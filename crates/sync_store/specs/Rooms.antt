-- A run of a store's calls by one list of batches, each of which found its room.
use Rattle.std.specs.Prelude.{◌≡◌, ℕ, ◌+◌, ◌≤◌, false, List, [], ◌∷◌, ◌++◌, Some}
use Rattle.outside.specs.Files.{Two, File}
use Rattle.outside.specs.Outside.{Outside}
use Rattle.sync_rules.specs.declared.entries.Entry.{Entry}
use Rattle.sync_rules.specs.Allows.{is_settling_kind}
use Rattle.sync_rules.specs.Clients.{Meaning}
use Rattle.sync_rules.specs.Facts.{after_all, facts}
use Rattle.entry_codec.specs.declared.naming.Format.{Format}
use Rattle.entry_codec.specs.Payloads.{journal_end, payload_len}
use Rattle.entry_codec.specs.Standing.{room_of}
use Rattle.sync_store.specs.Fitting.{FitsFiles}
use Rattle.sync_store.specs.Runs.{RunsBy}
use Rattle.sync_store.specs.Store.{StoreValue, written_in}

-- The length that a journal needs in a format with a batch, as a commit counts it: the batch's
-- frame is added, and room is counted for all that settling may then add.
abbrev pub needed_in : Format → List (List Entry) → List Entry → ℕ
needed_in format j batch =
    journal_end format j + 5 + payload_len format batch + room_of format (after_all (facts j) batch)

-- each of these batches but those of settling found its room within a limit; settling has its room
-- from the commits before it
abbrev pub AreRoomy : Format → ℕ → List (List Entry) → List (List Entry) → Type 0
AreRoomy format limit j [] = Unit {0}
AreRoomy format limit j (b ∷ bs) =
    (is_settling_kind b ≡ false → needed_in format j b ≤ limit)
    × AreRoomy format limit (j ++ b ∷ []) bs

-- A store came by these batches to this one, as `RunsBy` has it, and whatever journal the disk
-- fitted, each found its room.
pub record StoreComesTo (clients : Meaning) (s s' : StoreValue) (o o' : Outside)
    (more : List (List Entry)) : Type 0 where
  pub runs : RunsBy clients s s' o o' more
  pub roomy : (two : Two File) → o.files ≡ Some two → (j : List (List Entry))
      → FitsFiles clients s j two
      → AreRoomy (written_in s) s.limit j more
