-- What holds of all spellings.
use Rattle.std.specs.Prelude.{◌≡◌, ℕ, ◌≤◌, true, List, [], ◌++◌, length, take}
use Rattle.std.specs.List.{AllByRecursion}
use Rattle.sync_rules.specs.declared.entries.Entry.{Entry}
use Rattle.sync_rules.specs.Clients.{Meaning}
use Rattle.sync_rules.specs.Consistency.{ids_of_held}
use Rattle.sync_rules.specs.Facts.{Facts}
use Rattle.sync_rules.specs.Legal.{Allowed}
use Rattle.sync_rules.specs.Lists.{is_among}
use Rattle.entry_codec.specs.declared.lengths.TheConstants.{MAX_BATCH_LEN, MAX_SPELLING}
use Rattle.entry_codec.specs.Payloads.{payload_len}
use Rattle.entry_codec.specs.Naming.{AreNames}
use Rattle.entry_codec.specs.Spelling.{EntryNames, IsEntry, SpellsEntry, SpellsIn, spelling, spelling_in}
use Rattle.entry_codec.specs.declared.naming.Format.{Format}
use Rattle.entry_codec.specs.declared.naming.Format.TheVariants as format
use Rattle.entry_codec.specs.declared.reading.EntryFound.{EntryFound}
use Rattle.entry_codec.specs.declared.reading.EntryFound.TheVariants as found

-- What is found at the front of some bytes in a format, where these are the ids held: an entry that so many of them spell,
-- or none, since no front of them spells one.
abbrev pub IsReadIn : Format → List (List ℕ) → List ℕ → EntryFound → Type 0
IsReadIn f names bytes (found.One e used) = (used ≤ length bytes) × SpellsIn f names e (take used bytes)
IsReadIn f names bytes found.BadEntry = (e : Entry) (used : ℕ) → SpellsIn f names e (take used bytes) → ⊥

-- the same in the first format
abbrev pub IsEntryRead : List ℕ → EntryFound → Type 0
IsEntryRead bytes found = IsReadIn format.Whole [] bytes found

-- whatever is found where an entry is spelled is that entry, whatever follows, in each format
abbrev pub EntriesReadBack : Type 0
EntriesReadBack = (f : Format) (names : List (List ℕ)) → AreNames names → (e : Entry) (bytes more : List ℕ) (read : EntryFound)
    → SpellsIn f names e bytes → IsReadIn f names (bytes ++ more) read → read ≡ found.One e (length bytes)

-- no entry's bytes begin another's, and bytes spell one entry at most, in each format
abbrev pub NoEntryBeginsAnother : Type 0
NoEntryBeginsAnother = (f : Format) (names : List (List ℕ)) → AreNames names → (e d : Entry) (bytes more : List ℕ)
    → SpellsIn f names e bytes → SpellsIn f names d (bytes ++ more) → (e ≡ d) × (more ≡ [])

-- every spelling of the first format has 2 to MAX_SPELLING bytes
abbrev pub SpellingsAreShort : Type 0
SpellingsAreShort = (e : Entry) (bytes : List ℕ) → SpellsEntry e bytes → (2 ≤ length bytes) × (length bytes ≤ MAX_SPELLING)

-- a spelling of the second format has 2 bytes or more, and is never longer than it would be with whole ids
abbrev pub ShortIsNotLonger : Type 0
ShortIsNotLonger = (names : List (List ℕ)) (e : Entry) → IsEntry e
    → (2 ≤ length (spelling_in format.Short names e)) × (length (spelling_in format.Short names e) ≤ length (spelling e))

-- nor are the spellings of the entries of a batch
abbrev pub ShortBatchesAreNotLonger : Type 0
ShortBatchesAreNotLonger = (batch : List Entry) → AllByRecursion IsEntry batch → payload_len format.Short batch ≤ payload_len format.Whole batch

-- a batch that may follow a journal names as held only what is held, each of its entries by the facts before the batch
abbrev pub AllowedNames : Type 0
AllowedNames = (clients : Meaning) (f : Facts) (batch : List Entry) → Allowed clients f batch
    → AllByRecursion (EntryNames (λ id. is_among (ids_of_held f.held) id ≡ true)) batch

-- A batch that may follow a journal of any facts, and whose entries are within their limits, has 2 to MAX_BATCH_LEN bytes:
-- fewer than a frame may have.
abbrev pub PayloadsFitFrames : Type 0
PayloadsFitFrames = (clients : Meaning) (f : Facts) (format : Format) (batch : List Entry) → Allowed clients f batch → AllByRecursion IsEntry batch
    → (2 ≤ payload_len format batch) × (payload_len format batch ≤ MAX_BATCH_LEN)
