-- What a batch is written as in a format, and the batch of a payload. Both are over the facts of the journal before the batch:
-- the messages that are held then are those that the second format names by their numbers.
use Rattle.std.specs.Prelude.{ℕ, zero, suc, List, [], ◌∷◌, length, Option, Some, None}
use Rattle.std.specs.List.{flat_map}
use Rattle.sync_rules.specs.declared.entries.Entry.{Entry}
use Rattle.sync_rules.specs.Consistency.{ids_of_held}
use Rattle.sync_rules.specs.Facts.{Facts, after_all, nothing}
use Rattle.outside.specs.Frames.{end_of}
use Rattle.entry_codec.specs.declared.naming.Format.{Format}
use Rattle.entry_codec.specs.Spelling.{spelling_in}
use Rattle.entry_codec.specs.Reading.{entry_by, held_in}

-- ---- what a batch is written as

-- the ids of the messages that are held, in order of arrival
abbrev pub names_of : Facts → List (List ℕ)
names_of f = ids_of_held f.held

-- the spellings of entries, one behind the other, where these are the ids held
abbrev pub spellings : Format → List (List ℕ) → List Entry → List ℕ
spellings format names entries = flat_map (spelling_in format names) entries

-- what a batch is written as behind a journal of these facts
abbrev pub payload : Format → Facts → List Entry → List ℕ
payload format f batch = spellings format (names_of f) batch

-- the payloads of batches, each behind those before it, where the first is behind a journal of these facts
abbrev pub payloads : Format → Facts → List (List Entry) → List (List ℕ)
payloads format f [] = []
payloads format f (b ∷ bs) = payload format f b ∷ payloads format (after_all f b) bs

-- how many bytes a batch is written in, whatever the facts: this depends on the format alone
abbrev pub payload_len : Format → List Entry → ℕ
payload_len format batch = length (spellings format [] batch)

-- the place behind the closed gate that follows the frames of a journal
abbrev pub journal_end : Format → List (List Entry) → ℕ
journal_end format j = end_of (payloads format nothing j)

-- ---- the batch of a payload

-- an entry, and those that are behind it
abbrev pub put_before : Entry → Option (List Entry) → Option (List Entry)
put_before e None = None
put_before e (Some es) = Some (e ∷ es)

abbrev pub followed : (List ℕ → Option (List Entry)) → Option (Entry × List ℕ) → Option (List Entry)
followed others None = None
followed others (Some x) = put_before x.0 (others x.1)

-- at most so many entries, one behind the other up to the end of the bytes, where these are the ids held
unfoldable pub entries_in : Format → List (List ℕ) → ℕ → List ℕ → Option (List Entry)
entries_in format names n [] = Some []
entries_in format names zero (x ∷ bytes) = None
entries_in format names (suc n) (x ∷ bytes) = followed (entries_in format names n) (entry_by format (held_in format names) (x ∷ bytes))

-- The batch that some bytes spell: they are a list of one or more spellings of entries and nothing else. No entry is spelled
-- by no byte, so there are no more entries than bytes.
unfoldable pub batch_in : Format → List (List ℕ) → List ℕ → Option (List Entry)
batch_in format names [] = None
batch_in format names (x ∷ bytes) = entries_in format names (length (x ∷ bytes)) (x ∷ bytes)

-- the batch of a payload behind a journal of these facts
abbrev pub batch_of : Format → Facts → List ℕ → Option (List Entry)
batch_of format f bytes = batch_in format (names_of f) bytes
