-- How a reader finds what two files stand for, frame by frame. What they stand for is said without
-- a reader in `FilesHold`.
use Rattle.std.specs.Prelude.{ℕ, zero, suc, ◌+◌, nat_le, if◌then◌else◌, List, [], ◌∷◌, ◌++◌, length}
use Rattle.std.specs.Prelude.{Option, Some, None}
use Rattle.sync_rules.specs.declared.entries.Entry.{Entry}
use Rattle.sync_rules.specs.Clients.{Meaning}
use Rattle.sync_rules.specs.Facts.{facts}
use Rattle.sync_rules.specs.Allows.{allows}
use Rattle.outside.specs.Files.{Two, file_of}
use Rattle.outside.specs.Frames.{Frame, closed, broken, framed, format_in, frame_at, journal_file}
use Rattle.entry_codec.specs.declared.naming.Format.{Format}
use Rattle.entry_codec.specs.Naming.{format_of}
use Rattle.entry_codec.specs.Payloads.{batch_of}
use Rattle.entry_codec.specs.Standing.{Standing, damaged, journal, no_store, room_of}
use Rattle.outside.specs.declared.limits.TheConstants.{MAX_JOURNAL}

-- The journal ends at a closed gate: it has these batches, where the gate and the room of the
-- journal are within the
-- greatest length.
abbrev pub ended : Format → ℕ → ℕ → List (List Entry) → Standing
ended format file place done =
    if nat_le (place + 1 + room_of format (facts done)) MAX_JOURNAL then journal done else damaged
    file place

-- the payload of a frame is a batch that is allowed after those before it, or the file is damaged
-- at the frame's gate
abbrev pub taken_on : Meaning → ℕ → (List (List Entry) → Standing) → ℕ → List (List Entry)
    → Option (List Entry) → Standing
taken_on clients file further place done None = damaged file place
taken_on clients file further place done (Some batch) =
    if allows clients (facts done) batch then further (done ++ batch ∷ []) else damaged file place

-- the frame at this place, behind frames of these batches
abbrev pub read_on : Meaning → Format → ℕ → (ℕ → List (List Entry) → Standing) → ℕ
    → List (List Entry) → Frame → Standing
read_on clients format file further place done closed = ended format file place done
read_on clients format file further place done broken = damaged file place
read_on clients format file further place done (framed payload) =
    taken_on clients file (further (place + 5 + length payload)) place done
    (batch_of format (facts done) payload)

-- the frames from this place on, at most so many, behind frames of these batches
unfoldable pub frames_from : Meaning → Format → ℕ → ℕ → List ℕ → ℕ → List (List Entry) → Standing
frames_from clients format file zero bytes place done = damaged file place
frames_from clients format file (suc n) bytes place done =
    read_on clients format file (frames_from clients format file n bytes) place done
    (frame_at bytes place)

-- The rest of a file from the gate at this place on, behind frames of these batches. A frame has
-- more than one byte, so
-- there are fewer frames than bytes.
abbrev pub rest_from : Meaning → Format → ℕ → List ℕ → ℕ → List (List Entry) → Standing
rest_from clients format file bytes place done = frames_from clients format file (length bytes)
    bytes place done

-- the journal's file, read in its own format: frames follow its header
abbrev pub read_in : Meaning → ℕ → List ℕ → Option Format → Standing
read_in clients file bytes None = damaged file 5
read_in clients file bytes (Some format) = rest_from clients format file bytes 14 []

abbrev pub stands_in : Meaning → Two (List ℕ) → Option ℕ → Standing
stands_in clients files None = no_store
stands_in clients files (Some file) = read_in clients file (file_of files file)
    (format_of (format_in (file_of files file)))

-- what a reader of two files finds that they stand for
unfoldable pub read_standing : Meaning → Two (List ℕ) → Standing
read_standing clients files = stands_in clients files (journal_file files)
