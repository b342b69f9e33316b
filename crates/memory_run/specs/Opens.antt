-- The headline of a host in memory, by its own calls.
use Rattle.std.specs.Prelude.{◌≡◌, ◌⊎◌, ℕ, ◌≤◌, List, [], length, take, slice_index_or}
use Rattle.outside.specs.Files.{Two, File, IsImage, read_files}
use Rattle.outside.specs.LinksTold as told
use Rattle.outside.specs.HostTold.{host_told}
use Rattle.outside.specs.Changes.{Change}
use Rattle.outside.specs.MemDisk.{MemDiskValue}
use Rattle.outside.specs.MemHost.{MemHostValue}
use Rattle.outside.specs.MemMoments.{files_at}
use Rattle.sync_rules.specs.Clients.{Meaning}
use Rattle.file_standing.specs.Standing.{stands}
use Rattle.sync_node.specs.Output.{heard_on}
use Rattle.commands.specs.declared.command.Command.TheVariants as command
use Rattle.commands.specs.Reading.{Asked}
use Rattle.commands.specs.Reading.Asked.{Do}
use Rattle.store_commands.specs.Stopping.{StoodFor}
use Rattle.sync_top.specs.Sound.{OpensInLife, OpensOn}

-- the calls of a host that left a trace, the first so many of them
abbrev pub first_calls : ℕ → MemHostValue → List Change
first_calls made host = take made host.disk.calls

-- the files behind these calls, and the bytes that were sent by then on each link
abbrev pub files_by : MemHostValue → List Change → Two File
files_by host calls = files_at host.disk.start calls

abbrev pub sent_by : List Change → ℕ → List ℕ
sent_by calls link = slice_index_or (told.sent_by calls) link []

-- what a crash leaves might have been left before any call of the command, and nothing was sent
pub record IsAsBefore (old : MemHostValue) (left : Two (List ℕ)) (sent : ℕ → List ℕ) : Type 0 where
  pub image : IsImage (files_by old old.disk.calls) left
  pub nothing_sent : (link : ℕ) → sent link ≡ []

-- From one host to a later one: whatever a crash leaves after so many calls is as before, or stands
-- for a sound journal of the run, by what the links of the later host heard and what was sent by
-- then, or of the life of a node that served.
abbrev pub OpensInMemory : Meaning → Asked → (old new : MemHostValue) → Type 0
OpensInMemory clients (Do (command.Sync turns quiet links)) old new =
    (made : ℕ) → length old.disk.calls ≤ made → made ≤ length new.disk.calls
    → (left : Two (List ℕ)) → IsImage (files_by new (first_calls made new)) left
    → IsAsBefore old left (sent_by (first_calls made new))
    ⊎ OpensOn clients (stands clients (read_files (files_by old old.disk.calls)))
    (heard_on (host_told new).links) (sent_by (first_calls made new)) left
OpensInMemory clients (Do command.Serve) old new =
    (made : ℕ) → length old.disk.calls ≤ made → made ≤ length new.disk.calls
    → (left : Two (List ℕ)) → IsImage (files_by new (first_calls made new)) left
    → IsImage (files_by old old.disk.calls) left
    ⊎ StoodFor (stands clients (read_files (files_by old old.disk.calls)))
    (λ begin. OpensInLife clients begin left)
OpensInMemory clients _ old new = Unit {0}
