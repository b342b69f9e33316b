-- Completeness: a command whose tests hold, whose files serve and which has room is done where no
-- call fails, unless memory is wanting; but that the bytes decide for `try` and `records`, and the
-- course for `sync`.
use Rattle.std.specs.Prelude.{◌≡◌, ◌≢◌, ◌⊎◌, ℕ, ◌+◌, ◌≤◌, true, false, if◌then◌else◌, nat_lt, List}
use Rattle.std.specs.Prelude.{length, Some, is_some, slice_get}
use Rattle.std.specs.Io.KnownBytes.{Consumes, IsAtEnd}
use Rattle.std.specs.List.{list_any}
use Rattle.outside.specs.Faults.{CountRose}
use Rattle.outside.specs.Outside.{Outside}
use Rattle.outside.specs.Streams.{Stream}
use Rattle.record_grammar.specs.Stream.{ending, records}
use Rattle.record_grammar.specs.declared.stream.Ending.TheVariants as ends
use Rattle.sync_rules.specs.declared.entries.Entry.{Entry}
use Rattle.sync_rules.specs.Clients.{Meaning}
use Rattle.sync_course.specs.Links.{Link, closes}
use Rattle.sync_course.specs.Turns.{Place, is_over}
use Rattle.sync_node.specs.Courses.{ReadsAs}
use Rattle.commands.specs.declared.command.Command.{Command}
use Rattle.commands.specs.declared.command.Command.TheVariants as command
use Rattle.sync_words.specs.declared.link_words.LinkWords.{LinkWords}
use Rattle.sync_course.specs.Closing.{Closing}
use Rattle.sync_words.specs.declared.outcome.Outcome.{Outcome}
use Rattle.sync_words.specs.declared.status.Status.{Status}
use Rattle.sync_words.specs.declared.status.Status.TheVariants as status
use Rattle.sync_words.specs.Outcomes.{links_status, status_of}
use Rattle.commands.specs.Reading.{Asked}
use Rattle.commands.specs.Reading.Asked.{Usage, Do}
use Rattle.sync_run.specs.declared.run.Limits.{Limits}
use Rattle.sync_run.specs.Courses.{RanToEnd}
use Rattle.mailbox_core.specs.Files.{box_ending}
use Rattle.mailbox_commands.specs.declared.taking.TheConstants.{MAX_MAIL}
use Rattle.mailbox_commands.specs.Taking.{outcome_at}
use Rattle.sync_top.specs.Duties.{serves_of}
use Rattle.stream_commands.specs.Streams.{outcome_of}
use Rattle.stream_commands.specs.declared.input.TheConstants.{MAX_INPUT}

-- ---- nothing stands in the way

-- no count of faults rose
pub record NothingFails (old new : Outside) (input input' out out' : Stream) : Type 0 where
  pub disk : CountRose old.disk_faults new.disk_faults → ⊥
  pub links : (link : ℕ) → CountRose (old.links.faults link) (new.links.faults link) → ⊥
  pub source : CountRose input.faults input'.faults → ⊥
  pub sink : CountRose out.faults out'.faults → ⊥

-- the tests of a command hold, the files as they read serve it, and there is room
abbrev pub ServesCommand : Meaning → Command → (old new : Outside) → (input input' : Stream)
    → Type 0
ServesCommand clients (command.Try name descriptor) old new input input' =
    is_some (clients.kind_of name 0) ≡ true
ServesCommand clients command.Records old new input input' = Unit {0}
ServesCommand clients asked old new input input' =
    serves_of clients asked old new input input'

-- ---- what it then comes to

-- The bytes decide that were read: the whole input, or its first bytes, one more than the greatest
-- length, which are too many; and else what these bytes come to.
pub record BytesDecide (most : ℕ) (comes : List ℕ → Outcome) (input input' : Stream)
    (given : Status) : Type 0 where
  pub read : List ℕ
  pub consumed : Consumes input.bytes input'.bytes read
  pub whole : (IsAtEnd input'.bytes × (length read ≤ most)) ⊎ (length read ≡ most + 1)
  pub decides : given
      ≡ (if nat_lt most (length read) then status.TooMuch else status_of (comes read))

-- those of a stream of records, by how it ends
abbrev pub StreamDecides : (input input' : Stream) → Status → Type 0
StreamDecides = BytesDecide MAX_INPUT (λ read. outcome_of (ending 0 read))

-- whole records were heard, and each VERSIONS among them has the version of this node
pub record HeardWell (heard : List ℕ) : Type 0 where
  pub whole : ending 0 heard ≡ ends.Clean
  pub versions : list_any closes (records heard) ≡ false

abbrev pub AllHeardWell : Place → Type 0
AllHeardWell p = (i : ℕ) (link : Link) → slice_get p.links i ≡ Some link → HeardWell link.heard

-- The course decides, by how it closes its links, none of which failed; and all is done where it
-- was over within its turns, and each link heard well.
pub record CourseDecides (clients : Meaning) (limits : Limits) (words : List LinkWords)
    (old new : Outside) (given : Status) : Type 0 where
  pub begin : List (List Entry)
  pub stood : ReadsAs clients old.files begin
  pub ends : Closing
  pub ran : RanToEnd clients limits words begin old new ends
  pub decides : given ≡ links_status ends
  pub unfailed : given ≢ status.LinkFault
  pub is_done : is_over limits.quiet ran.run.last ≡ true → AllHeardWell ran.run.last
      → given ≡ status.Done

-- what it is that a command comes to, if memory is not wanting
abbrev pub ComesOut : Meaning → Command → (old new : Outside) → (input input' : Stream) → Status
    → Type 0
ComesOut clients (command.Try name descriptor) old new input input' given =
    StreamDecides input input' given
ComesOut clients command.Records old new input input' given = StreamDecides input input' given
ComesOut clients (command.MailboxIn contact) old new input input' given =
    BytesDecide MAX_MAIL (λ read. outcome_at (box_ending read)) input input' given
ComesOut clients (command.Sync turns quiet links) old new input input' given =
    CourseDecides clients (record { turns = turns; quiet = quiet }) links old new given
ComesOut clients asked old new input input' given = given ≡ status.Done

-- Completeness: where the tests of a command hold, its files serve, there is room, and no call
-- fails, it comes to what it should, or memory was wanting.
abbrev pub Complete : Meaning → Asked → (old new : Outside) → (input input' out out' : Stream)
    → Status → Type 0
Complete clients (Usage place) old new input input' out out' given = Unit {0}
Complete clients (Do asked) old new input input' out out' given =
    ServesCommand clients asked old new input input' → NothingFails old new input input' out out'
    → ComesOut clients asked old new input input' given ⊎ (given ≡ status.Memory)
