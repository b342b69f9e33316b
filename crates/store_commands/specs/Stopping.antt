-- A command of a store that stopped before its work.
use Rattle.std.specs.Prelude.{◌≡◌, List, Option, Some, None}
use Rattle.outside.specs.Faults.{CountRose}
use Rattle.outside.specs.Files.{Two, File}
use Rattle.outside.specs.Outside.{Outside, DiskRun}
use Rattle.outside.specs.Streams.{Stream, IsIdle}
use Rattle.sync_rules.specs.declared.entries.Entry.{Entry}
use Rattle.sync_rules.specs.declared.states.Refused.{Refused}
use Rattle.sync_rules.specs.Clients.{Meaning}
use Rattle.sync_rules.specs.Facts.{Facts, facts}
use Rattle.entry_codec.specs.Standing.{Standing, no_store, damaged, journal}
use Rattle.sync_words.specs.declared.outcome.Outcome.{Outcome}
use Rattle.sync_words.specs.declared.outcome.Outcome.TheVariants as outcome
use Rattle.store_commands.specs.Show.{KeepsFiles, LeavesTold}

-- the files stood for a journal of which this is so
pub record StoodFor (standing : Standing) (P : List (List Entry) → Type 0) : Type 0 where
  pub before : List (List Entry)
  pub stood : standing ≡ journal before
  pub has : P before

-- the tests of a command answer so over it
abbrev pub IsTested : (Facts → Option Refused) → Standing → Option Refused → Type 0
IsTested test standing answer = StoodFor standing (λ j. test (facts j) ≡ answer)

-- the causes, whatever the disk tells
abbrev pub StopsBy : (Facts → Option Refused) → (old new : Outside) → Outcome → Type 0
StopsBy test old new outcome.NoStore = Unit {0}
StopsBy test old new (outcome.Damaged place) = Unit {0}
StopsBy test old new (outcome.Refused why) = (f : Facts) × (test f ≡ Some why)
StopsBy test old new outcome.DiskFault = CountRose old.disk_faults new.disk_faults
StopsBy test old new outcome.Memory = Unit {0}
StopsBy test old new outcome.ReadFault = Unit {0}
StopsBy test old new outcome.TooMuch = Unit {0}
StopsBy test old new _ = ⊥

-- by what the files stood for: the input is read once the tests hold
abbrev pub StopsWhere : (Facts → Option Refused) → Standing → Outcome → Type 0
StopsWhere test standing outcome.NoStore = standing ≡ no_store
StopsWhere test standing (outcome.Damaged place) = standing ≡ damaged place.file place.at
StopsWhere test standing (outcome.Refused why) = IsTested test standing (Some why)
StopsWhere test standing outcome.ReadFault = IsTested test standing None
StopsWhere test standing outcome.TooMuch = IsTested test standing None
StopsWhere test standing _ = Unit {0}

-- what a command does to its input that stops so; where memory is wanting it may be read in part
abbrev pub InputStops : (too_much : Type 0) → (input input' : Stream) → Outcome → Type 0
InputStops too_much input input' outcome.ReadFault = CountRose input.faults input'.faults
InputStops too_much input input' outcome.TooMuch = too_much
InputStops too_much input input' outcome.Memory = Unit {0}
InputStops too_much input input' _ = IsIdle input input'

-- a command that reads no input does not stop for it
abbrev pub NeverReads : Outcome → Type 0
NeverReads outcome.ReadFault = ⊥
NeverReads outcome.TooMuch = ⊥
NeverReads _ = Unit {0}

-- nothing was changed and nothing printed, and this is so of the input
pub record StopsEarly (clients : Meaning) (test : Facts → Option Refused)
    (input_is : Outcome → Type 0) (old new : Outside) (out out' : Stream)
    (came : Outcome) : Type 0 where
  pub run : DiskRun old new
  pub by : StopsBy test old new came
  pub reads : input_is came
  pub quiet : IsIdle out out'
  pub told : (two : Two File) → old.files ≡ Some two
      → LeavesTold clients (KeepsFiles came) (λ standing. StopsWhere test standing came) two old new
