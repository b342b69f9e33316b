-- A message that says something, from its words to its outcome.
use Rattle.std.proofs.Common.{◌≡◌}
use Rattle.std.proofs.Common.{Option, Some, None, Ok, Err}
use Rattle.outside.specs.Files.{Two, File, read_files}
use Rattle.outside.specs.Outside.{Outside, DiskRun}
use Rattle.outside.specs.Streams.{Stream, IsIdle}
use Rattle.sync_rules.specs.declared.entries.Entry.{Entry}
use Rattle.sync_rules.specs.declared.states.Refused.{Refused}
use Rattle.sync_rules.specs.Clients.{Meaning}
use Rattle.sync_rules.specs.Facts.{Facts, group_at}
use Rattle.file_standing.specs.Standing.{stands}
use Rattle.sync_store.specs.Store.{StoreValue}
use Rattle.sync_words.specs.declared.outcome.Outcome.{Outcome}
use Rattle.sync_words.specs.declared.outcome.Outcome.TheVariants as outcome
use Rattle.store_commands.specs.declared.commit.Settling.TheVariants as settling
use Rattle.store_commands.specs.Entries.{HasAdded}
use Rattle.store_commands.specs.Load.{HasFacts, LoadKeeps}
use Rattle.store_commands.specs.Plans.{EntryPlan, adds, refuses}
use Rattle.store_commands.specs.Post.{IsPlanOfPost}
use Rattle.store_commands.specs.Show.{LeavesFilesSo}
use Rattle.store_commands.proofs.EntryLemmas.{added_none, added_refused}
use Rattle.store_commands.proofs.Follow.{MayAdd, message_follows}
use Rattle.sharing_commands.specs.declared.saying.Speech.{Speech}
use Rattle.sharing_commands.specs.Sayings.{message_said, say_by, say_plan, sharing_test}

-- ---- the plan

pub say_follows : (clients : Meaning) (f : Facts) (s : Speech) (e : Entry)
    → say_plan clients s f ≡ adds e → MayAdd clients f e
say_follows clients f s e is = by (sharing_test (group_at f.groups s.group)) is where
  by : (o : Option Refused) → say_by clients f s o ≡ adds e → MayAdd clients f e
  by (Some why) w = absurd (let no : refuses why ≡ adds e = w in cc)
  by None w = message_follows clients f (message_said f s) e w

-- ---- a message that may not be added

pub said_fault : (clients : Meaning) (plan : Facts → EntryPlan) (old new : Outside)
    (out out' : Stream)
    (s : StoreValue) → DiskRun old new
    → ((two : Two File) → old.files ≡ Some two → LeavesFilesSo (LoadKeeps (Ok s) two) two old new)
    → ((two : Two File) → old.files ≡ Some two → HasFacts (stands clients (read_files two)) s)
    → IsIdle out out'
    → (came : Outcome) → IsPlanOfPost (plan s.state.facts) (Err came)
    → HasAdded clients plan settling.BeforeAndAfter old new out out' came
said_fault clients plan old new out out' s run rests loaded quiet outcome.Memory is =
    added_none clients plan settling.BeforeAndAfter old new out out' outcome.Memory run (λ two told.
    rests two told) tt (λ two told. tt) quiet
said_fault clients plan old new out out' s run rests loaded quiet (outcome.Refused why) is =
    added_refused clients plan settling.BeforeAndAfter old new out out' s why run rests loaded is
    quiet
said_fault clients plan old new out out' s run rests loaded quiet _ is = absurd is
