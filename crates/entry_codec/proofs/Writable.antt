-- In a batch that may follow a journal each session has a latency, and each row may be stated.
use Rattle.std.proofs.Common.{List}
use Rattle.std.specs.List.{AllByRecursion}
use Rattle.sync_rules.specs.declared.entries.Entry.{Entry}
use Rattle.sync_rules.specs.declared.entries.Entry.TheVariants as entry
use Rattle.sync_rules.specs.Clients.{Meaning}
use Rattle.sync_rules.specs.Facts.{Facts}
use Rattle.sync_rules.specs.Legal.{Allowed}
use Rattle.sync_rules.specs.Meeting.{MeetsNoStep}
use Rattle.sync_rules.proofs.BatchEntries.{each_met}
use Rattle.entry_codec.specs.Spelling.{MayBeWritten}

meeting_has : (clients : Meaning) (f : Facts) (e : Entry) → MeetsNoStep clients f e → MayBeWritten e
meeting_has clients f (entry.Session s) m = m.1.some_latency
meeting_has clients f (entry.Tried t) m =
    record { few_tries = m.2.few_tries; no_wait = m.2.no_wait; not_empty = m.2.not_empty }
meeting_has clients f _ m = tt

pub batch_has : (clients : Meaning) (f : Facts) (batch : List Entry) → Allowed clients f batch
    → AllByRecursion MayBeWritten batch
batch_has clients f batch is = each_met clients f MayBeWritten (meeting_has clients) batch is
