-- What `mailbox out` does: it commits what is due to a contact, and writes the bytes of all that
-- the session sends.
use Rattle.std.specs.Prelude.{◌≡◌, ◌⊎◌, ℕ, ◌<◌, ◌≤◌, List, [], ◌++◌, length, is_some, Result}
use Rattle.std.specs.Prelude.{Ok, Err}
use Rattle.outside.specs.Calls.{CallsGoOn}
use Rattle.outside.specs.Disk.{RelatesTold}
use Rattle.outside.specs.Host.{ReadsClock}
use Rattle.outside.specs.Outside.{Outside}
use Rattle.outside.specs.Streams.{Stream}
use Rattle.record_grammar.specs.Spelling.{spelled}
use Rattle.sync_rules.specs.declared.entries.Entry.{Entry}
use Rattle.sync_rules.specs.declared.entries.Out.{Out}
use Rattle.sync_rules.specs.Clients.{Meaning}
use Rattle.sync_rules.specs.Facts.{Facts, after_batches, facts, session_at}
use Rattle.sync_rules.specs.Growth.{output_of}
use Rattle.sync_rules.specs.Legal.{IsDue}
use Rattle.sync_rules.specs.Output.{sent}
use Rattle.sync_rules.specs.Hearing.{batch_session}
use Rattle.sync_store.specs.Store.{StoreValue}
use Rattle.mailbox_core.specs.Sending.{SendsAll, SendsSome, WritesSome}
use Rattle.sync_course.specs.LinkTurns.{out_batch}
use Rattle.mailbox_core.specs.Taking.{BeginsThen, first_batch}
use Rattle.sync_words.specs.declared.outcome.Outcome.{Outcome}
use Rattle.sync_words.specs.declared.outcome.Outcome.TheVariants as outcome
use Rattle.mailbox_commands.specs.declared.sending.Sending.{Sending}
use Rattle.store_commands.specs.Stopping.{NeverReads, StopsEarly}
use Rattle.store_commands.specs.Errands.{Errand, running}
use Rattle.mailbox_commands.specs.Tests.{mailbox_test}
use Rattle.store_commands.specs.Running.{DoesErrand}
use Rattle.store_commands.specs.Works.{DoesWork}

-- ---- the errand

-- so many outputs were made as were asked for, or nothing is due by these later facts
pub record WritesAll (clients : Meaning) (f later : Facts) (session now most : ℕ)
    (more : List (List Entry)) : Type 0 where
  pub made : ℕ
  pub sends : SendsAll clients f later session now most made more

-- this batch is that of the output which is due next, by the later facts, and fewer were made than
-- were asked for
pub record SendsNextBatch (clients : Meaning) (f later : Facts) (session now most : ℕ)
    (more : List (List Entry))
    (next : List Entry) : Type 0 where
  pub sends : SendsSome clients f session now most more
  pub fewer : length sends.outs < most
  pub what : Out
  pub due : IsDue clients later (session_at later.sessions session) now what
  pub is : next ≡ out_batch session now what

-- the whole file
abbrev pub WritesWhole : Meaning → Sending → ℕ → Facts → List (List Entry) → Type 0
WritesWhole clients asked now f more =
    BeginsThen f (batch_session f.begun asked.contact asked.latency) more
    (λ g rest. WritesAll clients g (after_batches f more) f.begun now asked.count rest)

-- the next batch of the writing of a file: that with which the session begins, or the next output's
abbrev pub WritesNext : Meaning → Sending → ℕ → Facts → List (List Entry) → List Entry → Type 0
WritesNext clients asked now f more next =
    ((more ≡ []) × (next ≡ first_batch (batch_session f.begun asked.contact asked.latency)))
    ⊎ BeginsThen f (batch_session f.begun asked.contact asked.latency) more
    (λ g rest. SendsNextBatch clients g (after_batches f more) f.begun now asked.count rest next)

-- What is due at a time is committed on a session of its own, up to the number that is asked for.
-- The text is the bytes of all that the session sends.
abbrev pub out_errand : Meaning → Sending → ℕ → Errand
out_errand clients asked now = record {
  some = λ f more. WritesSome clients asked.contact asked.latency now asked.count f more;
  whole = λ f more. WritesWhole clients asked now f more;
  next = λ f more next. WritesNext clients asked now f more next;
  comes = outcome.Done;
  text = λ settled more. spelled (sent (settled ++ more) (facts settled).begun);
}

-- where all was committed, its bytes were added
abbrev pub AddsBytes : Facts → List (List Entry) → (to to' : List ℕ) → Result (Unit {0}) Outcome
    → Type 0
AddsBytes f more to to' (Ok _) = to' ≡ to ++ spelled (output_of f f.begun more)
AddsBytes f more to to' (Err _) = Unit {0}

-- what is due was committed to a settled store, as far as the answer says
pub record TellsSent (clients : Meaning) (asked : Sending) (now : ℕ) (s s' : StoreValue)
    (o o' : Outside) (to to' : List ℕ)
    (result : Result (Unit {0}) Outcome) : Type 0 where
  pub does : DoesErrand clients (out_errand clients asked now) s s' o o' result
  pub bytes : AddsBytes s.state.facts does.more to to' result

-- ---- the command

-- the clock was read once, at this time; files that were told still are, and no count of failed
-- calls fell
pub record ReadsOnce (now : ℕ) (old new : Outside) : Type 0 where
  pub clock : ReadsClock now old.links new.links
  pub same_told : is_some new.files ≡ is_some old.files
  pub later : old.disk_faults ≤ new.disk_faults
  pub calls : RelatesTold CallsGoOn old.calls new.calls

-- the clock was read, and what is due then was committed and written as far as the outcome says
pub record SendsMail (clients : Meaning) (asked : Sending) (old new : Outside) (out out' : Stream)
    (came : Outcome)
    : Type 0 where
  pub now : ℕ
  pub reads : ReadsOnce now old new
  pub did : DoesWork clients (λ f. mailbox_test f asked.contact) outcome.Done
      (λ f. running clients (out_errand clients asked now)) old new out out' came

-- A file is written; or the command stopped before, and nothing was. The clock is read once the
-- tests hold.
abbrev pub HasSentMail : Meaning → Sending → (old new : Outside) → (out out' : Stream) → Outcome
    → Type 0
HasSentMail clients asked old new out out' came =
    StopsEarly clients (λ f. mailbox_test f asked.contact) NeverReads old new out out' came
    ⊎ SendsMail clients asked old new out out' came
