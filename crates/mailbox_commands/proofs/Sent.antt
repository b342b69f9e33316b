-- A file that is written, as an errand; and a run of the command that writes it.
use Rattle.std.proofs.Common.{◌≡◌, ℕ, ◌≤◌, arith, is_some, List, []}
use Rattle.std.proofs.Common.{◌++◌, refl, sym, ap, ◌∙◌, subst, inl, inr, Result, Ok, Err, None}
use Rattle.std.proofs.Common.{Some}
use Rattle.std.specs.Prelude.{IsErrAnd, Option}
use Rattle.outside.specs.declared.limits.TheConstants.{MAX_JOURNAL}
use Rattle.outside.specs.Faults.{CountRose}
use Rattle.outside.specs.Files.{Two, File, read_files}
use Rattle.outside.specs.Host.{ReadsClock}
use Rattle.outside.specs.Links.{Links}
use Rattle.outside.specs.Outside.{DiskRun, Outside, QuietCall}
use Rattle.outside.specs.Streams.{Stream, IsIdle}
use Rattle.outside.proofs.CallSteps.{calls_link, calls_then}
use Rattle.record_grammar.specs.Spelling.{spelled}
use Rattle.sync_rules.specs.declared.entries.Entry.{Entry}
use Rattle.sync_rules.specs.declared.entries.Entry.TheVariants as entry
use Rattle.sync_rules.specs.Clients.{Meaning}
use Rattle.sync_rules.specs.Facts.{Facts, after, after_batches, facts, session_at}
use Rattle.sync_rules.specs.Growth.{output_of}
use Rattle.sync_rules.specs.Legal.{GoesOn, IsDue}
use Rattle.sync_rules.specs.Output.{sent}
use Rattle.sync_rules.specs.Hearing.{batch_session}
use Rattle.sync_store.specs.Fitting.{FitsFiles}
use Rattle.sync_store.specs.Store.{StoreValue}
use Rattle.sync_store.specs.declared.fault.StoreFault.{StoreFault}
use Rattle.sync_store.specs.declared.fault.StoreFault.TheVariants as fault
use Rattle.mailbox_core.specs.Laws.{OutputsAreSent}
use Rattle.mailbox_core.specs.Sending.{HasWrittenBox, SendsAll, WritesSome}
use Rattle.mailbox_core.specs.Sending.{WritesUntilFull}
use Rattle.sync_course.specs.LinkTurns.{out_batch}
use Rattle.mailbox_core.specs.Taking.{BeginsThen, first_batch}
use Rattle.sync_words.specs.declared.outcome.Outcome.{Outcome}
use Rattle.sync_words.specs.declared.outcome.Outcome.TheVariants as outcome
use Rattle.sync_words.specs.Outcomes.{came_to}
use Rattle.store_commands.specs.Commit.{SettlesAnew}
use Rattle.file_standing.specs.Standing.{stands}
use Rattle.store_commands.specs.Load.{IsLoaded, LoadKeeps, LoadedBy, MayExtend}
use Rattle.store_commands.specs.Show.{PrintsText, LeavesFilesSo}
use Rattle.store_commands.specs.Stopping.{NeverReads}
use Rattle.store_commands.proofs.Stopped.{never_read, stops_none}
use Rattle.mailbox_commands.specs.declared.sending.Sending.{Sending}
use Rattle.mailbox_commands.specs.Tests.{mailbox_test}
use Rattle.store_commands.specs.Running.{LacksRoom, RunsErrand}
use Rattle.mailbox_commands.specs.Sending.{HasSentMail, TellsSent}
use Rattle.mailbox_commands.specs.Sending.{WritesWhole, out_errand}
use Rattle.store_commands.specs.Errands.{running}
use Rattle.store_commands.proofs.Errands.{errand_printed}
use Rattle.store_commands.proofs.Working.{loaded_as_is, prints_plain, read_as_is, work_loaded}

abbrev Batches : Type 0
Batches = List (List Entry)

-- ---- the errand

module _ (clients : Meaning) (asked : Sending) (now : ℕ) (s s' : StoreValue) (to to' : List ℕ)
    (o o' : Outside) where
  abbrev Sent : Result (Unit {0}) Outcome → Type 0
  Sent r = TellsSent clients asked now s s' o o' to to' r

  abbrev Wrote : Result ℕ StoreFault → Type 0
  Wrote r = HasWrittenBox clients asked.contact asked.latency now asked.count s s' to to' r o o'

  whole_of : (made : ℕ) (more : Batches) (last : Facts) → last ≡ after_batches s.state.facts more
      → BeginsThen s.state.facts (batch_session s.state.facts.begun asked.contact asked.latency)
      more
      (λ g rest. SendsAll clients g last s.state.facts.begun now asked.count made rest)
      → WritesWhole clients asked now s.state.facts more
  whole_of made more last same begins = record {
    rest = begins.rest;
    is = begins.is;
    later = record {
      made = made;
      sends =
          subst
          (λ (later : Facts).
          SendsAll clients
          (after s.state.facts
          (entry.Session (batch_session s.state.facts.begun asked.contact asked.latency))) later
          s.state.facts.begun now asked.count made begins.rest)
          same begins.later;
    };
  }

  some_of : (made : ℕ) (more : Batches) (last : Facts)
      → BeginsThen s.state.facts (batch_session s.state.facts.begun asked.contact asked.latency)
      more
      (λ g rest. SendsAll clients g last s.state.facts.begun now asked.count made rest)
      → WritesSome clients asked.contact asked.latency now asked.count s.state.facts more
  some_of made more last begins =
      inr (record { rest = begins.rest; is = begins.is; later = begins.later.sends })

  full_some : (more : Batches)
      → WritesUntilFull clients asked.contact asked.latency now asked.count s.state.facts s' more
      → WritesSome clients asked.contact asked.latency now asked.count s.state.facts more
  full_some more (inl none) = inl none.0
  full_some more (inr begins) =
      inr (record { rest = begins.rest; is = begins.is; later = begins.later.sends })

  full_lacks : (more : Batches) → s'.state.facts ≡ after_batches s.state.facts more
      → WritesUntilFull clients asked.contact asked.latency now asked.count s.state.facts s' more
      → LacksRoom (out_errand clients asked now) s.state.facts s' more
  full_lacks more same (inl none) = record {
    next = first_batch (batch_session s.state.facts.begun asked.contact asked.latency);
    follows = inl (none.0, refl);
    over = none.1;
  }
  full_lacks more same (inr begins) =
      record {
        next = out_batch s.state.facts.begun now begins.later.next;
        follows = inr (record {
          rest = begins.rest;
          is = begins.is;
          later = record {
            sends = begins.later.sends;
            fewer = begins.later.fewer;
            what = begins.later.next;
            due =
                subst
                (λ (last : Facts). IsDue clients last (session_at last.sessions s.state.facts.begun)
                now begins.later.next)
                same begins.later.due;
            is = refl;
          };
        });
        over = begins.later.over;
      }

  pub sent_all : (made : ℕ) (u : Unit {0}) → Wrote (Ok made) → Sent (Ok u)
  sent_all made u has = record {
    does = record {
      more = has.more;
      comes = has.adds.comes;
      some = some_of made has.more s'.state.facts has.answer.2;
      answer = (
        has.answer.0,
        has.answer.1,
        whole_of made has.more s'.state.facts (has.adds.comes.runs.facts has.answer.0) has.answer.2,
      );
      by = tt;
    };
    bytes = has.answer.3;
  }

  pub sent_full : Wrote (Err fault.Full) → Sent (Err outcome.Full)
  sent_full has = record {
    does = record {
      more = has.more;
      comes = has.adds.comes;
      some = full_some has.more has.answer.2;
      answer = (has.answer.0, full_lacks has.more (has.adds.comes.runs.facts has.answer.0) has.answer.2);
      by = tt;
    };
    bytes = tt;
  }

  pub sent_memory : Wrote (Err fault.Memory) → Sent (Err outcome.Memory)
  sent_memory has = record {
    does = record { more = has.more; comes = has.adds.comes; some = has.answer.1; answer = tt; by = tt };
    bytes = tt;
  }

  pub sent_disk : Wrote (Err fault.DiskFault) → CountRose o.disk_faults o'.disk_faults
      → Sent (Err outcome.DiskFault)
  sent_disk has rose = record {
    does =
        record { more = has.more; comes = has.adds.comes; some = has.answer.1; answer = tt; by = rose };
    bytes = tt;
  }

-- ---- the whole run behind the loaded store

-- the bytes are those of all that the session sends
text_is : OutputsAreSent → (clients : Meaning) (asked : Sending) (now : ℕ) (s1 s2 : StoreValue)
    (o1 o2 : Outside)
    (to to' given : List ℕ) (v : Unit {0})
    → (tells : TellsSent clients asked now s1 s2 o1 o2 to to' (Ok v)) → to ≡ []
    → given ≡ to' → (two1 : Two File) (j1 : Batches) → FitsFiles clients s1 j1 two1
    → given ≡ spelled (sent (j1 ++ tells.does.more) (facts j1).begun)
text_is law clients asked now s1 s2 o1 o2 to to' given v tells empty same two1 j1 fits =
    let more : Batches = tells.does.more in
    let goes : GoesOn clients (facts j1) tells.does.more =
    subst (λ (f : Facts). GoesOn clients f tells.does.more) (sym fits.facts_are)
    tells.does.comes.runs.goes_on in
    let all : sent (j1 ++ tells.does.more) (facts j1).begun
    ≡ output_of (facts j1) (facts j1).begun tells.does.more =
    law clients j1 tells.does.more fits.legal goes in
    same
    ∙ tells.bytes
    ∙ ap (λ (z : List ℕ).
    z ++ spelled (output_of s1.state.facts s1.state.facts.begun tells.does.more)) empty
    ∙ ap (λ (f : Facts). spelled (output_of f f.begun tells.does.more)) (sym fits.facts_are)
    ∙ ap spelled (sym all)

pub sent_printed : OutputsAreSent → (clients : Meaning) (asked : Sending) (now : ℕ)
    (s s1 s2 : StoreValue)
    (o o1 o2 : Outside) (out out' : Stream) (u v : Unit {0}) (to to' given : List ℕ)
    (came : Outcome)
    → s.limit ≡ MAX_JOURNAL → DiskRun o o1 → SettlesAnew clients s s1 o o1 (Ok u)
    → TellsSent clients asked now s1 s2 o1 o2 to to' (Ok v) → to ≡ [] → given ≡ to'
    → PrintsText given out out' came
    → RunsErrand clients (out_errand clients asked now) s o o2 out out' came
sent_printed law clients asked now s s1 s2 o o1 o2 out out' u v to to' given came limited run
    settled tells empty same printed =
    errand_printed clients (out_errand clients asked now) s s1 s2 o o1 o2 out out' u v given came
    limited run settled
    tells.does (text_is law clients asked now s1 s2 o1 o2 to to' given v tells empty same)
    (prints_plain given out out' came printed)

-- ---- the command

module _ (clients : Meaning) (asked : Sending) (old new : Outside) (out out' : Stream) where
  abbrev Mailed : Outcome → Type 0
  Mailed came = HasSentMail clients asked old new out out' came

  -- no store was loaded
  pub mailed_none : (came : Outcome) → DiskRun old new
      → ((two : Two File) → old.files ≡ Some two
      → LeavesFilesSo (LoadKeeps (Err came) two) two old new)
      → LoadedBy old new (Err came)
      → ((two : Two File) → old.files ≡ Some two
      → IsLoaded (stands clients (read_files two)) (Err came))
      → IsIdle out out' → Mailed came
  mailed_none came run rests by loaded idle =
      inl (stops_none clients (λ f. mailbox_test f asked.contact) NeverReads old new out out' run
      idle
      came rests by loaded (never_read old new came by))

  pub mailed_on : (r : Result (Unit {0}) Outcome) (x : Outcome) → IsErrAnd r (λ e. e ≡ x) → Mailed x
      → Mailed (came_to r)
  mailed_on (Ok u) x is mailed = absurd is
  mailed_on (Err e) x is mailed = subst Mailed (sym is) mailed

-- from the files, where the clock was read
pub mailed_read : (clients : Meaning) (asked : Sending) (now : ℕ) (o o1 oc o2 : Outside)
    (out out' : Stream)
    (s : StoreValue) (came : Outcome) → DiskRun o o1
    → ((two : Two File) → o.files ≡ Some two → LeavesFilesSo (LoadKeeps (Ok s) two) two o o1)
    → MayExtend clients s oc.files
    → mailbox_test s.state.facts asked.contact ≡ None → QuietCall o1 oc
    → ReadsClock now o1.links oc.links
    → RunsErrand clients (out_errand clients asked now) s oc o2 out out' came
    → HasSentMail clients asked o o2 out out' came
mailed_read clients asked now o o1 oc o2 out out' s came run rests opened tested call clock ran =
    let later : o.disk_faults ≤ oc.disk_faults = omega (arith, run.later, call.same_faults) in
    inr (record {
      now = now;
      reads = record {
        clock =
            subst (λ (l : Links). ReadsClock now o.links l) (sym ran.run.same_links)
            (subst (λ (l : Links). ReadsClock now l oc.links) run.same_links clock);
        same_told = ran.run.same_told ∙ ap is_some call.same_files ∙ run.same_told;
        later = omega (arith, later, ran.run.later);
        calls = calls_then o oc o2 (calls_link _ o o1 oc run.calls call) ran.run.calls;
      };
      did =
          work_loaded clients (λ f. mailbox_test f asked.contact) outcome.Done
          (λ f. running clients (out_errand clients asked now)) o oc o2 out out' s came later
          (λ two files. read_as_is now two o o1 oc
          (loaded_as_is two o o1 run files (rests two files)) call clock)
          opened tested ran;
    })

-- a call that is not of the disk leaves a store as ready as it was
pub ready_still : (clients : Meaning) (s : StoreValue) (o o' : Outside) → QuietCall o o'
    → MayExtend clients s o.files
    → MayExtend clients s o'.files
ready_still clients s o o' call ready =
    subst (λ (files : Option (Two File)). MayExtend clients s files) (sym call.same_files) ready
