-- A file that is read, as an errand; and a run of the command that reads it.
use Rattle.std.proofs.Common.{◌≡◌, ℕ, ◌+◌, ◌<◌, ◌≤◌, List, [], ◌∷◌, ◌++◌, append-nil, length, refl, sym}
use Rattle.std.proofs.Common.{arith, drop, subst, inl, inr, append_assoc, Result, Ok, Err, None, Some, take}
use Rattle.std.specs.Prelude.{IsErrAnd, min}
use Rattle.std.proofs.lemmas.List.{length-take, take-append-drop}
use Rattle.std.specs.Io.KnownBytes.{Appends}
use Rattle.outside.specs.declared.limits.TheConstants.{MAX_JOURNAL}
use Rattle.outside.specs.Faults.{CountRose}
use Rattle.outside.specs.Files.{Two, File, read_files}
use Rattle.outside.specs.Outside.{DiskRun, Outside}
use Rattle.outside.specs.Streams.{Stream, IsIdle}
use Rattle.outside.proofs.CallSteps.{run_then}
use Rattle.sync_ids.specs.declared.records.Record.{Record}
use Rattle.sync_rules.specs.declared.entries.Entry.{Entry}
use Rattle.sync_rules.specs.declared.entries.Entry.TheVariants as entry
use Rattle.sync_rules.specs.declared.states.Refused.{Refused}
use Rattle.sync_rules.specs.Clients.{Meaning}
use Rattle.sync_rules.specs.Facts.{Facts, after, after_batches, facts, takes_of}
use Rattle.sync_rules.specs.Steps.{IsSettled}
use Rattle.sync_rules.specs.Hearing.{take_batch}
use Rattle.sync_rules.proofs.Continuing.{facts-append, legal-append}
use Rattle.sync_rules.proofs.WorkLaws.{settles_then, settling_goes_on}
use Rattle.sync_store.specs.Commits.{needed}
use Rattle.sync_store.specs.Store.{StoreValue}
use Rattle.sync_store.specs.declared.fault.StoreFault.TheVariants as fault
use Rattle.mailbox_laws.specs.Boxes.{HearsAll, box_session, with_box}
use Rattle.mailbox_core.specs.declared.ends.BoxEnd.{BoxEnd}
use Rattle.mailbox_core.specs.declared.ends.BoxEnding.{BoxEnding}
use Rattle.mailbox_core.specs.declared.ends.BoxEnding.TheVariants as box
use Rattle.mailbox_core.specs.Files.{box_ending, box_records}
use Rattle.mailbox_core.specs.Laws.{ReadsAreBoxes}
use Rattle.mailbox_core.specs.Reading.{HasReadBox, ReadsSome, ReadsTo, ReadsUntilFull}
use Rattle.mailbox_core.specs.Taking.{AllTaken, NoRoomFor, SomeTaken, TakesTo, first_batch}
use Rattle.sync_words.specs.declared.outcome.Outcome.{Outcome}
use Rattle.sync_words.specs.declared.outcome.Outcome.TheVariants as outcome
use Rattle.sync_words.specs.Outcomes.{came_to}
use Rattle.store_commands.specs.Commit.{SettlesAnew}
use Rattle.file_standing.specs.Standing.{stands}
use Rattle.store_commands.specs.Load.{HasFacts, IsLoaded, LoadKeeps, LoadedBy, MayExtend}
use Rattle.store_commands.specs.Serving.{IsServed, ServesOn, WasLoaded}
use Rattle.store_commands.specs.Show.{LeavesFilesSo}
use Rattle.store_commands.proofs.Stopped.{input_unread, stops_memory, stops_none, stops_too_much}
use Rattle.store_commands.proofs.Stopped.{stops_refused, stops_unread}
use Rattle.mailbox_commands.specs.Tests.{mailbox_test}
use Rattle.mailbox_commands.specs.declared.taking.TheConstants.{MAX_MAIL}
use Rattle.mailbox_commands.specs.Laws.{MailIsBoxed}
use Rattle.store_commands.specs.Running.{DoesErrand, FailsToPrint, LacksRoom, PrintsOut}
use Rattle.store_commands.specs.Running.{RunsErrand}
use Rattle.mailbox_commands.specs.Taking.{HasTakenBytes, HasTakenMail, IsInput, IsMail, IsNextTake}
use Rattle.mailbox_commands.specs.Taking.{IsTooMuch, ReadsNextBatch, lying}
use Rattle.mailbox_commands.specs.Taking.{TellsEnd, in_errand, outcome_at, taken_text}
use Rattle.store_commands.specs.Errands.{running}
use Rattle.store_commands.proofs.Errands.{errand_printed}
use Rattle.store_commands.proofs.Working.{loaded_as_is, work_loaded}

abbrev Batches : Type 0
Batches = List (List Entry)

-- ---- places on the way

module _ (clients : Meaning) (session : ℕ) (P Q : Facts → ℕ → List Record → Batches → Type 0)
    (leads : (f : Facts) (k : ℕ) (rs : List Record) (more : Batches) → P f k rs more
    → Q f k rs more) where
  -- up to a place that has more
  pub takes_map : (f : Facts) (k : ℕ) (rs : List Record) (more : Batches)
      → TakesTo clients session P f k rs more
      → TakesTo clients session Q f k rs more
  takes_map f k [] more at = leads f k [] more at
  takes_map f k (r ∷ rs) more (inl at) = inl (leads f k (r ∷ rs) more at)
  takes_map f k (r ∷ rs) more (inr takes) = inr (record {
    first = takes.first;
    rest = takes.rest;
    is = takes.is;
    takes = takes.takes;
    settled = takes.settled;
    later = takes_map (after_batches f takes.first) (k + 1) rs takes.rest takes.later;
  })

pub all_are_some : (clients : Meaning) (session : ℕ) (f : Facts) (k : ℕ) (rs : List Record)
    (more : Batches)
    → AllTaken f k rs more → SomeTaken clients session f k rs more
all_are_some clients session f k [] more at = at.1
all_are_some clients session f k (r ∷ rs) more at = inl at.1

pub none_is_some : (clients : Meaning) (session : ℕ) (s : StoreValue) (f : Facts) (k : ℕ)
    (rs : List Record)
    (more : Batches) → NoRoomFor session s f k rs more → SomeTaken clients session f k rs more
none_is_some clients session s f k [] more at = absurd at
none_is_some clients session s f k (r ∷ rs) more at = inl at.0

-- the batch for which there was no room
record Lacked (clients : Meaning) (session : ℕ) (s : StoreValue) (f : Facts) (k : ℕ)
    (rs : List Record) (more : Batches)
    : Type 0 where
  next : List Entry
  at : TakesTo clients session (IsNextTake s.state.facts session next) f k rs more
  over : s.limit < needed s next

lacked : (clients : Meaning) (session : ℕ) (s : StoreValue) (f : Facts) (k : ℕ) (rs : List Record)
    (more : Batches)
    → TakesTo clients session (NoRoomFor session s) f k rs more
    → Lacked clients session s f k rs more
lacked clients session s f k [] more at = absurd at
lacked clients session s f k (r ∷ rs) more (inl at) = record {
  next = take_batch s.state.facts session k r;
  at = inl (at.0, refl);
  over = at.1;
}
lacked clients session s f k (r ∷ rs) more (inr takes) =
    let later = lacked clients session s (after_batches f takes.first) (k + 1) rs takes.rest
    takes.later in
    record {
      next = later.next;
      at = inr (record {
        first = takes.first;
        rest = takes.rest;
        is = takes.is;
        takes = takes.takes;
        settled = takes.settled;
        later = later.at;
      });
      over = later.over;
    }

-- ---- the errand

module _ (clients : Meaning) (contact : ℕ) (f : Facts) (rs : List Record) (more : Batches) where
  whole_is_some : ReadsTo clients contact AllTaken f rs more → ReadsSome clients contact f rs more
  whole_is_some reads = inr (record {
    rest = reads.rest;
    is = reads.is;
    later = takes_map clients f.begun AllTaken (SomeTaken clients f.begun)
        (all_are_some clients f.begun) _ _ rs reads.rest
        reads.later;
  })

  full_is_some : (s : StoreValue) → ReadsUntilFull clients contact f s rs more
      → ReadsSome clients contact f rs more
  full_is_some s (inl none) = inl none.0
  full_is_some s (inr reads) = inr (record {
    rest = reads.rest;
    is = reads.is;
    later = takes_map clients f.begun (NoRoomFor f.begun s) (SomeTaken clients f.begun)
        (none_is_some clients f.begun s) _ _
        rs reads.rest reads.later;
  })

  lacks : (bytes : List ℕ) (s : StoreValue) → s.state.facts ≡ after_batches f more
      → rs ≡ box_records bytes
      → ReadsUntilFull clients contact f s rs more
      → LacksRoom (in_errand clients contact bytes) f s more
  lacks bytes s same are (inl none) = record {
    next = first_batch (box_session f.begun contact);
    follows = inl (none.0, refl);
    over = none.1;
  }
  lacks bytes s same are (inr reads) =
      let at = lacked clients f.begun s _ _ rs reads.rest reads.later in
      record {
        next = at.next;
        follows =
            subst (λ (xs : List Record). ReadsNextBatch clients contact xs f more at.next) are
            (inr (record {
              rest = reads.rest;
              is = reads.is;
              later =
                  subst
                  (λ (last : Facts).
                  TakesTo clients f.begun (IsNextTake last f.begun at.next)
                  (after f (entry.Session (box_session f.begun contact))) (takes_of f.takes f.begun)
                  rs reads.rest)
                  same at.at;
            }));
        over = at.over;
      }

module _ (clients : Meaning) (contact : ℕ) (bytes : List ℕ) (s s' : StoreValue)
    (o o' : Outside) where
  abbrev Does : Result (Unit {0}) Outcome → Type 0
  Does r = DoesErrand clients (in_errand clients contact bytes) s s' o o' r

  pub does_all : (end : BoxEnd) → HasReadBox clients contact bytes s s' (Ok end) o o' → Does (Ok tt)
  does_all end has = record {
    more = has.more;
    comes = has.adds.comes;
    some = whole_is_some clients contact s.state.facts (box_records bytes) has.more has.answer.2;
    answer = (has.answer.0, has.answer.1, has.answer.2);
    by = tt;
  }

  pub does_full : HasReadBox clients contact bytes s s' (Err fault.Full) o o'
      → Does (Err outcome.Full)
  does_full has = record {
    more = has.more;
    comes = has.adds.comes;
    some = full_is_some clients contact s.state.facts (box_records bytes) has.more s' has.answer.2;
    answer = (
      has.answer.0,
      lacks clients contact s.state.facts (box_records bytes) has.more bytes s'
          (has.adds.comes.runs.facts has.answer.0) refl
          has.answer.2,
    );
    by = tt;
  }

  pub does_memory : HasReadBox clients contact bytes s s' (Err fault.Memory) o o'
      → Does (Err outcome.Memory)
  does_memory has =
      record { more = has.more; comes = has.adds.comes; some = has.answer.1; answer = tt; by = tt }

  pub does_disk : HasReadBox clients contact bytes s s' (Err fault.DiskFault) o o'
      → CountRose o.disk_faults o'.disk_faults
      → Does (Err outcome.DiskFault)
  does_disk has rose =
      record { more = has.more; comes = has.adds.comes; some = has.answer.1; answer = tt; by = rose }

-- ---- the text

-- what comes of an ending once the text is written
prints_at : (e : BoxEnding) (text : List ℕ) (out out' : Stream) (came : Outcome)
    → came ≡ outcome_at e
    → Appends out.bytes out'.bytes text → PrintsOut (outcome_at e) text out out' came
prints_at box.Clean text out out' came is written =
    subst (λ (x : Outcome). PrintsOut outcome.Done text out out' x) (sym is) (refl, written)
prints_at (box.Inside place) text out out' came is written =
    subst (λ (x : Outcome). PrintsOut (outcome.Inside place) text out out' x) (sym is) (
      refl,
      written,
    )
prints_at (box.Bad place why) text out out' came is written =
    subst (λ (x : Outcome). PrintsOut (outcome.Bad place why) text out out' x) (sym is) (
      refl,
      written,
    )
prints_at (box.NoVersion place) text out out' came is written =
    subst (λ (x : Outcome). PrintsOut (outcome.NoVersion place) text out out' x) (sym is) (
      refl,
      written,
    )

pub prints_end : (e : BoxEnding) (text given : List ℕ) (out out' : Stream) (came : Outcome)
    → came ≡ outcome_at e
    → given ≡ text → Appends out.bytes out'.bytes given
    → PrintsOut (outcome_at e) text out out' came
prints_end e text given out out' came is same written =
    prints_at e text out out' came is
    (subst (λ (t : List ℕ). Appends out.bytes out'.bytes t) same written)

-- the bytes failed to go out
fails_short : (comes : Outcome) (text : List ℕ) (out out' : Stream) (came : Outcome)
    → FailsToPrint text out out' came
    → PrintsOut comes text out out' came
fails_short comes text out out' outcome.WriteFault printed = printed
fails_short comes text out out' outcome.Memory printed = printed
fails_short comes text out out' _ printed = absurd printed

pub prints_failed : (r : Result (Unit {0}) Outcome) (x : Outcome) → IsErrAnd r (λ e. e ≡ x)
    → (comes : Outcome)
    (text given : List ℕ) (out out' : Stream) → given ≡ text → FailsToPrint given out out' x
    → PrintsOut comes text out out' (came_to r)
prints_failed (Ok u) x is comes text given out out' same printed = absurd is
prints_failed (Err e) x is comes text given out out' same printed =
    subst (λ (y : Outcome). PrintsOut comes text out out' y) (sym is)
    (fails_short comes text out out' x
    (subst (λ (t : List ℕ). FailsToPrint t out out' x) same printed))

-- ---- the command

module _ (clients : Meaning) (contact : ℕ) (old new : Outside)
    (input input' out out' : Stream) where
  abbrev Taken : Outcome → Type 0
  Taken came = HasTakenMail clients contact old new input input' out out' came

  -- no store was loaded
  pub taken_none : (came : Outcome) → DiskRun old new
      → ((two : Two File) → old.files ≡ Some two
      → LeavesFilesSo (LoadKeeps (Err came) two) two old new)
      → LoadedBy old new (Err came)
      → ((two : Two File) → old.files ≡ Some two
      → IsLoaded (stands clients (read_files two)) (Err came))
      → IsIdle input input' → IsIdle out out' → Taken came
  taken_none came run rests by loaded unread idle =
      inl (stops_none clients (λ f. mailbox_test f contact) _ old new out out' run idle came rests
      by
      loaded (input_unread _ old new input input' came unread by))

  -- the input was not read whole
  pub taken_unread : (came : Outcome) → IsInput input input' (Err came) → (s : StoreValue)
      → DiskRun old new
      → ((two : Two File) → old.files ≡ Some two
      → LeavesFilesSo (LoadKeeps (Ok s) two) two old new)
      → ((two : Two File) → old.files ≡ Some two → HasFacts (stands clients (read_files two)) s)
      → mailbox_test s.state.facts contact ≡ None → IsIdle out out' → Taken came
  taken_unread outcome.ReadFault reads s run rests loaded tested idle =
      inl (stops_unread clients (λ f. mailbox_test f contact) _ old new out out' run idle s rests
      loaded tested reads)
  taken_unread outcome.TooMuch reads s run rests loaded tested idle =
      inl (stops_too_much clients (λ f. mailbox_test f contact) _ old new out out' run idle s rests
      loaded tested reads)
  taken_unread outcome.Memory reads s run rests loaded tested idle =
      inl (stops_memory clients (λ f. mailbox_test f contact) _ old new out out' run idle s rests
      loaded tt)
  taken_unread _ reads s run rests loaded tested idle = absurd reads

  pub taken_on : (r : Result (Unit {0}) Outcome) (x : Outcome) → IsErrAnd r (λ e. e ≡ x) → Taken x
      → Taken (came_to r)
  taken_on (Ok u) x is taken = absurd is
  taken_on (Err e) x is taken = subst Taken (sym is) taken

-- ---- the law

pub boxed : ReadsAreBoxes → MailIsBoxed
boxed law clients contact bytes j first rest legal settles settled whole =
    let at : facts (j ++ first) ≡ after_batches (facts j) first = facts-append j first in
    let legal1 =
    legal-append clients j first legal (settling_goes_on clients (facts j) first settles) in
    let read = law clients contact (j ++ first) rest (box_records bytes) legal1
    (subst (IsSettled clients) (sym at) settled)
    (subst (λ (f : Facts). ReadsTo clients contact AllTaken f (box_records bytes) rest) (sym at)
    whole) in
    record {
      before = read.before;
      settles =
          settles_then clients j (j ++ first) read.before
          (record { more = first; extends = refl; settling = settles })
          read.settles;
      settled = read.settled;
      hears =
          subst
          (λ (new : Batches).
          HearsAll clients (facts read.before).begun 0 (with_box contact read.before)
          (box_records bytes) new)
          (append_assoc j first rest) read.hears;
    }

-- ---- the whole run behind the loaded store

pub taken_printed : (clients : Meaning) (contact : ℕ) (bytes : List ℕ) (s s1 s2 : StoreValue)
    (o o1 o2 : Outside)
    (out out' : Stream) (u v : Unit {0}) (end : BoxEnd) (came : Outcome) → s.limit ≡ MAX_JOURNAL
    → DiskRun o o1
    → SettlesAnew clients s s1 o o1 (Ok u)
    → DoesErrand clients (in_errand clients contact bytes) s1 s2 o1 o2 (Ok v)
    → TellsEnd bytes end → PrintsOut (outcome_at end.ending) (taken_text end.taken) out out' came
    → RunsErrand clients (in_errand clients contact bytes) s o o2 out out' came
taken_printed clients contact bytes s s1 s2 o o1 o2 out out' u v end came limited run settled does
    tells printed =
    errand_printed clients (in_errand clients contact bytes) s s1 s2 o o1 o2 out out' u v
    (taken_text (length (box_records bytes))) came limited run settled does (λ two1 j1 fits. refl)
    (subst (λ (e : BoxEnding).
    PrintsOut (outcome_at e) (taken_text (length (box_records bytes))) out out' came) tells.1
    (subst (λ (n : ℕ). PrintsOut (outcome_at end.ending) (taken_text n) out out' came) tells.0
    printed))

-- from the files, where the input was read
pub taken_read : (clients : Meaning) (contact : ℕ) (o o1 o2 : Outside)
    (input input' out out' : Stream) (s : StoreValue)
    (items bytes : List ℕ) (came : Outcome) → DiskRun o o1
    → ((two : Two File) → o.files ≡ Some two → LeavesFilesSo (LoadKeeps (Ok s) two) two o o1)
    → MayExtend clients s o1.files
    → mailbox_test s.state.facts contact ≡ None → IsMail input input' items → bytes ≡ items
    → RunsErrand clients (in_errand clients contact bytes) s o1 o2 out out' came
    → HasTakenMail clients contact o o2 input input' out out' came
taken_read clients contact o o1 o2 input input' out out' s items bytes came run rests opened tested
    mail is ran =
    inr (record {
      bytes = bytes;
      reads = subst (IsMail input input') (sym is) mail;
      run = run_then o o1 o2 run ran.run;
      did =
          work_loaded clients (λ f. mailbox_test f contact) (outcome_at (box_ending bytes))
          (λ f. running clients (in_errand clients contact bytes)) o o1 o2 out out' s came run.later
          (λ two files. loaded_as_is two o o1 run files (rests two files)) opened tested ran;
    })

-- ---- a store that is served

-- what was not read leaves it so
pub serves_unread : (clients : Meaning) (s : StoreValue) (o : Outside) (input input' : Stream)
    (came : Outcome) → IsServed clients s o → IsInput input input' (Err came)
    → ServesOn clients s o came
serves_unread clients s o input input' outcome.TooMuch served unread = served
serves_unread clients s o input input' outcome.ReadFault served unread = served
serves_unread clients s o input input' outcome.Memory served unread = served.ready
serves_unread clients s o input input' _ served unread = absurd unread

-- ---- over bytes that lie in memory

lying_mail : (bytes : List ℕ) → length bytes ≤ MAX_MAIL → IsMail (lying bytes) (lying []) bytes
lying_mail bytes short =
    record { consumed = sym (append-nil bytes); at_end = refl; within = short }

-- one byte more than the greatest length
lying_too_much : (bytes : List ℕ) → MAX_MAIL < length bytes
    → IsTooMuch (lying bytes) (lying (drop (MAX_MAIL + 1) bytes))
lying_too_much bytes long =
    let cut : length (take (MAX_MAIL + 1) bytes) ≡ min (MAX_MAIL + 1) (length bytes) =
    length-take (MAX_MAIL + 1) bytes in
    record {
      read = take (MAX_MAIL + 1) bytes;
      consumed = sym (take-append-drop (MAX_MAIL + 1) bytes);
      past = omega (arith, cut, long);
    }

module _ (clients : Meaning) (contact : ℕ) (bytes : List ℕ) (old new : Outside) (out : Stream)
    (s : StoreValue) (was : WasLoaded clients s old new) where
  pub bytes_refused : (why : Refused) → mailbox_test s.state.facts contact ≡ Some why
      → HasTakenBytes clients contact bytes old new out out (outcome.Refused why)
  bytes_refused why tested = record {
    input' = lying bytes;
    unfailing = refl;
    taken =
        inl (stops_refused clients (λ f. mailbox_test f contact) _ old new out out was.run
        (record { same = refl; same_faults = refl }) s was.rests was.facts why tested
        (record { same = refl; same_faults = refl }));
  }

  pub bytes_too_much : mailbox_test s.state.facts contact ≡ None → MAX_MAIL < length bytes
      → HasTakenBytes clients contact bytes old new out out outcome.TooMuch
  bytes_too_much tested long = record {
    input' = lying (drop (MAX_MAIL + 1) bytes);
    unfailing = refl;
    taken =
        inl (stops_too_much clients (λ f. mailbox_test f contact) _ old new out out was.run
        (record { same = refl; same_faults = refl }) s was.rests was.facts tested
        (lying_too_much bytes long));
  }

  pub bytes_taken : (later : Outside) (out' : Stream) (came : Outcome)
      → mailbox_test s.state.facts contact ≡ None → length bytes ≤ MAX_MAIL
      → RunsErrand clients (in_errand clients contact bytes) s new later out out' came
      → HasTakenBytes clients contact bytes old later out out' came
  bytes_taken later out' came tested short ran = record {
    input' = lying [];
    unfailing = refl;
    taken =
        taken_read clients contact old new later (lying bytes) (lying []) out out' s bytes bytes came
        was.run was.rests was.opened tested (lying_mail bytes short) refl ran;
  }
