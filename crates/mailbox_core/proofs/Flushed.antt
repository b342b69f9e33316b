-- A file that is read or written, of which all that waits is added to the journal.
use Rattle.std.proofs.Common.{◌≡◌, ℕ, ◌+◌, true, false, List, [], ◌∷◌, ◌++◌, refl, sym, ap, subst}
use Rattle.std.proofs.Common.{◌∙◌, inl, inr, Result, Ok, Err}
use Rattle.outside.specs.Outside.{Outside}
use Rattle.sync_ids.specs.declared.records.Record.{Record}
use Rattle.sync_rules.specs.declared.entries.Entry.{Entry}
use Rattle.sync_rules.specs.declared.entries.Session.{Session}
use Rattle.sync_rules.specs.Clients.{Meaning}
use Rattle.sync_rules.specs.Facts.{Facts, after_batches}
use Rattle.sync_store.specs.declared.fault.StoreFault.{StoreFault}
use Rattle.sync_store.specs.declared.fault.StoreFault.TheVariants as fault
use Rattle.sync_store.specs.Gathering.{AddsBehind}
use Rattle.sync_store.specs.Store.{IsStore, NoneWaits, StoreValue}
use Rattle.mailbox_core.proofs.Together.{comes_broken, comes_flushed}
use Rattle.mailbox_core.specs.declared.ends.BoxEnd.{BoxEnd}
use Rattle.mailbox_core.specs.Files.{box_records}
use Rattle.mailbox_core.specs.Reading.{HasReadBox, ReadsSo, ReadsSome, ReadsUntilFull}
use Rattle.mailbox_core.specs.Sending.{HasWrittenBox, SendsAll, SendsUntilFull, WritesSo}
use Rattle.mailbox_core.specs.Sending.{WritesSome, WritesUntilFull}
use Rattle.mailbox_core.specs.Steps.{HasAddedBox, HasGatheredBox, HasPutBox, PutsBoxSo}
use Rattle.mailbox_core.specs.Taking.{AllTaken, BeginsThen, NoRoomFor, SomeTaken, TakesTo}

abbrev Batches : Type 0
Batches = List (List Entry)

-- ---- less is said of what was done

begins_map : (L M : Facts → Batches → Type 0) (f : Facts) (session : Session) (more : Batches)
    → ((g : Facts) (rest : Batches) → L g rest → M g rest) → BeginsThen f session more L
    → BeginsThen f session more M
begins_map L M f session more then begins =
    record { rest = begins.rest; is = begins.is; later = then _ begins.rest begins.later }

module _ (clients : Meaning) (session : ℕ) (P Q : Facts → ℕ → List Record → Batches → Type 0)
    (then : (f : Facts) (k : ℕ) (rs : List Record) (more : Batches) → P f k rs more
    → Q f k rs more) where
  takes_map : (f : Facts) (k : ℕ) (rs : List Record) (more : Batches)
      → TakesTo clients session P f k rs more → TakesTo clients session Q f k rs more
  takes_map f k [] more p = then f k [] more p
  takes_map f k (r ∷ rs) more (inl p) = inl (then f k (r ∷ rs) more p)
  takes_map f k (r ∷ rs) more (inr t) = inr (record {
    first = t.first;
    rest = t.rest;
    is = t.is;
    takes = t.takes;
    settled = t.settled;
    later = takes_map (after_batches f t.first) (k + 1) rs t.rest t.later;
  })

all_some : (clients : Meaning) (session : ℕ) (f : Facts) (k : ℕ) (rs : List Record) (more : Batches)
    → AllTaken f k rs more → SomeTaken clients session f k rs more
all_some clients session f k [] more all = all.1
all_some clients session f k (r ∷ rs) more all = inl all.1

full_some : (clients : Meaning) (session : ℕ) (s : StoreValue) (f : Facts) (k : ℕ)
    (rs : List Record) (more : Batches) → NoRoomFor session s f k rs more
    → SomeTaken clients session f k rs more
full_some clients session s f k [] more full = absurd full
full_some clients session s f k (r ∷ rs) more full = inl full.0

until_some : (clients : Meaning) (contact : ℕ) (f : Facts) (s : StoreValue) (rs : List Record)
    (more : Batches) → ReadsUntilFull clients contact f s rs more
    → ReadsSome clients contact f rs more
until_some clients contact f s rs more (inl none) = inl none.0
until_some clients contact f s rs more (inr reads) =
    inr (begins_map _ _ f _ more
    (λ g rest. takes_map clients f.begun (NoRoomFor f.begun s) (SomeTaken clients f.begun)
    (full_some clients f.begun s) g _ rs rest) reads)

-- whatever the answer, some of it was done
reads_some : (clients : Meaning) (contact : ℕ) (bytes : List ℕ) (f : Facts) (s : StoreValue)
    (more : Batches) (result : Result BoxEnd StoreFault)
    → ReadsSo clients contact bytes f s more result
    → ReadsSome clients contact f (box_records bytes) more
reads_some clients contact bytes f s more (Ok end) so =
    inr (begins_map _ _ f _ more
    (λ g rest. takes_map clients f.begun AllTaken (SomeTaken clients f.begun)
    (all_some clients f.begun) g _ (box_records bytes) rest) so.2)
reads_some clients contact bytes f s more (Err fault.Closed) so = absurd so
reads_some clients contact bytes f s more (Err fault.Full) so =
    until_some clients contact f s (box_records bytes) more so.2
reads_some clients contact bytes f s more (Err fault.Memory) so = so.1
reads_some clients contact bytes f s more (Err fault.DiskFault) so = so.1

-- ---- a file that is read

abbrev flushed : StoreValue → StoreValue
flushed s = record s { waiting = 0 ∷ [] }

full_stays : (session : ℕ) (s : StoreValue) (f : Facts) (k : ℕ) (rs : List Record) (more : Batches)
    → NoRoomFor session s f k rs more → NoRoomFor session (flushed s) f k rs more
full_stays session s f k [] more full = full
full_stays session s f k (r ∷ rs) more full = full

until_stays : (clients : Meaning) (contact : ℕ) (f : Facts) (s : StoreValue) (rs : List Record)
    (more : Batches) → ReadsUntilFull clients contact f s rs more
    → ReadsUntilFull clients contact f (flushed s) rs more
until_stays clients contact f s rs more (inl none) = inl none
until_stays clients contact f s rs more (inr reads) =
    inr (begins_map _ _ f _ more
    (λ g rest. takes_map clients f.begun (NoRoomFor f.begun s) (NoRoomFor f.begun (flushed s))
    (full_stays f.begun s) g _ rs rest) reads)

reads_stay : (clients : Meaning) (contact : ℕ) (bytes : List ℕ) (f : Facts) (s : StoreValue)
    (more : Batches) (result : Result BoxEnd StoreFault)
    → ReadsSo clients contact bytes f s more result
    → ReadsSo clients contact bytes f (flushed s) more result
reads_stay clients contact bytes f s more (Ok end) so = so
reads_stay clients contact bytes f s more (Err fault.Closed) so = so
reads_stay clients contact bytes f s more (Err fault.Full) so =
    (so.0, so.1, until_stays clients contact f s (box_records bytes) more so.2)
reads_stay clients contact bytes f s more (Err fault.Memory) so = so
reads_stay clients contact bytes f s more (Err fault.DiskFault) so = so

module _ (clients : Meaning) (contact : ℕ) (bytes : List ℕ) (s : StoreValue) (o : Outside)
    (kept : IsStore s) (still : s.closed ≡ false) (none : NoneWaits s) (s1 : StoreValue)
    (o1 : Outside) (result : Result BoxEnd StoreFault)
    (has : HasGatheredBox clients contact bytes s s1 result o o1) where
  -- a call of the disk had failed
  pub read_closed : s1.closed ≡ true → HasReadBox clients contact bytes s s1 result o o1
  read_closed closed =
      record {
        more = has.more;
        adds = comes_broken clients s o kept still none s1 o1 has.more has.comes closed;
        answer = has.answer;
      }

  pub read_flushed : (s2 : StoreValue) (o2 : Outside) → s1.closed ≡ false → s2 ≡ flushed s1
      → AddsBehind clients s1 s2 o1 o2 [] → HasReadBox clients contact bytes s s2 result o o2
  read_flushed s2 o2 opened is adds =
      record {
        more = has.more;
        adds = comes_flushed clients s o kept still none s1 s2 o1 o2 has.more has.comes opened adds;
        answer =
            subst (λ (v : StoreValue).
            ReadsSo clients contact bytes s.state.facts v has.more result) (sym is)
            (reads_stay clients contact bytes s.state.facts s1 has.more result has.answer);
      }

  -- the disk failed
  pub read_broken : (s2 : StoreValue) (o2 : Outside) → s1.closed ≡ false → s2.closed ≡ true
      → AddsBehind clients s1 s2 o1 o2 []
      → HasReadBox clients contact bytes s s2 (Err fault.DiskFault) o o2
  read_broken s2 o2 opened closed adds =
      record {
        more = has.more;
        adds = comes_flushed clients s o kept still none s1 s2 o1 o2 has.more has.comes opened adds;
        answer = (
          closed,
          reads_some clients contact bytes s.state.facts s1 has.more result has.answer,
        );
      }

-- ---- a file that is written

module _ (clients : Meaning) (contact latency now count : ℕ) where
  writes_some : (f : Facts) (s : StoreValue) (more : Batches) (to : List ℕ)
      (result : Result ℕ StoreFault)
      → PutsBoxSo clients contact latency now count f s more to result
      → WritesSome clients contact latency now count f more
  writes_some f s more to (Ok made) so =
      inr (begins_map _ _ f _ more (λ g rest (all : SendsAll clients g s.state.facts f.begun now count made rest). all.sends) so.2)
  writes_some f s more to (Err fault.Closed) so = absurd so
  writes_some f s more to (Err fault.Full) so = until so.2
    where
      until : WritesUntilFull clients contact latency now count f s more
          → WritesSome clients contact latency now count f more
      until (inl none) = inl none.0
      until (inr begins) =
          inr (begins_map _ _ f _ more (λ g rest (full : SendsUntilFull clients g s f.begun now count rest). full.sends) begins)
  writes_some f s more to (Err fault.Memory) so = so.1
  writes_some f s more to (Err fault.DiskFault) so = so.1

  sends_stay : (f : Facts) (s : StoreValue) (session : ℕ) (more : Batches)
      → SendsUntilFull clients f s session now count more
      → SendsUntilFull clients f (flushed s) session now count more
  sends_stay f s session more full = record {
    sends = full.sends;
    fewer = full.fewer;
    next = full.next;
    due = full.due;
    over = full.over;
  }

  writes_until_stays : (f : Facts) (s : StoreValue) (more : Batches)
      → WritesUntilFull clients contact latency now count f s more
      → WritesUntilFull clients contact latency now count f (flushed s) more
  writes_until_stays f s more (inl none) = inl none
  writes_until_stays f s more (inr begins) =
      inr (begins_map _ _ f _ more (λ g rest. sends_stay g s f.begun rest) begins)

  puts_stay : (f : Facts) (s : StoreValue) (more : Batches) (to : List ℕ)
      (result : Result ℕ StoreFault)
      → PutsBoxSo clients contact latency now count f s more to result
      → PutsBoxSo clients contact latency now count f (flushed s) more to result
  puts_stay f s more to (Ok made) so = so
  puts_stay f s more to (Err fault.Closed) so = so
  puts_stay f s more to (Err fault.Full) so =
      (so.0, so.1, writes_until_stays f s more so.2, so.3)
  puts_stay f s more to (Err fault.Memory) so = so
  puts_stay f s more to (Err fault.DiskFault) so = so

  module _ (s : StoreValue) (o : Outside) (kept : IsStore s) (still : s.closed ≡ false)
      (none : NoneWaits s) (s1 : StoreValue) (o1 : Outside) (to : List ℕ)
      (result : Result ℕ StoreFault)
      (has : HasPutBox clients contact latency now count s s1 to result o o1) where
    -- a call of the disk had failed
    pub put_closed : s1.closed ≡ true
        → HasAddedBox clients contact latency now count s s1 to result o o1
    put_closed closed = record {
      more = has.more;
      adds = comes_broken clients s o kept still none s1 o1 has.more has.comes closed;
      answer = has.answer;
    }

    pub put_flushed : (s2 : StoreValue) (o2 : Outside) → s1.closed ≡ false → s2 ≡ flushed s1
        → AddsBehind clients s1 s2 o1 o2 []
        → HasAddedBox clients contact latency now count s s2 to result o o2
    put_flushed s2 o2 opened is adds = record {
      more = has.more;
      adds = comes_flushed clients s o kept still none s1 s2 o1 o2 has.more has.comes opened adds;
      answer =
          subst (λ (v : StoreValue).
          PutsBoxSo clients contact latency now count s.state.facts v has.more to result) (sym is)
          (puts_stay s.state.facts s1 has.more to result has.answer);
    }

    -- the disk failed
    pub put_broken : (s2 : StoreValue) (o2 : Outside) → s1.closed ≡ false → s2.closed ≡ true
        → AddsBehind clients s1 s2 o1 o2 []
        → HasAddedBox clients contact latency now count s s2 to (Err fault.DiskFault) o o2
    put_broken s2 o2 opened closed adds = record {
      more = has.more;
      adds = comes_flushed clients s o kept still none s1 s2 o1 o2 has.more has.comes opened adds;
      answer = (
        closed,
        writes_some s.state.facts s1 has.more to result has.answer,
        refl,
      );
    }

  -- ---- and its bytes are appended

  module _ (s s2 : StoreValue) (o o2 : Outside) (to bytes : List ℕ) where
    so_failed : (e : StoreFault) (more : Batches)
        → PutsBoxSo clients contact latency now count s.state.facts s2 more bytes (Err e)
        → WritesSo clients contact latency now count s.state.facts s2 more to to (Err e)
    so_failed fault.Closed more so = so
    so_failed fault.Full more so = (so.0, so.1, so.2, refl)
    so_failed fault.Memory more so = (so.0, so.1, refl)
    so_failed fault.DiskFault more so = (so.0, so.1, refl)

    pub box_failed : (e : StoreFault)
        → HasAddedBox clients contact latency now count s s2 bytes (Err e) o o2
        → HasWrittenBox clients contact latency now count s s2 to to (Err e) o o2
    box_failed e has = record {
      more = has.more;
      adds = has.adds;
      answer = so_failed e has.more has.answer;
    }

    -- no memory was found to append the bytes
    pub box_unwritten : (made : ℕ)
        → HasAddedBox clients contact latency now count s s2 bytes (Ok made) o o2
        → HasWrittenBox clients contact latency now count s s2 to to (Err fault.Memory) o o2
    box_unwritten made has = record {
      more = has.more;
      adds = has.adds;
      answer = (
        has.answer.0,
        writes_some s.state.facts s2 has.more bytes (Ok made) has.answer,
        refl,
      );
    }

    pub box_written : (made : ℕ) (to' : List ℕ)
        → HasAddedBox clients contact latency now count s s2 bytes (Ok made) o o2
        → to' ≡ to ++ bytes
        → HasWrittenBox clients contact latency now count s s2 to to' (Ok made) o o2
    box_written made to' has appended = record {
      more = has.more;
      adds = has.adds;
      answer = (
        has.answer.0,
        has.answer.1,
        has.answer.2,
        appended ∙ ap (λ (bs : List ℕ). to ++ bs) has.answer.3,
      );
    }
