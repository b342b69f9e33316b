-- A settled store that knows a contact still does, behind batches that leave it settled.
use Rattle.std.proofs.Common.{◌≡◌, ◌⊎◌, ℕ, ◌<◌, ◌≤◌, true, false, List, [], ◌∷◌, ◌++◌, refl, sym, ap}
use Rattle.std.proofs.Common.{subst, inl, inr}
use Rattle.std.proofs.Common.{arith, Result, Ok, Err}
use Rattle.std.specs.Prelude.{IsErrAnd}
use Rattle.outside.specs.Outside.{Outside}
use Rattle.outside.specs.declared.limits.TheConstants.{MAX_JOURNAL}
use Rattle.sync_rules.specs.declared.entries.Entry.{Entry}
use Rattle.sync_rules.specs.Clients.{Meaning}
use Rattle.sync_rules.specs.Facts.{Facts, after_all, after_batches}
use Rattle.sync_rules.specs.Steps.{IsSettled}
use Rattle.entry_codec.specs.declared.naming.Format.TheVariants as kind
use Rattle.sync_store.specs.Gathering.{AddsBehind}
use Rattle.sync_store.specs.Groups.{IsGathering}
use Rattle.sync_store.specs.Ready.{IsReady}
use Rattle.sync_store.specs.Store.{IsStore, StoreValue, written_in}
use Rattle.mailbox_core.specs.Together.{ComesInGroups}
use Rattle.sync_store.proofs.Gathered.{gathering_none}
use Rattle.mailbox_core.proofs.Joined.{true≢false}
use Rattle.mailbox_core.proofs.Together.{comes_broken, comes_flushed}
use Rattle.sync_words.specs.declared.outcome.Outcome.{Outcome}
use Rattle.sync_words.specs.declared.outcome.Outcome.TheVariants as outcome
use Rattle.sync_words.specs.Outcomes.{came_to}
use Rattle.store_commands.specs.Commit.{ExtendsBy, StoreStaysReady}
use Rattle.store_commands.specs.Serving.{ServesOn, StaysSettled}
use Rattle.store_commands.proofs.Serving.{serves_by}
use Rattle.sharing_commands.specs.Adding.{AddsFront, AddsSo, GathersFor, GathersFront, KnowsContact}
use Rattle.sharing_commands.specs.Adding.{LacksRoomForTarget, StaysGathering, StaysKnown}
use Rattle.sharing_commands.proofs.Wholes.{front_of}

-- a batch that leaves a settled journal settled, and the contacts
pub record Keeps (clients : Meaning) (f : Facts) (batch : List Entry) : Type 0 where
  pub settled : IsSettled clients f → IsSettled clients (after_all f batch)
  pub contacts : (after_all f batch).contacts ≡ f.contacts

-- a front of one batch has none or it
front_is : (batch : List Entry) (front rest : List (List Entry)) → batch ∷ [] ≡ front ++ rest
    → (front ≡ []) ⊎ (front ≡ batch ∷ [])
front_is batch [] rest whole = inl refl
front_is batch (b ∷ []) rest whole =
    let same : batch ≡ b = cc in
    inr (ap (λ (x : List Entry). x ∷ []) (sym same))
front_is batch (b ∷ d ∷ front) rest whole = cc

-- what is known behind it
record IsKnown (clients : Meaning) (contact : ℕ) (f : Facts) : Type 0 where
  settled : IsSettled clients f
  known : contact < f.contacts

known_behind : (clients : Meaning) (contact : ℕ) (f : Facts) (batch : List Entry)
    (front : List (List Entry)) → (front ≡ []) ⊎ (front ≡ batch ∷ []) → IsKnown clients contact f
    → Keeps clients f batch → IsKnown clients contact (after_batches f front)
known_behind clients contact f batch front (inl none) known keeps =
    subst (λ (bs : List (List Entry)). IsKnown clients contact (after_batches f bs)) (sym none) known
known_behind clients contact f batch front (inr one) known keeps =
    subst (λ (bs : List (List Entry)). IsKnown clients contact (after_batches f bs)) (sym one)
    (record {
      settled = keeps.settled known.settled;
      known = omega (arith, known.known, keeps.contacts);
    })

module _ (clients : Meaning) (s s' : StoreValue) (o o' : Outside) (contact : ℕ) (batch : List Entry)
  where
    known_front : (r : Result (Unit {0}) Outcome) → s'.closed ≡ false
        → GathersFor clients s o contact → Keeps clients s.state.facts batch
        → GathersFront clients s s' o o' (batch ∷ []) r
        → (s'.closed ≡ false → IsGathering clients s' o'.files) → GathersFor clients s' o' contact
    known_front r opened knows keeps added gathering =
        let some = front_of s' (batch ∷ []) added.front r added.answer in
        let behind : IsKnown clients contact s'.state.facts =
        subst (IsKnown clients contact) (sym (added.comes.facts opened))
        (known_behind clients contact s.state.facts batch added.front
        (front_is batch added.front some.rest some.whole)
        (record { settled = knows.settled; known = knows.known }) keeps) in
        record {
          gathering = gathering opened;
          settled = behind.settled;
          known = behind.known;
        }

    pub known_after : (r : Result (Unit {0}) Outcome) → GathersFor clients s o contact
        → Keeps clients s.state.facts batch → GathersFront clients s s' o o' (batch ∷ []) r
        → (s'.closed ≡ false → IsGathering clients s' o'.files)
        → StaysGathering clients s' o' contact r
    known_after (Ok u) knows keeps added gathering =
        known_front (Ok u) added.answer.0 knows keeps added gathering
    known_after (Err outcome.DiskFault) knows keeps added gathering = tt
    known_after (Err outcome.Full) knows keeps added gathering =
        known_front (Err outcome.Full) added.answer.0 knows keeps added gathering
    known_after (Err outcome.Memory) knows keeps added gathering =
        known_front (Err outcome.Memory) added.answer.0 knows keeps added gathering
    known_after (Err _) knows keeps added gathering = absurd added.answer

-- an error that goes on by `?`
pub known_on : (r : Result (Unit {0}) Outcome) (x : Outcome) → IsErrAnd r (λ e. e ≡ x)
    → (clients : Meaning) (s : StoreValue) (o : Outside) (contact : ℕ)
    → StaysGathering clients s o contact (Err x) → StaysGathering clients s o contact r
known_on (Ok u) x is clients s o contact stays = absurd is
known_on (Err e) x is clients s o contact stays =
    subst (λ (y : Outcome). StaysGathering clients s o contact (Err y)) (sym is) stays

-- ---- all that waits is added

abbrev flushed : StoreValue → StoreValue
flushed s = record s { waiting = 0 ∷ [] }

lacks_still : (s : StoreValue) (all front : List (List Entry)) → LacksRoomForTarget s all front
    → LacksRoomForTarget (flushed s) all front
lacks_still s all front lacks =
    record { next = lacks.next; rest = lacks.rest; parts = lacks.parts; over = lacks.over }

adds_still : (s : StoreValue) (all front : List (List Entry)) (r : Result (Unit {0}) Outcome)
    → AddsSo s all front r → AddsSo (flushed s) all front r
adds_still s all front (Ok u) so = so
adds_still s all front (Err outcome.Full) so = (so.0, lacks_still s all front so.1)
adds_still s all front (Err outcome.Memory) so = so
adds_still s all front (Err outcome.DiskFault) so = so
adds_still s all front (Err _) so = absurd so

-- a store that is ready gathers
pub gathers_for : (clients : Meaning) (s : StoreValue) (o : Outside) (contact : ℕ)
    → KnowsContact clients s o contact → GathersFor clients s o contact
gathers_for clients s o contact knows = record {
  gathering = gathering_none clients s o.files knows.is_store knows.ready;
  settled = knows.settled;
  known = knows.known;
}

module _ (clients : Meaning) (s s1 : StoreValue) (o o1 : Outside) (contact : ℕ)
    (all : List (List Entry)) (r : Result (Unit {0}) Outcome)
    (knows : KnowsContact clients s o contact) (has : GathersFront clients s s1 o o1 all r) where
  -- a call of the disk had failed
  pub front_closed : s1.closed ≡ true → AddsFront clients s s1 o o1 all r
  front_closed closed = record {
    front = has.front;
    adds =
        comes_broken clients s o knows.is_store knows.ready.still_open knows.ready.none_waits s1 o1
        has.front has.comes closed;
    answer = has.answer;
  }

  module _ (s2 : StoreValue) (o2 : Outside) (opened : s1.closed ≡ false)
      (adds : AddsBehind clients s1 s2 o1 o2 []) where
    in_groups : ComesInGroups clients s s2 o o2 has.front
    in_groups =
        comes_flushed clients s o knows.is_store knows.ready.still_open knows.ready.none_waits s1 s2
        o1 o2 has.front has.comes opened adds

    pub front_flushed : s2 ≡ flushed s1 → AddsFront clients s s2 o o2 all r
    front_flushed is = record {
      front = has.front;
      adds = in_groups;
      answer =
          subst (λ (v : StoreValue). AddsSo v all has.front r) (sym is)
          (adds_still s1 all has.front r has.answer);
    }

    -- the disk failed
    pub front_broken : s2.closed ≡ true
        → AddsFront clients s s2 o o2 all (Err outcome.DiskFault)
    front_broken closed = record {
      front = has.front;
      adds = in_groups;
      answer = (closed, front_of s1 all has.front r has.answer);
    }

-- the causes, behind calls after which no count fell
pub by_then : (o o1 o2 : Outside) (r : Result (Unit {0}) Outcome) → ExtendsBy o o1 r
    → o1.disk_faults ≤ o2.disk_faults → ExtendsBy o o2 r
by_then o o1 o2 (Ok u) by later = tt
by_then o o1 o2 (Err outcome.Full) by later = tt
by_then o o1 o2 (Err outcome.Memory) by later = tt
by_then o o1 o2 (Err outcome.DiskFault) by later = omega (arith, by, later)
by_then o o1 o2 (Err _) by later = absurd by

-- a store that is not closed gathers
pub gathers_open : (clients : Meaning) (s : StoreValue) (o : Outside) (contact : ℕ)
    (all front : List (List Entry)) (r : Result (Unit {0}) Outcome) → AddsSo s all front r
    → s.closed ≡ false → StaysGathering clients s o contact r → IsGathering clients s o.files
gathers_open clients s o contact all front (Ok u) so opened stays = stays.gathering
gathers_open clients s o contact all front (Err outcome.Full) so opened stays = stays.gathering
gathers_open clients s o contact all front (Err outcome.Memory) so opened stays = stays.gathering
gathers_open clients s o contact all front (Err outcome.DiskFault) so opened stays =
    true≢false s.closed so.0 opened
gathers_open clients s o contact all front (Err _) so opened stays = absurd so

-- what stands of it
pub known_closed : (clients : Meaning) (s : StoreValue) (o : Outside) (contact : ℕ)
    (r : Result (Unit {0}) Outcome) → s.closed ≡ true → StaysGathering clients s o contact r
    → (o0 : Outside) → ExtendsBy o0 o r → StaysKnown clients s o contact r
known_closed clients s o contact (Ok u) closed stays o0 by =
    true≢false s.closed closed stays.gathering.still_open
known_closed clients s o contact (Err outcome.DiskFault) closed stays o0 by = tt
known_closed clients s o contact (Err outcome.Full) closed stays o0 by =
    true≢false s.closed closed stays.gathering.still_open
known_closed clients s o contact (Err outcome.Memory) closed stays o0 by =
    true≢false s.closed closed stays.gathering.still_open
known_closed clients s o contact (Err _) closed stays o0 by = absurd by

known_flushed_so : (clients : Meaning) (s1 s2 : StoreValue) (o1 o2 : Outside) (contact : ℕ)
    → GathersFor clients s1 o1 contact → s2 ≡ flushed s1 → IsReady clients s2 o2.files → IsStore s2
    → KnowsContact clients s2 o2 contact
known_flushed_so clients s1 s2 o1 o2 contact gathers is ready store =
    let same : s2.state.facts ≡ s1.state.facts = ap (λ (v : StoreValue). v.state.facts) is in
    record {
      ready = ready;
      is_store = store;
      settled = subst (λ (f : Facts). IsSettled clients f) (sym same) gathers.settled;
      known = subst (λ (f : Facts). contact < f.contacts) (sym same) gathers.known;
    }

pub known_flushed : (clients : Meaning) (s1 s2 : StoreValue) (o0 o1 o2 : Outside) (contact : ℕ)
    (r : Result (Unit {0}) Outcome) → ExtendsBy o0 o1 r → StaysGathering clients s1 o1 contact r
    → s2 ≡ flushed s1 → IsReady clients s2 o2.files → IsStore s2
    → StaysKnown clients s2 o2 contact r
known_flushed clients s1 s2 o0 o1 o2 contact (Ok u) by stays is ready store =
    known_flushed_so clients s1 s2 o1 o2 contact stays is ready store
known_flushed clients s1 s2 o0 o1 o2 contact (Err outcome.DiskFault) by stays is ready store = tt
known_flushed clients s1 s2 o0 o1 o2 contact (Err outcome.Full) by stays is ready store =
    known_flushed_so clients s1 s2 o1 o2 contact stays is ready store
known_flushed clients s1 s2 o0 o1 o2 contact (Err outcome.Memory) by stays is ready store =
    known_flushed_so clients s1 s2 o1 o2 contact stays is ready store
known_flushed clients s1 s2 o0 o1 o2 contact (Err _) by stays is ready store = absurd by

-- ---- a store that is served

module _ (clients : Meaning) (s : StoreValue) (o0 o : Outside) (contact : ℕ) where
  ready_still : (r : Result (Unit {0}) Outcome) → StaysKnown clients s o contact r → ExtendsBy o0 o r
      → StoreStaysReady clients s o.files r
  ready_still (Ok u) stays by = stays.ready
  ready_still (Err outcome.Full) stays by = stays.ready
  ready_still (Err outcome.Memory) stays by = stays.ready
  ready_still (Err outcome.DiskFault) stays by = tt
  ready_still (Err _) stays by = absurd by

  settled_still : (r : Result (Unit {0}) Outcome) → StaysKnown clients s o contact r
      → ExtendsBy o0 o r → StaysSettled clients s r
  settled_still (Ok u) stays by = stays.settled
  settled_still (Err outcome.Full) stays by = stays.settled
  settled_still (Err outcome.Memory) stays by = tt
  settled_still (Err outcome.DiskFault) stays by = tt
  settled_still (Err _) stays by = absurd by

  pub serves_known : (r : Result (Unit {0}) Outcome) → s.limit ≡ MAX_JOURNAL
      → written_in s ≡ kind.Short → StaysKnown clients s o contact r → ExtendsBy o0 o r
      → ServesOn clients s o (came_to r)
  serves_known r limited short stays by =
      serves_by clients s o o0 r limited short (ready_still r stays by) (settled_still r stays by) by
