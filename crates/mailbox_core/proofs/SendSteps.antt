-- Outputs that are committed one after the other, and a file that is made of them.
use Rattle.std.proofs.Common.{◌≡◌, ℕ, ◌+◌, ◌<◌, ◌≤◌, true, false, cond, List, [], ◌∷◌, ◌++◌, length}
use Rattle.std.proofs.Common.{refl, sym, ◌∙◌, ap, subst, inl, inr, arith, append_assoc, append-nil}
use Rattle.std.proofs.Common.{length-append, Option, Some, None, nat_eq, eq-eqb, Result, Ok, Err}
use Rattle.std.proofs.lemmas.Grind.{flat_map-append}
use Rattle.outside.specs.Outside.{DiskRun, Outside}
use Rattle.record_grammar.specs.Spelling.{spelled, spelling}
use Rattle.sync_ids.specs.declared.records.Record.{Record}
use Rattle.sync_ids.specs.declared.records.Record.TheVariants as record_kind
use Rattle.journal_state.specs.Allowing.{due_of}
use Rattle.sync_rules.specs.declared.entries.Entry.{Entry}
use Rattle.sync_rules.specs.declared.entries.Entry.TheVariants as entry
use Rattle.sync_rules.specs.declared.entries.Out.{Out}
use Rattle.sync_rules.specs.declared.entries.Session.{Session}
use Rattle.sync_rules.specs.Clients.{Meaning}
use Rattle.sync_rules.specs.Facts.{Facts, after, after_all, after_batches, session_at}
use Rattle.sync_rules.specs.Growth.{output_in, output_of}
use Rattle.sync_rules.specs.Legal.{IsDue}
use Rattle.sync_rules.specs.Output.{first_records, out_records}
use Rattle.sync_rules.specs.Steps.{IsSettled}
use Rattle.sync_rules.specs.Hearing.{batch_session}
use Rattle.sync_rules.proofs.StepKinds.{settled_stays}
use Rattle.sync_store.specs.declared.fault.StoreFault.{StoreFault}
use Rattle.sync_store.specs.declared.fault.StoreFault.TheVariants as fault
use Rattle.sync_store.specs.Commits.{needed}
use Rattle.sync_store.specs.Fitting.{ImagesStand}
use Rattle.sync_store.specs.Gathering.{JoinsBehind}
use Rattle.sync_store.specs.Groups.{IsGathering}
use Rattle.sync_store.specs.Store.{IsStore, NoneWaits, StoreValue}
use Rattle.mailbox_core.specs.Together.{ComesBehind}
use Rattle.mailbox_core.proofs.Together.{comes_joined, comes_none, comes_nothing, comes_then}
use Rattle.mailbox_core.specs.Sending.{AreDue, HasWrittenBox, IsSessionQuiet, SendsAll, SendsSome}
use Rattle.mailbox_core.specs.Sending.{SendsUntilFull, WritesSome}
use Rattle.sync_course.specs.LinkTurns.{out_batch}
use Rattle.mailbox_core.specs.Sending.{out_batches}
use Rattle.mailbox_core.specs.Steps.{BeginsSo, CommitsDue, HasBegunSession, HasPut, HasPutAll}
use Rattle.mailbox_core.specs.Steps.{HasPutBox, IsOpenFor, PutsAllSo, PutsBoxSo, PutsSo}
use Rattle.mailbox_core.specs.Taking.{BeginsThen, first_batch}
use Rattle.mailbox_core.proofs.Joined.{needed_stays}
use Rattle.mailbox_core.proofs.Taken.{still_able}

abbrev Batches : Type 0
Batches = List (List Entry)

-- ---- what is due

pub due_is : (clients : Meaning) (f : Facts) (o : Option Session) (now : ℕ) (what : Out) → Some what
    ≡ due_of clients f o now → IsDue clients f o now what
due_is clients f None now what e = cc
due_is clients f (Some s) now what e = sym e

pub quiet_is : (clients : Meaning) (f : Facts) (session : Session) (now : ℕ)
    → session_at f.sessions session.number
    ≡ Some session
    → None ≡ due_of clients f (session_at f.sessions session.number) now
    → IsSessionQuiet clients f session.number now
quiet_is clients f session now found none = record {
  begun = session;
  found = found;
  nothing = sym (none ∙ ap (λ (o : Option Session). due_of clients f o now) found);
}

-- ---- lists of outputs

batches-append : (session now : ℕ) (xs ys : List Out) → out_batches session now (xs ++ ys)
    ≡ out_batches session now xs ++ out_batches session now ys
batches-append session now [] ys = refl
batches-append session now (x ∷ xs) ys =
    ap (λ (bs : Batches). out_batch session now x ∷ bs) (batches-append session now xs ys)

due_push : (clients : Meaning) (f : Facts) (session now : ℕ) (outs : List Out) (what : Out)
    → AreDue clients f session now outs
    → IsDue clients (after_batches f (out_batches session now outs))
    (session_at (after_batches f (out_batches session now outs)).sessions session) now what
    → AreDue clients f session now (outs ++ what ∷ [])
due_push clients f session now [] what all one = (one, tt)
due_push clients f session now (x ∷ outs) what all one =
    (all.0, due_push clients (after f (entry.Out session now x)) session now outs what all.1 one)

output-append : (f : Facts) (session : ℕ) (xs ys : Batches) → output_of f session (xs ++ ys)
    ≡ output_of f session xs ++ output_of (after_batches f xs) session ys
output-append f session [] ys = refl
output-append f session (x ∷ xs) ys =
    ap (λ (rs : List Record). output_in f session x ++ rs)
    (output-append (after_all f x) session xs ys)
    ∙ sym (append_assoc (output_in f session x) (output_of (after_all f x) session xs)
    (output_of (after_batches (after_all f x) xs) session ys))

-- the record of one output
out_adds : (f : Facts) (session now : ℕ) (what : Out) → output_of f session
    (out_batch session now what ∷ [])
    ≡ out_records f.held what
out_adds f session now what =
    append-nil (output_in f session (out_batch session now what))
    ∙ (append-nil (cond (nat_eq session session) (out_records f.held what) [])
    ∙ ap (λ b. cond b (out_records f.held what) []) (eq-eqb session session refl))

-- ---- one output

module _ (clients : Meaning) (session now : ℕ) (s s' : StoreValue) (to to' : List ℕ)
    (o o' : Outside) where
  pub put_made : (u : Unit {0}) (what : Out) → IsDue clients s.state.facts
      (session_at s.state.facts.sessions session)
      now what
      → to' ≡ to ++ spelled (out_records s.state.facts.held what) → DiskRun o o'
      → JoinsBehind clients s s'
      (out_batch session now what) (Ok u) o o'
      → HasPut clients session now s s' to to' (Ok true) o o'
  put_made u what due bytes run joins = record {
    more = out_batch session now what ∷ [];
    comes = comes_joined clients s s' (out_batch session now what) (Ok u) o o' run joins;
    answer = (
      joins.1.closed,
      record { what = what; due = due; is = refl },
      bytes ∙ ap (λ (rs : List Record). to ++ spelled rs)
          (sym (out_adds s.state.facts session now what)),
    );
  }

  put_failed_so : (e : StoreFault) (what : Out) → IsSettled clients s.state.facts
      → IsDue clients s.state.facts (session_at s.state.facts.sessions session) now what
      → JoinsBehind clients s s' (out_batch session now what) (Err e) o o'
      → PutsSo clients session now s s' [] to to' (Err e)
  put_failed_so fault.Closed what settled due joins = absurd joins
  put_failed_so fault.Full what settled due joins =
      let its : List Entry = out_batch session now what in
      let sum : needed s' its ≡ needed s its = needed_stays s s' its joins.1 in
      let limit : s'.limit ≡ s.limit = joins.1.limit in
      let over : s.limit < needed s its = joins.0 in (
        joins.2,
        subst (IsSettled clients) (sym joins.1.facts) settled,
        refl,
        record {
          next = what;
          due =
              subst (λ (f : Facts). IsDue clients f (session_at f.sessions session) now what)
              (sym joins.1.facts) due;
          over = omega (arith, sum, limit, over);
        },
      )
  put_failed_so fault.Memory what settled due joins = (joins.2, refl)
  put_failed_so fault.DiskFault what settled due joins = (joins.1, refl)

  pub put_failed : (e : StoreFault) (what : Out) → IsSettled clients s.state.facts
      → IsDue clients s.state.facts (session_at s.state.facts.sessions session) now what
      → DiskRun o o' → JoinsBehind clients s s' (out_batch session now what) (Err e) o o'
      → HasPut clients session now s s' to to' (Err e) o o'
  put_failed e what settled due run joins = record {
    more = [];
    comes = comes_joined clients s s' (out_batch session now what) (Err e) o o' run joins;
    answer = put_failed_so e what settled due joins;
  }

module _ (images : ImagesStand) (clients : Meaning) (session : Session) (now : ℕ) (s : StoreValue)
    (o : Outside)
    (able : IsOpenFor clients session s o) where
  -- nothing is due
  pub put_none : (to : List ℕ) → None ≡ due_of clients s.state.facts
      (session_at s.state.facts.sessions session.number)
      now
      → HasPut clients session.number now s s to to (Ok false) o o
  put_none to none = record {
    more = [];
    comes = comes_none clients images s o able.gathering.still_open;
    answer = (
      able.gathering.still_open,
      quiet_is clients s.state.facts session now able.found none,
      refl,
      refl,
    );
  }

  -- no memory was found
  pub put_starved : (to to' : List ℕ) → HasPut clients session.number now s s to to'
      (Err fault.Memory) o o
  put_starved to to' = record {
    more = [];
    comes = comes_none clients images s o able.gathering.still_open;
    answer = (able.gathering.still_open, refl);
  }

-- the session goes on behind an output
pub able_put : (clients : Meaning) (session : Session) (now : ℕ) (s s' : StoreValue) (o o' : Outside)
    (u : Unit {0}) (what : Out) → IsOpenFor clients session s o → DiskRun o o'
    → JoinsBehind clients s s' (out_batch session.number now what) (Ok u) o o'
    → (s'.closed ≡ false → IsGathering clients s' o'.files) → IsOpenFor clients session s' o'
able_put clients session now s s' o o' u what able run joins gathering =
    let its : List Entry = out_batch session.number now what in
    still_able clients session s s' o o' (its ∷ []) able
    (comes_joined clients s s' its (Ok u) o o' run joins) joins.1.closed gathering
    (subst (IsSettled clients) (sym joins.1.facts)
    (settled_stays clients s.state.facts its refl able.settled))

-- ---- one output after the other

-- so many outputs were made, and more may follow
pub record Underway (clients : Meaning) (session now : ℕ) (s s' : StoreValue) (to to' : List ℕ)
    (made : ℕ)
    (o o' : Outside) : Type 0 where
  pub outs : List Out
  pub comes : ComesBehind clients s s' o o' (out_batches session now outs)
  pub still_open : s'.closed ≡ false
  pub due : AreDue clients s.state.facts session now outs
  pub counted : made ≡ length outs
  pub bytes : to' ≡ to ++ spelled (output_of s.state.facts session (out_batches session now outs))

pub way_begins : ImagesStand → (clients : Meaning) (session : Session) (now : ℕ) (s : StoreValue)
    (to : List ℕ)
    (o : Outside) → IsOpenFor clients session s o
    → Underway clients session.number now s s to to 0 o o
way_begins images clients session now s to o able = record {
  outs = [];
  comes = comes_none clients images s o able.gathering.still_open;
  still_open = able.gathering.still_open;
  due = tt;
  counted = refl;
  bytes = sym (append-nil to);
}

module _ (clients : Meaning) (session now : ℕ) (s0 s s' : StoreValue) (to0 to to' : List ℕ)
    (made : ℕ)
    (o0 o o' : Outside)
    (way : Underway clients session now s0 s to0 to made o0 o) where
  there : s.state.facts ≡ after_batches s0.state.facts (out_batches session now way.outs)
  there = way.comes.facts way.still_open

  due_more : (what : Out) → IsDue clients s.state.facts
      (session_at s.state.facts.sessions session) now what
      → AreDue clients s0.state.facts session now (way.outs ++ what ∷ [])
  due_more what due =
      due_push clients s0.state.facts session now way.outs what way.due
      (subst (λ (f : Facts). IsDue clients f (session_at f.sessions session) now what) there due)

  made_more : (what : Out) → made + 1 ≡ length (way.outs ++ what ∷ [])
  made_more what =
      let all : length (way.outs ++ what ∷ []) ≡ length way.outs + length (what ∷ []) =
      length-append way.outs
      (what ∷ []) in
      let so : made ≡ length way.outs = way.counted in
      omega (arith, all, so)

  pub way_goes_on : HasPut clients session now s s' to to' (Ok true) o o'
      → Underway clients session now s0 s' to0 to'
      (made + 1) o0 o'
  way_goes_on has =
      let puts : CommitsDue clients s.state.facts session now has.more = has.answer.1 in
      let before : Batches = out_batches session now way.outs in
      let all : before ++ has.more ≡ out_batches session now (way.outs ++ puts.what ∷ []) =
      ap (λ (bs : Batches). before ++ bs) puts.is
      ∙ sym (batches-append session now way.outs (puts.what ∷ [])) in
      record {
        outs = way.outs ++ puts.what ∷ [];
        comes = subst (λ (bs : Batches). ComesBehind clients s0 s' o0 o' bs) all
            (comes_then clients s0 s s' o0 o o' before has.more way.still_open way.comes has.comes);
        still_open = has.answer.0;
        due = due_more puts.what puts.due;
        counted = made_more puts.what;
        bytes =
            has.answer.2
            ∙ (ap (λ (bs : List ℕ). bs ++ spelled (output_of s.state.facts session has.more))
            way.bytes
            ∙ (append_assoc to0 (spelled (output_of s0.state.facts session before))
            (spelled (output_of s.state.facts session has.more))
            ∙ ap (λ (bs : List ℕ). to0 ++ bs)
            (sym (flat_map-append spelling (output_of s0.state.facts session before)
            (output_of s.state.facts session has.more))
            ∙ ap spelled
            (ap (λ (f : Facts). output_of s0.state.facts session before
            ++ output_of f session has.more) there
            ∙ (sym (output-append s0.state.facts session before has.more)
            ∙ ap (output_of s0.state.facts session)
            all)))));
      }

  sends : (most : ℕ) → made ≤ most → SendsSome clients s0.state.facts session now most
      (out_batches session now way.outs)
  sends most few = record {
    outs = way.outs;
    is = refl;
    due = way.due;
    few = let so : made ≡ length way.outs = way.counted in omega (arith, so, few);
  }

  -- as many were made as was asked for
  pub way_full : (most : ℕ) → made ≡ most → IsSettled clients s.state.facts
      → HasPutAll clients session now most s0 s to0 to (Ok made) o0 o
  unfolding sends
  way_full most is settled = record {
    more = out_batches session now way.outs;
    comes = way.comes;
    answer = (
      way.still_open,
      settled,
      record { sends = sends most (omega (arith, is)); counted = way.counted; ends = inl is },
      way.bytes,
    );
  }

  no_more : (more : Batches) → more ≡ []
      → out_batches session now way.outs ++ more ≡ out_batches session now way.outs
  no_more more none =
      ap (λ (bs : Batches). out_batches session now way.outs ++ bs) none
      ∙ append-nil (out_batches session now way.outs)

  -- nothing is due any more
  pub way_ends : (most : ℕ) → made ≤ most → HasPut clients session now s s' to to' (Ok false) o o'
      → IsSettled clients s'.state.facts
      → HasPutAll clients session now most s0 s' to0 to' (Ok made) o0 o'
  unfolding sends
  way_ends most few has settled = record {
    more = out_batches session now way.outs;
    comes = subst (λ (bs : Batches). ComesBehind clients s0 s' o0 o' bs)
        (no_more has.more has.answer.2)
        (comes_then clients s0 s s' o0 o o' (out_batches session now way.outs)
        has.more way.still_open way.comes has.comes);
    answer = (
      has.answer.0,
      settled,
      record { sends = sends most few; counted = way.counted; ends = inr has.answer.1 },
      has.answer.3 ∙ way.bytes,
    );
  }

  sends_none : (most : ℕ) (more : Batches) → made < most → more ≡ []
      → SendsSome clients s0.state.facts session now most
      (out_batches session now way.outs ++ more)
  sends_none most more few none = record {
    outs = way.outs;
    is = no_more more none;
    due = way.due;
    few = let so : made ≡ length way.outs = way.counted in omega (arith, so, few);
  }

  stops_so : (most : ℕ) (e : StoreFault) (more : Batches) → made < most
      → PutsSo clients session now s s' more to to'
      (Err e)
      → PutsAllSo clients session now most s0 s' (out_batches session now way.outs ++ more) to0 to'
      (Err e)
  unfolding sends_none
  stops_so most fault.Closed more few so = so
  stops_so most fault.Full more few so = (
    so.0,
    so.1,
    record {
      sends = sends_none most more few so.2;
      fewer = let made_so : made ≡ length way.outs = way.counted in omega (arith, made_so, few);
      next = so.3.next;
      due = so.3.due;
      over = so.3.over;
    },
  )
  stops_so most fault.Memory more few so = (so.0, sends_none most more few so.1)
  stops_so most fault.DiskFault more few so = (so.0, sends_none most more few so.1)

  pub way_stops : (most : ℕ) (e : StoreFault) → made < most → HasPut clients session now s s' to to'
      (Err e) o o'
      → HasPutAll clients session now most s0 s' to0 to' (Err e) o0 o'
  way_stops most e few has = record {
    more = out_batches session now way.outs ++ has.more;
    comes =
        comes_then clients s0 s s' o0 o o' (out_batches session now way.outs)
        has.more way.still_open way.comes has.comes;
    answer = stops_so most e has.more few has.answer;
  }

-- ---- a file

module _ (clients : Meaning) (contact latency now count : ℕ) (s : StoreValue) (o : Outside) where
  abbrev its : Session
  its = batch_session s.state.facts.begun contact latency

  abbrev begins : Facts
  begins = after s.state.facts (entry.Session its)

  -- no memory was found for it
  pub box_starved : ImagesStand → IsStore s → s.closed ≡ false → NoneWaits s → (to : List ℕ)
      → HasWrittenBox clients contact latency now count s s to to (Err fault.Memory) o o
  box_starved images store opened none to = record {
    more = [];
    adds = comes_nothing clients s o store opened none images;
    answer = (opened, inl refl, refl);
  }

  not_begun_so : (s' : StoreValue) (more : Batches) (to : List ℕ) (e : StoreFault)
      → IsSettled clients s.state.facts →
      (s'.closed ≡ false → s'.state.facts ≡ after_batches s.state.facts more)
      → BeginsSo contact latency s.state.facts s' more (Err e)
      → PutsBoxSo clients contact latency now count s.state.facts s' more to (Err e)
  not_begun_so s' more to fault.Closed settled facts so = so
  not_begun_so s' more to fault.Full settled facts so =
      let same : s'.state.facts ≡ s.state.facts =
      facts so.0 ∙ ap (after_batches s.state.facts) so.1 in
      (so.0, subst (IsSettled clients) (sym same) settled, inl (so.1, so.2), refl)
  not_begun_so s' more to fault.Memory settled facts so = (so.0, inl so.1, refl)
  not_begun_so s' more to fault.DiskFault settled facts so = (so.0, inl so.1, refl)

  pub box_not_begun : (s' : StoreValue) (to : List ℕ) (e : StoreFault) (o' : Outside)
      → IsSettled clients s.state.facts
      → HasBegunSession clients contact latency s s' (Err e) o o'
      → HasPutBox clients contact latency now count s s' to (Err e) o o'
  box_not_begun s' to e o' settled has = record {
    more = has.more;
    comes = has.comes;
    answer = not_begun_so s' has.more to e settled has.comes.facts has.answer;
  }

  module _ (s1 s2 : StoreValue) (session : Session) (o1 o2 : Outside) (first bytes : List ℕ)
      (begun : HasBegunSession clients contact latency s s1 (Ok session) o o1) where
    facts_there : s1.state.facts ≡ begins
    facts_there =
        begun.comes.facts begun.answer.0 ∙ ap (after_batches s.state.facts) begun.answer.1

    -- what is sent from there on is sent behind the session
    behind : (Q : Facts → ℕ → Batches → Type 0) (rest : Batches)
        → Q s1.state.facts session.number rest
        → BeginsThen s.state.facts its (begun.more ++ rest) (λ g later.
        Q g s.state.facts.begun later)
    behind Q rest q = record {
      rest = rest;
      is = ap (λ (bs : Batches). bs ++ rest) begun.answer.1;
      later =
          subst (λ (f : Facts). Q f s.state.facts.begun rest) facts_there
          (subst (λ (n : ℕ). Q s1.state.facts n rest) begun.answer.2 q);
    }

    some_behind : (rest : Batches) → SendsSome clients s1.state.facts session.number now count rest
        → WritesSome clients contact latency now count s.state.facts (begun.more ++ rest)
    some_behind rest q = inr (behind (λ f n later. SendsSome clients f n now count later) rest q)

    -- all that the session sends
    all_sent : (more : Batches) → first ≡ spelling (record_kind.Versions (0 ∷ []))
        → first ++ spelled (output_of s1.state.facts session.number more) ≡ spelled
        (output_of s.state.facts s.state.facts.begun (begun.more ++ more))
    all_sent more versions =
        let n : ℕ = s.state.facts.begun in
        let later : List Record = output_of begins n more in
        let rest : output_of s1.state.facts session.number more ≡ later =
        (λ i. output_of (facts_there i) (begun.answer.2 i) more) in
        let beginning : output_in s.state.facts n (first_batch its) ≡ first_records its =
        append-nil (cond (nat_eq n n) (first_records its) [])
        ∙ ap (λ b. cond b (first_records its) [])
        (eq-eqb n n refl) in
        let whole : output_of s.state.facts n (begun.more ++ more) ≡ first_records its ++ later =
        ap (λ (bs : Batches). output_of s.state.facts n (bs ++ more)) begun.answer.1 ∙ ap
        (λ (rs : List Record). rs ++ later) beginning in
        (λ i. versions i ++ spelled (rest i)) ∙ ap spelled (sym whole)

    puts_so : (more : Batches) (result : Result ℕ StoreFault)
        → first ≡ spelling (record_kind.Versions (0 ∷ []))
        → PutsAllSo clients session.number now count s1 s2 more first bytes result
        → PutsBoxSo clients contact latency now count s.state.facts s2 (begun.more ++ more) bytes
        result
    puts_so more (Ok made) versions a = (
      a.0,
      a.1,
      behind (λ f n later. SendsAll clients f s2.state.facts n now count made later) more a.2,
      a.3 ∙ all_sent more versions,
    )
    puts_so more (Err fault.Closed) versions a = a
    puts_so more (Err fault.Full) versions a = (
      a.0,
      a.1,
      inr (behind (λ f n later. SendsUntilFull clients f s2 n now count later) more a.2),
      refl,
    )
    puts_so more (Err fault.Memory) versions a = (a.0, some_behind more a.1, refl)
    puts_so more (Err fault.DiskFault) versions a = (a.0, some_behind more a.1, refl)

    pub box_put : (result : Result ℕ StoreFault) → first ≡ spelling (record_kind.Versions (0 ∷ []))
        → HasPutAll clients session.number now count s1 s2 first bytes result o1 o2
        → HasPutBox clients contact latency now count s s2 bytes result o o2
    box_put result versions has = record {
      more = begun.more ++ has.more;
      comes = comes_then clients s s1 s2 o o1 o2 begun.more has.more begun.answer.0 begun.comes
          has.comes;
      answer = puts_so has.more result versions has.answer;
    }
