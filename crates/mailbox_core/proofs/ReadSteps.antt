-- The items of a file that are read, one after the other.
use Rattle.std.proofs.Common.{◌≡◌, ℕ, ◌+◌, ◌-◌, ◌≤◌, true, false, cond, List, [], ◌∷◌, ◌++◌, length}
use Rattle.std.proofs.Common.{refl, sym, ◌∙◌, ap, subst, inl, arith, Some, None, Ok, Err}
use Rattle.outside.specs.Outside.{Outside}
use Rattle.sync_ids.specs.declared.records.Record.{Record}
use Rattle.sync_rules.specs.declared.entries.Entry.{Entry}
use Rattle.sync_rules.specs.declared.entries.Session.{Session}
use Rattle.sync_rules.specs.Clients.{Meaning}
use Rattle.sync_rules.specs.Facts.{Facts, after_batches}
use Rattle.sync_rules.specs.Steps.{IsSettled}
use Rattle.sync_store.specs.declared.fault.StoreFault.{StoreFault}
use Rattle.sync_store.specs.declared.fault.StoreFault.TheVariants as fault
use Rattle.sync_store.specs.Fitting.{ImagesStand}
use Rattle.sync_store.specs.Store.{StoreValue}
use Rattle.mailbox_core.specs.Together.{ComesBehind}
use Rattle.mailbox_core.proofs.Together.{comes_none, comes_then}
use Rattle.mailbox_core.specs.declared.ends.BoxEnding.{BoxEnding}
use Rattle.mailbox_core.specs.declared.ends.BoxEnding.TheVariants as box
use Rattle.sync_course.specs.Links.{closes}
use Rattle.mailbox_core.specs.Steps.{HasReadItem, HasReadRest, HasTakenRecord, IsAt, IsOpenFor}
use Rattle.mailbox_core.specs.Steps.{RecordsLeft, StopsSo, TakesSo, next_on}
use Rattle.mailbox_core.specs.Taking.{AllTaken, NoRoomFor, SomeTaken, TakesTo}
use Rattle.mailbox_core.proofs.Lefts.{BehindOne}
use Rattle.mailbox_core.proofs.Taken.{at_here, counted, none_some, one_then, then_on}

abbrev Batches : Type 0
Batches = List (List Entry)

-- ---- one item

module _ (clients : Meaning) (session : ℕ) (s s' : StoreValue) (left left' : RecordsLeft)
    (o o' : Outside) where
  -- a record that does not end the reading was taken
  pub read_one : (place : ℕ) (r : Record) (u : Unit {0}) → BehindOne place r left left'
      → closes r ≡ false
      → HasTakenRecord clients session r s s' (Ok u) o o'
      → HasReadItem clients session s s' left left' (Ok None) o o'
  read_one place r u behind own has =
      let records : left.records ≡ r ∷ left'.records = behind.records
      ∙ ap (λ b. r ∷ cond b [] left'.records) own in
      let facts : s'.state.facts ≡ after_batches s.state.facts has.more =
      has.comes.facts has.answer.0 in
      let here : TakesTo clients session (IsAt s'.state.facts (next_on s' session) left'.records)
      s'.state.facts
      (next_on s session + 1) left'.records [] =
      subst (λ (n : ℕ).
      TakesTo clients session (IsAt s'.state.facts (next_on s' session) left'.records)
      s'.state.facts n left'.records []) has.answer.3
      (at_here clients session s'.state.facts (next_on s' session) left'.records) in
      record {
        more = has.more;
        comes = has.comes;
        answer = (
          has.answer.0,
          subst (λ (rs : List Record).
              TakesTo clients session (IsAt s'.state.facts (next_on s' session) left'.records)
              s.state.facts (next_on s session) rs has.more)
              (sym records)
              (one_then clients session (IsAt s'.state.facts (next_on s' session) left'.records)
              s.state.facts s'.state.facts (next_on s session) r left'.records has.more
              has.answer.2 facts has.answer.1 here),
          behind.ending ∙ ap (λ b. cond b (box.NoVersion place) left'.ending) own,
        );
      }

  -- one that ends it was taken
  pub read_last : (place : ℕ) (r : Record) (u : Unit {0}) → BehindOne place r left left'
      → closes r ≡ true
      → HasTakenRecord clients session r s s' (Ok u) o o'
      → HasReadItem clients session s s' left left'
      (Ok (Some (box.NoVersion place))) o o'
  read_last place r u behind foreign has =
      let records : left.records ≡ r ∷ [] = behind.records
      ∙ ap (λ b. r ∷ cond b [] left'.records) foreign in
      let facts : s'.state.facts ≡ after_batches s.state.facts has.more =
      has.comes.facts has.answer.0 in
      let count : next_on s' session ≡ next_on s session + 1 = has.answer.3 in
      let many : length left.records ≡ 1 = ap length records in
      record {
        more = has.more;
        comes = has.comes;
        answer = (
          has.answer.0,
          subst (λ (rs : List Record).
              TakesTo clients session AllTaken s.state.facts (next_on s session) rs has.more)
              (sym records)
              (one_then clients session AllTaken s.state.facts s'.state.facts (next_on s session)
              r [] has.more has.answer.2 facts has.answer.1 (refl, refl)),
          omega (arith, count, many),
          sym (behind.ending ∙ ap (λ b. cond b (box.NoVersion place) left'.ending) foreign),
        );
      }

  -- one was not taken
  pub read_stopped : (place : ℕ) (r : Record) (e : StoreFault) → BehindOne place r left left'
      → HasTakenRecord clients session r s s' (Err e) o o'
      → HasReadItem clients session s s' left left' (Err e) o o'
  read_stopped place r e behind has = record {
    more = has.more;
    comes = has.comes;
    answer =
        subst (λ (rs : List Record). StopsSo clients session s s' rs has.more e)
        (sym behind.records)
        (stops e has.answer);
  }
    where
      rest : List Record
      rest = cond (closes r) [] left'.records

      stops : (x : StoreFault) → TakesSo clients session r s s' has.more (Err x)
          → StopsSo clients session s s'
          (r ∷ rest) has.more x
      stops fault.Closed so = so
      stops fault.Full so = (so.0, so.1, inl (so.2, so.3))
      stops fault.Memory so = (so.0, inl so.1)
      stops fault.DiskFault so = (so.0, inl so.1)

-- ---- items that take nothing

module _ (images : ImagesStand) (clients : Meaning) (session : Session) (s : StoreValue)
    (left left' : RecordsLeft)
    (o : Outside)
    (able : IsOpenFor clients session s o) where
  -- a skipped one
  pub read_past : left ≡ left' → HasReadItem clients session.number s s left left' (Ok None) o o
  read_past same = record {
    more = [];
    comes = comes_none clients images s o able.gathering.still_open;
    answer = (
      able.gathering.still_open,
      subst (λ (l : RecordsLeft).
          TakesTo clients session.number (IsAt s.state.facts (next_on s session.number) l.records)
          s.state.facts (next_on s session.number) left.records [])
          same (at_here clients session.number s.state.facts (next_on s session.number)
          left.records),
      ap (λ (l : RecordsLeft). l.ending) same,
    );
  }

  -- none is left
  pub read_end : (e : BoxEnding) → left ≡ record { records = []; ending = e }
      → HasReadItem clients session.number s s left left' (Ok (Some e)) o o
  read_end e none =
      let many : length left.records ≡ 0 = ap (λ (l : RecordsLeft). length l.records) none in
      record {
        more = [];
        comes = comes_none clients images s o able.gathering.still_open;
        answer = (
          able.gathering.still_open,
          subst (λ (rs : List Record).
              TakesTo clients session.number AllTaken s.state.facts (next_on s session.number)
              rs [])
              (sym (ap (λ (l : RecordsLeft). l.records) none)) (refl, refl),
          omega (arith, many),
          sym (ap (λ (l : RecordsLeft). l.ending) none),
        );
      }

  -- no memory was found for it
  pub read_starved : HasReadItem clients session.number s s left left' (Err fault.Memory) o o
  read_starved = record {
    more = [];
    comes = comes_none clients images s o able.gathering.still_open;
    answer = (
      able.gathering.still_open,
      none_some clients session.number s.state.facts (next_on s session.number) left.records,
    );
  }

-- ---- one item after the other

-- some items were read, and the reading goes on
pub record Underway (clients : Meaning) (session : ℕ) (s s' : StoreValue) (left left' : RecordsLeft)
    (o o' : Outside)
    : Type 0 where
  pub more : Batches
  pub comes : ComesBehind clients s s' o o' more
  pub still_open : s'.closed ≡ false
  pub came : TakesTo clients session
      (IsAt s'.state.facts (next_on s' session) left'.records) s.state.facts
      (next_on s session) left.records more
  pub same_ending : left.ending ≡ left'.ending

pub way_begins : ImagesStand → (clients : Meaning) (session : Session) (s : StoreValue)
    (left : RecordsLeft) (o : Outside)
    → IsOpenFor clients session s o
    → Underway clients session.number s s left left o o
way_begins images clients session s left o able = record {
  more = [];
  comes = comes_none clients images s o able.gathering.still_open;
  still_open = able.gathering.still_open;
  came = at_here clients session.number s.state.facts (next_on s session.number) left.records;
  same_ending = refl;
}

module _ (clients : Meaning) (session : ℕ) (s0 s s' : StoreValue) (left0 left left' : RecordsLeft)
    (o0 o o' : Outside)
    (way : Underway clients session s0 s left0 left o0 o) where
  onward : (P : Facts → ℕ → List Record → Batches → Type 0) (more : Batches)
      → TakesTo clients session P s.state.facts
      (next_on s session) left.records more
      → TakesTo clients session P s0.state.facts (next_on s0 session) left0.records
      (way.more ++ more)
  onward P more t =
      then_on clients session P s0.state.facts s.state.facts (next_on s0 session)
      (next_on s session)
      left0.records left.records way.more more way.came t

  pub way_goes_on : HasReadItem clients session s s' left left' (Ok None) o o'
      → Underway clients session s0 s' left0 left' o0 o'
  way_goes_on has = record {
    more = way.more ++ has.more;
    comes = comes_then clients s0 s s' o0 o o' way.more has.more way.still_open way.comes has.comes;
    still_open = has.answer.0;
    came = onward (IsAt s'.state.facts (next_on s' session) left'.records) has.more has.answer.1;
    same_ending = way.same_ending ∙ has.answer.2;
  }

  pub way_ends : (e : BoxEnding) → HasReadItem clients session s s' left left' (Ok (Some e)) o o'
      → IsSettled clients s'.state.facts → (taken : ℕ)
      → taken ≡ next_on s' session - next_on s0 session
      → HasReadRest clients session s0 s' left0 (Ok (record { taken = taken; ending = e })) o0 o'
  way_ends e has settled taken is =
      let here : next_on s session + length left.records
      ≡ next_on s0 session + length left0.records =
      counted clients session s0.state.facts s.state.facts (next_on s0 session) (next_on s session)
      left0.records left.records way.more way.came in
      let last : next_on s' session ≡ next_on s session + length left.records = has.answer.2 in
      record {
        more = way.more ++ has.more;
        comes =
            comes_then clients s0 s s' o0 o o' way.more has.more way.still_open way.comes has.comes;
        answer = (
          has.answer.0,
          settled,
          onward AllTaken has.more has.answer.1,
          omega (arith, is, here, last),
          has.answer.3 ∙ sym way.same_ending,
        );
      }

  pub way_within : (e : BoxEnding) → HasReadItem clients session s s' left left' (Ok (Some e)) o o'
      → next_on s0 session
      ≤ next_on s' session
  way_within e has =
      let here : next_on s session + length left.records
      ≡ next_on s0 session + length left0.records =
      counted clients session s0.state.facts s.state.facts (next_on s0 session) (next_on s session)
      left0.records left.records way.more way.came in
      let last : next_on s' session ≡ next_on s session + length left.records = has.answer.2 in
      omega (arith, here, last)

  way_stops_so : (e : StoreFault) (more : Batches)
      → StopsSo clients session s s' left.records more e
      → StopsSo clients session s0 s' left0.records (way.more ++ more) e
  way_stops_so fault.Closed more so = so
  way_stops_so fault.Full more so = (so.0, so.1, onward (NoRoomFor session s') more so.2)
  way_stops_so fault.Memory more so = (so.0, onward (SomeTaken clients session) more so.1)
  way_stops_so fault.DiskFault more so = (so.0, onward (SomeTaken clients session) more so.1)

  pub way_stops : (e : StoreFault) → HasReadItem clients session s s' left left' (Err e) o o'
      → HasReadRest clients session s0 s' left0 (Err e) o0 o'
  way_stops e has = record {
    more = way.more ++ has.more;
    comes = comes_then clients s0 s s' o0 o o' way.more has.more way.still_open way.comes has.comes;
    answer = way_stops_so e has.more has.answer;
  }
