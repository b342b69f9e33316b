-- A session that begins, and a file that is read on it.
use Rattle.std.proofs.Common.{◌≡◌, ℕ, ◌<◌, true, false, cond, List, [], ◌∷◌, ◌++◌, length}
use Rattle.std.proofs.Common.{refl, sym, ◌∙◌, ap, subst, inl, inr, arith, Some, None, is_some}
use Rattle.std.proofs.Common.{nat_eq, eq-eqb, eqb-true, Result, Ok, Err}
use Rattle.outside.specs.Outside.{DiskRun, Outside}
use Rattle.record_stream.specs.Reading.{fresh_reader}
use Rattle.sync_ids.specs.declared.records.Record.{Record}
use Rattle.sync_rules.specs.declared.entries.Entry.{Entry}
use Rattle.sync_rules.specs.declared.entries.Entry.TheVariants as entry
use Rattle.sync_rules.specs.declared.entries.Session.{Session}
use Rattle.sync_rules.specs.Clients.{Meaning}
use Rattle.sync_rules.specs.Facts.{Facts, after, after_all, after_batches, session_at, takes_of}
use Rattle.sync_rules.specs.Steps.{IsSettled}
use Rattle.sync_rules.specs.Hearing.{batch_session}
use Rattle.sync_rules.proofs.StepKinds.{settled_stays}
use Rattle.sync_store.specs.declared.fault.StoreFault.{StoreFault}
use Rattle.sync_store.specs.declared.fault.StoreFault.TheVariants as fault
use Rattle.sync_store.specs.Commits.{needed}
use Rattle.sync_store.specs.Fitting.{ImagesStand}
use Rattle.sync_store.specs.Gathering.{JoinsBehind}
use Rattle.sync_store.specs.Groups.{IsGathering}
use Rattle.sync_store.specs.Store.{StoreValue}
use Rattle.mailbox_core.proofs.Together.{comes_joined, comes_none, comes_then}
use Rattle.mailbox_core.specs.declared.ends.BoxEnd.{BoxEnd}
use Rattle.mailbox_core.specs.Files.{box_ending, box_records}
use Rattle.mailbox_core.specs.Reading.{ReadsSo, ReadsTo}
use Rattle.mailbox_core.specs.Steps.{BeginsSo, HasBegunSession, HasGatheredBox, HasReadRest}
use Rattle.mailbox_core.specs.Steps.{IsOpenFor, RecordsLeft, RestSo, left_of, next_on}
use Rattle.mailbox_core.specs.Taking.{AllTaken, NoRoomFor, SomeTaken, TakesTo, first_batch}
use Rattle.mailbox_core.proofs.Joined.{needed_stays}
use Rattle.mailbox_core.proofs.Lefts.{left_first}

abbrev Batches : Type 0
Batches = List (List Entry)

-- ---- a session begins

-- a session that is found in a longer list
found_pushed : (ss : List Session) (x : Session) (n : ℕ) → x.number ≡ n
    → is_some (session_at (ss ++ x ∷ []) n) ≡ true
found_pushed [] x n is = ap (λ b. is_some (cond b (Some x) None)) (eq-eqb x.number n is)
found_pushed (s ∷ ss) x n is =
    elim (nat_eq s.number n) as (λ b. is_some (cond b (Some s) (session_at (ss ++ x ∷ []) n))
    ≡ true) [
      | true ↦ refl
      | false ↦ found_pushed ss x n is
    ]

-- a number under which a session is found is its own
pub numbered_so : (ss : List Session) (n : ℕ) (x : Session) → session_at ss n ≡ Some x
    → x.number ≡ n
numbered_so [] n x e = cc
numbered_so (s ∷ ss) n x e =
    elim (nat_eq s.number n) as (λ b. nat_eq s.number n ≡ b
    → cond b (Some s) (session_at ss n) ≡ Some x → x.number ≡ n) [
      | true ↦ λ is e. let same : s ≡ x =
          cc in ap (λ (y : Session). y.number) (sym same) ∙ eqb-true s.number n is
      | false ↦ λ is e. numbered_so ss n x e
    ] refl e

module _ (clients : Meaning) (contact latency : ℕ) (s s' : StoreValue) (o o' : Outside) where
  abbrev its : List Entry
  its = first_batch (batch_session s.state.facts.begun contact latency)

  -- the batch that was gathered is that of the session
  pub its_joined : (n : ℕ) (batch : List Entry) (result : Result (Unit {0}) StoreFault)
      → batch ≡ first_batch (batch_session n contact latency) → n ≡ s.state.facts.begun
      → JoinsBehind clients s s' batch result o o' → JoinsBehind clients s s' its result o o'
  its_joined n batch result is numbered joins =
      subst (λ (b : List Entry). JoinsBehind clients s s' b result o o')
      (is ∙ ap (λ (k : ℕ). first_batch (batch_session k contact latency)) numbered) joins

  begun_facts : (u : Unit {0}) → JoinsBehind clients s s' its (Ok u) o o' → s'.state.facts
      ≡ after_all s.state.facts its
  begun_facts u joins = joins.1.facts

  -- it is found then
  pub begun_found : (u : Unit {0}) → JoinsBehind clients s s' its (Ok u) o o' → is_some
      (session_at s'.state.facts.sessions s.state.facts.begun) ≡ true
  begun_found u joins =
      ap (λ (f : Facts). is_some (session_at f.sessions s.state.facts.begun)) (begun_facts u joins)
      ∙ found_pushed s.state.facts.sessions (batch_session s.state.facts.begun contact latency)
      s.state.facts.begun refl

  pub has_begun : (u : Unit {0}) (session : Session) → DiskRun o o'
      → JoinsBehind clients s s' its (Ok u) o o'
      → session_at s'.state.facts.sessions s.state.facts.begun ≡ Some session
      → HasBegunSession clients contact latency s s' (Ok session) o o'
  has_begun u session run joins found = record {
    more = its ∷ [];
    comes = comes_joined clients s s' its (Ok u) o o' run joins;
    answer = (
      joins.1.closed,
      refl,
      numbered_so s'.state.facts.sessions s.state.facts.begun session found,
    );
  }

  pub begun_able : (u : Unit {0}) (session : Session) → IsSettled clients s.state.facts
      → JoinsBehind clients s s' its (Ok u) o o'
      → session_at s'.state.facts.sessions s.state.facts.begun ≡ Some session
      → (s'.closed ≡ false → IsGathering clients s' o'.files) → IsOpenFor clients session s' o'
  begun_able u session settled joins found gathering =
      let number : session.number ≡ s.state.facts.begun =
      numbered_so s'.state.facts.sessions s.state.facts.begun session found in
      record {
        gathering = gathering joins.1.closed;
        settled =
            subst (IsSettled clients) (sym (begun_facts u joins))
            (settled_stays clients s.state.facts its refl settled);
        found = ap (session_at s'.state.facts.sessions) number ∙ found;
      }

  not_begun_now : (e : StoreFault) → JoinsBehind clients s s' its (Err e) o o'
      → BeginsSo contact latency s.state.facts s' [] (Err e)
  not_begun_now fault.Closed joins = absurd joins
  not_begun_now fault.Full joins =
      let sum : needed s' its ≡ needed s its = needed_stays s s' its joins.1 in
      let limit : s'.limit ≡ s.limit = joins.1.limit in
      let over : s.limit < needed s its = joins.0 in
      (joins.2, refl, omega (arith, sum, limit, over))
  not_begun_now fault.Memory joins = (joins.2, refl)
  not_begun_now fault.DiskFault joins = (joins.1, refl)

  pub not_begun : (e : StoreFault) → DiskRun o o' → JoinsBehind clients s s' its (Err e) o o'
      → HasBegunSession clients contact latency s s' (Err e) o o'
  not_begun e run joins = record {
    more = [];
    comes = comes_joined clients s s' its (Err e) o o' run joins;
    answer = not_begun_now e joins;
  }

-- no memory was found for it
pub begun_starved : ImagesStand → (clients : Meaning) (contact latency : ℕ) (s : StoreValue)
    (o : Outside) → s.closed ≡ false → HasBegunSession clients contact latency s s
    (Err fault.Memory) o o
begun_starved images clients contact latency s o opened = record {
  more = [];
  comes = comes_none clients images s o opened;
  answer = (opened, refl);
}

-- ---- a file is read on it

module _ (clients : Meaning) (contact : ℕ) (bytes : List ℕ) (s : StoreValue) (o : Outside) where
  -- no memory was found for it
  pub box_starved : ImagesStand → s.closed ≡ false
      → HasGatheredBox clients contact bytes s s (Err fault.Memory) o o
  box_starved images opened = record {
    more = [];
    comes = comes_none clients images s o opened;
    answer = (opened, inl refl);
  }

  not_begun_so : (s' : StoreValue) (more : Batches) (e : StoreFault)
      → IsSettled clients s.state.facts →
      (s'.closed ≡ false → s'.state.facts ≡ after_batches s.state.facts more)
      → BeginsSo contact 1 s.state.facts s' more (Err e)
      → ReadsSo clients contact bytes s.state.facts s' more (Err e)
  not_begun_so s' more fault.Closed settled facts so = so
  not_begun_so s' more fault.Full settled facts so =
      let same : s'.state.facts ≡ s.state.facts =
      facts so.0 ∙ ap (after_batches s.state.facts) so.1 in
      (so.0, subst (IsSettled clients) (sym same) settled, inl (so.1, so.2))
  not_begun_so s' more fault.Memory settled facts so = (so.0, inl so.1)
  not_begun_so s' more fault.DiskFault settled facts so = (so.0, inl so.1)

  pub box_not_begun : (s' : StoreValue) (e : StoreFault) (o' : Outside)
      → IsSettled clients s.state.facts
      → HasBegunSession clients contact 1 s s' (Err e) o o'
      → HasGatheredBox clients contact bytes s s' (Err e) o o'
  box_not_begun s' e o' settled has = record {
    more = has.more;
    comes = has.comes;
    answer = not_begun_so s' has.more e settled has.comes.facts has.answer;
  }

  module _ (s1 s2 : StoreValue) (session : Session) (o1 o2 : Outside)
      (begun : HasBegunSession clients contact 1 s s1 (Ok session) o o1) where
    facts_there : s1.state.facts ≡ after s.state.facts
        (entry.Session (batch_session s.state.facts.begun contact 1))
    facts_there =
        begun.comes.facts begun.answer.0 ∙ ap (after_batches s.state.facts) begun.answer.1

    -- what is taken from there on is taken behind the session
    behind : (P : Facts → ℕ → List Record → Batches → Type 0) (left : RecordsLeft) (rest : Batches)
        → left.records
        ≡ box_records bytes
        → TakesTo clients session.number P s1.state.facts (next_on s1 session.number) left.records
        rest
        → ReadsTo clients contact P s.state.facts (box_records bytes) (begun.more ++ rest)
    behind P left rest same t =
        let number : session.number ≡ s.state.facts.begun = begun.answer.2 in
        let by_number : TakesTo clients s.state.facts.begun P s1.state.facts
        (next_on s1 s.state.facts.begun)
        left.records rest =
        subst (λ (n : ℕ). TakesTo clients n P s1.state.facts (next_on s1 n) left.records rest)
        number t in
        let begins : Facts =
        after s.state.facts (entry.Session (batch_session s.state.facts.begun contact 1)) in
        let by_facts : TakesTo clients s.state.facts.begun P begins
        (takes_of s.state.facts.takes s.state.facts.begun)
        left.records rest =
        subst (λ (f : Facts).
        TakesTo clients s.state.facts.begun P f (takes_of f.takes s.state.facts.begun)
        left.records rest) facts_there by_number in
        record {
          rest = rest;
          is = ap (λ (bs : Batches). bs ++ rest) begun.answer.1;
          later =
              subst (λ (rs : List Record). TakesTo clients s.state.facts.begun P begins
              (takes_of s.state.facts.takes s.state.facts.begun) rs rest) same by_facts;
        }

    whole : left_of fresh_reader bytes
        ≡ record { records = box_records bytes; ending = box_ending bytes }
    whole = left_first bytes

    abbrev From : (Facts → ℕ → List Record → Batches → Type 0) → Batches → Type 0
    From P more =
        TakesTo clients session.number P s1.state.facts (next_on s1 session.number)
        (left_of fresh_reader bytes).records more

    some_behind : (more : Batches) → From (SomeTaken clients session.number) more
        → ReadsTo clients contact (SomeTaken clients s.state.facts.begun) s.state.facts
        (box_records bytes)
        (begun.more ++ more)
    some_behind more t =
        behind (SomeTaken clients s.state.facts.begun) (left_of fresh_reader bytes) more
        (ap (λ (l : RecordsLeft). l.records) whole)
        (subst (λ (n : ℕ). From (SomeTaken clients n) more) begun.answer.2 t)

    full_behind : (more : Batches) → From (NoRoomFor session.number s2) more
        → ReadsTo clients contact (NoRoomFor s.state.facts.begun s2) s.state.facts
        (box_records bytes)
        (begun.more ++ more)
    full_behind more t =
        behind (NoRoomFor s.state.facts.begun s2) (left_of fresh_reader bytes) more
        (ap (λ (l : RecordsLeft). l.records) whole)
        (subst (λ (n : ℕ). From (NoRoomFor n s2) more) begun.answer.2 t)

    reads_so : (more : Batches) (result : Result BoxEnd StoreFault)
        → RestSo clients session.number s1 s2
        (left_of fresh_reader bytes) more result
        → ReadsSo clients contact bytes s.state.facts s2 (begun.more ++ more) result
    reads_so more (Ok end) so = (
      so.0,
      so.1,
      behind AllTaken (left_of fresh_reader bytes) more
          (ap (λ (l : RecordsLeft). l.records) whole) so.2,
      so.3 ∙ ap (λ (l : RecordsLeft). length l.records) whole,
      so.4 ∙ ap (λ (l : RecordsLeft). l.ending) whole,
    )
    reads_so more (Err fault.Closed) so = so
    reads_so more (Err fault.Full) so = (so.0, so.1, inr (full_behind more so.2))
    reads_so more (Err fault.Memory) so = (so.0, inr (some_behind more so.1))
    reads_so more (Err fault.DiskFault) so = (so.0, inr (some_behind more so.1))

    pub box_read : (result : Result BoxEnd StoreFault) → HasReadRest clients session.number s1 s2
        (left_of fresh_reader bytes)
        result o1 o2
        → HasGatheredBox clients contact bytes s s2 result o o2
    box_read result has = record {
      more = begun.more ++ has.more;
      comes = comes_then clients s s1 s2 o o1 o2 begun.more has.more begun.answer.0 begun.comes
          has.comes;
      answer = reads_so has.more result has.answer;
    }

    pub box_read_at : (left : RecordsLeft) (result : Result BoxEnd StoreFault)
        → left ≡ left_of fresh_reader bytes
        → HasReadRest clients session.number s1 s2 left result o1 o2
        → HasGatheredBox clients contact bytes s s2 result o o2
    box_read_at left result is has =
        box_read result (subst (λ (l : RecordsLeft).
        HasReadRest clients session.number s1 s2 l result o1 o2) is has)
