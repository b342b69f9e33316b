-- Records that are taken one after the other, put together.
use Rattle.std.proofs.Common.{◌≡◌, ℕ, ◌+◌, true, false, cond, List, [], ◌∷◌, ◌++◌, length}
use Rattle.std.proofs.Common.{refl, sym, ◌∙◌, ap, subst, inl, inr, arith, append_assoc, append-nil}
use Rattle.std.proofs.Common.{Some, is_some, Result, Ok, Err, eq-eqb}
use Rattle.std.specs.Prelude.{OnOk}
use Rattle.outside.specs.Outside.{DiskRun, Outside}
use Rattle.sync_ids.specs.Records.{IsRecord}
use Rattle.sync_ids.specs.declared.records.Record.{Record}
use Rattle.session_core.specs.Taking.{take_of}
use Rattle.sync_rules.specs.declared.entries.Entry.{Entry}
use Rattle.sync_rules.specs.declared.entries.Entry.TheVariants as entry
use Rattle.sync_rules.specs.declared.entries.Session.{Session}
use Rattle.sync_rules.specs.Allows.{is_settling_kind}
use Rattle.sync_rules.specs.Clients.{Meaning}
use Rattle.sync_rules.specs.Facts.{Facts, after_all, after_batches, contact_in, session_at}
use Rattle.sync_rules.specs.Facts.{takes_of}
use Rattle.sync_rules.specs.Legal.{Allowed, AllSettling}
use Rattle.sync_rules.specs.Sessions.{taken, taken_from}
use Rattle.sync_rules.specs.Steps.{IsSettled}
use Rattle.sync_rules.specs.Hearing.{take_batch}
use Rattle.sync_rules.proofs.Continuing.{continues_batches}
use Rattle.sync_rules.proofs.StepKinds.{all_settling_only, takes_one}
use Rattle.sync_store.specs.declared.fault.StoreFault.{StoreFault}
use Rattle.sync_store.specs.declared.fault.StoreFault.TheVariants as fault
use Rattle.sync_store.specs.Commits.{needed}
use Rattle.sync_store.specs.Fitting.{ImagesStand}
use Rattle.sync_store.specs.Gathering.{JoinsBehind, SettlesBehind}
use Rattle.sync_store.specs.Groups.{IsGathering}
use Rattle.sync_store.specs.Settling.{SettlesSo}
use Rattle.sync_store.specs.Store.{StoreValue}
use Rattle.mailbox_core.specs.Together.{ComesBehind}
use Rattle.mailbox_core.proofs.Together.{comes_joined, comes_none, comes_steps, comes_then, steps_answer}
use Rattle.mailbox_core.specs.Steps.{HasTakenRecord, IsAt, IsOpenFor, TakesSo, next_on}
use Rattle.mailbox_core.specs.Taking.{SomeTaken, TakesRecord, TakesTo}
use Rattle.mailbox_core.proofs.Joined.{needed_stays}

-- ---- the batch of a record

-- by the session that is found under its number it is that of the definition
pub next_is : (f : Facts) (session : Session) (k : ℕ) (r : Record)
    → session_at f.sessions session.number ≡ Some session
    → take_of f session k r ≡ take_batch f session.number k r
next_is f session k r found =
    ap (λ c. entry.Take session.number k ∷ taken_from f session.number c r)
    (sym (ap contact_in found))

pub take_allowed : (clients : Meaning) (f : Facts) (session k : ℕ) (r : Record) (batch : List Entry)
    → IsSettled clients f
    → is_some (session_at f.sessions session) ≡ true → IsRecord r → k ≡ takes_of f.takes session
    → batch
    ≡ take_batch f session k r
    → Allowed clients f batch
take_allowed clients f session k r batch settled known within numbered is =
    subst (λ (b : List Entry). Allowed clients f b) (sym is) (
      settled,
      record {
        known_session = known;
        numbered = numbered;
        read = r;
        within = within;
        taken_so = refl;
      },
    )

pub take_kind : (f : Facts) (session : Session) (k : ℕ) (r : Record) (batch : List Entry) → batch
    ≡ take_of f session k r
    → is_settling_kind batch ≡ false
take_kind f session k r batch is = ap is_settling_kind is

-- a record more was taken on the session
count_more : (clients : Meaning) (f : Facts) (session k : ℕ) (r : Record) (more : List (List Entry))
    → Allowed clients f
    (take_batch f session k r)
    → TakesRecord clients f session k r more → takes_of (after_batches f more).takes session
    ≡ takes_of f.takes session + 1
count_more clients f session k r more allowed takes =
    let g : Facts = after_all f (take_batch f session k r) in
    ap (λ (bs : List (List Entry)). takes_of (after_batches f bs).takes session) takes.is
    ∙ (ap (λ t. takes_of t session) (all_settling_only clients g takes.settling takes.settles).takes
    ∙ ((takes_one clients f session k (taken f session r) allowed).takes session
    ∙ ap (λ b. cond b (takes_of f.takes session + 1) (takes_of f.takes session))
    (eq-eqb session session refl)))

-- ---- one record

module _ (clients : Meaning) (session k : ℕ) (r : Record) (s s1 : StoreValue) (batch : List Entry)
    (numbered : k ≡ next_on s session)
    (is : batch ≡ take_batch s.state.facts session k r) where
  abbrev its : List Entry
  its = take_batch s.state.facts session (next_on s session) r

  is_its : batch ≡ its
  is_its = is ∙ ap (λ n. take_batch s.state.facts session n r) numbered

  -- its batch did not join those that wait
  not_taken_so : (e : StoreFault) (o o1 : Outside) → IsSettled clients s.state.facts
      → JoinsBehind clients s s1 batch (Err e) o o1 → TakesSo clients session r s s1 [] (Err e)
  not_taken_so fault.Closed o o1 settled joins = absurd joins
  not_taken_so fault.Full o o1 settled joins =
      let same : its ≡ take_batch s1.state.facts session (next_on s session) r =
      ap (λ (f : Facts). take_batch f session (next_on s session) r) (sym joins.1.facts) in
      let sum : needed s1 (take_batch s1.state.facts session (next_on s session) r)
      ≡ needed s batch =
      ap (needed s1) (sym same ∙ sym is_its) ∙ needed_stays s s1 batch joins.1 in (
        joins.2,
        subst (IsSettled clients) (sym joins.1.facts) settled,
        refl,
        omega (arith, sum, joins.1.limit, joins.0),
      )
  not_taken_so fault.Memory o o1 settled joins = (joins.2, inl refl)
  not_taken_so fault.DiskFault o o1 settled joins = (joins.1, inl refl)

  not_taken_by : (e : StoreFault) (o o1 : Outside) → IsSettled clients s.state.facts
      → DiskRun o o1 → JoinsBehind clients s s1 batch (Err e) o o1
      → HasTakenRecord clients session r s s1 (Err e) o o1
  not_taken_by e o o1 settled run joins = record {
    more = [];
    comes = comes_joined clients s s1 batch (Err e) o o1 run joins;
    answer = not_taken_so e o o1 settled joins;
  }

  module _ (s' : StoreValue) (u : Unit {0}) (result : Result (Unit {0}) StoreFault)
      (o o1 o' : Outside) (run : DiskRun o o1) (joins : JoinsBehind clients s s1 batch (Ok u) o o1)
      (gathering : IsGathering clients s1 o1.files) (run' : DiskRun o1 o')
      (steps : SettlesBehind clients s1 s' result o1 o') where
    comes_taken : ComesBehind clients s s' o o' (batch ∷ steps.more)
    comes_taken =
        comes_then clients s s1 s' o o1 o' (batch ∷ []) steps.more joins.1.closed
        (comes_joined clients s s1 batch (Ok u) o o1 run joins)
        (comes_steps clients s1 s' result o1 o' run' gathering steps)

    one : TakesRecord clients s.state.facts session (next_on s session) r (batch ∷ steps.more)
    one = record {
      settling = steps.more;
      is = ap (λ (x : List Entry). x ∷ steps.more) is_its;
      settles =
          subst (λ (x : List Entry). AllSettling clients (after_all s.state.facts x) steps.more)
          is_its
          (subst (λ (f : Facts). AllSettling clients f steps.more) joins.1.facts
          steps.steps.settling);
    }

    taken_so : Allowed clients s.state.facts batch → (a : Result (Unit {0}) StoreFault)
        → SettlesSo clients s' a → TakesSo clients session r s s' (batch ∷ steps.more) a
    taken_so allowed (Ok v) so =
        let may : Allowed clients s.state.facts its =
        subst (λ (b : List Entry). Allowed clients s.state.facts b) is_its allowed in (
          so.0,
          so.1,
          one,
          ap (λ (f : Facts). takes_of f.takes session) (comes_taken.facts so.0)
              ∙ count_more clients s.state.facts session (next_on s session) r
              (batch ∷ steps.more) may one,
        )
    taken_so allowed (Err fault.Closed) so = absurd so
    taken_so allowed (Err fault.Full) so = absurd so
    taken_so allowed (Err fault.Memory) so = (so, inr one)
    taken_so allowed (Err fault.DiskFault) so = (so, inr one)

    taken_by : Allowed clients s.state.facts batch
        → HasTakenRecord clients session r s s' result o o'
    taken_by allowed = record {
      more = batch ∷ steps.more;
      comes = comes_taken;
      answer = taken_so allowed result (steps_answer clients s1 s' result o1 o' steps);
    }

-- the batch of a record may follow
pub take_may : (clients : Meaning) (session : Session) (k : ℕ) (r : Record) (s : StoreValue)
    (o : Outside)
    (batch : List Entry) → IsOpenFor clients session s o
    → IsRecord r → k ≡ next_on s session.number → batch ≡ take_of s.state.facts session k r
    → Allowed clients s.state.facts batch
take_may clients session k r s o batch able within numbered is =
    take_allowed clients s.state.facts session.number k r batch able.settled (ap is_some able.found)
    within numbered
    (is ∙ next_is s.state.facts session k r able.found)

-- no memory was found for it
pub taken_starved : ImagesStand → (clients : Meaning) (session : Session) (r : Record)
    (s : StoreValue) (o : Outside) → IsOpenFor clients session s o
    → HasTakenRecord clients session.number r s s (Err fault.Memory) o o
taken_starved images clients session r s o able = record {
  more = [];
  comes = comes_none clients images s o able.gathering.still_open;
  answer = (able.gathering.still_open, inl refl);
}

module _ (clients : Meaning) (session : Session) (k : ℕ) (r : Record) (s s1 : StoreValue)
    (batch : List Entry) (o o1 : Outside) (able : IsOpenFor clients session s o)
    (numbered : k ≡ next_on s session.number) (is : batch ≡ take_of s.state.facts session k r) where
  -- its batch did not join those that wait
  pub not_taken : (e : StoreFault) → DiskRun o o1 → JoinsBehind clients s s1 batch (Err e) o o1
      → HasTakenRecord clients session.number r s s1 (Err e) o o1
  not_taken e run joins =
      not_taken_by clients session.number k r s s1 batch numbered
      (is ∙ next_is s.state.facts session k r able.found) e o o1 able.settled run joins

  -- it joined them, and its settling behind it
  pub has_taken : (s' : StoreValue) (u : Unit {0}) (result : Result (Unit {0}) StoreFault)
      (o' : Outside) → DiskRun o o1 → JoinsBehind clients s s1 batch (Ok u) o o1
      → IsGathering clients s1 o1.files → Allowed clients s.state.facts batch → DiskRun o1 o'
      → SettlesBehind clients s1 s' result o1 o'
      → HasTakenRecord clients session.number r s s' result o o'
  has_taken s' u result o' run joins gathering allowed run' steps =
      taken_by clients session.number k r s s1 batch numbered
      (is ∙ next_is s.state.facts session k r able.found) s' u result o o1 o' run joins gathering
      run' steps allowed

-- the session goes on behind batches
pub found_later : (f g : Facts) (more : List (List Entry)) (session : Session)
    → g ≡ after_batches f more
    → session_at f.sessions session.number ≡ Some session
    → session_at g.sessions session.number ≡ Some session
found_later f g more session is found =
    subst (λ (h : Facts). session_at h.sessions session.number ≡ Some session) (sym is)
    ((continues_batches f more).same_session session.number session found)

pub still_able : (clients : Meaning) (session : Session) (s s' : StoreValue) (o o' : Outside)
    (more : List (List Entry)) → IsOpenFor clients session s o
    → ComesBehind clients s s' o o' more → s'.closed ≡ false
    → (s'.closed ≡ false → IsGathering clients s' o'.files) → IsSettled clients s'.state.facts
    → IsOpenFor clients session s' o'
still_able clients session s s' o o' more able comes opened gathering settled = record {
  gathering = gathering opened;
  settled = settled;
  found = found_later s.state.facts s'.state.facts more session (comes.facts opened) able.found;
}

pub able_taken : (clients : Meaning) (session : Session) (r : Record) (s s' : StoreValue)
    (o o' : Outside) (result : Result (Unit {0}) StoreFault) → IsOpenFor clients session s o
    → HasTakenRecord clients session.number r s s' result o o'
    → (s'.closed ≡ false → IsGathering clients s' o'.files)
    → OnOk result (IsOpenFor clients session s' o')
able_taken clients session r s s' o o' (Ok u) able has gathering =
    still_able clients session s s' o o' has.more able has.comes has.answer.0 gathering has.answer.1
able_taken clients session r s s' o o' (Err e) able has gathering = tt

-- ---- many records

module _ (clients : Meaning) (session : ℕ) where
  -- nothing is done
  pub none_some : (f : Facts) (k : ℕ) (rs : List Record) → TakesTo clients session
      (SomeTaken clients session) f k rs []
  none_some f k [] = refl
  none_some f k (r ∷ rs) = inl (inl refl)

  pub at_here : (f : Facts) (k : ℕ) (rs : List Record) → TakesTo clients session
      (IsAt f k rs) f k rs []
  at_here f k [] = (refl, refl, refl, refl)
  at_here f k (r ∷ rs) = inl (refl, refl, refl, refl)

  pub one_then : (P : Facts → ℕ → List Record → List (List Entry) → Type 0) (f g : Facts) (k : ℕ)
      (r : Record)
      (rs : List Record) (more : List (List Entry))
      → TakesRecord clients f session k r more → g ≡ after_batches f more → IsSettled clients g
      → TakesTo clients session P g (k + 1) rs []
      → TakesTo clients session P f k (r ∷ rs) more
  one_then P f g k r rs more takes is settled later = inr (record {
    first = more;
    rest = [];
    is = sym (append-nil more);
    takes = takes;
    settled = subst (IsSettled clients) is settled;
    later = subst (λ (h : Facts). TakesTo clients session P h (k + 1) rs []) is later;
  })

  moved : (P : Facts → ℕ → List Record → List (List Entry) → Type 0) (f g : Facts) (k l : ℕ)
      (rs qs : List Record)
      (xs ys : List (List Entry))
      → IsAt g l qs f k rs xs → TakesTo clients session P g l qs ys
      → TakesTo clients session P f k rs (xs ++ ys)
  moved P f g k l rs qs xs ys at t =
      let by_facts : TakesTo clients session P f l qs ys =
      subst (λ (h : Facts). TakesTo clients session P h l qs ys)
      (sym at.0) t in
      let by_number : TakesTo clients session P f k qs ys =
      subst (λ (n : ℕ). TakesTo clients session P f n qs ys)
      (sym at.1) by_facts in
      let by_records : TakesTo clients session P f k rs ys = subst
      (λ (zs : List Record). TakesTo clients session P f k zs ys) (sym at.2) by_number in
      subst (λ (zs : List (List Entry)). TakesTo clients session P f k rs (zs ++ ys)) (sym at.3)
      by_records

  -- what is taken from a place on is taken behind what led there
  pub then_on : (P : Facts → ℕ → List Record → List (List Entry) → Type 0) (f g : Facts) (k l : ℕ)
      (rs qs : List Record)
      (xs ys : List (List Entry))
      → TakesTo clients session (IsAt g l qs) f k rs xs → TakesTo clients session P g l qs ys
      → TakesTo clients session P f k rs (xs ++ ys)
  then_on P f g k l [] qs xs ys a t = moved P f g k l [] qs xs ys a t
  then_on P f g k l (r ∷ rs) qs xs ys (inl at) t = moved P f g k l (r ∷ rs) qs xs ys at t
  then_on P f g k l (r ∷ rs) qs xs ys (inr then) t = inr (record {
    first = then.first;
    rest = then.rest ++ ys;
    is = ap (λ (zs : List (List Entry)). zs ++ ys) then.is ∙ append_assoc then.first then.rest ys;
    takes = then.takes;
    settled = then.settled;
    later = then_on P (after_batches f then.first) g (k + 1) l rs qs then.rest ys then.later t;
  })

  -- as many records were taken as the number went on
  pub counted : (f g : Facts) (k l : ℕ) (rs qs : List Record) (more : List (List Entry))
      → TakesTo clients session
      (IsAt g l qs) f k rs more
      → l + length qs ≡ k + length rs
  counted f g k l [] qs more at =
      let n : k ≡ l = at.1 in let m : 0 ≡ length qs = ap length at.2 in omega (arith, n, m)
  counted f g k l (r ∷ rs) qs more (inl at) =
      let n : k ≡ l = at.1 in
      let m : length (r ∷ rs) ≡ length qs = ap length at.2 in
      omega (arith, n, m)
  counted f g k l (r ∷ rs) qs more (inr then) =
      let n : l + length qs ≡ (k + 1) + length rs = counted (after_batches f then.first) g (k + 1)
      l rs qs then.rest then.later in
      omega (arith, n)
