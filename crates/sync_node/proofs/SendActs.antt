-- Outputs that are committed and sent, as steps of a link's turn, and a whole turn.
use Rattle.std.proofs.Common.{◌≡◌, ℕ, zero, suc, ◌+◌, ◌<◌, ◌≤◌, Bool, true, false, cond, nat_eq, List, [], ◌∷◌, ◌++◌, append-nil, length, length-append, refl, sym, ◌∙◌, ap, subst, inl, inr, arith, Option, None, Some, Result, Ok, Err}
use Rattle.std.specs.Prelude.{nat_lt, IfErr, IfOk, IsErrAnd}
use Rattle.std.proofs.lemmas.Bool.{cases_eq, false≢true, lt-ltb, ne_eqb}
use Rattle.entry_codec.specs.Standing.{room_of}
use Rattle.journal_state.specs.Whole.{StateValue}
use Rattle.outside.specs.declared.failed.Failed.{Failed}
use Rattle.outside.specs.declared.limits.TheConstants.{MAX_JOURNAL}
use Rattle.outside.specs.Host.{ReadsClock, SendsOnLink as SendsBytes}
use Rattle.outside.specs.Outside.{Outside, QuietCall}
use Rattle.outside.proofs.RunLaws.{front_same}
use Rattle.record_grammar.specs.Spelling.{spelled}
use Rattle.sync_rules.specs.declared.entries.Entry.{Entry}
use Rattle.sync_rules.specs.declared.entries.Out.{Out}
use Rattle.sync_rules.specs.declared.entries.Session.{Session}
use Rattle.sync_rules.specs.Clients.{Meaning}
use Rattle.sync_rules.specs.Facts.{Facts, Journal, after_all}
use Rattle.sync_rules.specs.Legal.{Allowed}
use Rattle.sync_rules.specs.Output.{out_records}
use Rattle.sync_rules.specs.Steps.{IsSettled}
use Rattle.sync_rules.proofs.StepKinds.{settled_stays}
use Rattle.sync_store.specs.Commits.{needed}
use Rattle.sync_store.specs.Fitting.{ImagesStand}
use Rattle.sync_store.specs.Gathering.{KeepsJournal}
use Rattle.sync_store.specs.Groups.{IsGathering}
use Rattle.sync_store.specs.Ready.{IsReady}
use Rattle.sync_store.specs.Store.{IsStore, StoreValue, format_meant, written_in}
use Rattle.sync_course.specs.Acts.{Act, Does, Fail, Send, batches_in}
use Rattle.sync_course.specs.Events.{Commit, Pass, Read}
use Rattle.sync_course.specs.Links.{is_sent_to}
use Rattle.sync_course.specs.LinkTurns.{Asks, Doing, Done, IsEnough, LinkStep, Puts, Sends, Spot, Waits, out_batch, out_spot}
use Rattle.sync_course.specs.Owing.{Owing, adds_to, paid}
use Rattle.sync_course.specs.declared.TheConstants.{MAX_OUTPUTS}
use Rattle.sync_course.proofs.ActLaws.{batches_in-append}
use Rattle.sync_course.proofs.CallLaws.{step_at}
use Rattle.sync_course.proofs.PathLaws.{path_one, path_push, path_then}
use Rattle.sync_course.proofs.ToldLaws.{told_pass, told_read}
use Rattle.sync_node.specs.declared.fault.Fault.{Fault}
use Rattle.sync_node.specs.declared.link.Link.{Link}
use Rattle.sync_node.specs.Batches.{Flushed, JoinHalts, Joined, StoreStaysIdle}
use Rattle.sync_node.specs.Courses.{IsReadyToSend, link_at, sends_on, spot_at}
use Rattle.sync_node.specs.Did.{Did, UnderwayBreaks}
use Rattle.sync_node.specs.Keeps.{GatherWorks, LinkGathers, LinkKeeps, LinkWorks, StaysGathering, stop_of}
use Rattle.sync_node.specs.Sending.{EndsBy, MaySend, SendsOn, SendsOuts, has_broken, outs_answer}
use Rattle.sync_node.specs.Went.{Makes, Went}
use Rattle.sync_node.specs.Working.{IsAble, MayGather}
use Rattle.sync_node.specs.OnLinks.{DueStopped, DueWent, LinkActs, LinkMakes, LinkStopped, LinkWent, OutsWent, SendingStopped, SendingWent, HearingStopped, HearingWent, TurnWent}
use Rattle.sync_node.specs.OnLinks.{MakesUnder, OutHalted, OutJoined, OutsBroke, OutsHalted, OutsJoined, OutsOver, OutsUnder, owing_on, puts_on}
use Rattle.sync_node.proofs.CauseLaws.{link_kept, link_sent}
use Rattle.sync_node.proofs.KeepLaws.{able_kept, gather_broke, gather_flushed, gathering_then, gathers_left, join_left, memory_keeps, was, work_link, work_then}
use Rattle.sync_node.proofs.OutLaws.{kept_by, may_end, may_not_end, sent_session, still_so}
use Rattle.sync_node.proofs.DidLaws.{did_none, did_then}
use Rattle.sync_node.proofs.LinkActs.{link_does, link_joins, link_no_memory, link_pass, link_stays, link_stops_then}
use Rattle.sync_node.proofs.PrimLaws.{did_fail, did_pass, did_quiet, did_send, off_link, on_link}
use Rattle.sync_node.proofs.UnderLaws.{halted_broken, over_flushed, stopped_broken, under_flushed, under_none, under_passed, under_then}
use Rattle.sync_node.proofs.WentLaws.{has_now}
use Rattle.sync_node.proofs.WorkLaws.{goes_read}
use Rattle.sync_course.specs.Reading.{HasRead}
use Rattle.sync_course.specs.declared.ends.LinkEnd.TheVariants as link_end
use Rattle.sync_node.specs.declared.fault.Fault.TheVariants as fault

-- ---- so many batches

module _ {clients : Meaning} (n : ℕ) {session : ℕ} where
  makes_went : {p q : Spot} {s s' : StoreValue} {o o' : Outside} {count : ℕ}
      → LinkMakes clients n session p q s s' o o' count → LinkWent clients n session p q s s' o o'
  makes_went makes = λ first is. (makes first is).went

  makes_none : {p : Spot} {s : StoreValue} {o : Outside} → LinkMakes clients n session p p s s o o 0
  makes_none {s = s} {o = o} = λ first is. record {
    went = record { acts = []; path = refl; did = did_none clients s o };
    counts = refl;
  }

  makes_joins : {p q r : Spot} {s s1 s' : StoreValue} {o o1 o' : Outside} {a b c : ℕ} → a + b ≡ c
      → LinkMakes clients n session p q s s1 o o1 a → LinkMakes clients n session q r s1 s' o1 o' b
      → LinkMakes clients n session p r s s' o o' c
  makes_joins {p = p} {q = q} {r = r} {s = s} {s1 = s1} {s' = s'} {o = o} {o1 = o1} {o' = o'} {a =
      a} all first second = λ k is.
      let one = first k is in
      let two = second k is in
      record {
        went = record {
          acts = one.went.acts ++ two.went.acts;
          path =
              path_then (LinkActs clients k n) (paid p) (paid q) (paid r) one.went.acts two.went.acts
              one.went.path two.went.path;
          did = did_then one.went.did two.went.did;
        };
        counts =
            ap (λ (l : Journal). length l) (batches_in-append one.went.acts two.went.acts)
            ∙ length-append (batches_in one.went.acts) (batches_in two.went.acts)
            ∙ ap (λ (x : ℕ). x + length (batches_in two.went.acts)) one.counts
            ∙ ap (λ (x : ℕ). a + x) two.counts
            ∙ all;
      }

  -- nothing more is sent in this turn
  makes_sent : (now room : ℕ) (p : Spot) (s : StoreValue) (o : Outside) → p.doing ≡ Sends now room
      → IsEnough clients p.facts session now room
      → LinkMakes clients n session p (record p { doing = Done }) s s o o 0
  makes_sent now room p s o sends enough = λ first is. record {
    went = record {
      acts = Does Pass ∷ [];
      path =
          path_one (LinkActs clients first n) (paid p) (paid (record p { doing = Done })) (Does Pass) (
            tt,
            subst (λ (k : ℕ). LinkStep clients n k p Pass (record p { doing = Done })) is
                (step_at clients n session p (record p { doing = Done }) Pass (Sends now room) sends
                (enough, refl)),
            λ link. refl,
          );
      did = did_pass clients (Does Pass) s o refl (λ link. refl) (told_pass o o refl);
    };
    counts = refl;
  }

  -- a link that is closed
  link_closed : (p : Spot) (s : StoreValue) (o : Outside) → p.doing ≡ Waits
      → is_sent_to p.link.stands ≡ false
      → LinkWent clients n session p (record p { doing = Done }) s s o o
  link_closed p s o waits closed =
      link_pass clients n session p (record p { doing = Done }) s o
      (step_at clients n session p (record p { doing = Done }) Pass Waits waits (closed, refl))

  -- the clock is read
  link_read : (now : ℕ) (p : Spot) (s : StoreValue) (o o' : Outside) → p.doing ≡ Waits
      → is_sent_to p.link.stands ≡ true → QuietCall o o' → ReadsClock now o.links o'.links
      → LinkWent clients n session p (record p { doing = Sends now MAX_OUTPUTS }) s s o o'
  link_read now p s o o' waits sent_to call reads =
      let q : Spot = record p { doing = Sends now MAX_OUTPUTS } in
      link_does clients n session p q (Read n now) s s o o' (λ first link. refl)
      (step_at clients n session p q (Read n now) Waits waits (refl, sent_to, refl))
      (did_quiet clients (Does (Read n now)) s o o' refl (λ link. refl) (goes_read now o o' call reads)
      call reads.same_told (told_read n now o o' reads))

-- ---- bytes that are owed

-- those of one link, and then more of them
owed_then : (n link : ℕ) (bytes more all : List ℕ) → all ≡ bytes ++ more
    → cond (nat_eq n link) all [] ≡ cond (nat_eq n link) bytes [] ++ cond (nat_eq n link) more []
owed_then n link bytes more all is = by (nat_eq n link)
  where
    by : (b : Bool) → cond b all [] ≡ cond b bytes [] ++ cond b more []
    by true = is
    by false = refl

-- those of one link go out
owed_out : (n link : ℕ) (bytes : List ℕ)
    → [] ≡ cond (nat_eq n link) [] (cond (nat_eq n link) bytes [])
owed_out n link bytes = by (nat_eq n link)
  where
    by : (b : Bool) → [] ≡ cond b [] (cond b bytes [])
    by true = refl
    by false = refl

-- none
none_owed : (n link : ℕ) → cond {A = List ℕ} (nat_eq n link) [] [] ≡ []
none_owed n link = by (nat_eq n link)
  where
    by : (b : Bool) → cond {A = List ℕ} b [] [] ≡ []
    by true = refl
    by false = refl

-- ---- one output

module _ (clients : Meaning) (n now : ℕ) (what : Out) (l : Link) (s : StoreValue)
    (allowed : Allowed clients s.state.facts (out_batch l.session.number now what)) where
  -- the batch of the output
  abbrev its_batch : List Entry
  its_batch = out_batch l.session.number now what

  -- the bytes of the output
  abbrev its_bytes : List ℕ
  its_bytes = spelled (out_records s.state.facts.held what)

  abbrev due_at : List ℕ → Bool → ℕ → Spot
  due_at heard moved room = spot_at (Sends now (suc room)) l heard moved s.state.facts

  abbrev put_at : List ℕ → Bool → ℕ → Spot
  put_at heard moved room = out_spot now room its_batch (due_at heard moved room)

  -- what the batch adds is owed on its link
  adds_out : (first : ℕ) → l.session.number ≡ first + n → (link : ℕ)
      → adds_to s.state.facts first (Commit its_batch) link ≡ cond (nat_eq n link) its_bytes []
  adds_out first at link = elim (cases_eq link n) [
    | inl same ↦
        subst (λ (k : ℕ). adds_to s.state.facts first (Commit its_batch) k ≡ cond (nat_eq n k) its_bytes [])
        (sym same)
        (ap spelled (append-nil _
        ∙ on_link l.session.number (first + n) (out_records s.state.facts.held what) at)
        ∙ sym (on_link n n its_bytes refl))
    | inr other ↦
        ap spelled (append-nil _
        ∙ off_link l.session.number (first + link) (out_records s.state.facts.held what)
        (λ same. other (omega (arith, same, at))))
        ∙ sym (off_link n link its_bytes (λ same. other (sym same)))
  ]

  out_step : (first : ℕ) → l.session.number ≡ first + n → (heard : List ℕ) (moved : Bool)
      (room : ℕ) (bytes bytes' : List ℕ) → bytes' ≡ bytes ++ its_bytes
      → LinkActs clients first n (owing_on n bytes (due_at heard moved room))
      (Does (Commit its_batch)) (owing_on n bytes' (put_at heard moved room))
  out_step first at heard moved room bytes bytes' is = (
    tt,
    subst (λ (k : ℕ). LinkStep clients n k (due_at heard moved room)
        (Commit its_batch) (put_at heard moved room)) at
        (record { what = what; is = refl; is_due = allowed.2; allowed = allowed; leads = refl }),
    λ link.
        owed_then n link bytes its_bytes bytes' is
        ∙ ap (λ (l : List ℕ). cond (nat_eq n link) bytes [] ++ l) (sym (adds_out first at link)),
  )

  -- behind an output that was committed the next may be, while its bytes are owed
  again_step : (first : ℕ) → l.session.number ≡ first + n → (heard : List ℕ) (moved : Bool)
      (room : ℕ) (bytes : List ℕ)
      → LinkActs clients first n
      (owing_on n bytes (spot_at (Puts now (suc room)) l heard moved s.state.facts))
      (Does Pass) (owing_on n bytes (due_at heard moved room))
  again_step first at heard moved room bytes =
      (tt, refl, λ link. sym (append-nil (cond (nat_eq n link) bytes [])))

  module _ (s1 : StoreValue) (o o1 : Outside) (joins : Joined clients its_batch s s1 o o1) where
    facts_are : after_all s.state.facts its_batch ≡ s1.state.facts
    facts_are = sym joins.facts

    goes_out : (made : ℕ) (bytes bytes' : List ℕ) → bytes' ≡ bytes ++ its_bytes
        → (heard : List ℕ) (moved : Bool) (room first : ℕ) → l.session.number ≡ first + n
        → MakesUnder clients (LinkActs clients first n)
        (owing_on n bytes (spot_at (puts_on now (suc room) made) l heard moved s.state.facts))
        (owing_on n bytes' (spot_at (Puts now room) l heard true s1.state.facts)) s s1 o o1 1
    goes_out zero bytes bytes' is heard moved room first at =
        subst (λ (f : Facts). MakesUnder clients (LinkActs clients first n)
        (owing_on n bytes (due_at heard moved room))
        (owing_on n bytes' (spot_at (Puts now room) l heard true f)) s s1 o o1 1) facts_are
        (record {
          goes = record {
            acts = Does (Commit its_batch) ∷ [];
            path = (
              owing_on n bytes' (put_at heard moved room),
              out_step first at heard moved room bytes bytes' is,
              refl,
            );
            under = joins.under;
          };
          counts = refl;
        })
    goes_out (suc made) bytes bytes' is heard moved room first at =
        subst (λ (f : Facts). MakesUnder clients (LinkActs clients first n)
        (owing_on n bytes (spot_at (Puts now (suc room)) l heard moved s.state.facts))
        (owing_on n bytes' (spot_at (Puts now room) l heard true f)) s s1 o o1 1) facts_are
        (record {
          goes = record {
            acts = Does Pass ∷ (Does (Commit its_batch) ∷ []);
            path = (
              owing_on n bytes (due_at heard moved room),
              again_step first at heard moved room bytes,
              (
                owing_on n bytes' (put_at heard moved room),
                out_step first at heard moved room bytes bytes' is,
                refl,
              ),
            );
            under = under_passed joins.under;
          };
          counts = refl;
        })

    pub out_joined : (made made' : ℕ) (bytes bytes' : List ℕ) → made' ≡ suc made
        → bytes' ≡ bytes ++ its_bytes
        → OutJoined now made bytes made' bytes' clients n l l s s1 o o1 tt
    out_joined made made' bytes bytes' one is =
        record { one_more = one; goes = goes_out made bytes bytes' is }

  pub out_halted : (made : ℕ) (bytes bytes' : List ℕ) → bytes' ≡ bytes → (s' : StoreValue)
      (o o' : Outside) (e : Fault) → JoinHalts clients its_batch s s' o o' e
      → OutHalted now made bytes made bytes' clients n l l s s' o o' e
  out_halted made bytes bytes' same s' o o' e halts = record {
    same_made = refl;
    same_bytes = same;
    what = what;
    allowed = allowed;
    halts = halts;
  }

  -- memory was wanting before it was committed
  pub out_starved : ImagesStand → (o : Outside) → IsGathering clients s o.files → (made : ℕ)
      (bytes bytes' : List ℕ) → bytes' ≡ bytes
      → OutHalted now made bytes made bytes' clients n l l s s o o fault.Memory
  out_starved images o waits made bytes bytes' same =
      out_halted made bytes bytes' same s o o fault.Memory
      (record { under = under_none images clients s o; facts = refl; waits = waits })

  -- what committing it keeps
  pub out_keeps : (s1 : StoreValue) (o o1 : Outside) → IsSettled clients s.state.facts
      → Joined clients its_batch s s1 o o1 → LinkGathers clients n l l s s1 o o1 None
  out_keeps s1 o o1 settled joins = record {
    link = link_kept joins.under.goes refl refl;
    store = record {
      same_limit = joins.under.limit;
      same_format = joins.under.format;
      answered = record {
        waits = joins.waits;
        settled =
            subst (λ (f : Facts). IsSettled clients f) (sym joins.facts)
            (settled_stays clients s.state.facts its_batch refl settled);
        same_sessions = ap (λ (f : Facts). f.sessions) joins.facts;
        same_begun = ap (λ (f : Facts). f.begun) joins.facts;
      };
    };
  }

  pub out_halt_keeps : (s' : StoreValue) (o o' : Outside) (e : Fault)
      → JoinHalts clients its_batch s s' o o' e → LinkGathers clients n l l s s' o o' (Some e)
  out_halt_keeps s' o o' e halts =
      let left = join_left clients its_batch s s' o o' e halts in
      record {
        link = link_kept left.goes refl refl;
        store = gathers_left (StaysGathering clients s s' o') clients s s' o o' e left;
      }

-- ---- outputs, one behind the other

-- where a link may be sent on, it goes on sending
goes_on : (now room : ℕ) (l : Link) → is_sent_to l.end ≡ true
    → sends_on now room l ≡ Sends now room
goes_on now room l open_is = ap (λ (b : Bool). cond b (Sends now room) Done) open_is

-- nothing is owed where no bytes are
nil_owing : {P : Type 0} (n : ℕ) (p : P) → owing_on n [] p ≡ paid p
nil_owing n p = λ i. record { at = p; owed = λ link. none_owed n link i }

makes_under_then : {P : Type 0} (clients : Meaning) (step : P → Act → P → Type 0) (p q r : P)
    (s s1 s2 : StoreValue) (o o1 o2 : Outside) (a b : ℕ)
    → MakesUnder clients step p q s s1 o o1 a → MakesUnder clients step q r s1 s2 o1 o2 b
    → MakesUnder clients step p r s s2 o o2 (a + b)
makes_under_then clients step p q r s s1 s2 o o1 o2 a b first second = record {
  goes = record {
    acts = first.goes.acts ++ second.goes.acts;
    path = path_then step p q r first.goes.acts second.goes.acts first.goes.path second.goes.path;
    under = under_then first.goes.under second.goes.under;
  };
  counts =
      ap (λ (l : Journal). length l) (batches_in-append first.goes.acts second.goes.acts)
      ∙ length-append (batches_in first.goes.acts) (batches_in second.goes.acts)
      ∙ ap (λ (x : ℕ). x + length (batches_in second.goes.acts)) first.counts
      ∙ ap (λ (x : ℕ). a + x) second.counts;
}

idle_stays : (clients : Meaning) (s s' : StoreValue) (o o' : Outside)
    → IsSettled clients s.state.facts → StoreStaysIdle clients s s' o o'
    → StaysGathering clients s s' o'
idle_stays clients s s' o o' settled idle = record {
  waits = idle.waits;
  settled = subst (λ (f : Facts). IsSettled clients f) (sym idle.facts) settled;
  same_sessions = ap (λ (f : Facts). f.sessions) idle.facts;
  same_begun = ap (λ (f : Facts). f.begun) idle.facts;
}

-- the room for a further output
room_left : (now made room : ℕ) → room + made ≡ MAX_OUTPUTS → made < MAX_OUTPUTS
    → (left : ℕ) × (room ≡ suc left)
room_left now made zero rest less = absurd (omega (arith, rest, less))
room_left now made (suc left) rest less = (left, refl)

moves : (made : ℕ) (moved : Bool) → cond (nat_lt 0 (suc made)) true moved ≡ true
moves made moved =
    ap (λ (b : Bool). cond b true moved) (lt-ltb 0 (suc made) (omega arith))

module _ (clients : Meaning) (n now : ℕ) (l : Link) (s : StoreValue) (o : Outside) where
  -- where outputs are to be made at this reading
  abbrev outs_from : List ℕ → Bool → Owing Spot
  outs_from heard moved = paid (spot_at (Sends now MAX_OUTPUTS) l heard moved s.state.facts)

  outs_nothing : ImagesStand → MayGather clients n l.session s o
      → OutsUnder now 0 [] clients n l s s o o
  outs_nothing images may = record {
    room = MAX_OUTPUTS;
    rest = omega arith;
    none = λ is. refl;
    stays = record {
      waits = may.waits;
      settled = may.settled;
      same_sessions = refl;
      same_begun = refl;
    };
    goes = λ heard moved first at.
        subst (λ (q : Owing Spot). MakesUnder clients (LinkActs clients first n)
        (outs_from heard moved) q s s o o 0)
        (sym (nil_owing n (spot_at (Sends now MAX_OUTPUTS) l heard moved s.state.facts)))
        (record {
          goes = record { acts = []; path = refl; under = under_none images clients s o };
          counts = refl;
        });
  }

  pub outs_begin : ImagesStand → MayGather clients n l.session s o → (made : ℕ) (bytes : List ℕ)
      → made ≡ 0 → bytes ≡ [] → OutsUnder now made bytes clients n l s s o o
  outs_begin images may made bytes none no_bytes =
      subst (λ (k : ℕ). OutsUnder now k bytes clients n l s s o o) (sym none)
      (subst (λ (bs : List ℕ). OutsUnder now 0 bs clients n l s s o o) (sym no_bytes)
      (outs_nothing images may))

  module _ (made : ℕ) (bytes : List ℕ) (s1 : StoreValue) (o1 : Outside)
      (a : OutsUnder now made bytes clients n l s s1 o o1) where
    module _ (less : made < MAX_OUTPUTS) where
      abbrev left : ℕ
      left = (room_left now made a.room a.rest less).0

      -- the place behind them, with room for one more
      abbrev outs_at : List ℕ → Bool → Owing Spot
      outs_at heard moved =
          owing_on n bytes (spot_at (puts_on now (suc left) made) l heard moved s1.state.facts)

      outs_there : (heard : List ℕ) (moved : Bool) (first : ℕ) → l.session.number ≡ first + n
          → MakesUnder clients (LinkActs clients first n) (outs_from heard moved)
          (outs_at heard (cond (nat_lt 0 made) true moved)) s s1 o o1 made
      outs_there heard moved first at =
          subst (λ (room : ℕ). MakesUnder clients (LinkActs clients first n) (outs_from heard moved)
          (owing_on n bytes (spot_at (puts_on now room made) l heard
          (cond (nat_lt 0 made) true moved) s1.state.facts)) s s1 o o1 made)
          (room_left now made a.room a.rest less).1 (a.goes heard moved first at)

      -- one more
      outs_more : (bytes' : List ℕ) (s2 : StoreValue) (o2 : Outside)
          → StaysGathering clients s1 s2 o2
          → OutJoined now made bytes (suc made) bytes' clients n l l s1 s2 o1 o2 tt
          → OutsUnder now (suc made) bytes' clients n l s s2 o o2
      outs_more bytes' s2 o2 stays b = record {
        room = left;
        rest = omega (arith, a.rest, (room_left now made a.room a.rest less).1);
        none = λ never. absurd (omega (arith, never));
        stays = gathering_then clients s s1 s2 o1 o2 a.stays stays;
        goes = λ heard moved first at.
            let moved1 : Bool = cond (nat_lt 0 made) true moved in
            let step = LinkActs clients first n in
            let to : Bool → Owing Spot =
            λ b. owing_on n bytes' (spot_at (Puts now left) l heard b s2.state.facts) in
            let more : made + 1 ≡ suc made = omega arith in
            subst (λ (k : ℕ). MakesUnder clients step (outs_from heard moved)
            (to (cond (nat_lt 0 (suc made)) true moved)) s s2 o o2 k) more
            (subst (λ (b : Bool). MakesUnder clients step (outs_from heard moved) (to b) s s2 o o2
            (made + 1)) (sym (moves made moved))
            (makes_under_then clients step (outs_from heard moved) (outs_at heard moved1) (to true) s
            s1 s2 o o1 o2 made 1 (outs_there heard moved first at)
            (b.goes heard moved1 left first at)));
      }

      pub outs_then : (made' : ℕ) (bytes' : List ℕ) (s2 : StoreValue) (o2 : Outside)
          → StaysGathering clients s1 s2 o2
          → OutJoined now made bytes made' bytes' clients n l l s1 s2 o1 o2 tt
          → OutsUnder now made' bytes' clients n l s s2 o o2
      outs_then made' bytes' s2 o2 stays b =
          let one = b.one_more in
          subst (λ (k : ℕ). OutsUnder now k bytes' clients n l s s2 o o2) (sym one)
          (outs_more bytes' s2 o2 stays
          (subst (λ (k : ℕ). OutJoined now made bytes k bytes' clients n l l s1 s2 o1 o2 tt) one b))

    -- what was committed before stays under way, where the next one was not
    outs_idle : (s2 : StoreValue) (o2 : Outside) → StoreStaysIdle clients s1 s2 o1 o2
        → OutsUnder now made bytes clients n l s s2 o o2
    outs_idle s2 o2 idle = record {
      room = a.room;
      rest = a.rest;
      none = a.none;
      stays = gathering_then clients s s1 s2 o1 o2 a.stays (idle_stays clients s1 s2 o1 o2 a.stays.settled idle);
      goes = λ heard moved first at.
          let step = LinkActs clients first n in
          let to : Facts → Owing Spot =
          λ f. owing_on n bytes (spot_at (puts_on now a.room made) l heard
          (cond (nat_lt 0 made) true moved) f) in
          let still : MakesUnder clients step (to s1.state.facts) (to s1.state.facts) s1 s2 o1 o2 0 =
          record { goes = record { acts = []; path = refl; under = idle.under }; counts = refl } in
          let same : made + 0 ≡ made = omega arith in
          subst (λ (k : ℕ). MakesUnder clients step (outs_from heard moved) (to s2.state.facts) s s2
          o o2 k) same
          (subst (λ (f : Facts). MakesUnder clients step (outs_from heard moved) (to f) s s2 o o2
          (made + 0)) (sym idle.facts)
          (makes_under_then clients step (outs_from heard moved) (to s1.state.facts)
          (to s1.state.facts) s s1 s2 o o1 o2 made 0 (a.goes heard moved first at) still));
    }

    -- a call of the disk failed behind them
    pub outs_break : (s2 : StoreValue) (o2 : Outside) → UnderwayBreaks clients [] s1 s2 o1 o2
        → OutsBroke now clients n l s s2 o o2
    outs_break s2 o2 breaks = record {
      halts = λ heard moved first at.
          let step = LinkActs clients first n in
          let to : Owing Spot =
          owing_on n bytes (spot_at (puts_on now a.room made) l heard
          (cond (nat_lt 0 made) true moved) s1.state.facts) in
          halted_broken clients step (λ (q : Owing Spot). q.at.link ≡ link_at l heard)
          (outs_from heard moved) to s s1 s2 o o1 o2 (a.goes heard moved first at).goes
          (has_now step (λ (q : Owing Spot). q.at.link ≡ link_at l heard) to refl) breaks;
    }

    -- the next one was not committed, by the fault
    outs_halt_at : (less : made < MAX_OUTPUTS) (what : Out)
        → Allowed clients s1.state.facts (out_batch l.session.number now what)
        → (s2 : StoreValue) (o2 : Outside) (e : Fault)
        → JoinHalts clients (out_batch l.session.number now what) s1 s2 o1 o2 e
        → OutsHalted now made bytes clients n l l s s2 o o2 e
    outs_halt_at less what allowed s2 o2 fault.Memory halts = outs_idle s2 o2 halts
    outs_halt_at less what allowed s2 o2 fault.Full halts = record {
      under = outs_idle s2 o2 halts.idle;
      less = less;
      what = what;
      allowed =
          subst (λ (f : Facts). Allowed clients f (out_batch l.session.number now what))
          (sym halts.idle.facts) allowed;
      over = halts.over;
    }
    outs_halt_at less what allowed s2 o2 fault.DiskFault halts = outs_break s2 o2 halts

    pub outs_halt : (less : made < MAX_OUTPUTS) (made' : ℕ) (bytes' : List ℕ) (s2 : StoreValue)
        (o2 : Outside) (e : Fault)
        → OutHalted now made bytes made' bytes' clients n l l s1 s2 o1 o2 e
        → OutsHalted now made' bytes' clients n l l s s2 o o2 e
    outs_halt less made' bytes' s2 o2 e b =
        subst (λ (k : ℕ). OutsHalted now k bytes' clients n l l s s2 o o2 e) (sym b.same_made)
        (subst (λ (bs : List ℕ). OutsHalted now made bs clients n l l s s2 o o2 e)
        (sym b.same_bytes) (outs_halt_at less b.what b.allowed s2 o2 e b.halts))

-- ---- they are added, and go out in one call

module _ (clients : Meaning) (n now : ℕ) (l : Link) (s s1 s2 : StoreValue) (o o1 o2 : Outside)
    (store : IsStore s) (ready : IsReady clients s o.files) (may : MaySend l.end)
    (flushed : Flushed clients s1 s2 o1 o2) where
  added_at : (made : ℕ) (bytes : List ℕ) (a : OutsUnder now made bytes clients n l s s1 o o1)
      (heard : List ℕ) (moved : Bool) (first : ℕ) → l.session.number ≡ first + n
      → Makes clients (LinkActs clients first n) (outs_from clients n now l s o heard moved)
      (owing_on n bytes (spot_at (puts_on now a.room made) l heard (cond (nat_lt 0 made) true moved)
      s2.state.facts)) s s2 o o2 made
  added_at made bytes a heard moved first at =
      let step = LinkActs clients first n in
      let to : Facts → Owing Spot =
      λ f. owing_on n bytes (spot_at (puts_on now a.room made) l heard
      (cond (nat_lt 0 made) true moved) f) in
      let by = a.goes heard moved first at in
      subst (λ (f : Facts). Makes clients step (outs_from clients n now l s o heard moved) (to f) s s2
      o o2 made) (sym (ap (λ (v : StateValue). v.facts) flushed.keeps.state))
      (record {
        went = record {
          acts = by.goes.acts;
          path = by.goes.path;
          did = under_flushed store ready by.goes.under flushed;
        };
        counts = by.counts;
      })

  -- none was committed
  outs_unsent : (bytes : List ℕ) (a : OutsUnder now 0 bytes clients n l s s1 o o1)
      → OutsWent now 0 clients n l l s s2 o o2
  outs_unsent bytes a = record {
    room = a.room;
    rest = a.rest;
    makes = λ heard moved first at.
        let at_end : Spot =
        spot_at (Sends now a.room) l heard (cond (nat_lt 0 0) true moved) s2.state.facts in
        subst (λ (d : Doing). Makes clients (LinkActs clients first n)
        (outs_from clients n now l s o heard moved)
        (paid (spot_at d l heard (cond (nat_lt 0 0) true moved) s2.state.facts)) s s2 o o2 0)
        (sym (goes_on now a.room l (may_end l.end may)))
        (subst (λ (q : Owing Spot). Makes clients (LinkActs clients first n)
        (outs_from clients n now l s o heard moved) q s s2 o o2 0)
        (ap (λ (bs : List ℕ). owing_on n bs at_end) (a.none refl) ∙ nil_owing n at_end)
        (added_at 0 bytes a heard moved first at));
    sent = inl refl;
  }

  module _ (stand : ImagesStand) (o3 : Outside) (l' : Link) (made : ℕ) (bytes : List ℕ)
      (a : OutsUnder now (suc made) bytes clients n l s s1 o o1)
      (roomy : s2.end + room_of (written_in s2) s2.state.facts ≤ MAX_JOURNAL)
      (within : n < o2.links.dialled) (sends : SendsOn n bytes l l' o2 o3) where
    abbrev put_at_end : List ℕ → Bool → Spot
    put_at_end heard moved =
        spot_at (Puts now a.room) l heard (cond (nat_lt 0 (suc made)) true moved) s2.state.facts

    -- this act came behind, and left the link so
    sent_by : (act : Act) (doing : Doing) (x : Link) → x ≡ l' → doing ≡ sends_on now a.room l'
        → batches_in (act ∷ []) ≡ [] → Did clients (act ∷ []) s2 s2 o2 o3
        → ((heard : List ℕ) (moved : Bool) (first : ℕ) → l.session.number ≡ first + n
        → LinkActs clients first n (owing_on n bytes (put_at_end heard moved)) act
        (paid (spot_at doing x heard true s2.state.facts)))
        → (heard : List ℕ) (moved : Bool)
        → LinkMakes clients n l.session.number
        (spot_at (Sends now MAX_OUTPUTS) l heard moved s.state.facts)
        (spot_at (sends_on now a.room l') l' heard (cond (nat_lt 0 (suc made)) true moved)
        s2.state.facts) s s2 o o3 (suc made)
    sent_by act doing x is_x goes none did steps heard moved first at =
        let step = LinkActs clients first n in
        let by = added_at (suc made) bytes a heard moved first at in
        let p : Owing Spot = owing_on n bytes (put_at_end heard moved) in
        let q : Owing Spot = paid (spot_at doing x heard true s2.state.facts) in
        let end : spot_at doing x heard true s2.state.facts
        ≡ spot_at (sends_on now a.room l') l' heard (cond (nat_lt 0 (suc made)) true moved)
        s2.state.facts =
        λ i. spot_at (goes i) (is_x i) heard (sym (moves made moved) i) s2.state.facts in
        subst (λ (z : Spot). Makes clients step (outs_from clients n now l s o heard moved) (paid z) s
        s2 o o3 (suc made)) end
        (record {
          went = record {
            acts = by.went.acts ++ act ∷ [];
            path =
                path_push step (outs_from clients n now l s o heard moved) p q by.went.acts act
                by.went.path (steps heard moved first at);
            did = did_then by.went.did did;
          };
          counts =
              ap (λ (l : Journal). length l) (batches_in-append by.went.acts (act ∷ []))
              ∙ ap (λ (l : Journal). length (batches_in by.went.acts ++ l)) none
              ∙ ap (λ (l : Journal). length l) (append-nil (batches_in by.went.acts))
              ∙ by.counts;
        })

    put_sent : (session : ℕ) (heard : List ℕ) (moved : Bool)
        → LinkStep clients n session (put_at_end heard moved) Pass
        (spot_at (Sends now a.room) l heard true s2.state.facts)
    put_sent session heard moved =
        λ i. spot_at (Sends now a.room) l heard (sym (moves made moved) i) s2.state.facts

    by_result : (result : Result (Unit {0}) Failed) → SendsBytes n bytes result o2.links o3.links
        → EndsBy result l l' → (heard : List ℕ) (moved : Bool)
        → LinkMakes clients n l.session.number
        (spot_at (Sends now MAX_OUTPUTS) l heard moved s.state.facts)
        (spot_at (sends_on now a.room l') l' heard (cond (nat_lt 0 (suc made)) true moved)
        s2.state.facts) s s2 o o3 (suc made)
    by_result (Ok u) went ends =
        sent_by (Send n bytes) (Sends now a.room) l (sym ends)
        (sym (ap (λ (x : Link). sends_on now a.room x) ends
        ∙ ap (λ (b : Bool). cond b (Sends now a.room) Done) (may_end l.end may)))
        refl (did_send stand clients n bytes s2 o2 o3 roomy within sends.call u went)
        (λ heard moved first at.
        inl (
          sym (on_link n n bytes refl),
          put_sent (first + n) heard moved,
          λ link. owed_out n link bytes,
        ))
    by_result (Err why) went ends =
        sent_by (Fail n bytes went.sent.0) Done (record l { end = link_end.Failed })
        (sym ends) (ap (λ (x : Link). sends_on now a.room x) (sym ends)) refl
        (did_fail stand clients n bytes s2 o2 o3 roomy within sends.call why went)
        (λ heard moved first at. (
          front_same _ _ (on_link n n bytes refl),
          (refl, refl),
          λ link. owed_out n link bytes,
        ))

    outs_all_sent : OutsWent now (suc made) clients n l l' s s2 o o3
    outs_all_sent = record {
      room = a.room;
      rest = a.rest;
      makes = by_result sends.result sends.sends sends.ends;
      sent = kept_by sends.result l l' sends.ends;
    }

-- a flush leaves the room of the store
roomy_kept : (s s' : StoreValue) → KeepsJournal s s' → IsStore s
    → s'.end + room_of (written_in s') s'.state.facts ≤ MAX_JOURNAL
roomy_kept s s' same store =
    omega (
      arith,
      store.roomy,
      same.end,
      ap (λ n. room_of (format_meant n) s'.state.facts) same.format,
      ap (λ (v : StateValue). room_of (written_in s) v.facts) same.state,
    )

-- whatever number there was
pub outs_sent_on : {H : Type 0} (tells : H → Outside) (clients : Meaning) (n now : ℕ) (l l' : Link)
    (s s1 s2 : StoreValue) (o o1 : Outside) (host host' : H) → IsStore s
    → IsReady clients s o.files → MaySend l.end → Flushed clients s1 s2 o1 (tells host)
    → ImagesStand → n < (tells host).links.dialled → (made : ℕ) (bytes : List ℕ)
    → OutsUnder now made bytes clients n l s s1 o o1
    → SendsOuts made n bytes l l' host host' (tells host) (tells host')
    → OutsWent now made clients n l l' s s2 o (tells host')
outs_sent_on tells clients n now l l' s s1 s2 o o1 host host' store ready may flushed stand within zero bytes a sends =
    subst (λ (x : Link). OutsWent now 0 clients n l x s s2 o (tells host')) (sym sends.0)
    (subst (λ h. OutsWent now 0 clients n l l s s2 o (tells h)) (sym sends.1)
    (outs_unsent clients n now l s s1 s2 o o1 (tells host) store ready may flushed bytes a))
outs_sent_on tells clients n now l l' s s1 s2 o o1 host host' store ready may flushed stand within (suc made) bytes a sends =
    outs_all_sent clients n now l s s1 s2 o o1 (tells host) store ready may flushed stand
    (tells host') l' made bytes a (roomy_kept s1 s2 flushed.keeps a.stays.waits.store) within sends

module _ (clients : Meaning) (n now made : ℕ) (l m : Link) (s s1 : StoreValue) (o o1 : Outside)
    (a : OutsWent now made clients n l m s s1 o o1) where
  -- the way to a place at which the link does this, in the words of its session as it is then
  made_to : (doing : Doing) → sends_on now a.room m ≡ doing → (heard : List ℕ) (moved : Bool)
      → LinkMakes clients n m.session.number
      (spot_at (Sends now MAX_OUTPUTS) l heard moved s.state.facts)
      (spot_at doing m heard (cond (nat_lt 0 made) true moved) s1.state.facts) s s1 o o1 made
  made_to doing is heard moved =
      subst (λ (d : Doing). LinkMakes clients n m.session.number
      (spot_at (Sends now MAX_OUTPUTS) l heard moved s.state.facts)
      (spot_at d m heard (cond (nat_lt 0 made) true moved) s1.state.facts) s s1 o o1 made) is
      (subst (λ (x : Session). LinkMakes clients n x.number
      (spot_at (Sends now MAX_OUTPUTS) l heard moved s.state.facts)
      (spot_at (sends_on now a.room m) m heard (cond (nat_lt 0 made) true moved) s1.state.facts)
      s s1 o o1 made) (sym (sent_session l m a.sent)) (a.makes heard moved))

  -- nothing more: nothing is due, the room is used up, or the link is closed
  pub outs_end : (is_sent_to m.end ≡ true → (room : ℕ) → room + made ≡ MAX_OUTPUTS
      → IsEnough clients s1.state.facts m.session.number now room)
      → DueWent now clients n l m s s1 o o1 made
  outs_end enough = record {
    makes = λ heard moved.
        let q : Spot = spot_at Done m heard (cond (nat_lt 0 made) true moved) s1.state.facts in
        subst (λ (x : Session). LinkMakes clients n x.number
        (spot_at (Sends now MAX_OUTPUTS) l heard moved s.state.facts) q s s1 o o1 made)
        (sent_session l m a.sent) (by_end (is_sent_to m.end) refl heard moved);
    sent = a.sent;
  }
    where
      by_end : (b : Bool) → is_sent_to m.end ≡ b → (heard : List ℕ) (moved : Bool)
          → LinkMakes clients n m.session.number
          (spot_at (Sends now MAX_OUTPUTS) l heard moved s.state.facts)
          (spot_at Done m heard (cond (nat_lt 0 made) true moved) s1.state.facts) s s1 o o1 made
      by_end true is heard moved =
          makes_joins n (omega arith)
          (made_to (Sends now a.room) (goes_on now a.room m is) heard moved)
          (makes_sent n now a.room
          (spot_at (Sends now a.room) m heard (cond (nat_lt 0 made) true moved) s1.state.facts)
          s1 o1 refl (enough is a.room a.rest))
      by_end false is heard moved =
          made_to Done (ap (λ (b : Bool). cond b (Sends now a.room) Done) is) heard moved

  -- memory was wanting to see what is due
  pub outs_no_memory : IsReady clients s1 o1.files
      → DueStopped now clients n l m s s1 o o1 fault.Memory
  outs_no_memory ready = record {
    stops = λ heard moved.
        link_stops_then n (link_at m heard) s1 o1 fault.Memory (makes_went n (a.makes heard moved))
        (link_no_memory n
        (spot_at (sends_on now a.room m) m heard (cond (nat_lt 0 made) true moved) s1.state.facts)
        s1 o1 ready);
  }

-- the next one has no room
outs_full : (clients : Meaning) (n now made : ℕ) (l : Link) (s s1 : StoreValue) (o o1 : Outside)
    → OutsWent now made clients n l l s s1 o o1 → IsReady clients s1 o1.files
    → is_sent_to l.end ≡ true → made < MAX_OUTPUTS → (what : Out)
    → Allowed clients s1.state.facts (out_batch l.session.number now what)
    → s1.limit < needed s1 (out_batch l.session.number now what)
    → DueStopped now clients n l l s s1 o o1 fault.Full
outs_full clients n now made l s s1 o o1 a ready open_is less what allowed over = record {
  stops = λ heard moved first at.
      let moved1 : Bool = cond (nat_lt 0 made) true moved in
      let left = room_left now made a.room a.rest less in
      let room : ℕ = left.0 in
      let p : Spot = spot_at (Sends now (suc room)) l heard moved1 s1.state.facts in
      let step = LinkActs clients first n in
      let there : sends_on now a.room l ≡ Sends now (suc room) =
      goes_on now a.room l open_is ∙ ap (λ (k : ℕ). Sends now k) left.1 in
      record {
        to = paid p;
        went =
            subst (λ (d : Doing). Went clients step
            (paid (spot_at (Sends now MAX_OUTPUTS) l heard moved s.state.facts))
            (paid (spot_at d l heard moved1 s1.state.facts)) s s1 o o1) there
            (a.makes heard moved first at).went;
        clear = λ link. refl;
        stands = has_now step (λ (q : Owing Spot). q.at.link ≡ link_at l heard) (paid p) refl;
        ready = ready;
        batch = out_batch l.session.number now what;
        next =
            owing_on n (spelled (out_records s1.state.facts.held what))
            (put_at clients n now what l s1 allowed heard moved1 room);
        steps =
            subst (λ (q : Owing Spot). step q (Does (Commit (out_batch l.session.number now what)))
            (owing_on n (spelled (out_records s1.state.facts.held what))
            (put_at clients n now what l s1 allowed heard moved1 room))) (nil_owing n p)
            (out_step clients n now what l s1 allowed first at heard moved1 room []
            (spelled (out_records s1.state.facts.held what)) refl);
        over = over;
      };
}

-- ---- by what stopped it, and by what is answered then

not_broken : (P : Unit {0} → Type 0) (H : Fault → Type 0) (U : Type 0)
    → ((u : Unit {0}) → P u → U) → (H fault.Memory → U) → (H fault.Full → U)
    → (joined : Result (Unit {0}) Fault) → has_broken joined ≡ false → IfOk joined P
    → IfErr joined H → U
not_broken P H U done starved filled (Ok u) whole ok err = done u ok
not_broken P H U done starved filled (Err fault.Memory) whole ok err = starved err
not_broken P H U done starved filled (Err fault.Full) whole ok err = filled err
not_broken P H U done starved filled (Err fault.DiskFault) whole ok err = cc

was_broken : (H : Fault → Type 0) (K : Option Fault → Type 0) (joined : Result (Unit {0}) Fault)
    → has_broken joined ≡ true → IfErr joined H → K (stop_of joined)
    → H fault.DiskFault × K (Some fault.DiskFault)
was_broken H K (Ok u) broken err keeps = cc
was_broken H K (Err fault.Memory) broken err keeps = cc
was_broken H K (Err fault.Full) broken err keeps = cc
was_broken H K (Err fault.DiskFault) broken err keeps = (err, keeps)

came_so : (P : Unit {0} → Type 0) (H : Fault → Type 0) (made : ℕ) (D : ℕ → Type 0)
    (S : Fault → Type 0)
    → ((u : Unit {0}) → P u → D made) → (H fault.Memory → S fault.Memory)
    → (is_open : Bool) → (is_open ≡ false → D made) → (is_open ≡ true → H fault.Full → S fault.Full)
    → (joined : Result (Unit {0}) Fault) → has_broken joined ≡ false → IfOk joined P
    → IfErr joined H
    → IfOk (outs_answer joined made is_open) D × IfErr (outs_answer joined made is_open) S
came_so P H made D S done starved is_open closed filled (Ok u) whole ok err = (done u ok, tt)
came_so P H made D S done starved is_open closed filled (Err fault.Memory) whole ok err =
    (tt, starved err)
came_so P H made D S done starved true closed filled (Err fault.Full) whole ok err =
    (tt, filled refl err)
came_so P H made D S done starved false closed filled (Err fault.Full) whole ok err =
    (closed refl, tt)
came_so P H made D S done starved is_open closed filled (Err fault.DiskFault) whole ok err = cc

-- what is under way, whatever stopped it but the disk
pub under_of : (clients : Meaning) (n now made : ℕ) (bytes : List ℕ) (l : Link) (s s1 : StoreValue)
    (o o1 : Outside) (joined : Result (Unit {0}) Fault) → has_broken joined ≡ false
    → IfOk joined (OutsJoined now made bytes clients n l l s s1 o o1)
    → IfErr joined (OutsHalted now made bytes clients n l l s s1 o o1)
    → OutsUnder now made bytes clients n l s s1 o o1
under_of clients n now made bytes l s s1 o o1 joined whole went halted =
    not_broken (OutsJoined now made bytes clients n l l s s1 o o1)
    (OutsHalted now made bytes clients n l l s s1 o o1)
    (OutsUnder now made bytes clients n l s s1 o o1) (λ u ok. ok.under) (λ under. under)
    (λ more. more.under) joined whole went halted

-- by what stopped it, what sending came to
module _ (clients : Meaning) (n now made : ℕ) (bytes : List ℕ) (l l' : Link) (s s1 s2 : StoreValue)
    (o o1 o2 o3 : Outside) (went : OutsWent now made clients n l l' s s2 o o3)
    (flushed : Flushed clients s1 s2 o1 o2) (ready : IsReady clients s2 o3.files) where
  facts_kept : s2.state.facts ≡ s1.state.facts
  facts_kept = ap (λ (v : StateValue). v.facts) flushed.keeps.state

  -- nothing more is to be sent
  outs_done : ((room : ℕ) → room + made ≡ MAX_OUTPUTS
      → IsEnough clients s1.state.facts l.session.number now room)
      → DueWent now clients n l l' s s2 o o3 made
  outs_done enough =
      outs_end clients n now made l l' s s2 o o3 went
      (λ open_is room rest.
      subst (λ (x : Session). IsEnough clients s2.state.facts x.number now room)
      (sym (sent_session l l' went.sent))
      (subst (λ (f : Facts). IsEnough clients f l.session.number now room) (sym facts_kept)
      (enough room rest)))

  -- the link is closed
  outs_closed : is_sent_to l'.end ≡ false → DueWent now clients n l l' s s2 o o3 made
  outs_closed closed =
      outs_end clients n now made l l' s s2 o o3 went
      (λ open_is room rest. absurd (false≢true (sym closed ∙ open_is)))

  -- it is open as it was, and the next one has no room
  outs_filled : is_sent_to l'.end ≡ true → OutsOver now made bytes clients n l s s1 o o1
      → DueStopped now clients n l l' s s2 o o3 fault.Full
  outs_filled open_is more = elim went.sent [
    | inl same ↦
        subst (λ (x : Link). DueStopped now clients n l x s s2 o o3 fault.Full) (sym same)
        (outs_full clients n now made l s s2 o o3
        (subst (λ (x : Link). OutsWent now made clients n l x s s2 o o3) same went) ready
        (ap (λ (x : Link). is_sent_to x.end) (sym same) ∙ open_is) more.less more.what
        (subst (λ (f : Facts). Allowed clients f (out_batch l.session.number now more.what))
        (sym facts_kept) more.allowed)
        (over_flushed s1 s2 (out_batch l.session.number now more.what) flushed.keeps more.over))
    | inr failed ↦
        absurd (false≢true (ap (λ (x : Link). is_sent_to x.end) (sym failed) ∙ open_is))
  ]

  pub outs_come : (joined : Result (Unit {0}) Fault) → has_broken joined ≡ false
      → IfOk joined (OutsJoined now made bytes clients n l l s s1 o o1)
      → IfErr joined (OutsHalted now made bytes clients n l l s s1 o o1) → (is_open : Bool)
      → is_sent_to l'.end ≡ is_open
      → IfOk (outs_answer joined made is_open) (DueWent now clients n l l' s s2 o o3)
      × IfErr (outs_answer joined made is_open) (DueStopped now clients n l l' s s2 o o3)
  outs_come joined whole ok err is_open is =
      came_so (OutsJoined now made bytes clients n l l s s1 o o1)
      (OutsHalted now made bytes clients n l l s s1 o o1) made
      (DueWent now clients n l l' s s2 o o3) (DueStopped now clients n l l' s s2 o o3)
      (λ u done. outs_done done.enough)
      (λ under. outs_no_memory clients n now made l l' s s2 o o3 went ready) is_open
      (λ closed. outs_closed (is ∙ closed)) (λ open_is more. outs_filled (is ∙ open_is) more) joined
      whole ok err

-- a call of the disk failed before anything was sent
pub due_broken : (clients : Meaning) (n now : ℕ) (l : Link) (s s' : StoreValue) (o o' : Outside)
    → IsStore s → IsReady clients s o.files → OutsBroke now clients n l s s' o o'
    → DueStopped now clients n l l s s' o o' fault.DiskFault
due_broken clients n now l s s' o o' store ready broke = record {
  stops = λ heard moved first at.
      stopped_broken clients (LinkActs clients first n)
      (λ (q : Owing Spot). q.at.link ≡ link_at l heard)
      (paid (spot_at (Sends now MAX_OUTPUTS) l heard moved s.state.facts)) s s' o o' store ready
      (broke.halts heard moved first at);
}

pub broken_of : (clients : Meaning) (n now made : ℕ) (bytes : List ℕ) (l : Link)
    (s s1 : StoreValue) (o o1 : Outside) (joined : Result (Unit {0}) Fault)
    → has_broken joined ≡ true
    → IfErr joined (OutsHalted now made bytes clients n l l s s1 o o1)
    → LinkGathers clients n l l s s1 o o1 (stop_of joined)
    → OutsBroke now clients n l s s1 o o1 × LinkGathers clients n l l s s1 o o1 (Some fault.DiskFault)
broken_of clients n now made bytes l s s1 o o1 joined broken halted keeps =
    was_broken (OutsHalted now made bytes clients n l l s s1 o o1)
    (λ (stop : Option Fault). LinkGathers clients n l l s s1 o o1 stop) joined broken halted keeps

-- it failed in the flush of them
pub flush_broke : (clients : Meaning) (n now made : ℕ) (bytes : List ℕ) (l : Link)
    (s s1 s2 : StoreValue) (o o1 o2 : Outside) (stop : Option Fault) → IsStore s
    → IsReady clients s o.files → OutsUnder now made bytes clients n l s s1 o o1
    → LinkGathers clients n l l s s1 o o1 stop → (r : Result ℕ Fault) (e : Fault)
    → IsErrAnd r (λ x. x ≡ e)
    → (e ≡ fault.DiskFault) × UnderwayBreaks clients [] s1 s2 o1 o2
    → LinkWorks (DueWent now) (DueStopped now) clients n l l s s2 o o2 r
flush_broke clients n now made bytes l s s1 s2 o o1 o2 stop store ready under keeps r e is broke =
    was r e (LinkWorks (DueWent now) (DueStopped now) clients n l l s s2 o o2) is
    (subst (λ (x : Fault). LinkWorks (DueWent now) (DueStopped now) clients n l l s s2 o o2 (Err x))
    (sym broke.0)
    (record {
      went = tt;
      stopped =
          due_broken clients n now l s s2 o o2 store ready
          (outs_break clients n now l s o made bytes s1 o1 under s2 o2 broke.1);
      keeps = gather_broke keeps broke.1;
    }))

-- what sending them keeps
outs_keep_sent : {H : Type 0} (tells : H → Outside) (clients : Meaning) (n : ℕ) (l l' : Link)
    (s s2 : StoreValue) (o : Outside) (host host' : H) → IsAble clients n l.session s o
    → LinkKeeps clients n l l s s2 o (tells host) None → (made : ℕ) (bytes : List ℕ)
    → SendsOuts made n bytes l l' host host' (tells host) (tells host')
    → LinkKeeps clients n l l' s s2 o (tells host') None
outs_keep_sent tells clients n l l' s s2 o host host' able keeps zero bytes sends =
    subst (λ (x : Link). LinkKeeps clients n l x s s2 o (tells host') None) (sym sends.0)
    (subst (λ h. LinkKeeps clients n l l s s2 o (tells h) None) (sym sends.1) keeps)
outs_keep_sent tells clients n l l' s s2 o host host' able keeps (suc made) bytes sends =
    work_then keeps
    (work_link (link_sent sends) sends.call.same_files (able_kept able keeps))

keeps_answer : (clients : Meaning) (n made : ℕ) (l l' : Link) (s s' : StoreValue) (o o' : Outside)
    → LinkKeeps clients n l l' s s' o o' None → (joined : Result (Unit {0}) Fault)
    → has_broken joined ≡ false → (is_open : Bool)
    → LinkKeeps clients n l l' s s' o o' (stop_of (outs_answer joined made is_open))
keeps_answer clients n made l l' s s' o o' keeps (Ok u) whole is_open = keeps
keeps_answer clients n made l l' s s' o o' keeps (Err fault.Memory) whole is_open =
    memory_keeps keeps
keeps_answer clients n made l l' s s' o o' keeps (Err fault.Full) whole true = record {
  link = keeps.link;
  store = record {
    same_limit = keeps.store.same_limit;
    same_format = keeps.store.same_format;
    answered = keeps.store.answered.ready;
  };
}
keeps_answer clients n made l l' s s' o o' keeps (Err fault.Full) whole false = keeps
keeps_answer clients n made l l' s s' o o' keeps (Err fault.DiskFault) whole is_open = cc

-- and so, by what stopped it
pub outs_work : {H : Type 0} (tells : H → Outside) (clients : Meaning) (n now made : ℕ)
    (bytes : List ℕ) (l l' : Link) (s s1 s2 : StoreValue) (o o1 : Outside) (host host' : H)
    → IsStore s → IsAble clients n l.session s o → MaySend l.end
    → Flushed clients s1 s2 o1 (tells host) → ImagesStand → n < (tells host).links.dialled
    → SendsOuts made n bytes l l' host host' (tells host) (tells host')
    → (joined : Result (Unit {0}) Fault) → has_broken joined ≡ false
    → GatherWorks (OutsJoined now made bytes) (OutsHalted now made bytes) clients n l l s s1 o o1
    joined
    → (is_open : Bool) → is_sent_to l'.end ≡ is_open → (r : Result ℕ Fault)
    → r ≡ outs_answer joined made is_open
    → LinkWorks (DueWent now) (DueStopped now) clients n l l' s s2 o (tells host') r
outs_work tells clients n now made bytes l l' s s1 s2 o o1 host host' store able may flushed stand within sends joined whole works is_open is r answer =
    let under = under_of clients n now made bytes l s s1 o o1 joined whole works.went works.halted in
    let first : LinkGathers clients n l l s s1 o o1 None = record {
      link = works.keeps.link;
      store = record {
        same_limit = works.keeps.store.same_limit;
        same_format = works.keeps.store.same_format;
        answered = under.stays;
      };
    } in
    let keeps =
    outs_keep_sent tells clients n l l' s s2 o host host' able (gather_flushed first flushed) made
    bytes sends in
    let went =
    outs_sent_on tells clients n now l l' s s1 s2 o o1 host host' store able.ready may flushed stand
    within made bytes under sends in
    let came =
    outs_come clients n now made bytes l l' s s1 s2 o o1 (tells host) (tells host') went flushed
    keeps.store.answered.ready joined whole works.went works.halted is_open is in
    subst (λ (x : Result ℕ Fault). LinkWorks (DueWent now) (DueStopped now) clients n l l' s s2 o
    (tells host') x) (sym answer)
    (record {
      went = came.0;
      stopped = came.1;
      keeps = keeps_answer clients n made l l' s s2 o (tells host') keeps joined whole is_open;
    })

-- ---- sending in a turn

pub sending_closed : (clients : Meaning) (n : ℕ) (l : Link) (s : StoreValue) (o : Outside)
    → (MaySend l.end → ⊥) → SendingWent clients n l l s s o o 0
sending_closed clients n l s o may = record {
  went = λ heard moved doing ready.
      let done : Spot = spot_at Done l heard moved s.state.facts in
      elim ready [
        | inl waits ↦ link_closed n (record done { doing = doing }) s o waits (may_not_end l.end may)
        | inr over ↦
            subst (λ d. LinkWent clients n l.session.number (record done { doing = d }) done s s o o)
            (sym over.0) (link_stays n)
      ];
  sent = inl refl;
}

module _ (clients : Meaning) (n now : ℕ) (l : Link) (s : StoreValue) (o o1 : Outside)
    (may : MaySend l.end) (reads : ReadsClock now o.links o1.links) (call : QuietCall o o1) where
  read_at : (heard : List ℕ) (moved : Bool) (doing : Doing) → IsReadyToSend doing l
      → LinkWent clients n l.session.number (spot_at doing l heard moved s.state.facts)
      (spot_at (Sends now MAX_OUTPUTS) l heard moved s.state.facts) s s o o1
  read_at heard moved doing ready =
      elim ready [
        | inl waits ↦
            link_read n now (spot_at doing l heard moved s.state.facts) s o o1 waits
            (may_end l.end may) call reads
        | inr done ↦ absurd (false≢true (sym done.1 ∙ may_end l.end may))
      ]

  pub sending_read : (l' : Link) (s' : StoreValue) (o' : Outside) (made : ℕ)
      → DueWent now clients n l l' s s' o1 o' made
      → SendingWent clients n l l' s s' o o' made
  sending_read l' s' o' made due = record {
    went = λ heard moved doing ready.
        link_joins n (read_at heard moved doing ready) (makes_went n (due.makes heard moved));
    sent = due.sent;
  }

  pub sending_stops : (l' : Link) (s' : StoreValue) (o' : Outside) (e : Fault)
      → DueStopped now clients n l l' s s' o1 o' e → SendingStopped clients n l l' s s' o o' e
  sending_stops l' s' o' e due = record {
    stops = λ heard moved doing ready.
        link_stops_then n (link_at l' heard) s' o' e (read_at heard moved doing ready)
        (due.stops heard moved);
  }

module _ {clients : Meaning} {n : ℕ} {l m : Link} {s s1 : StoreValue} {o o1 : Outside} {idle : Bool}
    (same_session : m.session ≡ l.session) (hears : HearingWent clients n l m s s1 o o1 idle) where
  turned_to : {l' : Link} {s' : StoreValue} {o' : Outside} {made : ℕ} (still : Bool)
      → ((moved : Bool) → cond (nat_lt 0 made) true (cond idle moved true) ≡ cond still moved true)
      → SendingWent clients n m l' s1 s' o1 o' made → TurnWent clients n l l' s s' o o' still
  turned_to {l' = l'} {s' = s'} {o' = o'} {made = made} still same_moved sends = record {
    leads = λ heard moved read.
        let first = hears.leads heard moved read in
        let second = subst (λ (k : ℕ). LinkWent clients n k (spot_at first.doing m first.heard' (cond idle moved true) s1.state.facts)
        (spot_at Done l' first.heard' (cond (nat_lt 0 made) true (cond idle moved true)) s'.state.facts) s1 s' o1 o') (ap (λ x. x.number) same_session)
        (sends.went first.heard' (cond idle moved true) first.doing first.ready) in
        record {
          heard' = first.heard';
          has_read = still_so (HasRead first.heard') m l' sends.sent first.has_read;
          went =
              subst (λ (b : Bool). LinkWent clients n l.session.number (spot_at Asks l heard moved s.state.facts) (spot_at Done l' first.heard' b s'.state.facts) s s' o o')
              (same_moved moved)
              (link_joins n first.went second);
        };
  }

  pub turned_stops : {l' : Link} {s' : StoreValue} {o' : Outside} {e : Fault}
      → SendingStopped clients n m l' s1 s' o1 o' e → HearingStopped clients n l l' s s' o o' e
  turned_stops {l' = l'} {s' = s'} {o' = o'} {e = e} sends = record {
    stops = λ heard moved read.
        let first = hears.leads heard moved read in
        let mid : Spot = spot_at first.doing m first.heard' (cond idle moved true) s1.state.facts in (
          first.heard',
          link_stops_then n (link_at l' first.heard') s' o' e first.went
              (subst (λ (k : ℕ). LinkStopped clients n k mid (link_at l' first.heard') s1 s' o1 o' e) (ap (λ x. x.number) same_session)
              (sends.stops first.heard' (cond idle moved true) first.doing first.ready)),
        );
  }

  pub turned_quiet : {l' : Link} {s' : StoreValue} {o' : Outside} {made : ℕ} → idle ≡ true
      → SendingWent clients n m l' s1 s' o1 o' made
      → TurnWent clients n l l' s s' o o' (nat_eq made 0)
  turned_quiet {made = made} is sends =
      turned_to (nat_eq made 0) (λ moved. ap (λ (b : Bool). cond (nat_lt 0 made) true (cond b moved true)) is ∙ by_made made moved) sends
    where
      by_made : (k : ℕ) (moved : Bool) → cond (nat_lt 0 k) true moved ≡ cond (nat_eq k 0) moved true
      by_made zero moved = refl
      by_made (suc k) moved =
          ap (λ (b : Bool). cond b true moved) (lt-ltb 0 (suc k) (omega arith)) ∙ ap (λ (b : Bool). cond b moved true) (sym (ne_eqb (suc k) 0 (λ e. omega (arith, e))))

  pub turned_loud : {l' : Link} {s' : StoreValue} {o' : Outside} {made : ℕ} → idle ≡ false
      → SendingWent clients n m l' s1 s' o1 o' made
      → TurnWent clients n l l' s s' o o' idle
  turned_loud {made = made} is sends =
      turned_to idle
      (λ moved.
      ap (λ (b : Bool). cond (nat_lt 0 made) true (cond b moved true)) is ∙ always (nat_lt 0 made) ∙ sym (ap (λ (b : Bool). cond b moved true) is)) sends
    where
      always : (b : Bool) → cond b true true ≡ true
      always true = refl
      always false = refl
