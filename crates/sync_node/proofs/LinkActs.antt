-- The calls of a link's turn as steps of its machine, one behind another; and hearing on a link: the
-- items of a piece, and the call that hears it.
use Rattle.std.proofs.Common.{◌≡◌, ℕ, ◌+◌, List, [], ◌∷◌, ◌++◌, refl, sym, ◌∙◌, ap, subst, inl, inr, Bool, true, false, length, take}
use Rattle.outside.specs.Outside.{Outside, QuietCall}
use Rattle.record_grammar.specs.Spelling.{spelled}
use Rattle.record_grammar.specs.declared.stream.Item.{Item}
use Rattle.sync_ids.specs.declared.records.Record.{Record}
use Rattle.sync_rules.specs.declared.entries.Entry.{Entry}
use Rattle.sync_rules.specs.Clients.{Meaning}
use Rattle.sync_rules.specs.Facts.{Facts, Journal, after_all, after_batches}
use Rattle.sync_rules.specs.Legal.{Allowed, AllSettling}
use Rattle.sync_rules.proofs.OutputLaws.{settling_silent, silent_adds_nothing, take_silent}
use Rattle.sync_store.specs.Ready.{IsReady}
use Rattle.journal_state.specs.Whole.{StateValue}
use Rattle.sync_store.specs.Fitting.{ImagesStand}
use Rattle.sync_store.specs.Groups.{IsGathering}
use Rattle.sync_store.specs.Store.{IsStore, StoreValue}
use Rattle.sync_course.specs.Acts.{Does, commit_acts}
use Rattle.sync_course.specs.Events.{Commit, Event, Pass, asked_event}
use Rattle.sync_course.specs.Links.{items_after, link_after_take, stands_behind, is_going}
use Rattle.sync_course.specs.Links.{new_items, stands_ended}
use Rattle.sync_course.specs.LinkTurns.{LinkStep, Spot, Takes, next_take, taken_spot, PassesItem, Waits, Asks, Done, answered_spot}
use Rattle.sync_course.specs.Owing.{Owing, adds_to, paid}
use Rattle.sync_course.specs.Paths.{Path}
use Rattle.sync_course.proofs.ActLaws.{may_paid}
use Rattle.sync_course.proofs.CallLaws.{step_at, asked_commits, asked_step}
use Rattle.sync_course.proofs.PathLaws.{path_one}
use Rattle.sync_course.proofs.ToldLaws.{told_pass, told_asked}
use Rattle.sync_node.specs.declared.fault.Fault.{Fault}
use Rattle.sync_node.specs.Batches.{Flushed, JoinHalts, Joined, SettleHalts, Settled, SettlesBy}
use Rattle.sync_node.specs.Did.{Did, Underway, UnderwayBreaks}
use Rattle.sync_node.specs.OnLinks.{LinkActs, LinkHalted, LinkStopped, LinkUnder, LinkWent, RecordHalted, RecordTaken, ItemsHalted, ItemsStopped, NextWent, PieceTaken, PieceWent, HearingStopped, HearingWent}
use Rattle.sync_node.specs.Went.{Goes, HasSoon, StopsBroken, Went}
use Rattle.sync_node.proofs.TakeLaws.{IsNextTake, closed_behind, learned, not_taking, to_come}
use Rattle.sync_node.proofs.PrimLaws.{did_pass, did_quiet}
use Rattle.sync_node.proofs.UnderLaws.{gone_flushed, gone_none, gone_then, halted_broken, halted_then, stopped_broken, stopped_flushed, under_none}
use Rattle.sync_node.proofs.WentLaws.{has_now, no_memory, stopped_then, went_none, went_one, went_then}
use Rattle.record_grammar.specs.Laws.{EndingsAreOfRests, RestsGiveNothing}
use Rattle.record_grammar.specs.Reading.{found_in}
use Rattle.record_grammar.specs.Stream.{ending}
use Rattle.record_grammar.specs.declared.front.Reason.{Reason}
use Rattle.record_stream.specs.Pieces.{ReadingsFollow, ReadingsWiden}
use Rattle.record_stream.specs.Reading.{AwaitsBytes, EndsBad, ReaderState, ReadsOn}
use Rattle.sync_rules.specs.declared.entries.Session.{Session}
use Rattle.sync_rules.specs.Steps.{IsSettled}
use Rattle.sync_course.specs.Reading.{HasRead, IsReading}
use Rattle.sync_course.specs.declared.ends.LinkEnd.{LinkEnd}
use Rattle.sync_course.proofs.ReadingLaws.{answer_comes, closes_behind_bad, goes_on_behind_more, none_come, ends_as, piece_comes}
use Rattle.sync_node.specs.declared.link.Link.{Link}
use Rattle.sync_node.specs.Courses.{IsTaking, link_at, spot_at}
use Rattle.sync_node.specs.Sending.{LearnsNonce}
use Rattle.outside.specs.declared.host.Heard.{Heard}
use Rattle.outside.specs.Host.{HearsAnswer, IsAnswerCaused}
use Rattle.sync_course.specs.declared.TheConstants.{PIECE_LEN}
use Rattle.sync_node.proofs.OutLaws.{not_going_end}
use Rattle.sync_node.proofs.WorkLaws.{ended_not_going, goes_heard}
use Rattle.record_grammar.specs.declared.stream.Item.TheVariants as item
use Rattle.sync_course.specs.Links as course_links
use Rattle.sync_node.specs.declared.fault.Fault.TheVariants as fault
use Rattle.record_grammar.specs.declared.reading.Found.TheVariants as found
use Rattle.sync_course.specs.declared.ends.LinkEnd.TheVariants as link_end
use Rattle.outside.specs.declared.host.Heard.TheVariants as heard_kind

-- ---- one behind the other

module _ {clients : Meaning} (n : ℕ) {session : ℕ} where
  pub link_stays : {p : Spot} {s : StoreValue} {o : Outside}
      → LinkWent clients n session p p s s o o
  link_stays {p = p} {s = s} {o = o} =
      λ first is. went_none clients (LinkActs clients first n) (paid p) s o

  pub link_joins : {p q r : Spot} {s s1 s' : StoreValue} {o o1 o' : Outside}
      → LinkWent clients n session p q s s1 o o1 → LinkWent clients n session q r s1 s' o1 o'
      → LinkWent clients n session p r s s' o o'
  link_joins {p = p} {q = q} {r = r} {s = s} {s1 = s1} {s' = s'} {o = o} {o1 = o1} {o' =
      o'} first second = λ k is.
      went_then clients (LinkActs clients k n) (paid p) (paid q) (paid r) s s1 s' o o1 o'
      (first k is) (second k is)

  pub link_stops_then : {p q : Spot} {s s1 : StoreValue} {o o1 : Outside} (link : course_links.Link)
      (s' : StoreValue) (o' : Outside) (e : Fault) → LinkWent clients n session p q s s1 o o1
      → LinkStopped clients n session q link s1 s' o1 o' e
      → LinkStopped clients n session p link s s' o o' e
  link_stops_then {p = p} {q = q} {s = s} {s1 = s1} {o = o} {o1 = o1} link s' o' e first second =
      λ k is.
      stopped_then clients (LinkActs clients k n) (λ (x : Owing Spot). x.at.link ≡ link) (paid p)
      (paid q) s s1 s' o o1 o' e (first k is) (second k is)

  -- memory was wanting, and the link stands as it did
  pub link_no_memory : (p : Spot) (s : StoreValue) (o : Outside) → IsReady clients s o.files
      → LinkStopped clients n session p p.link s s o o fault.Memory
  link_no_memory p s o ready = λ k is.
      no_memory clients (LinkActs clients k n) (λ (x : Owing Spot). x.at.link ≡ p.link) (paid p) s o
      (λ link. refl) ready
      (has_now (LinkActs clients k n) (λ (x : Owing Spot). x.at.link ≡ p.link) (paid p) refl)

  -- the same of what is under way
  pub link_waits : ImagesStand → {p : Spot} {s : StoreValue} {o : Outside}
      → LinkUnder clients n session p p s s o o
  link_waits images {p = p} {s = s} {o = o} =
      λ first is. gone_none clients (LinkActs clients first n) images (paid p) s o

  pub link_goes_on : {p q r : Spot} {s s1 s' : StoreValue} {o o1 o' : Outside}
      → LinkUnder clients n session p q s s1 o o1 → LinkUnder clients n session q r s1 s' o1 o'
      → LinkUnder clients n session p r s s' o o'
  link_goes_on {p = p} {q = q} {r = r} {s = s} {s1 = s1} {s' = s'} {o = o} {o1 = o1} {o' =
      o'} first second = λ k is.
      gone_then clients (LinkActs clients k n) (paid p) (paid q) (paid r) s s1 s' o o1 o'
      (first k is) (second k is)

  pub link_halts_then : {p q : Spot} {s s1 : StoreValue} {o o1 : Outside} (link : course_links.Link)
      (s' : StoreValue) (o' : Outside) (e : Fault) → LinkUnder clients n session p q s s1 o o1
      → LinkHalted clients n session q link s1 s' o1 o' e
      → LinkHalted clients n session p link s s' o o' e
  link_halts_then {p = p} {q = q} {s = s} {s1 = s1} {o = o} {o1 = o1} link s' o' e first second =
      λ k is.
      halted_then clients (LinkActs clients k n) (λ (x : Owing Spot). x.at.link ≡ link) (paid p)
      (paid q) s s1 s' o o1 o' e (first k is) (second k is)

  pub link_starved : ImagesStand → (p : Spot) (s : StoreValue) (o : Outside)
      → IsGathering clients s o.files → LinkHalted clients n session p p.link s s o o fault.Memory
  link_starved images p s o waits = λ k is. record {
    to = paid p;
    went = gone_none clients (LinkActs clients k n) images (paid p) s o;
    clear = λ link. refl;
    stands =
        has_now (LinkActs clients k n) (λ (x : Owing Spot). x.at.link ≡ p.link) (paid p) refl;
    waits = waits;
  }

module _ (clients : Meaning) (n session : ℕ) where
  -- ---- one event

  -- nothing is owed by it
  step_of : (first : ℕ) → session ≡ first + n → (p q : Spot) (e : Event)
      → LinkStep clients n session p e q → ((link : ℕ) → adds_to p.facts first e link ≡ [])
      → LinkActs clients first n (paid p) (Does e) (paid q)
  step_of first is p q e steps none = (
    may_paid e (paid p) (λ link. refl),
    subst (λ (k : ℕ). LinkStep clients n k p e q) is steps,
    λ link. sym (none link),
  )

  pub link_does : (p q : Spot) (e : Event) (s s' : StoreValue) (o o' : Outside)
      → ((first link : ℕ) → adds_to p.facts first e link ≡ [])
      → LinkStep clients n session p e q → Did clients (Does e ∷ []) s s' o o'
      → LinkWent clients n session p q s s' o o'
  link_does p q e s s' o o' none steps did = λ first is.
      went_one clients (LinkActs clients first n) (paid p) (paid q) (Does e) s s' o o'
      (step_of first is p q e steps (none first)) did

  -- it calls nothing
  pub link_pass : (p q : Spot) (s : StoreValue) (o : Outside) → LinkStep clients n session p Pass q
      → LinkWent clients n session p q s s o o
  link_pass p q s o steps =
      link_does p q Pass s s o o (λ first link. refl) steps
      (did_pass clients (Does Pass) s o refl (λ link. refl) (told_pass o o refl))

  -- the same of what is under way
  link_gathers : (p q : Spot) (e : Event) (s s' : StoreValue) (o o' : Outside)
      → ((first link : ℕ) → adds_to p.facts first e link ≡ [])
      → LinkStep clients n session p e q → Underway clients (Does e ∷ []) s s' o o'
      → LinkUnder clients n session p q s s' o o'
  link_gathers p q e s s' o o' none steps under = λ first is. record {
    acts = Does e ∷ [];
    path =
        path_one (LinkActs clients first n) (paid p) (paid q) (Does e)
        (step_of first is p q e steps (none first));
    under = under;
  }

  pub link_passes_on : ImagesStand → (p q : Spot) (s : StoreValue) (o : Outside)
      → LinkStep clients n session p Pass q → LinkUnder clients n session p q s s o o
  link_passes_on images p q s o steps =
      let none = under_none images clients s o in
      link_gathers p q Pass s s o o (λ first link. refl) steps (record {
        quiet = (tt, tt);
        gathers = none.gathers;
        run = none.run;
        goes = none.goes;
        limit = refl;
        format = refl;
      })

  -- ---- settling

  settling_owes : (p : Spot) (b : List Entry) (bs : Journal) → AllSettling clients p.facts (b ∷ bs)
      → (first link : ℕ) → adds_to p.facts first (Commit b) link ≡ []
  settling_owes p b bs settling first link =
      ap spelled
      (silent_adds_nothing p.facts (first + link) b (settling_silent clients p.facts b settling.0.2))

  settle_path : (first : ℕ) → session ≡ first + n → (p : Spot) (its : List Item) (bs : Journal)
      → p.doing ≡ Takes its → AllSettling clients p.facts bs
      → Path (LinkActs clients first n) (paid p) (commit_acts bs)
      (paid (record p { facts = after_batches p.facts bs }))
  settle_path first is p its [] takes settling = refl
  settle_path first is p its (b ∷ bs) takes settling =
      let q : Spot = record p { facts = after_all p.facts b } in (
        paid q,
        step_of first is p q (Commit b)
            (step_at clients n session p q (Commit b) (Takes its) takes (inl (settling.0, refl)))
            (settling_owes p b bs settling first),
        settle_path first is q its bs takes settling.1,
      )

  pub link_settles : (p : Spot) (its : List Item) (s s' : StoreValue) (o o' : Outside)
      → p.doing ≡ Takes its → p.facts ≡ s.state.facts → (by : SettlesBy clients s s' o o')
      → LinkUnder clients n session p (record p { facts = s'.state.facts }) s s' o o'
  link_settles p its s s' o o' takes same by = λ first is.
      let settling : AllSettling clients p.facts by.more =
      subst (λ (f : Facts). AllSettling clients f by.more) (sym same) by.settling in
      let end : after_batches p.facts by.more ≡ s'.state.facts =
      ap (λ (f : Facts). after_batches f by.more) same ∙ sym by.facts in
      record {
        acts = commit_acts by.more;
        path =
            subst (λ (f : Facts). Path (LinkActs clients first n) (paid p) (commit_acts by.more)
            (paid (record p { facts = f }))) end (settle_path first is p its by.more takes settling);
        under = by.under;
      }

  pub link_settle_halts : (p : Spot) (its : List Item) (s s' : StoreValue) (o o' : Outside)
      (e : Fault) → p.doing ≡ Takes its → p.facts ≡ s.state.facts
      → SettleHalts clients s s' o o' e → LinkHalted clients n session p p.link s s' o o' e
  link_settle_halts p its s s' o o' fault.Memory takes same by = λ first is.
      let to : Owing Spot = paid (record p { facts = s'.state.facts }) in
      record {
        to = to;
        went = link_settles p its s s' o o' takes same by first is;
        clear = λ link. refl;
        stands =
            has_now (LinkActs clients first n) (λ (x : Owing Spot). x.at.link ≡ p.link) to refl;
        waits = by.waits;
      }
  link_settle_halts p its s s' o o' fault.Full takes same never = absurd never
  link_settle_halts p its s s' o o' fault.DiskFault takes same halts = λ first is.
      let to : Owing Spot = paid (record p { facts = after_batches p.facts halts.more }) in
      record {
        to = to;
        acts = commit_acts halts.more;
        path =
            settle_path first is p its halts.more takes
            (subst (λ (f : Facts). AllSettling clients f halts.more) (sym same) halts.settling);
        breaks = halts.breaks;
        stands =
            has_now (LinkActs clients first n) (λ (x : Owing Spot). x.at.link ≡ p.link) to refl;
      }

  -- ---- a record that is taken

  module _ (place : ℕ) (r : Record) (its : List Item) (p : Spot)
      (takes : p.doing ≡ Takes (item.One place r ∷ its))
      (allowed : Allowed clients p.facts (next_take p.facts session r)) where
    -- the batch of the record
    abbrev its_batch : List Entry
    its_batch = next_take p.facts session r

    abbrev take_spot : Spot
    take_spot = taken_spot place r its its_batch p

    take_owes : (first link : ℕ)
        → adds_to p.facts first (Commit its_batch) link ≡ []
    take_owes first link =
        ap spelled
        (silent_adds_nothing p.facts (first + link) its_batch
        (take_silent clients p.facts session _ _ allowed))

    take_step : LinkStep clients n session p (Commit its_batch) take_spot
    take_step =
        step_at clients n session p take_spot (Commit its_batch)
        (Takes (item.One place r ∷ its)) takes (inr (refl, allowed, refl))

    take_acts : (first : ℕ) → session ≡ first + n
        → LinkActs clients first n (paid p) (Does (Commit its_batch)) (paid take_spot)
    take_acts first is = step_of first is p take_spot (Commit its_batch) take_step (take_owes first)

    -- the link stands so once it is committed
    soon_taken : (first : ℕ) → session ≡ first + n
        → HasSoon (LinkActs clients first n)
        (λ (x : Owing Spot). x.at.link ≡ link_after_take place r p.link) (paid p)
    soon_taken first is = record {
      acts = Does (Commit its_batch) ∷ [];
      quiet = (tt, tt);
      next = paid take_spot;
      path =
          path_one (LinkActs clients first n) (paid p) (paid take_spot) (Does (Commit its_batch))
          (take_acts first is);
      has = refl;
    }

    pub link_takes : (s s' : StoreValue) (o o' : Outside)
        → Underway clients (commit_acts (its_batch ∷ [])) s s' o o'
        → LinkUnder clients n session p (taken_spot place r its its_batch p) s s' o o'
    link_takes s s' o o' under =
        link_gathers p take_spot (Commit its_batch) s s' o o' take_owes take_step under

    stays_here : (first : ℕ) (s s' : StoreValue) (o o' : Outside) → Underway clients [] s s' o o'
        → Goes clients (LinkActs clients first n) (paid p) (paid p) s s' o o'
    stays_here first s s' o o' under = record { acts = []; path = refl; under = under }

    pub link_take_halts : (s s' : StoreValue) (o o' : Outside) (e : Fault)
        → JoinHalts clients its_batch s s' o o' e
        → LinkHalted clients n session p (link_after_take place r p.link) s s' o o' e
    link_take_halts s s' o o' fault.Memory halts = λ first is. record {
      to = paid p;
      went = stays_here first s s' o o' halts.under;
      clear = λ link. refl;
      stands = soon_taken first is;
      waits = halts.waits;
    }
    link_take_halts s s' o o' fault.Full halts = λ first is. record {
      to = paid p;
      went = stays_here first s s' o o' halts.idle.under;
      clear = λ link. refl;
      stands = soon_taken first is;
      waits = halts.idle.waits;
      batch = its_batch;
      next = paid take_spot;
      steps = take_acts first is;
      over = halts.over;
    }
    link_take_halts s s' o o' fault.DiskFault halts = λ first is. record {
      to = paid p;
      acts = [];
      path = refl;
      breaks = halts;
      stands = soon_taken first is;
    }

    pub link_take_no_memory : ImagesStand → (s : StoreValue) (o : Outside)
        → IsGathering clients s o.files
        → LinkHalted clients n session p (link_after_take place r p.link) s s o o fault.Memory
    link_take_no_memory images s o waits = λ first is. record {
      to = paid p;
      went = gone_none clients (LinkActs clients first n) images (paid p) s o;
      clear = λ link. refl;
      stands = soon_taken first is;
      waits = waits;
    }

-- ---- a record, with the batch that the code makes of it

-- the spot behind it
abbrev behind_take : Record → ℕ → List Item → Spot → Facts → Spot
behind_take r place its p f = record {
  doing = Takes (items_after r its);
  link = link_after_take place r p.link;
  moved = p.moved;
  facts = f;
}

module _ {clients : Meaning} {session : ℕ} {r : Record} {s : StoreValue} {batch : List Entry}
    (take : IsNextTake clients session r s batch) where
  may_take : (p : Spot) → p.facts ≡ s.state.facts
      → Allowed clients p.facts (next_take p.facts session r)
  may_take p same =
      subst (λ (f : Facts). Allowed clients f (next_take f session r)) (sym same)
      (subst (λ (b : List Entry). Allowed clients s.state.facts b) take.is take.allowed)

  is_take : (p : Spot) → p.facts ≡ s.state.facts → batch ≡ next_take p.facts session r
  is_take p same = take.is ∙ ap (λ (f : Facts). next_take f session r) (sym same)

  -- it was gathered
  joined_take : (mid : StoreValue) (o m : Outside) → Joined clients batch s mid o m
      → (n place : ℕ) (its : List Item) (p : Spot) → p.doing ≡ Takes (item.One place r ∷ its)
      → p.facts ≡ s.state.facts
      → LinkUnder clients n session p
      (behind_take r place its p mid.state.facts) s mid o m
  joined_take mid o m joins n place its p takes same =
      let b : List Entry = next_take p.facts session r in
      let q_facts : after_all p.facts b ≡ mid.state.facts =
      ap (λ (f : Facts). after_all f b) same ∙ ap (after_all s.state.facts) (sym (is_take p same)) ∙ sym joins.facts in
      subst (λ (f : Facts). LinkUnder clients n session p (behind_take r place its p f) s mid o m)
      q_facts
      (link_takes clients n session place r its p takes (may_take p same) s mid o m
      (subst (λ (x : List Entry). Underway clients (commit_acts (x ∷ [])) s mid o m) (is_take p same) joins.under))

  pub record_taken : {mid s' : StoreValue} {o m o' : Outside} → Joined clients batch s mid o m
      → Settled clients mid s' m o' → RecordTaken clients session r s s' o o'
  record_taken {mid = mid} {s' = s'} {o = o} {m = m} {o' = o'} joins settles = record {
    settled = settles.settled;
    went = λ n place its p takes same.
        let q : Spot = behind_take r place its p mid.state.facts in
        link_goes_on n
        (joined_take mid o m joins n place its p takes same)
        (link_settles clients n session q (items_after r its) mid s' m o' refl refl settles.by);
  }

  pub record_halts_at_join : {s' : StoreValue} {o o' : Outside} (e : Fault)
      → JoinHalts clients batch s s' o o' e → RecordHalted clients session r s s' o o' e
  record_halts_at_join {s' = s'} {o = o} {o' = o'} e halts = record {
    halts = λ n place its p takes same.
        link_take_halts clients n session place r its p takes (may_take p same) s s' o o' e
        (subst (λ (x : List Entry). JoinHalts clients x s s' o o' e) (is_take p same) halts);
  }

  pub record_halts_at_settle : {mid s' : StoreValue} {o m o' : Outside}
      → Joined clients batch s mid o m → (e : Fault) → SettleHalts clients mid s' m o' e
      → RecordHalted clients session r s s' o o' e
  record_halts_at_settle {mid = mid} {s' = s'} {o = o} {m = m} {o' = o'} joins e halts = record {
    halts = λ n place its p takes same.
        let q : Spot = behind_take r place its p mid.state.facts in
        link_halts_then n (link_after_take place r p.link) s' o' e
        (joined_take mid o m joins n place its p takes same)
        (link_settle_halts clients n session q (items_after r its) mid s' m o' e refl refl halts);
  }

  pub record_no_memory : ImagesStand → {o : Outside} → IsGathering clients s o.files
      → RecordHalted clients session r s s o o fault.Memory
  record_no_memory images {o = o} waits = record {
    halts = λ n place its p takes same.
        link_take_no_memory clients n session place r its p takes (may_take p same) images s o waits;
  }

-- behind a skipped record, or behind the last item; no call is made
pub link_passes : ImagesStand → (clients : Meaning) (n session : ℕ) (its : List Item) (p q : Spot)
    (s : StoreValue) (o : Outside) → p.doing ≡ Takes its → IsSettled clients p.facts
    → PassesItem its p q → LinkUnder clients n session p q s s o o
link_passes images clients n session its p q s o takes settled passes =
    link_passes_on clients n session images p q s o
    (step_at clients n session p q Pass (Takes its) takes (settled, passes))

-- ---- the next item

module _ (images : ImagesStand) (follow : ReadingsFollow) {piece left : List ℕ} {l : Link} where
  module _ (place : ℕ) (r : Record) (reader : ReaderState) {l' : Link}
      (reads : ReadsOn piece l.reader (item.One place r ∷ []) left reader)
      (learns : LearnsNonce place r (record l { reader = reader }) l') where
    -- the items that are to come behind a record, and the link as it is then
    one_comes : (heard : List ℕ) (its : List Item) → IsReading heard piece l.reader its
        → (others : List Item) × (its ≡ item.One place r ∷ others)
        × IsReading heard left reader others
    one_comes heard its reading =
        answer_comes follow heard piece left l.reader reader its (item.One place r ∷ []) reading
        reads

    same_number : l'.session.number ≡ l.session.number
    same_number = ap (λ (x : Session). x.number) learns.same_session

    stands_so : (heard : List ℕ) → link_after_take place r (link_at l heard) ≡ link_at l' heard
    stands_so heard = learned place r (record l { reader = reader }) l' heard learns

    pub item_one : {clients : Meaning} {n : ℕ} {s s' : StoreValue} {o o' : Outside} → l.end ≡ link_end.Going
        → RecordTaken clients l'.session.number r s s' o o'
        → NextWent piece left clients n l l' s s' o o' true
    item_one {clients = clients} {n = n} {s = s} {s' = s'} {o = o} {o' = o'} going takes = record {
      leads = λ heard its moved reading.
          let come = one_comes heard its reading in
          let p : Spot = spot_at (Takes its) l heard moved s.state.facts in
          let q : course_links.Link → Spot = λ x. record {
            doing = Takes (items_after r come.0);
            link = x;
            moved = moved;
            facts = s'.state.facts;
          } in (
            items_after r come.0,
            to_come place r come.0 heard left (record l { reader = reader }) l' going learns.end
                (subst (λ (x : ReaderState). IsReading heard left x come.0)
                (sym learns.same_reader) come.2),
            subst (λ (k : ℕ). LinkUnder clients n k p (q (link_at l' heard)) s s' o o') same_number
                (subst (λ (x : course_links.Link).
                LinkUnder clients n l'.session.number p (q x) s s' o o') (stands_so heard)
                (takes.went n place come.0 p (ap (λ (x : List Item). Takes x) come.1) refl)),
          );
    }

    pub item_halts : {clients : Meaning} {n : ℕ} {s s' : StoreValue} {o o' : Outside} {e : Fault}
        → RecordHalted clients l'.session.number r s s' o o' e
        → ItemsHalted piece clients n l l' s s' o o' e
    item_halts {clients = clients} {n = n} {s = s} {s' = s'} {o = o} {o' = o'} {e = e} halted = record {
      halts = λ heard its moved reading.
          let come = one_comes heard its reading in
          let p : Spot = spot_at (Takes its) l heard moved s.state.facts in
          subst (λ (k : ℕ). LinkHalted clients n k p (link_at l' heard) s s' o o' e) same_number
          (subst (λ (x : course_links.Link).
          LinkHalted clients n l'.session.number p x s s' o o' e) (stands_so heard)
          (halted.halts n place come.0 p (ap (λ (x : List Item). Takes x) come.1) refl));
    }

  pub item_skipped : {clients : Meaning} {n : ℕ} {s : StoreValue} {o : Outside}
      (place type_byte len : ℕ) (reader : ReaderState) → l.end ≡ link_end.Going
      → IsSettled clients s.state.facts
      → ReadsOn piece l.reader (item.Skipped place type_byte len ∷ []) left reader
      → NextWent piece left clients n l (record l { reader = reader }) s s o o true
  item_skipped {clients = clients} {n = n} {s = s} {o = o} place type_byte len reader going settled reads = record {
    leads = λ heard its moved reading.
        let come =
        answer_comes follow heard piece left l.reader reader its
        (item.Skipped place type_byte len ∷ []) reading reads in
        let p : Spot = spot_at (Takes its) l heard moved s.state.facts in (
          come.0,
          subst (IsTaking heard left (record l { reader = reader }) come.0) (sym going) come.2,
          link_passes images clients n l.session.number (item.Skipped place type_byte len ∷ come.0) p
              (record p { doing = Takes come.0 }) s o (ap (λ (x : List Item). Takes x) come.1)
              settled refl,
        );
  }

  -- behind the last item the link stands by all that was heard
  module _ (clients : Meaning) (n : ℕ) (s : StoreValue) (o : Outside) (reader : ReaderState)
      (end : LinkEnd) (going : l.end ≡ link_end.Going)
      (settled : IsSettled clients s.state.facts) (reads : ReadsOn piece l.reader [] left reader)
      (none : left ≡ []) (awaits : AwaitsBytes reader) where
    item_none : ((heard : List ℕ) → HasRead heard reader
        → stands_behind link_end.Going (ending 0 heard) ≡ end)
        → NextWent piece left clients n l (record l { reader = reader; end = end }) s s o o false
    item_none ends = record {
      leads = λ heard its moved reading.
          let come =
          answer_comes follow heard piece left l.reader reader its [] reading reads in
          let over = none_come heard left reader come.0 come.2 none awaits in
          let p : Spot = spot_at (Takes its) l heard moved s.state.facts in
          let stands : end ≡ stands_behind l.end (ending 0 heard) =
          sym (ends heard over.1)
          ∙ ap (λ (x : LinkEnd). stands_behind x (ending 0 heard)) (sym going) in (
            over.1,
            link_passes images clients n l.session.number [] p
                (record p { doing = Waits; link = record (link_at l heard) { stands = end } }) s o
                (ap (λ (x : List Item). Takes x) (come.1 ∙ over.0)) settled
                (ap (λ (x : LinkEnd).
                record p { doing = Waits; link = record (link_at l heard) { stands = x } }) stands),
          );
    }

    pub item_more : EndingsAreOfRests → RestsGiveNothing → l.end ≡ end
        → found_in reader.bytes ≡ found.More
        → NextWent piece left clients n l (record l { reader = reader; end = end }) s s o o false
    item_more ends rests_give same_end more =
        item_none (λ heard has.
        goes_on_behind_more ends rests_give heard reader has more ∙ (sym going ∙ same_end))

    pub item_bad : (place : ℕ) (why : Reason) → end ≡ link_end.Bad place why
        → EndsBad reader place why
        → NextWent piece left clients n l (record l { reader = reader; end = end }) s s o o false
    item_bad place why is bad =
        item_none (λ heard has. closes_behind_bad heard reader place why has bad ∙ sym is)

pub item_no_memory : ImagesStand → {clients : Meaning} {n : ℕ} {piece : List ℕ} {l : Link}
    {s : StoreValue} {o : Outside} (reader : ReaderState) → IsGathering clients s o.files
    → ItemsHalted piece clients n l (record l { reader = reader }) s s o o fault.Memory
item_no_memory images {n = n} {l = l} {s = s} {o = o} reader waits = record {
  halts = λ heard its moved reading.
      link_starved n images (spot_at (Takes its) l heard moved s.state.facts) s o waits;
}

-- ---- a piece

pub items_none : ImagesStand → {clients : Meaning} {n : ℕ} {piece : List ℕ} {l : Link} {s : StoreValue}
    {o : Outside} → l.end ≡ link_end.Going → NextWent piece piece clients n l l s s o o true
items_none images {n = n} {piece = piece} {l = l} going = record {
  leads = λ heard its moved reading. (
    its,
    subst (IsTaking heard piece l its) (sym going) reading,
    link_waits n images,
  );
}

module _ {clients : Meaning} {n : ℕ} {piece mid : List ℕ} {l m : Link} {s s1 : StoreValue}
    {o o1 : Outside} (same_session : m.session ≡ l.session) (going : m.end ≡ link_end.Going)
    (a : NextWent piece mid clients n l m s s1 o o1 true) where
  came_to : (heard : List ℕ) (its : List Item) (moved : Bool) → IsReading heard piece l.reader its
      → (others : List Item) × IsReading heard mid m.reader others
      × LinkUnder clients n l.session.number (spot_at (Takes its) l heard moved s.state.facts) (spot_at (Takes others) m heard moved s1.state.facts) s s1 o o1
  came_to heard its moved reading =
      let first = a.leads heard its moved reading in
      (first.0, subst (IsTaking heard mid m first.0) going first.1, first.2)

  item_joins : {s' : StoreValue} {o' : Outside} {p q r : Spot}
      → LinkUnder clients n l.session.number p q s s1 o o1
      → LinkUnder clients n m.session.number q r s1 s' o1 o'
      → LinkUnder clients n l.session.number p r s s' o o'
  item_joins {s' = s'} {o' = o'} {q = q} {r = r} first second =
      link_goes_on n first
      (subst (λ (x : Session). LinkUnder clients n x.number q r s1 s' o1 o') same_session second)

  pub items_then : {left : List ℕ} {l' : Link} {s' : StoreValue} {o' : Outside}
      → NextWent mid left clients n m l' s1 s' o1 o' true
      → NextWent piece left clients n l l' s s' o o' true
  items_then b = record {
    leads = λ heard its moved reading.
        let first = came_to heard its moved reading in
        let second = b.leads heard first.0 moved first.1 in
        (second.0, second.1, item_joins first.2 second.2);
  }

  pub items_taken : {left : List ℕ} {l' : Link} {s' : StoreValue} {o' : Outside}
      → NextWent mid left clients n m l' s1 s' o1 o' false
      → PieceWent piece clients n l l' s s' o o' tt
  items_taken b = record {
    has_read = λ heard its reading still.
        let first = came_to heard its false reading in
        (b.leads heard first.0 false first.1).0;
    went = λ heard its moved reading.
        let first = came_to heard its moved reading in
        item_joins first.2 (b.leads heard first.0 moved first.1).1;
  }

  pub items_halt : {l' : Link} {s' : StoreValue} {o' : Outside} {e : Fault}
      → ItemsHalted mid clients n m l' s1 s' o1 o' e
      → ItemsHalted piece clients n l l' s s' o o' e
  items_halt {l' = l'} {s' = s'} {o' = o'} {e = e} b = record {
    halts = λ heard its moved reading.
        let first = came_to heard its moved reading in
        let q : Spot = spot_at (Takes first.0) m heard moved s1.state.facts in
        link_halts_then n (link_at l' heard) s' o' e first.2
        (subst (λ (x : Session). LinkHalted clients n x.number q (link_at l' heard) s1 s' o1 o' e)
        same_session (b.halts heard first.0 moved first.1));
  }

-- a record closed the link
pub items_closed : ImagesStand → {clients : Meaning} {n : ℕ} {piece left : List ℕ} {l l' : Link}
    {s s' : StoreValue} {o o' : Outside} → (l'.end ≡ link_end.Going → ⊥)
    → IsSettled clients s'.state.facts → NextWent piece left clients n l l' s s' o o' true
    → PieceWent piece clients n l l' s s' o o' tt
items_closed images {clients = clients} {n = n} {left = left} {l = l} {l' = l'} {s' = s'} {o' =
    o'} closed settled a = record {
      has_read = λ heard its reading going. absurd (closed going);
      went = λ heard its moved reading.
          let first = a.leads heard its moved reading in
          let none : first.0 ≡ [] =
          not_taking heard left l' first.0 l'.end closed first.1 in
          let p : Spot = spot_at (Takes first.0) l' heard moved s'.state.facts in
          let q : Spot = spot_at Waits l' heard moved s'.state.facts in
          link_goes_on n first.2
          (link_passes images clients n l.session.number [] p q s' o'
          (ap (λ (x : List Item). Takes x) none) settled
          (ap (λ (x : LinkEnd). record q { link = record (link_at l' heard) { stands = x } })
          (sym (closed_behind l'.end (ending 0 heard) closed))));
    }

-- ---- what waited of a piece was added

-- the disk failed in that
module _ {clients : Meaning} {n : ℕ} {s s1 s2 : StoreValue} {o o1 o2 : Outside}
    (store : IsStore s) (ready : IsReady clients s o.files) where
  broken_behind : (l' : Link) (first : ℕ) (p q : Spot) (heard : List ℕ)
      → Goes clients (LinkActs clients first n) (paid p) (paid q) s s1 o o1
      → HasSoon (LinkActs clients first n) (λ (x : Owing Spot). x.at.link ≡ link_at l' heard)
      (paid q)
      → UnderwayBreaks clients [] s1 s2 o1 o2
      → StopsBroken clients (LinkActs clients first n)
      (λ (x : Owing Spot). x.at.link ≡ link_at l' heard) (paid p) s s2 o o2
  broken_behind l' first p q heard goes stands breaks =
      stopped_broken clients (LinkActs clients first n)
      (λ (x : Owing Spot). x.at.link ≡ link_at l' heard) (paid p) s s2 o o2 store ready
      (halted_broken clients (LinkActs clients first n)
      (λ (x : Owing Spot). x.at.link ≡ link_at l' heard) (paid p) (paid q) s s1 s2 o o1 o2 goes
      stands breaks)

module _ {clients : Meaning} {n : ℕ} {piece : List ℕ} {l l' : Link} {s s1 s2 : StoreValue}
    {o o1 o2 : Outside} (store : IsStore s) (ready : IsReady clients s o.files) where
  pub piece_flushed : PieceWent piece clients n l l' s s1 o o1 tt → Flushed clients s1 s2 o1 o2
      → PieceTaken piece clients n l l' s s2 o o2 tt
  piece_flushed went flushed = record {
    has_read = went.has_read;
    went = λ heard its moved reading first is.
        let p : Spot = spot_at (Takes its) l heard moved s.state.facts in
        let q : Facts → Spot = λ f. spot_at Waits l' heard moved f in
        subst (λ (v : StateValue).
        Went clients (LinkActs clients first n) (paid p) (paid (q v.facts)) s s2 o o2)
        (sym flushed.keeps.state)
        (gone_flushed clients (LinkActs clients first n) (paid p) (paid (q s1.state.facts)) s s1 s2 o
        o1 o2
        store ready (went.went heard its moved reading first is) flushed);
  }

  pub items_flushed : (e : Fault) → (e ≡ fault.DiskFault → ⊥)
      → ItemsHalted piece clients n l l' s s1 o o1 e → Flushed clients s1 s2 o1 o2
      → ItemsStopped piece clients n l l' s s2 o o2 e
  items_flushed e other halted flushed = record {
    stops = λ heard its moved reading first is.
        let p : Spot = spot_at (Takes its) l heard moved s.state.facts in
        stopped_flushed clients (LinkActs clients first n)
        (λ (x : Owing Spot). x.at.link ≡ link_at l' heard) (paid p) s s1 s2 o o1 o2 store ready e
        other (halted.halts heard its moved reading first is) flushed;
  }

  pub piece_broke : PieceWent piece clients n l l' s s1 o o1 tt
      → UnderwayBreaks clients [] s1 s2 o1 o2
      → ItemsStopped piece clients n l l' s s2 o o2 fault.DiskFault
  piece_broke went breaks = record {
    stops = λ heard its moved reading first is.
        let p : Spot = spot_at (Takes its) l heard moved s.state.facts in
        let q : Spot = spot_at Waits l' heard moved s1.state.facts in
        broken_behind store ready l' first p q heard (went.went heard its moved reading first is)
        (has_now (LinkActs clients first n) (λ (x : Owing Spot). x.at.link ≡ link_at l' heard)
        (paid q) refl) breaks;
  }

  pub items_starved_broke : ItemsHalted piece clients n l l' s s1 o o1 fault.Memory
      → UnderwayBreaks clients [] s1 s2 o1 o2
      → ItemsStopped piece clients n l l' s s2 o o2 fault.DiskFault
  items_starved_broke halted breaks = record {
    stops = λ heard its moved reading first is.
        let p : Spot = spot_at (Takes its) l heard moved s.state.facts in
        let halts = halted.halts heard its moved reading first is in
        stopped_broken clients (LinkActs clients first n)
        (λ (x : Owing Spot). x.at.link ≡ link_at l' heard) (paid p) s s2 o o2 store ready
        (halted_broken clients (LinkActs clients first n)
        (λ (x : Owing Spot). x.at.link ≡ link_at l' heard) (paid p) halts.to s s1 s2 o o1 o2
        halts.went halts.stands breaks);
  }

  pub items_full_broke : ItemsHalted piece clients n l l' s s1 o o1 fault.Full
      → UnderwayBreaks clients [] s1 s2 o1 o2
      → ItemsStopped piece clients n l l' s s2 o o2 fault.DiskFault
  items_full_broke halted breaks = record {
    stops = λ heard its moved reading first is.
        let p : Spot = spot_at (Takes its) l heard moved s.state.facts in
        let halts = halted.halts heard its moved reading first is in
        stopped_broken clients (LinkActs clients first n)
        (λ (x : Owing Spot). x.at.link ≡ link_at l' heard) (paid p) s s2 o o2 store ready
        (halted_broken clients (LinkActs clients first n)
        (λ (x : Owing Spot). x.at.link ≡ link_at l' heard) (paid p) halts.to s s1 s2 o o1 o2
        halts.went halts.stands breaks);
  }

-- it had failed before
pub items_broken : {clients : Meaning} {n : ℕ} {piece : List ℕ} {l l' : Link} {s s' : StoreValue}
    {o o' : Outside} → IsStore s → IsReady clients s o.files
    → ItemsHalted piece clients n l l' s s' o o' fault.DiskFault
    → ItemsStopped piece clients n l l' s s' o o' fault.DiskFault
items_broken {clients = clients} {n = n} {l = l} {l' = l'} {s = s} {s' = s'} {o = o} {o' =
    o'} store ready halted = record {
      stops = λ heard its moved reading first is.
          let p : Spot = spot_at (Takes its) l heard moved s.state.facts in
          stopped_broken clients (LinkActs clients first n)
          (λ (x : Owing Spot). x.at.link ≡ link_at l' heard) (paid p) s s' o o' store ready
          (halted.halts heard its moved reading first is);
    }

module _ (clients : Meaning) (n session : ℕ) where
  asked_adds : (given : Heard) (buf : List ℕ) (f : Facts) (first link : ℕ)
      → adds_to f first (asked_event n given buf) link ≡ []
  asked_adds (heard_kind.Got k) buf f first link = refl
  asked_adds heard_kind.Idle buf f first link = refl
  asked_adds heard_kind.End buf f first link = refl
  asked_adds heard_kind.Failed buf f first link = refl

  -- it is asked
  pub link_asked : (given : Heard) (buf : List ℕ) (p : Spot) (s : StoreValue) (o o' : Outside)
      → p.doing ≡ Asks → is_going p.link.stands ≡ true → length buf ≡ PIECE_LEN → QuietCall o o'
      → HearsAnswer n given buf o.links o'.links
      → IsAnswerCaused given (length buf) (o.links.faults n) (o'.links.faults n)
      → LinkWent clients n session p (answered_spot given buf p) s s o o'
  link_asked given buf p s o o' asks going whole call hears caused =
      link_does clients n session p (answered_spot given buf p) (asked_event n given buf) s s o o'
      (asked_adds given buf p.facts)
      (step_at clients n session p (answered_spot given buf p) (asked_event n given buf) Asks asks
      (asked_step clients n session given buf p going))
      (did_quiet clients (Does (asked_event n given buf)) s o o' (asked_commits clients n session given buf) (λ link. refl)
      (goes_heard n given buf o o' call hears) call hears.same_told
      (told_asked n given buf o o' whole hears caused))

  -- it is not asked any more
  pub link_unasked : (p : Spot) (s : StoreValue) (o : Outside) → p.doing ≡ Asks
      → is_going p.link.stands ≡ false
      → LinkWent clients n session p (record p { doing = Waits }) s s o o
  link_unasked p s o asks going =
      link_pass clients n session p (record p { doing = Waits }) s o
      (step_at clients n session p (record p { doing = Waits }) Pass Asks asks (going, refl))

module _ (clients : Meaning) (n : ℕ) (l : Link) (s : StoreValue) (o o1 : Outside) (buf : List ℕ)
    (whole : length buf ≡ PIECE_LEN) (going : l.end ≡ link_end.Going) (call : QuietCall o o1) where
  asked_here : (given : Heard) (heard : List ℕ) (moved : Bool)
      → HearsAnswer n given buf o.links o1.links
      → IsAnswerCaused given (length buf) (o.links.faults n) (o1.links.faults n)
      → LinkWent clients n l.session.number (spot_at Asks l heard moved s.state.facts)
      (answered_spot given buf (spot_at Asks l heard moved s.state.facts)) s s o o1
  asked_here given heard moved hears caused =
      link_asked clients n l.session.number given buf (spot_at Asks l heard moved s.state.facts) s o
      o1
      refl (ap (λ (e : LinkEnd). is_going e) going) whole call hears caused

  -- nothing came for now
  pub hear_idle : HearsAnswer n heard_kind.Idle buf o.links o1.links
      → IsAnswerCaused heard_kind.Idle (length buf) (o.links.faults n) (o1.links.faults n)
      → HearingWent clients n l l s s o o1 true
  hear_idle hears caused = record {
    leads = λ heard moved read. record {
      heard' = heard;
      doing = Waits;
      has_read = read;
      ready = inl refl;
      went = asked_here heard_kind.Idle heard moved hears caused;
    };
  }

  -- the call failed
  pub hear_failed : HearsAnswer n heard_kind.Failed buf o.links o1.links
      → IsAnswerCaused heard_kind.Failed (length buf) (o.links.faults n) (o1.links.faults n)
      → HearingWent clients n l (record l { end = link_end.Failed }) s s o o1 false
  hear_failed hears caused = record {
    leads = λ heard moved read. record {
      heard' = heard;
      doing = Done;
      has_read = λ still. cc;
      ready = inr (refl, refl);
      went = asked_here heard_kind.Failed heard moved hears caused;
    };
  }

  -- the other side ended
  pub hear_ended : {end : LinkEnd} → end ≡ stands_ended (ending l.reader.place l.reader.bytes)
      → HearsAnswer n heard_kind.End buf o.links o1.links
      → IsAnswerCaused heard_kind.End (length buf) (o.links.faults n) (o1.links.faults n)
      → HearingWent clients n l (record l { end = end }) s s o o1 false
  hear_ended {end = end} is hears caused = record {
    leads = λ heard moved read.
        let stood : stands_ended (ending 0 heard) ≡ end =
        ap stands_ended (ends_as heard l.reader (read going))
        ∙ sym is in
        record {
          heard' = heard;
          doing = Waits;
          has_read =
              λ still.
              absurd (ended_not_going (ending l.reader.place l.reader.bytes) (sym is ∙ still));
          ready = inl refl;
          went =
              subst (λ x. LinkWent clients n l.session.number (spot_at Asks l heard moved s.state.facts)
              (record { doing = Waits; link = record (link_at l heard) { stands = x }; moved = true; facts = s.state.facts }) s s o o1) stood
              (asked_here heard_kind.End heard moved hears caused);
        };
  }

  -- bytes came, and were taken
  pub hear_piece : ReadingsWiden → (count : ℕ) {l' : Link} {s' : StoreValue} {o' : Outside}
      → HearsAnswer n (heard_kind.Got count) buf o.links o1.links
      → IsAnswerCaused (heard_kind.Got count) (length buf) (o.links.faults n) (o1.links.faults n)
      → PieceTaken (take count buf) clients n l l' s s' o1 o' tt
      → HearingWent clients n l l' s s' o o' false
  hear_piece widen count hears caused taken = record {
    leads = λ heard moved read.
        let bytes : List ℕ = take count buf in
        let its : List Item = new_items heard bytes in
        let reading : IsReading (heard ++ bytes) bytes l.reader its = piece_comes widen heard bytes l.reader (read going) in
        record {
          heard' = heard ++ bytes;
          doing = Waits;
          has_read = taken.has_read (heard ++ bytes) its reading;
          ready = inl refl;
          went =
              link_joins n (asked_here (heard_kind.Got count) heard moved hears caused)
              (taken.went (heard ++ bytes) its true reading);
        };
  }

  pub hear_stops : ReadingsWiden → (count : ℕ) {l' : Link} {s' : StoreValue} {o' : Outside}
      {e : Fault} → HearsAnswer n (heard_kind.Got count) buf o.links o1.links
      → IsAnswerCaused (heard_kind.Got count) (length buf) (o.links.faults n) (o1.links.faults n)
      → ItemsStopped (take count buf) clients n l l' s s' o1 o' e
      → HearingStopped clients n l l' s s' o o' e
  hear_stops widen count {l' = l'} {s' = s'} {o' = o'} {e = e} hears caused stopped = record {
    stops = λ heard moved read.
        let bytes : List ℕ = take count buf in
        let its : List Item = new_items heard bytes in
        let reading : IsReading (heard ++ bytes) bytes l.reader its = piece_comes widen heard bytes l.reader (read going) in (
          heard ++ bytes,
          link_stops_then n (link_at l' (heard ++ bytes)) s' o' e
              (asked_here (heard_kind.Got count) heard moved hears caused)
              (stopped.stops (heard ++ bytes) its true reading),
        );
  }

-- a link that is not asked
pub hear_nothing : {clients : Meaning} {n : ℕ} {l : Link} {s : StoreValue} {o : Outside}
    → (l.end ≡ link_end.Going → ⊥) → HearingWent clients n l l s s o o true
hear_nothing {clients = clients} {n = n} {l = l} {s = s} {o = o} closed = record {
  leads = λ heard moved read. record {
    heard' = heard;
    doing = Waits;
    has_read = read;
    ready = inl refl;
    went =
        link_unasked clients n l.session.number (spot_at Asks l heard moved s.state.facts) s o refl
        (not_going_end l.end closed);
  };
}
