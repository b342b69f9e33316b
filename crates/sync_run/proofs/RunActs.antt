-- What calls did of a run, as acts: sessions that ran over a settled store, and what was done
-- before them.
use Rattle.std.proofs.Common.{◌≡◌, ℕ, ◌+◌, ◌<◌, Bool, false, List, [], ◌∷◌, ◌++◌, append-nil}
use Rattle.std.proofs.Common.{append_assoc, refl, sym, ◌∙◌, ap, subst, arith, inl, inr, Some}
use Rattle.std.proofs.Common.{Result, Ok, Err}
use Rattle.std.specs.Prelude.{IsErrAnd}
use Rattle.outside.specs.declared.limits.TheConstants.{MAX_JOURNAL}
use Rattle.outside.specs.Files.{Two, File, read_files}
use Rattle.outside.specs.Links.{Links}
use Rattle.outside.specs.Outside.{DiskRun, Outside}
use Rattle.outside.specs.Runs.{TellsAll}
use Rattle.outside.proofs.RunLaws.{host_run, told_after}
use Rattle.record_grammar.specs.Spelling.{spelled}
use Rattle.sync_ids.specs.declared.records.Record.{Record}
use Rattle.sync_rules.specs.declared.entries.Entry.{Entry}
use Rattle.sync_rules.specs.declared.entries.Session.{Session}
use Rattle.sync_rules.specs.Clients.{Meaning}
use Rattle.sync_rules.specs.Facts.{Facts, Journal, after_all, after_batches, facts}
use Rattle.sync_rules.specs.Legal.{AllSettling}
use Rattle.sync_rules.proofs.OutputLaws.{settling_silent, silent_adds_nothing}
use Rattle.sync_rules.proofs.StepKinds.{all_settling_only}
use Rattle.entry_codec.specs.declared.naming.Format.{Format}
use Rattle.entry_codec.specs.declared.naming.Format.TheVariants as kind
use Rattle.entry_codec.specs.Payloads.{journal_end, payload_len}
use Rattle.entry_codec.specs.Standing.{room_of}
use Rattle.sync_store.specs.Commits.{needed}
use Rattle.sync_store.specs.Fitting.{FitsFiles, FitsSome}
use Rattle.sync_store.specs.Moments.{IsBetween}
use Rattle.sync_store.specs.Migrations.{IsSpent}
use Rattle.sync_store.specs.Store.{StoreValue, written_in}
use Rattle.store_commands.specs.Commit.{ComesAnew, IsInFormat, MayMigrate, SettledAnew, SettlesAnew}
use Rattle.store_commands.specs.Commit.{needed_by}
use Rattle.store_commands.proofs.Stood.{fits_synced, last_here, spent_here}
use Rattle.sync_course.specs.Acts.{Act, AtFront, batches_in, commit_acts, events_of, sends_on}
use Rattle.sync_course.specs.Closing.{Closing}
use Rattle.sync_course.specs.Events.{Event, TellsEvents}
use Rattle.sync_course.specs.Owing.{Owing, paid}
use Rattle.sync_course.specs.Paths.{Path}
use Rattle.sync_course.specs.Turns.{Ended, Place, Terms, first_place}
use Rattle.sync_course.proofs.ActLaws.{batches_in-append, batches_in_commits, commit_acts-append, commits_are_quiet}
use Rattle.sync_course.proofs.ActLaws.{commits_send, events_of-append, events_of_commits}
use Rattle.sync_course.proofs.ActLaws.{sends_on-append}
use Rattle.sync_course.proofs.PathLaws.{path_then}
use Rattle.sync_course.proofs.ToldLaws.{told_commits, told_then}
use Rattle.sync_node.specs.declared.fault.NodeFault.{NodeFault}
use Rattle.sync_node.specs.declared.fault.NodeFault.TheVariants as node_fault
use Rattle.sync_node.specs.Courses.{FitsWith, ReadsAs, place_at}
use Rattle.sync_node.specs.Did.{SinceThen}
use Rattle.sync_node.specs.Node.{NodeValue, new_node}
use Rattle.sync_node.specs.OnRuns.{RunActs}
use Rattle.sync_node.specs.Output.{sent_on}
use Rattle.sync_node.specs.Went.{Went}
use Rattle.sync_node.proofs.CourseLaws.{fits_grown, reads_front}
use Rattle.sync_node.proofs.DidLaws.{front_shift, front_wide, since_then}
use Rattle.sync_node.proofs.PrimLaws.{at_batch}
use Rattle.sync_node.proofs.WentLaws.{went_none}
use Rattle.sync_words.specs.declared.outcome.Outcome.{Outcome}
use Rattle.sync_words.specs.declared.outcome.Outcome.TheVariants as outcome
use Rattle.sync_run.specs.declared.dialling.Dialled.{Dialled}
use Rattle.sync_run.specs.declared.run.Limits.{Limits}
use Rattle.sync_run.specs.Courses.{ReadsShort, RunWasSpent, terms_at, terms_of}
use Rattle.sync_run.specs.Parts.{AnswersAt, EndsFrom, FillsAt, RanDialled, RanOver, RanSettled}
use Rattle.sync_run.specs.Parts.{RunDid, RunsSessions, StopsFrom, StopsRun, before_links, closed_by}
use Rattle.sync_run.specs.Plans.{sessions_from}
use Rattle.sync_run.proofs.DialLaws.{no_links_made}
use Rattle.sync_run.proofs.CourseParts.{links_close}

-- an error that goes on by `?`
pub passed : {T E : Type 0} (P : Result T E → Type 0) (r : Result T E) (x : E) → IsErrAnd r
    (λ e. e ≡ x)
    → P (Err x) → P r
passed P (Ok t) x is h = absurd is
passed P (Err e) x is h = subst (λ (y : _). P (Err y)) (sym is) h

-- ---- sessions over a settled store

-- the sum of a store in format 2 is that of its journal
sum_over : (s : StoreValue) (k : Journal) (batch : List Entry) → s.end ≡ journal_end
    (written_in s) k
    → facts k ≡ s.state.facts → written_in s ≡ kind.Short → s.limit ≡ MAX_JOURNAL
    → s.limit < needed s batch → MAX_JOURNAL < needed_by k batch
sum_over s k batch end same short limit over =
    let room : room_of (written_in s) (after_all (facts k) batch)
    ≡ room_of (written_in s) (after_all s.state.facts batch) =
    ap (λ (f : Facts). room_of (written_in s) (after_all f batch)) same in
    let Over : Format → Type 0 =
    λ f. MAX_JOURNAL < journal_end f k + 5 + payload_len f batch
    + room_of f (after_all (facts k) batch) in
    let here : Over (written_in s) = omega (arith, end, limit, over, room) in
    subst Over short here

module _ (clients : Meaning) (limits : Limits) (links : List Dialled) (s : StoreValue)
    (n n' : NodeValue) (o o' : Outside) (made : n ≡ new_node s) where
  abbrev at_first : Terms
  at_first = terms_at limits s.state.facts.begun

  abbrev at_links : Place
  at_links = before_links links s.state.facts

  -- calls led to a place
  led : (j : Journal) → FitsWith clients s o.files j → (to : Owing Place)
      (w : Went clients (RunActs clients at_first) (paid at_links) to s n'.store o o')
      (r : Result Closing Outcome)
      → AnswersAt clients limits at_first to (j ++ batches_in w.acts) (ReadsShort o'.files)
      (Unit {0}) ⊥ ⊥ r
      → RanOver clients limits at_first at_links j (Unit {0}) ⊥ o o' r
  led j fit to w r answer = record {
    did = record {
      acts = w.acts;
      to = to;
      path = w.path;
      next = [];
      quiet = tt;
      beyond = to;
      goes_on = refl;
      sent = w.did.sent;
      reads = let now = w.did.fits j fit in (now.0, now.1, now.2.stands_for);
      moments = λ told.
          subst (λ (acts : List Act). SinceThen o o' (AtFront clients acts j (sent_on o.links)))
          (sym (append-nil w.acts)) (w.did.moments told j fit);
    };
    told = w.did.tells;
    answer = answer;
  }

  -- the format of the store is that of the files
  reads_short : written_in n'.store ≡ kind.Short → (k : Journal)
      → FitsWith clients n'.store o'.files k → ReadsShort o'.files
  reads_short short k fit two files =
      let both : Some fit.0 ≡ Some two = sym fit.1 ∙ files in
      let one : fit.0 ≡ two = cc in
      subst (λ (t : Two File). IsInFormat kind.Short (read_files t)) one
      (fits_synced clients n'.store k fit.0 fit.2 short).short

  module _ (over : Bool) (short : written_in n'.store ≡ kind.Short)
      (runs : RunsSessions clients limits links n n' o o' over) where
    abbrev end_at : (two : Two File) → o.files ≡ Some two
        → EndsFrom clients limits at_links (new_node s) n' o o' over
    end_at =
        (subst (λ (m : NodeValue). RunsSessions clients limits links m n' o o' over) made runs).ends

    -- the run came to its end
    pub ran_whole : (ends : Closing) → ends ≡ closed_by over n'.links
        → RanSettled clients limits links s o o' (Ok ends)
    ran_whole ends are j fit =
        let end = end_at fit.0 fit.1 in
        let last : Place =
        place_at Ended n'.links end.heard end.moved end.still end.made n'.store.state.facts in
        led j fit (paid last) end.went (Ok ends) (
          record {
            at_end = refl;
            all_sent = λ link. refl;
            closes =
                are
                ∙ links_close over limits.quiet n'.links last end.heard refl end.is_so;
          },
          tt,
          reads_short short _ (end.went.did.fits j fit),
        )

    -- but how its links ended was not written down
    pub ran_unclosed : RanSettled clients limits links s o o' (Err outcome.Memory)
    ran_unclosed j fit =
        let went = (end_at fit.0 fit.1).went in
        led j fit _ went (Err outcome.Memory) (λ begun. reads_short short _ (went.did.fits j fit))

  -- it was broken off
  abbrev stop_at : (x : NodeFault) → StopsRun clients limits links n n' o o' x
      → (two : Two File) → o.files ≡ Some two
      → StopsFrom clients at_first at_links s n'.store o o' x
  stop_at x stops =
      (subst (λ (m : NodeValue). StopsRun clients limits links m n' o o' x) made stops).stops

  pub ran_out : written_in n'.store ≡ kind.Short
      → StopsRun clients limits links n n' o o' node_fault.Memory
      → RanSettled clients limits links s o o' (Err outcome.Memory)
  ran_out short stops j fit =
      let here = (stop_at node_fault.Memory stops fit.0 fit.1).1 in
      led j fit here.to here.went (Err outcome.Memory)
      (λ begun. reads_short short _ (here.went.did.fits j fit))

  -- a call of the disk failed
  pub ran_broken : StopsRun clients limits links n n' o o' node_fault.DiskFault
      → RanSettled clients limits links s o o' (Err outcome.DiskFault)
  ran_broken stops j fit =
      let here = (stop_at node_fault.DiskFault stops fit.0 fit.1).1 in
      record {
        did = record {
          acts = here.acts;
          to = here.to;
          path = here.path;
          next = here.next;
          quiet = here.quiet;
          beyond = here.beyond;
          goes_on = here.goes_on;
          sent = here.did.sent;
          reads = here.did.reads j fit;
          moments = λ told. here.did.moments told j fit;
        };
        told = here.did.tells;
        answer = tt;
      }

  -- the next batch would have passed the limit
  pub ran_full : n'.store.limit ≡ MAX_JOURNAL → written_in n'.store ≡ kind.Short
      → StopsRun clients limits links n n' o o' node_fault.Full
      → RanSettled clients limits links s o o' (Err outcome.Full)
  ran_full limit short stops j fit =
      let here = (stop_at node_fault.Full stops fit.0 fit.1).1 in
      let now = here.went.did.fits j fit in
      led j fit here.to here.went (Err outcome.Full)
      (inl (
        record {
          all_sent = here.clear;
          batch = here.batch;
          next = here.next;
          steps = here.steps;
          over =
              sum_over n'.store (j ++ batches_in here.went.acts) here.batch now.2.end_is
              now.2.facts_are short limit here.over;
        },
        reads_short short _ now,
      ))

-- nothing was done
pub ran_none : (clients : Meaning) (limits : Limits) (links : List Dialled) (s : StoreValue)
    (o : Outside) → RanSettled clients limits links s o o (Err outcome.Memory)
ran_none clients limits links s o j fit =
    let from : Owing Place = paid (before_links links s.state.facts) in
    led clients limits links s (new_node s) (new_node s) o o refl j fit from
    (went_none clients (RunActs clients (terms_at limits s.state.facts.begun)) from s o)
    (Err outcome.Memory) (λ begun. absurd (omega (arith, begun)))

-- ---- answers

-- what is so where a run ended, and what may be so where there was no room or a dial failed
module _ (clients : Meaning) (limits : Limits) (terms : Terms) (to : Owing Place)
    (Short Whole Spent Undialled Whole' Spent' Undialled' : Type 0) (now now' : Journal)
    (same : now ≡ now') (whole : Whole → Whole') (spent : Spent → Spent')
    (undialled : Undialled → Undialled') where
  pub answers_map : (r : Result Closing Outcome)
      → AnswersAt clients limits terms to now Short Whole Spent Undialled r
      → AnswersAt clients limits terms to now' Short Whole' Spent' Undialled' r
  answers_map (Ok ends) answer = (answer.0, whole answer.1, answer.2)
  answers_map (Err outcome.Full) answer = elim answer [
    | inl fills ↦
        inl (subst (λ (l : Journal). FillsAt clients terms to l) same fills.0, fills.1)
    | inr so ↦ inr (spent so)
  ]
  answers_map (Err (outcome.LinkFailed link)) answer = undialled answer
  answers_map (Err outcome.Memory) answer = answer
  answers_map (Err outcome.DiskFault) answer = tt
  answers_map (Err _) answer = absurd answer

-- ---- behind other acts

module _ (clients : Meaning) (terms : Terms) (from mid : Place) (j k : Journal) (o o1 o' : Outside)
    (first : RunDid clients terms from j o o1) (at : first.to ≡ paid mid) (none : first.next ≡ [])
    (is : k ≡ j ++ batches_in first.acts) (told_on : TellsAll o → TellsAll o1)
    (did : RunDid clients terms mid k o1 o') where
  pub now_is : k ++ batches_in did.acts ≡ j ++ batches_in (first.acts ++ did.acts)
  now_is =
      ap (λ (l : Journal). l ++ batches_in did.acts) is
      ∙ append_assoc j (batches_in first.acts) (batches_in did.acts)
      ∙ ap (λ (l : Journal). j ++ l) (sym (batches_in-append first.acts did.acts))

  pub behind_moments : TellsAll o
      → SinceThen o o' (AtFront clients (first.acts ++ (did.acts ++ did.next)) j
      (sent_on o.links))
  behind_moments told =
      let rest : List Act = did.acts ++ did.next in
      since_then o o1 o'
      (AtFront clients (first.acts ++ first.next) j (sent_on o.links))
      (AtFront clients rest k (sent_on o1.links))
      (AtFront clients (first.acts ++ rest) j (sent_on o.links))
      (λ m before. front_wide clients first.acts rest j (sent_on o.links) m
      (subst (λ (acts : List Act). AtFront clients acts j (sent_on o.links) m)
      (ap (λ (acts : List Act). first.acts ++ acts) none ∙ append-nil first.acts) before))
      (λ m behind. front_shift clients first.acts rest j (sent_on o.links) (sent_on o1.links) m
      (first.sent told)
      (subst (λ (l : Journal). AtFront clients rest l (sent_on o1.links) m) is behind))
      (first.moments told) (did.moments (told_on told))

  abbrev pub did_behind : RunDid clients terms from j o o'
  did_behind = record {
    acts = first.acts ++ did.acts;
    to = did.to;
    path = path_then (RunActs clients terms) (paid from) (paid mid) did.to first.acts did.acts
        (subst (λ (p : Owing Place). Path (RunActs clients terms) (paid from) first.acts p) at
        first.path) did.path;
    next = did.next;
    quiet = did.quiet;
    beyond = did.beyond;
    goes_on = did.goes_on;
    sent = λ told link.
        did.sent (told_on told) link
        ∙ ap (λ (l : List ℕ). l ++ sends_on link did.acts) (first.sent told link)
        ∙ append_assoc (sent_on o.links link) (sends_on link first.acts) (sends_on link did.acts)
        ∙ ap (λ (l : List ℕ). sent_on o.links link ++ l)
        (sym (sends_on-append link first.acts did.acts));
    reads = subst (λ (l : Journal). ReadsAs clients o'.files l) now_is did.reads;
    moments = λ told.
        subst (λ (acts : List Act). SinceThen o o' (AtFront clients acts j (sent_on o.links)))
        (sym (append_assoc first.acts did.acts did.next)) (behind_moments told);
  }

-- ---- settling

-- settling batches owe nothing
settling_acts : (clients : Meaning) (terms : Terms) (sessions : List Session) (f : Facts)
    (bs : Journal)
    → AllSettling clients f bs
    → Path (RunActs clients terms) (paid (first_place sessions f)) (commit_acts bs)
    (paid (first_place sessions (after_batches f bs)))
settling_acts clients terms sessions f [] settling = refl
settling_acts clients terms sessions f (b ∷ bs) settling = (
  paid (first_place sessions (after_all f b)),
  (
    tt,
    (settling.0, refl),
    λ link. sym (ap (λ (rs : List Record). spelled rs)
        (silent_adds_nothing f (terms.first + link) b (settling_silent clients f b settling.0.2))),
  ),
  settling_acts clients terms sessions (after_all f b) bs settling.1,
)

-- the first of some settling batches settle, and so do the others behind them
settling_parts : (clients : Meaning) (f : Facts) (front others : Journal)
    → AllSettling clients f (front ++ others)
    → AllSettling clients f front × AllSettling clients (after_batches f front) others
settling_parts clients f [] others all = (tt, all)
settling_parts clients f (b ∷ front) others all =
    let rest = settling_parts clients (after_all f b) front others all.1 in
    ((all.0, rest.0), rest.1)

module _ (clients : Meaning) (limits : Limits) (links : List Dialled) (s s1 : StoreValue)
    (o o1 : Outside) (more : Journal) (run : DiskRun o o1)
    (comes : ComesAnew clients s s1 o o1 more)
    (j : Journal) (fit : FitsWith clients s o.files j) where
  abbrev terms : Terms
  terms = terms_of limits j

  -- the place behind some settling
  abbrev place : Facts → Place
  place f = first_place (sessions_from (facts j).begun links) f

  abbrev done : Facts
  done = after_batches (facts j) more

  settling : AllSettling clients (facts j) more
  settling = subst (λ (f : Facts). AllSettling clients f more) (sym fit.2.facts_are) comes.settling

  settling_since : SinceThen o o1 (AtFront clients (commit_acts more) j (sent_on o.links))
  settling_since =
      let led = comes.leads fit.0 fit.1 j fit.2 in
      record {
        later = led.moments.later;
        before = λ t m since at. elim (led.moments.before t m since at) [
          | inl old ↦ inl old
          | inr during ↦ inr (at_batch clients more j (IsBetween j more) o.links m (λ whole between.
              between) during)
        ];
      }

  -- the first of its batches stand, and the others were to be committed
  module _ (front others : Journal) (parts : more ≡ front ++ others)
      (reads : ReadsAs clients o1.files (j ++ front)) where
    acts_parts : commit_acts more ≡ commit_acts front ++ commit_acts others
    acts_parts = ap commit_acts parts ∙ commit_acts-append front others

    split : AllSettling clients (facts j) front
        × AllSettling clients (after_batches (facts j) front) others
    split =
        settling_parts clients (facts j) front others
        (subst (λ (bs : Journal). AllSettling clients (facts j) bs) parts settling)

    -- where it stands then, and where it was to stand
    abbrev settled_at : Owing Place
    settled_at = paid (place (after_batches (facts j) front))

    abbrev settled_beyond : Owing Place
    settled_beyond = paid (place (after_batches (after_batches (facts j) front) others))

    -- no session has begun
    pub none_begun : settled_at.at.facts.begun ≡ (facts j).begun
    none_begun = (all_settling_only clients (facts j) front split.0).begun

    abbrev did_settling : RunDid clients terms (place (facts j)) j o o1
    did_settling = record {
      acts = commit_acts front;
      to = settled_at;
      path =
          settling_acts clients terms (sessions_from (facts j).begun links) (facts j) front split.0;
      next = commit_acts others;
      quiet = commits_are_quiet others;
      beyond = settled_beyond;
      goes_on =
          settling_acts clients terms (sessions_from (facts j).begun links)
          (after_batches (facts j) front) others split.1;
      sent = λ told link.
          ap (λ (l : Links). sent_on l link) run.same_links
          ∙ sym (append-nil (sent_on o.links link))
          ∙ ap (λ (l : List ℕ). sent_on o.links link ++ l) (sym (commits_send link front));
      reads =
          subst (λ (bs : Journal). ReadsAs clients o1.files (j ++ bs))
          (sym (batches_in_commits front)) reads;
      moments = λ told.
          subst (λ (acts : List Act). SinceThen o o1 (AtFront clients acts j (sent_on o.links)))
          acts_parts settling_since;
    }

    told_settling : TellsEvents (events_of (commit_acts front)) o o1
    told_settling =
        subst (λ (es : List Event). TellsEvents es o o1) (sym (events_of_commits front))
        (told_commits front o o1 run.same_links)

    -- it was broken off while it was settled
    over_settling : (e : Outcome) (Whole Spent : Type 0)
        → AnswersAt clients limits terms settled_at (j ++ batches_in (commit_acts front))
        (ReadsShort o1.files) Whole Spent ⊥ (Err e)
        → RanOver clients limits terms (place (facts j)) j Whole Spent o o1 (Err e)
    over_settling e Whole Spent answer =
        record { did = did_settling; told = told_settling; answer = answer }

  -- sessions ran behind it
  module _ (opened : s1.closed ≡ false) (o' : Outside) (r : Result Closing Outcome)
      (ran : RanSettled clients limits links s1 o1 o' r) (Spent : Type 0) where
    grown : FitsWith clients s1 o1.files (j ++ more)
    grown =
        fits_grown clients s s1 more o o1 (λ k whole. IsBetween k more whole) run.same_told opened
        comes.leads j fit

    same_facts : done ≡ s1.state.facts
    same_facts = ap (λ (f : Facts). after_batches f more) fit.2.facts_are ∙ sym comes.facts

    ran_here : RanOver clients limits terms (place done) (j ++ more) (Unit {0}) ⊥ o1 o' r
    ran_here =
        subst (λ (k : ℕ). RanOver clients limits (terms_at limits k)
        (first_place (sessions_from k links) done) (j ++ more) (Unit {0}) ⊥ o1 o' r)
        (all_settling_only clients (facts j) more settling).begun
        (subst (λ (f : Facts). RanOver clients limits (terms_at limits f.begun)
        (before_links links f) (j ++ more) (Unit {0}) ⊥ o1 o' r) (sym same_facts)
        (ran (j ++ more) grown))

    told_on : TellsAll o → TellsAll o1
    told_on = told_after o o1 (host_run o o1 run settling_since.later)

    ran_behind : (IsSpent s → ⊥)
        → RanOver clients limits terms (place (facts j)) j (MayMigrate o.files) Spent o o' r
    ran_behind unspent =
        let all : more ≡ more ++ [] = sym (append-nil more) in
        let reads : ReadsAs clients o1.files (j ++ more) =
        (grown.0, grown.1, grown.2.stands_for) in
        let first : RunDid clients terms (place (facts j)) j o o1 =
        did_settling more [] all reads in
        let at : first.to ≡ paid (place done) = refl in
        let same : j ++ more ≡ j ++ batches_in first.acts =
        ap (λ (l : Journal). j ++ l) (sym (batches_in_commits more)) in
        let did = ran_here.did in
        record {
          did =
              did_behind clients terms (place (facts j)) (place done) j (j ++ more) o o1 o' first at
              refl same told_on did;
          told =
              subst (λ (es : List Event). TellsEvents es o o')
              (sym (events_of-append (commit_acts more) did.acts))
              (told_then (events_of (commit_acts more)) (events_of did.acts) o o1 o'
              (told_settling more [] all reads) ran_here.told);
          answer =
              answers_map clients limits terms did.to (ReadsShort o'.files) (Unit {0}) ⊥ ⊥
              (MayMigrate o.files) Spent ⊥
              ((j ++ more) ++ batches_in did.acts) (j ++ batches_in (commit_acts more ++ did.acts))
              (now_is clients terms (place (facts j)) (place done) j (j ++ more) o o1 o' first at
              refl same told_on did)
              (λ unit two files last.
              let both : Some fit.0 ≡ Some two = sym fit.1 ∙ files in
              let one : fit.0 ≡ two = cc in
              unspent (spent_here clients s j two
              (subst (λ (t : Two File). FitsFiles clients s j t) one fit.2) last))
              (λ none. absurd none) (λ none. absurd none) r ran_here.answer;
        }

-- ---- by the answer of settling

module _ (clients : Meaning) (limits : Limits) (links : List Dialled) (s s1 : StoreValue)
    (o o1 : Outside) (run : DiskRun o o1) where
  -- no generation was left
  spent_by : (j : Journal) → FitsWith clients s o.files j → IsSpent s → o1 ≡ o
      → RunWasSpent [] o o1
  spent_by j fit spent same = record {
    last = λ two files.
        let both : Some fit.0 ≡ Some two = sym fit.1 ∙ files in
        let one : fit.0 ≡ two = cc in
        last_here clients s j two (subst (λ (t : Two File). FitsFiles clients s j t) one fit.2)
        spent;
    still = λ two two' files files'.
        let both : Some two' ≡ Some two = sym files' ∙ ap (λ (x : Outside). x.files) same ∙ files in
        let one : two' ≡ two = cc in
        ap (λ (t : Two File). read_files t) one;
    links = no_links_made o o1 (ap (λ (x : Outside). x.links) same);
  }

  settling_answers : (of : Terms) (to : Owing Place) (j now : Journal) (e : Outcome)
      → FitsWith clients s o.files j → to.at.facts.begun ≡ of.first
      → SettledAnew clients s s1 (Err e) → (e ≡ outcome.Full → o1 ≡ o)
      → AnswersAt clients limits of to now (ReadsShort o1.files) (MayMigrate o.files)
      (RunWasSpent [] o o1) ⊥ (Err e)
  settling_answers of to j now outcome.Full fit none answer same =
      inr (spent_by j fit answer.0 (same refl))
  settling_answers of to j now outcome.Memory fit none answer same = λ begun.
      absurd (omega (arith, begun, none))
  settling_answers of to j now outcome.DiskFault fit none answer same = tt
  settling_answers of to j now _ fit none answer same = absurd answer

  pub settling_stopped : (r : Result Closing Outcome) (e : Outcome) → IsErrAnd r (λ x. x ≡ e)
      → FitsSome clients s o.files → SettlesAnew clients s s1 o o1 (Err e)
      → (e ≡ outcome.Full → o1 ≡ o)
      → RanDialled clients limits links s o o1 r
  settling_stopped r e is fits settles same j fit =
      let front =
      reads_front clients s s1 settles.more o o1 (λ k whole. IsBetween k settles.more whole)
      (λ k whole. whole ≡ k ++ settles.more) fits run.same_told (λ k whole between.
      between) settles.comes.leads in
      passed (λ (x : Result Closing Outcome). RanOver clients limits (terms_of limits j)
      (first_place (sessions_from (facts j).begun links) (facts j)) j (MayMigrate o.files)
      (RunWasSpent [] o o1) o o1 x) r e is
      (over_settling clients limits links s s1 o o1 settles.more run settles.comes j fit front.front
      front.others front.parts (front.reads j fit) e (MayMigrate o.files) (RunWasSpent [] o o1)
      (settling_answers (terms_of limits j) _ j _ e fit
      (none_begun clients limits links s s1 o o1 settles.more run settles.comes j fit front.front
      front.others front.parts (front.reads j fit)) settles.answer same))

  pub settled_ran : (u : Unit {0}) (o' : Outside) (r : Result Closing Outcome)
      → SettlesAnew clients s s1 o o1 (Ok u) → RanSettled clients limits links s1 o1 o' r
      → RanDialled clients limits links s o o' r
  settled_ran u o' r settles ran j fit =
      ran_behind clients limits links s s1 o o1 settles.more run settles.comes j fit
      settles.answer.0 o' r ran (RunWasSpent [] o o') settles.answer.3
