-- What a run leaves, whatever it came to, by the acts of its node: the headline, what was sent, and
-- its course.
use Rattle.std.proofs.Common.{◌≡◌, ◌⊎◌, ℕ, ◌+◌, ◌<◌, ◌≤◌, Bool, true, false, List, []}
use Rattle.std.proofs.Common.{◌∷◌, ◌++◌, append-nil, length, refl, sym, ◌∙◌, ap, subst, arith}
use Rattle.std.proofs.Common.{inl, inr, Option, None, Some, is_some, Result, Ok, Err}
use Rattle.std.specs.Prelude.{IfOk, slice_get}
use Rattle.std.specs.Option.{option_map}
use Rattle.std.proofs.lemmas.Bool.{cases_Bool}
use Rattle.std.proofs.lemmas.Option.{slice_get-map}
use Rattle.outside.specs.declared.limits.TheConstants.{MAX_JOURNAL}
use Rattle.outside.specs.Disk.{RelatesTold}
use Rattle.outside.specs.Faults.{CountRose}
use Rattle.outside.proofs.CallSteps.{becomes_told}
use Rattle.outside.specs.Files.{File, ReadsSame, Two, read_files}
use Rattle.outside.specs.Links.{HeardOn, Links, sent_of}
use Rattle.outside.specs.Outside.{DiskRun, IsNow, Moment, MomentsAre, Outside}
use Rattle.outside.specs.Runs.{IsFront, LinksGrow, TellsAll, answers_at, heard_bytes}
use Rattle.record_grammar.specs.Spelling.{spelled}
use Rattle.entry_codec.specs.Standing.{Standing, journal}
use Rattle.file_standing.specs.Standing.{stands}
use Rattle.sync_rules.specs.declared.entries.Session.{Session}
use Rattle.sync_rules.specs.declared.states.Refused.{Refused}
use Rattle.sync_rules.specs.Clients.{Meaning}
use Rattle.sync_rules.specs.Facts.{Facts, Journal, after_all, facts}
use Rattle.sync_rules.specs.Legal.{Legal}
use Rattle.sync_rules.specs.Output.{sent}
use Rattle.sync_store.specs.Fitting.{FitsFiles, FitsSome}
use Rattle.sync_store.specs.Store.{StoreValue}
use Rattle.store_commands.specs.Commit.{HasLastGeneration, MayMigrate, needed_by}
use Rattle.store_commands.specs.Load.{HasFacts}
use Rattle.store_commands.specs.Stopping.{StoodFor}
use Rattle.sync_course.specs.Acts.{Act, AtFront, batches_in, events_of}
use Rattle.sync_course.specs.Acts.{next_bytes, sends_on}
use Rattle.sync_course.specs.Closing.{Closing}
use Rattle.sync_course.specs.Events.{Commit, Event, GrowsBy, batches_of, failures_after, has_failure}
use Rattle.sync_course.specs.Free.{Free, first_free, forget, owing_free}
use Rattle.sync_course.specs.Links as course_links
use Rattle.sync_course.specs.Owing.{Owing, OwesNothing, paid}
use Rattle.sync_course.specs.Paths.{Path}
use Rattle.sync_course.specs.Quiet.{EndsQuiet}
use Rattle.sync_course.specs.Story.{AllIsSent, AllSuitPlanned, FreeActs, LinkFailed, MomentStands}
use Rattle.sync_course.specs.Story.{begun_by, heard_at}
use Rattle.sync_course.specs.Suits.{heard_in, heard_at_place as place_heard}
use Rattle.sync_course.specs.Turns.{Broken, Course, Ended, Place, RunStep, Settles, Terms}
use Rattle.sync_course.specs.Turns.{first_place, is_over}
use Rattle.sync_course.proofs.ActLaws.{batches_in-append}
use Rattle.sync_course.proofs.FailLaws.{FailsJust, path_fails}
use Rattle.sync_course.proofs.FreeLaws.{run_acts_are_free}
use Rattle.sync_course.proofs.PathLaws.{path_then}
use Rattle.sync_course.proofs.SendLaws.{events_path}
use Rattle.sync_course.proofs.ToldLaws.{rose_after}
use Rattle.sync_node.specs.Courses.{FitsWith, ReadsAs}
use Rattle.sync_node.specs.OnRuns.{RunActs}
use Rattle.sync_node.specs.Output.{heard_on, output, sent_on}
use Rattle.sync_node.proofs.EventLaws.{EventPath, as_events}
use Rattle.sync_words.specs.declared.link_words.LinkWords.{LinkWords}
use Rattle.sync_words.specs.declared.outcome.Outcome.{Outcome}
use Rattle.sync_words.specs.declared.outcome.Outcome.TheVariants as outcome
use Rattle.sync_run.specs.declared.run.Limits.{Limits}
use Rattle.sync_run.specs.Courses.{HearsRun, OfJournal, RanShort, RanSoFar, RanToEnd}
use Rattle.sync_run.specs.Courses.{ReadsShort, RunComesTo, RunWasSpent, WasFull, WasOver}
use Rattle.sync_run.specs.Courses.{dialled_faults, run_test, terms_of}
use Rattle.sync_run.specs.Dialling.{MakesLinks, PassesTime, unheard}
use Rattle.sync_run.specs.Headline.{AllSentWhenFull, IsUntouched, LeavesFilesAtRest, RunLeaves}
use Rattle.sync_run.specs.Headline.{SentWhole, StandsForRun, sent_at_moment}
use Rattle.sync_run.specs.Parts.{AnswersAt, FillsAt, RanOnLinks, undialled_link}
use Rattle.sync_run.proofs.LeavingLaws.{reads_still}
use Rattle.sync_run.proofs.EndLaws.{course_by_heard}
use Rattle.sync_run.proofs.HeardLaws.{path_few, path_told, quiet_brings, told_of}
use Rattle.sync_run.specs.Ran.{RanTold}
use Rattle.sync_run.proofs.TellLaws.{nothing_sent, silent_by, told_back}

-- ---- small things

one_journal : (j k : Journal) → journal j ≡ journal k → j ≡ k
one_journal j k same = cc

same_function : {A : Type 0} (f g : ℕ → A) → ((n : ℕ) → f n ≡ g n) → f ≡ g
same_function f g same = λ i n. same n i

-- by a law of each end
if_ok_by : (r : Result Closing Outcome) (P : Closing → Type 0)
    → ((ends : Closing) → r ≡ Ok ends → P ends) → IfOk r P
if_ok_by (Ok ends) P by = by ends refl
if_ok_by (Err e) P by = tt

-- the first batches suit a run where all do
suit_front : (clients : Meaning) (first : ℕ) (plans : List Session) (heard : ℕ → List ℕ) (f : Facts)
    (bs cs : Journal) → AllSuitPlanned clients first plans heard f (bs ++ cs)
    → AllSuitPlanned clients first plans heard f bs
suit_front clients first plans heard f [] cs suit = tt
suit_front clients first plans heard f (b ∷ bs) cs suit =
    (suit.0, suit_front clients first plans heard (after_all f b) bs cs suit.1)

-- ---- a run, with the load before it and the links hung up behind it

module _ (clients : Meaning) (limits : Limits) (words : List LinkWords) (s : StoreValue)
    (o0 o1 o2 o3 : Outside) (none : o0.links.dialled ≡ 0) (run : DiskRun o0 o1)
    (reads : RelatesTold ReadsSame o0.files o1.files) (stills : PassesTime o2 o3) (two : Two File)
    (told0 : o0.files ≡ Some two) (moments : MomentsAre o0 o1 (IsNow two o0.links))
    (loaded : HasFacts (stands clients (read_files two)) s) (fits : FitsSome clients s o1.files)
    (r : Result Closing Outcome)
    (rans : (j : Journal) → FitsWith clients s o1.files j
    → RanOnLinks clients limits words j o1 o2 r) where
  abbrev terms : Terms
  terms = terms_of limits loaded.of

  fit : FitsWith clients s o1.files loaded.of
  fit =
      let there = reads_still clients two o0.files o1.files loaded.of told0 reads loaded.stood in
      let fit = fits there.0 there.1 in
      let one : fit.0 ≡ loaded.of = one_journal fit.0 loaded.of (sym fit.1.stands_for ∙ there.2) in
      (there.0, there.1, subst (λ (j : Journal). FitsFiles clients s j there.0) one fit.1)

  legal : Legal clients loaded.of
  legal = fit.2.legal

  ran : RanOnLinks clients limits words loaded.of o1 o2 r
  ran = rans loaded.of fit

  abbrev start : Place
  start = first_place ran.sessions (facts loaded.of)

  abbrev all : List Act
  all = ran.did.acts ++ ran.did.next

  abbrev first : ℕ
  first = (facts loaded.of).begun

  -- the journal behind the acts
  abbrev now : Journal
  now = loaded.of ++ batches_in ran.did.acts

  -- what the files stood for before
  abbrev stood : Standing
  stood = stands clients (read_files two)

  same_begin : (begin : Journal) → stood ≡ journal begin → loaded.of ≡ begin
  same_begin begin began = one_journal loaded.of begin (sym loaded.stood ∙ began)

  -- batches suit the run
  abbrev Suit : (ℕ → List ℕ) → Journal → Type 0
  Suit heard bs = AllSuitPlanned clients first ran.sessions heard (facts loaded.of) bs

  -- files stand for a journal of the run, by what was sent
  abbrev Stands : (ℕ → List ℕ) → Two (List ℕ) → Type 0
  Stands sent files = StandsForRun clients words loaded.of (heard_on o3.links) sent files

  -- ---- what is told

  told1 : TellsAll o3 → TellsAll o1
  told1 =
      told_back o1 o3
      (ap is_some (stills.same_files ∙ ran.did.reads.1) ∙ sym (ap is_some fit.1))
      (subst (LinksGrow o1.links) (sym stills.same_links) ran.grows)

  silent1 : (link : ℕ) → sent_on o1.links link ≡ []
  silent1 = nothing_sent o1 (ap (λ (l : Links). l.dialled) run.same_links ∙ none)

  -- the load and the hanging up change nothing that is told of links
  same_links : (P : Links → Links → Type 0) → P o1.links o2.links → P o0.links o3.links
  same_links P p =
      subst (λ (a : Links). P a o3.links) run.same_links
      (subst (λ (b : Links). P o1.links b) (sym stills.same_links) p)

  -- the events of the acts, and what is told of them
  way : EventPath (RunStep clients terms) start ran.did.to.at (events_of ran.did.acts)
  way =
      as_events clients (λ (p : Place). p.facts) terms.first (RunStep clients terms) (paid start)
      ran.did.to
      ran.did.acts ran.did.path

  hears : HearsRun (undialled_link r) way.events o0.links o3.links
  hears =
      same_links (HearsRun (undialled_link r) way.events) (record {
        heard =
            ran.hears.heard
            ∙ ap (λ (l : List HeardOn). option_map (λ (h : List HeardOn). l) o1.links.heard)
            (way.thins.heard (unheard o2.links.dialled));
        readings =
            subst (λ (l : List ℕ). GrowsBy l o1.links.readings o2.links.readings)
            (sym way.thins.readings) ran.hears.readings;
        faults = λ link.
            ran.hears.faults link
            ∙ sym (way.thins.counts link
            (dialled_faults (undialled_link r) link (o1.links.faults link)));
      })

  -- nothing was done, or all links were made
  nothing_done : ran.did.acts ≡ [] → ran.did.to ≡ paid start
  nothing_done nothing =
      subst (λ (acts : List Act). Path (RunActs clients terms) (paid start) acts ran.did.to) nothing
      ran.did.path

  all_made : (ran.did.to ≡ paid start → ⊥) → o3.links.dialled ≡ length words
  all_made some = elim ran.made [
    | inl made ↦ ap (λ (l : Links). l.dialled) stills.same_links ∙ made
    | inr nothing ↦ absurd (some (nothing_done nothing))
  ]

  few : length ran.did.to.at.links ≤ o3.links.dialled
  few = elim ran.made [
    | inl made ↦ omega (
      arith,
      path_few clients terms ran.sessions (facts loaded.of) way.events ran.did.to.at way.path,
      ran.all_planned,
      made,
      ap (λ (l : Links). l.dialled) stills.same_links,
    )
    | inr nothing ↦
        omega (arith, ap (λ (x : Owing Place). length x.at.links) (nothing_done nothing))
  ]

  told_heard : (heard : List HeardOn) → o3.links.heard ≡ Some heard → (link : ℕ)
      → heard_on o3.links link ≡ place_heard ran.did.to.at link
  told_heard heard told link =
      ap (λ (x : Option (List HeardOn)). heard_bytes (answers_at x link))
      (told_of o3.links.heard o0.links.heard way.events o3.links.dialled heard hears.heard told)
      ∙ path_told clients terms ran.sessions (facts loaded.of) way.events ran.did.to.at
      o3.links.dialled way.path
      few link

  -- all that went out
  sent_is : TellsAll o3 → (link : ℕ) → sent_on o3.links link ≡ sends_on link ran.did.acts
  sent_is told link =
      ap (λ (l : Links). sent_on l link) stills.same_links ∙ ran.did.sent (told1 told) link
      ∙ ap (λ (l : List ℕ). l ++ sends_on link ran.did.acts) (silent1 link)

  -- what the files that are told stand for in the end
  reads_end : (told : TellsAll o3) → stands clients (read_files told.two) ≡ journal now
  reads_end told =
      let both : Some ran.did.reads.0 ≡ Some told.two =
      sym ran.did.reads.1 ∙ sym stills.same_files ∙ told.files_are in
      let same : ran.did.reads.0 ≡ told.two = cc in
      ap (λ (t : Two File). stands clients (read_files t)) (sym same) ∙ ran.did.reads.2

  -- ---- the moments

  whole_path : Path (RunActs clients terms) (paid start) all ran.did.beyond
  whole_path =
      path_then (RunActs clients terms) (paid start) ran.did.to ran.did.beyond ran.did.acts
      ran.did.next ran.did.path ran.did.goes_on

  -- by the laws of what stands at each moment, and of what suits a run
  module _ (stand : (clients : Meaning) (j : Journal) (acts : List Act) (to : Owing Free)
      (m : Moment) → Legal clients j → FreeActs clients j acts to
      → AtFront clients acts j (λ link. []) m
      → MomentStands clients j (begun_by (batches_in acts)) (heard_at to.at) m)
      (suit : (clients : Meaning) (terms : Terms) (sessions : List Session) (j : Journal)
      (events : List Event) (last : Place) → Legal clients j
      → Broken clients terms sessions (facts j) events last
      → AllSuitPlanned clients terms.first sessions (place_heard last) (facts j)
      (batches_of events)) (told : TellsAll o3) where
    all_suit : Suit (heard_on o3.links) (batches_in all)
    all_suit =
        let ways =
        as_events clients (λ (p : Place). p.facts) terms.first (RunStep clients terms) (paid start)
        ran.did.beyond all whole_path in
        let heard : place_heard ran.did.beyond.at ≡ heard_on o3.links =
        same_function (place_heard ran.did.beyond.at) (heard_on o3.links)
        (λ link. quiet_brings clients terms ran.did.to ran.did.beyond ran.did.next ran.did.quiet
        ran.did.goes_on link
        ∙ sym (told_heard told.heard told.heard_are link)) in
        subst (λ (bs : Journal). Suit (heard_on o3.links) bs) ways.thins.batches
        (subst (λ (h : ℕ → List ℕ). Suit h (batches_of ways.events)) heard
        (suit clients terms ran.sessions loaded.of ways.events ran.did.beyond.at legal
        (record { numbered = refl; path = ways.path })))

    at_front : (m : Moment) → AtFront clients all loaded.of (λ link. []) m
        → Stands (sent_at_moment m) m.files
    unfolding output
    at_front m at =
        let st =
        stand clients loaded.of all (owing_free ran.did.beyond) m legal
        (run_acts_are_free clients terms (paid start) ran.did.beyond all whole_path) at in
        let same : loaded.of ++ st.more ≡ loaded.of ++ batches_in at.before =
        one_journal (loaded.of ++ st.more) (loaded.of ++ batches_in at.before) (sym st.stands_for
        ∙ at.stands_for) in
        record {
          sessions = ran.sessions;
          planned = ran.planned;
          whole = loaded.of ++ batches_in at.before;
          stands_for = at.stands_for;
          suits = record {
            more = batches_in at.before;
            extends = refl;
            suits =
                suit_front clients first ran.sessions (heard_on o3.links) (facts loaded.of)
                (batches_in at.before) (batches_in at.behind)
                (subst (λ (bs : Journal). Suit (heard_on o3.links) bs)
                (ap batches_in at.parts ∙ batches_in-append at.before at.behind)
                all_suit);
          };
          has_sent = λ link.
              subst (λ (k : Journal). IsFront (sent_at_moment m link)
              (spelled (sent k (first + link))))
              same
              (st.has_sent link);
        }

    -- the files as they read in the end
    at_end : Stands (sent_on o3.links) (read_files told.two)
    at_end =
        at_front (record { files = read_files told.two; sent = sent_of o3.links.told }) (record {
          before = ran.did.acts;
          behind = ran.did.next;
          parts = refl;
          stands_for = reads_end told;
          part = λ link. [];
          begun = λ link. record { rest = next_bytes link ran.did.next; whole = refl };
          has_sent = λ link. sent_is told link ∙ sym (append-nil (sends_on link ran.did.acts));
        })

    -- what may be left at a moment of the run
    abbrev MayLeave : Moment → Type 0
    MayLeave m = IsUntouched two o0 m
        ⊎ StoodFor stood (λ begin.
        StandsForRun clients words begin (heard_on o3.links) (sent_at_moment m) m.files)

    untouched : (m : Moment) → IsNow two o0.links m → MayLeave m
    untouched m now =
        inl (record { now = now; nothing_sent = λ link. silent_by o0 m link none now.sent })

    -- a moment since a value of the clock is from before the run, or so
    since_is : (t : ℕ) (m : Moment) → t ≤ o0.clock → o3.moments t m → o1.moments t m ⊎ MayLeave m
    since_is t m early w =
        let since = ran.did.moments (told1 told) in
        let before = stills.moments ran.did.reads.0 ran.did.reads.1 t m
        (omega (arith, early, moments.later, since.later)) w in
        elim (since.before t m (omega (arith, early, moments.later)) before) [
          | inl old ↦ inl old
          | inr at ↦ inr (inr (record {
            before = loaded.of;
            stood = loaded.stood;
            has =
                at_front m
                (subst (λ (sent : ℕ → List ℕ). AtFront clients all loaded.of sent m)
                (same_function (sent_on o1.links) (λ link. []) silent1) at);
          }))
        ]

    pub headline_ran : RunLeaves clients (StandsForRun clients words) two o0 o3 told
    headline_ran =
        let since = ran.did.moments (told1 told) in
        record {
          moments = record {
            later = omega (arith, moments.later, since.later, stills.later);
            each = λ m w. elim (since_is o0.clock m (omega (arith, moments.later)) w) [
              | inl old ↦ untouched m (moments.each m old)
              | inr so ↦ so
            ];
            before = λ t m early w. elim (since_is t m early w) [
              | inl old ↦ elim (moments.before t m early old) [
                | inl was ↦ inl was
                | inr now ↦ inr (untouched m now)
              ]
              | inr so ↦ inr so
            ];
          };
          ends = λ begin began.
              subst (λ (j : Journal).
              StandsForRun clients words j (heard_on o3.links) (sent_on o3.links)
              (read_files told.two)) (same_begin begin began) at_end;
        }

  -- ---- what was sent

  free : FreeActs clients loaded.of ran.did.acts (owing_free ran.did.to)
  free = run_acts_are_free clients terms (paid start) ran.did.to ran.did.acts ran.did.path

  -- just the links on which a call failed stand Failed
  fails : FailsJust clients first (events_of ran.did.acts) (forget ran.did.to.at)
  fails =
      path_fails clients first (facts loaded.of) (forget ran.did.to.at) (events_of ran.did.acts)
      (events_path clients first (paid (first_free (facts loaded.of))) (owing_free ran.did.to)
      ran.did.acts free)

  module _ (told : TellsAll o3) (all : AllIsSent loaded.of ran.did.acts) where
    well_sent : (i : ℕ) → has_failure i (events_of ran.did.acts) ≡ false
        → sent_on o3.links i ≡ output now (first + i)
    unfolding output
    well_sent i well = sent_is told i ∙ all i well

    unfailed_sent : (i : ℕ) → (LinkFailed ran.did.to.at.links i → ⊥)
        → sent_on o3.links i ≡ output now (first + i)
    unfailed_sent i unfailed = elim (cases_Bool (has_failure i (events_of ran.did.acts))) [
      | inl failed ↦ absurd (unfailed (fails.stays i failed))
      | inr well ↦ well_sent i well
    ]

  -- the same of the journal that the files stand for then, by the one that they stood for before
  sent_as : (told : TellsAll o3) (begin whole : Journal) → stood ≡ journal begin
      → stands clients (read_files told.two) ≡ journal whole → (i : ℕ)
      → sent_on o3.links i ≡ output now (first + i)
      → sent_on o3.links i ≡ output whole ((facts begin).begun + i)
  sent_as told begin whole began ends i sent =
      sent
      ∙ ap (λ (j : Journal). output now ((facts j).begun + i)) (same_begin begin began)
      ∙ ap (λ (j : Journal). output j ((facts begin).begun + i))
      (one_journal now whole (sym (reads_end told) ∙ ends))

  abbrev answer_as : (x : Result Closing Outcome) → r ≡ x
      → AnswersAt clients limits terms ran.did.to now (ReadsShort o2.files) (MayMigrate o1.files)
      (RunWasSpent words o1 o2) (o2.files ≡ o1.files) x
  answer_as x is =
      subst (AnswersAt clients limits terms ran.did.to now (ReadsShort o2.files)
      (MayMigrate o1.files) (RunWasSpent words o1 o2) (o2.files ≡ o1.files)) is ran.answer

  short_as : ReadsShort o2.files → ReadsShort o3.files
  short_as = subst ReadsShort (sym stills.same_files)

  -- what was told of the files after the load
  told_loaded : (old : Two File) → o0.files ≡ Some old
      → (now : Two File) × (o1.files ≡ Some now) × ReadsSame old now
  told_loaded old told = becomes_told ReadsSame o0.files o1.files old told reads

  spent_as : RunWasSpent words o1 o2 → RunWasSpent words o0 o3
  spent_as was_spent = record {
    last = λ old told.
        let at = told_loaded old told in
        subst HasLastGeneration at.2 (was_spent.last at.0 at.1);
    still = λ old new told told'.
        let at = told_loaded old told in
        was_spent.still at.0 new at.1 (sym stills.same_files ∙ told') ∙ at.2;
    links = same_links (MakesLinks words) was_spent.links;
  }

  -- ---- its course

  abbrev was : undialled_link r ≡ None → RanSoFar clients limits words loaded.of o0 o3
  was none = record {
    sessions = ran.sessions;
    planned = ran.planned;
    all_planned = ran.all_planned;
    events = way.events;
    last = ran.did.to.at;
    course = way.path;
    all_made = λ begun.
        all_made (λ none.
        absurd (omega (arith, begun, ap (λ (x : Owing Place). x.at.facts.begun) none)));
    hears =
        subst (λ (d : Option ℕ). HearsRun d way.events o0.links o3.links) none hears;
    reads =
        subst (λ (bs : Journal). ReadsAs clients o3.files (loaded.of ++ bs)) (sym way.thins.batches)
        (ran.did.reads.0, stills.same_files ∙ ran.did.reads.1, ran.did.reads.2);
  }

  -- by the laws of what was sent, and of what stands at the end of a run that is over
  module _ (tests : run_test s.state.facts words ≡ None)
      (whole : (clients : Meaning) (j : Journal) (acts : List Act) (to : Owing Free)
      → Legal clients j → FreeActs clients j acts to → OwesNothing to → AllIsSent j acts)
      (quiet : (clients : Meaning) (terms : Terms) (sessions : List Session) (j : Journal)
      (events : List Event) (last : Place) → Legal clients j
      → Course clients terms sessions (facts j) events last → is_over terms.quiet last ≡ true
      → EndsQuiet clients terms events last) where
    sent_whole : (ends : Closing) → r ≡ Ok ends → SentWhole clients two o3 ends
    sent_whole ends is told begin final began at_end i stands_end there unfailed =
        let answer = answer_as (Ok ends) is in
        sent_as told begin final began at_end i
        (unfailed_sent told (whole clients loaded.of ran.did.acts (owing_free ran.did.to) legal free
        answer.0.all_sent) i
        (λ failed.
        let both : Some stands_end ≡ Some failed.link.stands =
        sym there ∙ ap (λ (c : Closing). slice_get c.ends i) answer.0.closes
        ∙ slice_get-map (λ (x : course_links.Link). x.stands) ran.did.to.at.links i
        ∙ ap (option_map (λ (x : course_links.Link). x.stands)) failed.there in
        let same : stands_end ≡ failed.link.stands = cc in
        unfailed (same ∙ failed.failed)))

    filled_sent : FillsAt clients terms ran.did.to now → AllIsSent loaded.of ran.did.acts
    filled_sent fills =
        whole clients loaded.of ran.did.acts (owing_free ran.did.to) legal free fills.all_sent

    sent_full : r ≡ Err outcome.Full → AllSentWhenFull clients two o0 o3
    sent_full is told begin final began at_end i begun = elim (answer_as (Err outcome.Full) is) [
      | inl fills ↦ elim (cases_Bool (has_failure i (events_of ran.did.acts))) [
        | inl failed ↦
            inl (subst (CountRose (o0.links.faults i))
            (sym (hears.faults i
            ∙ ap (λ (x : Result Closing Outcome). failures_after i way.events
            (dialled_faults (undialled_link x) i (o0.links.faults i))) is))
            (rose_after i way.events (o0.links.faults i) (way.thins.failures i ∙ failed)))
        | inr well ↦
            inr (sent_as told begin final began at_end i
            (well_sent told (filled_sent fills.0) i well))
      ]
      -- where nothing was done no session began
      | inr spent ↦
          let left : read_files told.two ≡ read_files fit.0 =
          spent.still fit.0 told.two fit.1 (sym stills.same_files ∙ told.files_are) in
          let same : (facts final).begun ≡ (facts begin).begun =
          ap (λ (j : Journal). (facts j).begun)
          (one_journal final loaded.of (sym at_end ∙ ap (stands clients) left ∙ fit.2.stands_for)
          ∙ same_begin begin began) in
          absurd (omega (arith, begun, same))
    ]

    ended : (ends : Closing) → r ≡ Ok ends → RanToEnd clients limits words loaded.of o0 o3 ends
    ended ends is =
        let answer = answer_as (Ok ends) is in
        let course : Course clients terms ran.sessions (facts loaded.of) way.events ran.did.to.at =
        record { numbered = refl; path = way.path; at_end = answer.0.at_end } in
        record {
          run = was (ap undialled_link is);
          at_end = answer.0.at_end;
          all_made =
              all_made (λ none.
              let no : Ended ≡ Settles ran.sessions =
              sym answer.0.at_end ∙ ap (λ (x : Owing Place). x.at.stage) none in
              cc);
          closes = answer.0.closes;
          by_heard =
              course_by_heard clients terms ran.sessions (facts loaded.of) way.events ran.did.to.at
              course;
          as_told = λ i link at heard told. ap heard_in (sym at) ∙ sym (told_heard heard told i);
          quiet =
              quiet clients terms ran.sessions loaded.of way.events ran.did.to.at legal course;
          next = λ old told spent.
              let at = told_loaded old told in
              answer.1 at.0 at.1 (subst HasLastGeneration (sym at.2) spent);
          short = short_as answer.2;
        }

    over : r ≡ Err outcome.Full → FillsAt clients terms ran.did.to now → ReadsShort o2.files
        → WasOver clients limits words loaded.of o0 o3
    over is fills short = record {
      run = was (ap undialled_link is);
      batch = fills.batch;
      next = fills.next.at;
      steps = fills.steps.1;
      over =
          subst (λ (bs : Journal). MAX_JOURNAL < needed_by (loaded.of ++ bs) fills.batch)
          (sym way.thins.batches) fills.over;
      sent = λ told i l there unfailed.
          unfailed_sent told (filled_sent fills) i
          (λ failed.
          let both : Some l ≡ Some failed.link = sym there ∙ failed.there in
          let same : l ≡ failed.link = cc in
          unfailed (ap (λ (x : course_links.Link). x.stands) same ∙ failed.failed))
          ∙ ap (λ (bs : Journal). output (loaded.of ++ bs) (first + i)) (sym way.thins.batches);
      short = short_as short;
    }

    tested : run_test (facts loaded.of) words ≡ None
    tested = ap (λ (f : Facts). run_test f words) loaded.are ∙ tests

    of_journal : (P : Journal → Type 0) → P loaded.of → OfJournal words stood None P
    of_journal P has = record { before = loaded.of; stood = loaded.stood; has = (tested, has) }

    broken : r ≡ Err outcome.DiskFault → (begin : Journal) → stood ≡ journal begin
        → RanSoFar clients limits words begin o0 o3
    broken is begin began =
        subst (λ (j : Journal). RanSoFar clients limits words j o0 o3) (same_begin begin began)
        (was (ap undialled_link is))

    starved : r ≡ Err outcome.Memory → (begin : Journal) → stood ≡ journal begin
        → RanShort clients limits words begin o0 o3
    starved is begin began =
        subst (λ (j : Journal). RanShort clients limits words j o0 o3) (same_begin begin began)
        (record {
          run = was (ap undialled_link is);
          short = λ begun. short_as (answer_as (Err outcome.Memory) is begun);
        })

    comes : (x : Result Closing Outcome) → r ≡ x → RunComesTo clients limits words stood o0 o3 x
    comes (Ok ends) is =
        of_journal (λ j. RanToEnd clients limits words j o0 o3 ends) (ended ends is)
    comes (Err (outcome.LinkFailed link)) is =
        let same = answer_as (Err (outcome.LinkFailed link)) is in
        of_journal (λ j. RelatesTold ReadsSame o0.files o3.files)
        (subst (RelatesTold ReadsSame o0.files) (sym (stills.same_files ∙ same)) reads)
    comes (Err outcome.Full) is =
        of_journal (λ j. WasFull clients limits words j o0 o3)
        (elim (answer_as (Err outcome.Full) is) [
          | inl fills ↦ inl (over is fills.0 fills.1)
          | inr spent ↦ inr (spent_as spent)
        ])
    comes (Err outcome.Memory) is = starved is
    comes (Err outcome.DiskFault) is = broken is
    comes (Err e) is = absurd (answer_as (Err e) is)

    pub ran_told : LeavesFilesAtRest o2.files r → RanTold clients limits words two o0 o3 r
    ran_told rests = record {
      rests = subst (λ (files : Option (Two File)). LeavesFilesAtRest files r)
          (sym stills.same_files) rests;
      sent = if_ok_by r (SentWhole clients two o3) sent_whole;
      sent_full = sent_full;
      comes = comes r refl;
      unbegun = λ none.
          let fails : is_some (run_test (facts loaded.of) words) ≡ true =
          none loaded.of loaded.stood in
          let no : is_some {T = Refused} None ≡ true =
          subst (λ (test : Option Refused). is_some test ≡ true) tested fails in
          cc;
    }
