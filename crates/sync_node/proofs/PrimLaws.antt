-- What each call of a store or of a host did, as acts.
use Rattle.std.proofs.Common.{ℕ, List, ◌++◌, take, drop, sym, ap, ◌∙◌, append_assoc, ◌≡◌, ◌≢◌, ◌+◌, ◌*◌, ◌<◌, ◌≤◌, false, true, Bool, cond, nat_eq, eq-eqb, arith, [], ◌∷◌, append-nil, length, length-append, refl, subst, inl, inr, Some, Ok, Err, slice_index_or}
use Rattle.std.proofs.lemmas.List.{take-append-drop}
use Rattle.outside.specs.Runs.{IsFront, TellsAll, sent_at}
use Rattle.std.specs.Option.{option_map}
use Rattle.std.proofs.lemmas.Bool.{cases_eq, ne_eqb}
use Rattle.outside.specs.declared.failed.Failed.{Failed}
use Rattle.outside.specs.declared.limits.TheConstants.{MAX_JOURNAL}
use Rattle.outside.specs.Faults.{CountRose}
use Rattle.outside.specs.Files.{Two, File}
use Rattle.outside.specs.Host.{SendsOnLink, SendsPart}
use Rattle.outside.specs.Links.{Links, sent_of, with_sent}
use Rattle.outside.proofs.CallCounts.{most_more}
use Rattle.outside.proofs.MadeSteps.{does_link}
use Rattle.frame_journal.specs.Appends.{Appends}
use Rattle.sync_store.specs.Appending.{AppendsFor}
use Rattle.outside.specs.Outside.{DiskRun, LinkCall, MakesAtMost, Moment, Outside, QuietCall}
use Rattle.outside.proofs.RunLaws.{quiet_moments, send_moments, sent_at-other, sent_at-with_sent}
use Rattle.sync_rules.specs.Clients.{Meaning}
use Rattle.sync_rules.specs.declared.entries.Entry.{Entry}
use Rattle.sync_rules.specs.Facts.{Journal}
use Rattle.entry_codec.specs.Standing.{journal, room_of}
use Rattle.sync_store.specs.Fitting.{FitsFiles, FitsSome, ImagesStand}
use Rattle.sync_store.specs.Moments.{IsBetween, JournalMoment, LeadsTo}
use Rattle.sync_store.specs.Runs.{RunsBy}
use Rattle.sync_store.specs.Store.{StoreValue, written_in}
use Rattle.sync_course.specs.Acts.{Act, AreQuiet, AtFront, Does, Fail, Send, batches_in, commit_acts, events_of, next_bytes, sends_on}
use Rattle.sync_course.specs.Events.{Break, Commit, Event, Hear, Miss, Pass, Read, TellsEvents as Tells}
use Rattle.sync_course.proofs.ActLaws.{batches_in-append, batches_in_commits, commit_acts-append, commits_send, events_of_commits, quiet_events, quiet_front, quiet_sends}
use Rattle.sync_course.proofs.ToldLaws.{told_broken, told_commits, told_quiet, told_sent}
use Rattle.sync_node.specs.Batches.{Breaks}
use Rattle.sync_node.specs.Courses.{FitsWith, ReadsAs, ReadsFront}
use Rattle.sync_node.specs.Did.{ComesAtFronts, Did, DidSome, HasSentBy}
use Rattle.sync_node.specs.Going.{LetsNothingFall}
use Rattle.sync_node.specs.Output.{sent_on}
use Rattle.sync_node.proofs.CourseLaws.{fits_grown, fits_on, quiet_most, reads_front}
use Rattle.sync_node.proofs.DidLaws.{did_none, since_none}
use Rattle.sync_node.proofs.WorkLaws.{goes_sent}
use Rattle.sync_node.proofs.SafeLaws.{goes_led}

pub front_taken : {A : Type 0} (n : ℕ) (a b : List A) → IsFront (a ++ take n b) (a ++ b)
front_taken n a b = record {
  rest = drop n b;
  whole = ap (λ l. a ++ l) (sym (take-append-drop n b)) ∙ sym (append_assoc a (take n b) (drop n b));
}

-- ---- batches that were committed

-- the calls of the batches of acts in two parts
parts_calls : (acts first second : List Act) → acts ≡ first ++ second
    → 4 * length (batches_in acts) ≡ 4 * length (batches_in second ++ batches_in first)
parts_calls acts first second parts =
    let all : length (batches_in acts) ≡ length (batches_in first) + length (batches_in second) =
    ap (λ (l : List Act). length (batches_in l)) parts
    ∙ ap (λ (l : Journal). length l) (batches_in-append first second)
    ∙ length-append (batches_in first) (batches_in second) in
    let turned = length-append (batches_in second) (batches_in first) in
    omega (arith, all, turned)

-- a moment between two of some batches
pub at_batch : (clients : Meaning) (may j : Journal) (P : Journal → Type 0) (links : Links)
    (m : Moment) → ((whole : Journal) → P whole → IsBetween j may whole)
    → JournalMoment clients P (sent_of links.told) m
    → AtFront clients (commit_acts may) j (sent_on links) m
at_batch clients may j P links m between at =
    let cut = between at.whole at.has in
    record {
      before = commit_acts cut.front;
      behind = commit_acts cut.rest;
      parts = ap commit_acts cut.parts ∙ commit_acts-append cut.front cut.rest;
      stands_for =
          at.stands_for
          ∙ ap journal (cut.is ∙ ap (λ (l : Journal). j ++ l) (sym (batches_in_commits cut.front)));
      part = λ link. [];
      begun = λ link. record { rest = next_bytes link (commit_acts cut.rest); whole = refl };
      has_sent = λ link.
          ap (λ (sent : List (List ℕ)). slice_index_or sent link []) at.nothing_sent
          ∙ sym (append-nil (sent_on links link))
          ∙ ap (λ (l : List ℕ). sent_on links link ++ l)
          (sym (append-nil (sends_on link (commit_acts cut.front)) ∙ commits_send link cut.front));
    }

module _ (clients : Meaning) (s s' : StoreValue) (may : Journal) (o o' : Outside)
    (P Q : Journal → Journal → Type 0) (fits : FitsSome clients s o.files) (run : DiskRun o o')
    (made : MakesAtMost (4 * length may) o o') (appends : AppendsFor s s' o o')
    (file : s'.file ≡ s.file) (limit : s'.limit ≡ s.limit)
    (format : s'.format ≡ s.format)
    (between : (j whole : Journal) → P j whole → IsBetween j may whole)
    (leads : (two : Two File) → o.files ≡ Some two → (j : Journal) → FitsFiles clients s j two
    → LeadsTo clients (P j) (Q j) s' o o') where
  batch_fronts : ComesAtFronts clients (commit_acts may) s o o'
  batch_fronts told j fit =
      let led = leads fit.0 fit.1 j fit.2 in
      record {
        later = led.moments.later;
        before = λ t m since at. elim (led.moments.before t m since at) [
          | inl old ↦ inl old
          | inr during ↦ inr (at_batch clients may j (P j) o.links m (between j) during)
        ];
      }

  batch_sent : (bs : Journal) → HasSentBy (commit_acts bs) o o'
  batch_sent bs told link =
      ap (λ (links : Links). sent_on links link) run.same_links
      ∙ sym (append-nil (sent_on o.links link))
      ∙ ap (λ (l : List ℕ). sent_on o.links link ++ l) (sym (commits_send link bs))

  batch_tells : (bs : Journal) → Tells (events_of (commit_acts bs)) o o'
  batch_tells bs =
      subst (λ (es : List Event). Tells es o o') (sym (events_of_commits bs))
      (told_commits bs o o' run.same_links)

  -- all of them, where the store is open still
  pub did_batches : s'.closed ≡ false → ((j whole : Journal) → Q j whole → whole ≡ j ++ may)
      → Did clients (commit_acts may) s s' o o'
  did_batches still all = record {
    goes = goes_led clients s s' o o' P Q fits run leads;
    tells = batch_tells may;
    sent = batch_sent may;
    limit = limit;
    format = format;
    fits = λ j fit.
        subst (λ (l : Journal). FitsWith clients s' o'.files (j ++ l)) (sym (batches_in_commits may))
        (fits_grown clients s s' may o o' P run.same_told still
        (λ two files k fit. let led = leads two files k fit in record {
          moments = led.moments;
          ends = λ opened two' files'.
              let end = led.ends opened two' files' in
              (end.0, all k end.0 end.1, end.2);
        }) j fit);
    calls = subst (λ (l : Journal). MakesAtMost (4 * length l) o o') (sym (batches_in_commits may)) made;
    file = file;
    appends = appends.all still;
    moments = batch_fronts;
  }

  acts_parts : (stood : ReadsFront clients may s o o')
      → commit_acts may ≡ commit_acts stood.front ++ commit_acts stood.others
  acts_parts stood =
      ap commit_acts stood.parts ∙ commit_acts-append stood.front stood.others

  -- some of them, and a call of the disk failed
  did_some : s.closed ≡ false → s'.closed ≡ true → (stood : ReadsFront clients may s o o')
      → DidSome clients (commit_acts stood.front) (commit_acts stood.others) s s' o o'
  did_some opened shut stood = record {
    goes = goes_led clients s s' o o' P Q fits run leads;
    tells = batch_tells stood.front;
    sent = batch_sent stood.front;
    limit = limit;
    format = format;
    reads = λ j fit.
        subst (λ (l : Journal). ReadsAs clients o'.files (j ++ l)) (sym (batches_in_commits stood.front))
        (stood.reads j fit);
    calls =
        subst (λ (n : ℕ). MakesAtMost n o o')
        (ap (λ (l : Journal). 4 * length l) (sym (batches_in_commits may))
        ∙ parts_calls (commit_acts may) (commit_acts stood.front) (commit_acts stood.others)
        (acts_parts stood)) made;
    breaks = appends.broken opened shut;
    moments =
        subst (λ (acts : List Act). ComesAtFronts clients acts s o o') (acts_parts stood) batch_fronts;
  }

  pub did_breaks : s.closed ≡ false → s'.closed ≡ true → CountRose o.disk_faults o'.disk_faults
      → Breaks clients may s s' o o'
  did_breaks opened shut rose =
      let stood = reads_front clients s s' may o o' P Q fits run.same_told between leads in
      record {
        front = stood.front;
        others = stood.others;
        parts = stood.parts;
        did = did_some opened shut stood;
        rose = rose;
      }

-- ---- quiet acts, whose batches were added in groups

-- acts in two parts, of which the first has these batches
pub record AreParted (acts : List Act) (front : Journal) : Type 0 where
  pub first : List Act
  pub second : List Act
  pub parts : acts ≡ first ++ second
  pub has : batches_in first ≡ front

parted_behind : (a : Act) (acts : List Act) (front more : Journal) → AreParted acts front
    → ((bs : List Act) → batches_in (a ∷ bs) ≡ more ++ batches_in bs)
    → AreParted (a ∷ acts) (more ++ front)
parted_behind a acts front more rest adds = record {
  first = a ∷ rest.first;
  second = rest.second;
  parts = ap (λ (l : List Act). a ∷ l) rest.parts;
  has = adds rest.first ∙ ap (λ (l : Journal). more ++ l) rest.has;
}

-- quiet acts are cut where their batches are
parted : (acts : List Act) (front rest : Journal) → AreQuiet acts → batches_in acts ≡ front ++ rest
    → AreParted acts front
parted acts [] rest quiet is = record { first = []; second = acts; parts = refl; has = refl }
parted [] (b ∷ front) rest quiet is = cc
parted (Does (Commit c) ∷ acts) (b ∷ front) rest quiet is =
    let same : c ≡ b = cc in
    let others : batches_in acts ≡ front ++ rest = cc in
    subst (λ (x : List Entry). AreParted (Does (Commit c) ∷ acts) (x ∷ front)) same
    (parted_behind (Does (Commit c)) acts front (c ∷ []) (parted acts front rest quiet.1 others)
    (λ bs. refl))
parted (Does Pass ∷ acts) (b ∷ front) rest quiet is =
    parted_behind (Does Pass) acts (b ∷ front) [] (parted acts (b ∷ front) rest quiet.1 is)
    (λ bs. refl)
parted (Does (Hear link reply) ∷ acts) (b ∷ front) rest quiet is = absurd quiet.0
parted (Does (Miss link) ∷ acts) (b ∷ front) rest quiet is = absurd quiet.0
parted (Does (Read link now) ∷ acts) (b ∷ front) rest quiet is = absurd quiet.0
parted (Does (Break link) ∷ acts) (b ∷ front) rest quiet is = absurd quiet.0
parted (Send n bytes ∷ acts) (b ∷ front) rest quiet is = absurd quiet.0
parted (Fail n bytes count ∷ acts) (b ∷ front) rest quiet is = absurd quiet.0

-- these acts were done of some, and the others were next
pub record DidFront (clients : Meaning) (acts : List Act) (s s' : StoreValue)
    (o o' : Outside) : Type 0 where
  pub first : List Act
  pub second : List Act
  pub parts : acts ≡ first ++ second
  pub did : DidSome clients first second s s' o o'

module _ (clients : Meaning) (s s' : StoreValue) (o o' : Outside) (acts : List Act)
    (quiet : AreQuiet acts) (fits : FitsSome clients s o.files)
    (runs : RunsBy clients s s' o o' (batches_in acts)) where
  abbrev all : Journal
  all = batches_in acts

  -- a moment between two of them
  at_quiet : (j : Journal) (m : Moment)
      → JournalMoment clients (IsBetween j all) (sent_of o.links.told) m
      → AtFront clients acts j (sent_on o.links) m
  at_quiet j m at =
      let cut = at.has in
      let two = parted acts cut.front cut.rest quiet cut.parts in
      let both : AreQuiet (two.first ++ two.second) =
      subst (λ (l : List Act). AreQuiet l) two.parts quiet in
      record {
        before = two.first;
        behind = two.second;
        parts = two.parts;
        stands_for =
            at.stands_for
            ∙ ap journal (cut.is ∙ ap (λ (l : Journal). j ++ l) (sym two.has));
        part = λ link. [];
        begun = λ link. record { rest = next_bytes link two.second; whole = refl };
        has_sent = λ link.
            ap (λ (sent : List (List ℕ)). slice_index_or sent link []) at.nothing_sent
            ∙ sym (append-nil (sent_on o.links link))
            ∙ ap (λ (l : List ℕ). sent_on o.links link ++ l)
            (sym (append-nil (sends_on link two.first)
            ∙ quiet_sends link two.first (quiet_front two.first two.second both)));
      }

  quiet_fronts : ComesAtFronts clients acts s o o'
  quiet_fronts told j fit =
      let led = runs.leads fit.0 fit.1 j fit.2 in
      record {
        later = led.moments.later;
        before = λ t m since at. elim (led.moments.before t m since at) [
          | inl old ↦ inl old
          | inr during ↦ inr (at_quiet j m during)
        ];
      }

  quiet_sent : (bs : List Act) → AreQuiet bs → HasSentBy bs o o'
  quiet_sent bs none told link =
      ap (λ (links : Links). sent_on links link) runs.run.same_links
      ∙ sym (append-nil (sent_on o.links link))
      ∙ ap (λ (l : List ℕ). sent_on o.links link ++ l) (sym (quiet_sends link bs none))

  quiet_tells : (bs : List Act) → AreQuiet bs → Tells (events_of bs) o o'
  quiet_tells bs none =
      told_quiet (events_of bs) (quiet_events bs none) o o' runs.run.same_links

  quiet_goes : LetsNothingFall o o'
  quiet_goes =
      goes_led clients s s' o o' (λ j whole. IsBetween j all whole) (λ j whole. whole ≡ j ++ all)
      fits runs.run runs.leads

  quiet_calls : MakesAtMost (4 * length all) o o'
  quiet_calls =
      most_more (4 * runs.groups) (4 * length all) o o' (omega (arith, runs.few)) runs.calls.most

  -- all of them, where the store is open still
  pub did_quiet_acts : s'.closed ≡ false → Did clients acts s s' o o'
  did_quiet_acts still = record {
    goes = quiet_goes;
    tells = quiet_tells acts quiet;
    sent = quiet_sent acts quiet;
    limit = runs.limit;
    format = runs.format;
    fits =
        fits_grown clients s s' all o o' (λ j whole. IsBetween j all whole) runs.run.same_told still
        runs.leads;
    calls = quiet_calls;
    file = runs.file;
    appends = runs.calls.appends.all still;
    moments = quiet_fronts;
  }

  -- some of them, and a call of the disk failed
  pub did_some_quiet : s.closed ≡ false → s'.closed ≡ true → DidFront clients acts s s' o o'
  did_some_quiet opened shut =
      let stood =
      reads_front clients s s' all o o' (λ j whole. IsBetween j all whole)
      (λ j whole. whole ≡ j ++ all) fits runs.run.same_told (λ j whole is. is) runs.leads in
      let two = parted acts stood.front stood.others quiet stood.parts in
      let first = quiet_front two.first two.second (subst (λ (l : List Act). AreQuiet l) two.parts quiet) in
      record {
        first = two.first;
        second = two.second;
        parts = two.parts;
        did = record {
          goes = quiet_goes;
          tells = quiet_tells two.first first;
          sent = quiet_sent two.first first;
          limit = runs.limit;
          format = runs.format;
          reads = λ j fit.
              subst (λ (l : Journal). ReadsAs clients o'.files (j ++ l)) (sym two.has)
              (stood.reads j fit);
          calls =
              subst (λ (n : ℕ). MakesAtMost n o o')
              (parts_calls acts two.first two.second two.parts) quiet_calls;
          breaks = runs.calls.appends.broken opened shut;
          moments = subst (λ (l : List Act). ComesAtFronts clients l s o o') two.parts quiet_fronts;
        };
      }

-- a call on the links or the clock appends nothing
quiet_appends : (during : Moment → Type 0) (s : StoreValue) (o o' : Outside) → LinkCall during o o'
    → Appends s.file s.end s.end o o'
quiet_appends during s o o' call =
    record { added = []; frames = tt; ends = refl; does = does_link during o o' call }

-- a call that did not reach the host
pub did_unasked : {H : Type 0} (tells : H → Outside) (clients : Meaning) (s s' : StoreValue)
    (host host' : H) → host' ≡ host → s'.file ≡ s.file → s'.end ≡ s.end → s'.limit ≡ s.limit
    → s'.format ≡ s.format
    → ((j : Journal) → FitsWith clients s (tells host).files j
    → FitsWith clients s' (tells host').files j)
    → Did clients [] s s' (tells host) (tells host')
did_unasked {H} tells clients s s' host host' same file end limit format fits =
    subst (λ (x : H). ((j : Journal) → FitsWith clients s (tells host).files j
    → FitsWith clients s' (tells x).files j) → Did clients [] s s' (tells host) (tells x)) (sym same)
    (λ fits. let none = did_none clients s (tells host) in record {
      goes = none.goes;
      tells = none.tells;
      sent = none.sent;
      limit = limit;
      format = format;
      fits = λ j fit.
          subst (λ (k : Journal). FitsWith clients s' (tells host).files k) (sym (append-nil j))
          (fits j fit);
      calls = none.calls;
      file = file;
      appends = subst (λ (n : ℕ). Appends s.file s.end n (tells host) (tells host)) (sym end) none.appends;
      moments = none.moments;
    }) fits

-- ---- calls that send nothing

pub did_quiet : (clients : Meaning) (a : Act) (s : StoreValue) (o o' : Outside)
    → batches_in (a ∷ []) ≡ [] → ((link : ℕ) → sends_on link (a ∷ []) ≡ []) → LetsNothingFall o o'
    → QuietCall o o' → o'.links.told ≡ o.links.told → Tells (events_of (a ∷ [])) o o'
    → Did clients (a ∷ []) s s o o'
did_quiet clients a s o o' none silent goes call same_told tells = record {
  goes = goes;
  tells = tells;
  sent = λ told link.
      ap (λ t. sent_at t link) same_told ∙ sym (append-nil (sent_on o.links link))
      ∙ ap (λ (l : List ℕ). sent_on o.links link ++ l) (sym (silent link));
  limit = refl;
  format = refl;
  fits = λ j fit.
      subst (λ (k : Journal). FitsWith clients s o'.files k)
      (sym (append-nil j) ∙ ap (λ (l : Journal). j ++ l) (sym none))
      (fits_on clients s o o' call.same_files j fit);
  calls =
      subst (λ (l : Journal). MakesAtMost (4 * length l) o o') (sym none)
      (quiet_most (o'.moments o'.clock) o o' call);
  file = refl;
  appends = quiet_appends (o'.moments o'.clock) s o o' call;
  moments = λ told j fit. record {
    later = call.time.later;
    before = λ t m since at. elim (call.time.nothing_else t m since at) [
      | inl old ↦ inl old
      | inr during ↦
          inl (o.since t m since (o.is_now told.two m told.files_are
          (quiet_moments o o' told.two call same_told told.files_are m during)))
    ];
  };
}

-- nothing was called
pub did_pass : (clients : Meaning) (a : Act) (s : StoreValue) (o : Outside)
    → batches_in (a ∷ []) ≡ [] → ((link : ℕ) → sends_on link (a ∷ []) ≡ [])
    → Tells (events_of (a ∷ [])) o o → Did clients (a ∷ []) s s o o
did_pass clients a s o none silent tells =
    let nothing = did_none clients s o in
    record {
      goes = nothing.goes;
      tells = tells;
      sent = λ told link.
          sym (append-nil (sent_on o.links link))
          ∙ ap (λ (l : List ℕ). sent_on o.links link ++ l) (sym (silent link));
      limit = refl;
      format = refl;
      fits = λ j fit.
          subst (λ (l : Journal). FitsWith clients s o.files (j ++ l)) (sym none) (nothing.fits j fit);
      calls = subst (λ (l : Journal). MakesAtMost (4 * length l) o o) (sym none) nothing.calls;
      file = refl;
      appends = nothing.appends;
      moments = λ told j fit. since_none o (AtFront clients (a ∷ []) j (sent_on o.links));
    }

-- ---- a send

-- what is on one link, and nothing on the others
front_on : (link i count : ℕ) (bytes : List ℕ)
    → IsFront (cond (nat_eq link i) (take count bytes) []) (cond (nat_eq link i) bytes [])
front_on link i count bytes = by (nat_eq link i)
  where
    by : (b : Bool) → IsFront (cond b (take count bytes) []) (cond b bytes [])
    by true = front_taken count [] bytes
    by false = record { rest = []; whole = refl }

pub on_link : {A : Type 0} (a b : ℕ) (xs : List A) → a ≡ b → cond (nat_eq a b) xs [] ≡ xs
on_link a b xs same = ap (λ (t : Bool). cond t xs []) (eq-eqb a b same)

pub off_link : {A : Type 0} (a b : ℕ) (xs : List A) → a ≢ b → cond (nat_eq a b) xs [] ≡ []
off_link a b xs apart = ap (λ (t : Bool). cond t xs []) (ne_eqb a b apart)

-- the bytes of one link, and those of another
by_link : (link i : ℕ) (at before : ℕ → List ℕ) (bytes : List ℕ)
    → at link ≡ before link ++ bytes → ((k : ℕ) → k ≢ link → at k ≡ before k)
    → at i ≡ before i ++ cond (nat_eq link i) bytes []
by_link link i at before bytes here others = elim (cases_eq i link) [
  | inl is ↦
      subst (λ (k : ℕ). at k ≡ before k ++ cond (nat_eq link k) bytes []) (sym is)
      (here ∙ ap (λ (l : List ℕ). before link ++ l) (sym (on_link link link bytes refl)))
  | inr other ↦
      others i other ∙ sym (append-nil (before i))
      ∙ ap (λ (l : List ℕ). before i ++ l) (sym (off_link link i bytes (λ same. other (sym same))))
]

module _ (stand : ImagesStand) (clients : Meaning) (link : ℕ) (bytes : List ℕ) (s : StoreValue)
    (o o' : Outside) (roomy : s.end + room_of (written_in s) s.state.facts ≤ MAX_JOURNAL)
    (within : link < o.links.dialled) (call : LinkCall (SendsPart o link bytes) o o') where
  -- a moment in the middle of it
  at_send : (a : Act) → ((i : ℕ) → next_bytes i (a ∷ []) ≡ cond (nat_eq link i) bytes [])
      → ComesAtFronts clients (a ∷ []) s o o'
  at_send a is told j fit = record {
    later = call.time.later;
    before = λ t m since at. elim (call.time.nothing_else t m since at) [
      | inl old ↦ inl old
      | inr during ↦
          let part = send_moments o told link bytes within m during in
          let two : told.two ≡ fit.0 = cc (told.files_are, fit.1) in
          inr (record {
            before = [];
            behind = a ∷ [];
            parts = refl;
            stands_for =
                stand clients s j told.two m.files
                (subst (λ (t : Two File). FitsFiles clients s j t) (sym two) fit.2) roomy part.image
                ∙ ap journal (sym (append-nil j));
            part = λ i. cond (nat_eq link i) (take part.count bytes) [];
            begun = λ i.
                subst (λ (l : List ℕ). IsFront (cond (nat_eq link i) (take part.count bytes) []) l)
                (sym (is i)) (front_on link i part.count bytes);
            has_sent = λ i.
                by_link link i (λ k. slice_index_or m.sent k []) (sent_on o.links)
                (take part.count bytes) part.here part.others;
          })
    ];
  }

  -- what went out of it
  out_by : (gone : List ℕ) → o'.links.told ≡ option_map (with_sent link gone) o.links.told
      → TellsAll o → (i : ℕ)
      → sent_on o'.links i ≡ sent_on o.links i ++ (cond (nat_eq link i) gone [] ++ [])
  out_by gone went told i =
      let inside : link < length told.links = omega (arith, within, o.all_told told.links told.links_are) in
      by_link link i (sent_on o'.links) (sent_on o.links) gone
      (ap (λ t. sent_at t link) went ∙ sent_at-with_sent o.links.told told.links link gone told.links_are inside)
      (λ k other. ap (λ t. sent_at t k) went ∙ sent_at-other o.links.told link gone k other)
      ∙ ap (λ (l : List ℕ). sent_on o.links i ++ l) (sym (append-nil (cond (nat_eq link i) gone [])))

  none_behind : (j : Journal) → FitsWith clients s o.files j → FitsWith clients s o'.files (j ++ [])
  none_behind j fit =
      subst (λ (k : Journal). FitsWith clients s o'.files k) (sym (append-nil j))
      (fits_on clients s o o' call.same_files j fit)

  -- all of it
  pub did_send : (u : Unit {0}) → SendsOnLink link bytes (Ok u) o.links o'.links
      → Did clients (Send link bytes ∷ []) s s o o'
  did_send u sends = record {
    goes = goes_sent link bytes (Ok u) o o' call sends;
    tells = told_sent link bytes o o' sends;
    sent = out_by bytes sends.sent;
    limit = refl;
    format = refl;
    fits = none_behind;
    calls = quiet_most (SendsPart o link bytes) o o' call;
    file = refl;
    appends = quiet_appends (SendsPart o link bytes) s o o' call;
    moments = at_send (Send link bytes) (λ i. refl);
  }

  -- a front of it, and the call failed
  pub did_fail : (why : Failed) (sends : SendsOnLink link bytes (Err why) o.links o'.links)
      → Did clients (Fail link bytes sends.sent.0 ∷ []) s s o o'
  did_fail why sends = record {
    goes = goes_sent link bytes (Err why) o o' call sends;
    tells = told_broken link bytes why o o' sends;
    sent = out_by (take sends.sent.0 bytes) sends.sent.1;
    limit = refl;
    format = refl;
    fits = none_behind;
    calls = quiet_most (SendsPart o link bytes) o o' call;
    file = refl;
    appends = quiet_appends (SendsPart o link bytes) s o o' call;
    moments = at_send (Fail link bytes sends.sent.0) (λ i. refl);
  }
