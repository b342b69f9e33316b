-- What is told of events one behind the other, and of the events of single calls.
use Rattle.std.proofs.Common.{◌≡◌, ◌⊎◌, ℕ, ◌≤◌, Bool, true, false, ◌||◌, nat_eq, eqb-true, eq-eqb, List, [], ◌∷◌, ◌++◌, length, take, append-nil, append_assoc, refl, sym, ◌∙◌, ap, subst, inl, inr, arith, Option, None, Some, Ok, Err}
use Rattle.std.specs.Bool.{if◌then◌else◌}
use Rattle.std.specs.Option.{option_map}
use Rattle.std.proofs.Math.Bool.{or_assoc}
use Rattle.std.proofs.lemmas.Bool.{cases_eq}
use Rattle.outside.specs.declared.failed.Failed.{Failed}
use Rattle.outside.specs.declared.host.Heard.{Heard}
use Rattle.outside.specs.declared.host.Heard.TheVariants as answer
use Rattle.outside.specs.Faults.{CountRose, one_more}
use Rattle.outside.specs.Host.{GrowsReadings, HearsAnswer, IsAnswerCaused, ReadsClock, SendsOnLink}
use Rattle.outside.specs.Disk.{RelatesTold}
use Rattle.outside.specs.Links.{HeardOn, Planned, Reply, changed_at, got, idle, ended, hear_reply}
use Rattle.outside.specs.Planned.{AnswersAsPlanned, UsesPlan}
use Rattle.outside.specs.Outside.{Outside}
use Rattle.outside.proofs.CallSteps.{becomes_map, becomes_none, becomes_then}
use Rattle.sync_rules.specs.declared.entries.Entry.{Entry}
use Rattle.sync_course.specs.declared.TheConstants.{PIECE_LEN}
use Rattle.sync_course.specs.Events.{AreQuietEvents, Event, Commit, Hear, Miss, Read, Break, Pass, asked_event, batches_of, commits, readings_of, heard_by, heard_after, is_failure, has_failure, failures_after, GrowsBy, PlansAfter, ChangesThrough, TellsEvents, UpcomingAfter}

-- ---- lists of events

pub batches_of-append : (es fs : List Event) → batches_of (es ++ fs) ≡ batches_of es ++ batches_of fs
batches_of-append [] fs = refl
batches_of-append (Commit b ∷ es) fs =
    ap (λ l. b ∷ l) (batches_of-append es fs)
batches_of-append (_ ∷ es) fs = batches_of-append es fs

pub readings_of-append : (es fs : List Event) → readings_of (es ++ fs) ≡ readings_of es ++ readings_of fs
readings_of-append [] fs = refl
readings_of-append (Read link now ∷ es) fs = ap (λ l. now ∷ l) (readings_of-append es fs)
readings_of-append (_ ∷ es) fs = readings_of-append es fs

heard_after-append : (es fs : List Event) (heard : List HeardOn) → heard_after (es ++ fs) heard ≡ heard_after fs (heard_after es heard)
heard_after-append [] fs heard = refl
heard_after-append (e ∷ es) fs heard = heard_after-append es fs (heard_by e heard)

pub has_failure-append : (link : ℕ) (es fs : List Event) → has_failure link (es ++ fs) ≡ (has_failure link es || has_failure link fs)
has_failure-append link [] fs = refl
has_failure-append link (e ∷ es) fs =
    ap (λ b. is_failure link e || b) (has_failure-append link es fs)
    ∙ sym (or_assoc (is_failure link e) (has_failure link es) (has_failure link fs))

pub failures_after-append : (link : ℕ) (es fs : List Event) (count : ℕ)
    → failures_after link (es ++ fs) count ≡ failures_after link fs (failures_after link es count)
failures_after-append link [] fs count = refl
failures_after-append link (e ∷ es) fs count =
    failures_after-append link es fs (if is_failure link e then one_more count else count)

-- a count that is past another one stays past it
past_after : (link : ℕ) (es : List Event) (x count : ℕ) → one_more x ≤ count
    → one_more x ≤ failures_after link es count
past_after link [] x count past = past
past_after link (e ∷ es) x count past =
    past_after link es x (if is_failure link e then one_more count else count)
    (elim (is_failure link e) as (λ b. one_more x ≤ (if b then one_more count else count)) [
      | true ↦ omega (arith, past)
      | false ↦ past
    ])

-- where a call of the link failed its count rose
pub rose_after : (link : ℕ) (es : List Event) (count : ℕ) → has_failure link es ≡ true
    → CountRose count (failures_after link es count)
rose_after link [] count failed = cc
rose_after link (e ∷ es) count failed =
    elim (is_failure link e) as (λ b. (b || has_failure link es) ≡ true
    → CountRose count (failures_after link es (if b then one_more count else count))) [
      | true ↦ λ there. past_after link es count (one_more count) (omega arith)
      | false ↦ λ there. rose_after link es count there
    ] failed

-- ---- what is told grows

option_map_same : {A : Type 0} (f : A → A) → ((x : A) → f x ≡ x) → (o : Option A) → o ≡ option_map f o
option_map_same f same None = refl
option_map_same f same (Some x) = ap (λ y. Some y) (sym (same x))

heard_then : (es fs : List Event) (heard : Option (List HeardOn))
    → option_map (heard_after fs) (option_map (heard_after es) heard) ≡ option_map (heard_after (es ++ fs)) heard
heard_then es fs None = refl
heard_then es fs (Some heard) = ap (λ h. Some h) (sym (heard_after-append es fs heard))

grows_none : (readings : Option (List ℕ)) → GrowsBy [] readings readings
grows_none None = tt
grows_none (Some readings) = sym (append-nil readings)

grows_then : (more others : List ℕ) (a b c : Option (List ℕ)) → GrowsBy more a b → GrowsBy others b c → GrowsBy (more ++ others) a c
grows_then more others a b None first second = tt
grows_then more others a None (Some c) first second = absurd second
grows_then more others None (Some b) (Some c) first second = absurd first
grows_then more others (Some a) (Some b) (Some c) first second =
    second ∙ ap (λ l. l ++ others) first ∙ append_assoc a more others

-- ---- what is left

through_then : {A : Type 0} (step : Event → A → A → Type 0) (es fs : List Event) (a b c : A)
    → ChangesThrough step es a b → ChangesThrough step fs b c → ChangesThrough step (es ++ fs) a c
through_then step [] fs a b c first second =
    subst (λ x. ChangesThrough step fs x c) first second
through_then step (e ∷ es) fs a b c first second =
    (first.0, first.1, through_then step es fs first.0 b c first.2 second)

-- what is told is what it was
told_as : {A : Type 0} (R : A → A → Type 0) (a b : Option A) → ((x : A) → R x x) → b ≡ a
    → RelatesTold R a b
told_as R a b stays same = subst (RelatesTold R a) (sym same) (becomes_none R a stays)

-- no event, where the links stay as they are
told_stays : (o o' : Outside) → o'.links ≡ o.links → TellsEvents [] o o'
told_stays o o' same = record {
  heard =
      ap (λ l. l.heard) same
      ∙ option_map_same (heard_after []) (λ heard. refl) o.links.heard;
  readings =
      subst (λ l. GrowsBy [] o.links.readings l.readings) (sym same)
      (grows_none o.links.readings);
  faults = λ link. ap (λ l. l.faults link) same;
  planned =
      told_as (ChangesThrough PlansAfter []) _ _ (λ x. refl) (ap (λ l. l.planned) same);
  upcoming =
      told_as (ChangesThrough UpcomingAfter []) _ _ (λ x. refl) (ap (λ l. l.upcoming) same);
}

pub told_none : (o : Outside) → TellsEvents [] o o
told_none o = told_stays o o refl

pub told_then : (es fs : List Event) (o o1 o2 : Outside) → TellsEvents es o o1
    → TellsEvents fs o1 o2 → TellsEvents (es ++ fs) o o2
told_then es fs o o1 o2 first second = record {
  heard =
      second.heard ∙ ap (option_map (heard_after fs)) first.heard ∙ heard_then es fs o.links.heard;
  readings =
      subst (λ more. GrowsBy more o.links.readings o2.links.readings)
      (sym (readings_of-append es fs))
      (grows_then (readings_of es) (readings_of fs) _ _ _ first.readings second.readings);
  faults = λ link.
      second.faults link ∙ ap (failures_after link fs) (first.faults link)
      ∙ sym (failures_after-append link es fs (o.links.faults link));
  planned =
      becomes_then _ _ _ _ _ _ (through_then PlansAfter es fs) first.planned second.planned;
  upcoming =
      becomes_then _ _ _ _ _ _ (through_then UpcomingAfter es fs) first.upcoming second.upcoming;
}

-- ---- single calls

pub batches_of_commits : (bs : List (List Entry)) → batches_of (commits bs) ≡ bs
batches_of_commits [] = refl
batches_of_commits (b ∷ bs) = ap (λ l. b ∷ l) (batches_of_commits bs)

-- one event, by what it says of each thing that is told
told_one : (e : Event) (o o' : Outside)
    → o'.links.heard ≡ option_map (heard_by e) o.links.heard
    → GrowsBy (readings_of (e ∷ [])) o.links.readings o'.links.readings
    → ((link : ℕ) → o'.links.faults link ≡ failures_after link (e ∷ []) (o.links.faults link))
    → RelatesTold (PlansAfter e) o.links.planned o'.links.planned
    → RelatesTold (UpcomingAfter e) o.links.upcoming o'.links.upcoming
    → TellsEvents (e ∷ []) o o'
told_one e o o' heard readings faults planned upcoming = record {
  heard = heard;
  readings = readings;
  faults = faults;
  planned = becomes_map (PlansAfter e) _ _ _ (λ x y r. (y, r, refl)) planned;
  upcoming = becomes_map (UpcomingAfter e) _ _ _ (λ x y r. (y, r, refl)) upcoming;
}

-- an event that says nothing of answers and readings
abbrev SaysNothing : Event → Type 0
SaysNothing (Hear link reply) = ⊥
SaysNothing (Miss link) = ⊥
SaysNothing (Read link now) = ⊥
SaysNothing _ = Unit {0}

told_same : (e : Event) (o o' : Outside) → SaysNothing e
    → o'.links.heard ≡ o.links.heard → o'.links.readings ≡ o.links.readings
    → o'.links.planned ≡ o.links.planned → o'.links.upcoming ≡ o.links.upcoming
    → ((link : ℕ) → o'.links.faults link ≡ failures_after link (e ∷ []) (o.links.faults link))
    → TellsEvents (e ∷ []) o o'
told_same (Hear link reply) o o' says heard readings planned upcoming faults = absurd says
told_same (Miss link) o o' says heard readings planned upcoming faults = absurd says
told_same (Read link now) o o' says heard readings planned upcoming faults = absurd says
told_same e o o' says heard readings planned upcoming faults =
    told_one e o o' (heard ∙ option_map_same (heard_by e) (λ h. refl) o.links.heard)
    (subst (GrowsBy [] o.links.readings) (sym readings) (grows_none o.links.readings)) faults
    (told_as (PlansAfter e) _ _ (λ x. refl) planned)
    (told_as (UpcomingAfter e) _ _ (λ x. refl) upcoming)

-- nothing that is told of
pub told_pass : (o o' : Outside) → o'.links ≡ o.links → TellsEvents (Pass ∷ []) o o'
told_pass o o' same =
    told_then (Pass ∷ []) [] o o o' (told_same Pass o o tt refl refl refl refl (λ link. refl))
    (told_stays o o' same)

-- batches that were committed while the links stayed as they were
pub told_commits : (bs : List (List Entry)) (o o' : Outside) → o'.links ≡ o.links → TellsEvents (commits bs) o o'
told_commits [] o o' same = told_stays o o' same
told_commits (b ∷ bs) o o' same =
    told_then (Commit b ∷ []) (commits bs) o o o'
    (told_same (Commit b) o o tt refl refl refl refl (λ link. refl))
    (told_commits bs o o' same)

-- nothing is told of quiet events while the links stayed as they were
pub told_quiet : (es : List Event) → AreQuietEvents es → (o o' : Outside) → o'.links ≡ o.links
    → TellsEvents es o o'
told_quiet [] quiet o o' same = told_stays o o' same
told_quiet (Commit b ∷ es) quiet o o' same =
    told_then (Commit b ∷ []) es o o o'
    (told_same (Commit b) o o tt refl refl refl refl (λ link. refl))
    (told_quiet es quiet.1 o o' same)
told_quiet (Pass ∷ es) quiet o o' same =
    told_then (Pass ∷ []) es o o o' (told_pass o o refl) (told_quiet es quiet.1 o o' same)
told_quiet (Hear link reply ∷ es) quiet o o' same = absurd quiet.0
told_quiet (Miss link ∷ es) quiet o o' same = absurd quiet.0
told_quiet (Read link now ∷ es) quiet o o' same = absurd quiet.0
told_quiet (Break link ∷ es) quiet o o' same = absurd quiet.0

-- no count changed, where that of the link that was called stayed
same_counts : (n link : ℕ) (old new : ℕ → ℕ) → new n ≡ old n
    → ((i : ℕ) → (i ≡ n → ⊥) → new i ≡ old i) → new link ≡ old link
same_counts n link old new same others =
    elim (cases_eq link n) [
      | inl here ↦ subst (λ i. new i ≡ old i) (sym here) same
      | inr other ↦ others link other
    ]

-- the count of the link whose call failed rose by one, and no other
one_failed : (n link : ℕ) (old new : ℕ → ℕ) → new n ≡ one_more (old n)
    → ((i : ℕ) → (i ≡ n → ⊥) → new i ≡ old i)
    → new link ≡ (if nat_eq n link then one_more (old link) else old link)
one_failed n link old new rose others =
    elim (nat_eq n link) as (λ b. nat_eq n link ≡ b
    → new link ≡ (if b then one_more (old link) else old link)) [
      | true ↦ λ is. subst (λ i. new i ≡ one_more (old i)) (eqb-true n link is) rose
      | false ↦ λ is. others link (λ same.
          let equal : nat_eq n link ≡ true = eq-eqb n link (sym same) in
          cc)
    ] refl

-- a link was asked
told_reply : (link : ℕ) (given : Heard) (reply : Reply) (buf : List ℕ) (o o' : Outside)
    → length buf ≡ PIECE_LEN → HearsAnswer link given buf o.links o'.links
    → o'.links.faults link ≡ o.links.faults link
    → o'.links.heard ≡ option_map (changed_at link (hear_reply (length buf) reply)) o.links.heard
    → ((x y : ℕ → List Planned) → AnswersAsPlanned link given buf x y
    → UsesPlan link (length buf) (Some reply) x y) → TellsEvents (Hear link reply ∷ []) o o'
told_reply link given reply buf o o' whole hears same heard uses =
    told_one (Hear link reply) o o'
    (heard
    ∙ ap (λ room. option_map (changed_at link (hear_reply room reply)) o.links.heard) whole)
    (subst (GrowsBy [] o.links.readings) (sym hears.same_readings) (grows_none o.links.readings))
    (λ i. same_counts link i o.links.faults o'.links.faults same hears.others)
    (becomes_map (AnswersAsPlanned link given buf) _ _ _
    (λ x y used. subst (λ room. UsesPlan link room (Some reply) x y) whole (uses x y used))
    hears.planned)
    (told_as (UpcomingAfter (Hear link reply)) _ _ (λ x. refl) hears.same_upcoming)

pub told_asked : (link : ℕ) (given : Heard) (buf : List ℕ) (o o' : Outside) → length buf ≡ PIECE_LEN
    → HearsAnswer link given buf o.links o'.links → IsAnswerCaused given (length buf) (o.links.faults link) (o'.links.faults link)
    → TellsEvents (asked_event link given buf ∷ []) o o'
told_asked link (answer.Got n) buf o o' whole hears caused =
    told_reply link (answer.Got n) (got (take n buf)) buf o o' whole hears caused.2 hears.heard
    (λ x y used. used)
told_asked link answer.Idle buf o o' whole hears caused =
    told_reply link answer.Idle idle buf o o' whole hears caused hears.heard (λ x y used. used)
told_asked link answer.End buf o o' whole hears caused =
    told_reply link answer.End ended buf o o' whole hears caused hears.heard (λ x y used. used)
told_asked link answer.Failed buf o o' whole hears caused =
    told_one (Miss link) o o' hears.heard
    (subst (GrowsBy [] o.links.readings) (sym hears.same_readings) (grows_none o.links.readings))
    (λ i. one_failed link i o.links.faults o'.links.faults caused hears.others)
    (becomes_map (AnswersAsPlanned link answer.Failed buf) _ _ _
    (λ x y uses. subst (λ room. UsesPlan link room None x y ⊎ (y ≡ x)) whole uses) hears.planned)
    (told_as (UpcomingAfter (Miss link)) _ _ (λ x. refl) hears.same_upcoming)

grows_one : (now : ℕ) (old new : Option (List ℕ)) → GrowsReadings now old new → GrowsBy (now ∷ []) old new
grows_one now old None grows = tt
grows_one now None (Some new) grows = absurd grows
grows_one now (Some old) (Some new) grows = grows

-- the clock was read
pub told_read : (link now : ℕ) (o o' : Outside) → ReadsClock now o.links o'.links → TellsEvents (Read link now ∷ []) o o'
told_read link now o o' reads =
    told_one (Read link now) o o'
    (reads.same_heard ∙ option_map_same (heard_after []) (λ heard. refl) o.links.heard)
    (grows_one now o.links.readings o'.links.readings reads.readings)
    (λ i. ap (λ f. f i) reads.same_faults)
    (told_as (PlansAfter (Read link now)) _ _ (λ x. refl) reads.same_planned) reads.upcoming

-- all bytes were sent
pub told_sent : (link : ℕ) (bytes : List ℕ) (o o' : Outside) → SendsOnLink link bytes (Ok tt) o.links o'.links → TellsEvents (Pass ∷ []) o o'
told_sent link bytes o o' sends =
    told_same Pass o o' tt sends.same_heard sends.same_readings sends.same_planned
    sends.same_upcoming (λ i.
    same_counts link i o.links.faults o'.links.faults sends.faults.counts sends.faults.others)

-- a send failed
pub told_broken : (link : ℕ) (bytes : List ℕ) (why : Failed) (o o' : Outside) → SendsOnLink link bytes (Err why) o.links o'.links
    → TellsEvents (Break link ∷ []) o o'
told_broken link bytes why o o' sends =
    told_same (Break link) o o' tt sends.same_heard sends.same_readings sends.same_planned
    sends.same_upcoming (λ i.
    one_failed link i o.links.faults o'.links.faults sends.faults.counts sends.faults.others)
