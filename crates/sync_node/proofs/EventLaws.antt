-- What calls did as acts, as events that are told: a path of acts is one of events, but for parts of
-- what was owed, which are told of nothing.
use Rattle.std.proofs.Common.{◌≡◌, ℕ, ◌*◌, ◌||◌, List, [], ◌∷◌, ◌++◌, length, refl, sym, ◌∙◌, ap, subst, inl, inr, Bool, Option, None, Some}
use Rattle.std.specs.Option.{option_map}
use Rattle.outside.specs.Disk.{RelatesTold}
use Rattle.outside.specs.Links.{HeardOn, Planned}
use Rattle.outside.specs.Outside.{MakesAtMost, Outside}
use Rattle.sync_rules.specs.Clients.{Meaning}
use Rattle.sync_rules.specs.Facts.{Facts, Journal}
use Rattle.sync_store.specs.Store.{StoreValue}
use Rattle.sync_course.specs.Acts.{Act, Does, Fail, Send, batches_in, events_of}
use Rattle.sync_course.specs.Events.{Break, Event, GrowsBy, Pass, PlansAfter, ChangesThrough, TellsEvents, UpcomingAfter, batches_of, failures_after, has_failure, heard_after, heard_by, is_failure, readings_of}
use Rattle.sync_course.specs.Owing.{ActStep, Owing}
use Rattle.sync_course.specs.Paths.{BreaksPath, Path, RunsPath}
use Rattle.sync_course.proofs.ActLaws.{quiet_events, quiet_path}
use Rattle.sync_course.proofs.ToldLaws.{batches_of-append, readings_of-append}
use Rattle.sync_node.specs.declared.fault.Fault.{Fault}
use Rattle.sync_node.specs.declared.fault.Fault.TheVariants as fault
use Rattle.sync_node.specs.Courses.{FitsWith, ReadsAs}
use Rattle.sync_node.specs.Went.{Stopped, Went}

-- ---- events without some that tell of nothing

pub record Thins (es fs : List Event) : Type 0 where
  pub batches : batches_of es ≡ batches_of fs
  pub heard : (h : List HeardOn) → heard_after fs h ≡ heard_after es h
  pub readings : readings_of es ≡ readings_of fs
  pub failures : (link : ℕ) → has_failure link es ≡ has_failure link fs
  pub counts : (link count : ℕ) → failures_after link es count ≡ failures_after link fs count
  pub planned : (a b : ℕ → List Planned) → ChangesThrough PlansAfter fs a b → ChangesThrough PlansAfter es a b
  pub upcoming : (a b : List ℕ) → ChangesThrough UpcomingAfter fs a b → ChangesThrough UpcomingAfter es a b

thins_none : Thins [] []
thins_none = record {
  batches = refl;
  heard = λ h. refl;
  readings = refl;
  failures = λ link. refl;
  counts = λ link count. refl;
  planned = λ a b through. through;
  upcoming = λ a b through. through;
}

-- the same event in front of both
thins_same : (e : Event) (es fs : List Event) → Thins es fs → Thins (e ∷ es) (e ∷ fs)
thins_same e es fs t = record {
  batches =
      batches_of-append (e ∷ []) es ∙ ap (λ (l : Journal). batches_of (e ∷ []) ++ l) t.batches
      ∙ sym (batches_of-append (e ∷ []) fs);
  heard = λ h. t.heard (heard_by e h);
  readings =
      readings_of-append (e ∷ []) es ∙ ap (λ (l : List ℕ). readings_of (e ∷ []) ++ l) t.readings
      ∙ sym (readings_of-append (e ∷ []) fs);
  failures = λ link. ap (λ (b : Bool). is_failure link e || b) (t.failures link);
  counts = λ link count. t.counts link (failures_after link (e ∷ []) count);
  planned = λ a b through. (through.0, through.1, t.planned through.0 b through.2);
  upcoming = λ a b through. (through.0, through.1, t.upcoming through.0 b through.2);
}

-- one that tells of nothing in front of those that have it
thins_pass : (es fs : List Event) → Thins es fs → Thins es (Pass ∷ fs)
thins_pass es fs t = record {
  batches = t.batches;
  heard = t.heard;
  readings = t.readings;
  failures = t.failures;
  counts = t.counts;
  planned = λ a b through.
      t.planned a b
      (subst (λ (x : ℕ → List Planned). ChangesThrough PlansAfter fs x b) through.1 through.2);
  upcoming = λ a b through.
      t.upcoming a b (subst (λ (x : List ℕ). ChangesThrough UpcomingAfter fs x b) through.1 through.2);
}

-- what is told of the one is told of the other
same_heard : (f g : List HeardOn → List HeardOn) → ((h : List HeardOn) → f h ≡ g h)
    → (heard : Option (List HeardOn)) → option_map f heard ≡ option_map g heard
same_heard f g same None = refl
same_heard f g same (Some h) = ap (λ (x : List HeardOn). Some x) (same h)

becomes_as : {A : Type 0} (R S : A → A → Type 0) → ((x y : A) → R x y → S x y) → (a b : Option A)
    → RelatesTold R a b → RelatesTold S a b
becomes_as R S then None None becomes = tt
becomes_as R S then None (Some b) becomes = becomes
becomes_as R S then (Some a) None becomes = becomes
becomes_as R S then (Some a) (Some b) becomes = then a b becomes

thins_told : (es fs : List Event) (o o' : Outside) → Thins es fs → TellsEvents fs o o' → TellsEvents es o o'
thins_told es fs o o' t told = record {
  heard =
      told.heard ∙ same_heard (heard_after fs) (heard_after es) t.heard o.links.heard;
  readings =
      subst (λ (l : List ℕ). GrowsBy l o.links.readings o'.links.readings) (sym t.readings)
      told.readings;
  faults = λ link.
      told.faults link ∙ sym (t.counts link (o.links.faults link));
  planned =
      becomes_as (ChangesThrough PlansAfter fs) (ChangesThrough PlansAfter es) t.planned o.links.planned
      o'.links.planned told.planned;
  upcoming =
      becomes_as (ChangesThrough UpcomingAfter fs) (ChangesThrough UpcomingAfter es) t.upcoming o.links.upcoming
      o'.links.upcoming told.upcoming;
}

-- ---- paths

pub record EventPath {P : Type 0} (step : P → Event → P → Type 0) (p q : P)
    (fs : List Event) : Type 0 where
  pub events : List Event
  pub path : Path step p events q
  pub thins : Thins events fs

module _ {P : Type 0} (clients : Meaning) (facts_of : P → Facts) (first : ℕ)
    (step : P → Event → P → Type 0) where
  one_more : (p m q : P) (e : Event) (fs : List Event) → step p e m → EventPath step m q fs
      → EventPath step p q (e ∷ fs)
  one_more p m q e fs steps rest = record {
    events = e ∷ rest.events;
    path = (m, steps, rest.path);
    thins = thins_same e rest.events fs rest.thins;
  }

  none_more : (p m q : P) (fs : List Event) → m ≡ p → EventPath step m q fs
      → EventPath step p q (Pass ∷ fs)
  none_more p m q fs stays rest = record {
    events = rest.events;
    path = subst (λ (x : P). Path step x rest.events q) stays rest.path;
    thins = thins_pass rest.events fs rest.thins;
  }

  by_act : (p m : Owing P) (q : P) (a : Act) (fs : List Event) → ActStep facts_of first step p a m
      → EventPath step m.at q fs → EventPath step p.at q (events_of (a ∷ []) ++ fs)
  by_act p m q (Does e) fs steps rest = one_more p.at m.at q e fs steps.1 rest
  by_act p m q (Send n bytes) fs steps rest = elim steps [
    | inl all ↦ one_more p.at m.at q Pass fs all.1 rest
    | inr some ↦ none_more p.at m.at q fs some.stays rest
  ]
  by_act p m q (Fail n bytes count) fs steps rest =
      one_more p.at m.at q (Break n) fs steps.1 rest

  pub as_events : (p q : Owing P) (acts : List Act) → Path (ActStep facts_of first step) p acts q
      → EventPath step p.at q.at (events_of acts)
  as_events p q [] path =
      record { events = []; path = ap (λ (x : Owing P). x.at) path; thins = thins_none }
  as_events p q (a ∷ acts) path =
      by_act p path.0 q.at a (events_of acts) path.1 (as_events path.0 q acts path.2)

  -- ---- what calls did

  pub runs_of : (p q : Owing P) (s s' : StoreValue) (o o' : Outside)
      → Went clients (ActStep facts_of first step) p q s s' o o'
      → RunsPath step (FitsWith clients s o.files) (FitsWith clients s' o'.files) p.at q.at o o' []
  runs_of p q s s' o o' went =
      let way : EventPath step p.at q.at (events_of went.acts) =
      as_events p q went.acts went.path in
      record {
        events = way.events;
        path = way.path;
        told = thins_told way.events (events_of went.acts) o o' way.thins went.did.tells;
        journal = λ j fit.
            subst (λ (bs : Journal). FitsWith clients s' o'.files (j ++ bs)) (sym way.thins.batches)
            (went.did.fits j fit);
        calls =
            subst (λ (bs : Journal). MakesAtMost (4 * length bs) o o') (sym way.thins.batches)
            went.did.calls;
      }

  -- ---- where they stopped

  breaks_ready : (p q : Owing P) (s s' : StoreValue) (o o' : Outside)
      → Went clients (ActStep facts_of first step) p q s s' o o'
      → BreaksPath step (FitsWith clients s o.files) (ReadsAs clients o'.files) p.at o o'
  breaks_ready p q s s' o o' went =
      let run : RunsPath step (FitsWith clients s o.files) (FitsWith clients s' o'.files) p.at q.at o o' [] =
      runs_of p q s s' o o' went in
      record {
        to = q.at;
        next = [];
        quiet = tt;
        beyond = q.at;
        goes_on = refl;
        runs = record {
          events = run.events;
          path = run.path;
          told = run.told;
          journal = λ j fit. let fits = run.journal j fit in (fits.0, fits.1, fits.2.stands_for);
          calls = run.calls;
        };
      }

  pub breaks_of : (Has : Owing P → Type 0) (p : Owing P) (s s' : StoreValue) (o o' : Outside)
      (e : Fault) → Stopped clients (ActStep facts_of first step) Has p s s' o o' e
      → BreaksPath step (FitsWith clients s o.files) (ReadsAs clients o'.files) p.at o o'
  breaks_of Has p s s' o o' fault.Memory stops = breaks_ready p stops.to s s' o o' stops.went
  breaks_of Has p s s' o o' fault.Full stops = breaks_ready p stops.to s s' o o' stops.went
  breaks_of Has p s s' o o' fault.DiskFault stops =
      let way : EventPath step p.at stops.to.at (events_of stops.acts) =
      as_events p stops.to stops.acts stops.path in
      record {
        to = stops.to.at;
        next = events_of stops.next;
        quiet = quiet_events stops.next stops.quiet;
        beyond = stops.beyond.at;
        goes_on =
            quiet_path facts_of first step stops.to stops.beyond stops.next stops.quiet stops.goes_on;
        runs = record {
          events = way.events;
          path = way.path;
          told = thins_told way.events (events_of stops.acts) o o' way.thins stops.did.tells;
          journal = λ j fit.
              subst (λ (bs : Journal). ReadsAs clients o'.files (j ++ bs)) (sym way.thins.batches)
              (stops.did.reads j fit);
          calls =
              subst (λ (bs : Journal). MakesAtMost (4 * length (batches_in stops.next ++ bs)) o o')
              (sym way.thins.batches) stops.did.calls;
        };
      }
