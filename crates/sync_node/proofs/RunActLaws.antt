-- The turns of all links, and a whole turn, as paths of a run's acts.
use Rattle.std.proofs.Common.{◌≡◌, ℕ, suc, ◌+◌, ◌<◌, Bool, true, false, cond, ◌&&◌, List, length, refl, sym, ◌∙◌, ap, subst, inl, inr, arith, Some}
use Rattle.std.specs.Prelude.{nat_lt, not, slice_get, slice_set}
use Rattle.outside.specs.Outside.{Outside}
use Rattle.sync_rules.specs.Clients.{Meaning}
use Rattle.sync_rules.specs.Facts.{Facts}
use Rattle.sync_store.specs.Store.{StoreValue}
use Rattle.sync_course.specs.Acts.{Act, Does, Fail, Send}
use Rattle.sync_course.specs.Events.{Break, Commit, Pass}
use Rattle.sync_course.specs.Links as course_links
use Rattle.sync_course.specs.Links.{without_redundant}
use Rattle.sync_course.specs.LinkTurns.{Asks, Doing, Done, Sends, Spot}
use Rattle.sync_course.specs.Owing.{Owing, paid}
use Rattle.sync_course.specs.Paths.{Path}
use Rattle.sync_course.specs.Reading.{HasRead}
use Rattle.sync_course.specs.declared.TheConstants.{MAX_OUTPUTS}
use Rattle.sync_course.specs.Turns.{Between, Place, RunStep, Terms, Works, is_at_end, with_spot}
use Rattle.sync_course.proofs.ActLaws.{may_owe_same}
use Rattle.sync_course.proofs.LiftLaws.{begin_step, end_step, get_set, get_within, lifted_step, next_step, set_same}
use Rattle.sync_course.proofs.PathLaws.{path_maps}
use Rattle.sync_course.proofs.ToldLaws.{told_pass}
use Rattle.sync_node.specs.declared.fault.Fault.{Fault}
use Rattle.sync_node.specs.declared.fault.Fault.TheVariants as fault
use Rattle.sync_node.specs.declared.link.Link.{Link}
use Rattle.sync_node.specs.Courses.{IsLinkRead, IsReadyToSend, link_at, links_from, place_at, place_with, spot_at}
use Rattle.sync_node.specs.OnLinks.{DueStopped, DueWent, HearingStopped, HearingWent, LinkActs, LinkMakes, LinkStopped, LinkWent, TurnWent}
use Rattle.sync_node.specs.OnRuns.{AskingStopped, AskingWent, LinksStopped, LinksWent, OutsSent, OutsStopped, RoundStopped, RoundWent, RunActs, RunMakes, RunStopped, RunWent}
use Rattle.sync_node.specs.Sending.{ClosesSome}
use Rattle.sync_node.specs.Went.{HasSoon, Went}
use Rattle.sync_node.proofs.CourseRuns.{all_read, and_cond, closed_read, get_at, heard_with, length_from, same_cond, same_heard, set_at}
use Rattle.sync_node.proofs.OutLaws.{still_so}
use Rattle.sync_node.proofs.PrimLaws.{did_pass}
use Rattle.sync_node.proofs.WentLaws.{stopped_then, went_none, went_one, went_then}

-- ---- a link's turn in the run

module _ (clients : Meaning) (terms : Terms) (n : ℕ) (place : Place) (within : n < length place.links) where
  abbrev lift_spot : Owing Spot → Owing Place
  lift_spot p = record { at = with_spot n p.at place; owed = p.owed }

  lift_act : (p q : Owing Spot) (a : Act) → LinkActs clients terms.first n p a q
      → RunActs clients terms (lift_spot p) a (lift_spot q)
  lift_act p q (Does e) step = (
    may_owe_same e p (lift_spot p) (λ link. refl) step.0,
    lifted_step clients terms n place within p.at q.at e step.1,
    step.2,
  )
  lift_act p q (Send link bytes) step = elim step [
    | inl all ↦ inl (all.0, lifted_step clients terms n place within p.at q.at Pass all.1, all.2)
    | inr some ↦
        inr (record {
          rest = some.rest;
          parts = some.parts;
          stays = ap (λ (s : Spot). with_spot n s place) some.stays;
          left = some.left;
        })
  ]
  lift_act p q (Fail link bytes count) step =
      (step.0, lifted_step clients terms n place within p.at q.at (Break link) step.1, step.2)

  lift_path : (p q : Owing Spot) (acts : List Act) → Path (LinkActs clients terms.first n) p acts q
      → Path (RunActs clients terms) (lift_spot p) acts (lift_spot q)
  lift_path p q acts path =
      path_maps (LinkActs clients terms.first n) (RunActs clients terms) lift_spot lift_act p q acts path

  went_lifted : (p q : Owing Spot) (s s' : StoreValue) (o o' : Outside)
      → Went clients (LinkActs clients terms.first n) p q s s' o o'
      → Went clients (RunActs clients terms) (lift_spot p) (lift_spot q) s s' o o'
  went_lifted p q s s' o o' went = record {
    acts = went.acts;
    path = lift_path p q went.acts went.path;
    did = went.did;
  }

  stands_lifted : (p : Owing Spot) (link : course_links.Link)
      → HasSoon (LinkActs clients terms.first n) (λ (q : Owing Spot). q.at.link ≡ link) p
      → HasSoon (RunActs clients terms) (λ (q : Owing Place). q.at.links ≡ slice_set place.links n link) (lift_spot p)
  stands_lifted p link stands = record {
    acts = stands.acts;
    quiet = stands.quiet;
    next = lift_spot stands.next;
    path = lift_path p stands.next stands.acts stands.path;
    has = ap (λ (x : course_links.Link). slice_set place.links n x) stands.has;
  }

  stopped_lifted : (p : Spot) (link : course_links.Link) (s s' : StoreValue) (o o' : Outside)
      (e : Fault) → LinkStopped clients n (terms.first + n) p link s s' o o' e
      → RunStopped clients terms (with_spot n p place) (slice_set place.links n link) s s' o o' e
  stopped_lifted p link s s' o o' fault.Memory stopped =
      let stops = stopped terms.first refl in
      record {
        to = lift_spot stops.to;
        went = went_lifted (paid p) stops.to s s' o o' stops.went;
        clear = stops.clear;
        stands = stands_lifted stops.to link stops.stands;
        ready = stops.ready;
      }
  stopped_lifted p link s s' o o' fault.Full stopped =
      let stops = stopped terms.first refl in
      record {
        to = lift_spot stops.to;
        went = went_lifted (paid p) stops.to s s' o o' stops.went;
        clear = stops.clear;
        stands = stands_lifted stops.to link stops.stands;
        ready = stops.ready;
        batch = stops.batch;
        next = lift_spot stops.next;
        steps = lift_act stops.to stops.next (Does (Commit stops.batch)) stops.steps;
        over = stops.over;
      }
  stopped_lifted p link s s' o o' fault.DiskFault stopped =
      let stops = stopped terms.first refl in
      record {
        to = lift_spot stops.to;
        acts = stops.acts;
        path = lift_path (paid p) stops.to stops.acts stops.path;
        next = stops.next;
        quiet = stops.quiet;
        beyond = lift_spot stops.beyond;
        goes_on = lift_path stops.to stops.beyond stops.next stops.goes_on;
        did = stops.did;
        stands = stands_lifted stops.to link stops.stands;
        rose = stops.rose;
      }

-- ---- steps of the run that call nothing

module _ {clients : Meaning} (terms : Terms) where
  run_passes : {p q : Place} {s : StoreValue} {o : Outside} → RunStep clients terms p Pass q
      → RunWent clients terms p q s s o o
  run_passes {p = p} {q = q} {s = s} {o = o} step =
      went_one clients (RunActs clients terms) (paid p) (paid q) (Does Pass) s s o o
      (tt, step, λ link. refl)
      (did_pass clients (Does Pass) s o refl (λ link. refl) (told_pass o o refl))

  run_joins : {p q r : Place} {s s1 s' : StoreValue} {o o1 o' : Outside}
      → RunWent clients terms p q s s1 o o1 → RunWent clients terms q r s1 s' o1 o'
      → RunWent clients terms p r s s' o o'
  run_joins {p = p} {q = q} {r = r} {s = s} {s1 = s1} {s' = s'} {o = o} {o1 = o1} {o' =
      o'} first second =
      went_then clients (RunActs clients terms) (paid p) (paid q) (paid r) s s1 s' o o1 o' first
      second

  run_stops_then : {p q : Place} {s s1 : StoreValue} {o o1 : Outside}
      (links : List course_links.Link) (s' : StoreValue) (o' : Outside) (e : Fault)
      → RunWent clients terms p q s s1 o o1 → RunStopped clients terms q links s1 s' o1 o' e
      → RunStopped clients terms p links s s' o o' e
  run_stops_then {p = p} {q = q} {s = s} {s1 = s1} {o = o} {o1 = o1} links s' o' e first second =
      stopped_then clients (RunActs clients terms) (λ (x : Owing Place). x.at.links ≡ links) (paid p)
      (paid q) s s1 s' o o1 o' e first second

-- ---- one link in the run

-- the link of this number is one of a node whose first session has the number `first`
pub record InRun (first n : ℕ) (links : List Link) (l : Link) : Type 0 where
  pub at : slice_get links n ≡ Some l
  pub numbered : l.session.number ≡ first + n

module _ (clients : Meaning) (s : StoreValue) (o : Outside) {first n : ℕ} {links : List Link}
    {l : Link} (in_run : InRun first n links l) (terms : Terms) (same : terms.first ≡ first)
    (heard : ℕ → List ℕ) (moved : Bool) (still made : ℕ) where
  abbrev from_at : Doing → Place
  from_at doing = place_at (Works n doing) links heard moved still made s.state.facts

  abbrev spot_here : Doing → Spot
  spot_here doing = spot_at doing l (heard n) moved s.state.facts

  -- the same with the link as it is then
  abbrev to_at : Doing → Link → List ℕ → Bool → Facts → Place
  to_at doing l' bytes moved' f =
      place_at (Works n doing) (slice_set links n l') (heard_with n bytes heard) moved' still made f

  at_course : slice_get (links_from 0 links heard) n ≡ Some (link_at l (heard n))
  at_course =
      let plain : 0 + n ≡ n = omega arith in
      get_at 0 n links heard l in_run.at ∙ ap (λ (j : ℕ). Some (link_at l (heard j))) plain

  link_within : n < length (links_from 0 links heard)
  link_within = get_within (links_from 0 links heard) n (link_at l (heard n)) at_course

  in_terms : l.session.number ≡ terms.first + n
  in_terms = in_run.numbered ∙ ap (λ (f : ℕ). f + n) (sym same)

  set_here : (l' : Link) (bytes : List ℕ)
      → slice_set (links_from 0 links heard) n (link_at l' bytes)
      ≡ links_from 0 (slice_set links n l') (heard_with n bytes heard)
  set_here l' bytes =
      let plain : 0 + n ≡ n = omega arith in
      set_at 0 n links heard l' bytes
      ∙ ap (λ (j : ℕ). links_from 0 (slice_set links n l') (heard_with j bytes heard)) plain

  start_here : (doing : Doing) → with_spot n (spot_here doing) (from_at doing) ≡ from_at doing
  start_here doing =
      ap (λ (ls : List course_links.Link).
      place_with (Works n doing) ls moved still made s.state.facts)
      (set_same (links_from 0 links heard) n (link_at l (heard n)) at_course)

  -- a path between the spots of the link is one between the places of the run
  path_here : (doing doing' : Doing) (l' : Link) (bytes : List ℕ) (moved' : Bool) (f : Facts)
      (acts : List Act)
      → Path (LinkActs clients terms.first n) (paid (spot_here doing)) acts
      (paid (spot_at doing' l' bytes moved' f))
      → Path (RunActs clients terms) (paid (from_at doing)) acts
      (paid (to_at doing' l' bytes moved' f))
  path_here doing doing' l' bytes moved' f acts path =
      let q : Spot = spot_at doing' l' bytes moved' f in
      subst (λ (x : Place). Path (RunActs clients terms) (paid x) acts
      (paid (to_at doing' l' bytes moved' f))) (start_here doing)
      (subst (λ (ls : List course_links.Link). Path (RunActs clients terms)
      (paid (with_spot n (spot_here doing) (from_at doing))) acts
      (paid (place_with (Works n doing') ls moved' still made f))) (set_here l' bytes)
      (lift_path clients terms n (from_at doing) link_within (paid (spot_here doing)) (paid q) acts
      path))

  pub link_goes : (doing doing' : Doing) (l' : Link) (s' : StoreValue) (o' : Outside)
      (bytes : List ℕ) (moved' : Bool)
      → LinkWent clients n l.session.number (spot_here doing)
      (spot_at doing' l' bytes moved' s'.state.facts) s s' o o'
      → RunWent clients terms (from_at doing) (to_at doing' l' bytes moved' s'.state.facts) s s' o o'
  link_goes doing doing' l' s' o' bytes moved' goes =
      let went = goes terms.first in_terms in
      record {
        acts = went.acts;
        path = path_here doing doing' l' bytes moved' s'.state.facts went.acts went.path;
        did = went.did;
      }

  -- the same, with the number of batches that were committed
  link_makes : (doing doing' : Doing) (l' : Link) (s' : StoreValue) (o' : Outside)
      (bytes : List ℕ) (moved' : Bool) (count : ℕ)
      → LinkMakes clients n l.session.number (spot_here doing)
      (spot_at doing' l' bytes moved' s'.state.facts) s s' o o' count
      → RunMakes clients terms (from_at doing) (to_at doing' l' bytes moved' s'.state.facts) s s' o o'
      count
  link_makes doing doing' l' s' o' bytes moved' count makes =
      let by = makes terms.first in_terms in
      record {
        went = record {
          acts = by.went.acts;
          path = path_here doing doing' l' bytes moved' s'.state.facts by.went.acts by.went.path;
          did = by.went.did;
        };
        counts = by.counts;
      }

  pub link_stops : (doing : Doing) (l' : Link) (s' : StoreValue) (o' : Outside) (bytes : List ℕ)
      (e : Fault)
      → LinkStopped clients n l.session.number (spot_here doing) (link_at l' bytes) s s' o o' e
      → RunStopped clients terms (from_at doing)
      (links_from 0 (slice_set links n l') (heard_with n bytes heard)) s s' o o' e
  link_stops doing l' s' o' bytes e stopped =
      subst (λ (ls : List course_links.Link). RunStopped clients terms (from_at doing) ls s s' o o' e)
      (set_here l' bytes)
      (subst (λ (x : Place). RunStopped clients terms x
      (slice_set (links_from 0 links heard) n (link_at l' bytes)) s s' o o' e) (start_here doing)
      (stopped_lifted clients terms n (from_at doing) link_within (spot_here doing) (link_at l' bytes)
      s s' o o' e
      (subst (λ (k : ℕ). LinkStopped clients n k (spot_here doing) (link_at l' bytes) s s' o o' e)
      in_terms stopped)))

-- ---- all links, one after the other

pub links_none : {clients : Meaning} {first : ℕ} {links : List Link} {s : StoreValue} {o : Outside}
    → LinksWent 0 clients first links links s s o o true
links_none {clients = clients} {links = links} {s = s} {o = o} = record {
  leads = λ terms heard moved still made same read. record {
    heard' = heard;
    has_read = read;
    went =
        went_none clients (RunActs clients terms)
        (paid (place_at (Works 0 Asks) links heard moved still made s.state.facts)) s o;
  };
}

module _ {clients : Meaning} {first n : ℕ} {links0 links : List Link} {l : Link}
    {s0 s : StoreValue} {o0 o : Outside} {quiet : Bool} (in_run : InRun first n links l)
    (a : LinksWent n clients first links0 links s0 s o0 o quiet) where
  pub links_stop : {l' : Link} {s' : StoreValue} {o' : Outside} {e : Fault}
      → HearingStopped clients n l l' s s' o o' e
      → LinksStopped clients first links0 (slice_set links n l') s0 s' o0 o' e
  links_stop {l' = l'} {s' = s'} {o' = o'} {e = e} stopped = record {
    stops = λ terms heard moved still made same read.
        let so = a.leads terms heard moved still made same read in
        let halts = stopped.stops (so.heard' n) (cond quiet moved true) (so.has_read n l in_run.at) in
        let heard' : ℕ → List ℕ = heard_with n halts.0 so.heard' in (
          heard',
          run_stops_then terms (links_from 0 (slice_set links n l') heard') s' o' e so.went
              (link_stops clients s o in_run terms same so.heard' (cond quiet moved true) still made Asks l' s' o'
              halts.0 e halts.1),
        );
  }

  -- one more, by the number of the next link and whether all were still
  pub links_next : {l' : Link} {s' : StoreValue} {o' : Outside} {still_too : Bool}
      → TurnWent clients n l l' s s' o o' still_too → (k : ℕ) (all : Bool)
      → k ≡ n + 1 → all ≡ (quiet && still_too)
      → LinksWent k clients first links0 (slice_set links n l') s0 s' o0 o' all
  links_next {l' = l'} {s' = s'} {o' = o'} {still_too = still_too} turn k all more is =
      let next : suc n ≡ k = omega (arith, more) in
      subst (λ (j : ℕ). LinksWent j clients first links0 (slice_set links n l') s0 s' o0 o' all) next
      (record {
        leads = λ terms heard moved still made same read.
            let so = a.leads terms heard moved still made same read in
            let moved1 : Bool = cond quiet moved true in
            let t = turn.leads (so.heard' n) moved1 (so.has_read n l in_run.at) in
            let heard' : ℕ → List ℕ = heard_with n t.heard' so.heard' in
            let moved2 : Bool = cond still_too moved1 true in
            let done : Place =
            place_at (Works n Done) (slice_set links n l') heard' moved2 still made s'.state.facts in
            let there : slice_get (slice_set links n l') n ≡ Some l' =
            get_set links n l' (get_within links n l in_run.at) in
            record {
              heard' = heard';
              has_read = all_read n links so.heard' l l' t.heard' in_run.at so.has_read t.has_read;
              went =
                  subst (λ (b : Bool). RunWent clients terms
                  (place_at (Works 0 Asks) links0 heard moved still made s0.state.facts)
                  (place_at (Works (suc n) Asks) (slice_set links n l') heard' b still made
                  s'.state.facts) s0 s' o0 o')
                  (and_cond quiet still_too moved ∙ ap (λ (b : Bool). cond b moved true) (sym is))
                  (run_joins terms so.went
                  (run_joins terms
                  (link_goes clients s o in_run terms same so.heard' moved1 still made Asks Done l' s' o' t.heard'
                  moved2 t.went)
                  (run_passes terms
                  (next_step clients terms n (link_at l' (heard' (0 + n))) done refl
                  (get_at 0 n (slice_set links n l') heard' l' there)))));
            };
      })

-- ---- a whole turn

-- a turn begins
round_begun : (clients : Meaning) (terms : Terms) (links : List Link) (s : StoreValue) (o : Outside)
    (heard : ℕ → List ℕ) (moved : Bool) (still made : ℕ)
    → is_at_end terms (place_at Between links heard moved still made s.state.facts) ≡ false
    → RunWent clients terms (place_at Between links heard moved still made s.state.facts)
    (place_at (Works 0 Asks) links heard false still made s.state.facts) s s o o
round_begun clients terms links s o heard moved still made on =
    let from : Place = place_at Between links heard moved still made s.state.facts in
    run_passes terms (begin_step clients terms from refl on)

pub round_went : {clients : Meaning} {first n : ℕ} {links mid links' : List Link}
    {s s' : StoreValue} {o o' : Outside} {quiet : Bool} → n ≡ length mid
    → LinksWent n clients first links mid s s' o o' quiet → ClosesSome mid links'
    → ((heard : ℕ → List ℕ) → links_from 0 links' heard ≡ without_redundant (links_from 0 mid heard))
    → RoundWent clients first links links' s s' o o' quiet
round_went {clients = clients} {n = n} {links = links} {mid = mid} {links' = links'} {s = s} {s' =
    s'} {o = o} {o' = o'} {quiet = quiet} all turns closes exact = record {
      leads = λ terms heard moved still made same read on.
          let so = turns.leads terms heard false still made same read in
          let last : Place =
          place_at (Works n Asks) mid so.heard' (cond quiet false true) still made s'.state.facts in
          record {
            heard' = so.heard';
            has_read = closed_read mid links' so.heard' closes so.has_read;
            went =
                run_joins terms (round_begun clients terms links s o heard moved still made on)
                (run_joins terms so.went
                (subst (λ (q : Place). RunWent clients terms last q s' s' o' o')
                (ended_at quiet (sym (exact so.heard')) still made s'.state.facts)
                (run_passes terms
                (end_step clients terms last
                (ap (λ (k : ℕ). Works k Asks) (all ∙ sym (length_from 0 mid so.heard')))))));
          };
    }
  where
    -- the place behind the last link, once the redundant ones are closed
    ended_at : (still_all : Bool) {closed to : List course_links.Link} → closed ≡ to
        → (still made : ℕ) (f : Facts)
        → place_with Between closed (cond still_all false true)
        (cond (cond still_all false true) 0 (suc still)) (suc made) f
        ≡ place_with Between to (not still_all) (cond still_all (suc still) 0) (suc made) f
    ended_at true is still made f =
        ap (λ (ls : List course_links.Link). place_with Between ls false (suc still) (suc made) f) is
    ended_at false is still made f =
        ap (λ (ls : List course_links.Link). place_with Between ls true 0 (suc made) f) is

pub round_stopped : {clients : Meaning} {first : ℕ} {links links' : List Link} {s s' : StoreValue}
    {o o' : Outside} {e : Fault} → LinksStopped clients first links links' s s' o o' e
    → RoundStopped clients first links links' s s' o o' e
round_stopped {clients = clients} {links = links} {links' = links'} {s = s} {s' = s'} {o = o} {o' =
    o'} {e = e} stopped = record {
      stops = λ terms heard moved still made same read on.
          let halts = stopped.stops terms heard false still made same read in (
            halts.0,
            run_stops_then terms (links_from 0 links' halts.0) s' o' e
                (round_begun clients terms links s o heard moved still made on) halts.1,
          );
    }

-- ---- one call on a link

module _ {clients : Meaning} {first n : ℕ} {links : List Link} {l : Link} {s : StoreValue}
    {o : Outside} (in_run : InRun first n links l) where
  -- it was asked once
  pub asking_went : {l' : Link} {s' : StoreValue} {o' : Outside} {idle : Bool}
      → HearingWent clients n l l' s s' o o' idle
      → AskingWent clients first n links (slice_set links n l') s s' o o' idle
  asking_went {l' = l'} {s' = s'} {o' = o'} {idle = idle} hears = record {
    leads = λ terms heard moved still made same read.
        let to = hears.leads (heard n) moved (read n l in_run.at) in
        record {
          heard' = heard_with n to.heard' heard;
          doing = to.doing;
          has_read = all_read n links heard l l' to.heard' in_run.at read to.has_read;
          ready = λ x there.
              let both : Some l' ≡ Some x =
              sym (get_set links n l' (get_within links n l in_run.at)) ∙ there in
              let is : l' ≡ x = cc in
              subst (IsReadyToSend to.doing) is to.ready;
          went =
              link_goes clients s o in_run terms same heard moved still made Asks to.doing l' s' o' to.heard'
              (cond idle moved true) to.went;
        };
  }

  pub asking_stopped : {l' : Link} {s' : StoreValue} {o' : Outside} {e : Fault}
      → HearingStopped clients n l l' s s' o o' e
      → AskingStopped clients first n links (slice_set links n l') s s' o o' e
  asking_stopped {l' = l'} {s' = s'} {o' = o'} {e = e} stopped = record {
    stops = λ terms heard moved still made same read.
        let halts = stopped.stops (heard n) moved (read n l in_run.at) in (
          heard_with n halts.0 heard,
          link_stops clients s o in_run terms same heard moved still made Asks l' s' o' halts.0 e halts.1,
        );
  }

  -- what is due on it was sent
  pub outs_sent : {now : ℕ} {l' : Link} {s' : StoreValue} {o' : Outside} {outs : ℕ}
      → DueWent now clients n l l' s s' o o' outs
      → OutsSent clients first n now links (slice_set links n l') s s' o o' outs
  outs_sent {now = now} {l' = l'} {s' = s'} {o' = o'} {outs = outs} due = record {
    has_read = λ heard read i x there.
        subst (λ (bytes : List ℕ). IsLinkRead bytes x) (same_cond i n heard)
        (all_read n links heard l l' (heard n) in_run.at read
        (still_so (HasRead (heard n)) l l' due.sent (read n l in_run.at)) i x there);
    makes = λ terms heard moved still made same.
        let moved' : Bool = cond (nat_lt 0 outs) true moved in
        subst (λ (ls : List course_links.Link). RunMakes clients terms
        (place_at (Works n (Sends now MAX_OUTPUTS)) links heard moved still made s.state.facts)
        (place_with (Works n Done) ls moved' still made s'.state.facts) s s' o o' outs)
        (same_heard 0 n (slice_set links n l') heard)
        (link_makes clients s o in_run terms same heard moved still made (Sends now MAX_OUTPUTS) Done l' s' o'
        (heard n) moved' outs (due.makes (heard n) moved));
  }

  pub outs_stopped : {now : ℕ} {l' : Link} {s' : StoreValue} {o' : Outside} {e : Fault}
      → DueStopped now clients n l l' s s' o o' e
      → OutsStopped clients first n now links (slice_set links n l') s s' o o' e
  outs_stopped {now = now} {l' = l'} {s' = s'} {o' = o'} {e = e} stopped = record {
    stops = λ terms heard moved still made same.
        subst (λ (ls : List course_links.Link). RunStopped clients terms
        (place_at (Works n (Sends now MAX_OUTPUTS)) links heard moved still made s.state.facts) ls
        s s' o o' e)
        (same_heard 0 n (slice_set links n l') heard)
        (link_stops clients s o in_run terms same heard moved still made (Sends now MAX_OUTPUTS) l' s' o'
        (heard n) e (stopped.stops (heard n) moved));
  }
