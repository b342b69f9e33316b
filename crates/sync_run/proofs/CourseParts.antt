-- The sessions of a run that begin one after another, and its turns.
use Rattle.std.proofs.Common.{◌≡◌, ℕ, suc, ◌+◌, ◌<◌, Bool, true, false, cond, ◌||◌, List, []}
use Rattle.std.proofs.Common.{◌∷◌, drop, get_or, length, refl, sym, ◌∙◌, ap, subst, arith, None}
use Rattle.std.proofs.Common.{Some, is_some, Result, Ok, Err, add-one, drop-cons}
use Rattle.std.specs.Prelude.{map, nat_le, nat_lt, not, slice_get, IfErr, IsErrAnd}
use Rattle.std.proofs.lemmas.Bool.{lt-leb, lt-ltb}
use Rattle.outside.specs.Files.{Two, File}
use Rattle.outside.specs.Outside.{Outside}
use Rattle.sync_rules.specs.declared.entries.Session.{Session}
use Rattle.sync_rules.specs.Clients.{Meaning}
use Rattle.sync_rules.specs.Facts.{Facts, session_at}
use Rattle.sync_rules.specs.Steps.{IsSettled}
use Rattle.sync_store.specs.Store.{StoreValue}
use Rattle.sync_course.specs.Acts.{Does}
use Rattle.sync_course.specs.Closing.{Closing, closing}
use Rattle.sync_course.specs.Events.{Pass}
use Rattle.sync_course.specs.LinkTurns.{Asks}
use Rattle.sync_course.specs.Owing.{Owing, paid}
use Rattle.sync_course.specs.Links as course_links
use Rattle.sync_course.proofs.ToldLaws.{told_pass}
use Rattle.sync_course.specs.Turns.{Attaches, Between, Ended, Place, RunStep, Stage, Terms, Works}
use Rattle.sync_course.specs.Turns.{is_at_end, is_over, over_by, some_going}
use Rattle.sync_node.specs.declared.link.Link.{Link}
use Rattle.sync_course.specs.declared.ends.LinkEnd.{LinkEnd}
use Rattle.sync_course.specs.declared.ends.LinkEnd.TheVariants as link_end
use Rattle.sync_course.specs.Links.{is_going}
use Rattle.sync_node.specs.Courses.{AllRead, links_from, place_at}
use Rattle.sync_node.specs.OnRuns.{BeginStopped, BeginWent, ByFault, RoundStopped, RoundWent}
use Rattle.sync_node.specs.OnRuns.{RunActs, RunStopped, RunWent}
use Rattle.sync_node.specs.declared.fault.NodeFault.{NodeFault}
use Rattle.sync_node.specs.declared.fault.NodeFault.TheVariants as node_fault
use Rattle.sync_node.proofs.CourseLaws.{told_as}
use Rattle.sync_node.proofs.PrimLaws.{did_pass}
use Rattle.sync_node.proofs.WentLaws.{stopped_then, went_none, went_one, went_then}
use Rattle.sync_node.specs.Node.{IsNode, NodeValue, asked_among}
use Rattle.sync_node.specs.Plans.{session_of}
use Rattle.sync_run.specs.declared.dialling.Dialled.{Dialled}
use Rattle.sync_run.specs.declared.run.Limits.{Limits}
use Rattle.sync_run.specs.Courses.{terms_at}
use Rattle.sync_run.specs.Parts.{EndsFrom, RunsSessions, SessionsBegin, StopsFrom, StopsRun}
use Rattle.sync_run.specs.Parts.{before_links, before_turns, closed_by, silent}
use Rattle.sync_run.specs.Plans.{sessions_from}

-- what is said of the error of a call, of that which goes on by `?`
pub if_err_was : {T E : Type 0} (r : Result T E) (x : E) (P : E → Type 0) → IsErrAnd r (λ y. y ≡ x)
    → P x → IfErr r P
if_err_was (Ok t) x P is p = tt
if_err_was (Err e) x P is p = subst P (sym is) p

-- by what a node answers, of each fault
by_fault_map : (P Q : _ → Type 0) → ((e : _) → P e → Q e) → (x : NodeFault) → ByFault P x
    → ByFault Q x
by_fault_map P Q then node_fault.Memory p = then _ p
by_fault_map P Q then node_fault.DiskFault p = then _ p
by_fault_map P Q then node_fault.Full p = then _ p
by_fault_map P Q then node_fault.Closed p = p

-- a place that is told of nothing
passes : (clients : Meaning) (terms : Terms) (p q : Place) (s : StoreValue) (o : Outside)
    → RunStep clients terms p Pass q → RunWent clients terms p q s s o o
passes clients terms p q s o steps =
    went_one clients (RunActs clients terms) (paid p) (paid q) (Does Pass) s s o o
    (tt, steps, λ link. refl)
    (did_pass clients (Does Pass) s o refl (λ link. refl) (told_pass o o refl))

-- a run stopped behind what was done, by what the call that stopped says of each fault
stops_then : (clients : Meaning) (terms : Terms) (p q : Place) (s0 s s' : StoreValue)
    (o0 o o' : Outside) (P : _ → Type 0) (x : NodeFault) → RunWent clients terms p q s0 s o0 o
    → ((e : _) → P e
    → (links : List course_links.Link) × RunStopped clients terms q links s s' o o' e)
    → ByFault P x → StopsFrom clients terms p s0 s' o0 o' x
stops_then clients terms p q s0 s s' o0 o o' P x first stops =
    by_fault_map P
    (λ e. (links : List course_links.Link) × RunStopped clients terms p links s0 s' o0 o' e)
    (λ e said.
    let stopped = stops e said in (
      stopped.0,
      stopped_then clients (RunActs clients terms) (λ (y : Owing Place). y.at.links ≡ stopped.0)
          (paid p) (paid q) s0 s s' o0 o o' e first stopped.1,
    )) x

-- ---- the sessions begin

-- a node without links
pub is_node_without : (n : NodeValue) → n.links ≡ [] → n.store.state.facts.begun ≡ n.first
    → IsNode n
is_node_without n none number =
    let empty : length n.links ≡ 0 = ap (λ (ls : List Link). length ls) none in
    record {
      few = omega (arith, empty);
      attached = λ opened. record {
        begun = omega (arith, number, empty);
        each = λ i l at.
            let no : slice_get [] i ≡ Some l =
            subst (λ (ls : List Link). slice_get ls i ≡ Some l) none at in
            cc;
      };
    }

pub no_session_yet : (clients : Meaning) (dialled : List Dialled) (n : NodeValue) (o : Outside)
    → n.links ≡ [] → IsSettled clients n.store.state.facts
    → SessionsBegin clients dialled (sessions_from n.store.state.facts.begun dialled) n n o o
no_session_yet clients dialled n o none settled = record {
  same_told = refl;
  has_read = subst (AllRead silent) (sym none) (λ i l at. cc);
  went = λ two files limits.
      let terms : Terms = terms_at limits n.first in
      let from : Place = before_links dialled n.store.state.facts in
      let at : List Link → Place =
      λ links. place_at (Attaches (sessions_from n.store.state.facts.begun dialled)) links silent
      false 0 0 n.store.state.facts in
      subst (λ (links : List Link). RunWent clients terms from (at links) n.store n.store o o)
      (sym none) (passes clients terms from (at []) n.store o (settled, refl));
}

-- the links left, of which this is the next
drop_next : (links : List Dialled) (i : ℕ) (d : Dialled) → i < length links → d ≡ get_or links i d
    → drop i links ≡ d ∷ drop (i + 1) links
drop_next links i d within is =
    rw (add-one, drop-cons links i d) (ap (λ (x : Dialled). x ∷ drop (suc i) links) (sym is))

-- the loop over the links, at the next one
module _ (clients : Meaning) (dialled : List Dialled) (i : ℕ) (d : Dialled)
    (n0 n n' : NodeValue) (o0 o o' : Outside)
    (numbered : n.store.state.facts.begun ≡ n0.first + length n.links)
    (within : i < length dialled) (is : d ≡ get_or dialled i d)
    (so : SessionsBegin clients dialled
    (sessions_from n.store.state.facts.begun (drop i dialled)) n0 n o0 o) where
  abbrev session : Session
  session = session_of n.store.state.facts.begun d.plan d.nonce

  abbrev left : List Session
  left = sessions_from (suc n.store.state.facts.begun) (drop (i + 1) dialled)

  so_next : SessionsBegin clients dialled (session ∷ left) n0 n o0 o
  so_next =
      subst (λ (ds : List Dialled).
      SessionsBegin clients dialled (sessions_from n.store.state.facts.begun ds) n0 n o0 o)
      (drop_next dialled i d within is) so

  pub attached_more : ((two : Two File) → o.files ≡ Some two
      → session_at n.store.state.facts.sessions n.store.state.facts.begun ≡ None)
      → is_some o'.files ≡ is_some o.files
      → BeginWent clients session n.links n'.links n.store n'.store o o'
      → SessionsBegin clients dialled
      (sessions_from n'.store.state.facts.begun (drop (i + 1) dialled)) n0 n' o0 o'
  attached_more free told begins =
      let more : suc n.store.state.facts.begun ≡ n'.store.state.facts.begun =
      omega (arith, ap (λ (f : Facts). f.begun) begins.facts) in
      subst (λ (k : ℕ). SessionsBegin clients dialled (sessions_from k (drop (i + 1) dialled))
      n0 n' o0 o') more (record {
        same_told = told ∙ so.same_told;
        has_read = begins.has_read silent refl so.has_read;
        went = λ two files limits.
            let there = told_as o0.files o.files two so.same_told files in
            let terms : Terms = terms_at limits n0.first in
            went_then clients (RunActs clients terms) _ _ _ n0.store n.store n'.store o0 o o'
            (so_next.went two files limits)
            (begins.went (free there.0 there.1) terms left silent false 0 0 refl numbered);
      })

  pub attaching_stopped : (x : NodeFault)
      → ByFault (BeginStopped clients session n.links n'.links n.store n'.store o o') x
      → (limits : Limits) → StopsRun clients limits dialled n0 n' o0 o' x
  attaching_stopped x stopped limits = record {
    stops = λ two files.
        let terms : Terms = terms_at limits n0.first in
        let here : Place =
        place_at (Attaches (session ∷ left)) n.links silent false 0 0 n.store.state.facts in
        stops_then clients terms _ here n0.store n.store n'.store o0 o o'
        (BeginStopped clients session n.links n'.links n.store n'.store o o') x
        (so_next.went two files limits)
        (λ e begins. (links_from 0 n'.links silent, begins.stops terms left silent false 0 0))
        stopped;
  }

-- ---- which links are asked

going_same : (e : LinkEnd) → course_links.is_going e ≡ is_going e
going_same link_end.Going = refl
going_same _ = refl

some_asked : (k : ℕ) (links : List Link) (heard : ℕ → List ℕ)
    → some_going (links_from k links heard) ≡ nat_lt 0 (asked_among links)
some_asked k [] heard = refl
some_asked k (x ∷ links) heard =
    ap (λ (b : Bool). b || some_going (links_from (suc k) links heard)) (going_same x.end)
    ∙ ap (λ (b : Bool). is_going x.end || b) (some_asked (suc k) links heard)
    ∙ by_end (is_going x.end)
  where
    by_end : (b : Bool)
        → (b || nat_lt 0 (asked_among links)) ≡ nat_lt 0 (cond b 1 0 + asked_among links)
    by_end true = sym (lt-ltb 0 (1 + asked_among links) (omega arith))
    by_end false =
        let none : asked_among links ≡ 0 + asked_among links = omega arith in
        ap (λ (n : ℕ). nat_lt 0 n) none

over_here : (quiet : ℕ) (stage : Stage) (links : List Link) (heard : ℕ → List ℕ) (moved : Bool)
    (still made : ℕ) (f : Facts)
    → is_over quiet (place_at stage links heard moved still made f)
    ≡ over_by quiet still (nat_lt 0 (asked_among links))
over_here quiet stage links heard moved still made f =
    ap (λ (b : Bool). over_by quiet still b) (some_asked 0 links heard)

-- ---- how the links close

-- whatever was heard
ends_from : (k : ℕ) (links : List Link) (heard : ℕ → List ℕ)
    → map (λ (l : Link). l.end) links
    ≡ map (λ (l : course_links.Link). l.stands) (links_from k links heard)
ends_from k [] heard = refl
ends_from k (x ∷ links) heard =
    ap (λ (es : List LinkEnd). x.end ∷ es) (ends_from (suc k) links heard)

-- the links of a node close the place of a course that has them
pub links_close : (over : Bool) (quiet : ℕ) (links : List Link) (p : Place) (heard : ℕ → List ℕ)
    → p.links ≡ links_from 0 links heard → over ≡ is_over quiet p
    → closed_by over links ≡ closing quiet p
links_close over quiet links p heard are is =
    let of : Bool → List LinkEnd → Closing = λ b ends. record { over = b; ends = ends } in
    let ends : map (λ (l : Link). l.end) links ≡ map (λ (l : course_links.Link). l.stands) p.links =
    ends_from 0 links heard
    ∙ sym (ap (map (λ (l : course_links.Link). l.stands)) are) in
    ap (of over) ends
    ∙ ap (λ (b : Bool). of b (map (λ (l : course_links.Link). l.stands) p.links)) is

-- ---- the turns are made

-- whether the run is over, as the code asks
pub over_asked : (r : Bool) (q quiet still asked n : ℕ) → r ≡ over_by q still (nat_lt 0 asked)
    → q ≡ quiet → asked ≡ n → r ≡ over_by quiet still (nat_lt 0 n)
over_asked r q quiet still asked n is same_quiet same_asked =
    is ∙ ap (λ (k : ℕ). over_by k still (nat_lt 0 asked)) same_quiet
    ∙ ap (λ (k : ℕ). over_by quiet still (nat_lt 0 k)) same_asked

-- so many turns were made, of which so many last ones were still
pub record TurnsSoFar (clients : Meaning) (limits : Limits) (n n' : NodeValue) (o o' : Outside)
    (still made : ℕ) : Type 0 where
  pub heard : ℕ → List ℕ
  pub moved : Bool
  pub has_read : AllRead heard n'.links
  pub went : RunWent clients (terms_at limits n.first) (before_turns n.links n.store.state.facts)
      (place_at Between n'.links heard moved still made n'.store.state.facts) n.store n'.store o o'

pub no_turn_yet : (clients : Meaning) (limits : Limits) (n : NodeValue) (o : Outside)
    → AllRead silent n.links → TurnsSoFar clients limits n n o o 0 0
no_turn_yet clients limits n o read = record {
  heard = silent;
  moved = false;
  has_read = read;
  went =
      went_none clients (RunActs clients (terms_at limits n.first))
      (paid (before_turns n.links n.store.state.facts)) n.store o;
}

module _ (clients : Meaning) (limits : Limits) (n0 n : NodeValue) (o0 o : Outside)
    (still made : ℕ)
    (so : TurnsSoFar clients limits n0 n o0 o still made) where
  abbrev terms : Terms
  terms = terms_at limits n0.first

  abbrev place : Place
  place = place_at Between n.links so.heard so.moved still made n.store.state.facts

  module _ (going : over_by limits.quiet still (nat_lt 0 (asked_among n.links)) ≡ false)
      (left : made < limits.turns) (same : n.first ≡ n0.first) (n' : NodeValue)
      (o' : Outside) where
    not_at_end : is_at_end terms place ≡ false
    not_at_end =
        ap (λ (b : Bool). b || nat_le limits.turns made)
        (over_here limits.quiet Between n.links so.heard so.moved still made n.store.state.facts
        ∙ going)
        ∙ lt-leb limits.turns made left

    pub turn_more : (quiet : Bool) (still' : ℕ) → still' ≡ cond quiet (still + 1) 0
        → RoundWent clients n.first n.links n'.links n.store n'.store o o' quiet
        → TurnsSoFar clients limits n0 n' o0 o' still' (made + 1)
    turn_more quiet still' is_still turn =
        let t = turn.leads terms so.heard so.moved still made (sym same) so.has_read not_at_end in
        record {
          heard = t.heard';
          moved = not quiet;
          has_read = t.has_read;
          went =
              subst (λ (k : ℕ). RunWent clients terms (before_turns n0.links n0.store.state.facts)
              (place_at Between n'.links t.heard' (not quiet) k (made + 1) n'.store.state.facts)
              n0.store n'.store o0 o') (sym is_still)
              (went_then clients (RunActs clients terms) _ (paid place) _ n0.store n.store n'.store
              o0 o o' so.went (rw (add-one, add-one) t.went));
        }

    pub turn_stopped : (x : NodeFault)
        → ByFault (RoundStopped clients n.first n.links n'.links n.store n'.store o o') x
        → StopsFrom clients terms (before_turns n0.links n0.store.state.facts) n0.store n'.store
        o0 o' x
    turn_stopped x stopped =
        stops_then clients terms _ place n0.store n.store n'.store o0 o o'
        (RoundStopped clients n.first n.links n'.links n.store n'.store o o') x so.went
        (λ e round.
        let t = round.stops terms so.heard so.moved still made (sym same) so.has_read not_at_end in
        (links_from 0 n'.links t.0, t.1)) stopped

  pub turns_end : (over : Bool) → over ≡ over_by limits.quiet still (nat_lt 0 (asked_among n.links))
      → (over || nat_le limits.turns made) ≡ true
      → EndsFrom clients limits (before_turns n0.links n0.store.state.facts) n0 n o0 o over
  turns_end over is at_end =
      let is_over_at : (stage : Stage)
      → is_over limits.quiet
      (place_at stage n.links so.heard so.moved still made n.store.state.facts) ≡ over =
      λ stage.
      over_here limits.quiet stage n.links so.heard so.moved still made n.store.state.facts
      ∙ sym is in
      let last : Place =
      place_at Ended n.links so.heard so.moved still made n.store.state.facts in
      let ended : is_at_end terms place ≡ true =
      ap (λ (b : Bool). b || nat_le limits.turns made) (is_over_at Between) ∙ at_end in
      record {
        heard = so.heard;
        moved = so.moved;
        still = still;
        made = made;
        went =
            went_then clients (RunActs clients terms) _ (paid place) (paid last) n0.store n.store
            n.store o0 o o so.went
            (passes clients terms place last n.store o
            (ap (λ (b : Bool). cond b last (record place { stage = Works 0 Asks; moved = false }))
            (sym ended)));
        is_so = sym (is_over_at Ended);
      }

-- ---- both

module _ (clients : Meaning) (limits : Limits) (dialled : List Dialled) (n0 n n' : NodeValue)
    (o0 o o' : Outside) (same : n.first ≡ n0.first)
    (begins : SessionsBegin clients dialled [] n0 n o0 o) where
  abbrev terms_here : Terms
  terms_here = terms_at limits n0.first

  abbrev first_turn : Place
  first_turn = before_turns n.links n.store.state.facts

  -- all sessions began, and the turns are next
  all_begun : (two : Two File) → o0.files ≡ Some two
      → RunWent clients terms_here (before_links dialled n0.store.state.facts) first_turn n0.store
      n.store o0 o
  all_begun two files =
      let place : Place = record first_turn { stage = Attaches [] } in
      went_then clients (RunActs clients terms_here) _ (paid place) (paid first_turn) n0.store
      n.store n.store o0 o o (begins.went two files limits)
      (passes clients terms_here place first_turn n.store o refl)

  pub run_ends : (over : Bool) → EndsFrom clients limits first_turn n n' o o' over
      → RunsSessions clients limits dialled n0 n' o0 o' over
  run_ends over end = record {
    ends = λ two files.
        let last : Place =
        place_at Ended n'.links end.heard end.moved end.still end.made n'.store.state.facts in
        record {
          heard = end.heard;
          moved = end.moved;
          still = end.still;
          made = end.made;
          went =
              went_then clients (RunActs clients terms_here) _ (paid first_turn) (paid last)
              n0.store n.store n'.store o0 o o' (all_begun two files)
              (subst (λ (k : ℕ). RunWent clients (terms_at limits k) first_turn last n.store
              n'.store o o') same end.went);
          is_so = end.is_so;
        };
  }

  pub run_stopped : (x : NodeFault)
      → StopsFrom clients (terms_at limits n.first) first_turn n.store n'.store o o' x
      → StopsRun clients limits dialled n0 n' o0 o' x
  run_stopped x stopped = record {
    stops = λ two files.
        stops_then clients terms_here _ first_turn n0.store n.store n'.store o0 o o'
        (λ e. (links : List course_links.Link)
        × RunStopped clients terms_here first_turn links n.store n'.store o o' e) x
        (all_begun two files) (λ e here. here)
        (subst (λ (k : ℕ). StopsFrom clients (terms_at limits k) first_turn n.store n'.store o o'
        x) same stopped);
  }
