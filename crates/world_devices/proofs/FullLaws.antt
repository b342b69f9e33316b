-- Where a batch has no room: each link that has not failed by then has sent all output of its session.
use Rattle.std.specs.Prelude.{◌≢◌}
use Rattle.std.proofs.lemmas.Bool.{cases_Bool, false≢true}
use Rattle.std.proofs.Common.{◌≡◌, ℕ, zero, suc, ◌+◌, false, List, [], ◌∷◌, ◌++◌, refl, sym}
use Rattle.std.proofs.Common.{ap, ◌∙◌, subst, inl, inr, append_assoc, Option, Some}
use Rattle.std.specs.Prelude.{slice_get}
use Rattle.outside.specs.HostTold.{host_told}
use Rattle.outside.specs.MemDisk.{disk_files, files_of}
use Rattle.outside.specs.MemHost.{MemHostValue}
use Rattle.outside.specs.Outside.{Outside}
use Rattle.client_basic.specs.Bodies.{bundle_meaning}
use Rattle.record_grammar.specs.Spelling.{spelled}
use Rattle.sync_rules.specs.declared.entries.Entry.{Entry}
use Rattle.sync_rules.specs.Facts.{Journal, facts}
use Rattle.sync_rules.specs.Output.{sent}
use Rattle.sync_store.specs.Fitting.{FitsFiles}
use Rattle.sync_store.specs.Store.{StoreValue}
use Rattle.sync_course.specs.Acts.{Act, batches_in, events_of, sends_on}
use Rattle.sync_course.specs.Events.{AreQuietEvents, Break, Commit, Event, Hear, IsQuietEvent, Miss, Pass, Read, has_failure, is_failure}
use Rattle.sync_course.specs.Free.{Free, FreeStep, forget, owing_free}
use Rattle.sync_course.specs.Links as course_links
use Rattle.sync_course.specs.Owing.{Owing, paid}
use Rattle.sync_course.specs.Paths.{Path}
use Rattle.sync_course.specs.Story.{AllIsSent, FreeActs, LinkFailed}
use Rattle.sync_course.specs.Turns.{Attaches, Between, Place, RunStep, Terms}
use Rattle.sync_course.specs.declared.ends.LinkEnd.TheVariants as link_end
use Rattle.sync_course.proofs.ActLaws.{batches_in-append, quiet_events, sends_on-append}
use Rattle.sync_course.proofs.FailLaws.{HoldsOpen, free_fails}
use Rattle.sync_course.proofs.FreeLaws.{run_acts_are_free}
use Rattle.sync_course.proofs.SendLaws.{all_sent, events_path}
use Rattle.sync_node.specs.Courses.{links_from, place_at}
use Rattle.sync_node.specs.Fulls.{RunFull}
use Rattle.sync_node.specs.Node.{NodeValue}
use Rattle.sync_node.specs.OnRuns.{RunActs}
use Rattle.sync_node.specs.Output.{heard_on, output, sent_on}
use Rattle.sync_node.specs.Went.{StopsFull}
use Rattle.sync_node.specs.declared.fault.NodeFault.TheVariants as node_fault
use Rattle.sync_node.specs.declared.link.Link.{Link}
use Rattle.sync_node.specs.declared.node.Plan.{Plan}
use Rattle.sync_node.proofs.EventLaws.{runs_of}
use Rattle.world_devices.specs.Cited.{DeviceLaws}
use Rattle.world_devices.specs.Doing.{FullAtBeginning, FullInTurn, FullSent, next_session}
use Rattle.world_devices.proofs.HostLaws.{told_host}
use Rattle.world_devices.specs.Keeping.{IsRunSoFar, node_place}
use Rattle.world_devices.proofs.KeepLaws.{fits_whole}
use Rattle.world_devices.proofs.RunLaws.{BeginStops, TurnStops, acts_fail, begin_from, free_path}
use Rattle.world_devices.proofs.RunLaws.{node_failed, node_terms, turn_from, whole_path}

-- ---- a place at which a batch has no room

abbrev StopsAt : Terms → Place → List course_links.Link → StoreValue → StoreValue → Outside → Outside → Type 0
StopsAt terms p links s s' o o' = StopsFull bundle_meaning (RunActs bundle_meaning terms) (λ (q : Owing Place). q.at.links ≡ links) (paid p) s s' o o'

full_there : (terms : Terms) (p : Place) (links : List course_links.Link) (s s' : StoreValue) (o o' : Outside) → StopsAt terms p links s s' o o' → RunFull bundle_meaning terms p s s' o o'
full_there terms p links s s' o o' stops = record {
  to = stops.to.at;
  runs = runs_of bundle_meaning (λ (x : Place). x.facts) terms.first (RunStep bundle_meaning terms) (paid p) stops.to s s' o o' stops.went;
  batch = stops.batch;
  next = stops.next.at;
  steps = stops.steps.1;
  over = stops.over;
}

-- the link in hand is open all along a path
stays_open : (first : ℕ) (p q : Free) (es : List Event) → Path (FreeStep bundle_meaning first) p es q → HoldsOpen p.hold p.links → HoldsOpen q.hold q.links
stays_open first p q [] path opens = subst (λ (x : Free). HoldsOpen x.hold x.links) (sym path) opens
stays_open first p q (e ∷ es) path opens = stays_open first path.0 q es path.2 (free_fails bundle_meaning first p path.0 e path.1 opens).opens

-- quiet events fail no link
failed_on : (first : ℕ) (es : List Event) (p q : Free) → AreQuietEvents es
    → Path (FreeStep bundle_meaning first) p es q → HoldsOpen p.hold p.links → (i : ℕ)
    → LinkFailed p.links i → LinkFailed q.links i
failed_on first [] p q quiet path opens i failed =
    subst (λ (x : Free). LinkFailed x.links i) (sym path) failed
failed_on first (e ∷ es) p q quiet path opens i failed =
    let one = free_fails bundle_meaning first p path.0 e path.1 opens in
    failed_on first es path.0 q quiet.1 path.2 one.opens i (one.by.stays i failed)

no_failure : (i : ℕ) (e : Event) → IsQuietEvent e → is_failure i e ≡ false
no_failure i (Commit b) quiet = refl
no_failure i Pass quiet = refl
no_failure i (Hear link reply) quiet = absurd quiet
no_failure i (Miss link) quiet = absurd quiet
no_failure i (Read link now) quiet = absurd quiet
no_failure i (Break link) quiet = absurd quiet

failed_before : (first : ℕ) (es : List Event) (p q : Free) → AreQuietEvents es
    → Path (FreeStep bundle_meaning first) p es q → HoldsOpen p.hold p.links → (i : ℕ)
    → LinkFailed q.links i → LinkFailed p.links i
failed_before first [] p q quiet path opens i failed =
    subst (λ (x : Free). LinkFailed x.links i) path failed
failed_before first (e ∷ es) p q quiet path opens i failed =
    let one = free_fails bundle_meaning first p path.0 e path.1 opens in
    elim (one.by.cause i (failed_before first es path.0 q quiet.1 path.2 one.opens i failed)) [
      | inl was ↦ was
      | inr is ↦ absurd (false≢true (sym (no_failure i e quiet.0) ∙ is))
    ]

-- the links of a node that failed are those that stand Failed there
module _ (terms : Terms) (p : Place) (links : List Link) (heard : ℕ → List ℕ) (s s' : StoreValue) (o o' : Outside) (stops : StopsAt terms p (links_from 0 links heard) s s' o o')
    (opens : HoldsOpen (forget p).hold (forget p).links) where
  opens_there : HoldsOpen (forget stops.to.at).hold (forget stops.to.at).links
  opens_there =
      stays_open terms.first (forget p) (forget stops.to.at) (events_of stops.went.acts)
      (events_path bundle_meaning terms.first (paid (forget p)) (owing_free stops.to) stops.went.acts (run_acts_are_free bundle_meaning terms (paid p) stops.to stops.went.acts stops.went.path))
      opens

  -- the quiet acts behind which the links stand as those of the node
  soon_path : Path (FreeStep bundle_meaning terms.first) (forget stops.to.at)
      (events_of stops.stands.acts) (forget stops.stands.next.at)
  soon_path =
      events_path bundle_meaning terms.first (owing_free stops.to) (owing_free stops.stands.next)
      stops.stands.acts
      (run_acts_are_free bundle_meaning terms stops.to stops.stands.next stops.stands.acts
      stops.stands.path)

  soon_quiet : AreQuietEvents (events_of stops.stands.acts)
  soon_quiet = quiet_events stops.stands.acts stops.stands.quiet

  fails_then : (i : ℕ) → LinkFailed stops.to.at.links i → LinkFailed (links_from 0 links heard) i
  fails_then i failed =
      subst (λ (ls : List course_links.Link). LinkFailed ls i) stops.stands.has
      (failed_on terms.first (events_of stops.stands.acts) (forget stops.to.at)
      (forget stops.stands.next.at) soon_quiet soon_path opens_there i failed)

  failed_there : (i : ℕ) → LinkFailed (links_from 0 links heard) i → LinkFailed stops.to.at.links i
  failed_there i failed =
      failed_before terms.first (events_of stops.stands.acts) (forget stops.to.at)
      (forget stops.stands.next.at) soon_quiet soon_path opens_there i
      (subst (λ (ls : List course_links.Link). LinkFailed ls i) (sym stops.stands.has) failed)

failed_from : (k i : ℕ) (links : List Link) (heard : ℕ → List ℕ) (l : Link) → slice_get links i ≡ Some l → l.end ≡ link_end.Failed → LinkFailed (links_from k links heard) i
failed_from k i [] heard l at failed = cc
failed_from k zero (x ∷ links) heard l at failed =
    let same : x ≡ l = cc in
    record { link = record { contact = x.session.contact; nonce = x.nonce; heard = heard k; stands = x.end }; there = refl; failed = ap (λ (y : Link). y.end) same ∙ failed }
failed_from k (suc i) (x ∷ links) heard l at failed =
    let rest = failed_from (suc k) i links heard l at failed in
    record { link = rest.link; there = rest.there; failed = rest.failed }

-- ---- what was sent by then

module _ (laws : DeviceLaws) (n : NodeValue) (links' : List Link) (s' : StoreValue) (h h' : MemHostValue)
    (run : IsRunSoFar n (host_told h)) (p : Place) (is : forget p ≡ node_place n (host_told h))
    (opens : HoldsOpen (forget p).hold (forget p).links) (heard : ℕ → List ℕ)
    (stops : StopsAt (node_terms n) p (links_from 0 links' heard) n.store s' (host_told h)
    (host_told h')) where
  abbrev all_acts : List Act
  all_acts = run.acts ++ stops.went.acts

  free_acts : FreeActs bundle_meaning run.begin all_acts (owing_free stops.to)
  free_acts =
      whole_path n (host_told h) run stops.went.acts (owing_free stops.to)
      (free_path n (host_told h) p is stops.to stops.went.acts stops.went.path)

  -- nothing is owed
  sent_whole : AllIsSent run.begin all_acts
  sent_whole =
      all_sent laws.go_on laws.join bundle_meaning run.begin all_acts (owing_free stops.to)
      run.legal free_acts stops.clear

  link_sent : (i : ℕ) → has_failure i (events_of all_acts) ≡ false → (whole : Journal)
      → FitsFiles bundle_meaning s' whole (files_of (disk_files h'.disk))
      → sent_on (host_told h').links i ≡ output whole (n.first + i)
  unfolding output
  link_sent i well whole fits =
      let so_far : Journal = run.begin ++ batches_in run.acts in
      let behind = stops.went.did.fits so_far run.fits in
      let reads = fits_whole s' (so_far ++ batches_in stops.went.acts) whole h' behind fits in
      let all : run.begin ++ batches_in all_acts ≡ whole =
      ap (λ (l : Journal). run.begin ++ l) (batches_in-append run.acts stops.went.acts)
      ∙ sym (append_assoc run.begin (batches_in run.acts) (batches_in stops.went.acts)) ∙ reads in
      stops.went.did.sent (told_host h) i
      ∙ ap (λ (l : List ℕ). l ++ sends_on i stops.went.acts) (run.sent i)
      ∙ sym (sends_on-append i run.acts stops.went.acts)
      ∙ sent_whole i well
      ∙ ap (λ (j : Journal). spelled (sent j ((facts run.begin).begun + i))) all
      ∙ ap (λ (k : ℕ). spelled (sent whole (k + i))) run.first

  -- on whatever course, a link that has not failed has sent the whole
  unfailed_sent : (terms : Terms) (p1 : Place) (heard1 : ℕ → List ℕ)
      → HoldsOpen (forget p1).hold (forget p1).links
      → (stops1 : StopsAt terms p1 (links_from 0 links' heard1) n.store s' (host_told h)
      (host_told h')) (i : ℕ) (x : course_links.Link) → slice_get stops1.to.at.links i ≡ Some x
      → x.stands ≢ link_end.Failed → has_failure i (events_of all_acts) ≡ false
  unfailed_sent terms p1 heard1 opens1 stops1 i x there unfailed =
      elim (cases_Bool (has_failure i (events_of all_acts))) [
        | inl failed ↦
            let at = node_failed links' heard i
            (fails_then (node_terms n) p links' heard n.store s' (host_told h) (host_told h') stops
            opens i ((acts_fail run.begin all_acts (owing_free stops.to) free_acts).stays i failed)) in
            let so : LinkFailed stops1.to.at.links i =
            failed_there terms p1 links' heard1 n.store s' (host_told h) (host_told h') stops1
            opens1 i (failed_from 0 i links' heard1 at.0 at.1 at.2) in
            let both : Some so.link ≡ Some x = sym so.there ∙ there in
            let same : so.link ≡ x = cc in
            absurd (unfailed (sym (ap (λ (l : course_links.Link). l.stands) same) ∙ so.failed))
        | inr well ↦ well
      ]

  full_sent : (terms : Terms) (p1 : Place) (heard1 : ℕ → List ℕ)
      → HoldsOpen (forget p1).hold (forget p1).links
      → StopsAt terms p1 (links_from 0 links' heard1) n.store s' (host_told h) (host_told h')
      → FullSent terms p1 n s' h h'
  unfolding full_there
  full_sent terms p1 heard1 opens1 stops1 = record {
    full = full_there terms p1 (links_from 0 links' heard1) n.store s' (host_told h) (host_told h')
        stops1;
    sent = λ i x there unfailed.
        link_sent i (unfailed_sent terms p1 heard1 opens1 stops1 i x there unfailed);
  }

-- ---- calls

module _ (laws : DeviceLaws) (n n' : NodeValue) (h h' : MemHostValue) (run : IsRunSoFar n (host_told h))
    (limit : n'.store.limit ≡ n.store.limit) where
  pub full_turn : TurnStops n n' h h' node_fault.Full → FullInTurn h h' n
  full_turn w =
      let own = w.stops (node_terms n) (heard_on (host_told h).links) false 0 0 refl run.has_read
      refl in
      record {
        store = n'.store;
        limit = limit;
        fills = λ terms heard moved still made first read on.
            let t = w.stops terms heard moved still made first read on in
            full_sent laws n n'.links n'.store h h' run (turn_from n (host_told h)) refl tt own.0
            own.1 terms
            (place_at Between n.links heard moved still made n.store.state.facts) t.0 tt t.1;
      }

  pub full_beginning : (plan : Plan) (its_nonce : Option (List ℕ))
      → BeginStops (next_session plan its_nonce n) n n' h h' node_fault.Full
      → FullAtBeginning plan its_nonce h h' n
  full_beginning plan its_nonce w =
      let session = next_session plan its_nonce n in
      let own = w.stops (node_terms n) [] (heard_on (host_told h).links) false 0 0 in
      record {
        store = n'.store;
        limit = limit;
        fills = λ terms left heard moved still made.
            full_sent laws n n'.links n'.store h h' run (begin_from session n (host_told h)) refl tt
            (heard_on (host_told h).links) own terms
            (place_at (Attaches (session ∷ left)) n.links heard moved still made n.store.state.facts) heard tt (w.stops terms left heard moved still made);
      }
