-- What a node did since it began, as acts: what a call of it adds to them, and what each moment of the call leaves.
use Rattle.std.proofs.Common.{◌≡◌, ◌⊎◌, ℕ, zero, suc, ◌+◌, ◌<◌, ◌≤◌, Bool, false, List, [], ◌∷◌, ◌++◌, length, refl, sym, ap, ◌∙◌, subst, inl, inr, arith, append-nil, append_assoc, Option, Some}
use Rattle.std.specs.Prelude.{slice_get}
use Rattle.std.specs.Option.{option_map}
use Rattle.std.proofs.lemmas.Bool.{cases_Bool, cases_lt}
use Rattle.std.proofs.lemmas.List.{append_cancel_left}
use Rattle.outside.specs.Files.{Two, File, IsImage}
use Rattle.outside.specs.Links.{ToldLink, HeardOn}
use Rattle.outside.specs.HostTold.{host_told}
use Rattle.outside.specs.MemHost.{MemHostValue}
use Rattle.outside.specs.Outside.{Outside, Moment}
use Rattle.outside.specs.Runs.{TellsAll, answers_at, heard_bytes, sent_at}
use Rattle.client_basic.specs.Bodies.{bundle_meaning}
use Rattle.record_grammar.specs.Spelling.{spelled}
use Rattle.record_grammar.specs.Stream.{records}
use Rattle.sync_ids.specs.declared.records.Record.{Record}
use Rattle.entry_codec.specs.Standing.{journal}
use Rattle.file_standing.specs.Standing.{stands}
use Rattle.sync_rules.specs.declared.entries.Entry.{Entry}
use Rattle.sync_rules.specs.declared.entries.Entry.TheVariants as entry
use Rattle.sync_rules.specs.declared.entries.Session.{Session}
use Rattle.sync_rules.specs.Facts.{Facts, Journal, after_all, after_batches, facts, session_at}
use Rattle.sync_rules.specs.Legal.{Allowed, AllSettling, IsSettlingBatch}
use Rattle.sync_rules.specs.Lists.{In}
use Rattle.sync_rules.specs.Output.{sent}
use Rattle.sync_rules.proofs.Continuing.{facts-append}
use Rattle.sync_rules.proofs.OutputLaws.{settling_silent, silent_adds_nothing}
use Rattle.sync_rules.specs.Growth.{output_in}
use Rattle.sync_store.specs.Fitting.{FitsFiles}
use Rattle.sync_store.specs.Runs.{AddsBatch}
use Rattle.sync_store.specs.Store.{StoreValue}
use Rattle.sync_course.specs.Acts.{Act, AreQuiet, AtFront, Does, batches_in, commit_acts, events_of, sends_on}
use Rattle.sync_course.specs.Events.{Commit, TellsEvents, has_failure, heard_after}
use Rattle.sync_course.specs.Free.{Free, FreeStep, Rests, first_free, forget, owing_free}
use Rattle.sync_course.specs.Links as course_links
use Rattle.sync_course.specs.Owing.{ActStep, Owing, paid}
use Rattle.sync_course.specs.Paths.{Path}
use Rattle.sync_course.specs.Story.{AllSuitNode, FreeActs, LinkFailed, begun_by, heard_at}
use Rattle.sync_course.specs.Suits.{heard_in}
use Rattle.sync_course.specs.Turns.{Attaches, Between, Place, Terms}
use Rattle.sync_course.proofs.ActLaws.{batches_in-append, commit_acts-append, commits_are_quiet, sends_on-append}
use Rattle.sync_course.specs.declared.ends.LinkEnd.TheVariants as link_end
use Rattle.sync_course.proofs.FailLaws.{FailsJust, path_fails}
use Rattle.sync_course.proofs.FreeLaws.{run_acts_are_free}
use Rattle.sync_course.proofs.LiftLaws.{get_within}
use Rattle.sync_course.proofs.PathLaws.{path_then}
use Rattle.sync_course.proofs.FreeSuits.{moment_stands}
use Rattle.sync_course.proofs.SendLaws.{all_sent, events_path}
use Rattle.sync_course.specs.Free.{IsPlain}
use Rattle.sync_node.specs.Batches.{AddStops, Added, CommitsAndSettles}
use Rattle.sync_node.specs.Courses.{AllRead, IsLinkRead, links_from, place_at}
use Rattle.sync_node.specs.Did.{ComesAtFronts, Did, SinceThen}
use Rattle.sync_node.specs.Node.{IsNode, NodeValue}
use Rattle.sync_node.specs.OnRuns.{BeginStopped, BeginWent, ByFault, RoundStopped, RoundWent}
use Rattle.sync_node.specs.OnRuns.{RunActs, RunStopped}
use Rattle.sync_node.specs.Output.{heard_on, output, sent_on}
use Rattle.sync_node.specs.Went.{Went}
use Rattle.sync_node.specs.declared.fault.NodeFault.{NodeFault}
use Rattle.sync_node.specs.declared.fault.NodeFault.TheVariants as node_fault
use Rattle.sync_node.specs.declared.link.Link.{Link}
use Rattle.sync_node.proofs.DidLaws.{front_shift}
use Rattle.sync_node.proofs.SentLaws.{from_at}
use Rattle.sync_node.proofs.StartActs.{free_next}
use Rattle.world_devices.specs.Keeping.{AreLinksQuiet, IsRunSoFar, KeepsOn, LeavesSome}
use Rattle.world_devices.specs.Keeping.{StandsForSome, TellsSame, WentOn, node_place}
use Rattle.world_devices.specs.Running.{WentHearing}
use Rattle.sync_course.proofs.HeardLaws.{bytes_of, events_tell, free_path_adds}
use Rattle.world_devices.specs.Cited.{DeviceLaws}
use Rattle.world_devices.specs.Devices.{IsRunning, MayAddTo}
use Rattle.world_devices.proofs.HostLaws.{told_host}
use Rattle.world_devices.proofs.KeepLaws.{crash_since, fits_some}
use Rattle.world_devices.proofs.LeaveLaws.{all_suit, hears_on, node_plain, went_then}

-- ---- a node that begins, and one of which the same is told

-- over a store, on a host on which nothing was sent or heard
pub run_begun : (n : NodeValue) (s : StoreValue) (o : Outside) (two : Two File) → o.files ≡ Some two
    → (j0 : Journal) → FitsFiles bundle_meaning s j0 two
    → n ≡ record { store = s; first = s.state.facts.begun; links = []; closed = false }
    → AreLinksQuiet o → IsRunSoFar n o
run_begun n s o two told j0 fits is quiet =
    let P : NodeValue → Type 0 = λ m. IsRunSoFar m o in
    subst P (sym is) (record {
      begin = j0;
      legal = fits.legal;
      first = ap (λ (f : Facts). f.begun) fits.facts_are;
      acts = [];
      path = ap (λ (f : Facts). paid (first_free f)) (sym fits.facts_are);
      has_read = λ link l there. cc;
      sent = quiet.sent;
      fits = (
        two,
        told,
        subst (λ (k : Journal). FitsFiles bundle_meaning s k two)
            (sym (append-nil j0)) fits,
      );
    })

pub run_on : (n : NodeValue) (o o' : Outside) → TellsSame o o' → IsRunSoFar n o → IsRunSoFar n o'
run_on n o o' same run = record {
  begin = run.begin;
  legal = run.legal;
  first = run.first;
  acts = run.acts;
  path =
      subst (λ (h : Option (List HeardOn)). FreeActs bundle_meaning run.begin run.acts
      (paid (record { hold = Rests; links = links_from 0 n.links (λ link. heard_bytes (answers_at h link)); facts = n.store.state.facts }))) (sym same.heard) run.path;
  has_read = subst (λ (h : Option (List HeardOn)). AllRead (λ link. heard_bytes (answers_at h link)) n.links) (sym same.heard) run.has_read;
  sent = λ link. ap (λ (t : Option (List ToldLink)). sent_at t link) same.told ∙ run.sent link;
  fits =
      subst (λ (f : Option (Two File)). (two : Two File) × (f ≡ Some two) × FitsFiles bundle_meaning n.store (run.begin ++ batches_in run.acts) two)
      (sym same.files) run.fits;
}

-- ---- what a call did

-- the steps of a node whose first session has this number
abbrev pub NodeSteps : ℕ → Owing Free → Act → Owing Free → Type 0
NodeSteps first = ActStep (λ (p : Free). p.facts) first (FreeStep bundle_meaning first)

-- acts of a node from where it stands between two calls
abbrev pub NodePath : NodeValue → Outside → List Act → Owing Free → Type 0
NodePath n o acts to = Path (NodeSteps n.first) (paid (node_place n o)) acts to

-- these acts, from where the node stood; and behind them some batches were to be committed next
pub record CallDid (n : NodeValue) (o o' : Outside) : Type 0 where
  pub acts : List Act
  pub next : List Act
  pub quiet : AreQuiet next
  pub to : Owing Free
  pub path : NodePath n o (acts ++ next) to
  pub tells : TellsEvents (events_of acts) o o'
  pub moments : ComesAtFronts bundle_meaning (acts ++ next) n.store o o'

-- they led to where the node stands then
pub record CallEnds (n n' : NodeValue) (o o' : Outside) : Type 0 where
  pub acts : List Act
  pub path : NodePath n o acts (paid (node_place n' o'))
  pub has_read : AllRead (heard_on o'.links) n'.links
  pub did : Did bundle_meaning acts n.store n'.store o o'

did_to : (n : NodeValue) (s' : StoreValue) (o o' : Outside) (acts : List Act) (to : Owing Free)
    → NodePath n o acts to → Did bundle_meaning acts n.store s' o o' → CallDid n o o'
did_to n s' o o' acts to path did =
    let all : acts ≡ acts ++ [] = sym (append-nil acts) in
    record {
      acts = acts;
      next = [];
      quiet = tt;
      to = to;
      path = subst (λ (l : List Act). NodePath n o l to) all path;
      tells = did.tells;
      moments = subst (λ (l : List Act). ComesAtFronts bundle_meaning l n.store o o') all did.moments;
    }

pub ended_did : (n n' : NodeValue) (o o' : Outside) → CallEnds n n' o o' → CallDid n o o'
ended_did n n' o o' ends = did_to n n'.store o o' ends.acts (paid (node_place n' o')) ends.path ends.did

-- the acts of the node with those of the call
pub whole_path : (n : NodeValue) (o : Outside) (run : IsRunSoFar n o) (acts : List Act)
    (to : Owing Free) → NodePath n o acts to → FreeActs bundle_meaning run.begin (run.acts ++ acts) to
whole_path n o run acts to path =
    path_then (NodeSteps (facts run.begin).begun) (paid (first_free (facts run.begin))) (paid (node_place n o)) to run.acts acts run.path
    (subst (λ (k : ℕ). Path (NodeSteps k) (paid (node_place n o)) acts to) (sym run.first) path)

-- what the node did with the call
pub run_after : (n n' : NodeValue) (o o' : Outside) → TellsAll o → CallEnds n n' o o' → n'.first ≡ n.first → IsRunSoFar n o → IsRunSoFar n' o'
run_after n n' o o' told ends same run = record {
  begin = run.begin;
  legal = run.legal;
  first = run.first ∙ sym same;
  acts = run.acts ++ ends.acts;
  path = whole_path n o run ends.acts (paid (node_place n' o')) ends.path;
  has_read = ends.has_read;
  sent = λ link.
      ends.did.sent told link ∙ ap (λ (l : List ℕ). l ++ sends_on link ends.acts) (run.sent link)
      ∙ sym (sends_on-append link run.acts ends.acts);
  fits =
      let is : (run.begin ++ batches_in run.acts) ++ batches_in ends.acts ≡ run.begin ++ batches_in (run.acts ++ ends.acts) =
      append_assoc run.begin (batches_in run.acts) (batches_in ends.acts)
      ∙ ap (λ (l : Journal). run.begin ++ l) (sym (batches_in-append run.acts ends.acts)) in
      let fit = ends.did.fits (run.begin ++ batches_in run.acts) run.fits in
      (fit.0, fit.1, subst (λ (j : Journal). FitsFiles bundle_meaning n'.store j fit.0) is fit.2);
}

-- ---- what was sent

-- a link that stands Failed at a place is one of the node that failed
pub node_failed : (links : List Link) (heard : ℕ → List ℕ) (i : ℕ) → LinkFailed (links_from 0 links heard) i → (l : Link) × (slice_get links i ≡ Some l) × (l.end ≡ link_end.Failed)
node_failed links heard i failed =
    let at = from_at 0 i links heard failed.link failed.there in
    (at.0, at.1, sym at.2 ∙ failed.failed)

-- just the links on which a call failed stand Failed
pub acts_fail : (begin : Journal) (acts : List Act) (to : Owing Free)
    → FreeActs bundle_meaning begin acts to
    → FailsJust bundle_meaning (facts begin).begun (events_of acts) to.at
acts_fail begin acts to path =
    let start : Owing Free = paid (first_free (facts begin)) in
    path_fails bundle_meaning (facts begin).begun (facts begin) to.at (events_of acts)
    (events_path bundle_meaning (facts begin).begun start to acts path)

-- on a link that has not failed all output was sent
pub all_sent_on : DeviceLaws → (n : NodeValue) (o : Outside) (run : IsRunSoFar n o) (link : ℕ) (l : Link)
    → slice_get n.links link ≡ Some l → (l.end ≡ link_end.Failed → ⊥)
    → sent_on o.links link ≡ output (run.begin ++ batches_in run.acts) (n.first + link)
unfolding output
all_sent_on laws n o run link l there unfailed =
    elim (cases_Bool (has_failure link (events_of run.acts))) [
      | inl failed ↦
          let at = node_failed n.links (heard_on o.links) link
          ((acts_fail run.begin run.acts (paid (node_place n o)) run.path).stays link failed) in
          let both : Some at.0 ≡ Some l = sym at.1 ∙ there in
          let same : at.0 ≡ l = cc in
          absurd (unfailed (sym (ap (λ (x : Link). x.end) same) ∙ at.2))
      | inr well ↦
          run.sent link
          ∙ all_sent laws.go_on laws.join bundle_meaning run.begin run.acts
          (paid (node_place n o)) run.legal run.path (λ i. refl) link well
          ∙ ap (λ (k : ℕ). spelled (sent (run.begin ++ batches_in run.acts) (k + link))) run.first
    ]

-- ---- the moments of a call

-- files that stand for a journal and batches behind it that suit a node
record StandsBehind (first : ℕ) (plans : List Session) (heard : ℕ → List ℕ) (j : Journal) (files : Two (List ℕ)) : Type 0 where
  more : Journal
  stands_for : stands bundle_meaning files ≡ journal (j ++ more)
  suits : AllSuitNode bundle_meaning first plans heard (facts j) more

suits_behind : (first : ℕ) (plans : List Session) (heard : ℕ → List ℕ) (f : Facts) (bs cs : Journal) → AllSuitNode bundle_meaning first plans heard f (bs ++ cs)
    → AllSuitNode bundle_meaning first plans heard (after_batches f bs) cs
suits_behind first plans heard f [] cs suits = suits
suits_behind first plans heard f (b ∷ bs) cs suits = suits_behind first plans heard (after_all f b) bs cs suits.1

module _ (laws : DeviceLaws) (n : NodeValue) (o o' : Outside) (told : TellsAll o) (run : IsRunSoFar n o) (did : CallDid n o o') where
  abbrev so_far : Journal
  so_far = run.begin ++ batches_in run.acts

  abbrev now_done : List Act
  now_done = did.acts ++ did.next

  abbrev plans : List Session
  plans = begun_by (batches_in (run.acts ++ now_done))

  stands_behind : (m : Moment) → AtFront bundle_meaning now_done so_far (sent_on o.links) m → StandsBehind (facts run.begin).begun plans (heard_at did.to.at) so_far m.files
  stands_behind m at =
      let front = front_shift bundle_meaning run.acts now_done run.begin (λ link.
      []) (sent_on o.links) m run.sent at in
      let st =
      moment_stands laws.go_on laws.join laws.fronts bundle_meaning run.begin
      (run.acts ++ now_done) did.to m run.legal (whole_path n o run now_done did.to did.path)
      front in
      let both : journal (run.begin ++ st.more) ≡ journal (so_far ++ batches_in at.before) = sym st.stands_for ∙ at.stands_for in
      let whole : run.begin ++ st.more ≡ so_far ++ batches_in at.before = cc in
      let same : st.more ≡ batches_in run.acts ++ batches_in at.before =
      append_cancel_left run.begin st.more (batches_in run.acts ++ batches_in at.before) (whole ∙ append_assoc run.begin (batches_in run.acts) (batches_in at.before)) in
      record {
        more = batches_in at.before;
        stands_for = at.stands_for;
        suits =
            subst (λ (f : Facts). AllSuitNode bundle_meaning (facts run.begin).begun plans (heard_at did.to.at) f (batches_in at.before))
            (sym (facts-append run.begin (batches_in run.acts)))
            (suits_behind (facts run.begin).begun plans (heard_at did.to.at) (facts run.begin) (batches_in run.acts) (batches_in at.before)
            (subst (λ (bs : Journal). AllSuitNode bundle_meaning (facts run.begin).begun plans (heard_at did.to.at) (facts run.begin) bs) same st.suits));
      }

  since : SinceThen o o' (AtFront bundle_meaning now_done so_far (sent_on o.links))
  since = did.moments told so_far run.fits

  -- what was left before the call, or a journal behind which the node did some of its acts
  each_moment : (m : Moment) → o'.moments o.clock m → IsImage run.fits.0 m.files ⊎ StandsBehind (facts run.begin).begun plans (heard_at did.to.at) so_far m.files
  each_moment m w =
      elim (since.before o.clock m (omega arith) w) [
        | inl old ↦ inl (o.now_is run.fits.0 m run.fits.1 old).image
        | inr at ↦ inr (stands_behind m at)
      ]

  -- a journal has what it had before, if the batches of a node keep that
  call_leaves : (P : Journal → Type 0)
      → ((more : Journal)
      → AllSuitNode bundle_meaning (facts run.begin).begun plans (heard_at did.to.at)
      (facts so_far) more → P so_far → P (so_far ++ more))
      → LeavesSome P o → LeavesSome P o'
  call_leaves P keeps k =
      crash_since (StandsForSome P) o o' since.later (λ m w.
      elim (each_moment m w) [
        | inl image ↦ k.each run.fits.0 run.fits.1 m.files image
        | inr b ↦ record {
          whole = so_far ++ b.more;
          has =
              keeps b.more b.suits
              (fits_some P so_far o n.store run.fits.0 run.fits.1 k run.fits.2);
          stands_for = b.stands_for;
        }
      ])

  -- whatever went on from a journal before goes on from it
  pub call_keeps : KeepsOn o o'
  call_keeps j =
      call_leaves (WentOn j) (λ more suits went.
      went_then j so_far (so_far ++ more) went
      (record {
        more = more;
        plain = node_plain (facts run.begin).begun plans (heard_at did.to.at) (facts so_far)
            more suits;
        is = refl;
      }))

  -- and takes what was heard on the links
  pub call_takes : (heard : ℕ → List Record) (j : Journal)
      → ((session link : ℕ) (r : Record) → session ≡ n.first + link → In r (records (heard_at did.to.at link)) → In r (heard session))
      → LeavesSome (WentHearing heard j) o → LeavesSome (WentHearing heard j) o'
  call_takes heard j takes =
      call_leaves (WentHearing heard j) (λ more suits went.
      hears_on heard j so_far more went
      (node_plain (facts run.begin).begun plans (heard_at did.to.at) (facts so_far) more suits)
      (all_suit heard (facts run.begin).begun plans (heard_at did.to.at)
      (λ session link r on. takes session link r (on ∙ ap (λ (first : ℕ). first + link) run.first))
      (facts so_far) more suits))

-- ---- what was heard

heard_from : (k i : ℕ) (ls : List Link) (heard : ℕ → List ℕ) → i < length ls → heard_in (slice_get (links_from k ls heard) i) ≡ heard (k + i)
heard_from k i [] heard within = absurd (omega (arith, within))
heard_from k zero (l ∷ ls) heard within = let here : k ≡ k + 0 = omega arith in ap heard here
heard_from k (suc i) (l ∷ ls) heard within =
    let there : suc k + i ≡ k + suc i = omega arith in
    heard_from (suc k) i ls heard (omega (arith, within)) ∙ ap heard there

none_from : (k i : ℕ) (ls : List Link) (heard : ℕ → List ℕ) → length ls ≤ i → heard_in (slice_get (links_from k ls heard) i) ≡ []
none_from k i [] heard past = refl
none_from k zero (l ∷ ls) heard past = absurd (omega (arith, past))
none_from k (suc i) (l ∷ ls) heard past = none_from (suc k) i ls heard (omega (arith, past))

same_from : (k : ℕ) (ls : List Link) (a b : ℕ → List ℕ) → ((i : ℕ) → k ≤ i → i < k + length ls → a i ≡ b i) → links_from k ls a ≡ links_from k ls b
same_from k [] a b each = refl
same_from k (l ∷ ls) a b each =
    let here : a k ≡ b k = each k (omega arith) (omega arith) in
    let rest : links_from (suc k) ls a ≡ links_from (suc k) ls b =
    same_from (suc k) ls a b (λ i low high. each i (omega (arith, low)) (omega (arith, high))) in
    (λ i. record { contact = l.session.contact; nonce = l.nonce; heard = here i; stands = l.end } ∷ rest i)

at_number : (i : ℕ) (heard : ℕ → List ℕ) → heard (0 + i) ≡ heard i
at_number i heard = let same : 0 + i ≡ i = omega arith in ap heard same

module _ (n : NodeValue) (h : MemHostValue) (links : ℕ) (run : IsRunning n h links) where
  -- nothing was heard on a link that the node has not had
  silent_past : (link : ℕ) → length n.links ≤ link → heard_on (host_told h).links link ≡ []
  silent_past link past =
      none_first (heard_on (host_told h).links link) _
      (run.unused link (omega (arith, past, run.linked)))
    where
      none_first : (a b : List ℕ) → a ++ b ≡ [] → a ≡ []
      none_first [] b none = refl
      none_first (x ∷ a) b none = cc

  place_hears : (i : ℕ) → heard_at (node_place n (host_told h)) i ≡ heard_on (host_told h).links i
  place_hears i =
      let heard : ℕ → List ℕ = heard_on (host_told h).links in
      elim (cases_lt i (length n.links)) [
        | inl within ↦ heard_from 0 i n.links heard within ∙ at_number i heard
        | inr past ↦ none_from 0 i n.links heard past ∙ sym (silent_past i past)
      ]

  -- a place has heard what was heard before and what the events have
  pub place_adds : (acts : List Act) (to : Owing Free) (i : ℕ) → NodePath n (host_told h) acts to
      → heard_at to.at i ≡ heard_on (host_told h).links i ++ bytes_of i (events_of acts)
  place_adds acts to i path =
      let from : Free = node_place n (host_told h) in
      free_path_adds bundle_meaning n.first (events_of acts) from to.at i
      (events_path bundle_meaning n.first (paid from) to acts path)
      ∙ ap (λ (l : List ℕ). l ++ bytes_of i (events_of acts)) (place_hears i)

  -- and that is what is told then
  heard_told : (o' : Outside) (acts : List Act) (to : Owing Free) (i : ℕ)
      → NodePath n (host_told h) acts to → TellsEvents (events_of acts) (host_told h) o'
      → i < (host_told h).links.dialled → heard_at to.at i ≡ heard_on o'.links i
  heard_told o' acts to i path tells within =
      let told = told_host h in
      let made : length told.heard ≡ (host_told h).links.dialled =
      (host_told h).all_heard told.heard told.heard_are in
      let are : o'.links.heard ≡ Some (heard_after (events_of acts) told.heard) =
      tells.heard ∙ ap (option_map (heard_after (events_of acts))) told.heard_are in
      place_adds acts to i path
      ∙ ap (λ (t : Option (List HeardOn)). heard_bytes (answers_at t i) ++ bytes_of i (events_of acts)) told.heard_are
      ∙ sym (events_tell (events_of acts) told.heard i (omega (arith, within, made)))
      ∙ sym (ap (λ (t : Option (List HeardOn)). heard_bytes (answers_at t i)) are)

-- ---- calls on links

-- one turn, from the first session of a node on
abbrev pub node_terms : NodeValue → Terms
node_terms n = record { first = n.first; turns = 1; quiet = 1 }

-- where a node stands in a run
abbrev pub turn_from : NodeValue → Outside → Place
turn_from n o = place_at Between n.links (heard_on o.links) false 0 0 n.store.state.facts

abbrev pub begin_from : Session → NodeValue → Outside → Place
begin_from session n o =
    place_at (Attaches (session ∷ [])) n.links (heard_on o.links) false 0 0 n.store.state.facts

-- what a node says of a turn and of a session that begins, on a host in memory
abbrev pub NodeTurned : NodeValue → NodeValue → MemHostValue → MemHostValue → Bool → Type 0
NodeTurned n n' h h' quiet =
    RoundWent bundle_meaning n.first n.links n'.links n.store n'.store (host_told h) (host_told h')
    quiet

abbrev pub TurnStops : NodeValue → NodeValue → MemHostValue → MemHostValue → NodeFault → Type 0
TurnStops n n' h h' =
    ByFault (RoundStopped bundle_meaning n.first n.links n'.links n.store n'.store (host_told h)
    (host_told h'))

abbrev pub NodeBegan : Session → NodeValue → NodeValue → MemHostValue → MemHostValue → Type 0
NodeBegan session n n' h h' =
    BeginWent bundle_meaning session n.links n'.links n.store n'.store (host_told h) (host_told h')

abbrev pub BeginStops : Session → NodeValue → NodeValue → MemHostValue → MemHostValue → NodeFault
    → Type 0
BeginStops session n n' h h' =
    ByFault (BeginStopped bundle_meaning session n.links n'.links n.store n'.store (host_told h)
    (host_told h'))

module _ (n : NodeValue) (o : Outside) (p : Place) (is : forget p ≡ node_place n o) where
  pub free_path : (to : Owing Place) (acts : List Act)
      → Path (RunActs bundle_meaning (node_terms n)) (paid p) acts to
      → NodePath n o acts (owing_free to)
  free_path to acts path =
      subst (λ (x : Free). Path (NodeSteps n.first) (paid x) acts (owing_free to)) is
      (run_acts_are_free bundle_meaning (node_terms n) (paid p) to acts path)

  went_did : (s' : StoreValue) (o' : Outside) (to : Owing Place)
      → Went bundle_meaning (RunActs bundle_meaning (node_terms n)) (paid p) to n.store s' o o'
      → CallDid n o o'
  went_did s' o' to w =
      did_to n s' o o' w.acts (owing_free to) (free_path to w.acts w.path) w.did

  stopped_did : (s' : StoreValue) (o' : Outside) (x : NodeFault)
      → ByFault (λ e. (links : List course_links.Link)
      × RunStopped bundle_meaning (node_terms n) p links n.store s' o o' e) x → CallDid n o o'
  stopped_did s' o' node_fault.Memory stops = went_did s' o' stops.1.to stops.1.went
  stopped_did s' o' node_fault.Full stops = went_did s' o' stops.1.to stops.1.went
  stopped_did s' o' node_fault.DiskFault broken = let stops = broken.1 in record {
    acts = stops.acts;
    next = stops.next;
    quiet = stops.quiet;
    to = owing_free stops.beyond;
    path =
        free_path stops.beyond (stops.acts ++ stops.next)
        (path_then (RunActs bundle_meaning (node_terms n)) (paid p) stops.to stops.beyond
        stops.acts stops.next stops.path stops.goes_on);
    tells = stops.did.tells;
    moments = stops.did.moments;
  }
  stopped_did s' o' node_fault.Closed stops = absurd stops

-- whatever the fault
by_each : (P Q : _ → Type 0) → ((e : _) → P e → Q e) → (x : NodeFault) → ByFault P x → ByFault Q x
by_each P Q each node_fault.Memory p = each _ p
by_each P Q each node_fault.DiskFault p = each _ p
by_each P Q each node_fault.Full p = each _ p
by_each P Q each node_fault.Closed p = p

pub by_any : (P : _ → Type 0) (R : Type 0) → ((e : _) → P e → R) → (x : NodeFault) → ByFault P x → R
by_any P R each node_fault.Memory p = each _ p
by_any P R each node_fault.DiskFault p = each _ p
by_any P R each node_fault.Full p = each _ p
by_any P R each node_fault.Closed p = absurd p

-- ---- batches that are added

abbrev resting : List course_links.Link → Facts → Free
resting links f = record { hold = Rests; links = links; facts = f }

settling_sends : (f : Facts) (b : List Entry) (session : ℕ) → IsSettlingBatch bundle_meaning f b
    → output_in f session b ≡ []
settling_sends f b session s =
    silent_adds_nothing f session b (settling_silent bundle_meaning f b s.2)

plain_sends : (f : Facts) (b : List Entry) (session : ℕ) → IsPlain b → output_in f session b ≡ []
plain_sends f (entry.Contact c ∷ []) session is = refl
plain_sends f (entry.Group def ∷ []) session is = refl
plain_sends f (entry.Level c g l ∷ []) session is = refl
plain_sends f (entry.Author m ∷ []) session is = refl
plain_sends f _ session is = absurd is

module _ (first : ℕ) (links : List course_links.Link) where
  -- a batch that sends nothing is a step of a node that rests
  silent_step : (f : Facts) (b : List Entry)
      → IsSettlingBatch bundle_meaning f b ⊎ (IsPlain b × Allowed bundle_meaning f b)
      → ((session : ℕ) → output_in f session b ≡ [])
      → NodeSteps first (paid (resting links f)) (Does (Commit b))
      (paid (resting links (after_all f b)))
  silent_step f b may none =
      (tt, inl (may, refl), λ link. sym (ap spelled (none (first + link))))

  settling_path : (f : Facts) (bs : Journal) → AllSettling bundle_meaning f bs
      → Path (NodeSteps first) (paid (resting links f)) (commit_acts bs)
      (paid (resting links (after_batches f bs)))
  settling_path f [] settling = refl
  settling_path f (b ∷ bs) settling = (
    paid (resting links (after_all f b)),
    silent_step f b (inl settling.0) (λ session. settling_sends f b session settling.0),
    settling_path (after_all f b) bs settling.1,
  )

  adding_path : (f : Facts) (batch : List Entry) (more : Journal) → IsPlain batch
      → Allowed bundle_meaning f batch → AddsBatch bundle_meaning f batch more
      → Path (NodeSteps first) (paid (resting links f)) (commit_acts more)
      (paid (resting links (after_batches f more)))
  adding_path f batch [] plain allowed adds = refl
  adding_path f batch (b ∷ rest) plain allowed adds =
      subst (λ (x : List Entry). Path (NodeSteps first) (paid (resting links f))
      (commit_acts (x ∷ rest)) (paid (resting links (after_batches f (x ∷ rest))))) (sym adds.0) (
        paid (resting links (after_all f batch)),
        silent_step f batch (inr (plain, allowed)) (λ session. plain_sends f batch session plain),
        settling_path (after_all f batch) rest adds.1,
      )

-- ---- what calls of a node that runs did

module _ (n n' : NodeValue) (h h' : MemHostValue) (links : ℕ) (run : IsRunning n h links) where
  abbrev from : Outside
  from = host_told h

  abbrev by : Outside
  by = host_told h'

  -- acts that lead to the links of the node then, whatever the path says that was heard
  ends_at : (heard' : ℕ → List ℕ) (acts : List Act) → IsNode n'
      → NodePath n from acts (paid (resting (links_from 0 n'.links heard') n'.store.state.facts))
      → AllRead heard' n'.links → Did bundle_meaning acts n.store n'.store from by
      → CallEnds n n' from by
  ends_at heard' acts is_node path read did =
      let to : Free = resting (links_from 0 n'.links heard') n'.store.state.facts in
      let same : (i : ℕ) → i < length n'.links → heard' i ≡ heard_on by.links i = λ i within.
      sym (at_number i heard') ∙ sym (heard_from 0 i n'.links heard' within)
      ∙ heard_told n h links run by acts (paid to) i path did.tells
      (omega (arith, within, is_node.few, run.dialled)) in
      let are : links_from 0 n'.links heard' ≡ links_from 0 n'.links (heard_on by.links) =
      same_from 0 n'.links heard' (heard_on by.links) (λ i low high. same i (omega (arith, high))) in
      record {
        acts = acts;
        path =
            subst (λ (ls : List course_links.Link).
            NodePath n from acts (paid (resting ls n'.store.state.facts))) are path;
        has_read = λ i l there. subst (λ (bytes : List ℕ). IsLinkRead bytes l)
            (same i (get_within n'.links i l there)) (read i l there);
        did = did;
      }

  -- a turn
  pub turn_done : (quiet : Bool) → IsNode n' → NodeTurned n n' h h' quiet → CallEnds n n' from by
  turn_done quiet is_node w =
      let t = w.leads (node_terms n) (heard_on from.links) false 0 0 refl run.runs.has_read refl in
      ends_at t.heard' t.went.acts is_node
      (free_path n from (turn_from n from) refl (paid _) t.went.acts t.went.path) t.has_read
      t.went.did

  pub turn_broke : (x : NodeFault) → TurnStops n n' h h' x → CallDid n from by
  turn_broke x stopped =
      stopped_did n from (turn_from n from) refl n'.store by x
      (by_each (RoundStopped bundle_meaning n.first n.links n'.links n.store n'.store from by)
      (λ e. (links : List course_links.Link)
      × RunStopped bundle_meaning (node_terms n) (turn_from n from) links n.store n'.store from by e)
      (λ e w.
      let t = w.stops (node_terms n) (heard_on from.links) false 0 0 refl run.runs.has_read refl in
      (links_from 0 n'.links t.0, t.1)) x stopped)

  -- a session that begins
  pub begin_done : (session : Session) → session.number ≡ n.store.state.facts.begun → IsNode n'
      → NodeBegan session n n' h h' → CallEnds n n' from by
  begin_done session number is_node w =
      let quiet = silent_past n h links run (length n.links) (omega arith) in
      let t =
      w.went
      (ap (session_at n.store.state.facts.sessions) number
      ∙ free_next bundle_meaning n.store _ _ run.runs.fits.2)
      (node_terms n) [] (heard_on from.links) false 0 0
      quiet (number ∙ (run.attached.attached run.unclosed).begun) in
      ends_at (heard_on from.links) t.acts is_node
      (free_path n from (begin_from session n from) refl (paid _) t.acts t.path)
      (w.has_read (heard_on from.links) quiet run.runs.has_read) t.did

  pub begin_broke : (session : Session) (x : NodeFault) → BeginStops session n n' h h' x
      → CallDid n from by
  begin_broke session x stopped =
      stopped_did n from (begin_from session n from) refl n'.store by x
      (by_each (BeginStopped bundle_meaning session n.links n'.links n.store n'.store from by)
      (λ e. (links : List course_links.Link)
      × RunStopped bundle_meaning (node_terms n) (begin_from session n from) links n.store n'.store from by e)
      (λ e w. (
        links_from 0 n'.links (heard_on from.links),
        w.stops (node_terms n) [] (heard_on from.links) false 0 0,
      )) x stopped)

  -- an entry that may be added
  module _ (e : Entry) (may : MayAddTo n e) where
    abbrev kept : List course_links.Link
    kept = links_from 0 n.links (heard_on from.links)

    so_added : (more : Journal) → AddsBatch bundle_meaning n.store.state.facts (e ∷ []) more
        → NodePath n from (commit_acts more)
        (paid (resting kept (after_batches n.store.state.facts more)))
    so_added more adds =
        adding_path n.first kept n.store.state.facts (e ∷ []) more may.plain
        (may.allowed run.unclosed) adds

    pub add_done : n'.links ≡ n.links → IsNode n'
        → Added bundle_meaning (e ∷ []) n.store n'.store from by → CallEnds n n' from by
    add_done same is_node added =
        let by_links : (ls : List Link) → Type 0 = λ ls.
        NodePath n from (commit_acts added.by.more)
        (paid (resting (links_from 0 ls (heard_on from.links)) n'.store.state.facts)) in
        ends_at (heard_on from.links) (commit_acts added.by.more) is_node
        (subst by_links (sym same) (subst (λ (f : Facts). NodePath n from
        (commit_acts added.by.more) (paid (resting kept f))) (sym added.by.facts)
        (so_added added.by.more added.by.adds)))
        (subst (AllRead (heard_on from.links)) (sym same) run.runs.has_read) added.by.did

    settled_did : CommitsAndSettles bundle_meaning (e ∷ []) n.store n'.store from by
        → CallDid n from by
    settled_did did =
        did_to n n'.store from by (commit_acts did.more) _ (so_added did.more did.adds) did.did

    pub add_broke : (x : NodeFault)
        → ByFault (AddStops bundle_meaning (e ∷ []) n.store n'.store from by) x → CallDid n from by
    add_broke node_fault.Memory did = settled_did did
    add_broke node_fault.Full full =
        did_to n n'.store from by [] (paid (node_place n from)) refl full.idle.did
    add_broke node_fault.DiskFault did =
        let broken = did.breaks in
        let to : Owing Free =
        paid (resting kept (after_batches n.store.state.facts did.more)) in
        let parts : commit_acts did.more ≡ commit_acts broken.front ++ commit_acts broken.others =
        ap commit_acts broken.parts ∙ commit_acts-append broken.front broken.others in
        record {
          acts = commit_acts broken.front;
          next = commit_acts broken.others;
          quiet = commits_are_quiet broken.others;
          to = to;
          path = subst (λ (acts : List Act). NodePath n from acts to) parts
              (so_added did.more did.adds);
          tells = broken.did.tells;
          moments = broken.did.moments;
        }
    add_broke node_fault.Closed none = absurd none
