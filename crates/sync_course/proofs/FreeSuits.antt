-- Each batch of a node suits it, and what a crash leaves in the middle of its acts stands. The batches
-- of a run suit it as planned: its k-th session is the k-th of those it was given, and no plain entry
-- is among them.
use Rattle.std.proofs.Common.{◌≡◌, ℕ, ◌+◌, Bool, true, false, cond, nat_eq, eqb-true, List}
use Rattle.std.proofs.Common.{[], ◌∷◌, ◌++◌, length, append-nil, append_assoc, refl}
use Rattle.std.proofs.Common.{sym, ◌∙◌, ap, subst, inl, inr, arith, Some, zero, suc, subst₂}
use Rattle.std.specs.Prelude.{slice_get}
use Rattle.outside.specs.Outside.{Moment}
use Rattle.record_grammar.specs.Laws.{FrontsHaveFronts, RecordsJoin, StreamsGoOn}
use Rattle.record_grammar.specs.declared.stream.Item.{Item}
use Rattle.sync_rules.specs.declared.entries.Entry.{Entry}
use Rattle.sync_rules.specs.declared.entries.Session.{Session}
use Rattle.sync_rules.specs.Clients.{Meaning}
use Rattle.sync_rules.specs.Facts.{Facts, after_all, after_batches, facts, takes_of}
use Rattle.sync_rules.specs.Growth.{ContinuesList}
use Rattle.sync_rules.specs.Legal.{Legal, IsSettlingBatch}
use Rattle.sync_rules.proofs.Continuing.{front_itself, front_then}
use Rattle.sync_course.specs.Acts.{Act, AtFront, Does, Send, Fail, batches_in, events_of}
use Rattle.sync_course.specs.Acts.{next_bytes, sends_on}
use Rattle.sync_course.specs.Events.{Event, Commit, batches_of, has_failure, Pass}
use Rattle.sync_course.specs.Free.{Free, FreeStep, first_free, Rests, forget}
use Rattle.sync_course.specs.Free.{hold_at}
use Rattle.sync_course.specs.Links.{Link}
use Rattle.sync_course.specs.Owing.{Owing, paid}
use Rattle.sync_course.specs.Paths.{Path}
use Rattle.sync_course.specs.Story.{AllSuitNode, FreeActs, MomentStands, begun_by}
use Rattle.sync_course.specs.Story.{heard_at, AllSuitPlanned, IsOfCourse}
use Rattle.sync_course.specs.Suits.{IsCounted, heard_in, AllSuitCourse, SuitsCourse}
use Rattle.sync_course.specs.Suits.{heard_at_place}
use Rattle.sync_course.proofs.ActLaws.{batches_in-append}
use Rattle.sync_course.proofs.FreeSound.{IsBegunAt, IsFreeSound, first_free_sound, free_sound}
use Rattle.sync_course.proofs.FreeSteps.{step_adds, free_batches, held_pends, NotPlain}
use Rattle.sync_course.proofs.FreeSteps.{settling_adds}
use Rattle.sync_course.proofs.HeardLaws.{bytes_of, free_path_adds}
use Rattle.sync_course.proofs.PathLaws.{path_parts}
use Rattle.sync_course.proofs.RunLaws.{get_behind, get_front, get_middle}
use Rattle.sync_course.proofs.SendLaws.{ActsOn, acts_sent, events_path, front_before}
use Rattle.sync_course.proofs.SendLaws.{front_of_none, front_so, output}
use Rattle.sync_course.proofs.ToldLaws.{batches_of-append}
use Rattle.record_grammar.specs.Stream.{records, records_of}
use Rattle.sync_ids.specs.declared.records.Record.{Record}
use Rattle.sync_rules.proofs.StepLaws.{next_is_settling}
use Rattle.sync_rules.specs.Lists.{In}
use Rattle.sync_course.specs.Turns.{Attaches, Broken, Greets, Place, RunStep}
use Rattle.sync_course.specs.Turns.{Settles, Stage, Terms, first_place}
use Rattle.sync_course.proofs.FreeLaws.{run_is_free, step_is_free, run_by_cases}
use Rattle.outside.specs.Runs as runs
use Rattle.outside.proofs.RunLaws as runs_laws
use Rattle.record_grammar.specs.declared.stream.Item.TheVariants as item
use Rattle.sync_rules.specs.declared.entries.Entry.TheVariants as entry
use Rattle.sync_rules.specs.EntryTests.{IsSettlingEntry}

-- ---- which sessions began

-- sessions of batches one behind the other
pub begun_by-append : (bs cs : List (List Entry)) → begun_by (bs ++ cs) ≡ begun_by bs ++ begun_by cs
begun_by-append [] cs = refl
begun_by-append ((entry.Session s ∷ rest) ∷ bs) cs = ap (λ l. s ∷ l) (begun_by-append bs cs)
begun_by-append (_ ∷ bs) cs = begun_by-append bs cs

-- ---- each batch suits

-- the record that is next on a session stands at its number among all that are heard on its link
pub next_stands : FrontsHaveFronts → (heard : ℕ → List ℕ) (f : Facts) (session place n : ℕ)
    (r : Record)
    (its : List Item) (link : Link) → ContinuesList link.heard (heard n)
    → IsCounted f session (item.One place r ∷ its) link
    → slice_get (records (heard n)) (takes_of f.takes session) ≡ Some r
unfolding records_of
next_stands fronts heard f session place n r its link front c =
    let later : List Record = (fronts link.heard front.more).0 in
    let behind = records_of its ++ c.dropped in
    let whole : records (heard n) ≡ (c.done ++ r ∷ behind) ++ later =
    ap records front.goes_on
    ∙ (fronts link.heard front.more).1
    ∙ ap (λ l. l ++ later) c.parts in
    subst (λ l. slice_get l (takes_of f.takes session) ≡ Some r) (sym whole)
    (subst (λ k. slice_get ((c.done ++ r ∷ behind) ++ later) k ≡ Some r) (sym c.count)
    (get_front (c.done ++ r ∷ behind) later (length c.done) r (get_middle c.done behind r)))

module _ (go_on : StreamsGoOn) (join : RecordsJoin) (fronts : FrontsHaveFronts) (clients : Meaning)
    (first : ℕ) (plans : List Session) (heard : ℕ → List ℕ) where
  abbrev AllSuit : Facts → List (List Entry) → Type 0
  AllSuit f bs = AllSuitNode clients first plans heard f bs

  free_suits : (e : Event) (p q : Free) → FreeStep clients first p e q
      → ((i : ℕ) → ContinuesList (heard_at p i) (heard i)) → IsFreeSound clients first p
      → ((s : Session) → e ≡ Commit (entry.Session s ∷ []) → p.facts.begun ≡ first + length p.links
      → slice_get plans (length p.links) ≡ Some s)
      → AllSuit p.facts (batches_of (e ∷ []))
  free_suits e p q t grows s =
      free_batches clients first p
      (λ x g. ((s : Session) → x ≡ Commit (entry.Session s ∷ [])
      → p.facts.begun ≡ first + length p.links → slice_get plans (length p.links) ≡ Some s)
      → AllSuit p.facts (batches_of (x ∷ []))) (record {
        none =
            λ x none planned. subst (AllSuit p.facts) (sym none) tt;
        settles = λ b settling planned. (inr (inl settling), tt);
        adds = λ b rests plain allowed planned. (inl plain, tt);
        begins = λ x rests allowed planned.
            let begun : p.facts.begun ≡ first + length p.links =
            subst (λ h. IsBegunAt first h (length p.links) p.facts) rests s.begun in (
              inr (inr (record {
                link = length p.links;
                on = begun;
                planned = planned x refl begun;
              })),
              tt,
            );
        takes = λ n place r its link holds at allowed planned. (
          inr (inr (record {
            link = n;
            on = refl;
            read = r;
            stands =
                next_stands fronts heard p.facts (first + n) place n r its link
                (subst (λ o. ContinuesList (heard_in o) (heard n)) at (grows n))
                (subst (λ l. IsCounted p.facts (first + n) l link) (held_pends holds)
                (s.counted n link at));
            so = refl;
          })),
          tt,
        );
        puts = λ n now room what link holds at is_due allowed planned. (inr (inr (n, refl)), tt);
      }) q e t

  suit_then : (f : Facts) (bs cs : List (List Entry)) → AllSuit f bs
      → AllSuit (after_batches f bs) cs → AllSuit f (bs ++ cs)
  suit_then f [] cs a b = b
  suit_then f (x ∷ bs) cs a b = (a.0, suit_then (after_all f x) bs cs a.1 b)

  pub suit_front : (f : Facts) (bs cs : List (List Entry)) → AllSuit f (bs ++ cs)
      → AllSuit f bs
  suit_front f [] cs a = tt
  suit_front f (x ∷ bs) cs a = (a.0, suit_front (after_all f x) bs cs a.1)

  -- as many sessions began before, and those that begin on the path are planned behind them
  pub free_path_suits : (n : ℕ) (p q : Free) (es : List Event) → Path (FreeStep clients first) p es q
      → ((i : ℕ) → ContinuesList (heard_at q i) (heard i)) → IsFreeSound clients first p
      → p.facts.begun ≡ first + n
      → ((k i : ℕ) (x : Session) → i ≡ n + k → slice_get (begun_by (batches_of es)) k ≡ Some x
      → slice_get plans i ≡ Some x)
      → AllSuit p.facts (batches_of es)
  free_path_suits n p q [] path grows s count planned = tt
  free_path_suits n p q (e ∷ es) path grows s count planned =
      let next : Free = path.0 in
      let new = batches_of (e ∷ []) in
      let later = batches_of es in
      let adds = step_adds clients first p next e path.1 in
      let parts = batches_of-append (e ∷ []) es in
      let grown : next.facts.begun ≡ p.facts.begun + length (begun_by new) = adds.begun in
      let here : (x : Session) → e ≡ Commit (entry.Session x ∷ [])
      → p.facts.begun ≡ first + length p.links → slice_get plans (length p.links) ≡ Some x =
      λ x is at_rest.
      let at : p.facts.begun ≡ first + length p.links = at_rest in
      planned 0 (length p.links) x (omega (arith, count, at))
      (ap (λ y. slice_get (begun_by (batches_of (y ∷ es))) 0) is) in
      let behind : AllSuit next.facts later =
      free_path_suits (n + length (begun_by new)) next q es path.2 grows
      (free_sound go_on join clients first p next e path.1 s) (omega (arith, count, grown))
      (λ k i x number at.
      planned (length (begun_by new) + k) i x (omega (arith, number))
      (ap (λ l. slice_get l (length (begun_by new) + k)) (ap begun_by parts ∙ begun_by-append new later)
      ∙ get_behind (begun_by new) (begun_by later) k _ refl
      ∙ at)) in
      subst (AllSuit p.facts) (sym parts)
      (suit_then p.facts new later
      (free_suits e p next path.1
      (λ i.
      front_then _ _ _
      (record { more = bytes_of i (e ∷ es); goes_on = free_path_adds clients first (e ∷ es) p q i path })
      (grows i)) s here)
      (subst (λ f. AllSuit f later) adds.moves.facts behind))

-- ---- moments

-- bytes that are a front of what is owed on a link
owed_there : (n : ℕ) (bytes : List ℕ) (p : Owing Free) (i : ℕ) → runs.IsFront bytes (p.owed n)
    → runs.IsFront (cond (nat_eq n i) bytes []) (p.owed i)
owed_there n bytes p i front = to_link (nat_eq n i) refl
  where
    to_link : (t : Bool) → nat_eq n i ≡ t → runs.IsFront (cond t bytes []) (p.owed i)
    to_link true is = subst (λ k. runs.IsFront bytes (p.owed k)) (eqb-true n i is) front
    to_link false is = front_of_none (p.owed i)

-- what the first of some acts is to send is owed before them
next_owed : (clients : Meaning) (first : ℕ) (acts : List Act) (p q : Owing Free) (i : ℕ) → Path (ActsOn clients first) p acts q
    → runs.IsFront (next_bytes i acts) (p.owed i)
next_owed clients first [] p q i path = front_of_none (p.owed i)
next_owed clients first (Does e ∷ acts) p q i path = front_of_none (p.owed i)
next_owed clients first (Send n bytes ∷ acts) p q i path =
    owed_there n bytes p i
    (elim path.1 [
      | inl all ↦ record { rest = []; whole = sym all.0 ∙ sym (append-nil bytes) }
      | inr some ↦ record { rest = some.rest; whole = some.parts }
    ])
next_owed clients first (Fail n bytes count ∷ acts) p q i path = owed_there n bytes p i path.1.0

pub moment_stands : StreamsGoOn → RecordsJoin → FrontsHaveFronts → (clients : Meaning) (j : List (List Entry)) (acts : List Act)
    (to : Owing Free) (m : Moment) → Legal clients j → FreeActs clients j acts to → AtFront clients acts j (λ link. []) m
    → MomentStands clients j (begun_by (batches_in acts)) (heard_at to.at) m
moment_stands go_on join fronts clients j acts to m legal path front =
    let first : ℕ = (facts j).begun in
    let start = paid (first_free (facts j)) in
    let parts = path_parts (ActsOn clients first) start to front.before front.behind
    (subst (λ l. Path (ActsOn clients first) start l to) front.parts path) in
    let mid : Owing Free = parts.0 in
    let sent = acts_sent go_on join clients j front.before mid legal parts.1 in
    let events = events_path clients first start to acts path in
    let begun : first ≡ first + 0 = omega arith in
    let whole =
    free_path_suits go_on join fronts clients first (begun_by (batches_in acts)) (heard_at to.at) 0
    (first_free (facts j)) to.at (events_of acts) events (λ i. front_itself (heard_at to.at i))
    (first_free_sound clients j legal) begun
    (λ k i x number at.
    let same : k ≡ i = omega (arith, number) in
    subst (λ m. slice_get (begun_by (batches_in acts)) m ≡ Some x) same at) in
    let batches : batches_in acts ≡ batches_in front.before ++ batches_in front.behind =
    ap batches_in front.parts ∙ batches_in-append front.before front.behind in
    record {
      more = batches_in front.before;
      stands_for = front.stands_for;
      suits =
          suit_front go_on join fronts clients first (begun_by (batches_in acts)) (heard_at to.at) (facts j) (batches_in front.before)
          (batches_in front.behind)
          (subst (AllSuitNode clients first (begun_by (batches_in acts)) (heard_at to.at) (facts j)) batches whole);
      has_sent = λ link.
          subst (λ l. runs.IsFront l (output (j ++ batches_in front.before) (first + link)))
          (sym (front.has_sent link))
          (runs_laws.front_then _ _ _
          (front_before _ _ (sends_on link front.before)
          (runs_laws.front_then _ _ _ (front.begun link)
          (next_owed clients first front.behind mid to link parts.2)))
          (front_so (has_failure link (events_of front.before)) (sent.sent link)));
    }

-- ---- a run

-- the sessions that are yet to begin at a stage
abbrev pub left_at : Stage → List Session
left_at (Settles left) = left
left_at (Attaches left) = left
left_at (Greets s left) = left
left_at _ = []

-- a step commits no plain entry, and the sessions that begin by it are the next ones
pub record StepPlans (e : Event) (from to : Stage) : Type 0 where
  pub plain : NotPlain e
  pub begins : left_at from ≡ begun_by (batches_of (e ∷ [])) ++ left_at to

passes : {from to : Stage} → left_at from ≡ left_at to → StepPlans Pass from to
passes same = record { plain = tt; begins = same }

module _ (clients : Meaning) (terms : Terms) where
  step_plans : (p q : Place) (e : Event) → RunStep clients terms p e q
      → StepPlans e p.stage q.stage
  step_plans p q e t =
      run_by_cases clients terms p
      (λ stage x r. ((hold_at stage ≡ Rests → ⊥)
      → NotPlain x × (begun_by (batches_of (x ∷ [])) ≡ [])) → StepPlans x stage r.stage) (record {
        settles = λ left b settling link.
            let only = settling_adds clients p.facts b settling in
            record { plain = only.plain; begins = ap (λ l. l ++ left) (sym only.begins) };
        settled = λ left settled link. passes refl;
        begins = λ x left allowed link. record { plain = λ plain. plain; begins = refl };
        greets = λ x left link. passes refl;
        breaks = λ x left link. record { plain = tt; begins = refl };
        all_begun = λ link. passes refl;
        ends = λ over link. passes refl;
        turns = λ on link. passes refl;
        works = λ n doing link x spot at steps adds.
            let adds = adds (λ holds. cc) in
            record { plain = adds.0; begins = ap (λ l. l ++ []) (sym adds.1) };
        goes_on = λ n link at adds. passes refl;
        turn_ends = λ n none link. passes refl;
      }) q e t
      (λ busy.
      let adds = step_adds clients terms.first (forget p) (forget q) e
      (step_is_free clients terms p q e t) in
      (adds.plain busy, adds.begins busy))

  -- the sessions that begin on a path are the first of those that were yet to begin
  path_begins : (p q : Place) (es : List Event) → Path (RunStep clients terms) p es q
      → left_at p.stage ≡ begun_by (batches_of es) ++ left_at q.stage
  path_begins p q [] path = ap (λ x. left_at x.stage) (sym path)
  path_begins p q (e ∷ es) path =
      let new = batches_of (e ∷ []) in
      (step_plans p path.0 e path.1).begins
      ∙ ap (λ l. begun_by new ++ l) (path_begins path.0 q es path.2)
      ∙ sym (append_assoc (begun_by new) (begun_by (batches_of es)) (left_at q.stage))
      ∙ ap (λ l. l ++ left_at q.stage)
      (sym (begun_by-append new (batches_of es)) ∙ ap begun_by (sym (batches_of-append (e ∷ []) es)))

  -- what suits a node suits a run
  path_planned : (plans : List Session) (heard : ℕ → List ℕ) (f : Facts) (p q : Place)
      (es : List Event) → Path (RunStep clients terms) p es q
      → AllSuitNode clients terms.first plans heard f (batches_of es)
      → AllSuitPlanned clients terms.first plans heard f (batches_of es)
  path_planned plans heard f p q [] path suits = tt
  path_planned plans heard f p q (Commit b ∷ es) path suits = (
    elim suits.0 [
      | inl plain ↦ absurd ((step_plans p path.0 (Commit b) path.1).plain plain)
      | inr planned ↦ planned
    ],
    path_planned plans heard (after_all f b) path.0 q es path.2 suits.1,
  )
  path_planned plans heard f p q (_ ∷ es) path suits =
      path_planned plans heard f path.0 q es path.2 suits

pub run_suits : StreamsGoOn → RecordsJoin → FrontsHaveFronts → (clients : Meaning) (terms : Terms) (sessions : List Session)
    (j : List (List Entry)) (events : List Event) (last : Place) → Legal clients j → Broken clients terms sessions (facts j) events last
    → AllSuitPlanned clients terms.first sessions (heard_at_place last) (facts j)
    (batches_of events)
run_suits go_on join fronts clients terms sessions j events last legal broken =
    let start = first_place sessions (facts j) in
    let first : ℕ = terms.first in
    let numbered : first ≡ (facts j).begun = broken.numbered in
    let begun : (facts j).begun ≡ first + 0 = omega (arith, numbered) in
    path_planned clients terms sessions (heard_at_place last)
    (facts j) start last events broken.path
    (free_path_suits go_on join fronts clients first sessions (heard_at_place last) 0
    (first_free (facts j)) (forget last) events (run_is_free clients terms start last events broken.path)
    (λ i. front_itself (heard_at_place last i))
    (subst (λ k. IsFreeSound clients k (first_free (facts j))) (sym numbered)
    (first_free_sound clients j legal)) begun
    (λ k i x number at.
    let same : k ≡ i = omega (arith, number) in
    subst₂ (λ l m. slice_get l m ≡ Some x)
    (sym (path_begins clients terms start last events broken.path)) same
    (get_front (begun_by (batches_of events)) (left_at last.stage) k x at)))

-- ---- as one of those that it was given

in_get : (xs : List Session) (i : ℕ) (x : Session) → slice_get xs i ≡ Some x → In x xs
in_get [] i x at = cc
in_get (y ∷ ys) zero x at = let same : y ≡ x = cc in inl (sym same)
in_get (y ∷ ys) (suc i) x at = inr (in_get ys i x at)

module _ (clients : Meaning) (first : ℕ) (plans : List Session) (heard : ℕ → List ℕ) where
  settling_suits : (f : Facts) (b : List Entry) → IsSettlingBatch clients f b
      → SuitsCourse clients first plans heard f b
  settling_suits f [] s = absurd (omega arith)
  settling_suits f (e ∷ es) s = by_entry e es (next_is_settling clients f e s.2.0) s
    where
      by_entry : (e : Entry) (es : List Entry) → IsSettlingEntry e
          → IsSettlingBatch clients f (e ∷ es) → SuitsCourse clients first plans heard f (e ∷ es)
      by_entry (entry.Judged id) es k s = s
      by_entry (entry.Deliver id) es k s = s
      by_entry (entry.Invalid id) es k s = s
      by_entry _ es k s = absurd k

  one_suits : (f : Facts) (b : List Entry) → IsOfCourse first plans heard f b → SuitsCourse clients first plans heard f b
  one_suits f (entry.Session s ∷ rest) is = in_get plans is.link s is.planned
  one_suits f (entry.Take s k ∷ rest) is = is
  one_suits f (entry.Out s now what ∷ rest) is = is
  one_suits f _ is = absurd is

  pub planned_suits : (f : Facts) (bs : List (List Entry)) → AllSuitPlanned clients first plans heard f bs
      → AllSuitCourse clients first plans heard f bs
  planned_suits f [] suits = tt
  planned_suits f (b ∷ bs) suits = (
    elim suits.0 [
      | inl settles ↦ settling_suits f b settles
      | inr of_run ↦ one_suits f b of_run
    ],
    planned_suits (after_all f b) bs suits.1,
  )
