-- A session that begins on the next link, as acts of a run.
use Rattle.std.proofs.Common.{◌≡◌, ◌≢◌, ℕ, suc, ◌+◌, ◌<◌, Bool, false, true, nat_eq, cond, List, [], ◌∷◌, ◌++◌, length, refl, sym, ap, ◌∙◌, subst, arith, Some, None, eq-eqb, Option, ◌⊎◌, ◌≤◌, append-nil, inl, inr, Result, Ok, Err}
use Rattle.std.specs.List.{AllByRecursion}
use Rattle.std.proofs.lemmas.Bool.{ne_eqb}
use Rattle.record_grammar.specs.Spelling.{spelled, spelling}
use Rattle.record_stream.specs.Reading.{ReaderState, AwaitsBytes, fresh_reader}
use Rattle.sync_rules.specs.declared.entries.Entry.{Entry}
use Rattle.sync_rules.specs.declared.entries.Session.{Session}
use Rattle.sync_rules.specs.Clients.{Meaning}
use Rattle.sync_rules.specs.Facts.{Facts, after_all, facts, session_at}
use Rattle.sync_rules.specs.Legal.{Allowed, suits_nonce}
use Rattle.sync_rules.specs.Output.{first_records, nonce_record}
use Rattle.sync_rules.proofs.SessionLaws.{legal_sessions}
use Rattle.sync_course.specs.Links.{link_of}
use Rattle.sync_course.specs.declared.ends.LinkEnd.{LinkEnd}
use Rattle.sync_node.specs.declared.link.Link.{Link}
use Rattle.sync_node.specs.Courses.{link_at, links_from, IsLinkRead, place_at, place_with}
use Rattle.journal_state.specs.Whole.{StateValue}
use Rattle.std.specs.Prelude.{IfErr, IfSome, IsErrAnd, OnErr, slice_get, OnOk}
use Rattle.entry_codec.specs.Standing.{room_of}
use Rattle.outside.specs.declared.failed.Failed.{Failed}
use Rattle.outside.specs.declared.limits.TheConstants.{MAX_JOURNAL}
use Rattle.outside.specs.Host.{SendsOnLink}
use Rattle.outside.specs.Outside.{Outside}
use Rattle.outside.proofs.RunLaws.{front_same}
use Rattle.outside.specs.Files.{Two, File}
use Rattle.sync_store.specs.Fitting.{FitsFiles, ImagesStand}
use Rattle.sync_store.specs.Ready.{IsReady}
use Rattle.sync_store.specs.Store.{StoreValue, written_in}
use Rattle.sync_course.specs.Acts.{Act, Does, Fail, Send, commit_acts}
use Rattle.sync_course.specs.Events.{Commit}
use Rattle.sync_course.specs.Owing.{Owing, adds_to, paid}
use Rattle.sync_course.specs.Paths.{Path}
use Rattle.sync_course.specs.Reading.{HasRead}
use Rattle.sync_course.specs.Turns.{Attaches, Greets, Place, Terms, attached, unattached}
use Rattle.sync_course.proofs.ReadingLaws.{fresh_has_read}
use Rattle.sync_course.proofs.RunLaws.{get_push_cases}
use Rattle.sync_node.specs.declared.fault.Fault.{Fault}
use Rattle.sync_node.specs.declared.limits.TheConstants.{MOST_LINKS}
use Rattle.sync_node.specs.Batches.{CommitStops, Committed, IsUndoneBy}
use Rattle.sync_node.specs.Did.{Did}
use Rattle.sync_node.specs.OnRuns.{BeginStopped, BeginWent, GreetsBy, IsGreeting, RunActs, RunStopped, RunWent, StartStopped, StartWent, StartWentLast, StartWorks}
use Rattle.sync_node.specs.Keeps.{stop_of}
use Rattle.sync_node.specs.Sending.{EndsBy, SendsOn}
use Rattle.sync_node.specs.Starting.{SessionBegan}
use Rattle.sync_node.proofs.CourseRuns.{length_from}
use Rattle.sync_node.proofs.DidLaws.{did_then}
use Rattle.sync_node.proofs.KeepLaws.{commit_left, start_stops as leaves_by, was, session_batch}
use Rattle.sync_node.proofs.OutLaws.{all_paid, still_so}
use Rattle.sync_node.proofs.PrimLaws.{did_fail, did_send, off_link, on_link}
use Rattle.sync_node.proofs.SafeLaws.{goes_none}
use Rattle.sync_node.proofs.WentLaws.{commit_stopped, has_now, no_memory}
use Rattle.std.proofs.lemmas.List.{length-append}
use Rattle.sync_rules.proofs.Continuing.{continues_all}
use Rattle.sync_rules.specs.declared.limits.TheConstants.{MAX_SESSIONS}
use Rattle.sync_rules.specs.Steps.{IsSettled}
use Rattle.sync_node.specs.Going.{LetsNothingFall}
use Rattle.sync_node.specs.Causes.{LinksGo, PushesOne}
use Rattle.sync_node.specs.Faults.{answer_of, has_failed}
use Rattle.sync_node.specs.Node.{AreAttached, IsAside, IsAttached, MayGoOn, NodeValue}
use Rattle.sync_node.proofs.CallLaws.{never}
use Rattle.sync_node.proofs.CauseLaws.{links_go_push, links_go_same}
use Rattle.sync_node.specs.declared.fault.NodeFault.{NodeFault}
use Rattle.sync_ids.specs.declared.records.Record.TheVariants as record_kind
use Rattle.sync_course.specs.Links as course_links
use Rattle.sync_course.specs.declared.ends.LinkEnd.TheVariants as link_end
use Rattle.sync_node.specs.declared.fault.Fault.TheVariants as fault

-- a list whose length is 0
pub none_long : (xs : List ℕ) → length xs ≡ 0 → xs ≡ []
none_long [] long = refl
none_long (x ∷ xs) long = absurd (omega arith)

-- no session of a list has a number that all are below
pub none_below : (n : ℕ) (ss : List Session) → AllByRecursion (λ (s : Session). s.number < n) ss
    → session_at ss n ≡ None
none_below n [] below = refl
none_below n (s ∷ ss) below =
    let first : s.number < n = below.0 in
    let apart : s.number ≢ n = λ same. absurd (omega arith) in
    ap (λ b. cond b (Some s) (session_at ss n)) (ne_eqb s.number n apart) ∙ none_below n ss below.1

-- a session that was committed is there
session_there : (ss : List Session) (x : Session) → session_at (ss ++ x ∷ []) x.number ≡ None → ⊥
session_there [] x none =
    let found : session_at ([] ++ x ∷ []) x.number ≡ Some x = ap (λ b. cond b (Some x) None) (eq-eqb x.number x.number refl) in
    let e : Some x ≡ None = sym found ∙ none in
    cc
session_there (y ∷ ss) x none =
    elim (nat_eq y.number x.number) as (λ b. cond b (Some y) (session_at (ss ++ x ∷ []) x.number) ≡ None → ⊥) [
      | true ↦ λ is. cc
      | false ↦ λ is. session_there ss x is
    ] none

pub session_found : (x : Session) (batch : List Entry) (f f1 : Facts) → batch ≡ session_batch x
    → f1 ≡ after_all f batch → None ≡ session_at f1.sessions x.number → ⊥
session_found x batch f f1 is facts none =
    let begun : f1 ≡ after_all f (session_batch x) =
    facts ∙ ap (λ (b : List Entry). after_all f b) is in
    session_there f.sessions x
    (sym (none ∙ ap (λ (g : Facts). session_at g.sessions x.number) begun))

-- what is spelled is what the session begins with
pub first_bytes : (x : Session) (versions priority : List ℕ)
    → versions ≡ spelling (record_kind.Versions (0 ∷ []))
    → priority ≡ spelled (nonce_record x.nonce)
    → versions ++ priority ≡ spelled (first_records x)
first_bytes x versions priority is also =
    ap (λ (v : List ℕ). v ++ priority) is ∙ ap (λ (p : List ℕ). spelling (record_kind.Versions (0 ∷ [])) ++ p) also

-- ---- the session that was committed

session_last : (ss : List Session) (x : Session) → session_at ss x.number ≡ None
    → session_at (ss ++ x ∷ []) x.number ≡ Some x
session_last [] x none = ap (λ (b : Bool). cond b (Some x) None) (eq-eqb x.number x.number refl)
session_last (y ∷ ss) x none =
    elim (nat_eq y.number x.number) as (λ b. cond b (Some y) (session_at ss x.number) ≡ None → cond b (Some y) (session_at (ss ++ x ∷ []) x.number) ≡ Some x) [
      | true ↦ λ is. cc
      | false ↦ λ is. session_last ss x is
    ] none

-- no session of a journal that a disk fits has the next number
pub free_next : (clients : Meaning) (s : StoreValue) (j : List (List Entry)) (two : Two File)
    → FitsFiles clients s j two
    → session_at s.state.facts.sessions s.state.facts.begun ≡ None
free_next clients s j two fits =
    subst (λ (g : Facts). session_at g.sessions g.begun ≡ None) fits.facts_are
    (none_below (facts j).begun (facts j).sessions (legal_sessions clients j fits.legal).below)

pub begun_is : (f f' : Facts) (x begun : Session) → session_at f.sessions x.number ≡ None
    → f' ≡ after_all f (session_batch x)
    → Some begun ≡ session_at f'.sessions x.number → begun ≡ x
begun_is f f' x begun free facts_are found =
    let there : Some begun ≡ Some x =
    found ∙ ap (λ (g : Facts). session_at g.sessions x.number) facts_are ∙ session_last f.sessions x free in
    cc

-- ---- the link of a session that begins

pub begins_as : {x begun : Session} {reader : ReaderState} {l : Link} {e : LinkEnd} → begun ≡ x
    → l ≡ record { session = begun; reader = reader; nonce = begun.nonce; end = e }
    → link_of x e ≡ link_at l []
begins_as {e = e} same is_l =
    ap (λ (y : Session). link_of y e) (sym same) ∙ ap (λ (y : Link). link_at y []) (sym is_l)

-- behind the links of a node
pub push_from : (k : ℕ) (links : List Link) (l : Link) (heard : ℕ → List ℕ)
    → links_from k (links ++ l ∷ []) heard ≡ links_from k links heard ++ link_at l (heard (k + length links)) ∷ []
push_from k [] l heard =
    let here : k ≡ k + 0 = omega arith in
    ap (λ (j : ℕ). link_at l (heard j) ∷ []) here
push_from k (y ∷ links) l heard =
    let later : suc k + length links ≡ k + suc (length links) = omega arith in
    ap (λ (ls : List course_links.Link). link_at y (heard k) ∷ ls)
    (push_from (suc k) links l heard ∙ ap (λ (j : ℕ). links_from (suc k) links heard ++ link_at l (heard j) ∷ []) later)

-- what the state that a store lends tells is so of the store
pub session_told : (s t : StateValue) (number : ℕ) (found : Option Session) → t ≡ s → found ≡ session_at t.facts.sessions number → found ≡ session_at s.facts.sessions number
session_told s t number found same is = is ∙ ap (λ (v : StateValue). session_at v.facts.sessions number) same

-- ---- a greeting

pub greeted_once : ImagesStand → (n : ℕ) (first second : List ℕ) (l l' : Link) (o o' : Outside)
    → n < o.links.dialled → SendsOn n first l l' o o' → (l' ≡ l → second ≡ [])
    → GreetsBy n first second l l' o o'
greeted_once stand n first second l l' o o' within sends over =
    by_result sends.result sends.sends sends.ends
  where
    by_result : (result : Result (Unit {0}) Failed) → SendsOnLink n first result o.links o'.links
        → EndsBy result l l' → GreetsBy n first second l l' o o'
    by_result (Ok u) went ends = record {
      acts = Send n first ∷ [];
      is = inl (refl, over ends, ends);
      sent = inl ends;
      same_files = sends.call.same_files;
      did = λ clients s roomy. did_send stand clients n first s o o' roomy within sends.call u went;
    }
    by_result (Err why) went ends = record {
      acts = Fail n first went.sent.0 ∷ [];
      is = inr (inr (inl (went.sent.0, refl, ends)));
      sent = inr ends;
      same_files = sends.call.same_files;
      did = λ clients s roomy. did_fail stand clients n first s o o' roomy within sends.call why went;
    }

pub greeted_twice : ImagesStand → (n : ℕ) (first second : List ℕ) (l mid l' : Link)
    (o o1 o' : Outside) → n < o.links.dialled → n < o1.links.dialled → mid.end ≢ link_end.Failed
    → SendsOn n first l mid o o1 → SendsOn n second mid l' o1 o'
    → GreetsBy n first second l l' o o'
greeted_twice stand n first second l mid l' o o1 o' within within1 unfailed one two =
    by_results one.result two.result one.sends one.ends two.sends two.ends
  where
    by_results : (a b : Result (Unit {0}) Failed) → SendsOnLink n first a o.links o1.links
        → EndsBy a l mid → SendsOnLink n second b o1.links o'.links → EndsBy b mid l'
        → GreetsBy n first second l l' o o'
    by_results (Ok u) (Ok v) went ends went' ends' = record {
      acts = Send n first ∷ (Send n second ∷ []);
      is = inr (inl (refl, ends' ∙ ends));
      sent = inl (ends' ∙ ends);
      same_files = two.call.same_files ∙ one.call.same_files;
      did = λ clients s roomy.
          did_then
          (did_send stand clients n first s o o1 roomy within one.call u went)
          (did_send stand clients n second s o1 o' roomy within1 two.call v went');
    }
    by_results (Ok u) (Err why) went ends went' ends' =
        let failed : l' ≡ record l { end = link_end.Failed } =
        ends' ∙ ap (λ (x : Link). record x { end = link_end.Failed }) ends in
        record {
          acts = Send n first ∷ (Fail n second went'.sent.0 ∷ []);
          is = inr (inr (inr (went'.sent.0, refl, failed)));
          sent = inr failed;
          same_files = two.call.same_files ∙ one.call.same_files;
          did = λ clients s roomy.
              did_then
              (did_send stand clients n first s o o1 roomy within one.call u went)
              (did_fail stand clients n second s o1 o' roomy within1 two.call why went');
        }
    by_results (Err why) b went ends went' ends' = absurd (unfailed (ap (λ (x : Link). x.end) ends))

-- ---- what is owed by a session that begins

module _ (clients : Meaning) (x : Session) (s : StoreValue) (o : Outside) (batch : List Entry) (is : batch ≡ session_batch x)
    (allowed : Allowed clients s.state.facts (session_batch x)) where
  module _ (terms : Terms) (left : List Session) (links : List course_links.Link) (moved : Bool)
      (still made : ℕ) where
    abbrev before_at : Place
    before_at = place_with (Attaches (x ∷ left)) links moved still made s.state.facts

    abbrev greets_at : Place
    greets_at =
        place_with (Greets x left) links moved still made (after_all s.state.facts (session_batch x))

    abbrev owing_greeting : Owing Place
    owing_greeting = record { at = greets_at; owed = adds_to s.state.facts terms.first (Commit (session_batch x)) }

    begin_step : RunActs clients terms (paid before_at) (Does (Commit (session_batch x))) owing_greeting
    begin_step = (tt, (refl, allowed, refl), λ link. refl)

    pub start_stops : (s' : StoreValue) (o' : Outside) (e : Fault)
        → CommitStops clients batch s s' o o' e
        → RunStopped clients terms before_at links s s' o o' e
    start_stops s' o' e stops =
        commit_stopped clients (RunActs clients terms) (λ (q : Owing Place). q.at.links ≡ links) (paid before_at) owing_greeting
        (session_batch x) (λ link. refl) begin_step refl s s' o o' e
        (subst (λ (b : List Entry). CommitStops clients b s s' o o' e) is stops)

    module _ (n : ℕ) (long : length links ≡ n) (numbered : x.number ≡ terms.first + n)
        (first second : List ℕ) (bytes : first ++ second ≡ spelled (first_records x)) where
      owed_here : adds_to s.state.facts terms.first (Commit (session_batch x)) n ≡ first ++ second
      owed_here = ap spelled (append-nil _ ∙ on_link x.number (terms.first + n) (first_records x) numbered) ∙ sym bytes

      owed_off : (link : ℕ) → link ≢ n
          → adds_to s.state.facts terms.first (Commit (session_batch x)) link ≡ []
      owed_off link other =
          ap spelled (append-nil _ ∙ off_link x.number (terms.first + link) (first_records x)
          (λ same. other (omega (arith, same, numbered))))

      -- the second part is owed still
      abbrev owing_second : Owing Place
      owing_second = record {
        at = greets_at;
        owed = λ link. cond (nat_eq n link) second (adds_to s.state.facts terms.first (Commit (session_batch x)) link);
      }

      -- nothing is owed on the link any more
      paid_once : (link : ℕ)
          → [] ≡ cond (nat_eq n link) [] (adds_to s.state.facts terms.first (Commit (session_batch x)) link)
      paid_once link = all_paid n link _ (owed_off link)

      paid_now : (rest : List ℕ) (link : ℕ)
          → [] ≡ cond (nat_eq n link) []
          (cond (nat_eq n link) rest
          (adds_to s.state.facts terms.first (Commit (session_batch x)) link))
      paid_now rest link =
          all_paid n link _
          (λ other.
          ap (λ (b : Bool).
          cond b rest (adds_to s.state.facts terms.first (Commit (session_batch x)) link))
          (ne_eqb n link (λ same. other (sym same)))
          ∙ owed_off link other)

      second_here : cond (nat_eq n n) second (adds_to s.state.facts terms.first (Commit (session_batch x)) n) ≡ second
      second_here =
          ap (λ (b : Bool). cond b second (adds_to s.state.facts terms.first (Commit (session_batch x)) n)) (eq-eqb n n refl)

      sends_first : RunActs clients terms owing_greeting (Send n first) owing_second
      sends_first = inr (record { rest = second; parts = owed_here; stays = refl; left = λ link. refl })

      -- how the greeting goes on from where the session has begun
      greets_by : (l l' : Link) (acts : List Act) → IsGreeting n first second l l' acts
          → ((l' ≡ l) × Path (RunActs clients terms) owing_greeting acts (paid (attached x left greets_at)))
          ⊎ ((l' ≡ record l { end = link_end.Failed })
          × Path (RunActs clients terms) owing_greeting acts (paid (unattached x left greets_at)))
      greets_by l l' acts greeting = elim greeting [
        | inl one ↦
            let bytes_are : first ≡ adds_to s.state.facts terms.first (Commit (session_batch x)) n =
            sym (owed_here ∙ ap (λ (b : List ℕ). first ++ b) one.1 ∙ append-nil first) in
            inl (
              one.2,
              subst (λ (done : List Act). Path (RunActs clients terms) owing_greeting done (paid (attached x left greets_at))) (sym one.0)
                  (paid (attached x left greets_at), inl (bytes_are, refl, paid_once), refl),
            )
        | inr others ↦ elim others [
          | inl both ↦
              inl (
                both.1,
                subst (λ (done : List Act). Path (RunActs clients terms) owing_greeting done (paid (attached x left greets_at))) (sym both.0)
                    (owing_second, sends_first, (paid (attached x left greets_at), inl (sym second_here, refl, paid_now second), refl)),
              )
          | inr failed ↦ elim failed [
            | inl at_first ↦
                inr (
                  at_first.2,
                  subst (λ (done : List Act). Path (RunActs clients terms) owing_greeting done (paid (unattached x left greets_at))) (sym at_first.1)
                      (paid (unattached x left greets_at), (record { rest = second; whole = owed_here }, (sym long, refl), paid_once), refl),
                )
            | inr at_second ↦
                inr (
                  at_second.2,
                  subst (λ (done : List Act). Path (RunActs clients terms) owing_greeting done (paid (unattached x left greets_at))) (sym at_second.1)
                      (owing_second, sends_first, (paid (unattached x left greets_at), (front_same _ _ second_here, (sym long, refl), paid_now second), refl)),
                )
          ]
        ]
      ]

      module _ (s1 : StoreValue) (o1 o2 : Outside) (commits : Committed clients batch s s1 o o1)
          (roomy : s1.end + room_of (written_in s1) s1.state.facts ≤ MAX_JOURNAL) (begun : Session) (reader : ReaderState) (same : begun ≡ x)
          (l : Link) (greets : GreetsBy n first second (record { session = begun; reader = reader; nonce = begun.nonce; end = link_end.Going }) l o1 o2) where
        facts_are : after_all s.state.facts (session_batch x) ≡ s1.state.facts
        facts_are = ap (after_all s.state.facts) (sym is) ∙ sym commits.facts

        goes_by : (q : Place) → Path (RunActs clients terms) owing_greeting greets.acts (paid q)
            → RunWent clients terms before_at q s s1 o o2
        goes_by q path = record {
          acts = Does (Commit (session_batch x)) ∷ greets.acts;
          path = (owing_greeting, begin_step, path);
          did =
              did_then
              (subst (λ (b : List Entry). Did clients (commit_acts (b ∷ [])) s s1 o o1) is commits.did)
              (greets.did clients s1 roomy);
        }

        -- the link behind the others, once the greeting is over
        ended_so : (e : LinkEnd)
            → l ≡ record { session = begun; reader = reader; nonce = begun.nonce; end = e }
            → Path (RunActs clients terms) owing_greeting greets.acts
            (paid (record greets_at { stage = Attaches left; links = links ++ link_of x e ∷ [] }))
            → RunWent clients terms before_at
            (place_with (Attaches left) (links ++ link_at l [] ∷ []) moved still made s1.state.facts)
            s s1 o o2
        ended_so e is_l path =
            subst (λ (f : Facts). RunWent clients terms before_at
            (place_with (Attaches left) (links ++ link_at l [] ∷ []) moved still made f) s s1 o o2)
            facts_are
            (subst (λ (k : course_links.Link). RunWent clients terms before_at
            (record greets_at { stage = Attaches left; links = links ++ k ∷ [] }) s s1 o o2)
            (begins_as same is_l) (goes_by _ path))

        pub starts_there : RunWent clients terms before_at
            (place_with (Attaches left) (links ++ link_at l [] ∷ []) moved still made s1.state.facts)
            s s1 o o2
        starts_there = elim (greets_by _ l greets.acts greets.is) [
          | inl went ↦ ended_so link_end.Going went.0 went.1
          | inr failed ↦ ended_so link_end.Failed failed.0 failed.1
        ]

  pub start_stopped : (s' : StoreValue) (o' : Outside) (e : Fault)
      → CommitStops clients batch s s' o o' e → StartStopped clients x s s' o o' e
  start_stopped s' o' e stops = record {
    stops = λ terms left links moved still made. start_stops terms left links moved still made s' o' e stops;
  }

  -- by the commit
  pub starts_broke : {H : Type 0} (s' : StoreValue) (host host' : H) (o' : Outside) (e : Fault)
      → CommitStops clients batch s s' o o' e → IsUndoneBy s s' host host' e
      → StartWorks clients x s s' host host' o o' (Some e)
  starts_broke s' host host' o' e stops undone =
      let left = commit_left clients batch s s' o o' e stops in
      record {
        goes = left.goes;
        same_limit = left.same_limit;
        same_format = left.same_format;
        stopped = start_stopped s' o' e stops;
        stops = leaves_by clients batch s s' host host' o o' e stops undone;
      }

  pub start_went : (n : ℕ) (first second : List ℕ) (begun : Session) (reader : ReaderState)
      (l : Link) (s1 : StoreValue) (o1 o2 : Outside) → Committed clients batch s s1 o o1
      → s1.end + room_of (written_in s1) s1.state.facts ≤ MAX_JOURNAL
      → first ++ second ≡ spelled (first_records x)
      → Some begun ≡ session_at s1.state.facts.sessions x.number
      → reader ≡ fresh_reader → AwaitsBytes fresh_reader
      → GreetsBy n first second (record { session = begun; reader = reader; nonce = begun.nonce; end = link_end.Going }) l o1 o2
      → SessionBegan clients n x l s s1 o o2 → StartWent clients n x l s s1 o o2
  start_went n first second begun reader l s1 o1 o2 commits roomy bytes found is_fresh awaits greets has =
      let as_is : s1.state.facts ≡ after_all s.state.facts (session_batch x) = commits.facts ∙ ap (λ (b : List Entry). after_all s.state.facts b) is in
      record {
        begun = has;
        facts = as_is;
        has_read =
            still_so (HasRead []) _ l greets.sent
            (λ _. subst (λ (r : ReaderState). HasRead [] r) (sym is_fresh)
            (fresh_has_read awaits awaits.nothing));
        went = λ free terms left links moved still made long numbered.
            let same : begun ≡ x =
            begun_is s.state.facts s1.state.facts x begun free as_is found in
            starts_there terms left links moved still made n long numbered first second bytes s1 o1 o2 commits roomy begun reader same l greets;
      }

-- a fault that was handed on
pub starts_was : {H T : Type 0} {clients : Meaning} {x : Session} {s s' : StoreValue} {host host' : H}
    {o o' : Outside} (r : Result T Fault) (e : Fault) → IsErrAnd r (λ y. y ≡ e)
    → StartWorks clients x s s' host host' o o' (Some e)
    → StartWorks clients x s s' host host' o o' (stop_of r)
starts_was {T = T} {clients = clients} {x = x} {s = s} {s' = s'} {host = host} {host' = host'} {o =
    o} {o' = o'} r e is works =
    was r e (λ (y : Result T Fault). StartWorks clients x s s' host host' o o' (stop_of y)) is works

-- memory was wanting before anything was done
pub starts_memory : {H T : Type 0} {clients : Meaning} {x : Session} {s : StoreValue} {host : H}
    {o : Outside} (r : Result T Fault) → IsErrAnd r (λ y. y ≡ fault.Memory)
    → IsReady clients s o.files → StartWorks clients x s s host host o o (stop_of r)
starts_memory {clients = clients} {x = x} {s = s} {o = o} r is ready =
    starts_was r fault.Memory is (record {
      goes = goes_none o;
      same_limit = refl;
      same_format = refl;
      stopped = record {
        stops = λ terms left links moved still made.
            no_memory clients (RunActs clients terms) (λ (q : Owing Place). q.at.links ≡ links)
            (paid (place_with (Attaches (x ∷ left)) links moved still made s.state.facts)) s o
            (λ link. refl) ready
            (has_now (RunActs clients terms) (λ (q : Owing Place). q.at.links ≡ links)
            (paid (place_with (Attaches (x ∷ left)) links moved still made s.state.facts)) refl);
      };
      stops = record {
        ready = ready;
        undone = record {
          stays = record { facts = refl; answers = refl; file = refl; format = refl; generation = refl; end = refl; waiting = refl; limit = refl; closed = refl };
          same_host = refl;
        };
      };
    })

-- ---- behind the links of a node

module _ (clients : Meaning) (x y : Session) (is : x ≡ y) (links : List Link) (s : StoreValue)
    (o o' : Outside) where
  pub begin_went : (n : ℕ) (links' : List Link) (s' : StoreValue) → length links ≡ n
      → StartWentLast clients n x links links' s s' o o'
      → BeginWent clients y links links' s s' o o'
  begin_went n links' s' last behind =
      subst (λ (z : Session). BeginWent clients z links links' s s' o o') is (record {
        facts = behind.starts.facts;
        has_read = λ heard none read i y there.
            elim (get_push_cases links behind.link i y
            (subst (λ (ls : List Link). slice_get ls i ≡ Some y) behind.pushed there)) [
              | inl old ↦ read i y old
              | inr new ↦
                  subst (λ (k : ℕ). IsLinkRead (heard k) y) (sym new.0)
                  (subst (λ (bytes : List ℕ). IsLinkRead bytes y) (sym none)
                  (subst (IsLinkRead []) (sym new.1) behind.starts.has_read))
            ];
        went = λ free terms left heard moved still made none numbered.
            let plain : length links ≡ 0 + length links = omega arith in
            let ends : links_from 0 links heard ++ link_at behind.link [] ∷ []
            ≡ links_from 0 links' heard =
            ap (λ (bytes : List ℕ). links_from 0 links heard ++ link_at behind.link bytes ∷ [])
            (sym none)
            ∙ ap (λ (j : ℕ). links_from 0 links heard ++ link_at behind.link (heard j) ∷ []) plain
            ∙ sym (push_from 0 links behind.link heard)
            ∙ ap (λ (ls : List Link). links_from 0 ls heard) (sym behind.pushed) in
            subst
            (λ (ls : List course_links.Link).
            RunWent clients terms
            (place_at (Attaches (x ∷ left)) links heard moved still made s.state.facts)
            (place_with (Attaches left) ls moved still made s'.state.facts) s s' o o')
            ends
            (behind.starts.went free terms left (links_from 0 links heard) moved still made
            (length_from 0 links heard ∙ last)
            (numbered ∙ ap (λ (k : ℕ). terms.first + k) last));
      })

  pub begin_stopped : {T : Type 0} (links' : List Link) (s' : StoreValue) (work : Result T Fault)
      → OnErr work (links' ≡ links) → IfSome (stop_of work) (StartStopped clients x s s' o o')
      → IfErr work (BeginStopped clients y links links' s s' o o')
  begin_stopped links' s' (Ok u) same stopped = tt
  begin_stopped links' s' (Err e) same stopped =
      subst (λ (z : Session). BeginStopped clients z links links' s s' o o' e) is (record {
        stops = λ terms left heard moved still made.
            subst (λ (ls : List Link).
            RunStopped clients terms
            (place_at (Attaches (x ∷ left)) links heard moved still made s.state.facts)
            (links_from 0 ls heard) s s' o o' e)
            (sym same) (stopped.stops terms left (links_from 0 links heard) moved still made);
      })

-- a session of a plan may begin
pub plan_allowed : (clients : Meaning) (f : Facts) (x : Session) → IsSettled clients f
    → x.number ≡ f.begun → f.begun < MAX_SESSIONS → x.contact < f.contacts → 1 ≤ x.latency
    → suits_nonce x.mode x.nonce ≡ true
    → Allowed clients f (session_batch x)
plan_allowed clients f x settled number few contact latency nonce = (
  refl,
  settled,
  record {
    numbered = number;
    few = subst (λ (n : ℕ). n < MAX_SESSIONS) (sym number) few;
    known_contact = contact;
    some_latency = latency;
    suited_nonce = nonce;
  },
)

module _ (clients : Meaning) (first link : ℕ) (x : Session) (links : List Link) (l : Link)
    (s s' : StoreValue) (o o' : Outside) (attached : AreAttached first links s.state.facts)
    (number : x.number ≡ s.state.facts.begun) (last : length links ≡ link)
    (facts : s'.state.facts ≡ after_all s.state.facts (session_batch x))
    (begun : SessionBegan clients link x l s s' o o') where
  attached_push : AreAttached first (links ++ l ∷ []) s'.state.facts
  attached_push = record {
    begun =
        let one : s'.state.facts.begun ≡ s.state.facts.begun + 1 = ap (λ (f : Facts). f.begun) facts in
        let long : length (links ++ l ∷ []) ≡ length links + 1 = length-append links (l ∷ []) in
        omega (arith, one, long, attached.begun);
    each = λ n y there. elim (get_push_cases links l n y there) [
      | inl here ↦
          let was = attached.each n y here in
          record {
            numbered = was.numbered;
            known = ap (λ (f : Facts). session_at f.sessions y.session.number) facts
                ∙ (continues_all s.state.facts (session_batch x)).same_session y.session.number y.session was.known;
            waits = was.waits;
          }
      | inr end ↦
          let mine : IsAttached first s'.state.facts link l = record {
            numbered = omega (arith, begun.numbered, number, attached.begun, last);
            known = begun.known;
            waits = begun.waits;
          } in
          subst (λ (k : ℕ). IsAttached first s'.state.facts k y) (sym (end.0 ∙ last))
          (subst (λ (z : Link). IsAttached first s'.state.facts link z) (sym end.1) mine)
    ];
  }

-- ---- what a call that is to begin a session came to

pub record AttachComes (clients : Meaning) (n n' : NodeValue) (o o' : Outside)
    (work : Result (Unit {0}) Fault) : Type 0 where
  pub node : IsAside n'
  pub go : LinksGo n.links n'.links o o'
  pub pushes : (result : Result (Unit {0}) NodeFault) → result ≡ answer_of work
      → PushesOne result n.links n'.links
  pub may : OnOk work (MayGoOn clients n'.links n'.store o')

module _ (clients : Meaning) (link : ℕ) (x : Session) (o o' : Outside) {first : ℕ}
    {links links' : List Link} {closed closed' : Bool} {s s' : StoreValue}
    (node : IsAside (record { store = s; first = first; links = links; closed = closed }))
    (opened : closed ≡ false) (number : x.number ≡ s.state.facts.begun)
    (last : length links ≡ link) (few : link < MOST_LINKS) (dialled : link < o.links.dialled)
    (goes : LetsNothingFall o o') where
  pub attach_comes : (work : Result (Unit {0}) Fault) → closed' ≡ has_failed work
      → OnOk work (StartWentLast clients link x links links' s s' o o')
      → OnErr work (links' ≡ links)
      → AttachComes clients (record { store = s; first = first; links = links; closed = closed })
      (record { store = s'; first = first; links = links'; closed = closed' }) o o' work
  attach_comes (Ok u) is behind same =
      let longer : length links' ≡ length links + 1 =
      ap (λ (ls : List Link). length ls) behind.pushed
      ∙ length-append links (behind.link ∷ []) in
      record {
        node = record {
          few = omega (arith, longer, last, few);
          attached = λ _.
              subst (λ (ls : List Link). AreAttached first ls s'.state.facts) (sym behind.pushed)
              (attached_push clients first link x links behind.link s s' o o'
              (node.attached opened) number last behind.starts.facts behind.starts.begun);
        };
        go =
            links_go_push link links links' behind.link o o' last behind.pushed goes
            behind.starts.begun.cause;
        pushes = λ result answer.
            subst (λ (r : Result (Unit {0}) NodeFault). PushesOne r links links') (sym answer)
            (behind.link, behind.pushed);
        may = record {
          ready = behind.starts.begun.ready;
          settled = λ _. behind.starts.begun.settled;
          dialled = omega (arith, dialled, last, longer, goes.links.dialled);
        };
      }
  attach_comes (Err e) is behind same = record {
    node = record {
      few = omega (arith, ap (λ (ls : List Link). length ls) same, node.few);
      attached = never closed' is;
    };
    go = links_go_same links links' o o' same goes;
    pushes = λ result answer.
        subst (λ (r : Result (Unit {0}) NodeFault). PushesOne r links links') (sym answer) same;
    may = tt;
  }
