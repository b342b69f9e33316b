-- What every place of a node keeps: its journal is legal, the sessions that began are those of its links, and on each link the
-- records taken are a front of those heard.
use Rattle.std.proofs.Common.{◌≡◌, ℕ, zero, suc, ◌+◌, cond, List, [], ◌∷◌, ◌++◌, length}
use Rattle.std.proofs.Common.{length-append, refl, sym, ◌∙◌, ap, subst, subst₂, inl, inr, arith}
use Rattle.std.proofs.Common.{Option, Some, ◌<◌, Bool, true, false, None}
use Rattle.std.proofs.Common.{append-nil, append_assoc}
use Rattle.std.specs.Prelude.{slice_get, slice_set}
use Rattle.record_grammar.specs.Laws.{RecordsJoin, StreamsGoOn}
use Rattle.sync_rules.specs.declared.entries.Entry.{Entry}
use Rattle.sync_rules.specs.declared.entries.Session.{Session}
use Rattle.sync_rules.specs.Clients.{Meaning}
use Rattle.sync_rules.specs.Facts.{Facts, after_all, facts, takes_of, after_batches, session_at}
use Rattle.sync_rules.specs.Legal.{Legal, Allowed, GoesOn}
use Rattle.sync_course.specs.declared.ends.LinkEnd.{LinkEnd}
use Rattle.sync_course.specs.Events.{Event, batches_of}
use Rattle.sync_course.specs.Free.{Begins, Free, FreeStep, Hold, Holds, IsNothingUnderWay, Rests}
use Rattle.sync_course.specs.Free.{first_free, forget, hold_at, joined_by, spot_in}
use Rattle.sync_course.specs.Links.{Link, closed_from, link_of}
use Rattle.sync_course.specs.Links.{is_going, closes, items_after, link_after_take, new_items}
use Rattle.sync_course.specs.Links.{stands_behind}
use Rattle.sync_course.specs.LinkTurns.{LinkStep, Spot, next_take}
use Rattle.sync_course.specs.Paths.{Path}
use Rattle.sync_course.specs.Pending.{pending, pending_at}
use Rattle.sync_course.specs.Turns.{Broken, Place, RunStep, Settles, Stage, Terms, first_place}
use Rattle.sync_course.proofs.FreeLaws.{run_is_free}
use Rattle.sync_course.specs.Suits.{IsCounted, keeps_all}
use Rattle.sync_course.proofs.RunLaws.{cond_self, moves_none, moves_then, settled_begun, Moves}
use Rattle.sync_course.proofs.RunLaws.{new_items_follow, settled_takes, takes_by}
use Rattle.sync_course.proofs.FreeSteps.{held_pends, step_adds, Closed, Joined, Kept, LinkGoes, Stepped}
use Rattle.sync_course.proofs.FreeSteps.{free_by_cases, free_link, pending_in, plain_adds}
use Rattle.sync_course.proofs.ToldLaws.{batches_of-append}
use Rattle.record_grammar.specs.Stream.{items, parsed, records_of, ending, records}
use Rattle.sync_rules.specs.Consistency.{HasSessions}
use Rattle.sync_rules.proofs.Continuing.{legal-append, facts-append}
use Rattle.sync_rules.proofs.SessionLaws.{legal_sessions}
use Rattle.record_grammar.specs.declared.stream.Ending.{Ending}
use Rattle.record_grammar.specs.declared.stream.Item.{Item}
use Rattle.sync_ids.specs.declared.records.Record.{Record}
use Rattle.sync_course.proofs.LinkSteps.{link_by_cases}
use Rattle.sync_course.specs.declared.ends.LinkEnd.TheVariants as end
use Rattle.record_grammar.specs.declared.stream.Item.TheVariants as item

-- ---- the journal

module _ (clients : Meaning) (first : ℕ) where
  -- the batches of a path may follow one behind the other
  pub free_path_moves : (p q : Free) (es : List Event) → Path (FreeStep clients first) p es q
      → Moves clients (batches_of es) p.facts q.facts
  free_path_moves p q [] path = moves_none (ap (λ x. x.facts) path)
  free_path_moves p q (e ∷ es) path =
      subst (λ bs. Moves clients bs p.facts q.facts) (sym (batches_of-append (e ∷ []) es))
      (moves_then (step_adds clients first p path.0 e path.1).moves
      (free_path_moves path.0 q es path.2))

pub run_moves : (clients : Meaning) (terms : Terms) (p q : Place) (es : List Event)
    → Path (RunStep clients terms) p es q → Moves clients (batches_of es) p.facts q.facts
run_moves clients terms p q es path =
    free_path_moves clients terms.first (forget p) (forget q) es (run_is_free clients terms p q es path)

-- the facts are those of a legal journal
pub record IsOfJournal (clients : Meaning) (f : Facts) : Type 0 where
  pub journal : List (List Entry)
  pub legal : Legal clients journal
  pub facts_are : facts journal ≡ f

pub journal_moves : {clients : Meaning} {bs : List (List Entry)} {f g : Facts}
    → Moves clients bs f g → IsOfJournal clients f → IsOfJournal clients g
journal_moves {clients = clients} {bs = bs} m o = record {
  journal = o.journal ++ bs;
  legal =
      legal-append clients o.journal bs o.legal
      (subst (λ x. GoesOn clients x bs) (sym o.facts_are) m.goes_on);
  facts_are =
      facts-append o.journal bs ∙ ap (λ x. after_batches x bs) o.facts_are ∙ sym m.facts;
}

-- ---- counted links

takes_here : (clients : Meaning) (f : Facts) (session : ℕ) (r : Record) → Allowed clients f (next_take f session r)
    → takes_of (after_all f (next_take f session r)).takes session ≡ takes_of f.takes session + 1
takes_here clients f session r allowed =
    takes_by clients f session session r allowed
    ∙ cond_self session (takes_of f.takes session)

-- the same records heard and to be taken, where the link's records were all kept or need not be
pub counted_as : {f g : Facts} {session : ℕ} {its others : List Item} {link other : Link}
    → takes_of g.takes session ≡ takes_of f.takes session
    → records other.heard ≡ records link.heard → records_of others ≡ records_of its
    → (keeps_all other.stands ≡ true → keeps_all link.stands ≡ true)
    → IsCounted f session its link → IsCounted g session others other
counted_as taken heard pending keeps c = record {
  done = c.done;
  dropped = c.dropped;
  parts = heard ∙ c.parts ∙ ap (λ l. c.done ++ (l ++ c.dropped)) (sym pending);
  count = taken ∙ c.count;
  whole = λ k. c.whole (keeps k);
}

skipped_gives_none : (place type_byte len : ℕ) (its : List Item)
    → records_of its ≡ records_of (item.Skipped place type_byte len ∷ its)
unfolding records_of
skipped_gives_none place type_byte len its = refl

pub going_keeps : (stands : LinkEnd) → is_going stands ≡ true → keeps_all stands ≡ true
going_keeps (end.NoVersion place) is = cc
going_keeps end.Failed is = cc
going_keeps _ is = refl

behind_keeps : (stands : LinkEnd) (e : Ending) → keeps_all (stands_behind stands e) ≡ true → keeps_all stands ≡ true
behind_keeps (end.NoVersion place) e is = is
behind_keeps end.Failed e is = is
behind_keeps _ e is = refl

module _ (go_on : StreamsGoOn) (join : RecordsJoin) where
  -- bytes came
  counted_got : (f : Facts) (session : ℕ) (link : Link) (bytes : List ℕ) → keeps_all link.stands ≡ true → IsCounted f session [] link
      → IsCounted f session (new_items link.heard bytes) (record link { heard = link.heard ++ bytes })
  unfolding records_of
  counted_got f session link bytes keeps c =
      let none = c.whole keeps in
      let before : records link.heard ≡ c.done = c.parts ∙ ap (λ l. c.done ++ l) none ∙ append-nil c.done in
      record {
        done = c.done;
        dropped = [];
        parts =
            ap records_of (new_items_follow go_on link.heard bytes)
            ∙ join (items 0 link.heard) (new_items link.heard bytes)
            ∙ ap (λ l. l ++ records_of (new_items link.heard bytes)) before
            ∙ ap (λ l. c.done ++ l) (sym (append-nil (records_of (new_items link.heard bytes))));
        count = c.count;
        whole = λ k. refl;
      }

  -- a record is taken
  counted_taken : (f g : Facts) (session place : ℕ) (r : Record) (its : List Item) (link : Link)
      → takes_of g.takes session ≡ takes_of f.takes session + 1 → IsCounted f session (item.One place r ∷ its) link
      → IsCounted g session (items_after r its) (link_after_take place r link)
  unfolding records_of
  counted_taken f g session place r its link one c =
      let count : takes_of g.takes session ≡ length (c.done ++ r ∷ []) =
      one ∙ ap (λ n. n + 1) c.count ∙ sym (length-append c.done (r ∷ [])) in
      elim (closes r) as (λ b. IsCounted g session (cond b [] its)
      (record link {
        nonce = (link_after_take place r link).nonce;
        stands = cond b (end.NoVersion place) link.stands;
      })) [
        | true ↦ record {
          done = c.done ++ r ∷ [];
          dropped = records_of its ++ c.dropped;
          parts = c.parts ∙ sym (append_assoc c.done (r ∷ []) (records_of its ++ c.dropped));
          count = count;
          whole = λ k. cc;
        }
        | false ↦ record {
          done = c.done ++ r ∷ [];
          dropped = c.dropped;
          parts = c.parts ∙ sym (append_assoc c.done (r ∷ []) (records_of its ++ c.dropped));
          count = count;
          whole = c.whole;
        }
      ]

  pub link_step_counted : (clients : Meaning) (n session : ℕ) (p q : Spot) (e : Event)
      → LinkStep clients n session p e q → IsCounted p.facts session (pending p.doing) p.link
      → IsCounted q.facts session (pending q.doing) q.link
  link_step_counted clients n session p q e s =
      link_by_cases clients n session p
      (λ doing x r. IsCounted p.facts session (pending doing) p.link
      → IsCounted r.facts session (pending r.doing) r.link) (record {
        hears = λ bytes going c.
            counted_got p.facts session p.link bytes (going_keeps p.link.stands going) c;
        idles = λ going c. c;
        ends = λ going c. counted_as refl refl refl (λ k. going_keeps p.link.stands going) c;
        misses = λ going c. counted_as refl refl refl (λ k. cc) c;
        unasked = λ is c. c;
        settles = λ its b settling c.
            counted_as (settled_takes clients p.facts b session settling) refl refl (λ k. k) c;
        takes = λ place r its allowed c.
            counted_taken p.facts (after_all p.facts (next_take p.facts session r)) session place r its
            p.link (takes_here clients p.facts session r allowed) c;
        skips = λ place type_byte len its c.
            counted_as refl refl (skipped_gives_none place type_byte len its) (λ k. k) c;
        all_taken = λ settled c.
            counted_as refl refl refl (behind_keeps p.link.stands (ending 0 p.link.heard)) c;
        reads = λ now is_open c. c;
        closed = λ is c. c;
        puts = λ now room what is_due allowed c. counted_as refl refl refl (λ k. k) c;
        enough = λ now room is c. c;
        put = λ now room c. c;
        breaks = λ now room c. counted_as refl refl refl (λ k. cc) c;
      }) q e s

pub new_counted : (f : Facts) (session : ℕ) (x : Session) (stands : LinkEnd) → takes_of f.takes session ≡ 0 → IsCounted f session [] (link_of x stands)
unfolding items parsed records_of
new_counted f session x stands none = record { done = []; dropped = []; parts = refl; count = none; whole = λ k. refl }

pub ended_keeps : (b : Bool) (stands : LinkEnd) → (b ≡ true → is_going stands ≡ true)
    → keeps_all (cond b end.Redundant stands) ≡ true
    → keeps_all stands ≡ true
ended_keeps true stands going k = going_keeps stands (going refl)
ended_keeps false stands going k = k

-- ---- every place

-- a session that has not begun has taken nothing
pub untaken : (clients : Meaning) (f : Facts) → IsOfJournal clients f → takes_of f.takes f.begun ≡ 0
untaken clients f o =
    let has : HasSessions f = subst HasSessions o.facts_are (legal_sessions clients o.journal o.legal) in
    has.untaken f.begun (none_at has (session_at f.sessions f.begun) refl)
  where
    none_at : HasSessions f → (x : Option Session) → session_at f.sessions f.begun ≡ x → session_at f.sessions f.begun ≡ None
    none_at has None at = at
    none_at has (Some s) at = let below : f.begun < f.begun = (has.each f.begun s at).begun in absurd (omega (arith, below))

-- the sessions that began are those of the links, and one more while it is to greet, on which nothing was taken
abbrev pub IsBegunAt : ℕ → Hold → ℕ → Facts → Type 0
IsBegunAt first (Begins s) links f = (f.begun ≡ suc (first + links)) × (takes_of f.takes (first + links) ≡ 0)
IsBegunAt first _ links f = f.begun ≡ first + links

pub record IsFreeSound (clients : Meaning) (first : ℕ) (p : Free) : Type 0 where
  pub of_journal : IsOfJournal clients p.facts
  pub begun : IsBegunAt first p.hold (length p.links) p.facts
  pub counted : (i : ℕ) (link : Link) → slice_get p.links i ≡ Some link → IsCounted p.facts (first + i) (pending_in p.hold i) link

pub idle_begun : (first links : ℕ) (f : Facts) (hold : Hold) → IsNothingUnderWay hold → IsBegunAt first hold links f → f.begun ≡ first + links
idle_begun first links f (Begins s) calm b = absurd calm
idle_begun first links f _ calm b = b

begun_idle : (first links : ℕ) (f : Facts) (hold : Hold) → IsNothingUnderWay hold → f.begun ≡ first + links → IsBegunAt first hold links f
begun_idle first links f (Begins s) calm b = absurd calm
begun_idle first links f _ calm b = b

closed_length : (all : List Link) (k : ℕ) (links : List Link) → length (closed_from all k links) ≡ length links
closed_length all k [] = refl
closed_length all k (b ∷ links) = ap suc (closed_length all (suc k) links)

set_length : {A : Type 0} (xs : List A) (n : ℕ) (x : A) → length (slice_set xs n x) ≡ length xs
set_length [] n x = refl
set_length (y ∷ xs) zero x = refl
set_length (y ∷ xs) (suc n) x = ap suc (set_length xs n x)

-- two items at one place of a list are one
pub get_same : {A : Type 0} {o : Option A} {x y : A} → o ≡ Some x → o ≡ Some y → x ≡ y
get_same there here = let both : Some _ ≡ Some _ = sym there ∙ here in cc

module _ (clients : Meaning) (first : ℕ) where
  abbrev Begun : Free → Type 0
  Begun p = IsBegunAt first p.hold (length p.links) p.facts

  joins_begun : (p : Free) (x : Session) (stands : LinkEnd)
      → IsBegunAt first (Begins x) (length p.links) p.facts
      → Begun (joined_by x stands p)
  joins_begun p x stands s =
      let begun : p.facts.begun ≡ suc (first + length p.links) = s.0 in
      let more = length-append p.links (link_of x stands ∷ []) in
      omega (arith, begun, more)

  free_begun : (p q : Free) (e : Event) → FreeStep clients first p e q → IsOfJournal clients p.facts
      → Begun p → Begun q
  free_begun p q e t journal s =
      let links = length p.links in
      let calmly : IsNothingUnderWay p.hold → p.facts.begun ≡ first + links =
      λ calm. idle_begun first links p.facts p.hold calm s in
      let held : (hold : Hold) → p.hold ≡ hold → IsBegunAt first hold links p.facts =
      λ hold is. subst (λ h. IsBegunAt first h links p.facts) is s in
      free_by_cases clients first p
      (λ x r. ((p.hold ≡ Rests → ⊥) → r.facts.begun ≡ p.facts.begun)
      → Begun r) (record {
        stays = λ same. s;
        turns = λ hold calm then same. begun_idle first links p.facts hold then (calmly calm);
        sends = λ n now link calm there is_open same. calmly calm;
        closes = λ calm same.
            calmly calm ∙ ap (λ k. first + k) (sym (closed_length p.links 0 p.links));
        adds = λ b rests adds same.
            subst (λ h. IsBegunAt first h links (after_all p.facts b)) (sym rests)
            ((elim adds [
              | inl settles ↦ settled_begun clients p.facts b settles
              | inr plain ↦ (plain_adds p.facts b plain.0).begun
            ]) ∙ held Rests rests);
        begins = λ x rests allowed same.
            let was = held Rests rests in (
              omega (arith, was),
              subst (λ n. takes_of p.facts.takes n ≡ 0) was (untaken clients p.facts journal),
            );
        greets = λ x begins same. joins_begun p x end.Going (held (Begins x) begins);
        breaks = λ x begins same. joins_begun p x end.Failed (held (Begins x) begins);
        works = λ n doing link moved x spot holds there steps same.
            same (λ rests. let both : Holds n doing ≡ Rests = sym holds ∙ rests in cc)
            ∙ held (Holds n doing) holds
            ∙ ap (λ k. first + k) (sym (set_length p.links n spot.link));
      }) q e t (step_adds clients first p q e t).stays

module _ (go_on : StreamsGoOn) (join : RecordsJoin) (clients : Meaning) (first : ℕ) where
  abbrev Sound : Free → Type 0
  Sound p = IsFreeSound clients first p

  -- what was taken on a link is still a front of what was heard on it
  link_counted : (e : Event) (p q : Free) (i : ℕ) (link : Link) → Sound p
      → slice_get q.links i ≡ Some link
      → LinkGoes clients first e p q i → IsCounted q.facts (first + i) (pending_in q.hold i) link
  link_counted e p q i link s at (Kept k) =
      counted_as k.takes refl (ap records_of k.pends) (λ keeps. keeps)
      (s.counted i link (sym k.same ∙ at))
  link_counted e p q i link s at (Closed c) =
      let same = get_same at c.now in
      counted_as (ap (λ f. takes_of f.takes (first + i)) c.facts)
      (ap (λ l. records l.heard) same) (ap records_of c.pends)
      (λ keeps.
      ended_keeps c.beaten c.was.stands c.going
      (sym (ap (λ l. keeps_all l.stands) same) ∙ keeps)) (s.counted i c.was c.at)
  link_counted e p q i link s at (Joined j) =
      let begun : IsBegunAt first (Begins j.session) (length p.links) p.facts =
      subst (λ h. IsBegunAt first h (length p.links) p.facts) j.begins s.begun in
      let none : takes_of q.facts.takes (first + i) ≡ 0 =
      ap (λ f. takes_of f.takes (first + i)) j.facts
      ∙ ap (λ k. takes_of p.facts.takes (first + k)) j.is_next
      ∙ begun.1 in
      subst₂ (IsCounted q.facts (first + i)) (sym j.pends) (sym (get_same at j.now))
      (new_counted q.facts (first + i) j.session j.stands none)
  link_counted e p q i link s at (Stepped t) =
      subst₂ (IsCounted q.facts (first + i)) (sym (held_pends t.holds))
      (sym (get_same at t.now))
      (subst (λ f. IsCounted f (first + i) (pending t.spot.doing) t.spot.link) (sym t.facts)
      (link_step_counted go_on join clients i (first + i) (spot_in t.doing t.link t.moved p)
      t.spot e t.steps
      (subst (λ its. IsCounted p.facts (first + i) its t.link) (held_pends t.held)
      (s.counted i t.link t.at))))

  pub free_sound : (p q : Free) (e : Event) → FreeStep clients first p e q → Sound p → Sound q
  free_sound p q e t s = record {
    of_journal = journal_moves (step_adds clients first p q e t).moves s.of_journal;
    begun = free_begun clients first p q e t s.of_journal s.begun;
    counted = λ i link at. link_counted e p q i link s at (free_link clients first p q e i t);
  }

  pub free_path_sound : (p q : Free) (es : List Event) → Path (FreeStep clients first) p es q → Sound p → Sound q
  free_path_sound p q [] path s = subst Sound (sym path) s
  free_path_sound p q (e ∷ es) path s = free_path_sound path.0 q es path.2 (free_sound p path.0 e path.1 s)

-- where a node begins
pub first_free_sound : (clients : Meaning) (j : List (List Entry)) → Legal clients j
    → IsFreeSound clients (facts j).begun (first_free (facts j))
first_free_sound clients j legal = record {
  of_journal = record { journal = j; legal = legal; facts_are = refl };
  begun = let e : (facts j).begun ≡ (facts j).begun + 0 = omega arith in e;
  counted = λ i link at. cc;
}

-- ---- a run

same_pending : (stage : Stage) (i : ℕ) → pending_in (hold_at stage) i ≡ pending_at stage i
same_pending (Settles left) i = refl
same_pending _ i = refl

-- at each place of a run the records taken on a link are a front of those heard
pub run_counted : StreamsGoOn → RecordsJoin → (clients : Meaning) (terms : Terms)
    (sessions : List Session) (j : List (List Entry)) (events : List Event) (last : Place)
    → Legal clients j → Broken clients terms sessions (facts j) events last → (i : ℕ) (link : Link)
    → slice_get last.links i ≡ Some link
    → IsCounted last.facts (terms.first + i) (pending_at last.stage i) link
run_counted go_on join clients terms sessions j events last legal broken i link at =
    let sound =
    free_path_sound go_on join clients terms.first (first_free (facts j)) (forget last) events
    (run_is_free clients terms (first_place sessions (facts j)) last events broken.path)
    (subst (λ k. IsFreeSound clients k (first_free (facts j))) (sym broken.numbered)
    (first_free_sound clients j legal)) in
    subst (λ its. IsCounted last.facts (terms.first + i) its link)
    (same_pending last.stage i) (sound.counted i link at)
