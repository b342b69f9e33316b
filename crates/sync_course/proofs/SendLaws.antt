-- What was sent and what is owed on a link is a front of its session's output, and all of it unless a call of the link failed.
use Rattle.std.proofs.Common.{◌≡◌, ℕ, ◌+◌, ◌<◌, Bool, true, false, cond, ◌||◌, nat_eq, eqb-true, List, [], ◌∷◌, ◌++◌, length, take, drop, take-append-drop, append-nil, append_assoc, refl, sym, ◌∙◌, ap, subst, subst₂, inl, inr, arith, Option, None, Some}
use Rattle.std.specs.Prelude.{slice_get}
use Rattle.std.proofs.lemmas.Bool.{false≢true, ne_eqb}
use Rattle.std.proofs.lemmas.Grind.{flat_map-append}
use Rattle.outside.specs.Runs.{IsFront}
use Rattle.outside.proofs.RunLaws.{front_same, front_then}
use Rattle.record_grammar.specs.Laws.{RecordsJoin, StreamsGoOn}
use Rattle.record_grammar.specs.Spelling.{spelled, spelling}
use Rattle.sync_ids.specs.declared.records.Record.{Record}
use Rattle.sync_rules.specs.declared.entries.Entry.{Entry}
use Rattle.sync_rules.specs.declared.entries.Session.{Session}
use Rattle.sync_rules.specs.Clients.{Meaning}
use Rattle.sync_rules.specs.Facts.{Facts, after_batches, facts, session_at}
use Rattle.sync_rules.specs.Growth.{output_in}
use Rattle.sync_rules.specs.Legal.{GoesOn, Legal, MayBegin}
use Rattle.sync_rules.specs.Output.{first_records, out_records, sent}
use Rattle.sync_rules.proofs.Continuing.{facts-append, legal-append}
use Rattle.sync_rules.proofs.OutputLaws.{not_begun_sent, sent_push, settling_silent, silent_adds_nothing, take_silent}
use Rattle.sync_rules.proofs.SessionLaws.{legal_sessions}
use Rattle.sync_course.specs.declared.ends.LinkEnd.TheVariants as end
use Rattle.sync_course.specs.Acts.{Act, Does, Send, Fail, batches_in, event_of, events_of, sends_on, sent_by}
use Rattle.sync_course.specs.Events.{Event, Commit, batches_of, has_failure, is_failure}
use Rattle.sync_course.specs.Free.{Free, FreeStep, first_free}
use Rattle.sync_course.specs.Links.{is_sent_to}
use Rattle.sync_course.specs.LinkTurns.{next_take}
use Rattle.sync_course.specs.Owing.{ActStep, Owing, adds_to, paid}
use Rattle.sync_course.specs.Paths.{Path}
use Rattle.sync_course.specs.Story.{AllIsSent, FreeActs, LinkFailed}
use Rattle.sync_course.proofs.ActLaws.{batches_in-append, events_of-append, sends_on-append}
use Rattle.sync_course.proofs.FailLaws.{FailsAsTold, HoldsOpen, failed_there, fails_step, first_fails, path_fails, push_failure}
use Rattle.sync_course.proofs.FreeSound.{IsBegunAt, IsFreeSound, first_free_sound, free_path_sound, free_sound, get_same}
use Rattle.sync_course.proofs.FreeSteps.{step_adds, free_batches, plain_adds}
use Rattle.sync_course.proofs.LiftLaws.{get_within}
use Rattle.sync_course.proofs.PathLaws.{path_keeps}

-- ---- fronts

pub front_of_none : (xs : List ℕ) → IsFront [] xs
front_of_none xs = record { rest = xs; whole = refl }

pub front_before : (xs ys zs : List ℕ) → IsFront xs ys → IsFront (zs ++ xs) (zs ++ ys)
front_before xs ys zs f = record { rest = f.rest; whole = ap (λ l. zs ++ l) f.whole ∙ sym (append_assoc zs xs f.rest) }

front_take : (n : ℕ) (xs : List ℕ) → IsFront (take n xs) xs
front_take n xs = record { rest = drop n xs; whole = sym (take-append-drop n xs) }

-- what was sent of an output: all of it, or a front of it where a call failed
abbrev pub SentSo : Bool → List ℕ → List ℕ → Type 0
SentSo false went all = went ≡ all
SentSo true went all = IsFront went all

whole_so : {went all : List ℕ} (failed : Bool) → went ≡ all → SentSo failed went all
whole_so false same = same
whole_so true same = front_same _ _ (sym same)

pub front_so : {went all : List ℕ} (failed : Bool) → SentSo failed went all → IsFront went all
front_so false same = front_same _ _ (sym same)
front_so true front = front

-- more goes out of what is owed and is added; where a call failed before, nothing is added
module _ (sent owed went left all added : List ℕ) where
  sent_front : (failed fails : Bool) → (failed ≡ true → added ≡ [])
      → SentSo failed (sent ++ owed) all → SentSo fails (went ++ left) (owed ++ added)
      → IsFront ((sent ++ went) ++ left) (all ++ added)
  sent_front failed fails none was goes =
      subst (λ l. IsFront l (all ++ added)) (sym (append_assoc sent went left))
      (front_then _ _ _ (front_before _ _ sent (front_so fails goes)) (before failed none was))
    where
      before : (t : Bool) → (t ≡ true → added ≡ []) → SentSo t (sent ++ owed) all
          → IsFront (sent ++ (owed ++ added)) (all ++ added)
      before false none same =
          front_same _ _ (ap (λ l. l ++ added) (sym same) ∙ append_assoc sent owed added)
      before true none front =
          subst (λ l. IsFront (sent ++ (owed ++ l)) (all ++ l)) (sym (none refl))
          (subst₂ IsFront (ap (λ l. sent ++ l) (sym (append-nil owed))) (sym (append-nil all)) front)

  sent_then : (failed fails : Bool) → (failed ≡ true → added ≡ [])
      → SentSo failed (sent ++ owed) all → SentSo fails (went ++ left) (owed ++ added)
      → SentSo (failed || fails) ((sent ++ went) ++ left) (all ++ added)
  sent_then false false none was goes =
      append_assoc sent went left ∙ ap (λ l. sent ++ l) goes
      ∙ sym (append_assoc sent owed added) ∙ ap (λ l. l ++ added) was
  sent_then false true none was goes = sent_front false true none was goes
  sent_then true fails none was goes = sent_front true fails none was goes

-- ---- the output

abbrev pub output : List (List Entry) → ℕ → List ℕ
output j session = spelled (sent j session)

-- an event adds what it adds
event_adds : (clients : Meaning) (first : ℕ) (j : List (List Entry)) (e : Event) (link : ℕ) → Legal clients j
    → GoesOn clients (facts j) (batches_of (e ∷ []))
    → output (j ++ batches_of (e ∷ [])) (first + link) ≡ output j (first + link) ++ adds_to (facts j) first e link
event_adds clients first j (Commit b) link legal goes =
    ap (λ rs. spelled rs) (sent_push clients j b (first + link) legal goes.0)
    ∙ flat_map-append spelling (sent j (first + link)) (output_in (facts j) (first + link) b)
event_adds clients first j _ link legal goes =
    ap (λ k. output k (first + link)) (append-nil j)
    ∙ sym (append-nil (output j (first + link)))

-- ---- nothing is committed for a link that failed

-- the records that an event adds to the output of a session
abbrev pub records_by : Facts → ℕ → Event → List Record
records_by f session (Commit b) = output_in f session b
records_by f session _ = []

none_by : (f : Facts) (session : ℕ) (e : Event)
    → batches_of (e ∷ []) ≡ [] → records_by f session e ≡ []
none_by f session (Commit b) none = cc
none_by f session _ none = refl

-- a link that failed is not the one that is in hand to send, nor that of a session that begins
event_spares : (clients : Meaning) (first : ℕ) (e : Event) (p q : Free) (i : ℕ)
    → FreeStep clients first p e q → IsFreeSound clients first p → HoldsOpen p.hold p.links
    → LinkFailed p.links i → records_by p.facts (first + i) e ≡ []
event_spares clients first e p q i t s o f =
    free_batches clients first p
    (λ x g. records_by p.facts (first + i) x ≡ []) (record {
      none = λ x none. none_by p.facts (first + i) x none;
      settles = λ b settling.
          silent_adds_nothing p.facts (first + i) b (settling_silent clients p.facts b settling.2);
      adds = λ b rests plain allowed. (plain_adds p.facts b plain).puts (first + i);
      begins = λ x rests allowed.
          let may : MayBegin p.facts x = allowed.2 in
          let within = get_within p.links i f.link f.there in
          let numbered : x.number ≡ p.facts.begun = may.numbered in
          let begun : p.facts.begun ≡ first + length p.links =
          subst (λ h. IsBegunAt first h (length p.links) p.facts) rests s.begun in
          ap (λ b. cond b (first_records x) [] ++ [])
          (ne_eqb x.number (first + i)
          (λ same.
          let at : x.number ≡ first + i = same in
          absurd (omega (arith, within, numbered, at, begun))));
      takes = λ n place r its link holds at allowed.
          silent_adds_nothing p.facts (first + i) (next_take p.facts (first + n) r)
          (take_silent clients p.facts (first + n) _ _ allowed);
      puts = λ n now room what link holds at is_due allowed.
          let is_open : is_sent_to link.stands ≡ true =
          subst (λ h. HoldsOpen h p.links) holds o link at in
          ap (λ b. cond b (out_records p.facts.held what) [] ++ [])
          (ne_eqb (first + n) (first + i)
          (λ same.
          let is : first + n ≡ first + i = same in
          let number : i ≡ n = omega (arith, is) in
          let there : link ≡ f.link = get_same at (ap (slice_get p.links) (sym number) ∙ f.there) in
          let failed : link.stands ≡ end.Failed = ap (λ l. l.stands) there ∙ f.failed in
          absurd (false≢true (ap is_sent_to (sym failed) ∙ is_open))));
    }) q e t

none_owed : (f : Facts) (first i : ℕ) (e : Event) → records_by f (first + i) e ≡ []
    → adds_to f first e i ≡ []
none_owed f first i (Commit b) none = ap (λ rs. spelled rs) none
none_owed f first i _ none = refl

-- ---- acts

-- an act is an event
pub under : (clients : Meaning) (first : ℕ) (a : Act) (p q : Owing Free)
    → ActStep (λ x. x.facts) first (FreeStep clients first) p a q → FreeStep clients first p.at (event_of a) q.at
under clients first (Does e) p q s = s.1
under clients first (Send n bytes) p q s = elim s [ inl all ↦ all.1 | inr some ↦ inl some.stays ]
under clients first (Fail n bytes count) p q s = s.1

module _ (clients : Meaning) (first : ℕ) where
  abbrev pub ActsOn : Owing Free → Act → Owing Free → Type 0
  ActsOn p a q = ActStep (λ x. x.facts) first (FreeStep clients first) p a q

  -- the path of the events
  pub events_path : (p q : Owing Free) (acts : List Act) → Path ActsOn p acts q → Path (FreeStep clients first) p.at (events_of acts) q.at
  events_path p q [] path = ap (λ x. x.at) path
  events_path p q (a ∷ acts) path = (path.0.at, under clients first a p path.0 path.1, events_path path.0 q acts path.2)

  -- what an act sends and leaves owed is what was owed and what it adds, or a front of that where it fails
  act_sends : (a : Act) (p q : Owing Free) (i : ℕ) → ActsOn p a q
      → SentSo (is_failure i (event_of a)) (sent_by i a ++ q.owed i)
      (p.owed i ++ adds_to p.at.facts first (event_of a) i)
  act_sends (Does e) p q i s =
      whole_so (is_failure i e) (s.2 i)
  act_sends (Send n bytes) p q i s =
      elim s [
        | inl all ↦ left_so [] (all.2 i) (sym all.0 ∙ sym (append-nil bytes))
        | inr some ↦ left_so some.rest (some.left i) some.parts
      ]
    where
      paid_by : (rest : List ℕ) → p.owed n ≡ bytes ++ rest → (t : Bool) → nat_eq n i ≡ t
          → cond t bytes [] ++ cond t rest (p.owed i) ≡ p.owed i ++ []
      paid_by rest parts true is = sym parts ∙ ap p.owed (eqb-true n i is) ∙ sym (append-nil (p.owed i))
      paid_by rest parts false is = sym (append-nil (p.owed i))

      left_so : (rest : List ℕ) → q.owed i ≡ cond (nat_eq n i) rest (p.owed i)
          → p.owed n ≡ bytes ++ rest
          → cond (nat_eq n i) bytes [] ++ q.owed i ≡ p.owed i ++ []
      left_so rest left parts =
          ap (λ l. cond (nat_eq n i) bytes [] ++ l) left ∙ paid_by rest parts (nat_eq n i) refl
  act_sends (Fail n bytes count) p q i s =
      subst (λ l. SentSo (nat_eq n i) (cond (nat_eq n i) (take count bytes) [] ++ l) (p.owed i ++ []))
      (sym (s.2 i)) (paid_by (nat_eq n i) refl)
    where
      paid_by : (t : Bool) → nat_eq n i ≡ t
          → SentSo t (cond t (take count bytes) [] ++ cond t [] (p.owed i)) (p.owed i ++ [])
      paid_by true is =
          subst₂ IsFront (sym (append-nil (take count bytes))) (sym (append-nil (p.owed i)))
          (front_then (take count bytes) bytes (p.owed i) (front_take count bytes)
          (subst (λ k. IsFront bytes (p.owed k)) (eqb-true n i is) s.0))
      paid_by false is = sym (append-nil (p.owed i))

-- behind acts from a journal on: the journal, the place, and what was sent and is owed
pub record HasSent (clients : Meaning) (first : ℕ) (j : List (List Entry)) (acts : List Act) (p : Owing Free) : Type 0 where
  pub legal : Legal clients (j ++ batches_in acts)
  pub same : facts (j ++ batches_in acts) ≡ p.at.facts
  pub sound : IsFreeSound clients first p.at
  pub fails : FailsAsTold clients first (events_of acts) p.at
  pub sent : (i : ℕ) → SentSo (has_failure i (events_of acts)) (sends_on i acts ++ p.owed i)
      (output (j ++ batches_in acts) (first + i))

module _ (go_on : StreamsGoOn) (join : RecordsJoin) (clients : Meaning) (first : ℕ) (j : List (List Entry)) where
  sent_step : (acts : List Act) (p q : Owing Free) (a : Act) → HasSent clients first j acts p → ActsOn clients first p a q
      → HasSent clients first j (acts ++ a ∷ []) q
  sent_step acts p q a k s =
      let e = event_of a in
      let old = j ++ batches_in acts in
      let new = batches_of (e ∷ []) in
      let step = under clients first a p q s in
      let m = (step_adds clients first p.at q.at e step).moves in
      let goes : GoesOn clients (facts old) new = subst (λ f. GoesOn clients f new) (sym k.same) m.goes_on in
      let is : j ++ batches_in (acts ++ a ∷ []) ≡ old ++ new =
      ap (λ l. j ++ l) (batches_in-append acts (a ∷ [])) ∙ sym (append_assoc j (batches_in acts) new) in
      let events = events_of-append acts (a ∷ []) in
      let sends : (i : ℕ) → sends_on i (acts ++ a ∷ []) ≡ sends_on i acts ++ sent_by i a =
      λ i. sends_on-append i acts (a ∷ []) ∙ ap (λ l. sends_on i acts ++ l) (append-nil (sent_by i a)) in
      let grown : (i : ℕ) → output (j ++ batches_in (acts ++ a ∷ [])) (first + i)
      ≡ output old (first + i) ++ adds_to p.at.facts first e i =
      λ i. ap (λ l. output l (first + i)) is
      ∙ event_adds clients first old e i k.legal goes
      ∙ ap (λ f. output old (first + i) ++ adds_to f first e i) k.same in
      let failed : (i : ℕ) → has_failure i (events_of (acts ++ a ∷ []))
      ≡ (has_failure i (events_of acts) || is_failure i e) =
      λ i. ap (has_failure i) events ∙ push_failure clients first i (events_of acts) e in
      let none : (i : ℕ) → has_failure i (events_of acts) ≡ true → adds_to p.at.facts first e i ≡ [] =
      λ i had.
      none_owed p.at.facts first i e
      (event_spares clients first e p.at q.at i step k.sound k.fails.opens
      (failed_there p.at.links i (k.fails.each i ∙ had))) in
      record {
        legal = subst (Legal clients) (sym is) (legal-append clients old new k.legal goes);
        same =
            ap facts is ∙ facts-append old new ∙ ap (λ f. after_batches f new) k.same ∙ sym m.facts;
        sound = free_sound go_on join clients first p.at q.at e step k.sound;
        fails =
            subst (λ l. FailsAsTold clients first l q.at) (sym events)
            (fails_step clients first (events_of acts) p.at q.at e k.fails step);
        sent = λ i.
            subst (λ t. SentSo t (sends_on i (acts ++ a ∷ []) ++ q.owed i)
            (output (j ++ batches_in (acts ++ a ∷ [])) (first + i))) (sym (failed i))
            (subst₂ (λ l o. SentSo (has_failure i (events_of acts) || is_failure i e) (l ++ q.owed i) o)
            (sym (sends i)) (sym (grown i))
            (sent_then (sends_on i acts) (p.owed i) (sent_by i a) (q.owed i) (output old (first + i))
            (adds_to p.at.facts first e i) (has_failure i (events_of acts)) (is_failure i e) (none i)
            (k.sent i) (act_sends clients first a p q i s)));
      }

-- where a node begins nothing was sent
nothing_sent : (clients : Meaning) (j : List (List Entry)) (i : ℕ) → Legal clients j → output j ((facts j).begun + i) ≡ []
nothing_sent clients j i legal =
    ap (λ rs. spelled rs)
    (not_begun_sent clients j ((facts j).begun + i) legal
    (none_at (session_at (facts j).sessions ((facts j).begun + i)) refl)).1
  where
    none_at : (x : Option Session) → session_at (facts j).sessions ((facts j).begun + i) ≡ x
        → session_at (facts j).sessions ((facts j).begun + i) ≡ None
    none_at None at = at
    none_at (Some s) at =
        let below : (facts j).begun + i < (facts j).begun = ((legal_sessions clients j legal).each ((facts j).begun + i) s at).begun in
        absurd (omega (arith, below))

first_sent : (clients : Meaning) (j : List (List Entry)) → Legal clients j
    → HasSent clients (facts j).begun j [] (paid (first_free (facts j)))
first_sent clients j legal =
    let same = append-nil j in
    record {
      legal = subst (Legal clients) (sym same) legal;
      same = ap facts same;
      sound = first_free_sound clients j legal;
      fails = first_fails clients (facts j).begun (facts j);
      sent = λ i. sym (ap (λ l. output l ((facts j).begun + i)) same ∙ nothing_sent clients j i legal);
    }

module _ (go_on : StreamsGoOn) (join : RecordsJoin) (clients : Meaning) (j : List (List Entry)) where
  -- behind the acts of a node
  pub acts_sent : (acts : List Act) (to : Owing Free) → Legal clients j → FreeActs clients j acts to
      → HasSent clients (facts j).begun j acts to
  acts_sent acts to legal path =
      let first : ℕ = (facts j).begun in
      path_keeps (ActsOn clients first) (HasSent clients first j)
      (sent_step go_on join clients first j) [] acts (paid (first_free (facts j))) to
      (first_sent clients j legal) path

  pub all_sent : (acts : List Act) (to : Owing Free) → Legal clients j → FreeActs clients j acts to
      → ((link : ℕ) → to.owed link ≡ []) → AllIsSent j acts
  all_sent acts to legal path clear link well =
      sym (append-nil (sends_on link acts))
      ∙ ap (λ l. sends_on link acts ++ l) (sym (clear link))
      ∙ subst (λ t. SentSo t (sends_on link acts ++ to.owed link)
      (output (j ++ batches_in acts) ((facts j).begun + link))) well
      ((acts_sent acts to legal path).sent link)

  -- nothing is committed for a link on which a call failed
  pub failed_spared : (es : List Event) (p q : Free) (b : List Entry) (link : ℕ) → Legal clients j
      → Path (FreeStep clients (facts j).begun) (first_free (facts j)) es p
      → FreeStep clients (facts j).begun p (Commit b) q → has_failure link es ≡ true
      → output_in p.facts ((facts j).begun + link) b ≡ []
  failed_spared es p q b link legal path step failed =
      let fails = path_fails clients (facts j).begun (facts j) p es path in
      let sound =
      free_path_sound go_on join clients (facts j).begun (first_free (facts j)) p es path
      (first_free_sound clients j legal) in
      event_spares clients (facts j).begun (Commit b) p q link step sound fails.opens
      (fails.stays link failed)
