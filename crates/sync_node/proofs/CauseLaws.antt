-- The links of a node: what work on one of them leaves of the others, and why links stand Failed, one
-- call after another.
use Rattle.std.proofs.Common.{◌≡◌, ◌⊎◌, ℕ, zero, suc, ◌+◌, List, [], ◌∷◌, ◌++◌, length, take, drop, set, append-nil, refl, sym, ap, ◌∙◌, subst, inl, inr, arith, None, Some, ◌≢◌, ◌≤◌, Bool, true, false, cond, Result, Ok, Err}
use Rattle.std.specs.List.{slice_get}
use Rattle.std.proofs.lemmas.Bool.{cases_eq}
use Rattle.std.proofs.lemmas.List.{length-set, take_all}
use Rattle.std.proofs.Math.ListN.{drop_of_length-le}
use Rattle.std.proofs.lemmas.Option.{slice_get_within}
use Rattle.outside.specs.Outside.{Outside}
use Rattle.sync_rules.specs.declared.entries.Session.{Session}
use Rattle.sync_rules.specs.Clients.{Meaning}
use Rattle.sync_rules.specs.Facts.{session_at}
use Rattle.sync_store.specs.Store.{StoreValue}
use Rattle.sync_node.specs.declared.link.Link.{Link}
use Rattle.sync_course.proofs.LiftLaws.{get_other}
use Rattle.sync_node.specs.Keeps.{LinkKeeps}
use Rattle.sync_node.specs.Node.{AreAttached, IsAttached, MayGoOn}
use Rattle.sync_node.specs.Working.{HasGivenItems, MayWork}
use Rattle.outside.specs.declared.failed.Failed.{Failed}
use Rattle.outside.specs.Faults.{CountRose, one_more}
use Rattle.outside.specs.Host.{SendsOnLink}
use Rattle.record_grammar.specs.declared.stream.Ending.{Ending}
use Rattle.sync_ids.specs.declared.records.Record.{Record}
use Rattle.sync_node.specs.Causes.{LinkGoes, LinksGo, StandsFailed, sessions_of}
use Rattle.sync_course.specs.Links.{closes, stands_ended}
use Rattle.sync_node.specs.Going.{LetsNothingFall}
use Rattle.sync_node.specs.Sending.{EndsBy, LearnsNonce, SendsOn, ClosesSome, StaysOrCloses}
use Rattle.sync_course.proofs.RunLaws.{get_push_cases}
use Rattle.sync_node.proofs.TakeLaws.{end_same}
use Rattle.sync_node.proofs.SafeLaws.{goes_none}
use Rattle.sync_node.proofs.WorkLaws.{goes_then, goes_sent}
use Rattle.sync_course.specs.declared.ends.LinkEnd.TheVariants as link_end
use Rattle.record_grammar.specs.declared.stream.Ending.TheVariants as ending_kind

-- ---- one item of a list

pub get_set_same : {A : Type 0} (xs : List A) (i : ℕ) (a x : A) → slice_get (set xs i a) i ≡ Some x
    → x ≡ a
get_set_same [] i a x e = cc
get_set_same (y ∷ ys) zero a x e = cc
get_set_same (y ∷ ys) (suc i) a x e = get_set_same ys i a x e

-- ---- the links of a node

pub all_attached : (clients : Meaning) (first link : ℕ) (links : List Link) (l l' : Link)
    (s s' : StoreValue) (o o' : Outside)
    → AreAttached first links s.state.facts → slice_get links link ≡ Some l
    → LinkKeeps clients link l l' s s' o o' None → HasGivenItems l'
    → AreAttached first (set links link l') s'.state.facts
all_attached clients first link links l l' s s' o o' attached here keeps waits =
    let moved : (x : Session) (n : ℕ) → session_at s.state.facts.sessions n ≡ Some x → session_at s'.state.facts.sessions n ≡ Some x =
    λ x n known. ap (λ t. session_at t n) keeps.store.answered.same_sessions ∙ known in
    record {
      begun = keeps.store.answered.same_begun
          ∙ (attached.begun ∙ ap (λ n. first + n) (sym (length-set links link l')));
      each = λ other x there. elim (cases_eq other link) [
        | inl same ↦
            let is : x ≡ l' = get_set_same links link l' x (subst (λ k. slice_get (set links link l') k ≡ Some x) same there) in
            let was = attached.each link l here in
            let mine : IsAttached first s'.state.facts link l' = record {
              numbered = ap (λ (y : Session). y.number) keeps.link.same_session ∙ was.numbered;
              known = subst (λ (y : Session). session_at s'.state.facts.sessions y.number ≡ Some y) (sym keeps.link.same_session) (moved l.session l.session.number was.known);
              waits = waits;
            } in
            subst (λ k. IsAttached first s'.state.facts k x) (sym same) (subst (λ (y : Link). IsAttached first s'.state.facts link y) (sym is) mine)
        | inr apart ↦
            let was = attached.each other x (sym (get_other links link other l' apart) ∙ there) in
            record { numbered = was.numbered; known = moved x.session x.session.number was.known; waits = was.waits }
      ];
    }

-- a link of a node may go on
pub link_able : (clients : Meaning) (first link : ℕ) (links : List Link) (l : Link)
    (s : StoreValue) (o : Outside) → MayGoOn clients links s o
    → AreAttached first links s.state.facts
    → slice_get links link ≡ Some l → MayWork clients link l s o
link_able clients first link links l s o may attached here =
    let within = slice_get_within links link l here in
    record {
      able = record {
        ready = may.ready;
        settled = may.settled (omega (arith, within));
        known = (attached.each link l here).known;
        dialled = omega (arith, within, may.dialled);
      };
      waits = (attached.each link l here).waits;
    }

-- and the links may go on behind it
pub links_go_on : (clients : Meaning) (link : ℕ) (links links' : List Link) (l l' : Link)
    (s s' : StoreValue) (o o' : Outside) → MayGoOn clients links s o
    → length links' ≡ length links → LinkKeeps clients link l l' s s' o o' None
    → MayGoOn clients links' s' o'
links_go_on clients link links links' l l' s s' o o' may same keeps = record {
  ready = keeps.store.answered.ready;
  settled = λ _. keeps.store.answered.settled;
  dialled = omega (arith, may.dialled, same, keeps.link.goes.links.dialled);
}

-- ---- links that are closed as redundant

pub closes_none : (links : List Link) → ClosesSome links links
closes_none links = record { same_number = refl; each = λ number l there. record { before = l; was = there; is = inl refl } }

pub closes_one : (old mid : List Link) (place : ℕ) (l : Link) → ClosesSome old mid
    → slice_get mid place ≡ Some l → l.end ≡ link_end.Going
    → ClosesSome old (set mid place (record l { end = link_end.Redundant }))
closes_one old mid place l closes here going =
    let closed : Link = record l { end = link_end.Redundant } in
    record {
      same_number = length-set mid place closed ∙ closes.same_number;
      each = λ number x there. elim (cases_eq number place) [
        | inl same ↦
            let is : x ≡ record l { end = link_end.Redundant } = get_set_same mid place closed x (subst (λ k. slice_get (set mid place closed) k ≡ Some x) same there) in
            let before = closes.each place l here in
            let mine : StaysOrCloses old place x = elim before.is [
              | inl as_before ↦ record {
                before = before.before;
                was = before.was;
                is = inr (sym (ap (λ (y : Link). y.end) as_before) ∙ going, is ∙ ap (λ (y : Link). record y { end = link_end.Redundant }) as_before);
              }
              | inr closing ↦ absurd (let e : link_end.Redundant ≡ link_end.Going = sym (ap (λ (y : Link). y.end) closing.1) ∙ going in cc)
            ] in
            subst (λ k. StaysOrCloses old k x) (sym same) mine
        | inr apart ↦ closes.each number x (sym (get_other mid place number closed apart) ∙ there)
      ];
    }

closed_waits : (before l : Link) → (l ≡ before) ⊎ ((before.end ≡ link_end.Going) × (l ≡ record before { end = link_end.Redundant })) → HasGivenItems before → HasGivenItems l
closed_waits before l is waits = elim is [
  | inl same ↦ subst HasGivenItems (sym same) waits
  | inr closing ↦ subst HasGivenItems (sym closing.1) (λ going. absurd (let e : link_end.Redundant ≡ link_end.Going = going in cc))
]

closed_session : (before l : Link) → (l ≡ before) ⊎ ((before.end ≡ link_end.Going) × (l ≡ record before { end = link_end.Redundant })) → l.session ≡ before.session
closed_session before l is =
    elim is [ inl same ↦ ap (λ (x : Link). x.session) same | inr closing ↦ ap (λ (x : Link). x.session) closing.1 ]

pub closed_attached : (first : ℕ) (links links' : List Link) (s : StoreValue)
    → AreAttached first links s.state.facts → ClosesSome links links'
    → AreAttached first links' s.state.facts
closed_attached first links links' s attached closes = record {
  begun = attached.begun ∙ ap (λ n. first + n) (sym closes.same_number);
  each = λ number l there.
      let one = closes.each number l there in
      let was = attached.each number one.before one.was in
      let session = closed_session one.before l one.is in
      record {
        numbered = ap (λ (x : Session). x.number) session ∙ was.numbered;
        known = subst (λ (x : Session). session_at s.state.facts.sessions x.number ≡ Some x) (sym session) was.known;
        waits = closed_waits one.before l one.is was.waits;
      };
}

pub links_may : (clients : Meaning) (links links' : List Link) (s : StoreValue) (o : Outside)
    → length links' ≡ length links → MayGoOn clients links s o → MayGoOn clients links' s o
links_may clients links links' s o same may = record {
  ready = may.ready;
  settled = λ some. may.settled (omega (arith, some, same));
  dialled = omega (arith, same, may.dialled);
}

-- ---- a node

-- a list that was lent is the one that came back
pub kept_same : {A : Type 0} (len : ℕ) (old lent new : List A) → len ≡ length lent → lent ≡ old
    → length new ≡ length lent → take len (new ++ drop (length new) old) ≡ new
kept_same {A} len old lent new long is same =
    let as_long : length lent ≡ length old = ap (λ (xs : List A). length xs) is in
    let none : drop (length new) old ≡ [] =
    drop_of_length-le old (omega (arith, same, as_long)) in
    ap (λ l. take len (new ++ l)) none
    ∙ (ap (λ l. take len l) (append-nil new) ∙ take_all len new (omega (arith, long, same)))

-- a buffer that was lent is as long as before
pub kept_long : {A : Type 0} (len n : ℕ) (old lent new : List A) → length old ≡ n
    → len ≡ length lent → lent ≡ old → length new ≡ length lent
    → length (take len (new ++ drop (length new) old)) ≡ n
kept_long {A} len n old lent new whole long is same =
    ap (λ (xs : List A). length xs) (kept_same len old lent new long is same)
    ∙ (same ∙ (ap (λ (xs : List A). length xs) is ∙ whole))

-- ---- counts

rose_later : (a b c : ℕ) → CountRose a b → b ≤ c → CountRose a c
rose_later a b c rose later = let r : one_more a ≤ b = rose in omega (arith, r, later)

pub rose_before : (a b c : ℕ) → a ≤ b → CountRose b c → CountRose a c
rose_before a b c before rose = let r : one_more b ≤ c = rose in omega (arith, before, r)

-- ---- one link

-- the link did not fail
pub link_kept : {number : ℕ} {l l' : Link} {o o' : Outside} → LetsNothingFall o o'
    → l'.session ≡ l.session → l'.end ≡ l.end → LinkGoes number l l' o o'
link_kept goes same_session same = record {
  same_session = same_session;
  goes = goes;
  cause = λ failed. inl (sym same ∙ failed);
}

pub link_unfailed : {number : ℕ} {l l' : Link} {o o' : Outside} → LetsNothingFall o o'
    → l'.session ≡ l.session → l'.end ≢ link_end.Failed → LinkGoes number l l' o o'
link_unfailed goes same_session unfailed = record {
  same_session = same_session;
  goes = goes;
  cause = λ failed. absurd (unfailed failed);
}

pub link_none : {number : ℕ} {l : Link} {o : Outside} → LinkGoes number l l o o
link_none {o = o} = link_kept (goes_none o) refl refl

-- a call on it failed
pub link_failed : {number : ℕ} {l l' : Link} {o o' : Outside} → LetsNothingFall o o'
    → l'.session ≡ l.session → CountRose (o.links.faults number) (o'.links.faults number)
    → LinkGoes number l l' o o'
link_failed goes same_session rose =
    record { same_session = same_session; goes = goes; cause = λ failed. inr rose }

pub link_then : {number : ℕ} {l l1 l2 : Link} {o o1 o2 : Outside} → LinkGoes number l l1 o o1
    → LinkGoes number l1 l2 o1 o2 → LinkGoes number l l2 o o2
link_then {number = n} {o = o} {o1 = o1} {o2 = o2} first second = record {
  same_session = second.same_session ∙ first.same_session;
  goes = goes_then o o1 o2 first.goes second.goes;
  cause = λ failed. elim (second.cause failed) [
    | inl before ↦ elim (first.cause before) [
      | inl at_first ↦ inl at_first
      | inr rose ↦
          inr (rose_later (o.links.faults n) (o1.links.faults n) (o2.links.faults n) rose
          (second.goes.links.faults n))
    ]
    | inr rose ↦
        inr (rose_before (o.links.faults n) (o1.links.faults n) (o2.links.faults n)
        (first.goes.links.faults n) rose)
  ];
}

pub link_sent : {number : ℕ} {bytes : List ℕ} {l l' : Link} {o o' : Outside}
    → SendsOn number bytes l l' o o' → LinkGoes number l l' o o'
link_sent {number = n} {bytes = bytes} {l = l} {l' = l'} {o = o} {o' = o'} sends =
    by_result sends.result sends.sends sends.ends
  where
    goes : LetsNothingFall o o'
    goes = goes_sent n bytes sends.result o o' sends.call sends.sends

    by_result : (result : Result (Unit {0}) Failed) → SendsOnLink n bytes result o.links o'.links
        → EndsBy result l l' → LinkGoes n l l' o o'
    by_result (Ok u) went ends =
        link_kept goes (ap (λ (x : Link). x.session) ends) (ap (λ (x : Link). x.end) ends)
    by_result (Err e) went ends =
        link_failed goes (ap (λ (x : Link). x.session) ends) (omega (arith, went.faults.counts))

-- ---- how links end that did not fail

pub ended_unfailed : (e : Ending) → stands_ended e ≢ link_end.Failed
ended_unfailed ending_kind.Clean is = cc
ended_unfailed (ending_kind.Inside place) is = cc
ended_unfailed (ending_kind.Bad place why) is = cc

pub learnt_unfailed : (place : ℕ) (r : Record) (l l' : Link) → LearnsNonce place r l l'
    → l.end ≡ link_end.Going → l'.end ≢ link_end.Failed
learnt_unfailed place r l l' learns going failed =
    by (closes r) (ap (cond (closes r) (link_end.NoVersion place)) (sym going)
    ∙ (end_same place r l.end l'.end learns.end ∙ failed))
  where
    by : (b : Bool) → cond b (link_end.NoVersion place) link_end.Going ≡ link_end.Failed → ⊥
    by true is = cc
    by false is = cc

-- ---- the sessions of all links

-- one link was worked on
pub sessions_set : (place : ℕ) (links : List Link) (l l' : Link) → slice_get links place ≡ Some l
    → l'.session ≡ l.session → sessions_of (set links place l') ≡ sessions_of links
sessions_set place [] l l' here same = refl
sessions_set zero (x ∷ links) l l' here same =
    let is : x ≡ l = cc in
    ap (λ (s : Session). s ∷ sessions_of links) (same ∙ ap (λ (y : Link). y.session) (sym is))
sessions_set (suc place) (x ∷ links) l l' here same = ap (λ (ss : List Session). x.session ∷ ss) (sessions_set place links l l' here same)

-- some were closed
pub sessions_closed : (old new : List Link) → ClosesSome old new
    → sessions_of new ≡ sessions_of old
sessions_closed [] [] closes = refl
sessions_closed [] (y ∷ new) closes = let no : suc (length new) ≡ 0 = closes.same_number in absurd (omega (arith, no))
sessions_closed (x ∷ old) [] closes = let no : 0 ≡ suc (length old) = closes.same_number in absurd (omega (arith, no))
sessions_closed (x ∷ old) (y ∷ new) closes =
    let first = closes.each 0 y refl in
    let long : suc (length new) ≡ suc (length old) = closes.same_number in
    let was : Some x ≡ Some first.before = first.was in
    let before : x ≡ first.before = cc in
    let same : y.session ≡ x.session = elim first.is [
      | inl stays ↦ ap (λ (l : Link). l.session) (stays ∙ sym before)
      | inr closing ↦ ap (λ (l : Link). l.session) closing.1 ∙ ap (λ (l : Link). l.session) (sym before)
    ] in
    let rest : ClosesSome old new = record {
      same_number = omega (arith, long);
      each = λ number l at. let one = closes.each (suc number) l at in record { before = one.before; was = one.was; is = one.is };
    } in
    ap (λ (s : Session). s ∷ sessions_of new) same ∙ ap (λ (ss : List Session). x.session ∷ ss) (sessions_closed old new rest)

-- links with as many sessions are as many
pub same_long : (old new : List Link) → sessions_of old ≡ sessions_of new → length old ≡ length new
same_long [] [] same = refl
same_long [] (y ∷ new) same = cc
same_long (x ∷ old) [] same = cc
same_long (x ∷ old) (y ∷ new) same =
    let heads : x.session ∷ sessions_of old ≡ y.session ∷ sessions_of new = same in
    let tails : sessions_of old ≡ sessions_of new = cc in
    ap suc (same_long old new tails)

-- ---- all links

-- the links are as before
pub links_go_same : (links links' : List Link) (o o' : Outside) → links' ≡ links → LetsNothingFall o o'
    → LinksGo links links' o o'
links_go_same links links' o o' same goes = record {
  goes = goes;
  cause = λ number stands. inl (subst (λ (ls : List Link). StandsFailed ls number) same stands);
}

-- one link more was worked on
pub links_go_set : (place : ℕ) (links links1 : List Link) (l l' : Link) (o o1 o2 : Outside)
    → LinksGo links links1 o o1 → slice_get links1 place ≡ Some l → LinkGoes place l l' o1 o2
    → LinksGo links (set links1 place l') o o2
links_go_set place links links1 l l' o o1 o2 first here second = record {
  goes = goes_then o o1 o2 first.goes second.goes;
  cause = λ number stands.
      let earlier : StandsFailed links1 number → StandsFailed links number ⊎ CountRose (o.links.faults number) (o2.links.faults number) =
      λ before. elim (first.cause number before) [
        | inl at_first ↦ inl at_first
        | inr rose ↦ inr (rose_later (o.links.faults number) (o1.links.faults number) (o2.links.faults number) rose (second.goes.links.faults number))
      ] in
      elim (cases_eq number place) [
        | inl same ↦
            let is : stands.link ≡ l' = get_set_same links1 place l' stands.link (subst (λ k. slice_get (set links1 place l') k ≡ Some stands.link) same stands.there) in
            elim (second.cause (ap (λ (x : Link). x.end) (sym is) ∙ stands.failed)) [
              | inl failed ↦ earlier (record { link = l; there = subst (λ k. slice_get links1 k ≡ Some l) (sym same) here; failed = failed })
              | inr rose ↦
                  inr (subst (λ k. CountRose (o.links.faults k) (o2.links.faults k)) (sym same)
                  (rose_before (o.links.faults place) (o1.links.faults place) (o2.links.faults place) (first.goes.links.faults place) rose))
            ]
        | inr apart ↦ earlier (record {
          link = stands.link;
          there = sym (get_other links1 place number l' apart) ∙ stands.there;
          failed = stands.failed;
        })
      ];
}

-- redundant links were closed
pub links_go_closed : (links mid links' : List Link) (o o' : Outside) → LinksGo links mid o o'
    → ClosesSome mid links' → LinksGo links links' o o'
links_go_closed links mid links' o o' first closes = record {
  goes = first.goes;
  cause = λ number stands.
      let one = closes.each number stands.link stands.there in
      elim one.is [
        | inl same ↦ first.cause number (record { link = one.before; there = one.was; failed = ap (λ (x : Link). x.end) (sym same) ∙ stands.failed })
        | inr closing ↦ absurd (let e : link_end.Redundant ≡ link_end.Failed = sym (ap (λ (x : Link). x.end) closing.1) ∙ stands.failed in cc)
      ];
}

-- a link came behind the others, and it failed only by a call on it
pub links_go_push : (number : ℕ) (links links' : List Link) (l : Link) (o o' : Outside)
    → length links ≡ number → links' ≡ links ++ l ∷ [] → LetsNothingFall o o'
    → (l.end ≡ link_end.Failed → CountRose (o.links.faults number) (o'.links.faults number))
    → LinksGo links links' o o'
links_go_push number links links' l o o' last pushed goes cause = record {
  goes = goes;
  cause = λ n stands.
      elim (get_push_cases links l n stands.link
      (ap (λ (ls : List Link). slice_get ls n) (sym pushed) ∙ stands.there)) [
        | inl here ↦ inl (record { link = stands.link; there = here; failed = stands.failed })
        | inr end ↦
            inr (subst (λ k. CountRose (o.links.faults k) (o'.links.faults k)) (sym (end.0 ∙ last))
            (cause (ap (λ (x : Link). x.end) (sym end.1) ∙ stands.failed)))
      ];
}
