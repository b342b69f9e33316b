-- The facts of a journal that goes on go on, entry by entry and batch by batch.
use Rattle.std.proofs.Common.{◌≡◌, ℕ, ◌+◌, ◌≤◌, Bool, true, false, cond, nat_eq, eqb-true, List, []}
use Rattle.std.proofs.Common.{◌∷◌, ◌++◌, refl, sym, ◌∙◌, ap, subst, arith, append_assoc, append-nil}
use Rattle.std.proofs.Common.{Option, Some, unwrap_or}
use Rattle.std.specs.FinSet as fin_set
use Rattle.std.specs.FinMap as fin_map
use Rattle.std.specs.Cmp.{nat_cmp_total, unsigned_tied}
use Rattle.std.specs.Ordering.{nat_cmp, eq_by_cmp}
use Rattle.std.proofs.lemmas.Bool.{or_right}
use Rattle.sync_rules.specs.declared.entries.Entry.{Entry}
use Rattle.sync_rules.specs.declared.entries.Entry.TheVariants as entry
use Rattle.sync_rules.specs.declared.entries.Session.{Session}
use Rattle.sync_rules.specs.Clients.{Meaning}
use Rattle.sync_rules.specs.Lists.{same_id}
use Rattle.sync_rules.specs.Facts.{Facts, Held, Id, Known, after, after_all, after_batches, nothing}
use Rattle.sync_rules.specs.Facts.{facts, group_at, held_at, session_at, takes_of, authored}
use Rattle.sync_rules.specs.Facts.{arrived, kept_as, known_of, contact_of, ExtendsJournal}
use Rattle.sync_rules.specs.Legal.{Legal, Allowed, GoesOn}
use Rattle.sync_rules.specs.EntryTests.{judges, invalidates}
use Rattle.sync_rules.specs.Growth.{ContinuesList, ContinuesFacts}
use Rattle.sync_rules.proofs.Sound.{held_at-push}
use Rattle.sync_rules.proofs.Flags.{judged_scan, invalid_scan}
use Rattle.sync_rules.proofs.Settling.{goes_on_both, goes_on_front, goes_on_back, after_batches-append}

-- ---- fronts

module _ {A : Type 0} where
  pub front_itself : (xs : List A) → ContinuesList xs xs
  front_itself xs = record { more = []; goes_on = sym (append-nil xs) }

  pub front_push : (xs : List A) (x : A) → ContinuesList xs (xs ++ x ∷ [])
  front_push xs x = record { more = x ∷ []; goes_on = refl }

  pub front_then : (xs ys zs : List A) → ContinuesList xs ys → ContinuesList ys zs
      → ContinuesList xs zs
  front_then xs ys zs a b = record {
    more = a.more ++ b.more;
    goes_on = b.goes_on ∙ (ap (λ (t : List A). t ++ b.more) a.goes_on ∙ append_assoc xs a.more b.more);
  }

-- ---- look-ups in longer lists

pub group_at-stays : (groups : List Known) (x : Known) (id : Id) (g : Known) → group_at groups id ≡ Some g → group_at (groups ++ x ∷ []) id ≡ Some g
group_at-stays [] x id g e = cc
group_at-stays (y ∷ groups) x id g e =
    elim (same_id y.id id) as (λ b. cond b (Some y) (group_at groups id) ≡ Some g → cond b (Some y) (group_at (groups ++ x ∷ []) id) ≡ Some g) [
      | true ↦ λ e. e
      | false ↦ λ e. group_at-stays groups x id g e
    ] e

pub session_at-stays : (sessions : List Session) (x : Session) (n : ℕ) (s : Session) → session_at sessions n ≡ Some s → session_at (sessions ++ x ∷ []) n ≡ Some s
session_at-stays [] x n s e = cc
session_at-stays (y ∷ sessions) x n s e =
    elim (nat_eq y.number n) as (λ b. cond b (Some y) (session_at sessions n) ≡ Some s → cond b (Some y) (session_at (sessions ++ x ∷ []) n) ≡ Some s) [
      | true ↦ λ e. e
      | false ↦ λ e. session_at-stays sessions x n s e
    ] e

-- the count of a session after one record more
pub takes_of-put : (takes : fin_map.FinMap nat_cmp ℕ) (s k n : ℕ) → takes_of (fin_map.insert takes s k) n ≡ cond (nat_eq n s) k (takes_of takes n)
takes_of-put takes s k n =
    ap (λ (o : Option ℕ). unwrap_or o 0) (fin_map.get-insert nat_cmp_total takes s k n)
    ∙ (chosen (eq_by_cmp nat_cmp n s) (fin_map.get takes n) ∙ ap (λ b. cond b k (takes_of takes n)) (unsigned_tied n s))
  where
    chosen : (b : Bool) (o : Option ℕ) → unwrap_or (cond b (Some k) o) 0 ≡ cond b k (unwrap_or o 0)
    chosen true o = refl
    chosen false o = refl

pub one_more_there : (takes : fin_map.FinMap nat_cmp ℕ) (s n : ℕ)
    → takes_of (fin_map.insert takes s (takes_of takes s + 1)) n ≡ cond (nat_eq n s) (takes_of takes n + 1) (takes_of takes n)
one_more_there takes s n = takes_of-put takes s (takes_of takes s + 1) n ∙ at (nat_eq n s) refl
  where
    at : (b : Bool) → nat_eq n s ≡ b → cond b (takes_of takes s + 1) (takes_of takes n) ≡ cond b (takes_of takes n + 1) (takes_of takes n)
    at true e = let same : n ≡ s = eqb-true n s e in ap (λ (k : ℕ). takes_of takes k + 1) (sym same)
    at false e = refl

no_fewer : (b : Bool) (n m : ℕ) → m ≡ cond b (n + 1) n → n ≤ m
no_fewer true n m e = omega (arith, e)
no_fewer false n m e = omega (arith, e)

-- ---- one entry

continues_contacts : (f : Facts) (e : Entry) → f.contacts ≤ (after f e).contacts
continues_contacts f (entry.Contact c) = omega arith
continues_contacts f _ = omega arith

continues_begun : (f : Facts) (e : Entry) → f.begun ≤ (after f e).begun
continues_begun f (entry.Session s) = omega arith
continues_begun f (entry.Brief n) = omega arith
continues_begun f _ = omega arith

continues_groups : (f : Facts) (e : Entry) → ContinuesList f.groups (after f e).groups
continues_groups f (entry.Group def) = front_push f.groups (known_of def)
continues_groups f _ = front_itself f.groups

continues_sessions : (f : Facts) (e : Entry) → ContinuesList f.sessions (after f e).sessions
continues_sessions f (entry.Session s) = front_push f.sessions s
continues_sessions f _ = front_itself f.sessions

continues_held : (f : Facts) (e : Entry) → ContinuesList f.held (after f e).held
continues_held f (entry.Author m) = front_push f.held (authored m)
continues_held f (entry.Arrive s m) = front_push f.held (arrived (contact_of f.sessions s) m)
continues_held f (entry.Kept from m) = front_push f.held (kept_as from m)
continues_held f _ = front_itself f.held

continues_delivered : (f : Facts) (e : Entry) → ContinuesList f.delivered (after f e).delivered
continues_delivered f (entry.Deliver id) = front_push f.delivered id
continues_delivered f _ = front_itself f.delivered

same_group_after : (f : Facts) (e : Entry) (id : Id) (g : Known) → group_at f.groups id ≡ Some g → group_at (after f e).groups id ≡ Some g
same_group_after f (entry.Group def) id g at = group_at-stays f.groups (known_of def) id g at
same_group_after f _ id g at = at

same_session_after : (f : Facts) (e : Entry) (n : ℕ) (s : Session) → session_at f.sessions n ≡ Some s → session_at (after f e).sessions n ≡ Some s
same_session_after f (entry.Session x) n s at = session_at-stays f.sessions x n s at
same_session_after f _ n s at = at

same_held_after : (f : Facts) (e : Entry) (id : Id) (h : Held) → held_at f.held id ≡ Some h → held_at (after f e).held id ≡ Some h
same_held_after f (entry.Author m) id h at = held_at-push f.held (authored m) id h at
same_held_after f (entry.Arrive s m) id h at = held_at-push f.held (arrived (contact_of f.sessions s) m) id h at
same_held_after f (entry.Kept from m) id h at = held_at-push f.held (kept_as from m) id h at
same_held_after f _ id h at = at

takes_after_one : (f : Facts) (e : Entry) (n : ℕ) → takes_of f.takes n ≤ takes_of (after f e).takes n
takes_after_one f (entry.Take s k) n =
    no_fewer (nat_eq n s) (takes_of f.takes n) (takes_of (after f (entry.Take s k)).takes n) (one_more_there f.takes s n)
takes_after_one f _ n = omega arith

pub continues_after : (f : Facts) (e : Entry) → ContinuesFacts f (after f e)
continues_after f e = record {
  contacts = continues_contacts f e;
  begun = continues_begun f e;
  groups = continues_groups f e;
  sessions = continues_sessions f e;
  held = continues_held f e;
  delivered = continues_delivered f e;
  same_group = same_group_after f e;
  same_session = same_session_after f e;
  same_held = same_held_after f e;
  judged = λ id at. judged_scan id f e ∙ or_right (judges id e) (fin_set.contains f.judged id) at;
  invalid = λ id at. invalid_scan id f e ∙ or_right (invalidates id e) (fin_set.contains f.invalid id) at;
  takes = takes_after_one f e;
}

-- ---- entries, batches and journals

pub continues_itself : (f : Facts) → ContinuesFacts f f
continues_itself f = record {
  contacts = omega arith;
  begun = omega arith;
  groups = front_itself f.groups;
  sessions = front_itself f.sessions;
  held = front_itself f.held;
  delivered = front_itself f.delivered;
  same_group = λ id g at. at;
  same_session = λ n s at. at;
  same_held = λ id h at. at;
  judged = λ id at. at;
  invalid = λ id at. at;
  takes = λ n. omega arith;
}

pub continues_then : (f g h : Facts) → ContinuesFacts f g → ContinuesFacts g h → ContinuesFacts f h
continues_then f g h a b = record {
  contacts = let x : f.contacts ≤ g.contacts = a.contacts in let y : g.contacts ≤ h.contacts = b.contacts in omega (arith, x, y);
  begun = let x : f.begun ≤ g.begun = a.begun in let y : g.begun ≤ h.begun = b.begun in omega (arith, x, y);
  groups = front_then f.groups g.groups h.groups a.groups b.groups;
  sessions = front_then f.sessions g.sessions h.sessions a.sessions b.sessions;
  held = front_then f.held g.held h.held a.held b.held;
  delivered = front_then f.delivered g.delivered h.delivered a.delivered b.delivered;
  same_group = λ id x at. b.same_group id x (a.same_group id x at);
  same_session = λ n s at. b.same_session n s (a.same_session n s at);
  same_held = λ id x at. b.same_held id x (a.same_held id x at);
  judged = λ id at. b.judged id (a.judged id at);
  invalid = λ id at. b.invalid id (a.invalid id at);
  takes = λ n.
      let x : takes_of f.takes n ≤ takes_of g.takes n = a.takes n in
      let y : takes_of g.takes n ≤ takes_of h.takes n = b.takes n in
      omega (arith, x, y);
}

pub continues_all : (f : Facts) (es : List Entry) → ContinuesFacts f (after_all f es)
continues_all f [] = continues_itself f
continues_all f (e ∷ es) = continues_then f (after f e) (after_all (after f e) es) (continues_after f e) (continues_all (after f e) es)

pub continues_batches : (f : Facts) (bs : List (List Entry)) → ContinuesFacts f (after_batches f bs)
continues_batches f [] = continues_itself f
continues_batches f (b ∷ bs) =
    continues_then f (after_all f b) (after_batches (after_all f b) bs) (continues_all f b) (continues_batches (after_all f b) bs)

-- ---- journals

pub facts-append : (j more : List (List Entry)) → facts (j ++ more) ≡ after_batches (facts j) more
facts-append j more = after_batches-append nothing j more

pub facts_of_longer : (j before : List (List Entry)) (e : ExtendsJournal j before) → facts j ≡ after_batches (facts before) e.0
facts_of_longer j before e = ap facts e.1 ∙ facts-append before e.0

pub continues_journals : (j before : List (List Entry)) → ExtendsJournal j before → ContinuesFacts (facts before) (facts j)
continues_journals j before e =
    subst (ContinuesFacts (facts before)) (sym (facts_of_longer j before e)) (continues_batches (facts before) e.0)

pub extends_itself : (j : List (List Entry)) → ExtendsJournal j j
extends_itself j = ([], sym (append-nil j))

pub extends_then : (j mid before : List (List Entry)) → ExtendsJournal j mid → ExtendsJournal mid before → ExtendsJournal j before
extends_then j mid before b a =
    (a.0 ++ b.0, b.1 ∙ (ap (λ (t : List (List Entry)). t ++ b.0) a.1 ∙ append_assoc before a.0 b.0))

pub legal-append : (clients : Meaning) (j more : List (List Entry)) → Legal clients j → GoesOn clients (facts j) more → Legal clients (j ++ more)
legal-append clients j more l g = goes_on_both clients nothing j more l g

pub legal-push : (clients : Meaning) (j : List (List Entry)) (b : List Entry) → Legal clients j → Allowed clients (facts j) b → Legal clients (j ++ b ∷ [])
legal-push clients j b l a = goes_on_both clients nothing j (b ∷ []) l (a, tt)

pub legal-front : (clients : Meaning) (j more : List (List Entry)) → Legal clients (j ++ more) → Legal clients j
legal-front clients j more l = goes_on_front clients nothing j more l

pub legal-back : (clients : Meaning) (j more : List (List Entry)) → Legal clients (j ++ more) → GoesOn clients (facts j) more
legal-back clients j more l = goes_on_back clients nothing j more l
