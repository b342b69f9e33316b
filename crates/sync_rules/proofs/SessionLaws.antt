-- The sessions of a legal journal: numbered in order, of known contacts, and one that has not begun has taken nothing.
use Rattle.std.proofs.Common.{◌≡◌, ℕ, ◌+◌, ◌<◌, Bool, true, false, cond, ◌⊎◌, nat_eq, eqb-true}
use Rattle.std.proofs.Common.{List, [], ◌∷◌, ◌++◌, refl, sym, ◌∙◌, ap, subst, inl, inr, arith}
use Rattle.std.proofs.Common.{Option, Some, None, is_some, unwrap_or}
use Rattle.std.specs.List.{AllByRecursion}
use Rattle.std.specs.FinMap as fin_map
use Rattle.std.specs.Ordering.{nat_cmp}
use Rattle.std.proofs.lemmas.Bool.{false≢true}
use Rattle.sync_rules.specs.declared.entries.Entry.{Entry}
use Rattle.sync_rules.specs.declared.entries.Entry.TheVariants as entry
use Rattle.sync_rules.specs.declared.entries.Session.{Session}
use Rattle.sync_rules.specs.Clients.{Meaning}
use Rattle.sync_rules.specs.Facts.{Facts, after, after_all, nothing, facts, entries_of, session_at}
use Rattle.sync_rules.specs.Facts.{contact_of, contact_in, takes_of}
use Rattle.sync_rules.specs.Legal.{Legal, MayBegin}
use Rattle.sync_rules.specs.Meeting.{MeetsNoStep, AllMeet}
use Rattle.sync_rules.specs.Consistency.{AreAscending, IsSessionOf, HasSessions}
use Rattle.sync_rules.proofs.Kept.{after_batches-is}
use Rattle.sync_rules.proofs.Continuing.{one_more_there}
use Rattle.sync_rules.proofs.MeetingLaws.{legal_meets}

-- ---- lists

module _ {A : Type 0} (P : A → Type 0) where
  pub all_by_push : (xs : List A) (x : A) → AllByRecursion P xs → P x → AllByRecursion P (xs ++ x ∷ [])
  all_by_push [] x a p = (p, tt)
  all_by_push (y ∷ xs) x a p = (a.0, all_by_push xs x a.1 p)

module _ {A : Type 0} (P Q : A → Type 0) (up : (x : A) → P x → Q x) where
  pub all_by_weaker : (xs : List A) → AllByRecursion P xs → AllByRecursion Q xs
  all_by_weaker [] a = tt
  all_by_weaker (x ∷ xs) a = (up x a.0, all_by_weaker xs a.1)

ascending-push : (n : ℕ) (ss : List Session) (x : Session) → x.number ≡ n → AllByRecursion (λ (s : Session). s.number < n) ss → AreAscending ss
    → AreAscending (ss ++ x ∷ [])
ascending-push n [] x is below up = (tt, tt)
ascending-push n (s ∷ ss) x is below up =
    let first : s.number < x.number = let b : s.number < n = below.0 in omega (arith, b, is) in
    (all_by_push (λ (t : Session). s.number < t.number) ss x up.0 first, ascending-push n ss x is below.1 up.1)

-- a session that is found in a longer list
pub session_at-cases : (sessions : List Session) (x : Session) (n : ℕ) (s : Session) → session_at (sessions ++ x ∷ []) n ≡ Some s
    → (session_at sessions n ≡ Some s) ⊎ ((s ≡ x) × (x.number ≡ n))
session_at-cases [] x n s e =
    elim (nat_eq x.number n) as (λ b. nat_eq x.number n ≡ b → cond b (Some x) None ≡ Some s → (session_at [] n ≡ Some s) ⊎ ((s ≡ x) × (x.number ≡ n))) [
      | true ↦ λ is e. let same : s ≡ x = cc in inr (same, eqb-true x.number n is)
      | false ↦ λ is e. cc
    ] refl e
session_at-cases (y ∷ sessions) x n s e =
    elim (nat_eq y.number n) as (λ b. cond b (Some y) (session_at (sessions ++ x ∷ []) n) ≡ Some s
    → (cond b (Some y) (session_at sessions n) ≡ Some s) ⊎ ((s ≡ x) × (x.number ≡ n))) [
      | true ↦ λ e. inl e
      | false ↦ λ e. session_at-cases sessions x n s e
    ] e

pub session_at-none : (sessions : List Session) (x : Session) (n : ℕ) → session_at (sessions ++ x ∷ []) n ≡ None → session_at sessions n ≡ None
session_at-none [] x n e = refl
session_at-none (y ∷ sessions) x n e =
    elim (nat_eq y.number n) as (λ b. cond b (Some y) (session_at (sessions ++ x ∷ []) n) ≡ None → cond b (Some y) (session_at sessions n) ≡ None) [
      | true ↦ λ e. cc
      | false ↦ λ e. session_at-none sessions x n e
    ] e

-- ---- one entry

more_of_contacts : (f : Facts) (n : ℕ) (s : Session) (c : ℕ) → IsSessionOf f n s → IsSessionOf (after f (entry.Contact c)) n s
more_of_contacts f n s c is = record {
  numbered = is.numbered;
  begun = is.begun;
  known_contact = let k : s.contact < f.contacts = is.known_contact in omega (arith, k);
  some_latency = is.some_latency;
  suited_nonce = is.suited_nonce;
}

more_of_sessions : (f : Facts) (n : ℕ) (s x : Session) → IsSessionOf f n s → IsSessionOf (after f (entry.Session x)) n s
more_of_sessions f n s x is = record {
  numbered = is.numbered;
  begun = let k : n < f.begun = is.begun in omega (arith, k);
  known_contact = is.known_contact;
  some_latency = is.some_latency;
  suited_nonce = is.suited_nonce;
}

first_of_session : (f : Facts) (x : Session) → MayBegin f x → IsSessionOf (after f (entry.Session x)) x.number x
first_of_session f x b = record {
  numbered = refl;
  begun = let k : x.number ≡ f.begun = b.numbered in omega (arith, k);
  known_contact = b.known_contact;
  some_latency = b.some_latency;
  suited_nonce = b.suited_nonce;
}

begins : (f : Facts) (x : Session) → MayBegin f x → HasSessions f → HasSessions (after f (entry.Session x))
begins f x b h =
    let is : x.number ≡ f.begun = b.numbered in
    let last : x.number < (after f (entry.Session x)).begun = omega (arith, is) in
    record {
      ascending = ascending-push (f.begun) f.sessions x is h.below h.ascending;
      below = all_by_push (λ (s : Session). s.number < (after f (entry.Session x)).begun) f.sessions x
          (all_by_weaker (λ (s : Session). s.number < f.begun) (λ (s : Session). s.number < (after f (entry.Session x)).begun)
          (λ s k. omega (arith, k)) f.sessions h.below) last;
      each = λ n s at.
          elim (session_at-cases f.sessions x n s at) [
            | inl was ↦ more_of_sessions f n s x (h.each n s was)
            | inr new ↦
                let at_number : IsSessionOf (after f (entry.Session x)) n x = subst (λ (k : ℕ). IsSessionOf (after f (entry.Session x)) k x) new.1 (first_of_session f x b) in
                subst (IsSessionOf (after f (entry.Session x)) n) (sym new.0) at_number
          ];
      untaken = λ n none. h.untaken n (session_at-none f.sessions x n none);
    }

-- a record is taken on a session that is known
takes_known : (f : Facts) (s k : ℕ) → is_some (session_at f.sessions s) ≡ true → HasSessions f → HasSessions (after f (entry.Take s k))
takes_known f s k known h = record {
  ascending = h.ascending;
  below = h.below;
  each = λ n x at.
      let is : IsSessionOf f n x = h.each n x at in
      record {
        numbered = is.numbered;
        begun = is.begun;
        known_contact = is.known_contact;
        some_latency = is.some_latency;
        suited_nonce = is.suited_nonce;
      };
  untaken = λ n none. one_more_there f.takes s n ∙ other n none (nat_eq n s) refl;
}
  where
    other : (n : ℕ) → session_at f.sessions n ≡ None → (b : Bool) → nat_eq n s ≡ b → cond b (takes_of f.takes n + 1) (takes_of f.takes n) ≡ 0
    other n none true e =
        let same : n ≡ s = eqb-true n s e in
        absurd (false≢true (sym (ap is_some none) ∙ (ap (λ (m : ℕ). is_some (session_at f.sessions m)) same ∙ known)))
    other n none false e = h.untaken n none

-- an entry that changes no session, no count and no contact
same_sessions : (f g : Facts) → g.contacts ≡ f.contacts → g.begun ≡ f.begun → g.sessions ≡ f.sessions → g.takes ≡ f.takes → HasSessions f → HasSessions g
same_sessions f g c n_is s t h = record {
  ascending = subst AreAscending (sym s) h.ascending;
  below = subst (λ (k : ℕ). AllByRecursion (λ (x : Session). x.number < k) g.sessions) (sym n_is)
      (subst (λ (ss : List Session). AllByRecursion (λ (x : Session). x.number < f.begun) ss) (sym s) h.below);
  each = λ n x at.
      let is : IsSessionOf f n x = h.each n x (ap (λ (ss : List Session). session_at ss n) (sym s) ∙ at) in
      record {
        numbered = is.numbered;
        begun = subst (λ (k : ℕ). n < k) (sym n_is) is.begun;
        known_contact = subst (λ (m : ℕ). x.contact < m) (sym c) is.known_contact;
        some_latency = is.some_latency;
        suited_nonce = is.suited_nonce;
      };
  untaken = λ n none. ap (λ m. takes_of m n) t ∙ h.untaken n (ap (λ (ss : List Session). session_at ss n) (sym s) ∙ none);
}

-- more sessions have begun, and none of them is in the list
more_begun : (f : Facts) (n : ℕ) → HasSessions f → HasSessions (after f (entry.Brief n))
more_begun f n h = record {
  ascending = h.ascending;
  below = all_by_weaker (λ (s : Session). s.number < f.begun) (λ (s : Session). s.number < f.begun + n) (λ s k. omega (arith, k)) f.sessions h.below;
  each = λ k s at.
      let is : IsSessionOf f k s = h.each k s at in
      record {
        numbered = is.numbered;
        begun = let b : k < f.begun = is.begun in omega (arith, b);
        known_contact = is.known_contact;
        some_latency = is.some_latency;
        suited_nonce = is.suited_nonce;
      };
  untaken = h.untaken;
}

pub sessions_after_one : (clients : Meaning) (f : Facts) (e : Entry) → MeetsNoStep clients f e → HasSessions f → HasSessions (after f e)
sessions_after_one clients f (entry.Contact c) m h = record {
  ascending = h.ascending;
  below = h.below;
  each = λ n s at. more_of_contacts f n s c (h.each n s at);
  untaken = h.untaken;
}
sessions_after_one clients f (entry.Session x) m h = begins f x m.1 h
sessions_after_one clients f (entry.Take s k) m h = takes_known f s k m.1 h
sessions_after_one clients f (entry.Brief n) m h = more_begun f n h
sessions_after_one clients f it m h = same_sessions f (after f it) refl refl refl refl h

pub sessions_of_nothing : HasSessions nothing
sessions_of_nothing = record {
  ascending = tt;
  below = tt;
  each = λ n s at. cc;
  untaken = λ n none. ap (λ (o : Option ℕ). unwrap_or o 0) (fin_map.get-empty nat_cmp n);
}

-- ---- contacts of sessions

pub session_contact_known : (f : Facts) → HasSessions f → (n : ℕ) (o : Option Session) → session_at f.sessions n ≡ o → is_some o ≡ true → contact_of f.sessions n < f.contacts
session_contact_known f h n None at known = absurd (false≢true known)
session_contact_known f h n (Some s) at known =
    subst (λ (o : Option Session). contact_in o < f.contacts) (sym at) (h.each n s at).known_contact

-- ---- journals

pub sessions_after_all : (clients : Meaning) (f : Facts) (es : List Entry) → AllMeet clients f es → HasSessions f → HasSessions (after_all f es)
sessions_after_all clients f [] m h = h
sessions_after_all clients f (e ∷ es) m h = sessions_after_all clients (after f e) es m.1 (sessions_after_one clients f e m.0 h)

pub legal_sessions : (clients : Meaning) (j : List (List Entry)) → Legal clients j → HasSessions (facts j)
legal_sessions clients j l =
    subst HasSessions (sym (after_batches-is nothing j)) (sessions_after_all clients nothing (entries_of j) (legal_meets clients j l) sessions_of_nothing)
