-- The first session of each number.
use Rattle.std.proofs.Common.{◌≡◌, ℕ, Bool, true, false, cond, List, [], ◌∷◌, ◌++◌, Option, None, Some, refl, sym, ◌∙◌, ap, nat_eq, eqb-true, is_some, IfSome}
use Rattle.std.specs.BTreeMap.{BTreeMap, get}
use Rattle.std.specs.Ordering.{is_eq, nat_cmp}
use Rattle.std.specs.Cmp.{unsigned_tied}
use Rattle.sync_rules.specs.declared.entries.Session.{Session}
use Rattle.sync_rules.specs.Facts.{session_at}
use Rattle.journal_audit.specs.Sessions.{AreByNumber}

abbrev or_else : Option Session → Option Session → Option Session
or_else None later = later
or_else (Some s) later = Some s

at_push : (ss : List Session) (s : Session) (n : ℕ) → session_at (ss ++ s ∷ []) n ≡ or_else (session_at ss n) (cond (nat_eq s.number n) (Some s) None)
at_push [] s n = refl
at_push (t ∷ ss) s n =
    elim (nat_eq t.number n) as (λ b. cond b (Some t) (session_at (ss ++ s ∷ []) n) ≡ or_else (cond b (Some t) (session_at ss n)) (cond (nat_eq s.number n) (Some s) None)) [
      | true ↦ refl
      | false ↦ at_push ss s n
    ]

or_none : (o : Option Session) → or_else o None ≡ o
or_none None = refl
or_none (Some s) = refl

or_known : (o later : Option Session) → is_some o ≡ true → or_else o later ≡ o
or_known None later some = cc
or_known (Some s) later some = refl

-- a session of a new number
pub by_number_new : (ss : List Session) (s : Session) (m n : BTreeMap ℕ Session) → AreByNumber ss m → false ≡ is_some (get nat_cmp m s.number)
    → ((q : ℕ) → get nat_cmp n q ≡ cond (is_eq (nat_cmp s.number q)) (Some s) (get nat_cmp m q)) → AreByNumber (ss ++ s ∷ []) n
by_number_new ss s m n are new put q = put q ∙ by (nat_eq s.number q) refl ∙ sym (at_push ss s q) where
  none : (o : Option Session) → false ≡ is_some o → o ≡ None
  none None e = refl
  none (Some x) e = cc

  by : (b : Bool) → nat_eq s.number q ≡ b → cond (is_eq (nat_cmp s.number q)) (Some s) (get nat_cmp m q) ≡ or_else (session_at ss q) (cond (nat_eq s.number q) (Some s) None)
  by true e =
      let here : session_at ss q ≡ None = sym (are q) ∙ ap (get nat_cmp m) (sym (eqb-true s.number q e)) ∙ none (get nat_cmp m s.number) new in
      ap (λ b. cond b (Some s) (get nat_cmp m q)) (unsigned_tied s.number q ∙ e)
      ∙ sym (ap (λ o. or_else o (cond (nat_eq s.number q) (Some s) None)) here ∙ ap (λ b. cond b (Some s) None) e)
  by false e =
      ap (λ b. cond b (Some s) (get nat_cmp m q)) (unsigned_tied s.number q ∙ e) ∙ are q
      ∙ sym (ap (λ b. or_else (session_at ss q) (cond b (Some s) None)) e ∙ or_none (session_at ss q))

-- and of one that is known
pub by_number_known : (ss : List Session) (s : Session) (m : BTreeMap ℕ Session) → AreByNumber ss m → true ≡ is_some (get nat_cmp m s.number) → AreByNumber (ss ++ s ∷ []) m
by_number_known ss s m are known q = are q ∙ by (nat_eq s.number q) refl ∙ sym (at_push ss s q) where
  by : (b : Bool) → nat_eq s.number q ≡ b → session_at ss q ≡ or_else (session_at ss q) (cond (nat_eq s.number q) (Some s) None)
  by true e = sym (or_known (session_at ss q) _ (ap is_some (sym (are q) ∙ ap (get nat_cmp m) (sym (eqb-true s.number q e))) ∙ sym known))
  by false e = sym (ap (λ b. or_else (session_at ss q) (cond b (Some s) None)) e ∙ or_none (session_at ss q))

-- ---- the session of a number

numbered : (ss : List Session) (n : ℕ) (s : Session) → session_at ss n ≡ Some s → s.number ≡ n
numbered [] n s e = absurd (let none : None ≡ Some s = e in cc)
numbered (x ∷ ss) n s e =
    elim (nat_eq x.number n) as (λ b. nat_eq x.number n ≡ b → cond b (Some x) (session_at ss n) ≡ Some s → s.number ≡ n) [
      | true ↦ λ t e. let same : x ≡ s = cc in ap (λ (y : Session). y.number) (sym same) ∙ eqb-true x.number n t
      | false ↦ λ t e. numbered ss n s e
    ] refl e

pub session_number : (ss : List Session) (n : ℕ) (o : Option Session) → o ≡ session_at ss n → IfSome o (λ s. s.number ≡ n)
session_number ss n None is = tt
session_number ss n (Some s) is = numbered ss n s (sym is)
