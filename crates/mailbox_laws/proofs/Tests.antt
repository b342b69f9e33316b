-- Tests of lists and of messages.
use Rattle.std.proofs.Common.{◌≡◌, Bool, true, false, ◌&&◌, List, [], ◌∷◌, refl, sym, ◌∙◌, ap, inl, inr, nat_eq, eqb-true, eq-eqb}
use Rattle.std.specs.List.{list_any}
use Rattle.std.proofs.lemmas.Bool.{and_parts, and_from, or_cases, or_left, or_right, false≢true}
use Rattle.sync_ids.specs.Values.{MessageValue}
use Rattle.sync_rules.specs.Allows.{same_message}
use Rattle.sync_rules.specs.Facts.{Held}
use Rattle.sync_rules.specs.Lists.{In, same_id}
use Rattle.sync_rules.proofs.Elements.{same_id-is, same_id_itself}
use Rattle.mailbox_laws.specs.Effects.{holds}

-- two tests that follow from one another are the same
pub both_true : (a b : Bool) → (a ≡ true → b ≡ true) → (b ≡ true → a ≡ true) → a ≡ b
both_true true true up back = refl
both_true true false up back = sym (up refl)
both_true false true up back = back refl
both_true false false up back = refl

-- ---- an element that passes

pub record Finds {A : Type 0} (p : A → Bool) (xs : List A) : Type 0 where
  pub found : A
  pub inside : In found xs
  pub passes : p found ≡ true

module _ {A : Type 0} (p : A → Bool) where
  pub finds : (xs : List A) → list_any p xs ≡ true → Finds p xs
  finds [] h = absurd (false≢true h)
  finds (x ∷ xs) h =
      elim (or_cases (p x) (list_any p xs) h) [
        | inl here ↦ record { found = x; inside = inl refl; passes = here }
        | inr later ↦
            let rest = finds xs later in
            record { found = rest.found; inside = inr rest.inside; passes = rest.passes }
      ]

  pub any_at : (xs : List A) (x : A) → In x xs → p x ≡ true → list_any p xs ≡ true
  any_at [] x inside h = absurd inside
  any_at (y ∷ ys) x inside h =
      elim inside [
        | inl e ↦ or_left (p y) (list_any p ys) (ap p (sym e) ∙ h)
        | inr t ↦ or_right (p y) (list_any p ys) (any_at ys x t h)
      ]

-- ---- messages

pub same_message-is : (a b : MessageValue) → same_message a b ≡ true → a ≡ b
same_message-is a b h =
    let one = and_parts (same_id a.group b.group) (nat_eq a.timestamp b.timestamp && same_id a.body b.body) h in
    let two = and_parts (nat_eq a.timestamp b.timestamp) (same_id a.body b.body) one.1 in
    let group : a.group ≡ b.group = same_id-is a.group b.group one.0 in
    let time : a.timestamp ≡ b.timestamp = eqb-true a.timestamp b.timestamp two.0 in
    let body : a.body ≡ b.body = same_id-is a.body b.body two.1 in
    λ i. record { group = group i; timestamp = time i; body = body i }

pub same_message_itself : (m : MessageValue) → same_message m m ≡ true
same_message_itself m =
    and_from (same_id m.group m.group) (nat_eq m.timestamp m.timestamp && same_id m.body m.body)
    (same_id_itself m.group)
    (and_from (nat_eq m.timestamp m.timestamp) (same_id m.body m.body) (eq-eqb m.timestamp m.timestamp refl)
    (same_id_itself m.body))

-- what is held passes the test
pub holds_at : (held : List Held) (h : Held) → In h held → holds held h.message ≡ true
holds_at held h inside =
    any_at (λ (x : Held). same_message x.message h.message) held h inside (same_message_itself h.message)
