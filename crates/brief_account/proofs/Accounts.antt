-- What a brief account tells of the messages is a function of the groups and of the held messages.
use Rattle.std.proofs.Common.{◌≡◌, ℕ, zero, suc, ◌≤◌, List, [], ◌∷◌, ◌++◌, refl, sym, ◌∙◌, ap, arith, append_assoc, append-nil, Some}
use Rattle.sync_rules.specs.declared.entries.Entry.{Entry}
use Rattle.sync_rules.specs.declared.entries.Entry.TheVariants as entry
use Rattle.sync_rules.specs.declared.states.Start.TheVariants as start
use Rattle.sync_rules.specs.Clients.{Meaning}
use Rattle.sync_rules.specs.Facts.{Facts, Held, after, after_all, kept_as}
use Rattle.sync_rules.specs.Growth.{HasSameSteps}
use Rattle.sync_rules.specs.Left.{left_of}
use Rattle.sync_rules.specs.Legal.{MayKeep}
use Rattle.sync_rules.specs.Steps.{IsSettled, next}
use Rattle.sync_rules.proofs.LeftLaws.{step_lowers}
use Rattle.brief_account.specs.Account.{account, cascade, settling_of, steps_from}
use Rattle.brief_account.proofs.Cascades.{no_cascade, same_settling, same_steps_behind_all, settling_steps}

-- ---- what is told of messages

-- an entry of what is told of messages: a message that may be kept where no step is open, or the next step
abbrev pub Tells : Meaning → Facts → Entry → Type 0
Tells clients g (entry.Kept from m) = IsSettled clients g × (g.start ≡ start.Opening) × MayKeep clients g from m
Tells clients g (entry.Judged id) = next clients g ≡ Some (entry.Judged id)
Tells clients g (entry.Deliver id) = next clients g ≡ Some (entry.Deliver id)
Tells clients g (entry.Invalid id) = next clients g ≡ Some (entry.Invalid id)
Tells clients g _ = ⊥

abbrev pub AllTell : Meaning → Facts → List Entry → Type 0
AllTell clients g [] = Unit {0}
AllTell clients g (e ∷ es) = Tells clients g e × AllTell clients (after g e) es

pub AllTell-append : (clients : Meaning) (g : Facts) (es fs : List Entry) → AllTell clients g es
    → AllTell clients (after_all g es) fs
    → AllTell clients g (es ++ fs)
AllTell-append clients g [] fs a b = b
AllTell-append clients g (e ∷ es) fs a b = (a.0, AllTell-append clients (after g e) es fs a.1 b)

-- the messages that are kept
abbrev pub kept_by : Entry → List Held
kept_by (entry.Kept from m) = kept_as from m ∷ []
kept_by _ = []

abbrev pub kept_in : List Entry → List Held
kept_in [] = []
kept_in (e ∷ es) = kept_by e ++ kept_in es

told_held : (clients : Meaning) (g : Facts) (e : Entry) → Tells clients g e → (after g e).held ≡ g.held ++ kept_by e
told_held clients g (entry.Kept from m) t = refl
told_held clients g (entry.Judged id) t = sym (append-nil g.held)
told_held clients g (entry.Deliver id) t = sym (append-nil g.held)
told_held clients g (entry.Invalid id) t = sym (append-nil g.held)
told_held clients g _ t = absurd t

pub all_told_held : (clients : Meaning) (g : Facts) (es : List Entry) → AllTell clients g es
    → (after_all g es).held ≡ g.held ++ kept_in es
all_told_held clients g [] t = sym (append-nil g.held)
all_told_held clients g (e ∷ es) t =
    all_told_held clients (after g e) es t.1
    ∙ (ap (λ (hs : List Held). hs ++ kept_in es) (told_held clients g e t.0)
    ∙ append_assoc g.held (kept_by e) (kept_in es))

-- ---- it is the account of the messages that it keeps

-- the steps that are open, and the account of these messages behind them
abbrev from_here : Meaning → Facts → ℕ → List Held → List Entry
from_here clients g n hs = cascade clients n g ++ account clients (after_all g (cascade clients n g)) hs

module _ (clients : Meaning) where
  settled_here : (g : Facts) (n : ℕ) (hs : List Held) → IsSettled clients g
      → from_here clients g n hs ≡ account clients g hs
  settled_here g n hs settled =
      ap (λ (es : List Entry). es ++ account clients (after_all g es) hs) (no_cascade clients g n settled)

  -- a step, and what is told behind it
  told_step : (g : Facts) (e : Entry) (es : List Entry) (n : ℕ) → next clients g ≡ Some e → left_of g ≤ n
      → kept_by e ≡ []
      → ((m : ℕ) → left_of (after g e) ≤ m → es ≡ from_here clients (after g e) m (kept_in es))
      → e ∷ es ≡ from_here clients g n (kept_in (e ∷ es))
  told_step g e es zero open_now few none rest =
      let lower = step_lowers clients g e open_now in
      let no : ⊥ = omega (arith, lower, few) in
      absurd no
  told_step g e es (suc n) open_now few none rest =
      let lower = step_lowers clients g e open_now in
      ap (λ (t : List Entry). e ∷ t) (rest n (omega (arith, lower, few)))
      ∙ (sym (ap (λ (t : List Entry). t ++ account clients (after_all g t) (kept_in es))
      (ap (steps_from (cascade clients n) g) open_now))
      ∙ sym (ap (λ (hs : List Held). from_here clients g (suc n) (hs ++ kept_in es)) none))

  pub is_told : (es : List Entry) (g : Facts) (n : ℕ) → AllTell clients g es → IsSettled clients (after_all g es)
      → left_of g ≤ n
      → es ≡ from_here clients g n (kept_in es)
  is_told [] g n t settled few = sym (settled_here g n [] settled)
  is_told (entry.Kept from m ∷ es) g n t settled few =
      let k : Entry = entry.Kept from m in
      ap (λ (x : List Entry). k ∷ x) (is_told es (after g k) (left_of (after g k)) t.1 settled (omega arith))
      ∙ sym (settled_here g n (kept_as from m ∷ kept_in es) t.0.0)
  is_told (entry.Judged id ∷ es) g n t settled few =
      told_step g (entry.Judged id) es n t.0 few refl (λ m le. is_told es (after g (entry.Judged id)) m t.1 settled le)
  is_told (entry.Deliver id ∷ es) g n t settled few =
      told_step g (entry.Deliver id) es n t.0 few refl (λ m le. is_told es (after g (entry.Deliver id)) m t.1 settled le)
  is_told (entry.Invalid id ∷ es) g n t settled few =
      told_step g (entry.Invalid id) es n t.0 few refl (λ m le. is_told es (after g (entry.Invalid id)) m t.1 settled le)
  is_told (_ ∷ es) g n t settled few = absurd t.0

  -- where no step is open at first
  pub told_account : (es : List Entry) (g : Facts) → AllTell clients g es → IsSettled clients g
      → IsSettled clients (after_all g es)
      → es ≡ account clients g (kept_in es)
  told_account es g t first settled =
      is_told es g (left_of g) t settled (omega arith) ∙ settled_here g (left_of g) (kept_in es) first

  -- ---- facts with the same steps have the same account

  same_kept : (g h : Facts) (k : Held) → HasSameSteps g h
      → HasSameSteps (after g (entry.Kept k.origin k.message)) (after h (entry.Kept k.origin k.message))
  same_kept g h k s = record {
    groups = s.groups;
    held = ap (λ (hs : List Held). hs ++ kept_as k.origin k.message ∷ []) s.held;
    judged = s.judged;
    invalid = s.invalid;
    delivered = s.delivered;
  }

  pub same_account : (g h : Facts) (hs : List Held) → HasSameSteps g h → account clients g hs ≡ account clients h hs
  same_account g h [] s = refl
  same_account g h (k ∷ hs) s =
      let e : Entry = entry.Kept k.origin k.message in
      let more : HasSameSteps (after g e) (after h e) = same_kept g h k s in
      let steps : List Entry = settling_of clients (after g e) in
      let behind : HasSameSteps (after_all (after g e) steps) (after_all (after h e) steps) =
      same_steps_behind_all clients steps (after g e) (after h e) (settling_steps clients (after g e)) more in
      ap (λ (t : List Entry). e ∷ (steps ++ t))
      (same_account (after_all (after g e) steps) (after_all (after h e) steps) hs behind)
      ∙ ap (λ (t : List Entry). e ∷ (t ++ account clients (after_all (after h e) t) hs))
      (same_settling clients (after g e) (after h e) more)
