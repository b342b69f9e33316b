-- Lines that are added one after the other.
use Rattle.std.proofs.Common.{◌≡◌, ℕ, zero, suc, ◌+◌, ◌<◌, List, [], ◌∷◌, ◌++◌, length, take, drop}
use Rattle.std.proofs.Common.{None, Some, refl, sym, ap, ◌∙◌, append_assoc, append-nil}
use Rattle.std.proofs.Common.{add-one, arith}
use Rattle.std.specs.Prelude.{slice_get}
use Rattle.std.specs.List.{flat_map}
use Rattle.std.specs.Option.{option_map}
use Rattle.sync_ids.specs.Values.{MessageValue}
use Rattle.sync_rules.specs.declared.states.Origin.{Origin}
use Rattle.sync_rules.specs.Facts.{Held}
use Rattle.sync_words.specs.HeldTexts.{inbox_text}
use Rattle.store_commands.specs.Shown.{delivered_line}

-- an index within a list names an item
pub item_at : {A : Type 0} (xs : List A) (n : ℕ) → n < length xs
    → (x : A) × (slice_get xs n ≡ Some x)
item_at [] n within = absurd (omega arith)
item_at (y ∷ ys) zero within = (y, refl)
item_at (y ∷ ys) (suc n) within = item_at ys n (omega arith)

-- an item of what stands behind a place
pub item_behind : {A : Type 0} (xs : List A) (from n : ℕ) (x : A)
    → slice_get (drop from xs) n ≡ Some x → slice_get xs (from + n) ≡ Some x
item_behind xs zero n x e =
    let none : zero + n ≡ n = omega arith in
    ap (slice_get xs) none ∙ e
item_behind [] (suc from) n x e = absurd (let it : None ≡ Some x = e in cc)
item_behind (y ∷ ys) (suc from) n x e =
    let one : suc from + n ≡ suc (from + n) = omega arith in
    ap (slice_get (y ∷ ys)) one ∙ item_behind ys from n x e

-- the lines up to an item and its own
take_line : {A : Type 0} (line : A → List ℕ) (xs : List A) (n : ℕ) (x : A) → slice_get xs n ≡ Some x
    → flat_map line (take (suc n) xs) ≡ flat_map line (take n xs) ++ line x
take_line line [] n x e = cc
take_line line (y ∷ ys) zero x e =
    let same : y ≡ x = cc in
    append-nil (line y) ∙ ap line same
take_line line (y ∷ ys) (suc n) x e =
    ap (λ z. line y ++ z) (take_line line ys n x e)
    ∙ sym (append_assoc (line y) (flat_map line (take n ys)) (line x))

-- one line more
pub more_lines : {A : Type 0} (line : A → List ℕ) (xs : List A) (n : ℕ) (start old new : List ℕ)
    → n < length xs → old ≡ start ++ flat_map line (take n xs)
    → ((x : A) → slice_get xs n ≡ Some x → new ≡ old ++ line x)
    → new ≡ start ++ flat_map line (take (n + 1) xs)
more_lines line xs n start old new within before more =
    let item = item_at xs n within in
    more item.0 item.1
    ∙ ap (λ z. z ++ line item.0) before
    ∙ append_assoc start (flat_map line (take n xs)) (line item.0)
    ∙ ap (λ z. start ++ z) (sym (take_line line xs n item.0 item.1))
    ∙ ap (λ k. start ++ flat_map line (take k xs)) (sym (add-one n))

-- the line of a message by what look-ups of its number say
pub delivered_shown : (held : List Held) (n : ℕ) (h : Held) (id : List ℕ) (m : MessageValue)
    (from : Origin) → slice_get held n ≡ Some h
    → option_map (λ h. h.id) (slice_get held n) ≡ Some id
    → option_map (λ h. h.message) (slice_get held n) ≡ Some m
    → option_map (λ h. h.origin) (slice_get held n) ≡ Some from
    → inbox_text id m.group m.timestamp from (length m.body) ≡ delivered_line (Some h)
delivered_shown held n h id m from e named said came =
    let same_id : h.id ≡ id = let it : Some h.id ≡ Some id =
    sym (ap (option_map (λ (h : Held). h.id)) e) ∙ named in cc in
    let same_message : h.message ≡ m = let it : Some h.message ≡ Some m =
    sym (ap (option_map (λ (h : Held). h.message)) e) ∙ said in cc in
    let same_origin : h.origin ≡ from = let it : Some h.origin ≡ Some from =
    sym (ap (option_map (λ (h : Held). h.origin)) e) ∙ came in cc in
    ap (λ x. inbox_text x m.group m.timestamp from (length m.body)) (sym same_id)
    ∙ ap (λ (x : MessageValue). inbox_text h.id x.group x.timestamp from (length x.body))
    (sym same_message)
    ∙ ap (λ x. inbox_text h.id h.message.group h.message.timestamp x (length h.message.body))
    (sym same_origin)
