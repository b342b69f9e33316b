-- What was said in a group, message by message.
use Rattle.std.proofs.Common.{◌≡◌, ℕ, zero, suc, ◌+◌, ◌<◌, List, [], ◌∷◌, ◌++◌, length, take}
use Rattle.std.proofs.Common.{Option, Some, sym, ap, ◌∙◌, add-one, append_assoc, append-nil}
use Rattle.std.specs.Prelude.{slice_get}
use Rattle.std.specs.List.{flat_map}
use Rattle.std.specs.Option.{option_map}
use Rattle.sync_ids.specs.Values.{MessageValue}
use Rattle.sync_rules.specs.declared.states.Origin.{Origin}
use Rattle.sync_rules.specs.Facts.{Held, Id, held_at}
use Rattle.sync_rules.specs.Views.{IsPlace}
use Rattle.store_commands.proofs.Lines.{item_at}
use Rattle.client_sharing.specs.declared.agreement.Said.{Said}
use Rattle.sharing_commands.specs.Words.{said_by, said_of, words_of}

-- what the message of a place says
pub said_at : (held : List Held) (contact : ℕ) (group id : Id) (n : ℕ) (at : IsPlace held id n)
    (m : MessageValue) (from : Origin) (said : Option Said)
    → option_map (λ (h : Held). h.message) (slice_get held n) ≡ Some m
    → option_map (λ (h : Held). h.origin) (slice_get held n) ≡ Some from
    → said ≡ said_by contact group from m → words_of said ≡ said_of contact group (held_at held id)
said_at held contact group id n at m from said read came is =
    let h = at.message in
    let same_message : h.message ≡ m =
    let it : Some h.message ≡ Some m = sym (ap (option_map (λ (h : Held). h.message)) at.stands)
    ∙ read in
    cc in
    let same_origin : h.origin ≡ from =
    let it : Some h.origin ≡ Some from = sym (ap (option_map (λ (h : Held). h.origin)) at.stands)
    ∙ came in
    cc in
    ap words_of is
    ∙ ap (λ (o : Origin). words_of (said_by contact group o m)) (sym same_origin)
    ∙ ap (λ (x : MessageValue). words_of (said_by contact group h.origin x)) (sym same_message)
    ∙ sym (ap (said_of contact group) at.first)

-- ---- all of them

take_word : {A B : Type 0} (said : A → List B) (xs : List A) (n : ℕ) (x : A)
    → slice_get xs n ≡ Some x
    → flat_map said (take (suc n) xs) ≡ flat_map said (take n xs) ++ said x
take_word said [] n x at = cc
take_word said (y ∷ ys) zero x at =
    let same : y ≡ x = cc in
    append-nil (said y) ∙ ap said same
take_word said (y ∷ ys) (suc n) x at =
    ap (λ z. said y ++ z) (take_word said ys n x at)
    ∙ sym (append_assoc (said y) (flat_map said (take n ys)) (said x))

-- one message more
pub more_words : {A B : Type 0} (said : A → List B) (xs : List A) (n : ℕ) (old new : List B)
    → n < length xs → old ≡ flat_map said (take n xs)
    → ((x : A) → slice_get xs n ≡ Some x → new ≡ old ++ said x)
    → new ≡ flat_map said (take (n + 1) xs)
more_words said xs n old new within before more =
    let item = item_at xs n within in
    more item.0 item.1
    ∙ ap (λ z. z ++ said item.0) before
    ∙ sym (take_word said xs n item.0 item.1)
    ∙ ap (λ k. flat_map said (take k xs)) (sym (add-one n))
