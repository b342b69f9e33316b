-- The last message of a group that was written here, message by message.
use Rattle.std.proofs.Common.{◌≡◌, ℕ, zero, suc, ◌+◌, ◌<◌, ◌≤◌, Bool, cond, List, [], ◌∷◌, length}
use Rattle.std.proofs.Common.{take}
use Rattle.std.proofs.Common.{Some, sym, ap, ◌∙◌, add-one}
use Rattle.std.specs.Prelude.{◌&&◌, slice_get}
use Rattle.std.specs.Option.{option_map}
use Rattle.std.proofs.lemmas.List.{take_all}
use Rattle.sync_ids.specs.Values.{MessageValue}
use Rattle.sync_rules.specs.declared.states.Origin.{Origin}
use Rattle.sync_rules.specs.Facts.{Facts, Held, Id, held_at}
use Rattle.sync_rules.specs.Lists.{same_id}
use Rattle.sync_rules.specs.Sessions.{is_author}
use Rattle.sync_rules.specs.Views.{IsPlace}
use Rattle.store_commands.proofs.Lines.{item_at}
use Rattle.sharing_commands.specs.Sayings.{is_own, last_own, own_or}

module _ (f : Facts) (group : Id) where
  take_own : (earlier : Id) (ids : List Id) (k : ℕ) (id : Id) → slice_get ids k ≡ Some id
      → last_own f group earlier (take (suc k) ids)
      ≡ own_or f group (last_own f group earlier (take k ids)) id
  take_own earlier [] k id at = cc
  take_own earlier (x ∷ ids) zero id at =
      let same : x ≡ id = cc in
      ap (own_or f group earlier) same
  take_own earlier (x ∷ ids) (suc k) id at = take_own (own_or f group earlier x) ids k id at

  -- one message more
  pub one_more : (earlier : Id) (k : ℕ) (old new : Id) → k < length f.delivered
      → old ≡ last_own f group earlier (take k f.delivered)
      → ((id : Id) → slice_get f.delivered k ≡ Some id → new ≡ own_or f group old id)
      → new ≡ last_own f group earlier (take (k + 1) f.delivered)
  one_more earlier k old new within before more =
      let item = item_at f.delivered k within in
      more item.0 item.1
      ∙ ap (λ (x : Id). own_or f group x item.0) before
      ∙ sym (take_own earlier f.delivered k item.0 item.1)
      ∙ ap (λ n. last_own f group earlier (take n f.delivered)) (sym (add-one k))

  pub all_of : (earlier last : Id) (k : ℕ) → length f.delivered ≤ k
      → last ≡ last_own f group earlier (take k f.delivered)
      → last ≡ last_own f group earlier f.delivered
  all_of earlier last k whole is =
      is ∙ ap (last_own f group earlier) (take_all k f.delivered whole)

  -- whether the message of a place was written here in the group
  pub own_at : (id : Id) (n : ℕ) (at : IsPlace f.held id n) (m : MessageValue) (from : Origin)
      → option_map (λ (h : Held). h.message) (slice_get f.held n) ≡ Some m
      → option_map (λ (h : Held). h.origin) (slice_get f.held n) ≡ Some from
      → (is_author from && same_id m.group group) ≡ is_own group (held_at f.held id)
  own_at id n at m from said came =
      let h = at.message in
      let same_message : h.message ≡ m =
      let it : Some h.message ≡ Some m =
      sym (ap (option_map (λ (h : Held). h.message)) at.stands) ∙ said in
      cc in
      let same_origin : h.origin ≡ from =
      let it : Some h.origin ≡ Some from =
      sym (ap (option_map (λ (h : Held). h.origin)) at.stands) ∙ came in
      cc in
      ap (λ (o : Origin). is_author o && same_id m.group group) (sym same_origin)
      ∙ ap (λ (x : MessageValue). is_author h.origin && same_id x.group group) (sym same_message)
      ∙ sym (ap (is_own group) at.first)

  -- the id of a place
  pub id_at : (id given : Id) (n : ℕ) (at : IsPlace f.held id n)
      → option_map (λ (h : Held). h.id) (slice_get f.held n) ≡ Some given → given ≡ id
  id_at id given n at named =
      let it : Some given ≡ Some at.message.id =
      sym named ∙ ap (option_map (λ (h : Held). h.id)) at.stands in
      let same : given ≡ at.message.id = cc in
      same ∙ at.named

  -- it is that message, or the earlier one stays
  pub own_chosen : (earlier id : Id) (own : Bool) → own ≡ is_own group (held_at f.held id)
      → cond own id earlier ≡ own_or f group earlier id
  own_chosen earlier id own is = ap (λ (b : Bool). cond b id earlier) is
