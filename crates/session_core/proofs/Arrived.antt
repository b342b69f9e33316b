-- The id of the message that arrives by what a record is taken as: only a MESSAGE brings one, and no more than one.
use Rattle.std.proofs.Common.{◌≡◌, ℕ, Bool, true, false, not, cond, List, [], ◌∷◌, ◌++◌, refl, subst, sym, ◌∙◌, Option, None, Some}
use Rattle.sync_ids.specs.Ids.{message_id_of}
use Rattle.sync_ids.specs.Values.{MessageValue}
use Rattle.sync_ids.specs.declared.records.Record.{Record}
use Rattle.sync_ids.specs.declared.records.Record.TheVariants as record_kind
use Rattle.sync_rules.specs.declared.entries.Entry.{Entry}
use Rattle.sync_rules.specs.declared.entries.Entry.TheVariants as entry
use Rattle.sync_rules.specs.Lists.{firsts}
use Rattle.sync_rules.specs.Facts.{Facts, Held, Id, held_at, is_invisible, level_at}
use Rattle.sync_rules.specs.Sessions.{is_remembered, is_shown, is_welcome, one_if, room_after, taken_acks, taken_from, taken_message}
use Rattle.sync_rules.specs.Sessions.{taken_message_of, taken_offers, taken_requests}
use Rattle.session_core.specs.Known.{id_arrived, IsOfAll}
use Rattle.session_core.proofs.Unknown.{unknown}

-- ---- a list of ids brings no message

seen_brings_none : (session : ℕ) (id : Id) (b : Bool) (es : List Entry) → id_arrived (one_if b (entry.Seen session id) ++ es) ≡ id_arrived es
seen_brings_none session id true es = refl
seen_brings_none session id false es = refl

asked_brings_none : (session : ℕ) (id : Id) (b : Bool) (es : List Entry) → id_arrived (one_if b (entry.Asked session id) ++ es) ≡ id_arrived es
asked_brings_none session id true es = refl
asked_brings_none session id false es = refl

offer_brings_none : (session : ℕ) (id : Id) (a b : Bool) (es : List Entry)
    → id_arrived ((one_if a (entry.Again session id) ++ one_if b (entry.Offered session id)) ++ es) ≡ id_arrived es
offer_brings_none session id true true es = refl
offer_brings_none session id true false es = refl
offer_brings_none session id false true es = refl
offer_brings_none session id false false es = refl

module _ (f : Facts) (session contact : ℕ) where
  pub none_by_acks : (ids : List Id) → id_arrived (taken_acks f session contact ids) ≡ None
  none_by_acks [] = refl
  none_by_acks (id ∷ ids) = seen_brings_none session id _ (taken_acks f session contact ids) ∙ none_by_acks ids

  pub none_by_requests : (ids : List Id) → id_arrived (taken_requests f session contact ids) ≡ None
  none_by_requests [] = refl
  none_by_requests (id ∷ ids) = asked_brings_none session id (is_shown f contact id) (taken_requests f session contact ids) ∙ none_by_requests ids

  pub none_by_offers : (room : ℕ) (ids : List Id) → id_arrived (taken_offers f session contact room ids) ≡ None
  none_by_offers room [] = refl
  none_by_offers room (id ∷ ids) =
      offer_brings_none session id (is_shown f contact id) (is_remembered f contact room id)
      (taken_offers f session contact (room_after (is_remembered f contact room id) room) ids)
      ∙ none_by_offers (room_after (is_remembered f contact room id) room) ids

  -- ---- a record brings one message at most

  -- where none arrives by entries, nothing is to be said of it
  of_none : (es : List Entry) → id_arrived es ≡ None → IsOfAll (id_arrived es) es
  of_none es none = subst (λ (o : Option Id). IsOfAll o es) (sym none) (unknown es)

  message_names : (m : MessageValue) → IsOfAll (id_arrived (taken_message f session contact m)) (taken_message f session contact m)
  message_names m = by (is_welcome f contact m.group) (held_at f.held (message_id_of m)) where
    by_shown : (b : Bool) → IsOfAll (id_arrived (one_if b (entry.Again session (message_id_of m)))) (one_if b (entry.Again session (message_id_of m)))
    by_shown true = (tt, tt)
    by_shown false = tt

    by_held : (o : Option Held) → IsOfAll (id_arrived (taken_message_of f session contact m o)) (taken_message_of f session contact m o)
    by_held None = (refl, tt)
    by_held (Some h) = by_shown (not (is_invisible (level_at f.levels contact h.message.group)))

    by : (b : Bool) (o : Option Held)
        → IsOfAll (id_arrived (cond b (taken_message_of f session contact m o) [])) (cond b (taken_message_of f session contact m o) [])
    by true o = by_held o
    by false o = tt

  -- the id that arrives by a record is that of each message that it brings
  pub record_names : (r : Record) → IsOfAll (id_arrived (taken_from f session contact r)) (taken_from f session contact r)
  record_names (record_kind.Ack ids) = of_none (taken_acks f session contact (firsts ids)) (none_by_acks (firsts ids))
  record_names (record_kind.Message m) = message_names m
  record_names (record_kind.Offer ids) = of_none (taken_offers f session contact _ (firsts ids)) (none_by_offers _ (firsts ids))
  record_names (record_kind.Request ids) = of_none (taken_requests f session contact (firsts ids)) (none_by_requests (firsts ids))
  record_names (record_kind.Versions versions) = tt
  record_names (record_kind.Priority nonce) = tt
