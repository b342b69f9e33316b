-- What a record that is taken makes of what a contact has, and of the held messages.
use Rattle.std.proofs.Common.{◌≡◌, ℕ, Bool, true, false, not, cond, ◌&&◌, ◌||◌, List, [], ◌∷◌, ◌++◌, refl, sym, ◌∙◌, ap, Option, Some, None, nat_eq, eqb-true}
use Rattle.std.specs.Prelude.{is_none}
use Rattle.std.specs.List.{list_any, list_all}
use Rattle.std.proofs.lemmas.Bool.{and_parts, false≢true}
use Rattle.sync_ids.specs.Values.{MessageValue}
use Rattle.sync_ids.specs.Ids.{message_id_of}
use Rattle.sync_ids.specs.declared.records.Record.{Record}
use Rattle.sync_ids.specs.declared.records.Record.TheVariants as record_kind
use Rattle.sync_rules.specs.declared.entries.Entry.{Entry}
use Rattle.sync_rules.specs.declared.entries.Entry.TheVariants as entry
use Rattle.sync_rules.specs.declared.entries.Session.{Session}
use Rattle.sync_rules.specs.Lists.{same_id, is_among, firsts}
use Rattle.sync_rules.specs.Facts.{Facts, Held, Id, after, after_all, arrived, contact_of, held_at, is_invisible, level_at, row_at}
use Rattle.sync_rules.specs.Sessions.{is_remembered, is_shown, is_welcome, one_if, room_after, taken, taken_acks, taken_message, taken_message_of, taken_offers, taken_requests}
use Rattle.sync_rules.specs.PeerLaws.{is_shown_seen}
use Rattle.sync_rules.specs.Growth.{leaves_steps}
use Rattle.sync_rules.specs.Heard.{HeldByRecords, SeenByRecords, is_new_or_shown, says_seen}
use Rattle.sync_rules.proofs.Elements.{same_id-is}
use Rattle.sync_rules.proofs.RowLaws.{among-firsts, seen_step}
use Rattle.sync_rules.proofs.StepKinds.{all_of_acks, all_of_offers, all_of_record, all_of_requests, is_of_record, is_taken_on, left_all, same_steps_all}

-- ---- entries of records, one after the other

taken_of_record : (session : ℕ) (e : Entry) → is_taken_on session e ≡ true → is_of_record e ≡ true
taken_of_record session (entry.Arrive s m) k = refl
taken_of_record session (entry.Again s id) k = refl
taken_of_record session (entry.Offered s id) k = refl
taken_of_record session (entry.Seen s id) k = refl
taken_of_record session (entry.Asked s id) k = refl
taken_of_record session _ k = absurd (false≢true k)

-- the facts with these sessions, which are all that the test of an entry reads
abbrev with_sessions : Facts → List Session → Facts
with_sessions f ss = record f { sessions = ss }

module _ (contact : ℕ) (id : Id) where
  abbrev tells : Facts → Entry → Bool
  tells f = is_shown_seen contact id f

  abbrev seen_in : Facts → Bool
  seen_in f = (row_at f.rows contact id).seen

  one_more : (a t s : Bool) → (a || cond t true s) ≡ ((t || a) || s)
  one_more true true s = refl
  one_more true false s = refl
  one_more false true s = refl
  one_more false false s = refl

  -- after entries of records a contact has a message where it had it, or one of them tells so
  seen_all : (f : Facts) (es : List Entry) → list_all is_of_record es ≡ true → seen_in (after_all f es) ≡ (list_any (tells f) es || seen_in f)
  seen_all f [] all = refl
  seen_all f (e ∷ es) all =
      let both = and_parts (is_of_record e) (list_all is_of_record es) all in
      let same : (after f e).sessions ≡ f.sessions = (left_all f (e ∷ []) (ap (λ b. b && true) both.0)).sessions in
      let tests : list_any (tells (after f e)) es ≡ list_any (tells f) es = λ i. list_any (λ x. tells (with_sessions f (same i)) x) es in
      seen_all (after f e) es both.1
      ∙ (ap (λ b. b || seen_in (after f e)) tests
      ∙ (ap (λ b. list_any (tells f) es || b) (seen_step f contact id e)
      ∙ one_more (list_any (tells f) es) (tells f e) (seen_in f)))

  -- ---- what the entries of a record tell

  module _ (f : Facts) (session : ℕ) where
    abbrev from : ℕ
    from = contact_of f.sessions session

    abbrev on : Bool
    on = nat_eq contact from

    any_one : (b : Bool) (e : Entry) (es : List Entry) → list_any (tells f) (one_if b e ++ es) ≡ ((b && tells f e) || list_any (tells f) es)
    any_one true e es = refl
    any_one false e es = refl

    -- w: the session is one with the contact; s: the first id is the one asked for; p, q: the test of the first id and of the one
    -- asked for; a: that one is among the later ids
    one_id : (w s p q a : Bool) → (s ≡ true → p ≡ q) → ((p && (w && s)) || (w && (a && q))) ≡ (w && ((s || a) && q))
    one_id false s true q a same = refl
    one_id false s false q a same = refl
    one_id true false true q a same = refl
    one_id true false false q a same = refl
    one_id true true p q a same = ap (λ b. (b && true) || (a && q)) (same refl) ∙ by q a where
      by : (q a : Bool) → ((q && true) || (a && q)) ≡ q
      by true true = refl
      by true false = refl
      by false true = refl
      by false false = refl

    none_of : (w : Bool) → false ≡ (w && false)
    none_of true = refl
    none_of false = refl

    at_id : (test : Id → Bool) (x : Id) → same_id x id ≡ true → test x ≡ test id
    at_id test x e = ap test (same_id-is x id e)

    abbrev is_news : Id → Bool
    is_news x = is_shown f from x && not (row_at f.rows from x).seen

    any_acks : (ids : List Id) → list_any (tells f) (taken_acks f session from ids) ≡ (on && (is_among ids id && is_news id))
    any_acks [] = none_of on
    any_acks (x ∷ ids) =
        any_one (is_news x) (entry.Seen session x) (taken_acks f session from ids)
        ∙ (ap (λ b. (is_news x && (on && same_id x id)) || b) (any_acks ids)
        ∙ one_id on (same_id x id) (is_news x) (is_news id) (is_among ids id) (at_id is_news x))

    any_requests : (ids : List Id) → list_any (tells f) (taken_requests f session from ids) ≡ false
    any_requests [] = refl
    any_requests (x ∷ ids) =
        any_one (is_shown f from x) (entry.Asked session x) (taken_requests f session from ids)
        ∙ (ap (λ b. b || list_any (tells f) (taken_requests f session from ids)) (and_no (is_shown f from x)) ∙ any_requests ids)
      where
        and_no : (b : Bool) → (b && false) ≡ false
        and_no true = refl
        and_no false = refl

    any_offer : (a b : Bool) (x : Id) (es : List Entry)
        → list_any (tells f) ((one_if a (entry.Again session x) ++ one_if b (entry.Offered session x)) ++ es)
        ≡ ((a && (on && same_id x id)) || list_any (tells f) es)
    any_offer true true x es = refl
    any_offer true false x es = refl
    any_offer false true x es = refl
    any_offer false false x es = refl

    any_offers : (room : ℕ) (ids : List Id) → list_any (tells f) (taken_offers f session from room ids) ≡ (on && (is_among ids id && is_shown f from id))
    any_offers room [] = none_of on
    any_offers room (x ∷ ids) =
        let left : ℕ = room_after (is_remembered f from room x) room in
        any_offer (is_shown f from x) (is_remembered f from room x) x (taken_offers f session from left ids)
        ∙ (ap (λ b. (is_shown f from x && (on && same_id x id)) || b) (any_offers left ids)
        ∙ one_id on (same_id x id) (is_shown f from x) (is_shown f from id) (is_among ids id) (at_id (is_shown f from) x))

    -- w: the session is one with the contact; s: the message is the one asked for
    alone : (w s : Bool) → ((w && s) || false) ≡ (w && (s && true))
    alone true true = refl
    alone true false = refl
    alone false s = refl

    never_told : (w s : Bool) → false ≡ (w && (s && false))
    never_told true true = refl
    never_told true false = refl
    never_told false s = refl

    any_message : (m : MessageValue) → list_any (tells f) (taken_message f session from m) ≡ (on && says_seen f from (record_kind.Message m) id)
    any_message m = by (is_welcome f from m.group) (held_at f.held (message_id_of m))
      where
        by_shown : (b : Bool) → list_any (tells f) (one_if b (entry.Again session (message_id_of m))) ≡ (on && (same_id (message_id_of m) id && b))
        by_shown true = alone on (same_id (message_id_of m) id)
        by_shown false = never_told on (same_id (message_id_of m) id)

        by_held : (o : Option Held) → list_any (tells f) (taken_message_of f session from m o) ≡ (on && (same_id (message_id_of m) id && is_new_or_shown f from o))
        by_held None = alone on (same_id (message_id_of m) id)
        by_held (Some h) = by_shown (not (is_invisible (level_at f.levels from h.message.group)))

        by : (w : Bool) (o : Option Held)
            → list_any (tells f) (cond w (taken_message_of f session from m o) []) ≡ (on && (same_id (message_id_of m) id && (w && is_new_or_shown f from o)))
        by true o = by_held o
        by false o = never_told on (same_id (message_id_of m) id)

    -- what was seen before need not be told
    unless_seen : (w a s n p : Bool) → (w ≡ true → n ≡ p) → ((w && (a && (s && not n))) || p) ≡ ((w && (a && s)) || p)
    unless_seen false a s n p same = refl
    unless_seen true a s n true same = or_true (a && (s && not n)) ∙ sym (or_true (a && s)) where
      or_true : (b : Bool) → (b || true) ≡ true
      or_true true = refl
      or_true false = refl
    unless_seen true a s n false same = ap (λ b. (a && (s && not b)) || false) (same refl) ∙ by a s where
      by : (a s : Bool) → ((a && (s && true)) || false) ≡ ((a && s) || false)
      by true true = refl
      by true false = refl
      by false s = refl

    here : on ≡ true → (row_at f.rows from id).seen ≡ seen_in f
    here e = ap (λ c. (row_at f.rows c id).seen) (sym (eqb-true contact from e))

    told : (r : Record) → (list_any (tells f) (taken f session r) || seen_in f) ≡ ((on && says_seen f from r id) || seen_in f)
    told (record_kind.Ack ids) =
        ap (λ b. b || seen_in f) (any_acks (firsts ids)
        ∙ ap (λ b. on && (b && is_news id)) (among-firsts ids id))
        ∙ unless_seen on (is_among ids id) (is_shown f from id) (row_at f.rows from id).seen (seen_in f) here
    told (record_kind.Message m) = ap (λ b. b || seen_in f) (any_message m)
    told (record_kind.Offer ids) =
        ap (λ b. b || seen_in f) (any_offers _ (firsts ids) ∙ ap (λ b. on && (b && is_shown f from id)) (among-firsts ids id))
    told (record_kind.Request ids) = ap (λ b. b || seen_in f) (any_requests (firsts ids) ∙ none_of on)
    told (record_kind.Versions versions) = ap (λ b. b || seen_in f) (none_of on)
    told (record_kind.Priority nonce) = ap (λ b. b || seen_in f) (none_of on)

pub seen_by_records : SeenByRecords
seen_by_records f session k r contact id =
    seen_all contact id (after f (entry.Take session k)) (taken f session r) (all_of_record is_of_record session (taken_of_record session) f r)
    ∙ told contact id f session r

-- ---- the held messages

-- entries that leave steps leave the held messages
leaves_held : (f : Facts) (es : List Entry) → list_all leaves_steps es ≡ true → (after_all f es).held ≡ f.held
leaves_held f es all = (same_steps_all f es all).held

pub held_by_records : HeldByRecords
held_by_records f session k (record_kind.Ack ids) =
    leaves_held (after f (entry.Take session k)) (taken_acks f session (contact_of f.sessions session) (firsts ids))
    (all_of_acks leaves_steps session (λ id. refl) f (contact_of f.sessions session) (firsts ids))
held_by_records f session k (record_kind.Message m) =
    by (is_welcome f (contact_of f.sessions session) m.group) (held_at f.held (message_id_of m))
  where
    by_shown : (b : Bool) → (after_all (after f (entry.Take session k)) (one_if b (entry.Again session (message_id_of m)))).held ≡ f.held
    by_shown true = refl
    by_shown false = refl

    by_held : (o : Option Held)
        → (after_all (after f (entry.Take session k)) (taken_message_of f session (contact_of f.sessions session) m o)).held
        ≡ cond (is_none o) (f.held ++ arrived (contact_of f.sessions session) m ∷ []) f.held
    by_held None = refl
    by_held (Some h) = by_shown (not (is_invisible (level_at f.levels (contact_of f.sessions session) h.message.group)))

    by : (w : Bool) (o : Option Held)
        → (after_all (after f (entry.Take session k)) (cond w (taken_message_of f session (contact_of f.sessions session) m o) [])).held
        ≡ cond (w && is_none o) (f.held ++ arrived (contact_of f.sessions session) m ∷ []) f.held
    by true o = by_held o
    by false o = refl
held_by_records f session k (record_kind.Offer ids) =
    leaves_held (after f (entry.Take session k)) (taken_offers f session (contact_of f.sessions session) _ (firsts ids))
    (all_of_offers leaves_steps session (λ id. refl) (λ id. refl) f (contact_of f.sessions session) _ (firsts ids))
held_by_records f session k (record_kind.Request ids) =
    leaves_held (after f (entry.Take session k)) (taken_requests f session (contact_of f.sessions session) (firsts ids))
    (all_of_requests leaves_steps session (λ id. refl) f (contact_of f.sessions session) (firsts ids))
held_by_records f session k (record_kind.Versions versions) = refl
held_by_records f session k (record_kind.Priority nonce) = refl
