-- What a journal holds that took records: the messages that they bring to its group.
use Rattle.std.proofs.Common.{◌≡◌, ℕ, ◌+◌, ◌-◌, length, Bool, true, false, cond, not, ◌&&◌, ◌||◌, List, [], ◌∷◌, ◌++◌, map, refl, sym, ◌∙◌, ap, subst, Option, Some, None, is_some}
use Rattle.sync_ids.specs.Values.{GroupValue, MessageValue}
use Rattle.sync_ids.specs.Ids.{group_id_of, message_id_of}
use Rattle.sync_ids.specs.declared.records.Record.{Record}
use Rattle.sync_ids.specs.declared.records.Record.TheVariants as record_kind
use Rattle.sync_rules.specs.declared.entries.Entry.{Entry}
use Rattle.sync_rules.specs.declared.entries.Entry.TheVariants as entry
use Rattle.sync_rules.specs.Clients.{Meaning}
use Rattle.sync_rules.specs.Lists.{same_id, firsts}
use Rattle.sync_rules.specs.Facts.{Facts, Held, Id, after, after_all, after_batches, facts, nothing, known_of, arrived, contact_of, held_at, is_invisible, level_at, wanted_from}
use Rattle.sync_rules.specs.Sessions.{taken, taken_message_of, one_if}
use Rattle.sync_rules.specs.Legal.{IsSettling, AllSettling}
use Rattle.sync_rules.specs.Hearing.{HearsRecord, take_batch, one_session}
use Rattle.sync_rules.proofs.StepLaws.{next_is_settling}
use Rattle.sync_rules.proofs.Settling.{after_batches-append}
use Rattle.sync_rules.proofs.WorkLaws.{facts-push}
use Rattle.journal_play.specs.Playing.{PlaysRecords}
use Rattle.journal_play.specs.Fates.{is_brought, with_record, with_records}
use Rattle.journal_play.proofs.Takes.{Alike, AllQuiet, alike_then, alike_all, quiet_if, quiet_acks, quiet_requests, quiet_offers, map_push, contact_is, welcome_by}
use Rattle.sync_rules.specs.declared.limits.TheConstants.{MAX_WANTED}
use Rattle.sync_rules.specs.EntryTests.{IsSettlingEntry}

-- what the facts of a journal of one session and one group are that holds these messages
pub record Brings (def : GroupValue) (messages : List MessageValue) (f : Facts) : Type 0 where
  pub groups : f.groups ≡ known_of def ∷ []
  pub levels : f.levels ≡ (facts (one_session def)).levels
  pub sessions : f.sessions ≡ (facts (one_session def)).sessions
  pub held : f.held ≡ map (arrived 0) messages

alike_brings : (def : GroupValue) (messages : List MessageValue) (f g : Facts) → Alike f g → Brings def messages f → Brings def messages g
alike_brings def messages f g a b =
    record { groups = a.groups ∙ b.groups; levels = a.levels ∙ b.levels; sessions = a.sessions ∙ b.sessions; held = a.held ∙ b.held }

-- ---- a record is taken

-- a look-up among messages that arrived
pub held_brought : (messages : List MessageValue) (id : Id) → is_some (held_at (map (arrived 0) messages) id) ≡ is_brought messages id
held_brought [] id = refl
held_brought (m ∷ messages) id =
    elim (same_id (message_id_of m) id) as (λ b. is_some (cond b (Some (arrived 0 m)) (held_at (map (arrived 0) messages) id)) ≡ (b || is_brought messages id)) [
      | true ↦ refl
      | false ↦ held_brought messages id
    ]

module _ (def : GroupValue) (messages : List MessageValue) (k : ℕ) (f : Facts) (b : Brings def messages f) where
  quiet_brings : (es : List Entry) → AllQuiet es → Brings def messages (after_all f (entry.Take 0 k ∷ es))
  quiet_brings es q =
      let first : Alike f (after f (entry.Take 0 k)) =
      record { groups = refl; levels = refl; sessions = refl; held = refl; judged = refl; invalid = refl; delivered = refl } in
      alike_brings def messages f (after_all f (entry.Take 0 k ∷ es))
      (alike_then f (after f (entry.Take 0 k)) (after_all (after f (entry.Take 0 k)) es) first (alike_all (after f (entry.Take 0 k)) es q)) b

  module _ (m : MessageValue) where
    -- what a message brings, by whether it is of the group, and by what is held under its id
    message_by : (of_it : Bool) (o : Option Held)
        → Brings def (cond (of_it && not (is_some o)) (messages ++ m ∷ []) messages)
        (after_all f (entry.Take 0 k ∷ cond of_it (taken_message_of f 0 (contact_of f.sessions 0) m o) []))
    message_by false o = quiet_brings [] tt
    message_by true None = record {
      groups = b.groups;
      levels = b.levels;
      sessions = b.sessions;
      held =
          (λ i. b.held i ++ arrived (contact_is def f b.groups b.levels b.sessions i) m ∷ [])
          ∙ sym (map_push (arrived 0) messages m);
    }
    message_by true (Some h) =
        let shown : Bool = not (is_invisible (level_at f.levels (contact_of f.sessions 0) h.message.group)) in
        quiet_brings (one_if shown (entry.Again 0 (message_id_of m))) (quiet_if shown (entry.Again 0 (message_id_of m)) tt)

    message_brings : Brings def (with_record (group_id_of def) messages (record_kind.Message m)) (after_all f (entry.Take 0 k ∷ taken f 0 (record_kind.Message m)))
    message_brings =
        let of_it : Bool = same_id m.group (group_id_of def) in
        let o : Option Held = held_at f.held (message_id_of m) in
        let seen : is_some o ≡ is_brought messages (message_id_of m) =
        ap (λ hs. is_some (held_at hs (message_id_of m))) b.held ∙ held_brought messages (message_id_of m) in
        let P : Bool → Bool → Type 0 = λ welcome known. Brings def (cond (of_it && not known) (messages ++ m ∷ []) messages)
        (after_all f (entry.Take 0 k ∷ cond welcome (taken_message_of f 0 (contact_of f.sessions 0) m o) [])) in
        subst (λ w. P w (is_brought messages (message_id_of m))) (sym (welcome_by def f b.groups b.levels b.sessions m.group of_it refl))
        (subst (P of_it) seen (message_by of_it o))

  record_brings : (r : Record) → Brings def (with_record (group_id_of def) messages r) (after_all f (entry.Take 0 k ∷ taken f 0 r))
  record_brings (record_kind.Ack ids) = quiet_brings (taken f 0 (record_kind.Ack ids)) (quiet_acks f 0 (contact_of f.sessions 0) (firsts ids))
  record_brings (record_kind.Message m) = message_brings m
  record_brings (record_kind.Offer ids) =
      quiet_brings (taken f 0 (record_kind.Offer ids))
      (quiet_offers f 0 (contact_of f.sessions 0) (MAX_WANTED - length (wanted_from f.wanted (contact_of f.sessions 0))) (firsts ids))
  record_brings (record_kind.Request ids) = quiet_brings (taken f 0 (record_kind.Request ids)) (quiet_requests f 0 (contact_of f.sessions 0) (firsts ids))
  record_brings (record_kind.Versions versions) = quiet_brings [] tt
  record_brings (record_kind.Priority nonce) = quiet_brings [] tt

-- ---- settling brings nothing

settling_entry_brings : (def : GroupValue) (messages : List MessageValue) (f : Facts) (e : Entry) → IsSettlingEntry e → Brings def messages f
    → Brings def messages (after f e)
settling_entry_brings def messages f (entry.Judged id) k b = record { groups = b.groups; levels = b.levels; sessions = b.sessions; held = b.held }
settling_entry_brings def messages f (entry.Deliver id) k b = record { groups = b.groups; levels = b.levels; sessions = b.sessions; held = b.held }
settling_entry_brings def messages f (entry.Invalid id) k b = record { groups = b.groups; levels = b.levels; sessions = b.sessions; held = b.held }
settling_entry_brings def messages f _ k b = absurd k

settling_brings : (clients : Meaning) (def : GroupValue) (messages : List MessageValue) (f : Facts) (es : List Entry) → IsSettling clients f es → Brings def messages f
    → Brings def messages (after_all f es)
settling_brings clients def messages f [] s b = b
settling_brings clients def messages f (e ∷ es) s b =
    settling_brings clients def messages (after f e) es s.1 (settling_entry_brings def messages f e (next_is_settling clients f e s.0) b)

all_settling_brings : (clients : Meaning) (def : GroupValue) (messages : List MessageValue) (f : Facts) (bs : List (List Entry)) → AllSettling clients f bs → Brings def messages f
    → Brings def messages (after_batches f bs)
all_settling_brings clients def messages f [] s b = b
all_settling_brings clients def messages f (x ∷ bs) s b =
    all_settling_brings clients def messages (after_all f x) bs s.1 (settling_brings clients def messages f x s.0.2 b)

-- ---- a journal that takes records

hears_brings : (clients : Meaning) (def : GroupValue) (messages : List MessageValue) (old : List (List Entry)) (k : ℕ) (r : Record) (new : List (List Entry))
    → HearsRecord clients old 0 k r new → Brings def messages (facts old) → Brings def (with_record (group_id_of def) messages r) (facts new)
hears_brings clients def messages old k r new is b =
    let group : Id = group_id_of def in
    let taking : List Entry = take_batch (facts old) 0 k r in
    let more = is.settles.more in
    let mid : facts (old ++ taking ∷ []) ≡ after_all (facts old) taking = facts-push old taking in
    let end : facts new ≡ after_batches (facts (old ++ taking ∷ [])) more = ap facts is.settles.extends ∙ after_batches-append nothing (old ++ taking ∷ []) more in
    let whole : facts new ≡ after_batches (after_all (facts old) taking) more = end ∙ ap (λ (g : Facts). after_batches g more) mid in
    let settling : AllSettling clients (after_all (facts old) taking) more = subst (λ (g : Facts). AllSettling clients g more) mid is.settles.settling in
    subst (Brings def (with_record group messages r)) (sym whole)
    (all_settling_brings clients def (with_record group messages r) (after_all (facts old) taking) more settling (record_brings def messages k (facts old) b r))

plays_brings_more : (clients : Meaning) (def : GroupValue) (messages : List MessageValue) (j : List (List Entry)) (k : ℕ) (records : List Record) (later : List (List Entry))
    → PlaysRecords clients j k records later → Brings def messages (facts j) → Brings def (with_records (group_id_of def) messages records) (facts later)
plays_brings_more clients def messages j k [] later p b = subst (λ (x : List (List Entry)). Brings def messages (facts x)) p b
plays_brings_more clients def messages j k (r ∷ records) later p b =
    plays_brings_more clients def (with_record (group_id_of def) messages r) p.0 (k + 1) records later p.3 (hears_brings clients def messages j k r p.0 p.2 b)

-- the messages that records brought to a journal of one session are what it holds
pub plays_brings : (clients : Meaning) (def : GroupValue) (records : List Record) (later : List (List Entry))
    → PlaysRecords clients (one_session def) 0 records later → Brings def (with_records (group_id_of def) [] records) (facts later)
plays_brings clients def records later p =
    plays_brings_more clients def [] (one_session def) 0 records later p (record { groups = refl; levels = refl; sessions = refl; held = refl })
