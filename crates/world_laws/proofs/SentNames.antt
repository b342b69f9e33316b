-- What a session sends names messages that are held.
use Rattle.std.proofs.Common.{◌≡◌, ℕ, Bool, true, false, cond, List, [], ◌∷◌, ◌++◌, refl, sym, ◌∙◌, ap, subst, inl, inr, Option, Some, None, is_some, nat_eq}
use Rattle.std.proofs.lemmas.Bool.{false≢true}
use Rattle.sync_ids.specs.Values.{MessageValue}
use Rattle.sync_ids.specs.Ids.{message_id_of}
use Rattle.sync_ids.specs.declared.records.Record.{Record}
use Rattle.sync_ids.specs.declared.records.Record.TheVariants as record_kind
use Rattle.sync_rules.specs.declared.entries.Entry.{Entry}
use Rattle.sync_rules.specs.declared.entries.Entry.TheVariants as entry
use Rattle.sync_rules.specs.declared.entries.Out.{Out}
use Rattle.sync_rules.specs.declared.entries.Out.TheVariants as out
use Rattle.sync_rules.specs.declared.entries.Session.{Session}
use Rattle.sync_rules.specs.Clients.{Meaning}
use Rattle.sync_rules.specs.Consistency.{HasHeld, IsConsistent}
use Rattle.sync_rules.proofs.ConsistencyLaws.{consistent_after, consistent_nothing}
use Rattle.sync_rules.proofs.Continuing.{continues_all}
use Rattle.sync_rules.proofs.DueLaws.{due_names_distinct}
use Rattle.sync_rules.specs.Lists.{In, is_among}
use Rattle.sync_rules.proofs.Elements.{In-append_cases, In-append_left, same_id-is}
use Rattle.sync_rules.specs.Facts.{ExtendsJournal, Facts, Held, Id, Journal, after, after_all}
use Rattle.sync_rules.specs.Facts.{contact_in, entries_of, facts, held_at, is_held, nothing}
use Rattle.sync_rules.specs.Facts.{session_at}
use Rattle.sync_rules.specs.Growth.{output_by, output_in, output_of}
use Rattle.sync_rules.proofs.Kept.{after_batches-is, sound_after}
use Rattle.sync_rules.specs.Legal.{Legal}
use Rattle.sync_rules.specs.Meeting.{AllMeet, MeetsNoStep}
use Rattle.sync_rules.proofs.MeetingLaws.{legal_meets, meets_fits}
use Rattle.sync_rules.specs.Naming.{NamesDistinct}
use Rattle.sync_rules.specs.Output.{first_records, message_record, nonce_record, out_records, sent}
use Rattle.sync_rules.proofs.Outputs.{FoundIn}
use Rattle.sync_rules.proofs.OutputLaws.{sent_append, sent_is}
use Rattle.sync_rules.proofs.Runs.{sound_nothing}
use Rattle.sync_rules.proofs.Sound.{SoundFacts}
use Rattle.world_laws.specs.Worlds.{IsSent, names}

-- a message that is held under its id
record IsHeldAs (held : List Held) (m : MessageValue) : Type 0 where
  of : Held
  at : held_at held (message_id_of m) ≡ Some of
  same : of.message ≡ m

abbrev NamesHeld : List Held → Record → Type 0
NamesHeld held (record_kind.Ack ids) = (id : Id) → is_among ids id ≡ true → is_held held id ≡ true
NamesHeld held (record_kind.Message m) = IsHeldAs held m
NamesHeld held (record_kind.Offer ids) = (id : Id) → is_among ids id ≡ true → is_held held id ≡ true
NamesHeld held _ = Unit {0}

held_later : (held later : List Held) → FoundIn held later → (id : Id) (o : Option Held) → held_at held id ≡ o → is_some o ≡ true → is_held later id ≡ true
held_later held later then id None at e = absurd (false≢true e)
held_later held later then id (Some h) at e = ap is_some (then id h at)

names_later : (held later : List Held) → FoundIn held later → (r : Record) → NamesHeld held r → NamesHeld later r
names_later held later then (record_kind.Ack ids) n = λ id among. held_later held later then id (held_at held id) refl (n id among)
names_later held later then (record_kind.Message m) n = record { of = n.of; at = then (message_id_of m) n.of n.at; same = n.same }
names_later held later then (record_kind.Offer ids) n = λ id among. held_later held later then id (held_at held id) refl (n id among)
names_later held later then (record_kind.Request ids) n = tt
names_later held later then (record_kind.Versions versions) n = tt
names_later held later then (record_kind.Priority nonce) n = tt

-- ---- one entry

nonce_names : (held : List Held) (o : Option Id) (r : Record) → In r (nonce_record o) → NamesHeld held r
nonce_names held None r inside = absurd inside
nonce_names held (Some nonce) r inside = elim inside [ inl e ↦ subst (NamesHeld held) (sym e) tt | inr none ↦ absurd none ]

first_names : (held : List Held) (s : Session) (r : Record) → In r (first_records s) → NamesHeld held r
first_names held s r inside = elim inside [ inl e ↦ subst (NamesHeld held) (sym e) tt | inr later ↦ nonce_names held s.nonce r later ]

message_names : (f : Facts) → HasHeld f → (id : Id) (o : Option Held) → held_at f.held id ≡ o → (r : Record) → In r (message_record o) → NamesHeld f.held r
message_names f h id None at r inside = absurd inside
message_names f h id (Some x) at r inside =
    elim inside [
      | inl e ↦
          let is : IsHeldAs f.held x.message = record { of = x; at = ap (held_at f.held) (sym (h.each id x at).is_id) ∙ at; same = refl } in
          subst (NamesHeld f.held) (sym e) is
      | inr none ↦ absurd none
    ]

alone : (held : List Held) (x r : Record) → NamesHeld held x → In r (x ∷ []) → NamesHeld held r
alone held x r n inside = elim inside [ inl e ↦ subst (NamesHeld held) (sym e) n | inr none ↦ absurd none ]

output_names : (f : Facts) → HasHeld f → (contact : ℕ) (what : Out) → NamesDistinct f contact what
    → (r : Record) → In r (out_records f.held what) → NamesHeld f.held r
output_names f h contact (out.Acks ids) n r inside = alone f.held (record_kind.Ack ids) r n.1 inside
output_names f h contact (out.Requests ids) n r inside = alone f.held (record_kind.Request ids) r tt inside
output_names f h contact (out.Offers ids) n r inside = alone f.held (record_kind.Offer ids) r n.1 inside
output_names f h contact (out.Send id) n r inside = message_names f h id (held_at f.held id) refl r inside

in_cond : (b : Bool) (xs : List Record) (r : Record) → In r (cond b xs []) → In r xs
in_cond true xs r inside = inside
in_cond false xs r inside = absurd inside

entry_names : (clients : Meaning) (f : Facts) (n : ℕ) (e : Entry) → IsConsistent f → MeetsNoStep clients f e → (r : Record) → In r (output_by f n e) → NamesHeld f.held r
entry_names clients f n (entry.Session s) c m r inside = first_names f.held s r (in_cond (nat_eq s.number n) (first_records s) r inside)
entry_names clients f n (entry.Out s now what) c m r inside =
    output_names f c.held (contact_in (session_at f.sessions s)) what (due_names_distinct f c.held c.wanted clients (session_at f.sessions s) now what m.1) r
    (in_cond (nat_eq s n) (out_records f.held what) r inside)
entry_names clients f n _ c m r inside = absurd inside

-- ---- a journal

all_name : (clients : Meaning) (f : Facts) (n : ℕ) (es : List Entry) (later : List Held) → SoundFacts clients f → IsConsistent f → AllMeet clients f es
    → FoundIn (after_all f es).held later → (r : Record) → In r (output_in f n es) → NamesHeld later r
all_name clients f n [] later sound c m then r inside = absurd inside
all_name clients f n (e ∷ es) later sound c m then r inside =
    let whole : FoundIn f.held later = λ id h at. then id h ((continues_all f (e ∷ es)).same_held id h at) in
    elim (In-append_cases r (output_by f n e) (output_in (after f e) n es) inside) [
      | inl here ↦ names_later f.held later whole r (entry_names clients f n e c m.0 r here)
      | inr rest ↦
          all_name clients (after f e) n es later (sound_after clients f e (meets_fits clients f e m.0) sound) (consistent_after clients f e sound m.0 c) m.1 then r rest
    ]

sent_names_held : (clients : Meaning) (j : Journal) (n : ℕ) → Legal clients j → (r : Record) → In r (sent j n) → NamesHeld (facts j).held r
sent_names_held clients j n l r inside =
    let whole : facts j ≡ after_all nothing (entries_of j) = after_batches-is nothing j in
    let then : FoundIn (after_all nothing (entries_of j)).held (facts j).held = λ id h at. ap (λ (f : Facts). held_at f.held id) whole ∙ at in
    all_name clients nothing n (entries_of j) (facts j).held (sound_nothing clients) consistent_nothing (legal_meets clients j l) then r
    (subst (In r) (sent_is clients j n l) inside)

held_if_named : (held : List Held) (r : Record) (id : Id) → NamesHeld held r → names r id ≡ true → is_held held id ≡ true
held_if_named held (record_kind.Ack ids) id n e = n id e
held_if_named held (record_kind.Message m) id n e =
    ap (is_held held) (sym (same_id-is (message_id_of m) id e)) ∙ ap is_some n.at
held_if_named held (record_kind.Offer ids) id n e = n id e
held_if_named held (record_kind.Request ids) id n e = absurd (false≢true e)
held_if_named held (record_kind.Versions versions) id n e = absurd (false≢true e)
held_if_named held (record_kind.Priority nonce) id n e = absurd (false≢true e)

-- what a record that was sent names is held
pub sent_named : (clients : Meaning) (j : Journal) (n : ℕ) → Legal clients j → (r : Record) (id : Id) → In r (sent j n) → names r id ≡ true → is_held (facts j).held id ≡ true
sent_named clients j n l r id inside e = held_if_named (facts j).held r id (sent_names_held clients j n l r inside) e

-- a message that was sent is held
pub record SentHeld (j : Journal) (m : MessageValue) : Type 0 where
  pub of : Held
  pub at : held_at (facts j).held (message_id_of m) ≡ Some of
  pub same : of.message ≡ m

pub sent_message : (clients : Meaning) (j : Journal) (n : ℕ) → Legal clients j → (m : MessageValue) → In (record_kind.Message m) (sent j n) → SentHeld j m
sent_message clients j n l m inside =
    let is : IsHeldAs (facts j).held m = sent_names_held clients j n l (record_kind.Message m) inside in
    record { of = is.of; at = is.at; same = is.same }

-- what was sent stays so in a longer journal
pub sent_stays : (clients : Meaning) (j before : Journal) → ExtendsJournal j before → Legal clients j → (o : Option ℕ) (r : Record) → IsSent before o r → IsSent j o r
sent_stays clients j before e l o r is = record {
  number = is.number;
  on = is.on;
  inside =
      let whole : Legal clients (before ++ e.0) = subst (Legal clients) e.1 l in
      subst (λ (k : Journal). In r (sent k is.number)) (sym e.1)
      (subst (In r) (sym (sent_append clients before e.0 is.number whole))
      (In-append_left r (sent before is.number) (output_of (facts before) is.number e.0) is.inside));
}
