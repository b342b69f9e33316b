-- Each step of a sound world leads to a sound world.
use Rattle.std.proofs.Common.{◌≡◌, ℕ, zero, suc, ◌-◌, ◌<◌, ◌≤◌, Bool, true, false, not, cond, ◌||◌}
use Rattle.std.proofs.Common.{◌⊎◌, List, [], ◌∷◌, ◌++◌, append_assoc, append-nil, refl, sym, ◌∙◌}
use Rattle.std.proofs.Common.{ap, subst, inl, inr, arith, Option, Some, None, is_some, unwrap_or}
use Rattle.std.specs.Prelude.{nat_lt}
use Rattle.std.specs.FinMap as fin_map
use Rattle.std.proofs.lemmas.Bool.{cases_eq, false≢true, ltb-true, ltb-false}
use Rattle.sync_ids.specs.Values.{MessageValue}
use Rattle.sync_ids.specs.Ids.{message_id_of}
use Rattle.sync_ids.specs.declared.records.Record.{Record}
use Rattle.sync_ids.specs.declared.records.Record.TheVariants as record_kind
use Rattle.sync_rules.specs.declared.entries.Entry.{Entry}
use Rattle.sync_rules.specs.declared.entries.Entry.TheVariants as entry
use Rattle.sync_rules.specs.declared.entries.Session.{Session}
use Rattle.sync_rules.specs.Allows.{is_opening}
use Rattle.sync_rules.specs.Clients.{Meaning}
use Rattle.sync_rules.specs.Consistency.{HasRows}
use Rattle.sync_rules.proofs.ConsistencyLaws.{legal_consistent}
use Rattle.sync_rules.proofs.Continuing.{continues_journals, facts-append, legal-append}
use Rattle.sync_rules.specs.Lists.{In, is_among}
use Rattle.sync_rules.specs.Facts.{ExtendsJournal, Facts, Held, Id, Journal, Row, after_all, no_row}
use Rattle.sync_rules.specs.Facts.{entries_of, facts, held_at, is_held, is_level_shared, level_at}
use Rattle.sync_rules.specs.Facts.{row_at, session_at}
use Rattle.sync_rules.proofs.Kept.{after_batches-is}
use Rattle.sync_rules.specs.Laws.{IsAuthored}
use Rattle.sync_rules.specs.Legal.{Legal}
use Rattle.sync_rules.proofs.MeetingLaws.{goes_on_meets}
use Rattle.sync_rules.proofs.Outputs.{entries_of-append}
use Rattle.sync_rules.specs.Output.{sent}
use Rattle.sync_rules.specs.Sessions.{is_author, shared_ids}
use Rattle.sync_rules.proofs.Sound.{held_at-In, held_at-id}
use Rattle.world_laws.specs.Theorem.{HeldIsWritten, IsNewWorld, IsSoundWorld, IsWritten, RestIsDone, SeenIsHeld}
use Rattle.world_laws.specs.Worlds.{AreSteps, HasNoBrief, HasSession, IsSent, IsStep, WorldLink}
use Rattle.world_laws.specs.Worlds.{Linked, RunsDevice, WasGiven, Way, WayRuns, WaysRun, World}
use Rattle.world_laws.specs.Worlds.{contact_for, journal_at, last_of, link_in, unused_end, way_at}
use Rattle.world_laws.specs.Worlds.{way_in, way_of}
use Rattle.world_laws.proofs.SentNames.{SentHeld, sent_message, sent_named, sent_stays}
use Rattle.world_laws.proofs.HeardLaws.{Before, Heard, HeldFrom, Written, batches_say, held_from, seen_from}
use Rattle.world_laws.proofs.PlainLaws.{plain_append, plain_closed}
use Rattle.world_laws.proofs.RestLaws.{none_sendable, seen_if_not_sendable}

-- ---- contacts and ways

one_contact : (d e b : ℕ) → (d ≡ e → ⊥) → (d ≡ b → ⊥) → contact_for d e ≡ contact_for d b → e ≡ b
one_contact d e b not_e not_b same =
    elim (nat_lt e d) as (λ x. nat_lt e d ≡ x → cond x e (e - 1) ≡ contact_for d b → e ≡ b) [
      | true ↦ λ l. elim (nat_lt b d) as (λ y. nat_lt b d ≡ y → e ≡ cond y b (b - 1) → e ≡ b) [
        | true ↦ λ m is. is
        | false ↦ λ m is.
            let below : e < d = ltb-true e d l in
            let above : d ≤ b = ltb-false b d m in
            omega arith
      ] refl
      | false ↦ λ l. elim (nat_lt b d) as (λ y. nat_lt b d ≡ y → e - 1 ≡ cond y b (b - 1) → e ≡ b) [
        | true ↦ λ m is.
            let above : d ≤ e = ltb-false e d l in
            let below : b < d = ltb-true b d m in
            omega arith
        | false ↦ λ m is.
            let first : d ≤ e = ltb-false e d l in
            let second : d ≤ b = ltb-false b d m in
            omega arith
      ] refl
    ] refl same

abbrev turned : Way → Way
turned way = record { sender = way.receiver; receiver = way.sender }

turned_in : (near : Bool) (o : Option WorldLink) (way : Way) → way_in near o ≡ Some way → way_in (not near) o ≡ Some (turned way)
turned_in near None way e = cc
turned_in true (Some l) way e = let same : way_of true l ≡ way = cc in ap (λ (w : Way). Some (turned w)) same
turned_in false (Some l) way e = let same : way_of false l ≡ way = cc in ap (λ (w : Way). Some (turned w)) same

-- the way as it was before a device ran
record OldWay (d : ℕ) (j : Journal) (before : Option Way) (now : Way) : Type 0 where
  way : Way
  stood : before ≡ Some way
  runs : WayRuns d j way now

old_way : (d : ℕ) (j : Journal) (o p : Option Way) (now : Way) → WaysRun d j o p → p ≡ Some now → OldWay d j o now
old_way d j None None now r e = cc
old_way d j None (Some x) now r e = absurd r
old_way d j (Some w) None now r e = absurd r
old_way d j (Some w) (Some x) now r e =
    let same : x ≡ now = cc in
    record { way = w; stood = refl; runs = subst (WayRuns d j w) same r }

-- ---- longer journals

session_stays : (j before : Journal) → ExtendsJournal j before → (n contact : ℕ) → HasSession before n contact → HasSession j n contact
session_stays j before e n contact h = record {
  session = h.session;
  known = (continues_journals j before e).same_session n h.session h.known;
  same_contact = h.same_contact;
}

held_stays : (j before : Journal) → ExtendsJournal j before → (id : Id) (o : Option Held) → held_at (facts before).held id ≡ o → is_some o ≡ true → is_held (facts j).held id ≡ true
held_stays j before e id None at is = absurd (false≢true is)
held_stays j before e id (Some h) at is = ap is_some ((continues_journals j before e).same_held id h at)

authored_front : (es fs : List Entry) (m : MessageValue) → IsAuthored es m → IsAuthored (es ++ fs) m
authored_front es fs m a = record {
  before = a.before;
  behind = a.behind ++ fs;
  stands = ap (λ (t : List Entry). t ++ fs) a.stands ∙ append_assoc a.before (entry.Author m ∷ a.behind) fs;
}

authored_back : (es fs : List Entry) (m : MessageValue) → IsAuthored fs m → IsAuthored (es ++ fs) m
authored_back es fs m a = record {
  before = es ++ a.before;
  behind = a.behind;
  stands = ap (λ (t : List Entry). es ++ t) a.stands ∙ sym (append_assoc es a.before (entry.Author m ∷ a.behind));
}

authored_stays : (j before : Journal) → ExtendsJournal j before → (m : MessageValue) → IsAuthored (entries_of before) m → IsAuthored (entries_of j) m
authored_stays j before e m a =
    subst (λ (t : List Entry). IsAuthored t m) (sym (ap entries_of e.1 ∙ entries_of-append before e.0)) (authored_front (entries_of before) (entries_of e.0) m a)

-- ---- a device runs

module _ (clients : Meaning) (d : ℕ) (old new : World) (s : IsSoundWorld clients old) (r : RunsDevice clients d old new) where
  extends_at : (e : ℕ) → ExtendsJournal (journal_at new e) (journal_at old e)
  extends_at e =
      elim (cases_eq e d) [
        | inl same ↦
            let own : ExtendsJournal (journal_at new d) (journal_at old d) = (r.more, r.goes_on) in
            subst (λ (k : ℕ). ExtendsJournal (journal_at new k) (journal_at old k)) (sym same) own
        | inr other ↦ ([], r.others e other ∙ sym (append-nil (journal_at old e)))
      ]

  legal_at : (e : ℕ) → Legal clients (journal_at new e)
  legal_at e =
      elim (cases_eq e d) [
        | inl same ↦
            let own : Legal clients (journal_at new d) =
            subst (Legal clients) (sym r.goes_on) (legal-append clients (journal_at old d) r.more (s.legal d) r.allowed) in
            subst (λ (k : ℕ). Legal clients (journal_at new k)) (sym same) own
        | inr other ↦ subst (Legal clients) (sym (r.others e other)) (s.legal e)
      ]

  plain_at : (e : ℕ) → HasNoBrief (journal_at new e)
  plain_at e =
      elim (cases_eq e d) [
        | inl same ↦
            let own : HasNoBrief (journal_at new d) =
            subst HasNoBrief (sym r.goes_on) (plain_append (journal_at old d) r.more (s.plain d) r.plain) in
            subst (λ (k : ℕ). HasNoBrief (journal_at new k)) (sym same) own
        | inr other ↦ subst HasNoBrief (sym (r.others e other)) (s.plain e)
      ]

  before : (i : ℕ) (near : Bool) (way : Way) → way_at new i near ≡ Some way → OldWay d (journal_at new d) (way_at old i near) way
  before i near way stands = old_way d (journal_at new d) (way_at old i near) (way_at new i near) way (r.ways i near) stands

  sent_kept : (o way : Way) → WayRuns d (journal_at new d) o way → (x : Record) → IsSent (journal_at old o.sender.device) o.sender.session x
      → IsSent (journal_at new way.sender.device) way.sender.session x
  sent_kept o way runs x is =
      elim runs.session [
        | inl same ↦
            let stays : IsSent (journal_at new o.sender.device) o.sender.session x =
            sent_stays clients (journal_at new o.sender.device) (journal_at old o.sender.device) (extends_at o.sender.device) (legal_at o.sender.device) o.sender.session x is in
            subst (λ (k : ℕ). IsSent (journal_at new k) way.sender.session x) (sym runs.sender)
            (subst (λ (q : Option ℕ). IsSent (journal_at new o.sender.device) q x) (sym same) stays)
        | inr begins ↦ let none : Some is.number ≡ None = sym is.on ∙ begins.fresh in cc
      ]

  flight_at : (i : ℕ) (near : Bool) (way : Way) (x : Record) → way_at new i near ≡ Some way → In x way.sender.flight
      → IsSent (journal_at new way.sender.device) way.sender.session x
  flight_at i near way x stands inside =
      let o : OldWay d (journal_at new d) (way_at old i near) way = before i near way stands in
      elim (o.runs.flight x inside) [
        | inl was ↦ sent_kept o.way way o.runs x (s.flight i near o.way x o.stood was)
        | inr sends ↦ subst (λ (k : ℕ). IsSent (journal_at new k) way.sender.session x) (sym (o.runs.sender ∙ sends.own)) sends.is
      ]

  given_at : (i : ℕ) (near : Bool) (way : Way) (x : Record) → way_at new i near ≡ Some way → In x way.receiver.given
      → IsSent (journal_at new way.sender.device) way.sender.session x
  given_at i near way x stands inside =
      let o : OldWay d (journal_at new d) (way_at old i near) way = before i near way stands in
      elim (o.runs.given x inside) [
        | inl was ↦ sent_kept o.way way o.runs x (s.given i near o.way x o.stood was)
        | inr flew ↦ sent_kept o.way way o.runs x (s.flight i near o.way x o.stood flew)
      ]

  sessions_at : (i : ℕ) (near : Bool) (way : Way) (n : ℕ) → way_at new i near ≡ Some way → way.sender.session ≡ Some n
      → HasSession (journal_at new way.sender.device) n (contact_for way.sender.device way.receiver.device)
  sessions_at i near way n stands on =
      let o : OldWay d (journal_at new d) (way_at old i near) way = before i near way stands in
      elim o.runs.session [
        | inl same ↦
            let was : HasSession (journal_at old o.way.sender.device) n (contact_for o.way.sender.device o.way.receiver.device) =
            s.sessions i near o.way n o.stood (sym same ∙ on) in
            let stays : HasSession (journal_at new o.way.sender.device) n (contact_for o.way.sender.device o.way.receiver.device) =
            session_stays (journal_at new o.way.sender.device) (journal_at old o.way.sender.device) (extends_at o.way.sender.device) n
            (contact_for o.way.sender.device o.way.receiver.device) was in
            subst (λ (k : ℕ). HasSession (journal_at new k) n (contact_for k way.receiver.device)) (sym o.runs.sender)
            (subst (λ (k : ℕ). HasSession (journal_at new o.way.sender.device) n (contact_for o.way.sender.device k)) (sym o.runs.receiver) stays)
        | inr begins ↦
            let number : begins.number ≡ n = let e : Some begins.number ≡ Some n = sym begins.begun ∙ on in cc in
            let own : HasSession (journal_at new d) n (contact_for d o.way.receiver.device) =
            subst (λ (k : ℕ). HasSession (journal_at new d) k (contact_for d o.way.receiver.device)) number begins.known in
            subst (λ (k : ℕ). HasSession (journal_at new k) n (contact_for k way.receiver.device)) (sym (o.runs.sender ∙ begins.own))
            (subst (λ (k : ℕ). HasSession (journal_at new d) n (contact_for d k)) (sym o.runs.receiver) own)
      ]

  apart_at : (i : ℕ) (near : Bool) (way : Way) → way_at new i near ≡ Some way → way.sender.device ≡ way.receiver.device → ⊥
  apart_at i near way stands same =
      let o : OldWay d (journal_at new d) (way_at old i near) way = before i near way stands in
      s.apart i near o.way o.stood (sym o.runs.sender ∙ (same ∙ o.runs.receiver))

  -- ---- who sent what was heard

  record HeardOf (session : ℕ) (x : Record) : Type 0 where
    sender : ℕ
    other : d ≡ sender → ⊥
    has : HasSession (journal_at new d) session (contact_for d sender)
    number : ℕ
    inside : In x (sent (journal_at new sender) number)

  heard_of : (session : ℕ) (x : Record) → In x (r.heard session) → HeardOf session x
  heard_of session x inside =
      let g : WasGiven new d session x = r.was_given session x inside in
      let is : IsSent (journal_at new g.way.sender.device) g.way.sender.session x = given_at g.link g.near g.way x g.stands g.inside in
      let back : way_at new g.link (not g.near) ≡ Some (turned g.way) = turned_in g.near (link_in new.links g.link) g.way g.stands in
      let has : HasSession (journal_at new g.way.receiver.device) session (contact_for g.way.receiver.device g.way.sender.device) =
      sessions_at g.link (not g.near) (turned g.way) session back g.on in
      record {
        sender = g.way.sender.device;
        other = λ same. apart_at g.link g.near g.way g.stands (sym same ∙ sym g.own);
        has = subst (λ (k : ℕ). HasSession (journal_at new k) session (contact_for k g.way.sender.device)) g.own has;
        number = is.number;
        inside = is.inside;
      }

  abbrev first : Facts
  first = facts (journal_at old d)

  abbrev added : List Entry
  added = entries_of r.more

  closed : is_opening first.start ≡ false
  closed = plain_closed clients (journal_at old d) (s.legal d) (s.plain d)

  now_is : facts (journal_at new d) ≡ after_all first added
  now_is = ap facts r.goes_on ∙ (facts-append (journal_at old d) r.more ∙ after_batches-is first r.more)

  -- ---- what is seen

  held_now : (b : ℕ) (id : Id) → is_held (facts (journal_at old b)).held id ≡ true → is_held (facts (journal_at new b)).held id ≡ true
  held_now b id held = held_stays (journal_at new b) (journal_at old b) (extends_at b) id (held_at (facts (journal_at old b)).held id) refl held

  seen_own : (b : ℕ) (id : Id) → (d ≡ b → ⊥) → (row_at (facts (journal_at new d)).rows (contact_for d b) id).seen ≡ true
      → is_held (facts (journal_at new b)).held id ≡ true
  seen_own b id apart seen =
      elim (seen_from r.heard clients first added (contact_for d b) id (goes_on_meets clients first r.more r.allowed)
      (batches_say r.heard clients first r.more closed r.plain r.allowed r.all_heard)
      (ap (λ (f : Facts). (row_at f.rows (contact_for d b) id).seen) (sym now_is) ∙ seen)) [
        | inl earlier ↦ held_now b id (s.seen d b id apart earlier)
        | inr new_one ↦
            let h : HeardOf new_one.session new_one.named.0 = heard_of new_one.session new_one.named.0 new_one.named.1 in
            let known : session_at (facts (journal_at new d)).sessions new_one.session ≡ Some new_one.of =
            ap (λ (f : Facts). session_at f.sessions new_one.session) now_is ∙ new_one.known in
            let same_session : h.has.session ≡ new_one.of = let e : Some h.has.session ≡ Some new_one.of = sym h.has.known ∙ known in cc in
            let same_contact : contact_for d h.sender ≡ contact_for d b =
            sym h.has.same_contact ∙ (ap (λ (x : Session). x.contact) same_session ∙ new_one.same_contact) in
            let same : h.sender ≡ b = one_contact d h.sender b h.other apart same_contact in
            subst (λ (k : ℕ). is_held (facts (journal_at new k)).held id ≡ true) same
            (sent_named clients (journal_at new h.sender) h.number (legal_at h.sender) new_one.named.0 id h.inside new_one.named.2)
      ]

  seen_at : SeenIsHeld new
  seen_at a b id apart seen =
      elim (cases_eq a d) [
        | inl same ↦
            seen_own b id (λ e. apart (same ∙ e)) (ap (λ (k : ℕ). (row_at (facts (journal_at new k)).rows (contact_for k b) id).seen) (sym same) ∙ seen)
        | inr other ↦
            held_now b id (s.seen a b id apart (ap (λ (j : Journal). (row_at (facts j).rows (contact_for a b) id).seen) (sym (r.others a other)) ∙ seen))
      ]

  -- ---- what is written

  written_now : (h : Held) → IsWritten old h → IsWritten new h
  written_now h w = record {
    device = w.device;
    by = authored_stays (journal_at new w.device) (journal_at old w.device) (extends_at w.device) h.message w.by;
  }

  written_own : (id : Id) (h : Held) → HeldFrom r.heard first added id h → IsWritten new h
  written_own id h (Before at) = written_now h (s.written d id h at)
  written_own id h (Written a) = record {
    device = d;
    by = subst (λ (t : List Entry). IsAuthored t h.message) (sym (ap entries_of r.goes_on ∙ entries_of-append (journal_at old d) r.more))
        (authored_back (entries_of (journal_at old d)) added h.message a);
  }
  written_own id h (Heard session inside) =
      let o : HeardOf session (record_kind.Message h.message) = heard_of session (record_kind.Message h.message) inside in
      let is : SentHeld (journal_at new o.sender) h.message = sent_message clients (journal_at new o.sender) o.number (legal_at o.sender) h.message o.inside in
      let as_before : journal_at new o.sender ≡ journal_at old o.sender = r.others o.sender (λ e. o.other (sym e)) in
      let w : IsWritten new is.of =
      written_now is.of (s.written o.sender (message_id_of h.message) is.of
      (ap (λ (j : Journal). held_at (facts j).held (message_id_of h.message)) (sym as_before) ∙ is.at)) in
      record { device = w.device; by = subst (IsAuthored (entries_of (journal_at new w.device))) is.same w.by }

  written_at : HeldIsWritten new
  written_at e id h at =
      elim (cases_eq e d) [
        | inl same ↦
            let own : held_at (after_all first added).held id ≡ Some h =
            ap (λ (f : Facts). held_at f.held id) (sym now_is) ∙ (ap (λ (k : ℕ). held_at (facts (journal_at new k)).held id) (sym same) ∙ at) in
            written_own id h (held_from r.heard first added id h (batches_say r.heard clients first r.more closed r.plain r.allowed r.all_heard) own)
        | inr other ↦
            written_now h (s.written e id h (ap (λ (j : Journal). held_at (facts j).held id) (sym (r.others e other)) ∙ at))
      ]

  pub runs_keep : IsSoundWorld clients new
  runs_keep = record {
    legal = legal_at;
    plain = plain_at;
    apart = apart_at;
    sessions = sessions_at;
    flight = flight_at;
    given = given_at;
    seen = seen_at;
    written = written_at;
  }

-- ---- two devices are linked

link_cases : (ls : List WorldLink) (x : WorldLink) (i : ℕ) → (link_in (ls ++ x ∷ []) i ≡ link_in ls i) ⊎ (link_in (ls ++ x ∷ []) i ≡ Some x)
link_cases [] x zero = inr refl
link_cases [] x (suc i) = inl refl
link_cases (l ∷ ls) x zero = inl refl
link_cases (l ∷ ls) x (suc i) = link_cases ls x i

module _ (clients : Meaning) (d e : ℕ) (two : d ≡ e → ⊥) (old : World) (s : IsSoundWorld clients old) where
  abbrev new_link : WorldLink
  new_link = record { near = unused_end d; far = unused_end e }

  abbrev linked : World
  linked = record { journals = old.journals; links = old.links ++ new_link ∷ [] }

  way_cases : (i : ℕ) (near : Bool) (way : Way) → way_at linked i near ≡ Some way → (way_at old i near ≡ Some way) ⊎ (way ≡ way_of near new_link)
  way_cases i near way stands =
      elim (link_cases old.links new_link i) [
        | inl was ↦ inl (sym (ap (way_in near) was) ∙ stands)
        | inr is ↦
            let both : Some (way_of near new_link) ≡ Some way = sym (ap (way_in near) is) ∙ stands in
            let same : way ≡ way_of near new_link = cc in
            inr same
      ]

  new_apart : (near : Bool) → (way_of near new_link).sender.device ≡ (way_of near new_link).receiver.device → ⊥
  new_apart true same = two same
  new_apart false same = two (sym same)

  new_session : (near : Bool) → (way_of near new_link).sender.session ≡ None
  new_session true = refl
  new_session false = refl

  new_flight : (near : Bool) (x : Record) → In x (way_of near new_link).sender.flight → ⊥
  new_flight true x inside = inside
  new_flight false x inside = inside

  new_given : (near : Bool) (x : Record) → In x (way_of near new_link).receiver.given → ⊥
  new_given true x inside = inside
  new_given false x inside = inside

  pub linked_keeps : IsSoundWorld clients linked
  linked_keeps = record {
    legal = s.legal;
    plain = s.plain;
    apart = λ i near way stands same.
        elim (way_cases i near way stands) [
          | inl was ↦ s.apart i near way was same
          | inr is ↦ new_apart near (subst (λ (w : Way). w.sender.device ≡ w.receiver.device) is same)
        ];
    sessions = λ i near way number stands on.
        elim (way_cases i near way stands) [
          | inl was ↦ s.sessions i near way number was on
          | inr is ↦ let none : Some number ≡ None = sym on ∙ (ap (λ (w : Way). w.sender.session) is ∙ new_session near) in cc
        ];
    flight = λ i near way x stands inside.
        elim (way_cases i near way stands) [
          | inl was ↦ s.flight i near way x was inside
          | inr is ↦ absurd (new_flight near x (subst (λ (w : Way). In x w.sender.flight) is inside))
        ];
    given = λ i near way x stands inside.
        elim (way_cases i near way stands) [
          | inl was ↦ s.given i near way x was inside
          | inr is ↦ absurd (new_given near x (subst (λ (w : Way). In x w.receiver.given) is inside))
        ];
    seen = s.seen;
    written = λ k id h at. let w : IsWritten old h = s.written k id h at in record { device = w.device; by = w.by };
  }

-- ---- steps

pub step_keeps : (clients : Meaning) (old new : World) → IsSoundWorld clients old → IsStep clients old new → IsSoundWorld clients new
step_keeps clients old new s step =
    elim step [
      | inl runs ↦ runs_keep clients runs.0 old new s runs.1
      | inr link ↦
          let l : Linked link.0 link.1 old new = link.2 in
          let same : linked clients link.0 link.1 l.two old s ≡ new = λ i. record { journals = sym l.journals i; links = sym l.links i } in
          subst (IsSoundWorld clients) same (linked_keeps clients link.0 link.1 l.two old s)
    ]

pub steps_lead : (clients : Meaning) (w : World) (worlds : List World) → IsSoundWorld clients w → AreSteps clients w worlds → IsSoundWorld clients (last_of w worlds)
steps_lead clients w [] s steps = s
steps_lead clients w (x ∷ worlds) s steps = steps_lead clients x worlds (step_keeps clients w x s steps.0) steps.1

-- ---- the beginning

module _ (clients : Meaning) (w : World) (n : IsNewWorld clients w) where
  no_way : (i : ℕ) (near : Bool) → way_at w i near ≡ None
  no_way i near = ap (λ (ls : List WorldLink). way_in near (link_in ls i)) n.unlinked

  row_held : (f : Facts) → HasRows f → (contact : ℕ) (id : Id) (o : Option Row)
      → fin_map.get f.rows (contact, id) ≡ o → (unwrap_or o no_row).seen ≡ true → is_held f.held id
      ≡ true
  row_held f has contact id None at seen = absurd (false≢true seen)
  row_held f has contact id (Some x) at seen = (has contact id x at).held

  none_held : (d : ℕ) (id : Id) → held_at (facts (journal_at w d)).held id ≡ None
  none_held d id = ap (λ (hs : List Held). held_at hs id) (n.empty d)

  pub new_is_sound : IsSoundWorld clients w
  new_is_sound = record {
    legal = n.legal;
    plain = n.plain;
    apart = λ i near way stands same. let none : None ≡ Some way = sym (no_way i near) ∙ stands in cc;
    sessions = λ i near way number stands on. let none : None ≡ Some way = sym (no_way i near) ∙ stands in cc;
    flight = λ i near way x stands inside. let none : None ≡ Some way = sym (no_way i near) ∙ stands in cc;
    given = λ i near way x stands inside. let none : None ≡ Some way = sym (no_way i near) ∙ stands in cc;
    seen = λ a b id apart seen.
        let f : Facts = facts (journal_at w a) in
        let held : is_held f.held id ≡ true =
        row_held f (legal_consistent clients (journal_at w a) (n.legal a)).rows (contact_for a b) id (fin_map.get f.rows (contact_for a b, id)) refl seen in
        absurd (false≢true (sym (ap is_some (none_held a id)) ∙ held));
    written = λ d id h at. let none : None ≡ Some h = sym (none_held d id) ∙ at in cc;
  }

-- ---- rest

pub rest_is_done : (clients : Meaning) (w : World) → IsSoundWorld clients w → RestIsDone clients w
rest_is_done clients w s a b number now id apart rest to =
    let f : Facts = facts (journal_at w a) in
    let c : ℕ = contact_for a b in
    let x : Session = rest.session in
    let h : Held = to.message in
    let same : h.id ≡ id = held_at-id f.held id h to.held in
    let inside : In h f.held = held_at-In f.held id h to.held in
    let waits : (row_at f.rows x.contact h.id).expiry ≤ now =
    subst (λ (k : ℕ). (row_at f.rows k h.id).expiry ≤ now) (sym rest.same_contact) (rest.none_waits h inside) in
    let unsent = none_sendable f (shared_ids clients f) x now rest.nothing_due h inside waits in
    let delivered : is_among f.delivered h.id ≡ true = ap (is_among f.delivered) same ∙ to.delivered in
    let shared : is_level_shared (level_at f.levels x.contact h.message.group) ≡ true =
    ap (λ (k : ℕ). is_level_shared (level_at f.levels k h.message.group)) rest.same_contact ∙ to.shared in
    let may_go : (is_author h.origin || is_among (shared_ids clients f) h.id) ≡ true =
    ap (λ (q : Id). is_author h.origin || is_among (shared_ids clients f) q) same ∙ to.may_go in
    let seen : (row_at f.rows x.contact h.id).seen ≡ true =
    seen_if_not_sendable (is_among f.delivered h.id) (is_level_shared (level_at f.levels x.contact h.message.group)) (row_at f.rows x.contact h.id).seen
    (is_author h.origin || is_among (shared_ids clients f) h.id) unsent delivered shared may_go in
    s.seen a b id apart ((λ i. (row_at f.rows (sym rest.same_contact i) (sym same i)).seen) ∙ seen)
