-- Each entry of an allowed batch meets what it must, so a legal journal keeps the invariant.
use Rattle.std.proofs.Common.{◌≡◌, ℕ, Bool, true, false, not, cond, List, [], ◌∷◌, ◌++◌, refl, sym}
use Rattle.std.proofs.Common.{◌∙◌, ap, Option, Some, None, is_some}
use Rattle.std.specs.FinSet as fin_set
use Rattle.std.specs.Cmp.Lexicographic.{slice_cmp}
use Rattle.std.specs.Ordering.{nat_cmp}
use Rattle.std.proofs.lemmas.Bool.{and_parts, false≢true, not-true}
use Rattle.sync_ids.specs.Values.{MessageValue}
use Rattle.sync_ids.specs.Ids.{message_id_of}
use Rattle.sync_ids.specs.declared.records.Record.{Record}
use Rattle.sync_ids.specs.declared.records.Record.TheVariants as record_kind
use Rattle.sync_rules.specs.declared.entries.Entry.{Entry}
use Rattle.sync_rules.specs.declared.entries.Entry.TheVariants as entry
use Rattle.sync_rules.specs.Clients.{Meaning}
use Rattle.sync_rules.specs.Lists.{firsts}
use Rattle.sync_rules.specs.Facts.{Facts, Held, Id, after, after_all, after_batches, nothing, facts, entries_of, group_at, held_at, contact_of, session_at, level_at, is_invisible}
use Rattle.sync_rules.specs.Steps.{next}
use Rattle.sync_rules.specs.Sessions.{taken, taken_message, taken_message_of, taken_acks, taken_requests, taken_offers, taken_offer, one_if, is_welcome, is_remembered, room_after}
use Rattle.sync_rules.specs.Legal.{Allowed, AreRows, IsSettling, GoesOn, Legal, MayStandAlone}
use Rattle.sync_rules.specs.Legal.{SuitsRows}
use Rattle.sync_rules.proofs.BatchKinds.{by_kind}
use Rattle.sync_rules.proofs.StepLaws.{next_is_settling}
use Rattle.sync_rules.proofs.Sound.{SoundFacts}
use Rattle.sync_rules.proofs.Kept.{Fits, AllFit, sound_all, AllFit-append}

-- ---- the entries of a Take

-- one entry, or none, before others
fits_one_if : (clients : Meaning) (b : Bool) (e : Entry) (rest : List Entry) → ((f : Facts) → Fits clients f e)
    → ((f : Facts) → AllFit clients f rest) → (f : Facts) → AllFit clients f (one_if b e ++ rest)
fits_one_if clients true e rest one others f = (one f, others (after f e))
fits_one_if clients false e rest one others f = others f

fits_acks : (clients : Meaning) (was : Facts) (session contact : ℕ) (ids : List Id) (f : Facts) → AllFit clients f (taken_acks was session contact ids)
fits_acks clients was session contact [] f = tt
fits_acks clients was session contact (id ∷ ids) f =
    fits_one_if clients _ (entry.Seen session id) (taken_acks was session contact ids) (λ _. tt) (fits_acks clients was session contact ids) f

fits_requests : (clients : Meaning) (was : Facts) (session contact : ℕ) (ids : List Id) (f : Facts) → AllFit clients f (taken_requests was session contact ids)
fits_requests clients was session contact [] f = tt
fits_requests clients was session contact (id ∷ ids) f =
    fits_one_if clients _ (entry.Asked session id) (taken_requests was session contact ids) (λ _. tt) (fits_requests clients was session contact ids) f

fits_offer : (clients : Meaning) (session : ℕ) (id : Id) (a b : Bool) (f : Facts)
    → AllFit clients f (one_if a (entry.Again session id) ++ one_if b (entry.Offered session id))
fits_offer clients session id true true f = (tt, (tt, tt))
fits_offer clients session id true false f = (tt, tt)
fits_offer clients session id false true f = (tt, tt)
fits_offer clients session id false false f = tt

fits_offers : (clients : Meaning) (was : Facts) (session contact room : ℕ) (ids : List Id) (f : Facts) → AllFit clients f (taken_offers was session contact room ids)
fits_offers clients was session contact room [] f = tt
fits_offers clients was session contact room (id ∷ ids) f =
    AllFit-append clients f (taken_offer was session contact room id) _
    (fits_offer clients session id _ _ f)
    (fits_offers clients was session contact (room_after (is_remembered was contact room id) room) ids (after_all f (taken_offer was session contact room id)))

some_or_none : (o : Option Held) → o ≡ None → is_some o ≡ false
some_or_none o e = ap is_some e

-- a MESSAGE; the facts after the Take entry differ in the count of takes alone
fits_message : (clients : Meaning) (f : Facts) (session k : ℕ) (m : MessageValue) → is_some (session_at f.sessions session) ≡ true
    → AllFit clients (after f (entry.Take session k)) (taken_message f session (contact_of f.sessions session) m)
fits_message clients f session k m known =
    let contact : ℕ = contact_of f.sessions session in
    let g : Facts = after f (entry.Take session k) in
    elim (is_welcome f contact m.group) as (λ b. is_welcome f contact m.group ≡ b
    → AllFit clients g (cond b (taken_message_of f session contact m (held_at f.held (message_id_of m))) [])) [
      | true ↦ λ w.
          let both = and_parts (is_some (group_at f.groups m.group)) (not (is_invisible (level_at f.levels contact m.group))) w in
          elim (held_at f.held (message_id_of m)) as (λ o. held_at f.held (message_id_of m) ≡ o → AllFit clients g (taken_message_of f session contact m o)) [
            | None ↦ λ e. (
              record {
                is_new = record { known = both.0; new = some_or_none (held_at f.held (message_id_of m)) e };
                shown = not-true (is_invisible (level_at f.levels contact m.group)) both.1;
                known_session = known;
              },
              tt,
            )
            | Some h ↦ λ e.
                elim (not (is_invisible (level_at f.levels contact h.message.group))) as (λ b. AllFit clients g (one_if b (entry.Again session (message_id_of m)))) [
                  | true ↦ (tt, tt)
                  | false ↦ tt
                ]
          ] refl
      | false ↦ λ w. tt
    ] refl

fits_taken : (clients : Meaning) (f : Facts) (session k : ℕ) (r : Record) → is_some (session_at f.sessions session) ≡ true
    → AllFit clients (after f (entry.Take session k)) (taken f session r)
fits_taken clients f session k (record_kind.Ack ids) known = fits_acks clients f session (contact_of f.sessions session) (firsts ids) (after f (entry.Take session k))
fits_taken clients f session k (record_kind.Message m) known = fits_message clients f session k m known
fits_taken clients f session k (record_kind.Offer ids) known =
    fits_offers clients f session (contact_of f.sessions session) _ (firsts ids) (after f (entry.Take session k))
fits_taken clients f session k (record_kind.Request ids) known = fits_requests clients f session (contact_of f.sessions session) (firsts ids) (after f (entry.Take session k))
fits_taken clients f session k (record_kind.Versions versions) known = tt
fits_taken clients f session k (record_kind.Priority nonce) known = tt

-- ---- settling

fits_settling_entry : (clients : Meaning) (f : Facts) (e : Entry) → next clients f ≡ Some e → Fits clients f e
fits_settling_entry clients f (entry.Judged id) n = n
fits_settling_entry clients f (entry.Deliver id) n = n
fits_settling_entry clients f (entry.Invalid id) n = n
fits_settling_entry clients f (entry.Level c g l) n = absurd (next_is_settling clients f (entry.Level c g l) n)
fits_settling_entry clients f (entry.Author m) n = absurd (next_is_settling clients f (entry.Author m) n)
fits_settling_entry clients f (entry.Arrive s m) n = absurd (next_is_settling clients f (entry.Arrive s m) n)
fits_settling_entry clients f (entry.Out s now what) n = absurd (next_is_settling clients f (entry.Out s now what) n)
fits_settling_entry clients f (entry.Kept from m) n = absurd (next_is_settling clients f (entry.Kept from m) n)
fits_settling_entry clients f _ n = tt

pub fits_settling : (clients : Meaning) (f : Facts) (es : List Entry) → IsSettling clients f es → AllFit clients f es
fits_settling clients f [] s = tt
fits_settling clients f (e ∷ es) s = (fits_settling_entry clients f e s.0, fits_settling clients (after f e) es s.1)

-- ---- rows and wanted ids

fits_row : (clients : Meaning) (f : Facts) (e : Entry) → SuitsRows f e → Fits clients f e
fits_row clients f (entry.Tried t) s = tt
fits_row clients f (entry.Want contact id) s = tt
fits_row clients f _ s = absurd s

fits_rows : (clients : Meaning) (f : Facts) (es : List Entry) → AreRows f es → AllFit clients f es
fits_rows clients f [] s = tt
fits_rows clients f (e ∷ es) s = (fits_row clients f e s.0, fits_rows clients (after f e) es s.1)

-- ---- batches

stands_fits : (clients : Meaning) (f : Facts) (e : Entry) → MayStandAlone clients f e
    → Fits clients f e
stands_fits clients f (entry.Level c g l) may = may.1
stands_fits clients f (entry.Author m) may = record { known = may.known_group; new = may.new }
stands_fits clients f (entry.Out s now what) may = may
stands_fits clients f (entry.Kept from m) may =
    record { known = may.1.known_group; new = may.1.new }
stands_fits clients f (entry.Contact c) may = tt
stands_fits clients f (entry.Group def) may = tt
stands_fits clients f (entry.Session s) may = tt
stands_fits clients f _ may = absurd may

pub allowed_fits : (clients : Meaning) (f : Facts) (b : List Entry) → Allowed clients f b → AllFit clients f b
allowed_fits clients f =
    by_kind clients f (AllFit clients f) (record {
      alone = λ e settled may. (stands_fits clients f e may, tt);
      of_record = λ s k r settled next. (tt, fits_taken clients f s k r next.known_session);
      steps = λ e es step is. fits_settling clients f (e ∷ es) is.2;
      brief = λ n empty. (tt, tt);
      rows = λ e es row is. fits_rows clients f (e ∷ es) is.suits;
    })

pub goes_on_fits : (clients : Meaning) (f : Facts) (bs : List (List Entry)) → GoesOn clients f bs → AllFit clients f (entries_of bs)
goes_on_fits clients f [] g = tt
goes_on_fits clients f (b ∷ bs) g =
    AllFit-append clients f b (entries_of bs) (allowed_fits clients f b g.0) (goes_on_fits clients (after_all f b) bs g.1)

pub legal_fits : (clients : Meaning) (j : List (List Entry)) → Legal clients j → AllFit clients nothing (entries_of j)
legal_fits clients j l = goes_on_fits clients nothing j l

-- ---- the invariant

pub sound_nothing : (clients : Meaning) → SoundFacts clients nothing
sound_nothing clients = record {
  names = λ h inside. absurd inside;
  known = λ h inside. absurd inside;
  delivered_good = λ id e. absurd (false≢true e);
  invalid_bad = λ id e. absurd (false≢true (sym (fin_set.contains-empty (slice_cmp nat_cmp) id) ∙ e));
}

pub goes_on_sound : (clients : Meaning) (f : Facts) (bs : List (List Entry)) → GoesOn clients f bs → SoundFacts clients f → SoundFacts clients (after_batches f bs)
goes_on_sound clients f [] g s = s
goes_on_sound clients f (b ∷ bs) g s =
    goes_on_sound clients (after_all f b) bs g.1 (sound_all clients f b (allowed_fits clients f b g.0) s)

pub legal_sound : (clients : Meaning) (j : List (List Entry)) → Legal clients j → SoundFacts clients (facts j)
legal_sound clients j l = goes_on_sound clients nothing j l (sound_nothing clients)
