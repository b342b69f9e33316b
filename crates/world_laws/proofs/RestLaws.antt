-- Where nothing is due and no message waits, no message is still to be sent.
use Rattle.std.proofs.Common.{◌≡◌, ℕ, zero, suc, ◌≤◌, Bool, true, false, not, cond, ◌&&◌, nat_le, List, [], ◌∷◌, take, refl, sym, ◌∙◌, ap, inl, inr, arith, Option, Some, None}
use Rattle.std.specs.Option.{option_or}
use Rattle.std.proofs.lemmas.Bool.{false≢true, le-leb}
use Rattle.sync_ids.specs.declared.lists.TheConstants.{MAX_IDS}
use Rattle.sync_rules.specs.declared.entries.Mode.{Mode}
use Rattle.sync_rules.specs.declared.entries.Mode.TheVariants as mode_kind
use Rattle.sync_rules.specs.declared.entries.Out.{Out}
use Rattle.sync_rules.specs.declared.entries.Session.{Session}
use Rattle.sync_rules.specs.Lists.{In}
use Rattle.sync_rules.specs.Facts.{Facts, Held, Id, Row, row_at}
use Rattle.sync_rules.specs.Sessions.{acks_due, due_by, first_id, ids_where, is_ripe, is_sendable}
use Rattle.sync_rules.specs.Sessions.{offers_due, offers_of, owed_to, requests_due, send_due}
use Rattle.sync_rules.specs.Sessions.{send_of, wanted_of}
use Rattle.sync_rules.specs.Sessions.{due_on_any_way, sooner_due, sooner_of, sooner_offers_of}

-- no id passes a test
none_passes : (test : Held → Bool) (hs : List Held) → ids_where test hs ≡ [] → (h : Held) → In h hs → test h ≡ false
none_passes test [] none h inside = absurd inside
none_passes test (x ∷ hs) none h inside =
    elim (test x) as (λ b. test x ≡ b → cond b (x.id ∷ ids_where test hs) (ids_where test hs) ≡ [] → test h ≡ false) [
      | true ↦ λ e none. cc
      | false ↦ λ e none. elim inside [ inl same ↦ ap test same ∙ e | inr later ↦ none_passes test hs none h later ]
    ] refl none

first_none : (ids : List Id) → first_id ids ≡ None → ids ≡ []
first_none [] e = refl
first_none (x ∷ ids) e = cc

take_none : (n : ℕ) (ids : List Id) → 1 ≤ n → take n ids ≡ [] → ids ≡ []
take_none zero ids some e = absurd (omega arith)
take_none (suc n) [] some e = refl
take_none (suc n) (x ∷ ids) some e = cc

option_or-none : (a b : Option Out) → option_or a b ≡ None → (a ≡ None) × (b ≡ None)
option_or-none None b e = (refl, e)
option_or-none (Some x) b e = cc

send_none : (o : Option Id) → send_due o ≡ None → o ≡ None
send_none None e = refl
send_none (Some id) e = cc

offers_none : (ids : List Id) → offers_due mode_kind.Interactive ids ≡ None → ids ≡ []
offers_none [] e = refl
offers_none (x ∷ ids) e = cc

not_both : (a b : Bool) → (a && b) ≡ false → b ≡ true → a ≡ false
not_both true true none is = none
not_both true false none is = absurd (false≢true is)
not_both false b none is = refl

-- in interactive mode a sendable message is sent where it was asked for, else offered
module _ (f : Facts) (shared : List Id) (contact now : ℕ) (h : Held) (waits : (row_at f.rows contact h.id).expiry ≤ now) where
  abbrev row : Row
  row = row_at f.rows contact h.id

  asked_or_not : (s a : Bool) → (s && a) ≡ false → (s && (not a && nat_le row.expiry now)) ≡ false → s ≡ false
  asked_or_not false a one two = refl
  asked_or_not true true one two = one
  asked_or_not true false one two = sym (le-leb row.expiry now waits) ∙ two

  ripe_or_not : (mode : Mode) → (is_sendable f shared contact h && is_ripe mode now row) ≡ false
      → ((mode ≡ mode_kind.Interactive) → (is_sendable f shared contact h && (not row.asked && nat_le row.expiry now)) ≡ false)
      → is_sendable f shared contact h ≡ false
  ripe_or_not mode_kind.Batch one two = not_both (is_sendable f shared contact h) (nat_le row.expiry now) one (le-leb row.expiry now waits)
  ripe_or_not mode_kind.Interactive one two = asked_or_not (is_sendable f shared contact h) row.asked one (two refl)

pub none_sendable : (f : Facts) (shared : List Id) (s : Session) (now : ℕ) → due_by f shared s now ≡ None
    → (h : Held) → In h f.held → (row_at f.rows s.contact h.id).expiry ≤ now → is_sendable f shared s.contact h ≡ false
none_sendable f shared s now none h inside waits =
    let offers : Option Out = offers_due s.mode (offers_of f shared s.contact now) in
    let send : Option Out = send_due (send_of f shared s.contact s.mode now) in
    let requests : Option Out = requests_due s.mode (wanted_of f s.contact) in
    let sends : Held → Bool = λ k. is_sendable f shared s.contact k && is_ripe s.mode now (row_at f.rows s.contact k.id) in
    let offered : Held → Bool = λ k. is_sendable f shared s.contact k
    && (not (row_at f.rows s.contact k.id).asked && nat_le (row_at f.rows s.contact k.id).expiry now) in
    let first = option_or-none (due_on_any_way f shared s now)
    (sooner_due s.mode (sooner_of f shared s.contact s.latency now) (sooner_offers_of f shared s.contact s.latency now)) none in
    let a = option_or-none (acks_due (owed_to f s.contact))
    (option_or requests (option_or send offers)) first.0 in
    let b = option_or-none requests (option_or send offers) a.1 in
    let c = option_or-none send offers b.1 in
    let no_send : ids_where sends f.held ≡ [] = first_none (ids_where sends f.held) (send_none (send_of f shared s.contact s.mode now) c.0) in
    ripe_or_not f shared s.contact now h waits s.mode (none_passes sends f.held no_send h inside)
    (λ interactive.
    let at : offers_due mode_kind.Interactive (offers_of f shared s.contact now) ≡ None =
    ap (λ (m : Mode). offers_due m (offers_of f shared s.contact now)) (sym interactive) ∙ c.1 in
    let no_offer : ids_where offered f.held ≡ [] = take_none MAX_IDS (ids_where offered f.held) (omega arith) (offers_none (offers_of f shared s.contact now) at) in
    none_passes offered f.held no_offer h inside)

-- a message that is not sendable though all else holds was seen
pub seen_if_not_sendable : (d l s o : Bool) → (d && (l && (not s && o))) ≡ false → d ≡ true → l ≡ true → o ≡ true → s ≡ true
seen_if_not_sendable true true true true e a b c = refl
seen_if_not_sendable true true false true e a b c = sym e
seen_if_not_sendable true true s false e a b c = absurd (false≢true c)
seen_if_not_sendable true false s o e a b c = absurd (false≢true b)
seen_if_not_sendable false l s o e a b c = absurd (false≢true a)
