-- A session that begins, and the era that it begins in.
use Rattle.std.proofs.Common.{◌≡◌, ℕ, ◌+◌, ◌<◌, ◌≤◌, Bool, true, false, List, length, refl, sym, ap}
use Rattle.std.proofs.Common.{◌∙◌, subst, inr, Option, None, Some, Result, ◌&&◌}
use Rattle.std.specs.Prelude.{IfSome, nat_le, nat_lt, not}
use Rattle.std.proofs.lemmas.Bool.{and_parts, and_from, false≢true, leb-true, ltb-true}
use Rattle.outside.specs.Outside.{Outside, QuietCall}
use Rattle.sync_rules.specs.Clients.{Meaning}
use Rattle.sync_rules.specs.Growth.{OnlySettles}
use Rattle.sync_rules.specs.declared.limits.TheConstants.{MAX_SESSIONS}
use Rattle.sync_store.specs.Store.{StoreValue}
use Rattle.sync_node.specs.declared.fault.NodeFault.{NodeFault}
use Rattle.sync_node.specs.declared.limits.TheConstants.{MOST_LINKS}
use Rattle.sync_node.specs.declared.node.Plan.{Plan}
use Rattle.sync_node.specs.Node.{AsideValue, IsAside, new_aside, node_with}
use Rattle.link_host.specs.Coming.{ForgetsLinks}
use Rattle.resident.specs.declared.resident.Resident.{Resident}
use Rattle.resident.specs.Sessions.{BeginsNow, GoesOnBehind, HasEra, TakesLink, links_in, may_begin}
use Rattle.resident.specs.Sessions.{may_have, numbered}
use Rattle.resident.specs.Staying.{RunsBeside}

-- ---- whether it may

not_true : (b : Bool) → not b ≡ true → b ≡ false
not_true true is = absurd (false≢true is)
not_true false is = refl

pub record BeginParts (r : Resident) (plan : Plan) (has_nonce : Bool) : Type 0 where
  pub still_open : r.ended ≡ false
  pub mode : may_have plan.mode has_nonce ≡ true
  pub latency : 1 ≤ plan.latency
  pub contact : plan.contact < r.store.state.facts.contacts
  pub few : links_in r.aside < MOST_LINKS
  pub begun : r.store.state.facts.begun < MAX_SESSIONS

pub begin_parts : (r : Resident) (plan : Plan) (has_nonce : Bool)
    → may_begin r plan has_nonce ≡ true → BeginParts r plan has_nonce
begin_parts r plan has_nonce may =
    let left : Bool = nat_lt r.store.state.facts.begun MAX_SESSIONS in
    let few : Bool = nat_lt (links_in r.aside) MOST_LINKS in
    let contact : Bool = nat_lt plan.contact r.store.state.facts.contacts in
    let latency : Bool = nat_le 1 plan.latency in
    let mode : Bool = may_have plan.mode has_nonce in
    let all = and_parts (not r.ended) (mode && (latency && (contact && (few && left)))) may in
    let modes = and_parts mode (latency && (contact && (few && left))) all.1 in
    let latencies = and_parts latency (contact && (few && left)) modes.1 in
    let contacts = and_parts contact (few && left) latencies.1 in
    let numbers = and_parts few left contacts.1 in
    record {
      still_open = not_true r.ended all.0;
      mode = modes.0;
      latency = leb-true 1 plan.latency latencies.0;
      contact = ltb-true plan.contact r.store.state.facts.contacts contacts.0;
      few = ltb-true (links_in r.aside) MOST_LINKS numbers.0;
      begun = ltb-true r.store.state.facts.begun MAX_SESSIONS numbers.1;
    }

-- so it may over the settled journal
pub may_settled : (r : Resident) (s : StoreValue) (plan : Plan) (has_nonce : Bool)
    → OnlySettles r.store.state.facts s.state.facts → may_begin r plan has_nonce ≡ true
    → may_begin (record r { store = s }) plan has_nonce ≡ true
may_settled r s plan has_nonce only may =
    let parts : ℕ → ℕ → Bool = λ contacts begun.
    not r.ended && (may_have plan.mode has_nonce && (nat_le 1 plan.latency
    && (nat_lt plan.contact contacts
    && (nat_lt (links_in r.aside) MOST_LINKS && nat_lt begun MAX_SESSIONS)))) in
    ap (λ (n : ℕ). parts n s.state.facts.begun) only.contacts
    ∙ ap (λ (n : ℕ). parts r.store.state.facts.contacts n) only.begun ∙ may

-- ---- its era

module _ {H : Type 0} (tells : H → Outside) (e : Option AsideValue) (s : StoreValue) where
  -- one that ran
  pub same_era : (a : AsideValue) (o : H) → e ≡ Some a → HasEra tells e s o o a
  same_era a o is =
      subst (λ (x : Option AsideValue). HasEra tells x s o o a) (sym is) (refl, refl)

  -- a new one
  pub new_era : (a : AsideValue) (o o' : H) → e ≡ None → a ≡ new_aside s
      → QuietCall (tells o) (tells o') → ForgetsLinks (tells o).links (tells o').links
      → HasEra tells e s o o' a
  new_era a o o' none is quiet forgets =
      subst (λ (x : Option AsideValue). HasEra tells x s o o' a) (sym none) (is, quiet, forgets)

pub new_runs : (a : AsideValue) (s : StoreValue) (o o' : Outside) → a ≡ new_aside s
    → IsAside (node_with a s) → ForgetsLinks o.links o'.links → RunsBeside a s o'
new_runs a s o o' is aside forgets = record {
  still_open = ap (λ (x : AsideValue). x.closed) is;
  sessions = aside;
  dialled = forgets.none_left ∙ sym (ap (λ (x : AsideValue). length x.links) is);
}

pub ran : (e : Option AsideValue) (a : AsideValue) (s : StoreValue) (o : Outside) → e ≡ Some a
    → IfSome e (λ b. RunsBeside b s o) → RunsBeside a s o
ran e a s o is runs =
    subst (λ (x : Option AsideValue). IfSome x (λ b. RunsBeside b s o)) is runs

-- ---- a session of it

pub begins_now : {H : Type 0} (tells : H → Outside) (clients : Meaning) (plan : Plan)
    (has_nonce : Bool) (r r' : Resident) (e : Option AsideValue) (a left : AsideValue)
    (s' : StoreValue) (old readied new : H) (link : ℕ) (came : Result (Unit {0}) NodeFault)
    (result : Result ℕ NodeFault) → result ≡ numbered link came → e ≡ r.aside
    → HasEra tells e r.store old readied a
    → TakesLink tells clients plan has_nonce link a left r.store s' readied new came
    → r'.store ≡ s' → GoesOnBehind came left r'
    → BeginsNow tells clients plan has_nonce r r' old new result
begins_now tells clients plan has_nonce r r' e a left s' old readied new link came result is era
    has takes store goes = record {
      link = link;
      came = came;
      is = is;
      left = left;
      goes_on = goes;
      did = inr (record {
        aside = a;
        readied = readied;
        readies =
            subst (λ (x : Option AsideValue). HasEra tells x r.store old readied a) era has;
        begun =
            subst (λ (x : StoreValue).
            TakesLink tells clients plan has_nonce link a left r.store x readied new came)
            (sym store) takes;
      });
    }
