-- Steps that are refused, over plain values.
use Rattle.std.specs.Result.{IsErrAnd}
use Rattle.std.proofs.Common.{◌≡◌, ◌≢◌, ℕ, zero, suc, ◌+◌, ◌-◌, ◌<◌, ◌≤◌, Bool, true, false, ◌||◌}
use Rattle.std.proofs.Common.{List, [], ◌∷◌, length, refl, sym, ap, ◌∙◌, subst, arith, Option, Some}
use Rattle.std.proofs.Common.{None, Result, Ok, Err, is_err}
use Rattle.std.specs.Prelude.{slice_get, slice_index_or}
use Rattle.world_devices.specs.declared.stop.Ran.{Ran}
use Rattle.world_devices.specs.declared.stop.StepFault.{StepFault}
use Rattle.world_devices.specs.declared.stop.StepFault.TheVariants as fault
use Rattle.std.specs.Prelude.{IsErrOf, ◌==◌, not, is_none, is_some, nat_le, nat_lt, if◌then◌else◌}
use Rattle.std.proofs.lemmas.Bool.{lt-ltb, lt-leb, ltb-false, ltb-true, ne_eqb}
use Rattle.std.proofs.lemmas.Option.{slice_get_past}
use Rattle.outside.specs.declared.limits.TheConstants.{LINKS}
use Rattle.sync_ids.specs.Values.{GroupValue}
use Rattle.sync_ids.specs.Ids.{group_id_of}
use Rattle.sync_rules.specs.Facts.{Id, Known, group_at}
use Rattle.sync_rules.specs.declared.states.Refused.TheVariants as refused
use Rattle.sync_node.specs.Node.{NodeValue}
use Rattle.world_devices.specs.Devices.{DeviceValue}
use Rattle.world_devices.specs.Refusals.{RefusedBy, by_facts, refuses_level}
use Rattle.world_devices.specs.Refusals.{refuses_link}
use Rattle.world_scripts.specs.Labels.{KindAndDescriptor}
use Rattle.world_laws.specs.Worlds.{contact_for}
use Rattle.sync_world.specs.Naming.{IsMade, group_of}
use Rattle.sync_world.specs.Refusing.{KnowContacts, group_labelled, has_room, lacks}
use Rattle.sync_world.specs.Refusing.{refuses_to_attach, refuses_with}
use Rattle.sync_world.proofs.WireLaws.{get_at}

-- ---- answers

-- the same answers
pub by_same : {A : Type 0} (b b' : Bool) (r : Result A StepFault) → b' ≡ b → RefusedBy b r
    → RefusedBy b' r
by_same b b' r same by = subst (λ (x : Bool). RefusedBy x r) (sym same) by

-- what was answered is not refused
pub was_allowed : {A : Type 0} (b : Bool) (a : A) → RefusedBy b (Ok a) → b ≡ false
was_allowed true a by = absurd by
was_allowed false a by = refl

pub done_same : {A B : Type 0} (b : Bool) (x : A) (y : B) → RefusedBy b (Ok x) → RefusedBy b (Ok y)
done_same true x y by = by
done_same false x y by = tt

-- ---- a value for a device

module _ {A : Type 0} (test : A → DeviceValue → Bool) where
  pub with_missing : (o : Option A) (device : Option DeviceValue) → device ≡ None
      → refuses_with test o device ≡ true
  with_missing None device missing = refl
  with_missing (Some v) None missing = refl
  with_missing (Some v) (Some d) missing = absurd (cc missing)

  pub with_both : (o : Option A) (device : Option DeviceValue) (v : A) (d : DeviceValue)
      → IsMade o (Ok v) → device ≡ Some d → refuses_with test o device ≡ test v d
  with_both None device v d made there = absurd made
  with_both (Some w) None v d made there = absurd (cc there)
  with_both (Some w) (Some x) v d made there =
      let at : x ≡ d = cc there in
      ap (λ (y : DeviceValue). test w y) at ∙ ap (λ (u : A). test u d) (sym made)

-- ---- devices that are there

pub found : (ds : List DeviceValue) (i : ℕ) (d : DeviceValue) → i < length ds
    → d ≡ slice_index_or ds i d → is_none (slice_get ds i) ≡ false
found ds i d within is = ap (λ (o : Option DeviceValue). is_none o) (get_at ds i d within is)

pub missing : (ds : List DeviceValue) (i : ℕ) → length ds ≤ i → is_none (slice_get ds i) ≡ true
missing ds i past = ap (λ (o : Option DeviceValue). is_none o) (slice_get_past ds i past)

-- ---- contacts

pub contact_known : (d e len contacts : ℕ) → d ≢ e → d < len → e < len → len ≤ contacts + 1
    → contact_for d e < contacts
contact_known d e len contacts other first second enough =
    elim (nat_lt e d) as (λ (b : Bool). nat_lt e d ≡ b → (if b then e else e - 1) < contacts) [
      | true ↦ λ is. let below : e < d = ltb-true e d is in omega (arith, below, first, enough)
      | false ↦ λ is. let above : d ≤ e =
          ltb-false e d is in omega (arith, above, other, second, enough)
    ] refl

-- a level is refused exactly where the group is not known, for a contact that is known
level_by : (known : Bool) (group : Option Known) → known ≡ true
    → is_err (if known then (if is_some group then Ok (tt {0}) else Err refused.UnknownGroup) else
    Err refused.UnknownContact) ≡ is_none group
level_by true None is = refl
level_by true (Some g) is = refl
level_by false group is = absurd (cc is)

pub level_lacks : (d : DeviceValue) (def : GroupValue) (contact : ℕ)
    → ((n : NodeValue) → d.node ≡ Some n → contact < n.store.state.facts.contacts)
    → refuses_level d.node contact (group_id_of def) ≡ lacks def d
level_lacks d def contact known =
    elim d.node as (λ (o : Option NodeValue).
    ((n : NodeValue) → o ≡ Some n → contact < n.store.state.facts.contacts)
    → refuses_level o contact (group_id_of def)
    ≡ by_facts (λ f. is_none (group_at f.groups (group_id_of def))) o) [
      | None ↦ λ _. refl
      | Some n ↦ λ k. level_by (nat_lt contact n.store.state.facts.contacts)
          (group_at n.store.state.facts.groups (group_id_of def))
          (lt-ltb contact n.store.state.facts.contacts (k n refl))
    ] known

or_false : (a b c : Bool) → a ≡ false → b ≡ false → (a || (b || c)) ≡ c
or_false false false c first second = refl
or_false true b c first second = absurd (cc first)
or_false false true c first second = absurd (cc second)

or_none : (a b : Bool) → a ≡ false → b ≡ false → (a || b) ≡ false
or_none false b first second = second
or_none true b first second = absurd (cc first)

or_true : (a b c : Bool) → c ≡ true → (a || (b || c)) ≡ true
or_true a b false is = absurd (cc is)
or_true true b true is = refl
or_true false true true is = refl
or_true false false true is = refl

-- two different devices that are there: a share is refused as the first one lacks the group
pub share_by : (ds : List DeviceValue) (d e : ℕ) (c : Bool) → d ≢ e
    → is_none (slice_get ds e) ≡ false → ((d == e) || (is_none (slice_get ds e) || c)) ≡ c
share_by ds d e c other there =
    or_false (d == e) (is_none (slice_get ds e)) c (ne_eqb d e other) there

pub share_past : (ds : List DeviceValue) (d e : ℕ) (c : Bool) → c ≡ true
    → ((d == e) || (is_none (slice_get ds e) || c)) ≡ true
share_past ds d e c is = or_true (d == e) (is_none (slice_get ds e)) c is

-- a device knows the contact of another one
pub knows : (ds : List DeviceValue) (d e : ℕ) (x : DeviceValue) → KnowContacts ds → d ≢ e
    → d < length ds → e < length ds → slice_get ds d ≡ Some x
    → (n : NodeValue) → x.node ≡ Some n → contact_for d e < n.store.state.facts.contacts
knows ds d e x known other first second there n node =
    contact_known d e (length ds) n.store.state.facts.contacts other first second
    (known d x n there node)

-- ---- a further link

link_allowed : (d : DeviceValue) (contact : ℕ) → nat_lt d.links LINKS ≡ true
    → ((n : NodeValue) → d.node ≡ Some n → contact < n.store.state.facts.contacts)
    → refuses_link d.node d.links contact ≡ false
link_allowed d contact room known =
    elim d.node as (λ (o : Option NodeValue).
    ((n : NodeValue) → o ≡ Some n → contact < n.store.state.facts.contacts)
    → refuses_link o d.links contact ≡ false) [
      | None ↦ λ _. refl
      | Some n ↦ λ k. or_none (nat_le LINKS d.links) (nat_le n.store.state.facts.contacts contact)
          (lt-leb LINKS d.links (ltb-true d.links LINKS room))
          (lt-leb n.store.state.facts.contacts contact (k n refl))
    ] known

pub attach_at : (contact : ℕ) (device : Option DeviceValue) (d : DeviceValue) → device ≡ Some d
    → refuses_to_attach contact device ≡ refuses_link d.node d.links contact
attach_at contact None d there = absurd (cc there)
attach_at contact (Some x) d there =
    let at : x ≡ d = cc there in ap (λ (y : DeviceValue). refuses_link y.node y.links contact) at

room_allows : (o : Option DeviceValue) (contact : ℕ) → has_room o ≡ true
    → ((x : DeviceValue) → o ≡ Some x → (n : NodeValue) → x.node ≡ Some n
    → contact < n.store.state.facts.contacts)
    → refuses_to_attach contact o ≡ false
room_allows None contact room known = absurd (cc room)
room_allows (Some x) contact room known = link_allowed x contact room (known x refl)

pub attach_allowed : (ds : List DeviceValue) (d e : ℕ) → KnowContacts ds → d ≢ e → d < length ds
    → e < length ds → has_room (slice_get ds d) ≡ true
    → refuses_to_attach (contact_for d e) (slice_get ds d) ≡ false
attach_allowed ds d e known other first second room =
    room_allows (slice_get ds d) (contact_for d e) room (λ x there.
    knows ds d e x known other first second there)

-- ---- a share

pub labelled_made : (o : Option KindAndDescriptor) (kind : ℕ) (descriptor : List ℕ)
    (def : GroupValue) → o ≡ Some (kind, descriptor) → IsMade (group_of kind descriptor) (Ok def)
    → IsMade (group_labelled o) (Ok def)
labelled_made o kind descriptor def is made =
    subst (λ (p : Option KindAndDescriptor). IsMade (group_labelled p) (Ok def)) (sym is) made

is_there : (ds : List DeviceValue) (i : ℕ) → i < length ds → is_none (slice_get ds i) ≡ false
is_there [] i within = absurd (omega arith)
is_there (x ∷ xs) zero within = refl
is_there (x ∷ xs) (suc i) within = is_there xs i (omega arith)

pub share_refused : (ds : List DeviceValue) (d e contact : ℕ) (id : Id) (o : Option GroupValue)
    (def : GroupValue) (x : DeviceValue) → KnowContacts ds → d ≢ e → d < length ds → e < length ds
    → contact ≡ contact_for d e → id ≡ group_id_of def → IsMade o (Ok def) → slice_get ds d ≡ Some x
    → ((d == e) || (is_none (slice_get ds e) || refuses_with lacks o (slice_get ds d)))
    ≡ refuses_level x.node contact id
share_refused ds d e contact id o def x known other first second contact_is id_is made there =
    let level =
    level_lacks x def (contact_for d e) (knows ds d e x known other first second there) in
    let named : refuses_level x.node contact id
    ≡ refuses_level x.node (contact_for d e) (group_id_of def) =
    ap (λ (k : ℕ). refuses_level x.node k id) contact_is
    ∙ ap (λ (i : Id). refuses_level x.node (contact_for d e) i) id_is in
    share_by ds d e (refuses_with lacks o (slice_get ds d)) other (is_there ds e second)
    ∙ (with_both lacks o (slice_get ds d) def x made there ∙ sym (named ∙ level))

-- ---- a link

nots : (a b : Bool) → a ≡ true → b ≡ true → (not a || not b) ≡ false
nots true true first second = refl
nots false b first second = absurd (cc first)
nots true false first second = absurd (cc second)

pub link_open : (d e latency : ℕ) (a b : Bool) → d ≢ e → latency ≢ 0 → a ≡ true → b ≡ true
    → ((d == e) || ((latency == 0) || (not a || not b))) ≡ false
link_open d e latency a b other some first second =
    or_false (d == e) (latency == 0) (not a || not b) (ne_eqb d e other) (ne_eqb latency 0 some)
    ∙ nots a b first second

pub never : {A : Type 0} (r : Result A StepFault) → RefusedBy false r → IsErrOf r fault.Refused → ⊥
never (Ok a) by is = absurd (cc is)
never (Err fault.Refused) by is = by
never (Err fault.Full) by is = absurd (cc is)
never (Err fault.Memory) by is = absurd (cc is)

-- a fault that is not refused is none in any answer
same_unrefused : (A B : Type 0) (e : StepFault) → RefusedBy {A = A} false (Err e)
    → RefusedBy {A = B} false (Err e)
same_unrefused A B fault.Refused by = by
same_unrefused A B fault.Full by = by
same_unrefused A B fault.Memory by = by

pub err_passes : (A B : Type 0) (e : StepFault) (r : Result B StepFault) → IsErrAnd r (λ x. x ≡ e)
    → RefusedBy {A = A} false (Err e) → RefusedBy false r
err_passes A B e (Ok x) is by = absurd is
err_passes A B e (Err x) is by =
    subst (λ (y : StepFault). RefusedBy {A = B} false (Err y)) (sym is) (same_unrefused A B e by)

-- a device of a link may attach, so its fault, which is handed on, is no refusal
pub attach_passes : (ds ds' : List DeviceValue) (d e contact : ℕ) (f : StepFault)
    (r : Result (Unit {0}) StepFault) → KnowContacts ds → d ≢ e → d < length ds → e < length ds
    → has_room (slice_get ds d) ≡ true → contact ≡ contact_for d e
    → slice_get ds' d ≡ slice_get ds d
    → RefusedBy {A = Ran} (refuses_to_attach contact (slice_get ds' d)) (Err f)
    → IsErrAnd r (λ x. x ≡ f) → RefusedBy false r
attach_passes ds ds' d e contact f r known other first second room is same by faulty =
    let allowed : refuses_to_attach contact (slice_get ds' d) ≡ false =
    ap (λ (k : ℕ). refuses_to_attach k (slice_get ds' d)) is
    ∙ (ap (λ (o : Option DeviceValue). refuses_to_attach (contact_for d e) o) same
    ∙ attach_allowed ds d e known other first second room) in
    err_passes Ran (Unit {0}) f r faulty
    (subst (λ (b : Bool). RefusedBy {A = Ran} b (Err f)) allowed by)
