-- The levels that targets leave, one target after the other.
use Rattle.std.proofs.Common.{◌≡◌, ◌≢◌, ◌⊎◌, ℕ, Bool, true, false, cond, List, [], ◌∷◌, ◌++◌, refl}
use Rattle.std.proofs.Common.{sym, ap, ◌∙◌}
use Rattle.std.proofs.Common.{inl, inr, eq-eqb, eqb-true, Some, None, Result, Ok, Err}
use Rattle.std.specs.Prelude.{◌&&◌, if◌then◌else◌, is_some, nat_eq}
use Rattle.sync_rules.specs.declared.entries.Entry.TheVariants as entry
use Rattle.sync_rules.specs.declared.entries.Level.{Level}
use Rattle.sync_rules.specs.declared.entries.Level.TheVariants as level
use Rattle.sync_rules.specs.declared.states.Refused.{Refused}
use Rattle.sync_rules.specs.Clients.{Meaning}
use Rattle.sync_rules.specs.Facts.{Facts, Id, Known, LevelMap, after, after_batches, group_at}
use Rattle.sync_rules.specs.Facts.{known_of, level_at, put_level}
use Rattle.sync_rules.specs.Lists.{same_id}
use Rattle.sync_rules.proofs.Elements.{same_id-is, same_id_itself, same_id_swap}
use Rattle.sync_rules.proofs.ScanLaws.{level_at_set}
use Rattle.sync_rules.proofs.Settling.{after_batches-append}
use Rattle.sync_rules.proofs.Sound.{group_at-push}
use Rattle.sync_store.specs.Refusals.{group_answer}
use Rattle.client_sharing.specs.declared.agreement.Target.{Target}
use Rattle.sharing_commands.specs.declared.deed.Deed.TheVariants as deed
use Rattle.sharing_commands.specs.Agreement.{TargetsSetLevels, last_level}
use Rattle.sharing_commands.specs.Deeds.{all_batches, batches_for, deed_batches, deed_new}
use Rattle.sharing_commands.specs.Deeds.{same_level, target_id}
use Rattle.sharing_commands.proofs.Targets.{added_known}

-- ---- one target

-- what the deed of a target leaves
record OneSet (contact : ℕ) (t : Target) (f g : Facts) : Type 0 where
  others : (other : ℕ) (id : Id) → other ≢ contact
      → level_at g.levels other id ≡ level_at f.levels other id
  level_apart : (id : Id) → same_id (target_id t) id ≡ false
      → level_at g.levels contact id ≡ level_at f.levels contact id
  known_apart : (id : Id) → same_id (target_id t) id ≡ false
      → is_some (group_at g.groups id) ≡ is_some (group_at f.groups id)
  stays : (id : Id) → is_some (group_at f.groups id) ≡ true → is_some (group_at g.groups id) ≡ true
  itself : ((level_at g.levels contact (target_id t) ≡ t.level)
      × (is_some (group_at g.groups (target_id t)) ≡ true))
      ⊎ ((level_at g.levels contact (target_id t) ≡ level_at f.levels contact (target_id t))
      × (is_some (group_at g.groups (target_id t)) ≡ false))

same_level_is : (a b : Level) → same_level a b ≡ true → a ≡ b
same_level_is level.Invisible level.Invisible e = refl
same_level_is level.Visible level.Visible e = refl
same_level_is level.Shared level.Shared e = refl
same_level_is level.Invisible level.Visible e = cc
same_level_is level.Invisible level.Shared e = cc
same_level_is level.Visible level.Invisible e = cc
same_level_is level.Visible level.Shared e = cc
same_level_is level.Shared level.Invisible e = cc
same_level_is level.Shared level.Visible e = cc

-- a number that is another one
other_number : (a b : ℕ) → a ≢ b → nat_eq a b ≡ false
other_number a b apart =
    elim (nat_eq a b) as (λ x. nat_eq a b ≡ x → nat_eq a b ≡ false) [
      | true ↦ λ e. absurd (apart (eqb-true a b e))
      | false ↦ λ e. e
    ] refl

-- a group that is added leaves the others
known_push : (groups : List Known) (x : Known) (id : Id) → same_id x.id id ≡ false
    → is_some (group_at (groups ++ x ∷ []) id) ≡ is_some (group_at groups id)
known_push [] x id apart = ap (λ (b : Bool). is_some (cond b (Some x) None)) apart
known_push (y ∷ groups) x id apart =
    elim (same_id y.id id) as (λ b. is_some (cond b (Some y) (group_at (groups ++ x ∷ []) id))
    ≡ is_some (cond b (Some y) (group_at groups id))) [
      | true ↦ refl
      | false ↦ known_push groups x id apart
    ]

-- setting a level
module _ (levels : LevelMap) (contact : ℕ) (group : Id) (l : Level) where
  set_other : (other : ℕ) (id : Id) → other ≢ contact
      → level_at (put_level levels (contact, group) l) other id ≡ level_at levels other id
  set_other other id apart =
      level_at_set levels other contact id group l
      ∙ ap (λ (b : Bool). cond (b && same_id id group) l (level_at levels other id))
      (other_number other contact apart)

  set_apart : (id : Id) → same_id group id ≡ false
      → level_at (put_level levels (contact, group) l) contact id ≡ level_at levels contact id
  set_apart id apart =
      level_at_set levels contact contact id group l
      ∙ ap (λ (b : Bool). cond (b && same_id id group) l (level_at levels contact id))
      (eq-eqb contact contact refl)
      ∙ ap (λ (b : Bool). cond b l (level_at levels contact id)) (same_id_swap id group ∙ apart)

  set_itself : level_at (put_level levels (contact, group) l) contact group ≡ l
  set_itself =
      level_at_set levels contact contact group group l
      ∙ ap (λ (b : Bool). cond (b && same_id group group) l (level_at levels contact group))
      (eq-eqb contact contact refl)
      ∙ ap (λ (b : Bool). cond b l (level_at levels contact group)) (same_id_itself group)

module _ (clients : Meaning) (contact : ℕ) (f : Facts) (t : Target) where
  -- nothing is done of a group that is not known
  none_set : is_some (group_at f.groups (target_id t)) ≡ false → OneSet contact t f f
  none_set unknown = record {
    others = λ other id apart. refl;
    level_apart = λ id apart. refl;
    known_apart = λ id apart. refl;
    stays = λ id known. known;
    itself = inr (refl, unknown);
  }

  -- the level is the target's
  kept_set : is_some (group_at f.groups (target_id t)) ≡ true → same_level
      (level_at f.levels contact (target_id t)) t.level ≡ true → OneSet contact t f f
  kept_set known same = record {
    others = λ other id apart. refl;
    level_apart = λ id apart. refl;
    known_apart = λ id apart. refl;
    stays = λ id known. known;
    itself = inl (same_level_is (level_at f.levels contact (target_id t)) t.level same, known);
  }

  -- it is set
  level_set : is_some (group_at f.groups (target_id t)) ≡ true → OneSet contact t f
      (after f (entry.Level contact (target_id t) t.level))
  level_set known = record {
    others = set_other f.levels contact (target_id t) t.level;
    level_apart = set_apart f.levels contact (target_id t) t.level;
    known_apart = λ id apart. refl;
    stays = λ id known. known;
    itself = inl (set_itself f.levels contact (target_id t) t.level, known);
  }

  -- its group is added
  group_set : OneSet contact t f
      (after (after f (entry.Group t.def)) (entry.Level contact (target_id t) t.level))
  group_set = record {
    others = set_other f.levels contact (target_id t) t.level;
    level_apart = set_apart f.levels contact (target_id t) t.level;
    known_apart = known_push f.groups (known_of t.def);
    stays = λ id known. ap is_some (group_at-push f.groups (known_of t.def) id known) ∙ known;
    itself = inl (
      set_itself f.levels contact (target_id t) t.level,
      added_known f.groups (known_of t.def),
    );
  }

  by_new : is_some (group_at f.groups (target_id t)) ≡ false → (l : Level)
      (answer : Result Id Refused)
      → OneSet contact t f (after_batches f (deed_batches contact t (deed_new l answer)))
  by_new unknown level.Invisible answer = none_set unknown
  by_new unknown level.Visible (Ok id) = group_set
  by_new unknown level.Visible (Err why) = none_set unknown
  by_new unknown level.Shared (Ok id) = group_set
  by_new unknown level.Shared (Err why) = none_set unknown

  by_same : is_some (group_at f.groups (target_id t)) ≡ true → (b : Bool) → same_level
      (level_at f.levels contact (target_id t)) t.level ≡ b
      → OneSet contact t f
      (after_batches f (deed_batches contact t (if b then deed.Keep else deed.Set)))
  by_same known true same = kept_set known same
  by_same known false same = level_set known

  by_known : (b : Bool) → is_some (group_at f.groups (target_id t)) ≡ b
      → OneSet contact t f
      (after_batches f (deed_batches contact t
      (if b then (if same_level (level_at f.levels contact (target_id t)) t.level then
      deed.Keep else deed.Set)
      else deed_new t.level (group_answer clients f t.def))))
  by_known true known =
      by_same known (same_level (level_at f.levels contact (target_id t)) t.level) refl
  by_known false unknown = by_new unknown t.level (group_answer clients f t.def)

  one_set : OneSet contact t f (after_batches f (batches_for clients contact f t))
  one_set = by_known (is_some (group_at f.groups (target_id t))) refl

-- ---- all of them

false≢true : {P : Type 0} (b : Bool) → b ≡ false → b ≡ true → P
false≢true b not is = absurd (let e : false ≡ true = sym not ∙ is in cc)

module _ (clients : Meaning) (contact : ℕ) where
  abbrev later : Facts → List Target → Facts
  later f ts = after_batches f (all_batches clients contact f ts)

  abbrev next : Facts → Target → Facts
  next f t = after_batches f (batches_for clients contact f t)

  later_is : (f : Facts) (t : Target) (ts : List Target) → later f (t ∷ ts) ≡ later (next f t) ts
  later_is f t ts =
      after_batches-append f (batches_for clients contact f t)
      (all_batches clients contact (next f t) ts)

  abbrev knows : Facts → Id → Bool
  knows f id = is_some (group_at f.groups id)

  still : (f : Facts) (ts : List Target) (id : Id) → knows f id ≡ true
      → knows (later f ts) id ≡ true
  still f [] id known = known
  still f (t ∷ ts) id known =
      ap (λ (g : Facts). knows g id) (later_is f t ts)
      ∙ still (next f t) ts id ((one_set clients contact f t).stays id known)

  -- a group that comes to be known has a target, so that no earlier level counts
  counts_last : (f : Facts) (ts : List Target) (id : Id) (x y : Level) → knows f id ≡ false
      → knows (later f ts) id ≡ true
      → last_level x id ts ≡ last_level y id ts
  counts_last f [] id x y unknown known = false≢true (knows f id) unknown known
  counts_last f (t ∷ ts) id x y unknown known =
      elim (same_id (target_id t) id) as (λ b. same_id (target_id t) id ≡ b
      → last_level (cond b t.level x) id ts ≡ last_level (cond b t.level y) id ts) [
        | true ↦ λ here. refl
        | false ↦ λ apart.
            counts_last (next f t) ts id x y ((one_set clients contact f t).known_apart id apart
            ∙ unknown)
            (sym (ap (λ (g : Facts). knows g id) (later_is f t ts)) ∙ known)
      ] refl

  agreed_all : (f : Facts) (ts : List Target) (id : Id) → knows (later f ts) id ≡ true
      → level_at (later f ts).levels contact id ≡ last_level (level_at f.levels contact id) id ts
  agreed_all f [] id known = refl
  agreed_all f (t ∷ ts) id known =
      let g = next f t in
      let one = one_set clients contact f t in
      let known_then : knows (later g ts) id ≡ true =
      sym (ap (λ (h : Facts). knows h id) (later_is f t ts)) ∙ known in
      let rest : level_at (later f (t ∷ ts)).levels contact id
      ≡ last_level (level_at g.levels contact id) id ts =
      ap (λ (h : Facts). level_at h.levels contact id) (later_is f t ts)
      ∙ agreed_all g ts id known_then in
      elim (same_id (target_id t) id) as (λ b. same_id (target_id t) id ≡ b
      → level_at (later f (t ∷ ts)).levels contact id
      ≡ last_level (cond b t.level (level_at f.levels contact id)) id ts) [
        | false ↦ λ apart. rest ∙ ap (λ (l : Level). last_level l id ts) (one.level_apart id apart)
        | true ↦ λ here.
            let same : target_id t ≡ id = same_id-is (target_id t) id here in
            elim one.itself [
              | inl set ↦ rest ∙ ap (λ (l : Level). last_level l id ts)
                  (ap (level_at g.levels contact) (sym same) ∙ set.0)
              | inr left ↦
                  rest ∙ counts_last g ts id (level_at g.levels contact id) t.level
                  (ap (λ (x : Id). knows g x) (sym same) ∙ left.1) known_then
            ]
      ] refl

  unknown_all : (f : Facts) (ts : List Target) (id : Id) → knows (later f ts) id ≡ false
      → level_at (later f ts).levels contact id ≡ level_at f.levels contact id
  unknown_all f [] id unknown = refl
  unknown_all f (t ∷ ts) id unknown =
      let g = next f t in
      let one = one_set clients contact f t in
      let unknown_then : knows (later g ts) id ≡ false =
      sym (ap (λ (h : Facts). knows h id) (later_is f t ts)) ∙ unknown in
      let rest : level_at (later f (t ∷ ts)).levels contact id ≡ level_at g.levels contact id =
      ap (λ (h : Facts). level_at h.levels contact id) (later_is f t ts)
      ∙ unknown_all g ts id unknown_then in
      elim (same_id (target_id t) id) as (λ b. same_id (target_id t) id ≡ b
      → level_at (later f (t ∷ ts)).levels contact id ≡ level_at f.levels contact id) [
        | false ↦ λ apart. rest ∙ one.level_apart id apart
        | true ↦ λ here.
            let same : target_id t ≡ id = same_id-is (target_id t) id here in
            elim one.itself [
              | inl set ↦
                  let known : knows g id ≡ true = ap (λ (x : Id). knows g x) (sym same) ∙ set.1 in
                  false≢true (knows (later g ts) id) unknown_then (still g ts id known)
              | inr left ↦
                  rest ∙ ap (level_at g.levels contact) (sym same) ∙ left.0
                  ∙ ap (level_at f.levels contact) same
            ]
      ] refl

  others_all : (f : Facts) (ts : List Target) (other : ℕ) (id : Id) → other ≢ contact
      → level_at (later f ts).levels other id ≡ level_at f.levels other id
  others_all f [] other id apart = refl
  others_all f (t ∷ ts) other id apart =
      ap (λ (h : Facts). level_at h.levels other id) (later_is f t ts)
      ∙ others_all (next f t) ts other id apart
      ∙ (one_set clients contact f t).others other id apart

pub all_set : TargetsSetLevels
all_set clients contact f ts = record {
  agreed = agreed_all clients contact f ts;
  unknown = unknown_all clients contact f ts;
  others = others_all clients contact f ts;
}
