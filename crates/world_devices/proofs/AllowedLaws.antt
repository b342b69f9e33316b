-- What a store lets be added may follow its journal, where that is settled.
use Rattle.std.proofs.Common.{◌≡◌, ℕ, Bool, ◌<◌, true, false, [], ◌∷◌, length, refl, sym, ap, ◌∙◌}
use Rattle.std.proofs.Common.{subst, Option, Some, None, Result, Ok, Err}
use Rattle.std.specs.Prelude.{nat_lt, is_none, is_some, if◌then◌else◌}
use Rattle.std.specs.List.{list_all}
use borrow.Author.Tests.{ltb-true}
use Rattle.sync_ids.specs.Values.{GroupValue, MessageValue}
use Rattle.sync_ids.specs.Ids.{group_id_of, message_id_of}
use Rattle.sync_rules.specs.declared.answers.Judgement.{Judgement}
use Rattle.sync_rules.specs.declared.answers.Judgement.TheVariants as judgement
use Rattle.sync_rules.specs.declared.entries.Entry.TheVariants as entry
use Rattle.sync_rules.specs.declared.entries.Level.{Level}
use Rattle.sync_rules.specs.declared.states.Refused.{Refused}
use Rattle.sync_rules.specs.declared.states.Refused.TheVariants as refused
use Rattle.sync_rules.specs.Clients.{Meaning}
use Rattle.sync_rules.specs.Facts.{Facts, Id, group_at, held_at}
use Rattle.sync_rules.specs.Legal.{Allowed, accepts_served}
use Rattle.sync_rules.specs.Steps.{IsSettled, is_served, kind_of_def, verdict_in}
use Rattle.sync_store.specs.Refusals.{contact_answer, group_answer, judged_answer, level_answer}
use Rattle.sync_store.specs.Refusals.{post_answer}

some_of : {A : Type 0} (o : Option A) → is_none o ≡ false → is_some o ≡ true
some_of None e = cc
some_of (Some a) e = refl

-- what was answered where a test was made
where_so : {A : Type 0} (b : Bool) (r : Result A Refused) (e : Refused) (a : A)
    → (if b then r else Err e) ≡ Ok a → (b ≡ true) × (r ≡ Ok a)
where_so true r e a is = (refl, is)
where_so false r e a is = cc

where_not : {A : Type 0} (b : Bool) (r : Result A Refused) (e : Refused) (a : A)
    → (if b then Err e else r) ≡ Ok a → (b ≡ false) × (r ≡ Ok a)
where_not true r e a is = cc
where_not false r e a is = (refl, is)

pub contact_allowed : (clients : Meaning) (f : Facts) (n : ℕ) → IsSettled clients f
    → contact_answer f ≡ Ok n → Allowed clients f (entry.Contact n ∷ [])
contact_allowed clients f n settled is =
    let few = where_so (nat_lt f.contacts 256) (Ok f.contacts) refused.TooManyContacts n is in
    let same : f.contacts ≡ n =
    (let both : ◌≡◌ {A = Result ℕ Refused} (Ok f.contacts) (Ok n) = few.1 in cc) in
    (refl, settled, (sym same, subst (λ k. k < 256) same (ltb-true f.contacts 256 few.0)))

pub group_allowed : (clients : Meaning) (f : Facts) (def : GroupValue) (id : Id)
    → IsSettled clients f → group_answer clients f def ≡ Ok id
    → Allowed clients f (entry.Group def ∷ [])
group_allowed clients f def id settled is =
    let known = where_not (is_none (kind_of_def clients def)) _ refused.UnknownClient id is in
    let new = where_not (is_some (group_at f.groups (group_id_of def))) _ refused.GroupExists id
    known.1 in
    let few = where_so (nat_lt (length f.groups) 1024) _ refused.TooManyGroups id new.1 in (
      refl,
      settled,
      record {
        known_client = some_of (kind_of_def clients def) known.0;
        new = new.0;
        few = ltb-true (length f.groups) 1024 few.0;
      },
    )

pub level_allowed : (clients : Meaning) (f : Facts) (c : ℕ) (g : Id) (l : Level) (u : Unit {0}) → IsSettled clients f → level_answer f c g ≡ Ok u → Allowed clients f (entry.Level c g l ∷ [])
level_allowed clients f c g l u settled is =
    let known = where_so (nat_lt c f.contacts) _ refused.UnknownContact u is in
    let there = where_so (is_some (group_at f.groups g)) _ refused.UnknownGroup u known.1 in
    (refl, settled, (ltb-true c f.contacts known.0, there.0))

judged_allowed : (clients : Meaning) (f : Facts) (m : MessageValue) (answer : Judgement) (id : Id)
    → IsSettled clients f → is_some (group_at f.groups m.group) ≡ true
    → is_some (held_at f.held (message_id_of m)) ≡ false
    → verdict_in clients f.groups m ≡ answer → judged_answer f m answer ≡ Ok id
    → Allowed clients f (entry.Author m ∷ [])
judged_allowed clients f m judgement.Refuse id settled known new verdict is = cc
judged_allowed clients f m (judgement.Accept deps share) id settled known new verdict is =
    let served = where_so (list_all (is_served f m.group) deps) _ refused.DependencyNotDelivered id
    is in (
      refl,
      settled,
      record {
        known_group = known;
        new = new;
        accepted = ap (accepts_served f m.group) verdict ∙ served.0;
      },
    )

pub author_allowed : (clients : Meaning) (f : Facts) (m : MessageValue) (id : Id)
    → IsSettled clients f → post_answer clients f m ≡ Ok id
    → Allowed clients f (entry.Author m ∷ [])
author_allowed clients f m id settled is =
    let known = where_so (is_some (group_at f.groups m.group)) _ refused.UnknownGroup id is in
    let new = where_not (is_some (held_at f.held (message_id_of m))) _ refused.AlreadyHeld id
    known.1 in
    judged_allowed clients f m (verdict_in clients f.groups m) id settled known.0 new.0 refl new.1
