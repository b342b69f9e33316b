-- An entry that a loaded journal lets a command plan may follow once the journal is settled:
-- settling keeps contacts, groups and held messages, and delivered messages stay so.
use Rattle.std.proofs.Common.{◌≡◌, ℕ, ◌<◌, Bool, true, false, List, [], ◌∷◌, length, refl}
use Rattle.std.proofs.Common.{sym, ap, ◌∙◌, subst, Option, Some, None, Ok, Err}
use Rattle.std.specs.Prelude.{◌&&◌, ◌||◌, ◌==◌, nat_lt, is_none, is_some, if◌then◌else◌}
use Rattle.std.specs.List.{list_all, list_any}
use Rattle.std.proofs.lemmas.List.Folds.{list_any-append}
use Rattle.std.proofs.lemmas.Bool.{and_parts}
use borrow.Author.Tests.{ltb-true}
use Rattle.sync_rules.specs.Allows.{is_account_kind, is_settling_kind}
use Rattle.sync_ids.specs.declared.message.TheConstants.{MAX_BODY}
use Rattle.sync_ids.specs.Values.{GroupValue, MessageValue}
use Rattle.sync_ids.specs.Ids.{group_id_of, message_id_of}
use Rattle.sync_rules.specs.declared.answers.Judgement.{Judgement}
use Rattle.sync_rules.specs.declared.answers.Judgement.TheVariants as judgement
use Rattle.sync_rules.specs.declared.entries.Entry.{Entry}
use Rattle.sync_rules.specs.declared.entries.Entry.TheVariants as entry
use Rattle.sync_rules.specs.declared.entries.Level.{Level}
use Rattle.sync_rules.specs.declared.states.Refused.TheVariants as refused
use Rattle.sync_rules.specs.Clients.{Meaning}
use Rattle.sync_rules.specs.Lists.{is_among, same_id}
use Rattle.sync_rules.specs.Facts.{Facts, Held, Id, Known, after, after_all, after_batches}
use Rattle.sync_rules.specs.EntryTests.{IsSettlingEntry}
use Rattle.sync_rules.specs.Facts.{group_at, held_at}
use Rattle.sync_rules.specs.Legal.{accepts_served, AllSettling, IsSettling}
use Rattle.sync_rules.specs.Steps.{is_beside}
use Rattle.sync_rules.specs.Steps.{is_served, kind_of_def}
use Rattle.sync_rules.specs.Steps.{verdict_in}
use Rattle.sync_rules.proofs.StepLaws.{next_is_settling}
use Rattle.store_commands.specs.Commit.{MayFollow}
use Rattle.sync_store.specs.Refusals.{judged_answer}
use Rattle.store_commands.specs.Plans.{adds, refuses, body_plan, contact_plan, group_plan}
use Rattle.store_commands.specs.Plans.{level_plan, message_plan, planned, post_plan}

-- ---- what settling keeps

pub record Stays (f g : Facts) : Type 0 where
  pub contacts : g.contacts ≡ f.contacts
  pub groups : g.groups ≡ f.groups
  pub held : g.held ≡ f.held
  pub delivered : (id : Id) → is_among f.delivered id ≡ true → is_among g.delivered id ≡ true

stays_same : (f : Facts) → Stays f f
stays_same f = record { contacts = refl; groups = refl; held = refl; delivered = λ id d. d }

stays_then : (f g h : Facts) → Stays f g → Stays g h → Stays f h
stays_then f g h a b = record {
  contacts = b.contacts ∙ a.contacts;
  groups = b.groups ∙ a.groups;
  held = b.held ∙ a.held;
  delivered = λ id d. b.delivered id (a.delivered id d);
}

stays_entry : (f : Facts) (e : Entry) → IsSettlingEntry e → Stays f (after f e)
stays_entry f (entry.Judged id) kind =
    record { contacts = refl; groups = refl; held = refl; delivered = λ id d. d }
stays_entry f (entry.Invalid id) kind =
    record { contacts = refl; groups = refl; held = refl; delivered = λ id d. d }
stays_entry f (entry.Deliver id) kind = record {
  contacts = refl;
  groups = refl;
  held = refl;
  delivered = λ other d.
      list_any-append (λ x. same_id x other) f.delivered (id ∷ [])
      ∙ ap (λ b. b || list_any (λ x. same_id x other) (id ∷ [])) d;
}
stays_entry f _ kind = absurd kind

stays_batch : (clients : Meaning) (f : Facts) (es : List Entry) → IsSettling clients f es
    → Stays f (after_all f es)
stays_batch clients f [] s = stays_same f
stays_batch clients f (e ∷ es) s =
    stays_then f (after f e) (after_all (after f e) es)
    (stays_entry f e (next_is_settling clients f e s.0))
    (stays_batch clients (after f e) es s.1)

pub stays : (clients : Meaning) (f : Facts) (bs : List (List Entry)) → AllSettling clients f bs
    → Stays f (after_batches f bs)
stays clients f [] s = stays_same f
stays clients f (b ∷ bs) s =
    stays_then f (after_all f b) (after_batches (after_all f b) bs) (stays_batch clients f b s.0.2)
    (stays clients (after_all f b) bs s.1)

-- ---- what is planned may follow

-- a batch of one entry that may follow, and is none of settling or of a brief account
pub record MayAdd (clients : Meaning) (f : Facts) (e : Entry) : Type 0 where
  pub follows : MayFollow clients f (e ∷ [])
  pub kind : is_settling_kind (e ∷ []) ≡ false
  pub plain : is_account_kind (e ∷ []) ≡ false

as_planned : (clients : Meaning) (f : Facts) (d e : Entry) → adds d ≡ adds e → MayAdd clients f d
    → MayAdd clients f e
as_planned clients f d e is may = let same : d ≡ e = cc in subst (MayAdd clients f) same may

pub contact_follows : (clients : Meaning) (f : Facts) (e : Entry) → contact_plan f ≡ adds e
    → MayAdd clients f e
contact_follows clients f e is =
    elim (nat_lt f.contacts 256) as (λ b. nat_lt f.contacts 256 ≡ b
    → planned (λ n. entry.Contact n) (if b then Ok f.contacts else Err refused.TooManyContacts)
    ≡ adds e → MayAdd clients f e) [
      | true ↦ λ few w.
          as_planned clients f (entry.Contact f.contacts) e w (record {
            follows = record {
              follows = λ more settles settled. let s = stays clients f more settles in
                  (refl, settled, (sym s.contacts, ltb-true f.contacts 256 few));
            };
            kind = refl;
            plain = refl;
          })
      | false ↦ λ few w. cc
    ] refl is

some_of : {A : Type 0} (o : Option A) → is_none o ≡ false → is_some o ≡ true
some_of None e = cc
some_of (Some a) e = refl

group_may : (clients : Meaning) (f : Facts) (def : GroupValue)
    → is_none (kind_of_def clients def) ≡ false
    → is_some (group_at f.groups (group_id_of def)) ≡ false
    → nat_lt (length f.groups) 1024 ≡ true
    → MayAdd clients f (entry.Group def)
group_may clients f def known new few = record {
  follows = record {
    follows = λ more settles settled.
        let s = stays clients f more settles in
        let few_then : length f.groups < 1024 = ltb-true (length f.groups) 1024 few in (
          refl,
          settled,
          record {
            known_client = some_of (kind_of_def clients def) known;
            new = ap (λ (gs : List Known). is_some (group_at gs (group_id_of def))) s.groups ∙ new;
            few = subst (λ (gs : List Known). length gs < 1024) (sym s.groups) few_then;
          },
        );
  };
  kind = refl;
  plain = refl;
}

pub group_follows : (clients : Meaning) (f : Facts) (def : GroupValue) (e : Entry)
    → group_plan clients f def ≡ adds e → MayAdd clients f e
group_follows clients f def e is =
    elim (is_none (kind_of_def clients def)) as (λ b. is_none (kind_of_def clients def) ≡ b
    → planned (λ (id : Id). entry.Group def) (if b
    then Err refused.UnknownClient
    else (if is_some (group_at f.groups (group_id_of def))
    then Err refused.GroupExists
    else (if nat_lt (length f.groups) 1024 then Ok (group_id_of def) else Err
    refused.TooManyGroups))) ≡ adds e → MayAdd clients f e) [
      | true ↦ λ known w. cc
      | false ↦ λ known w.
          elim (is_some (group_at f.groups (group_id_of def))) as (λ b.
          is_some (group_at f.groups (group_id_of def)) ≡ b
          → planned (λ (id : Id). entry.Group def) (if b
          then Err refused.GroupExists
          else (if nat_lt (length f.groups) 1024 then Ok (group_id_of def) else Err
          refused.TooManyGroups)) ≡ adds e → MayAdd clients f e) [
            | true ↦ λ new v. cc
            | false ↦ λ new v.
                elim (nat_lt (length f.groups) 1024) as (λ b. nat_lt (length f.groups) 1024 ≡ b
                → planned (λ (id : Id). entry.Group def)
                (if b then Ok (group_id_of def) else Err refused.TooManyGroups) ≡ adds e
                → MayAdd clients f e) [
                  | true ↦ λ few u. as_planned clients f (entry.Group def) e u
                      (group_may clients f def known new few)
                  | false ↦ λ few u. cc
                ] refl v
          ] refl w
    ] refl is

level_may : (clients : Meaning) (f : Facts) (c : ℕ) (g : Id) (l : Level)
    → nat_lt c f.contacts ≡ true → is_some (group_at f.groups g) ≡ true
    → MayAdd clients f (entry.Level c g l)
level_may clients f c g l known there = record {
  follows = record {
    follows = λ more settles settled.
        let s = stays clients f more settles in
        let below : c < f.contacts = ltb-true c f.contacts known in (
          refl,
          settled,
          (
            subst (λ n. c < n) (sym s.contacts) below,
            ap (λ (gs : List Known). is_some (group_at gs g)) s.groups ∙ there,
          ),
        );
  };
  kind = refl;
  plain = refl;
}

pub level_follows : (clients : Meaning) (f : Facts) (c : ℕ) (g : Id) (l : Level) (e : Entry)
    → level_plan f c g l ≡ adds e → MayAdd clients f e
level_follows clients f c g l e is =
    elim (nat_lt c f.contacts) as (λ b. nat_lt c f.contacts ≡ b
    → planned (λ (u : Unit {0}). entry.Level c g l) (if b
    then (if is_some (group_at f.groups g) then Ok tt else Err refused.UnknownGroup)
    else Err refused.UnknownContact) ≡ adds e → MayAdd clients f e) [
      | true ↦ λ known w.
          elim (is_some (group_at f.groups g)) as (λ b. is_some (group_at f.groups g) ≡ b
          → planned (λ (u : Unit {0}). entry.Level c g l)
          (if b then Ok tt else Err refused.UnknownGroup) ≡ adds e → MayAdd clients f e) [
            | true ↦ λ there v. as_planned clients f (entry.Level c g l) e v
                (level_may clients f c g l known there)
            | false ↦ λ there v. cc
          ] refl w
      | false ↦ λ known w. cc
    ] refl is

-- ---- a message

all_still : (p q : Id → Bool) (ids : List Id) → ((id : Id) → p id ≡ true → q id ≡ true)
    → list_all p ids ≡ true → list_all q ids ≡ true
all_still p q [] still all = refl
all_still p q (id ∷ ids) still all =
    let parts = and_parts (p id) (list_all p ids) all in
    ap (λ b. b && list_all q ids) (still id parts.0) ∙ all_still p q ids still parts.1

served_still : (f g : Facts) (group : Id) → Stays f g → (id : Id) → is_served f group id ≡ true
    → is_served g group id ≡ true
served_still f g group s id served =
    let parts = and_parts (is_beside group (held_at f.held id)) (is_among f.delivered id) served in
    let beside : is_beside group (held_at g.held id) ≡ true =
    ap (λ (hs : List Held). is_beside group (held_at hs id)) s.held ∙ parts.0 in
    ap (λ b. b && is_among g.delivered id) beside ∙ s.delivered id parts.1

author_may : (clients : Meaning) (f : Facts) (m : MessageValue) (deps : List Id) (share : Bool)
    → is_some (group_at f.groups m.group) ≡ true
    → is_some (held_at f.held (message_id_of m)) ≡ false
    → verdict_in clients f.groups m ≡ judgement.Accept deps share
    → list_all (is_served f m.group) deps ≡ true → MayAdd clients f (entry.Author m)
author_may clients f m deps share known new verdict served = record {
  follows = record {
    follows = λ more settles settled.
        let g = after_batches f more in
        let s = stays clients f more settles in
        let judged : verdict_in clients g.groups m ≡ judgement.Accept deps share =
        ap (λ (gs : List Known). verdict_in clients gs m) s.groups ∙ verdict in (
          refl,
          settled,
          record {
            known_group = ap (λ (gs : List Known). is_some (group_at gs m.group)) s.groups ∙ known;
            new = ap (λ (hs : List Held). is_some (held_at hs (message_id_of m))) s.held ∙ new;
            accepted = ap (accepts_served g m.group) judged
                ∙ all_still (is_served f m.group) (is_served g m.group) deps
                (served_still f g m.group s) served;
          },
        );
  };
  kind = refl;
  plain = refl;
}

judged_follows : (clients : Meaning) (f : Facts) (m : MessageValue) (answer : Judgement) (e : Entry)
    → is_some (group_at f.groups m.group) ≡ true
    → is_some (held_at f.held (message_id_of m)) ≡ false
    → verdict_in clients f.groups m ≡ answer
    → planned (λ (id : Id). entry.Author m) (judged_answer f m answer) ≡ adds e
    → MayAdd clients f e
judged_follows clients f m judgement.Refuse e known new verdict is = cc
judged_follows clients f m (judgement.Accept deps share) e known new verdict is =
    elim (list_all (is_served f m.group) deps) as (λ b. list_all (is_served f m.group) deps ≡ b
    → planned (λ (id : Id). entry.Author m)
    (if b then Ok (message_id_of m) else Err refused.DependencyNotDelivered) ≡ adds e
    → MayAdd clients f e) [
      | true ↦ λ served w.
          as_planned clients f (entry.Author m) e w
          (author_may clients f m deps share known new verdict served)
      | false ↦ λ served w. cc
    ] refl is

pub message_follows : (clients : Meaning) (f : Facts) (m : MessageValue) (e : Entry)
    → message_plan clients f m ≡ adds e → MayAdd clients f e
message_follows clients f m e is =
    elim (is_some (group_at f.groups m.group)) as (λ b. is_some (group_at f.groups m.group) ≡ b
    → planned (λ (id : Id). entry.Author m) (if b
    then (if is_some (held_at f.held (message_id_of m)) then Err refused.AlreadyHeld else
    judged_answer f m (verdict_in clients f.groups m))
    else Err refused.UnknownGroup) ≡ adds e → MayAdd clients f e) [
      | true ↦ λ known w.
          elim (is_some (held_at f.held (message_id_of m))) as (λ b.
          is_some (held_at f.held (message_id_of m)) ≡ b
          → planned (λ (id : Id). entry.Author m) (if b
          then Err refused.AlreadyHeld
          else judged_answer f m (verdict_in clients f.groups m)) ≡ adds e → MayAdd clients f e) [
            | true ↦ λ new v. cc
            | false ↦ λ new v. judged_follows clients f m (verdict_in clients f.groups m) e known
                new refl v
          ] refl w
      | false ↦ λ known w. cc
    ] refl is

body_follows : (clients : Meaning) (f : Facts) (m : MessageValue) (e : Entry)
    → body_plan clients f m ≡ adds e → MayAdd clients f e
body_follows clients f m e is =
    elim (length m.body == 0) as (λ b.
    (if b then refuses refused.EmptyBody else if nat_lt MAX_BODY (length m.body) then refuses
    refused.BodyTooLong else message_plan clients f m) ≡ adds e → MayAdd clients f e) [
      | true ↦ λ w. cc
      | false ↦ λ w.
          elim (nat_lt MAX_BODY (length m.body)) as (λ b.
          (if b then refuses refused.BodyTooLong else message_plan clients f m) ≡ adds e
          → MayAdd clients f e) [
            | true ↦ λ v. cc
            | false ↦ λ v. message_follows clients f m e v
          ] w
    ] is

pub post_follows : (clients : Meaning) (f : Facts) (m : MessageValue) (e : Entry)
    → post_plan clients f m ≡ adds e → MayAdd clients f e
post_follows clients f m e is =
    elim (is_some (group_at f.groups m.group)) as (λ b.
    (if b then body_plan clients f m else refuses refused.UnknownGroup) ≡ adds e
    → MayAdd clients f e) [
      | true ↦ λ w. body_follows clients f m e w
      | false ↦ λ w. cc
    ] is
