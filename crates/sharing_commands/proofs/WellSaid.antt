-- Words in a `sharing` group of a legal journal: what their client says of them, and which messages
-- they rest on.
use Rattle.std.proofs.Common.{◌≡◌, ◌≢◌, ◌⊎◌, ℕ, Bool, true, false, cond, List, [], ◌∷◌, ◌++◌}
use Rattle.std.proofs.Common.{length, replicate, refl, sym, ap, ◌∙◌, subst, inl, inr, Option, None}
use Rattle.std.proofs.Common.{Some, Ok, Err}
use Rattle.std.specs.Prelude.{if◌then◌else◌, is_some}
use Rattle.std.specs.List.{list_all}
use Rattle.std.proofs.lemmas.Bool.{and_from, and_parts, cases_Bool, or_cases, or_left, or_right}
use Rattle.sync_ids.specs.Ids.{message_id_of}
use Rattle.sync_ids.specs.Values.{MessageValue}
use Rattle.sync_ids.proofs.IdLengths.{message_id_whole}
use Rattle.sync_rules.specs.declared.answers.Judgement.{Judgement}
use Rattle.sync_rules.specs.declared.answers.Judgement.TheVariants as judgement
use Rattle.sync_rules.specs.declared.entries.Entry.{Entry}
use Rattle.sync_rules.specs.declared.entries.Entry.TheVariants as entry
use Rattle.sync_rules.specs.declared.states.Refused.{Refused}
use Rattle.sync_rules.specs.declared.states.Refused.TheVariants as refused
use Rattle.sync_rules.specs.Consistency.{HasHeld}
use Rattle.sync_rules.specs.Facts.{Facts, Held, Id, Known, facts, group_at, held_at}
use Rattle.sync_rules.specs.Knowing.{AreServed, IsServedBehind}
use Rattle.sync_rules.specs.Legal.{Legal}
use Rattle.sync_rules.specs.Lists.{is_among, same_id}
use Rattle.sync_rules.specs.Sessions.{is_author}
use Rattle.sync_rules.specs.Steps.{is_beside, is_served, verdict_by, verdict_for, verdict_in}
use Rattle.sync_rules.proofs.ConsistencyLaws.{legal_consistent}
use Rattle.sync_rules.proofs.Elements.{same_id-is, same_id_itself}
use Rattle.sync_rules.proofs.ServedLaws.{delivers_in_order}
use Rattle.sync_store.specs.Refusals.{judged_answer}
use Rattle.entry_codec.specs.Spelling.{IsDef}
use Rattle.client_basic.specs.Bodies.{bundle_kind, previous_of}
use Rattle.client_sharing.specs.Bodies.{SayingsAreSpelled, is_sharing, saying_of}
use Rattle.client_sharing.specs.Bodies.{saying_verdict, sharing_meaning, sharing_name}
use Rattle.client_sharing.specs.declared.bodies.Saying.{Saying}
use Rattle.store_commands.specs.Plans.{EntryPlan, adds, planned, refuses}
use Rattle.sharing_commands.specs.SayingLaws.{IsSaidWell, LegalSpeaksWell}
use Rattle.sharing_commands.specs.Sayings.{is_own, last_own, message_said, own_or, previous_own}
use Rattle.sharing_commands.specs.Sayings.{say_by, say_plan, saying_in, sharing_test}
use Rattle.sharing_commands.specs.declared.saying.Speech.{Speech}

-- ---- what the client of the group says of a message

verdict_of_group : (o : Option Known) (m : MessageValue) → sharing_test o ≡ None
    → verdict_for sharing_meaning o m ≡ saying_verdict (saying_of m.body)
verdict_of_group None m is = cc
verdict_of_group (Some g) m is =
    elim (is_sharing g.def) as (λ (b : Bool).
    (if b then None else Some refused.NotSharing) ≡ None
    → verdict_by sharing_meaning (cond b (Some 3) (bundle_kind g.def.name g.def.major)) m
    ≡ saying_verdict (saying_of m.body)) [
      | true ↦ λ known. refl
      | false ↦ λ none. cc
    ] is

-- ---- the message before

-- no message, or a delivered one of the group
abbrev IsBefore : Facts → Id → Id → Type 0
IsBefore f group id =
    (id ≡ replicate 32 0)
    ⊎ ((is_own group (held_at f.held id) ≡ true) × (is_among f.delivered id ≡ true))

last_before : (f : Facts) (group earlier : Id) (ids : List Id)
    → ((id : Id) → is_among ids id ≡ true → is_among f.delivered id ≡ true)
    → IsBefore f group earlier → IsBefore f group (last_own f group earlier ids)
last_before f group earlier [] within before = before
last_before f group earlier (id ∷ ids) within before =
    last_before f group (own_or f group earlier id) ids
    (λ other among. within other (or_right (same_id id other) (is_among ids other) among))
    (elim (is_own group (held_at f.held id)) as (λ (b : Bool).
    is_own group (held_at f.held id) ≡ b → IsBefore f group (cond b id earlier)) [
      | true ↦ λ own.
          inr (own, within id (or_left (same_id id id) (is_among ids id) (same_id_itself id)))
      | false ↦ λ other. before
    ] refl)

previous_before : (f : Facts) (group : Id) → IsBefore f group (previous_own f group)
previous_before f group =
    last_before f group (replicate 32 0) f.delivered (λ id among. among) (inl refl)

-- it is 32 bytes long
held_whole : (f : Facts) (group id : Id) → HasHeld f → (o : Option Held) → held_at f.held id ≡ o
    → is_own group o ≡ true → length id ≡ 32
held_whole f group id has None at own = cc
held_whole f group id has (Some h) at own =
    ap (λ (x : Id). length x) (has.each id h at).is_id ∙ message_id_whole h.message

before_whole : (f : Facts) (group id : Id) → HasHeld f → IsBefore f group id → length id ≡ 32
before_whole f group id has before = elim before [
  | inl none ↦ ap (λ (x : Id). length x) none
  | inr own ↦ held_whole f group id has (held_at f.held id) refl own.0
]

-- it is served
own_beside : (group : Id) (o : Option Held) → is_own group o ≡ true → is_beside group o ≡ true
own_beside group None own = cc
own_beside group (Some h) own =
    (and_parts (is_author h.origin) (same_id h.message.group group) own).1

before_served : (f : Facts) (group id : Id) → IsBefore f group id
    → list_all (is_served f group) (previous_of id) ≡ true
before_served f group id before =
    elim (same_id id (replicate 32 0)) as (λ (b : Bool). same_id id (replicate 32 0) ≡ b
    → list_all (is_served f group) (cond b [] (id ∷ [])) ≡ true) [
      | true ↦ λ none. refl
      | false ↦ λ some. elim before [
        | inl none ↦
            let same : same_id id (replicate 32 0) ≡ true =
            ap (λ (x : Id). same_id x (replicate 32 0)) none ∙ same_id_itself (replicate 32 0) in
            cc
        | inr own ↦
            let one : is_served f group id ≡ true =
            and_from (is_beside group (held_at f.held id)) (is_among f.delivered id)
            (own_beside group (held_at f.held id) own.0) own.1 in
            and_from (is_served f group id) true one refl
      ]
    ] refl

-- ---- a word that is said

-- what a store answers, by what the client says of the message
abbrev answered : Facts → MessageValue → (known held : Bool) → Judgement → EntryPlan
answered f m known held said =
    planned (λ (id : Id). entry.Author m)
    (if known then (if held then Err refused.AlreadyHeld else judged_answer f m said) else Err
    refused.UnknownGroup)

-- a message whose client refuses it is no dependency's fault
refused_so : (f : Facts) (m : MessageValue) (known held : Bool)
    → answered f m known held judgement.Refuse ≡ refuses refused.DependencyNotDelivered → ⊥
refused_so f m true true is = cc
refused_so f m true false is = cc
refused_so f m false held is = cc

-- one that its client accepts, and whose dependencies are served, is no invalid one
accepted_so : (f : Facts) (m : MessageValue) (deps : List Id) (share : Bool) (known held : Bool)
    (why : Refused)
    → list_all (is_served f m.group) deps ≡ true
    → (why ≡ refused.InvalidPost) ⊎ (why ≡ refused.DependencyNotDelivered)
    → answered f m known held (judgement.Accept deps share) ≡ refuses why → ⊥
accepted_so f m deps share true true why served is same = elim is [ inl a ↦ cc | inr b ↦ cc ]
accepted_so f m deps share true false why served is same =
    let ok : judged_answer f m (judgement.Accept deps share) ≡ Ok (message_id_of m) =
    ap (λ (b : Bool). if b then Ok (message_id_of m) else Err refused.DependencyNotDelivered)
    served in
    let both : adds (entry.Author m) ≡ refuses why =
    sym (ap (planned (λ (id : Id). entry.Author m)) ok) ∙ same in
    cc
accepted_so f m deps share false held why served is same = elim is [ inl a ↦ cc | inr b ↦ cc ]

module _ (spelled : SayingsAreSpelled) (j : List (List Entry)) (legal : Legal sharing_meaning j)
    (group : Id)
    (test : sharing_test (group_at (facts j).groups group) ≡ None) where
  module _ (s : Speech) (within : IsDef s.def) (here : s.group ≡ group) where
    abbrev f : Facts
    f = facts j

    abbrev says : Saying
    says = saying_in f s

    abbrev m : MessageValue
    m = message_said f s

    test_here : sharing_test (group_at f.groups s.group) ≡ None
    test_here = ap (λ (g : Id). sharing_test (group_at f.groups g)) here ∙ test

    before : IsBefore f s.group (previous_own f s.group)
    before = previous_before f s.group

    said_is : saying_of m.body ≡ Some says
    said_is =
        (spelled m.body says).1 (record {
          whole_id =
              before_whole f s.group (previous_own f s.group)
              (legal_consistent sharing_meaning j legal).held before;
          within = within;
          is = refl;
        })

    verdict_is : verdict_in sharing_meaning f.groups m
        ≡ cond (same_id s.def.name sharing_name) judgement.Refuse
        (judgement.Accept (previous_of (previous_own f s.group)) false)
    verdict_is =
        verdict_of_group (group_at f.groups s.group) m test_here ∙ ap saying_verdict said_is

    plan_is : say_plan sharing_meaning s f
        ≡ answered f m (is_some (group_at f.groups s.group))
        (is_some (held_at f.held (message_id_of m)))
        (cond (same_id s.def.name sharing_name) judgement.Refuse
        (judgement.Accept (previous_of (previous_own f s.group)) false))
    plan_is =
        ap (say_by sharing_meaning f s) test_here
        ∙ ap (answered f m (is_some (group_at f.groups s.group))
        (is_some (held_at f.held (message_id_of m)))) verdict_is

    -- where it speaks of another group neither refusal may come
    other_so : (why : Refused)
        → (why ≡ refused.InvalidPost) ⊎ (why ≡ refused.DependencyNotDelivered)
        → same_id s.def.name sharing_name ≡ false → say_plan sharing_meaning s f ≡ refuses why → ⊥
    other_so why is other same =
        accepted_so f m (previous_of (previous_own f s.group)) false
        (is_some (group_at f.groups s.group)) (is_some (held_at f.held (message_id_of m))) why
        (before_served f s.group (previous_own f s.group) before) is
        (sym (ap (λ (b : Bool). answered f m (is_some (group_at f.groups s.group))
        (is_some (held_at f.held (message_id_of m)))
        (cond b judgement.Refuse (judgement.Accept (previous_of (previous_own f s.group)) false)))
        other) ∙ sym plan_is ∙ same)

    said_well : IsSaidWell f s
    said_well = record {
      valid = λ same. elim (cases_Bool (same_id s.def.name sharing_name)) [
        | inl named ↦ same_id-is s.def.name sharing_name named
        | inr other ↦ absurd (other_so refused.InvalidPost (inl refl) other same)
      ];
      served = λ same. elim (cases_Bool (same_id s.def.name sharing_name)) [
        | inl named ↦
            refused_so f m (is_some (group_at f.groups s.group))
            (is_some (held_at f.held (message_id_of m)))
            (sym (ap (λ (b : Bool). answered f m (is_some (group_at f.groups s.group))
            (is_some (held_at f.held (message_id_of m)))
            (cond b judgement.Refuse
            (judgement.Accept (previous_of (previous_own f s.group)) false))) named)
            ∙ sym plan_is ∙ same)
        | inr other ↦ other_so refused.DependencyNotDelivered (inr refl) other same
      ];
    }

-- ---- the words that were delivered

-- a saying that its client accepts
accepted_word : (o : Option Saying) (deps : List Id) (share : Bool)
    → saying_verdict o ≡ judgement.Accept deps share
    → (says : Saying) × (o ≡ Some says) × (says.def.name ≢ sharing_name)
accepted_word None deps share is = cc
accepted_word (Some s) deps share is = (
  s,
  refl,
  λ same.
      let named : same_id s.def.name sharing_name ≡ true =
      ap (λ (n : List ℕ). same_id n sharing_name) same ∙ same_id_itself sharing_name in
      let refuses_it : saying_verdict (Some s) ≡ judgement.Refuse =
      ap (λ (b : Bool).
      cond b judgement.Refuse (judgement.Accept (previous_of s.previous) false)) named in
      let both : judgement.Refuse ≡ judgement.Accept deps share = sym refuses_it ∙ is in
      cc,
)

served_at : (groups : List Known) (held : List Held) (before ids : List Id) (id : Id)
    → AreServed sharing_meaning groups held before ids → is_among ids id ≡ true
    → (some : List Id) × IsServedBehind sharing_meaning groups held some id
served_at groups held before [] id served among = cc
served_at groups held before (x ∷ ids) id served among =
    elim (or_cases (same_id x id) (is_among ids id) among) [
      | inl here ↦ (
        before,
        subst (IsServedBehind sharing_meaning groups held before) (same_id-is x id here) served.0,
      )
      | inr later ↦ served_at groups held (before ++ x ∷ []) ids id served.1 later
    ]

pub legal_speaks_well : SayingsAreSpelled → LegalSpeaksWell
legal_speaks_well spelled j legal group test = record {
  said = λ s here within. said_well spelled j legal group test s within here;
  words = λ id h among at here.
      let served =
      (served_at (facts j).groups (facts j).held [] (facts j).delivered id
      (delivers_in_order sharing_meaning j legal) among).1 in
      let both : Some served.message ≡ Some h = sym served.found ∙ at in
      let same : served.message ≡ h = cc in
      let accepted : verdict_in sharing_meaning (facts j).groups h.message
      ≡ judgement.Accept served.deps served.share =
      ap (λ (x : Held). verdict_in sharing_meaning (facts j).groups x.message) (sym same)
      ∙ served.accepted in
      let test_here : sharing_test (group_at (facts j).groups h.message.group) ≡ None =
      ap (λ (g : Id). sharing_test (group_at (facts j).groups g)) here ∙ test in
      let word =
      accepted_word (saying_of h.message.body) served.deps served.share
      (sym (verdict_of_group (group_at (facts j).groups h.message.group) h.message test_here)
      ∙ accepted) in
      record { says = word.0; is = word.1; other = word.2 };
}
