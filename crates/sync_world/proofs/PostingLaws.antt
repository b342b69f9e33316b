-- The body of a post, and the ids of its parents, one behind the other.
use Rattle.std.proofs.Common.{◌≡◌, ℕ, List, [], ◌∷◌, ◌++◌, refl, sym, ap, ◌∙◌, ◌≤◌, zero, suc}
use Rattle.std.proofs.Common.{length, drop, subst, arith, append-nil, append_assoc, Option, Some}
use Rattle.std.proofs.Common.{None, eqb-true}
use Rattle.std.specs.Prelude.{◌<◌, ◌==◌, ◌&&◌, Bool, true, false, not, if◌then◌else◌, nat_le}
use Rattle.std.specs.Prelude.{Result, Err, IsErrOf}
use Rattle.std.specs.Prelude.{flat_map, option_to_list, slice_get}
use Rattle.std.proofs.lemmas.Bool.{leb-true, lt-leb}
use Rattle.std.proofs.lemmas.List.{length-append}
use Rattle.sync_ids.specs.Ids.{group_id_of}
use Rattle.sync_ids.specs.Values.{GroupValue, MessageValue}
use Rattle.sync_ids.specs.declared.message.MessageFault.{MessageFault}
use Rattle.sync_ids.specs.declared.message.MessageFault.TheVariants as message
use Rattle.sync_ids.specs.declared.message.TheConstants.{MAX_BODY, MAX_TIMESTAMP}
use Rattle.sync_rules.specs.declared.limits.TheConstants.{MAX_DEPS}
use Rattle.world_devices.specs.declared.stop.StepFault.TheVariants as fault
use Rattle.world_scripts.specs.Labels.{KindAndDescriptor, are_made, has_twice, suits_kind}
use Rattle.world_scripts.specs.declared.step.TheConstants.{NOTE, THREAD, FEED}
use Rattle.sync_world.specs.Naming.{IsMade, group_of}
use Rattle.sync_world.specs.Posting.{post_body, has_text, head_of, ids_labelled, message_in}
use Rattle.sync_world.specs.Posting.{message_for}
use Rattle.std.specs.Option.{option_and_then}

-- bytes with these ids behind them
abbrev pub with_ids : List ℕ → List (List ℕ) → List ℕ
with_ids body [] = body
with_ids body (id ∷ ids) = with_ids (body ++ id) ids

pub with_ids_is : (body : List ℕ) (ids : List (List ℕ)) → with_ids body ids ≡ body ++ flat_map
    (λ id. id) ids
with_ids_is body [] = sym (append-nil body)
with_ids_is body (id ∷ ids) =
    with_ids_is (body ++ id) ids ∙ append_assoc body id (flat_map (λ x. x) ids)

-- ids with those of these posts behind them
abbrev pub with_posts : List (List ℕ) → List (List ℕ) → List ℕ → List (List ℕ)
with_posts posts ids [] = ids
with_posts posts ids (label ∷ labels) =
    with_posts posts (ids ++ option_to_list (slice_get posts label)) labels

pub with_posts_is : (posts ids : List (List ℕ)) (labels : List ℕ)
    → with_posts posts ids labels ≡ ids ++ ids_labelled posts labels
with_posts_is posts ids [] = sym (append-nil ids)
with_posts_is posts ids (label ∷ labels) =
    with_posts_is posts (ids ++ option_to_list (slice_get posts label)) labels
    ∙ append_assoc ids (option_to_list (slice_get posts label)) (ids_labelled posts labels)

past : {A : Type 0} (i : ℕ) (xs : List A) → length xs ≤ i → drop i xs ≡ []
past zero [] within = refl
past (suc i) [] within = refl
past zero (x ∷ xs) within = absurd (omega arith)
past (suc i) (x ∷ xs) within = past i xs (omega arith)

-- once all ids were put behind the head, the text makes it the body
pub body_is : (kind i : ℕ) (ids : List (List ℕ)) (body text : List ℕ) → length ids ≤ i
    → with_ids body (drop i ids) ≡ with_ids (head_of kind ids) ids
    → body ++ text ≡ post_body kind ids text
body_is kind i ids body text within same =
    let all : with_ids body (drop i ids) ≡ body =
    ap (λ (xs : List (List ℕ)). with_ids body xs) (past i ids within) in
    ap (λ (bytes : List ℕ). bytes ++ text) (sym all ∙ (same ∙ with_ids_is (head_of kind ids) ids))

pub ids_are : (posts ids : List (List ℕ)) (labels : List ℕ) (i : ℕ) → length labels ≤ i
    → with_posts posts ids (drop i labels) ≡ with_posts posts [] labels → ids
    ≡ ids_labelled posts labels
ids_are posts ids labels i within same =
    let all : with_posts posts ids (drop i labels) ≡ ids =
    ap (λ (xs : List ℕ). with_posts posts ids xs) (past i labels within) in
    sym all ∙ (same ∙ with_posts_is posts [] labels)

-- where there is no such post the ids stay
pub none_comes : (ids : List (List ℕ)) (id : Option (List ℕ)) → id ≡ None
    → ids ≡ ids ++ option_to_list id
none_comes ids None none = sym (append-nil ids)
none_comes ids (Some x) none = absurd (cc none)

-- where there is such a post its id comes behind the ids
pub some_comes : (ids new : List (List ℕ)) (id : Option (List ℕ)) (post : List ℕ) → id ≡ Some post
    → new ≡ ids ++ post ∷ [] → new ≡ ids ++ option_to_list id
some_comes ids new None post there added = absurd (cc there)
some_comes ids new (Some x) post there added =
    let same : post ≡ x = cc in added ∙ ap (λ (y : List ℕ). ids ++ y ∷ []) same

-- ---- at most as many ids as a record may name

one_at_most : (id : Option (List ℕ)) → length (option_to_list id) ≤ 1
one_at_most None = omega arith
one_at_most (Some x) = omega arith

ids_short : (posts : List (List ℕ)) (labels : List ℕ) → length (ids_labelled posts labels)
    ≤ length labels
ids_short posts [] = omega arith
ids_short posts (label ∷ labels) =
    let first = one_at_most (slice_get posts label) in
    let rest = ids_short posts labels in
    let sum = length-append (option_to_list (slice_get posts label)) (ids_labelled posts labels) in
    omega (arith, first, rest, sum)

and_first : (a b : Bool) → (a && b) ≡ true → a ≡ true
and_first true b is = refl
and_first false b is = is

suits_by : (note thread feed twice : Bool) (n : ℕ)
    → (if note then n == 0 else if thread then nat_le n MAX_DEPS
    && twice else if feed then nat_le n 1 else false) ≡ true → n ≤ MAX_DEPS
suits_by true thread feed twice n suits =
    let none : n ≡ 0 = eqb-true n 0 suits in omega (arith, none)
suits_by false true feed twice n suits =
    let few : n ≤ MAX_DEPS = leb-true n MAX_DEPS (and_first (nat_le n MAX_DEPS) twice suits) in few
suits_by false false true twice n suits = let few : n ≤ 1 = leb-true n 1 suits in omega (arith, few)
suits_by false false false twice n suits = absurd (cc suits)

pub ids_fit : (posts ids : List (List ℕ)) (labels : List ℕ) (kind : ℕ)
    → suits_kind kind labels ≡ true → ids ≡ ids_labelled posts labels → length ids ≤ MAX_DEPS
ids_fit posts ids labels kind suits are =
    let few = suits_by (kind == NOTE) (kind == THREAD) (kind == FEED) (not (has_twice labels))
    (length labels) suits in
    let short = ids_short posts labels in
    let same : length ids ≡ length (ids_labelled posts labels) =
    ap (λ (xs : List (List ℕ)). length xs) are in
    omega (arith, few, short, same)

-- ---- a message that is over its limits

and_long : (a b : Bool) → b ≡ false → (a && b) ≡ false
and_long true b is = is
and_long false b is = refl

and_late : (a b : Bool) → a ≡ false → (a && b) ≡ false
and_late true b is = absurd (cc is)
and_late false b is = refl

-- a message with a body is refused for its length or its time alone
pub over : {T : Type 0} (r : Result T MessageFault) (f : MessageFault) (time : ℕ) (body : List ℕ)
    → r ≡ Err f → (IsErrOf r message.EmptyBody → length body ≡ 0)
    → (IsErrOf r message.BodyTooLong → MAX_BODY < length body)
    → (IsErrOf r message.BadTimestamp → MAX_TIMESTAMP < time) → 1 ≤ length body
    → (nat_le time MAX_TIMESTAMP && nat_le (length body) MAX_BODY) ≡ false
over r message.EmptyBody time body is empty long late some =
    let none : length body ≡ 0 = empty is in absurd (omega (arith, none, some))
over r message.BodyTooLong time body is empty long late some =
    and_long (nat_le time MAX_TIMESTAMP) (nat_le (length body) MAX_BODY)
    (lt-leb (length body) MAX_BODY (long is))
over r message.BadTimestamp time body is empty long late some =
    and_late (nat_le time MAX_TIMESTAMP) (nat_le (length body) MAX_BODY)
    (lt-leb time MAX_TIMESTAMP (late is))

none_in : (def : Option GroupValue) (time : ℕ) (body : List ℕ)
    → (nat_le time MAX_TIMESTAMP && nat_le (length body) MAX_BODY) ≡ false
    → message_in def time body ≡ None
none_in None time body is = refl
none_in (Some def) time body is =
    ap (λ (b : Bool). if b then Some (record {
      group = group_id_of def;
      timestamp = time;
      body = body;
    }) else None) is

none_either : (b : Bool) (m : Option MessageValue) → m ≡ None → (if b then m else None) ≡ None
none_either true m is = is
none_either false m is = refl

none_refused : (m : Option MessageValue) → m ≡ None → IsMade m (Err fault.Refused)
none_refused None is = tt
none_refused (Some x) is = absurd (cc is)

-- the message of a post in this group
abbrev message_with : List (List ℕ) → Option KindAndDescriptor → ℕ → List ℕ → List ℕ
    → Option MessageValue
message_with posts group time parents text =
    option_and_then (λ (g : KindAndDescriptor).
    if has_text text && (are_made parents (length posts) && suits_kind g.0 parents)
    then message_in (group_of g.0 g.1) time (post_body g.0 (ids_labelled posts parents) text)
    else None) group

none_with : (group : Option KindAndDescriptor) (posts : List (List ℕ)) (time kind : ℕ)
    (parents text descriptor body : List ℕ) → group ≡ Some (kind, descriptor)
    → body ≡ post_body kind (ids_labelled posts parents) text
    → (nat_le time MAX_TIMESTAMP && nat_le (length body) MAX_BODY) ≡ false
    → message_with posts group time parents text ≡ None
none_with None posts time kind parents text descriptor body there is unfit = absurd (cc there)
none_with (Some g) posts time kind parents text descriptor body there is unfit =
    let of_kind : kind ≡ g.0 = cc there in
    let same : body ≡ post_body g.0 (ids_labelled posts parents) text =
    is ∙ ap (λ (k : ℕ). post_body k (ids_labelled posts parents) text) of_kind in
    let big : (nat_le time MAX_TIMESTAMP
    && nat_le (length (post_body g.0 (ids_labelled posts parents) text)) MAX_BODY) ≡ false =
    subst (λ (bytes : List ℕ). (nat_le time MAX_TIMESTAMP && nat_le (length bytes) MAX_BODY)
    ≡ false) same unfit in
    none_either (has_text text && (are_made parents (length posts) && suits_kind g.0 parents))
    (message_in (group_of g.0 g.1) time (post_body g.0 (ids_labelled posts parents) text))
    (none_in (group_of g.0 g.1) time (post_body g.0 (ids_labelled posts parents) text) big)

-- a post whose message is over its limits is refused
pub unfit_refused : (groups : List KindAndDescriptor) (posts ids : List (List ℕ))
    (group time kind : ℕ) (parents text descriptor body : List ℕ)
    → slice_get groups group ≡ Some (kind, descriptor)
    → ids ≡ ids_labelled posts parents → body ≡ post_body kind ids text
    → (nat_le time MAX_TIMESTAMP && nat_le (length body) MAX_BODY) ≡ false
    → IsMade (message_for groups posts group time parents text) (Err fault.Refused)
unfit_refused groups posts ids group time kind parents text descriptor body there are is unfit =
    none_refused (message_for groups posts group time parents text)
    (none_with (slice_get groups group) posts time kind parents text descriptor body there (is
    ∙ ap (λ (xs : List (List ℕ)). post_body kind xs text) are) unfit)

-- a body is at least as long as its text
pub body_some : (kind : ℕ) (ids : List (List ℕ)) (text body : List ℕ) → body
    ≡ post_body kind ids text
    → 1 ≤ length text → 1 ≤ length body
body_some kind ids text body is some =
    let sum = length-append (head_of kind ids ++ flat_map (λ (id : List ℕ). id) ids) text in
    let same : length body
    ≡ length (head_of kind ids ++ flat_map (λ (id : List ℕ). id) ids ++ text) =
    ap (λ (xs : List ℕ). length xs) is in
    omega (arith, sum, same, some)
