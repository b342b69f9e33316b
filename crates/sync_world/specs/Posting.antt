-- The message that a post is.
use Rattle.std.specs.Prelude.{ℕ, ◌==◌, ◌&&◌, Bool, true, false, nat_le, if◌then◌else◌, List, []}
use Rattle.std.specs.Prelude.{◌∷◌, ◌++◌, length, replicate}
use Rattle.std.specs.Prelude.{Option, Some, None, slice_get, option_and_then, option_to_list}
use Rattle.std.specs.List.{flat_map}
use Rattle.sync_ids.specs.Values.{GroupValue, MessageValue}
use Rattle.sync_ids.specs.Ids.{group_id_of}
use Rattle.sync_ids.specs.declared.message.TheConstants.{MAX_BODY, MAX_TIMESTAMP}
use Rattle.world_scripts.specs.Labels.{KindAndDescriptor, are_made, suits_kind}
use Rattle.world_scripts.specs.declared.step.TheConstants.{THREAD, FEED}
use Rattle.sync_world.specs.Naming.{group_of}

-- the ids of the posts of these labels
abbrev pub ids_labelled : List (List ℕ) → List ℕ → List (List ℕ)
ids_labelled posts [] = []
ids_labelled posts (label ∷ labels) = option_to_list (slice_get posts label)
    ++ ids_labelled posts labels

-- what stands in a feed's body where no message is the previous one
abbrev pub zeros_for : List (List ℕ) → List ℕ
zeros_for [] = replicate 32 0
zeros_for (id ∷ ids) = []

-- what stands before the ids: a thread's body begins with their number
abbrev pub head_of : ℕ → List (List ℕ) → List ℕ
head_of kind ids =
    if kind == THREAD then length ids ∷ [] else if kind == FEED then zeros_for ids else []

-- the body of a post of this kind behind these messages
abbrev pub post_body : ℕ → List (List ℕ) → List ℕ → List ℕ
post_body kind ids text = head_of kind ids ++ flat_map (λ id. id) ids ++ text

abbrev pub has_text : List ℕ → Bool
has_text [] = false
has_text (byte ∷ bytes) = true

-- a message of this group, where its time and its body are within their limits
abbrev pub message_in : Option GroupValue → ℕ → List ℕ → Option MessageValue
message_in None time body = None
message_in (Some def) time body =
    if nat_le time MAX_TIMESTAMP && nat_le (length body) MAX_BODY
    then Some (record { group = group_id_of def; timestamp = time; body = body }) else None

-- the message of a post in the group of a label: there is one where the text is not empty, the
-- parents are labels of earlier posts and suit the kind of the group, and the message is within its
-- limits
abbrev pub message_for : List KindAndDescriptor → List (List ℕ) → ℕ → ℕ → List ℕ → List ℕ
    → Option MessageValue
message_for groups posts group time parents text =
    option_and_then (λ g.
    if has_text text && (are_made parents (length posts) && suits_kind g.0 parents)
    then message_in (group_of g.0 g.1) time (post_body g.0 (ids_labelled posts parents) text)
    else None) (slice_get groups group)
