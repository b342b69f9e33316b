-- What the plain functions find by going over entries from the first to the last; the contracts of the public ones speak of
-- the facts alone.
use Rattle.std.specs.Prelude.{ℕ, Bool, true, false, cond, ◌&&◌, nat_eq, List, [], ◌∷◌, Option, Some, None}
use Rattle.std.specs.Option.{option_or}
use Rattle.std.specs.List.{list_any}
use Rattle.sync_ids.specs.Values.{GroupValue, MessageValue}
use Rattle.sync_ids.specs.Ids.{group_id_of, message_id_of}
use Rattle.sync_rules.specs.declared.entries.Entry.{Entry}
use Rattle.sync_rules.specs.declared.entries.Entry.TheVariants as entry
use Rattle.sync_rules.specs.declared.entries.Level.{Level}
use Rattle.sync_rules.specs.Clients.{Meaning}
use Rattle.sync_rules.specs.Lists.{same_id}
use Rattle.sync_rules.specs.Facts.{Facts, Held, Known, Id, authored}
use Rattle.sync_rules.specs.Steps.{step}

-- the message that an entry brings
abbrev pub message_of : Entry → Option MessageValue
message_of (entry.Author m) = Some m
message_of (entry.Arrive s m) = Some m
message_of (entry.Kept from m) = Some m
message_of _ = None

-- the definition that an entry adds
abbrev pub def_of : Entry → Option GroupValue
def_of (entry.Group def) = Some def
def_of _ = None

abbrev pub message_named : Id → Option MessageValue → Option MessageValue
message_named id None = None
message_named id (Some m) = cond (same_id (message_id_of m) id) (Some m) None

abbrev pub def_named : Id → Option GroupValue → Option GroupValue
def_named id None = None
def_named id (Some def) = cond (same_id (group_id_of def) id) (Some def) None

abbrev pub first_of_two : {A : Type 0} → Option A → Option A → Option A
first_of_two None later = later
first_of_two (Some x) later = Some x

-- the first message of an id among entries, and among batches
abbrev pub first_message : Id → List Entry → Option MessageValue
first_message id [] = None
first_message id (e ∷ es) = first_of_two (message_named id (message_of e)) (first_message id es)

abbrev pub first_message_in : Id → List (List Entry) → Option MessageValue
first_message_in id [] = None
first_message_in id (b ∷ bs) = first_of_two (first_message id b) (first_message_in id bs)

-- the first definition of an id among entries, and among batches
abbrev pub first_def : Id → List Entry → Option GroupValue
first_def id [] = None
first_def id (e ∷ es) = first_of_two (def_named id (def_of e)) (first_def id es)

abbrev pub first_def_in : Id → List (List Entry) → Option GroupValue
first_def_in id [] = None
first_def_in id (b ∷ bs) = first_of_two (first_def id b) (first_def_in id bs)

-- whether some entry of some batch passes
abbrev pub any_entry : (Entry → Bool) → List (List Entry) → Bool
any_entry test [] = false
any_entry test (b ∷ bs) = cond (list_any test b) true (any_entry test bs)

-- the level of a pair after one entry, after some, and after some batches
abbrev pub level_then : ℕ → Id → Level → Entry → Level
level_then contact group before (entry.Level c g l) = cond (nat_eq contact c && same_id group g) l before
level_then contact group before _ = before

abbrev pub last_level : ℕ → Id → Level → List Entry → Level
last_level contact group before [] = before
last_level contact group before (e ∷ es) = last_level contact group (level_then contact group before e) es

abbrev pub last_level_in : ℕ → Id → Level → List (List Entry) → Level
last_level_in contact group before [] = before
last_level_in contact group before (b ∷ bs) = last_level_in contact group (last_level contact group before b) bs

-- the step of the message that an entry brings, and the first such step among entries and among batches
abbrev pub step_brought : Meaning → Facts → Option MessageValue → Option Entry
step_brought clients f None = None
step_brought clients f (Some m) = step clients f (authored m)

abbrev pub first_step_of : Meaning → Facts → List Entry → Option Entry
first_step_of clients f [] = None
first_step_of clients f (e ∷ es) = option_or (step_brought clients f (message_of e))
    (first_step_of clients f es)

abbrev pub first_step_in : Meaning → Facts → List (List Entry) → Option Entry
first_step_in clients f [] = None
first_step_in clients f (b ∷ bs) =
    option_or (first_step_of clients f b) (first_step_in clients f bs)

-- what a look-up by id finds
abbrev pub message_at : Option Held → Option MessageValue
message_at None = None
message_at (Some h) = Some h.message

abbrev pub def_at : Option Known → Option GroupValue
def_at None = None
def_at (Some g) = Some g.def

-- where a message of this id is held, by the group of the message found
abbrev pub is_beside_message : Id → Option MessageValue → Bool
is_beside_message group None = false
is_beside_message group (Some m) = same_id m.group group

abbrev pub is_elsewhere_message : Id → Option MessageValue → Bool
is_elsewhere_message group None = false
is_elsewhere_message group (Some m) = cond (same_id m.group group) false true
