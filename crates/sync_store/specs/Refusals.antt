-- What may be added to a store, in the order in which it is refused.
use Rattle.std.specs.Prelude.{◌≡◌, ℕ, is_none, is_some, nat_lt, length, if◌then◌else◌, Result, Ok}
use Rattle.std.specs.Prelude.{Err}
use Rattle.std.specs.List.{list_all}
use Rattle.sync_ids.specs.Values.{GroupValue, MessageValue}
use Rattle.sync_ids.specs.Ids.{group_id_of, message_id_of}
use Rattle.sync_rules.specs.declared.answers.Judgement.{Judgement}
use Rattle.sync_rules.specs.declared.answers.Judgement.TheVariants as judgement
use Rattle.sync_rules.specs.declared.states.Refused.{Refused}
use Rattle.sync_rules.specs.declared.states.Refused.TheVariants as refused
use Rattle.sync_rules.specs.declared.limits.TheConstants.{MAX_CONTACTS, MAX_GROUPS}
use Rattle.sync_rules.specs.Clients.{Meaning}
use Rattle.sync_rules.specs.Facts.{Facts, Id, group_at, held_at}
use Rattle.sync_rules.specs.Steps.{is_served, kind_of_def, verdict_in}
use Rattle.sync_store.specs.declared.fault.PostFault.{PostFault}
use Rattle.sync_store.specs.declared.fault.PostFault.TheVariants as post

-- the number of a further contact; there are at most MAX_CONTACTS
abbrev pub contact_answer : Facts → Result ℕ Refused
contact_answer f =
    if nat_lt f.contacts MAX_CONTACTS then Ok f.contacts else Err refused.TooManyContacts

-- a further group: its client is known, its id is new, and fewer than MAX_GROUPS are known
abbrev pub group_answer : Meaning → Facts → GroupValue → Result Id Refused
group_answer clients f def =
    if is_none (kind_of_def clients def)
    then Err refused.UnknownClient
    else (if is_some (group_at f.groups (group_id_of def))
    then Err refused.GroupExists
    else (if nat_lt (length f.groups) MAX_GROUPS then Ok (group_id_of def) else Err
    refused.TooManyGroups))

-- a level of a group for a contact: both are known
abbrev pub level_answer : Facts → ℕ → Id → Result (Unit {0}) Refused
level_answer f contact group =
    if nat_lt contact f.contacts
    then (if is_some (group_at f.groups group) then Ok tt else Err refused.UnknownGroup)
    else Err refused.UnknownContact

-- a message of which its client said this: it accepts it, and each dependency is a delivered
-- message of the same group
abbrev pub judged_answer : Facts → MessageValue → Judgement → Result Id Refused
judged_answer f m judgement.Refuse = Err refused.InvalidPost
judged_answer f m (judgement.Accept deps share) =
    if list_all (is_served f m.group) deps then Ok (message_id_of m) else Err
    refused.DependencyNotDelivered

-- a message that is written here: its group is known, it is not held, and its client and its
-- dependencies let it
abbrev pub post_answer : Meaning → Facts → MessageValue → Result Id Refused
post_answer clients f m =
    if is_some (group_at f.groups m.group)
    then (if is_some (held_at f.held (message_id_of m)) then Err refused.AlreadyHeld else
    judged_answer f m (verdict_in clients f.groups m))
    else Err refused.UnknownGroup

-- the answer, but for want of memory
abbrev pub IsPost : Result Id Refused → Result Id PostFault → Type 0
IsPost expected (Ok id) = expected ≡ Ok id
IsPost expected (Err post.Memory) = Unit {0}
IsPost expected (Err (post.Refused why)) = expected ≡ Err why
