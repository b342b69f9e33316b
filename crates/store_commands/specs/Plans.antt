-- What a command that adds to a journal plans, by the facts of the journal as it was loaded, before
-- it is settled: the test that refuses it, of several that fail the first in order, or the one
-- entry that it adds. The tests are those of a store.
use Rattle.std.specs.Prelude.{ℕ, ◌==◌, nat_lt, if◌then◌else◌, length, is_some, Result, Ok, Err}
use Rattle.sync_ids.specs.declared.message.TheConstants.{MAX_BODY}
use Rattle.sync_ids.specs.Values.{GroupValue, MessageValue}
use Rattle.sync_rules.specs.declared.entries.Entry.{Entry}
use Rattle.sync_rules.specs.declared.entries.Entry.TheVariants as entry
use Rattle.sync_rules.specs.declared.entries.Level.{Level}
use Rattle.sync_rules.specs.declared.states.Refused.{Refused}
use Rattle.sync_rules.specs.declared.states.Refused.TheVariants as refused
use Rattle.sync_rules.specs.Clients.{Meaning}
use Rattle.sync_rules.specs.Facts.{Facts, Id, group_at}
use Rattle.sync_store.specs.Refusals.{contact_answer, group_answer, level_answer, post_answer}

-- what a command plans: it is refused, or adds this entry
pub data EntryPlan : Type 0 where
  refuses : Refused → EntryPlan
  adds : Entry → EntryPlan

-- what a store's test answers, as a plan: to add the entry made of it, or the refusal
abbrev pub planned : {A : Type 0} → (A → Entry) → Result A Refused → EntryPlan
planned entry_of (Ok a) = adds (entry_of a)
planned entry_of (Err why) = refuses why

-- `contact`: the next number
abbrev pub contact_plan : Facts → EntryPlan
contact_plan f = planned (λ n. entry.Contact n) (contact_answer f)

-- `group`
abbrev pub group_plan : Meaning → Facts → GroupValue → EntryPlan
group_plan clients f def = planned (λ (id : Id). entry.Group def) (group_answer clients f def)

-- `share`: the level is set also where it stays the same
abbrev pub level_plan : Facts → ℕ → Id → Level → EntryPlan
level_plan f contact group l =
    planned (λ (u : Unit {0}). entry.Level contact group l) (level_answer f contact group)

-- a message within its limits
abbrev pub message_plan : Meaning → Facts → MessageValue → EntryPlan
message_plan clients f m = planned (λ (id : Id). entry.Author m) (post_answer clients f m)

-- a body of a known group, of 1 to MAX_BODY bytes
abbrev pub body_plan : Meaning → Facts → MessageValue → EntryPlan
body_plan clients f m =
    if length m.body == 0 then refuses refused.EmptyBody
    else if nat_lt MAX_BODY (length m.body) then refuses refused.BodyTooLong
    else message_plan clients f m

-- `post`: the group is known before the body is read
abbrev pub post_plan : Meaning → Facts → MessageValue → EntryPlan
post_plan clients f m =
    if is_some (group_at f.groups m.group) then body_plan clients f m else refuses
    refused.UnknownGroup

-- a plan as it is answered
abbrev pub plan_of : Result Entry Refused → EntryPlan
plan_of (Ok e) = adds e
plan_of (Err why) = refuses why
