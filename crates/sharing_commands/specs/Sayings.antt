-- What `say` adds to a journal: a message of a `sharing` group that says that its author joins a
-- group or leaves it, by the facts of the journal as it was loaded.
use Rattle.std.specs.Prelude.{Bool, false, cond, ◌&&◌, if◌then◌else◌, List, [], ◌∷◌, replicate}
use Rattle.std.specs.Prelude.{Option, Some, None}
use Rattle.sync_ids.specs.Values.{MessageValue}
use Rattle.sync_rules.specs.declared.states.Refused.{Refused}
use Rattle.sync_rules.specs.declared.states.Refused.TheVariants as refused
use Rattle.sync_rules.specs.Clients.{Meaning}
use Rattle.sync_rules.specs.Facts.{Facts, Held, Id, Known, group_at, held_at}
use Rattle.sync_rules.specs.Lists.{same_id}
use Rattle.sync_rules.specs.Sessions.{is_author}
use Rattle.store_commands.specs.Plans.{EntryPlan, refuses, message_plan}
use Rattle.store_commands.specs.Post.{posted_message}
use Rattle.client_sharing.specs.declared.bodies.Saying.{Saying}
use Rattle.client_sharing.specs.Bodies.{saying_body, is_sharing}
use Rattle.sharing_commands.specs.declared.saying.Speech.{Speech}

-- ---- the group in which it is said

-- why a group is refused: it is not known, or it is no `sharing` group
abbrev pub sharing_test : Option Known → Option Refused
sharing_test None = Some refused.UnknownGroup
sharing_test (Some g) = if is_sharing g.def then None else Some refused.NotSharing

-- ---- the previous message of its author

-- a held message of the group that was written here
abbrev pub is_own : Id → Option Held → Bool
is_own group None = false
is_own group (Some h) = is_author h.origin && same_id h.message.group group

-- this message where it is one of the group that was written here, and else an earlier one
abbrev pub own_or : Facts → Id → (earlier id : Id) → Id
own_or f group earlier id = cond (is_own group (held_at f.held id)) id earlier

-- the last such message of a list, and an earlier one where it has none
abbrev pub last_own : Facts → Id → Id → List Id → Id
last_own f group earlier [] = earlier
last_own f group earlier (id ∷ ids) = last_own f group (own_or f group earlier id) ids

-- the delivered message of the group that was written here and delivered last; 32 zero bytes where
-- there is none
abbrev pub previous_own : Facts → Id → Id
previous_own f group = last_own f group (replicate 32 0) f.delivered

-- ---- the message

abbrev pub saying_in : Facts → Speech → Saying
saying_in f s = record { join = s.join; previous = previous_own f s.group; def = s.def }

abbrev pub message_said : Facts → Speech → MessageValue
message_said f s = posted_message s.group s.timestamp (saying_body (saying_in f s))

abbrev pub say_by : Meaning → Facts → Speech → Option Refused → EntryPlan
say_by clients f s (Some why) = refuses why
say_by clients f s None = message_plan clients f (message_said f s)

-- `say`: the group is known and a `sharing` group, and then the tests of a message
abbrev pub say_plan : Meaning → Speech → Facts → EntryPlan
say_plan clients s f = say_by clients f s (sharing_test (group_at f.groups s.group))
