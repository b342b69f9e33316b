-- What `post` does: it reads a body, adds a message of a known group, and settles.
use Rattle.std.specs.Prelude.{◌≡◌, ◌⊎◌, ℕ, ◌+◌, ◌≤◌, if◌then◌else◌, List, length, Option, Some}
use Rattle.std.specs.Prelude.{None}
use Rattle.std.specs.Prelude.{is_some, Result, Ok, Err}
use Rattle.std.specs.Global.{Vec}
use Rattle.std.specs.Io.KnownBytes.{Consumes, IsAtEnd}
use Rattle.outside.specs.Faults.{CountRose}
use Rattle.outside.specs.Outside.{Outside}
use Rattle.outside.specs.Streams.{Stream}
use Rattle.sync_ids.specs.declared.message.TheConstants.{MAX_BODY}
use Rattle.sync_ids.specs.Ids.{message_id_of}
use Rattle.sync_ids.specs.Values.{MessageValue}
use Rattle.sync_rules.specs.declared.entries.Entry.TheVariants as entry
use Rattle.sync_rules.specs.declared.states.Refused.{Refused}
use Rattle.sync_rules.specs.declared.states.Refused.TheVariants as refused
use Rattle.sync_rules.specs.Clients.{Meaning}
use Rattle.sync_rules.specs.Facts.{Facts, Id, group_at}
use Rattle.sync_words.specs.declared.outcome.Outcome.{Outcome}
use Rattle.sync_words.specs.declared.outcome.Outcome.TheVariants as outcome
use Rattle.store_commands.specs.declared.commit.Settling.TheVariants as settling
use Rattle.store_commands.specs.declared.plans.PlannedPost.{PlannedPost}
use Rattle.store_commands.specs.Entries.{HasAdded}
use Rattle.store_commands.specs.Plans.{EntryPlan, adds, refuses, post_plan}
use Rattle.store_commands.specs.Stopping.{InputStops, StopsEarly}

-- the body of a post is the whole input, or its first bytes, one more than a body may have
pub record IsBody (input input' : Stream) (body : List ℕ) : Type 0 where
  pub consumed : Consumes input.bytes input'.bytes body
  pub whole : (IsAtEnd input'.bytes × (length body ≤ MAX_BODY)) ⊎ (length body ≡ MAX_BODY + 1)

-- the message of a group, a time and a body
abbrev pub posted_message : Id → ℕ → List ℕ → MessageValue
posted_message group timestamp body = record { group = group; timestamp = timestamp; body = body }

-- the body was read, and the message that is added, or refused, is of it
pub record PostsBody (clients : Meaning) (group : Id) (timestamp : ℕ) (old new : Outside)
    (input input' out out' : Stream) (came : Outcome) : Type 0 where
  pub body : List ℕ
  pub reads : IsBody input input' body
  pub added : HasAdded clients
      (λ f. post_plan clients f (posted_message group timestamp body)) settling.BeforeAndAfter old
      new
      out out' came

-- the test before the body is read: the group is known
abbrev pub group_test : Id → Facts → Option Refused
group_test group f =
    if is_some (group_at f.groups group) then None else Some refused.UnknownGroup

-- no body was read whole, and nothing was added
abbrev pub PostStops : Meaning → Id → (old new : Outside) → (input input' out out' : Stream)
    → Outcome → Type 0
PostStops clients group old new input input' =
    StopsEarly clients (group_test group) (InputStops ⊥ input input') old new

-- A message is posted, or it is refused; or the command stopped before its body was read.
abbrev pub HasPosted : Meaning → Id → ℕ → (old new : Outside) → (input input' out out' : Stream)
    → Outcome → Type 0
HasPosted clients group timestamp old new input input' out out' outcome.NoStore =
    PostStops clients group old new input input' out out' outcome.NoStore
HasPosted clients group timestamp old new input input' out out' (outcome.Damaged place) =
    PostStops clients group old new input input' out out' (outcome.Damaged place)
HasPosted clients group timestamp old new input input' out out'
    (outcome.Refused refused.UnknownGroup) =
    PostStops clients group old new input input' out out' (outcome.Refused refused.UnknownGroup)
HasPosted clients group timestamp old new input input' out out' (outcome.Refused why) =
    PostsBody clients group timestamp old new input input' out out' (outcome.Refused why)
HasPosted clients group timestamp old new input input' out out' came =
    PostStops clients group old new input input' out out' came
    ⊎ PostsBody clients group timestamp old new input input' out out' came

-- the plan of a post as it is answered, with the message's id, but for want of memory
abbrev pub IsPlanOfPost : EntryPlan → Result PlannedPost Outcome → Type 0
IsPlanOfPost plan (Ok post) =
    (plan ≡ adds (entry.Author post.message)) × (post.id ≡ message_id_of post.message)
IsPlanOfPost plan (Err outcome.Memory) = Unit {0}
IsPlanOfPost plan (Err (outcome.Refused why)) = plan ≡ refuses why
IsPlanOfPost plan (Err _) = ⊥

-- what reading a body answers
abbrev pub IsBodyRead : (input input' : Stream) → Result (Vec ℕ) Outcome → Type 0
IsBodyRead input input' (Ok body) = IsBody input input' body.items
IsBodyRead input input' (Err (outcome.Refused refused.BodyTooLong)) =
    (body : List ℕ) × IsBody input input' body × (length body ≡ MAX_BODY + 1)
IsBodyRead input input' (Err outcome.ReadFault) = CountRose input.faults input'.faults
IsBodyRead input input' (Err outcome.Memory) = Unit {0}
IsBodyRead input input' (Err came) = ⊥
