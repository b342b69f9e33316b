-- What a node that holds a store does for a command that it is asked for: what the command does by
-- itself over the files as they stand.
use Rattle.std.specs.Prelude.{◌≡◌, ℕ, Bool, true, false, List}
use Rattle.outside.specs.Outside.{Outside}
use Rattle.outside.specs.Streams.{Stream, IsIdle}
use Rattle.sync_ids.specs.Values.{GroupValue}
use Rattle.sync_rules.specs.Clients.{Meaning}
use Rattle.sync_rules.specs.Facts.{Facts}
use Rattle.sync_words.specs.declared.outcome.Outcome.{Outcome}
use Rattle.commands.specs.declared.command.Command.{Command}
use Rattle.commands.specs.declared.command.Command.TheVariants as command
use Rattle.store_commands.specs.declared.commit.Settling.{Settling}
use Rattle.store_commands.specs.declared.commit.Settling.TheVariants as settling
use Rattle.store_commands.specs.declared.listing.Listing.TheVariants as listing
use Rattle.store_commands.specs.Compact.{HasCompacted}
use Rattle.store_commands.specs.Entries.{HasAdded}
use Rattle.store_commands.specs.Init.{HasBegun}
use Rattle.store_commands.specs.Looking.{HasLooked}
use Rattle.store_commands.specs.Plans.{contact_plan, group_plan, level_plan}
use Rattle.store_commands.specs.Post.{HasPosted}
use Rattle.store_commands.specs.Shown.{body_shown, listing_shown}
use Rattle.tree_commands.specs.Trees.{tree_shown}
use Rattle.audit_commands.specs.Audits.{HasAudited}
use Rattle.status_commands.specs.Statuses.{HasToldStatus}
use Rattle.sharing_commands.specs.declared.saying.Speech.{Speech}
use Rattle.sharing_commands.specs.Agreeing.{HasAgreed}
use Rattle.sharing_commands.specs.Sayings.{say_plan}
use Rattle.mailbox_commands.specs.declared.sending.Sending.{Sending}
use Rattle.mailbox_commands.specs.Sending.{HasSentMail}
use Rattle.mailbox_commands.specs.Taking.{HasTakenMail}

-- a command of a store that a node does which holds it: not one that uses none, no run of sessions and no other node,
-- which would want the store for themselves, and not `quit`, which ends the node
abbrev pub is_done_by_node : Command → Bool
is_done_by_node (command.Try name descriptor) = false
is_done_by_node command.Records = false
is_done_by_node (command.Sync turns quiet links) = false
is_done_by_node command.Serve = false
is_done_by_node command.Quit = false
is_done_by_node _ = true

-- a command leaves the sessions of the store as they were: not one that writes the journal anew, and not one that begins
-- a session of its own, over a mailbox file
abbrev pub leaves_sessions : Command → Bool
leaves_sessions command.Compact = false
leaves_sessions (command.MailboxIn contact) = false
leaves_sessions (command.MailboxOut contact latency count) = false
leaves_sessions _ = true

-- the group that words describe
abbrev pub group_named : (name : List ℕ) (major : ℕ) (descriptor : List ℕ) → GroupValue
group_named name major descriptor = record { name = name; major = major; descriptor = descriptor }

-- what the words of `say` say
abbrev pub speech_of : (group : List ℕ) (timestamp : ℕ) (join : Bool) → GroupValue → Speech
speech_of group timestamp join def =
    record { group = group; timestamp = timestamp; join = join; def = def }

-- what the words of `mailbox out` ask for
abbrev pub sending_of : (contact latency count : ℕ) → Sending
sending_of contact latency count = record { contact = contact; latency = latency; count = count }

-- What each command came to, of what was outside before and behind it. Those that read no input
-- leave it as it is.
abbrev pub DoesRequest : Meaning → Command → (old new : Outside)
    → (input input' out out' : Stream) → Outcome → Type 0
DoesRequest clients command.Init old new input input' out out' came =
    HasBegun old new out out' came × IsIdle input input'
DoesRequest clients command.Contact old new input input' out out' came =
    HasAdded clients contact_plan settling.Before old new out out' came × IsIdle input input'
DoesRequest clients (command.Group name major descriptor) old new input input' out out' came =
    HasAdded clients (λ f. group_plan clients f (group_named name major descriptor))
    settling.Before old new out out' came × IsIdle input input'
DoesRequest clients (command.Share contact group level) old new input input' out out' came =
    HasAdded clients (λ f. level_plan f contact group level) settling.Before old new out out' came
    × IsIdle input input'
DoesRequest clients (command.Post group timestamp) old new input input' out out' came =
    HasPosted clients group timestamp old new input input' out out' came
DoesRequest clients command.Show old new input input' out out' came =
    HasLooked clients (listing_shown listing.Store) old new out out' came × IsIdle input input'
DoesRequest clients command.Inbox old new input input' out out' came =
    HasLooked clients (listing_shown listing.Inbox) old new out out' came × IsIdle input input'
DoesRequest clients (command.InboxFrom from count) old new input input' out out' came =
    HasLooked clients (listing_shown (listing.InboxFrom from count)) old new out out' came
    × IsIdle input input'
DoesRequest clients (command.Body id) old new input input' out out' came =
    HasLooked clients (body_shown id) old new out out' came × IsIdle input input'
DoesRequest clients (command.Tree group from count) old new input input' out out' came =
    HasLooked clients
    (tree_shown clients (record { group = group; from = from; count = count })) old new out out'
    came
    × IsIdle input input'
DoesRequest clients command.Audit old new input input' out out' came =
    HasAudited clients old new out out' came × IsIdle input input'
DoesRequest clients command.Status old new input input' out out' came =
    HasToldStatus clients old new out out' came × IsIdle input input'
DoesRequest clients (command.Say group timestamp join name major descriptor) old new input input'
    out out' came =
    HasAdded clients
    (say_plan clients (speech_of group timestamp join (group_named name major descriptor)))
    settling.BeforeAndAfter old new out out' came
    × IsIdle input input'
DoesRequest clients (command.Agree contact group) old new input input' out out' came =
    HasAgreed clients contact group old new out out' came × IsIdle input input'
DoesRequest clients command.Compact old new input input' out out' came =
    HasCompacted clients old new out out' came × IsIdle input input'
DoesRequest clients (command.MailboxIn contact) old new input input' out out' came =
    HasTakenMail clients contact old new input input' out out' came
DoesRequest clients (command.MailboxOut contact latency count) old new input input' out out' came =
    HasSentMail clients (sending_of contact latency count) old new out out' came
    × IsIdle input input'
DoesRequest clients _ old new input input' out out' came = ⊥
