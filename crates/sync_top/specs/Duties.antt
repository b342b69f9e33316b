-- What each command of a store is to come to, and what serves it.
use Rattle.std.specs.Prelude.{◌≡◌, ℕ, false, List, Option, Some, None}
use Rattle.outside.specs.Files.{Two, File}
use Rattle.outside.specs.Host.{ReadsClock}
use Rattle.outside.specs.Outside.{Outside}
use Rattle.outside.specs.Streams.{Stream}
use Rattle.sync_rules.specs.Clients.{Meaning}
use Rattle.sync_store.specs.Begin.{has_open}
use Rattle.sync_words.specs.declared.outcome.Outcome.{Outcome}
use Rattle.commands.specs.declared.command.Command.{Command}
use Rattle.commands.specs.declared.command.Command.TheVariants as command
use Rattle.store_commands.specs.declared.listing.Listing.TheVariants as listing
use Rattle.store_commands.specs.Plans.{contact_plan, group_plan, level_plan}
use Rattle.store_commands.specs.Shown.{body_shown, listing_shown}
use Rattle.tree_commands.specs.Trees.{tree_shown}
use Rattle.sharing_commands.specs.Agreeing.{agreement}
use Rattle.sharing_commands.specs.Agreement.{agree_test}
use Rattle.sharing_commands.specs.Sayings.{say_plan}
use Rattle.mailbox_commands.specs.declared.sending.Sending.{Sending}
use Rattle.store_commands.specs.Errands.{HasErrandRoom}
use Rattle.mailbox_commands.specs.Tests.{mailbox_test}
use Rattle.mailbox_commands.specs.Sending.{out_errand}
use Rattle.mailbox_commands.specs.Taking.{IsMail, in_errand}
use Rattle.sync_run.specs.Ran.{HasRun}
use Rattle.stream_commands.specs.Streams.{UntouchedStreams}
use Rattle.node_requests.specs.Requests.{DoesRequest, group_named, sending_of, speech_of}
use Rattle.sync_top.specs.Serving.{MayAddPlanned, MayAudit, MayCompact, MayPost}
use Rattle.sync_top.specs.Serving.{MayShow, MaySync, MayDoWork}

-- ---- what a command comes to

-- Sessions run over links; and else what a node that holds the store does for the command over the
-- same files. `try`, `records` and `quit` are about no store, and of a node that serves its life is
-- told.
abbrev pub comes_of : Meaning → Command → (old new : Outside) → (input input' out out' : Stream)
    → Outcome → Type 0
comes_of clients (command.Sync turns quiet links) old new input input' out out' came =
    HasRun clients (record { turns = turns; quiet = quiet }) links old new came
    × UntouchedStreams input input' out out'
comes_of clients asked old new input input' out out' came =
    DoesRequest clients asked old new input input' out out' came

-- ---- what serves it

-- no header is open in the files
abbrev pub HasNoHeader : Option (Two File) → Type 0
HasNoHeader files = (two : Two File) × (files ≡ Some two) × (has_open two ≡ false)

-- whatever the input is, its records may be taken
abbrev pub MayTakeMail : Meaning → (contact : ℕ) → (input input' : Stream) → Option (Two File)
    → Type 0
MayTakeMail clients contact input input' files =
    MayDoWork clients (λ f. mailbox_test f contact ≡ None) (λ j. (bytes : List ℕ)
    → IsMail input input' bytes → HasErrandRoom clients (in_errand clients contact bytes) j) files

-- whatever the clock says, what is due then may be written
abbrev pub MaySendMail : Meaning → Sending → (old new : Outside) → Type 0
MaySendMail clients asked old new =
    MayDoWork clients (λ f. mailbox_test f asked.contact ≡ None) (λ j. (now : ℕ)
    → ReadsClock now old.links new.links → HasErrandRoom clients (out_errand clients asked now) j)
    old.files

-- by the command
abbrev pub serves_of : Meaning → Command → (old new : Outside) → (input input' : Stream) → Type 0
serves_of clients command.Init old new input input' = HasNoHeader old.files
serves_of clients command.Contact old new input input' =
    MayAddPlanned clients contact_plan old.files
serves_of clients (command.Group name major descriptor) old new input input' =
    MayAddPlanned clients (λ f. group_plan clients f (group_named name major descriptor)) old.files
serves_of clients (command.Share contact group level) old new input input' =
    MayAddPlanned clients (λ f. level_plan f contact group level) old.files
serves_of clients (command.Post group timestamp) old new input input' =
    MayPost clients group timestamp old.files input input'
serves_of clients command.Show old new input input' =
    MayShow clients (listing_shown listing.Store) old.files
serves_of clients command.Inbox old new input input' =
    MayShow clients (listing_shown listing.Inbox) old.files
serves_of clients (command.InboxFrom from count) old new input input' =
    MayShow clients (listing_shown (listing.InboxFrom from count)) old.files
serves_of clients (command.Body id) old new input input' =
    MayShow clients (body_shown id) old.files
serves_of clients (command.Tree group from count) old new input input' =
    MayShow clients (tree_shown clients (record { group = group; from = from; count = count }))
    old.files
serves_of clients command.Audit old new input input' = MayAudit clients old.files
serves_of clients command.Status old new input input' = MayAudit clients old.files
serves_of clients (command.Say group timestamp join name major descriptor) old new input input' =
    MayAddPlanned clients
    (say_plan clients (speech_of group timestamp join (group_named name major descriptor)))
    old.files
serves_of clients (command.Agree contact group) old new input input' =
    MayDoWork clients (λ f. agree_test f contact group ≡ None)
    (HasErrandRoom clients (agreement clients contact group)) old.files
serves_of clients command.Compact old new input input' = MayCompact clients old.files
serves_of clients (command.MailboxIn contact) old new input input' =
    MayTakeMail clients contact input input' old.files
serves_of clients (command.MailboxOut contact latency count) old new input input' =
    MaySendMail clients (sending_of contact latency count) old new
serves_of clients (command.Sync turns quiet links) old new input input' =
    MaySync clients (record { turns = turns; quiet = quiet }) links old new
serves_of clients _ old new input input' = ⊥
