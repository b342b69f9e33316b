-- The journals on the way of requests.
use Rattle.std.specs.Prelude.{◌≡◌, ◌⊎◌, ℕ, List, [], ◌∷◌}
use Rattle.outside.specs.Files.{Two}
use Rattle.outside.specs.Streams.{Stream}
use Rattle.request_frames.specs.Requests.{Request}
use Rattle.sync_rules.specs.Clients.{Meaning}
use Rattle.sync_rules.specs.Facts.{Journal, facts}
use Rattle.sync_rules.specs.Hearing.{SettlesJournal}
use Rattle.entry_codec.specs.Standing.{journal}
use Rattle.file_standing.specs.Standing.{stands}
use Rattle.commands.specs.Reading.{asks}
use Rattle.commands.specs.Reading.Asked.{Do}
use Rattle.commands.specs.declared.command.Command.{Command}
use Rattle.commands.specs.declared.command.Command.TheVariants as command
use Rattle.store_commands.specs.declared.commit.Settling.TheVariants as settling
use Rattle.store_commands.specs.Commit.{OnceSettled}
use Rattle.store_commands.specs.Compact.{compacting}
use Rattle.store_commands.specs.Entries.{adding}
use Rattle.store_commands.specs.Errands.{running}
use Rattle.store_commands.specs.Plans.{contact_plan, group_plan, level_plan, post_plan}
use Rattle.store_commands.specs.Post.{IsBody, posted_message}
use Rattle.sharing_commands.specs.Agreeing.{agreement}
use Rattle.sharing_commands.specs.Sayings.{say_plan}
use Rattle.mailbox_commands.specs.Sending.{out_errand}
use Rattle.mailbox_commands.specs.Taking.{IsMail, in_errand}
use Rattle.node_service.specs.Words.{AreWords, parts_of}
use Rattle.node_requests.specs.Requests.{group_named, sending_of, speech_of}
use Rattle.node_life.specs.Inputs.{ReadsGiven}

-- ---- one request

-- these bytes were read of the input of a request
pub record ReadsOf (request : Request) (reads : (input input' : Stream) → Type 0) : Type 0 where
  pub input : Stream
  pub input' : Stream
  pub given : ReadsGiven request.size request.input input input'
  pub has : reads input input'

-- a settled journal goes on by some of what a command asks for; those that only look, and those that
-- use no store, ask for nothing
abbrev pub GoesOnBy : Meaning → Command → Request → (settled whole : Journal) → Type 0
GoesOnBy clients command.Contact request j whole =
    (adding clients settling.Before (contact_plan (facts j))).goes_on j whole
GoesOnBy clients (command.Group name major descriptor) request j whole =
    (adding clients settling.Before
    (group_plan clients (facts j) (group_named name major descriptor))).goes_on j whole
GoesOnBy clients (command.Share contact group level) request j whole =
    (adding clients settling.Before (level_plan (facts j) contact group level)).goes_on j whole
GoesOnBy clients (command.Post group timestamp) request j whole =
    (body : List ℕ) × ReadsOf request (λ input input'. IsBody input input' body)
    × (adding clients settling.BeforeAndAfter
    (post_plan clients (facts j) (posted_message group timestamp body))).goes_on j whole
GoesOnBy clients (command.Say group timestamp join name major descriptor) request j whole =
    (adding clients settling.BeforeAndAfter (say_plan clients
    (speech_of group timestamp join (group_named name major descriptor)) (facts j))).goes_on j whole
GoesOnBy clients (command.Agree contact group) request j whole =
    (running clients (agreement clients contact group)).goes_on j whole
GoesOnBy clients command.Compact request j whole = (compacting clients).goes_on j whole
GoesOnBy clients (command.MailboxIn contact) request j whole =
    (bytes : List ℕ) × ReadsOf request (λ input input'. IsMail input input' bytes)
    × (running clients (in_errand clients contact bytes)).goes_on j whole
GoesOnBy clients (command.MailboxOut contact latency count) request j whole =
    (now : ℕ) × (running clients (out_errand clients (sending_of contact latency count) now)).goes_on
    j whole
GoesOnBy clients _ request j whole = ⊥

-- by what the words of a request ask for
pub record GoesOnByWords (clients : Meaning) (request : Request) (settled whole : Journal)
    : Type 0 where
  pub words : List (List ℕ)
  pub are : AreWords (parts_of request.words) words
  pub asked : Command
  pub asks_so : asks words ≡ Do asked
  pub goes_on : GoesOnBy clients asked request settled whole

-- On the way of a request a journal stands with some of its settling; or, with all of it, with some
-- of what the words ask for.
abbrev pub IsOnWay : Meaning → Request → (j whole : Journal) → Type 0
IsOnWay clients request j whole =
    SettlesJournal clients j whole
    ⊎ OnceSettled clients j (λ settled. GoesOnByWords clients request settled whole)

-- ---- several requests

-- on the way of the first, or, behind the journal that it left, on the way of the others
abbrev pub IsOnWayThrough : Meaning → List Request → (j whole : Journal) → Type 0
IsOnWayThrough clients [] j whole = whole ≡ j
IsOnWayThrough clients (request ∷ later) j whole =
    IsOnWay clients request j whole
    ⊎ ((next : Journal) × IsOnWay clients request j next
    × IsOnWayThrough clients later next whole)

-- The files stand for a journal of a life that began with this one: on the way of its first settling,
-- or of one of these requests, in their order.
pub record StandsInLife (clients : Meaning) (first : Journal) (requests : List Request)
    (left : Two (List ℕ)) : Type 0 where
  pub whole : Journal
  pub is : SettlesJournal clients first whole
      ⊎ OnceSettled clients first (λ begun. IsOnWayThrough clients requests begun whole)
  pub stands_for : stands clients left ≡ journal whole
