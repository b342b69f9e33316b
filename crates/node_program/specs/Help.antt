-- What the words of a command line ask of the program itself, and what it answers. Words are
-- counted from 0.
use Rattle.std.specs.Prelude.{◌≡◌, ◌⊎◌, ℕ, Bool, true, false, if◌then◌else◌, List, [], ◌∷◌}
use Rattle.std.specs.Prelude.{codes, Option, Some, None}
use Rattle.std.specs.Str.{bytes_eq}
use Rattle.std.specs.Io.KnownBytes.{Appends}
use Rattle.outside.specs.Faults.{CountRose}
use Rattle.outside.specs.Streams.{GetsFront, IsIdle, Stream}
use Rattle.sync_words.specs.declared.outcome.Outcome.TheVariants as outcome
use Rattle.sync_words.specs.declared.status.Status.{Status}
use Rattle.sync_words.specs.declared.status.Status.TheVariants as status
use Rattle.sync_words.specs.Versions.{version_text}
use Rattle.sync_top.specs.Run.{ReportsOutcome}
use Rattle.node_program.specs.declared.help.Help.{Help}
use Rattle.node_program.specs.declared.help.Help.TheVariants as help
use Rattle.node_program.specs.declared.help.Topic.{Topic}
use Rattle.node_program.specs.declared.help.Topic.TheVariants as topic
use Rattle.node_program.specs.declared.texts.TheConstants.{OVERVIEW, INIT, CONTACT, GROUP, STATUS}
use Rattle.node_program.specs.declared.texts.TheConstants.{SHARE, POST, SHOW, INBOX, BODY, TREE}
use Rattle.node_program.specs.declared.texts.TheConstants.{AUDIT, SAY, AGREE, COMPACT, MAILBOX}
use Rattle.node_program.specs.declared.texts.TheConstants.{MAILBOX_IN, MAILBOX_OUT, SYNC, RECORDS}
use Rattle.node_program.specs.declared.texts.TheConstants.{QUIT, SERVE, TRY, WATCH}

-- what the program tells of a topic
abbrev pub text_of : Topic → List ℕ
text_of topic.Overview = OVERVIEW.now
text_of topic.Init = INIT.now
text_of topic.Contact = CONTACT.now
text_of topic.Group = GROUP.now
text_of topic.Share = SHARE.now
text_of topic.Post = POST.now
text_of topic.Show = SHOW.now
text_of topic.Inbox = INBOX.now
text_of topic.Body = BODY.now
text_of topic.Tree = TREE.now
text_of topic.Audit = AUDIT.now
text_of topic.Status = STATUS.now
text_of topic.Say = SAY.now
text_of topic.Agree = AGREE.now
text_of topic.Compact = COMPACT.now
text_of topic.Mailbox = MAILBOX.now
text_of topic.MailboxIn = MAILBOX_IN.now
text_of topic.MailboxOut = MAILBOX_OUT.now
text_of topic.Sync = SYNC.now
text_of topic.Serve = SERVE.now
text_of topic.Watch = WATCH.now
text_of topic.Quit = QUIT.now
text_of topic.Records = RECORDS.now
text_of topic.Try = TRY.now

-- the command of this name
abbrev pub topic_in : List ℕ → Option Topic
topic_in name =
    if bytes_eq name (codes "init") then Some topic.Init
    else if bytes_eq name (codes "contact") then Some topic.Contact
    else if bytes_eq name (codes "group") then Some topic.Group
    else if bytes_eq name (codes "share") then Some topic.Share
    else if bytes_eq name (codes "post") then Some topic.Post
    else if bytes_eq name (codes "show") then Some topic.Show
    else if bytes_eq name (codes "inbox") then Some topic.Inbox
    else if bytes_eq name (codes "body") then Some topic.Body
    else if bytes_eq name (codes "tree") then Some topic.Tree
    else if bytes_eq name (codes "audit") then Some topic.Audit
    else if bytes_eq name (codes "status") then Some topic.Status
    else if bytes_eq name (codes "say") then Some topic.Say
    else if bytes_eq name (codes "agree") then Some topic.Agree
    else if bytes_eq name (codes "compact") then Some topic.Compact
    else if bytes_eq name (codes "mailbox") then Some topic.Mailbox
    else if bytes_eq name (codes "sync") then Some topic.Sync
    else if bytes_eq name (codes "serve") then Some topic.Serve
    else if bytes_eq name (codes "watch") then Some topic.Watch
    else if bytes_eq name (codes "quit") then Some topic.Quit
    else if bytes_eq name (codes "records") then Some topic.Records
    else if bytes_eq name (codes "try") then Some topic.Try
    else None

-- to be told of it where no word stands from this place on
abbrev pub ends_topic : Topic → (place : ℕ) → List (List ℕ) → Help
ends_topic asked place [] = help.Tell asked
ends_topic asked place (word ∷ words) = help.Wrong place

-- behind `help mailbox`: nothing, for both, or which one
abbrev pub mailbox_topic : List (List ℕ) → Help
mailbox_topic [] = help.Tell topic.Mailbox
mailbox_topic (word ∷ words) =
    if bytes_eq word (codes "in") then ends_topic topic.MailboxIn 3 words
    else if bytes_eq word (codes "out") then ends_topic topic.MailboxOut 3 words
    else help.Wrong 2

-- the name of a command was read, and these words follow
abbrev pub named_topic : Option Topic → List (List ℕ) → Help
named_topic None words = help.Wrong 1
named_topic (Some topic.Mailbox) words = mailbox_topic words
named_topic (Some asked) words = ends_topic asked 2 words

-- behind `help`: nothing, or a command
abbrev pub asks_topic : List (List ℕ) → Help
asks_topic [] = help.Tell topic.Overview
asks_topic (word ∷ words) = named_topic (topic_in word) words

-- this is asked where no word follows
abbrev pub is_alone : Help → List (List ℕ) → Option Help
is_alone asked [] = Some asked
is_alone asked (word ∷ words) = None

-- what is asked, if the words ask of the program itself
abbrev pub asks_help : List (List ℕ) → Option Help
asks_help [] = None
asks_help (word ∷ words) =
    if bytes_eq word (codes "help") then Some (asks_topic words)
    else if bytes_eq word (codes "--help") then is_alone (help.Tell topic.Overview) words
    else if bytes_eq word (codes "-h") then is_alone (help.Tell topic.Overview) words
    else if bytes_eq word (codes "--version") then is_alone help.Version words
    else None

abbrev pub is_nothing : Option Topic → Bool
is_nothing None = true
is_nothing (Some asked) = false

-- whether the words begin with no command
abbrev pub begins_nothing : List (List ℕ) → Bool
begins_nothing [] = true
begins_nothing (word ∷ words) = is_nothing (topic_in word)

-- The output got the whole text, and nothing was said; or a front of it, a call on the output
-- failed, and the error output says so.
abbrev pub TellsText : (text : List ℕ) (out out' err err' : Stream) → Status → Type 0
TellsText text out out' err err' given =
    (Appends out.bytes out'.bytes text × IsIdle err err' × (given ≡ status.Done))
    ⊎ (GetsFront out out' text × CountRose out.faults out'.faults
    × ReportsOutcome outcome.WriteFault err err' given)

-- what was asked is told on the output, the version behind the name of the program; what is not there is a wrong word, on the error output
-- alone
abbrev pub AnswersHelp : Help → (out out' err err' : Stream) → Status → Type 0
AnswersHelp (help.Tell asked) out out' err err' given =
    TellsText (text_of asked) out out' err err' given
AnswersHelp help.Version out out' err err' given =
    TellsText (version_text (codes "bsp")) out out' err err' given
AnswersHelp (help.Wrong place) out out' err err' given =
    IsIdle out out' × ReportsOutcome (outcome.Usage place) err err' given
