-- What the words of a command line ask for. Words are counted from 0 and read from left to right.
use Rattle.std.specs.Prelude.{◌≡◌, ℕ, zero, suc, ◌+◌, ◌≤◌, Bool, true, false, not, if◌then◌else◌, List, [], ◌∷◌, ◌++◌, length, drop, codes, Option, Some, None, Result, Ok, Err}
use Rattle.std.specs.Str.{bytes_eq}
use Rattle.std.specs.List.{list_any}
use Rattle.sync_ids.specs.declared.def.TheConstants.{MAX_NAME, MAX_DESCRIPTOR}
use Rattle.sync_ids.specs.declared.message.TheConstants.{MAX_TIMESTAMP}
use Rattle.outside.specs.declared.limits.TheConstants.{LINKS}
use Rattle.commands.specs.declared.grammar.TheConstants.{MAX_CONTACT, MAX_MAJOR, MAX_TURNS}
use Rattle.commands.specs.declared.grammar.TheConstants.{MAX_OUTS, MAX_WALK}
use Rattle.commands.specs.declared.links.TheConstants.{FIRST_LINK, LINK_WORDS, MAX_LATENCY}
use Rattle.sync_words.specs.declared.link_words.LinkWords.{LinkWords}
use Rattle.commands.specs.declared.command.Command.{Command}
use Rattle.commands.specs.declared.command.Command.TheVariants as command
use Rattle.commands.specs.declared.fault.WordsFault.{WordsFault}
use Rattle.commands.specs.declared.fault.WordsFault.TheVariants as fault
use Rattle.sync_words.specs.Links.{AreLinks}
use Rattle.sync_words.specs.declared.outcome.Outcome.{Outcome}
use Rattle.sync_words.specs.declared.outcome.Outcome.TheVariants as outcome
use Rattle.sync_words.specs.Words.{name_in, descriptor_in, number_in, positive_in, id_in, level_in, mode_in, spec_in, is_std}

-- a command, or the place of the first word that is wrong or too many, or the number of words where one is missing
pub data Asked : Type 0 where
  Usage : ℕ → Asked
  Do : Command → Asked

-- what the words of a command line ask for from a place on
abbrev pub Rest : Type 0
Rest = ℕ → List (List ℕ) → Asked

abbrev pub read_or_usage : {V : Type 0} → Option V → (V → Rest) → Rest
read_or_usage None next place words = Usage place
read_or_usage (Some value) next place words = next value (place + 1) words

-- the next word is read so, and then come the others
abbrev pub word_then : {V : Type 0} → (List ℕ → Option V) → (V → Rest) → Rest
word_then read next place [] = Usage place
word_then read next place (word ∷ words) = read_or_usage (read word) next place words

-- whether a word is left
abbrev pub is_left : List (List ℕ) → Bool
is_left [] = false
is_left (word ∷ words) = true

-- no word is left
abbrev pub no_more : Command → Rest
no_more asked place [] = Do asked
no_more asked place (word ∷ words) = Usage place

-- ---- the words behind each command's

-- a client's name and a descriptor
abbrev pub asks_try : Rest
asks_try =
    word_then name_in (λ name.
    word_then descriptor_in (λ descriptor. no_more (command.Try name descriptor)))

-- a client's name, a major version and a descriptor
abbrev pub asks_group : Rest
asks_group =
    word_then name_in (λ name. word_then (number_in MAX_MAJOR) (λ major. word_then descriptor_in (λ descriptor.
    no_more (command.Group name major descriptor))))

-- a contact, a group and a level
abbrev pub asks_share : Rest
asks_share =
    word_then (number_in MAX_CONTACT) (λ contact.
    word_then id_in (λ group.
    word_then level_in (λ level. no_more (command.Share contact group level))))

-- a group and a time
abbrev pub asks_post : Rest
asks_post =
    word_then id_in (λ group.
    word_then (number_in MAX_TIMESTAMP) (λ timestamp. no_more (command.Post group timestamp)))

-- the id of a message
abbrev pub asks_body : Rest
asks_body = word_then id_in (λ id. no_more (command.Body id))

-- a group, a place of the walk and a number of messages
abbrev pub asks_tree : Rest
asks_tree =
    word_then id_in (λ group.
    word_then (number_in MAX_WALK) (λ from.
    word_then (number_in MAX_WALK) (λ count. no_more (command.Tree group from count))))

-- a place of the list of delivered messages and a number of them
abbrev pub asks_inbox_from : Rest
asks_inbox_from =
    word_then (number_in MAX_WALK) (λ from.
    word_then (number_in MAX_WALK) (λ count. no_more (command.InboxFrom from count)))

-- no word, for the whole list; or a part of it
abbrev pub asks_inbox : Rest
asks_inbox place words =
    if is_left words then asks_inbox_from place words else Do command.Inbox

-- whether one joins a group or leaves it
abbrev pub stance_in : List ℕ → Option Bool
stance_in word =
    if bytes_eq word (codes "join") then Some true
    else if bytes_eq word (codes "leave") then Some false
    else None

-- the group of which one says that one joins or leaves it: a client's name, a major version and a descriptor
abbrev pub asks_saying : (group : List ℕ) (timestamp : ℕ) (join : Bool) → Rest
asks_saying group timestamp join =
    word_then name_in (λ name. word_then (number_in MAX_MAJOR) (λ major. word_then descriptor_in (λ descriptor.
    no_more (command.Say group timestamp join name major descriptor))))

-- the group in which it is said, a time, a stance, and what it is said of
abbrev pub asks_say : Rest
asks_say =
    word_then id_in (λ group.
    word_then (number_in MAX_TIMESTAMP) (λ timestamp.
    word_then stance_in (λ join. asks_saying group timestamp join)))

-- a contact and a group
abbrev pub asks_agree : Rest
asks_agree =
    word_then (number_in MAX_CONTACT) (λ contact.
    word_then id_in (λ group. no_more (command.Agree contact group)))

-- whether a mailbox file comes in
abbrev pub way_in : List ℕ → Option Bool
way_in word =
    if bytes_eq word (codes "in") then Some true
    else if bytes_eq word (codes "out") then Some false
    else None

-- a contact
abbrev pub asks_taking : Rest
asks_taking = word_then (number_in MAX_CONTACT) (λ contact. no_more (command.MailboxIn contact))

-- a contact, a latency and a number of outputs
abbrev pub asks_sending : Rest
asks_sending =
    word_then (number_in MAX_CONTACT) (λ contact.
    word_then (positive_in MAX_LATENCY) (λ latency.
    word_then (positive_in MAX_OUTS) (λ count. no_more (command.MailboxOut contact latency count))))

abbrev pub asks_way : Bool → Rest
asks_way true = asks_taking
asks_way false = asks_sending

-- the way of a mailbox file, and what follows it
abbrev pub asks_mailbox : Rest
asks_mailbox = word_then way_in asks_way

-- the standard input and output
abbrev pub std_in : List ℕ → Option (Unit {0})
std_in word = if bytes_eq word (codes "std") then Some tt else None

-- where requests come from and answers go
abbrev pub asks_serve : Rest
asks_serve = word_then std_in (λ u. no_more command.Serve)

-- whether one of the links is over the standard input and output
abbrev pub has_std : List LinkWords → Bool
has_std links = list_any (λ (link : LinkWords). is_std link.spec) links

-- a link behind others: a contact, a mode, a latency and a spec
abbrev pub link_then : (before : List LinkWords) → (LinkWords → Rest) → Rest
link_then before next =
    word_then (number_in MAX_CONTACT) (λ contact. word_then mode_in (λ mode. word_then (positive_in MAX_LATENCY) (λ latency.
    word_then (spec_in (has_std before)) (λ spec. next (record { contact = contact; mode = mode; latency = latency; spec = spec })))))

-- no link follows: there is one, and no word is left
abbrev pub has_ended : List LinkWords → List (List ℕ) → Bool
has_ended [] words = false
has_ended (link ∷ links) words = not (is_left words)

-- at most so many more links behind others
unfoldable pub asks_links : (List LinkWords → Command) → (more : ℕ) → (before : List LinkWords) → Rest
asks_links asked zero before place words = no_more (asked before) place words
asks_links asked (suc more) before place words =
    if has_ended before words then Do (asked before) else link_then before (λ link. asks_links asked more (before ++ link ∷ [])) place words

-- a number of turns, a number of still ones, and 1 to 8 links
abbrev pub asks_sync : Rest
asks_sync =
    word_then (positive_in MAX_TURNS) (λ turns. word_then (positive_in MAX_TURNS) (λ quiet.
    asks_links (command.Sync turns quiet) LINKS []))

-- the commands without parts
abbrev pub plain_in : List ℕ → Option Command
plain_in word =
    if bytes_eq word (codes "records") then Some command.Records
    else if bytes_eq word (codes "init") then Some command.Init
    else if bytes_eq word (codes "contact") then Some command.Contact
    else if bytes_eq word (codes "show") then Some command.Show
    else if bytes_eq word (codes "audit") then Some command.Audit
    else if bytes_eq word (codes "status") then Some command.Status
    else if bytes_eq word (codes "quit") then Some command.Quit
    else if bytes_eq word (codes "compact") then Some command.Compact
    else None

abbrev pub ends_or_usage : Option Command → Rest
ends_or_usage None place words = Usage 0
ends_or_usage (Some asked) place words = no_more asked place words

-- by the first word
abbrev pub asks_of : List ℕ → Rest
asks_of word =
    if bytes_eq word (codes "try") then asks_try
    else if bytes_eq word (codes "group") then asks_group
    else if bytes_eq word (codes "share") then asks_share
    else if bytes_eq word (codes "post") then asks_post
    else if bytes_eq word (codes "inbox") then asks_inbox
    else if bytes_eq word (codes "body") then asks_body
    else if bytes_eq word (codes "tree") then asks_tree
    else if bytes_eq word (codes "say") then asks_say
    else if bytes_eq word (codes "agree") then asks_agree
    else if bytes_eq word (codes "mailbox") then asks_mailbox
    else if bytes_eq word (codes "serve") then asks_serve
    else if bytes_eq word (codes "sync") then asks_sync
    else ends_or_usage (plain_in word)

-- what all words ask for
abbrev pub asks : List (List ℕ) → Asked
asks [] = Usage 0
asks (word ∷ words) = asks_of word 1 words

-- what was read is what was asked for; memory may be wanting
abbrev pub IsReadAs : Asked → Result Command WordsFault → Type 0
IsReadAs asked (Ok read) = asked ≡ Do read
IsReadAs asked (Err (fault.Usage place)) = asked ≡ Usage place
IsReadAs asked (Err fault.Memory) = Unit {0}

-- what words come to that were not read
abbrev pub words_came : WordsFault → Outcome
words_came (fault.Usage place) = outcome.Usage place
words_came fault.Memory = outcome.Memory

-- ---- limits

abbrev pub IsName : List ℕ → Type 0
IsName word = (1 ≤ length word) × (length word ≤ MAX_NAME)

abbrev pub IsDescriptor : List ℕ → Type 0
IsDescriptor word = length word ≤ MAX_DESCRIPTOR

abbrev pub IsCount : ℕ → Type 0
IsCount n = (1 ≤ n) × (n ≤ MAX_TURNS)

-- the parts of a command are within their limits
abbrev pub IsCommandWithin : Command → Type 0
IsCommandWithin (command.Try name descriptor) = IsName name × IsDescriptor descriptor
IsCommandWithin (command.Group name major descriptor) = IsName name × IsDescriptor descriptor
IsCommandWithin (command.Post group timestamp) = timestamp ≤ MAX_TIMESTAMP
IsCommandWithin (command.Say group timestamp join name major descriptor) =
    (timestamp ≤ MAX_TIMESTAMP) × IsName name × IsDescriptor descriptor
IsCommandWithin (command.MailboxOut contact latency count) = 1 ≤ latency
IsCommandWithin (command.Sync turns quiet links) = IsCount turns × IsCount quiet × AreLinks links
IsCommandWithin _ = Unit {0}

-- ---- a single word

-- the word at this place was read as this value
abbrev pub ReadsWord : {V : Type 0} → (List ℕ → Option V) → List (List ℕ) → ℕ → V → Type 0
ReadsWord {V} read words place value = (next : V → Rest) → word_then read next place (drop place words) ≡ next value (place + 1) (drop (place + 1) words)

-- the word at this place is missing or wrong
abbrev pub StopsAtWord : {V : Type 0} → (List ℕ → Option V) → List (List ℕ) → ℕ → WordsFault → Type 0
StopsAtWord {V} read words place (fault.Usage at) = (next : V → Rest) → word_then read next place (drop place words) ≡ Usage at
StopsAtWord {V} read words place fault.Memory = Unit {0}

-- ---- links

-- the words of a link from this place on, behind the links before, were read as this link
abbrev pub ReadsLink : List LinkWords → List (List ℕ) → ℕ → LinkWords → Type 0
ReadsLink before words place link =
    (next : LinkWords → Rest) → link_then before next place (drop place words) ≡ next link (place + LINK_WORDS) (drop (place + LINK_WORDS) words)

-- one of them is missing or wrong
abbrev pub StopsLink : List LinkWords → List (List ℕ) → ℕ → WordsFault → Type 0
StopsLink before words place (fault.Usage at) = (next : LinkWords → Rest) → link_then before next place (drop place words) ≡ Usage at
StopsLink before words place fault.Memory = Unit {0}

-- all words from the first link on were read as these links
abbrev pub ReadsLinks : List (List ℕ) → List LinkWords → Type 0
ReadsLinks words links =
    (asked : List LinkWords → Command) → asks_links asked LINKS [] FIRST_LINK (drop FIRST_LINK words) ≡ Do (asked links)

-- one of them is missing, wrong or too many
abbrev pub StopsLinks : List (List ℕ) → WordsFault → Type 0
StopsLinks words (fault.Usage at) = (asked : List LinkWords → Command) → asks_links asked LINKS [] FIRST_LINK (drop FIRST_LINK words) ≡ Usage at
StopsLinks words fault.Memory = Unit {0}
