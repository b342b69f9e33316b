-- Words that ask for nothing that changes the sessions of a store, and the store behind an answer.
use Rattle.std.proofs.Common.{◌≡◌, ◌==◌, ℕ, zero, suc, ◌+◌, ◌<◌, ◌≤◌, Bool, true, false, List, []}
use Rattle.std.proofs.Common.{◌∷◌, ◌++◌, length, refl, sym, ap, ◌∙◌, subst, append_assoc, arith, lit≤, Ok}
use Rattle.std.proofs.Common.{Option, Some, None}
use Rattle.std.specs.Prelude.{if◌then◌else◌, codes}
use Rattle.std.specs.Str.{IsUtf8, bytes_eq}
use Rattle.std.proofs.lemmas.Bool.{eqb-true, false_from_ne_true, false≢true, or_parts}
use Rattle.std.proofs.lemmas.Slice.Eq.{bytes_eq-Decides}
use Rattle.sync_ids.specs.declared.def.TheConstants.{MAX_DESCRIPTOR}
use Rattle.sync_ids.specs.declared.message.TheConstants.{MAX_TIMESTAMP}
use Rattle.outside.specs.declared.limits.TheConstants.{LINKS}
use Rattle.sync_words.specs.declared.link_words.LinkWords.{LinkWords}
use Rattle.sync_words.specs.Words.{descriptor_in, id_in, level_in, mode_in, name_in, number_in}
use Rattle.sync_words.specs.Words.{positive_in, spec_in}
use Rattle.commands.specs.declared.grammar.TheConstants.{MAX_CONTACT, MAX_TURNS}
use Rattle.commands.specs.declared.links.TheConstants.{MAX_LATENCY}
use Rattle.commands.specs.Reading.{Rest, asks_agree, asks_body, asks_group, asks_inbox}
use Rattle.commands.specs.Reading.{asks_inbox_from, asks_links, asks_mailbox, asks_of, asks_post}
use Rattle.commands.specs.Reading.{asks_say, asks_saying, asks_serve, asks_share, asks_sync, asks_tree}
use Rattle.commands.specs.Reading.{asks_try, ends_or_usage, has_ended, has_std, is_left, link_then}
use Rattle.commands.specs.Reading.{no_more, plain_in, read_or_usage, stance_in, std_in, word_then}
use Rattle.commands.specs.Reading.Asked.{Do}
use Rattle.commands.specs.declared.command.Command.{Command}
use Rattle.commands.specs.declared.command.Command.TheVariants as command
use Rattle.sync_store.specs.Store.{StoreValue}
use Rattle.sync_words.specs.declared.outcome.Outcome.{Outcome}
use Rattle.sync_words.specs.declared.outcome.Outcome.TheVariants as outcome
use Rattle.store_commands.specs.Serving.{LeavesSessionsBy}
use Rattle.store_commands.proofs.Sessions.{leaves_by, leaves_itself}
use Rattle.node_service.specs.Words.{AreWords, IsAskedBy, parts_from, parts_of}
use Rattle.node_service.specs.declared.node.Reply.{Reply}
use Rattle.node_requests.specs.Requests.{leaves_sessions}
use Rattle.node_life.specs.Leaving.{WordsLeave, has_first, leaves_asked, may_change_sessions}
use Rattle.node_life.specs.Requests.{Said, said_by, said_of}

-- ---- what words ask for

-- whatever these words are, what they ask for leaves the sessions
abbrev Leaves : Rest → Type 0
Leaves next = (place : ℕ) (words : List (List ℕ)) → leaves_asked (next place words) ≡ true

read_leaves : {V : Type 0} (o : Option V) (next : V → Rest) → ((v : V) → Leaves (next v))
    → Leaves (read_or_usage o next)
read_leaves None next each place words = refl
read_leaves (Some v) next each place words = each v (place + 1) words

word_leaves : {V : Type 0} (read : List ℕ → Option V) (next : V → Rest)
    → ((v : V) → Leaves (next v)) → Leaves (word_then read next)
word_leaves read next each place [] = refl
word_leaves read next each place (word ∷ words) = read_leaves (read word) next each place words

end_leaves : (asked : Command) → leaves_sessions asked ≡ true → Leaves (no_more asked)
end_leaves asked leaves place [] = leaves
end_leaves asked leaves place (word ∷ words) = refl

either_leaves : (b : Bool) (x y : Rest) → (b ≡ true → Leaves x) → Leaves y
    → Leaves (if b then x else y)
either_leaves true x y first second = first refl
either_leaves false x y first second = second

try_leaves : Leaves asks_try
try_leaves =
    word_leaves name_in _ (λ name.
    word_leaves descriptor_in _ (λ descriptor. end_leaves (command.Try name descriptor) refl))

group_leaves : Leaves asks_group
group_leaves =
    word_leaves name_in _ (λ name. word_leaves _ _ (λ major.
    word_leaves descriptor_in _ (λ descriptor.
    end_leaves (command.Group name major descriptor) refl)))

share_leaves : Leaves asks_share
share_leaves =
    word_leaves (number_in MAX_CONTACT) _ (λ contact. word_leaves id_in _ (λ group.
    word_leaves level_in _ (λ level. end_leaves (command.Share contact group level) refl)))

post_leaves : Leaves asks_post
post_leaves =
    word_leaves id_in _ (λ group. word_leaves (number_in MAX_TIMESTAMP) _ (λ timestamp.
    end_leaves (command.Post group timestamp) refl))

body_leaves : Leaves asks_body
body_leaves = word_leaves id_in _ (λ id. end_leaves (command.Body id) refl)

tree_leaves : Leaves asks_tree
tree_leaves =
    word_leaves id_in _ (λ group. word_leaves _ _ (λ from.
    word_leaves _ _ (λ count. end_leaves (command.Tree group from count) refl)))

inbox_from_leaves : Leaves asks_inbox_from
inbox_from_leaves =
    word_leaves _ _ (λ from.
    word_leaves _ _ (λ count. end_leaves (command.InboxFrom from count) refl))

inbox_leaves : Leaves asks_inbox
inbox_leaves place words =
    elim (is_left words) as (λ b. leaves_asked (if b then asks_inbox_from place words else Do
    command.Inbox) ≡ true) [
      | true ↦ inbox_from_leaves place words
      | false ↦ refl
    ]

saying_leaves : (group : List ℕ) (timestamp : ℕ) (join : Bool)
    → Leaves (asks_saying group timestamp join)
saying_leaves group timestamp join =
    word_leaves name_in _ (λ name. word_leaves _ _ (λ major.
    word_leaves descriptor_in _ (λ descriptor.
    end_leaves (command.Say group timestamp join name major descriptor) refl)))

say_leaves : Leaves asks_say
say_leaves =
    word_leaves id_in _ (λ group. word_leaves (number_in MAX_TIMESTAMP) _ (λ timestamp.
    word_leaves stance_in _ (λ join. saying_leaves group timestamp join)))

agree_leaves : Leaves asks_agree
agree_leaves =
    word_leaves (number_in MAX_CONTACT) _ (λ contact.
    word_leaves id_in _ (λ group. end_leaves (command.Agree contact group) refl))

serve_leaves : Leaves asks_serve
serve_leaves = word_leaves std_in _ (λ u. end_leaves command.Serve refl)

link_leaves : (before : List LinkWords) (next : LinkWords → Rest)
    → ((link : LinkWords) → Leaves (next link)) → Leaves (link_then before next)
link_leaves before next each =
    word_leaves (number_in MAX_CONTACT) _ (λ contact. word_leaves mode_in _ (λ mode.
    word_leaves (positive_in MAX_LATENCY) _ (λ latency.
    word_leaves (spec_in (has_std before)) _ (λ spec.
    each (record { contact = contact; mode = mode; latency = latency; spec = spec })))))

links_leave : (asked : List LinkWords → Command)
    → ((links : List LinkWords) → leaves_sessions (asked links) ≡ true) → (more : ℕ)
    (before : List LinkWords) → Leaves (asks_links asked more before)
unfolding asks_links
links_leave asked each zero before place words =
    end_leaves (asked before) (each before) place words
links_leave asked each (suc more) before place words =
    let next : LinkWords → Rest = λ link. asks_links asked more (before ++ link ∷ []) in
    elim (has_ended before words) as (λ b. leaves_asked (if b then Do (asked before) else
    link_then before next place words) ≡ true) [
      | true ↦ each before
      | false ↦ link_leaves before next (λ link. links_leave asked each more (before ++ link ∷ []))
          place words
    ]

sync_leaves : Leaves asks_sync
sync_leaves =
    word_leaves (positive_in MAX_TURNS) _ (λ turns. word_leaves (positive_in MAX_TURNS) _ (λ quiet.
    links_leave (command.Sync turns quiet) (λ links. refl) LINKS []))

-- ---- the commands without parts

abbrev plain_leaves : Option Command → Bool
plain_leaves None = true
plain_leaves (Some asked) = leaves_sessions asked

ends_leave : (o : Option Command) → plain_leaves o ≡ true → Leaves (ends_or_usage o)
ends_leave None leaves place words = refl
ends_leave (Some asked) leaves place words = end_leaves asked leaves place words

either_plain : (b : Bool) (x y : Option Command) → (b ≡ true → plain_leaves x ≡ true)
    → plain_leaves y ≡ true → plain_leaves (if b then x else y) ≡ true
either_plain true x y first second = first refl
either_plain false x y first second = second

-- a test that fails does not hold
never : {P : Type 0} (b : Bool) → b ≡ false → b ≡ true → P
never b not is = absurd (false≢true (sym not ∙ is))

module _ (word : List ℕ) (other : bytes_eq word (codes "compact") ≡ false) where
  plain_word_leaves : plain_leaves (plain_in word) ≡ true
  plain_word_leaves =
      either_plain (bytes_eq word (codes "records")) (Some command.Records) _ (λ is. refl)
      (either_plain (bytes_eq word (codes "init")) (Some command.Init) _ (λ is. refl)
      (either_plain (bytes_eq word (codes "contact")) (Some command.Contact) _ (λ is. refl)
      (either_plain (bytes_eq word (codes "show")) (Some command.Show) _ (λ is. refl)
      (either_plain (bytes_eq word (codes "audit")) (Some command.Audit) _ (λ is. refl)
      (either_plain (bytes_eq word (codes "status")) (Some command.Status) _ (λ is. refl)
      (either_plain (bytes_eq word (codes "quit")) (Some command.Quit) _ (λ is. refl)
      (either_plain (bytes_eq word (codes "compact")) (Some command.Compact) None
      (never (bytes_eq word (codes "compact")) other) refl)))))))

  -- words of which the first is none of these two
  words_leave : bytes_eq word (codes "mailbox") ≡ false → Leaves (asks_of word)
  words_leave another =
      either_leaves (bytes_eq word (codes "try")) asks_try _ (λ is. try_leaves)
      (either_leaves (bytes_eq word (codes "group")) asks_group _ (λ is. group_leaves)
      (either_leaves (bytes_eq word (codes "share")) asks_share _ (λ is. share_leaves)
      (either_leaves (bytes_eq word (codes "post")) asks_post _ (λ is. post_leaves)
      (either_leaves (bytes_eq word (codes "inbox")) asks_inbox _ (λ is. inbox_leaves)
      (either_leaves (bytes_eq word (codes "body")) asks_body _ (λ is. body_leaves)
      (either_leaves (bytes_eq word (codes "tree")) asks_tree _ (λ is. tree_leaves)
      (either_leaves (bytes_eq word (codes "say")) asks_say _ (λ is. say_leaves)
      (either_leaves (bytes_eq word (codes "agree")) asks_agree _ (λ is. agree_leaves)
      (either_leaves (bytes_eq word (codes "mailbox")) asks_mailbox _
      (never (bytes_eq word (codes "mailbox")) another)
      (either_leaves (bytes_eq word (codes "serve")) asks_serve _ (λ is. serve_leaves)
      (either_leaves (bytes_eq word (codes "sync")) asks_sync (ends_or_usage (plain_in word))
      (λ is. sync_leaves) (ends_leave (plain_in word) plain_word_leaves))))))))))))

-- ---- the first word

-- these bytes begin with a part and a zero byte
abbrev StandsFirst : (part bytes : List ℕ) → Type 0
StandsFirst part bytes = (rest : List ℕ) × (bytes ≡ part ++ 0 ∷ rest)

ends_or_goes_on : (zero_at : Bool) (part bytes p : List ℕ) (b : ℕ) (ps : List (List ℕ))
    → (zero_at ≡ true → b ≡ 0)
    → (parts_from (part ++ b ∷ []) bytes ≡ p ∷ ps → StandsFirst p ((part ++ b ∷ []) ++ bytes))
    → (if zero_at then part ∷ parts_from [] bytes else parts_from (part ++ b ∷ []) bytes) ≡ p ∷ ps
    → StandsFirst p (part ++ b ∷ bytes)
ends_or_goes_on true part bytes p b ps zero_is later is =
    let same : part ≡ p = cc in
    (bytes, ap (λ n. part ++ n ∷ bytes) (zero_is refl) ∙ ap (λ (q : List ℕ). q ++ 0 ∷ bytes) same)
ends_or_goes_on false part bytes p b ps zero_is later is =
    let stands = later is in (stands.0, sym (append_assoc part (b ∷ []) bytes) ∙ stands.1)

part_stands : (part bytes p : List ℕ) (ps : List (List ℕ)) → parts_from part bytes ≡ p ∷ ps
    → StandsFirst p (part ++ bytes)
part_stands part [] p ps is = cc
part_stands part (b ∷ bytes) p ps is =
    ends_or_goes_on (b == 0) part bytes p b ps (eqb-true b 0)
    (part_stands (part ++ b ∷ []) bytes p ps) is

-- the part of the first word, which is that word, or the word is too long
record FirstPart (parts : List (List ℕ)) (word : List ℕ) : Type 0 where
  part : List ℕ
  parts_left : List (List ℕ)
  are : parts ≡ part ∷ parts_left
  text : IsUtf8 part → word ≡ part
  other : ¬ (IsUtf8 part) → MAX_DESCRIPTOR < length word

first_part : (parts : List (List ℕ)) (word : List ℕ) (words : List (List ℕ))
    → AreWords parts (word ∷ words) → FirstPart parts word
first_part [] word words are = absurd are
first_part (p ∷ ps) word words are =
    record { part = p; parts_left = ps; are = refl; text = are.0.text; other = are.0.other }

-- a short word that does not stand first in bytes is not their first word
not_first : (code bytes word : List ℕ) (words : List (List ℕ)) → length code ≤ MAX_DESCRIPTOR
    → ((rest : List ℕ) → has_first code (code ++ 0 ∷ rest) ≡ true) → has_first code bytes ≡ false
    → AreWords (parts_of bytes) (word ∷ words) → bytes_eq word code ≡ false
not_first code bytes word words short stands not are =
    false_from_ne_true (bytes_eq word code) (λ same.
    let is : word ≡ code = (bytes_eq-Decides word code).0 same in
    let first = first_part (parts_of bytes) word words are in
    let over : MAX_DESCRIPTOR < length word = first.other (λ is_text.
    let at = part_stands [] bytes first.part first.parts_left first.are in
    let part_is : first.part ≡ code = sym (first.text is_text) ∙ is in
    let bytes_are : bytes ≡ code ++ 0 ∷ at.0 =
    at.1 ∙ ap (λ (p : List ℕ). p ++ 0 ∷ at.0) part_is in
    never (has_first code bytes) not (ap (has_first code) bytes_are ∙ stands at.0)) in
    let long : length word ≡ length code = ap length is in
    omega (arith, over, long, short))

pub all_leave : (bytes : List ℕ) → may_change_sessions bytes ≡ false → WordsLeave bytes
all_leave bytes neither [] are = refl
all_leave bytes neither (word ∷ words) are =
    let both =
    or_parts (has_first (codes "compact") bytes) (has_first (codes "mailbox") bytes) neither in
    words_leave word
    (not_first (codes "compact") bytes word words (lit≤ tt) (λ rest. refl) both.0 are)
    (not_first (codes "mailbox") bytes word words (lit≤ tt) (λ rest. refl) both.1 are) 1 words

-- ---- behind an answer

-- nothing was done
pub nothing_leaves : (s : StoreValue) (came : Outcome) → LeavesSessionsBy s s came
nothing_leaves s came = leaves_by s s came (leaves_itself s)

-- whatever is said of what came
pub said_leaves : (s s' : StoreValue) (reply : Reply) (text : List ℕ) (came : Outcome)
    → said_by reply text ≡ said_of came text → LeavesSessionsBy s s' came
    → LeavesSessionsBy s s' reply.came
said_leaves s s' reply text came is leaves =
    subst (λ (o : Outcome). LeavesSessionsBy s s' o) (sym (ap (λ (x : Said). x.came) is))
    (elim came as (λ o. LeavesSessionsBy s s' o → LeavesSessionsBy s s' (said_of o text).came) [
      | outcome.WriteFault ↦ λ l. l
      | outcome.DiskFault ↦ λ l. l
      | _ ↦ λ l. l
    ] leaves)

-- what the words of a request ask for
pub asked_leaves : (bytes : List ℕ) (asked : Command) → IsAskedBy bytes (Ok asked)
    → WordsLeave bytes → leaves_sessions asked ≡ true
asked_leaves bytes asked ask leave =
    ap leaves_asked (sym ask.read) ∙ leave ask.words ask.are
