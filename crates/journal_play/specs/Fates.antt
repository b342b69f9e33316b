-- What a text says of the messages that records bring to a group, by rounds over these messages and their client's
-- verdicts alone.
use Rattle.std.specs.Prelude.{◌≡◌, ℕ, Bool, not, ◌&&◌, ◌||◌, if◌then◌else◌, List, [], ◌∷◌, ◌++◌, length, filter, map, IsPermutation}
use Rattle.std.specs.List.{list_any, flat_map}
use Rattle.sync_ids.specs.Values.{MessageValue}
use Rattle.sync_ids.specs.Ids.{message_id_of}
use Rattle.sync_ids.specs.declared.records.Record.{Record}
use Rattle.sync_ids.specs.declared.records.Record.TheVariants as record_kind
use Rattle.sync_rules.specs.declared.states.Fate.{Fate}
use Rattle.sync_rules.specs.declared.states.Fate.TheVariants as fate_kind
use Rattle.sync_rules.specs.Clients.{Meaning}
use Rattle.sync_rules.specs.Lists.{same_id}
use Rattle.sync_rules.specs.Facts.{Id, arrived}
use Rattle.sync_rules.specs.Rounds.{Graph, good, bad}
use Rattle.journal_play.specs.Texts.{line_of}

-- ---- the messages

-- whether one of these messages has this id
abbrev pub is_brought : List MessageValue → Id → Bool
is_brought messages id = list_any (λ m. same_id (message_id_of m) id) messages

-- a record brings a message where it is one of the group and none of the messages before it has its id
abbrev pub with_record : Id → List MessageValue → Record → List MessageValue
with_record group before (record_kind.Message m) =
    if same_id m.group group && not (is_brought before (message_id_of m)) then before ++ m ∷ [] else before
with_record group before _ = before

abbrev pub with_records : Id → List MessageValue → List Record → List MessageValue
with_records group before [] = before
with_records group before (r ∷ records) = with_records group (with_record group before r) records

-- the messages that records bring to a group, in their order: of those with one id the first
abbrev pub brought : Id → List Record → List MessageValue
brought group records = with_records group [] records

-- ---- their states

-- the messages, held in this order, with what a client of this kind says of each
abbrev pub graph_with : Meaning → (kind : ℕ) → List MessageValue → Graph
graph_with clients kind messages = record { held = map (arrived 0) messages; verdict = λ h. clients.verdict kind h.message }

-- good, or bad, after as many rounds as there are messages
abbrev pub is_good : Graph → MessageValue → Bool
is_good g m = good g (length g.held) (message_id_of m)

abbrev pub is_bad : Graph → MessageValue → Bool
is_bad g m = bad g (length g.held) (message_id_of m)

abbrev pub is_decided : Graph → MessageValue → Bool
is_decided g m = is_good g m || is_bad g m

-- a good message is delivered, a bad one invalid, any other one waits
abbrev pub state_of : Graph → MessageValue → Fate
state_of g m = if is_good g m then fate_kind.Delivered else if is_bad g m then fate_kind.Invalid else fate_kind.Pending

-- ---- the text

-- the line that says the state of a message
abbrev pub state_line : Graph → MessageValue → List ℕ
state_line g m = line_of (state_of g m) (message_id_of m) m

-- a text has one line for each of these messages, which says its state: first those that are good or bad, in some order,
-- and then the others, in the order in which they came
pub record SaysStates (g : Graph) (messages : List MessageValue) (text : List ℕ) : Type 0 where
  pub decided : List MessageValue
  pub each_once : IsPermutation (filter (is_decided g) messages) decided
  pub lines : text ≡ flat_map (state_line g) (decided ++ filter (λ m. not (is_decided g m)) messages)

-- a text says the states of the messages that records bring to a group whose client has this kind
abbrev pub SaysFates : Meaning → (kind : ℕ) (group : Id) → List Record → (text : List ℕ) → Type 0
SaysFates clients kind group records text = SaysStates (graph_with clients kind (brought group records)) (brought group records) text
