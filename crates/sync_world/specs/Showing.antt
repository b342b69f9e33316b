-- What is printed of a world that was played.
use Rattle.std.specs.Prelude.{◌≡◌, ℕ, zero, suc, ◌+◌, Bool, true, false, if◌then◌else◌, List, []}
use Rattle.std.specs.Prelude.{◌∷◌, ◌++◌, length, Option, Some, None, slice_get}
use Rattle.store_commands.specs.Shown.{show_text}
use Rattle.sync_node.specs.Node.{NodeValue}
use Rattle.sync_rules.specs.Facts.{Facts, Held, Journal, facts}
use Rattle.sync_rules.specs.Steps.{fate_held}
use Rattle.sync_rules.specs.declared.states.Fate.{Fate}
use Rattle.sync_rules.specs.declared.states.Fate.TheVariants as fate
use Rattle.sync_words.specs.HeldTexts.{device_text}
use Rattle.sync_world.specs.declared.player.Player.{Player}
use Rattle.sync_world.specs.declared.player.States.{States}
use Rattle.world_devices.specs.Devices.{DeviceValue}
use Rattle.world_laws.specs.Worlds.{journal_in}

abbrev pub same_fate : Fate → Fate → Bool
same_fate fate.Delivered fate.Delivered = true
same_fate fate.Invalid fate.Invalid = true
same_fate fate.Pending fate.Pending = true
same_fate fate.Unknown fate.Unknown = true
same_fate _ _ = false

-- one for a message in this state
abbrev pub one_if_same : Fate → Fate → ℕ
one_if_same state given = if same_fate given state then 1 else 0

-- how many of these messages are in this state, by the facts of a journal
unfoldable pub number_in_state : Facts → Fate → List Held → ℕ
number_in_state f state [] = 0
number_in_state f state (h ∷ held) = one_if_same state (fate_held f h.id) + number_in_state f state
    held

-- how many of all held messages are
abbrev pub count_of : Facts → Fate → ℕ
count_of f state = number_in_state f state f.held

-- a device's line: how many messages its journal has, and how many of them are in each state
abbrev pub device_line : ℕ → Facts → List ℕ
device_line number f =
    device_text number (length f.held) (count_of f fate.Delivered) (count_of f fate.Invalid)
    (count_of f fate.Pending) (count_of f fate.Unknown)

-- what is printed of a device: its line, and behind it, where the device is to be shown, all that
-- `show` prints
abbrev pub device_lines : ℕ → Bool → Facts → List ℕ
device_lines number shown f = device_line number f ++ (if shown then show_text f else [])

-- the facts of the journal of a device, where it is there and runs
abbrev pub facts_of_node : Option NodeValue → Option Facts
facts_of_node None = None
facts_of_node (Some n) = Some n.store.state.facts

abbrev pub facts_of : Option DeviceValue → Option Facts
facts_of None = None
facts_of (Some d) = facts_of_node d.node

-- whether there is a mark, and it is set
abbrev pub is_marked : Option Bool → Bool
is_marked None = false
is_marked (Some mark) = mark

-- a device's lines behind these, where it has any
abbrev pub lines_then : Option (List ℕ) → ℕ → Bool → Option Facts → Option (List ℕ)
lines_then (Some lines) number shown (Some f) = Some (lines ++ device_lines number shown f)
lines_then _ number shown _ = None

-- the lines of the devices below this number, in order, where each of them is there and runs
abbrev pub lines_below : (shown : List Bool) → List DeviceValue → ℕ → Option (List ℕ)
lines_below shown devices zero = Some []
lines_below shown devices (suc number) =
    lines_then (lines_below shown devices number) number (is_marked (slice_get shown number))
    (facts_of (slice_get devices number))

-- all that is printed of a world that was played: the lines of each device that there is
abbrev pub player_lines : Player → Option (List ℕ)
player_lines p = lines_below p.shown p.world.devices.items p.devices

-- there is such a device, and it runs
abbrev pub Runs : Option DeviceValue → Type 0
Runs o = (device : DeviceValue) × (n : NodeValue) × (o ≡ Some device) × (device.node ≡ Some n)

-- the lines that these journals make of the devices below this number, in order
abbrev pub journal_lines : (shown : List Bool) → List Journal → ℕ → List ℕ
journal_lines shown journals zero = []
journal_lines shown journals (suc number) =
    journal_lines shown journals number ++ device_lines number (is_marked (slice_get shown number))
    (facts (journal_in journals number))

-- these are the numbers of messages in each state
pub record HasCounted (f : Facts) (held : List Held) (states : States) : Type 0 where
  pub delivered : states.delivered ≡ number_in_state f fate.Delivered held
  pub invalid : states.invalid ≡ number_in_state f fate.Invalid held
  pub pending : states.pending ≡ number_in_state f fate.Pending held
  pub unknown : states.unknown ≡ number_in_state f fate.Unknown held

-- one more message is counted, in this state
pub record CountsOne (given : Fate) (old new : States) : Type 0 where
  pub delivered : new.delivered ≡ old.delivered + one_if_same fate.Delivered given
  pub invalid : new.invalid ≡ old.invalid + one_if_same fate.Invalid given
  pub pending : new.pending ≡ old.pending + one_if_same fate.Pending given
  pub unknown : new.unknown ≡ old.unknown + one_if_same fate.Unknown given

-- how many messages were counted
abbrev pub total_of : States → ℕ
total_of states = states.delivered + states.invalid + states.pending + states.unknown

-- the lines of a device were added, which is there and runs
abbrev pub AddsDevice : Player → (number : ℕ) → (old new : List ℕ) → Type 0
AddsDevice p number old new =
    lines_then (Some old) number (is_marked (slice_get p.shown number))
    (facts_of (slice_get p.world.devices.items number)) ≡ Some new
