-- What the groups of a world are called, and the nonces of its links.
use Rattle.std.specs.Prelude.{ℕ, ◌+◌, ◌==◌, nat_le, if◌then◌else◌, List, length, Option, Some, None}
use Rattle.std.specs.Prelude.{Result, Ok, Err, ◌≡◌, option_and_then}
use Rattle.std.specs.Int.{w128, to_be_bytes}
use Rattle.client_basic.specs.Bodies.{note_name, thread_name, feed_name}
use Rattle.sync_ids.specs.Values.{GroupValue}
use Rattle.sync_ids.specs.declared.def.TheConstants.{MAX_DESCRIPTOR}
use Rattle.sync_rules.specs.declared.entries.Mode.{Mode}
use Rattle.sync_rules.specs.declared.entries.Mode.TheVariants as mode
use Rattle.world_devices.specs.declared.stop.StepFault.{StepFault}
use Rattle.world_devices.specs.declared.stop.StepFault.TheVariants as fault
use Rattle.world_scripts.specs.declared.step.TheConstants.{NOTE, THREAD, FEED}

-- the name of the client of a kind
abbrev pub name_of : ℕ → Option (List ℕ)
name_of kind =
    if kind == NOTE then Some note_name else if kind == THREAD then Some thread_name else if kind ==
    FEED then Some feed_name else None

-- the group of a kind and a descriptor that is not too long, where there is such a kind
abbrev pub group_of : ℕ → List ℕ → Option GroupValue
group_of kind descriptor =
    option_and_then (λ name.
    if nat_le (length descriptor) MAX_DESCRIPTOR
    then Some (record { name = name; major = 0; descriptor = descriptor }) else None) (name_of kind)

-- the nonce of the session that dials the link of this number, where it has one: the number plus
-- one, in 16 bytes
abbrev pub nonce_of : Mode → ℕ → Option (List ℕ)
nonce_of mode.Interactive link = Some (to_be_bytes w128 (link + 1))
nonce_of mode.Batch link = None

-- what was made is this, and it is refused exactly where there is none, but for want of memory
abbrev pub IsMade : {A : Type 0} → Option A → Result A StepFault → Type 0
IsMade None (Err fault.Refused) = Unit {0}
IsMade None (Err fault.Memory) = Unit {0}
IsMade None _ = ⊥
IsMade (Some value) (Ok made) = made ≡ value
IsMade (Some value) (Err fault.Memory) = Unit {0}
IsMade (Some value) _ = ⊥
