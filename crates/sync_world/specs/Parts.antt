-- What the calls do that steps over links are made of, by what they answer.
use Rattle.std.specs.Prelude.{◌≡◌, ℕ, Bool, true, false, List, length, Option, Some, None, Result}
use Rattle.std.specs.Prelude.{Ok, Err}
use Rattle.sync_node.specs.declared.node.Plan.{Plan}
use Rattle.world_devices.specs.declared.stop.Ran.{Ran}
use Rattle.world_devices.specs.declared.stop.Ran.TheVariants as ran
use Rattle.world_devices.specs.declared.stop.StepFault.{StepFault}
use Rattle.world_devices.specs.declared.stop.StepFault.TheVariants as fault
use Rattle.sync_world.specs.Doing.{Attaches, Ground, MakesRound, TurnsLinked, TurnsOnce, dialled}
use Rattle.sync_world.specs.declared.stage.Round.{Round}
use Rattle.sync_world.specs.declared.stage.Round.TheVariants as round

-- a call that answers a fault: this is so where that is a full journal
abbrev pub WhenFull : StepFault → Type 0 → Type 0
WhenFull fault.Refused Fills = Unit {0}
WhenFull fault.Full Fills = Fills
WhenFull fault.Memory Fills = Unit {0}

-- a link more, and its number; only memory may be wanting
abbrev pub DialsBy : (d e : ℕ) → Result ℕ StepFault → Ground → Ground → Type 0
DialsBy d e (Ok link) old new = (link ≡ length old.links) × (new ≡ dialled d e old)
DialsBy d e (Err f) old new = f ≡ fault.Memory

-- a session of a device begins on a link, or the device crashes in it
abbrev pub AttachesBy : (d link : ℕ) → Plan → Option (List ℕ) → Result Ran StepFault → Ground
    → Ground → Type 0
AttachesBy d link plan nonce (Ok ran.Done) old new =
    (session : ℕ) × Attaches d link plan nonce (Ok (Some session)) old new
AttachesBy d link plan nonce (Ok ran.Crashed) old new = Attaches d link plan nonce (Ok None) old new
AttachesBy d link plan nonce (Err f) old new =
    WhenFull f (Attaches d link plan nonce (Err fault.Full) old new)

-- a turn of a device, and of one where it has had a link
abbrev pub TurnsBy : ℕ → Result (Option Bool) StepFault → Ground → Ground → Type 0
TurnsBy d (Ok came) old new = TurnsOnce d (Ok came) old new
TurnsBy d (Err f) old new = WhenFull f (TurnsOnce d (Err fault.Full) old new)

abbrev pub TurnsLinkedBy : ℕ → Result (Option Bool) StepFault → Ground → Ground → Type 0
TurnsLinkedBy d (Ok came) old new = TurnsLinked d (Ok came) old new
TurnsLinkedBy d (Err f) old new = WhenFull f (TurnsLinked d (Err fault.Full) old new)

-- a round, by what became of it
abbrev pub RoundBy : Result Round StepFault → Ground → Ground → Type 0
RoundBy (Ok round.Moving) old new = MakesRound (Ok (Some false)) old new
RoundBy (Ok round.Still) old new = MakesRound (Ok (Some true)) old new
RoundBy (Ok round.Crashed) old new = MakesRound (Ok None) old new
RoundBy (Err f) old new = WhenFull f (MakesRound (Err fault.Full) old new)
