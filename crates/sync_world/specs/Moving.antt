-- What becomes of a link by a step: the link afterwards, or nothing where the step is refused.
use Rattle.std.specs.Prelude.{◌≡◌, ℕ, if◌then◌else◌, List, Option, Some, None, Result, Ok, Err}
use Rattle.std.specs.Prelude.{slice_get, slice_set}
use Rattle.world_devices.specs.declared.stop.StepFault.{StepFault}
use Rattle.world_devices.specs.declared.stop.StepFault.TheVariants as fault
use Rattle.world_links.specs.declared.link.Link.{Link}
use Rattle.world_links.specs.declared.moves.Move.{Move}
use Rattle.world_links.specs.declared.moves.Move.TheVariants as move
use Rattle.world_links.specs.declared.moves.Side.{Side}
use Rattle.world_links.specs.Links.{cut, side_end, moved, side_of}
use Rattle.world_links.specs.Moves.{is_possible}
use Rattle.world_scripts.specs.declared.step.WorldStep.{WorldStep}
use Rattle.world_scripts.specs.declared.step.WorldStep.TheVariants as step

-- the first records in flight from a device move, where the link is there, the device stands at it,
-- and there is what moves
abbrev pub moved_from : Move → Link → Option Side → Option Link
moved_from how l None = None
moved_from how l (Some side) =
    if is_possible how (side_end side l).flight then Some (moved how side l) else None

abbrev pub link_moved : Move → ℕ → Option Link → Option Link
link_moved how device None = None
link_moved how device (Some l) = moved_from how l (side_of device l)

-- a link that is not cut is cut
abbrev pub link_cut : Option Link → Option Link
link_cut None = None
link_cut (Some l) = if l.is_cut then None else Some (cut l)

-- the links after a step that makes this of one of them: refused exactly where it makes nothing
abbrev pub MakesOfLink : Option Link → ℕ → List Link → List Link → Result (Unit {0}) StepFault
    → Type 0
MakesOfLink None link old new (Err fault.Refused) = new ≡ old
MakesOfLink None link old new (Err fault.Memory) = new ≡ old
MakesOfLink None link old new _ = ⊥
MakesOfLink (Some l) link old new (Ok _) = new ≡ slice_set old link l
MakesOfLink (Some l) link old new (Err fault.Memory) = new ≡ old
MakesOfLink (Some l) link old new _ = ⊥

-- the same of the link alone
abbrev pub BecomesOne : Option Link → Link → Link → Result (Unit {0}) StepFault → Type 0
BecomesOne None old new (Err fault.Refused) = new ≡ old
BecomesOne None old new (Err fault.Memory) = new ≡ old
BecomesOne None old new _ = ⊥
BecomesOne (Some l) old new (Ok _) = new ≡ l
BecomesOne (Some l) old new (Err fault.Memory) = new ≡ old
BecomesOne (Some l) old new _ = ⊥

-- what a step makes of a link, where it moves what is in flight there or cuts it: the number of the
-- link, and the link then
abbrev pub link_after_step : WorldStep → List Link → ℕ × Option Link
link_after_step (step.Carry link d) links = (link, link_moved move.Carry d (slice_get links link))
link_after_step (step.Lose link d) links = (link, link_moved move.Lose d (slice_get links link))
link_after_step (step.Repeat link d) links = (link, link_moved move.Repeat d (slice_get links link))
link_after_step (step.Swap link d) links = (link, link_moved move.Swap d (slice_get links link))
link_after_step (step.Cut link) links = (link, link_cut (slice_get links link))
link_after_step _ links = (0, None)

-- a step that failed for want of memory, or since a journal is full, is the last one that is made
abbrev pub fault_after : Result (Unit {0}) StepFault → Option StepFault
fault_after (Ok _) = None
fault_after (Err fault.Refused) = None
fault_after (Err f) = Some f
