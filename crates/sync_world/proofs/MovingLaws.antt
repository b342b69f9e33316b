-- One link of several that becomes another one.
use Rattle.std.proofs.Common.{◌≡◌, ℕ, ◌<◌, List, length, sym, ap}
use Rattle.std.proofs.Common.{subst, Option, Some, None, Result, Ok, Err}
use Rattle.std.specs.Prelude.{slice_get, slice_index_or, slice_set}
use Rattle.world_devices.specs.declared.stop.StepFault.{StepFault}
use Rattle.world_devices.specs.declared.stop.StepFault.TheVariants as fault
use Rattle.world_links.specs.declared.link.Link.{Link}
use Rattle.sync_world.specs.Moving.{MakesOfLink, BecomesOne}
use Rattle.sync_world.proofs.WireLaws.{get_at, set_back}

becomes_set : (o : Option Link) (i : ℕ) (ls : List Link) (l new : Link)
    (result : Result (Unit {0}) StepFault) → slice_get ls i ≡ Some l → BecomesOne o l new result
    → MakesOfLink o i ls (slice_set ls i new) result
becomes_set None i ls l new (Ok u) is one = one
becomes_set None i ls l new (Err fault.Refused) is one = set_back ls i l new is one
becomes_set None i ls l new (Err fault.Full) is one = one
becomes_set None i ls l new (Err fault.Memory) is one = set_back ls i l new is one
becomes_set (Some m) i ls l new (Ok u) is one = ap (λ (x : Link). slice_set ls i x) one
becomes_set (Some m) i ls l new (Err fault.Refused) is one = one
becomes_set (Some m) i ls l new (Err fault.Full) is one = one
becomes_set (Some m) i ls l new (Err fault.Memory) is one = set_back ls i l new is one

-- the link of a number becomes what it becomes by itself
pub becomes_at : (made : Option Link → Option Link) (i : ℕ) (ls : List Link) (l new : Link)
    (result : Result (Unit {0}) StepFault) → i < length ls → l ≡ slice_index_or ls i l
    → BecomesOne (made (Some l)) l new result
    → MakesOfLink (made (slice_get ls i)) i ls (slice_set ls i new) result
becomes_at made i ls l new result within is one =
    let there = get_at ls i l within is in
    subst (λ (o : Option Link). MakesOfLink (made o) i ls (slice_set ls i new) result) (sym there)
    (becomes_set (made (Some l)) i ls l new result there one)
