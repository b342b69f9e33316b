use Rattle.link_places.proofs.PlaceLemmas.{waking_in_time}
use Rattle.link_places.proofs.laws.wakes_in_time.Goals as goal

pub returns : goal.returns
returns c = waking_in_time
