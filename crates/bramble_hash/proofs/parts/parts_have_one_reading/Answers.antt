use Rattle.bramble_hash.proofs.Apart.{one_list}
use Rattle.bramble_hash.proofs.parts.parts_have_one_reading.Goals as goal

pub returns : goal.returns
returns c = one_list
