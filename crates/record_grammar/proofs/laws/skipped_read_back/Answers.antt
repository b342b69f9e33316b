use Rattle.record_grammar.proofs.Complete.{skipped_found}
use Rattle.record_grammar.proofs.laws.skipped_read_back.Goals as goal

pub returns : goal.returns
returns c = skipped_found
