use Rattle.record_grammar.proofs.Parts.{longest}
use Rattle.record_grammar.proofs.laws.items_are_longest.Goals as goal

pub returns : goal.returns
returns c = longest
