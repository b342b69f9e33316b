use Rattle.store_commands.proofs.Places.{account_keeps_lines, lines_stay}
use Rattle.store_commands.proofs.laws.lines_keep_places.Goals as goal

pub returns-clause-extended : goal.returns-clause-extended
returns-clause-extended c = lines_stay

pub returns-clause-compacted : goal.returns-clause-compacted
returns-clause-compacted c = account_keeps_lines
