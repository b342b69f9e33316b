use Rattle.entry_codec.specs.Spelling.{spelling_in}
use Rattle.entry_codec.proofs.writing.write_kept.Goals as goal

pub returns-else-is_err-clause-ok : goal.returns-else-is_err-clause-ok
unfolding spelling_in
returns-else-is_err-clause-ok c names = c.append_kept-appended.ensures.ok
