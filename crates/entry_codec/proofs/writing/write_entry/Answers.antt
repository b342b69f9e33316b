use Rattle.entry_codec.specs.Spelling.{spelling, spelling_in}
use Rattle.entry_codec.proofs.WriteSteps.{spells_whole}
use Rattle.entry_codec.proofs.writing.write_entry.Goals as goal

pub returns-clause-ok : goal.returns-clause-ok
unfolding spelling spelling_in
returns-clause-ok c = c.append_entry.ensures.ok

pub returns-clause-spells : goal.returns-clause-spells
returns-clause-spells c = spells_whole c.append_entry.result c.args.entry.now c.requires.old c.append_entry.ensures.within
