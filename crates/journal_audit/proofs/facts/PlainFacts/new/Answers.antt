use Rattle.journal_audit.proofs.Sound.{sound_none}
use Rattle.journal_audit.proofs.facts.PlainFacts.new.Goals as goal

pub returns-clause-sound : goal.returns-clause-sound
returns-clause-sound c =
    sound_none c.new.result c.new-2.result c.new-4.result c.new-5.result c.new-7.result c.new-8.result c.in_ok-new.field-0 c.in_ok-new-2.field-0 c.in_ok-new-3.field-0
    c.new-2.ensures c.new-4.ensures.lines c.new-4.ensures.delivered c.new-5.ensures c.in_ok-new-2.ensures
