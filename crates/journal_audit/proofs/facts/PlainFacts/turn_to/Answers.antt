use Rattle.std.proofs.Common.{refl}
use Rattle.journal_audit.proofs.Stands.{back_sound}
use Rattle.journal_audit.proofs.facts.PlainFacts.turn_to.Goals as goal

pub returns-then-now-was : goal.returns-then-now-was
returns-then-now-was c = back_sound c.args.self.now _ c.set.new.self c.set_from.new.self c.args.contact c.requires refl c.set_from.ensures
