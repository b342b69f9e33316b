use Rattle.std.proofs.Common.{refl, sym}
use Rattle.journal_audit.proofs.Stands.{next_sound}
use Rattle.journal_audit.proofs.facts.PlainFacts.bring.Goals as goal

pub returns : goal.returns
returns c =
    next_sound c.args.self.now c.place.new.self _ c.set_from.new.self c.args.contact c.in-Some.n c.from-from.result c.in_ok-place.ensures refl
    c.from-from.ensures (sym c.in-Some.ensures) c.set_from.ensures
