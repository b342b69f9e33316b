use Rattle.std.proofs.Common.{refl}
use Rattle.journal_audit.proofs.Stands.{becomes_early, passed}
use Rattle.journal_audit.proofs.facts.PlainFacts.pass.Goals as goal

pub returns : goal.returns
returns c =
    becomes_early c.args.self.now _ c.set.new.self c.requires refl
    (passed c.args.self.now c.set.new.self c.args.contact c.args.latency c.args.now c.start-start.result c.first_early-from.result c.requires
    c.start-start.ensures.from c.start-start.ensures.latency c.start-start.ensures.time c.first_early-from.ensures c.set.ensures)
