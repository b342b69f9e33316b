use Rattle.std.proofs.Common.{List, ap}
use Rattle.sync_rules.specs.Facts.{Known, known_of}
use Rattle.journal_audit.specs.Plain.{facts_of}
use Rattle.journal_audit.proofs.Parts.{knows_group}
use Rattle.journal_audit.proofs.Sound.{sound_group}
use Rattle.journal_audit.proofs.facts.PlainFacts.take_group.Goals as goal

pub returns : goal.returns
returns c =
    let p = c.args.self.now in
    let x = known_of c.args.def in
    record {
      facts = ap (λ (groups : List Known). facts_of (record p { groups = groups })) c.in_ok-add.ensures;
      sound = sound_group p.contacts p.groups p.levels p.messages p.rows p.waiting p.sleepers p.owed p.ready p.early c.requires x c.add.new.self c.in_ok-add.ensures;
      knows = λ clients knows. knows_group clients p.groups c.add.new.self x p.messages.lines c.in_ok-add.ensures c.requires.grouped knows;
    }
