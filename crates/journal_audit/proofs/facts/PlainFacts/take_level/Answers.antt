use Rattle.std.proofs.Common.{ap}
use Rattle.sync_rules.specs.Facts.{LevelMap}
use Rattle.journal_audit.specs.Plain.{facts_of}
use Rattle.journal_audit.proofs.Sound.{sound_level}
use Rattle.journal_audit.proofs.facts.PlainFacts.take_level.Goals as goal

pub returns : goal.returns
returns c =
    let p = c.args.self.now in
    record {
      facts = ap (λ (levels : LevelMap). facts_of (record p { levels = levels })) c.in_ok-set.ensures;
      sound =
          sound_level p.contacts p.groups p.levels p.messages p.rows p.waiting p.sleepers p.owed p.ready p.early c.requires.sound c.args.contact c.args.group c.args.level c.set.new.self
          c.set_from.new.self c.requires.fits.0 c.requires.fits.1 c.in_ok-set.ensures c.set_from.ensures;
      knows = λ clients knows. knows;
    }
