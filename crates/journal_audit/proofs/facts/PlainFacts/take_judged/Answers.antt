use Rattle.std.proofs.Common.{ap, ◌∙◌, refl}
use Rattle.std.specs.FinSet as fin_set
use Rattle.sync_rules.specs.Facts.{Id}
use Rattle.journal_audit.specs.Lines.{judged_in, judged_line}
use Rattle.journal_audit.specs.Plain.{facts_of}
use Rattle.journal_audit.proofs.Lines.{held_get}
use Rattle.journal_audit.proofs.Parts.{judged_facts, knows_changed}
use Rattle.journal_audit.proofs.SoundHeld.{lines_judged, sound_judged}
use Rattle.journal_audit.proofs.Took.{line_named}
use Rattle.journal_audit.proofs.facts.PlainFacts.take_judged.Goals as goal

pub lay_down-requires : goal.lay_down-requires
lay_down-requires c =
    let p = c.args.self.now in
    lines_judged p.contacts p.groups p.levels p.messages p.rows p.waiting p.sleepers p.owed p.ready p.early c.requires.sound c.judge.new.self c.in-Some.n c.judge.ensures.lines
    c.judge.ensures.delivered

pub returns : goal.returns
returns c =
    let p = c.args.self.now in
    let lines = p.messages.lines in
    let place = c.in-Some.ensures.found in
    let line = held_get lines c.in-Some.n place.message place.stands in
    let after = c.judge.new.self in
    record {
      facts =
          judged_facts p after c.in-Some.n line.line line.at c.judge.ensures.lines c.judge.ensures.delivered
          ∙ ap (λ (id : Id). record (facts_of p) { judged = fin_set.insert (judged_in lines) id }) (line_named lines c.args.id.now c.in-Some.n line.line place line.at);
      sound =
          sound_judged p.contacts p.groups p.levels p.messages p.rows p.waiting p.sleepers p.owed p.ready p.early c.requires.sound after c.in-Some.n
          c.lay_down.new.waiting c.lay_down.new.sleepers c.judge.ensures.lines c.judge.ensures.delivered c.in_ok-lay_down.ensures;
      knows = λ clients knows. knows_changed clients p.groups judged_line (λ l. refl) (λ l. refl) c.in-Some.n lines after.lines c.judge.ensures.lines knows;
    }
