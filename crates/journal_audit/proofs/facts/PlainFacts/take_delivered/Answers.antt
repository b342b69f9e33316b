use Rattle.std.proofs.Common.{[], ◌∷◌, ◌++◌, ap, ◌∙◌, ◌&&◌, cond, false, nat_eq, refl}
use Rattle.sync_rules.specs.Facts.{Id}
use Rattle.journal_audit.specs.Lines.{delivered_in, delivered_line}
use Rattle.journal_audit.specs.Numbers.{has}
use Rattle.journal_audit.specs.Plain.{facts_of}
use Rattle.journal_audit.proofs.Parts.{delivered_facts, knows_changed}
use Rattle.journal_audit.proofs.SoundHeld.{lines_ended, sound_delivered, woken_as}
use Rattle.journal_audit.proofs.Took.{line_named}
use Rattle.journal_audit.proofs.facts.PlainFacts.take_delivered.Goals as goal

pub wake-requires : goal.wake-requires
wake-requires c =
    let p = c.args.self.now in
    lines_ended p.contacts p.groups p.levels p.messages p.rows p.waiting p.sleepers p.owed p.ready p.early c.requires.sound c.deliver.new.self c.in-Some.n c.line.result.now
    c.line.ensures c.in_ok-deliver.ensures.lines c.in_ok-deliver.ensures.delivered

pub returns : goal.returns
returns c =
    let p = c.args.self.now in
    let lines = p.messages.lines in
    let l = c.line.result.now in
    let after = c.deliver.new.self in
    let changed = c.in_ok-deliver.ensures.lines in
    record {
      facts =
          delivered_facts p after c.in-Some.n l c.line.ensures changed c.in_ok-deliver.ensures.delivered
          ∙ ap (λ (id : Id). record (facts_of p) { delivered = delivered_in p.messages ++ id ∷ [] }) (line_named lines c.args.id.now c.in-Some.n l c.in-Some.ensures.found c.line.ensures);
      sound =
          sound_delivered p.contacts p.groups p.levels p.messages p.rows p.waiting p.sleepers p.owed p.ready p.early c.requires.sound after c.in-Some.n l c.wake.new.waiting
          c.line.ensures changed c.in_ok-deliver.ensures.delivered
          (woken_as after p.sleepers c.args.id.now l.id c.under.result.now c.stop_waiting.new.waiting c.wake.new.waiting
          (λ m. cond (nat_eq m c.in-Some.n && l.judged) false (has p.waiting m))
          (line_named lines c.args.id.now c.in-Some.n l c.in-Some.ensures.found c.line.ensures) c.under.ensures c.in_ok-wake.ensures c.stop_waiting.ensures);
      knows = λ clients knows. knows_changed clients p.groups delivered_line (λ x. refl) (λ x. refl) c.in-Some.n lines after.lines changed knows;
    }
