use Rattle.std.proofs.Common.{ap, ◌∙◌, ◌&&◌, cond, false, nat_eq, refl}
use Rattle.std.specs.FinSet as fin_set
use Rattle.sync_rules.specs.Facts.{Id}
use Rattle.journal_audit.specs.Lines.{invalid_in, invalid_line}
use Rattle.journal_audit.specs.Numbers.{has}
use Rattle.journal_audit.specs.Plain.{facts_of}
use Rattle.journal_audit.proofs.Parts.{invalid_facts, knows_changed}
use Rattle.journal_audit.proofs.SoundHeld.{lines_refused, sound_refused, woken_as}
use Rattle.journal_audit.proofs.Took.{line_named}
use Rattle.journal_audit.proofs.facts.PlainFacts.take_invalid.Goals as goal

pub wake-requires : goal.wake-requires
wake-requires c =
    let p = c.args.self.now in
    lines_refused p.contacts p.groups p.levels p.messages p.rows p.waiting p.sleepers p.owed p.ready p.early c.requires.sound c.refuse.new.self c.in-Some.n c.refuse.ensures.lines
    c.refuse.ensures.delivered

pub returns : goal.returns
returns c =
    let p = c.args.self.now in
    let lines = p.messages.lines in
    let l = c.line.result.now in
    let after = c.refuse.new.self in
    record {
      facts =
          invalid_facts p after c.in-Some.n l c.line.ensures c.refuse.ensures.lines c.refuse.ensures.delivered
          ∙ ap (λ (id : Id). record (facts_of p) { invalid = fin_set.insert (invalid_in lines) id }) (line_named lines c.args.id.now c.in-Some.n l c.in-Some.ensures.found c.line.ensures);
      sound =
          sound_refused p.contacts p.groups p.levels p.messages p.rows p.waiting p.sleepers p.owed p.ready p.early c.requires.sound after c.in-Some.n l c.wake.new.waiting
          c.line.ensures c.refuse.ensures.lines c.refuse.ensures.delivered
          (woken_as after p.sleepers c.args.id.now l.id c.under.result.now c.stop_waiting.new.waiting c.wake.new.waiting
          (λ m. cond (nat_eq m c.in-Some.n && l.judged) false (has p.waiting m))
          (line_named lines c.args.id.now c.in-Some.n l c.in-Some.ensures.found c.line.ensures) c.under.ensures c.in_ok-wake.ensures c.stop_waiting.ensures);
      knows = λ clients knows. knows_changed clients p.groups invalid_line (λ x. refl) (λ x. refl) c.in-Some.n lines after.lines c.refuse.ensures.lines knows;
    }
