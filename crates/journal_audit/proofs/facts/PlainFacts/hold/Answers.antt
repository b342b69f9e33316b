use Rattle.std.proofs.Common.{◌≡◌, ℕ, cond, true, false, length, nat_eq, refl, ap, ◌∙◌}
use Rattle.sync_rules.specs.Facts.{Id, is_held}
use Rattle.journal_audit.specs.declared.messages.Line.{Line}
use Rattle.journal_audit.specs.Lines.{held_in}
use Rattle.journal_audit.specs.Numbers.{has}
use Rattle.journal_audit.proofs.Kept.{lines_push}
use Rattle.journal_audit.proofs.Parts.{held_facts, knows_push, no_place, with_message}
use Rattle.journal_audit.proofs.SoundHeld.{sound_held, woken_as}
use Rattle.journal_audit.proofs.facts.PlainFacts.hold.Goals as goal

pub hold-requires-2 : goal.hold-requires-2
hold-requires-2 g c =
    let held = held_in c.args.self.now.messages.lines in
    no_place held c.id_known-id.result (ap (is_held held) c.id_known-id.ensures ∙ c.requires.fits.new)

pub wake-requires : goal.wake-requires
wake-requires g c =
    let p = c.args.self.now in
    let held = held_in p.messages.lines in
    let l : Line = record {
      id = c.id_known-id.result;
      message = c.args.message;
      origin = c.args.from;
      answer = c.in_ok-answer.answer;
      judged = false;
      invalid = false;
      delivered = false;
    } in
    lines_push p.messages c.hold-2.new.self l c.requires.sound.lines c.in_ok-hold.ensures.lines c.in_ok-hold.ensures.delivered
    (ap (is_held held) c.id_known-id.ensures ∙ c.requires.fits.new) refl

pub returns-clause-held : goal.returns-clause-held
returns-clause-held g c =
    let p = c.args.self.now in
    let m = c.args.message in
    let lines = p.messages.lines in
    let l : Line = record {
      id = c.id_known-id.result;
      message = m;
      origin = c.args.from;
      answer = c.in_ok-answer.answer;
      judged = false;
      invalid = false;
      delivered = false;
    } in
    let long : c.len-n.result ≡ length lines = c.len-n.ensures.value in
    record {
      facts =
          held_facts p c.hold-2.new.self c.hold.new.self l c.requires.sound.lines c.in_ok-hold.ensures.lines c.in_ok-hold.ensures.delivered refl refl c.hold.ensures
          ∙ ap (λ (i : Id). with_message p i c.args.from m) c.id_known-id.ensures;
      sound =
          sound_held p.contacts p.groups p.levels p.messages p.rows p.waiting p.sleepers p.owed p.ready p.early c.requires.sound c.hold-2.new.self c.wake.new.waiting l
          c.in_ok-hold.ensures.lines c.in_ok-hold.ensures.delivered c.requires.fits.known_group
          (ap (is_held (held_in lines)) c.id_known-id.ensures ∙ c.requires.fits.new) refl refl
          (woken_as c.hold-2.new.self p.sleepers l.id l.id c.under.result.now c.add.new.self c.wake.new.waiting
          (λ m. cond (nat_eq m (length lines)) true (has p.waiting m)) refl c.under.ensures c.in_ok-wake.ensures
          (λ n. c.in_ok-add.ensures n ∙ ap (λ (k : ℕ). cond (nat_eq n k) true (has p.waiting n)) long));
      knows = knows_push (g.C.Clients.meaning c.args.clients.now) p.groups lines c.hold-2.new.self.lines l c.in_ok-hold.ensures.lines c.requires.knows c.in_ok-answer.ensures;
    }
