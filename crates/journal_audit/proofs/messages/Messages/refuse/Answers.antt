use Rattle.std.proofs.Common.{◌<◌, List, length, sym, ap, subst, ◌∙◌, refl, arith, length-set}
use Rattle.sync_rules.specs.Facts.{Held}
use Rattle.sync_rules.specs.Views.{place_of}
use Rattle.journal_audit.specs.declared.messages.Line.{Line}
use Rattle.journal_audit.specs.Lines.{Kept, invalid_line, line_changed}
use Rattle.journal_audit.proofs.Places.{held_set, line_set}
use Rattle.journal_audit.proofs.messages.Messages.refuse.Goals as goal

pub invariant_of-self : goal.invariant_of-self
invariant_of-self c =
    let lines = c.self.inside.lines.items in
    let l = c.index_mut.result.now in
    let within : c.args.n < length lines = subst (λ (k : Kept). c.args.n < length k.lines) (sym c.self.view_is) c.requires in (
      λ id. c.self.invariant.0 id
          ∙ ap (λ (hs : List Held). place_of hs id) (sym (held_set lines c.args.n l (invalid_line l) within c.index_mut.ensures.value refl)),
      omega (arith, length-set {A = Line}, c.self.invariant.1),
    )

pub returns-clause-lines : goal.returns-clause-lines
returns-clause-lines c =
    let lines = c.self.inside.lines.items in
    let within : c.args.n < length lines = subst (λ (k : Kept). c.args.n < length k.lines) (sym c.self.view_is) c.requires in
    line_set invalid_line lines c.args.n c.index_mut.result.now within c.index_mut.ensures.value
    ∙ ap (λ (k : Kept). line_changed invalid_line c.args.n k.lines) c.self.view_is
