use Rattle.std.proofs.Common.{List, length, sym, ap, subst, ◌∙◌, arith}
use Rattle.std.specs.Vec.Iter.{into_iter_items}
use Rattle.sync_rules.specs.declared.entries.Entry.{Entry}
use Rattle.session_core.specs.Known.{IsOfAll}
use Rattle.journal_state.proofs.TakenAll.{none_left, underway_none, underway_can, underway_more, underway_whole}
use Rattle.journal_state.proofs.state.State.take_all.Goals as goal

pub loop-entry-init : goal.loop-entry-init
loop-entry-init c =
    let gives = c.into_iter-entry-iterator.ensures.into_iter_gives in (
      underway_none c.args.self.now (into_iter_items c.into_iter-entry-iterator.result) c.args.entries.items gives.0 c.requires.can,
      gives.1 ∙ (c.args.entries.ok.0 ∙ ap (λ (es : List Entry). length es) (sym gives.0)),
      subst (IsOfAll c.args.known.now) (sym gives.0) c.requires.named,
    )

pub take_entry-requires-clause-can : goal.take_entry-requires-clause-can
take_entry-requires-clause-can c =
    underway_can c.args.self.now c.loop-entry.self c.loop-entry.yielded (into_iter_items c.loop-entry.entry-iterator) (into_iter_items c.next.new.self) c.args.entries.items c.in-Some.entry
    c.loop-entry.invariant.0 c.in-Some.ensures.steps.0

pub take_entry-requires-clause-named : goal.take_entry-requires-clause-named
take_entry-requires-clause-named c = (subst (IsOfAll c.args.known.now) c.in-Some.ensures.steps.0 c.loop-entry.invariant.2).0

pub loop-entry-preserved : goal.loop-entry-preserved
loop-entry-preserved c =
    let long = ap (λ (es : List Entry). length es) c.in-Some.ensures.steps.0 in
    let len = c.in-Some.ensures.steps.1 in
    let was = c.loop-entry.invariant.1 in (
      underway_more c.args.self.now c.loop-entry.self c.take_entry.new.self c.loop-entry.yielded (into_iter_items c.loop-entry.entry-iterator) (into_iter_items c.next.new.self) c.args.entries.items c.in-Some.entry
          c.loop-entry.invariant.0 c.in-Some.ensures.steps.0 c.take_entry.ensures,
      omega (arith, long, len, was),
      (subst (IsOfAll c.args.known.now) c.in-Some.ensures.steps.0 c.loop-entry.invariant.2).1,
    )

pub returns : goal.returns
returns c =
    underway_whole c.args.self.now c.loop-entry.self c.loop-entry.yielded (into_iter_items c.loop-entry.entry-iterator) c.args.entries.items c.loop-entry.invariant.0
    (none_left (into_iter_items c.loop-entry.entry-iterator) (sym c.loop-entry.invariant.1 ∙ c.in-None.ensures.steps.0))
