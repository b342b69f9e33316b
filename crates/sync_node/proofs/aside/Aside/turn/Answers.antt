use Rattle.std.proofs.Common.{List, ℕ, length, refl, sym, ap, subst, arith, ◌∙◌}
use Rattle.sync_node.specs.declared.link.Link.{Link}
use Rattle.sync_node.specs.declared.node.Turned.{Turned}
use Rattle.sync_node.specs.Node.{AreAttached, MayGoOn}
use Rattle.sync_node.proofs.CallLaws.{aside_is, with_is, leaves_closed, links_work_as, never, node_by, node_may}
use Rattle.sync_node.proofs.CallLaws.{stopped_by, went_by, works_by}
use Rattle.sync_node.proofs.CauseLaws.{kept_long, kept_same}
use Rattle.sync_node.proofs.aside.Aside.turn.Goals as goal

pub same-self : goal.same-self
same-self g c = refl

pub returns-then-self : goal.returns-then-self
returns-then-self g c =
    let leaves =
    leaves_closed Turned (g.C.Clients.meaning c.args.clients.now) _ c.args.host.now
    (g.H.Disk.tells c.args.host.now) (aside_is c.self.view_is c.args.store.now c.requires.aside) c.if-self.true in
    rw (← c.self.view_is) (record {
      answers = leaves.answers;
      may = leaves.may;
      goes = leaves.goes;
      kept = record { same_first = refl; same_sessions = refl };
      stops = never _ c.if-self.true;
      went = never _ c.if-self.true;
      stopped = never _ c.if-self.true;
    })

pub turn_all-turned-requires-clause-may : goal.turn_all-turned-requires-clause-may
turn_all-turned-requires-clause-may g c =
    subst (λ (ls : List Link).
    MayGoOn (g.C.Clients.meaning c.args.clients.now) ls c.args.store.now
    (g.H.Disk.tells c.args.host.now)) (sym c.as_mut_slice.ensures.value)
    (node_may (with_is c.self.view_is c.args.store.now) c.requires.may c.if-self.false)

pub turn_all-turned-requires-clause-few : goal.turn_all-turned-requires-clause-few
turn_all-turned-requires-clause-few g c =
    omega (arith, c.self.invariant.1, ap (λ (ls : List Link). length ls) c.as_mut_slice.ensures.value)

pub turn_all-turned-requires-clause-attached : goal.turn_all-turned-requires-clause-attached
turn_all-turned-requires-clause-attached g c = record {
  first = c.self.inside.first;
  attached =
      subst (λ (ls : List Link).
      AreAttached c.self.inside.first ls c.args.store.now.state.facts)
      (sym c.as_mut_slice.ensures.value) ((aside_is c.self.view_is c.args.store.now c.requires.aside).attached c.if-self.false);
}

pub turn_all-turned-requires-clause-whole : goal.turn_all-turned-requires-clause-whole
turn_all-turned-requires-clause-whole g c =
    ap (λ (b : List ℕ). length b) c.as_mut_slice-2.ensures.value ∙ c.self.invariant.0

pub invariant_of-self : goal.invariant_of-self
invariant_of-self g c =
    let turned =
    links_work_as c.as_mut_slice.ensures.value
    (kept_same c.self.inside.links.len c.self.inside.links.items _ c.turn_all-turned.new.links
    (omega (arith, c.as_mut_slice.ensures.len)) c.as_mut_slice.ensures.value
    (omega (arith, c.turn_all-turned.auto.links)))
    c.turn_all-turned.ensures in (
      kept_long _ _ _ _ _ c.self.invariant.0 (omega (arith, c.as_mut_slice-2.ensures.len))
          c.as_mut_slice-2.ensures.value (omega (arith, c.turn_all-turned.auto.buffer)),
      (node_by c.turn_all-turned.result (aside_is c.self.view_is c.args.store.now c.requires.aside) c.if-self.false c.answer.ensures.closed turned.keeps).few,
    )

pub returns : goal.returns
returns g c =
    let turned =
    links_work_as c.as_mut_slice.ensures.value
    (kept_same c.self.inside.links.len c.self.inside.links.items _ c.turn_all-turned.new.links
    (omega (arith, c.as_mut_slice.ensures.len)) c.as_mut_slice.ensures.value
    (omega (arith, c.turn_all-turned.auto.links)))
    c.turn_all-turned.ensures in
    let attached = (aside_is c.self.view_is c.args.store.now c.requires.aside).attached c.if-self.false in
    let works =
    works_by c.turn_all-turned.result (aside_is c.self.view_is c.args.store.now c.requires.aside) c.if-self.false c.answer.ensures.closed turned.keeps
    c.args.host.now c.turn_all-turned.new.host c.answer.ensures.answer in
    rw (← c.self.view_is) (record {
      answers = works.leaves.answers;
      may = works.leaves.may;
      goes = works.leaves.goes;
      kept = works.kept;
      stops = λ opened. works.stops;
      went = λ opened.
          went_by c.turn_all-turned.result c.answer.ensures.answer _
          (turned.went c.self.inside.first attached);
      stopped = λ opened.
          stopped_by c.turn_all-turned.result c.answer.ensures.answer _
          (turned.stopped c.self.inside.first attached);
    })
