use Rattle.std.proofs.Common.{◌≡◌, ℕ, ◌+◌, false, List, [], ◌∷◌, length, arith, rules, refl, sym, ap}
use Rattle.std.proofs.Common.{◌∙◌, subst}
use Rattle.std.proofs.lemmas.List.{drop_all, length-append}
use Rattle.sync_rules.specs.Facts.{Facts}
use Rattle.sync_node.specs.declared.link.Link.{Link}
use Rattle.sync_node.specs.Node.{IsNode, NodeValue}
use Rattle.sync_node.proofs.StartActs.{free_next}
use Rattle.sync_run.specs.declared.dialling.Dialled.{Dialled}
use Rattle.sync_run.specs.Needs.{MayBeginOn}
use Rattle.sync_run.specs.Parts.{SessionsBegin}
use Rattle.sync_run.specs.Plans.{sessions_from}
use Rattle.sync_run.proofs.CourseParts.{attached_more, attaching_stopped, if_err_was, is_node_without}
use Rattle.sync_run.proofs.CourseParts.{no_session_yet}
use Rattle.sync_run.proofs.StandsLaws.{attach_stops, keeps_none, keeps_then, stands_stopped}
use Rattle.sync_run.proofs.sessions.attach_all.Goals as goal

-- how many sessions began so far
begun_at : (n n0 : NodeValue) → IsNode n → n.closed ≡ false → n.first ≡ n0.first
    → n.store.state.facts.begun ≡ n0.first + length n.links
begun_at n n0 node opened first = omega (arith, (node.attached opened).begun, first)

pub links-init : goal.links-init
links-init g c = record {
  went = no_session_yet _ _ _ _ c.requires.none c.requires.settled;
  keeps =
      keeps_none _ (g.H.Disk.tells c.args.host.now)
      (is_node_without _ c.requires.none c.requires.first);
  still_open = c.requires.still_open;
  numbered = sym (ap (λ (ls : List Link). length ls) c.requires.none);
  count = refl;
  may = c.requires.may;
  settled = c.requires.settled;
  same_contacts = refl;
}

pub links-preserved : goal.links-preserved
links-preserved g c =
    let l = c.links.invariant in
    let e = c.in_ok-attach.ensures in
    let begins = e.went l.still_open in
    let more =
    ap (λ (ls : List Link). length ls) e.links.1
    ∙ length-append c.links.node.links (e.links.0 ∷ []) in
    record {
      went =
          attached_more _ _ _ c.link-item.result c.args.node.now _ _ _ _ _
          (begun_at _ c.args.node.now l.keeps.node l.still_open l.keeps.same_first)
          c.links-test.true c.link-item.is l.went
          (λ two told. free_next _ _ _ _ ((l.may l.still_open).ready.fits two told).1)
          e.goes.goes.same_files begins;
      keeps = keeps_then _ _ _ _ _ _ l.keeps e.goes;
      still_open = e.answers.opened l.still_open;
      numbered = omega (arith, more, l.numbered);
      count = ap (λ (k : ℕ). k + 1) l.count;
      may = e.may;
      settled = (e.may (e.answers.opened l.still_open)).settled (omega (arith, more));
      same_contacts = ap (λ (f : Facts). f.contacts) begins.facts ∙ l.same_contacts;
    }

pub returns-in_err-attach : goal.returns-in_err-attach
returns-in_err-attach g c =
    let l = c.links.invariant in
    let e = c.in_err-attach.ensures in
    let x = c.in_err-attach.field-0.0 in
    let r = c.from_residual.result in
    let is = c.from_residual.ensures.1 in
    let old = g.H.Disk.tells c.links.host in
    let new = g.H.Disk.tells c.attach.new.host in
    record {
      stands =
          stands_stopped (Unit {0}) _ _ _ c.links.node c.attach.new.self _ old new l.keeps _ r x is
          e.goes (e.answers.opened l.still_open) e.may
          (attach_stops (Unit {0}) _ _ c.links.node c.attach.new.self c.links.host c.attach.new.host
          old new x (e.stops l.still_open));
      went = search rules;
      stopped =
          if_err_was r x _ is
          (attaching_stopped _ _ _ c.link-item.result c.args.node.now _ c.attach.new.self _ _ _
          (begun_at _ c.args.node.now l.keeps.node l.still_open l.keeps.same_first)
          c.links-test.true c.link-item.is l.went x (e.stopped l.still_open));
    }

pub returns : goal.returns
returns g c =
    let l = c.links.invariant in
    record {
      stands = record {
        goes = l.keeps;
        answer = l.still_open;
        may = l.may;
        stops = tt;
        number =
            omega (arith, l.numbered, l.count, c.links-test.false, c.links.auto.link-index-end);
      };
      went =
          subst (λ (ds : List Dialled). SessionsBegin (g.C.Clients.meaning c.args.clients.now)
          c.args.links.now (sessions_from c.links.node.store.state.facts.begun ds) c.args.node.now
          c.links.node (g.H.Disk.tells c.args.host.now) (g.H.Disk.tells c.links.host))
          (drop_all c.links.link-index c.args.links.now c.links-test.false) l.went;
      stopped = tt;
    }

pub attach-requires : goal.attach-requires
attach-requires g c =
    let l = c.links.invariant in
    let item =
    subst (MayBeginOn c.args.node.now.store.state.facts.contacts) (sym c.link-item.is)
    (c.requires.each c.links.link-index c.link-item.result c.links-test.true) in
    record {
      may = l.may;
      settled = λ opened. l.settled;
      begun =
          omega (
            arith,
            begun_at c.links.node c.args.node.now l.keeps.node l.still_open l.keeps.same_first,
            l.numbered,
            l.count,
            c.requires.first,
            c.links-test.true,
            c.requires.sessions,
          );
      contact = omega (arith, item.known, l.same_contacts);
      latency = item.latency;
      nonce = item.suited;
      next = l.numbered;
      few = omega (arith, l.count, c.links-test.true, c.requires.few);
      dialled =
          omega (arith, l.count, c.links-test.true, c.requires.dialled, l.keeps.goes.same_dialled);
    }
