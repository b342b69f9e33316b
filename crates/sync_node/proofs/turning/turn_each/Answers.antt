use Rattle.std.proofs.Common.{◌≡◌, ◌+◌, ◌&&◌, Bool, refl, arith, ◌∙◌, length, Ok, Err}
use Rattle.std.proofs.lemmas.Option.{slice_get-get_or}
use Rattle.sync_node.specs.Keeps.{LinksWork}
use Rattle.sync_node.proofs.CallLaws.{links_keep_next, links_keep_none}
use Rattle.sync_node.proofs.CourseRuns.{still_else, still_then}
use Rattle.sync_node.proofs.CauseLaws.{link_able}
use Rattle.sync_node.proofs.RunActLaws.{links_next, links_none as links_idle, links_stop as links_halt}
use Rattle.sync_node.proofs.KeepLaws.{was}
use Rattle.sync_node.proofs.turning.turn_each.Goals as goal
use Rattle.sync_node.proofs.turning.turn_each.Goals.{else-still, then-still}

pub links-init : goal.links-init
links-init g c = record {
  keeps = links_keep_none c.requires.may;
  went = λ first attached. links_idle;
  whole = c.requires.whole;
}

pub turn_link-requires-clause-able : goal.turn_link-requires-clause-able
turn_link-requires-clause-able g c =
    let attached = c.links.invariant.keeps.store.answered.attached c.requires.attached.first c.requires.attached.attached in
    link_able _ c.requires.attached.first c.links.place c.links.links _ _ _ c.links.invariant.keeps.store.answered.may attached
    (slice_get-get_or c.links.links c.links.place c.index-links-place.result (omega (arith, c.links-test.true, c.links.auto.links)))

pub turn_link-requires-clause-whole : goal.turn_link-requires-clause-whole
turn_link-requires-clause-whole g c = c.links.invariant.whole

pub links-preserved : goal.links-preserved
links-preserved g c =
    let here = slice_get-get_or c.links.links c.links.place c.index-links-place.result (omega (arith, c.links-test.true, c.links.auto.links)) in
    record {
      keeps =
          links_keep_next (Ok c.in_ok-quiet.quiet) c.links.invariant.keeps here
          c.in_ok-quiet.ensures.work.keeps c.in_ok-quiet.ensures.waits;
      went = λ first attached.
          let now = c.links.invariant.keeps.store.answered.attached first attached in
          let is : c.if-still.still ≡ (c.links.still && c.in_ok-quiet.quiet) =
          elim c.if-still.branch [
            | then-still w ↦ still_then c.links.still c.in_ok-quiet.quiet c.if-still.still w.if-still.true w.still-is
            | else-still w ↦ still_else c.links.still c.in_ok-quiet.quiet c.if-still.still w.if-still.false w.still-is
          ] in
          links_next (record { at = here; numbered = (now.each c.links.place _ here).numbered })
          (c.links.invariant.went first attached) c.in_ok-quiet.ensures.work.went
          (c.links.place + 1) c.if-still.still refl is;
      whole = c.turn_link.auto.buffer ∙ c.links.invariant.whole;
    }

pub returns-in_err-quiet : goal.returns-in_err-quiet
returns-in_err-quiet g c =
    let here = slice_get-get_or c.links.links c.links.place c.index-links-place.result
    (omega (arith, c.links-test.true, c.links.auto.links)) in
    was _ c.in_err-quiet.field-0.0 (LinksWork _ _ _ _ _ _ _ _ _) c.from_residual.ensures.1 (record {
      went = λ first attached. tt;
      stopped = λ first attached.
          let now = c.links.invariant.keeps.store.answered.attached first attached in
          links_halt (record { at = here; numbered = (now.each c.links.place _ here).numbered })
          (c.links.invariant.went first attached) c.in_err-quiet.ensures.work.stopped;
      keeps =
          links_keep_next {T = Bool} (Err c.in_err-quiet.field-0.0) c.links.invariant.keeps here
          c.in_err-quiet.ensures.work.keeps tt;
    })

pub returns : goal.returns
returns g c =
    let all : c.links.place ≡ length c.args.links.now =
    omega (arith, c.links-test.false, c.links.auto.place-end) in
    record {
      went = λ first attached.
          rw (← all) (c.links.invariant.went first attached);
      stopped = λ first attached. tt;
      keeps = c.links.invariant.keeps;
    }
