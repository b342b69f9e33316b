use Rattle.std.proofs.Common.{◌≡◌, ◌<◌, ◌∷◌, ◌++◌, [], Result, length, arith, ap, sym, ◌∙◌}
use Rattle.std.proofs.Common.{subst, refl, List}
use Rattle.std.specs.List.{slice_get}
use Rattle.std.proofs.lemmas.List.{length-append}
use Rattle.std.proofs.lemmas.Option.{slice_get_read}
use Rattle.outside.specs.declared.failed.Failed.{Failed}
use Rattle.sync_run.specs.declared.dialling.Dialled.{Dialled}
use Rattle.sync_run.specs.Dialling.{DialsAll}
use Rattle.sync_run.specs.Plans.{ArePlanned, sessions_from}
use Rattle.sync_run.proofs.RunActs.{passed}
use Rattle.sync_run.proofs.DialLaws.{calms_then, dial_stops, dialled_push, makes_next, none_then, pushed}
use Rattle.sync_run.proofs.dialling.dial_all.Goals as goal

pub returns-in_err-nonce-clause-dials : goal.returns-in_err-nonce-clause-dials
returns-in_err-nonce-clause-dials g c =
    let words = c.args.links.now in
    let i = c.links.words-index in
    let l = c.links.invariant in
    let within : i < length words = c.links-test.true in
    let there =
    slice_get_read words (length words) i c.words-item.result refl within c.words-item.is in
    let e = c.in_err-nonce.field-0.0 in
    let o0 = g.H.Disk.tells c.args.host.now in
    let o2 = g.H.Disk.tells c.dial_one.new.host in
    passed (λ (r : Result (Unit {0}) Failed). DialsAll words c.links.to.items r o0 o2)
    c.from_residual.result e c.from_residual.ensures.1
    (dial_stops words c.links.to.items i c.words-item.result e o0 (g.H.Disk.tells c.links.host) o2
    c.requires.unused l.count there within l.dialled l.makes l.unfailed
    c.in_err-nonce.ensures.makes)

pub returns-in_err-nonce-clause-calms : goal.returns-in_err-nonce-clause-calms
returns-in_err-nonce-clause-calms g c =
    calms_then _ _ _ c.links.invariant.calms c.dial_one.ensures.calms

pub links-preserved : goal.links-preserved
links-preserved g c =
    let words = c.args.links.now in
    let i = c.links.words-index in
    let l = c.links.invariant in
    let within : i < length words = c.links-test.true in
    let there =
    slice_get_read words (length words) i c.words-item.result refl within c.words-item.is in
    let items : c.push.new.self.items ≡ c.links.to.items ++ _ ∷ [] =
    pushed _ _ _ _ _ c.unwrap.ensures c.push.ensures.items in
    record {
      count = ap length items ∙ length-append c.links.to.items (_ ∷ []) ∙ omega (arith, l.count);
      room = search arith;
      dialled = λ first.
          subst (λ (ds : List Dialled). ArePlanned first words (sessions_from first ds)) (sym items)
          (dialled_push first words c.links.to.items c.words-item.result _ (l.dialled first)
          (ap (slice_get words) l.count ∙ there)
          (λ n. record {
            numbered = refl;
            same_contact = refl;
            same_mode = refl;
            same_latency = refl;
            nonce = c.in_ok-nonce.ensures.nonce;
          }));
      makes =
          makes_next words i c.words-item.result _ _ _ there l.makes c.in_ok-nonce.ensures.makes.0;
      unfailed = none_then _ _ _ l.unfailed c.in_ok-nonce.ensures.makes.1;
      calms = calms_then _ _ _ l.calms c.dial_one.ensures.calms;
    }
