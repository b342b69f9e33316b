use Rattle.std.proofs.Common.{arith, ℕ, List, [], length, refl, ap, sym, subst, inl, ◌∙◌, Err}
use Rattle.sync_words.specs.declared.outcome.Outcome.TheVariants as outcome
use Rattle.sync_run.specs.declared.dialling.Dialled.{Dialled}
use Rattle.sync_run.specs.Causes.{IsCaused}
use Rattle.sync_run.specs.Leaving.{LinksCameTo}
use Rattle.sync_run.specs.Needs.{AllMayBegin}
use Rattle.sync_run.specs.Parts.{RanOnLinks}
use Rattle.sync_run.proofs.DialActs.{dialled_ran, undialled_ran}
use Rattle.sync_run.proofs.CauseLaws.{caused_amid}
use Rattle.sync_run.proofs.LeavingLaws.{dialled_leaves}
use Rattle.sync_run.proofs.RestLaws.{rests_at, rests_ready}
use Rattle.sync_run.proofs.WordLaws.{made_long, ready_calms, specs_kept, specs_made, words_may}
use Rattle.sync_run.proofs.run.run_links.Goals as goal

pub run_dialled-requires : goal.run_dialled-requires
run_dialled-requires g c =
    let old = g.H.Disk.tells c.args.host.now in
    let dialled = g.H.Disk.tells c.dial_all.new.host in
    let dials = c.in-Ok.ensures.dials in
    let lent = c.as_slice.ensures.value in
    let long = ap (λ (l : List Dialled). length l) lent ∙ dials.all.1 in
    record {
      ready = ready_calms _ _ _ _ c.requires.ready c.dial_all.ensures.calms;
      limited = c.requires.limited;
      each =
          subst (λ (l : List Dialled). AllMayBegin c.args.store.state.facts.contacts l) (sym lent)
          (words_may _ 0 c.args.words.now _ (dials.dialled 0) c.requires.known
          c.requires.links.each);
      sessions = omega (arith, long, c.requires.sessions);
      few = omega (arith, long, c.requires.links.few);
      dialled =
          omega (
            arith,
            ap (λ (l : List Dialled). length l) lent,
            made_long _ _ old dialled dialled c.requires.unused dials.makes dials.count refl,
          );
    }

pub returns-in-Ok : goal.returns-in-Ok
returns-in-Ok g c =
    let words = c.args.words.now in
    let old = g.H.Disk.tells c.args.host.now in
    let dialled = g.H.Disk.tells c.dial_all.new.host in
    let new = g.H.Disk.tells c.run_dialled.new.host in
    let dials = c.in-Ok.ensures.dials in
    let calms = c.dial_all.ensures.calms in
    let run = c.run_dialled.ensures in
    record {
      dialled = record {
        few = omega (arith, dials.all.1, c.requires.links.few);
        made = made_long _ _ old dialled new c.requires.unused dials.makes dials.count
            run.goes.same_dialled;
      };
      rests = run.rests;
      links = record {
        specs =
            specs_kept words dialled new run.goes.same_specs
            (specs_made words _ old dialled c.requires.unused dials.front dials.makes);
        caused =
            caused_amid [] words old dialled new new (omega arith) calms.grows.faults
            (omega (arith, calms.same_faults)) (inl refl) refl refl c.run_dialled.result run.caused.1;
        leaves = dialled_leaves words old new c.run_dialled.result run.caused.0;
      };
      ran =
          dialled_ran _ c.args.limits words _ _ _ _ c.requires.unused calms _ _ _ _ dials
          c.as_slice.ensures.value run.goes run.ran;
    }

pub returns-in-Err : goal.returns-in-Err
returns-in-Err g c =
    let words = c.args.words.now in
    let old = g.H.Disk.tells c.args.host.now in
    let dialled = g.H.Disk.tells c.dial_all.new.host in
    let dials = c.in-Err.ensures.dials in
    let calms = c.dial_all.ensures.calms in
    let fails = c.dial_failed.ensures in
    record {
      dialled = record {
        few = omega (arith, dials.all.0, c.requires.links.few);
        made = made_long _ _ old dialled dialled c.requires.unused dials.makes dials.count refl;
      };
      rests = rests_at _ _ (rests_ready _ _ _ (ready_calms _ _ _ _ c.requires.ready calms));
      links =
          subst (LinksCameTo words old dialled) (sym fails) (record {
            specs = specs_made words _ old dialled c.requires.unused dials.front dials.makes;
            caused =
                subst (λ (link : ℕ). IsCaused words old dialled (Err (outcome.LinkFailed link)))
                (sym (c.len.ensures ∙ c.dial_all.new.to.ok.0)) (dials.all.0, dials.all.1);
            leaves =
                record { made = dials.made; front = dials.front; makes = dials.makes };
          });
      ran = λ j fit.
          subst (RanOnLinks _ c.args.limits words j old dialled) (sym fails)
          (undialled_ran _ c.args.limits words _ _ _ _ c.requires.unused calms _ c.len.result
          (c.len.ensures ∙ c.dial_all.new.to.ok.0) dials j fit);
    }
