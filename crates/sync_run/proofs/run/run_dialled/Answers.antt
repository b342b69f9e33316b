use Rattle.std.proofs.Common.{ap, arith, ◌∙◌, [], refl, Err}
use Rattle.outside.specs.Links.{Links}
use Rattle.sync_node.proofs.WorkLaws.{goes_then}
use Rattle.sync_run.specs.Headline.{LeavesFilesAtRest}
use Rattle.sync_run.specs.Causes.{RunCaused}
use Rattle.sync_run.proofs.CauseLaws.{caused_behind, unsettled_caused}
use Rattle.sync_run.proofs.RestLaws.{rests_stays}
use Rattle.sync_run.proofs.RunActs.{passed, settled_ran, settling_stopped}
use Rattle.sync_run.proofs.WordLaws.{goes_settled, may_settled, settles_only}
use Rattle.sync_run.proofs.run.run_dialled.Goals as goal

pub run_settled-requires-clause-settled : goal.run_settled-requires-clause-settled
run_settled-requires-clause-settled g c = c.in_ok-migrate_and_settle.ensures.settled.answer.1

pub run_settled-requires-clause-short : goal.run_settled-requires-clause-short
run_settled-requires-clause-short g c = c.in_ok-migrate_and_settle.ensures.settled.answer.2

pub run_settled-requires-clause-limited : goal.run_settled-requires-clause-limited
run_settled-requires-clause-limited g c =
    c.in_ok-migrate_and_settle.ensures.settled.comes.limit ∙ c.requires.limited

pub run_settled-requires-clause-each : goal.run_settled-requires-clause-each
run_settled-requires-clause-each g c =
    may_settled _ _ _ _ _ _ c.args.links.now c.migrate_and_settle.ensures.settled c.requires.each

pub run_settled-requires-clause-sessions : goal.run_settled-requires-clause-sessions
run_settled-requires-clause-sessions g c =
    omega (
      arith,
      (settles_only _ _ _ _ _ _ c.migrate_and_settle.ensures.settled).begun,
      c.requires.sessions,
    )

pub run_settled-requires-clause-dialled : goal.run_settled-requires-clause-dialled
run_settled-requires-clause-dialled g c =
    omega (
      arith,
      ap (λ (l : Links). l.dialled) c.migrate_and_settle.ensures.run.same_links,
      c.requires.dialled,
    )

-- it was not settled
pub returns-in_err-migrate_and_settle : goal.returns-in_err-migrate_and_settle
returns-in_err-migrate_and_settle g c =
    let old = g.H.Disk.tells c.args.host.now in
    let new = g.H.Disk.tells c.migrate_and_settle.new.disk in
    let r = c.from_residual.result in
    let e = c.in_err-migrate_and_settle.field-0.0 in
    let is = c.from_residual.ensures.1 in
    let settle = c.migrate_and_settle.ensures in
    record {
      goes = goes_settled _ _ _ _ _ _ c.requires.ready settle.run settle.settled;
      rests =
          passed (LeavesFilesAtRest new.files) r e is
          (rests_stays _ _ _ e c.in_err-migrate_and_settle.ensures.stays);
      caused =
          passed (RunCaused old new) r e is
          (unsettled_caused old new e c.in_err-migrate_and_settle.ensures.by);
      ran =
          settling_stopped _ c.args.limits c.args.links.now _ _ _ _ settle.run r e is
          c.requires.ready.fits
          c.in_err-migrate_and_settle.ensures.settled
          (λ full.
          ap g.H.Disk.tells (c.in_err-migrate_and_settle.ensures.untouched
          (ap (λ e. Err e) full)));
    }

-- the sessions ran
pub returns : goal.returns
returns g c =
    let settle = c.migrate_and_settle.ensures in
    let new = g.H.Disk.tells c.run_settled.new.host in
    record {
      goes =
          goes_then _ _ _ (goes_settled _ _ _ _ _ _ c.requires.ready settle.run settle.settled)
          c.run_settled.ensures.goes;
      rests = c.run_settled.ensures.rests;
      caused = (
        c.run_settled.ensures.caused.0,
        caused_behind [] (g.H.Disk.tells c.args.host.now)
            (g.H.Disk.tells c.migrate_and_settle.new.disk) new new settle.run refl refl
            c.run_settled.result c.run_settled.ensures.caused.1,
      );
      ran =
          settled_ran _ c.args.limits c.args.links.now _ _ _ _ settle.run
          c.in_ok-migrate_and_settle.field-0 _ c.run_settled.result
          c.in_ok-migrate_and_settle.ensures.settled c.run_settled.ensures.ran;
    }
