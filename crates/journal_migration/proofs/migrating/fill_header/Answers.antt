use Rattle.frame_journal.specs.Create.{CutsToFirstByte}
use Rattle.frame_journal.proofs.ClearSteps.{on_ok_map}
use Rattle.frame_journal.proofs.Closed.{leaves_then}
use Rattle.journal_migration.proofs.Filled.{cleared_behind, prepared_behind, shut_both}
use Rattle.journal_migration.proofs.migrating.fill_header.Goals as goal

pub shorten-requires-clause-shut : goal.shorten-requires-clause-shut
shorten-requires-clause-shut g c two told = (c.requires.shut two told).shut

pub returns-in_err-shorten-clause-moments : goal.returns-in_err-shorten-clause-moments
returns-in_err-shorten-clause-moments g c two told =
    c.shorten.ensures.any_moment two told (c.requires.shut two told).settled

pub prepare-requires-clause-cleared : goal.prepare-requires-clause-cleared
prepare-requires-clause-cleared g c =
    cleared_behind c.args.file (g.D.Disk.tells c.args.disk.now).files
    (g.D.Disk.tells c.shorten.new.disk).files c.requires.shut c.in_ok-shorten.ensures.shortened

pub returns-clause-prepared : goal.returns-clause-prepared
returns-clause-prepared g c =
    on_ok_map c.prepare.result _ _
    (λ prepared. prepared_behind c.args.file c.args.generation (CutsToFirstByte c.args.file)
    (g.D.Disk.tells c.args.disk.now).files (g.D.Disk.tells c.shorten.new.disk).files
    (g.D.Disk.tells c.prepare.new.disk).files (λ a b x. x.other)
    c.in_ok-shorten.ensures.shortened prepared) c.prepare.ensures.prepared

pub returns-clause-moments : goal.returns-clause-moments
returns-clause-moments g c =
    shut_both c.args.file (CutsToFirstByte c.args.file) (g.D.Disk.tells c.args.disk.now)
    (g.D.Disk.tells c.shorten.new.disk) (g.D.Disk.tells c.prepare.new.disk) (λ a b x. x.other)
    c.in_ok-shorten.ensures.shortened c.shorten.ensures.run
    (λ two told. c.shorten.ensures.any_moment two told (c.requires.shut two told).settled)
    c.prepare.ensures.any_moment

pub returns-clause-leaves : goal.returns-clause-leaves
returns-clause-leaves g c =
    leaves_then c.args.file (g.D.Disk.tells c.args.disk.now).files
    (g.D.Disk.tells c.shorten.new.disk).files (g.D.Disk.tells c.prepare.new.disk).files
    c.shorten.ensures.leaves c.prepare.ensures.leaves
