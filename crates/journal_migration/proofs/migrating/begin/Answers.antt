use Rattle.frame_journal.specs.Create.{ShutsGate}
use Rattle.journal_migration.proofs.Filled.{begun_back, begun_shut, closed_behind, prepared_behind}
use Rattle.journal_migration.proofs.Filled.{shut_settled}
use Rattle.journal_migration.proofs.Sides.{settled_one}
use Rattle.journal_migration.proofs.migrating.begin.Goals as goal

pub returns-in_err-shut_gate-clause-moments : goal.returns-in_err-shut_gate-clause-moments
returns-in_err-shut_gate-clause-moments g c two told =
    let both = c.requires.settled two told in
    c.shut_gate.ensures.any_moment two told
    (settled_one two c.args.file c.requires.file both.first both.second)

pub fill_header-requires-clause-shut : goal.fill_header-requires-clause-shut
fill_header-requires-clause-shut g c =
    shut_settled c.args.file (g.D.Disk.tells c.args.disk.now).files
    (g.D.Disk.tells c.shut_gate.new.disk).files c.requires.file c.requires.settled
    c.in_ok-shut_gate.ensures.shut

pub returns-in-Ok-clause-prepared : goal.returns-in-Ok-clause-prepared
returns-in-Ok-clause-prepared g c =
    prepared_behind c.args.file c.args.generation (ShutsGate c.args.file)
    (g.D.Disk.tells c.args.disk.now).files (g.D.Disk.tells c.shut_gate.new.disk).files
    (g.D.Disk.tells c.fill_header.new.disk).files (λ a b x. x.other)
    c.in_ok-shut_gate.ensures.shut c.in-Ok.ensures.prepared

pub returns-in-Ok-clause-moments : goal.returns-in-Ok-clause-moments
returns-in-Ok-clause-moments g c =
    begun_shut c.args.file (g.D.Disk.tells c.args.disk.now)
    (g.D.Disk.tells c.shut_gate.new.disk) (g.D.Disk.tells c.fill_header.new.disk)
    c.requires.file c.requires.settled c.in_ok-shut_gate.ensures.shut c.shut_gate.ensures.run
    c.shut_gate.ensures.any_moment c.fill_header.ensures.run c.fill_header.ensures.moments

pub cut_back-requires-clause-closed : goal.cut_back-requires-clause-closed
cut_back-requires-clause-closed g c =
    closed_behind c.args.file (g.D.Disk.tells c.shut_gate.new.disk).files
    (g.D.Disk.tells c.fill_header.new.disk).files
    (shut_settled c.args.file (g.D.Disk.tells c.args.disk.now).files
    (g.D.Disk.tells c.shut_gate.new.disk).files c.requires.file c.requires.settled
    c.in_ok-shut_gate.ensures.shut) c.fill_header.ensures.leaves

pub returns-in-Err-clause-moments : goal.returns-in-Err-clause-moments
returns-in-Err-clause-moments g c =
    begun_back c.args.file (g.D.Disk.tells c.args.disk.now)
    (g.D.Disk.tells c.shut_gate.new.disk) (g.D.Disk.tells c.fill_header.new.disk)
    c.requires.file c.requires.settled c.in_ok-shut_gate.ensures.shut c.shut_gate.ensures.run
    c.shut_gate.ensures.any_moment c.fill_header.ensures.run c.fill_header.ensures.moments
    (g.D.Disk.tells c.cut_back.new.disk) c.fill_header.ensures.leaves
    c.cut_back.ensures.any_moment
