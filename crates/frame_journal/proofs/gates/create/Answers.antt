use Rattle.std.proofs.Common.{◌≡◌, false, inl}
use Rattle.outside.specs.Files.{file_of}
use Rattle.outside.specs.Frames.{is_open}
use Rattle.outside.proofs.CallSteps.{becomes_told}
use Rattle.frame_journal.specs.Create.{CreatesJournal, PreparesJournal, PublishesHeader, ShutOrBegun, ShutOrOpened}
use Rattle.frame_journal.proofs.AppendSteps.{passed_map}
use Rattle.frame_journal.proofs.ClearSteps.{on_ok_map, becomes_new, becomes_then, passed_then}
use Rattle.frame_journal.proofs.CreateSteps.{prepares_creates, gate_begun}
use Rattle.frame_journal.proofs.gates.create.Goals as goal

pub publish-requires-clause-prepared : goal.publish-requires-clause-prepared
publish-requires-clause-prepared g c two1 had =
    let from = becomes_new (PreparesJournal c.args.file c.args.format c.args.generation) (g.D.Disk.tells c.args.disk.now).files (g.D.Disk.tells c.prepare.new.disk).files two1 had c.in_ok-prepare.ensures.prepared in
    from.2.prepared

pub returns-in_err-prepare-clause-any_moment : goal.returns-in_err-prepare-clause-any_moment
returns-in_err-prepare-clause-any_moment g c two told =
    passed_map two (g.D.Disk.tells c.args.disk.now) (g.D.Disk.tells c.prepare.new.disk) c.args.file (λ left. is_open left ≡ false) (ShutOrBegun c.args.format c.args.generation)
    (λ left shut. inl shut) (c.in_err-prepare.ensures.any_moment two told)

pub returns-clause-created : goal.returns-clause-created
returns-clause-created g c =
    let o0 = g.D.Disk.tells c.args.disk.now in
    let o1 = g.D.Disk.tells c.prepare.new.disk in
    let o2 = g.D.Disk.tells c.publish.new.disk in
    let file = c.args.file in
    let f = c.args.format in
    let n = c.args.generation in
    on_ok_map c.publish.result _ _
    (λ published. becomes_then (PreparesJournal file f n) (PublishesHeader file) (CreatesJournal file f n) o0.files o1.files o2.files (prepares_creates file f n) c.in_ok-prepare.ensures.prepared published)
    c.publish.ensures.published

pub returns-clause-any_moment : goal.returns-clause-any_moment
returns-clause-any_moment g c two told =
    let o0 = g.D.Disk.tells c.args.disk.now in
    let o1 = g.D.Disk.tells c.prepare.new.disk in
    let o2 = g.D.Disk.tells c.publish.new.disk in
    let file = c.args.file in
    let f = c.args.format in
    let n = c.args.generation in
    let mid = becomes_told (PreparesJournal file f n) o0.files o1.files two told c.in_ok-prepare.ensures.prepared in
    let first = passed_map two o0 o1 file (λ left. is_open left ≡ false) (ShutOrBegun f n) (λ left shut. inl shut) (c.in_ok-prepare.ensures.any_moment two told) in
    passed_then two mid.0 o0 o1 o2 file (ShutOrBegun f n) (ShutOrOpened (file_of mid.0 file).now) first c.in_ok-prepare.ensures.run.same_links mid.2.other
    (gate_begun file f n two mid.0 mid.2)
    (c.publish.ensures.any_moment mid.0 mid.1)
