use Rattle.std.proofs.Common.{ℕ, List, [], ◌∷◌, take, sym, subst}
use Rattle.outside.specs.Files.{file_of}
use Rattle.frame_journal.specs.Append.{payload_of}
use Rattle.frame_journal.proofs.Closed.{leaves_looks}
use Rattle.entry_codec.specs.Payloads.{names_of}
use Rattle.journal_migration.specs.Copying.{IsRespelled}
use Rattle.journal_migration.specs.Faults.{fault_of_frame}
use Rattle.journal_migration.specs.declared.fault.MigrationFault.TheVariants as fault
use Rattle.journal_migration.proofs.Copied.{copied_all, copied_cut, copied_not, copied_one}
use Rattle.journal_migration.proofs.Copied.{next_false, next_true}
use Rattle.journal_migration.proofs.Errors.{err_is}
use Rattle.journal_migration.proofs.Back.{leaves_behind}
use Rattle.journal_migration.proofs.Shut.{moves_true, works_gathered}
use Rattle.journal_migration.proofs.copying.copy_next.Goals as goal

pub returns-in_err-more-clause-copies : goal.returns-in_err-more-clause-copies
returns-in_err-more-clause-copies g c clients generation j two told copies =
    let e = fault_of_frame c.in_err-more.field-0.0 in
    copied_not clients c.args.state.now.facts generation j c.args.reader.now c.next_frame.new.self
    c.args.writer.now c.args.writer.now c.args.group.now c.args.group.now c.args.count
    (g.D.Disk.tells c.args.disk.now) (g.D.Disk.tells c.next_frame.new.disk) two told c.requires.pair
    copies c.next_frame.ensures.looks e c.from_residual.result
    (err_is c.from_residual.result e c.from_residual.ensures.1)

pub returns-then-not-more-clause-copies : goal.returns-then-not-more-clause-copies
returns-then-not-more-clause-copies g c clients generation j two told copies =
    let r = c.args.reader.now in
    let r' = c.next_frame.new.self in
    let next = next_false (file_of two r.file).now r r' c.next_frame.new.to.items c.in_ok-more.more
    c.if-not-more.true (c.in_ok-more.ensures.next two told) in
    copied_all clients c.args.state.now.facts generation j r r' c.args.writer.now c.args.group.now
    c.args.count
    (g.D.Disk.tells c.args.disk.now) (g.D.Disk.tells c.next_frame.new.disk) two told c.requires.pair
    copies c.next_frame.ensures.looks next.1 next.0

pub returns-in_err-respelled-clause-copies : goal.returns-in_err-respelled-clause-copies
returns-in_err-respelled-clause-copies g c clients generation j two told copies =
    let e = c.in_err-respelled.field-0.0 in
    copied_not clients c.args.state.now.facts generation j c.args.reader.now c.next_frame.new.self
    c.args.writer.now c.args.writer.now c.args.group.now c.args.group.now c.args.count
    (g.D.Disk.tells c.args.disk.now) (g.D.Disk.tells c.next_frame.new.disk) two told c.requires.pair
    copies c.next_frame.ensures.looks e c.from_residual-in_err-respelled.result
    (err_is c.from_residual-in_err-respelled.result e c.from_residual-in_err-respelled.ensures.1)

pub returns-in_err-gather-clause-copies : goal.returns-in_err-gather-clause-copies
returns-in_err-gather-clause-copies g c clients generation j two told copies =
    copied_cut clients c.args.state.now.facts generation j c.args.reader.now c.next_frame.new.self
    c.args.writer.now c.gather.new.self c.args.group.now c.gather.new.group c.args.count
    (g.D.Disk.tells c.args.disk.now) (g.D.Disk.tells c.next_frame.new.disk)
    (g.D.Disk.tells c.gather.new.disk) two told c.requires.pair copies
    c.next_frame.ensures.looks
    c.in_err-gather.ensures.any_moment c.from_residual-in_err-gather.result
    (err_is c.from_residual-in_err-gather.result fault.DiskFault
    c.from_residual-in_err-gather.ensures.1)

pub returns-clause-works : goal.returns-clause-works
returns-clause-works g c =
    let r = c.args.reader.now in
    let r' = c.next_frame.new.self in
    let moved = moves_true r r' c.in_ok-more.more c.if-not-more.false c.in_ok-more.ensures.moves in
    works_gathered r r' c.args.writer.now c.gather.new.self c.args.group.now c.gather.new.group
    (payload_of c.as_slice-2.result.now ∷ [])
    (g.D.Disk.tells c.args.disk.now) (g.D.Disk.tells c.next_frame.new.disk)
    (g.D.Disk.tells c.gather.new.disk) c.requires.pair c.requires.waits.waits c.requires.works
    c.next_frame.ensures.looks c.gather.ensures.run c.in_ok-gather.ensures.gathers
    c.in_ok-gather.ensures.fits moved.0 moved.1

pub returns-clause-copies : goal.returns-clause-copies
returns-clause-copies g c clients generation j two told copies =
    let r = c.args.reader.now in
    let r' = c.next_frame.new.self in
    let to = c.next_frame.new.to.items in
    let f = c.args.state.now.facts in
    let respelled : IsRespelled (take c.args.count (names_of f)) to c.as_slice-2.result.now
    c.in_ok-respelled.respelled.brought =
    subst (λ (framed : List ℕ).
    IsRespelled (take c.args.count (names_of f)) to framed c.in_ok-respelled.respelled.brought)
    (sym c.as_slice-2.ensures.value)
    (subst (λ (bytes : List ℕ).
    IsRespelled (take c.args.count (names_of f)) bytes c.in_ok-respelled.respelled.framed.items
    c.in_ok-respelled.respelled.brought) c.as_slice.ensures.value
    c.in_ok-respelled.ensures.spelled) in
    copied_one c.cite_laws.ensures clients f generation j r r' c.args.writer.now c.gather.new.self
    c.args.group.now c.gather.new.group
    c.args.count c.in_ok-respelled.respelled.brought to c.as_slice-2.result.now
    (g.D.Disk.tells c.args.disk.now) (g.D.Disk.tells c.next_frame.new.disk)
    (g.D.Disk.tells c.gather.new.disk) two told c.requires.pair copies
    c.next_frame.ensures.looks
    c.in_ok-gather.ensures.any_moment c.in_ok-gather.ensures.gathers c.in_ok-gather.ensures.fits
    c.show_sound.ensures.few
    (next_true (file_of two r.file).now r r' to c.in_ok-more.more c.if-not-more.false
    (c.in_ok-more.ensures.next two told)) respelled

pub returns-in_err-more-clause-leaves : goal.returns-in_err-more-clause-leaves
returns-in_err-more-clause-leaves g c =
    leaves_looks c.args.writer.now.file (g.D.Disk.tells c.args.disk.now).files
    (g.D.Disk.tells c.next_frame.new.disk).files c.next_frame.ensures.looks.same_files

pub returns-then-not-more-clause-leaves : goal.returns-then-not-more-clause-leaves
returns-then-not-more-clause-leaves g c =
    leaves_looks c.args.writer.now.file (g.D.Disk.tells c.args.disk.now).files
    (g.D.Disk.tells c.next_frame.new.disk).files c.next_frame.ensures.looks.same_files

pub returns-in_err-respelled-clause-leaves : goal.returns-in_err-respelled-clause-leaves
returns-in_err-respelled-clause-leaves g c =
    leaves_looks c.args.writer.now.file (g.D.Disk.tells c.args.disk.now).files
    (g.D.Disk.tells c.next_frame.new.disk).files c.next_frame.ensures.looks.same_files

pub returns-in_err-gather-clause-leaves : goal.returns-in_err-gather-clause-leaves
returns-in_err-gather-clause-leaves g c =
    leaves_behind c.args.writer.now.file (g.D.Disk.tells c.args.disk.now).files
    (g.D.Disk.tells c.next_frame.new.disk).files (g.D.Disk.tells c.gather.new.disk).files
    c.next_frame.ensures.looks.same_files c.gather.ensures.leaves

pub returns-clause-leaves : goal.returns-clause-leaves
returns-clause-leaves g c =
    leaves_behind c.args.writer.now.file (g.D.Disk.tells c.args.disk.now).files
    (g.D.Disk.tells c.next_frame.new.disk).files (g.D.Disk.tells c.gather.new.disk).files
    c.next_frame.ensures.looks.same_files c.gather.ensures.leaves
