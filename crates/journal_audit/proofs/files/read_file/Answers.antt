use Rattle.std.proofs.Common.{◌∙◌, drop, length}
use Rattle.outside.specs.Files.{file_of}
use Rattle.journal_audit.proofs.Calm.{looks_once, looks_twice, read_whole}
use Rattle.outside.proofs.MadeSteps.{look_changes}
use Rattle.journal_audit.proofs.files.read_file.Goals as goal

pub returns-in_err-len-clause-looks : goal.returns-in_err-len-clause-looks
returns-in_err-len-clause-looks g c = looks_once (g.D.Disk.tells c.args.disk.now) (g.D.Disk.tells c.len.new.self) c.len.ensures.call c.len.ensures.same c.len.ensures.cause.later (look_changes c.len.result _ _ c.len.ensures.does)

pub returns-in_err-resize-clause-looks : goal.returns-in_err-resize-clause-looks
returns-in_err-resize-clause-looks g c = looks_once (g.D.Disk.tells c.args.disk.now) (g.D.Disk.tells c.len.new.self) c.len.ensures.call c.len.ensures.same c.len.ensures.cause.later (look_changes c.len.result _ _ c.len.ensures.does)

pub returns-in_err-n-clause-looks : goal.returns-in_err-n-clause-looks
returns-in_err-n-clause-looks g c =
    let o0 = g.D.Disk.tells c.args.disk.now in
    let o1 = g.D.Disk.tells c.len.new.self in
    looks_twice o0 o1 (g.D.Disk.tells c.read_at.new.self) (looks_once o0 o1 c.len.ensures.call c.len.ensures.same c.len.ensures.cause.later (look_changes c.len.result _ _ c.len.ensures.does))
    c.read_at.ensures.call c.read_at.ensures.same c.read_at.ensures.cause.later (look_changes c.read_at.result _ _ c.read_at.ensures.does)

pub returns-clause-looks : goal.returns-clause-looks
returns-clause-looks g c =
    let o0 = g.D.Disk.tells c.args.disk.now in
    let o1 = g.D.Disk.tells c.len.new.self in
    looks_twice o0 o1 (g.D.Disk.tells c.read_at.new.self) (looks_once o0 o1 c.len.ensures.call c.len.ensures.same c.len.ensures.cause.later (look_changes c.len.result _ _ c.len.ensures.does))
    c.read_at.ensures.call c.read_at.ensures.same c.read_at.ensures.cause.later (look_changes c.read_at.result _ _ c.read_at.ensures.does)

pub returns-clause-bytes : goal.returns-clause-bytes
returns-clause-bytes g c two told =
    let items = c.resize.new.self.items in
    let buf = c.read_at.new.buf in
    read_whole (file_of two c.args.file).now buf (drop (length buf) items) c.truncate.new.self.items c.in_ok-n.n c.in_ok-len.len c.resize.new.self.len
    (c.in_ok-n.ensures.bytes two (c.len.ensures.same ∙ told)) (c.read_at.auto.buf ∙ (c.as_mut_slice.ensures.len ∙ c.in_ok-resize.ensures.len)) (c.in_ok-resize.ensures.len) (c.in_ok-len.ensures.length two told) c.truncate.ensures.items
