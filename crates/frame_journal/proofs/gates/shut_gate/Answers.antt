use Rattle.std.proofs.Common.{◌≡◌, ◌∙◌, length, sym, rules}
use Rattle.outside.specs.Files.{file_of}
use Rattle.frame_journal.proofs.ClearSteps.{gate_read, open_read, zero_ok, zero_err, shut_ok, shut_err}
use Rattle.frame_journal.proofs.gates.shut_gate.Goals as goal

pub returns-in_err-n-clause-any_moment : goal.returns-in_err-n-clause-any_moment
returns-in_err-n-clause-any_moment g c two told pending =
    let o0 = g.D.Disk.tells c.args.disk.now in
    let o1 = g.D.Disk.tells c.read_at.new.self in
    let first = gate_read two o0 c.args.file told o1 pending c.read_at.ensures.call c.read_at.ensures.same in
    first.moments

pub returns-then-is_shut-clause-any_moment : goal.returns-then-is_shut-clause-any_moment
returns-then-is_shut-clause-any_moment g c two told pending =
    let o0 = g.D.Disk.tells c.args.disk.now in
    let o1 = g.D.Disk.tells c.read_at.new.self in
    let first = gate_read two o0 c.args.file told o1 pending c.read_at.ensures.call c.read_at.ensures.same in
    first.moments

pub returns-in_err-write_at-clause-any_moment : goal.returns-in_err-write_at-clause-any_moment
returns-in_err-write_at-clause-any_moment g c two told pending =
    let o0 = g.D.Disk.tells c.args.disk.now in
    let o1 = g.D.Disk.tells c.read_at.new.self in
    let first = gate_read two o0 c.args.file told o1 pending c.read_at.ensures.call c.read_at.ensures.same in
    let buf = c.read_at.new.buf in
    let one : length buf ≡ 1 = search rules in
    let gate = open_read (file_of two c.args.file).now buf c.in_ok-n.n (c.in_ok-n.ensures.bytes two told) one (sym c.is_shut.ensures ∙ c.if-is_shut.false) in
    zero_err two o0 c.args.file told o1 (g.D.Disk.tells c.write_at.new.self) _ gate first c.in_err-write_at.ensures.call c.in_err-write_at.ensures.written

pub returns-in_err-sync-clause-any_moment : goal.returns-in_err-sync-clause-any_moment
returns-in_err-sync-clause-any_moment g c two told pending =
    let o0 = g.D.Disk.tells c.args.disk.now in
    let o1 = g.D.Disk.tells c.read_at.new.self in
    let first = gate_read two o0 c.args.file told o1 pending c.read_at.ensures.call c.read_at.ensures.same in
    let buf = c.read_at.new.buf in
    let one : length buf ≡ 1 = search rules in
    let gate = open_read (file_of two c.args.file).now buf c.in_ok-n.n (c.in_ok-n.ensures.bytes two told) one (sym c.is_shut.ensures ∙ c.if-is_shut.false) in
    let o2 = g.D.Disk.tells c.write_at.new.self in
    let second = zero_ok two o0 c.args.file told o1 o2 tt gate first c.in_ok-write_at.ensures.call c.in_ok-write_at.ensures.written in
    shut_err two o0 c.args.file told o2 (g.D.Disk.tells c.sync.new.self) _ gate second c.in_err-sync.ensures.call c.in_err-sync.ensures.synced

pub returns-clause-any_moment : goal.returns-clause-any_moment
returns-clause-any_moment g c two told pending =
    let o0 = g.D.Disk.tells c.args.disk.now in
    let o1 = g.D.Disk.tells c.read_at.new.self in
    let first = gate_read two o0 c.args.file told o1 pending c.read_at.ensures.call c.read_at.ensures.same in
    let buf = c.read_at.new.buf in
    let one : length buf ≡ 1 = search rules in
    let gate = open_read (file_of two c.args.file).now buf c.in_ok-n.n (c.in_ok-n.ensures.bytes two told) one (sym c.is_shut.ensures ∙ c.if-is_shut.false) in
    let o2 = g.D.Disk.tells c.write_at.new.self in
    let second = zero_ok two o0 c.args.file told o1 o2 tt gate first c.in_ok-write_at.ensures.call c.in_ok-write_at.ensures.written in
    shut_ok two o0 c.args.file told o2 (g.D.Disk.tells c.sync.new.self) tt second c.in_ok-sync.ensures.call c.in_ok-sync.ensures.synced
