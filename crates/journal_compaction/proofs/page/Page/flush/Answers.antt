use Rattle.std.proofs.Common.{◌≡◌, ℕ, ◌≤◌, cond, List, [], ◌∷◌, length, sym, ap, subst}
use Rattle.std.proofs.Common.{◌∙◌}
use Rattle.std.specs.Prelude.{◌==◌}
use Rattle.frame_journal.specs.Append.{framed_of, payload_of}
use Rattle.frame_journal.specs.Gathering.{GathersFrames}
use Rattle.frame_journal.specs.Group.{IsGroup}
use Rattle.frame_journal.proofs.Waiting.{gathers_waits}
use Rattle.frame_journal.proofs.Closed.{leaves_none}
use Rattle.journal_compaction.specs.Paging.{closed_page}
use Rattle.journal_compaction.proofs.Filling.{closed_some}
use Rattle.journal_compaction.proofs.Working.{gathers_one, idle_works, shut_none, shut_one}
use Rattle.journal_compaction.proofs.Working.{some_bytes, works_gathered}
use Rattle.journal_compaction.proofs.page.Page.flush.Goals as goal

pub returns-then-stays-clause-shut : goal.returns-then-stays-clause-shut
returns-then-stays-clause-shut g c =
    let o = g.D.Disk.tells c.args.disk.now in
    shut_none c.args.writer.now.file o (idle_works c.args.writer.now o.files c.requires.works)

pub returns-in_err-frame-clause-shut : goal.returns-in_err-frame-clause-shut
returns-in_err-frame-clause-shut g c =
    let o = g.D.Disk.tells c.args.disk.now in
    shut_none c.args.writer.now.file o (idle_works c.args.writer.now o.files c.requires.works)

pub returns-in_err-gather-clause-shut : goal.returns-in_err-gather-clause-shut
returns-in_err-gather-clause-shut g c =
    shut_one c.args.writer.now c.frame.new.self.group (g.D.Disk.tells c.args.disk.now)
    (g.D.Disk.tells c.gather.new.disk)
    (subst IsGroup (sym c.frame.ensures.waits) c.requires.waits) c.requires.works
    c.gather.ensures.any_moment

pub returns-clause-adding : goal.returns-clause-adding
returns-clause-adding g c =
    let n = c.args.writer.now in
    let n' = c.gather.new.self in
    let p = c.args.self.now.payload.items in
    let framed = c.as_slice-2.result.now in
    let o = (g.D.Disk.tells c.args.disk.now).files in
    let o' = (g.D.Disk.tells c.gather.new.disk).files in
    let is : framed ≡ framed_of p = c.as_slice-2.ensures.value ∙ c.in_ok-frame.ensures.framed in
    let some : 1 ≤ length p =
    some_bytes (length p) c.is_empty.result (c.is_empty.ensures
    ∙ ap (λ (l : List ℕ). length l == 0) c.as_slice.ensures.value) c.if-is_empty.false in
    let one : GathersFrames n n' c.args.self.now.group c.gather.new.group (p ∷ []) o o' =
    subst (λ (l : List ℕ). GathersFrames n n' l c.gather.new.group (p ∷ []) o o')
    c.frame.ensures.waits
    (gathers_one n n' c.frame.new.self.group c.gather.new.group p framed o o' is
    c.in_ok-gather.ensures.gathers) in
    let all : cond c.args.stays [] (closed_page p) ≡ p ∷ [] =
    ap (λ b. cond b [] (closed_page p)) c.if-stays.false
    ∙ closed_some p some in
    subst (λ (added : List (List ℕ)).
    GathersFrames n n' c.args.self.now.group c.gather.new.group added o o') (sym all) one

pub returns-clause-works : goal.returns-clause-works
returns-clause-works g c =
    works_gathered c.args.writer.now c.gather.new.self c.frame.new.self.group c.gather.new.group
    (payload_of c.as_slice-2.result.now ∷ []) (g.D.Disk.tells c.args.disk.now)
    (g.D.Disk.tells c.gather.new.disk)
    (subst IsGroup (sym c.frame.ensures.waits) c.requires.waits) c.gather.ensures.run
    c.in_ok-gather.ensures.gathers c.in_ok-gather.ensures.fits c.requires.works

pub returns-clause-waits : goal.returns-clause-waits
returns-clause-waits g c =
    gathers_waits c.args.writer.now c.gather.new.self c.frame.new.self.group c.gather.new.group
    (payload_of c.as_slice-2.result.now ∷ []) (g.D.Disk.tells c.args.disk.now).files
    (g.D.Disk.tells c.gather.new.disk).files
    (subst IsGroup (sym c.frame.ensures.waits) c.requires.waits) c.in_ok-gather.ensures.gathers

pub returns-clause-shut : goal.returns-clause-shut
returns-clause-shut g c =
    shut_one c.args.writer.now c.frame.new.self.group (g.D.Disk.tells c.args.disk.now)
    (g.D.Disk.tells c.gather.new.disk)
    (subst IsGroup (sym c.frame.ensures.waits) c.requires.waits) c.requires.works
    c.gather.ensures.any_moment

pub returns-then-stays-clause-leaves : goal.returns-then-stays-clause-leaves
returns-then-stays-clause-leaves g c =
    leaves_none c.args.writer.now.file (g.D.Disk.tells c.args.disk.now).files

pub returns-in_err-frame-clause-leaves : goal.returns-in_err-frame-clause-leaves
returns-in_err-frame-clause-leaves g c =
    leaves_none c.args.writer.now.file (g.D.Disk.tells c.args.disk.now).files
