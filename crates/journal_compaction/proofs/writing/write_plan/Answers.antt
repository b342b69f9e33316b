use Rattle.std.proofs.Common.{◌≡◌, ℕ, ◌+◌, ◌≤◌, List, [], ◌++◌, ◌∙◌, arith, subst, sym}
use Rattle.std.specs.List.{AllByRecursion}
use Rattle.outside.specs.declared.limits.TheConstants.{MAX_JOURNAL}
use Rattle.outside.proofs.CallSteps.{run_then}
use Rattle.sync_rules.specs.declared.limits.TheConstants.{MAX_ROWS, MAX_STEPS}
use Rattle.frame_journal.specs.Gathering.{GathersFrames}
use Rattle.frame_journal.specs.Group.{group_len}
use Rattle.frame_journal.proofs.ClearSteps.{on_ok_map}
use Rattle.frame_journal.proofs.Waiting.{gathers_long, gathers_then}
use Rattle.entry_codec.specs.Spelling.{IsEntry}
use Rattle.journal_migration.proofs.Back.{leaves_on}
use Rattle.journal_compaction.specs.declared.items.Item.{Item}
use Rattle.journal_compaction.specs.Items.{entry_of}
use Rattle.journal_compaction.specs.Paging.{frames_len, pages}
use Rattle.journal_compaction.specs.Planning.{AreWritten, plan_pages}
use Rattle.journal_compaction.proofs.Weighing.{frames-append}
use Rattle.journal_compaction.proofs.Working.{shut_then, written_of}
use Rattle.journal_compaction.proofs.writing.write_plan.Goals as goal

-- there is room for the second list, and for the third
second_room : (head told peers : List (List ℕ)) (start first : ℕ)
    → start + frames_len (head ++ (told ++ peers)) ≤ MAX_JOURNAL
    → first ≡ start + frames_len head → first + frames_len told ≤ MAX_JOURNAL
second_room head told peers start first room is =
    omega (arith, room, is, frames-append head (told ++ peers), frames-append told peers)

third_room : (head told peers : List (List ℕ)) (start first second : ℕ)
    → start + frames_len (head ++ (told ++ peers)) ≤ MAX_JOURNAL
    → first ≡ start + frames_len head → second ≡ first + frames_len told
    → second + frames_len peers ≤ MAX_JOURNAL
third_room head told peers start first second room is then =
    omega (arith, room, is, then, frames-append head (told ++ peers), frames-append told peers)

pub write_items-requires-2-clause-room : goal.write_items-requires-2-clause-room
write_items-requires-2-clause-room g c =
    let f = c.args.state.now.facts in
    let p = c.args.plan.now in
    let n0 = c.args.writer.now in
    let n1 = c.write_items.new.writer in
    let g0 = c.args.page.now.group in
    let g1 = c.write_items.new.page.group in
    let o0 = (g.D.Disk.tells c.args.disk.now).files in
    let o1 = (g.D.Disk.tells c.write_items.new.disk).files in
    let head : GathersFrames n0 n1 g0 g1 (pages f MAX_STEPS 0 [] p.head.items) o0 o1 =
    subst (λ (l : List Item). GathersFrames n0 n1 g0 g1 (pages f MAX_STEPS 0 [] l) o0 o1)
    c.as_slice.ensures.value
    c.in_ok-write_items.ensures.adding in
    subst (λ (l : List Item).
    n1.end + group_len g1 + frames_len (pages f MAX_STEPS 0 [] l) ≤ MAX_JOURNAL)
    (sym c.as_slice-2.ensures.value)
    (second_room (pages f MAX_STEPS 0 [] p.head.items) (pages f MAX_STEPS 0 [] p.told.items)
    (pages f MAX_ROWS 0 [] p.peers.items) (n0.end + group_len g0) (n1.end + group_len g1)
    c.requires.room
    (gathers_long n0 n1 g0 g1 (pages f MAX_STEPS 0 [] p.head.items) o0 o1 c.requires.waits head))

pub write_items-requires-3-clause-room : goal.write_items-requires-3-clause-room
write_items-requires-3-clause-room g c =
    let f = c.args.state.now.facts in
    let p = c.args.plan.now in
    let n0 = c.args.writer.now in
    let n1 = c.write_items.new.writer in
    let n2 = c.write_items-2.new.writer in
    let g0 = c.args.page.now.group in
    let g1 = c.write_items.new.page.group in
    let g2 = c.write_items-2.new.page.group in
    let o0 = (g.D.Disk.tells c.args.disk.now).files in
    let o1 = (g.D.Disk.tells c.write_items.new.disk).files in
    let o2 = (g.D.Disk.tells c.write_items-2.new.disk).files in
    let head : GathersFrames n0 n1 g0 g1 (pages f MAX_STEPS 0 [] p.head.items) o0 o1 =
    subst (λ (l : List Item). GathersFrames n0 n1 g0 g1 (pages f MAX_STEPS 0 [] l) o0 o1)
    c.as_slice.ensures.value
    c.in_ok-write_items.ensures.adding in
    let told : GathersFrames n1 n2 g1 g2 (pages f MAX_STEPS 0 [] p.told.items) o1 o2 =
    subst (λ (l : List Item). GathersFrames n1 n2 g1 g2 (pages f MAX_STEPS 0 [] l) o1 o2)
    c.as_slice-2.ensures.value
    c.in_ok-write_items-2.ensures.adding in
    subst (λ (l : List Item).
    n2.end + group_len g2 + frames_len (pages f MAX_ROWS 0 [] l) ≤ MAX_JOURNAL)
    (sym c.as_slice-3.ensures.value)
    (third_room (pages f MAX_STEPS 0 [] p.head.items) (pages f MAX_STEPS 0 [] p.told.items)
    (pages f MAX_ROWS 0 [] p.peers.items) (n0.end + group_len g0) (n1.end + group_len g1)
    (n2.end + group_len g2) c.requires.room
    (gathers_long n0 n1 g0 g1 (pages f MAX_STEPS 0 [] p.head.items) o0 o1 c.requires.waits head)
    (gathers_long n1 n2 g1 g2 (pages f MAX_STEPS 0 [] p.told.items) o1 o2
    c.in_ok-write_items.ensures.waits told))

pub returns-clause-within : goal.returns-clause-within
returns-clause-within g c =
    let f = c.args.state.now.facts in
    let Within : List Item → Type 0 =
    AllByRecursion (λ (i : Item). IsEntry (entry_of f i)) in
    on_ok_map c.write_items-3.result (Within c.as_slice-3.result.now)
    (AreWritten f c.args.plan.now)
    (λ within. record {
      head = subst Within c.as_slice.ensures.value c.in_ok-write_items.ensures.within;
      told = subst Within c.as_slice-2.ensures.value c.in_ok-write_items-2.ensures.within;
      peers = subst Within c.as_slice-3.ensures.value within;
    })
    c.write_items-3.ensures.within

pub returns-in_err-write_items-2-clause-run : goal.returns-in_err-write_items-2-clause-run
returns-in_err-write_items-2-clause-run g c =
    run_then (g.D.Disk.tells c.args.disk.now) (g.D.Disk.tells c.write_items.new.disk)
    (g.D.Disk.tells c.write_items-2.new.disk) c.write_items.ensures.run
    c.write_items-2.ensures.run

pub returns-clause-run : goal.returns-clause-run
returns-clause-run g c =
    let o0 = g.D.Disk.tells c.args.disk.now in
    let o1 = g.D.Disk.tells c.write_items.new.disk in
    let o2 = g.D.Disk.tells c.write_items-2.new.disk in
    run_then o0 o2 (g.D.Disk.tells c.write_items-3.new.disk)
    (run_then o0 o1 o2 c.write_items.ensures.run c.write_items-2.ensures.run)
    c.write_items-3.ensures.run

pub returns-clause-adding : goal.returns-clause-adding
returns-clause-adding g c =
    let f = c.args.state.now.facts in
    let p = c.args.plan.now in
    let n0 = c.args.writer.now in
    let n1 = c.write_items.new.writer in
    let n2 = c.write_items-2.new.writer in
    let n3 = c.write_items-3.new.writer in
    let g0 = c.args.page.now.group in
    let g1 = c.write_items.new.page.group in
    let g2 = c.write_items-2.new.page.group in
    let g3 = c.write_items-3.new.page.group in
    let o0 = (g.D.Disk.tells c.args.disk.now).files in
    let o1 = (g.D.Disk.tells c.write_items.new.disk).files in
    let o2 = (g.D.Disk.tells c.write_items-2.new.disk).files in
    let o3 = (g.D.Disk.tells c.write_items-3.new.disk).files in
    let head : GathersFrames n0 n1 g0 g1 (pages f MAX_STEPS 0 [] p.head.items) o0 o1 =
    subst (λ (l : List Item). GathersFrames n0 n1 g0 g1 (pages f MAX_STEPS 0 [] l) o0 o1)
    c.as_slice.ensures.value
    c.in_ok-write_items.ensures.adding in
    let told : GathersFrames n1 n2 g1 g2 (pages f MAX_STEPS 0 [] p.told.items) o1 o2 =
    subst (λ (l : List Item). GathersFrames n1 n2 g1 g2 (pages f MAX_STEPS 0 [] l) o1 o2)
    c.as_slice-2.ensures.value
    c.in_ok-write_items-2.ensures.adding in
    on_ok_map c.write_items-3.result
    (GathersFrames n2 n3 g2 g3 (pages f MAX_ROWS 0 [] c.as_slice-3.result.now) o2 o3)
    (GathersFrames n0 n3 g0 g3 (plan_pages f p) o0 o3)
    (λ adding.
    let peers : GathersFrames n2 n3 g2 g3 (pages f MAX_ROWS 0 [] p.peers.items) o2 o3 =
    subst (λ (l : List Item). GathersFrames n2 n3 g2 g3 (pages f MAX_ROWS 0 [] l) o2 o3)
    c.as_slice-3.ensures.value adding in
    gathers_then n0 n1 n3 g0 g1 g3 (pages f MAX_STEPS 0 [] p.head.items)
    (pages f MAX_STEPS 0 [] p.told.items ++ pages f MAX_ROWS 0 [] p.peers.items) o0 o1 o3 head
    (gathers_then n1 n2 n3 g1 g2 g3 (pages f MAX_STEPS 0 [] p.told.items)
    (pages f MAX_ROWS 0 [] p.peers.items) o1 o2 o3 told
    peers))
    c.write_items-3.ensures.adding

pub returns-in_err-write_items-2-clause-leaves : goal.returns-in_err-write_items-2-clause-leaves
returns-in_err-write_items-2-clause-leaves g c =
    let first = written_of c.args.writer.now c.write_items.new.writer c.args.page.now.group
    c.write_items.new.page.group _ (g.D.Disk.tells c.args.disk.now).files
    (g.D.Disk.tells c.write_items.new.disk).files c.requires.waits
    c.in_ok-write_items.ensures.adding in
    leaves_on c.args.writer.now.file c.write_items.new.writer.file
    (g.D.Disk.tells c.args.disk.now).files (g.D.Disk.tells c.write_items.new.disk).files
    (g.D.Disk.tells c.write_items-2.new.disk).files
    first.grows.file_is c.write_items.ensures.leaves
    c.write_items-2.ensures.leaves

pub returns-clause-leaves : goal.returns-clause-leaves
returns-clause-leaves g c =
    let file = c.args.writer.now.file in
    let o0 = (g.D.Disk.tells c.args.disk.now).files in
    let o1 = (g.D.Disk.tells c.write_items.new.disk).files in
    let o2 = (g.D.Disk.tells c.write_items-2.new.disk).files in
    let o3 = (g.D.Disk.tells c.write_items-3.new.disk).files in
    let w1 = written_of c.args.writer.now c.write_items.new.writer c.args.page.now.group
    c.write_items.new.page.group _ o0 o1 c.requires.waits c.in_ok-write_items.ensures.adding in
    let w2 = written_of c.write_items.new.writer c.write_items-2.new.writer
    c.write_items.new.page.group c.write_items-2.new.page.group _ o1 o2
    c.in_ok-write_items.ensures.waits c.in_ok-write_items-2.ensures.adding in
    let first = w1.grows.file_is in
    let second = w2.grows.file_is in
    leaves_on file c.write_items-2.new.writer.file o0 o2 o3 (second ∙ first)
    (leaves_on file c.write_items.new.writer.file o0 o1 o2 first c.write_items.ensures.leaves
    c.write_items-2.ensures.leaves) c.write_items-3.ensures.leaves

pub returns-clause-shut : goal.returns-clause-shut
returns-clause-shut g c =
    let o0 = g.D.Disk.tells c.args.disk.now in
    let o1 = g.D.Disk.tells c.write_items.new.disk in
    let o2 = g.D.Disk.tells c.write_items-2.new.disk in
    let o3 = g.D.Disk.tells c.write_items-3.new.disk in
    let w1 = written_of c.args.writer.now c.write_items.new.writer c.args.page.now.group
    c.write_items.new.page.group _ o0.files o1.files c.requires.waits
    c.in_ok-write_items.ensures.adding in
    let w2 = written_of c.write_items.new.writer c.write_items-2.new.writer
    c.write_items.new.page.group c.write_items-2.new.page.group _ o1.files o2.files
    c.in_ok-write_items.ensures.waits c.in_ok-write_items-2.ensures.adding in
    shut_then c.args.writer.now c.write_items.new.writer _ o0 o1 o3 c.write_items.ensures.shut
    c.write_items.ensures.run w1
    (shut_then c.write_items.new.writer c.write_items-2.new.writer _ o1 o2 o3
    c.write_items-2.ensures.shut c.write_items-2.ensures.run w2 c.write_items-3.ensures.shut)

-- the first fails at the second list
pub returns-in_err-write_items-2-clause-shut : goal.returns-in_err-write_items-2-clause-shut
returns-in_err-write_items-2-clause-shut g c =
    let o0 = g.D.Disk.tells c.args.disk.now in
    let o1 = g.D.Disk.tells c.write_items.new.disk in
    let o2 = g.D.Disk.tells c.write_items-2.new.disk in
    let w1 = written_of c.args.writer.now c.write_items.new.writer c.args.page.now.group
    c.write_items.new.page.group _ o0.files o1.files c.requires.waits
    c.in_ok-write_items.ensures.adding in
    shut_then c.args.writer.now c.write_items.new.writer _ o0 o1 o2 c.write_items.ensures.shut
    c.write_items.ensures.run w1 c.write_items-2.ensures.shut
