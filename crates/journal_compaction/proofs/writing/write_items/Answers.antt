use Rattle.std.proofs.Common.{◌≡◌, ◌+◌, List, [], ◌∷◌, length, drop, get_or, ap, subst, arith}
use Rattle.std.proofs.lemmas.List.{drop_all, drop_more, take_more}
use Rattle.outside.proofs.CallSteps.{run_none, run_then}
use Rattle.frame_journal.proofs.ClearSteps.{on_ok_map}
use Rattle.frame_journal.proofs.Closed.{leaves_none}
use Rattle.entry_codec.specs.Spelling.{IsEntry}
use Rattle.journal_compaction.specs.declared.items.Item.{Item}
use Rattle.journal_compaction.specs.declared.items.Item.TheVariants as item
use Rattle.journal_compaction.specs.Items.{entry_of}
use Rattle.journal_compaction.specs.Paging.{closed_page, pages}
use Rattle.frame_journal.specs.Gathering.{GathersFrames}
use Rattle.journal_compaction.specs.Writing.{Written}
use Rattle.journal_migration.proofs.Back.{leaves_on}
use Rattle.journal_compaction.proofs.Pages.{all_more, last_room, more_room, written_all}
use Rattle.journal_compaction.proofs.Pages.{written_more, written_none}
use Rattle.journal_compaction.proofs.Working.{idle_works, shut_none, shut_then, written_of}
use Rattle.journal_compaction.proofs.writing.write_items.Goals as goal

pub items-init : goal.items-init
items-init g c =
    let o = g.D.Disk.tells c.args.disk.now in
    record {
      space = omega (arith, ap length c.requires.empty);
      within = tt;
      written = written_none c.args.state.now.facts c.args.most c.args.items.now
          c.args.page.now.payload.items
          c.args.writer.now c.args.page.now.group o.files c.requires.empty;
      waits = c.requires.waits;
      works = c.requires.works;
      shut =
          shut_none c.args.writer.now.file o
          (idle_works c.args.writer.now o.files c.requires.works);
      leaves = leaves_none c.args.writer.now.file o.files;
      run = run_none o;
    }

pub write_item-requires-clause-room : goal.write_item-requires-clause-room
write_item-requires-clause-room g c =
    let f = c.args.state.now.facts in
    let most = c.args.most in
    let items = c.args.items.now in
    let n = c.items.item-index in
    let i : Item = get_or items n item.Brief in
    let rest = drop (n + 1) items in
    let page = c.items.page.payload.items in
    let n0 = c.args.writer.now in
    let n1 = c.items.writer in
    let g0 = c.args.page.now.group in
    let g1 = c.items.page.group in
    let o0 = (g.D.Disk.tells c.args.disk.now).files in
    let o1 = (g.D.Disk.tells c.items.disk).files in
    let so_far : Written f most items (i ∷ rest) c.items.left page n0 n1 g0 g1 o0 o1 =
    subst (λ (l : List Item). Written f most items l c.items.left page n0 n1 g0 g1 o0 o1)
    (drop_more items n item.Brief c.items-test.true) c.items.invariant.written in
    more_room f most items rest i c.items.left page n0 n1 g0 g1 o0 o1 so_far c.requires.waits
    c.requires.room

pub returns-in_err-left-clause-run : goal.returns-in_err-left-clause-run
returns-in_err-left-clause-run g c =
    run_then (g.D.Disk.tells c.args.disk.now) (g.D.Disk.tells c.items.disk)
    (g.D.Disk.tells c.write_item.new.disk) c.items.invariant.run c.write_item.ensures.run

pub items-preserved : goal.items-preserved
items-preserved g c =
    let f = c.args.state.now.facts in
    let most = c.args.most in
    let items = c.args.items.now in
    let n = c.items.item-index in
    let i : Item = get_or items n item.Brief in
    let rest = drop (n + 1) items in
    let page = c.items.page.payload.items in
    let n0 = c.args.writer.now in
    let n1 = c.items.writer in
    let g0 = c.args.page.now.group in
    let g1 = c.items.page.group in
    let o0 = g.D.Disk.tells c.args.disk.now in
    let o1 = g.D.Disk.tells c.items.disk in
    let o2 = g.D.Disk.tells c.write_item.new.disk in
    let so_far : Written f most items (i ∷ rest) c.items.left page n0 n1 g0 g1 o0.files
    o1.files =
    subst (λ (l : List Item).
    Written f most items l c.items.left page n0 n1 g0 g1 o0.files o1.files)
    (drop_more items n item.Brief c.items-test.true) c.items.invariant.written in
    let so_written = written_of n0 n1 g0 g1 c.items.invariant.written.added o0.files o1.files
    c.requires.waits c.items.invariant.written.adding in
    record {
      space = c.in_ok-left.ensures.space;
      within = all_more (λ k. IsEntry (entry_of f k)) items n i
          (take_more items n item.Brief c.items-test.true)
          c.items.invariant.within c.in_ok-left.ensures.within;
      written =
          written_more f most items rest i c.items.left page n0 n1 g0 g1 o0.files o1.files so_far
          c.in_ok-left.left
          c.write_item.new.page.payload.items c.write_item.new.writer
          c.write_item.new.page.group o2.files
          c.in_ok-left.ensures.left c.in_ok-left.ensures.page c.in_ok-left.ensures.adding;
      waits = c.in_ok-left.ensures.waits;
      works = c.in_ok-left.ensures.works;
      shut =
          shut_then n0 n1 _ o0 o1 o2 c.items.invariant.shut
          c.items.invariant.run
          so_written c.in_ok-left.ensures.shut;
      leaves =
          leaves_on n0.file n1.file o0.files o1.files o2.files
          so_written.grows.file_is c.items.invariant.leaves
          c.write_item.ensures.leaves;
      run = run_then o0 o1 o2 c.items.invariant.run c.in_ok-left.ensures.run;
    }

pub flush-requires-clause-room : goal.flush-requires-clause-room
flush-requires-clause-room g c =
    let items = c.args.items.now in
    last_room c.args.state.now.facts c.args.most items (drop c.items.item-index items)
    c.items.left c.items.page.payload.items c.args.writer.now c.items.writer
    c.args.page.now.group c.items.page.group (g.D.Disk.tells c.args.disk.now).files
    (g.D.Disk.tells c.items.disk).files
    (drop_all c.items.item-index items c.items-test.false) c.items.invariant.written
    c.requires.waits c.requires.room

pub returns-clause-run : goal.returns-clause-run
returns-clause-run g c =
    run_then (g.D.Disk.tells c.args.disk.now) (g.D.Disk.tells c.items.disk)
    (g.D.Disk.tells c.flush.new.disk) c.items.invariant.run c.flush.ensures.run

pub returns-clause-adding : goal.returns-clause-adding
returns-clause-adding g c =
    let f = c.args.state.now.facts in
    let most = c.args.most in
    let items = c.args.items.now in
    let page = c.items.page.payload.items in
    let n0 = c.args.writer.now in
    let n1 = c.items.writer in
    let n2 = c.flush.new.writer in
    let g0 = c.args.page.now.group in
    let g1 = c.items.page.group in
    let g2 = c.flush.new.self.group in
    let o0 = (g.D.Disk.tells c.args.disk.now).files in
    let o1 = (g.D.Disk.tells c.items.disk).files in
    let o2 = (g.D.Disk.tells c.flush.new.disk).files in
    let none : drop c.items.item-index items ≡ [] =
    drop_all c.items.item-index items c.items-test.false in
    on_ok_map c.flush.result (GathersFrames n1 n2 g1 g2 (closed_page page) o1 o2)
    (GathersFrames n0 n2 g0 g2 (pages f most 0 [] items) o0 o2)
    (λ adding. written_all f most items (drop c.items.item-index items) c.items.left page n0 n1 g0 g1
    o0 o1 none
    c.items.invariant.written n2 g2 o2 adding)
    c.flush.ensures.adding

pub returns-in_err-left-clause-leaves : goal.returns-in_err-left-clause-leaves
returns-in_err-left-clause-leaves g c =
    leaves_on c.args.writer.now.file c.items.writer.file (g.D.Disk.tells c.args.disk.now).files
    (g.D.Disk.tells c.items.disk).files (g.D.Disk.tells c.write_item.new.disk).files
    (written_of c.args.writer.now c.items.writer c.args.page.now.group c.items.page.group
    c.items.invariant.written.added (g.D.Disk.tells c.args.disk.now).files
    (g.D.Disk.tells c.items.disk).files c.requires.waits
    c.items.invariant.written.adding).grows.file_is c.items.invariant.leaves
    c.write_item.ensures.leaves

pub returns-clause-leaves : goal.returns-clause-leaves
returns-clause-leaves g c =
    leaves_on c.args.writer.now.file c.items.writer.file (g.D.Disk.tells c.args.disk.now).files
    (g.D.Disk.tells c.items.disk).files (g.D.Disk.tells c.flush.new.disk).files
    (written_of c.args.writer.now c.items.writer c.args.page.now.group c.items.page.group
    c.items.invariant.written.added (g.D.Disk.tells c.args.disk.now).files
    (g.D.Disk.tells c.items.disk).files c.requires.waits
    c.items.invariant.written.adding).grows.file_is c.items.invariant.leaves
    c.flush.ensures.leaves
