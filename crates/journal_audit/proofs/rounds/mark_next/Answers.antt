use Rattle.std.proofs.Common.{◌+◌, ◌<◌, length, arith}
use Rattle.journal_audit.proofs.Marks.{marked_few, marked_one}
use Rattle.journal_audit.proofs.rounds.mark_next.Goals as goal

pub overflow_add-result : goal.overflow_add-result
overflow_add-result c =
    let ls = c.args.messages.now.lines in
    let told = c.mark_one.ensures.marked c.if-mark_one.true in
    let within : c.args.n < length c.args.messages.now.lines = omega (arith, c.if-n-len.true, c.len.ensures.value) in
    let marked = marked_one c.args.of_good ls c.args.marks.now c.mark_one.new.marks c.args.count c.args.n c.requires within told.0 told.1 told.2 in
    let few = marked_few c.args.of_good ls c.mark_one.new.marks (c.args.count + 1) marked in
    omega (arith, few, c.len.ensures.few)

pub returns-then-mark_one : goal.returns-then-mark_one
returns-then-mark_one c =
    let told = c.mark_one.ensures.marked c.if-mark_one.true in
    let within : c.args.n < length c.args.messages.now.lines = omega (arith, c.if-n-len.true, c.len.ensures.value) in
    marked_one c.args.of_good c.args.messages.now.lines c.args.marks.now c.mark_one.new.marks c.args.count c.args.n c.requires within told.0 told.1 told.2
