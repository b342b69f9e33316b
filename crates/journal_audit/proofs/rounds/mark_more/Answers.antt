use Rattle.std.proofs.Common.{◌+◌, ◌<◌, length, subst, sym, ℕ, arith}
use Rattle.journal_audit.proofs.Marks.{Passes, marked_few, marked_one, passes_all, passes_by, passes_none, passes_one}
use Rattle.journal_audit.proofs.rounds.mark_more.Goals as goal
use Rattle.journal_audit.proofs.rounds.mark_more.Goals.{else-mark_one, then-mark_one}

pub loop-n-init : goal.loop-n-init
loop-n-init c = passes_none c.args.of_good c.args.messages.now.lines c.args.marks.now c.args.count c.requires.marked

pub overflow_add-now : goal.overflow_add-now
overflow_add-now c =
    let told = c.mark_one.ensures.marked c.if-mark_one.true in
    let within : c.loop-n.n < length c.args.messages.now.lines = omega (arith, c.loop-n-test.true, c.len-n-end.ensures.value) in
    let marked =
    marked_one c.args.of_good c.args.messages.now.lines c.loop-n.marks c.mark_one.new.marks c.loop-n.now c.loop-n.n c.loop-n.invariant.marked within told.0 told.1 told.2 in
    let few = marked_few c.args.of_good c.args.messages.now.lines c.mark_one.new.marks (c.loop-n.now + 1) marked in
    omega (arith, few, c.len-n-end.ensures.few)

pub loop-n-preserved : goal.loop-n-preserved
loop-n-preserved c =
    let ls = c.args.messages.now.lines in
    let within : c.loop-n.n < length c.args.messages.now.lines = omega (arith, c.loop-n-test.true, c.len-n-end.ensures.value) in
    elim c.if-mark_one.branch [
      | then-mark_one w ↦
          let told = c.mark_one.ensures.marked w.if-mark_one.true in
          subst (λ (k : ℕ). Passes c.args.of_good ls c.mark_one.new.marks c.args.count k (c.loop-n.n + 1)) (sym w.now-is)
          (passes_one c.args.of_good ls c.loop-n.marks c.mark_one.new.marks c.args.count c.loop-n.now c.loop-n.n c.loop-n.invariant
          (marked_one c.args.of_good ls c.loop-n.marks c.mark_one.new.marks c.loop-n.now c.loop-n.n c.loop-n.invariant.marked within told.0 told.1 told.2))
      | else-mark_one w ↦
          let told = c.mark_one.ensures.stays w.if-mark_one.false in
          subst (λ (k : ℕ). Passes c.args.of_good ls c.mark_one.new.marks c.args.count k (c.loop-n.n + 1)) (sym w.now-is)
          (passes_by c.args.of_good ls c.loop-n.marks c.mark_one.new.marks c.args.count c.loop-n.now c.loop-n.n c.loop-n.invariant told.0 told.1)
    ]

pub returns-clause-more : goal.returns-clause-more
returns-clause-more c = c.loop-n.invariant.more

pub returns-clause-marked : goal.returns-clause-marked
returns-clause-marked c = c.loop-n.invariant.marked

pub returns-clause-stable : goal.returns-clause-stable
returns-clause-stable c =
    passes_all c.args.of_good c.args.messages.now.lines c.loop-n.marks c.args.count c.loop-n.now c.loop-n.n c.loop-n.invariant
    (omega (arith, c.loop-n-test.false, c.len-n-end.ensures.value))
