use Rattle.std.proofs.Common.{◌≤◌, ◌≡◌, ◌+◌, length, arith, rules, subst, sym, List, ℕ}
use Rattle.outside.specs.Input.{ReadsTooMuch, ReadsPart}
use Rattle.outside.proofs.StreamSteps.{front_kept, reads_next, reads_over}
use Rattle.outside.proofs.input.read_input.Goals as goal

pub returns-in-Ok-clause-reads : goal.returns-in-Ok-clause-reads
returns-in-Ok-clause-reads g c =
    let over : c.len-had.result + c.in-Ok.n ≡ c.args.limit + 1 = omega (arith, c.in-Ok.ensures.bound, c.in_ok-resize.ensures.len, c.min.ensures) in
    let there : c.len-had.result + c.in-Ok.n ≤ length c.read_behind.new.to.items = omega (arith, c.in-Ok.ensures.bound, c.in_ok-resize.ensures.len, c.min.ensures) in
    let long : c.len-had.result ≡ length c.pieces.to.items = search rules in
    let front = front_kept _ _ _ _ _ _ long c.in_ok-resize.ensures.items c.read_behind.ensures.front in
    let reads = reads_over _ _ _ _ _ _ _ _ c.pieces.invariant.0 front c.in-Ok.ensures.bytes.0 over there in
    let P : List ℕ → Type 0 = ReadsTooMuch c.args.limit (g.S.Source.tells c.args.input.now).bytes (g.S.Source.tells c.read_behind.new.input).bytes in
    subst P (sym c.truncate-in-Ok.ensures.items) reads

pub pieces-preserved : goal.pieces-preserved
pieces-preserved g c =
    let long : c.len-had.result ≡ length c.pieces.to.items = search rules in
    let front = front_kept _ _ _ _ _ _ long c.in_ok-resize.ensures.items c.read_behind.ensures.front in
    let reads = reads_next _ _ _ _ _ _ _ _ c.pieces.invariant.0 front c.in-Ok.ensures.bytes.0 c.if-had-n.false in
    let P : List ℕ → Type 0 = ReadsPart c.args.limit (g.S.Source.tells c.args.input.now).bytes (g.S.Source.tells c.read_behind.new.input).bytes in
    (subst P (sym c.truncate-in-Ok-2.ensures.items) reads, search rules, search rules, search rules)
