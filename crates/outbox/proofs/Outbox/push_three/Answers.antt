use Rattle.std.proofs.Common.{◌≡◌, ◌+◌, ℕ, List, ◌++◌, length, ◌∙◌, ap, arith, length-append}
use Rattle.outbox.proofs.ChunkLemmas.{more_wait, view_more}
use Rattle.outbox.proofs.Outbox.push_three.Goals as goal

pub invariant_of-self-2 : goal.invariant_of-self-2
invariant_of-self-2 c =
    let counted : c.in_ok-waits.waits ≡ c.self-2.inside.waits + length (c.args.a.now ++ (c.args.b.now ++ c.args.c.now)) =
    omega (
      arith,
      c.in_ok-waits.ensures,
      c.self.invariant.counted,
      c.self-2.invariant.counted,
      ap length c.self.view_is,
      ap length c.self-2.view_is,
      ap length c.tidy.ensures,
      length-append c.args.a.now (c.args.b.now ++ c.args.c.now),
      length-append c.args.b.now c.args.c.now,
    ) in
    rw c.in_ok-append_three.ensures.ok
    (more_wait c.self-2.inside.chunks.items c.self-2.inside.last.items (c.args.a.now ++ (c.args.b.now ++ c.args.c.now))
    c.self-2.inside.gone c.self-2.inside.waits c.in_ok-waits.waits c.self-2.invariant counted)

pub returns-clause-ok : goal.returns-clause-ok
returns-clause-ok c =
    rw c.in_ok-append_three.ensures.ok
    (view_more c.self-2.inside.chunks.items c.self-2.inside.last.items (c.args.a.now ++ (c.args.b.now ++ c.args.c.now))
    c.self-2.inside.gone c.self-2.inside.waits c.self-2.invariant
    ∙ ap (λ (l : List ℕ). l ++ (c.args.a.now ++ (c.args.b.now ++ c.args.c.now))) (c.self-2.view_is ∙ c.tidy.ensures))
