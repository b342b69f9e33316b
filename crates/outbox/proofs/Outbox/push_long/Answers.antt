use Rattle.std.proofs.Common.{◌≡◌, ℕ, List, ◌++◌, length, ◌∙◌, ap, arith, rules, vec_len}
use Rattle.std.specs.Global.{Vec}
use Rattle.outbox.specs.Chunks.{TakesOver}
use Rattle.outbox.proofs.ChunkLemmas.{long_waits, view_long}
use Rattle.outbox.proofs.Outbox.push_long.Goals as goal

pub invariant_of-self-2 : goal.invariant_of-self-2
invariant_of-self-2 c =
    let many : vec_len c.args.long ≡ length c.args.long.items = search rules in
    let last_is : c.replace-last.result.items ≡ c.self.inside.last.items ++ c.args.before.now =
    ap (λ (v : Vec ℕ). v.items) c.replace-last.ensures.value ∙ c.in_ok-extend_from_slice.ensures.items in
    let chunks_are : c.reserve.new.self.items ≡ c.self.inside.chunks.items = c.reserve.ensures.items in
    let behind_is : c.replace-last.new.dest.items ≡ c.args.behind.now =
    ap (λ (v : Vec ℕ). v.items) c.replace-last.ensures.after ∙ c.in_ok-behind.ensures.items in
    let takes : TakesOver c.self.inside.chunks.items c.take_over.new.chunks.items (c.self.inside.last.items ++ c.args.before.now) c.args.long.items =
    rw (chunks_are, last_is) at c.take_over.ensures in
    rw behind_is
    (long_waits c.self.inside.chunks.items c.take_over.new.chunks.items c.self.inside.last.items c.args.before.now
    c.args.long.items c.args.behind.now c.self.inside.gone c.self.inside.waits c.in_ok-waits.waits c.self.invariant takes
    (omega (arith, c.in_ok-waits.ensures, many)))

pub returns-clause-ok : goal.returns-clause-ok
returns-clause-ok c =
    let last_is : c.replace-last.result.items ≡ c.self.inside.last.items ++ c.args.before.now =
    ap (λ (v : Vec ℕ). v.items) c.replace-last.ensures.value ∙ c.in_ok-extend_from_slice.ensures.items in
    let chunks_are : c.reserve.new.self.items ≡ c.self.inside.chunks.items = c.reserve.ensures.items in
    let behind_is : c.replace-last.new.dest.items ≡ c.args.behind.now =
    ap (λ (v : Vec ℕ). v.items) c.replace-last.ensures.after ∙ c.in_ok-behind.ensures.items in
    let takes : TakesOver c.self.inside.chunks.items c.take_over.new.chunks.items (c.self.inside.last.items ++ c.args.before.now) c.args.long.items =
    rw (chunks_are, last_is) at c.take_over.ensures in
    rw behind_is
    (view_long c.self.inside.chunks.items c.take_over.new.chunks.items c.self.inside.last.items c.args.before.now
    c.args.long.items c.args.behind.now c.self.inside.gone c.self.inside.waits c.in_ok-waits.waits c.self.invariant takes
    ∙ ap (λ (l : List ℕ). l ++ (c.args.before.now ++ (c.args.long.items ++ c.args.behind.now))) c.self.view_is)
