use Rattle.std.proofs.Common.{◌≡◌, ◌<◌, [], ◌∷◌, ◌++◌, length, vec_len, arith, rules}
use Rattle.outbox.proofs.ChunkLemmas.{no_length, not_none, takes_one, takes_two}
use Rattle.outbox.proofs.take_over.Goals as goal
use Rattle.outbox.proofs.take_over.Goals.{then-not-is_empty, else-not-is_empty}

pub returns : goal.returns
returns c =
    let long_full : 0 < length c.args.long.items =
    let many : vec_len c.args.long ≡ length c.args.long.items = search rules in omega (arith, c.requires.some) in
    let many : vec_len c.args.last ≡ length c.args.last.items = search rules in
    elim c.if-not-is_empty.branch [
      | then-not-is_empty w ↦
          let items : c.push_back_reserved-2.new.self.items ≡ (c.args.chunks.now.items ++ c.args.last ∷ []) ++ c.args.long ∷ [] =
          rw (w.chunks-is, w.push_back_reserved.ensures.items) at c.push_back_reserved-2.ensures.items in
          rw items
          (takes_two c.args.chunks.now.items c.args.last c.args.long
          (not_none (vec_len c.args.last) (length c.args.last.items) w.if-not-is_empty.ensures many) long_full)
      | else-not-is_empty w ↦
          let items : c.push_back_reserved-2.new.self.items ≡ c.args.chunks.now.items ++ c.args.long ∷ [] =
          rw (w.chunks-is) at c.push_back_reserved-2.ensures.items in
          rw items
          (takes_one c.args.chunks.now.items c.args.last.items c.args.long
          (no_length (vec_len c.args.last) c.args.last.items w.if-not-is_empty.ensures many) long_full)
    ]
