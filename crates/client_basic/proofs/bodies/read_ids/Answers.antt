-- One more id has been read.
use Rattle.std.proofs.Common.{◌≡◌, ◌+◌, List, [], ◌∷◌, ◌++◌, ℕ, length, length-append, ap, arith}
use Rattle.client_basic.specs.Bodies.{ids_from}
use Rattle.client_basic.proofs.BodyLaws.{ids_step}
use Rattle.client_basic.proofs.bodies.read_ids.Goals as goal

pub loop-i-preserved : goal.loop-i-preserved
loop-i-preserved c =
    let whole : List (List ℕ) = ids_from c.args.count c.args.bytes.now in
    let longer : length (c.loop-i.ids.items ++ c.id_at.result ∷ []) ≡ length c.loop-i.ids.items + length (c.id_at.result ∷ []) =
    length-append c.loop-i.ids.items (c.id_at.result ∷ []) in
    let same : length c.push.new.self.items ≡ length (c.loop-i.ids.items ++ c.id_at.result ∷ []) = ap length c.in_ok-push.ensures.items in (
      rw (c.in_ok-push.ensures.items, c.id_at.ensures)
          (ids_step c.args.count c.loop-i.i c.args.bytes.now c.loop-i.ids.items whole c.loop-i-test.true c.loop-i.invariant.0),
      omega (arith, longer, same, c.loop-i.invariant.1),
    )
