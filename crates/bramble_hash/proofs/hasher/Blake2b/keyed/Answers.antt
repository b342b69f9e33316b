use Rattle.std.proofs.Common.{◌≡◌, ◌<◌, length, arith, refl}
use Rattle.std.proofs.lemmas.Bool.Decides.{nat_tests}
use Rattle.bramble_hash.proofs.Absorbing.{key_padded, Holds_keyed, Holds_new}
use Rattle.bramble_hash.proofs.hasher.Blake2b.keyed.Goals as goal
use Rattle.bramble_hash.proofs.hasher.Blake2b.keyed.Goals.{then-not-is_empty, else-not-is_empty}

pub returns-clause-holds : goal.returns-clause-holds
returns-clause-holds g c = elim c.if-not-is_empty.branch [
  | then-not-is_empty w ↦
      let some : 0 < length c.args.key.now = grind (arith, nat_tests) in
      Holds_keyed g.row.OUT _ c.args.key.now some (omega arith) c.initial.ensures
      (key_padded c.args.key.now _ _ _ _ _ (omega arith) refl w.buffer-is w.copy_from_slice.ensures.after refl w.kept-is)
      (omega arith)
  | else-not-is_empty w ↦
      let none : length c.args.key.now ≡ 0 = grind (arith, nat_tests) in
      Holds_new g.row.OUT _ c.args.key.now none c.initial.ensures (rw w.kept-is refl) (omega arith)
]
