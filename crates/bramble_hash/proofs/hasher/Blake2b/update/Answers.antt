use Rattle.std.proofs.Common.{◌≡◌, ℕ, ◌+◌, ◌-◌, ◌*◌, ◌/◌, List, length, length-drop, take, drop, arith, refl, ap, sym, ◌∙◌}
use Rattle.std.proofs.lemmas.List.{take_at, take_rest, length-take-le}
use Rattle.bramble_hash.specs.Blake2b.{State}
use Rattle.bramble_hash.proofs.Absorbing.{Follows_fill, Follows_next, Holds_long, Holds_room}
use Rattle.bramble_hash.proofs.hasher.Blake2b.update.Goals as goal

pub returns-then-bytes-room-clause-holds : goal.returns-then-bytes-room-clause-holds
returns-then-bytes-room-clause-holds g c = λ key before held.
    let kept = ap (λ (st : State). st.kept) c.self.view_is in
    let h = ap (λ (st : State). st.h) c.self.view_is in
    let count = ap (λ (st : State). st.count) c.self.view_is in
    Holds_room g.row.OUT c.args.self.now _ key before c.args.bytes.now c.self.inside.buffer c.copy_from_slice.new.self c.self.inside.kept _
    held kept (omega (arith, c.self.told)) (omega arith) c.copy_from_slice.ensures.after h refl (omega (arith, count))

pub blocks-2-init : goal.blocks-2-init
blocks-2-init g c =
    let kept = ap (λ (st : State). st.kept) c.self.view_is in
    let h = ap (λ (st : State). st.h) c.self.view_is in
    let count = ap (λ (st : State). st.count) c.self.view_is in
    let buffer : length c.self.inside.buffer ≡ 128 = omega (arith, c.self.told) in
    let len : length c.args.self.now.kept ≡ c.self.inside.kept = ap length (sym kept) ∙ length-take-le c.self.inside.kept c.self.inside.buffer (omega arith) in
    record {
      count = omega (arith, count);
      taken = Follows_fill g.row.OUT c.args.self.now c.args.bytes.now c.self.inside.buffer c.copy_from_slice-2.new.self c.self.inside.h c.compress.new.h
          c.self.inside.kept _ (128 - c.self.inside.kept) (c.self.inside.done + 128) kept buffer (omega arith) refl (omega arith) (omega arith)
          c.copy_from_slice-2.ensures.after h c.compress.ensures (omega (arith, count));
    }

pub blocks-2-preserved : goal.blocks-2-preserved
blocks-2-preserved g c =
    let kept = ap (λ (st : State). st.kept) c.self.view_is in
    let buffer : length c.self.inside.buffer ≡ 128 = omega (arith, c.self.told) in
    let len : length c.args.self.now.kept ≡ c.self.inside.kept = ap length (sym kept) ∙ length-take-le c.self.inside.kept c.self.inside.buffer (omega arith) in
    let at : ℕ = 128 - c.self.inside.kept + 128 * c.blocks-2.i in
    let width : at + 128 - at ≡ 128 = omega arith in
    record {
      count = omega (arith, c.blocks-2.invariant.count);
      taken = Follows_next g.row.OUT c.args.self.now c.args.bytes.now (take (at + 128 - at) (drop at c.args.bytes.now)) c.blocks-2.self-inside.h c.compress-in-blocks-2.new.h
          at c.blocks-2.self-inside.done (c.blocks-2.i + 1) c.blocks-2.invariant.taken c.blocks-2.invariant.count (omega arith) (omega arith)
          (ap (λ (n : ℕ). take n (drop at c.args.bytes.now)) width) c.compress-in-blocks-2.ensures;
    }

pub returns-clause-holds : goal.returns-clause-holds
returns-clause-holds g c = λ key before held.
    let kept = ap (λ (st : State). st.kept) c.self.view_is in
    let buffer : length c.self.inside.buffer ≡ 128 = omega (arith, c.self.told) in
    let len : length c.args.self.now.kept ≡ c.self.inside.kept = ap length (sym kept) ∙ length-take-le c.self.inside.kept c.self.inside.buffer (omega arith) in
    let d : List ℕ = c.args.bytes.now in
    let at : ℕ = 128 - c.self.inside.kept + 128 * ((length d - (128 - c.self.inside.kept) - 1) / 128) in
    let tail : take (length d - at) (drop at d) ≡ drop at d = take_rest d at in
    let left : length (take (length d - at) (drop at d)) ≡ length d - at = ap length tail ∙ length-drop at d in
    Holds_long g.row.OUT c.args.self.now _ key before d c.blocks-2.self-inside.h at c.blocks-2.self-inside.done (c.blocks-2.i + 1)
    held c.blocks-2.invariant.taken c.blocks-2.invariant.count (omega arith) (omega arith) (omega arith)
    refl (rw c.copy_from_slice-3.ensures.after (take_at _ _ _ refl) ∙ tail) (omega (arith, left, c.blocks-2.invariant.count))
