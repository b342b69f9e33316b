use Rattle.std.proofs.Common.{◌≡◌, ap, ◌∙◌, refl, take}
use Rattle.bramble_hash.specs.Blake2b.{State, padded}
use Rattle.bramble_hash.proofs.Absorbing.{digest_at}
use Rattle.bramble_hash.proofs.hasher.Blake2b.finalize.Goals as goal

pub returns : goal.returns
returns g c = λ key bytes held.
    let kept = ap (λ (st : State). st.kept) c.self.view_is in
    let h = ap (λ (st : State). st.h) c.self.view_is in
    let count = ap (λ (st : State). st.count) c.self.view_is in
    let pads : padded c.args.self.kept ≡ c.pad.new.buffer = rw (c.pad.ensures, kept) refl in
    let last = c.compress.ensures c.args.self.kept pads in
    c.first_bytes.ensures ∙ ap (take g.row.OUT) c.bytes_of.ensures
    ∙ digest_at g.row.OUT c.args.self key bytes c.compress.new.h held (last ∙ rw (h, count) refl)
