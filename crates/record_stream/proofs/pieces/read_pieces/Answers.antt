use Rattle.std.proofs.Common.{◌≡◌, ◌+◌, ◌<◌, ℕ, List, [], ◌∷◌, ◌++◌, length, take, get_or, arith, sym, ap, ◌∙◌}
use Rattle.std.specs.List.{flat_map}
use Rattle.std.proofs.lemmas.List.{append-nil, take_all, take_more}
use Rattle.std.proofs.lemmas.List.Concat.{flat_map-append}
use Rattle.record_stream.specs.Reading.{fresh_reader}
use Rattle.record_stream.proofs.Hearing.{joined, whole}
use Rattle.record_stream.proofs.pieces.read_pieces.Goals as goal

-- the pieces so far and one more, joined
joined_more : {X : Type 0} (f : X → List ℕ) (xs : List X) (i : ℕ) (x : X) → i < length xs → x ≡ get_or xs i x
    → flat_map f (take (i + 1) xs) ≡ flat_map f (take i xs) ++ f x
joined_more f xs i x within is =
    ap (flat_map f) (take_more xs i x within) ∙ flat_map-append f (take i xs) (get_or xs i x ∷ [])
    ∙ ap (λ (b : List ℕ). flat_map f (take i xs) ++ b) (append-nil (f (get_or xs i x)) ∙ ap f (sym is))

pub pieces-preserved : goal.pieces-preserved
pieces-preserved c =
    let hearing = rw c.as_slice.ensures.value at c.in_ok-hear_piece.ensures.heard in
    let all = joined_more (λ piece. piece.items) c.args.pieces.now c.pieces.piece-index c.piece-item.result c.pieces-test.true c.piece-item.is in
    let kept = hearing.hears c.pieces.keeper [] (sym (append-nil c.pieces.keeper.items.items)) in
    record {
      waits = c.in_ok-hear_piece.ensures.waits;
      reads = rw (all, kept)
          (joined _ [] _ [] fresh_reader c.pieces.reader c.hear_piece.new.reader
          c.pieces.keeper.items.items hearing.has c.pieces.invariant.reads hearing.reads);
    }

pub returns-clause-items : goal.returns-clause-items
returns-clause-items c =
    let all = take_all c.pieces.piece-index c.args.pieces.now (omega arith) in
    let read = rw all at c.pieces.invariant.reads in
    sym (whole _ c.pieces.keeper.items.items c.pieces.reader read c.pieces.invariant.waits).0

pub returns-clause-ending : goal.returns-clause-ending
returns-clause-ending c =
    let all = take_all c.pieces.piece-index c.args.pieces.now (omega arith) in
    let read = rw all at c.pieces.invariant.reads in
    c.end.ensures.ending ∙ sym (whole _ c.pieces.keeper.items.items c.pieces.reader read c.pieces.invariant.waits).1
