use Rattle.std.proofs.Common.{ap, ◌+◌, ◌∙◌, drop}
use Rattle.node_service.proofs.WordLemmas.{part_ended, part_went_on, read_all, read_none, rest_more}
use Rattle.node_service.proofs.words.words_of.Goals as goal
use Rattle.node_service.proofs.words.words_of.Goals.{then-byte-eq0+in_ok-word+in_ok-push}
use Rattle.node_service.proofs.words.words_of.Goals.{else-byte-eq0+in_ok-push-2}

pub bytes-init : goal.bytes-init
bytes-init c =
    read_none c.args.bytes.now c.new-part.result.items c.new-words.result.items
    c.new-words.ensures.items c.new-part.ensures.items

pub bytes-preserved : goal.bytes-preserved
bytes-preserved c =
    let so =
    rw (rest_more c.args.bytes.now c.bytes.byte-index c.bytes-test.true) at c.bytes.invariant in
    elim c.if-byte-eq0.branch [
      | then-byte-eq0+in_ok-word+in_ok-push w ↦
          part_ended _ _ _ _ _ (drop (c.bytes.byte-index + 1) c.args.bytes.now) _ so w.in_ok-word.field-0
          w.if-byte-eq0.true
          (rw w.as_slice.ensures.value at w.in_ok-word.ensures)
          (ap (λ v. v.items) w.words-is ∙ w.in_ok-push.ensures.items)
          (ap (λ v. v.items) w.part-is ∙ w.clear.ensures.items)
      | else-byte-eq0+in_ok-push-2 w ↦
          part_went_on _ _ _ _ _ (drop (c.bytes.byte-index + 1) c.args.bytes.now) _ so w.if-byte-eq0.false
          (ap (λ v. v.items) w.words-is)
          (ap (λ v. v.items) w.part-is ∙ w.in_ok-push-2.ensures.items)
    ]

pub returns : goal.returns
returns c =
    read_all _ c.args.bytes.now c.bytes.words.items c.bytes.part.items c.bytes.byte-index
    c.bytes-test.false c.bytes.invariant
