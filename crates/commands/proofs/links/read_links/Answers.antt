use Rattle.std.proofs.Common.{◌≡◌, ℕ, ◌+◌, ◌*◌, ◌<◌, ◌≤◌, slice_index_or, [], ◌∷◌, ◌++◌, false, true, drop, length, sym, ◌∙◌, ap, subst, rules, arith}
use Rattle.std.proofs.lemmas.List.Elements.{All-nil, All-push}
use Rattle.sync_words.specs.Links.{IsLink}
use Rattle.sync_words.specs.declared.link_words.LinkWords.{LinkWords}
use Rattle.commands.specs.Reading.{has_ended, ReadsLink, ReadsLinks, StopsLink, StopsLinks}
use Rattle.sync_words.specs.Words.{texts}
use Rattle.commands.proofs.LinkLemmas.{AsksSo, asks_first, asks_next, asks_wrong, asks_no_more, asks_end, asks_too_many, one_stands}
use Rattle.commands.proofs.links.read_links.Goals as goal

pub loop-number-init : goal.loop-number-init
loop-number-init c = record {
  count = ap length c.new-links.ensures.items;
  each = subst (λ l. (k : ℕ) (d : LinkWords) → k < length l → IsLink (slice_index_or l k d)) (sym c.new-links.ensures.items) (All-nil IsLink);
  asks = subst (λ l. AsksSo (texts c.args.words.now) l 0) (sym c.new-links.ensures.items) (asks_first (texts c.args.words.now));
}

pub new-requires : goal.new-requires
new-requires c =
    let ended : has_ended c.loop-number.links.items (drop (3 + c.loop-number.number * 4) (texts c.args.words.now)) ≡ true =
    ap (λ l. has_ended l (drop (3 + c.loop-number.number * 4) (texts c.args.words.now))) (sym c.as_slice.ensures.value) ∙ sym c.has_ended.ensures ∙ c.if-has_ended.true in
    let some : 1 ≤ length c.loop-number.links.items = one_stands _ _ ended in
    record { some = some; few = omega arith; each = c.loop-number.invariant.each }

pub returns-then-has_ended-clause-ok : goal.returns-then-has_ended-clause-ok
returns-then-has_ended-clause-ok c =
    let ended : has_ended c.loop-number.links.items (drop (3 + c.loop-number.number * 4) (texts c.args.words.now)) ≡ true =
    ap (λ l. has_ended l (drop (3 + c.loop-number.number * 4) (texts c.args.words.now))) (sym c.as_slice.ensures.value) ∙ sym c.has_ended.ensures ∙ c.if-has_ended.true in
    subst (ReadsLinks (texts c.args.words.now)) (sym c.new.ensures)
    (asks_no_more (texts c.args.words.now) c.loop-number.links.items c.loop-number.number c.loop-number.invariant.asks c.loop-number-test.true ended)

pub returns-in_err-link-clause-err : goal.returns-in_err-link-clause-err
returns-in_err-link-clause-err c =
    let goes : has_ended c.loop-number.links.items (drop (3 + c.loop-number.number * 4) (texts c.args.words.now)) ≡ false =
    ap (λ l. has_ended l (drop (3 + c.loop-number.number * 4) (texts c.args.words.now))) (sym c.as_slice.ensures.value) ∙ sym c.has_ended.ensures ∙ c.if-has_ended.false in
    let stops : StopsLinks (texts c.args.words.now) c.in_err-link.field-0.0 =
    asks_wrong (texts c.args.words.now) c.loop-number.links.items c.loop-number.number c.in_err-link.field-0.0 c.loop-number.invariant.asks c.loop-number-test.true goes
    (subst (λ l. StopsLink l (texts c.args.words.now) (3 + c.loop-number.number * 4) c.in_err-link.field-0.0) c.as_slice-in-loop-number.ensures.value c.in_err-link.ensures.err) in
    search rules

pub loop-number-preserved : goal.loop-number-preserved
loop-number-preserved c =
    let goes : has_ended c.loop-number.links.items (drop (3 + c.loop-number.number * 4) (texts c.args.words.now)) ≡ false =
    ap (λ l. has_ended l (drop (3 + c.loop-number.number * 4) (texts c.args.words.now))) (sym c.as_slice.ensures.value) ∙ sym c.has_ended.ensures ∙ c.if-has_ended.false in
    let items : c.push.new.self.items ≡ c.loop-number.links.items ++ c.in_ok-link.link ∷ [] = c.in_ok-push.ensures.items in
    record {
      count = omega (arith, c.in_ok-push.ensures.len);
      each = subst (λ l. (k : ℕ) (d : LinkWords) → k < length l → IsLink (slice_index_or l k d)) (sym items) (All-push IsLink c.loop-number.links.items c.in_ok-link.link c.loop-number.invariant.each c.in_ok-link.ensures.within);
      asks = subst (λ l. AsksSo (texts c.args.words.now) l (c.loop-number.number + 1)) (sym items)
          (asks_next (texts c.args.words.now) c.loop-number.links.items c.loop-number.number c.in_ok-link.link c.loop-number.invariant.asks c.loop-number-test.true goes
          (subst (λ l. ReadsLink l (texts c.args.words.now) (3 + c.loop-number.number * 4) c.in_ok-link.link) c.as_slice-in-loop-number.ensures.value c.in_ok-link.ensures.ok));
    }

pub returns-then-is_left_at-clause-err : goal.returns-then-is_left_at-clause-err
returns-then-is_left_at-clause-err c =
    let all : c.loop-number.number ≡ 8 = omega arith in
    asks_too_many (texts c.args.words.now) c.loop-number.links.items (subst (AsksSo (texts c.args.words.now) c.loop-number.links.items) all c.loop-number.invariant.asks)
    (sym c.is_left_at.ensures ∙ c.if-is_left_at.true)

pub returns-clause-ok : goal.returns-clause-ok
returns-clause-ok c =
    let all : c.loop-number.number ≡ 8 = omega arith in
    subst (ReadsLinks (texts c.args.words.now)) (sym c.new-2.ensures)
    (asks_end (texts c.args.words.now) c.loop-number.links.items (subst (AsksSo (texts c.args.words.now) c.loop-number.links.items) all c.loop-number.invariant.asks)
    (sym c.is_left_at.ensures ∙ c.if-is_left_at.false))
