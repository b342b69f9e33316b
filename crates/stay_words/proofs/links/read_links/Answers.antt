use Rattle.std.proofs.Common.{◌≡◌, ℕ, ◌+◌, ◌*◌, ◌<◌, ◌≤◌, slice_index_or, [], ◌∷◌, ◌++◌, Bool, false, true, nat_le, length, Ok, Err, sym, ◌∙◌, ap, subst, rules, arith}
use Rattle.std.proofs.lemmas.List.Elements.{All-nil, All-push}
use Rattle.sync_words.specs.Links.{IsLink}
use Rattle.sync_words.specs.declared.link_words.LinkWords.{LinkWords}
use Rattle.sync_words.specs.Words.{texts}
use Rattle.stay_words.specs.Asking.{IsReadAs, links_of}
use Rattle.stay_words.proofs.StayLemmas.{AsksSo, asks_first, asks_next, asks_wrong, asks_no_more, asks_end, asks_too_many, none_left, some_left}
use Rattle.stay_words.proofs.links.read_links.Goals as goal

pub loop-number-init : goal.loop-number-init
loop-number-init c = record {
  count = ap length c.new-links.ensures.items;
  each = subst (λ l. (k : ℕ) (d : LinkWords) → k < length l → IsLink (slice_index_or l k d)) (sym c.new-links.ensures.items) (All-nil IsLink);
  asks = subst (λ l. AsksSo (texts c.args.words.now) l 0) (sym c.new-links.ensures.items) (asks_first (texts c.args.words.now));
}

pub returns-then-not-is_left_at : goal.returns-then-not-is_left_at
returns-then-not-is_left_at c =
    let none : nat_le (length (texts c.args.words.now)) (2 + c.loop-number.number * 4) ≡ true = none_left _ _ c.is_left_at.ensures c.if-not-is_left_at.true in
    asks_no_more (texts c.args.words.now) c.loop-number.links.items c.loop-number.number c.loop-number-test.true c.loop-number.invariant.asks none
    ∙ ap (λ l. Ok l) (sym c.new.ensures)

pub returns-in_err-link : goal.returns-in_err-link
returns-in_err-link c =
    let left : nat_le (length (texts c.args.words.now)) (2 + c.loop-number.number * 4) ≡ false = some_left _ _ c.is_left_at.ensures c.if-not-is_left_at.false in
    let stops : IsReadAs (links_of 8 (texts c.args.words.now) 2) (Err c.in_err-link.field-0.0) =
    asks_wrong (texts c.args.words.now) c.loop-number.links.items c.loop-number.number c.loop-number-test.true c.in_err-link.field-0.0 c.loop-number.invariant.asks left c.in_err-link.ensures.read in
    search rules

pub loop-number-preserved : goal.loop-number-preserved
loop-number-preserved c =
    let left : nat_le (length (texts c.args.words.now)) (2 + c.loop-number.number * 4) ≡ false = some_left _ _ c.is_left_at.ensures c.if-not-is_left_at.false in
    let items : c.push.new.self.items ≡ c.loop-number.links.items ++ c.in_ok-link.link ∷ [] = c.in_ok-push.ensures.items in
    record {
      count = omega (arith, c.in_ok-push.ensures.len);
      each = subst (λ l. (k : ℕ) (d : LinkWords) → k < length l → IsLink (slice_index_or l k d)) (sym items) (All-push IsLink c.loop-number.links.items c.in_ok-link.link c.loop-number.invariant.each c.in_ok-link.ensures.within);
      asks = subst (λ l. AsksSo (texts c.args.words.now) l (c.loop-number.number + 1)) (sym items)
          (asks_next (texts c.args.words.now) c.loop-number.links.items c.loop-number.number c.loop-number-test.true c.in_ok-link.link c.loop-number.invariant.asks left c.in_ok-link.ensures.read);
    }

pub returns-then-is_left_at : goal.returns-then-is_left_at
returns-then-is_left_at c =
    let all : c.loop-number.number ≡ 8 = omega arith in
    asks_too_many (texts c.args.words.now) c.loop-number.links.items (subst (AsksSo (texts c.args.words.now) c.loop-number.links.items) all c.loop-number.invariant.asks)
    (some_left _ _ c.is_left_at-2.ensures c.if-is_left_at.true)

pub returns : goal.returns
returns c =
    let all : c.loop-number.number ≡ 8 = omega arith in
    asks_end (texts c.args.words.now) c.loop-number.links.items (subst (AsksSo (texts c.args.words.now) c.loop-number.links.items) all c.loop-number.invariant.asks)
    (none_left _ _ c.is_left_at-2.ensures c.if-is_left_at.false)
    ∙ ap (λ l. Ok l) (sym c.new-2.ensures)
