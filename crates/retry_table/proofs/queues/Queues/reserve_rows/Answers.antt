use Rattle.std.proofs.Common.{◌≡◌, ℕ, ◌+◌, ◌-◌, ◌*◌, ◌/◌, ◌^◌, ◌<◌, ◌≤◌, ◌++◌, List, Bool, false, length, Option, None, replicate, vec_len, sym, subst, ◌∙◌, arith, rules}
use Rattle.std.proofs.lemmas.List.{take_all}
use Rattle.retry_table.specs.declared.blocks.Times.{Times}
use Rattle.retry_table.specs.declared.blocks.Times.TheVariants as times
use Rattle.retry_table.specs.Table.{KeptRow, no_kept}
use Rattle.retry_table.specs.Queues.{is_awaited, AreClasses, AreLeast, HasPassingRows}
use Rattle.retry_table.proofs.BlockLaws.{least-places, least-rows}
use Rattle.retry_table.proofs.Follows.{follows-places, follows-rows, longer_most}
use Rattle.retry_table.proofs.SoonerQueues.{classes-rows}
use Rattle.retry_table.proofs.queues.Queues.reserve_rows.Goals as goal

abbrev owed : KeptRow → Bool
owed kept = kept.row.owed

grown : (test : KeptRow → Bool) (rows : List KeptRow) (places new : List Bool) (count : ℕ) → HasPassingRows test rows places → count < 2 ^ 32 → new ≡ places ++ replicate (count - length places) false → HasPassingRows test rows new
grown test rows places new count f fits e = subst (λ (p : List Bool). HasPassingRows test rows p) (sym e) (follows-places test rows places f count fits)

kept : (test : KeptRow → Bool) (rows : List KeptRow) (places new : List Bool) → HasPassingRows test rows places → new ≡ places → HasPassingRows test rows new
kept test rows places new f e = subst (λ (p : List Bool). HasPassingRows test rows p) (sym e) f

-- with rows for all places too
filled : (test : KeptRow → Bool) (rows more : List KeptRow) (places new : List Bool) (count : ℕ) → HasPassingRows test rows places → count < 2 ^ 32 → new ≡ places ++ replicate (count - length places) false → more ≡ rows ++ replicate (count - length rows) no_kept → HasPassingRows test more new
filled test rows more places new count f fits e is =
    let all : count ≤ length new = subst (λ (p : List Bool). count ≤ length p) (sym e) (longer_most places false count) in
    subst (λ (r : List KeptRow). HasPassingRows test r new) (sym is) (follows-rows test rows new (grown test rows places new count f fits e) count all)

-- the same of the blocks
blocks_grown : (what : Times) (rows : List KeptRow) (tree new : List (Option ℕ)) (count : ℕ) → AreLeast what rows tree → count < 2 ^ 32 → new ≡ tree ++ replicate (count / 64 + 1 - length tree) None → AreLeast what rows new
blocks_grown what rows tree new count b fits e = subst (λ (t : List (Option ℕ)). AreLeast what rows t) (sym e) (least-places what rows tree b (count / 64 + 1) (omega arith))

blocks_kept : (what : Times) (rows : List KeptRow) (tree new : List (Option ℕ)) → AreLeast what rows tree → new ≡ tree → AreLeast what rows new
blocks_kept what rows tree new b e = subst (λ (t : List (Option ℕ)). AreLeast what rows t) (sym e) b

blocks_filled : (what : Times) (rows more : List KeptRow) (tree new : List (Option ℕ)) (count : ℕ) → AreLeast what rows tree → count < 2 ^ 32 → new ≡ tree ++ replicate (count / 64 + 1 - length tree) None → more ≡ rows ++ replicate (count - length rows) no_kept → AreLeast what more new
blocks_filled what rows more tree new count b fits e is =
    let none : Option ℕ = None in
    let all : count / 64 + 1 ≤ length new = subst (λ (t : List (Option ℕ)). count / 64 + 1 ≤ length t) (sym e) (longer_most tree none (count / 64 + 1)) in
    subst (λ (r : List KeptRow). AreLeast what r new) (sym is) (least-rows what rows new (blocks_grown what rows tree new count b fits e) count (omega arith))

pub invariant_of-self-in_err-reserve-3 : goal.invariant_of-self-in_err-reserve-3
invariant_of-self-in_err-reserve-3 c =
    let q = c.self.inside in
    let f = c.self.invariant in
    let fits : c.args.numbers < 2 ^ 32 = omega arith in
    record {
      by_expiry = blocks_grown times.ToSend q.rows.items q.messages c.reserve.new.self c.args.numbers f.by_expiry fits c.in_ok-reserve.ensures.ok;
      by_request = grown is_awaited q.rows.items q.asked c.reserve-2.new.self c.args.numbers f.by_request fits c.in_ok-reserve-2.ensures.ok;
      by_offer = blocks_kept times.ToOffer q.rows.items q.offers c.reserve-3.new.self f.by_offer c.in_err-reserve-3.ensures.err;
      by_debt = f.by_debt;
      by_tries = f.by_tries;
    }

pub invariant_of-self-in_err-reserve-4 : goal.invariant_of-self-in_err-reserve-4
invariant_of-self-in_err-reserve-4 c =
    let q = c.self.inside in
    let f = c.self.invariant in
    let fits : c.args.numbers < 2 ^ 32 = omega arith in
    record {
      by_expiry = blocks_grown times.ToSend q.rows.items q.messages c.reserve.new.self c.args.numbers f.by_expiry fits c.in_ok-reserve.ensures.ok;
      by_request = grown is_awaited q.rows.items q.asked c.reserve-2.new.self c.args.numbers f.by_request fits c.in_ok-reserve-2.ensures.ok;
      by_offer = blocks_grown times.ToOffer q.rows.items q.offers c.reserve-3.new.self c.args.numbers f.by_offer fits c.in_ok-reserve-3.ensures.ok;
      by_debt = kept owed q.rows.items q.owed c.reserve-4.new.self f.by_debt c.in_err-reserve-4.ensures.err;
      by_tries = f.by_tries;
    }

pub invariant_of-self-in_err-reserve-5 : goal.invariant_of-self-in_err-reserve-5
invariant_of-self-in_err-reserve-5 c =
    let q = c.self.inside in
    let f = c.self.invariant in
    let fits : c.args.numbers < 2 ^ 32 = omega arith in
    record {
      by_expiry = blocks_grown times.ToSend q.rows.items q.messages c.reserve.new.self c.args.numbers f.by_expiry fits c.in_ok-reserve.ensures.ok;
      by_request = grown is_awaited q.rows.items q.asked c.reserve-2.new.self c.args.numbers f.by_request fits c.in_ok-reserve-2.ensures.ok;
      by_offer = blocks_grown times.ToOffer q.rows.items q.offers c.reserve-3.new.self c.args.numbers f.by_offer fits c.in_ok-reserve-3.ensures.ok;
      by_debt = grown owed q.rows.items q.owed c.reserve-4.new.self c.args.numbers f.by_debt fits c.in_ok-reserve-4.ensures.ok;
      by_tries = subst (λ (rows : List KeptRow). AreClasses rows c.reserve-5.new.self) c.deref.ensures.value c.reserve-5.ensures.kept;
    }

pub invariant_of-self-in_err-resize : goal.invariant_of-self-in_err-resize
invariant_of-self-in_err-resize c =
    let q = c.self.inside in
    let f = c.self.invariant in
    let fits : c.args.numbers < 2 ^ 32 = omega arith in
    let same : c.resize.new.self.items ≡ q.rows.items = c.in_err-resize.ensures.items in
    record {
      by_expiry = rw same (blocks_grown times.ToSend q.rows.items q.messages c.reserve.new.self c.args.numbers f.by_expiry fits c.in_ok-reserve.ensures.ok);
      by_request = rw same (grown is_awaited q.rows.items q.asked c.reserve-2.new.self c.args.numbers f.by_request fits c.in_ok-reserve-2.ensures.ok);
      by_offer = rw same (blocks_grown times.ToOffer q.rows.items q.offers c.reserve-3.new.self c.args.numbers f.by_offer fits c.in_ok-reserve-3.ensures.ok);
      by_debt = rw same (grown owed q.rows.items q.owed c.reserve-4.new.self c.args.numbers f.by_debt fits c.in_ok-reserve-4.ensures.ok);
      by_tries = rw same (subst (λ (rows : List KeptRow). AreClasses rows c.reserve-5.new.self) c.deref.ensures.value c.reserve-5.ensures.kept);
    }

pub invariant_of-self-2 : goal.invariant_of-self-2
invariant_of-self-2 c =
    let q = c.self.inside in
    let f = c.self.invariant in
    let rows = q.rows.items in
    let fits : c.args.numbers < 2 ^ 32 = omega arith in
    let many : vec_len q.rows ≡ length rows = search rules in
    let few : length rows ≤ c.args.numbers = omega arith in
    let is : c.resize.new.self.items ≡ rows ++ replicate (c.args.numbers - length rows) no_kept =
    c.in_ok-resize.ensures.items ∙ (λ i. take_all c.args.numbers rows few i ++ replicate (c.args.numbers - many i) (c.none.ensures i)) in
    record {
      by_expiry = blocks_filled times.ToSend rows c.resize.new.self.items q.messages c.reserve.new.self c.args.numbers f.by_expiry fits c.in_ok-reserve.ensures.ok is;
      by_request = filled is_awaited rows c.resize.new.self.items q.asked c.reserve-2.new.self c.args.numbers f.by_request fits c.in_ok-reserve-2.ensures.ok is;
      by_offer = blocks_filled times.ToOffer rows c.resize.new.self.items q.offers c.reserve-3.new.self c.args.numbers f.by_offer fits c.in_ok-reserve-3.ensures.ok is;
      by_debt = filled owed rows c.resize.new.self.items q.owed c.reserve-4.new.self c.args.numbers f.by_debt fits c.in_ok-reserve-4.ensures.ok is;
      by_tries = subst (λ (r : List KeptRow). AreClasses r c.reserve-5.new.self) (sym is)
          (classes-rows rows c.reserve-5.new.self c.args.numbers (subst (λ (r : List KeptRow). AreClasses r c.reserve-5.new.self) c.deref.ensures.value c.reserve-5.ensures.kept)
          (λ tries there. let enough = c.in_ok-reserve-5.ensures.room tries there in omega (arith, enough)));
    }
