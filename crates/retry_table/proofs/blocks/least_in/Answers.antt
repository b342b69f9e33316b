use Rattle.std.proofs.Common.{◌≡◌, ◌+◌, ◌-◌, ◌*◌, ◌<◌, length, sym, ap, ◌∙◌, arith}
use Rattle.std.proofs.lemmas.List.{get_or_default}
use Rattle.due_tree.specs.Cells.{lesser}
use Rattle.retry_table.specs.Table.{no_kept, kept_in}
use Rattle.retry_table.specs.Queues.{time_place, least_from}
use Rattle.due_tree.proofs.Trees.{same_option}
use Rattle.retry_table.proofs.BlockLaws.{least_end, least_step, least_met}
use Rattle.retry_table.proofs.blocks.least_in.Goals as goal

pub loop-n-init : goal.loop-n-init
loop-n-init c =
    let last = 64 * c.args.block + 64 in
    let rows = c.args.rows.now in
    record {
      low = omega (arith, c.min-n.ensures, c.requires.there);
      high = omega (arith, c.min-n.ensures);
      within = omega (arith, c.min-n.ensures);
      least = sym (least_end c.args.times rows last) ∙ ap (λ k. least_from c.args.times rows k (last - k)) (sym c.min-n.ensures);
    }

pub loop-n-preserved : goal.loop-n-preserved
loop-n-preserved c =
    let rows = c.args.rows.now in
    let h = c.loop-n.invariant in
    let last = 64 * c.args.block + 64 in
    let before = c.loop-n.n - 1 in
    let within : before < length rows = omega (arith, h.within) in
    let read : c.index-rows-n.result ≡ kept_in rows before = c.index-rows-n.is ∙ get_or_default rows before c.index-rows-n.result no_kept within in
    let place : c.place_of-place.result ≡ time_place c.args.times (kept_in rows before) = c.place_of-place.ensures ∙ ap (time_place c.args.times) read in
    record {
      low = omega arith;
      high = omega (arith, h.high);
      within = omega (arith, h.within);
      least = c.lesser-least.ensures ∙ (λ i. lesser (place i) (h.least i)) ∙ sym (least_step c.args.times rows c.loop-n.n last (omega arith) h.high);
    }

pub returns : goal.returns
returns c =
    let first = 64 * c.args.block in
    let at_first : c.loop-n.n ≡ first = omega (arith, c.loop-n.invariant.low) in
    let all : first + 64 - c.loop-n.n ≡ 64 = omega (arith, c.loop-n.invariant.low) in
    c.loop-n.invariant.least ∙ (λ i. least_from c.args.times c.args.rows.now (at_first i) (all i))

pub returns-then-eq : goal.returns-then-eq
returns-then-eq c =
    let rows = c.args.rows.now in
    let h = c.loop-n.invariant in
    let before = c.loop-n.n - 1 in
    let within : before < length rows = omega (arith, h.within) in
    let read : c.index-rows-n.result ≡ kept_in rows before = c.index-rows-n.is ∙ get_or_default rows before c.index-rows-n.result no_kept within in
    let here : time_place c.args.times (kept_in rows before) ≡ c.args.floor =
    ap (time_place c.args.times) (sym read) ∙ sym c.place_of-place.ensures ∙ same_option c.place_of-place.result c.args.floor (sym c.if-eq.ensures) in
    least_met c.args.times rows before (64 * c.args.block) 64 c.args.floor within (omega (arith, h.low)) (omega (arith, h.high)) here c.requires.above
