use Rattle.std.proofs.Common.{ℕ, Bool, ◌+◌, List, sym, subst, arith}
use Rattle.retry_table.specs.Table.{KeptRow}
use Rattle.retry_table.specs.Queues.{is_timely}
use Rattle.retry_table.proofs.Listing.{AreFound, found_none, found_within, found_more}
use Rattle.retry_table.proofs.places.set_places.Goals as goal
use Rattle.sync_ids.specs.declared.lists.TheConstants.{MAX_IDS}

pub returns-in-None : goal.returns-in-None
returns-in-None c =
    found_none (λ is_in. is_in) c.args.set.now MAX_IDS c.loop-i.places.items c.loop-i.from c.loop-i._i c.loop-i.invariant (sym c.in-None.ensures)

pub overflow_cast-place : goal.overflow_cast-place
overflow_cast-place c =
    omega (arith, c.requires, found_within (λ is_in. is_in) c.args.set.now MAX_IDS c.loop-i.places.items c.loop-i.from c.loop-i._i c.loop-i.invariant c.in-Some.place (sym c.in-Some.ensures))

pub overflow_add-from : goal.overflow_add-from
overflow_add-from c =
    omega (arith, c.requires, found_within (λ is_in. is_in) c.args.set.now MAX_IDS c.loop-i.places.items c.loop-i.from c.loop-i._i c.loop-i.invariant c.in-Some.place (sym c.in-Some.ensures))

pub loop-i-preserved : goal.loop-i-preserved
loop-i-preserved c =
    let xs = c.args.set.now in
    subst (λ (found : List ℕ). AreFound (λ is_in. is_in) xs MAX_IDS found (c.in-Some.place + 1) (c.loop-i._i + 1)) (sym c.in_ok-push-in-Some.ensures.items)
    (found_more (λ is_in. is_in) xs MAX_IDS c.loop-i.places.items c.loop-i.from c.loop-i._i c.loop-i.invariant c.in-Some.place c.loop-i-test.true (sym c.in-Some.ensures))
