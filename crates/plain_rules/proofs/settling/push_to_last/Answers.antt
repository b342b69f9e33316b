-- What is set at the last place is the last batch with the entry.
use Rattle.std.proofs.Common.{◌-◌, Result, Ok, Err, OnOk, arith}
use Rattle.plain_rules.proofs.Filling.{set_last}
use Rattle.plain_rules.proofs.settling.push_to_last.Goals as goal

on_ok : {T E A B : Type 0} (r : Result T E) → (A → B) → OnOk r A → OnOk r B
on_ok (Ok x) f a = f a
on_ok (Err e) f a = tt

pub returns-clause-ok : goal.returns-clause-ok
returns-clause-ok c =
    on_ok c.push.result
    (λ e. set_last c.args.j.now.items (c.len-last.result - 1) c.index_mut-batch.result.now c.push.new.self c.args.entry
    (omega (arith, c.len-last.ensures)) c.index_mut-batch.ensures.value e)
    c.push.ensures.ok
