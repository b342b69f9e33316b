use Rattle.std.proofs.Common.{◌≡◌, ℕ, List, [], Option, Bool, refl, sym, subst}
use Rattle.retry_table.specs.declared.blocks.Times.TheVariants as times
use Rattle.retry_table.specs.Table.{KeptRow}
use Rattle.retry_table.specs.Queues.{is_awaited, AreClasses, AreQueues}
use Rattle.retry_table.specs.declared.classes.Classes.{Classes}
use Rattle.retry_table.proofs.BlockLaws.{least_none}
use Rattle.retry_table.proofs.Follows.{follows_none}
use Rattle.retry_table.proofs.queues.Queues.new.Goals as goal

none : (classes : Classes) → AreClasses [] classes → AreQueues [] [] [] [] [] classes
none classes a = record {
  by_expiry = least_none times.ToSend;
  by_request = follows_none is_awaited refl;
  by_offer = least_none times.ToOffer;
  by_debt = follows_none (λ kept. kept.row.owed) refl;
  by_tries = a;
}

empty : (rows : List KeptRow) (messages : List (Option ℕ)) (asked : List Bool) (offers : List (Option ℕ)) (owed : List Bool) (classes : Classes) → AreClasses [] classes → rows ≡ [] → messages ≡ [] → asked ≡ [] → offers ≡ [] → owed ≡ [] → AreQueues rows messages asked offers owed classes
empty rows messages asked offers owed classes all r m a o d =
    subst (λ (x : List Bool). AreQueues rows messages asked offers x classes) (sym d)
    (subst (λ (x : List (Option ℕ)). AreQueues rows messages asked x [] classes) (sym o)
    (subst (λ (x : List Bool). AreQueues rows messages x [] [] classes) (sym a)
    (subst (λ (x : List (Option ℕ)). AreQueues rows x [] [] [] classes) (sym m)
    (subst (λ (x : List KeptRow). AreQueues x [] [] [] [] classes) (sym r) (none classes all)))))

pub invariant_of-result : goal.invariant_of-result
invariant_of-result c =
    empty c.new-5.result.items c.in_ok-messages.messages c.in_ok-asked.asked c.in_ok-offers.offers c.in_ok-owed.owed c.new-6.result c.new-6.ensures
    c.new-5.ensures.items c.in_ok-messages.ensures c.in_ok-asked.ensures c.in_ok-offers.ensures c.in_ok-owed.ensures
