use Rattle.std.proofs.Common.{◌≡◌, ◌↔◌, Bool, true, false, not, Option, None, Some, is_some, is_none, IsTrue, refl, sym, subst}
use Rattle.std.proofs.lemmas.Bool.{false≢true}
use Rattle.sync_rules.specs.Clients.{Meaning}
use Rattle.sync_rules.specs.Steps.{IsSettled}
use Rattle.journal_state.specs.Whole.{StateValue, KnowsJudgements}
use Rattle.journal_state.specs.Inside.{parts}
use Rattle.journal_state.proofs.Next.{settled_same}
use Rattle.journal_state.proofs.state.State.is_settled.Goals as goal

none_is : {A : Type 0} (o : Option A) (b : Bool) → is_some o ≡ not b → b ≡ is_none o
none_is None true e = refl
none_is None false e = absurd (false≢true e)
none_is (Some x) true e = absurd (false≢true (sym e))
none_is (Some x) false e = refl

pub returns : goal.returns
returns c =
    subst (λ (v : StateValue). (clients : Meaning) → KnowsJudgements clients v → (IsTrue c.is_none.result ↔ IsSettled clients v.facts)) c.self.view_is
    (λ clients k. settled_same clients (parts c.self.inside) c.self.invariant.state k c.next.result c.is_none.result c.next.ensures (none_is c.next.result c.is_none.result c.is_none.ensures))
