use Rattle.std.proofs.Common.{◌≡◌, ◌+◌, ◌<◌, ◌≤◌, ℕ, Option, length, take, get_or, sym, ◌∙◌, subst}
use Rattle.connections.proofs.DeskLemmas.{FoundFirst, next_asks, next_other, take_whole}
use Rattle.connections.proofs.desk.Desk.next.Goals as goal
use Rattle.connections.proofs.desk.Desk.next.Goals.{in-Asks, in_default}

pub loop-i-preserved : goal.loop-i-preserved
loop-i-preserved g c =
    let is : c.place-item.result ≡ get_or c.args.self.now.places.items c.loop-i.i c.place-item.result =
    rw c.deref-place-items.ensures.value at c.place-item.is in
    let within : c.loop-i.i < length c.args.self.now.places.items =
    rw c.deref-place-items.ensures.value at c.loop-i-test.true in
    let F : Option (ℕ × ℕ) → Type 0 = λ found. FoundFirst (take (c.loop-i.i + 1) c.args.self.now.places.items) found in
    elim c.match-standing.branch [
      | in-Asks w ↦
          subst F (sym (w.first-is ∙ w.earlier-first.ensures))
          (next_asks c.args.self.now.places.items c.loop-i.i c.place-item.result c.loop-i.first within is c.loop-i.invariant
          w.in-Asks.time (sym c.standing.ensures ∙ w.in-Asks.is))
      | in_default w ↦
          subst F (sym w.first-is)
          (next_other c.args.self.now.places.items c.loop-i.i c.place-item.result c.loop-i.first within is c.loop-i.invariant
          (λ time is. w.in_default.not-Asks time (c.standing.ensures ∙ is)))
    ]

pub returns-in-None : goal.returns-in-None
returns-in-None g c =
    let none : FoundFirst (take c.loop-i.i c.args.self.now.places.items) c.loop-i.first = c.loop-i.invariant in
    let within : length c.args.self.now.places.items ≤ c.loop-i.i =
    rw c.deref-place-items.ensures.value at c.loop-i-test.false in
    let all : take c.loop-i.i c.args.self.now.places.items ≡ c.args.self.now.places.items =
    take_whole c.args.self.now.places.items c.loop-i.i within in
    rw (all, c.in-None.is) at none
