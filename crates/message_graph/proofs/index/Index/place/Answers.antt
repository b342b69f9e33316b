use Rattle.std.proofs.Common.{◌≡◌, Bool, true, false, not, List, ℕ, None, ◌++◌, ◌∷◌, [], if◌then◌else◌, sym, ap, ◌∙◌, refl}
use Rattle.std.specs.List.{list_any}
use Rattle.message_graph.specs.declared.index.Slot.{Slot}
use Rattle.message_graph.specs.Nodes.{same_name}
use Rattle.message_graph.specs.Links.{WaitIndex, names_at}
use Rattle.message_graph.proofs.Linked.{linked-push, named-push}
use Rattle.message_graph.proofs.Placed.{placed-push, names_at-push}
use Rattle.message_graph.proofs.Positions.{passes_none}
use Rattle.message_graph.proofs.index.Index.place.Goals as goal

new_slot : Slot
new_slot = record { holder = None; last = None }

there : (b : Bool) → not b ≡ false → b ≡ true
there true h = refl
there false h = sym h

missing_by : (b : Bool) → not b ≡ true → b ≡ false
missing_by true h = sym h
missing_by false h = refl

keys_after : List (List ℕ) → List ℕ → Bool → List (List ℕ)
keys_after keys name b = if b then keys else keys ++ name ∷ []

same_keys : (c : goal.Then-not-is_new) → c.insert_full.new.self.keys ≡ c.self.inside.names.keys
unfolding keys_after
same_keys c =
    let e = rw c.unwrap-place.ensures at c.insert_full.ensures.keys in
    let added = rw c.unwrap-place.ensures at c.insert_full.ensures.added in
    e ∙ ap (keys_after c.self.inside.names.keys c.args.name) (there (list_any (same_name c.args.name) c.self.inside.names.keys) (sym added ∙ c.if-not-is_new.true))

absent : (c : goal.After-unwrap) → list_any (same_name c.args.name) c.self.inside.names.keys ≡ false
absent c =
    let added = rw c.unwrap-place.ensures at c.insert_full.ensures.added in
    missing_by (list_any (same_name c.args.name) c.self.inside.names.keys) (sym added ∙ c.if-not-is_new.false)

keys_are : (c : goal.After-unwrap) → c.insert_full.new.self.keys ≡ c.self.inside.names.keys ++ c.args.name ∷ []
unfolding keys_after
keys_are c =
    let e = rw c.unwrap-place.ensures at c.insert_full.ensures.keys in
    e ∙ ap (keys_after c.self.inside.names.keys c.args.name) (absent c)

slots_are : (c : goal.After-unwrap) → c.push.new.self.items ≡ c.self.inside.slots.items ++ new_slot ∷ []
unfolding new_slot
slots_are c = rw c.unwrap.ensures at c.push.ensures.items

pub invariant_of-self : goal.invariant_of-self
invariant_of-self c = (rw (same_keys c) c.self.invariant.0, c.self.invariant.1)

pub invariant_of-self-2 : goal.invariant_of-self-2
unfolding new_slot
invariant_of-self-2 c =
    let i = c.self.inside in (
      rw (keys_are c, slots_are c) (linked-push i.names.keys i.slots.items i.edges.items c.self.invariant.0 c.args.name new_slot (passes_none (same_name c.args.name) i.names.keys (absent c)) refl),
      rw (slots_are c) (placed-push i.slots.items i.places.items new_slot refl c.self.invariant.1),
    )

pub returns-clause-edges : goal.returns-clause-edges
returns-clause-edges c =
    let i = c.self.inside in
    rw (keys_are c) (named-push i.names.keys c.args.name i.edges.items c.self.invariant.0.places) ∙ ap (λ (l : WaitIndex). l.edges) c.self.view_is

pub returns-clause-numbers : goal.returns-clause-numbers
returns-clause-numbers c =
    let i = c.self.inside in
    let kept : names_at c.insert_full.new.self.keys i.places.items ≡ names_at i.names.keys i.places.items =
    rw (keys_are c) (names_at-push i.names.keys c.args.name i.slots.items i.places.items c.self.invariant.0.many c.self.invariant.1) in
    (λ k. record { names = (kept ∙ ap (λ (l : WaitIndex). l.numbers.names) c.self.view_is) k; room = ap (λ (l : WaitIndex). l.numbers.room) c.self.view_is k })
