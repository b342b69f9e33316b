use Rattle.std.proofs.Common.{◌≡◌, Some, ◌<◌, ◌++◌, ◌∷◌, [], length, set, get_or, if◌then◌else◌, sym, ap, ◌∙◌, arith}
use Rattle.std.proofs.lemmas.List.{map-set, map-append, length-set, length-map}
use Rattle.std.proofs.Math.Seq.{map-set_same}
use Rattle.message_graph.specs.declared.index.Slot.{Slot}
use Rattle.message_graph.specs.Nodes.{same_name}
use Rattle.message_graph.specs.Links.{WaitIndex, Numbers, names_at, place_of, holder_of, holder_at, last_before}
use Rattle.message_graph.proofs.Linked.{relinked, holder-set, holders_of, found_name, last_there, slot_last}
use Rattle.message_graph.proofs.Placed.{placed-hold}
use Rattle.message_graph.proofs.index.Index.hold.Goals as goal

found : (c : goal.After-self-1) → place_of c.self.inside.names.keys c.args.name ≡ Some c.add-place.result
found c = ap (λ (l : WaitIndex). place_of l.names c.args.name) c.self.view_is ∙ c.add-place.ensures.place

within : (c : goal.After-self-1) → c.add-place.result < length c.self.inside.slots.items
within c = let i = c.self.inside in let f = (found_name i.names.keys i.slots.items i.edges.items c.self.invariant.0 c.args.name c.add-place.result (found c)).0 in omega (arith, f, c.self.invariant.0.many)

number_is : (c : goal.After-self-1) → c.args.number ≡ length c.self.inside.places.items
number_is c = c.requires.next ∙ sym (ap (λ (l : WaitIndex). length l.numbers.names) c.self.view_is ∙ ap (λ (n : Numbers). length n.names) c.add-place.ensures.numbers) ∙ length-map c.self.inside.places.items (λ place. get_or c.self.inside.names.keys place [])

places_are : (c : goal.After-self-1) → c.push.new.self.items ≡ c.self.inside.places.items ++ c.add-place.result ∷ []
places_are c = rw c.unwrap.ensures at c.push.ensures.items

pub invariant_of-self : goal.invariant_of-self
invariant_of-self c =
    let i = c.self.inside in
    let slot : Slot = record { holder = Some c.args.number; last = c.index_mut-slot.result.now.last } in (
      relinked i.names.keys i.slots.items i.edges.items c.self.invariant.0 (set i.slots.items c.add-place.result slot) (length-set i.slots.items c.add-place.result slot)
          (map-set_same (λ (s : Slot). s.last) i.slots.items c.add-place.result slot c.index_mut-slot.result.now (ap (λ (s : Slot). s.last) c.index_mut-slot.ensures.value)),
      rw (places_are c) (placed-hold i.slots.items i.places.items c.add-place.result slot (within c) (ap Some (number_is c)) c.self.invariant.1),
    )

pub returns-clause-holders : goal.returns-clause-holders
returns-clause-holders c = λ other.
    let i = c.self.inside in
    let slot : Slot = record { holder = Some c.args.number; last = c.index_mut-slot.result.now.last } in
    let len : length (holders_of i.slots.items) ≡ length i.names.keys = length-map i.slots.items (λ (s : Slot). s.holder) ∙ c.self.invariant.0.many in
    ap (λ hs. holder_at hs (place_of i.names.keys other)) (map-set (λ (s : Slot). s.holder) i.slots.items c.add-place.result slot)
    ∙ holder-set i.names.keys i.slots.items i.edges.items c.self.invariant.0 (holders_of i.slots.items) c.args.name c.add-place.result (Some c.args.number) len (found c) other
    ∙ ap (λ o. if same_name other c.args.name then Some c.args.number else o) (ap (λ (l : WaitIndex). holder_of l other) c.self.view_is ∙ c.add-place.ensures.holders other)

pub returns-clause-last : goal.returns-clause-last
returns-clause-last c =
    let i = c.self.inside in
    sym (slot_last i.slots.items c.add-place.result c.index_mut-slot.result.now (within c) c.index_mut-slot.ensures.value)
    ∙ (last_there i.names.keys i.slots.items i.edges.items c.self.invariant.0 c.args.name c.add-place.result (found c)
    ∙ ap (λ es. last_before es c.args.name (length es)) (ap (λ (l : WaitIndex). l.edges) c.self.view_is ∙ c.add-place.ensures.edges))

pub returns-clause-held : goal.returns-clause-held
returns-clause-held c =
    let i = c.self.inside in
    let f = found_name i.names.keys i.slots.items i.edges.items c.self.invariant.0 c.args.name c.add-place.result (found c) in
    ap (names_at i.names.keys) (places_are c) ∙ map-append (λ place. get_or i.names.keys place []) i.places.items (c.add-place.result ∷ [])
    ∙ (λ k. (ap (λ (l : WaitIndex). l.numbers.names) c.self.view_is ∙ ap (λ (n : Numbers). n.names) c.add-place.ensures.numbers) k ++ sym f.1 k ∷ [])
