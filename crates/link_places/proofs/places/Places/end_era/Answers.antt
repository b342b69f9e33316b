use Rattle.std.proofs.Common.{◌≡◌, ℕ, ◌<◌, length, map, ◌∙◌, ap, refl, arith, slice_index_or, slice_set, List}
use Rattle.std.proofs.lemmas.List.Elements.{All-set}
use Rattle.link_places.specs.declared.place.Place.{Place}
use Rattle.link_places.specs.Places.{IsPlace, after_era, ended_by_node}
use Rattle.link_places.proofs.PlaceLemmas.{ended, ended_all, ended_next}
use Rattle.link_places.proofs.places.Places.end_era.Goals as goal

pub loop-place-init : goal.loop-place-init
loop-place-init c = record { items = refl; full = refl; each = c.self.invariant }

pub loop-place-preserved : goal.loop-place-preserved
loop-place-preserved c =
    let items : List Place = c.loop-place.self-inside.places.items in
    let n : ℕ = c.loop-place.place in
    let old : List Place = c.self.inside.places.items in
    let p : Place = c.index-p.result.now in
    let less : n < length old = omega (arith, c.loop-place-test.true, c.len-place-end.ensures) in
    let one : c.ended_by_node.result ≡ ended_by_node (slice_index_or items n p) =
    c.ended_by_node.ensures.value ∙ ap ended_by_node c.index-p.ensures in
    record {
      items = ap (slice_set items n) one ∙ ap (λ l. slice_set l n (ended_by_node (slice_index_or l n p))) c.loop-place.invariant.items ∙ ended_next n old p less;
      full = c.loop-place.invariant.full;
      each = All-set IsPlace items n c.ended_by_node.result c.ended_by_node.ensures.within c.loop-place.invariant.each;
    }

pub returns : goal.returns
returns c =
    let n : ℕ = c.loop-place.place in
    let old : List Place = c.self.inside.places.items in
    let whole : n ≡ length old = omega (arith, c.loop-place-test.false, c.loop-place.auto.place-end, c.len-place-end.ensures) in
    let items : c.loop-place.self-inside.places.items ≡ map ended_by_node old =
    c.loop-place.invariant.items ∙ ap (λ m. ended m old) whole ∙ ended_all old in
    (λ i. record { places = items i; full = c.loop-place.invariant.full i }) ∙ ap after_era c.self.view_is
