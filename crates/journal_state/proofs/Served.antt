-- What the waiting graph says of a held message that is delivered.
use Rattle.std.proofs.Common.{◌≡◌, ℕ, ◌<◌, Bool, true, false, List, map, length, Option, None, Some, slice_get, refl, sym, ◌∙◌, ap, subst, arith}
use Rattle.std.specs.Option.{option_map}
use Rattle.sync_rules.specs.Lists.{is_among}
use Rattle.sync_rules.specs.Facts.{Held, Id}
use Rattle.sync_rules.specs.Views.{IsFound, place_of}
use Rattle.message_graph.specs.declared.nodes.Fate.{Fate}
use Rattle.message_graph.specs.declared.nodes.Fate.TheVariants as fate
use Rattle.message_graph.specs.declared.nodes.Judged.{Judged}
use Rattle.message_graph.specs.declared.nodes.Ending.{Ending}
use Rattle.message_graph.specs.declared.nodes.Ending.TheVariants as ending
use Rattle.message_graph.specs.Nodes as nodes
use Rattle.journal_state.specs.Parts.{Parts, name_at}
use Rattle.journal_state.specs.Whole.{StateValue, IsState, is_delivered_in, value_of}
use Rattle.sync_rules.proofs.PlaceLaws.{place_found}
use Rattle.journal_state.proofs.Paired.{own_node}
use Rattle.journal_state.proofs.Seen.{there}
use Rattle.journal_state.proofs.Next.{many_nodes}

pub place_within : (hs : List Held) (id : Id) (n : ℕ) → place_of hs id ≡ Some n → n < length hs
place_within hs id n e = (subst (IsFound hs id) e (place_found hs id)).within

pub node_within : (p : Parts) → IsState p → (id : Id) (n : ℕ) → place_of p.held id ≡ Some n → n < length p.nodes
node_within p s id n e = let held = place_within p.held id n e in omega (arith, held, many_nodes p s)

abbrev pub is_delivery : Fate → Bool
is_delivery fate.Delivered = true
is_delivery _ = false

fate_ends : (answer : Option Judged) (end : Option Ending) → is_delivery (nodes.fate_by answer end) ≡ nodes.is_delivered end
fate_ends answer (Some ending.Invalid) = refl
fate_ends answer (Some ending.Delivered) = refl
fate_ends None None = refl
fate_ends (Some judged) None = refl

-- the message of an id is delivered where its node's fate is that
pub delivery_is : (p : Parts) → IsState p → (id : Id) (n : ℕ) → place_of p.held id ≡ Some n → (f : Fate) → option_map nodes.fate_of (slice_get p.nodes n) ≡ Some f
    → is_delivery f ≡ is_among (map (name_at p.nodes) p.delivered) id
delivery_is p s id n e f is =
    let node = there p.nodes n (node_within p s id n e) in
    let whole : Some (nodes.fate_of node.0) ≡ Some f = ap (option_map nodes.fate_of) (sym node.1) ∙ is in
    let same : nodes.fate_of node.0 ≡ f = cc in
    ap is_delivery (sym same)
    ∙ (fate_ends node.0.answer node.0.ending
    ∙ sym (s.ended id ∙ ap is_delivered_in (own_node p.nodes p.held s.named id n node.0 e node.1)))

-- the same, of the value that the parts are seen as
pub delivery_told : (p : Parts) → IsState p → (v : StateValue) → value_of p ≡ v → (id : Id) (n : ℕ) → place_of v.facts.held id ≡ Some n
    → (f : Fate) → option_map nodes.fate_of (slice_get p.nodes n) ≡ Some f → is_delivery f ≡ is_among v.facts.delivered id
delivery_told p s v same id n e f is =
    delivery_is p s id n (subst (λ (x : StateValue). place_of x.facts.held id ≡ Some n) (sym same) e) f is
    ∙ ap (λ (x : StateValue). is_among x.facts.delivered id) same
