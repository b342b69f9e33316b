-- Nodes, of their names and the rest of each.
use Rattle.std.proofs.Common.{◌≡◌, ℕ, zero, suc, ◌<◌, ◌≤◌, List, [], ◌∷◌, ◌++◌, length, None, Some, slice_get, refl, sym, ap, subst, ◌∙◌, get_or, set, arith}
use Rattle.std.specs.Option.{option_map}
use Rattle.message_graph.specs.declared.nodes.Node.{Node}
use Rattle.message_graph.specs.declared.nodes.Unnamed.{Unnamed}
use Rattle.std.proofs.lemmas.Option.{get_or_from_slice_get}
use Rattle.message_graph.specs.Nodes.{with_name, with_names, change, fate_of, fate_by, node_named}
use Rattle.message_graph.specs.Nodes.{node_number, same_name}
use Rattle.message_graph.specs.Waits.{group_at, group_in}
use Rattle.message_graph.proofs.Linked.{same_equal}
use Rattle.message_graph.proofs.Named.{node_named-number, node_at}
use Rattle.message_graph.proofs.Changes.{node_there}
use Rattle.message_graph.proofs.Positions.{Tells, position_tells}

-- there are as many
pub length-with_names : (names : List (List ℕ)) (rests : List Unnamed) → length names ≡ length rests → length (with_names names rests) ≡ length rests
length-with_names [] rests h = h
length-with_names (name ∷ names) [] h = refl
length-with_names (name ∷ names) (rest ∷ rests) h = ap suc (length-with_names names rests (omega arith))

pub within_rests : (names : List (List ℕ)) (rests : List Unnamed) → length (with_names names rests) ≤ length rests
within_rests [] rests = omega arith
within_rests (name ∷ names) [] = omega arith
within_rests (name ∷ names) (rest ∷ rests) = omega (arith, within_rests names rests)

-- one more of each
pub with_names-push : (names : List (List ℕ)) (rests : List Unnamed) (name : List ℕ) (rest : Unnamed) → length names ≡ length rests → with_names (names ++ name ∷ []) (rests ++ rest ∷ []) ≡ with_names names rests ++ with_name name rest ∷ []
with_names-push [] [] name rest h = refl
with_names-push [] (r ∷ rests) name rest h = absurd (omega arith)
with_names-push (x ∷ names) [] name rest h = absurd (omega arith)
with_names-push (x ∷ names) (r ∷ rests) name rest h = ap (λ ns. with_name x r ∷ ns) (with_names-push names rests name rest (omega arith))

-- one of them changed, but for its name
pub with_names-set : (f : Node → Node) (g : Unnamed → Unnamed) → ((name : List ℕ) (rest : Unnamed) → with_name name (g rest) ≡ f (with_name name rest))
    → (names : List (List ℕ)) (rests : List Unnamed) (n : ℕ) (rest : Unnamed) → rest ≡ get_or rests n rest → with_names names (set rests n (g rest)) ≡ change f n (with_names names rests)
with_names-set f g same [] rests n rest h = refl
with_names-set f g same (x ∷ names) [] n rest h = refl
with_names-set f g same (x ∷ names) (r ∷ rests) zero rest h = (λ i. same x (h i) i ∷ with_names names rests)
with_names-set f g same (x ∷ names) (r ∷ rests) (suc n) rest h = ap (λ ns. with_name x r ∷ ns) (with_names-set f g same names rests n rest h)

-- their groups
pub group-with_names : (names : List (List ℕ)) (rests : List Unnamed) (k : ℕ) → length names ≡ length rests → group_in rests k ≡ group_at (with_names names rests) k
group-with_names [] [] k h = refl
group-with_names [] (r ∷ rests) k h = absurd (omega arith)
group-with_names (x ∷ names) [] k h = absurd (omega arith)
group-with_names (x ∷ names) (r ∷ rests) zero h = refl
group-with_names (x ∷ names) (r ∷ rests) (suc k) h = group-with_names names rests k (omega arith)

-- the one at a number has the name at that number
pub name_there : (names : List (List ℕ)) (rests : List Unnamed) (k : ℕ) → length names ≡ length rests → option_map (λ (node : Node). node.name) (slice_get (with_names names rests) k) ≡ slice_get names k
name_there [] rests k h = refl
name_there (x ∷ names) [] k h = absurd (omega arith)
name_there (x ∷ names) (r ∷ rests) zero h = refl
name_there (x ∷ names) (r ∷ rests) (suc k) h = name_there names rests k (omega arith)

-- and the rest at that number
pub rest_there : (names : List (List ℕ)) (rests : List Unnamed) (k : ℕ) (node : Node) (rest : Unnamed) → slice_get (with_names names rests) k ≡ Some node → rest ≡ get_or rests k rest → node ≡ with_name node.name rest
rest_there [] rests k node rest h r = absurd (let e : None ≡ Some node = h in cc)
rest_there (x ∷ names) [] k node rest h r = absurd (let e : None ≡ Some node = h in cc)
rest_there (x ∷ names) (y ∷ rests) zero node rest h r =
    let is : with_name x y ≡ node = (let e : Some (with_name x y) ≡ Some node = h in cc) in
    sym is ∙ (λ i. with_name ((ap (λ (n : Node). n.name) is) i) (sym r i))
rest_there (x ∷ names) (y ∷ rests) (suc k) node rest h r = rest_there names rests k node rest h r

pub fate_there : (names : List (List ℕ)) (rests : List Unnamed) (k : ℕ) (rest : Unnamed) → length names ≡ length rests → k < length rests → rest ≡ get_or rests k rest → option_map fate_of (slice_get (with_names names rests) k) ≡ Some (fate_by rest.answer rest.ending)
fate_there [] [] k rest h l r = absurd (omega arith)
fate_there [] (y ∷ rests) k rest h l r = absurd (omega arith)
fate_there (x ∷ names) [] k rest h l r = absurd (omega arith)
fate_there (x ∷ names) (y ∷ rests) zero rest h l r = (λ i. Some (fate_by (sym r i).answer (sym r i).ending))
fate_there (x ∷ names) (y ∷ rests) (suc k) rest h l r = fate_there names rests k rest (omega arith) (omega arith) r

-- a node has the group of the rest at its number
pub group_there : (names : List (List ℕ)) (rests : List Unnamed) (k : ℕ) (rest : Unnamed) → length names ≡ length rests → k < length rests → rest ≡ get_or rests k rest → option_map (λ (node : Node). node.group) (slice_get (with_names names rests) k) ≡ Some rest.group
group_there [] [] k rest h l r = absurd (omega arith)
group_there [] (y ∷ rests) k rest h l r = absurd (omega arith)
group_there (x ∷ names) [] k rest h l r = absurd (omega arith)
group_there (x ∷ names) (y ∷ rests) zero rest h l r = λ i. Some (sym r i).group
group_there (x ∷ names) (y ∷ rests) (suc k) rest h l r = group_there names rests k rest (omega arith) (omega arith) r

-- the rest at the number of a name is that of the node of that name
pub named_rest : (names : List (List ℕ)) (rests : List Unnamed) (name : List ℕ) (k : ℕ)
    (rest : Unnamed) → node_number (with_names names rests) name ≡ Some k
    → rest ≡ get_or rests k rest
    → Some (with_name name rest) ≡ node_named (with_names names rests) name
named_rest names rests name k rest found read =
    let nodes = with_names names rests in
    let t : Tells (λ (n : Node). same_name name n.name) nodes (Some k) = subst (Tells (λ (n : Node). same_name name n.name) nodes) found (position_tells (λ (n : Node). same_name name n.name) nodes) in
    let there = node_there nodes k t.0 in
    let at : get_or nodes k there.0 ≡ there.0 = get_or_from_slice_get nodes k there.0 there.0 there.1 in
    let alike : name ≡ there.0.name = same_equal name there.0.name (ap (λ (n : Node). same_name name n.name) (sym at) ∙ t.1 there.0) in
    let is : there.0 ≡ with_name there.0.name rest = rest_there names rests k there.0 rest there.1 read in
    sym (node_named-number nodes name ∙ ap (node_at nodes) found ∙ there.1 ∙ ap Some (is ∙ (λ i. with_name (sym alike i) rest)))
