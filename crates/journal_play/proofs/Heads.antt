-- What the lines say, of what is kept beside the ids.
use Rattle.std.proofs.Common.{◌≡◌, ℕ, zero, suc, ◌<◌, List, [], ◌∷◌, ◌++◌, length, refl, sym, ◌∙◌, ap, arith, Some, None, slice_get, get_or}
use Rattle.std.specs.Option.{option_map}
use Rattle.message_graph.specs.declared.nodes.Node.{Node}
use Rattle.message_graph.specs.declared.nodes.Judged.{Judged}
use Rattle.message_graph.specs.declared.nodes.Ending.TheVariants as ending
use Rattle.message_graph.specs.declared.nodes.Step.{Step}
use Rattle.message_graph.specs.declared.nodes.Step.TheVariants as graph_step
use Rattle.message_graph.specs.Nodes.{after_step, change, fresh_node, with_answer}
use Rattle.journal_play.specs.declared.kept.Head.{Head}
use Rattle.journal_play.specs.declared.kept.Rest.{Rest}
use Rattle.journal_play.specs.Holding.{HeldHeads, head_with, heads_of, rest_of, with_more}

-- nodes that keep their names say the same
heads_change : (f : Node → Node) → ((node : Node) → (f node).name ≡ node.name) → (n : ℕ) (rests : List Rest) (nodes : List Node)
    → heads_of rests (change f n nodes) ≡ heads_of rests nodes
heads_change f same n [] nodes = refl
heads_change f same n (rest ∷ rests) [] = refl
heads_change f same zero (rest ∷ rests) (node ∷ nodes) = λ i. head_with (same node i) rest ∷ heads_of rests nodes
heads_change f same (suc n) (rest ∷ rests) (node ∷ nodes) = ap (λ (hs : List Head). head_with node.name rest ∷ hs) (heads_change f same n rests nodes)

pub heads_answered : (n : ℕ) (answer : Judged) (rests : List Rest) (nodes : List Node) → heads_of rests (with_answer n answer nodes) ≡ heads_of rests nodes
heads_answered n answer rests nodes = heads_change (λ (node : Node). record node { answer = Some answer }) (λ node. refl) n rests nodes

pub heads_after : (s : Step) (rests : List Rest) (nodes : List Node) → heads_of rests (after_step s nodes) ≡ heads_of rests nodes
heads_after (graph_step.Judge n) rests nodes = refl
heads_after (graph_step.Invalid n) rests nodes = heads_change (λ (node : Node). record node { ending = Some ending.Invalid }) (λ node. refl) n rests nodes
heads_after (graph_step.Deliver n) rests nodes = heads_change (λ (node : Node). record node { ending = Some ending.Delivered }) (λ node. refl) n rests nodes

-- one more message at the end
pub heads_push : (rests : List Rest) (nodes : List Node) (rest : Rest) (node : Node) → length nodes ≡ length rests
    → heads_of (rests ++ rest ∷ []) (nodes ++ node ∷ []) ≡ heads_of rests nodes ++ head_with node.name rest ∷ []
heads_push [] [] rest node each = refl
heads_push [] (m ∷ nodes) rest node each = absurd (omega (arith, each))
heads_push (r ∷ rests) [] rest node each = absurd (omega (arith, each))
heads_push (r ∷ rests) (m ∷ nodes) rest node each =
    ap (λ (hs : List Head). head_with m.name r ∷ hs) (heads_push rests nodes rest node (omega (arith, each)))

pub heads_length : (rests : List Rest) (nodes : List Node) → length nodes ≡ length rests → length (heads_of rests nodes) ≡ length nodes
heads_length [] [] each = refl
heads_length [] (m ∷ nodes) each = absurd (omega (arith, each))
heads_length (r ∷ rests) [] each = absurd (omega (arith, each))
heads_length (r ∷ rests) (m ∷ nodes) each = ap suc (heads_length rests nodes (omega (arith, each)))

-- what is read at a number stands there
pub got_there : {A : Type 0} (xs : List A) (n : ℕ) (x : A) → n < length xs → x ≡ get_or xs n x → slice_get xs n ≡ Some x
got_there [] n x within is = absurd (omega arith)
got_there (y ∷ xs) zero x within is = ap (λ w. Some w) (sym is)
got_there (y ∷ xs) (suc n) x within is = got_there xs n x (omega arith) is

-- what stands at a number
pub heads_at : (rests : List Rest) (nodes : List Node) (n : ℕ) (rest : Rest) (id : List ℕ) → slice_get rests n ≡ Some rest
    → option_map (λ (node : Node). node.name) (slice_get nodes n) ≡ Some id → slice_get (heads_of rests nodes) n ≡ Some (head_with id rest)
heads_at [] nodes n rest id at named = absurd (let e : None ≡ Some rest = at in cc)
heads_at (r ∷ rests) [] n rest id at named = absurd (let e : None ≡ Some id = named in cc)
heads_at (r ∷ rests) (m ∷ nodes) zero rest id at named =
    let is : r ≡ rest = cc in
    let name : m.name ≡ id = cc in
    λ i. Some (head_with (name i) (is i))
heads_at (r ∷ rests) (m ∷ nodes) (suc n) rest id at named = heads_at rests nodes n rest id at named

-- ---- what the calls leave

-- what is kept, as contracts see it
abbrev pub shown : List Rest → List Node → HeldHeads
shown rests nodes = record { heads = heads_of rests nodes; nodes = nodes }

pub held_changed : (rests : List Rest) (F : List Node → List Node) (old new : List Node)
    (held : HeldHeads) → shown rests old ≡ held
    → heads_of rests (F old) ≡ heads_of rests old → new ≡ F old → shown rests new ≡ record held { nodes = F held.nodes }
held_changed rests F old new held same keeps is =
    ap (shown rests) is
    ∙ (λ i. record { heads = keeps i; nodes = F old })
    ∙ ap (λ (h : HeldHeads). record h { nodes = F h.nodes }) same

pub held_more : (rests more : List Rest) (old new : List Node) (held : HeldHeads) (h : Head)
    → shown rests old ≡ held → length old ≡ length rests
    → new ≡ old ++ fresh_node h.id 0 ∷ [] → more ≡ rests ++ rest_of h ∷ []
    → shown more new ≡ with_more h held
held_more rests more old new held h same each is_nodes is_rests =
    (λ i. shown (is_rests i) (is_nodes i))
    ∙ (λ i. record {
      heads = heads_push rests old (rest_of h) (fresh_node h.id 0) each i;
      nodes = old ++ fresh_node h.id 0 ∷ [];
    })
    ∙ ap (with_more h) same
