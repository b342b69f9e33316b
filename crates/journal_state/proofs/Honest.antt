-- What may be shared stays so.
use Rattle.std.proofs.Common.{◌≡◌, ℕ, zero, suc, Bool, true, List, [], ◌∷◌, set, None, Some, refl, sym, ◌∙◌, ap}
use Rattle.sync_rules.specs.declared.answers.Judgement.{Judgement}
use Rattle.sync_rules.specs.Sessions.{may_share}
use Rattle.message_graph.specs.declared.nodes.Judged.{Judged}
use Rattle.message_graph.specs.declared.nodes.Node.{Node}
use Rattle.message_graph.specs.declared.nodes.Ending.{Ending}
use Rattle.message_graph.specs.Nodes as nodes
use Rattle.journal_state.specs.Parts.{answer_of_node}
use Rattle.journal_state.specs.Inside.{IsHonest}
use Rattle.journal_state.proofs.Stepped.{kept_at}

honest_set : (ns : List Node) (shares : List Bool) (k : ℕ) (j : Judged) (share : Bool) → IsHonest ns shares → (share ≡ true → may_share (answer_of_node (Some j) true) ≡ true)
    → IsHonest (nodes.with_answer k j ns) (set shares k share)
honest_set [] shares k j share honest so n node at lets = absurd (let e : None ≡ Some node = at in cc)
honest_set (x ∷ ns) [] k j share honest so n node at lets = absurd (let e : None ≡ Some true = lets in cc)
honest_set (x ∷ ns) (b ∷ shares) zero j share honest so zero node at lets =
    let is : record x { answer = Some j } ≡ node = cc in
    let yes : share ≡ true = cc in
    ap (λ (w : Node). may_share (answer_of_node w.answer true)) (sym is) ∙ so yes
honest_set (x ∷ ns) (b ∷ shares) zero j share honest so (suc n) node at lets = honest (suc n) node at lets
honest_set (x ∷ ns) (b ∷ shares) (suc k) j share honest so zero node at lets = honest 0 node at lets
honest_set (x ∷ ns) (b ∷ shares) (suc k) j share honest so (suc n) node at lets = honest_set ns shares k j share (λ m y a l. honest (suc m) y a l) so n node at lets

-- once a message is judged, its judgement says whether it may be sent on
pub honest_judged : (ns : List Node) (shares : List Bool) (k : ℕ) (j : Judged) (share : Bool) (a : Judgement) → IsHonest ns shares → answer_of_node (Some j) share ≡ Some a → share ≡ may_share (Some a)
    → IsHonest (nodes.with_answer k j ns) (set shares k share)
honest_judged ns shares k j share a honest shows is =
    honest_set ns shares k j share honest (λ yes. ap (λ b. may_share (answer_of_node (Some j) b)) (sym yes) ∙ (ap may_share shows ∙ (sym is ∙ yes)))

pub honest_ended : (ns : List Node) (shares : List Bool) (k : ℕ) (end : Ending) → IsHonest ns shares → IsHonest (nodes.with_ending k end ns) shares
honest_ended ns shares k end honest n node at lets =
    let was = kept_at (λ (w : Node). record w { ending = Some end }) (λ (w : Node). w.answer) (λ w. refl) ns k n node at in
    ap (λ o. may_share (answer_of_node o true)) was.2 ∙ honest n was.0 was.1 lets
