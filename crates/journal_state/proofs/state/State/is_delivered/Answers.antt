use Rattle.std.proofs.Common.{◌≡◌, Some, inl, inr, sym, ap, subst, ◌∙◌}
use Rattle.sync_rules.specs.Views.{place_of}
use Rattle.journal_state.specs.Whole.{StateValue}
use Rattle.journal_state.specs.Inside.{parts}
use Rattle.journal_state.proofs.Served.{delivery_told, is_delivery, node_within}
use Rattle.journal_state.proofs.state.State.is_delivered.Goals as goal

pub fate-requires : goal.fate-requires
fate-requires c =
    node_within (parts c.self.inside) c.self.invariant.state c.args.id.now c.args.n
    (subst (λ (v : StateValue). place_of v.facts.held c.args.id.now ≡ Some c.args.n) (sym c.self.view_is) c.requires)

pub returns-in-Delivered : goal.returns-in-Delivered
returns-in-Delivered c =
    ap is_delivery (sym c.in-Delivered.is)
    ∙ delivery_told (parts c.self.inside) c.self.invariant.state c.args.self.now c.self.view_is c.args.id.now c.args.n c.requires c.fate.result c.fate.ensures

pub returns-in-Unknown : goal.returns-in-Unknown
returns-in-Unknown c =
    let told = delivery_told (parts c.self.inside) c.self.invariant.state c.args.self.now c.self.view_is c.args.id.now c.args.n c.requires c.fate.result c.fate.ensures in
    elim c.in-Unknown.is [
      | inl a ↦ ap is_delivery (sym a) ∙ told
      | inr more ↦ elim more [ inl b ↦ ap is_delivery (sym b) ∙ told | inr d ↦ ap is_delivery (sym d) ∙ told ]
    ]
