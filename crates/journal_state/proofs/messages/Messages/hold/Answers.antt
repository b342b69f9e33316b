use Rattle.std.proofs.Common.{◌≡◌, [], ◌∷◌, ◌++◌, arith, length, length-append, map, ap, ◌∙◌}
use Rattle.std.proofs.lemmas.List.{length-map, map-append}
use Rattle.journal_state.specs.declared.messages.KeptMessage.{KeptMessage}
use Rattle.journal_state.specs.Holding.{Holding, held_of}
use Rattle.journal_state.proofs.messages.Messages.hold.Goals as goal

pub returns-clause-held : goal.returns-clause-held
returns-clause-held c =
    let kept : KeptMessage = record { message = c.args.message; origin = c.args.origin } in
    let items : c.push.new.self.items ≡ c.self.inside.kept.items ++ kept ∷ [] = rw c.unwrap.ensures at c.push.ensures.items in
    ap (map held_of) items ∙ (map-append held_of c.self.inside.kept.items (kept ∷ []) ∙ ap (λ (m : Holding). m.held ++ held_of kept ∷ []) c.self.view_is)

pub invariant_of-self : goal.invariant_of-self
invariant_of-self c =
    let kept : KeptMessage = record { message = c.args.message; origin = c.args.origin } in
    let items : c.push.new.self.items ≡ c.self.inside.kept.items ++ kept ∷ [] = rw c.unwrap.ensures at c.push.ensures.items in
    let same : map held_of c.self.inside.kept.items ≡ c.args.self.now.held = ap (λ (m : Holding). m.held) c.self.view_is in
    omega (arith, ap length items, length-append c.self.inside.kept.items (kept ∷ []), length-map c.self.inside.kept.items held_of, ap length same, c.requires.few)
