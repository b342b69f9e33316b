use Rattle.std.proofs.Common.{◌≡◌, ◌∙◌, ap, sym, length, [], ◌∷◌, ◌++◌, rules}
use Rattle.world_scripts.proofs.LabelLemmas.{known, named}
use Rattle.world_scripts.proofs.labels.GroupLabels.label.Goals as goal

pub returns-in_ok-push-clause-ok : goal.returns-in_ok-push-clause-ok
returns-in_ok-push-clause-ok c =
    let all : c.len.result ≡ length c.self.inside.pairs.items = search rules in
    let text : c.new-descriptor.result ≡ c.args.descriptor.now =
    c.new-descriptor.ensures ∙ c.in_ok-from_str.ensures.ok in
    c.in_ok-push.ensures.items ∙ (λ i. c.self.view_is i ++ (c.args.kind, text i) ∷ [])
    ∙ named (c.args.kind, c.args.descriptor.now) c.args.self.now c.place-place.result
    c.place-place.ensures
    (c.if-place-len.true ∙ all ∙ ap length c.self.view_is)

pub returns-else-place-len-clause-ok : goal.returns-else-place-len-clause-ok
returns-else-place-len-clause-ok c =
    let all : c.len.result ≡ length c.self.inside.pairs.items = search rules in
    known (c.args.kind, c.args.descriptor.now) c.args.self.now c.place-place.result
    c.place-place.ensures
    (λ e. c.if-place-len.false (e ∙ sym (all ∙ ap length c.self.view_is)))
