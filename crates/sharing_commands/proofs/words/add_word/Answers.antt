use Rattle.std.proofs.Common.{List, ◌++◌, append-nil, sym, ap, ◌∙◌, Some, None}
use Rattle.client_sharing.specs.declared.agreement.Said.{Said}
use Rattle.sharing_commands.proofs.Spoken.{said_at}
use Rattle.sharing_commands.proofs.words.add_word.Goals as goal

pub returns-in_ok-push-in-Some : goal.returns-in_ok-push-in-Some
returns-in_ok-push-in-Some c id there =
    let held = c.args.store.now.state.facts.held in
    let place = c.delivered_at-n.ensures.place id there in
    let says =
    said_at held c.args.contact c.args.group.now id c.delivered_at-n.result place
    c.message.result.now
    c.origin.result (Some c.in-Some.said) c.message.ensures c.origin.ensures
    (sym c.in-Some.is ∙ c.in_ok-said.ensures) in
    c.in_ok-push-in-Some.ensures.items ∙ ap (λ (xs : List Said). c.args.to.now.items ++ xs) says

pub returns-in-None : goal.returns-in-None
returns-in-None c id there =
    let held = c.args.store.now.state.facts.held in
    let place = c.delivered_at-n.ensures.place id there in
    let says =
    said_at held c.args.contact c.args.group.now id c.delivered_at-n.result place
    c.message.result.now
    c.origin.result None c.message.ensures c.origin.ensures
    (sym c.in-None.is ∙ c.in_ok-said.ensures) in
    sym (append-nil c.args.to.now.items) ∙ ap (λ (xs : List Said). c.args.to.now.items ++ xs) says
