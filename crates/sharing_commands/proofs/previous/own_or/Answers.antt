use Rattle.std.proofs.Common.{◌≡◌, true, false, sym, ◌∙◌}
use Rattle.sync_rules.specs.Facts.{held_at}
use Rattle.sharing_commands.specs.Sayings.{is_own}
use Rattle.sharing_commands.proofs.Own.{id_at, own_at, own_chosen}
use Rattle.sharing_commands.proofs.previous.own_or.Goals as goal

pub returns-then-is_own : goal.returns-then-is_own
returns-then-is_own c id there =
    let f = c.args.store.now.state.facts in
    let group = c.args.group.now in
    let place = c.delivered_at-n.ensures.place id there in
    let is : true ≡ is_own group (held_at f.held id) =
    sym c.if-is_own.true ∙ c.is_own.ensures
    ∙ own_at f group id c.delivered_at-n.result place c.message.result.now c.origin.result
    c.message.ensures c.origin.ensures in
    id_at f group id c.id_at.result c.delivered_at-n.result place c.id_at.ensures
    ∙ own_chosen f group c.args.earlier id true is

pub returns-else-is_own : goal.returns-else-is_own
returns-else-is_own c id there =
    let f = c.args.store.now.state.facts in
    let group = c.args.group.now in
    let place = c.delivered_at-n.ensures.place id there in
    let is : false ≡ is_own group (held_at f.held id) =
    sym c.if-is_own.false ∙ c.is_own.ensures
    ∙ own_at f group id c.delivered_at-n.result place c.message.result.now c.origin.result
    c.message.ensures c.origin.ensures in
    own_chosen f group c.args.earlier id false is
