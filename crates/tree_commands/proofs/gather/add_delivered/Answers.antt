use Rattle.std.proofs.Common.{◌≡◌, ◌<◌, ℕ, length, List, Option, None, Some, map, true, false}
use Rattle.std.proofs.Common.{get_or}
use Rattle.std.proofs.Common.{slice_get, sym, ◌∙◌, subst}
use Rattle.std.specs.Prelude.{IfSome}
use Rattle.sync_rules.specs.Clients.{Meaning}
use Rattle.sync_rules.specs.Facts.{Held, Id}
use Rattle.sync_rules.specs.Lists.{same_id}
use Rattle.journal_state.specs.Sound.{AreApart, DeliversJudged}
use Rattle.journal_state.specs.Whole.{KnowsJudgements, StateValue}
use Rattle.tree_commands.specs.Gathered.{IsThreadOf, with_delivered}
use Rattle.tree_commands.specs.Threads.{with_number}
use Rattle.tree_commands.proofs.Gathers.{beside_is, first_stands, first_within, left_out, on_made}
use Rattle.tree_commands.proofs.Gathers.{put_in}
use Rattle.tree_commands.proofs.gather.add_delivered.Goals as goal

pub returns-then-not-is_of-clause-added : goal.returns-then-not-is_of-clause-added
returns-then-not-is_of-clause-added c clients knows ids id there of =
    let f = c.args.store.now.state.facts in
    let other : same_id c.message.result.now.group c.args.group.now ≡ false =
    sym c.is_of.ensures ∙ c.if-not-is_of.true in
    left_out clients f c.args.group.now ids id c.args.thread.now of
    (beside_is f.held c.args.group.now id c.delivered_at-n.result c.message.result.now false
    (c.delivered_at-n.ensures.place id there) c.message.ensures other)

pub returns-clause-added : goal.returns-clause-added
returns-clause-added c =
    let s = c.args.store.now.state in
    let f = s.facts in
    let n = c.delivered_at-n.result in
    let group = c.args.group.now in
    let old = c.args.thread.now in
    let same : same_id c.message.result.now.group group ≡ true =
    sym c.is_of.ensures ∙ c.if-not-is_of.false in
    let apart : AreApart (map (λ (h : Held). h.id) f.held) =
    subst (λ (v : StateValue). AreApart (map (λ (h : Held). h.id) v.facts.held)) c.state.ensures
    c.show_sound.ensures.distinct in
    let ended : DeliversJudged f =
    subst (λ (v : StateValue). DeliversJudged v.facts) c.state.ensures c.show_sound.ensures.ended in
    let replied : Option ℕ = get_or c.args.firsts.now n None in
    on_made c.add.result
    (λ t. (clients : Meaning) → KnowsJudgements clients s → (ids : List Id) (id : Id)
    → slice_get f.delivered c.args.k ≡ Some id → IsThreadOf clients f ids old
    → IsThreadOf clients f (with_delivered f group ids id) t) c.add.new.self
    (with_number old n replied)
    (λ clients knows ids id there of.
    let at = c.delivered_at-n.ensures.place id there in
    put_in clients f group id n at c.message.result.now c.message.ensures same ids old replied apart
    of
    (first_stands clients s knows ended c.args.k n id c.args.firsts.now None c.requires.firsts there
    at)) c.add.ensures.added

pub add-requires-clause-replied : goal.add-requires-clause-replied
add-requires-clause-replied c =
    let s = c.args.store.now.state in
    let n = c.delivered_at-n.result in
    let within : n < length c.args.firsts.now =
    subst (λ k. n < k) (sym c.requires.many) c.delivered_at-n.ensures.within in
    subst (λ k. IfSome (get_or c.args.firsts.now n None) (λ m. m < k)) (sym c.requires.sized)
    (first_within s c.args.firsts.now n None c.requires.firsts within)
