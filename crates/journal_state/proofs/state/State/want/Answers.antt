use Rattle.std.proofs.Common.{◌≡◌, ◌-◌, ◌^◌, ◌<◌, List, length, ap, sym, subst, ◌∙◌, arith}
use Rattle.std.specs.FinMap as fin_map
use Rattle.sync_rules.specs.Facts.{Id, is_held, wanted_from, with_want}
use Rattle.retry_table.specs.Table as retry
use Rattle.journal_state.specs.Room.{room_in}
use Rattle.journal_state.specs.Taking.{SpendsRoom}
use Rattle.journal_state.specs.Whole.{StateValue, value_of}
use Rattle.journal_state.specs.Inside.{parts}
use Rattle.journal_state.proofs.Wants.{wants_found}
use Rattle.journal_state.proofs.WantedIds.{ids_facts, ids_room, found_held}
use Rattle.journal_state.proofs.state.State.want.Goals as goal

pub want_id-requires-clause-few : goal.want_id-requires-clause-few
want_id-requires-clause-few c =
    let was : (retry.wants_of c.self.inside.retry c.args.contact).ids ≡ wanted_from (value_of (parts c.self.inside)).facts.wanted c.args.contact =
    sym (wants_found c.self.inside.retry c.self.inside.table.contacts c.args.contact c.self.invariant.state.free_wants) in
    let few : length (wanted_from (value_of (parts c.self.inside)).facts.wanted c.args.contact) < 2 ^ 32 - 1 =
    subst (λ (v : StateValue). length (wanted_from v.facts.wanted c.args.contact) < 2 ^ 32 - 1) (sym c.self.view_is) c.requires.few in
    let long = ap (λ (ids : List Id). length ids) was in
    omega (arith, few, long)

pub returns-clause-facts : goal.returns-clause-facts
returns-clause-facts c =
    let known : c.args.contact < c.self.inside.table.contacts = subst (λ (v : StateValue). c.args.contact < v.facts.contacts) (sym c.self.view_is) c.requires.known in
    let was : (retry.wants_of c.self.inside.retry c.args.contact).ids ≡ wanted_from (value_of (parts c.self.inside)).facts.wanted c.args.contact =
    sym (wants_found c.self.inside.retry c.self.inside.table.contacts c.args.contact c.self.invariant.state.free_wants) in
    let held : c.is_some-held.result ≡ is_held c.self.inside.messages.held c.args.id = c.is_some-held.ensures
    ∙ (found_held c.args.self.now.facts.held c.args.id c.find.result c.find.ensures.found ∙ ap (λ (v : StateValue). is_held v.facts.held c.args.id) (sym c.self.view_is)) in
    ids_facts (parts c.self.inside) c.self.invariant.state c.args.contact (with_want c.is_some-held.result (retry.wants_of c.self.inside.retry c.args.contact).ids c.args.id) c.want_id.new.retry c.want_id.ensures known
    ∙ ((λ i. record (value_of (parts c.self.inside)).facts { wanted = fin_map.insert (value_of (parts c.self.inside)).facts.wanted c.args.contact (with_want (held i) (was i) c.args.id) })
    ∙ ap (λ (v : StateValue). record v.facts { wanted = fin_map.insert v.facts.wanted c.args.contact (with_want (is_held v.facts.held c.args.id) (wanted_from v.facts.wanted c.args.contact) c.args.id) }) c.self.view_is)

pub returns-clause-room : goal.returns-clause-room
returns-clause-room c =
    subst (λ (v : StateValue). SpendsRoom v.room (room_in c.self.inside.space c.want_id.new.retry)) c.self.view_is
    (ids_room c.self.inside.space c.self.inside.retry c.want_id.new.retry c.args.contact (with_want c.is_some-held.result (retry.wants_of c.self.inside.retry c.args.contact).ids c.args.id) c.want_id.ensures)
