use Rattle.std.proofs.Common.{◌≡◌, ◌<◌, ap, sym, subst, ◌∙◌}
use Rattle.std.specs.FinMap as fin_map
use Rattle.sync_rules.specs.Facts.{wanted_from, without_each}
use Rattle.retry_table.specs.Table as retry
use Rattle.journal_state.specs.Room.{room_in}
use Rattle.journal_state.specs.Taking.{SpendsRoom}
use Rattle.journal_state.specs.Whole.{StateValue, value_of}
use Rattle.journal_state.specs.Inside.{parts}
use Rattle.journal_state.proofs.Wants.{wants_found}
use Rattle.journal_state.proofs.WantedIds.{ids_facts, ids_room}
use Rattle.journal_state.proofs.state.State.unwant.Goals as goal

pub returns-clause-facts : goal.returns-clause-facts
returns-clause-facts c =
    let known : c.args.contact < c.self.inside.table.contacts = subst (λ (v : StateValue). c.args.contact < v.facts.contacts) (sym c.self.view_is) c.requires.known in
    let was : (retry.wants_of c.self.inside.retry c.args.contact).ids ≡ wanted_from (value_of (parts c.self.inside)).facts.wanted c.args.contact =
    sym (wants_found c.self.inside.retry c.self.inside.table.contacts c.args.contact c.self.invariant.state.free_wants) in
    ids_facts (parts c.self.inside) c.self.invariant.state c.args.contact (without_each c.args.ids.now (retry.wants_of c.self.inside.retry c.args.contact).ids) c.unwant_ids.new.retry c.unwant_ids.ensures known
    ∙ ((λ i. record (value_of (parts c.self.inside)).facts { wanted = fin_map.insert (value_of (parts c.self.inside)).facts.wanted c.args.contact (without_each c.args.ids.now (was i)) })
    ∙ ap (λ (v : StateValue). record v.facts { wanted = fin_map.insert v.facts.wanted c.args.contact (without_each c.args.ids.now (wanted_from v.facts.wanted c.args.contact)) }) c.self.view_is)

pub returns-clause-room : goal.returns-clause-room
returns-clause-room c =
    subst (λ (v : StateValue). SpendsRoom v.room (room_in c.self.inside.space c.unwant_ids.new.retry)) c.self.view_is
    (ids_room c.self.inside.space c.self.inside.retry c.unwant_ids.new.retry c.args.contact (without_each c.args.ids.now (retry.wants_of c.self.inside.retry c.args.contact).ids) c.unwant_ids.ensures)
