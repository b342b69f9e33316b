use Rattle.std.proofs.Common.{arith, eqb-true, sym, ◌∙◌, ap, subst}
use Rattle.sync_node.specs.Sending.{MaySend}
use Rattle.sync_node.proofs.CauseLaws.{link_sent, link_then}
use Rattle.sync_node.proofs.OutLaws.{may_unfailed}
use Rattle.sync_node.proofs.StartActs.{greeted_once, greeted_twice, none_long}
use Rattle.sync_node.proofs.attaching.greet.Goals as goal
use Rattle.sync_node.proofs.attaching.greet.Goals.{else-may_send-via-then-may_send+else-not-is_empty, else-may_send-via-else-may_send}

pub send_on-requires-then-not-is_empty : goal.send_on-requires-then-not-is_empty
send_on-requires-then-not-is_empty g c =
    omega (arith, c.requires.dialled, c.send_on.ensures.sends.same_dialled)

pub returns-then-not-is_empty-clause-run : goal.returns-then-not-is_empty-clause-run
returns-then-not-is_empty-clause-run g c =
    link_then (link_sent c.send_on.ensures)
    (link_sent c.send_on-then-not-is_empty.ensures)

pub returns-else-may_send-clause-run : goal.returns-else-may_send-clause-run
returns-else-may_send-clause-run g c = link_sent c.send_on.ensures

pub returns-then-not-is_empty-clause-went : goal.returns-then-not-is_empty-clause-went
returns-then-not-is_empty-clause-went g c =
    greeted_twice c.cite_laws.ensures.images _ _ _ _ _ _ _ _ _ c.requires.dialled
    (omega (arith, c.requires.dialled, c.send_on.ensures.sends.same_dialled))
    (may_unfailed _ (c.may_send.ensures.0 c.if-may_send.true)) c.send_on.ensures
    c.send_on-then-not-is_empty.ensures

pub returns-else-may_send-clause-went : goal.returns-else-may_send-clause-went
returns-else-may_send-clause-went g c =
    greeted_once c.cite_laws.ensures.images _ _ _ _ _ _ _ c.requires.dialled c.send_on.ensures
    (λ same. elim c.else-may_send.branch [
      | else-may_send-via-then-may_send+else-not-is_empty w ↦ none_long _ (eqb-true _ 0 (sym w.if-not-is_empty.ensures))
      | else-may_send-via-else-may_send w ↦
          let may = subst MaySend (sym (ap (λ x. x.end) same ∙ c.requires.going)) tt in
          absurd (let yes = c.may_send.ensures.1 may in let no = w.if-may_send.false in cc)
    ])
