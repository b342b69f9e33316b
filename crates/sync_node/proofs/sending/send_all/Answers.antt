use Rattle.std.proofs.Common.{◌≡◌, Bool, true, false, arith, refl, sym, ◌∙◌}
use Rattle.std.proofs.lemmas.Bool.{false≢true}
use Rattle.sync_course.specs.Links.{is_sent_to}
use Rattle.sync_course.specs.declared.ends.LinkEnd.{LinkEnd}
use Rattle.sync_node.specs.Sending.{MaySend}
use Rattle.sync_node.proofs.KeepLaws.{gather_failed, may_begin}
use Rattle.sync_node.proofs.OutLaws.{may_end, may_not_end}
use Rattle.sync_node.proofs.SendActs.{broken_of, due_broken, flush_broke, outs_work, under_of}
use Rattle.sync_node.proofs.sending.send_all.Goals as goal

pub join_outs-joined-requires-clause-able : goal.join_outs-joined-requires-clause-able
join_outs-joined-requires-clause-able g c = may_begin c.cite_store.ensures c.requires.able

pub flush-requires : goal.flush-requires
flush-requires g c = record {
  waits =
      (under_of _ _ c.args.now _ _ _ _ _ _ _ c.join_outs-joined.result
      (sym c.disk_failed.ensures ∙ c.if-disk_failed.false) c.join_outs-joined.ensures.went
      c.join_outs-joined.ensures.halted).stays.waits;
}

pub returns-then-disk_failed : goal.returns-then-disk_failed
returns-then-disk_failed g c =
    let broke =
    broken_of _ _ c.args.now _ _ _ _ _ _ _ c.join_outs-joined.result
    (sym c.disk_failed.ensures ∙ c.if-disk_failed.true) c.join_outs-joined.ensures.halted
    c.join_outs-joined.ensures.keeps in
    record {
      went = tt;
      stopped = due_broken _ _ _ _ _ _ _ _ c.cite_store.ensures c.requires.able.ready broke.0;
      keeps = gather_failed broke.1;
    }

pub returns-in_err-flush : goal.returns-in_err-flush
returns-in_err-flush g c =
    let under =
    under_of _ _ c.args.now _ _ _ _ _ _ _ c.join_outs-joined.result
    (sym c.disk_failed.ensures ∙ c.if-disk_failed.false) c.join_outs-joined.ensures.went
    c.join_outs-joined.ensures.halted in
    flush_broke _ _ c.args.now _ _ _ _ _ _ _ _ _ _ c.cite_store.ensures c.requires.able.ready under
    c.join_outs-joined.ensures.keeps _ c.in_err-flush.field-0.0 c.from_residual.ensures.1
    c.in_err-flush.ensures.broke

-- whether a link may be sent on
open_as : (b : Bool) (e : LinkEnd) → ((b ≡ true) → MaySend e) × (MaySend e → b ≡ true)
    → is_sent_to e ≡ b
open_as true e told = may_end e (told.0 refl)
open_as false e told = may_not_end e (λ may. false≢true (told.1 may))

pub returns : goal.returns
returns g c =
    outs_work (g.H.Disk.tells) _ _ c.args.now _ _ _ _ _ _ _ _ _ _ _ c.cite_store.ensures
    c.requires.able c.requires.unclosed c.in_ok-flush.ensures.went c.cite_laws.ensures.images
    (omega (
      arith,
      c.requires.able.dialled,
      c.join_outs-joined.ensures.keeps.link.goes.links.dialled,
      c.in_ok-flush.ensures.went.goes.links.dialled,
    ))
    c.send_outs.ensures c.join_outs-joined.result
    (sym c.disk_failed.ensures ∙ c.if-disk_failed.false) c.join_outs-joined.ensures
    c.may_send.result (open_as _ _ c.may_send.ensures) _ c.answer_outs.ensures
