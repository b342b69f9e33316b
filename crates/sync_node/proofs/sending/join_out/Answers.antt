use Rattle.session_core.proofs.Unknown.{unknown}
use Rattle.std.proofs.Common.{◌≡◌, List, ◌++◌, ◌∙◌, ap, arith, refl, sym, subst, Result, Ok, Err}
use Rattle.std.specs.Prelude.{if◌then◌else◌, is_ok, IsOk}
use Rattle.std.proofs.lemmas.Bool.{false≢true}
use Rattle.sync_rules.specs.declared.entries.Entry.{Entry}
use Rattle.sync_node.specs.Batches.{Joined}
use Rattle.sync_node.proofs.CauseLaws.{link_none}
use Rattle.sync_node.proofs.KeepLaws.{gather_none, gathers_halt, gathers_was}
use Rattle.sync_node.proofs.SendActs.{out_halt_keeps, out_halted, out_joined, out_keeps, out_starved}
use Rattle.sync_node.proofs.sending.join_out.Goals as goal

-- what was appended, where that did not fail
appended : {A T E : Type 0} (r : Result T E) (x a b : A) → IsOk r → x ≡ (if is_ok r then a else b)
    → x ≡ a
appended (Ok u) x a b ok is = is
appended (Err e) x a b ok is = absurd (false≢true ok)

pub join-requires-clause-named : goal.join-requires-clause-named
join-requires-clause-named g c = unknown c.in_ok-batch.batch

pub returns-in_err-bytes : goal.returns-in_err-bytes
returns-in_err-bytes g c =
    gathers_halt _ c.from_residual.ensures.1
    (out_starved _ _ c.args.now c.args.out _ _ c.requires.allowed c.cite_laws.ensures.images _
    c.requires.able.waits _ _ _ refl)
    (gather_none link_none c.requires.able)

pub returns-in_err-reserve : goal.returns-in_err-reserve
returns-in_err-reserve g c =
    gathers_halt _ c.from_residual-in_err-reserve.ensures.1
    (out_starved _ _ c.args.now c.args.out _ _ c.requires.allowed c.cite_laws.ensures.images _
    c.requires.able.waits _ _ _ c.reserve.ensures.items)
    (gather_none link_none c.requires.able)

pub returns-in_err-batch : goal.returns-in_err-batch
returns-in_err-batch g c =
    gathers_halt _ c.from_residual-in_err-batch.ensures.1
    (out_starved _ _ c.args.now c.args.out _ _ c.requires.allowed c.cite_laws.ensures.images _
    c.requires.able.waits _ _ _ c.reserve.ensures.items)
    (gather_none link_none c.requires.able)

pub returns : goal.returns
returns g c =
    let clients = g.C.Clients.meaning c.args.clients.now in
    let old = g.H.Disk.tells c.args.host.now in
    let new = g.H.Disk.tells c.join.new.host in
    let joins =
    subst (λ (b : List Entry). Joined clients b c.args.store.now c.join.new.store old new)
    c.in_ok-batch.ensures c.in_ok-join.ensures.went in
    let ok =
    c.extend_from_slice.ensures.succeeds
    (omega (arith, c.in_ok-reserve.ensures.ok, c.len.ensures, c.as_slice.ensures.len)) in
    let bytes =
    appended c.extend_from_slice.result _ _ _ ok c.extend_from_slice.ensures.items
    ∙ ap (λ (l : _). l ++ c.as_slice.result.now) c.reserve.ensures.items
    ∙ ap (λ (l : _). c.args.outs.now.bytes.items ++ l)
    (c.as_slice.ensures.value ∙ c.in_ok-bytes.ensures) in
    record {
      went =
          out_joined _ _ c.args.now c.args.out _ _ c.requires.allowed _ _ _ joins
          c.args.outs.now.made _ _ _ (omega arith) bytes;
      halted = tt;
      keeps =
          out_keeps _ _ c.args.now c.args.out _ _ c.requires.allowed _ _ _ c.requires.able.settled
          joins;
    }
