use Rattle.std.proofs.Common.{refl, ap, length, arith}
use Rattle.record_stream.specs.Reading.{ReaderState}
use Rattle.sync_node.proofs.CauseLaws.{learnt_unfailed, link_kept, link_unfailed}
use Rattle.sync_node.proofs.KeepLaws.{gather_none, gathers_halt, gathers_was}
use Rattle.sync_node.proofs.LinkActs.{item_bad, item_more, item_no_memory, item_one, item_skipped}
use Rattle.sync_node.proofs.LinkActs.{item_halts}
use Rattle.sync_node.proofs.SafeLaws.{goes_none}
use Rattle.sync_node.proofs.TakeLaws.{open_for}
use Rattle.sync_node.proofs.hearing.take_next.Goals as goal

pub take_one-requires : goal.take_one-requires
take_one-requires g c = record { able = open_for c.learn.ensures.same_session c.requires.may }

pub returns-in_ok-take_one-in-One-clause-left : goal.returns-in_ok-take_one-in-One-clause-left
returns-in_ok-take_one-in-One-clause-left g c =
    let left = rw c.in-One.is at c.in_ok-place.ensures.left in
    omega (arith, left, ap (λ (r : ReaderState). length r.bytes) c.learn.ensures.same_reader)

pub returns-in-Skipped-clause-left : goal.returns-in-Skipped-clause-left
returns-in-Skipped-clause-left g c = rw c.in-Skipped.is at c.in_ok-place.ensures.left

pub returns-in-More-clause-left : goal.returns-in-More-clause-left
returns-in-More-clause-left g c =
    let left = rw c.in-More.is at c.in_ok-place.ensures.left in
    (left.0, λ _. left.1)

pub returns-in-Bad-clause-left : goal.returns-in-Bad-clause-left
returns-in-Bad-clause-left g c =
    let left = rw c.in-Bad.is at c.in_ok-place.ensures.left in
    (left.0, λ _. left.1)

pub returns-in_err-place-clause-work : goal.returns-in_err-place-clause-work
returns-in_err-place-clause-work g c =
    gathers_halt _ c.from_residual.ensures.1 (item_no_memory c.cite_laws.ensures.images _ c.requires.may.waits)
    (gather_none (link_kept (goes_none _) refl refl) c.requires.may)

pub returns-in_err-take_one-in-One-clause-work : goal.returns-in_err-take_one-in-One-clause-work
returns-in_err-take_one-in-One-clause-work g c =
    gathers_was _ c.in_err-take_one-in-One.field-0.0
    c.from_residual-in_err-take_one-in-One.ensures.1
    (item_halts c.cite_laws.ensures.images c.cite_laws.ensures.follow c.in-One.place c.in-One.rec _
    (rw c.in-One.is at c.in_ok-place.ensures.stream) c.learn.ensures
    c.in_err-take_one-in-One.ensures.halted)
    (record {
      link =
          link_unfailed c.take_one.ensures.goes c.learn.ensures.same_session
          (learnt_unfailed c.in-One.place c.in-One.rec _ _ c.learn.ensures c.requires.asked);
      store = c.in_err-take_one-in-One.ensures.keeps;
    })

pub returns-in_ok-take_one-in-One-clause-work : goal.returns-in_ok-take_one-in-One-clause-work
returns-in_ok-take_one-in-One-clause-work g c = record {
  went =
      item_one c.cite_laws.ensures.images c.cite_laws.ensures.follow c.in-One.place c.in-One.rec _
      (rw c.in-One.is at c.in_ok-place.ensures.stream) c.learn.ensures c.requires.asked
      c.in_ok-take_one-in-One.ensures.went;
  halted = tt;
  keeps = record {
    link =
        link_unfailed c.take_one.ensures.goes c.learn.ensures.same_session
        (learnt_unfailed c.in-One.place c.in-One.rec _ _ c.learn.ensures c.requires.asked);
    store = c.in_ok-take_one-in-One.ensures.keeps;
  };
}

pub returns-in-Skipped-clause-work : goal.returns-in-Skipped-clause-work
returns-in-Skipped-clause-work g c = record {
  went =
      item_skipped c.cite_laws.ensures.images c.cite_laws.ensures.follow c.in-Skipped.field-0 c.in-Skipped.field-1
      c.in-Skipped.field-2 _ c.requires.asked c.requires.may.settled
      (rw c.in-Skipped.is at c.in_ok-place.ensures.stream);
  halted = tt;
  keeps = gather_none (link_kept (goes_none _) refl refl) c.requires.may;
}

pub returns-in-More-clause-work : goal.returns-in-More-clause-work
returns-in-More-clause-work g c =
    let left = rw c.in-More.is at c.in_ok-place.ensures.left in
    record {
      went =
          item_more c.cite_laws.ensures.images c.cite_laws.ensures.follow _ _ _ _ _ _ c.requires.asked c.requires.may.settled
          (rw c.in-More.is at c.in_ok-place.ensures.stream) left.0 left.1 c.cite_laws.ensures.ends
          c.cite_laws.ensures.rests_give refl left.3;
      halted = tt;
      keeps = gather_none (link_kept (goes_none _) refl refl) c.requires.may;
    }

pub returns-in-Bad-clause-work : goal.returns-in-Bad-clause-work
returns-in-Bad-clause-work g c =
    let left = rw c.in-Bad.is at c.in_ok-place.ensures.left in
    record {
      went =
          item_bad c.cite_laws.ensures.images c.cite_laws.ensures.follow _ _ _ _ _ _ c.requires.asked c.requires.may.settled
          (rw c.in-Bad.is at c.in_ok-place.ensures.stream) left.0 left.1 c.in-Bad.place
          c.in-Bad.reason refl left.2;
      halted = tt;
      keeps = gather_none (link_unfailed (goes_none _) refl (λ failed. cc)) c.requires.may;
    }
