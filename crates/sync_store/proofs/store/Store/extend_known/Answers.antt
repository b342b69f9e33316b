use Rattle.std.proofs.Common.{◌≡◌, false, [], ◌∷◌, Result, Err, refl, ap, sym, subst, ◌∙◌}
use Rattle.sync_store.specs.declared.fault.StoreFault.{StoreFault}
use Rattle.sync_store.specs.Groups.{IsGathering}
use Rattle.sync_store.specs.Runs.{HasExtended}
use Rattle.sync_store.proofs.Errors.{err_is}
use Rattle.sync_store.proofs.FitSteps.{true≢false}
use Rattle.sync_store.proofs.Gathered.{gathered_none, room_of_none, stays_itself}
use Rattle.sync_store.proofs.Runs.{extends_failed, extends_settled, ready_failed, settled_full}
use Rattle.sync_store.proofs.store.Store.extend_known.Goals as goal

pub returns-then-is_closed-clause-extended : goal.returns-then-is_closed-clause-extended
returns-then-is_closed-clause-extended g c still =
    true≢false c.args.self.now.closed (sym c.is_closed.ensures.closed ∙ c.if-is_closed.true) still

pub returns-then-is_closed-clause-closed : goal.returns-then-is_closed-clause-closed
returns-then-is_closed-clause-closed g c closed = (refl, stays_itself c.args.self.now, refl)

pub gather-requires-clause-room : goal.gather-requires-clause-room
gather-requires-clause-room g c still =
    room_of_none c.args.self.now (c.requires.ready still).none_waits

pub gather-requires-clause-knows : goal.gather-requires-clause-knows
gather-requires-clause-knows g c still = (c.requires.ready still).knows

pub returns-in_err-gather-clause-extended : goal.returns-in_err-gather-clause-extended
returns-in_err-gather-clause-extended g c still =
    let clients = g.C.Clients.meaning c.args.clients.now in
    let s = c.args.self.now in
    let new = c.gather.new.self in
    let o = g.D.Disk.tells c.args.disk.now in
    let e = c.in_err-gather.field-0.0 in
    subst (λ (r : Result (Unit {0}) StoreFault). HasExtended clients s new c.args.batch r o o)
    (sym (err_is c.from_residual.result e c.from_residual.ensures.1))
    (extends_failed c.images_stand.ensures clients s new c.args.batch e o
    c.is_closed.ensures.numbers still c.in_err-gather.ensures.answer
    (λ is. c.in_err-gather.ensures.faultless (ap (λ (x : StoreFault). Err x) is)))

pub returns-in_err-gather-clause-closed : goal.returns-in_err-gather-clause-closed
returns-in_err-gather-clause-closed g c closed =
    true≢false c.args.self.now.closed closed
    (sym c.is_closed.ensures.closed ∙ c.if-is_closed.false)

pub returns-in_err-gather-clause-ready : goal.returns-in_err-gather-clause-ready
returns-in_err-gather-clause-ready g c open' =
    let still : c.args.self.now.closed ≡ false =
    sym c.is_closed.ensures.closed ∙ c.if-is_closed.false in
    ready_failed (g.C.Clients.meaning c.args.clients.now) c.args.self.now c.gather.new.self
    c.args.batch c.in_err-gather.field-0.0 (g.D.Disk.tells c.args.disk.now).files still
    c.in_err-gather.ensures.answer (λ is. c.in_err-gather.ensures.faultless (ap (λ (x : StoreFault). Err x) is))
    (c.requires.ready still)

pub settle_gathered-requires : goal.settle_gathered-requires
settle_gathered-requires g c =
    let s = c.args.self.now in
    let answer = c.in_ok-gather.ensures.answer in
    let ready = c.requires.ready answer.0 in
    let opened : IsGathering (g.C.Clients.meaning c.args.clients.now) c.gather.new.self
    (g.D.Disk.tells c.args.disk.now).files = record {
      still_open = answer.2.closed;
      store = c.gather.ensures.numbers;
      knows = c.gather.ensures.knows answer.2.closed;
      before = s;
      kept = c.is_closed.ensures.numbers;
      more = c.args.batch ∷ [];
      gathered = c.in_ok-gather.ensures.gathers s []
          (gathered_none (g.C.Clients.meaning c.args.clients.now) s answer.0 ready.none_waits);
      fits = ready.fits;
    } in
    record { gathering = opened }

pub returns-clause-extended : goal.returns-clause-extended
returns-clause-extended g c still =
    let clients = g.C.Clients.meaning c.args.clients.now in
    let s = c.args.self.now in
    extends_settled clients s c.gather.new.self c.settle_gathered.new.self c.args.batch tt
    c.settle_gathered.result (g.D.Disk.tells c.args.disk.now)
    (g.D.Disk.tells c.settle_gathered.new.disk) c.in_ok-gather.ensures.answer
    (c.settle_gathered.ensures.settles s c.is_closed.ensures.numbers (c.args.batch ∷ [])
    (c.in_ok-gather.ensures.gathers s []
    (gathered_none clients s still (c.requires.ready still).none_waits)))

pub returns-clause-closed : goal.returns-clause-closed
returns-clause-closed g c closed =
    true≢false c.args.self.now.closed closed c.in_ok-gather.ensures.answer.0

pub returns-clause-full : goal.returns-clause-full
returns-clause-full g c is =
    let clients = g.C.Clients.meaning c.args.clients.now in
    let s = c.args.self.now in
    let answer = c.in_ok-gather.ensures.answer in
    let out = c.settle_gathered.ensures.settles s c.is_closed.ensures.numbers (c.args.batch ∷ [])
    (c.in_ok-gather.ensures.gathers s []
    (gathered_none clients s answer.0 (c.requires.ready answer.0).none_waits)) in
    absurd (settled_full clients c.settle_gathered.new.self c.settle_gathered.result out.answer is)
