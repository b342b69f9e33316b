use Rattle.std.proofs.Common.{◌≡◌, ◌+◌, List, [], ◌∷◌, ◌++◌, Ok, append-nil, take, subst, sym, ap, ◌∙◌, arith}
use Rattle.std.specs.String.{string_bytes}
use Rattle.std.proofs.lemmas.List.{take_all, take_more}
use Rattle.client_sharing.specs.declared.agreement.Target.{Target}
use Rattle.sharing_commands.specs.Adding.{GathersFront}
use Rattle.sharing_commands.specs.Deeds.{all_batches}
use Rattle.sharing_commands.proofs.Fronts.{adds_on, nothing_added}
use Rattle.sharing_commands.proofs.Targets.{set_more, set_stopped, text_more}
use Rattle.sharing_commands.proofs.Standing.{known_on}
use Rattle.sharing_commands.proofs.setting.set_all.Goals as goal

pub targets-init : goal.targets-init
targets-init g c =
    let clients = g.C.Clients.meaning c.args.clients.now in
    record {
      adds = nothing_added c.images_stand.ensures clients c.args.store.now
          (g.D.Disk.tells c.args.disk.now) tt c.requires.stands.gathering.still_open;
      stands = c.requires.stands;
      text = sym (append-nil (string_bytes c.args.to.now));
    }

pub returns-in_err-set_target-clause-adds : goal.returns-in_err-set_target-clause-adds
returns-in_err-set_target-clause-adds g c =
    let clients = g.C.Clients.meaning c.args.clients.now in
    let ts = c.args.targets.now in
    let i = c.targets.i in
    let t = c.index-targets-i.result in
    let next : take (i + 1) ts ≡ take i ts ++ t ∷ [] =
    take_more ts i t (omega arith)
    ∙ ap (λ (x : Target). take i ts ++ x ∷ []) (sym c.index-targets-i.is) in
    adds_on c.from_residual.result c.in_err-set_target.field-0.0 c.from_residual.ensures.1 clients
    _ _ _ _ _
    (set_stopped clients c.args.contact c.args.store.now c.targets.store c.set_target.new.store _ _
    _ ts i t next tt c.targets.invariant.adds c.in_err-set_target.field-0.0
    c.in_err-set_target.ensures.adds)

pub targets-preserved : goal.targets-preserved
targets-preserved g c =
    let clients = g.C.Clients.meaning c.args.clients.now in
    let ts = c.args.targets.now in
    let i = c.targets.i in
    let t = c.index-targets-i.result in
    let next : take (i + 1) ts ≡ take i ts ++ t ∷ [] =
    take_more ts i t (omega arith)
    ∙ ap (λ (x : Target). take i ts ++ x ∷ []) (sym c.index-targets-i.is) in
    record {
      adds = set_more clients c.args.contact c.args.store.now c.targets.store
          c.set_target.new.store _ _ _ ts i t next tt c.targets.invariant.adds
          c.in_ok-set_target.ensures.adds;
      stands = c.in_ok-set_target.ensures.stands;
      text = text_more clients c.args.contact c.args.store.now c.targets.store
          c.set_target.new.store _ _ (g.D.Disk.tells c.set_target.new.disk) ts i t next tt
          c.targets.invariant.adds (string_bytes c.args.to.now) _ _ c.targets.invariant.text
          c.in_ok-set_target.ensures.text;
    }

pub returns-in_err-set_target-clause-stands : goal.returns-in_err-set_target-clause-stands
returns-in_err-set_target-clause-stands g c =
    known_on c.from_residual.result c.in_err-set_target.field-0.0 c.from_residual.ensures.1
    (g.C.Clients.meaning c.args.clients.now) c.set_target.new.store
    (g.D.Disk.tells c.set_target.new.disk) c.args.contact c.in_err-set_target.ensures.stands

pub returns-clause-adds : goal.returns-clause-adds
returns-clause-adds g c =
    let clients = g.C.Clients.meaning c.args.clients.now in
    let ts = c.args.targets.now in
    subst (λ (xs : List Target). GathersFront clients c.args.store.now c.targets.store
    (g.D.Disk.tells c.args.disk.now) (g.D.Disk.tells c.targets.disk)
    (all_batches clients c.args.contact c.args.store.now.state.facts xs) (Ok tt))
    (take_all c.targets.i ts (omega arith)) c.targets.invariant.adds
