use Rattle.std.proofs.Common.{◌≡◌, ◌++◌, ◌∷◌, [], length, arith, ap, refl, false, ◌∙◌}
use Rattle.world_devices.specs.declared.stop.StepFault.TheVariants as fault
use Rattle.sync_world.specs.Doing.{ground_of}
use Rattle.sync_world.specs.Staging.{new_link}
use Rattle.sync_world.proofs.GoLaws.{read_only}
use Rattle.sync_world.proofs.LinkLaws.{linked_leads}
use Rattle.sync_world.proofs.StepLaws.{far_pushed, leads_err, leads_links, near_pushed}
use Rattle.sync_world.proofs.TurningLaws.{dials_handed, dials_on}
use Rattle.sync_world.proofs.stage.Stage.dial.Goals as goal

pub returns-in_err-push-clause-goes : goal.returns-in_err-push-clause-goes
returns-in_err-push-clause-goes c =
    λ w s. leads_err _ fault.Memory w _ _ c.from_residual.ensures.1
    (read_only w _ c.args.self.now.links.items _ s)

pub returns-clause-goes : goal.returns-clause-goes
returns-clause-goes c =
    λ w s. leads_links w false _ (c.args.self.now.links.items ++ new_link c.args.d c.args.e ∷ []) _
    (c.in_ok-push.ensures.items ∙ ap (λ l. c.args.self.now.links.items ++ l ∷ []) c.new.ensures)
    (linked_leads w c.args.self.now.devices.items c.args.self.now.links.items c.args.d c.args.e s
    c.requires.two c.requires.near c.requires.far)

pub returns-clause-fresh : goal.returns-clause-fresh
returns-clause-fresh c =
    let is : c.len-link.result ≡ length c.args.self.now.links.items =
    omega (arith, c.len-link.ensures) in
    near_pushed c.args.d c.args.e c.len-link.result c.args.self.now.links.items
    c.push.new.self.items is (c.in_ok-push.ensures.items
    ∙ ap (λ l. c.args.self.now.links.items ++ l ∷ []) c.new.ensures)

pub returns-clause-other : goal.returns-clause-other
returns-clause-other c =
    let is : c.len-link.result ≡ length c.args.self.now.links.items =
    omega (arith, c.len-link.ensures) in
    far_pushed c.args.d c.args.e c.len-link.result c.args.self.now.links.items c.push.new.self.items
    c.requires.two is (c.in_ok-push.ensures.items
    ∙ ap (λ l. c.args.self.now.links.items ++ l ∷ []) c.new.ensures)

pub returns-in_err-push-clause-dials : goal.returns-in_err-push-clause-dials
returns-in_err-push-clause-dials c =
    dials_handed c.args.d c.args.e c.from_residual.result (ground_of c.args.self.now) _
    c.from_residual.ensures.1

pub returns-clause-dials : goal.returns-clause-dials
returns-clause-dials c =
    let is : c.len-link.result ≡ length c.args.self.now.links.items =
    omega (arith, c.len-link.ensures) in
    dials_on c.args.d c.args.e c.len-link.result (ground_of c.args.self.now) _ _ c.new.result refl
    c.in_ok-push.ensures.items c.new.ensures is
