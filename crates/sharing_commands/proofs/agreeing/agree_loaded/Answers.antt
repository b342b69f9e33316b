use Rattle.std.proofs.Common.{refl, sym, ◌∙◌}
use Rattle.sharing_commands.proofs.Wholes.{agreed_loaded, agreed_refused}
use Rattle.store_commands.proofs.Sessions.{leaves_itself}
use Rattle.sharing_commands.proofs.agreeing.agree_loaded.Goals as goal

pub returns-in-Some-clause-agreed : goal.returns-in-Some-clause-agreed
returns-in-Some-clause-agreed g c start was =
    let clients = g.C.Clients.meaning c.args.clients.now in
    agreed_refused clients c.args.contact c.args.group.now _ _ _ _ c.args.store.now c.in-Some.why
    was.run was.rests was.facts (sym c.agree_refusal.ensures ∙ c.in-Some.is)
    (record { same = refl; same_faults = refl })

pub returns-clause-agreed : goal.returns-clause-agreed
returns-clause-agreed g c start was =
    let clients = g.C.Clients.meaning c.args.clients.now in
    agreed_loaded clients c.args.contact c.args.group.now _ _ _ _ _ c.args.store.now _
    was.run was.rests was.opened (sym c.agree_refusal.ensures ∙ c.in_default.is)
    c.set_agreed.ensures.ran

pub returns-in-Some-clause-sessions : goal.returns-in-Some-clause-sessions
returns-in-Some-clause-sessions g c =
    leaves_itself c.args.store.now
