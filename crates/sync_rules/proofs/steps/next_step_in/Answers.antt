-- The first step among all batches is the next step of the journal.
use Rattle.std.proofs.Common.{◌≡◌, IfOk, Option, subst}
use Rattle.sync_rules.specs.declared.entries.Entry.{Entry}
use Rattle.sync_rules.proofs.ScanLaws.{next_found}
use Rattle.sync_rules.proofs.steps.next_step_in.Goals as goal

pub returns : goal.returns
returns g c =
    let P : Option Entry → Type 0 = λ n. IfOk c.first_step_over.result (λ s. s ≡ n) in
    subst P (next_found (g.C.Clients.meaning c.args.clients.now) c.args.j.now) c.first_step_over.ensures
