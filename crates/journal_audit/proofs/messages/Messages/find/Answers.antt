use Rattle.std.proofs.Common.{◌≡◌, ℕ, Option, sym, subst, rules}
use Rattle.sync_rules.specs.Views.{IsFound, place_of}
use Rattle.journal_audit.specs.Lines.{held_in}
use Rattle.sync_rules.proofs.PlaceLaws.{place_found}
use Rattle.journal_audit.proofs.messages.Messages.find.Goals as goal

pub returns-clause-found : goal.returns-clause-found
returns-clause-found c =
    let held = held_in c.args.self.now.lines in
    let place : c.copied.result ≡ place_of held c.args.id.now = search rules in
    subst (λ (o : Option ℕ). IsFound held c.args.id.now o) (sym place) (place_found held c.args.id.now)
