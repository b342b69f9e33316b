use Rattle.std.proofs.Common.{◌≡◌, sym, subst}
use Rattle.commands.specs.declared.command.Command.TheVariants as command
use Rattle.commands.specs.Reading.{Asked, no_more, IsReadAs}
use Rattle.commands.proofs.grammar.read_taking.Goals as goal

pub returns-clause-read : goal.returns-clause-read
returns-clause-read c =
    let there = c.in_ok-contact.ensures.ok (λ contact. no_more (command.MailboxIn contact)) in
    subst (λ (asked : Asked). IsReadAs asked c.read_end.result) (sym there) c.read_end.ensures.read
