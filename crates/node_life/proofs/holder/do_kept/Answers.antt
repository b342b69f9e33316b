use Rattle.std.proofs.Common.{refl}
use Rattle.commands.specs.declared.command.Command.TheVariants as command
use Rattle.node_life.specs.Inputs.{given_told}
use Rattle.node_life.proofs.AnswerLemmas.{done_as}
use Rattle.node_requests.proofs.Served.{not_leaving}
use Rattle.node_life.proofs.holder.do_kept.Goals as goal

pub returns-in-MailboxIn-clause-does : goal.returns-in-MailboxIn-clause-does
returns-in-MailboxIn-clause-does g c =
    done_as g.H.Disk.tells (g.C.Clients.meaning c.args.clients.now) c.args.kept.now c.args.asked
    (command.MailboxIn c.in-MailboxIn.contact) c.args.host.now c.take_kept.new.host
    c.take_kept.new.store c.take_kept.result c.take_kept.new.out.bytes c.in-MailboxIn.is
    c.take_kept.ensures

pub returns-in_default-clause-does : goal.returns-in_default-clause-does
returns-in_default-clause-does g c = record {
  input = given_told c.of-input.result;
  input' = given_told c.do_command.new.input;
  bytes = c.of-input.ensures;
  unfailing = refl;
  done = c.do_command.ensures.does;
}

pub returns-in-MailboxIn-clause-sessions : goal.returns-in-MailboxIn-clause-sessions
returns-in-MailboxIn-clause-sessions g c leaves =
    not_leaving c.args.asked (command.MailboxIn c.in-MailboxIn.contact) c.in-MailboxIn.is refl leaves
