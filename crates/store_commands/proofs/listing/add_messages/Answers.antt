use Rattle.std.proofs.Common.{arith}
use Rattle.std.specs.String.{string_bytes}
use Rattle.store_commands.specs.Shown.{message_line}
use Rattle.store_commands.proofs.Lines.{more_lines}
use Rattle.store_commands.proofs.listing.add_messages.Goals as goal

pub messages-preserved : goal.messages-preserved
messages-preserved c =
    more_lines (message_line c.args.store.now.state.facts) c.args.store.now.state.facts.held
    c.messages.n (string_bytes c.args.to.now) _ _ (omega arith) c.messages.invariant
    c.in_ok-add_message.ensures
