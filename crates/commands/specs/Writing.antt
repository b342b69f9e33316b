-- Which commands use the files of a store, which may write them, and which read the body of a
-- message.
use Rattle.std.specs.Prelude.{Bool, true, false}
use Rattle.commands.specs.declared.command.Command.{Command}
use Rattle.commands.specs.declared.command.Command.TheVariants as command

-- all but those that read a stream or show what a store holds: they make a store, add to it or
-- write it anew
abbrev pub may_write : Command → Bool
may_write (command.Try name descriptor) = false
may_write command.Records = false
may_write command.Show = false
may_write command.Inbox = false
may_write (command.InboxFrom from count) = false
may_write (command.Body id) = false
may_write (command.Tree group from count) = false
may_write command.Audit = false
may_write command.Status = false
may_write command.Quit = false
may_write _ = true

-- those that write a message, whose body is their input
abbrev pub reads_body : Command → Bool
reads_body (command.Post group timestamp) = true
reads_body _ = false

-- those that are about a store; the others are about a stream alone, or ask a node that serves to
-- end
abbrev pub uses_store : Command → Bool
uses_store (command.Try name descriptor) = false
uses_store command.Records = false
uses_store command.Quit = false
uses_store _ = true
