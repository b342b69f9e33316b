use Rattle.std.proofs.Common.{refl, inl}
use Rattle.commands.specs.Reading.Asked.{Do}
use Rattle.commands.specs.declared.command.Command.TheVariants as command
use Rattle.sync_words.specs.declared.outcome.Outcome.TheVariants as outcome
use Rattle.sync_top.proofs.StateLemmas.{as_command, comes_on, group_comes, memory_comes, say_comes}
use Rattle.sync_top.proofs.program.obey.Goals as goal

pub returns-in-Init-clause-comes : goal.returns-in-Init-clause-comes
returns-in-Init-clause-comes g c =
    as_command (g.C.Clients.meaning c.args.clients.now) c.args.asked command.Init _ _ _ _ _ _ _
    c.in-Init.is (inl (c.make_store.ensures, (record { same = refl; same_faults = refl })))

pub returns-in-Contact-clause-comes : goal.returns-in-Contact-clause-comes
returns-in-Contact-clause-comes g c =
    as_command (g.C.Clients.meaning c.args.clients.now) c.args.asked command.Contact _ _ _ _ _ _ _
    c.in-Contact.is (inl (c.add_contact.ensures, (record { same = refl; same_faults = refl })))

pub returns-in-Share-clause-comes : goal.returns-in-Share-clause-comes
returns-in-Share-clause-comes g c =
    as_command (g.C.Clients.meaning c.args.clients.now) c.args.asked
    (command.Share c.in-Share.contact c.in-Share.group c.in-Share.level) _ _ _ _ _ _ _
    c.in-Share.is (inl (c.set_level.ensures, (record { same = refl; same_faults = refl })))

pub returns-in-Show-clause-comes : goal.returns-in-Show-clause-comes
returns-in-Show-clause-comes g c =
    as_command (g.C.Clients.meaning c.args.clients.now) c.args.asked command.Show _ _ _ _ _ _ _
    c.in-Show.is (inl (c.list.ensures, (record { same = refl; same_faults = refl })))

pub returns-in-Inbox-clause-comes : goal.returns-in-Inbox-clause-comes
returns-in-Inbox-clause-comes g c =
    as_command (g.C.Clients.meaning c.args.clients.now) c.args.asked command.Inbox _ _ _ _ _ _ _
    c.in-Inbox.is (inl (c.list-in-Inbox.ensures, (record { same = refl; same_faults = refl })))

pub returns-in-InboxFrom-clause-comes : goal.returns-in-InboxFrom-clause-comes
returns-in-InboxFrom-clause-comes g c =
    as_command (g.C.Clients.meaning c.args.clients.now) c.args.asked
    (command.InboxFrom c.in-InboxFrom.from c.in-InboxFrom.count) _ _ _ _ _ _ _ c.in-InboxFrom.is
    (inl (c.list-in-InboxFrom.ensures, (record { same = refl; same_faults = refl })))

pub returns-in-Body-clause-comes : goal.returns-in-Body-clause-comes
returns-in-Body-clause-comes g c =
    as_command (g.C.Clients.meaning c.args.clients.now) c.args.asked (command.Body c.in-Body.id) _ _
    _ _ _ _ _ c.in-Body.is
    (inl (c.write_body.ensures, (record { same = refl; same_faults = refl })))

pub returns-in-Tree-clause-comes : goal.returns-in-Tree-clause-comes
returns-in-Tree-clause-comes g c =
    as_command (g.C.Clients.meaning c.args.clients.now) c.args.asked
    (command.Tree c.in-Tree.group c.in-Tree.from c.in-Tree.count) _ _ _ _ _ _ _ c.in-Tree.is
    (inl (c.print_tree.ensures, (record { same = refl; same_faults = refl })))

pub returns-in-Audit-clause-comes : goal.returns-in-Audit-clause-comes
returns-in-Audit-clause-comes g c =
    as_command (g.C.Clients.meaning c.args.clients.now) c.args.asked command.Audit _ _ _ _ _ _ _
    c.in-Audit.is (inl (c.print_audit.ensures, (record { same = refl; same_faults = refl })))

pub returns-in-Status-clause-comes : goal.returns-in-Status-clause-comes
returns-in-Status-clause-comes g c =
    as_command (g.C.Clients.meaning c.args.clients.now) c.args.asked command.Status _ _ _ _ _ _ _
    c.in-Status.is (inl (c.print_status.ensures, (record { same = refl; same_faults = refl })))

pub returns-in-Post-clause-comes : goal.returns-in-Post-clause-comes
returns-in-Post-clause-comes g c =
    as_command (g.C.Clients.meaning c.args.clients.now) c.args.asked
    (command.Post c.in-Post.group c.in-Post.timestamp) _ _ _ _ _ _ _ c.in-Post.is
    (inl c.post_message.ensures)

pub returns-in_ok-def-in-Group-clause-comes : goal.returns-in_ok-def-in-Group-clause-comes
returns-in_ok-def-in-Group-clause-comes g c =
    group_comes (g.C.Clients.meaning c.args.clients.now) c.args.asked c.in-Group.name
    c.in-Group.descriptor c.as_str-in-Group.result.now c.as_str-in-Group-2.result.now
    c.in-Group.major c.in_ok-def-in-Group.def _ _ _ _ _ _ _ c.in-Group.is c.as_str-in-Group.ensures
    c.as_str-in-Group-2.ensures c.in_ok-def-in-Group.ensures c.add_group.ensures
    (record { same = refl; same_faults = refl })

pub returns-in_err-def-in-Group-clause-comes : goal.returns-in_err-def-in-Group-clause-comes
returns-in_err-def-in-Group-clause-comes g c =
    let clients = g.C.Clients.meaning c.args.clients.now in
    comes_on c.from_residual.result outcome.Memory c.from_residual.ensures.1 clients
    (Do c.args.asked) _ _ _ _ _ _
    (memory_comes clients (Do c.args.asked) _ _ _ _ _ (record { same = refl; same_faults = refl })
    (record { same = refl; same_faults = refl }))

pub returns-in_ok-def-in-Say-clause-comes : goal.returns-in_ok-def-in-Say-clause-comes
returns-in_ok-def-in-Say-clause-comes g c =
    say_comes (g.C.Clients.meaning c.args.clients.now) c.args.asked c.in-Say.group
    c.in-Say.timestamp c.in-Say.join c.in-Say.name c.in-Say.descriptor
    c.as_str-in-Say.result.now c.as_str-in-Say-2.result.now
    c.in-Say.major c.in_ok-def-in-Say.def c.spoken-speech.result _ _ _ _ _ _ _ c.in-Say.is
    c.as_str-in-Say.ensures c.as_str-in-Say-2.ensures c.in_ok-def-in-Say.ensures
    c.spoken-speech.ensures c.say.ensures
    (record { same = refl; same_faults = refl })

pub returns-in_err-def-in-Say-clause-comes : goal.returns-in_err-def-in-Say-clause-comes
returns-in_err-def-in-Say-clause-comes g c =
    let clients = g.C.Clients.meaning c.args.clients.now in
    comes_on c.from_residual-in_err-def-in-Say.result outcome.Memory
    c.from_residual-in_err-def-in-Say.ensures.1 clients (Do c.args.asked) _ _ _ _ _ _
    (memory_comes clients (Do c.args.asked) _ _ _ _ _ (record { same = refl; same_faults = refl })
    (record { same = refl; same_faults = refl }))

pub returns-in-Agree-clause-comes : goal.returns-in-Agree-clause-comes
returns-in-Agree-clause-comes g c =
    as_command (g.C.Clients.meaning c.args.clients.now) c.args.asked
    (command.Agree c.in-Agree.contact c.in-Agree.group) _ _ _ _ _ _ _ c.in-Agree.is
    (inl (c.agree.ensures, (record { same = refl; same_faults = refl })))

pub returns-in-Compact-clause-comes : goal.returns-in-Compact-clause-comes
returns-in-Compact-clause-comes g c =
    as_command (g.C.Clients.meaning c.args.clients.now) c.args.asked command.Compact _ _ _ _ _ _ _
    c.in-Compact.is
    (inl (c.compact.ensures, (record { same = refl; same_faults = refl })))

pub returns-in-MailboxIn-clause-comes : goal.returns-in-MailboxIn-clause-comes
returns-in-MailboxIn-clause-comes g c =
    as_command (g.C.Clients.meaning c.args.clients.now) c.args.asked
    (command.MailboxIn c.in-MailboxIn.contact) _ _ _ _ _ _
    _ c.in-MailboxIn.is (inl c.take_mail.ensures)

pub returns-in-MailboxOut-clause-comes : goal.returns-in-MailboxOut-clause-comes
returns-in-MailboxOut-clause-comes g c =
    as_command (g.C.Clients.meaning c.args.clients.now) c.args.asked
    (command.MailboxOut c.in-MailboxOut.contact c.in-MailboxOut.latency c.in-MailboxOut.count) _ _ _
    _ _ _ _
    c.in-MailboxOut.is (inl (c.send_mail.ensures, (record { same = refl; same_faults = refl })))
