use Rattle.std.proofs.Common.{refl}
use Rattle.commands.specs.declared.command.Command.TheVariants as command
use Rattle.node_requests.proofs.Served.{as_asked, begun_served, group_added, not_leaving}
use Rattle.node_requests.proofs.Served.{still_serves, word_said}
use Rattle.store_commands.proofs.Sessions.{leaves_by, leaves_itself}
use Rattle.node_requests.proofs.requests.obey.Goals as goal

pub returns-in-Init-clause-does : goal.returns-in-Init-clause-does
returns-in-Init-clause-does g c =
    as_asked (g.C.Clients.meaning c.args.clients.now) c.args.asked command.Init _ _ _ _ _ _ _
    c.in-Init.is (
      begun_served (g.C.Clients.meaning c.args.clients.now) c.args.store.now _ _ _
          c.requires.served (record { same = refl; same_faults = refl }),
      record { same = refl; same_faults = refl },
    )

pub returns-in-Init-clause-serves : goal.returns-in-Init-clause-serves
returns-in-Init-clause-serves g c = c.requires.served

pub returns-in-Contact-clause-does : goal.returns-in-Contact-clause-does
returns-in-Contact-clause-does g c =
    as_asked (g.C.Clients.meaning c.args.clients.now) c.args.asked
    command.Contact _ _ _ _ _ _ _ c.in-Contact.is (
      c.add_contact_loaded.ensures.added c.args.host.now c.requires.served.ready.loaded,
      record { same = refl; same_faults = refl },
    )

pub returns-in-Contact-clause-serves : goal.returns-in-Contact-clause-serves
returns-in-Contact-clause-serves g c = c.add_contact_loaded.ensures.serves c.requires.served

pub returns-in-Share-clause-does : goal.returns-in-Share-clause-does
returns-in-Share-clause-does g c =
    as_asked (g.C.Clients.meaning c.args.clients.now) c.args.asked
    (command.Share c.in-Share.contact c.in-Share.group c.in-Share.level) _ _ _ _ _ _ _ c.in-Share.is (
      c.set_level_loaded.ensures.added c.args.host.now c.requires.served.ready.loaded,
      record { same = refl; same_faults = refl },
    )

pub returns-in-Share-clause-serves : goal.returns-in-Share-clause-serves
returns-in-Share-clause-serves g c = c.set_level_loaded.ensures.serves c.requires.served

pub returns-in-Post-clause-does : goal.returns-in-Post-clause-does
returns-in-Post-clause-does g c =
    as_asked (g.C.Clients.meaning c.args.clients.now) c.args.asked
    (command.Post c.in-Post.group c.in-Post.timestamp) _ _ _ _ _ _ _ c.in-Post.is
    (c.post_loaded.ensures.posted c.args.host.now c.requires.served.ready.loaded)

pub returns-in-Post-clause-serves : goal.returns-in-Post-clause-serves
returns-in-Post-clause-serves g c = c.post_loaded.ensures.serves c.requires.served

pub returns-in-Agree-clause-does : goal.returns-in-Agree-clause-does
returns-in-Agree-clause-does g c =
    as_asked (g.C.Clients.meaning c.args.clients.now) c.args.asked
    (command.Agree c.in-Agree.contact c.in-Agree.group) _ _ _ _ _ _ _ c.in-Agree.is (
      c.agree_loaded.ensures.agreed c.args.host.now c.requires.served.ready.loaded,
      record { same = refl; same_faults = refl },
    )

pub returns-in-Agree-clause-serves : goal.returns-in-Agree-clause-serves
returns-in-Agree-clause-serves g c = c.agree_loaded.ensures.serves c.requires.served

pub returns-in-Compact-clause-does : goal.returns-in-Compact-clause-does
returns-in-Compact-clause-does g c =
    as_asked (g.C.Clients.meaning c.args.clients.now) c.args.asked
    command.Compact _ _ _ _ _ _ _ c.in-Compact.is (
      c.compact_loaded.ensures.compacted c.args.host.now c.requires.served.ready.loaded,
      record { same = refl; same_faults = refl },
    )

pub returns-in-Compact-clause-serves : goal.returns-in-Compact-clause-serves
returns-in-Compact-clause-serves g c = c.compact_loaded.ensures.serves c.requires.served

pub returns-in-MailboxIn-clause-does : goal.returns-in-MailboxIn-clause-does
returns-in-MailboxIn-clause-does g c =
    as_asked (g.C.Clients.meaning c.args.clients.now) c.args.asked
    (command.MailboxIn c.in-MailboxIn.contact) _ _ _ _ _ _ _ c.in-MailboxIn.is
    (c.take_mail_loaded.ensures.taken c.args.host.now c.requires.served.ready.loaded)

pub returns-in-MailboxIn-clause-serves : goal.returns-in-MailboxIn-clause-serves
returns-in-MailboxIn-clause-serves g c = c.take_mail_loaded.ensures.serves c.requires.served

pub returns-in-MailboxOut-clause-does : goal.returns-in-MailboxOut-clause-does
returns-in-MailboxOut-clause-does g c =
    as_asked (g.C.Clients.meaning c.args.clients.now) c.args.asked
    (command.MailboxOut c.in-MailboxOut.contact c.in-MailboxOut.latency c.in-MailboxOut.count) _ _ _ _ _ _ _ c.in-MailboxOut.is (
      c.send_mail_loaded.ensures.sent c.args.host.now c.requires.served.ready.loaded,
      record { same = refl; same_faults = refl },
    )

pub returns-in-MailboxOut-clause-serves : goal.returns-in-MailboxOut-clause-serves
returns-in-MailboxOut-clause-serves g c = c.send_mail_loaded.ensures.serves c.requires.served

pub returns-in-Audit-clause-does : goal.returns-in-Audit-clause-does
returns-in-Audit-clause-does g c =
    as_asked (g.C.Clients.meaning c.args.clients.now) c.args.asked command.Audit _ _ _ _ _ _ _
    c.in-Audit.is
    (c.print_audit_loaded.ensures.audited, record { same = refl; same_faults = refl })

pub returns-in-Audit-clause-serves : goal.returns-in-Audit-clause-serves
returns-in-Audit-clause-serves g c = c.print_audit_loaded.ensures.serves c.requires.served

pub returns-in-Group-clause-does : goal.returns-in-Group-clause-does
returns-in-Group-clause-does g c =
    group_added (g.C.Clients.meaning c.args.clients.now) c.args.asked c.in-Group.name
    c.in-Group.descriptor c.as_str-name.result.now c.as_str-descriptor.result.now
    c.in-Group.major _ _ _ _ _ _ _ c.in-Group.is c.as_str-name.ensures
    c.as_str-descriptor.ensures c.add_named.ensures.added
    (record { same = refl; same_faults = refl })

pub returns-in-Group-clause-serves : goal.returns-in-Group-clause-serves
returns-in-Group-clause-serves g c = c.add_named.ensures.serves

pub returns-in-Say-clause-does : goal.returns-in-Say-clause-does
returns-in-Say-clause-does g c =
    word_said (g.C.Clients.meaning c.args.clients.now) c.args.asked c.in-Say.group
    c.in-Say.timestamp c.in-Say.join c.in-Say.name c.in-Say.descriptor
    c.as_str-name-in-Say.result.now c.as_str-descriptor-in-Say.result.now c.in-Say.major _ _ _ _ _ _ _
    c.in-Say.is c.as_str-name-in-Say.ensures c.as_str-descriptor-in-Say.ensures c.say_named.ensures.said
    (record { same = refl; same_faults = refl })

pub returns-in-Say-clause-serves : goal.returns-in-Say-clause-serves
returns-in-Say-clause-serves g c = c.say_named.ensures.serves

pub returns-in-Show-clause-does : goal.returns-in-Show-clause-does
returns-in-Show-clause-does g c =
    as_asked (g.C.Clients.meaning c.args.clients.now) c.args.asked
    command.Show _ _ _ _ _ _ _ c.in-Show.is (
      c.put_listing.ensures (g.C.Clients.meaning c.args.clients.now) c.args.host.now
          c.requires.served.ready.loaded,
      record { same = refl; same_faults = refl },
    )

pub returns-in-Show-clause-serves : goal.returns-in-Show-clause-serves
returns-in-Show-clause-serves g c =
    still_serves (g.C.Clients.meaning c.args.clients.now) c.args.store.now
    (g.H.Disk.tells c.args.host.now) _ c.requires.served

pub returns-in-Inbox-clause-does : goal.returns-in-Inbox-clause-does
returns-in-Inbox-clause-does g c =
    as_asked (g.C.Clients.meaning c.args.clients.now) c.args.asked
    command.Inbox _ _ _ _ _ _ _ c.in-Inbox.is (
      c.put_listing-in-Inbox.ensures (g.C.Clients.meaning c.args.clients.now) c.args.host.now
          c.requires.served.ready.loaded,
      record { same = refl; same_faults = refl },
    )

pub returns-in-Inbox-clause-serves : goal.returns-in-Inbox-clause-serves
returns-in-Inbox-clause-serves g c =
    still_serves (g.C.Clients.meaning c.args.clients.now) c.args.store.now
    (g.H.Disk.tells c.args.host.now) _ c.requires.served

pub returns-in-InboxFrom-clause-does : goal.returns-in-InboxFrom-clause-does
returns-in-InboxFrom-clause-does g c =
    as_asked (g.C.Clients.meaning c.args.clients.now) c.args.asked
    (command.InboxFrom c.in-InboxFrom.from c.in-InboxFrom.count) _ _ _ _ _ _ _ c.in-InboxFrom.is (
      c.put_listing-in-InboxFrom.ensures (g.C.Clients.meaning c.args.clients.now) c.args.host.now
          c.requires.served.ready.loaded,
      record { same = refl; same_faults = refl },
    )

pub returns-in-InboxFrom-clause-serves : goal.returns-in-InboxFrom-clause-serves
returns-in-InboxFrom-clause-serves g c =
    still_serves (g.C.Clients.meaning c.args.clients.now) c.args.store.now
    (g.H.Disk.tells c.args.host.now) _ c.requires.served

pub returns-in-Body-clause-does : goal.returns-in-Body-clause-does
returns-in-Body-clause-does g c =
    as_asked (g.C.Clients.meaning c.args.clients.now) c.args.asked
    (command.Body c.in-Body.id) _ _ _ _ _ _ _ c.in-Body.is (
      c.write_body_loaded.ensures (g.C.Clients.meaning c.args.clients.now) c.args.host.now
          c.requires.served.ready.loaded,
      record { same = refl; same_faults = refl },
    )

pub returns-in-Body-clause-serves : goal.returns-in-Body-clause-serves
returns-in-Body-clause-serves g c =
    still_serves (g.C.Clients.meaning c.args.clients.now) c.args.store.now
    (g.H.Disk.tells c.args.host.now) _ c.requires.served

pub returns-in-Status-clause-does : goal.returns-in-Status-clause-does
returns-in-Status-clause-does g c =
    as_asked (g.C.Clients.meaning c.args.clients.now) c.args.asked
    command.Status _ _ _ _ _ _ _ c.in-Status.is (
      c.print_status_loaded.ensures (g.C.Clients.meaning c.args.clients.now) c.args.host.now
          c.requires.served.ready.loaded,
      record { same = refl; same_faults = refl },
    )

pub returns-in-Status-clause-serves : goal.returns-in-Status-clause-serves
returns-in-Status-clause-serves g c =
    still_serves (g.C.Clients.meaning c.args.clients.now) c.args.store.now
    (g.H.Disk.tells c.args.host.now) _ c.requires.served

pub returns-in-Tree-clause-does : goal.returns-in-Tree-clause-does
returns-in-Tree-clause-does g c =
    as_asked (g.C.Clients.meaning c.args.clients.now) c.args.asked
    (command.Tree c.in-Tree.group c.in-Tree.from c.in-Tree.count) _ _ _ _ _ _ _ c.in-Tree.is (
      c.print_tree_loaded.ensures (g.C.Clients.meaning c.args.clients.now) c.args.host.now
          c.requires.served.ready.loaded,
      record { same = refl; same_faults = refl },
    )

pub returns-in-Tree-clause-serves : goal.returns-in-Tree-clause-serves
returns-in-Tree-clause-serves g c =
    still_serves (g.C.Clients.meaning c.args.clients.now) c.args.store.now
    (g.H.Disk.tells c.args.host.now) _ c.requires.served

pub print_tree_loaded-requires : goal.print_tree_loaded-requires
print_tree_loaded-requires g c =
    (g.C.Clients.meaning c.args.clients.now, c.requires.served.ready.loaded.opened.ready.knows)

pub returns-in-Init-clause-sessions : goal.returns-in-Init-clause-sessions
returns-in-Init-clause-sessions g c leaves =
    leaves_itself c.args.store.now

pub returns-in-Show-clause-sessions : goal.returns-in-Show-clause-sessions
returns-in-Show-clause-sessions g c leaves =
    leaves_by c.args.store.now c.args.store.now _ (leaves_itself c.args.store.now)

pub returns-in-Inbox-clause-sessions : goal.returns-in-Inbox-clause-sessions
returns-in-Inbox-clause-sessions g c leaves =
    leaves_by c.args.store.now c.args.store.now _ (leaves_itself c.args.store.now)

pub returns-in-InboxFrom-clause-sessions : goal.returns-in-InboxFrom-clause-sessions
returns-in-InboxFrom-clause-sessions g c leaves =
    leaves_by c.args.store.now c.args.store.now _ (leaves_itself c.args.store.now)

pub returns-in-Body-clause-sessions : goal.returns-in-Body-clause-sessions
returns-in-Body-clause-sessions g c leaves =
    leaves_by c.args.store.now c.args.store.now _ (leaves_itself c.args.store.now)

pub returns-in-Status-clause-sessions : goal.returns-in-Status-clause-sessions
returns-in-Status-clause-sessions g c leaves =
    leaves_by c.args.store.now c.args.store.now _ (leaves_itself c.args.store.now)

pub returns-in-Tree-clause-sessions : goal.returns-in-Tree-clause-sessions
returns-in-Tree-clause-sessions g c leaves =
    leaves_by c.args.store.now c.args.store.now _ (leaves_itself c.args.store.now)

pub returns-in-Audit-clause-sessions : goal.returns-in-Audit-clause-sessions
returns-in-Audit-clause-sessions g c leaves =
    leaves_by c.args.store.now c.args.store.now _ (leaves_itself c.args.store.now)

pub returns-in-Contact-clause-sessions : goal.returns-in-Contact-clause-sessions
returns-in-Contact-clause-sessions g c leaves =
    c.add_contact_loaded.ensures.sessions

pub returns-in-Group-clause-sessions : goal.returns-in-Group-clause-sessions
returns-in-Group-clause-sessions g c leaves =
    c.add_named.ensures.sessions

pub returns-in-Share-clause-sessions : goal.returns-in-Share-clause-sessions
returns-in-Share-clause-sessions g c leaves =
    c.set_level_loaded.ensures.sessions

pub returns-in-Post-clause-sessions : goal.returns-in-Post-clause-sessions
returns-in-Post-clause-sessions g c leaves =
    c.post_loaded.ensures.sessions

pub returns-in-Say-clause-sessions : goal.returns-in-Say-clause-sessions
returns-in-Say-clause-sessions g c leaves =
    c.say_named.ensures.sessions

pub returns-in-Agree-clause-sessions : goal.returns-in-Agree-clause-sessions
returns-in-Agree-clause-sessions g c leaves =
    c.agree_loaded.ensures.sessions

pub returns-in-Compact-clause-sessions : goal.returns-in-Compact-clause-sessions
returns-in-Compact-clause-sessions g c leaves =
    not_leaving c.args.asked command.Compact c.in-Compact.is refl leaves

pub returns-in-MailboxIn-clause-sessions : goal.returns-in-MailboxIn-clause-sessions
returns-in-MailboxIn-clause-sessions g c leaves =
    not_leaving c.args.asked (command.MailboxIn c.in-MailboxIn.contact) c.in-MailboxIn.is refl leaves

pub returns-in-MailboxOut-clause-sessions : goal.returns-in-MailboxOut-clause-sessions
returns-in-MailboxOut-clause-sessions g c leaves =
    not_leaving c.args.asked (command.MailboxOut c.in-MailboxOut.contact c.in-MailboxOut.latency c.in-MailboxOut.count) c.in-MailboxOut.is refl leaves
