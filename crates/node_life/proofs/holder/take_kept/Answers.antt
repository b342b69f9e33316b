use Rattle.std.proofs.Common.{refl, ap, ◌∙◌, inl, inr, List, ℕ, Some, Ok, Err}
use Rattle.sync_words.specs.declared.outcome.Outcome.{Outcome}
use Rattle.sync_words.specs.Outcomes.{came_to}
use Rattle.commands.specs.declared.command.Command.TheVariants as command
use Rattle.mailbox_commands.specs.Taking.{lying}
use Rattle.node_service.specs.Outputs.{output_told}
use Rattle.node_life.specs.Requests.{said_by, said_of}
use Rattle.node_life.proofs.AnswerLemmas.{said_done, served_stays, unsettled_stays}
use Rattle.node_life.proofs.SettleLemmas.{not_settled, settles_ready, stays_ready}
use Rattle.node_life.proofs.holder.take_kept.Goals as goal

pub take_mail_bytes-requires : goal.take_mail_bytes-requires
take_mail_bytes-requires g c =
    let served = c.in-Ok.ensures.serves c.requires.ready.loaded.opened.limited in
    record { ready = served.ready.loaded.opened }

pub returns-in-Ok : goal.returns-in-Ok
returns-in-Ok g c =
    let clients = g.C.Clients.meaning c.args.clients.now in
    let e = c.in-Ok.ensures in
    let out = c.take_mail_bytes.new.out.bytes in
    let served = e.serves c.requires.ready.loaded.opened.limited in
    let has =
    c.take_mail_bytes.ensures.taken c.migrate_and_settle.new.disk served.ready.loaded in
    record {
      input = lying c.args.kept.now;
      input' = has.input';
      bytes = refl;
      unfailing = has.unfailing;
      done = record {
        answers =
            inl (said_done g.H.Disk.tells clients (command.MailboxIn c.args.contact)
            c.args.host.now c.migrate_and_settle.new.disk c.take_mail_bytes.new.disk
            (lying c.args.kept.now) has.input' (output_told c.args.out.now)
            (output_told c.take_mail_bytes.new.out) (came_to c.take_mail_bytes.result)
            (said_by c.said.result out) out
            (settles_ready clients c.args.store.now c.migrate_and_settle.new.store _ _ (Ok tt)
            c.requires.ready e.run e.by (λ is. ap g.H.Disk.tells (e.untouched is)) e.settled)
            (ap Some c.requires.empty) refl
            (c.said.ensures out ∙ ap (λ (o : Outcome). said_of o out) c.of.ensures) has.taken);
        ready =
            served_stays clients c.take_mail_bytes.new.store
            (g.H.Disk.tells c.take_mail_bytes.new.disk) c.said.result out
            (came_to c.take_mail_bytes.result)
            (c.said.ensures out ∙ ap (λ (o : Outcome). said_of o out) c.of.ensures)
            (c.take_mail_bytes.ensures.serves served);
      };
    }

pub returns-in-Err : goal.returns-in-Err
returns-in-Err g c =
    let clients = g.C.Clients.meaning c.args.clients.now in
    let e = c.in-Err.ensures in
    let out = c.args.out.now.bytes in
    record {
      input = lying c.args.kept.now;
      input' = lying c.args.kept.now;
      bytes = refl;
      unfailing = refl;
      done = record {
        answers =
            inr (record {
              came = c.in-Err.came;
              settled =
                  settles_ready clients c.args.store.now c.migrate_and_settle.new.store _ _
                  (Err c.in-Err.came) c.requires.ready e.run e.by
                  (λ is. ap g.H.Disk.tells (e.untouched is)) e.settled;
              undone = not_settled (g.H.Disk.tells c.args.host.now)
                  (g.H.Disk.tells c.migrate_and_settle.new.disk) c.in-Err.came e.by;
              is = c.said-in-Err.ensures out
                  ∙ ap (λ (text : List ℕ). said_of c.in-Err.came text) c.requires.empty;
            });
        ready =
            unsettled_stays clients c.migrate_and_settle.new.store
            (g.H.Disk.tells c.migrate_and_settle.new.disk) c.said-in-Err.result out c.in-Err.came
            (c.said-in-Err.ensures out)
            (stays_ready clients c.args.store.now c.migrate_and_settle.new.store _ _
            c.in-Err.came c.requires.ready e.settled e.stays);
      };
    }
