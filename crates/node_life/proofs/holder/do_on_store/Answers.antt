use Rattle.std.proofs.Common.{refl, ap, ◌∙◌, inl, inr, List, ℕ, Some, Ok, Err}
use Rattle.sync_words.specs.declared.outcome.Outcome.{Outcome}
use Rattle.sync_words.specs.Outcomes.{came_to}
use Rattle.node_service.specs.Outputs.{output_told}
use Rattle.node_life.specs.Requests.{said_by, said_of}
use Rattle.node_life.proofs.AnswerLemmas.{on_store, said_done, served_stays, unsettled_stays}
use Rattle.node_life.proofs.SettleLemmas.{not_settled, settles_ready, stays_ready}
use Rattle.store_commands.proofs.Sessions.{leaves_behind, leaves_by}
use Rattle.node_life.proofs.LeaveLemmas.{said_leaves}
use Rattle.node_life.proofs.holder.do_on_store.Goals as goal

pub obey-requires-clause-served : goal.obey-requires-clause-served
obey-requires-clause-served g c = c.in-Ok.ensures.serves c.requires.ready.loaded.opened.limited

pub returns-in-Ok-clause-does : goal.returns-in-Ok-clause-does
returns-in-Ok-clause-does g c =
    let clients = g.C.Clients.meaning c.args.clients.now in
    let e = c.in-Ok.ensures in
    let out = c.obey.new.out.bytes in
    record {
      answers =
          on_store g.H.Disk.tells clients _ c.args.asked c.args.host.now c.obey.new.host
          (said_by c.said.result out) c.requires.done
          (inl (said_done g.H.Disk.tells clients c.args.asked c.args.host.now c.migrate_and_settle.new.disk
          c.obey.new.host _ _ (output_told c.args.out.now) (output_told c.obey.new.out)
          (came_to c.obey.result) (said_by c.said.result out) out
          (settles_ready clients c.args.store.now c.migrate_and_settle.new.store _ _ (Ok tt)
          c.requires.ready e.run e.by (λ is. ap g.H.Disk.tells (e.untouched is)) e.settled)
          (ap Some c.requires.empty) refl
          (c.said.ensures out ∙ ap (λ (o : Outcome). said_of o out) c.of.ensures) c.obey.ensures.does));
      ready =
          served_stays clients c.obey.new.store
          (g.H.Disk.tells c.obey.new.host) c.said.result out (came_to c.obey.result)
          (c.said.ensures out ∙ ap (λ (o : Outcome). said_of o out) c.of.ensures) c.obey.ensures.serves;
    }

pub returns-in-Err-clause-does : goal.returns-in-Err-clause-does
returns-in-Err-clause-does g c =
    let clients = g.C.Clients.meaning c.args.clients.now in
    let e = c.in-Err.ensures in
    let out = c.args.out.now.bytes in
    record {
      answers =
          on_store g.H.Disk.tells clients _ c.args.asked c.args.host.now c.migrate_and_settle.new.disk
          (said_by c.said-in-Err.result out) c.requires.done (inr (record {
            came = c.in-Err.came;
            settled =
                settles_ready clients c.args.store.now c.migrate_and_settle.new.store _ _
                (Err c.in-Err.came) c.requires.ready e.run e.by
                (λ is. ap g.H.Disk.tells (e.untouched is)) e.settled;
            undone = not_settled (g.H.Disk.tells c.args.host.now)
                (g.H.Disk.tells c.migrate_and_settle.new.disk) c.in-Err.came e.by;
            is = c.said-in-Err.ensures out
                ∙ ap (λ (text : List ℕ). said_of c.in-Err.came text) c.requires.empty;
          }));
      ready =
          unsettled_stays clients c.migrate_and_settle.new.store
          (g.H.Disk.tells c.migrate_and_settle.new.disk) c.said-in-Err.result out c.in-Err.came
          (c.said-in-Err.ensures out)
          (stays_ready clients c.args.store.now c.migrate_and_settle.new.store _ _ c.in-Err.came
          c.requires.ready e.settled e.stays);
    }

pub returns-in-Ok-clause-sessions : goal.returns-in-Ok-clause-sessions
returns-in-Ok-clause-sessions g c leaves =
    let s = c.args.store.now in
    let out = c.obey.new.out.bytes in
    said_leaves s c.obey.new.store c.said.result out (came_to c.obey.result)
    (c.said.ensures out ∙ ap (λ (o : Outcome). said_of o out) c.of.ensures)
    (leaves_behind s c.migrate_and_settle.new.store c.obey.new.store (came_to c.obey.result)
    c.in-Ok.ensures.sessions (c.obey.ensures.sessions leaves))

pub returns-in-Err-clause-sessions : goal.returns-in-Err-clause-sessions
returns-in-Err-clause-sessions g c leaves =
    let s = c.args.store.now in
    let s1 = c.migrate_and_settle.new.store in
    let out = c.args.out.now.bytes in
    said_leaves s s1 c.said-in-Err.result out c.in-Err.came (c.said-in-Err.ensures out)
    (leaves_by s s1 c.in-Err.came c.in-Err.ensures.sessions)
