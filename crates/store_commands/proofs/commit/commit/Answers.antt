use Rattle.std.proofs.Common.{refl, ◌∙◌, [], ◌∷◌, Ok, Err, subst, sym}
use Rattle.sync_rules.specs.Facts.{Facts}
use Rattle.sync_rules.specs.Knowing.{KnowsGroups}
use Rattle.sync_rules.specs.Steps.{IsSettled}
use Rattle.journal_state.specs.Whole.{StateValue}
use Rattle.sync_store.specs.declared.fault.StoreFault.TheVariants as fault
use Rattle.sync_store.proofs.Runs.{runs_commit}
use Rattle.store_commands.proofs.Adds.{one_whole}
use Rattle.store_commands.proofs.Serving.{kept_settled}
use Rattle.store_commands.proofs.Sessions.{batch_leaves, leaves_at, leaves_kept}
use Rattle.store_commands.proofs.commit.commit.Goals as goal

pub returns-in-Ok-clause-added : goal.returns-in-Ok-clause-added
returns-in-Ok-clause-added g c =
    let clients = g.C.Clients.meaning c.args.clients.now in
    let answer = c.in-Ok.ensures.answer in
    let runs =
    runs_commit c.images_stand.ensures clients c.args.store.now c.commit_known.new.self c.args.batch
    (Ok tt) _ g.D.Disk.tells c.args.disk.now c.commit_known.new.disk c.in-Ok.ensures.numbers
    c.requires.ready.still_open c.requires.allowed answer tt c.in-Ok.ensures.run
    c.in-Ok.ensures.calls c.in-Ok.ensures.appends (c.in-Ok.ensures.extends c.requires.ready.still_open) in
    record {
      more = c.args.batch ∷ [];
      adds = (refl, tt, tt);
      file = runs.file;
      format = runs.format;
      generation = runs.generation;
      limit = runs.limit;
      leads = runs.leads;
      answer =
          (answer.2.closed, answer.1, one_whole clients c.args.store.now.state.facts c.args.batch);
    }

pub returns-in-Err-Full-clause-added : goal.returns-in-Err-Full-clause-added
returns-in-Err-Full-clause-added g c =
    let clients = g.C.Clients.meaning c.args.clients.now in
    let answer = rw c.in-Err-Full.field-0-is at c.in-Err-Full.ensures.answer in
    let runs =
    runs_commit c.images_stand.ensures clients c.args.store.now c.commit_known.new.self c.args.batch
    (Err fault.Full) _ g.D.Disk.tells c.args.disk.now c.commit_known.new.disk
    c.in-Err-Full.ensures.numbers
    c.requires.ready.still_open c.requires.allowed answer
    (rw c.in-Err-Full.field-0-is at c.in-Err-Full.ensures.unasked) c.in-Err-Full.ensures.run
    (record { just = tt; most = c.in-Err-Full.ensures.calls.most }) c.in-Err-Full.ensures.appends
    (c.in-Err-Full.ensures.extends c.requires.ready.still_open) in
    record {
      more = [];
      adds = tt;
      file = runs.file;
      format = runs.format;
      generation = runs.generation;
      limit = runs.limit;
      leads = runs.leads;
      answer = (answer.2.closed ∙ answer.0, answer.1, refl);
    }

pub returns-in-Err-Memory-clause-added : goal.returns-in-Err-Memory-clause-added
returns-in-Err-Memory-clause-added g c =
    let clients = g.C.Clients.meaning c.args.clients.now in
    let runs =
    runs_commit c.images_stand.ensures clients c.args.store.now c.commit_known.new.self c.args.batch
    (Err fault.Memory) _ g.D.Disk.tells c.args.disk.now c.commit_known.new.disk
    c.in-Err-Memory.ensures.numbers
    c.requires.ready.still_open c.requires.allowed
    (rw c.in-Err-Memory.field-0-is at c.in-Err-Memory.ensures.answer)
    (rw c.in-Err-Memory.field-0-is at c.in-Err-Memory.ensures.unasked)
    c.in-Err-Memory.ensures.run (record { just = tt; most = c.in-Err-Memory.ensures.calls.most }) c.in-Err-Memory.ensures.appends
    (c.in-Err-Memory.ensures.extends c.requires.ready.still_open) in
    record {
      more = [];
      adds = tt;
      file = runs.file;
      format = runs.format;
      generation = runs.generation;
      limit = runs.limit;
      leads = runs.leads;
      answer = tt;
    }

pub returns-in-Err-DiskFault-clause-added : goal.returns-in-Err-DiskFault-clause-added
returns-in-Err-DiskFault-clause-added g c =
    let clients = g.C.Clients.meaning c.args.clients.now in
    let runs =
    runs_commit c.images_stand.ensures clients c.args.store.now c.commit_known.new.self c.args.batch
    (Err fault.DiskFault) _ g.D.Disk.tells c.args.disk.now c.commit_known.new.disk
    c.in-Err-DiskFault.ensures.numbers
    c.requires.ready.still_open c.requires.allowed
    (rw c.in-Err-DiskFault.field-0-is at c.in-Err-DiskFault.ensures.answer) tt
    c.in-Err-DiskFault.ensures.run
    (record { just = tt; most = c.in-Err-DiskFault.ensures.calls.most }) c.in-Err-DiskFault.ensures.appends
    (c.in-Err-DiskFault.ensures.extends c.requires.ready.still_open) in
    record {
      more = c.args.batch ∷ [];
      adds = (refl, tt, tt);
      file = runs.file;
      format = runs.format;
      generation = runs.generation;
      limit = runs.limit;
      leads = runs.leads;
      answer = tt;
    }

pub returns-in-Err-DiskFault-clause-by : goal.returns-in-Err-DiskFault-clause-by
returns-in-Err-DiskFault-clause-by g c =
    (rw c.in-Err-DiskFault.field-0-is at c.in-Err-DiskFault.ensures.fault) refl

pub returns-in-Ok-clause-stays : goal.returns-in-Ok-clause-stays
returns-in-Ok-clause-stays g c = c.in-Ok.ensures.ready c.in-Ok.ensures.answer.2.closed

pub returns-in-Ok-clause-settled : goal.returns-in-Ok-clause-settled
returns-in-Ok-clause-settled g c settled keeps =
    kept_settled (g.C.Clients.meaning c.args.clients.now) c.args.store.now.state.facts _
    c.args.batch
    (subst (λ (s : StateValue). KnowsGroups s.facts) c.state.ensures c.show_sound.ensures.known)
    settled c.in-Ok.ensures.answer.2.facts keeps

pub returns-in-Err-Full-clause-stays : goal.returns-in-Err-Full-clause-stays
returns-in-Err-Full-clause-stays g c =
    let answer = rw c.in-Err-Full.field-0-is at c.in-Err-Full.ensures.answer in
    c.in-Err-Full.ensures.ready (answer.2.closed ∙ answer.0)

pub returns-in-Err-Full-clause-settled : goal.returns-in-Err-Full-clause-settled
returns-in-Err-Full-clause-settled g c settled keeps =
    let answer = rw c.in-Err-Full.field-0-is at c.in-Err-Full.ensures.answer in
    subst (λ (f : Facts). IsSettled (g.C.Clients.meaning c.args.clients.now) f)
    (sym answer.2.facts) settled

pub returns-in-Err-Memory-clause-stays : goal.returns-in-Err-Memory-clause-stays
returns-in-Err-Memory-clause-stays g c =
    let answer = rw c.in-Err-Memory.field-0-is at c.in-Err-Memory.ensures.answer in
    c.in-Err-Memory.ensures.ready (answer.2.closed ∙ answer.0)

pub returns-in-Ok-clause-sessions : goal.returns-in-Ok-clause-sessions
returns-in-Ok-clause-sessions g c none =
    leaves_at c.args.store.now c.commit_known.new.self _ c.in-Ok.ensures.answer.2.facts
    (batch_leaves c.args.store.now.state.facts c.args.batch none)

pub returns-in-Err-Full-clause-sessions : goal.returns-in-Err-Full-clause-sessions
returns-in-Err-Full-clause-sessions g c none =
    let answer = rw c.in-Err-Full.field-0-is at c.in-Err-Full.ensures.answer in
    leaves_kept c.args.store.now c.commit_known.new.self answer.2.facts

pub returns-in-Err-Memory-clause-sessions : goal.returns-in-Err-Memory-clause-sessions
returns-in-Err-Memory-clause-sessions g c none =
    let answer = rw c.in-Err-Memory.field-0-is at c.in-Err-Memory.ensures.answer in
    leaves_kept c.args.store.now c.commit_known.new.self answer.2.facts
