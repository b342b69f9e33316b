use Rattle.std.proofs.Common.{refl, ◌∙◌, subst, sym}
use Rattle.sync_rules.specs.Facts.{Facts}
use Rattle.sync_rules.specs.Steps.{IsSettled}
use Rattle.store_commands.proofs.Adds.{extended_whole}
use Rattle.store_commands.proofs.Sessions.{adding_leaves, leaves_at, leaves_kept}
use Rattle.store_commands.proofs.commit.commit_settled.Goals as goal

pub returns-in-Ok-clause-added : goal.returns-in-Ok-clause-added
returns-in-Ok-clause-added g c =
    let clients = g.C.Clients.meaning c.args.clients.now in
    let has = c.in-Ok.ensures.extended c.requires.ready.still_open in
    record {
      more = has.more;
      adds = has.adds;
      file = has.runs.file;
      format = has.runs.format;
      generation = has.runs.generation;
      limit = has.runs.limit;
      leads = has.runs.leads;
      answer = (has.answer.0, has.answer.1, extended_whole clients _ _ c.args.batch tt _ _ has);
    }

pub returns-in-Err-Full-clause-added : goal.returns-in-Err-Full-clause-added
returns-in-Err-Full-clause-added g c =
    let has = c.in-Err-Full.ensures.extended c.requires.ready.still_open in
    let answer = rw c.in-Err-Full.field-0-is at has.answer in
    record {
      more = has.more;
      adds = has.adds;
      file = has.runs.file;
      format = has.runs.format;
      generation = has.runs.generation;
      limit = has.runs.limit;
      leads = has.runs.leads;
      answer = (answer.2.closed ∙ c.requires.ready.still_open, answer.0, answer.1);
    }

pub returns-in-Err-Memory-clause-added : goal.returns-in-Err-Memory-clause-added
returns-in-Err-Memory-clause-added g c =
    let has = c.in-Err-Memory.ensures.extended c.requires.ready.still_open in
    record {
      more = has.more;
      adds = has.adds;
      file = has.runs.file;
      format = has.runs.format;
      generation = has.runs.generation;
      limit = has.runs.limit;
      leads = has.runs.leads;
      answer = tt;
    }

pub returns-in-Err-DiskFault-clause-added : goal.returns-in-Err-DiskFault-clause-added
returns-in-Err-DiskFault-clause-added g c =
    let has = c.in-Err-DiskFault.ensures.extended c.requires.ready.still_open in
    record {
      more = has.more;
      adds = has.adds;
      file = has.runs.file;
      format = has.runs.format;
      generation = has.runs.generation;
      limit = has.runs.limit;
      leads = has.runs.leads;
      answer = tt;
    }

pub returns-in-Err-DiskFault-clause-by : goal.returns-in-Err-DiskFault-clause-by
returns-in-Err-DiskFault-clause-by g c =
    (rw c.in-Err-DiskFault.field-0-is at c.in-Err-DiskFault.ensures.fault) refl

pub returns-in-Ok-clause-stays : goal.returns-in-Ok-clause-stays
returns-in-Ok-clause-stays g c =
    c.in-Ok.ensures.ready (c.in-Ok.ensures.extended c.requires.ready.still_open).answer.0

pub returns-in-Ok-clause-settled : goal.returns-in-Ok-clause-settled
returns-in-Ok-clause-settled g c settled keeps =
    (c.in-Ok.ensures.extended c.requires.ready.still_open).answer.3

pub returns-in-Err-Full-clause-stays : goal.returns-in-Err-Full-clause-stays
returns-in-Err-Full-clause-stays g c =
    let has = c.in-Err-Full.ensures.extended c.requires.ready.still_open in
    let answer = rw c.in-Err-Full.field-0-is at has.answer in
    c.in-Err-Full.ensures.ready (answer.2.closed ∙ c.requires.ready.still_open)

pub returns-in-Err-Full-clause-settled : goal.returns-in-Err-Full-clause-settled
returns-in-Err-Full-clause-settled g c settled keeps =
    let has = c.in-Err-Full.ensures.extended c.requires.ready.still_open in
    let answer = rw c.in-Err-Full.field-0-is at has.answer in
    subst (λ (f : Facts). IsSettled (g.C.Clients.meaning c.args.clients.now) f)
    (sym answer.2.facts) settled

pub returns-in-Err-Memory-clause-stays : goal.returns-in-Err-Memory-clause-stays
returns-in-Err-Memory-clause-stays g c =
    let has = c.in-Err-Memory.ensures.extended c.requires.ready.still_open in
    let answer = rw c.in-Err-Memory.field-0-is at has.answer in
    c.in-Err-Memory.ensures.ready answer.0

pub returns-in-Ok-clause-sessions : goal.returns-in-Ok-clause-sessions
returns-in-Ok-clause-sessions g c none =
    let has = c.in-Ok.ensures.extended c.requires.ready.still_open in
    leaves_at c.args.store.now c.extend_known.new.self _ (has.runs.facts has.answer.0)
    (adding_leaves (g.C.Clients.meaning c.args.clients.now) c.args.store.now.state.facts
    c.args.batch has.more none has.adds)

pub returns-in-Err-Full-clause-sessions : goal.returns-in-Err-Full-clause-sessions
returns-in-Err-Full-clause-sessions g c none =
    let has = c.in-Err-Full.ensures.extended c.requires.ready.still_open in
    let answer = rw c.in-Err-Full.field-0-is at has.answer in
    leaves_kept c.args.store.now c.extend_known.new.self answer.2.facts

pub returns-in-Err-Memory-clause-sessions : goal.returns-in-Err-Memory-clause-sessions
returns-in-Err-Memory-clause-sessions g c none =
    let has = c.in-Err-Memory.ensures.extended c.requires.ready.still_open in
    let answer = rw c.in-Err-Memory.field-0-is at has.answer in
    leaves_at c.args.store.now c.extend_known.new.self _ (has.runs.facts answer.0)
    (adding_leaves (g.C.Clients.meaning c.args.clients.now) c.args.store.now.state.facts
    c.args.batch has.more none has.adds)
