use Rattle.std.proofs.Common.{◌≡◌, ap, subst, sym}
use Rattle.outside.specs.MemHost.{MemHostValue}
use Rattle.outside.specs.MemStreams.{sink_told}
use Rattle.commands.specs.Reading.{asks}
use Rattle.sync_words.specs.Words.{texts}
use Rattle.memory_run.specs.Opens.{OpensInMemory}
use Rattle.memory_run.proofs.OpensLemmas.{opens_in_memory}
use Rattle.memory_run.proofs.RanLemmas.{ran_in_memory}
use Rattle.memory_run.proofs.run.run_in_memory.Goals as goal

pub returns-clause-opens : goal.returns-clause-opens
returns-clause-opens g c =
    let clients = g.C.Clients.meaning c.args.clients.now in
    subst (λ (h : MemHostValue).
    OpensInMemory clients (asks (texts c.args.words.now)) h c.run-status.new.host)
    c.into_host-host.ensures.host
    (opens_in_memory clients (asks (texts c.args.words.now)) c.into_host-host.result
    c.run-status.new.host c.run-status.ensures.opens)

pub returns-clause-ran : goal.returns-clause-ran
returns-clause-ran g c =
    ran_in_memory (g.C.Clients.meaning c.args.clients.now) (asks (texts c.args.words.now))
    c.args.fresh c.into_host-host.result c.run-status.new.host c.args.source
    c.run-status.new.input c.new-out.result c.run-status.new.out c.new-err.result
    c.run-status.new.err c.run-status.result c.into_host-host.ensures.host
    (ap sink_told c.new-out.ensures) (ap sink_told c.new-err.ensures) c.run-status.ensures.ran
