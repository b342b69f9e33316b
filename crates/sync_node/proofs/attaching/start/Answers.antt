use Rattle.session_core.proofs.Unknown.{unknown}
use Rattle.std.proofs.Common.{List, arith, refl, sym, ap, ◌∙◌, subst}
use Rattle.record_stream.specs.Reading.{AwaitsBytes, ReaderState}
use Rattle.sync_rules.specs.Allows.{is_account_kind, is_settling_kind}
use Rattle.sync_rules.specs.Legal.{Allowed}
use Rattle.sync_rules.specs.declared.entries.Entry.{Entry}
use Rattle.sync_node.proofs.KeepLaws.{has_begun}
use Rattle.sync_node.proofs.StartActs.{first_bytes, session_found, session_told, start_went}
use Rattle.sync_node.proofs.StartActs.{starts_broke, starts_memory, starts_was}
use Rattle.sync_node.proofs.WorkLaws.{goes_then}
use Rattle.sync_node.proofs.attaching.start.Goals as goal

pub commit-requires-clause-ready : goal.commit-requires-clause-ready
commit-requires-clause-ready g c = c.requires.ready

pub commit-requires-clause-allowed : goal.commit-requires-clause-allowed
commit-requires-clause-allowed g c =
    subst (λ (b : List Entry).
    Allowed (g.C.Clients.meaning c.args.clients.now) c.args.store.now.state.facts b)
    (sym c.in_ok-batch.ensures) c.requires.allowed

pub commit-requires-clause-kind : goal.commit-requires-clause-kind
commit-requires-clause-kind g c = ap is_settling_kind c.in_ok-batch.ensures

pub commit-requires-clause-plain : goal.commit-requires-clause-plain
commit-requires-clause-plain g c = ap is_account_kind c.in_ok-batch.ensures

pub same-reader : goal.same-reader
same-reader g c = refl

pub greet-requires-clause-dialled : goal.greet-requires-clause-dialled
greet-requires-clause-dialled g c =
    omega (arith, c.requires.dialled, c.in_ok-commit.ensures.went.did.goes.links.dialled)

pub greet-requires-clause-going : goal.greet-requires-clause-going
greet-requires-clause-going g c = refl

pub commit-requires-clause-named : goal.commit-requires-clause-named
commit-requires-clause-named g c = unknown c.in_ok-batch.batch

pub unreachable-requires : goal.unreachable-requires
unreachable-requires g c =
    session_found c.args.session c.in_ok-batch.batch _ _ c.in_ok-batch.ensures c.in_ok-commit.ensures.went.facts (sym c.in_default.is ∙ session_told _ _ _ _ c.state.ensures c.session.ensures.value)

pub returns-in_err-versions-clause-work : goal.returns-in_err-versions-clause-work
returns-in_err-versions-clause-work g c =
    starts_memory _ c.from_residual.ensures.1 c.requires.ready

pub returns-in_err-priority-clause-work : goal.returns-in_err-priority-clause-work
returns-in_err-priority-clause-work g c =
    starts_memory _ c.from_residual-in_err-priority.ensures.1 c.requires.ready

pub returns-in_err-batch-clause-work : goal.returns-in_err-batch-clause-work
returns-in_err-batch-clause-work g c =
    starts_memory _ c.from_residual-in_err-batch.ensures.1 c.requires.ready

pub returns-in_err-commit-clause-work : goal.returns-in_err-commit-clause-work
returns-in_err-commit-clause-work g c =
    starts_was _ c.in_err-commit.field-0.0 c.from_residual-in_err-commit.ensures.1
    (starts_broke _ c.args.session _ _ c.in_ok-batch.batch c.in_ok-batch.ensures c.requires.allowed _
    _ _ _ _ c.in_err-commit.ensures.stopped c.in_err-commit.ensures.undone)

pub returns-clause-work : goal.returns-clause-work
returns-clause-work g c = record {
  goes = goes_then _ _ _ c.in_ok-commit.ensures.went.did.goes c.greet.ensures.run.goes;
  same_limit = c.in_ok-commit.ensures.went.did.limit;
  same_format = c.in_ok-commit.ensures.went.did.format;
  stopped = tt;
  stops = tt;
}

pub returns-clause-went : goal.returns-clause-went
returns-clause-went g c =
    let found =
    sym c.in-Some.is ∙ session_told _ _ _ _ c.state.ensures c.session.ensures.value in
    start_went _ c.args.session _ _ c.in_ok-batch.batch c.in_ok-batch.ensures c.requires.allowed _ _ _ c.in-Some.begun c.args.reader _ _ _ _
    c.in_ok-commit.ensures.went c.in_ok-commit.ensures.numbers.roomy
    (first_bytes c.args.session _ _ (c.as_slice.ensures.value ∙ c.in_ok-versions.ensures) (c.as_slice-2.ensures.value ∙ c.in_ok-priority.ensures))
    found c.requires.fresh
    (subst (λ (r : ReaderState). AwaitsBytes r) c.requires.fresh c.requires.waits)
    c.greet.ensures.went
    (has_begun _ c.args.number c.args.session c.in-Some.begun _ _ _ _ _ _ _ _ _ c.in_ok-batch.batch
    c.in_ok-batch.ensures c.requires.allowed.1 c.in_ok-commit.ensures.went found
    c.in-Some.ensures.numbered refl c.requires.waits refl c.greet.ensures.went c.greet.ensures.run)
