use Rattle.std.proofs.Common.{◌≡◌, ℕ, List, Option, Some, refl, sym, subst}
use Rattle.journal_play.specs.Playing.{IsTextOf}
use Rattle.outside.specs.Streams.{Stream}
use Rattle.record_grammar.specs.Stream.{records_of}
use Rattle.sync_ids.specs.Values.{GroupValue}
use Rattle.sync_rules.specs.Clients.{Meaning}
use Rattle.sync_words.specs.declared.outcome.Outcome.{Outcome}
use Rattle.sync_words.specs.declared.outcome.Outcome.TheVariants as outcome
use Rattle.stream_commands.proofs.AnswerLemmas.{tries_memory, tries_on}
use Rattle.stream_commands.specs.Streams.{Streams, TriesClient}
use Rattle.sync_words.specs.Outcomes.{came_to}
use Rattle.stream_commands.proofs.streams.try_group.Goals as goal

-- a group of a client that is known was tried
tries_known : (clients : Meaning) (name descriptor : List ℕ) (o : Option ℕ) (kind : ℕ)
    (def : GroupValue) (input input' out out' : Stream) (came : Outcome) → o ≡ Some kind
    → def ≡ record { name = name; major = 0; descriptor = descriptor }
    → Streams (λ items text. IsTextOf clients def (records_of items) text) input input' out out'
    came
    → TriesClient clients name descriptor o input input' out out' came
tries_known clients name descriptor o kind def input input' out out' came known is streams =
    subst (λ (k : Option ℕ). TriesClient clients name descriptor k input input' out out' came)
    (sym known)
    (subst (λ (d : GroupValue).
    Streams (λ items text. IsTextOf clients d (records_of items) text) input input' out out'
    came) is streams)

pub returns : goal.returns
returns g c =
    let clients = g.C.Clients.meaning c.args.clients.now in
    let known : clients.kind_of c.args.name.now 0 ≡ Some c.in-Some.kind = cc in
    tries_known clients c.args.name.now c.args.descriptor.now _ c.in-Some.kind c.in_ok-def.def _ _ _
    _ (came_to c.try_input.result) known c.in_ok-def.ensures
    c.try_input.ensures

pub returns-in_err-def : goal.returns-in_err-def
returns-in_err-def g c =
    let clients = g.C.Clients.meaning c.args.clients.now in
    tries_on c.from_residual.result outcome.Memory c.from_residual.ensures.1 clients c.args.name.now
    c.args.descriptor.now _ _ _ _ _
    (tries_memory clients c.args.name.now c.args.descriptor.now _ _ _ _ _
    (record { same = refl; same_faults = refl }))
