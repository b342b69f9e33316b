use Rattle.std.proofs.Common.{subst, sym}
use Rattle.sync_rules.specs.Legal.{Allowed}
use Rattle.entry_codec.specs.Payloads.{names_of}
use Rattle.entry_codec.proofs.LawProofs.{batch_len_same}
use Rattle.entry_codec.proofs.Named.{named_in}
use Rattle.sync_store.specs.Store.{StoreValue}
use Rattle.sync_store.proofs.store.Store.frame.Goals as goal

pub frame_batch-requires-clause-named : goal.frame_batch-requires-clause-named
frame_batch-requires-clause-named c =
    let facts = c.self.inside.state.facts in
    let allowed =
    subst (λ (v : StoreValue). Allowed c.requires.allowed.0 v.state.facts c.args.batch.now)
    (sym c.self.view_is) c.requires.allowed.1 in
    named_in c.format_meant-format.result (names_of facts) c.args.batch.now
    (c.cite_laws.ensures.names c.requires.allowed.0 facts c.args.batch.now allowed)

pub frame_batch-requires-clause-len : goal.frame_batch-requires-clause-len
frame_batch-requires-clause-len c =
    batch_len_same c.format_meant-format.result (names_of c.self.inside.state.facts)
    c.args.batch.now
