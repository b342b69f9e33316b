use Rattle.std.proofs.Common.{arith}
use Rattle.sync_rules.specs.Facts.{held_at}
use Rattle.sharing_commands.specs.Words.{said_of}
use Rattle.sharing_commands.proofs.Spoken.{more_words}
use Rattle.sharing_commands.proofs.words.gather_words.Goals as goal

pub delivered-preserved : goal.delivered-preserved
delivered-preserved c =
    more_words (λ id. said_of c.args.contact c.args.group.now
    (held_at c.args.store.now.state.facts.held id))
    c.args.store.now.state.facts.delivered c.delivered.k _ _ (omega arith) c.delivered.invariant
    c.in_ok-add_word.ensures
