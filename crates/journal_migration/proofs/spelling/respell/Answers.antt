use Rattle.std.proofs.Common.{◌≤◌, List, length, take, sym, ap, ◌∙◌, subst, arith}
use Rattle.sync_rules.specs.declared.entries.Entry.{Entry}
use Rattle.entry_codec.specs.declared.naming.Format.TheVariants as kind
use Rattle.entry_codec.specs.Payloads.{names_of}
use Rattle.entry_codec.proofs.LawProofs.{batch_len_same, batch_not_longer}
use Rattle.journal_migration.specs.Copying.{brought_by, counted_to}
use Rattle.journal_migration.proofs.Brought.{some_spelled}
use Rattle.journal_migration.proofs.spelling.respell.Goals as goal

pub frame-requires-clause-few : goal.frame-requires-clause-few
frame-requires-clause-few c =
    let batch = c.in-Some.batch in
    let names = take c.args.count (names_of c.args.state.now.facts) in
    let found = rw c.in-Some.is at c.in_ok-batch.ensures in
    omega (
      arith,
      c.requires,
      ap length found.spelled,
      batch_len_same kind.Whole names batch,
      batch_not_longer batch found.within,
    )

pub frame-requires-clause-len : goal.frame-requires-clause-len
frame-requires-clause-len c =
    batch_len_same kind.Short (take c.args.count (names_of c.args.state.now.facts)) c.in-Some.batch

pub returns-clause-spelled : goal.returns-clause-spelled
returns-clause-spelled c =
    let batch = c.in-Some.batch in
    let names = take c.args.count (names_of c.args.state.now.facts) in
    let found = rw c.in-Some.is at c.in_ok-batch.ensures in
    record {
      batch = batch;
      read = sym found.exact;
      spelled = found.spelled;
      within = found.within;
      some =
          some_spelled names batch found.within
          (subst (λ (b : List Entry). 1 ≤ length b) c.batch.view_is c.batch.invariant);
      no_longer = omega (
        arith,
        ap length found.spelled,
        batch_len_same kind.Whole names batch,
        batch_len_same kind.Short names batch,
        batch_not_longer batch found.within,
      );
      framed_is = c.in_ok-framed.ensures;
      brings = c.count_brought.ensures
          ∙ ap (λ (es : List Entry). counted_to (brought_by es)) c.entries-2.ensures.value;
    }
