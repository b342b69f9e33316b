use Rattle.std.proofs.Common.{◌≡◌, arith, List, ap, sym, refl, ◌∙◌}
use Rattle.std.specs.Prelude.{Some}
use Rattle.sync_rules.specs.declared.entries.Entry.{Entry}
use Rattle.entry_codec.specs.Payloads.{batch_in}
use Rattle.entry_codec.proofs.BatchLaws.{batch_spelled, in_bad, in_done, in_empty, in_more, none_left, rest_shorter, some_entries, some_left, written_within}
use Rattle.entry_codec.proofs.Readers.{IsBytes}
use Rattle.entry_codec.proofs.batches.read_batch.Goals as goal

pub entries-smaller : goal.entries-smaller
entries-smaller g c =
    let fits : IsBytes c.args.bytes.now = λ i. omega (arith, c.type_inv.bytes i) in
    rest_shorter c.args.format (g.N.Names.named c.args.names.now) c.show_names.ensures c.args.bytes.now c.entries.front.rest.now c.read_tagged.new.front.rest.now c.entries.entries.items c.in-Ok.entry fits c.entries.invariant c.in-Ok.ensures

pub entries-preserved : goal.entries-preserved
entries-preserved g c =
    let fits : IsBytes c.args.bytes.now = λ i. omega (arith, c.type_inv.bytes i) in
    let more = in_more c.args.format (g.N.Names.named c.args.names.now) c.show_names.ensures c.args.bytes.now c.entries.front.rest.now c.read_tagged.new.front.rest.now c.entries.entries.items c.in-Ok.entry fits c.entries.invariant c.in-Ok.ensures in
    rw (c.in_ok-push-in-Ok.ensures.items) more

pub returns-in-Err-BadEntry-clause-exact : goal.returns-in-Err-BadEntry-clause-exact
returns-in-Err-BadEntry-clause-exact g c =
    let bad = rw c.in-Err-BadEntry.field-0-is at c.in-Err-BadEntry.ensures in
    sym (in_bad c.args.format (g.N.Names.named c.args.names.now) c.show_names.ensures c.args.bytes.now c.entries.front.rest.now c.entries.entries.items c.entries.invariant
    (some_left c.entries.front.rest.now c.is_empty.result c.is_empty.ensures c.entries-test.true) bad)

-- all entries are read, and they are a batch
pub returns-in-Ok-new-clause-exact : goal.returns-in-Ok-new-clause-exact
returns-in-Ok-new-clause-exact g c =
    let whole : batch_in c.args.format (g.N.Names.named c.args.names.now) c.args.bytes.now ≡ Some c.in-Ok-new.batch =
    in_done c.args.format (g.N.Names.named c.args.names.now) c.show_names.ensures c.args.bytes.now c.entries.front.rest.now c.entries.entries.items c.entries.invariant
    (none_left c.entries.front.rest.now c.is_empty.result c.is_empty.ensures c.entries-test.false)
    (some_entries c.entries.entries.items (λ none. absurd (let clash = c.in-Ok-new.ensures.empty.1 none in cc)))
    ∙ ap (λ (l : List Entry). Some l) (sym c.in-Ok-new.ensures.made) in
    sym whole

pub returns-in-Ok-new-clause-spelled : goal.returns-in-Ok-new-clause-spelled
returns-in-Ok-new-clause-spelled g c =
    let fits : IsBytes c.args.bytes.now = λ i. omega (arith, c.type_inv.bytes i) in
    let whole : batch_in c.args.format (g.N.Names.named c.args.names.now) c.args.bytes.now ≡ Some c.in-Ok-new.batch =
    in_done c.args.format (g.N.Names.named c.args.names.now) c.show_names.ensures c.args.bytes.now c.entries.front.rest.now c.entries.entries.items c.entries.invariant
    (none_left c.entries.front.rest.now c.is_empty.result c.is_empty.ensures c.entries-test.false)
    (some_entries c.entries.entries.items (λ none. absurd (let clash = c.in-Ok-new.ensures.empty.1 none in cc)))
    ∙ ap (λ (l : List Entry). Some l) (sym c.in-Ok-new.ensures.made) in
    (batch_spelled c.args.format (g.N.Names.named c.args.names.now) c.show_names.ensures c.args.bytes.now c.in-Ok-new.batch fits whole).is

pub returns-in-Ok-new-clause-within : goal.returns-in-Ok-new-clause-within
returns-in-Ok-new-clause-within g c =
    let fits : IsBytes c.args.bytes.now = λ i. omega (arith, c.type_inv.bytes i) in
    let whole : batch_in c.args.format (g.N.Names.named c.args.names.now) c.args.bytes.now ≡ Some c.in-Ok-new.batch =
    in_done c.args.format (g.N.Names.named c.args.names.now) c.show_names.ensures c.args.bytes.now c.entries.front.rest.now c.entries.entries.items c.entries.invariant
    (none_left c.entries.front.rest.now c.is_empty.result c.is_empty.ensures c.entries-test.false)
    (some_entries c.entries.entries.items (λ none. absurd (let clash = c.in-Ok-new.ensures.empty.1 none in cc)))
    ∙ ap (λ (l : List Entry). Some l) (sym c.in-Ok-new.ensures.made) in
    written_within c.args.format (g.N.Names.named c.args.names.now) c.in-Ok-new.batch
    (batch_spelled c.args.format (g.N.Names.named c.args.names.now) c.show_names.ensures c.args.bytes.now c.in-Ok-new.batch fits whole).written

pub returns-in-Err-clause-exact : goal.returns-in-Err-clause-exact
returns-in-Err-clause-exact g c =
    let fits : IsBytes c.args.bytes.now = λ i. omega (arith, c.type_inv.bytes i) in
    sym (in_empty c.args.format (g.N.Names.named c.args.names.now) c.show_names.ensures c.args.bytes.now c.entries.front.rest.now c.entries.entries.items fits c.entries.invariant
    (none_left c.entries.front.rest.now c.is_empty.result c.is_empty.ensures c.entries-test.false) (c.in-Err.ensures.empty.0 refl))
