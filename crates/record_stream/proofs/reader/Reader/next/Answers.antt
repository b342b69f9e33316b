use Rattle.std.proofs.Common.{◌-◌, take, drop, sym, ap, ◌∙◌}
use Rattle.record_stream.specs.Reading.{ReaderState}
use Rattle.record_stream.proofs.Steps.{bad_leaves, more_leaves, not_failed, one_after, one_read, refused_of, skipped_after, skipped_read}
use Rattle.record_stream.proofs.reader.Reader.next.Goals as goal

pub invariant_of-self-in-Bad : goal.invariant_of-self-in-Bad
invariant_of-self-in-Bad c = record {
  whole = c.self.invariant.whole;
  ordered = c.self.invariant.ordered;
  within = c.self.invariant.within;
  refused = λ failed.
      let exact = rw c.as_slice.ensures.value at c.in_ok-record.ensures.exact in
      let goes = rw c.as_slice.ensures.value at c.in_ok-record.ensures.goes_on in
      refused_of c.self.inside.place (take (c.self.inside.end - c.self.inside.start) (drop c.self.inside.start c.self.inside.buffer.items))
      c.in-Bad.reason c.in_ok-record.field-0 exact c.in-Bad.is goes;
}

pub returns-in-One-clause-after : goal.returns-in-One-clause-after
returns-in-One-clause-after c =
    let bytes = ap (λ (s : ReaderState). s.bytes) c.self.view_is in
    let exact = rw (c.as_slice.ensures.value, bytes, c.in-One.is) at c.in_ok-record.ensures.exact in
    rw (← exact) (one_after c.self.inside.buffer.items c.self.inside.start c.self.inside.end c.self.inside.place c.saturating_add-self-inside.result
    c.in-One.used c.self.inside.failed c.args.self.now c.in-One.record c.self.view_is c.saturating_add-self-inside.ensures)

pub returns-in-One-clause-stream : goal.returns-in-One-clause-stream
returns-in-One-clause-stream c =
    let bytes = ap (λ (s : ReaderState). s.bytes) c.self.view_is in
    let place = ap (λ (s : ReaderState). s.place) c.self.view_is in
    let goes = rw (c.as_slice.ensures.value, bytes, c.in-One.is) at c.in_ok-record.ensures.goes_on in
    rw place (one_read c.args.self.now _ c.in-One.record c.in-One.used goes
    (one_after c.self.inside.buffer.items c.self.inside.start c.self.inside.end c.self.inside.place c.saturating_add-self-inside.result
    c.in-One.used c.self.inside.failed c.args.self.now c.in-One.record c.self.view_is c.saturating_add-self-inside.ensures))

pub returns-in-Skipped-clause-after : goal.returns-in-Skipped-clause-after
returns-in-Skipped-clause-after c =
    let bytes = ap (λ (s : ReaderState). s.bytes) c.self.view_is in
    let exact = rw (c.as_slice.ensures.value, bytes, c.in-Skipped.is) at c.in_ok-record.ensures.exact in
    rw (← exact) (skipped_after c.self.inside.buffer.items c.self.inside.start c.self.inside.end c.self.inside.place c.saturating_add-self-inside-in-Skipped.result
    c.in-Skipped.used c.self.inside.failed c.args.self.now c.in-Skipped.type_byte c.self.view_is c.saturating_add-self-inside-in-Skipped.ensures)

pub returns-in-Skipped-clause-stream : goal.returns-in-Skipped-clause-stream
returns-in-Skipped-clause-stream c =
    let bytes = ap (λ (s : ReaderState). s.bytes) c.self.view_is in
    let place = ap (λ (s : ReaderState). s.place) c.self.view_is in
    let goes = rw (c.as_slice.ensures.value, bytes, c.in-Skipped.is) at c.in_ok-record.ensures.goes_on in
    rw place (skipped_read c.args.self.now _ c.in-Skipped.type_byte c.in-Skipped.used goes
    (skipped_after c.self.inside.buffer.items c.self.inside.start c.self.inside.end c.self.inside.place c.saturating_add-self-inside-in-Skipped.result
    c.in-Skipped.used c.self.inside.failed c.args.self.now c.in-Skipped.type_byte c.self.view_is c.saturating_add-self-inside-in-Skipped.ensures))

pub returns-in-More-clause-left : goal.returns-in-More-clause-left
returns-in-More-clause-left c =
    let bytes = ap (λ (s : ReaderState). s.bytes) c.self.view_is in
    let held = ap (λ (s : ReaderState). s.failed) c.self.view_is in
    let here = rw (c.as_slice.ensures.value, c.in-More.is) at c.in_ok-record.ensures.exact in
    let exact = rw (c.as_slice.ensures.value, bytes, c.in-More.is) at c.in_ok-record.ensures.exact in
    let goes = rw (c.as_slice.ensures.value, bytes, c.in-More.is) at c.in_ok-record.ensures.goes_on in
    let room = rw (c.as_slice.ensures.value, bytes, c.in-More.is) at c.in_ok-record.ensures.spelled in
    more_leaves c.args.self.now exact goes room
    (sym held ∙ not_failed c.self.inside.place (take (c.self.inside.end - c.self.inside.start) (drop c.self.inside.start c.self.inside.buffer.items))
    c.self.inside.failed c.self.invariant.refused here)

pub returns-in-Bad-clause-left : goal.returns-in-Bad-clause-left
returns-in-Bad-clause-left c =
    let exact = rw c.as_slice.ensures.value at c.in_ok-record.ensures.exact in
    let goes = rw c.as_slice.ensures.value at c.in_ok-record.ensures.goes_on in
    bad_leaves c.self.inside.place (take (c.self.inside.end - c.self.inside.start) (drop c.self.inside.start c.self.inside.buffer.items))
    c.in-Bad.reason c.in_ok-record.field-0 exact c.in-Bad.is goes
