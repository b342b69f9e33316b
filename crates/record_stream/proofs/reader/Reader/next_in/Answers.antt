use Rattle.std.proofs.Common.{◌≤◌, [], length}
use Rattle.record_stream.proofs.Hearing.{fed_counted, fed_few, read_fed}
use Rattle.record_stream.proofs.reader.Reader.next_in.Goals as goal

pub feeds-preserved : goal.feeds-preserved
feeds-preserved c =
    let answer = rw c.in-More.is at c.in_ok-place.ensures.left in
    let taken = rw (answer.0, c.left-in-More.ensures) at c.feed-count.ensures.taken in
    let count = rw c.left-in-More.ensures at c.feed-count.ensures.count in
    let few : c.feed-count.result ≤ length c.feeds.piece = fed_few _ c.feed-count.result (length c.feeds.piece) _ count in
    rw c.pass.ensures (record {
      reads = read_fed c.args.piece.now c.feeds.piece c.feed-count.result c.args.self.now c.feeds.self c.feed-count.new.self [] c.feeds.invariant.reads taken;
      counted = let kept = fed_counted c.feeds.piece c.feed-count.result c.feeds.self c.feed-count.new.self taken few in rw kept c.feeds.invariant.counted;
    })
