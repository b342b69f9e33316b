use Rattle.record_stream.proofs.Hearing.{hearing_item}
use Rattle.record_stream.proofs.listener.hear_piece.Goals as goal

pub items-preserved : goal.items-preserved
items-preserved g c =
    hearing_item g.L.Listener.heard c.args.piece.now c.items.left c.next_item.new.piece c.args.reader.now c.items.reader c.next_item.new.reader
    c.args.listener.now c.items.listener c.hear.new.self _ c.items.invariant (rw c.in-Some.is at c.in_ok-item.ensures.reads) c.in_ok-hear.ensures
