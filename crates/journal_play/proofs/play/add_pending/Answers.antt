-- One more message: its line, or none.
use Rattle.std.proofs.Common.{◌++◌}
use Rattle.std.specs.String.{string_bytes}
use Rattle.journal_play.specs.Keeping.{open_text}
use Rattle.journal_play.proofs.Calls.{pending_more}
use Rattle.journal_play.proofs.play.add_pending.Goals as goal

pub loop-n-preserved : goal.loop-n-preserved
loop-n-preserved c =
    let held = c.args.held.now in
    pending_more (string_bytes c.args.text.now ++ open_text held.heads held.nodes) (string_bytes c.loop-n.text) (string_bytes c.add_if_open.new.text) held.heads held.nodes
    c.loop-n.n c.head.result c.fate.result c.head.ensures c.fate.ensures c.in_ok-add_if_open.ensures c.loop-n.invariant
