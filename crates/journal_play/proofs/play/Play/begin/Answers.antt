-- Nothing is held at the beginning.
use Rattle.std.proofs.Common.{ap}
use Rattle.std.specs.String.{string_bytes}
use Rattle.journal_play.specs.Holding.{HeldHeads}
use Rattle.journal_play.proofs.Shown.{begins_shown}
use Rattle.journal_play.proofs.play.Play.begin.Goals as goal

pub returns : goal.returns
returns c = λ clients known.
    let held = c.in_ok-held.held in
    begins_shown clients c.args.def c.args.kind c.group_id-group.result held.heads held.nodes (string_bytes c.new-2.result) c.group_id-group.ensures
    (ap (λ (h : HeldHeads). h.heads) c.in_ok-held.ensures)
    (ap (λ (h : HeldHeads). h.nodes) c.in_ok-held.ensures) c.new-2.ensures.bytes known
