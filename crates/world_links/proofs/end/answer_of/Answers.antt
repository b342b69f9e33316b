use Rattle.std.proofs.Common.{sym, ◌∙◌}
use Rattle.world_links.proofs.EndLaws.{answer_piece}
use Rattle.world_links.proofs.end.answer_of.Goals as goal

pub returns : goal.returns
returns c = answer_piece c.args.is_cut c.args.input.now c.in_ok-piece.piece.items (sym c.is_empty.ensures ∙ c.if-is_empty.false) (c.in_ok-piece.ensures.items ∙ c.front.ensures)
