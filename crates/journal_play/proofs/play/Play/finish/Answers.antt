-- The lines so far, and then those that are left.
use Rattle.std.proofs.Common.{◌++◌, ap, ◌∙◌}
use Rattle.std.specs.String.{string_bytes}
use Rattle.journal_play.specs.Playing.{Played}
use Rattle.journal_play.specs.Keeping.{open_text}
use Rattle.journal_play.proofs.Shown.{finishes_shown}
use Rattle.journal_play.proofs.play.Play.finish.Goals as goal

pub returns : goal.returns
returns c = λ clients def records played.
    finishes_shown clients def records c.args.self (string_bytes c.add_pending.new.text) played
    (c.in_ok-add_pending.ensures ∙ ap (λ (p : Played). p.text ++ open_text p.heads p.nodes) c.self.view_is)
