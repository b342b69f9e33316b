-- With the lines that are left the text is the whole.
use Rattle.std.proofs.Common.{◌≡◌, ◌++◌, drop}
use Rattle.std.specs.String.{string_bytes}
use Rattle.journal_play.specs.Keeping.{open_text}
use Rattle.journal_play.proofs.play.add_pending.Given as goal

abbrev pub invariant-loop-n : goal.invariant-loop-n
invariant-loop-n l =
    string_bytes l.text ++ open_text (drop l.n l.held.heads) (drop l.n l.held.nodes)
    ≡ string_bytes l.fn.text ++ open_text l.held.heads l.held.nodes
