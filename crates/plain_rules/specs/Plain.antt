-- What a plain view keeps stands for its list of batches.
use Rattle.std.specs.Prelude.{◌≡◌, ◌<◌, ◌^◌, List, length}
use Rattle.sync_rules.specs.declared.entries.Entry.{Entry}
use Rattle.plain_rules.specs.declared.lines.HeldLine.{HeldLine}
use Rattle.plain_rules.specs.declared.wants.WantedLine.{WantedLine}
use Rattle.sync_rules.specs.Facts.{facts}
use Rattle.sync_rules.specs.Views.{KnowsShown}
use Rattle.plain_rules.specs.Lines.{lines_of}
use Rattle.plain_rules.specs.Wants.{WantsAre}

-- what a plain view keeps stands for the batches
pub record IsPlainView (j : List (List Entry)) (held : List HeldLine) (wanted : List WantedLine) : Type 0 where
  pub lines : held ≡ lines_of (facts j).held
  pub few_held : length held < 2 ^ 32
  pub wants : WantsAre (facts j) wanted
  pub few_wanted : length wanted < 2 ^ 32
  pub knows : KnowsShown (facts j)
