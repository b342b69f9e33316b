-- The laws of the crates below that the proofs of this one rest on.
use Rattle.brief_account.specs.Laws.{BriefKeepsFacts}
use Rattle.sync_rules.specs.Allows.{AllowsIsAllowed}
use Rattle.entry_codec.specs.Laws.{AllowedNames, PayloadsFitFrames}
use Rattle.entry_codec.specs.StandingLaws.{AllowedAddOne, AllowedMayBeWritten, AllowedTakeOne}
use Rattle.entry_codec.specs.StandingLaws.{JournalsStand}

pub record StoreLaws : Type 0 where
  pub stand : JournalsStand
  pub fit : PayloadsFitFrames
  pub names : AllowedNames
  pub written : AllowedMayBeWritten
  pub add_one : AllowedAddOne
  pub take_one : AllowedTakeOne
  pub decided : AllowsIsAllowed
  pub keeps : BriefKeepsFacts
