-- The laws of the crates below that the proofs of this one rest on.
use Rattle.brief_account.specs.Laws.{BriefIsByFacts, BriefKeepsFacts}
use Rattle.entry_codec.specs.Laws.{AllowedNames}
use Rattle.entry_codec.specs.StandingLaws.{JournalsStand}

pub record CompactionLaws : Type 0 where
  pub stand : JournalsStand
  pub names : AllowedNames
  pub keeps : BriefKeepsFacts
  pub by_facts : BriefIsByFacts
