-- The laws of the crates below that the proofs of this one rest on.
use Rattle.sync_rules.specs.Allows.{AllowsIsAllowed}
use Rattle.entry_codec.specs.StandingLaws.{JournalsStand, LegalHasNames}

pub record MigrationLaws : Type 0 where
  pub stand : JournalsStand
  pub names : LegalHasNames
  pub decided : AllowsIsAllowed
