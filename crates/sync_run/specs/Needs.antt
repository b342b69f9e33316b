-- What sessions need that are to run over links.
use Rattle.std.specs.Prelude.{◌≡◌, ℕ, ◌+◌, ◌<◌, ◌≤◌, true, List, length}
use Rattle.std.specs.List.{All}
use Rattle.sync_rules.specs.Facts.{Facts}
use Rattle.sync_rules.specs.Legal.{suits_nonce}
use Rattle.sync_rules.specs.declared.limits.TheConstants.{MAX_SESSIONS}
use Rattle.sync_words.specs.declared.link_words.LinkWords.{LinkWords}
use Rattle.sync_run.specs.declared.dialling.Dialled.{Dialled}

-- the contact of these words is known, where there are so many
abbrev pub IsKnown : ℕ → LinkWords → Type 0
IsKnown contacts words = words.contact < contacts

-- all contacts of these words are known, and a session for each may begin
pub record HasRoomFor (f : Facts) (words : List LinkWords) : Type 0 where
  pub known : All (IsKnown f.contacts) words
  pub few : f.begun + length words ≤ MAX_SESSIONS

-- a session may begin on a link that was dialled, where so many contacts are known
pub record MayBeginOn (contacts : ℕ) (d : Dialled) : Type 0 where
  pub known : d.plan.contact < contacts
  pub latency : 1 ≤ d.plan.latency
  pub suited : suits_nonce d.plan.mode d.nonce ≡ true

abbrev pub AllMayBegin : ℕ → List Dialled → Type 0
AllMayBegin contacts links = All (MayBeginOn contacts) links
