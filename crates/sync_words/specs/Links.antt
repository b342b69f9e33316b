-- The links that the words of a command name.
use Rattle.std.specs.Prelude.{ℕ, ◌≤◌, Bool, false, List, length}
use Rattle.std.specs.List.{All}
use Rattle.outside.specs.declared.limits.TheConstants.{LINKS}
use Rattle.sync_rules.specs.declared.entries.Mode.{Mode}
use Rattle.sync_rules.specs.declared.entries.Mode.TheVariants as mode
use Rattle.sync_words.specs.declared.link_words.LinkWords.{LinkWords}
use Rattle.sync_words.specs.Words.{is_dialled}

-- whether a session in this mode over a link of this spec has a nonce
abbrev pub wants_nonce : Mode → (spec : List ℕ) → Bool
wants_nonce mode.Interactive spec = is_dialled spec
wants_nonce mode.Batch spec = false

abbrev pub has_nonce : LinkWords → Bool
has_nonce link = wants_nonce link.mode link.spec

-- the parts of a link are within their limits
abbrev pub IsLink : LinkWords → Type 0
IsLink link = 1 ≤ link.latency

-- the links of a command
pub record AreLinks (links : List LinkWords) : Type 0 where
  pub some : 1 ≤ length links
  pub few : length links ≤ LINKS
  pub each : All IsLink links
