use Rattle.std.proofs.Common.{◌≡◌, ◌≤◌, ◌*◌, ◌++◌, drop}
use Rattle.arrayvec.specs.ArrayString.{array_string_len}
use Rattle.sync_words.specs.Outcomes.{ends_text}
use Rattle.sync_words.proofs.outcome.add_links.Given as goal

abbrev pub invariant-links : goal.invariant-links
invariant-links l = record {
  bytes : l.to.bytes ++ ends_text l.link l.over (drop l.link l.ends) ≡ ends_text 0 l.over l.ends;
  short : array_string_len l.to ≤ 120 * l.link;
}
