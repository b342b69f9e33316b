use Rattle.std.proofs.Common.{◌≡◌, length}
use Rattle.std.specs.List.{All}
use Rattle.sync_words.specs.Links.{IsLink}
use Rattle.sync_words.specs.Words.{texts}
use Rattle.stay_words.proofs.StayLemmas.{AsksSo}
use Rattle.stay_words.proofs.links.read_links.Given as goal

abbrev pub invariant-loop-number : goal.invariant-loop-number
invariant-loop-number l = record {
  count : length l.links.items ≡ l.number;
  each : All IsLink l.links.items;
  asks : AsksSo (texts l.words) l.links.items l.number;
}
