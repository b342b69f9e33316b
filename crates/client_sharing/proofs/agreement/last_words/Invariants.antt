-- What is found for each definition are the last words so far.
use Rattle.std.proofs.Common.{◌≡◌, take}
use Rattle.sync_ids.specs.Values.{GroupValue}
use Rattle.client_sharing.specs.Stances.{last_words, words_at}
use Rattle.client_sharing.proofs.agreement.last_words.Given as goal

abbrev pub invariant-said : goal.invariant-said
invariant-said l = (def : GroupValue) → words_at l.words.entries def ≡ last_words (take l.word-index l.said) def
