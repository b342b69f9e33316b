-- The targets so far, and those of the definitions that are first named behind them, are all; what is left to be found are the last words on these.
use Rattle.std.proofs.Common.{◌≡◌, ◌++◌, cond, drop, map, take, None}
use Rattle.sync_ids.specs.Values.{GroupValue}
use Rattle.client_sharing.specs.Stances.{last_words, words_at}
use Rattle.client_sharing.specs.Targets.{is_named, named_after, target_of, targets_of}
use Rattle.client_sharing.proofs.agreement.targets.Given as goal

abbrev pub invariant-said : goal.invariant-said
invariant-said l = record {
  left : (def : GroupValue) → words_at l.words.entries def ≡ cond (is_named (take l.i l.said) def) None (last_words l.said def);
  so_far : l.targets.items ++ map (target_of l.said) (named_after (take l.i l.said) (drop l.i l.said)) ≡ targets_of l.said;
}
