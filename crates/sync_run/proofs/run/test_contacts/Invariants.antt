use Rattle.std.proofs.Common.{◌≡◌, ℕ, ◌<◌, drop, slice_index_or}
use Rattle.sync_words.specs.declared.link_words.LinkWords.{LinkWords}
use Rattle.sync_run.specs.Courses.{is_unknown}
use Rattle.sync_run.specs.Needs.{IsKnown}
use Rattle.sync_run.proofs.run.test_contacts.Given as goal

abbrev pub invariant-links : goal.invariant-links
invariant-links l = record {
  known : (k : ℕ) (d : LinkWords) → k < l.words-index → IsKnown l.contacts (slice_index_or l.links k d);
  tested : is_unknown l.store.state.facts (drop l.words-index l.links) ≡ is_unknown l.store.state.facts l.links;
}
