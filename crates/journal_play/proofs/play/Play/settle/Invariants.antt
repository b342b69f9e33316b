-- The steps so far are settling batches; each leaves less to judge and to end.
use Rattle.std.proofs.Common.{◌≡◌, ℕ, List}
use Rattle.sync_ids.specs.Values.{GroupValue}
use Rattle.sync_rules.specs.declared.entries.Entry.{Entry}
use Rattle.journal_play.specs.Playing.{StoryStandsFor, Story, shown_of}
use Rattle.journal_play.specs.Keeping.{IsFresh, ReachesShown}
use Rattle.journal_play.proofs.Work.{work}
use Rattle.journal_play.proofs.play.Play.settle.Given as goal

abbrev pub invariant-steps : goal.invariant-steps
invariant-steps g l =
    (story : Story) (def : GroupValue) (k : ℕ) (j : List (List Entry)) → shown_of story ≡ l.fn.self → IsFresh l.just story → StoryStandsFor (g.C.Clients.meaning l.clients) def k j story
    → ReachesShown (g.C.Clients.meaning l.clients) def k j story l.self

abbrev pub decreases-steps : goal.decreases-steps
decreases-steps g l = work l.self.nodes
