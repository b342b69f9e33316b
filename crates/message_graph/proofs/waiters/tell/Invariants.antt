use Rattle.std.proofs.Common.{◌≡◌, ℕ, List, length}
use Rattle.message_graph.specs.Links.{count_before, last_before}
use Rattle.message_graph.specs.Waits.{told_times, wait_at, group_in}
use Rattle.message_graph.proofs.Counts.{IsCursor, left, steps_left}
use Rattle.message_graph.proofs.waiters.tell.Given as goal

abbrev pub invariant-loop-cursor : goal.invariant-loop-cursor
invariant-loop-cursor l = record {
  many : length l.states.waits ≡ length l.nodes;
  room : l.states.room ≡ l.fn.states.room;
  cursor : (name : List ℕ) → l.fn.last ≡ last_before l.index.edges name (length l.index.edges) → IsCursor l.index.edges name l.cursor;
  waits : (name : List ℕ) → l.fn.last ≡ last_before l.index.edges name (length l.index.edges) → (number : ℕ)
      → told_times l.news (group_in l.nodes number) (left l.index.edges name number l.cursor) (wait_at l.states.waits number)
      ≡ told_times l.news (group_in l.nodes number) (count_before l.index.edges name number (length l.index.edges)) (wait_at l.fn.states.waits number);
}

abbrev pub decreases-loop-cursor : goal.decreases-loop-cursor
decreases-loop-cursor l = steps_left l.cursor
