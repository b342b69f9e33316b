-- What a step makes of the parts.
use Rattle.std.specs.Prelude.{ℕ, Bool, [], ◌∷◌, ◌++◌, slice_set}
use Rattle.message_graph.specs.declared.nodes.Judged.{Judged}
use Rattle.message_graph.specs.declared.nodes.Ending.TheVariants as ending
use Rattle.message_graph.specs.Nodes as nodes
use Rattle.retry_table.specs.Table as retry
use Rattle.journal_state.specs.Parts.{Parts}

-- the message of a number is judged
abbrev pub judged_parts : Parts → ℕ → Judged → Bool → Parts
judged_parts p n answer share = record p { nodes = nodes.with_answer n answer p.nodes; shares = slice_set p.shares n share }

-- the message of a number is invalid
abbrev pub invalid_parts : Parts → ℕ → Parts
invalid_parts p n = record p { nodes = nodes.with_ending n ending.Invalid p.nodes }

-- the message of a number is delivered, and the table of what is due is this one
abbrev pub delivered_parts : Parts → ℕ → retry.Table → Parts
delivered_parts p n table = record p { nodes = nodes.with_ending n ending.Delivered p.nodes; delivered = p.delivered ++ n ∷ []; retry = table }
