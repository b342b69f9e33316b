use Rattle.std.proofs.Common.{ℕ, ◌==◌, ◌≡◌}
use Rattle.std.specs.List.{slice_split}
use Rattle.std.specs.Option.{option_copied}
use Rattle.world_scripts.specs.Forms.{each_label}
use Rattle.world_scripts.proofs.LabelLists.{left_length, onto, parts_of}
use Rattle.world_scripts.proofs.steps.read_each.Given as goal

-- the labels that were read stand before those of what is left
abbrev pub invariant-loop-left : goal.invariant-loop-left
invariant-loop-left l =
    each_label (slice_split (λ (b : ℕ). b == 44) l.fn.word) ≡ onto l.labels.items
    (each_label (parts_of (option_copied l.left)))

abbrev pub decreases-loop-left : goal.decreases-loop-left
decreases-loop-left l = left_length (option_copied l.left)
