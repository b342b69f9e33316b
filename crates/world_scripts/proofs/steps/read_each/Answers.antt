use Rattle.std.proofs.Common.{ℕ, ◌==◌, ◌≡◌, ◌∙◌, ap, sym, Some}
use Rattle.std.specs.List.{slice_split}
use Rattle.std.specs.Option.{option_copied}
use Rattle.world_scripts.specs.Forms.{each_label}
use Rattle.world_scripts.proofs.LabelLists.{no_label, no_more, one_more, onto, parts_of}
use Rattle.world_scripts.proofs.steps.read_each.Goals as goal

pub returns-in_default-number : goal.returns-in_default-number
returns-in_default-number c =
    let all = each_label (slice_split (λ (b : ℕ). b == 44) c.args.word.now) in
    let at : all ≡ onto c.loop-left.labels.items (each_label (parts_of (Some c.in-Some.text.now))) =
    c.loop-left.invariant ∙ ap (λ l. onto c.loop-left.labels.items
    (each_label (parts_of (option_copied l)))) c.in-Some.is in
    no_label all c.loop-left.labels.items c.in-Some.text.now c.cut.result.0.now at
    c.cut.ensures.front
    (sym c.in_default-number.ensures.read)

pub loop-left-preserved : goal.loop-left-preserved
loop-left-preserved c =
    let all = each_label (slice_split (λ (b : ℕ). b == 44) c.args.word.now) in
    let at : all ≡ onto c.loop-left.labels.items (each_label (parts_of (Some c.in-Some.text.now))) =
    c.loop-left.invariant ∙ ap (λ l. onto c.loop-left.labels.items
    (each_label (parts_of (option_copied l)))) c.in-Some.is in
    one_more all c.loop-left.labels.items c.in-Some.text.now c.cut.result.0.now
    (option_copied c.cut.result.1)
    c.in-Some-number.label at c.cut.ensures.front c.cut.ensures.behind
    (sym c.in-Some-number.ensures.read)
    ∙ ap (λ l. onto l (each_label (parts_of (option_copied c.cut.result.1))))
    (sym c.in_ok-push.ensures.items)

pub returns : goal.returns
returns c =
    no_more (each_label (slice_split (λ (b : ℕ). b == 44) c.args.word.now)) c.loop-left.labels.items
    (option_copied c.loop-left.left)
    c.loop-left.invariant (ap option_copied c.in_default.is)
    ∙ ap (λ l. Some l) (sym c.new.ensures)
