use Rattle.std.proofs.Common.{◌≡◌, ◌+◌, true, false, sym, subst, ◌∙◌, arith}
use Rattle.std.specs.List.{list_any}
use Rattle.journal_state.specs.Bringing.{brings_one}
use Rattle.journal_state.proofs.Leaving.{left_told}
use Rattle.journal_state.proofs.state.State.left_with.Goals as goal

pub returns-then-brings_message : goal.returns-then-brings_message
returns-then-brings_message c =
    left_told c.args.self.now.facts c.show_sound.ensures.judged c.args.batch.now c.requires.allowed.0 c.requires.allowed.1 c.requires.kind c.requires.plain
    c.left-left.result c.left-left.ensures.count true
    (sym c.if-brings_message.true ∙ subst (λ es. c.brings_message.result ≡ list_any brings_one es) c.entries.ensures.value c.brings_message.ensures)

pub returns-else-brings_message : goal.returns-else-brings_message
returns-else-brings_message c =
    let told = left_told c.args.self.now.facts c.show_sound.ensures.judged c.args.batch.now c.requires.allowed.0 c.requires.allowed.1 c.requires.kind c.requires.plain
    c.left-left.result c.left-left.ensures.count false
    (sym c.if-brings_message.false ∙ subst (λ es. c.brings_message.result ≡ list_any brings_one es) c.entries.ensures.value c.brings_message.ensures) in
    let none : c.left-left.result ≡ c.left-left.result + 0 = omega arith in
    none ∙ told
