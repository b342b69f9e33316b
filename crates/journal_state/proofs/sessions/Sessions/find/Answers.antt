use Rattle.std.proofs.Common.{◌≡◌, ◌-◌, ◌≤◌, ◌<◌, length, refl, sym, ap, ◌∙◌, arith, rules}
use Rattle.std.proofs.lemmas.Option.{slice_get_read, slice_get_past}
use Rattle.sync_rules.specs.Facts.{session_at}
use Rattle.journal_state.specs.Begun.{Begun}
use Rattle.journal_state.proofs.Numbers.{numbered_at, numbered_before}
use Rattle.journal_state.proofs.sessions.Sessions.find.Goals as goal

pub returns-then-number-self : goal.returns-then-number-self
returns-then-number-self c =
    let ss = c.self.inside.sessions.items in
    numbered_before c.self.inside.first c.args.number ss (search rules) c.self.invariant.0 ∙ ap (λ (b : Begun). session_at b.sessions c.args.number) c.self.view_is

pub returns-then-place-len : goal.returns-then-place-len
returns-then-place-len c =
    let ss = c.self.inside.sessions.items in
    let first = c.self.inside.first in
    let from : first ≤ c.args.number = search rules in
    let count : c.len.result ≡ length ss = search rules in
    let within : c.args.number - first < length ss = omega (arith, count, c.if-place-len.true) in
    sym (slice_get_read ss (length ss) (c.args.number - first) c.index.result.now refl within c.index.ensures)
    ∙ (numbered_at first c.args.number ss from c.self.invariant.0 ∙ ap (λ (b : Begun). session_at b.sessions c.args.number) c.self.view_is)

pub returns-else-place-len : goal.returns-else-place-len
returns-else-place-len c =
    let ss = c.self.inside.sessions.items in
    let first = c.self.inside.first in
    let from : first ≤ c.args.number = search rules in
    let past : length ss ≤ c.args.number - first = search rules in
    sym (slice_get_past ss (c.args.number - first) past) ∙ (numbered_at first c.args.number ss from c.self.invariant.0 ∙ ap (λ (b : Begun). session_at b.sessions c.args.number) c.self.view_is)
