use Rattle.std.proofs.Common.{◌≡◌, ◌+◌, ◌-◌, suc, ℕ, [], ◌∷◌, ◌++◌, length, arith, rules, ap, ◌∙◌, length-append}
use Rattle.std.specs.Prelude.{Err}
use Rattle.entry_codec.specs.Answers.{ReadsList}
use Rattle.entry_codec.specs.Reading.{held_in, list_in, made}
use Rattle.entry_codec.proofs.ReadSteps.{list_done, list_more, list_stops}
use Rattle.entry_codec.proofs.values.read_list.Goals as goal

pub returns-in_err-read_held-clause-read : goal.returns-in_err-read_held-clause-read
returns-in_err-read_held-clause-read g c =
    let left : c.args.count - c.ids.i ≡ suc (c.args.count - (c.ids.i + 1)) = omega arith in
    let stops : ReadsList (list_in (held_in c.args.format (g.N.Names.named c.args.names.now)) c.args.count) c.args.front.now.rest.now (Err c.in_err-read_held.field-0.0) c.read_held.new.self.rest.now =
    list_stops (held_in c.args.format (g.N.Names.named c.args.names.now)) c.ids.ids.items c.args.count (c.args.count - c.ids.i) (c.args.count - (c.ids.i + 1)) c.ids.front.rest.now c.args.front.now.rest.now c.read_held.new.self.rest.now c.in_err-read_held.field-0.0 c.ids.invariant.read left c.in_err-read_held.ensures in
    search rules

pub ids-preserved : goal.ids-preserved
ids-preserved g c =
    let left : c.args.count - c.ids.i ≡ suc (c.args.count - (c.ids.i + 1)) = omega arith in
    let now : list_in (held_in c.args.format (g.N.Names.named c.args.names.now)) c.args.count c.args.front.now.rest.now ≡ made (λ more. (c.ids.ids.items ++ c.in_ok-read_held.field-0 ∷ []) ++ more) (list_in (held_in c.args.format (g.N.Names.named c.args.names.now)) (c.args.count - (c.ids.i + 1)) c.read_held.new.self.rest.now) =
    c.ids.invariant.read ∙ ap (λ (n : ℕ). made (λ more. c.ids.ids.items ++ more) (list_in (held_in c.args.format (g.N.Names.named c.args.names.now)) n c.ids.front.rest.now)) left
    ∙ list_more (held_in c.args.format (g.N.Names.named c.args.names.now)) c.ids.ids.items c.in_ok-read_held.field-0 (c.args.count - (c.ids.i + 1)) c.ids.front.rest.now c.read_held.new.self.rest.now c.in_ok-read_held.ensures in
    record { len = omega (arith, ap length c.in_ok-push.ensures.items, length-append c.ids.ids.items (c.in_ok-read_held.field-0 ∷ []), c.ids.invariant.len); read = rw (c.push.ensures.items, c.in_ok-push.was) now }

pub returns-clause-read : goal.returns-clause-read
returns-clause-read g c =
    let none : c.args.count - c.ids.i ≡ 0 = omega arith in
    c.ids.invariant.read ∙ ap (λ (n : ℕ). made (λ more. c.ids.ids.items ++ more) (list_in (held_in c.args.format (g.N.Names.named c.args.names.now)) n c.ids.front.rest.now)) none
    ∙ list_done (held_in c.args.format (g.N.Names.named c.args.names.now)) c.ids.ids.items c.ids.front.rest.now
