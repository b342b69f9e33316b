use Rattle.std.proofs.Common.{◌≡◌, ℕ, cond, Some, None, List, [], ◌∷◌, ◌++◌, length, length-append, sym, ap, subst, ◌∙◌, arith, rules}
use Rattle.std.specs.BTreeMap.{get}
use Rattle.std.specs.Ordering.{is_eq}
use Rattle.sync_rules.specs.Facts.{id_cmp}
use Rattle.sync_rules.specs.Views.{place_of}
use Rattle.journal_audit.specs.declared.messages.Line.{Line}
use Rattle.journal_audit.specs.Lines.{ArePlaces, Kept, held_in}
use Rattle.journal_audit.proofs.Places.{places_push}
use Rattle.journal_audit.proofs.messages.Messages.hold.Goals as goal

pub invariant_of-self-2 : goal.invariant_of-self-2
invariant_of-self-2 c =
    let lines = c.self.inside.lines.items in
    let items : c.push.new.self.items ≡ lines ++ c.args.line ∷ [] =
    rw c.unwrap.ensures at c.push.ensures.items ∙ ap (λ (ls : List Line). ls ++ c.args.line ∷ []) c.reserve.ensures.items in
    let long : c.len-2.result ≡ length lines = search rules in
    let new : place_of (held_in lines) c.args.line.id ≡ None = ap (λ (k : Kept). place_of (held_in k.lines) c.args.line.id) c.self.view_is ∙ c.requires in
    let places = places_push lines c.args.line c.self.inside.places c.insert.new.self c.self.invariant.0 new
    (λ q. c.in_ok-insert.ensures.updates.0 q ∙ ap (λ (n : ℕ). cond (is_eq (id_cmp c.args.line.id q)) (Some n) (get id_cmp c.self.inside.places q)) long) in (
      subst (λ (ls : List Line). ArePlaces (held_in ls) c.insert.new.self) (sym items) places,
      omega (arith, ap length items, length-append lines (c.args.line ∷ [])),
    )
