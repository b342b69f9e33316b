use Rattle.std.proofs.Common.{◌≡◌, ◌+◌, ◌<◌, List, [], ◌∷◌, ◌++◌, map, take, get_or, length, sym, ap, ◌∙◌, rules}
use Rattle.std.proofs.lemmas.List.{map-append, take_more}
use Rattle.sync_rules.specs.Facts.{Held}
use Rattle.journal_state.specs.Whole.{id_at}
use Rattle.journal_state.proofs.Listed.{id_shown}
use Rattle.journal_state.proofs.state.State.ids.Goals as goal

pub loop-number-preserved : goal.loop-number-preserved
loop-number-preserved c =
    let held : List Held = c.args.self.now.facts.held in
    let xs = c.args.numbers.now in
    let i = c.loop-number.number-index in
    let within : i < length xs = search rules in
    let last : map (id_at held) (take (i + 1) xs) ≡ map (id_at held) (take i xs) ++ id_at held (get_or xs i 0) ∷ [] =
    ap (map (id_at held)) (take_more xs i 0 within) ∙ map-append (id_at held) (take i xs) (get_or xs i 0 ∷ []) in
    let id : c.id_at.result ≡ id_at held (get_or xs i 0) = sym (id_shown held (get_or xs i 0) c.id_at.result c.id_at.ensures) in
    c.in_ok-push.ensures.items ∙ ((λ k. c.loop-number.invariant k ++ id k ∷ []) ∙ sym last)
