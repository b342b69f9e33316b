use Rattle.std.proofs.Common.{◌≡◌, List, ℕ, [], ◌∷◌, ◌++◌, length, sym, ap, subst, ◌∙◌}
use Rattle.entry_codec.specs.Laws.{IsEntryRead}
use Rattle.client_sharing.specs.Bodies.{whole_def}
use Rattle.client_sharing.proofs.Spelled.{found_def}
use Rattle.client_sharing.proofs.bodies.read_def.Goals as goal

pub returns : goal.returns
returns c =
    let bytes : List ℕ = c.args.bytes.now in
    let found = c.in_ok-found.found in
    let tag = c.in_ok-push.ensures.items ∙ ap (λ (l : List ℕ). l ++ 2 ∷ []) c.new-spelling.ensures.items in
    let items : c.as_slice.result.now ≡ 2 ∷ bytes =
    c.as_slice.ensures.value ∙ c.in_ok-extend_from_slice.ensures.items ∙ ap (λ (l : List ℕ). l ++ bytes) tag in
    let len : c.len.result ≡ length (2 ∷ bytes) = c.len.ensures ∙ sym c.as_slice.ensures.len ∙ ap length items in
    c.whole_def.ensures ∙ ap (λ (n : ℕ). whole_def n found) len
    ∙ found_def bytes found c.spellings_read_back.ensures (subst (λ (l : List ℕ). IsEntryRead l found) items c.in_ok-found.ensures)
