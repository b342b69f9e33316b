use Rattle.std.proofs.Common.{ℕ, List, ◌++◌, [], ◌∷◌, ap, ◌∙◌, append_assoc, arith}
use Rattle.std.specs.Prelude.{codes, decimal}
use Rattle.sync_words.proofs.error_lines.add_damaged.Goals as goal

pub returns : goal.returns
returns c =
    let old = c.args.to.now.bytes in
    let rest : List ℕ = decimal c.args.at ++ 10 ∷ [] in
    let first = rw c.from.ensures at c.add_number.ensures.bytes in
    record {
      bytes = c.add_number-2.ensures.bytes ∙ ap (λ (b : List ℕ). b ++ rest) first
          ∙ append_assoc old (codes "damaged: file " ++ (decimal c.args.file ++ codes " at ")) rest
          ∙ ap (λ (z : List ℕ). old ++ (codes "damaged: file " ++ z)) (append_assoc (decimal c.args.file) (codes " at ") rest);
      short = omega (arith, c.add_number.ensures.short, c.add_number-2.ensures.short);
    }
