-- The pieces are the definition's parts.
use Rattle.std.proofs.Common.{◌≡◌, ℕ, List, [], ◌++◌, length, take, refl, sym, ap, ◌∙◌, arith}
use Rattle.std.proofs.lemmas.List.{take_all}
use Rattle.std.specs.Int.{w32, to_be_bytes}
use Rattle.bramble_hash.specs.Blake2b.{blake2b}
use Rattle.bramble_hash.specs.Parts.{hash}
use Rattle.sync_ids.specs.Ids.{block_hash_of}
use Rattle.sync_ids.proofs.IdBytes.{block_head, body_pieces}
use Rattle.sync_ids.proofs.ids.block_hash.Goals as goal

pub returns-clause-value : goal.returns-clause-value
unfolding block_hash_of hash
returns-clause-value c =
    let body : List ℕ = c.args.body.now in
    let label : take 47 c.put.new.block ≡ block_head = c.put.ensures.front [] refl in
    let front : take 51 c.put-2.new.block ≡ block_head ++ to_be_bytes w32 (length body) =
    rw c.to_be_bytes.ensures at (c.put-2.ensures.front block_head label) in
    let len : length c.put-2.new.block ≡ 51 = omega (arith, c.put.ensures.len, c.put-2.ensures.len) in
    let head : c.put-2.new.block ≡ block_head ++ to_be_bytes w32 (length body) = sym (take_all 51 c.put-2.new.block (omega arith)) ∙ front in
    let all = c.finalize.ensures [] _ (c.update-2.ensures.holds [] _ (c.update.ensures.holds [] [] c.new-hasher.ensures.holds)) in
    all ∙ ap (λ (x : List ℕ). blake2b 32 [] (x ++ body)) head ∙ ap (blake2b 32 []) (body_pieces body)
