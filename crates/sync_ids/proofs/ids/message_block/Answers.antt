use Rattle.std.proofs.Common.{◌≡◌, ℕ, List, [], ◌++◌, length, take, refl, sym, ◌∙◌, arith}
use Rattle.std.proofs.lemmas.List.{take_all}
use Rattle.std.specs.Int.{w64, to_be_bytes}
use Rattle.sync_ids.proofs.IdBytes.{message_head, message_pieces}
use Rattle.sync_ids.proofs.ids.message_block.Goals as goal

pub returns : goal.returns
returns c =
    let group : List ℕ = c.args.group.now in
    let hash : List ℕ = c.args.body_hash.now in
    let group_len : length group ≡ 32 = rw c.as_bytes.ensures.value at c.as_bytes.ensures.len in
    let hash_len : length hash ≡ 32 = c.told-body_hash in
    let head : take 48 c.put.new.block ≡ message_head = c.put.ensures.front [] refl in
    let with_group : take 80 c.put-2.new.block ≡ message_head ++ group =
    rw (c.as_bytes.ensures.value, group_len) at (c.put-2.ensures.front message_head head) in
    let with_length = c.put-3.ensures.front (message_head ++ group) with_group in
    let with_time = rw c.to_be_bytes.ensures at (c.put-4.ensures.front _ with_length) in
    let with_lengths = c.put-5.ensures.front _ with_time in
    let all = rw hash_len at (c.put-6.ensures.front _ with_lengths) in
    let len : length c.put-6.new.block ≡ 128 =
    omega (arith, c.put.ensures.len, c.put-2.ensures.len, c.put-3.ensures.len, c.put-4.ensures.len, c.put-5.ensures.len, c.put-6.ensures.len) in
    sym (take_all 128 c.put-6.new.block (omega arith)) ∙ all ∙ message_pieces group (to_be_bytes w64 c.args.timestamp) hash group_len refl hash_len
