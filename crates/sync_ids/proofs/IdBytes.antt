-- The bytes that an id is the digest of, put together from few pieces.
use Rattle.std.proofs.Common.{◌≡◌, ℕ, List, [], ◌∷◌, ◌++◌, length, sym, ap, ◌∙◌}
use Rattle.std.proofs.lemmas.List.{append_assoc, append-nil}
use Rattle.std.specs.Int.{w32, to_be_bytes}
use Rattle.bramble_hash.specs.Parts.{preimage}
use Rattle.sync_ids.specs.Ids.{block_label, format_version, message_label}

-- the label and the version of a body's hash, each behind its length
abbrev pub block_head : List ℕ
block_head = 0 ∷ 0 ∷ 0 ∷ 38 ∷ (block_label ++ (0 ∷ 0 ∷ 0 ∷ 1 ∷ 1 ∷ []))

-- the label and the version of a message's id, each behind its length, and the length of the group's id
abbrev pub message_head : List ℕ
message_head = 0 ∷ 0 ∷ 0 ∷ 35 ∷ (message_label ++ (0 ∷ 0 ∷ 0 ∷ 1 ∷ 1 ∷ 0 ∷ 0 ∷ 0 ∷ 32 ∷ []))

-- the parts of a body's hash, piece by piece
pub body_pieces : (body : List ℕ) → (block_head ++ to_be_bytes w32 (length body)) ++ body ≡ preimage (block_label ∷ format_version ∷ body ∷ [])
body_pieces body = ap (λ (x : List ℕ). (block_head ++ to_be_bytes w32 (length body)) ++ x) (sym (append-nil body))

nested : (g a t b h : List ℕ) → (((g ++ a) ++ t) ++ b) ++ h ≡ g ++ (a ++ (t ++ (b ++ (h ++ []))))
nested g a t b h =
    rw append-nil (append_assoc ((g ++ a) ++ t) b h ∙ append_assoc (g ++ a) t (b ++ h) ∙ append_assoc g a (t ++ (b ++ h)))

-- the parts of a message's id, piece by piece
pub message_pieces : (group time hash : List ℕ) → length group ≡ 32 → length time ≡ 8 → length hash ≡ 32
    → ((((message_head ++ group) ++ (0 ∷ 0 ∷ 0 ∷ 8 ∷ [])) ++ time) ++ (0 ∷ 0 ∷ 0 ∷ 32 ∷ [])) ++ hash
    ≡ preimage (message_label ∷ format_version ∷ group ∷ time ∷ hash ∷ [])
message_pieces group time hash eg et eh =
    rw (eg, et, eh) (ap (λ (x : List ℕ). message_head ++ x) (nested group (0 ∷ 0 ∷ 0 ∷ 8 ∷ []) time (0 ∷ 0 ∷ 0 ∷ 32 ∷ []) hash))
