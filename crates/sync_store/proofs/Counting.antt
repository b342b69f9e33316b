-- How many frames wait.
use Rattle.std.proofs.Common.{◌≡◌, ℕ, zero, suc, ◌+◌, ◌≤◌, true, cond, List, [], ◌∷◌, ◌++◌, length}
use Rattle.std.proofs.Common.{take, drop, refl, sym, ap, subst, ◌∙◌, arith, append_assoc, length-append}
use Rattle.std.specs.Prelude.{All}
use Rattle.std.specs.Int.{w32, to_be_bytes, from_be_bytes}
use Rattle.std.specs.List.{flat_map}
use Rattle.std.proofs.lemmas.List.{drop_at, take_at}
use Rattle.std.proofs.lemmas.List.Elements.{All-head, All-tail}
use Rattle.std.proofs.lemmas.Nat.{from_be_bytes-to_be_bytes_4}
use Rattle.outside.specs.declared.limits.TheConstants.{MAX_FRAME}
use Rattle.outside.specs.Frames.{IsPayload, frame_of, size_at}
use Rattle.frame_journal.specs.Append.{payload_of}
use Rattle.frame_journal.specs.Group.{IsGroup, IsJoined}
use Rattle.sync_store.specs.Waiting.{frames_from, frames_in}

-- behind a frame
size_first : (p rest : List ℕ) → IsPayload p → size_at (frame_of p ++ rest) 0 ≡ length p
size_first p rest fits =
    let width = to_be_bytes w32 (length p) in
    ap (from_be_bytes w32) (ap (take 4) (append_assoc width p rest)
    ∙ take_at width (p ++ rest) 4 refl)
    ∙ from_be_bytes-to_be_bytes_4 (length p) (omega (arith, fits.1))

behind_first : (p rest : List ℕ) → IsPayload p
    → drop (5 + size_at (frame_of p ++ rest) 0) (frame_of p ++ rest) ≡ rest
behind_first p rest fits =
    let long : length (frame_of p) ≡ 5 + length p =
    omega (arith, length-append (to_be_bytes w32 (length p)) p) in
    ap (λ n. drop n (frame_of p ++ rest)) (ap (λ n. 5 + n) (size_first p rest fits) ∙ sym long)
    ∙ drop_at (frame_of p) rest (length (frame_of p)) refl

from_joined : (ps : List (List ℕ)) (bound : ℕ) → All IsPayload ps → length ps ≤ bound
    → frames_from bound (flat_map frame_of ps ++ 0 ∷ []) ≡ length ps
unfolding frames_from
from_joined [] zero fits few = refl
from_joined [] (suc bound) fits few = refl
from_joined (p ∷ ps) zero fits few = absurd (omega (arith, few))
from_joined (p ∷ ps) (suc bound) fits few =
    let rest = flat_map frame_of ps ++ 0 ∷ [] in
    let split : flat_map frame_of (p ∷ ps) ++ 0 ∷ [] ≡ frame_of p ++ rest =
    append_assoc (frame_of p) (flat_map frame_of ps) (0 ∷ []) in
    ap (λ (l : List ℕ). frames_from (suc bound) l) split
    ∙ ap (λ (l : List ℕ). suc (frames_from bound l)) (behind_first p rest
    (All-head IsPayload p ps fits))
    ∙ ap suc (from_joined ps bound (All-tail IsPayload p ps fits) (omega (arith, few)))

-- there are as many bytes as frames at least
few_frames : (ps : List (List ℕ)) → length ps ≤ length (flat_map frame_of ps)
few_frames [] = omega arith
few_frames (p ∷ ps) =
    omega (
      arith,
      few_frames ps,
      length-append (frame_of p) (flat_map frame_of ps),
      length-append (to_be_bytes w32 (length p)) p,
    )

pub frames_joined : (ps : List (List ℕ)) (bytes : List ℕ) → IsJoined ps bytes
    → frames_in bytes ≡ length ps
unfolding frames_in
frames_joined ps bytes joined =
    subst (λ (l : List ℕ). frames_from (length l) l ≡ length ps) (sym joined.spelled)
    (from_joined ps (length (flat_map frame_of ps ++ 0 ∷ [])) joined.fits
    (omega (arith, few_frames ps, length-append (flat_map frame_of ps) (0 ∷ []))))

pub frames_none : frames_in (0 ∷ []) ≡ 0
unfolding frames_in frames_from
frames_none = refl

-- one more
pub frames_more : (framed old new : List ℕ) → IsGroup old
    → ((waiting : List (List ℕ)) → IsJoined waiting old
    → IsJoined (waiting ++ payload_of framed ∷ []) new) → frames_in new ≡ frames_in old + 1
frames_more framed old new group joins =
    omega (
      arith,
      frames_joined group.payloads old group.joined,
      frames_joined (group.payloads ++ payload_of framed ∷ []) new
          (joins group.payloads group.joined),
      length-append group.payloads (payload_of framed ∷ []),
    )
