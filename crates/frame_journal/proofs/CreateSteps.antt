-- A journal begun in a cleared file: what stands behind its gate, and the gate.
use Rattle.std.proofs.Common.{◌≡◌, ◌≢◌, ℕ, ◌+◌, ◌<◌, ◌≤◌, false, eqb, ◌&&◌, List, [], ◌∷◌, ◌++◌, length, take, refl, sym, ap, ◌∙◌, subst, inl, inr, arith, append-nil}
use Rattle.std.specs.Prelude.{slice_index, nat_le}
use Rattle.std.specs.Int.{w64, to_be_bytes}
use Rattle.std.proofs.Math.Bool.{and-false}
use Rattle.std.proofs.lemmas.Bool.Decides.{eqb_tells}
use Rattle.std.proofs.lemmas.List.{drop_all, get_or-take}
use Rattle.outside.specs.Files.{Two, File, file_of, settled, NothingPending}
use Rattle.outside.specs.Disk.{overwritten}
use Rattle.outside.specs.Frames.{is_open, HasFrames}
use Rattle.outside.specs.Steps.{other_of}
use Rattle.outside.proofs.CallSteps.{file_of-with_file, other_of-with_file}
use Rattle.frame_journal.specs.Gates.{WritesBehind, KeepsFront}
use Rattle.frame_journal.specs.Create.{IsCleared, CreatesJournal, PreparesJournal, PublishesHeader, ShutOrBegun, ShutOrOpened, begun_bytes, behind_gate, opened}

-- a file whose first byte is not 1 has no open header
pub not_open : (bytes : List ℕ) → slice_index bytes 0 ≢ 1 → is_open bytes ≡ false
not_open bytes shut =
    let test : eqb (slice_index bytes 0) 1 ≡ false = elim (eqb_tells (slice_index bytes 0) 1) [ inl yes_it_is ↦ absurd (shut yes_it_is.1) | inr it_is_not ↦ it_is_not.0 ] in
    let first : (nat_le 14 (length bytes) && eqb (slice_index bytes 0) 1) ≡ false = ap (λ b. nat_le 14 (length bytes) && b) test ∙ and-false (nat_le 14 (length bytes)) in
    ap (λ b. b && eqb (slice_index bytes 1) 66 && eqb (slice_index bytes 2) 83 && eqb (slice_index bytes 3) 80 && eqb (slice_index bytes 4) 74) first

-- ---- what stands behind the gate

behind_gate-bytes : (gate format generation : ℕ) → overwritten (gate ∷ []) 1 (behind_gate format generation) ≡ gate ∷ behind_gate format generation
behind_gate-bytes gate format generation =
    ap (λ l. (gate ∷ behind_gate format generation) ++ l) (drop_all (1 + length (behind_gate format generation)) (gate ∷ []) (omega arith)) ∙ append-nil (gate ∷ behind_gate format generation)

first_of : (c : List ℕ) (gate : ℕ) → take 1 c ≡ gate ∷ [] → slice_index c 0 ≡ gate
first_of c gate front =
    let one : 0 < 1 = omega arith in
    sym (get_or-take 1 c 0 0 one) ∙ ap (λ l. slice_index l 0) front

begun_frames : (gate format generation : ℕ) → HasFrames (gate ∷ behind_gate format generation) (gate ∷ 66 ∷ 83 ∷ 80 ∷ 74 ∷ format ∷ to_be_bytes w64 generation) []
begun_frames gate format generation = record { gate = 0; rest = []; whole = refl; closed = λ e. absurd (omega arith); long = refl; payloads_fit = λ k d below. absurd (omega arith) }

-- what clearing leaves is what writing behind a gate asks
pub cleared_fits : (two : Two File) (file : ℕ) → IsCleared two file → (NothingPending two file) × (1 ≤ length (file_of two file).now)
cleared_fits two file cleared =
    (cleared.bytes ∙ ap (λ (f : File). settled f.now) (sym cleared.bytes), subst (λ (f : File). 1 ≤ length f.now) (sym cleared.bytes) (omega arith))

cleared_now : (two : Two File) (file : ℕ) (cleared : IsCleared two file) → (file_of two file).now ≡ cleared.gate ∷ []
cleared_now two file cleared = ap (λ (f : File). f.now) cleared.bytes

pub writes_prepares : (file format generation : ℕ) (two two' : Two File) → IsCleared two file → WritesBehind file 1 (behind_gate format generation) two two' → PreparesJournal file format generation two two'
writes_prepares file format generation two two' cleared written =
    let f = settled (overwritten (file_of two file).now 1 (behind_gate format generation)) in
    let this : file_of two' file ≡ settled (cleared.gate ∷ behind_gate format generation) =
    ap (λ (t : Two File). file_of t file) written ∙ file_of-with_file two file f
    ∙ ap (λ l. settled (overwritten l 1 (behind_gate format generation))) (cleared_now two file cleared)
    ∙ ap settled (behind_gate-bytes cleared.gate format generation) in
    let reads : cleared.gate ∷ behind_gate format generation ≡ (file_of two' file).now = ap (λ (g : File). g.now) (sym this) in
    let header = cleared.gate ∷ 66 ∷ 83 ∷ 80 ∷ 74 ∷ format ∷ to_be_bytes w64 generation in
    record {
      gate = cleared.gate;
      closed = cleared.closed;
      bytes = this;
      other = ap (λ (t : Two File). other_of t file) written ∙ other_of-with_file two file f;
      at_rest = record {
        settled = this ∙ ap settled reads;
        header = header;
        payloads = [];
        frames = subst (λ (l : List ℕ). HasFrames l header []) reads (begun_frames cleared.gate format generation);
        end_is = refl;
      };
      prepared = record {
        settled = this ∙ ap settled reads;
        gate = cleared.gate;
        marked = 66 ∷ 83 ∷ 80 ∷ 74 ∷ format ∷ to_be_bytes w64 generation;
        payloads = [];
        closed = cleared.closed;
        header = refl;
        frames = subst (λ (l : List ℕ). HasFrames l header []) reads (begun_frames cleared.gate format generation);
      };
    }

pub kept_shut : (two : Two File) (file : ℕ) → IsCleared two file → (c : List ℕ) → KeepsFront (file_of two file).now 1 c → is_open c ≡ false
kept_shut two file cleared c kept =
    let front : take 1 c ≡ cleared.gate ∷ [] = kept ∙ ap (take 1) (cleared_now two file cleared) in
    not_open c (λ e. cleared.closed (sym (first_of c cleared.gate front) ∙ e))

-- ---- a journal with no frame

opened_bytes : (gate format generation : ℕ) → opened (gate ∷ behind_gate format generation) ≡ begun_bytes format generation
opened_bytes gate format generation = refl

prepares_now : (file format generation : ℕ) (two two' : Two File) (p : PreparesJournal file format generation two two') → (file_of two' file).now ≡ p.gate ∷ behind_gate format generation
prepares_now file format generation two two' p = ap (λ (f : File). f.now) p.bytes

pub prepares_creates : (file format generation : ℕ) (x y z : Two File) → PreparesJournal file format generation x y → PublishesHeader file y z → CreatesJournal file format generation x z
prepares_creates file format generation x y z p published =
    let this : file_of z file ≡ settled (begun_bytes format generation) =
    published.bytes ∙ ap (λ l. settled (opened l)) (prepares_now file format generation x y p) ∙ ap settled (opened_bytes p.gate format generation) in
    record { bytes = this; other = published.other ∙ p.other; at_rest = published.at_rest 15 p.at_rest }

pub gate_begun : (file format generation : ℕ) (two two' : Two File) → PreparesJournal file format generation two two' → (c : List ℕ) → ShutOrOpened (file_of two' file).now c → ShutOrBegun format generation c
gate_begun file format generation two two' p c either =
    elim either [
      | inl shut ↦ inl shut
      | inr there ↦ inr (there ∙ ap opened (prepares_now file format generation two two' p) ∙ opened_bytes p.gate format generation)
    ]
