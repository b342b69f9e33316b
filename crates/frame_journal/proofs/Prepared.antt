-- The gate of a prepared file, and frames added before it is opened.
use Rattle.std.proofs.Common.{◌≡◌, ℕ, ◌+◌, ◌≤◌, nat_le, true, List, [], ◌∷◌, ◌++◌, length, take, drop, sym, ap, ◌∙◌, subst, inl, inr, arith, append_assoc, length-append}
use Rattle.std.specs.Prelude.{slice_index}
use Rattle.std.specs.List.{flat_map}
use Rattle.std.proofs.Math.ListN.{get_or-append}
use Rattle.std.proofs.lemmas.Bool.{cases_eq}
use Rattle.std.proofs.lemmas.Bool.Decides.{nat_tests}
use Rattle.outside.specs.Files.{Two, File, file_of, settled, NothingPending}
use Rattle.outside.specs.Disk.{overwritten}
use Rattle.outside.specs.Frames.{is_open, HasFrames, IsAtRest, frame_of}
use Rattle.outside.specs.Steps.{other_of}
use Rattle.outside.proofs.CallSteps.{file_of-with_file, other_of-with_file}
use Rattle.frame_journal.specs.Create.{IsPrepared, PublishesHeader, ShutOrOpened, opened}
use Rattle.frame_journal.specs.Gates.{OpensGate, KeepsAllBut}
use Rattle.frame_journal.proofs.CreateSteps.{not_open}

long_enough : (a : List ℕ) → 14 ≤ length a → nat_le 14 (length a) ≡ true
long_enough a long = grind (arith, nat_tests)

-- whether a header is open, its 14 bytes say
pub open_by_header : (header rest : List ℕ) → length header ≡ 14 → is_open (header ++ rest) ≡ is_open header
open_by_header header rest long =
    let e0 = get_or-append header rest 0 0 (omega arith) in
    let e1 = get_or-append header rest 0 1 (omega arith) in
    let e2 = get_or-append header rest 0 2 (omega arith) in
    let e3 = get_or-append header rest 0 3 (omega arith) in
    let e4 = get_or-append header rest 0 4 (omega arith) in
    let all : nat_le 14 (length (header ++ rest)) ≡ nat_le 14 (length header) =
    long_enough (header ++ rest) (omega (arith, length-append header rest)) ∙ sym (long_enough header (omega arith)) in
    cc

-- the same frames where the gate before them is opened
opened_frames : (bytes marked : List ℕ) (gate : ℕ) (payloads : List (List ℕ)) → HasFrames bytes (gate ∷ marked) payloads → HasFrames (opened bytes) (1 ∷ marked) payloads
opened_frames bytes marked gate payloads frames = record {
  gate = frames.gate;
  rest = frames.rest;
  whole = ap opened frames.whole;
  closed = frames.closed;
  long = frames.long;
  payloads_fit = frames.payloads_fit;
}

opened_is_open : (bytes marked : List ℕ) (payloads : List (List ℕ)) → HasFrames bytes (1 ∷ marked) payloads → is_open (1 ∷ marked) ≡ true → is_open bytes ≡ true
opened_is_open bytes marked payloads frames header =
    let rest = flat_map frame_of payloads ++ frames.gate ∷ frames.rest in
    let shape : bytes ≡ (1 ∷ marked) ++ rest = frames.whole ∙ append_assoc (1 ∷ marked) (flat_map frame_of payloads) (frames.gate ∷ frames.rest) in
    ap is_open shape ∙ open_by_header (1 ∷ marked) rest frames.long ∙ header

-- what was prepared is what opening its gate asks
pub prepared_fits : (file : ℕ) (two : Two File) → IsPrepared two file → (NothingPending two file) × (1 ≤ length (file_of two file).now)
prepared_fits file two p =
    let long = ap length p.frames.whole in
    (p.settled, omega (arith, long))

-- it is its gate and the rest
prepared_now : (file : ℕ) (two : Two File) (p : IsPrepared two file) → (file_of two file).now ≡ p.gate ∷ (p.marked ++ flat_map frame_of p.payloads ++ p.frames.gate ∷ p.frames.rest)
prepared_now file two p = p.frames.whole

pub opens_publishes : (file : ℕ) (two two' : Two File) → IsPrepared two file → OpensGate file 1 two two' → PublishesHeader file two two'
opens_publishes file two two' p opens =
    let f = settled (overwritten (file_of two file).now 0 (1 ∷ [])) in
    let now = prepared_now file two p in
    let this : file_of two' file ≡ settled (opened (file_of two file).now) =
    ap (λ (t : Two File). file_of t file) opens ∙ file_of-with_file two file f
    ∙ ap (λ l. settled (overwritten l 0 (1 ∷ []))) now
    ∙ ap (λ l. settled (opened l)) (sym now) in
    let reads : opened (file_of two file).now ≡ (file_of two' file).now = ap (λ (g : File). g.now) (sym this) in
    let frames = opened_frames (file_of two file).now p.marked p.gate p.payloads p.frames in
    record {
      bytes = this;
      other = ap (λ (t : Two File). other_of t file) opens ∙ other_of-with_file two file f;
      header = ap is_open (sym reads) ∙ opened_is_open (opened (file_of two file).now) p.marked p.payloads frames p.header;
      at_rest = λ end rest. rest_after file end two two' (this ∙ ap settled reads) reads rest;
    }
  where
    first_opened : (bytes header : List ℕ) (payloads : List (List ℕ)) → HasFrames bytes header payloads → HasFrames (opened bytes) (opened header) payloads
    first_opened bytes [] payloads frames = let none = frames.long in absurd (omega (arith, none))
    first_opened bytes (h ∷ header) payloads frames = opened_frames bytes header h payloads frames

    rest_after : (file end : ℕ) (two two' : Two File) → NothingPending two' file → opened (file_of two file).now ≡ (file_of two' file).now → IsAtRest two file end → IsAtRest two' file end
    rest_after file end two two' still reads rest = record {
      settled = still;
      header = opened rest.header;
      payloads = rest.payloads;
      frames =
          subst (λ (l : List ℕ). HasFrames l (opened rest.header) rest.payloads) reads
          (first_opened (file_of two file).now rest.header rest.payloads rest.frames);
      end_is = rest.end_is;
    }

pub gate_opened : (file : ℕ) (two : Two File) → IsPrepared two file → (c : List ℕ) → KeepsAllBut (file_of two file).now 0 c → ShutOrOpened (file_of two file).now c
gate_opened file two p c kept =
    let now = prepared_now file two p in
    let rest = p.marked ++ flat_map frame_of p.payloads ++ p.frames.gate ∷ p.frames.rest in
    let shape : c ≡ kept.0 ∷ rest = kept.1 ∙ ap (λ l. take 0 l ++ kept.0 ∷ drop (0 + 1) l) now in
    elim (cases_eq kept.0 1) [
      | inl one ↦ inr (shape ∙ ap (λ g. g ∷ rest) one ∙ ap opened (sym now))
      | inr other ↦ inl (not_open c (λ e. other (sym (ap (λ (l : List ℕ). slice_index l 0) shape) ∙ e)))
    ]
