-- A frame added.
use Rattle.std.proofs.Common.{◌≡◌, ◌≢◌, ℕ, ◌+◌, ◌-◌, ◌≤◌, List, [], ◌∷◌, ◌++◌, length, take, drop, Option, None, Some, is_some, refl, sym, ap, ◌∙◌, subst, inl, inr, arith, append_assoc, append-nil, length-append, take-append-drop}
use Rattle.std.specs.List.{flat_map}
use Rattle.std.specs.Int.{w32, to_be_bytes}
use Rattle.std.proofs.lemmas.Grind.{flat_map-append}
use Rattle.std.proofs.lemmas.Bool.{cases_eq}
use Rattle.std.proofs.lemmas.List.{take-take}
use Rattle.std.proofs.lemmas.List.Elements.{All-push}
use Rattle.std.proofs.Math.Seq.{take-append_seam}
use Rattle.outside.specs.Files.{Two, File, NothingPending, file_of, with_file, settled}
use Rattle.outside.specs.Disk.{RelatesTold, overwritten}
use Rattle.outside.specs.Frames.{IsPayload, HasFrames, IsAtRest, end_of, frame_of}
use Rattle.outside.specs.Outside.{Outside}
use Rattle.outside.specs.Links.{sent_of}
use Rattle.outside.specs.Steps.{FileMoment, PassedMoments, other_of}
use Rattle.outside.proofs.CallSteps.{moments_map, file_of-with_file, other_of-with_file, with_file-with_file}
use Rattle.frame_journal.specs.Append.{payload_of, IsFramed, appended, Gated, WritesAndOpensGate, AppendsFrame, BeforeOrWith}
use Rattle.frame_journal.specs.Gates.{WritesBehind, OpensGate, KeepsFront, KeepsAllBut}
use Rattle.frame_journal.proofs.BehindSteps.{behind_front, behind_rest}

-- ---- lists

-- the bytes of the frames and their header
abbrev pub front_of : List ℕ → List (List ℕ) → List ℕ
front_of header payloads = header ++ flat_map frame_of payloads

front_long : (bytes header : List ℕ) (payloads : List (List ℕ)) (end : ℕ) → HasFrames bytes header payloads → end ≡ end_of payloads → length (front_of header payloads) + 1 ≡ end
front_long bytes header payloads end frames is_end = omega (arith, length-append header (flat_map frame_of payloads), frames.long)

-- the frames lie within the file
pub end_within : (bytes header : List ℕ) (payloads : List (List ℕ)) (end : ℕ) → HasFrames bytes header payloads → end ≡ end_of payloads → end ≤ length bytes
end_within bytes header payloads end frames is_end =
    let long = front_long bytes header payloads end frames is_end in
    let whole = ap length frames.whole in
    omega (arith, whole, length-append (front_of header payloads) (frames.gate ∷ frames.rest))

-- the front up to the gate, and with the gate
pub front_is : (bytes header : List ℕ) (payloads : List (List ℕ)) (end : ℕ) → HasFrames bytes header payloads → end ≡ end_of payloads → take (end - 1) bytes ≡ front_of header payloads
front_is bytes header payloads end frames is_end =
    let long : end - 1 ≡ length (front_of header payloads) = omega (arith, front_long bytes header payloads end frames is_end) in
    ap (λ n. take n bytes) long ∙ ap (take (length (front_of header payloads))) frames.whole ∙ take-append_seam (front_of header payloads) (frames.gate ∷ frames.rest)

gate_front : (bytes header : List ℕ) (payloads : List (List ℕ)) (end : ℕ) (frames : HasFrames bytes header payloads) → end ≡ end_of payloads → take end bytes ≡ front_of header payloads ++ frames.gate ∷ []
gate_front bytes header payloads end frames is_end =
    let one : length (front_of header payloads ++ frames.gate ∷ []) ≡ end = omega (arith, front_long bytes header payloads end frames is_end, length-append (front_of header payloads) (frames.gate ∷ [])) in
    ap (λ n. take n bytes) (sym one)
    ∙ ap (take (length (front_of header payloads ++ frames.gate ∷ []))) (frames.whole ∙ sym (append_assoc (front_of header payloads) (frames.gate ∷ []) frames.rest))
    ∙ take-append_seam (front_of header payloads ++ frames.gate ∷ []) frames.rest

-- the same front with the gate has the same frames
pub frames_kept : (bytes left header : List ℕ) (payloads : List (List ℕ)) (end : ℕ) → HasFrames bytes header payloads → end ≡ end_of payloads → take end left ≡ take end bytes → HasFrames left header payloads
frames_kept bytes left header payloads end frames is_end same = record {
  gate = frames.gate;
  rest = drop end left;
  whole =
      sym (take-append-drop end left)
      ∙ ap (λ l. l ++ drop end left) (same ∙ gate_front bytes header payloads end frames is_end)
      ∙ append_assoc (front_of header payloads) (frames.gate ∷ []) (drop end left);
  closed = frames.closed;
  long = frames.long;
  payloads_fit = frames.payloads_fit;
}

-- a closed gate behind the same front has the same frames
pub frames_gated : (bytes left header : List ℕ) (payloads : List (List ℕ)) (end gate : ℕ) (rest : List ℕ) → HasFrames bytes header payloads → end ≡ end_of payloads → gate ≢ 1
    → left ≡ take (end - 1) bytes ++ gate ∷ rest → HasFrames left header payloads
frames_gated bytes left header payloads end gate rest frames is_end shut is_left = record {
  gate = gate;
  rest = rest;
  whole = is_left ∙ ap (λ l. l ++ gate ∷ rest) (front_is bytes header payloads end frames is_end);
  closed = shut;
  long = frames.long;
  payloads_fit = frames.payloads_fit;
}

-- an open gate, a frame's length and payload, and a closed gate, behind the same front
frames_more : (bytes left header : List ℕ) (payloads : List (List ℕ)) (end : ℕ) (framed rest : List ℕ) → HasFrames bytes header payloads → end ≡ end_of payloads → IsFramed framed
    → left ≡ take (end - 1) bytes ++ 1 ∷ (framed ++ rest) → HasFrames left header (payloads ++ payload_of framed ∷ [])
frames_more bytes left header payloads end framed rest frames is_end is_framed is_left =
    let p = payload_of framed in
    let head = to_be_bytes w32 (length p) in
    let body : 1 ∷ (framed ++ rest) ≡ frame_of p ++ 0 ∷ rest =
    ap (λ l. 1 ∷ (l ++ rest)) is_framed.spelled ∙ ap (λ l. 1 ∷ l) (append_assoc (head ++ p) (0 ∷ []) rest) in
    let all : flat_map frame_of (payloads ++ p ∷ []) ≡ flat_map frame_of payloads ++ frame_of p = flat_map-append frame_of payloads (p ∷ []) ∙ ap (λ l. flat_map frame_of payloads ++ l) (append-nil (frame_of p)) in
    record {
      gate = 0;
      rest = rest;
      whole =
          is_left
          ∙ ap (λ l. l ++ 1 ∷ (framed ++ rest)) (front_is bytes header payloads end frames is_end)
          ∙ ap (λ l. front_of header payloads ++ l) body
          ∙ sym (append_assoc (front_of header payloads) (frame_of p) (0 ∷ rest))
          ∙ ap (λ l. l ++ 0 ∷ rest) (append_assoc header (flat_map frame_of payloads) (frame_of p) ∙ ap (λ l. header ++ l) (sym all));
      closed = λ e. absurd (omega arith);
      long = frames.long;
      payloads_fit = All-push IsPayload payloads p frames.payloads_fit is_framed.fits;
    }

-- ---- what a crash may leave

-- one byte less of the front
front_less : (a b : List ℕ) (n : ℕ) → 1 ≤ n → take n a ≡ take n b → take (n - 1) a ≡ take (n - 1) b
front_less a b n some same =
    let less : n - 1 ≤ n = omega arith in
    sym (take-take (n - 1) n a less) ∙ ap (take (n - 1)) same ∙ take-take (n - 1) n b less

-- the bytes at the end
pub appended_is : (bytes : List ℕ) (end : ℕ) (framed : List ℕ) → 1 ≤ end → end ≤ length bytes → appended bytes end framed ≡ take (end - 1) bytes ++ 1 ∷ (framed ++ drop (end + length framed) bytes)
appended_is bytes end framed some within =
    let b = overwritten bytes end framed in
    let next : end - 1 + 1 ≡ end = omega arith in
    append_assoc (take (end - 1) b) (1 ∷ []) (drop (end - 1 + 1) b)
    ∙ ap (λ l. l ++ 1 ∷ drop (end - 1 + 1) b) (front_less b bytes end some (behind_front bytes end framed within))
    ∙ ap (λ l. take (end - 1) bytes ++ 1 ∷ l) (ap (λ n. drop n b) next ∙ behind_rest bytes end framed within)

pub appended_frames : (bytes : List ℕ) (end : ℕ) (framed header : List ℕ) (payloads : List (List ℕ)) → IsFramed framed → HasFrames bytes header payloads → end ≡ end_of payloads
    → HasFrames (appended bytes end framed) header (payloads ++ payload_of framed ∷ [])
appended_frames bytes end framed header payloads is_framed frames is_end =
    frames_more bytes (appended bytes end framed) header payloads end framed (drop (end + length framed) bytes) frames is_end is_framed
    (appended_is bytes end framed (omega arith) (end_within bytes header payloads end frames is_end))

-- what a crash may leave is before or with the frame
pub gated_frames : (bytes left : List ℕ) (end : ℕ) (framed : List ℕ) → IsFramed framed → Gated bytes end framed left → BeforeOrWith bytes end framed left
gated_frames bytes left end framed is_framed gated header payloads frames is_end =
    elim gated [
      | inl same ↦ inl (frames_kept bytes left header payloads end frames is_end same)
      | inr there ↦
          elim (cases_eq there.0 1) [
            | inl one ↦ inr (frames_more bytes left header payloads end framed (drop (end + length framed) bytes) frames is_end is_framed (there.1 ∙ ap (λ g. take (end - 1) bytes ++ g ∷ (framed ++ drop (end + length framed) bytes)) one))
            | inr other ↦ inl (frames_gated bytes left header payloads end there.0 (framed ++ drop (end + length framed) bytes) frames is_end other there.1)
          ]
    ]

-- the front stands as it was, or all but the gate stands
pub gated_behind : (bytes : List ℕ) (end : ℕ) (framed c : List ℕ) → KeepsFront bytes end c → Gated bytes end framed c
gated_behind bytes end framed c front = inl front

pub gated_open : (bytes : List ℕ) (end : ℕ) (framed c : List ℕ) → 1 ≤ end → end ≤ length bytes → KeepsAllBut (overwritten bytes end framed) (end - 1) c → Gated bytes end framed c
gated_open bytes end framed c some within kept =
    let b = overwritten bytes end framed in
    let next : end - 1 + 1 ≡ end = omega arith in
    let front = front_less b bytes end some (behind_front bytes end framed within) in
    inr (kept.0, kept.1 ∙ ap (λ l. l ++ kept.0 ∷ drop (end - 1 + 1) b) front ∙ ap (λ l. take (end - 1) bytes ++ kept.0 ∷ l) (ap (λ n. drop n b) next ∙ behind_rest bytes end framed within))

-- bytes behind the gate, and then the gate
pub opens_both : (file end : ℕ) (framed : List ℕ) (x y z : Two File) → WritesBehind file end framed x y → OpensGate file end y z → WritesAndOpensGate file end framed x z
opens_both file end framed x y z written opened =
    let f = settled (overwritten (file_of x file).now end framed) in
    let this : file_of y file ≡ f = ap (λ (t : Two File). file_of t file) written ∙ file_of-with_file x file f in
    let last = settled (appended (file_of x file).now end framed) in
    opened ∙ ap (λ (g : File). with_file y file (settled (overwritten g.now (end - 1) (1 ∷ [])))) this
    ∙ ap (λ (t : Two File). with_file t file last) written
    ∙ with_file-with_file x file f last

pub gated_after : (file end : ℕ) (framed : List ℕ) (x y : Two File) → 1 ≤ end → end ≤ length (file_of x file).now → WritesBehind file end framed x y → (c : List ℕ)
    → KeepsAllBut (file_of y file).now (end - 1) c → Gated (file_of x file).now end framed c
gated_after file end framed x y some within written c kept =
    let f = settled (overwritten (file_of x file).now end framed) in
    let this : file_of y file ≡ f = ap (λ (t : Two File). file_of t file) written ∙ file_of-with_file x file f in
    gated_open (file_of x file).now end framed c some within (subst (λ (g : File). KeepsAllBut g.now (end - 1) c) this kept)

-- the place behind the gate with one frame more
be_long : (n : ℕ) → length (to_be_bytes w32 n) ≡ 4
be_long n = refl

pub end_more : (payloads : List (List ℕ)) (end : ℕ) (framed : List ℕ) → IsFramed framed → end ≡ end_of payloads → end + length framed ≡ end_of (payloads ++ payload_of framed ∷ [])
end_more payloads end framed is_framed is_end =
    let p = payload_of framed in
    let head = to_be_bytes w32 (length p) in
    let long : length framed ≡ length (head ++ p ++ 0 ∷ []) = ap length is_framed.spelled in
    let all : length (flat_map frame_of (payloads ++ p ∷ [])) ≡ length (flat_map frame_of payloads ++ frame_of p) =
    ap length (flat_map-append frame_of payloads (p ∷ []) ∙ ap (λ l. flat_map frame_of payloads ++ l) (append-nil (frame_of p))) in
    omega (arith, is_end, long, all, be_long (length p), length-append (flat_map frame_of payloads) (frame_of p), length-append head p, length-append (head ++ p) (0 ∷ []))

-- told before and after, and so related
pub becomes_from : {A : Type 0} (step : A → A → Type 0) (old new : Option A) → is_some new ≡ is_some old → ((a b : A) → old ≡ Some a → new ≡ Some b → step a b) → RelatesTold step old new
becomes_from step None None same each = tt
becomes_from step None (Some b) same each = cc
becomes_from step (Some a) None same each = cc
becomes_from step (Some a) (Some b) same each = each a b refl refl

-- the files with a frame added
pub opens_appends : (file end : ℕ) (framed : List ℕ) (two two' : Two File) → IsFramed framed → IsAtRest two file end → WritesAndOpensGate file end framed two two' → AppendsFrame file end framed two two'
opens_appends file end framed two two' is_framed rest opened =
    let bytes = (file_of two file).now in
    let this : file_of two' file ≡ settled (appended bytes end framed) = ap (λ (t : Two File). file_of t file) opened ∙ file_of-with_file two file (settled (appended bytes end framed)) in
    let reads : appended bytes end framed ≡ (file_of two' file).now = ap (λ (f : File). f.now) (sym this) in
    let has = λ (header : List ℕ) (payloads : List (List ℕ)) (frames : HasFrames bytes header payloads) (is_end : end ≡ end_of payloads).
    subst (λ (l : List ℕ). HasFrames l header (payloads ++ payload_of framed ∷ [])) reads (appended_frames bytes end framed header payloads is_framed frames is_end) in
    record {
      bytes = this;
      other = ap (λ (t : Two File). other_of t file) opened ∙ other_of-with_file two file (settled (appended bytes end framed));
      frames = has;
      at_rest = record {
        settled = this ∙ ap settled reads;
        header = rest.header;
        payloads = rest.payloads ++ payload_of framed ∷ [];
        frames = has rest.header rest.payloads rest.frames rest.end_is;
        end_is = end_more rest.payloads end framed is_framed rest.end_is;
      };
    }

-- where frames end
pub rest_within : (two : Two File) (file end : ℕ) → IsAtRest two file end → (NothingPending two file) × (end ≤ length (file_of two file).now)
rest_within two file end rest = (rest.settled, end_within (file_of two file).now rest.header rest.payloads end rest.frames rest.end_is)

-- a step that follows from another
pub becomes_map : {A : Type 0} (step step' : A → A → Type 0) (old new : Option A) → ((a b : A) → old ≡ Some a → step a b → step' a b) → RelatesTold step old new → RelatesTold step' old new
becomes_map step step' None None each p = tt
becomes_map step step' None (Some b) each p = p
becomes_map step step' (Some a) None each p = p
becomes_map step step' (Some a) (Some b) each p = each a b refl p

-- a weaker word on the file in each moment
pub passed_map : (two : Two File) (o o' : Outside) (file : ℕ) (Q Q' : List ℕ → Type 0) → ((c : List ℕ) → Q c → Q' c) → PassedMoments two o o' file Q → PassedMoments two o o' file Q'
passed_map two o o' file Q Q' weaker run =
    moments_map o o' (FileMoment Q two (sent_of o.links.told) file) (FileMoment Q' two (sent_of o.links.told) file)
    (λ m p. record { this = weaker (file_of m.files file) p.this; other = p.other; nothing_sent = p.nothing_sent }) run
