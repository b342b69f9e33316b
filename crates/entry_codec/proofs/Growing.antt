-- Laws for callers: journals that grow.
use Rattle.std.specs.Prelude.{◌≡◌, ℕ, ◌+◌, List, [], ◌∷◌, ◌++◌, length}
use Rattle.std.specs.Int.{w32, to_be_bytes}
use Rattle.std.specs.List.{AllByRecursion, flat_map}
use Rattle.std.proofs.Common.{refl, sym, ap, ◌∙◌, arith, length-append}
use Rattle.std.proofs.lemmas.List.{append-nil}
use Rattle.std.proofs.lemmas.List.Concat.{flat_map-append}
use Rattle.sync_rules.specs.declared.entries.Entry.{Entry}
use Rattle.sync_rules.specs.Clients.{Meaning}
use Rattle.sync_rules.proofs.Continuing.{facts-append}
use Rattle.sync_rules.specs.Facts.{Facts, after_all, after_batches, facts, nothing}
use Rattle.sync_rules.specs.Legal.{AllSettling}
use Rattle.outside.specs.Frames.{frame_of}
use Rattle.entry_codec.specs.declared.naming.Format.{Format}
use Rattle.entry_codec.specs.Payloads.{journal_end, names_of, payload, payload_len, payloads}
use Rattle.entry_codec.proofs.LawProofs.{batch_len_same}

pub all_push : {A : Type 0} (P : A → Type 0) (xs : List A) (x : A) → AllByRecursion P xs → P x → AllByRecursion P (xs ++ x ∷ [])
all_push P [] x all p = (p, tt)
all_push P (y ∷ ys) x all p = (all.0, all_push P ys x all.1 p)

-- ---- facts

pub facts_push : (done : List (List Entry)) (batch : List Entry) → facts (done ++ batch ∷ []) ≡ after_all (facts done) batch
facts_push done batch = facts-append done (batch ∷ [])

-- ---- settling

-- settling, and then settling further
pub settling-append : (clients : Meaning) (f : Facts) (first more : List (List Entry)) → AllSettling clients f first
    → AllSettling clients (after_batches f first) more → AllSettling clients f (first ++ more)
settling-append clients f [] more settles further = further
settling-append clients f (b ∷ bs) more settles further = (settles.0, settling-append clients (after_all f b) bs more settles.1 further)

-- ---- payloads

pub payloads_push : (format : Format) (f : Facts) (done : List (List Entry)) (batch : List Entry)
    → payloads format f (done ++ batch ∷ []) ≡ payloads format f done ++ payload format (after_batches f done) batch ∷ []
payloads_push format f [] batch = refl
payloads_push format f (b ∷ bs) batch = ap (λ (ps : List (List ℕ)). payload format f b ∷ ps) (payloads_push format (after_all f b) bs batch)

pub length_frame : (to : List ℕ) → length (frame_of to) ≡ 5 + length to
length_frame to = omega (arith, length-append (to_be_bytes w32 (length to)) to)

pub frames_push : (format : Format) (done : List (List Entry)) (batch : List Entry) (to : List ℕ) → to ≡ payload format (facts done) batch
    → flat_map frame_of (payloads format nothing (done ++ batch ∷ [])) ≡ flat_map frame_of (payloads format nothing done) ++ frame_of to
frames_push format done batch to is =
    ap (flat_map frame_of) (payloads_push format nothing done batch)
    ∙ flat_map-append frame_of (payloads format nothing done) (payload format (facts done) batch ∷ [])
    ∙ ap (λ (l : List ℕ). flat_map frame_of (payloads format nothing done) ++ l) (append-nil (frame_of (payload format (facts done) batch)) ∙ ap frame_of (sym is))

-- the end of the frames with a batch more
pub journal_end_push : (format : Format) (done : List (List Entry)) (batch : List Entry)
    → journal_end format (done ++ batch ∷ []) ≡ journal_end format done + (5 + payload_len format batch)
journal_end_push format done batch =
    let p = payload format (facts done) batch in
    omega (
      arith,
      ap length (frames_push format done batch p refl),
      length-append (flat_map frame_of (payloads format nothing done)) (frame_of p),
      length_frame p,
      batch_len_same format (names_of (facts done)) batch,
    )
