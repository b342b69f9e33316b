-- Bytes written behind a gate, call by call.
use Rattle.std.proofs.Common.{◌≡◌, ℕ, ◌+◌, ◌≤◌, List, ◌++◌, length, take, drop, Some, Ok, Err, sym, ap, ◌∙◌, subst, arith, append_assoc, length-take}
use Rattle.std.proofs.Math.Seq.{take-append_seam, drop-append_seam}
use Rattle.outside.specs.declared.failed.Failed.{Failed}
use Rattle.outside.specs.Files.{Two, File, IsFileImage, NothingPending, file_of, settled}
use Rattle.outside.specs.Disk.{RelatesTold, WritesFile, SyncsFile, after_write, overwritten}
use Rattle.outside.specs.MemLaws.{length-overwritten}
use Rattle.outside.specs.Outside.{Outside, DiskCall}
use Rattle.outside.specs.Steps.{ReachedFile, PassedMoments, other_of}
use Rattle.outside.proofs.CallSteps.{begun, wrote_ok, wrote_err, synced_ok, synced_err, file_of-with_file, other_of-with_file}
use Rattle.outside.proofs.Calm.{settled_only}
use Rattle.frame_journal.specs.Gates.{WritesBehind, KeepsFront}
use Rattle.frame_journal.proofs.Torn.{torn_front}

pub behind_front : (bytes : List ℕ) (end : ℕ) (framed : List ℕ) → end ≤ length bytes → take end (overwritten bytes end framed) ≡ take end bytes
behind_front bytes end framed within =
    let front = take end bytes in
    let long : length front ≡ end = omega (arith, length-take end bytes) in
    ap (λ n. take n (overwritten bytes end framed)) (sym long)
    ∙ ap (take (length front)) (append_assoc front framed (drop (end + length framed) bytes))
    ∙ take-append_seam front (framed ++ drop (end + length framed) bytes)

pub behind_rest : (bytes : List ℕ) (end : ℕ) (framed : List ℕ) → end ≤ length bytes → drop end (overwritten bytes end framed) ≡ framed ++ drop (end + length framed) bytes
behind_rest bytes end framed within =
    let front = take end bytes in
    let long : length front ≡ end = omega (arith, length-take end bytes) in
    ap (λ n. drop n (overwritten bytes end framed)) (sym long)
    ∙ ap (drop (length front)) (append_assoc front framed (drop (end + length framed) bytes))
    ∙ drop-append_seam front (framed ++ drop (end + length framed) bytes)

pub behind_long : (bytes : List ℕ) (end : ℕ) (framed : List ℕ) → end ≤ length bytes → end ≤ length (overwritten bytes end framed)
behind_long bytes end framed within = omega (arith, length-overwritten bytes end framed within)

passes_settled : (bytes c : List ℕ) (end : ℕ) → IsFileImage (settled bytes) c → KeepsFront bytes end c
passes_settled bytes c end image = ap (take end) (settled_only bytes c image)

passes_behind : (bytes c : List ℕ) (end : ℕ) (framed : List ℕ) → end ≤ length bytes → IsFileImage (settled (overwritten bytes end framed)) c → KeepsFront bytes end c
passes_behind bytes c end framed within image = ap (take end) (settled_only (overwritten bytes end framed) c image) ∙ behind_front bytes end framed within

module _ (two : Two File) (o0 : Outside) (file end : ℕ) (framed : List ℕ) (told : o0.files ≡ Some two) (pending : NothingPending two file) (within : end ≤ length (file_of two file).now) where
  abbrev bytes : List ℕ
  bytes = (file_of two file).now

  abbrev Q : List ℕ → Type 0
  Q = KeepsFront bytes end

  start : ReachedFile two o0 o0 file Q (settled bytes)
  start =
      subst (λ (f : File). ReachedFile two o0 o0 file Q f) pending
      (begun two o0 file Q told (λ c image. passes_settled bytes c end (subst (λ (f : File). IsFileImage f c) pending image)))

  pub write_ok : (o1 : Outside) (u : Unit {0}) → DiskCall o0 o1 → RelatesTold (WritesFile file end framed (Ok u)) o0.files o1.files
      → ReachedFile two o0 o1 file Q (after_write (settled bytes) end (length framed) (overwritten bytes end framed))
  write_ok o1 u call becomes = wrote_ok two o0 o0 o1 file Q (settled bytes) end framed u start call becomes (λ now c image. torn_front bytes end (length framed) now c within image)

  pub write_err : (o1 : Outside) (e : Failed) → DiskCall o0 o1 → RelatesTold (WritesFile file end framed (Err e)) o0.files o1.files → PassedMoments two o0 o1 file Q
  write_err o1 e call becomes =
      wrote_err two o0 o0 o1 file Q (settled bytes) end framed e start call becomes (λ c image. passes_settled bytes c end image)
      (λ now c image. torn_front bytes end (length framed) now c within image)

  pub sync_ok : (o1 o2 : Outside) (u : Unit {0}) → ReachedFile two o0 o1 file Q (after_write (settled bytes) end (length framed) (overwritten bytes end framed)) → DiskCall o1 o2
      → RelatesTold (SyncsFile file (Ok u)) o1.files o2.files → ReachedFile two o0 o2 file Q (settled (overwritten bytes end framed))
  sync_ok o1 o2 u run call becomes = synced_ok two o0 o1 o2 file Q _ u run call becomes (λ c image. passes_behind bytes c end framed within image)

  pub sync_err : (o1 o2 : Outside) (e : Failed) → ReachedFile two o0 o1 file Q (after_write (settled bytes) end (length framed) (overwritten bytes end framed)) → DiskCall o1 o2
      → RelatesTold (SyncsFile file (Err e)) o1.files o2.files → PassedMoments two o0 o2 file Q
  sync_err o1 o2 e run call becomes = synced_err two o0 o1 o2 file Q _ e run call becomes (λ c image. torn_front bytes end (length framed) _ c within image)

  pub writes : (o2 : Outside) → ReachedFile two o0 o2 file Q (settled (overwritten bytes end framed)) → (two' : Two File) → o2.files ≡ Some two' → WritesBehind file end framed two two'
  writes o2 run two' had = cc

-- what was written behind a gate lies behind it
pub behind_fits : (file end : ℕ) (framed : List ℕ) (two two' : Two File) → end ≤ length (file_of two file).now → WritesBehind file end framed two two'
    → (NothingPending two' file) × (end ≤ length (file_of two' file).now)
behind_fits file end framed two two' within written =
    let f = settled (overwritten (file_of two file).now end framed) in
    let this : file_of two' file ≡ f = ap (λ (t : Two File). file_of t file) written ∙ file_of-with_file two file f in
    (this ∙ ap (λ (g : File). settled g.now) (sym this), subst (λ (g : File). end ≤ length g.now) (sym this) (behind_long (file_of two file).now end framed within))

pub other_after : (file end : ℕ) (framed : List ℕ) (two two' : Two File) → WritesBehind file end framed two two' → other_of two' file ≡ other_of two file
other_after file end framed two two' written =
    ap (λ (t : Two File). other_of t file) written ∙ other_of-with_file two file (settled (overwritten (file_of two file).now end framed))
