-- A gate opened, call by call.
use Rattle.std.proofs.Common.{◌≡◌, ℕ, ◌+◌, ◌-◌, ◌<◌, ◌≤◌, List, [], ◌∷◌, ◌++◌, length, take, drop, get_or, Some, Ok, Err, sym, ap, ◌∙◌, subst, arith, append_assoc, take-append-drop}
use Rattle.std.proofs.lemmas.List.{drop_more}
use Rattle.outside.specs.declared.failed.Failed.{Failed}
use Rattle.outside.specs.Files.{Two, File, IsFileImage, NothingPending, file_of, with_file, settled}
use Rattle.outside.specs.Disk.{RelatesTold, WritesFile, SyncsFile, after_write, overwritten}
use Rattle.outside.specs.Outside.{Outside, DiskCall}
use Rattle.outside.specs.Steps.{ReachedFile, PassedMoments}
use Rattle.outside.proofs.CallSteps.{begun, wrote_ok, wrote_err, synced_ok, synced_err}
use Rattle.outside.proofs.Calm.{settled_only}
use Rattle.frame_journal.specs.Gates.{KeepsAllBut}
use Rattle.frame_journal.proofs.Torn.{torn_byte}

passes_settled : (bytes c : List ℕ) (place : ℕ) → place < length bytes → IsFileImage (settled bytes) c → KeepsAllBut bytes place c
passes_settled bytes c place inside image =
    (get_or bytes place 0, settled_only bytes c image ∙ sym (take-append-drop place bytes) ∙ ap (λ l. take place bytes ++ l) (drop_more bytes place 0 inside))

passes_open : (bytes now c : List ℕ) (place : ℕ) → place < length bytes → IsFileImage (after_write (settled bytes) place 1 now) c → KeepsAllBut bytes place c
passes_open bytes now c place inside image = (get_or c place 0, torn_byte bytes place now c inside image)

passes_done : (bytes c : List ℕ) (place : ℕ) → IsFileImage (settled (overwritten bytes place (1 ∷ []))) c → KeepsAllBut bytes place c
passes_done bytes c place image = (1, settled_only (overwritten bytes place (1 ∷ [])) c image ∙ append_assoc (take place bytes) (1 ∷ []) (drop (place + 1) bytes))

module _ (two : Two File) (o0 : Outside) (file place : ℕ) (told : o0.files ≡ Some two) (pending : NothingPending two file) (inside : place < length (file_of two file).now) where
  abbrev bytes : List ℕ
  bytes = (file_of two file).now

  abbrev Q : List ℕ → Type 0
  Q = KeepsAllBut bytes place

  start : ReachedFile two o0 o0 file Q (settled bytes)
  start =
      subst (λ (f : File). ReachedFile two o0 o0 file Q f) pending
      (begun two o0 file Q told (λ c image. passes_settled bytes c place inside (subst (λ (f : File). IsFileImage f c) pending image)))

  pub open_ok : (o1 : Outside) (u : Unit {0}) → DiskCall o0 o1 → RelatesTold (WritesFile file place (1 ∷ []) (Ok u)) o0.files o1.files
      → ReachedFile two o0 o1 file Q (after_write (settled bytes) place 1 (overwritten bytes place (1 ∷ [])))
  open_ok o1 u call becomes = wrote_ok two o0 o0 o1 file Q (settled bytes) place (1 ∷ []) u start call becomes (λ now c image. passes_open bytes now c place inside image)

  pub open_err : (o1 : Outside) (e : Failed) → DiskCall o0 o1 → RelatesTold (WritesFile file place (1 ∷ []) (Err e)) o0.files o1.files → PassedMoments two o0 o1 file Q
  open_err o1 e call becomes =
      wrote_err two o0 o0 o1 file Q (settled bytes) place (1 ∷ []) e start call becomes (λ c image. passes_settled bytes c place inside image)
      (λ now c image. passes_open bytes now c place inside image)

  pub last_ok : (o1 o2 : Outside) (u : Unit {0}) → ReachedFile two o0 o1 file Q (after_write (settled bytes) place 1 (overwritten bytes place (1 ∷ []))) → DiskCall o1 o2
      → RelatesTold (SyncsFile file (Ok u)) o1.files o2.files → ReachedFile two o0 o2 file Q (settled (overwritten bytes place (1 ∷ [])))
  last_ok o1 o2 u run call becomes = synced_ok two o0 o1 o2 file Q _ u run call becomes (λ c image. passes_done bytes c place image)

  pub last_err : (o1 o2 : Outside) (e : Failed) → ReachedFile two o0 o1 file Q (after_write (settled bytes) place 1 (overwritten bytes place (1 ∷ []))) → DiskCall o1 o2
      → RelatesTold (SyncsFile file (Err e)) o1.files o2.files → PassedMoments two o0 o2 file Q
  last_err o1 o2 e run call becomes = synced_err two o0 o1 o2 file Q _ e run call becomes (λ c image. passes_open bytes _ c place inside image)

  pub opens : (o2 : Outside) → ReachedFile two o0 o2 file Q (settled (overwritten bytes place (1 ∷ []))) → (two' : Two File) → o2.files ≡ Some two'
      → two' ≡ with_file two file (settled (overwritten (file_of two file).now place (1 ∷ [])))
  opens o2 run two' had = cc

-- a gate stands in the file
pub gate_inside : (bytes : List ℕ) (end : ℕ) → 1 ≤ end → end ≤ length bytes → end - 1 < length bytes
gate_inside bytes end some within = omega arith
