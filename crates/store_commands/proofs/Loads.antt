-- Files that a load left.
use Rattle.std.proofs.Common.{◌≡◌, ap, ◌∙◌, sym, Option, Some}
use Rattle.outside.specs.Disk.{RelatesTold}
use Rattle.outside.specs.Files.{File, SyncsBoth, Two, read_files}
use Rattle.outside.specs.Outside.{AnyImage, Outside}
use Rattle.outside.proofs.CallSteps.{becomes_told}
use Rattle.store_commands.specs.Show.{LeavesFilesSo}

pub reads_same : (old new : Option (Two File)) (two two' : Two File) → RelatesTold SyncsBoth old new
    → old ≡ Some two → new ≡ Some two' → read_files two' ≡ read_files two
reads_same old new two two' becomes told told' =
    let at = becomes_told SyncsBoth old new two told becomes in
    let same : two' ≡ at.0 = let it = sym told' ∙ at.1 in cc in
    ap read_files same ∙ ap read_files at.2

pub rests_settled : (old new : Outside) (two : Two File) → AnyImage old new
    → RelatesTold SyncsBoth old.files new.files → old.files ≡ Some two
    → LeavesFilesSo (λ two'. read_files two' ≡ read_files two) two old new
rests_settled old new two any becomes told =
    record {
      moments = any two told;
      kept = λ two' told'. reads_same old.files new.files two two' becomes told told';
    }

pub rests_failed : (old new : Outside) (two : Two File) → AnyImage old new → old.files ≡ Some two
    → LeavesFilesSo (λ two'. Unit {0}) two old new
rests_failed old new two any told = record { moments = any two told; kept = λ two' told'. tt }
