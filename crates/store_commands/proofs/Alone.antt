-- The file that a journal was in before it was written anew stands for it alone.
use Rattle.std.proofs.Common.{◌≡◌, ℕ, ◌-◌, ◌<◌, Bool, true, false, cond, List, None, Some, sym, ap}
use Rattle.std.proofs.Common.{◌∙◌, subst, arith}
use Rattle.std.specs.Prelude.{◌&&◌, nat_lt}
use Rattle.outside.specs.Disk.{RelatesTold}
use Rattle.outside.specs.Files.{Two, File, file_of, read_files}
use Rattle.outside.specs.Frames.{generation_in, is_open, journal_file}
use Rattle.outside.specs.Outside.{Outside}
use Rattle.outside.proofs.CallSteps.{becomes_told}
use Rattle.sync_rules.specs.declared.entries.Entry.{Entry}
use Rattle.sync_rules.specs.Clients.{Meaning}
use Rattle.entry_codec.proofs.FrontLaws.{found_open}
use Rattle.journal_migration.specs.Migrating.{KeepsFile}
use Rattle.journal_migration.proofs.Sides.{one_open, read_file, stands_own}
use Rattle.sync_store.specs.Fitting.{FitsFiles}
use Rattle.sync_store.specs.Store.{StoreValue}
use Rattle.store_commands.specs.Compact.{StandsAlone}

-- a journal is in one of two files
few_of : (a b c : Bool) (n : ℕ) → cond a (cond b (Some 1) (Some 0)) (cond c (Some 1) None) ≡ Some n
    → n < 2
few_of true true c n is = let one : 1 ≡ n = cc in omega (arith, one)
few_of true false c n is = let none : 0 ≡ n = cc in omega (arith, none)
few_of false b true n is = let one : 1 ≡ n = cc in omega (arith, one)
few_of false b false n is = cc

journal_few : (m : Two (List ℕ)) (n : ℕ) → journal_file m ≡ Some n → n < 2
journal_few m n is =
    few_of (is_open m.first) (is_open m.second
    && nat_lt (generation_in m.first) (generation_in m.second)) (is_open m.second) n is

pub stands_alone : (clients : Meaning) (s1 s2 : StoreValue) (j : List (List Entry))
    (two1 two2 : Two File) (o1 o2 : Outside) → o1.files ≡ Some two1 → o2.files ≡ Some two2
    → FitsFiles clients s1 j two1 → RelatesTold (KeepsFile s1.file) o1.files o2.files
    → s2.file ≡ 1 - s1.file → StandsAlone clients (1 - s2.file) two2 j
stands_alone clients s1 s2 j two1 two2 o1 o2 files1 files2 fits own moved left this shut =
    let few : s1.file < 2 = journal_few (read_files two1) s1.file fits.file_is in
    let back : 1 - s2.file ≡ s1.file = omega (arith, few, moved) in
    let new = becomes_told (KeepsFile s1.file) o1.files o2.files two1 files1 own in
    let both : Some new.0 ≡ Some two2 = sym new.1 ∙ files2 in
    let one : new.0 ≡ two2 = cc in
    let kept : file_of two2 s1.file ≡ file_of two1 s1.file =
    subst (λ (t : Two File). file_of t s1.file ≡ file_of two1 s1.file) one new.2 in
    let here : file_of left s1.file ≡ (file_of two2 s1.file).now =
    subst (λ (k : ℕ). file_of left k ≡ (file_of two2 k).now) back this in
    let other : is_open (file_of left (1 - s1.file)) ≡ false =
    subst (λ (k : ℕ). is_open (file_of left (1 - k)) ≡ false) back shut in
    let same : file_of left s1.file ≡ file_of (read_files two1) s1.file = here
    ∙ ap (λ (f : File). f.now) kept ∙ sym (read_file two1 s1.file) in
    let open_own : is_open (file_of left s1.file) ≡ true = ap is_open same
    ∙ found_open (read_files two1) s1.file fits.file_is in
    stands_own clients left (read_files two1) s1.file (one_open left s1.file few open_own other)
    fits.file_is same ∙ fits.stands_for
