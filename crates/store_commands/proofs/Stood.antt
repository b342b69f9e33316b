-- The format and the generation of files that fit a store.
use Rattle.std.proofs.Common.{◌≡◌, ℕ, zero, suc, ◌+◌, ◌-◌, ◌^◌, ◌≤◌, List, refl, sym, ap, ◌∙◌, subst}
use Rattle.std.proofs.Common.{arith}
use Rattle.std.specs.Prelude.{Some}
use Rattle.outside.specs.Files.{Two, File, file_of, read_files}
use Rattle.outside.specs.Frames.{format_in, generation_in}
use Rattle.sync_rules.specs.declared.entries.Entry.{Entry}
use Rattle.sync_rules.specs.Clients.{Meaning}
use Rattle.entry_codec.specs.declared.naming.Format.{Format}
use Rattle.entry_codec.specs.declared.naming.Format.TheVariants as kind
use Rattle.entry_codec.specs.Naming.{format_of}
use Rattle.sync_store.specs.Fitting.{FitsFiles}
use Rattle.sync_store.specs.Migrations.{IsSpent}
use Rattle.sync_store.specs.Store.{StoreValue, written_in}
use Rattle.store_commands.specs.Commit.{HasLastGeneration, IsInFormat, IsMoved, StandsSynced}
use Rattle.store_commands.specs.Commit.{moved_file, next_file, next_generation, short_generation}
use Rattle.store_commands.specs.Compact.{LacksGeneration}

file_reads : (two : Two File) (file : ℕ) → file_of (read_files two) file ≡ (file_of two file).now
file_reads two zero = refl
file_reads two (suc _) = refl

-- the format of files that fit a store is that which the store is written in
pub fits_known : (clients : Meaning) (s : StoreValue) (j : List (List Entry)) (two : Two File)
    → FitsFiles clients s j two → format_of (format_in (file_of (read_files two) s.file))
    ≡ Some (written_in s)
fits_known clients s j two fits =
    ap format_of (ap format_in (file_reads two s.file) ∙ fits.format_is) ∙ fits.format_known

fits_format : (clients : Meaning) (s : StoreValue) (j : List (List Entry)) (two : Two File)
    (format : Format) → FitsFiles clients s j two → written_in s ≡ format
    → IsInFormat format (read_files two)
fits_format clients s j two format fits is =
    record {
      file = s.file;
      found = fits.file_is;
      is = fits_known clients s j two fits ∙ ap Some is;
    }

-- files that fit a store in format 2 stand so for its journal
pub fits_synced : (clients : Meaning) (s : StoreValue) (j : List (List Entry)) (two : Two File)
    → FitsFiles clients s j two → written_in s ≡ kind.Short → StandsSynced clients two j
fits_synced clients s j two fits short = record {
  short = fits_format clients s j two kind.Short fits short;
  stands_for = fits.stands_for;
  first_settled = fits.first_settled;
  second_settled = fits.second_settled;
}

-- no generation is left for a store exactly where none is for its files
pub last_here : (clients : Meaning) (s : StoreValue) (j : List (List Entry)) (two : Two File)
    → FitsFiles clients s j two → IsSpent s → HasLastGeneration (read_files two)
last_here clients s j two fits spent = record {
  whole = record {
    file = s.file;
    found = fits.file_is;
    is = fits_known clients s j two fits ∙ ap Some spent.whole;
  };
  last = ap generation_in (file_reads two s.file) ∙ fits.generation_is ∙ spent.last;
}

pub spent_here : (clients : Meaning) (s : StoreValue) (j : List (List Entry)) (two : Two File)
    → FitsFiles clients s j two → HasLastGeneration (read_files two) → IsSpent s
spent_here clients s j two fits last =
    let both : Some last.whole.file ≡ Some s.file = sym last.whole.found ∙ fits.file_is in
    let same : last.whole.file ≡ s.file = cc in
    let whole : Some (written_in s) ≡ Some kind.Whole =
    sym (fits_known clients s j two fits)
    ∙ ap (λ k. format_of (format_in (file_of (read_files two) k))) (sym same) ∙ last.whole.is in
    let generation : s.generation ≡ _ =
    sym fits.generation_is ∙ ap generation_in (sym (file_reads two s.file))
    ∙ ap (λ k. generation_in (file_of (read_files two) k)) (sym same) ∙ last.last in
    record { whole = cc; last = generation }

-- ---- a brief account

fits_generation : (clients : Meaning) (s : StoreValue) (j : List (List Entry)) (two : Two File)
    → FitsFiles clients s j two → generation_in (file_of (read_files two) s.file) ≡ s.generation
fits_generation clients s j two fits = ap generation_in (file_reads two s.file) ∙ fits.generation_is

-- no generation is left for the brief account of files that fit a store exactly where none is for
-- the store's
pub lacks_here : (clients : Meaning) (s : StoreValue) (j : List (List Entry)) (two : Two File)
    → FitsFiles clients s j two → 2 ^ 64 - 1 ≤ next_generation s → LacksGeneration (read_files two)
lacks_here clients s j two fits last = record {
  format = written_in s;
  known = record { file = s.file; found = fits.file_is; is = fits_known clients s j two fits };
  last =
      subst (λ (n : ℕ). 2 ^ 64 - 1 ≤ short_generation (written_in s) n)
      (sym (fits_generation clients s j two fits)) last;
}

pub lacked_here : (clients : Meaning) (s : StoreValue) (j : List (List Entry)) (two : Two File)
    → FitsFiles clients s j two → LacksGeneration (read_files two) → 2 ^ 64 - 1 ≤ next_generation s
lacked_here clients s j two fits lacks =
    let both : Some lacks.known.file ≡ Some s.file = sym lacks.known.found ∙ fits.file_is in
    let same : lacks.known.file ≡ s.file = cc in
    let formats : Some lacks.format ≡ Some (written_in s) =
    sym lacks.known.is ∙ ap (λ (k : ℕ). format_of (format_in (file_of (read_files two) k))) same
    ∙ fits_known clients s j two fits in
    let format : lacks.format ≡ written_in s = cc in
    let generation : generation_in (file_of (read_files two) lacks.known.file) ≡ s.generation =
    ap (λ (k : ℕ). generation_in (file_of (read_files two) k)) same
    ∙ fits_generation clients s j two fits in
    subst (λ (n : ℕ). 2 ^ 64 - 1 ≤ short_generation (written_in s) n) generation
    (subst (λ (f : Format).
    2 ^ 64 - 1 ≤ short_generation f (generation_in (file_of (read_files two) lacks.known.file)))
    format lacks.last)

-- a journal of format 1 with the last generation lacks one
pub last_lacks : (files : Two (List ℕ)) → HasLastGeneration files → LacksGeneration files
last_lacks files has =
    record { format = kind.Whole; known = has.whole; last = omega (arith, has.last) }

-- ---- where the journal is

-- files that fit two stores, of which the one came from the other
pub moved_here : (clients : Meaning) (s s2 : StoreValue) (j j2 : List (List Entry))
    (two two2 : Two File) (times : ℕ) → FitsFiles clients s j two → FitsFiles clients s2 j2 two2
    → written_in s2 ≡ kind.Short → s2.file ≡ moved_file times (next_file s)
    → s2.generation ≡ next_generation s + times → IsMoved times (read_files two) two2
moved_here clients s s2 j j2 two two2 times fits fits2 short file generation = record {
  format = written_in s;
  known = record { file = s.file; found = fits.file_is; is = fits_known clients s j two fits };
  now = record {
    file = s2.file;
    found = fits2.file_is;
    is = fits_known clients s2 j2 two2 fits2 ∙ ap Some short;
  };
  file_is = file;
  generation_is =
      fits_generation clients s2 j2 two2 fits2 ∙ generation
      ∙ ap (λ (n : ℕ). short_generation (written_in s) n + times)
      (sym (fits_generation clients s j two fits));
}
