-- A journal written anew, as the store sees it.
use Rattle.std.proofs.Common.{◌≡◌, ℕ, true, false, List, [], ◌∷◌, ◌++◌, Option, Some, Result, Ok}
use Rattle.std.proofs.Common.{Err, refl, sym, ap, ◌∙◌, subst, append-nil, ◌+◌, arith}
use Rattle.std.specs.List.{AllByRecursion}
use Rattle.std.specs.Option.{ForSome}
use Rattle.outside.specs.Disk.{RelatesTold}
use Rattle.outside.specs.Files.{Two, File, file_of}
use Rattle.outside.specs.Frames.{HasFrames, format_in}
use Rattle.outside.specs.Links.{sent_of}
use Rattle.outside.specs.Outside.{DiskRun, MomentsAre, Outside}
use Rattle.outside.proofs.CallSteps.{becomes_told, moments_map, told_back}
use Rattle.frame_journal.specs.Group.{group_len}
use Rattle.frame_journal.specs.Journal.{JournalValue}
use Rattle.sync_rules.specs.declared.entries.Entry.{Entry}
use Rattle.sync_rules.specs.Clients.{Meaning}
use Rattle.sync_rules.specs.Facts.{facts, nothing}
use Rattle.entry_codec.specs.Naming.{format_of}
use Rattle.entry_codec.specs.Payloads.{journal_end, payloads}
use Rattle.entry_codec.specs.Spelling.{IsOfFormat}
use Rattle.entry_codec.proofs.FormatKinds.{short_journal}
use Rattle.entry_codec.specs.StandingLaws.{JournalsStand}
use Rattle.journal_state.specs.Whole.{StateValue}
use Rattle.journal_migration.specs.Migrating.{HoldsFirst, HoldsSecond, IsNextJournal, KeepsFile}
use Rattle.journal_migration.specs.Migrating.{MigratesJournal, StandsStill}
use Rattle.journal_migration.specs.Starting.{IsSettledBoth}
use Rattle.journal_migration.specs.declared.fault.MigrationFault.{MigrationFault}
use Rattle.journal_migration.specs.declared.fault.MigrationFault.TheVariants as migration
use Rattle.sync_store.specs.Fitting.{FitsFiles, FitsSome}
use Rattle.sync_store.specs.Migrations.{IsInOldFormat, MovesJournal}
use Rattle.sync_store.specs.Moments.{IsBetween, JournalMoment}
use Rattle.sync_store.specs.Runs.{LeadsBy}
use Rattle.sync_store.specs.Store.{IsStore, StoreValue, format_meant}
use Rattle.sync_store.specs.Store.{written_in}
use Rattle.sync_store.proofs.FitSteps.{IsSame, leads_none, true≢false}
use Rattle.sync_store.proofs.FormatLaws.{whole_is_one}

-- ---- no call of the disk

pub same_self : (s : StoreValue) → IsSame s s
same_self s = record {
  facts = refl;
  file = refl;
  format = refl;
  generation = refl;
  end = refl;
  waiting = refl;
}

between_none : (j : List (List Entry)) → IsBetween j [] j
between_none j = record { front = []; rest = []; parts = refl; is = sym (append-nil j) }

pub leads_still : JournalsStand → (clients : Meaning) (s : StoreValue) (o : Outside) → IsStore s
    → LeadsBy clients s s o o []
leads_still stand clients s o store two told j fits =
    leads_none stand clients (IsBetween j []) (λ whole. whole ≡ j ++ []) s s j two o fits
    store.roomy told (same_self s) (between_none j) (sym (append-nil j))

-- ---- before

-- the disk that fits a store in format 1 holds its journal so
pub holds_of : (clients : Meaning) (s : StoreValue) (j : List (List Entry)) (two : Two File)
    → IsInOldFormat s → FitsFiles clients s j two → HoldsFirst clients s.file s.generation j two
holds_of clients s j two old fits = record {
  first_settled = fits.first_settled;
  second_settled = fits.second_settled;
  found = fits.file_is;
  format_is = fits.format_is ∙ whole_is_one s.format (fits.format_known ∙ ap Some old.whole);
  generation_is = fits.generation_is;
  stands_for = fits.stands_for;
}

pub settled_both : (clients : Meaning) (s : StoreValue) (files : Option (Two File))
    → FitsSome clients s files → ForSome files IsSettledBoth
settled_both clients s files fits two told = let there =
    fits two told in record { first = there.1.first_settled; second = there.1.second_settled }

-- ---- after

-- the store with this state, and its journal there
abbrev pub moved_with : StoreValue → StateValue → JournalValue → StoreValue
moved_with s state n =
    record {
      state = state;
      file = n.file;
      format = n.format;
      generation = n.generation;
      end = n.end;
      waiting = 0 ∷ [];
      limit = s.limit;
      closed = s.closed;
    }

-- a store of which none waits, with this state and this journal
pub lies_at : (s : StoreValue) (state : StateValue) (n : JournalValue) (waiting : List ℕ)
    → waiting ≡ 0 ∷ []
    → record s {
      state = state;
      file = n.file;
      format = n.format;
      generation = n.generation;
      end = n.end + group_len waiting;
      waiting = waiting;
    } ≡ moved_with s state n
lies_at s state n waiting none =
    let at : n.end + group_len waiting ≡ n.end = omega (arith, ap group_len none) in
    ap (λ (e : ℕ). record s {
      state = state;
      file = n.file;
      format = n.format;
      generation = n.generation;
      end = e;
      waiting = waiting;
    }) at
    ∙ ap (λ (w : List ℕ). record s {
      state = state;
      file = n.file;
      format = n.format;
      generation = n.generation;
      end = n.end;
      waiting = w;
    }) none

-- the store with its journal there
abbrev pub moved_to : StoreValue → JournalValue → StoreValue
moved_to s n = moved_with s s.state n

pub moves_on : (s : StoreValue) (n : JournalValue) → IsInOldFormat s → s.closed ≡ false
    → IsNextJournal s.file s.generation s.end n → MovesJournal s (moved_to s n)
moves_on s n old still next = record {
  was = old;
  state = refl;
  file = next.file_is;
  format = next.format_is;
  generation = next.generation_is;
  end = next.no_longer;
  limit = refl;
  closed = still;
}

-- the disk fits the store with its journal there
pub fits_at : (clients : Meaning) (s : StoreValue) (state : StateValue) (n : JournalValue)
    (j : List (List Entry)) (two : Two File) → facts j ≡ state.facts → n.format ≡ 2
    → HoldsSecond clients n j two
    → FitsFiles clients (moved_with s state n) j two
fits_at clients s state n j two facts_are short holds = record {
  none_waits = refl;
  first_settled = holds.first_settled;
  second_settled = holds.second_settled;
  stands_for = holds.stands_for;
  facts_are = facts_are;
  legal = holds.legal;
  file_is = holds.found;
  format_is = holds.format_is ∙ sym short;
  format_known = subst (λ k. format_of k ≡ Some (format_meant k)) (sym short) refl;
  generation_is = holds.generation_is;
  header = holds.header;
  frames =
      subst (λ k. HasFrames (file_of two n.file).now holds.header
      (payloads (format_meant k) nothing j)) (sym short) holds.frames;
  end_is = holds.end_is ∙ ap (λ k. journal_end (format_meant k) j) (sym short);
  kinds =
      subst (λ k. AllByRecursion (AllByRecursion (IsOfFormat (format_meant k))) j) (sym short)
      (short_journal j);
  within = holds.within;
}

-- the disk still fits the store
fits_still : (clients : Meaning) (s : StoreValue) (j : List (List Entry)) (two two' : Two File)
    → FitsFiles clients s j two → HoldsFirst clients s.file s.generation j two'
    → file_of two' s.file ≡ file_of two s.file
    → FitsFiles clients s j two'
fits_still clients s j two two' fits holds same = record {
  none_waits = fits.none_waits;
  first_settled = holds.first_settled;
  second_settled = holds.second_settled;
  stands_for = holds.stands_for;
  facts_are = fits.facts_are;
  legal = fits.legal;
  file_is = holds.found;
  format_is = ap (λ (f : File). format_in f.now) same ∙ fits.format_is;
  format_known = fits.format_known;
  generation_is = holds.generation_is;
  header = fits.header;
  frames =
      subst (λ (f : File). HasFrames f.now fits.header (payloads (written_in s) nothing j))
      (sym same) fits.frames;
  end_is = fits.end_is;
  kinds = fits.kinds;
  within = fits.within;
}

-- ---- the moments

still_moments : (clients : Meaning) (j : List (List Entry)) (o o' : Outside) → MomentsAre o o'
    (StandsStill clients j (sent_of o.links.told))
    → MomentsAre o o' (JournalMoment clients (IsBetween j []) (sent_of o.links.told))
still_moments clients j o o' moments =
    moments_map o o' (StandsStill clients j (sent_of o.links.told))
    (JournalMoment clients (IsBetween j []) (sent_of o.links.told))
    (λ m still. record {
      whole = j;
      has = between_none j;
      stands_for = still.stands_for;
      nothing_sent = still.nothing_sent;
    }) moments

-- what is asked of a migration: this is what it gives, whatever journal the disk holds
abbrev pub Gives : Meaning → StoreValue → Result JournalValue MigrationFault → Outside → Outside
    → Type 0
Gives clients s result o o' =
    (j : List (List Entry)) (two : Two File) → o.files ≡ Some two → facts j ≡ s.state.facts
    → HoldsFirst clients s.file s.generation j two
    → MigratesJournal clients s.file s.generation j o o' result

pub leads_moved : (clients : Meaning) (s : StoreValue) (n : JournalValue) (o o' : Outside)
    → IsInOldFormat s → n.format ≡ 2 → Gives clients s (Ok n) o o'
    → LeadsBy clients s (moved_to s n) o o' []
leads_moved clients s n o o' old short gives two told j fits =
    let kept = gives j two told fits.facts_are (holds_of clients s j two old fits) in
    record {
      moments = still_moments clients j o o' kept.moments;
      ends = λ still two' told'. (
        j,
        sym (append-nil j),
        fits_at clients s s.state n j two' fits.facts_are short (kept.ends two' told'),
      );
    }

pub leads_memory : (clients : Meaning) (s : StoreValue) (o o' : Outside) → IsInOldFormat s
    → RelatesTold (KeepsFile s.file) o.files o'.files → Gives clients s (Err migration.Memory) o o'
    → LeadsBy clients s s o o' []
leads_memory clients s o o' old own gives two told j fits =
    let kept = gives j two told fits.facts_are (holds_of clients s j two old fits) in
    record {
      moments = still_moments clients j o o' kept.moments;
      ends = λ still two' told'.
          let there = becomes_told (KeepsFile s.file) o.files o'.files two told own in
          let both : Some there.0 ≡ Some two' = sym there.1 ∙ told' in
          let one : there.0 ≡ two' = cc in (
            j,
            sym (append-nil j),
            fits_still clients s j two two' fits (kept.ends two' told')
                (subst (λ (t : Two File). file_of t s.file ≡ file_of two s.file) one there.2),
          );
    }

pub leads_failed : (clients : Meaning) (s new : StoreValue) (o o' : Outside) → IsInOldFormat s
    → new.closed ≡ true → Gives clients s (Err migration.DiskFault) o o'
    → LeadsBy clients s new o o' []
leads_failed clients s new o o' old closed gives two told j fits =
    let kept = gives j two told fits.facts_are (holds_of clients s j two old fits) in
    record {
      moments = still_moments clients j o o' kept.moments;
      ends = λ still. true≢false new.closed closed still;
    }

-- where the disk fits a store at first, it fits the one that it leads to
pub leads_fits : (clients : Meaning) (s new : StoreValue) (o o' : Outside) → DiskRun o o'
    → LeadsBy clients s new o o' [] → FitsSome clients s o.files → new.closed ≡ false
    → FitsSome clients new o'.files
leads_fits clients s new o o' run leads fits still two' told' =
    let there = told_back o o' two' run.same_told told' in
    let begun = fits there.0 there.1 in
    let end = (leads there.0 there.1 begun.0 begun.1).ends still two' told' in
    (end.0, end.2)

-- the same of numbers that are the store's
pub gives_of : (clients : Meaning) (s : StoreValue) (result : Result JournalValue MigrationFault)
    (o o' : Outside) (file generation : ℕ) → file ≡ s.file → generation ≡ s.generation
    → ((j : List (List Entry)) (two : Two File) → o.files ≡ Some two → facts j ≡ s.state.facts
    → HoldsFirst clients file generation j two
    → MigratesJournal clients file generation j o o' result)
    → Gives clients s result o o'
gives_of clients s result o o' file generation one other given =
    let At : ℕ → ℕ → Type 0 =
    λ a b. (j : List (List Entry)) (two : Two File) → o.files ≡ Some two → facts j ≡ s.state.facts
    → HoldsFirst clients a b j two → MigratesJournal clients a b j o o' result in
    subst (λ (a : ℕ). At a s.generation) one (subst (λ (b : ℕ). At file b) other given)

pub next_of : (s : StoreValue) (n : JournalValue) (file generation end : ℕ) → file ≡ s.file
    → generation ≡ s.generation → end ≡ s.end → IsNextJournal file generation end n
    → IsNextJournal s.file s.generation s.end n
next_of s n file generation end one other last next =
    subst (λ (a : ℕ). IsNextJournal a s.generation s.end n) one
    (subst (λ (b : ℕ). IsNextJournal file b s.end n) other
    (subst (λ (c : ℕ). IsNextJournal file generation c n) last next))
