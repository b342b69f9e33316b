-- A journal replaced by its brief account, as the store sees it.
use Rattle.std.proofs.Common.{◌≡◌, ℕ, ◌+◌, ◌-◌, ◌^◌, ◌<◌, ◌≤◌, Bool, true, false, cond, List, Some}
use Rattle.std.proofs.Common.{Result, Ok, Err, refl, sym, ap, ◌∙◌, subst, inl, inr, arith}
use Rattle.std.specs.Prelude.{◌==◌}
use Rattle.std.proofs.lemmas.Bool.{eqb-true}
use Rattle.outside.specs.Files.{Two, File, file_of}
use Rattle.outside.specs.Frames.{HasFrames}
use Rattle.outside.specs.Links.{sent_of}
use Rattle.outside.specs.Outside.{DiskRun, MomentsAre, Outside}
use Rattle.outside.proofs.CallSteps.{moments_map, told_back}
use Rattle.frame_journal.specs.Journal.{JournalValue}
use Rattle.sync_rules.specs.declared.entries.Entry.{Entry}
use Rattle.sync_rules.specs.Clients.{Meaning}
use Rattle.sync_rules.specs.Facts.{Facts, facts, nothing}
use Rattle.sync_rules.specs.Steps.{IsSettled}
use Rattle.brief_account.specs.Brief.{brief, without_sessions}
use Rattle.brief_account.specs.Laws.{BriefKeepsFacts}
use Rattle.entry_codec.specs.declared.naming.Format.TheVariants as kind
use Rattle.entry_codec.specs.Payloads.{journal_end, payloads}
use Rattle.entry_codec.specs.Standing.{room_of}
use Rattle.entry_codec.specs.StandingLaws.{JournalsStand}
use Rattle.journal_state.specs.Whole.{StateValue}
use Rattle.journal_migration.specs.Migrating.{HoldsSecond}
use Rattle.journal_compaction.specs.Compacting.{CompactsJournal, IsCompacted, StandsForEither}
use Rattle.journal_compaction.specs.Compacting.{compacted_len}
use Rattle.journal_compaction.proofs.Counted.{held_within}
use Rattle.journal_compaction.specs.declared.fault.CompactionFault.{CompactionFault}
use Rattle.journal_compaction.specs.declared.fault.CompactionFault.TheVariants as compaction
use Rattle.sync_store.specs.declared.fault.StoreFault.{StoreFault}
use Rattle.sync_store.specs.declared.fault.StoreFault.TheVariants as fault
use Rattle.sync_store.specs.Compactions.{IsOrBrief, LeadsToBrief, ShortensJournal}
use Rattle.sync_store.specs.Fitting.{FitsFiles, FitsSome}
use Rattle.sync_store.specs.Moments.{JournalMoment}
use Rattle.sync_store.specs.Store.{HasNumbers, IsStore, StoreValue, counts_to, format_meant}
use Rattle.sync_store.specs.Store.{written_in}
use Rattle.sync_store.proofs.BriefFacts.{left_without, none_taken, settled_without}
use Rattle.sync_store.proofs.FitSteps.{leads_none, true≢false}
use Rattle.sync_store.proofs.GroupSteps.{none_group}
use Rattle.sync_store.proofs.MigrateSteps.{fits_at, moved_with, same_self}

-- ---- no call of the disk

pub leads_unasked : JournalsStand → (clients : Meaning) (s : StoreValue) (e : StoreFault)
    (o : Outside) → IsStore s → LeadsToBrief clients s s (Err e) o o
leads_unasked stand clients s e o store two told j fits =
    leads_none stand clients (IsOrBrief j) (λ whole. whole ≡ j) s s j two o fits store.roomy told
    (same_self s) (inl refl) refl

-- ---- before

-- the number of the second format
short_by : (n : ℕ) (b : Bool) → (b ≡ true → n ≡ 2) → cond b kind.Short kind.Whole ≡ kind.Short
    → n ≡ 2
short_by n true two short = two refl
short_by n false two short = cc

pub short_is_two : (s : StoreValue) → written_in s ≡ kind.Short → s.format ≡ 2
short_is_two s short = short_by s.format (s.format == 2) (λ e. eqb-true s.format 2 e) short

-- the disk that fits a store in format 2 holds its journal so
pub holds_at : (clients : Meaning) (s : StoreValue) (m : JournalValue) (j : List (List Entry))
    (two : Two File) → m.format ≡ 2 → IsStore (moved_with s s.state m)
    → FitsFiles clients (moved_with s s.state m) j two
    → HoldsSecond clients m j two
holds_at clients s m j two short store fits =
    let f = s.state.facts in
    let room : room_of (format_meant m.format) f ≡ room_of kind.Short f =
    ap (λ k. room_of (format_meant k) f) short in
    let same : room_of kind.Short (facts j) ≡ room_of kind.Short f =
    ap (room_of kind.Short) fits.facts_are in
    record {
      first_settled = fits.first_settled;
      second_settled = fits.second_settled;
      found = fits.file_is;
      format_is = fits.format_is ∙ short;
      generation_is = fits.generation_is;
      header = fits.header;
      frames =
          subst (λ k. HasFrames (file_of two m.file).now fits.header
          (payloads (format_meant k) nothing j)) short fits.frames;
      end_is = fits.end_is ∙ ap (λ k. journal_end (format_meant k) j) short;
      legal = fits.legal;
      within = fits.within;
      bounded = omega (arith, store.roomy, room, same);
      stands_for = fits.stands_for;
    }

-- ---- after

pub shortens_at : (clients : Meaning) (s : StoreValue) (state : StateValue) (m n : JournalValue)
    → s.file ≡ m.file → s.generation ≡ m.generation → s.closed ≡ false
    → IsSettled clients s.state.facts
    → s.generation < 2 ^ 64 - 1 → compacted_len clients s.state.facts ≤ s.limit
    → state.facts ≡ without_sessions s.state.facts → state.answers ≡ s.state.answers
    → IsCompacted clients s.state.facts m n → ShortensJournal clients s (moved_with s state n)
shortens_at clients s state m n file generation still settled further roomy facts answers next =
    record {
      may = record { generation = further; roomy = roomy };
      facts = facts;
      settled =
          subst (IsSettled clients) (sym facts) (settled_without clients s.state.facts settled);
      answers = answers;
      file = next.file_is ∙ ap (λ k. 1 - k) (sym file);
      format = next.format_is;
      generation = next.generation_is ∙ ap (λ k. k + 1) (sym generation);
      end = next.end_is;
      limit = refl;
      closed = still;
    }

-- the counts of the account, and its room
pub shortened_store : (clients : Meaning) (s : StoreValue) (state : StateValue) (m n : JournalValue)
    → IsStore s → compacted_len clients s.state.facts ≤ s.limit
    → state.facts ≡ without_sessions s.state.facts
    → IsCompacted clients s.state.facts m n → IsStore (moved_with s state n)
shortened_store clients s state m n store roomy facts next =
    let f = s.state.facts in
    let room : room_of (format_meant n.format) state.facts ≡ room_of kind.Short state.facts =
    ap (λ k. room_of (format_meant k) state.facts) next.format_is in
    let same : room_of kind.Short state.facts ≡ room_of kind.Short (without_sessions f) =
    ap (room_of kind.Short) facts in
    let numbers : HasNumbers (without_sessions f) (counts_to kind.Short n.end) = record {
      held = omega (arith, held_within clients f, next.end_is);
      sessions = omega arith;
      records = λ session. omega (arith, none_taken f session);
    } in
    record {
      waits = none_group;
      limited = store.limited;
      roomy = omega (arith, store.limited, roomy, next.end_is, room, same, left_without f);
      numbers =
          subst (λ (g : Facts). HasNumbers g (counts_to (format_meant n.format) n.end)) (sym facts)
          (subst (λ k. HasNumbers (without_sessions f) (counts_to (format_meant k) n.end))
          (sym next.format_is) numbers);
    }

-- the facts of the account
pub facts_shortened : BriefKeepsFacts → (clients : Meaning) (s : StoreValue) (state : StateValue)
    (j : List (List Entry)) (two : Two File) → FitsFiles clients s j two
    → IsSettled clients s.state.facts
    → state.facts ≡ without_sessions s.state.facts → facts (brief j) ≡ state.facts
facts_shortened keeps clients s state j two fits settled facts_are =
    (keeps clients j fits.legal (subst (IsSettled clients) (sym fits.facts_are) settled)).same
    ∙ ap without_sessions fits.facts_are ∙ sym facts_are

-- ---- the moments

either_moments : (clients : Meaning) (j : List (List Entry)) (o o' : Outside) → MomentsAre o o'
    (StandsForEither clients j (sent_of o.links.told))
    → MomentsAre o o' (JournalMoment clients (IsOrBrief j) (sent_of o.links.told))
either_moments clients j o o' moments =
    moments_map o o' (StandsForEither clients j (sent_of o.links.told))
    (JournalMoment clients (IsOrBrief j) (sent_of o.links.told))
    (λ m either. elim either.stands_for [
      | inl own ↦ record {
        whole = j;
        has = inl refl;
        stands_for = own;
        nothing_sent = either.nothing_sent;
      }
      | inr short ↦ record {
        whole = brief j;
        has = inr refl;
        stands_for = short;
        nothing_sent = either.nothing_sent;
      }
    ]) moments

-- what is asked of a compaction: this is what it gives, whatever journal the disk holds
abbrev pub GivesBrief : Meaning → StoreValue → JournalValue → Result JournalValue CompactionFault
    → Outside → Outside → Type 0
GivesBrief clients s m result o o' =
    (j : List (List Entry)) (two : Two File) → o.files ≡ Some two → facts j ≡ s.state.facts
    → HoldsSecond clients m j two → CompactsJournal clients m j o o' result

module _ (clients : Meaning) (s : StoreValue) (m : JournalValue) (o o' : Outside)
    (short : m.format ≡ 2) (store : IsStore (moved_with s s.state m)) where
  pub leads_shortened : BriefKeepsFacts → (state : StateValue) (n : JournalValue) (u : Unit {0})
      → IsSettled clients s.state.facts → state.facts ≡ without_sessions s.state.facts
      → n.format ≡ 2
      → GivesBrief clients s m (Ok n) o o'
      → LeadsToBrief clients (moved_with s s.state m) (moved_with s state n) (Ok u) o o'
  leads_shortened keeps state n u settled facts_are second gives two told j fits =
      let kept = gives j two told fits.facts_are (holds_at clients s m j two short store fits) in
      record {
        moments = either_moments clients j o o' kept.moments;
        ends = λ still two' told'. (
          brief j,
          refl,
          fits_at clients s state n (brief j) two'
              (facts_shortened keeps clients (moved_with s s.state m) state j two fits settled
              facts_are) second (kept.ends two' told'),
        );
      }

  -- it was too long
  pub leads_full : GivesBrief clients s m (Err compaction.Full) o o' → LeadsToBrief clients
      (moved_with s s.state m) (moved_with s s.state m) (Err fault.Full) o o'
  leads_full gives two told j fits =
      let kept = gives j two told fits.facts_are (holds_at clients s m j two short store fits) in
      record {
        moments = either_moments clients j o o' kept.moments;
        ends = λ still two' told'. (
          j,
          refl,
          fits_at clients s s.state m j two' fits.facts_are short
              (kept.ends two' told'),
        );
      }

  -- memory was wanting
  pub leads_wanting : GivesBrief clients s m (Err compaction.Memory) o o' → LeadsToBrief clients
      (moved_with s s.state m) (moved_with s s.state m) (Err fault.Memory) o o'
  leads_wanting gives two told j fits =
      let kept = gives j two told fits.facts_are (holds_at clients s m j two short store fits) in
      record {
        moments = either_moments clients j o o' kept.moments;
        ends = λ still two' told'. (
          j,
          refl,
          fits_at clients s s.state m j two' fits.facts_are short
              (kept.ends two' told'),
        );
      }

  -- the disk failed
  pub leads_broken : (new : StoreValue) → new.closed ≡ true → GivesBrief clients s m
      (Err compaction.DiskFault) o o'
      → LeadsToBrief clients (moved_with s s.state m) new (Err fault.DiskFault) o o'
  leads_broken new closed gives two told j fits =
      let kept = gives j two told fits.facts_are (holds_at clients s m j two short store fits) in
      record {
        moments = either_moments clients j o o' kept.moments;
        ends = λ still. true≢false new.closed closed still;
      }

-- where the disk fits a store at first, it fits the one that it leads to
pub brief_fits : (clients : Meaning) (s new : StoreValue) (result : Result (Unit {0}) StoreFault)
    (o o' : Outside) → DiskRun o o' → LeadsToBrief clients s new result o o'
    → FitsSome clients s o.files
    → new.closed ≡ false → FitsSome clients new o'.files
brief_fits clients s new result o o' run leads fits still two' told' =
    let there = told_back o o' two' run.same_told told' in
    let begun = fits there.0 there.1 in
    let end = (leads there.0 there.1 begun.0 begun.1).ends still two' told' in
    (end.0, end.2)
