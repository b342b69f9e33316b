-- Batches whose frames wait, and what adding them makes of files that fit a store.
use Rattle.std.proofs.Common.{◌≡◌, ℕ, ◌+◌, ◌<◌, ◌≤◌, Bool, true, false, cond, List, [], ◌∷◌}
use Rattle.std.proofs.Common.{◌++◌, length, Option, Some, refl, sym, ap, ◌∙◌, subst, inl, inr, arith}
use Rattle.std.proofs.Common.{append_assoc, length-append}
use Rattle.std.specs.List.{AllByRecursion, flat_map}
use Rattle.std.specs.Option.{ForSome}
use Rattle.std.specs.Prelude.{◌==◌, ◌&&◌, nat_le, nat_lt}
use Rattle.std.proofs.lemmas.Bool.{eqb-true}
use Rattle.std.proofs.lemmas.Bool.Decides.{nat_tests}
use Rattle.std.proofs.lemmas.List.Concat.{flat_map-append}
use Rattle.outside.specs.Disk.{RelatesTold}
use Rattle.outside.specs.Files.{Two, File, IsFileImage, file_of, read_files, settled}
use Rattle.outside.specs.Frames.{HasFrames, IsAtRest, format_in, frame_of, generation_in}
use Rattle.outside.specs.Links.{sent_of}
use Rattle.outside.specs.Outside.{Outside, DiskRun, Moment, MomentsAre}
use Rattle.outside.specs.Steps.{FileMoment, PassedMoments, other_of}
use Rattle.outside.proofs.Calm.{settled_only}
use Rattle.outside.proofs.CallSteps.{becomes_told, moments_map, told_back}
use Rattle.frame_journal.specs.Append.{IsFramed, payload_of}
use Rattle.frame_journal.specs.declared.group.TheConstants.{MAX_GROUP}
use Rattle.frame_journal.proofs.Framed.{framed_long}
use Rattle.frame_journal.proofs.GroupSteps.{joined_none}
use Rattle.frame_journal.specs.Group.{AppendsFrames, BeforeOrWithAll, IsGroup, IsJoined, flushed}
use Rattle.frame_journal.specs.Group.{group_len, moved_on}
use Rattle.frame_journal.specs.Journal.{JournalValue}
use Rattle.sync_rules.specs.declared.entries.Entry.{Entry}
use Rattle.sync_rules.specs.Clients.{Meaning}
use Rattle.sync_rules.specs.Facts.{Facts, after_all, after_batches, facts, nothing}
use Rattle.sync_rules.specs.Legal.{Allowed, GoesOn, Legal}
use Rattle.sync_rules.proofs.Continuing.{facts-append, legal-append}
use Rattle.sync_rules.proofs.Settling.{after_batches-append, goes_on_both}
use Rattle.entry_codec.specs.declared.naming.Format.{Format}
use Rattle.entry_codec.specs.Naming.{format_of}
use Rattle.entry_codec.specs.Payloads.{journal_end, payload, payload_len, payloads}
use Rattle.entry_codec.specs.Spelling.{IsEntry, IsOfFormat}
use Rattle.entry_codec.specs.Standing.{room_of}
use Rattle.entry_codec.specs.StandingLaws.{JournalsStand}
use Rattle.entry_codec.proofs.Growing.{all_push}
use Rattle.outside.specs.declared.limits.TheConstants.{MAX_FRAME, MAX_JOURNAL}
use Rattle.sync_store.specs.Store.{IsStore, StoreValue, format_meant, written_in}
use Rattle.sync_store.specs.Commits.{GainsBatch, MayAdd}
use Rattle.sync_store.specs.Fitting.{FitsFiles, FitsSome}
use Rattle.sync_store.specs.Groups.{AddsAll, HasGathered, HasGroupRoom, IsGathering, NoneOrAll}
use Rattle.sync_store.specs.Ready.{IsReady}
use Rattle.journal_state.specs.Whole.{KnowsJudgements}
use Rattle.sync_store.specs.Moments.{JournalMoment, groups_for}
use Rattle.sync_store.proofs.FitSteps.{IsSame, bounded_now, first_of, framed_len, other_reads}
use Rattle.sync_store.proofs.FitSteps.{rests}
use Rattle.sync_store.proofs.FitSteps.{other_settled, second_of, stands_at, this_reads, true≢false}
use Rattle.sync_store.specs.Waiting.{frames_in, has_place}
use Rattle.sync_store.specs.declared.waiting.TheConstants.{MAX_WAITING}
use Rattle.sync_store.proofs.Counting.{frames_more}
use Rattle.sync_store.proofs.GroupCounts.{joins_those}
use Rattle.sync_store.proofs.Headers.{one_format, one_generation, one_journal_file}
use Rattle.sync_store.proofs.Steps.{all-append}

-- ---- lists of batches

pub payloads_append : (format : Format) (f : Facts) (xs ys : List (List Entry))
    → payloads format f (xs ++ ys) ≡ payloads format f xs ++ payloads format (after_batches f xs) ys
payloads_append format f [] ys = refl
payloads_append format f (b ∷ bs) ys =
    ap (λ (ps : List (List ℕ)). payload format f b ∷ ps) (payloads_append format (after_all f b) bs ys)

-- the end of the frames with further ones
end_all : (format : Format) (j more : List (List Entry))
    → journal_end format (j ++ more)
    ≡ journal_end format j + length (flat_map frame_of (payloads format (facts j) more))
end_all format j more =
    let first = payloads format nothing j in
    let then' = payloads format (facts j) more in
    omega (
      arith,
      ap (λ (ps : List (List ℕ)). length (flat_map frame_of ps)) (payloads_append format nothing j more),
      ap length (flat_map-append frame_of first then'),
      length-append (flat_map frame_of first) (flat_map frame_of then'),
    )

-- ---- frames that wait

-- how long they are
pub joined_len : (ps : List (List ℕ)) (waiting : List ℕ) → IsJoined ps waiting
    → length waiting ≡ length (flat_map frame_of ps) + 1
joined_len ps waiting joined =
    omega (arith, ap length joined.spelled, length-append (flat_map frame_of ps) (0 ∷ []))

pub group_some : (waiting : List ℕ) → IsGroup waiting → 1 ≤ length waiting
group_some waiting group = omega (arith, joined_len group.payloads waiting group.joined)

-- no frame
pub none_group : IsGroup (0 ∷ [])
none_group = record { payloads = []; joined = joined_none }

-- a frame more
abbrev pub JoinsFrame : List ℕ → List ℕ → List ℕ → Type 0
JoinsFrame framed old new =
    (ps : List (List ℕ)) → IsJoined ps old → IsJoined (ps ++ payload_of framed ∷ []) new

pub joins_group : (framed old new : List ℕ) → JoinsFrame framed old new → IsGroup old → IsGroup new
joins_group framed old new joins group = record {
  payloads = group.payloads ++ payload_of framed ∷ [];
  joined = joins group.payloads group.joined;
}

-- where one batch more may wait, each frame finds room
place_by : (n : ℕ) (a b : Bool) → a && b ≡ true → b ≡ nat_le (n + (MAX_FRAME + 5)) MAX_GROUP
    → n + (MAX_FRAME + 5) ≤ MAX_GROUP
place_by n true b both is = grind (arith, nat_tests)
place_by n false b both is = absurd cc

-- and fewer wait than may
fewer_by : (n : ℕ) (a b : Bool) → a && b ≡ true → a ≡ nat_lt n MAX_WAITING → n < MAX_WAITING
fewer_by n true b both is = grind (arith, nat_tests)
fewer_by n false b both is = absurd cc

pub fewer_wait : (waiting batches : ℕ) → has_place waiting batches ≡ true → batches < MAX_WAITING
fewer_wait waiting batches place =
    fewer_by batches (nat_lt batches MAX_WAITING) (nat_le (waiting + (MAX_FRAME + 5)) MAX_GROUP)
    place refl

pub frame_finds_room : (waiting framed : List ℕ) → IsFramed framed
    → has_place (group_len waiting) (frames_in waiting) ≡ true
    → length waiting + length framed ≤ MAX_GROUP + 1
frame_finds_room waiting framed is_framed place =
    let room =
    place_by (group_len waiting) (nat_lt (frames_in waiting) MAX_WAITING)
    (nat_le (group_len waiting + (MAX_FRAME + 5)) MAX_GROUP) place refl in
    omega (arith, framed_long framed is_framed, is_framed.fits.1, room)

-- ---- a batch more waits

pub gathered_more : (clients : Meaning) (before s new : StoreValue) (more : List (List Entry))
    (batch : List Entry) (framed : List ℕ) → HasGathered clients before s more
    → MayAdd clients s batch framed
    → GainsBatch s new batch → JoinsFrame framed s.waiting new.waiting
    → length new.waiting ≡ length s.waiting + length framed → HasGroupRoom s
    → HasGathered clients before new (more ++ batch ∷ [])
gathered_more clients before s new more batch framed g may gains joins long room =
    let f = before.state.facts in
    let kind = written_in before in
    let same : written_in s ≡ kind = ap format_meant g.format in
    let payload_is : payload_of framed ≡ payload kind (after_batches f more) batch =
    may.payload_is ∙ ap (λ (k : Format). payload k s.state.facts batch) same
    ∙ ap (λ (x : Facts). payload kind x batch) g.facts in
    let all : payloads kind f (more ++ batch ∷ []) ≡ payloads kind f more ++ payload_of framed ∷ [] =
    payloads_append kind f more (batch ∷ [])
    ∙ ap (λ p. payloads kind f more ++ p ∷ []) (sym payload_is) in
    let kinds = subst (λ (k : Format). AllByRecursion (IsOfFormat k) batch) same may.kinds in
    let framed_is : length framed ≡ 5 + payload_len kind batch =
    framed_len s batch framed may.is_framed may.payload_is
    ∙ ap (λ (k : Format). 5 + payload_len k batch) same in
    let some = joined_len (payloads kind f more) s.waiting g.joined in
    record {
      opened = g.opened;
      goes_on =
          goes_on_both clients f more (batch ∷ []) g.goes_on
          (subst (λ (x : Facts). Allowed clients x batch) g.facts may.allowed, tt);
      facts = gains.facts ∙ ap (λ (x : Facts). after_all x batch) g.facts
          ∙ sym (after_batches-append f more (batch ∷ []));
      file = gains.file ∙ g.file;
      format = gains.format ∙ g.format;
      generation = gains.generation ∙ g.generation;
      end = omega (
        arith,
        gains.end,
        g.end,
        framed_len s batch framed may.is_framed may.payload_is,
        long,
        some,
      );
      limit = gains.limit ∙ g.limit;
      joined = subst (λ (ps : List (List ℕ)). IsJoined ps new.waiting) (sym all)
          (joins (payloads kind f more) g.joined);
      together = λ rest.
          let longer : group_len s.waiting + (5 + payload_len kind batch) ≡ group_len new.waiting =
          omega (arith, framed_is, long, some) in
          let more' = frames_more framed s.waiting new.waiting
          (record { payloads = payloads kind f more; joined = g.joined }) joins in
          ap (groups_for kind 0 0) (append_assoc more (batch ∷ []) rest)
          ∙ g.together (batch ∷ rest)
          ∙ joins_those kind (group_len s.waiting) (frames_in s.waiting) batch rest room
          ∙ ap (λ n. groups_for kind n (frames_in s.waiting + 1) rest) longer
          ∙ ap (λ n. groups_for kind (group_len new.waiting) n rest) (sym more');
      kinds = all_push (AllByRecursion (IsOfFormat kind)) more batch g.kinds kinds;
      within = all_push (AllByRecursion IsEntry) more batch g.within may.within;
    }

-- all that is asked of it is as before
pub gathered_same : (clients : Meaning) (before s new : StoreValue) (more : List (List Entry))
    → HasGathered clients before s more → IsSame s new → new.limit ≡ s.limit
    → HasGathered clients before new more
gathered_same clients before s new more g same limit = record {
  opened = g.opened;
  goes_on = g.goes_on;
  facts = same.facts ∙ g.facts;
  file = same.file ∙ g.file;
  format = same.format ∙ g.format;
  generation = same.generation ∙ g.generation;
  end = same.end ∙ g.end ∙ ap (λ w. before.end + group_len w) (sym same.waiting);
  limit = limit ∙ g.limit;
  joined = subst (IsJoined (payloads (written_in before) before.state.facts more))
      (sym same.waiting) g.joined;
  together = λ rest. g.together rest
      ∙ ap (λ w. groups_for (written_in before) (group_len w) (frames_in w) rest)
      (sym same.waiting);
  kinds = g.kinds;
  within = g.within;
}

-- ---- the batches are added

module _ (clients : Meaning) (before s : StoreValue) (more : List (List Entry)) (kept : IsStore before)
    (store : IsStore s) (g : HasGathered clients before s more) where
  -- the end of the journal with them, and the facts
  facts_with : (j : List (List Entry)) (two : Two File) → FitsFiles clients before j two
      → facts (j ++ more) ≡ s.state.facts
  facts_with j two fits =
      facts-append j more ∙ ap (λ (f : Facts). after_batches f more) fits.facts_are ∙ sym g.facts

  end_with : (j : List (List Entry)) (two : Two File) → FitsFiles clients before j two
      → s.end ≡ journal_end (written_in before) (j ++ more)
  end_with j two fits =
      omega (
        arith,
        g.end,
        fits.end_is,
        end_all (written_in before) j more,
        ap (λ (f : Facts). length (flat_map frame_of (payloads (written_in before) f more))) fits.facts_are,
        joined_len (payloads (written_in before) before.state.facts more) s.waiting g.joined,
      )

  bounded_with : (j : List (List Entry)) (two : Two File) → FitsFiles clients before j two
      → journal_end (written_in before) (j ++ more) + room_of (written_in before) (facts (j ++ more)) ≤ MAX_JOURNAL
  bounded_with j two fits =
      omega (
        arith,
        store.roomy,
        end_with j two fits,
        ap (room_of (written_in before)) (facts_with j two fits),
        ap (λ n. room_of (format_meant n) s.state.facts) g.format,
      )

  frames_with : (j : List (List Entry)) (two : Two File) (fits : FitsFiles clients before j two)
      (bytes : List ℕ)
      → HasFrames bytes fits.header (payloads (written_in before) nothing j ++ (payloads (written_in before) before.state.facts more))
      → HasFrames bytes fits.header (payloads (written_in before) nothing (j ++ more))
  frames_with j two fits bytes frames =
      subst (λ (ps : List (List ℕ)). HasFrames bytes fits.header ps)
      (ap (λ (f : Facts). payloads (written_in before) nothing j ++ payloads (written_in before) f more) (sym fits.facts_are)
      ∙ sym (payloads_append (written_in before) nothing j more)) frames

  legal_with : (j : List (List Entry)) (two : Two File) (fits : FitsFiles clients before j two)
      → Legal clients (j ++ more)
  legal_with j two fits =
      legal-append clients j more fits.legal
      (subst (λ (f : Facts). GoesOn clients f more) (sym fits.facts_are) g.goes_on)

  moment_with : JournalsStand → (j : List (List Entry)) (two : Two File) (sent : List (List ℕ))
      → FitsFiles clients before j two → (m : Moment)
      → FileMoment (BeforeOrWithAll (file_of two before.file).now before.end s.waiting) two sent
      before.file m
      → JournalMoment clients (NoneOrAll j more) sent m
  moment_with stand j two sent fits m moment =
      let other : other_of m.files before.file ≡ (other_of two before.file).now =
      settled_only (other_of two before.file).now (other_of m.files before.file)
      (subst (λ (f : File). IsFileImage f (other_of m.files before.file))
      (other_settled two before.file fits.first_settled fits.second_settled) moment.other) in
      elim (moment.this (payloads (written_in before) before.state.facts more) fits.header (payloads (written_in before) nothing j) g.joined fits.frames fits.end_is) [
        | inl none ↦ record {
          whole = j;
          has = inl refl;
          stands_for = stands_at stand clients before j two fits m.files j none other fits.legal
              fits.kinds fits.within (bounded_now clients before j two fits kept.roomy);
          nothing_sent = moment.nothing_sent;
        }
        | inr all ↦ record {
          whole = j ++ more;
          has = inr refl;
          stands_for =
              stands_at stand clients before j two fits m.files (j ++ more)
              (frames_with j two fits (file_of m.files before.file) all) other
              (legal_with j two fits)
              (all-append (AllByRecursion (IsOfFormat (written_in before))) j more fits.kinds g.kinds)
              (all-append (AllByRecursion IsEntry) j more fits.within g.within)
              (bounded_with j two fits);
          nothing_sent = moment.nothing_sent;
        }
      ]

  -- the disk fits the store with all of them
  fits_with : JournalsStand → (new : StoreValue) (j : List (List Entry)) (two two' : Two File)
      → FitsFiles clients before j two → new ≡ record s { waiting = 0 ∷ [] }
      → AppendsFrames before.file before.end s.waiting two two'
      → FitsFiles clients new (j ++ more) two'
  fits_with stand new j two two' fits is appends =
      let other : other_of two' before.file ≡ settled (other_of two' before.file).now =
      appends.other ∙ other_settled two before.file fits.first_settled fits.second_settled
      ∙ ap (λ (f : File). settled f.now) (sym appends.other) in
      let reads_other : other_of (read_files two') before.file ≡ (other_of two before.file).now =
      other_reads two' before.file ∙ ap (λ (f : File). f.now) appends.other in
      let all = payloads (written_in before) nothing (j ++ more) in
      let old = payloads (written_in before) nothing j in
      let frames : HasFrames (file_of two' before.file).now fits.header all =
      frames_with j two fits (file_of two' before.file).now
      (appends.frames (payloads (written_in before) before.state.facts more) fits.header old g.joined fits.frames fits.end_is) in
      let read_frames : HasFrames (file_of (read_files two') before.file) fits.header all =
      subst (λ (bytes : List ℕ). HasFrames bytes fits.header all)
      (sym (this_reads two' before.file)) frames in
      let read_before : HasFrames (file_of (read_files two) before.file) fits.header old =
      subst (λ (bytes : List ℕ). HasFrames bytes fits.header old)
      (sym (this_reads two before.file)) fits.frames in
      let kinds = all-append (AllByRecursion (IsOfFormat (written_in before))) j more fits.kinds g.kinds in
      let within = all-append (AllByRecursion IsEntry) j more fits.within g.within in
      let file : new.file ≡ before.file = ap (λ (v : StoreValue). v.file) is ∙ g.file in
      let format : new.format ≡ before.format = ap (λ (v : StoreValue). v.format) is ∙ g.format in
      record {
        none_waits = ap (λ (v : StoreValue). v.waiting) is;
        first_settled = first_of two' before.file appends.at_rest.settled other;
        second_settled = second_of two' before.file appends.at_rest.settled other;
        stands_for =
            stands_at stand clients before j two fits (read_files two') (j ++ more) read_frames
            reads_other (legal_with j two fits) kinds within (bounded_with j two fits);
        facts_are =
            facts_with j two fits ∙ sym (ap (λ (v : StoreValue). v.state.facts) is);
        legal = legal_with j two fits;
        file_is =
            one_journal_file (read_files two') (read_files two) before.file fits.header all old
            read_frames read_before (reads_other ∙ sym (other_reads two before.file))
            ∙ fits.file_is ∙ ap Some (sym file);
        format_is =
            ap (λ k. format_in (file_of two' k).now) file
            ∙ one_format (file_of two' before.file).now (file_of two before.file).now fits.header
            all old frames fits.frames
            ∙ fits.format_is ∙ sym format;
        format_known =
            subst (λ n. format_of n ≡ Some (format_meant n)) (sym format) fits.format_known;
        generation_is =
            ap (λ k. generation_in (file_of two' k).now) file
            ∙ one_generation (file_of two' before.file).now (file_of two before.file).now fits.header
            all old frames fits.frames
            ∙ fits.generation_is
            ∙ sym (ap (λ (v : StoreValue). v.generation) is ∙ g.generation);
        header = fits.header;
        frames =
            subst (λ n. HasFrames (file_of two' new.file).now fits.header
            (payloads (format_meant n) nothing (j ++ more))) (sym format)
            (subst (λ k. HasFrames (file_of two' k).now fits.header all) (sym file) frames);
        end_is =
            ap (λ (v : StoreValue). v.end) is ∙ end_with j two fits
            ∙ ap (λ n. journal_end (format_meant n) (j ++ more)) (sym format);
        kinds =
            subst (λ n. AllByRecursion (AllByRecursion (IsOfFormat (format_meant n))) (j ++ more))
            (sym format) kinds;
        within = within;
      }

  moments_with : JournalsStand → (j : List (List Entry)) (two : Two File) (o o' : Outside)
      → FitsFiles clients before j two
      → PassedMoments two o o' before.file
      (BeforeOrWithAll (file_of two before.file).now before.end s.waiting)
      → MomentsAre o o' (JournalMoment clients (NoneOrAll j more) (sent_of o.links.told))
  moments_with stand j two o o' fits passed =
      moments_map o o'
      (FileMoment (BeforeOrWithAll (file_of two before.file).now before.end s.waiting) two
      (sent_of o.links.told) before.file)
      (JournalMoment clients (NoneOrAll j more) (sent_of o.links.told))
      (moment_with stand j two (sent_of o.links.told) fits) passed

  -- they were (payloads (written_in before) before.state.facts more)
  pub adds_all : JournalsStand → (new : StoreValue) (o o' : Outside)
      → new ≡ record s { waiting = 0 ∷ [] }
      → ((two : Two File) → o.files ≡ Some two → PassedMoments two o o' before.file
      (BeforeOrWithAll (file_of two before.file).now before.end s.waiting))
      → RelatesTold (AppendsFrames before.file before.end s.waiting) o.files o'.files
      → AddsAll clients before new o o' more
  adds_all stand new o o' is passed becomes two told j fits = record {
    moments = moments_with stand j two o o' fits (passed two told);
    ends = λ still two' told'.
        let there = becomes_told (AppendsFrames before.file before.end s.waiting) o.files o'.files
        two told becomes in
        let same : there.0 ≡ two' = cc in (
          j ++ more,
          refl,
          fits_with stand new j two two' fits is
              (subst (λ (t : Two File). AppendsFrames before.file before.end s.waiting two t) same
              there.2),
        );
  }

  -- the disk failed
  pub adds_failed : JournalsStand → (new : StoreValue) (o o' : Outside) → new.closed ≡ true
      → ((two : Two File) → o.files ≡ Some two → PassedMoments two o o' before.file
      (BeforeOrWithAll (file_of two before.file).now before.end s.waiting))
      → AddsAll clients before new o o' more
  adds_failed stand new o o' closed passed two told j fits = record {
    moments = moments_with stand j two o o' fits (passed two told);
    ends = λ still two' told'. true≢false new.closed closed still;
  }

-- ---- the journal's file

-- a journal that ends so much later
pub record IsMoved (old new : JournalValue) (by : ℕ) : Type 0 where
  pub file : new.file ≡ old.file
  pub format : new.format ≡ old.format
  pub generation : new.generation ≡ old.generation
  pub end : new.end ≡ old.end + by

-- a journal to which those that wait were added, where one waits or none
flushed_by : (j : JournalValue) (n : ℕ) (b : Bool) → (b ≡ true → n ≡ 0)
    → IsMoved j (cond b j (moved_on j n)) n
flushed_by j n true none = record {
  file = refl;
  format = refl;
  generation = refl;
  end = omega (arith, none refl);
}
flushed_by j n false none = record { file = refl; format = refl; generation = refl; end = refl }

pub flushed_is : (j : JournalValue) (group : List ℕ) → IsMoved j (flushed j group) (group_len group)
flushed_is j group =
    flushed_by j (group_len group) (length group == 1)
    (λ one. omega (arith, eqb-true (length group) 1 one))

-- the store that it is the journal of
pub flushed_store : (s : StoreValue) (j n : JournalValue) (w : List ℕ) → j.file ≡ s.file
    → j.format ≡ s.format → j.generation ≡ s.generation → s.end ≡ j.end + group_len s.waiting
    → n ≡ flushed j s.waiting → w ≡ 0 ∷ []
    → record s {
      file = n.file;
      format = n.format;
      generation = n.generation;
      end = n.end + group_len w;
      waiting = w;
    } ≡ record s { waiting = 0 ∷ [] }
flushed_store s j n w file format generation end is empty =
    let moved = flushed_is j s.waiting in
    let n_file : n.file ≡ s.file = ap (λ (x : JournalValue). x.file) is ∙ moved.file ∙ file in
    let n_format : n.format ≡ s.format =
    ap (λ (x : JournalValue). x.format) is ∙ moved.format ∙ format in
    let n_generation : n.generation ≡ s.generation =
    ap (λ (x : JournalValue). x.generation) is ∙ moved.generation ∙ generation in
    let n_end : n.end + group_len w ≡ s.end =
    omega (arith, ap (λ (x : JournalValue). x.end) is, moved.end, end, ap group_len empty) in
    ap (λ (x : ℕ). record s {
      file = x;
      format = n.format;
      generation = n.generation;
      end = n.end + group_len w;
      waiting = w;
    }) n_file
    ∙ ap (λ (x : ℕ). record s {
      format = x;
      generation = n.generation;
      end = n.end + group_len w;
      waiting = w;
    }) n_format
    ∙ ap (λ (x : ℕ). record s {
      generation = x;
      end = n.end + group_len w;
      waiting = w;
    }) n_generation
    ∙ ap (λ (x : ℕ). record s { end = x; waiting = w }) n_end
    ∙ ap (λ (x : List ℕ). record s { waiting = x }) empty

-- an emptied store keeps what it kept
pub emptied_store : (s new : StoreValue) → IsStore s → new ≡ record s { waiting = 0 ∷ [] }
    → IsStore new
emptied_store s new store is =
    subst IsStore (sym is) (record {
      waits = none_group;
      limited = store.limited;
      roomy = store.roomy;
      numbers = store.numbers;
    })

-- where the frames that wait are to be added: behind the journal's file
pub end_before : (clients : Meaning) (before s : StoreValue) (more : List (List Entry)) (end : ℕ)
    → HasGathered clients before s more → s.end ≡ end + group_len s.waiting → before.end ≡ end
end_before clients before s more end g is = omega (arith, g.end, is)

pub rests_before : (clients : Meaning) (before s : StoreValue) (more : List (List Entry))
    (files : Option (Two File)) (file end : ℕ) → HasGathered clients before s more
    → FitsSome clients before files → s.file ≡ file → s.end ≡ end + group_len s.waiting
    → ForSome files (λ two. IsAtRest two file end)
rests_before clients before s more files file end g fits named is two told =
    subst (λ k. IsAtRest two k end) (sym g.file ∙ named)
    (subst (λ k. IsAtRest two before.file k) (end_before clients before s more end g is)
    (rests clients before files fits two told))

-- the same of a file and an end that are those
pub same_passed : (o o' : Outside) (waiting : List ℕ) (a b m n : ℕ) → a ≡ b → m ≡ n
    → ((two : Two File) → o.files ≡ Some two
    → PassedMoments two o o' a (BeforeOrWithAll (file_of two a).now m waiting))
    → (two : Two File) → o.files ≡ Some two
    → PassedMoments two o o' b (BeforeOrWithAll (file_of two b).now n waiting)
same_passed o o' waiting a b m n file end passed two told =
    subst (λ (k : ℕ). PassedMoments two o o' k (BeforeOrWithAll (file_of two k).now n waiting)) file
    (subst (λ (k : ℕ). PassedMoments two o o' a (BeforeOrWithAll (file_of two a).now k waiting)) end
    (passed two told))

pub same_files : (o o' : Outside) (waiting : List ℕ) (a b m n : ℕ) → a ≡ b → m ≡ n
    → RelatesTold (AppendsFrames a m waiting) o.files o'.files
    → RelatesTold (AppendsFrames b n waiting) o.files o'.files
same_files o o' waiting a b m n file end becomes =
    subst (λ (k : ℕ). RelatesTold (AppendsFrames k n waiting) o.files o'.files) file
    (subst (λ (k : ℕ). RelatesTold (AppendsFrames a k waiting) o.files o'.files) end becomes)

-- a store whose frames were added is ready
pub ready_added : (clients : Meaning) (s new : StoreValue) (o o' : Outside)
    (opened : IsGathering clients s o.files) → new ≡ record s { waiting = 0 ∷ [] }
    → new.closed ≡ false → DiskRun o o' → AddsAll clients opened.before new o o' opened.more
    → IsReady clients new o'.files
ready_added clients s new o o' opened is still run adds = record {
  still_open = still;
  none_waits = ap (λ (v : StoreValue). v.waiting) is;
  knows = subst (λ (v : StoreValue). KnowsJudgements clients v.state) (sym is) opened.knows;
  fits = λ two' told'.
      let there = told_back o o' two' run.same_told told' in
      let begun = opened.fits there.0 there.1 in
      let end = (adds there.0 there.1 begun.0 begun.1).ends still two' told' in
      (end.0, end.2);
}
