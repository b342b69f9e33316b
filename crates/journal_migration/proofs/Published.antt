-- The copy is published: the header's gate of the other file is opened, and that file is the
-- journal's.
use Rattle.std.proofs.Common.{◌≡◌, ℕ, zero, suc, ◌+◌, ◌-◌, ◌^◌, ◌<◌, ◌≤◌, Bool, true, false, cond}
use Rattle.std.proofs.Common.{List, ◌∷◌, ◌++◌, length, Some, inl, inr, refl, sym, ap, subst, ◌∙◌}
use Rattle.std.proofs.Common.{arith, length-append}
use Rattle.std.specs.Prelude.{◌&&◌, None, nat_le, nat_lt}
use Rattle.std.specs.List.{AllByRecursion, flat_map}
use Rattle.std.proofs.lemmas.Bool.{le-leb}
use Rattle.std.proofs.lemmas.Bool.Decides.{nat_tests}
use Rattle.std.proofs.lemmas.Nat.{from_be_bytes-to_be_bytes_8}
use Rattle.outside.specs.declared.limits.TheConstants.{MAX_JOURNAL}
use Rattle.outside.specs.Files.{Two, File, NothingPending, file_of, read_files, settled}
use Rattle.outside.specs.Frames.{HasFrames, format_in, frame_of, generation_in, is_open}
use Rattle.outside.specs.Frames.{journal_file}
use Rattle.outside.specs.Links.{sent_of}
use Rattle.outside.specs.Outside.{MomentsAre, Outside}
use Rattle.outside.specs.Steps.{FileMoment, PassedMoments, other_of}
use Rattle.outside.proofs.CallSteps.{moments_map}
use Rattle.frame_journal.specs.Create.{PublishesHeader, ShutOrOpened, opened}
use Rattle.frame_journal.specs.Journal.{JournalValue}
use Rattle.sync_rules.specs.declared.entries.Entry.{Entry}
use Rattle.sync_rules.specs.Clients.{Meaning}
use Rattle.sync_rules.specs.Facts.{facts, nothing}
use Rattle.sync_rules.specs.Legal.{Legal}
use Rattle.entry_codec.specs.declared.naming.Format.TheVariants as kind
use Rattle.entry_codec.specs.Naming.{format_of}
use Rattle.entry_codec.specs.Payloads.{journal_end, payloads}
use Rattle.entry_codec.specs.Standing.{room_of}
use Rattle.entry_codec.specs.StandingLaws.{HoldsJournal}
use Rattle.entry_codec.specs.Spelling.{IsEntry}
use Rattle.entry_codec.proofs.FormatKinds.{short_journal}
use Rattle.entry_codec.proofs.FrontLaws.{found_open}
use Rattle.journal_migration.specs.Cited.{MigrationLaws}
use Rattle.journal_migration.specs.Copying.{CopiesWhole, IsPair, header_mark}
use Rattle.journal_migration.specs.Migrating.{HoldsSecond, StandsStill}
use Rattle.journal_migration.proofs.Fronts.{gate_whole}
use Rattle.journal_migration.proofs.Keeping.{own_kept, shut_still}
use Rattle.journal_migration.proofs.Shut.{own_still, pending_still}
use Rattle.journal_migration.proofs.Sides.{read_file, settled_first, settled_one, settled_second}

-- ---- an opened header

module _ (bytes : List ℕ) (gate generation : ℕ) (ps : List (List ℕ))
    (frames : HasFrames bytes (gate ∷ header_mark generation) ps) where
  pub opened_frames : HasFrames (opened bytes) (1 ∷ header_mark generation) ps
  opened_frames = record {
    gate = frames.gate;
    rest = frames.rest;
    whole = ap opened frames.whole;
    closed = frames.closed;
    long = refl;
    payloads_fit = frames.payloads_fit;
  }

  pub opened_format : format_in (opened bytes) ≡ 2
  opened_format = ap (λ (b : List ℕ). format_in (opened b)) frames.whole

  pub opened_generation : generation < 2 ^ 64 → generation_in (opened bytes) ≡ generation
  opened_generation few =
      ap (λ (b : List ℕ). generation_in (opened b)) frames.whole
      ∙ from_be_bytes-to_be_bytes_8 generation few

  pub opened_open : is_open (opened bytes) ≡ true
  opened_open =
      let rest = flat_map frame_of ps ++ frames.gate ∷ frames.rest in
      let bytes' : List ℕ = (1 ∷ header_mark generation) ++ rest in
      let total : length bytes' ≡ 14 + length rest =
      length-append (1 ∷ header_mark generation) rest in
      let long : nat_le 14 (length bytes') ≡ true =
      le-leb 14 (length bytes') (omega (arith, total)) in
      ap (λ (b : List ℕ). is_open (opened b)) frames.whole
      ∙ ap (λ (t : Bool). t && true && true && true && true && true) long

-- of two open headers the one with the greater generation is the journal's
pub greater_found : (m : Two (List ℕ)) (own g : ℕ) → own < 2 → is_open (file_of m own) ≡ true
    → is_open (file_of m (1 - own)) ≡ true → generation_in (file_of m own) ≡ g
    → generation_in (file_of m (1 - own)) ≡ g + 1 → journal_file m ≡ Some (1 - own)
greater_found m zero g few this other old new =
    let greater : nat_lt (generation_in m.first) (generation_in m.second) ≡ true =
    grind (arith, nat_tests) in
    ap (λ b.
    cond b (cond (is_open m.second && nat_lt (generation_in m.first) (generation_in m.second))
    (Some 1) (Some 0)) (cond (is_open m.second) (Some 1) None)) this
    ∙ ap (λ b. cond (b && nat_lt (generation_in m.first) (generation_in m.second)) (Some 1)
    (Some 0)) other
    ∙ ap (λ b. cond b (Some 1) (Some 0)) greater
greater_found m (suc zero) g few this other old new =
    let greater : nat_lt (generation_in m.first) (generation_in m.second) ≡ false =
    grind (arith, nat_tests) in
    ap (λ b.
    cond b (cond (is_open m.second && nat_lt (generation_in m.first) (generation_in m.second))
    (Some 1) (Some 0)) (cond (is_open m.second) (Some 1) None)) other
    ∙ ap (λ b. cond (b && nat_lt (generation_in m.first) (generation_in m.second)) (Some 1)
    (Some 0)) this
    ∙ ap (λ b. cond b (Some 1) (Some 0)) greater
greater_found m (suc (suc n)) g few this other old new = absurd (omega (arith, few))

-- ---- what the files then hold

module _ (laws : MigrationLaws) (clients : Meaning) (generation : ℕ) (j : List (List Entry))
    (r n : JournalValue) (two : Two File) (pair : IsPair r n) (few : generation + 1 < 2 ^ 64)
    (whole : CopiesWhole clients generation j r n two) where
  all_there : (whole.copies.done ≡ j)
      × (r.end + room_of kind.Whole (facts whole.copies.done) ≤ MAX_JOURNAL)
  all_there =
      gate_whole clients (read_files two) r.file kind.Whole whole.copies.done j r.end
      (omega (arith, pair.begun)) whole.copies.front whole.copies.holds.stands_for whole.at_end

  second_bounded : journal_end kind.Short j + room_of kind.Short (facts j) ≤ MAX_JOURNAL
  second_bounded =
      subst (λ (d : List (List Entry)). journal_end kind.Short d + room_of kind.Short (facts d)
      ≤ MAX_JOURNAL) all_there.0
      (omega (arith, all_there.1, pair.behind, whole.copies.end_is))

  -- files of which the one is as it was and the other's gate is open hold the journal in the other
  pub second_holds : (m : Two (List ℕ)) → file_of m r.file ≡ (file_of two r.file).now
      → file_of m (1 - r.file) ≡ opened (file_of two n.file).now
      → HoldsJournal clients m (1 - r.file) kind.Short j
  second_holds m this other =
      let bytes = (file_of two n.file).now in
      let frames = whole.copies.frames in
      let all = all_there in
      let own_open : is_open (file_of m r.file) ≡ true =
      ap is_open (this ∙ sym (read_file two r.file))
      ∙ found_open (read_files two) r.file whole.copies.holds.found in
      let own_generation : generation_in (file_of m r.file) ≡ generation = ap generation_in this
      ∙ whole.copies.holds.generation_is in
      let other_open : is_open (file_of m (1 - r.file)) ≡ true = ap is_open other
      ∙ opened_open bytes whole.copies.gate (generation + 1) _ frames in
      let other_generation : generation_in (file_of m (1 - r.file)) ≡ generation + 1 =
      ap generation_in other
      ∙ opened_generation bytes whole.copies.gate (generation + 1) _ frames few in
      record {
        found = greater_found m r.file generation pair.reads own_open other_open own_generation
            other_generation;
        format_is = ap (λ (b : List ℕ). format_of (format_in b)) other
            ∙ ap format_of (opened_format bytes whole.copies.gate (generation + 1) _ frames);
        header = 1 ∷ header_mark (generation + 1);
        frames =
            subst (λ (b : List ℕ).
            HasFrames b (1 ∷ header_mark (generation + 1)) (payloads kind.Short nothing j))
            (sym other)
            (subst (λ (d : List (List Entry)).
            HasFrames (opened bytes) (1 ∷ header_mark (generation + 1))
            (payloads kind.Short nothing d)) all.0
            (opened_frames bytes whole.copies.gate (generation + 1) _ frames));
        legal = subst (Legal clients) all.0 whole.copies.front.legal;
        kinds = short_journal j;
        within = subst (λ (d : List (List Entry)). AllByRecursion (AllByRecursion IsEntry) d) all.0
            whole.copies.front.within;
        bounded = second_bounded;
      }

  -- at each moment of the opening the files stand for the journal
  pub opening_still : (o o' : Outside) → PassedMoments two o o' n.file
      (ShutOrOpened (file_of two n.file).now)
      → MomentsAre o o' (StandsStill clients j (sent_of o.links.told))
  opening_still o o' passed =
      let Q : List ℕ → Type 0 = ShutOrOpened (file_of two n.file).now in
      let sent = sent_of o.links.told in
      let there : PassedMoments two o o' (1 - r.file) Q =
      subst (λ (t : ℕ). PassedMoments two o o' t Q) pair.writes passed in
      moments_map o o' (FileMoment Q two sent (1 - r.file)) (StandsStill clients j sent)
      (λ m moment. elim moment.this [
        | inl shut ↦ shut_still clients j r.file generation two pair.reads whole.copies.holds Q sent
            m moment shut
        | inr there_open ↦ record {
          stands_for =
              laws.stand clients m.files (1 - r.file) kind.Short j
              (second_holds m.files
              (own_kept clients j r.file generation two pair.reads whole.copies.holds Q sent m
              moment) there_open);
          nothing_sent = moment.nothing_sent;
        }
      ]) there

  -- and then they hold it in the other file
  pub second_so : (two' : Two File) → PublishesHeader n.file two two'
      → n.generation ≡ generation + 1 → HoldsSecond clients n j two'
  second_so two' publishes second =
      let before = (file_of two n.file).now in
      let other : other_of two' (1 - r.file) ≡ other_of two (1 - r.file) =
      subst (λ (t : ℕ). other_of two' t ≡ other_of two t) pair.writes publishes.other in
      let same = own_still two two' r.file pair.reads other in
      let bytes : file_of two' (1 - r.file) ≡ settled (opened before) =
      subst (λ (t : ℕ). file_of two' t ≡ settled (opened before)) pair.writes publishes.bytes in
      let now : (file_of two' (1 - r.file)).now ≡ opened before = ap (λ (f : File). f.now) bytes in
      let pending : NothingPending two' (1 - r.file) = bytes ∙ ap settled (sym now) in
      let own =
      pending_still two two' r.file same
      (settled_one two r.file pair.reads whole.copies.holds.first_settled
      whole.copies.holds.second_settled) in
      let holds = second_holds (read_files two') (read_file two' r.file
      ∙ ap (λ (f : File). f.now) same) (read_file two' (1 - r.file) ∙ now) in
      let here : (file_of two' n.file).now ≡ (file_of two' (1 - r.file)).now =
      ap (λ (t : ℕ). (file_of two' t).now) pair.writes in
      let frames = whole.copies.frames in
      let end : n.end ≡ journal_end kind.Short j = whole.copies.end_is
      ∙ ap (journal_end kind.Short) all_there.0 in
      record {
        first_settled = settled_first two' r.file pair.reads own pending;
        second_settled = settled_second two' r.file pair.reads own pending;
        found = holds.found ∙ ap (λ (t : ℕ). Some t) (sym pair.writes);
        format_is = ap format_in (here ∙ now)
            ∙ opened_format before whole.copies.gate (generation + 1) _ frames;
        generation_is = ap generation_in (here ∙ now)
            ∙ opened_generation before whole.copies.gate (generation + 1) _ frames few ∙ sym second;
        header = holds.header;
        frames = subst (λ (b : List ℕ). HasFrames b holds.header (payloads kind.Short nothing j))
            (sym (here ∙ sym (read_file two' (1 - r.file)))) holds.frames;
        end_is = end;
        legal = holds.legal;
        within = holds.within;
        bounded = subst (λ (e : ℕ). e + room_of kind.Short (facts j) ≤ MAX_JOURNAL) (sym end)
            holds.bounded;
        stands_for = laws.stand clients (read_files two') (1 - r.file) kind.Short j holds;
      }
