-- A frame copied, call by call.
use Rattle.std.proofs.Common.{◌≡◌, ◌≢◌, ℕ, ◌+◌, ◌-◌, ◌^◌, ◌<◌, Bool, true, false, List, [], ◌∷◌}
use Rattle.std.proofs.Common.{◌++◌, length, take, drop, Option, None, Some, Result, Ok, Err, inl}
use Rattle.std.proofs.Common.{inr, refl, sym, ap, subst, ◌∙◌, arith}
use Rattle.std.specs.Prelude.{◌&&◌, ◌==◌}
use Rattle.std.specs.Option.{ForSome}
use Rattle.std.proofs.Common.{append-nil, append_assoc}
use Rattle.std.proofs.lemmas.Bool.{ne_eqb}
use Rattle.std.proofs.lemmas.Bool.Decides.{nat_tests}
use Rattle.outside.specs.Files.{Two, File, NothingPending, file_of, read_files}
use Rattle.outside.specs.Frames.{HasFrames, closed, end_of, frame_at, is_open}
use Rattle.outside.specs.Frames as frames_of
use Rattle.outside.specs.Links.{sent_of}
use Rattle.outside.specs.Outside.{OnlyReads, MomentsAre, Outside}
use Rattle.outside.specs.Steps.{FileMoment, PassedMoments, other_of}
use Rattle.outside.proofs.CallSteps.{moments_map}
use Rattle.outside.specs.Frames.{IsAtRest}
use Rattle.frame_journal.specs.Append.{payload_of}
use Rattle.frame_journal.specs.Gathering.{Gathered, GathersFrames, WritesPayloads}
use Rattle.frame_journal.specs.Group.{BeforeOrWithAll, IsJoined}
use Rattle.frame_journal.proofs.Framed.{payload_framed}
use Rattle.frame_journal.proofs.GroupSteps.{joined_none, none_joined}
use Rattle.frame_journal.proofs.Waiting.{frames_long}
use Rattle.frame_journal.specs.Journal.{JournalValue}
use Rattle.frame_journal.specs.Next.{IsNextFrame, NextFrame}
use Rattle.sync_rules.specs.declared.entries.Entry.{Entry}
use Rattle.sync_rules.specs.Clients.{Meaning}
use Rattle.sync_rules.specs.Facts.{Facts, facts, nothing}
use Rattle.entry_codec.specs.declared.naming.Format.TheVariants as kind
use Rattle.entry_codec.specs.Payloads.{batch_in, batch_of, names_of, payload, payloads}
use Rattle.entry_codec.specs.Payloads.{spellings}
use Rattle.entry_codec.specs.Fronts.{Front}
use Rattle.entry_codec.proofs.FrontLaws.{front_more}
use Rattle.entry_codec.proofs.Growing.{facts_push, payloads_push}
use Rattle.journal_migration.specs.Cited.{MigrationLaws}
use Rattle.journal_migration.specs.Copying.{CopiesBatches, GathersBatches, GathersNext, GathersSo}
use Rattle.journal_migration.specs.Copying.{IsAtLastGate, OwesFrames}
use Rattle.journal_migration.specs.Copying.{IsPair, IsRespelled, brought_by, counted_to}
use Rattle.journal_migration.specs.Copying.{header_mark}
use Rattle.journal_migration.specs.Migrating.{HoldsFirst, KeepsJournal, StandsStill}
use Rattle.journal_migration.specs.declared.fault.MigrationFault.{MigrationFault}
use Rattle.journal_migration.specs.declared.fault.MigrationFault.TheVariants as fault
use Rattle.journal_migration.proofs.Brought.{all_held}
use Rattle.journal_migration.proofs.FirstIds.{names_few, names_front}
use Rattle.journal_migration.proofs.Fronts.{frame_granted, front_moves, rest_front}
use Rattle.journal_migration.proofs.Keeping.{keeps_looks, keeps_map, keeps_then, shut_still}
use Rattle.journal_migration.proofs.Sides.{holds_on, own_file, read_file}

-- ---- a header that is not open

not_second : (a b c d e g : Bool) → b ≡ false → (a && b && c && d && e && g) ≡ false
not_second true true c d e g is = cc
not_second false true c d e g is = cc
not_second true false c d e g is = refl
not_second false false c d e g is = refl

pub shut_header : (bytes : List ℕ) (gate : ℕ) (rest : List ℕ) (ps : List (List ℕ)) → HasFrames bytes
    (gate ∷ rest) ps → gate ≢ 1 → is_open bytes ≡ false
shut_header bytes gate rest ps frames shut =
    ap is_open frames.whole ∙ not_second _ (gate == 1) _ _ _ _ (ne_eqb gate 1 shut)

-- ---- no frame was copied

module _ (clients : Meaning) (f : Facts) (generation : ℕ) (j : List (List Entry))
    (r r' n : JournalValue) (g : List ℕ) (count : ℕ) (o o1 : Outside) (two : Two File)
    (told : o.files ≡ Some two)
    (pair : IsPair r n) (copies : GathersBatches clients f generation j r n g count two)
    (looks : OnlyReads o o1) where
  looked : KeepsJournal clients j (λ t. t ≡ two) o o1
  looked = keeps_looks clients j r.file generation o o1 two pair.reads copies.owes.holds told looks

  -- the reader is at the closed gate
  pub copied_all : r' ≡ r → frame_at (file_of two r.file).now (r.end - 1) ≡ closed
      → GathersNext clients f generation j r.file r' n g count o o1 (Ok None)
  copied_all same shut =
      keeps_map clients j (λ t.
      t ≡ two) (GathersSo clients f generation j r.file r' n g count (Ok None)) o o1
      (λ t is.
      let At : Two File → JournalValue
      → Type 0 = λ t v. GathersBatches clients f generation j v n g count t × IsAtLastGate v t in
      let here : At two r =
      (copies, ap (λ (b : List ℕ). frame_at b (r.end - 1)) (read_file two r.file) ∙ shut) in
      subst (λ (v : JournalValue). At t v) (sym same)
      (subst (λ (s : Two File). At s r) (sym is) here)) looked

-- ---- a frame was read

counted : (count brought all more held : ℕ) → count ≡ all → brought ≡ counted_to more
    → held ≡ all + more → held < 2 ^ 32 → counted_to (count + brought) ≡ held
counted count brought all more held is by sum few = grind (arith, nat_tests)

-- and is to be written
pub read_owes : MigrationLaws → (clients : Meaning) (f : Facts) (generation : ℕ)
    (j : List (List Entry)) (r r' n : JournalValue) (waiting : List (List ℕ))
    (count brought : ℕ) (to framed : List ℕ) (two : Two File)
    → OwesFrames clients f generation j r n waiting count two → length f.held < 2 ^ 32
    → NextFrame (file_of two r.file).now r r' to
    → IsRespelled (take count (names_of f)) to framed brought
    → OwesFrames clients f generation j r' n (waiting ++ payload_of framed ∷ [])
    (counted_to (count + brought)) two
read_owes laws clients f generation j r r' n waiting count brought to framed two owes few next
    respelled =
    let own = r.file in
    let done = owes.done in
    let batch = respelled.batch in
    let bytes = file_of (read_files two) own in
    -- the names are those of the messages held before the batch
    let names : take count (names_of f) ≡ names_of (facts done) =
    ap (λ (c : ℕ). take c (names_of f)) owes.counted
    ∙ ap (λ (g : Facts). take (length (facts done).held) (names_of g)) (sym owes.facts_are)
    ∙ names_front j done owes.left owes.goes_on in
    let some : batch_of kind.Whole (facts done) to ≡ Some batch =
    ap (λ (ids : List (List ℕ)). batch_in kind.Whole ids to) (sym names) ∙ respelled.read in
    let is : to ≡ payload kind.Whole (facts done) batch = respelled.spelled
    ∙ ap (λ (ids : List (List ℕ)). spellings kind.Whole ids batch) names in
    let at : frame_at bytes (r.end - 1) ≡ frames_of.framed to =
    ap (λ (b : List ℕ). frame_at b (r.end - 1)) (read_file two own) ∙ next.frame in
    let behind : drop (r.end - 1) bytes ≡ _ = ap (drop (r.end - 1)) (read_file two own)
    ∙ next.spelled in
    let granted = frame_granted clients (read_files two) own kind.Whole done j r.end to batch
    owes.front owes.holds.stands_for at some in
    let more = front_more clients (read_files two) own kind.Whole done r.end to next.behind batch
    owes.front at behind some is respelled.within granted
    ((laws.decided clients (facts done) batch).0 granted) in
    let p : payload_of framed ≡ payload kind.Short (facts done) batch =
    ap payload_of respelled.framed_is
    ∙ payload_framed (spellings kind.Short (take count (names_of f)) batch)
    ∙ ap (λ (ids : List (List ℕ)). spellings kind.Short ids batch) names in
    let on = rest_front clients kind.Whole own bytes (r.end + 5 + length to - 1)
    (done ++ batch ∷ []) j (sym more.going ∙ owes.holds.stands_for) in
    let held : length (facts (done ++ batch ∷ [])).held ≡ length (facts done).held
    + brought_by batch =
    ap (λ (g : Facts). length g.held) (facts_push done batch) ∙ all_held (facts done) batch in
    let few_held : length (facts (done ++ batch ∷ [])).held < 2 ^ 32 =
    omega (
      arith,
      names_few j (done ++ batch ∷ []) on.0 on.1,
      ap (λ (g : Facts). length g.held) owes.facts_are,
      few,
    ) in
    let At : JournalValue
    → Type 0 =
    λ v. Front clients (read_files two) v.file kind.Whole (done ++ batch ∷ []) v.end in
    let Held : JournalValue → Type 0 = λ v. HoldsFirst clients v.file generation j two in
    record {
      holds = subst Held (sym next.moved) owes.holds;
      facts_are = owes.facts_are;
      done = done ++ batch ∷ [];
      front = subst At (sym next.moved) more;
      left = on.0;
      goes_on = on.1;
      gate = owes.gate;
      closed = owes.closed;
      kept = owes.kept;
      parts =
          sym (append_assoc owes.kept waiting (payload_of framed ∷ []))
          ∙ ap (λ (l : List (List ℕ)). l ++ payload_of framed ∷ []) owes.parts
          ∙ ap (λ (q : List ℕ). payloads kind.Short nothing done ++ q ∷ []) p
          ∙ sym (payloads_push kind.Short nothing done batch);
      frames = owes.frames;
      end_is = owes.end_is;
      counted = counted count brought (length (facts done).held) (brought_by batch)
          (length (facts (done ++ batch ∷ [])).held) owes.counted respelled.brings held few_held;
    }

-- ---- frames were written

module _ (clients : Meaning) (f : Facts) (generation : ℕ) (j : List (List Entry))
    (r n : JournalValue) (count : ℕ) (two : Two File)
    (reads_one : r.file < 2) (writes_other : n.file ≡ 1 - r.file) (waiting : List (List ℕ))
    (owes : OwesFrames clients f generation j r n waiting count two) where
  -- the first of those that waited
  pub written_owes : (n' : JournalValue) (written rest : List (List ℕ)) (two' : Two File)
      → written ++ rest ≡ waiting → WritesPayloads n n' written (Some two) (Some two')
      → NothingPending two' n.file
      → OwesFrames clients f generation j r n' rest count two'
  written_owes n' written rest two' parts writes settled =
      let own = r.file in
      let other = 1 - own in
      let appends = writes.adds in
      -- the reader's file is as it was
      let this : file_of two' own ≡ file_of two own =
      own_file two' own reads_one ∙ ap (λ (t : ℕ). other_of two' t) (sym writes_other)
      ∙ appends.other ∙ ap (λ (t : ℕ). other_of two t) writes_other
      ∙ sym (own_file two own reads_one) in
      let reads : file_of (read_files two') own ≡ file_of (read_files two) own =
      read_file two' own
      ∙ ap (λ (x : File). x.now) this ∙ sym (read_file two own) in
      let header = owes.gate ∷ header_mark (generation + 1) in
      let frames : HasFrames (file_of two' n.file).now header (owes.kept ++ written) =
      appends.frames header owes.kept owes.frames owes.end_is in
      let pending : NothingPending two' other =
      subst (NothingPending two') writes_other settled in
      let shut : is_open (file_of two' other).now ≡ false =
      ap (λ (t : ℕ). is_open (file_of two' t).now) (sym writes_other)
      ∙ shut_header (file_of two' n.file).now owes.gate (header_mark (generation + 1)) _ frames
      owes.closed in
      let holds = holds_on clients own generation j two two' reads_one owes.holds this pending
      shut in
      let front = front_moves clients (read_files two) (read_files two') own kind.Whole owes.done
      r.end owes.front holds.found reads in
      record {
        holds = holds;
        facts_are = owes.facts_are;
        done = owes.done;
        front = front;
        left = owes.left;
        goes_on = owes.goes_on;
        gate = owes.gate;
        closed = owes.closed;
        kept = owes.kept ++ written;
        parts =
            append_assoc owes.kept written rest
            ∙ ap (λ (l : List (List ℕ)). owes.kept ++ l) parts ∙ owes.parts;
        frames =
            subst (λ (t : ℕ). HasFrames (file_of two' t).now header (owes.kept ++ written))
            (sym writes.grows.file_is) frames;
        end_is = omega (arith, writes.grows.end_is, owes.end_is, frames_long owes.kept written);
        counted = owes.counted;
      }

  -- at each moment the files stand for the journal
  pub written_still : (g : List ℕ) (o o' : Outside) → IsJoined waiting g
      → PassedMoments two o o' n.file (BeforeOrWithAll (file_of two n.file).now n.end g)
      → MomentsAre o o' (StandsStill clients j (sent_of o.links.told))
  written_still g o o' joined passed =
      let Q : List ℕ → Type 0 = BeforeOrWithAll (file_of two n.file).now n.end g in
      let sent = sent_of o.links.told in
      let there : PassedMoments two o o' (1 - r.file) Q =
      subst (λ (t : ℕ). PassedMoments two o o' t Q) writes_other passed in
      moments_map o o' (FileMoment Q two sent (1 - r.file)) (StandsStill clients j sent)
      (λ m moment.
      let shut : is_open (file_of m.files (1 - r.file)) ≡ false =
      elim (moment.this waiting (owes.gate ∷ header_mark (generation + 1)) owes.kept joined
      owes.frames owes.end_is) [
        | inl before ↦ shut_header (file_of m.files (1 - r.file)) owes.gate
            (header_mark (generation + 1)) _ before owes.closed
        | inr with_it ↦ shut_header (file_of m.files (1 - r.file)) owes.gate
            (header_mark (generation + 1)) _ with_it owes.closed
      ] in
      shut_still clients j r.file generation two reads_one owes.holds Q sent m moment shut)
      there

-- frames were gathered, of which the last is this
pub gathered_owes : (clients : Meaning) (f : Facts) (generation : ℕ) (j : List (List Entry))
    (r n n' : JournalValue) (g g' : List ℕ) (waiting added : List (List ℕ)) (count : ℕ)
    (o1 o2 : Option (Two File)) (two t : Two File) → r.file < 2 → n.file ≡ 1 - r.file
    → IsJoined waiting g
    → OwesFrames clients f generation j r n (waiting ++ added) count two
    → GathersFrames n n' g g' added o1 o2 → ForSome o2 (λ x. IsAtRest x n'.file n'.end)
    → o1 ≡ Some two → o2 ≡ Some t
    → GathersBatches clients f generation j r n' g' count t
gathered_owes clients f generation j r n n' g g' waiting added count o1 o2 two t few other joined
    owes gathers rests before after =
    let all = waiting ++ added in
    let at : Gathered n n' g' all (Some two) (Some t) =
    subst (λ (x : Option (Two File)). Gathered n n' g' all (Some two) x) after
    (subst (λ (x : Option (Two File)). Gathered n n' g' all x o2) before
    (gathers.each waiting joined)) in
    let settled : NothingPending t n.file =
    subst (λ (k : ℕ). NothingPending t k) at.writes.grows.file_is (rests t after).settled in
    record {
      waiting = at.rest;
      joined = at.joined;
      owes = written_owes clients f generation j r n count two few other all owes n' at.written at.rest
          t at.parts at.writes settled;
    }

-- ---- what copying a frame answers

copied_by : (clients : Meaning) (f : Facts) (generation : ℕ) (j : List (List Entry))
    (r r' n n' : JournalValue) (g g' : List ℕ) (count : ℕ) (o o1 : Outside) (two : Two File)
    → o.files ≡ Some two → IsPair r n
    → GathersBatches clients f generation j r n g count two → OnlyReads o o1 → (e : MigrationFault)
    → GathersNext clients f generation j r.file r' n' g' count o o1 (Err e)
copied_by clients f generation j r r' n n' g g' count o o1 two told pair copies looks
    fault.Memory =
    keeps_map clients j (λ t.
    t ≡ two) (GathersSo clients f generation j r.file r' n' g' count (Err fault.Memory)) o o1
    (λ t is. subst (HoldsFirst clients r.file generation j) (sym is) copies.owes.holds)
    (keeps_looks clients j r.file generation o o1 two pair.reads copies.owes.holds told looks)
copied_by clients f generation j r r' n n' g g' count o o1 two told pair copies looks
    fault.DiskFault =
    keeps_map clients j (λ t.
    t ≡ two) (GathersSo clients f generation j r.file r' n' g' count (Err fault.DiskFault)) o o1
    (λ t is. tt)
    (keeps_looks clients j r.file generation o o1 two pair.reads copies.owes.holds told looks)

-- nothing was written
pub copied_not : (clients : Meaning) (f : Facts) (generation : ℕ) (j : List (List Entry))
    (r r' n n' : JournalValue) (g g' : List ℕ) (count : ℕ) (o o1 : Outside) (two : Two File)
    → o.files ≡ Some two → IsPair r n
    → GathersBatches clients f generation j r n g count two → OnlyReads o o1
    → (e : MigrationFault) (result : Result (Option ℕ) MigrationFault) → result ≡ Err e
    → GathersNext clients f generation j r.file r' n' g' count o o1 result
copied_not clients f generation j r r' n n' g g' count o o1 two told pair copies looks e result
    is =
    subst (λ (x : Result (Option ℕ) MigrationFault).
    GathersNext clients f generation j r.file r' n' g' count o o1 x) (sym is)
    (copied_by clients f generation j r r' n n' g g' count o o1 two told pair copies looks e)

-- the disk failed at those that waited
pub copied_cut : (clients : Meaning) (f : Facts) (generation : ℕ) (j : List (List Entry))
    (r r' n n' : JournalValue) (g g' : List ℕ) (count : ℕ) (o o1 o2 : Outside) (two : Two File)
    → o.files ≡ Some two → IsPair r n → GathersBatches clients f generation j r n g count two
    → OnlyReads o o1
    → ((t : Two File) → o1.files ≡ Some t
    → PassedMoments t o1 o2 n.file (BeforeOrWithAll (file_of t n.file).now n.end g))
    → (result : Result (Option ℕ) MigrationFault) → result ≡ Err fault.DiskFault
    → GathersNext clients f generation j r.file r' n' g' count o o2 result
copied_cut clients f generation j r r' n n' g g' count o o1 o2 two told pair copies looks passed
    result is =
    let P : Two File → Type 0 =
    GathersSo clients f generation j r.file r' n' g' count (Err fault.DiskFault) in
    let there : o1.files ≡ Some two = looks.same_files ∙ told in
    subst (λ (x : Result (Option ℕ) MigrationFault).
    GathersNext clients f generation j r.file r' n' g' count o o2 x) (sym is)
    (keeps_then clients j (λ t. t ≡ two) P o o1 o2 two told looks.run
    (keeps_looks clients j r.file generation o o1 two pair.reads copies.owes.holds told looks)
    (λ mid at same. record {
      moments = written_still clients f generation j r n count two pair.reads pair.writes copies.waiting
          copies.owes g o1 o2 copies.joined (passed two there);
      ends = λ t end. tt;
    }))

-- a frame more was copied, or waits
pub copied_one : MigrationLaws → (clients : Meaning) (f : Facts) (generation : ℕ)
    (j : List (List Entry)) (r r' n n' : JournalValue) (g g' : List ℕ) (count brought : ℕ)
    (to framed : List ℕ) (o o1 o2 : Outside) (two : Two File)
    → o.files ≡ Some two → IsPair r n → GathersBatches clients f generation j r n g count two
    → OnlyReads o o1
    → ((t : Two File) → o1.files ≡ Some t
    → PassedMoments t o1 o2 n.file (BeforeOrWithAll (file_of t n.file).now n.end g))
    → GathersFrames n n' g g' (payload_of framed ∷ []) o1.files o2.files
    → ForSome o2.files (λ x. IsAtRest x n'.file n'.end) → length f.held < 2 ^ 32
    → NextFrame (file_of two r.file).now r r' to
    → IsRespelled (take count (names_of f)) to framed brought
    → GathersNext clients f generation j r.file r' n' g' count o o2 (Ok (Some brought))
copied_one laws clients f generation j r r' n n' g g' count brought to framed o o1 o2 two told pair
    copies looks passed gathers rests few next respelled =
    let P : Two File → Type 0 =
    GathersSo clients f generation j r.file r' n' g' count (Ok (Some brought)) in
    let there : o1.files ≡ Some two = looks.same_files ∙ told in
    let moved : r'.file ≡ r.file = ap (λ (v : JournalValue). v.file) next.moved in
    let reads : r'.file < 2 = subst (λ (k : ℕ). k < 2) (sym moved) pair.reads in
    let writes : n.file ≡ 1 - r'.file = pair.writes ∙ ap (λ (k : ℕ). 1 - k) (sym moved) in
    keeps_then clients j (λ t. t ≡ two) P o o1 o2 two told looks.run
    (keeps_looks clients j r.file generation o o1 two pair.reads copies.owes.holds told looks)
    (λ mid at same. record {
      moments = written_still clients f generation j r n count two pair.reads pair.writes copies.waiting
          copies.owes g o1 o2 copies.joined (passed two there);
      ends = λ t end.
          gathered_owes clients f generation j r' n n' g g' copies.waiting (payload_of framed ∷ [])
          (counted_to (count + brought)) o1.files o2.files two t reads writes copies.joined
          (read_owes laws clients f generation j r r' n copies.waiting count brought to framed two
          copies.owes few next respelled)
          gathers rests there end;
    })

-- ---- where none waits

pub copies_owes : (clients : Meaning) (f : Facts) (generation : ℕ) (j : List (List Entry))
    (r n : JournalValue) (g : List ℕ) (count : ℕ) (two : Two File) → g ≡ 0 ∷ []
    → CopiesBatches clients f generation j r n count two
    → GathersBatches clients f generation j r n g count two
copies_owes clients f generation j r n g count two is copies = record {
  waiting = [];
  joined = subst (IsJoined []) (sym is) joined_none;
  owes = record {
    holds = copies.holds;
    facts_are = copies.facts_are;
    done = copies.done;
    front = copies.front;
    left = copies.left;
    goes_on = copies.goes_on;
    gate = copies.gate;
    closed = copies.closed;
    kept = payloads kind.Short nothing copies.done;
    parts = append-nil (payloads kind.Short nothing copies.done);
    frames = copies.frames;
    end_is = copies.end_is;
    counted = copies.counted;
  };
}

pub owes_copies : (clients : Meaning) (f : Facts) (generation : ℕ) (j : List (List Entry))
    (r n : JournalValue) (g : List ℕ) (count : ℕ) (two : Two File) → g ≡ 0 ∷ []
    → GathersBatches clients f generation j r n g count two
    → CopiesBatches clients f generation j r n count two
owes_copies clients f generation j r n g count two is gathers =
    let owes = gathers.owes in
    let none : gathers.waiting ≡ [] =
    none_joined gathers.waiting (subst (IsJoined gathers.waiting) is gathers.joined) in
    let all : owes.kept ≡ payloads kind.Short nothing owes.done =
    sym (append-nil owes.kept) ∙ ap (λ (l : List (List ℕ)). owes.kept ++ l) (sym none)
    ∙ owes.parts in
    record {
      holds = owes.holds;
      facts_are = owes.facts_are;
      done = owes.done;
      front = owes.front;
      left = owes.left;
      goes_on = owes.goes_on;
      gate = owes.gate;
      closed = owes.closed;
      frames =
          subst (HasFrames (file_of two n.file).now (owes.gate ∷ header_mark (generation + 1))) all
          owes.frames;
      end_is = owes.end_is ∙ ap end_of all;
      counted = owes.counted;
    }

-- ---- answers of the reader

pub next_false : (bytes : List ℕ) (r r' : JournalValue) (to : List ℕ) (more : Bool) → more ≡ false
    → IsNextFrame bytes r r' to (Ok more) → (frame_at bytes (r.end - 1) ≡ closed) × (r' ≡ r)
next_false bytes r r' to more is next =
    let P : Bool → Type 0 = λ b. IsNextFrame bytes r r' to (Ok b) in subst P is next

pub next_true : (bytes : List ℕ) (r r' : JournalValue) (to : List ℕ) (more : Bool) → more ≡ true
    → IsNextFrame bytes r r' to (Ok more) → NextFrame bytes r r' to
next_true bytes r r' to more is next =
    let P : Bool → Type 0 = λ b. IsNextFrame bytes r r' to (Ok b) in subst P is next
