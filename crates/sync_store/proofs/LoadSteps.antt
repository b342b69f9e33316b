-- Steps of a load.
use Rattle.std.proofs.Common.{◌≡◌, ℕ, zero, suc, ◌+◌, ◌-◌, ◌<◌, ◌≤◌, Bool, true, false, List, []}
use Rattle.std.proofs.Common.{◌∷◌, ◌++◌, length, drop, refl, sym, ap, subst, inl, inr, ◌∙◌, arith}
use Rattle.std.proofs.Common.{length-append}
use Rattle.std.specs.Prelude.{Option, Some, Result, Ok, Err}
use Rattle.sync_rules.specs.Clients.{Meaning}
use Rattle.sync_rules.specs.Facts.{Facts, after_all, facts}
use Rattle.sync_rules.specs.Allows.{allows}
use Rattle.outside.specs.Files.{Two, File, file_of, read_files}
use Rattle.outside.specs.Frames.{broken, format_in, frame_at, framed, generation_in}
use Rattle.outside.specs.declared.disk.Place.{Place}
use Rattle.frame_journal.specs.Journal.{JournalValue}
use Rattle.frame_journal.specs.Next.{IsNextFrame, MovesReader, NextFrame}
use Rattle.frame_journal.specs.declared.fault.FrameFault.{FrameFault}
use Rattle.frame_journal.specs.declared.fault.FrameFault.TheVariants as frame
use Rattle.entry_codec.specs.declared.naming.Format.{Format}
use Rattle.entry_codec.specs.Naming.{format_of}
use Rattle.entry_codec.specs.Payloads.{batch_of, payload}
use Rattle.entry_codec.proofs.Growing.{facts_push}
use Rattle.entry_codec.specs.Standing.{Standing, damaged, room_of}
use Rattle.file_standing.specs.Standing.{stands}
use Rattle.entry_codec.specs.Fronts.{Front}
use Rattle.entry_codec.proofs.FrontLaws.{front_broken, front_full, front_more, front_refused}
use Rattle.entry_codec.proofs.FrontLaws.{front_unread}
use Rattle.journal_state.specs.Whole.{StateValue}
use Rattle.outside.specs.declared.limits.TheConstants.{MAX_JOURNAL}
use Rattle.sync_store.specs.Cited.{StoreLaws}
use Rattle.sync_store.specs.Store.{HasNumbers, format_meant}
use Rattle.sync_store.specs.Faults.{load_of_frame}
use Rattle.sync_store.specs.declared.fault.LoadFault.{LoadFault}
use Rattle.sync_store.specs.declared.fault.LoadFault.TheVariants as load
use Rattle.sync_store.specs.Loading.{AreDamaged, HasItsRoom, HasPlayedFrame, HasReadBatches}
use Rattle.sync_store.specs.Loading.{HasReadSome, IsAtJournalEnd, IsPayloadRefused, PlaysFrame}
use Rattle.sync_store.specs.Loading.{ReadsWholeJournal, PlayedSoFar, PlaysNextFrame}

-- a file of the two as they read
pub as_read : (two : Two File) (file : ℕ) → file_of (read_files two) file ≡ (file_of two file).now
as_read two zero = refl
as_read two (suc _) = refl

-- a place of damage in the words of an answer
same_place : (st : Standing) (file at : ℕ) (place : Place) → st ≡ damaged file at
    → place.file ≡ file → place.at ≡ at → st ≡ damaged place.file place.at
same_place st file at place e f a =
    e ∙ ap (λ (n : ℕ). damaged n at) (sym f) ∙ ap (λ (n : ℕ). damaged place.file n) (sym a)

-- ---- the next frame

-- the frame that was read, of the files as they read
next_frame_at : (two : Two File) (j j' : JournalValue) (to : List ℕ)
    → NextFrame (file_of two j.file).now j j' to
    → frame_at (file_of (read_files two) j.file) (j.end - 1) ≡ framed to
next_frame_at two j j' to next =
    ap (λ (b : List ℕ). frame_at b (j.end - 1)) (as_read two j.file) ∙ next.frame

-- one batch more
has_more : StoreLaws → (clients : Meaning) (two : Two File) (j j' : JournalValue)
    (s s' : StateValue) (to : List ℕ) → HasReadBatches clients two j s
    → NextFrame (file_of two j.file).now j j' to
    → HasPlayedFrame clients (format_meant j'.format) s s' to → HasReadBatches clients two j' s'
has_more laws clients two j j' s s' to read next played =
    let same = read.facts_are in
    let format = format_meant j.format in
    let as_before : format_meant j'.format ≡ format =
    ap (λ (v : JournalValue). format_meant v.format) next.moved in
    let granted : allows clients (facts read.done) played.batch ≡ true =
    ap (λ (f : Facts). allows clients f played.batch) same ∙ played.allowed in
    let spelled : drop (j.end - 1) (file_of (read_files two) j.file) ≡ _ =
    ap (drop (j.end - 1)) (as_read two j.file) ∙ next.spelled in
    let batch_is : batch_of format (facts read.done) to ≡ Some played.batch =
    ap (λ (f : Facts). batch_of format f to) same
    ∙ ap (λ (k : Format). batch_of k s.facts to) (sym as_before) ∙ played.read in
    let payload_is : to ≡ payload format (facts read.done) played.batch =
    played.spelled ∙ ap (λ (k : Format). payload k s.facts played.batch) as_before
    ∙ ap (λ (f : Facts). payload format f played.batch) (sym same) in
    let more = front_more clients (read_files two) j.file format read.done j.end to next.behind
    played.batch read.front (next_frame_at two j j' to next) spelled batch_is payload_is
    played.within granted
    ((laws.decided clients (facts read.done) played.batch).0 granted) in
    let Long : JournalValue → Type 0 = λ v. length (file_of two v.file).now ≡ v.len in
    let Generation : JournalValue → Type 0 = λ v. generation_in (file_of two v.file).now
    ≡ v.generation in
    let Known : JournalValue → Type 0 = λ v. format_of v.format ≡ Some (format_meant v.format) in
    let Formatted : JournalValue → Type 0 = λ v. format_in (file_of two v.file).now ≡ v.format in
    let At : JournalValue
    → Type 0 = λ v. Front clients (read_files two) v.file (format_meant v.format)
    (read.done ++ played.batch ∷ []) v.end in
    record {
      long = subst Long (sym next.moved) read.long;
      known_format = subst Known (sym next.moved) read.known_format;
      format_is = subst Formatted (sym next.moved) read.format_is;
      known_generation = subst Generation (sym next.moved) read.known_generation;
      done = read.done ++ played.batch ∷ [];
      front = subst At (sym next.moved) more;
      facts_are = facts_push read.done played.batch
          ∙ ap (λ (f : Facts). after_all f played.batch) same ∙ sym played.facts_are;
    }

-- it is one more
pub more_read : StoreLaws → (clients : Meaning) (two : Two File) (j j' : JournalValue)
    (s s' : StateValue) (to : List ℕ) (batches : ℕ) → HasReadSome clients two j s batches
    → NextFrame (file_of two j.file).now j j' to
    → HasPlayedFrame clients (format_meant j'.format) s s' to
    → HasReadSome clients two j' s' (batches + 1)
unfolding has_more
more_read laws clients two j j' s s' to batches some next played = record {
  read = has_more laws clients two j j' s s' to some.read next played;
  counted = length-append some.read.done (played.batch ∷ []) ∙ ap (λ n. n + 1) some.counted;
}

-- the counts after a batch are bounded by the end behind its frame
more_numbers : StoreLaws → (clients : Meaning) (format : Format) (s s' : StateValue) (to : List ℕ)
    (end end' : ℕ) → HasPlayedFrame clients format s s' to → HasNumbers s.facts end → end + 1 ≤ end'
    → HasNumbers s'.facts end'
more_numbers laws clients format s s' to end end' played numbers far =
    let allowed = (laws.decided clients s.facts played.batch).0 played.allowed in
    let added = laws.add_one clients s.facts played.batch allowed in
    let grown : HasNumbers (after_all s.facts played.batch) end' = record {
      held = omega (arith, added.0, numbers.held);
      sessions = omega (arith, added.1, numbers.sessions);
      records = λ session. omega (
        arith,
        laws.take_one clients s.facts played.batch session allowed,
        numbers.records session,
      );
    } in
    subst (λ (f : Facts). HasNumbers f end') (sym played.facts_are) grown

pub turn_more : StoreLaws → (clients : Meaning) (files files' : Option (Two File))
    (j j' : JournalValue) (s s' : StateValue) (to : List ℕ) → PlayedSoFar clients files j s
    → files' ≡ files → ((two : Two File) → files ≡ Some two
    → NextFrame (file_of two j.file).now j j' to) → MovesReader j j' (Ok true)
    → HasPlayedFrame clients (format_meant j'.format) s s' to
    → PlayedSoFar clients files' j' s' × (j.end < j'.end) × (j'.file ≡ j.file)
turn_more laws clients files files' j j' s s' to so_far same next moves played =
    let far : j.end + 6 ≤ j'.end = moves.3 in
    let last : j'.last ≡ j.end - 1 = moves.2 in (
      record {
        knows = played.knows;
        numbers = more_numbers laws clients (format_meant j'.format) s s' to j.end j'.end played
            so_far.numbers (omega arith);
        started = omega (arith, so_far.started);
        bounded = moves.7;
        begun = λ early. absurd (omega (arith, so_far.started));
        known = λ two told. let told' = sym same ∙ told in
            has_more laws clients two j j' s s' to (so_far.known two told') (next two told') played;
      },
      omega arith,
      moves.0,
    )

-- ---- damage

pub turn_broken : (clients : Meaning) (files files' : Option (Two File)) (j : JournalValue)
    (s : StateValue) (place : Place) → PlayedSoFar clients files j s → files' ≡ files
    → ((two : Two File) → files ≡ Some two
    → (frame_at (file_of two j.file).now (j.end - 1) ≡ broken) × (place.file ≡ j.file)
    × (place.at ≡ j.end - 1)) → AreDamaged clients files' place
turn_broken clients files files' j s place so_far same next two told =
    let told' = sym same ∙ told in
    let read = so_far.known two told' in
    let is = next two told' in
    same_place (stands clients (read_files two)) j.file (j.end - 1) place
    (front_broken clients (read_files two) j.file (format_meant j.format) read.done j.end read.front
    (ap (λ (b : List ℕ). frame_at b (j.end - 1)) (as_read two j.file) ∙ is.0)) is.1 is.2

refused_at : (clients : Meaning) (two : Two File) (j j' : JournalValue) (s : StateValue)
    (to : List ℕ) → HasReadBatches clients two j s → NextFrame (file_of two j.file).now j j' to
    → IsPayloadRefused clients (format_meant j'.format) s to
    → stands clients (read_files two) ≡ damaged j.file (j.end - 1)
refused_at clients two j j' s to read next (inl none) =
    let format = format_meant j.format in
    let as_before : format_meant j'.format ≡ format =
    ap (λ (v : JournalValue). format_meant v.format) next.moved in
    front_unread clients (read_files two) j.file format read.done j.end to read.front
    (next_frame_at two j j' to next)
    (ap (λ (f : Facts). batch_of format f to) read.facts_are
    ∙ ap (λ (k : Format). batch_of k s.facts to) (sym as_before) ∙ none)
refused_at clients two j j' s to read next (inr (batch, some, refused)) =
    let format = format_meant j.format in
    let as_before : format_meant j'.format ≡ format =
    ap (λ (v : JournalValue). format_meant v.format) next.moved in
    front_refused clients (read_files two) j.file format read.done j.end to batch read.front
    (next_frame_at two j j' to next)
    (ap (λ (f : Facts). batch_of format f to) read.facts_are
    ∙ ap (λ (k : Format). batch_of k s.facts to) (sym as_before) ∙ some)
    (ap (λ (f : Facts). allows clients f batch) read.facts_are ∙ refused)

pub turn_refused : (clients : Meaning) (files files' : Option (Two File)) (j j' : JournalValue)
    (s : StateValue) (to : List ℕ) (place : Place) → PlayedSoFar clients files j s → files' ≡ files
    → ((two : Two File) → files ≡ Some two → NextFrame (file_of two j.file).now j j' to)
    → MovesReader j j' (Ok true)
    → (place.file ≡ j'.file) × (place.at ≡ j'.last)
    × IsPayloadRefused clients (format_meant j'.format) s to → AreDamaged clients files' place
turn_refused clients files files' j j' s to place so_far same next moves refused two told =
    let told' = sym same ∙ told in
    same_place (stands clients (read_files two)) j.file (j.end - 1) place
    (refused_at clients two j j' s to (so_far.known two told') (next two told') refused.2)
    (refused.0 ∙ moves.0) (refused.1 ∙ moves.2)

pub room_refused : (clients : Meaning) (files : Option (Two File)) (j : JournalValue)
    (s : StateValue) (place : Place) → PlayedSoFar clients files j s → IsAtJournalEnd files j
    → (place.file ≡ j.file) × (place.at ≡ j.end - 1)
    × (MAX_JOURNAL < j.end + room_of (format_meant j.format) s.facts)
    → AreDamaged clients files place
room_refused clients files j s place so_far at_end refused two told =
    let read = so_far.known two told in
    let over : MAX_JOURNAL < j.end + room_of (format_meant j.format) (facts read.done) =
    subst (λ (f : Facts). MAX_JOURNAL < j.end + room_of (format_meant j.format) f)
    (sym read.facts_are) refused.2 in
    same_place (stands clients (read_files two)) j.file (j.end - 1) place
    (front_full clients (read_files two) j.file (format_meant j.format) read.done j.end read.front
    (at_end two told) over) refused.0 refused.1

-- ---- the end of the journal

pub all_read : (clients : Meaning) (files : Option (Two File)) (j : JournalValue) (s : StateValue)
    (r : Result (Unit {0}) LoadFault) → PlayedSoFar clients files j s → IsAtJournalEnd files j
    → HasItsRoom j s r → ReadsWholeJournal clients files j s r
all_read clients files j s (Ok u) so_far at_end room =
    record { so_far = so_far; at_end = at_end; roomy = room }
all_read clients files j s (Err load.NoStore) so_far at_end room = room
all_read clients files j s (Err (load.Damaged place)) so_far at_end room =
    room_refused clients files j s place so_far at_end room
all_read clients files j s (Err load.DiskFault) so_far at_end room = tt
all_read clients files j s (Err load.Memory) so_far at_end room = tt

-- ---- what a turn answers

-- the frame was played
pub turn_played : StoreLaws → (clients : Meaning) (files files' : Option (Two File))
    (j j' : JournalValue) (s s' : StateValue) (to : List ℕ) (u : Unit {0})
    → PlayedSoFar clients files j s
    → files' ≡ files → ((two : Two File) → files ≡ Some two
    → NextFrame (file_of two j.file).now j j' to) → MovesReader j j' (Ok true)
    → PlaysFrame clients j' s s' to (Ok u) → PlaysNextFrame clients files' j j' s' (Ok true)
turn_played laws clients files files' j j' s s' to u so_far same next moves played =
    turn_more laws clients files files' j j' s s' to so_far same next moves played

-- it was not
pub turn_unplayed : (clients : Meaning) (files files' : Option (Two File)) (j j' : JournalValue)
    (s s' : StateValue) (to : List ℕ) (e : LoadFault) → PlayedSoFar clients files j s
    → files' ≡ files → ((two : Two File) → files ≡ Some two
    → NextFrame (file_of two j.file).now j j' to) → MovesReader j j' (Ok true)
    → PlaysFrame clients j' s s' to (Err e) → PlaysNextFrame clients files' j j' s' (Err e)
turn_unplayed clients files files' j j' s s' to load.NoStore so_far same next moves played = played
turn_unplayed clients files files' j j' s s' to (load.Damaged place) so_far same next moves played =
    turn_refused clients files files' j j' s to place so_far same next moves played
turn_unplayed clients files files' j j' s s' to load.DiskFault so_far same next moves played = tt
turn_unplayed clients files files' j j' s s' to load.Memory so_far same next moves played = tt

-- no frame was read
pub turn_unread : (clients : Meaning) (files files' : Option (Two File)) (j j' : JournalValue)
    (s : StateValue) (to : List ℕ) (e : FrameFault) → PlayedSoFar clients files j s → files' ≡ files
    → ((two : Two File) → files ≡ Some two → IsNextFrame (file_of two j.file).now j j' to (Err e))
    → PlaysNextFrame clients files' j j' s (Err (load_of_frame e))
turn_unread clients files files' j j' s to frame.Memory so_far same next = tt
turn_unread clients files files' j j' s to frame.DiskFault so_far same next = tt
turn_unread clients files files' j j' s to (frame.Damaged place) so_far same next =
    turn_broken clients files files' j s place so_far same (λ two told. let there = next two told in
    (there.0, there.1, there.2))

-- ---- the answers of a reader of frames

pub next_true : (bytes : List ℕ) (j j' : JournalValue) (to : List ℕ) (more : Bool) → more ≡ true
    → IsNextFrame bytes j j' to (Ok more) → NextFrame bytes j j' to
next_true bytes j j' to more is next =
    let P : Bool → Type 0 = λ b. IsNextFrame bytes j j' to (Ok b) in subst P is next

pub moves_true : (j j' : JournalValue) (more : Bool) → more ≡ true → MovesReader j j' (Ok more)
    → MovesReader j j' (Ok true)
moves_true j j' more is moves =
    let P : Bool → Type 0 = λ b. MovesReader j j' (Ok b) in subst P is moves

pub turns_false : (clients : Meaning) (files : Option (Two File)) (j j' : JournalValue)
    (s : StateValue) (more : Bool) → more ≡ false → PlaysNextFrame clients files j j' s (Ok more)
    → PlayedSoFar clients files j' s × IsAtJournalEnd files j' × (j'.file ≡ j.file)
turns_false clients files j j' s more is turn =
    let P : Bool → Type 0 = λ b. PlaysNextFrame clients files j j' s (Ok b) in subst P is turn

pub turns_true : (clients : Meaning) (files : Option (Two File)) (j j' : JournalValue)
    (s : StateValue) (more : Bool) → more ≡ true → PlaysNextFrame clients files j j' s (Ok more)
    → PlayedSoFar clients files j' s × (j.end < j'.end) × (j'.file ≡ j.file)
turns_true clients files j j' s more is turn =
    let P : Bool → Type 0 = λ b. PlaysNextFrame clients files j j' s (Ok b) in subst P is turn

pub played_as : (clients : Meaning) (j : JournalValue) (s s' : StateValue) (to to' : List ℕ)
    (r : Result (Unit {0}) LoadFault) → to ≡ to' → PlaysFrame clients j s s' to r
    → PlaysFrame clients j s s' to' r
played_as clients j s s' to to' r is played =
    let P : List ℕ → Type 0 = λ l. PlaysFrame clients j s s' l r in subst P is played
