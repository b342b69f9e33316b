-- A store that gains a batch.
use Rattle.std.proofs.Common.{◌≡◌, ◌⊎◌, ℕ, ◌+◌, ◌*◌, ◌≤◌, ◌<◌, Bool, true, false, eqb, nat_lt}
use Rattle.std.proofs.Common.{List, [], ◌∷◌, length, map, Option, Result, Ok, Err, IsErr, refl, sym}
use Rattle.std.proofs.Common.{ap, ◌∙◌, subst, inl, inr, arith, append-nil}
use Rattle.std.specs.List.{AllByRecursion}
use Rattle.std.proofs.lemmas.Bool.Decides.{nat_tests}
use Rattle.outside.specs.Files.{Two, File}
use Rattle.outside.specs.Outside.{Outside, MakesCalls}
use Rattle.outside.proofs.CallCounts.{most_none}
use Rattle.frame_journal.specs.Append.{IsFramed, framed_of, payload_of}
use Rattle.frame_journal.specs.Group.{IsGroup, group_len}
use Rattle.sync_rules.specs.declared.entries.Entry.{Entry}
use Rattle.sync_rules.specs.declared.limits.TheConstants.{MAX_STEPS}
use Rattle.sync_rules.specs.Allows.{is_account_kind}
use Rattle.sync_rules.specs.Clients.{Meaning}
use Rattle.sync_rules.specs.Facts.{Facts, after_all}
use Rattle.sync_rules.specs.Left.{left_of}
use Rattle.sync_rules.proofs.LeftLaws.{steps_lower}
use Rattle.sync_rules.specs.Legal.{Allowed, IsSettling}
use Rattle.sync_rules.specs.Steps.{IsSettled, answer_of}
use Rattle.sync_rules.proofs.WorkLaws.{allowed_settling}
use Rattle.entry_codec.specs.declared.naming.Format.{Format}
use Rattle.entry_codec.specs.Payloads.{names_of, payload, payload_len, spellings}
use Rattle.entry_codec.proofs.LawProofs.{batch_len_same}
use Rattle.entry_codec.specs.Spelling.{IsEntry}
use Rattle.entry_codec.specs.Standing.{room_of, step_len}
use Rattle.sync_store.specs.declared.fault.StoreFault.{StoreFault}
use Rattle.sync_store.specs.declared.fault.StoreFault.TheVariants as fault
use Rattle.sync_store.specs.Cited.{StoreLaws}
use Rattle.sync_store.specs.Store.{HasNumbers, IsStore, StoreValue, counts_to, format_meant}
use Rattle.sync_store.specs.Store.{written_in}
use Rattle.sync_store.specs.Commits.{GainsBatch, MayAdd, needed}
use Rattle.sync_store.specs.Gathering.{GathersSo, GathersSteps, IsOneBatch}
use Rattle.sync_store.specs.Groups.{HasGathered, HasGroupRoom}
use Rattle.sync_store.specs.Moments.{groups_for, journal_with}
use Rattle.sync_store.specs.Ready.{IsReady}
use Rattle.sync_store.proofs.FitSteps.{IsSame, fits_some_same, framed_len}
use Rattle.sync_store.proofs.GroupSteps.{JoinsFrame, gathered_more, gathered_same, group_some}
use Rattle.sync_store.proofs.GroupSteps.{joins_group}
use Rattle.sync_store.proofs.FormatLaws.{room_framed, room_less, steps_few, steps_some}
use Rattle.frame_journal.proofs.Framed.{framed_as, framed_length, payload_framed}
use Rattle.sync_store.proofs.OldKinds.{allowed_old, kinds_of, settling_old}
use Rattle.sync_store.proofs.Limits.{counts_more}
use Rattle.sync_store.proofs.Steps.{names_stay, numbers_stay}

-- ---- numbers

grown_numbers : StoreLaws → (clients : Meaning) (f : Facts) (batch : List Entry) (end later : ℕ)
    → Allowed clients f batch → HasNumbers f end → end + 1 ≤ later
    → HasNumbers (after_all f batch) later
grown_numbers laws clients f batch end later allowed numbers far =
    let added = laws.add_one clients f batch allowed in
    record {
      held = omega (arith, added.0, numbers.held);
      sessions = omega (arith, added.1, numbers.sessions);
      records = λ session. omega (
        arith,
        laws.take_one clients f batch session allowed,
        numbers.records session,
      );
    }

-- the numbers of a store that gained a batch
pub grown_store : StoreLaws → (clients : Meaning) (s new : StoreValue) (batch : List Entry)
    (framed : List ℕ) → IsStore s → MayAdd clients s batch framed → GainsBatch s new batch
    → IsGroup new.waiting → IsStore new
grown_store laws clients s new batch framed store may gains waits =
    let long : length framed ≡ 5 + payload_len (written_in s) batch =
    framed_len s batch framed may.is_framed may.payload_is in
    let room : room_of (written_in new) new.state.facts
    ≡ room_of (written_in s) (after_all s.state.facts batch) =
    ap (λ (f : Facts). room_of (written_in new) f) gains.facts
    ∙ ap (λ n. room_of (format_meant n) (after_all s.state.facts batch)) gains.format in
    record {
      waits = waits;
      limited = omega (arith, store.limited, gains.limit);
      roomy = omega (arith, may.still_roomy, gains.end, long, room);
      numbers =
          subst (λ (f : Facts). HasNumbers f (counts_to (written_in new) new.end)) (sym gains.facts)
          (subst (λ (n : ℕ). HasNumbers (after_all s.state.facts batch)
          (counts_to (format_meant n) new.end)) (sym gains.format)
          (grown_numbers laws clients s.state.facts batch (counts_to (written_in s) s.end)
          (counts_to (written_in s) new.end) may.allowed store.numbers
          (counts_more (written_in s) s.end new.end (omega (arith, gains.end)))));
    }

-- a store whose state made steps keeps its numbers
pub stepped_store : (clients : Meaning) (s new : StoreValue) (es : List Entry) → IsStore s
    → IsSettling clients s.state.facts es → new.state.facts ≡ after_all s.state.facts es
    → new.end ≡ s.end
    → new.waiting ≡ s.waiting → new.limit ≡ s.limit → new.format ≡ s.format → IsStore new
stepped_store clients s new es store settling facts end waiting limit format =
    let fewer = steps_lower clients s.state.facts es settling in
    let left : left_of new.state.facts ≤ left_of s.state.facts =
    omega (arith, fewer, ap left_of facts) in
    let room : room_of (written_in new) new.state.facts ≡ room_of (written_in s) new.state.facts =
    ap (λ n. room_of (format_meant n) new.state.facts) format in
    record {
      waits = subst IsGroup (sym waiting) store.waits;
      limited = omega (arith, store.limited, limit);
      roomy = omega (
        arith,
        store.roomy,
        room_less (written_in s) (left_of new.state.facts) (left_of s.state.facts) left,
        room,
        end,
      );
      numbers =
          subst (λ (n : ℕ). HasNumbers new.state.facts (counts_to (written_in new) n)) (sym end)
          (subst (λ (n : ℕ). HasNumbers new.state.facts (counts_to (format_meant n) s.end))
          (sym format)
          (subst (λ (f : Facts). HasNumbers f (counts_to (written_in s) s.end)) (sym facts)
          (numbers_stay clients s.state.facts es (counts_to (written_in s) s.end) settling
          store.numbers)));
    }

-- a store that is ready is so once there is room for a batch
pub ready_same : (clients : Meaning) (s new : StoreValue) (files : Option (Two File))
    → IsReady clients s files → IsSame s new → new.state.answers ≡ s.state.answers
    → new.closed ≡ false
    → IsReady clients new files
ready_same clients s new files ready same answers still = record {
  still_open = still;
  none_waits = same.waiting ∙ ready.none_waits;
  knows =
      answers ∙ ready.knows ∙ ap (λ (f : Facts). map (answer_of clients f) f.held) (sym same.facts);
  fits = fits_some_same clients s new files ready.fits same;
}

-- ---- a batch in its frame

payload_by : (p framed : List ℕ) → framed ≡ framed_of p → payload_of framed ≡ p
payload_by p framed is = ap payload_of is ∙ payload_framed p

length_by : (p framed : List ℕ) → framed ≡ framed_of p → length framed ≡ 5 + length p
length_by p framed is = ap length is ∙ framed_length p

-- what a commit found of its batch
pub may_add : StoreLaws → (clients : Meaning) (s new : StoreValue) (batch : List Entry)
    (framed : List ℕ) → IsStore s → new.state.facts ≡ s.state.facts → new.end ≡ s.end
    → new.format ≡ s.format → Allowed clients s.state.facts batch → is_account_kind batch ≡ false
    → AllByRecursion IsEntry batch
    → framed ≡ framed_of (payload (written_in s) s.state.facts batch)
    → needed s batch ≤ s.limit
    → MayAdd clients new batch framed
may_add laws clients s new batch framed store facts end format allowed plain within is fits =
    let kind = written_in s in
    let p = payload kind s.state.facts batch in
    let short = laws.fit clients s.state.facts kind batch allowed within in
    let len = batch_len_same kind (names_of s.state.facts) batch in
    let same : written_in new ≡ kind = ap format_meant format in
    let room : room_of (written_in new) new.state.facts ≡ room_of kind s.state.facts =
    ap (λ (f : Facts). room_of (written_in new) f) facts
    ∙ ap (λ (k : Format). room_of k s.state.facts) same in
    let after : room_of (written_in new) (after_all new.state.facts batch)
    ≡ room_of kind (after_all s.state.facts batch) =
    ap (λ (f : Facts). room_of (written_in new) (after_all f batch)) facts
    ∙ ap (λ (k : Format). room_of k (after_all s.state.facts batch)) same in
    record {
      allowed = subst (λ (f : Facts). Allowed clients f batch) (sym facts) allowed;
      kinds =
          kinds_of (written_in new) batch (allowed_old clients s.state.facts batch allowed plain);
      within = within;
      is_framed = framed_as p framed is (omega (arith, short.0, len), omega (arith, short.1, len));
      payload_is =
          payload_by p framed is ∙ ap (λ (k : Format). payload k s.state.facts batch) (sym same)
          ∙ ap (λ (f : Facts). payload (written_in new) f batch) (sym facts);
      roomy = omega (arith, store.roomy, end, room);
      still_roomy = omega (arith, store.limited, fits, end, after, length_by p framed is, len);
    }

-- ---- a settling batch in its frame

-- a store, the facts that its state came to by some steps, and the frame of those
pub record Filled (clients : Meaning) (s : StoreValue) (facts : Facts) (es : List Entry)
    (framed : List ℕ) : Type 0 where
  pub settling : IsSettling clients s.state.facts es
  pub some : 1 ≤ length es
  pub few : length es ≤ MAX_STEPS
  pub facts_are : facts ≡ after_all s.state.facts es
  pub within : AllByRecursion IsEntry es
  pub framed_is : framed ≡ framed_of (payload (written_in s) s.state.facts es)
  pub long : payload_len (written_in s) es ≡ step_len (written_in s) * length es
  pub store : IsStore s
  pub still : s.closed ≡ false

pub filled_may : (clients : Meaning) (s : StoreValue) (facts : Facts) (es : List Entry)
    (framed : List ℕ) → Filled clients s facts es framed → MayAdd clients s es framed
filled_may clients s facts es framed f =
    let kind = written_in s in
    let p = payload kind s.state.facts es in
    let len = batch_len_same kind (names_of s.state.facts) es in
    let fewer = steps_lower clients s.state.facts es f.settling in
    let frame = room_framed kind (left_of (after_all s.state.facts es)) (length es)
    (left_of s.state.facts) fewer f.some in
    record {
      allowed = allowed_settling clients s.state.facts es (f.some, f.few, f.settling);
      kinds = kinds_of kind es (settling_old clients s.state.facts es f.settling);
      within = f.within;
      is_framed =
          framed_as p framed f.framed_is (
            omega (arith, f.long, len, steps_some kind (length es) f.some),
            omega (arith, f.long, len, f.few, steps_few kind (length es)),
          );
      payload_is = payload_by p framed f.framed_is;
      roomy = f.store.roomy;
      still_roomy =
          omega (arith, f.store.roomy, frame, f.long, len, length_by p framed f.framed_is);
    }

filled_less : (clients : Meaning) (s : StoreValue) (facts : Facts) (es : List Entry)
    (framed : List ℕ) → Filled clients s facts es framed → left_of facts < left_of s.state.facts
filled_less clients s facts es framed f =
    let fewer = steps_lower clients s.state.facts es f.settling in
    let same : left_of facts ≡ left_of (after_all s.state.facts es) = ap left_of f.facts_are in
    omega (arith, fewer, same, f.some)

-- ---- the frame waits

-- a store after the steps, of which the frame waits
pub record Came (s new : StoreValue) (facts : Facts) (framed : List ℕ) : Type 0 where
  pub facts_are : new.state.facts ≡ facts
  pub file : new.file ≡ s.file
  pub format : new.format ≡ s.format
  pub generation : new.generation ≡ s.generation
  pub end : new.end ≡ s.end + length framed
  pub limit : new.limit ≡ s.limit
  pub closed : new.closed ≡ false
  pub joins : JoinsFrame framed s.waiting new.waiting
  pub long : length new.waiting ≡ length s.waiting + length framed

filled_len : (clients : Meaning) (s : StoreValue) (facts : Facts) (es : List Entry)
    (framed : List ℕ) → Filled clients s facts es framed
    → length framed ≡ 5 + payload_len (written_in s) es
filled_len clients s facts es framed f =
    omega (
      arith,
      length_by (payload (written_in s) s.state.facts es) framed f.framed_is,
      batch_len_same (written_in s) (names_of s.state.facts) es,
    )

pub filled_gains : (clients : Meaning) (s new : StoreValue) (facts : Facts) (es : List Entry)
    (framed : List ℕ) → Filled clients s facts es framed → Came s new facts framed
    → GainsBatch s new es
filled_gains clients s new facts es framed f came = record {
  facts = came.facts_are ∙ f.facts_are;
  file = came.file;
  format = came.format;
  generation = came.generation;
  end = omega (arith, came.end, filled_len clients s facts es framed f);
  limit = came.limit;
  closed = came.closed;
}

-- its frame is one that may be added
pub filled_framed : (clients : Meaning) (s : StoreValue) (facts : Facts) (es : List Entry)
    (framed : List ℕ) → Filled clients s facts es framed → IsFramed framed
filled_framed clients s facts es framed f = (filled_may clients s facts es framed f).is_framed

pub filled_store : StoreLaws → (clients : Meaning) (s new : StoreValue) (facts : Facts)
    (es : List Entry) (framed : List ℕ) → Filled clients s facts es framed
    → Came s new facts framed → IsStore new
filled_store laws clients s new facts es framed f came =
    grown_store laws clients s new es framed f.store (filled_may clients s facts es framed f)
    (filled_gains clients s new facts es framed f came)
    (joins_group framed s.waiting new.waiting came.joins f.store.waits)

-- the batch was gathered, by an answer that suits it
pub filled_steps : (clients : Meaning) (s new : StoreValue) (facts : Facts)
    (es : List Entry) (framed : List ℕ) (result : Result (Unit {0}) StoreFault)
    → Filled clients s facts es framed
    → Came s new facts framed → HasGroupRoom s → GathersSo clients s new (es ∷ []) result
    → GathersSteps clients s new result
filled_steps clients s new facts es framed result f came room so =
    let may = filled_may clients s facts es framed f in
    let gains = filled_gains clients s new facts es framed f came in
    record {
      more = es ∷ [];
      few = omega arith;
      settling = ((f.some, f.few, f.settling), tt);
      facts = gains.facts;
      format = came.format;
      end = omega (arith, came.end, filled_len clients s facts es framed f, f.long);
      gathers = λ before waits g.
          gathered_more clients before s new waits es framed g may gains came.joins came.long room;
      closed = came.closed;
      answer = so;
    }

-- the batch is full, or no step is left
pub filled_whole : (clients : Meaning) (s new : StoreValue) (facts : Facts)
    (es : List Entry) (framed : List ℕ) (n : ℕ) (u : Unit {0}) → Filled clients s facts es framed
    → Came s new facts framed → HasGroupRoom s
    → length es ≡ n → (n ≡ MAX_STEPS) ⊎ IsSettled clients facts
    → GathersSteps clients s new (Ok u)
filled_whole clients s new facts es framed n u f came room long full =
    let less : left_of new.state.facts < left_of s.state.facts =
    subst (λ (g : Facts). left_of g < left_of s.state.facts) (sym came.facts_are)
    (filled_less clients s facts es framed f) in
    let each : IsOneBatch clients new (es ∷ []) =
    elim full [
      | inl all ↦ inl (long ∙ all, tt)
      | inr settled ↦ inr (subst (λ (g : Facts). IsSettled clients g) (sym came.facts_are) settled)
    ] in
    filled_steps clients s new facts es framed (Ok u) f came room (less, each)

-- no step was made: memory was wanting
pub starved_none : (clients : Meaning) (s new : StoreValue) (e : StoreFault) → IsSame s new
    → new.limit ≡ s.limit → new.closed ≡ false → e ≡ fault.Memory → GathersSteps clients s new (Err e)
starved_none clients s new e same limit still is = record {
  more = [];
  few = omega arith;
  settling = tt;
  facts = same.facts;
  format = same.format;
  end = omega (arith, same.end);
  gathers = λ before waits g.
      subst (HasGathered clients before new) (sym (append-nil waits))
      (gathered_same clients before s new waits g same limit);
  closed = still;
  answer = subst (λ (x : StoreFault). GathersSo clients s new [] (Err x)) (sym is) tt;
}

-- ---- what tests say

pub with_none : (j : List (List Entry)) (batch : List Entry) (result : Result (Unit {0}) StoreFault)
    → IsErr result → j ≡ journal_with j batch result
with_none j batch (Ok u) err = cc
with_none j batch (Err e) err = refl

-- an error for which no call was made
pub no_calls : (result : Result (Unit {0}) StoreFault) (o : Outside) → IsErr result
    → MakesCalls 4 result o o
no_calls (Ok u) o err = cc
no_calls (Err e) o err = record { just = tt; most = most_none 4 o }

pub some_by : (none : Bool) (n m : ℕ) → none ≡ eqb n 0 → none ≡ false → m ≡ n → 1 ≤ m
some_by none n m is no_one same = grind (arith, nat_tests)

pub none_by : (none : Bool) (n m : ℕ) → none ≡ eqb n 0 → none ≡ true → m ≡ n → m ≡ 0
none_by none n m is no_one same = grind (arith, nat_tests)

pub fits_by : (full : Bool) (limit n : ℕ) → full ≡ nat_lt limit n → full ≡ false → n ≤ limit
fits_by full limit n is not_full = grind (arith, nat_tests)

pub length_nil : {A : Type 0} (xs : List A) → length xs ≡ 0 → xs ≡ []
length_nil [] none = refl
length_nil (x ∷ xs) none = absurd (omega (arith, none))

-- what a buffer of steps and the frame of them say of each other
pub filled_from : (clients : Meaning) (s : StoreValue) (format : Format) → format ≡ written_in s
    → (facts : Facts) (items es : List Entry) (bytes framed : List ℕ) → es ≡ items
    → IsSettling clients s.state.facts items → facts ≡ after_all s.state.facts items
    → 1 ≤ length es → length es ≤ MAX_STEPS → AllByRecursion IsEntry es → framed ≡ bytes
    → bytes ≡ framed_of (spellings format (names_of facts) es)
    → length (spellings format (names_of facts) es) ≡ step_len format * length es → IsStore s
    → s.closed ≡ false → Filled clients s facts es framed
filled_from clients s format kind facts items es bytes framed same settling facts_are some few
    within is spelled long store still = record {
      settling =
          subst (λ (xs : List Entry). IsSettling clients s.state.facts xs) (sym same) settling;
      some = some;
      few = few;
      facts_are = facts_are ∙ ap (λ (xs : List Entry). after_all s.state.facts xs) (sym same);
      within = within;
      framed_is =
          is ∙ spelled ∙ ap (λ (k : Format). framed_of (spellings k (names_of facts) es)) kind
          ∙ ap (λ (names : List (List ℕ)). framed_of (spellings (written_in s) names es))
          (ap names_of facts_are ∙ names_stay clients s.state.facts items settling);
      long =
          sym (batch_len_same (written_in s) (names_of facts) es)
          ∙ subst (λ (k : Format). length (spellings k (names_of facts) es)
          ≡ step_len k * length es)
          kind long;
      store = store;
      still = still;
    }
