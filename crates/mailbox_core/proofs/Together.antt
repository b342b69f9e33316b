-- Batches that come behind those that wait of a store: none, one, settling, some behind others; and
-- all of them added.
use Rattle.std.proofs.Common.{◌≡◌, ℕ, ◌+◌, ◌≤◌, Bool, true, false, List, [], ◌∷◌, ◌++◌, length}
use Rattle.std.proofs.Common.{refl, sym, ap, ◌∙◌, subst, arith, append-nil, append_assoc, Some}
use Rattle.std.proofs.Common.{length-append, Result, Ok, Err}
use Rattle.std.proofs.lemmas.Bool.{false≢true}
use Rattle.std.proofs.lemmas.Grind.{flat_map-append}
use Rattle.std.specs.List.{flat_map}
use Rattle.frame_journal.specs.Group.{IsJoined}
use Rattle.outside.specs.Files.{Two, File}
use Rattle.outside.specs.Frames.{frame_of}
use Rattle.outside.specs.Outside.{DiskRun, Outside}
use Rattle.outside.proofs.CallSteps.{run_none, run_then, told_on}
use Rattle.sync_rules.specs.declared.entries.Entry.{Entry}
use Rattle.sync_rules.specs.declared.entries.Entry.TheVariants as entry
use Rattle.sync_rules.specs.Allows.{is_settling_kind}
use Rattle.sync_rules.specs.Clients.{Meaning}
use Rattle.sync_rules.specs.EntryTests.{IsSettlingEntry}
use Rattle.sync_rules.specs.Facts.{Facts, after_all, after_batches, facts, nothing}
use Rattle.sync_rules.specs.Legal.{AllSettling, IsSettlingBatch}
use Rattle.sync_rules.proofs.Continuing.{facts-append}
use Rattle.sync_rules.proofs.Settling.{after_batches-append}
use Rattle.sync_rules.proofs.StepLaws.{next_is_settling}
use Rattle.entry_codec.specs.declared.naming.Format.{Format}
use Rattle.entry_codec.specs.Payloads.{journal_end, payload, payload_len, payloads}
use Rattle.entry_codec.specs.Standing.{room_of}
use Rattle.sync_store.specs.declared.fault.StoreFault.{StoreFault}
use Rattle.sync_store.specs.declared.fault.StoreFault.TheVariants as fault
use Rattle.sync_store.specs.Commits.{needed}
use Rattle.sync_store.specs.Fitting.{FitsFiles, ImagesStand}
use Rattle.sync_store.specs.Gathering.{AddsBehind, GathersBehind}
use Rattle.sync_store.specs.Gathering.{JoinsBehind, KeepsBatches, SettlesBehind, SettlesSoFar}
use Rattle.sync_store.specs.Groups.{HasGathered, IsGathering}
use Rattle.sync_store.specs.Rooms.{AreRoomy, needed_in}
use Rattle.sync_store.specs.Settling.{SettlesSo}
use Rattle.sync_store.specs.Store.{IsStore, NoneWaits, StoreValue, format_meant, written_in}
use Rattle.mailbox_core.specs.Together.{ComesBehind, ComesInGroups, FindRoom, joined_by}
use Rattle.sync_store.proofs.Behind.{added_all, adds_format, adds_limit, behind_adds, behind_format}
use Rattle.sync_store.proofs.Behind.{behind_limit, behind_none, behind_then}
use Rattle.sync_store.proofs.Gathered.{gathered_none, stays_itself}
use Rattle.sync_store.proofs.Runs.{runs_nothing}

abbrev Batches : Type 0
Batches = List (List Entry)

true≢false : {P : Type 0} (b : Bool) → b ≡ true → b ≡ false → P
true≢false b is not = absurd (let e : true ≡ false = sym is ∙ not in cc)

-- ---- the journal with those that wait

payloads_append : (format : Format) (f : Facts) (xs ys : Batches)
    → payloads format f (xs ++ ys) ≡ payloads format f xs ++ payloads format (after_batches f xs) ys
payloads_append format f [] ys = refl
payloads_append format f (b ∷ bs) ys =
    ap (λ (ps : List (List ℕ)). payload format f b ∷ ps)
    (payloads_append format (after_all f b) bs ys)

joined_len : (ps : List (List ℕ)) (waiting : List ℕ) → IsJoined ps waiting
    → length waiting ≡ length (flat_map frame_of ps) + 1
joined_len ps waiting joined =
    omega (arith, ap length joined.spelled, length-append (flat_map frame_of ps) (0 ∷ []))

-- the end of the frames with further ones
end_with : (format : Format) (j more : Batches)
    → journal_end format (j ++ more)
    ≡ journal_end format j + length (flat_map frame_of (payloads format (facts j) more))
end_with format j more =
    let first = payloads format nothing j in
    let behind = payloads format (facts j) more in
    omega (
      arith,
      ap (λ (ps : List (List ℕ)). length (flat_map frame_of ps))
          (payloads_append format nothing j more),
      ap length (flat_map-append frame_of first behind),
      length-append (flat_map frame_of first) (flat_map frame_of behind),
    )

-- where a store ends and which facts it has, by the journal with the batches that wait
record IsOf (s : StoreValue) (j : Batches) : Type 0 where
  ends : s.end ≡ journal_end (written_in s) j
  same : facts j ≡ s.state.facts

waiting_of : (clients : Meaning) (before s : StoreValue) (waits j : Batches) (two : Two File)
    → HasGathered clients before s waits → FitsFiles clients before j two → IsOf s (j ++ waits)
waiting_of clients before s waits j two g fits =
    let kind = written_in before in
    record {
      ends =
          omega (
            arith,
            g.end,
            fits.end_is,
            end_with kind j waits,
            ap (λ (f : Facts). length (flat_map frame_of (payloads kind f waits))) fits.facts_are,
            joined_len (payloads kind before.state.facts waits) s.waiting g.joined,
            ap (λ n. journal_end (format_meant n) (j ++ waits)) g.format,
          );
      same =
          facts-append j waits ∙ ap (λ (f : Facts). after_batches f waits) fits.facts_are
          ∙ sym g.facts;
    }

-- ---- room

weighed : (s : StoreValue) (j : Batches) (batch : List Entry) → IsOf s j
    → needed s batch ≡ needed_in (written_in s) j batch
weighed s j batch is =
    λ i. is.ends i + 5 + payload_len (written_in s) batch
    + room_of (written_in s) (after_all (sym is.same i) batch)

-- one batch finds the room that a call saw
one_room : (clients : Meaning) (s : StoreValue) (o : Outside) (batch : List Entry)
    → needed s batch ≤ s.limit → FindRoom clients s o (batch ∷ [])
one_room clients s o batch within before kept waits g two told j fits =
    let sum = weighed s (j ++ waits) batch (waiting_of clients before s waits j two g fits) in
    (λ plain. omega (arith, sum, within), tt)

settling_kind : (e : Entry) (es : List Entry) → IsSettlingEntry e → is_settling_kind (e ∷ es) ≡ true
settling_kind (entry.Judged id) es k = refl
settling_kind (entry.Deliver id) es k = refl
settling_kind (entry.Invalid id) es k = refl
settling_kind _ es k = absurd k

batch_kind : (clients : Meaning) (f : Facts) (b : List Entry) → IsSettlingBatch clients f b
    → is_settling_kind b ≡ true
batch_kind clients f [] s = absurd (omega arith)
batch_kind clients f (e ∷ es) s = settling_kind e es (next_is_settling clients f e s.2.0)

-- settling has its room
settling_roomy : (clients : Meaning) (f : Facts) (format : Format) (limit : ℕ) (j bs : Batches)
    → AllSettling clients f bs → AreRoomy format limit j bs
settling_roomy clients f format limit j [] s = tt
settling_roomy clients f format limit j (b ∷ bs) s = (
  λ kind. absurd (false≢true (sym kind ∙ batch_kind clients f b s.0)),
  settling_roomy clients (after_all f b) format limit (j ++ b ∷ []) bs s.1,
)

roomy_both : (format : Format) (limit : ℕ) (j xs ys : Batches) → AreRoomy format limit j xs
    → AreRoomy format limit (j ++ xs) ys → AreRoomy format limit j (xs ++ ys)
roomy_both format limit j [] ys a b =
    subst (λ (k : Batches). AreRoomy format limit k ys) (append-nil j) b
roomy_both format limit j (x ∷ xs) ys a b = (
  a.0,
  roomy_both format limit (j ++ x ∷ []) xs ys a.1
      (subst (λ (k : Batches). AreRoomy format limit k ys) (sym (append_assoc j (x ∷ []) xs)) b),
)

module _ (clients : Meaning) where
  -- behind batches of which some were added
  room_behind : (s0 s1 : StoreValue) (o0 o1 : Outside) (xs ys : Batches)
      → GathersBehind clients s0 s1 o0 o1 xs → FindRoom clients s1 o1 ys → (before : StoreValue)
      → IsStore before → (waits : Batches) → HasGathered clients before s0 waits → (two : Two File)
      → o0.files ≡ Some two → (j : Batches) → FitsFiles clients before j two
      → AreRoomy (written_in s1) s1.limit ((j ++ waits) ++ xs) ys
  room_behind s0 s1 o0 o1 xs ys first room before kept waits g two told j fits =
      let u = first.on before kept waits g in
      let there = told_on o0 o1 two u.runs.run.same_told told in
      let mid = (u.runs.leads two told j fits).ends u.gathered.opened there.0 there.1 in
      let fits_mid : FitsFiles clients u.mid (j ++ u.done) there.0 =
      subst (λ (k : Batches). FitsFiles clients u.mid k there.0) mid.1 mid.2 in
      subst (λ (k : Batches). AreRoomy (written_in s1) s1.limit k ys)
      (append_assoc j u.done u.rest ∙ ap (λ (l : Batches). j ++ l) u.parts
      ∙ sym (append_assoc j waits xs))
      (room u.mid u.kept u.rest u.gathered there.0 there.1 (j ++ u.done) fits_mid)

  -- ---- none, and one

  pub comes_none : ImagesStand → (s : StoreValue) (o : Outside) → s.closed ≡ false
      → ComesBehind clients s s o o []
  comes_none images s o still = record {
    run = run_none o;
    facts = λ opened. refl;
    format = refl;
    limit = refl;
    roomy = λ before kept waits g two told j fits. tt;
    waits = λ opened. behind_none clients images s o;
    broken = λ closed. true≢false s.closed closed still;
  }

  stayed : (s s' : StoreValue) (o o' : Outside) → DiskRun o o' → KeepsBatches s s'
      → (s'.closed ≡ false → GathersBehind clients s s' o o' [])
      → (s'.closed ≡ true → AddsBehind clients s s' o o' []) → ComesBehind clients s s' o o' []
  stayed s s' o o' run same waits broken = record {
    run = run;
    facts = λ opened. same.facts;
    format = same.format;
    limit = same.limit;
    roomy = λ before kept waits g two told j fits. tt;
    waits = waits;
    broken = broken;
  }

  -- a call that gathers one batch
  pub comes_joined : (s s' : StoreValue) (batch : List Entry) (result : Result (Unit {0}) StoreFault)
      (o o' : Outside) → DiskRun o o' → JoinsBehind clients s s' batch result o o'
      → ComesBehind clients s s' o o' (joined_by batch result)
  comes_joined s s' batch (Ok u) o o' run joins = record {
    run = run;
    facts = λ opened. joins.1.facts;
    format = joins.1.format;
    limit = joins.1.limit;
    roomy = one_room clients s o batch joins.0;
    waits = λ opened. joins.2;
    broken = λ closed. true≢false s'.closed closed joins.1.closed;
  }
  comes_joined s s' batch (Err fault.Full) o o' run joins =
      stayed s s' o o' run joins.1 (λ opened. joins.3)
      (λ closed. true≢false s'.closed closed joins.2)
  comes_joined s s' batch (Err fault.Memory) o o' run joins =
      stayed s s' o o' run joins.1 (λ opened. joins.3)
      (λ closed. true≢false s'.closed closed joins.2)
  comes_joined s s' batch (Err fault.DiskFault) o o' run joins =
      stayed s s' o o' run joins.0 (λ opened. true≢false s'.closed joins.1 opened) (λ closed. joins.2)
  comes_joined s s' batch (Err fault.Closed) o o' run joins = absurd joins

  -- ---- settling

  steps_so : (s s' : StoreValue) (more : Batches) (result : Result (Unit {0}) StoreFault)
      (o o' : Outside) → SettlesSoFar clients s s' more result o o'
      → (s'.closed ≡ false → GathersBehind clients s s' o o' more)
      × (s'.closed ≡ true → AddsBehind clients s s' o o' more) × SettlesSo clients s' result
  steps_so s s' more (Ok u) o o' so =
      (λ opened. so.1, λ closed. true≢false s'.closed closed so.0, (so.0, so.2))
  steps_so s s' more (Err fault.Memory) o o' so =
      (λ opened. so.1, λ closed. true≢false s'.closed closed so.0, so.0)
  steps_so s s' more (Err fault.DiskFault) o o' so =
      (λ opened. true≢false s'.closed so.0 opened, λ closed. so.1, so.0)
  steps_so s s' more (Err fault.Closed) o o' so = absurd so
  steps_so s s' more (Err fault.Full) o o' so = absurd so

  pub comes_steps : (s s' : StoreValue) (result : Result (Unit {0}) StoreFault) (o o' : Outside)
      → DiskRun o o' → IsGathering clients s o.files → (on : SettlesBehind clients s s' result o o')
      → ComesBehind clients s s' o o' on.more
  comes_steps s s' result o o' run gathering on =
      let so = steps_so s s' on.more result o o' on.answer in
      let same = by_closed s'.closed refl so.0 so.1 in
      record {
        run = run;
        facts = λ opened. on.steps.facts;
        format = same.0;
        limit = same.1;
        roomy = λ before kept waits g two told j fits.
            settling_roomy clients s.state.facts (written_in s) s.limit (j ++ waits) on.more
            on.steps.settling;
        waits = so.0;
        broken = so.1;
      }
    where
      by_closed : (b : Bool) → s'.closed ≡ b
          → (s'.closed ≡ false → GathersBehind clients s s' o o' on.more)
          → (s'.closed ≡ true → AddsBehind clients s s' o o' on.more)
          → (s'.format ≡ s.format) × (s'.limit ≡ s.limit)
      by_closed false is waits broken = (
        behind_format clients s s' o o' on.more gathering (waits is),
        behind_limit clients s s' o o' on.more gathering (waits is),
      )
      by_closed true is waits broken = (
        adds_format clients s s' o o' on.more gathering (broken is),
        adds_limit clients s s' o o' on.more gathering (broken is),
      )

  -- what it answers
  pub steps_answer : (s s' : StoreValue) (result : Result (Unit {0}) StoreFault) (o o' : Outside)
      → SettlesBehind clients s s' result o o' → SettlesSo clients s' result
  steps_answer s s' result o o' on = (steps_so s s' on.more result o o' on.answer).2

  -- ---- some behind others

  pub comes_then : (s0 s1 s2 : StoreValue) (o0 o1 o2 : Outside) (xs ys : Batches)
      → s1.closed ≡ false → ComesBehind clients s0 s1 o0 o1 xs → ComesBehind clients s1 s2 o1 o2 ys
      → ComesBehind clients s0 s2 o0 o2 (xs ++ ys)
  comes_then s0 s1 s2 o0 o1 o2 xs ys still first second = record {
    run = run_then o0 o1 o2 first.run second.run;
    facts = λ opened.
        second.facts opened ∙ ap (λ (f : Facts). after_batches f ys) (first.facts still)
        ∙ sym (after_batches-append s0.state.facts xs ys);
    format = second.format ∙ first.format;
    limit = second.limit ∙ first.limit;
    roomy = λ before kept waits g two told j fits.
        let later : AreRoomy (written_in s1) s1.limit ((j ++ waits) ++ xs) ys =
        room_behind s0 s1 o0 o1 xs ys (first.waits still) second.roomy before kept waits g two told j
        fits in
        let by_format : AreRoomy (written_in s0) s1.limit ((j ++ waits) ++ xs) ys =
        subst (λ (k : Format). AreRoomy k s1.limit ((j ++ waits) ++ xs) ys)
        (ap format_meant first.format) later in
        roomy_both (written_in s0) s0.limit (j ++ waits) xs ys
        (first.roomy before kept waits g two told j fits)
        (subst (λ (n : ℕ). AreRoomy (written_in s0) n ((j ++ waits) ++ xs) ys) first.limit by_format);
    waits = λ opened.
        behind_then clients s0 s1 s2 o0 o1 o2 xs ys (first.waits still) (second.waits opened);
    broken = λ closed.
        behind_adds clients s0 s1 s2 o0 o1 o2 xs ys (first.waits still) (second.broken closed);
  }

  -- ---- all are added

  module _ (s : StoreValue) (o : Outside) (kept : IsStore s) (still : s.closed ≡ false)
      (none : NoneWaits s) where
    in_groups : (s' : StoreValue) (o' : Outside) (more : Batches) → FindRoom clients s o more
        → AddsBehind clients s s' o o' more → ComesInGroups clients s s' o o' more
    in_groups s' o' more room adds =
        let added = added_all clients s s' o o' more kept still none adds in
        record {
          comes = record {
            runs = added.runs;
            roomy = λ two told j fits.
                subst (λ (k : Batches). AreRoomy (written_in s) s.limit k more) (append-nil j)
                (room s kept [] (gathered_none clients s still none) two told j fits);
          };
          counted = added.counted;
        }

    -- where a call of the disk failed
    pub comes_broken : (s' : StoreValue) (o' : Outside) (more : Batches)
        → ComesBehind clients s s' o o' more → s'.closed ≡ true → ComesInGroups clients s s' o o' more
    comes_broken s' o' more comes closed = in_groups s' o' more comes.roomy (comes.broken closed)

    -- where those that waited were flushed
    pub comes_flushed : (s1 s2 : StoreValue) (o1 o2 : Outside) (more : Batches)
        → ComesBehind clients s s1 o o1 more → s1.closed ≡ false → AddsBehind clients s1 s2 o1 o2 []
        → ComesInGroups clients s s2 o o2 more
    comes_flushed s1 s2 o1 o2 more comes opened flush =
        in_groups s2 o2 more comes.roomy
        (subst (λ (xs : Batches). AddsBehind clients s s2 o o2 xs) (append-nil more)
        (behind_adds clients s s1 s2 o o1 o2 more [] (comes.waits opened) flush))

    -- nothing was done
    pub comes_nothing : ImagesStand → ComesInGroups clients s s o o []
    comes_nothing images =
        let nothing = runs_nothing images clients s s o kept (stays_itself s) in
        record {
          comes = record { runs = nothing.0; roomy = λ two told j fits. tt };
          counted = nothing.1;
        }
