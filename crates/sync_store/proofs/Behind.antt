-- Batches that come behind those that wait of a store, one piece of the work behind the other.
use Rattle.std.proofs.Common.{◌≡◌, ◌+◌, ◌<◌, ◌≤◌, Bool, true, false, List, [], ◌∷◌, ◌++◌, Option}
use Rattle.std.proofs.Common.{Result, Ok, Err, refl, sym, ap, ◌∙◌, subst, arith, append-nil}
use Rattle.std.proofs.Common.{append_assoc}
use Rattle.std.specs.Prelude.{IfErr, OnOk}
use Rattle.outside.specs.Files.{Two, File}
use Rattle.outside.specs.Outside.{Outside, DiskRun, MakesCalls}
use Rattle.frame_journal.specs.Group.{IsJoined, flush_calls, group_len}
use Rattle.journal_state.specs.Whole.{KnowsJudgements, StateValue}
use Rattle.sync_rules.specs.declared.entries.Entry.{Entry}
use Rattle.sync_rules.specs.Clients.{Meaning}
use Rattle.sync_rules.specs.Facts.{Facts, after_all}
use Rattle.entry_codec.specs.Payloads.{payload_len, payloads}
use Rattle.entry_codec.specs.Standing.{room_of}
use Rattle.sync_store.specs.declared.fault.StoreFault.{StoreFault}
use Rattle.sync_store.specs.declared.fault.StoreFault.TheVariants as fault
use Rattle.sync_store.specs.Store.{IsStore, NoneWaits, StoreValue, format_meant, written_in}
use Rattle.sync_store.specs.Appending.{AppendsFor}
use Rattle.sync_store.specs.Commits.{AnswersCommit, GainsBatch, KeepsStore, needed}
use Rattle.sync_store.specs.Fitting.{ImagesStand}
use Rattle.sync_store.specs.Gathering.{AddsBehind, GathersBehind, IsAdded, IsUnderway}
use Rattle.sync_store.specs.Gathering.{JoinsBehind, KeepsBatches, KeepsJournal, MakesRoom}
use Rattle.sync_store.specs.Groups.{AddsAll, HasGathered, IsGathering}
use Rattle.sync_store.specs.Moments.{groups_for}
use Rattle.sync_store.specs.Waiting.{frames_in}
use Rattle.sync_store.proofs.FitSteps.{true≢false}
use Rattle.sync_store.proofs.Gathered.{flush_added, gathered_none, gathering_still}
use Rattle.sync_store.proofs.Gathered.{underway_begins, underway_ends, underway_on}

module _ (clients : Meaning) where
  -- ---- one piece behind the other

  pub behind_none : ImagesStand → (s : StoreValue) (o : Outside) → GathersBehind clients s s o o []
  behind_none images s o = record {
    on = λ before kept waits g.
        subst (IsUnderway clients before s o o) (sym (append-nil waits))
        (underway_begins clients images before s o waits kept g);
  }

  -- batches joined those that wait, and nothing was asked of the disk
  pub behind_joined : ImagesStand → (s s' : StoreValue) (o : Outside) (more : List (List Entry))
      → ((before : StoreValue) → (waits : List (List Entry)) → HasGathered clients before s waits
      → HasGathered clients before s' (waits ++ more)) → GathersBehind clients s s' o o more
  behind_joined images s s' o more gathers = record {
    on = λ before kept waits g.
        underway_begins clients images before s' o (waits ++ more) kept (gathers before waits g);
  }

  -- behind batches of which some may wait
  pub joined_on : (before s1 s2 : StoreValue) (o0 o1 o2 : Outside) (all more : List (List Entry))
      → IsUnderway clients before s1 o0 o1 all → GathersBehind clients s1 s2 o1 o2 more
      → IsUnderway clients before s2 o0 o2 (all ++ more)
  joined_on before s1 s2 o0 o1 o2 all more u behind =
      underway_on clients before s1 s2 o0 o1 o2 all more u
      (behind.on u.mid u.kept u.rest u.gathered)

  pub added_on : (before s1 s2 : StoreValue) (o0 o1 o2 : Outside) (all more : List (List Entry))
      → IsUnderway clients before s1 o0 o1 all → AddsBehind clients s1 s2 o1 o2 more
      → IsAdded clients before s2 o0 o2 (all ++ more)
  added_on before s1 s2 o0 o1 o2 all more u behind =
      underway_ends clients before s1 s2 o0 o1 o2 all more u
      (behind.on u.mid u.kept u.rest u.gathered)

  pub behind_then : (s s1 s2 : StoreValue) (o o1 o2 : Outside) (xs ys : List (List Entry))
      → GathersBehind clients s s1 o o1 xs → GathersBehind clients s1 s2 o1 o2 ys
      → GathersBehind clients s s2 o o2 (xs ++ ys)
  behind_then s s1 s2 o o1 o2 xs ys first second = record {
    on = λ before kept waits g.
        subst (IsUnderway clients before s2 o o2) (append_assoc waits xs ys)
        (joined_on before s1 s2 o o1 o2 (waits ++ xs) ys (first.on before kept waits g) second);
  }

  pub behind_adds : (s s1 s2 : StoreValue) (o o1 o2 : Outside) (xs ys : List (List Entry))
      → GathersBehind clients s s1 o o1 xs → AddsBehind clients s1 s2 o1 o2 ys
      → AddsBehind clients s s2 o o2 (xs ++ ys)
  behind_adds s s1 s2 o o1 o2 xs ys first second = record {
    on = λ before kept waits g.
        subst (IsAdded clients before s2 o o2) (append_assoc waits xs ys)
        (added_on before s1 s2 o o1 o2 (waits ++ xs) ys (first.on before kept waits g) second);
  }

  -- all that came behind a store of which none waited was added
  pub added_all : (s s' : StoreValue) (o o' : Outside) (more : List (List Entry)) → IsStore s
      → s.closed ≡ false → NoneWaits s → AddsBehind clients s s' o o' more
      → IsAdded clients s s' o o' more
  added_all s s' o o' more kept still none behind =
      behind.on s kept [] (gathered_none clients s still none)

  -- the same of what is under way
  pub underway_all : (s s' : StoreValue) (o o' : Outside) (more : List (List Entry)) → IsStore s
      → s.closed ≡ false → NoneWaits s → GathersBehind clients s s' o o' more
      → IsUnderway clients s s' o o' more
  underway_all s s' o o' more kept still none behind =
      behind.on s kept [] (gathered_none clients s still none)

  -- ---- what a store keeps

  pub behind_limit : (s s' : StoreValue) (o o' : Outside) (more : List (List Entry))
      → IsGathering clients s o.files → GathersBehind clients s s' o o' more → s'.limit ≡ s.limit
  behind_limit s s' o o' more w behind =
      let u = behind.on w.before w.kept w.more w.gathered in
      u.gathered.limit ∙ u.runs.limit ∙ sym w.gathered.limit

  pub behind_format : (s s' : StoreValue) (o o' : Outside) (more : List (List Entry))
      → IsGathering clients s o.files → GathersBehind clients s s' o o' more → s'.format ≡ s.format
  behind_format s s' o o' more w behind =
      let u = behind.on w.before w.kept w.more w.gathered in
      u.gathered.format ∙ u.runs.format ∙ sym w.gathered.format

  pub adds_limit : (s s' : StoreValue) (o o' : Outside) (more : List (List Entry))
      → IsGathering clients s o.files → AddsBehind clients s s' o o' more → s'.limit ≡ s.limit
  adds_limit s s' o o' more w behind =
      (behind.on w.before w.kept w.more w.gathered).runs.limit ∙ sym w.gathered.limit

  pub adds_format : (s s' : StoreValue) (o o' : Outside) (more : List (List Entry))
      → IsGathering clients s o.files → AddsBehind clients s s' o o' more → s'.format ≡ s.format
  adds_format s s' o o' more w behind =
      (behind.on w.before w.kept w.more w.gathered).runs.format ∙ sym w.gathered.format

  pub gathering_behind : (s s' : StoreValue) (o o' : Outside) (more : List (List Entry))
      → IsGathering clients s o.files → GathersBehind clients s s' o o' more → s'.closed ≡ false
      → IsStore s' → KnowsJudgements clients s'.state → IsGathering clients s' o'.files
  gathering_behind s s' o o' more w behind still store knows =
      gathering_still clients w.before s' o o' (w.more ++ more)
      (behind.on w.before w.kept w.more w.gathered) w.fits still store knows

  -- ---- room, and a flush

  pub behind_room : (s s' : StoreValue) (o o' : Outside) (u : Unit {0})
      → ((before : StoreValue) → IsStore before → (waits : List (List Entry))
      → HasGathered clients before s waits → MakesRoom clients before s' waits (Ok u) o o')
      → GathersBehind clients s s' o o' []
  behind_room s s' o o' u makes = record {
    on = λ before kept waits g.
        subst (IsUnderway clients before s' o o') (sym (append-nil waits))
        (makes before kept waits g);
  }

  pub adds_for_room : (s s' : StoreValue) (o o' : Outside)
      → ((before : StoreValue) → IsStore before → (waits : List (List Entry))
      → HasGathered clients before s waits
      → MakesRoom clients before s' waits (Err fault.DiskFault) o o')
      → AddsBehind clients s s' o o' []
  adds_for_room s s' o o' makes = record {
    on = λ before kept waits g.
        subst (IsAdded clients before s' o o') (sym (append-nil waits))
        (makes before kept waits g).1;
  }

  -- whatever it answered, a flush added what waited as far as the disk had it
  pub flush_behind : (s new : StoreValue) (result : Result (Unit {0}) StoreFault) (o o' : Outside)
      → OnOk result (new ≡ record s { waiting = 0 ∷ [] })
      → IfErr result (λ e. (e ≡ fault.DiskFault) × (new ≡ record s { closed = true }))
      → DiskRun o o' → MakesCalls (flush_calls s.waiting) result o o'
      → ((before : StoreValue) → (more : List (List Entry)) → HasGathered clients before s more
      → AppendsFor before new o o')
      → ((before : StoreValue) → IsStore before → (more : List (List Entry))
      → HasGathered clients before s more → AddsAll clients before new o o' more)
      → AddsBehind clients s new o o' []
  flush_behind s new result o o' ok err run calls appends adds = record {
    on = λ before kept waits g.
        subst (IsAdded clients before new o o') (sym (append-nil waits))
        (flush_added clients before s new waits result o o' ok err run calls g
        (appends before waits g) (adds before kept waits g));
  }

  -- ---- one batch

  gathered_kept : (before s new : StoreValue) (waits : List (List Entry)) → KeepsStore s new
      → HasGathered clients before s waits → HasGathered clients before new waits
  gathered_kept before s new waits stays g = record {
    opened = g.opened;
    goes_on = g.goes_on;
    facts = stays.facts ∙ g.facts;
    file = stays.file ∙ g.file;
    format = stays.format ∙ g.format;
    generation = stays.generation ∙ g.generation;
    end = stays.end ∙ g.end ∙ ap (λ w. before.end + group_len w) (sym stays.waiting);
    limit = stays.limit ∙ g.limit;
    joined =
        subst (IsJoined (payloads (written_in before) before.state.facts waits)) (sym stays.waiting)
        g.joined;
    together = λ rest.
        g.together rest
        ∙ ap (λ w. groups_for (written_in before) (group_len w) (frames_in w) rest)
        (sym stays.waiting);
    kinds = g.kinds;
    within = g.within;
  }

  -- it was refused, and what waits does still
  behind_kept : ImagesStand → (s s' : StoreValue) (o : Outside) → KeepsStore s s'
      → GathersBehind clients s s' o o []
  behind_kept images s s' o stays =
      behind_joined images s s' o [] (λ before waits g.
      subst (HasGathered clients before s') (sym (append-nil waits))
      (gathered_kept before s s' waits stays g))

  kept_both : (s s1 s2 : StoreValue) → KeepsJournal s s1 → KeepsStore s1 s2 → KeepsBatches s s2
  kept_both s s1 s2 same stays = record {
    facts = stays.facts ∙ ap (λ (v : StateValue). v.facts) same.state;
    answers = stays.answers ∙ ap (λ (v : StateValue). v.answers) same.state;
    file = stays.file ∙ same.file;
    format = stays.format ∙ same.format;
    generation = stays.generation ∙ same.generation;
    end = stays.end ∙ same.end;
    limit = stays.limit ∙ same.limit;
  }

  pub kept_batches : (s s' : StoreValue) → KeepsJournal s s' → KeepsBatches s s'
  kept_batches s s' same = record {
    facts = ap (λ (v : StateValue). v.facts) same.state;
    answers = ap (λ (v : StateValue). v.answers) same.state;
    file = same.file;
    format = same.format;
    generation = same.generation;
    end = same.end;
    limit = same.limit;
  }

  -- what the journal needs with a batch
  needed_same : (s s1 : StoreValue) (batch : List Entry) → KeepsJournal s s1
      → needed s1 batch ≡ needed s batch
  needed_same s s1 batch same =
      omega (
        arith,
        same.end,
        ap (λ n. payload_len (format_meant n) batch) same.format,
        ap (λ n. room_of (format_meant n) (after_all s1.state.facts batch)) same.format,
        ap (λ (v : StateValue). room_of (written_in s) (after_all v.facts batch)) same.state,
      )

  gains_both : (s s1 s2 : StoreValue) (batch : List Entry) → KeepsJournal s s1
      → GainsBatch s1 s2 batch → GainsBatch s s2 batch
  gains_both s s1 s2 batch same gains = record {
    facts = gains.facts ∙ ap (λ (v : StateValue). after_all v.facts batch) same.state;
    file = gains.file ∙ same.file;
    format = gains.format ∙ same.format;
    generation = gains.generation ∙ same.generation;
    end = omega (
      arith,
      gains.end,
      same.end,
      ap (λ n. payload_len (format_meant n) batch) same.format,
    );
    limit = gains.limit ∙ same.limit;
    closed = gains.closed;
  }

  -- a batch that was gathered where room was made, by the answer
  pub joins_so : ImagesStand → (s s1 s2 : StoreValue) (batch : List Entry)
      (result : Result (Unit {0}) StoreFault) (o o1 : Outside) → KeepsJournal s s1
      → s1.closed ≡ false → GathersBehind clients s s1 o o1 []
      → AnswersCommit s1 s2 batch result
      → (result ≡ Err fault.DiskFault → ⊥)
      → OnOk result ((before : StoreValue) → (more : List (List Entry))
      → HasGathered clients before s1 more → HasGathered clients before s2 (more ++ batch ∷ []))
      → JoinsBehind clients s s2 batch result o o1
  joins_so images s s1 s2 batch (Ok u) o o1 same still room answer faultless gathers = (
    omega (arith, answer.1, needed_same s s1 batch same, same.limit),
    gains_both s s1 s2 batch same answer.2,
    behind_then s s1 s2 o o1 o1 [] (batch ∷ []) room
        (behind_joined images s1 s2 o1 (batch ∷ []) gathers),
  )
  joins_so images s s1 s2 batch (Err fault.Full) o o1 same still room answer faultless gathers = (
    omega (arith, answer.1, needed_same s s1 batch same, same.limit),
    kept_both s s1 s2 same answer.2,
    answer.2.closed ∙ still,
    behind_then s s1 s2 o o1 o1 [] [] room (behind_kept images s1 s2 o1 answer.2),
  )
  joins_so images s s1 s2 batch (Err fault.Memory) o o1 same still room answer faultless gathers = (
    omega (arith, answer.1, needed_same s s1 batch same, same.limit),
    kept_both s s1 s2 same answer.2,
    answer.2.closed ∙ still,
    behind_then s s1 s2 o o1 o1 [] [] room (behind_kept images s1 s2 o1 answer.2),
  )
  joins_so images s s1 s2 batch (Err fault.DiskFault) o o1 same still room answer faultless gathers =
      absurd (faultless refl)
  joins_so images s s1 s2 batch (Err fault.Closed) o o1 same still room answer faultless gathers =
      true≢false s1.closed answer.0 still

  pub joins_open : (s s' : StoreValue) (batch : List Entry) (result : Result (Unit {0}) StoreFault)
      (o o' : Outside) → JoinsBehind clients s s' batch result o o' → s'.closed ≡ false
      → (more : List (List Entry)) × GathersBehind clients s s' o o' more
  joins_open s s' batch (Ok u) o o' joins still = (batch ∷ [], joins.2)
  joins_open s s' batch (Err fault.Full) o o' joins still = ([], joins.3)
  joins_open s s' batch (Err fault.Memory) o o' joins still = ([], joins.3)
  joins_open s s' batch (Err fault.DiskFault) o o' joins still =
      true≢false s'.closed joins.1 still
  joins_open s s' batch (Err fault.Closed) o o' joins still = absurd joins
