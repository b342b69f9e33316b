-- A command comes to what it should where nothing stands in its way: by what it came to, each other
-- outcome has a cause.
use Rattle.std.proofs.Common.{◌≡◌, ℕ, ◌+◌, ◌<◌, ◌≤◌, Bool, true, false, List, [], ◌∷◌, length}
use Rattle.std.proofs.Common.{take, le-ltb, lt-ltb, refl, sym, ◌∙◌, ap, subst, inl}
use Rattle.std.proofs.Common.{inr, arith, Option, None, Some, is_some}
use Rattle.std.specs.Prelude.{◌⊎◌, if◌then◌else◌, nat_lt}
use Rattle.std.proofs.lemmas.List.{take_all}
use Rattle.outside.specs.declared.limits.TheConstants.{MAX_JOURNAL}
use Rattle.outside.specs.Faults.{CountRose}
use Rattle.outside.specs.Files.{Two, File, read_files}
use Rattle.outside.specs.Outside.{Outside}
use Rattle.outside.proofs.CallSteps.{told_on}
use Rattle.outside.specs.Streams.{Stream}
use Rattle.record_grammar.specs.Stream.{ending}
use Rattle.record_grammar.specs.declared.stream.Item.{Item}
use Rattle.sync_rules.specs.declared.entries.Entry.{Entry}
use Rattle.sync_rules.specs.declared.states.Refused.{Refused}
use Rattle.sync_rules.specs.declared.states.Refused.TheVariants as refused
use Rattle.sync_rules.specs.Clients.{Meaning}
use Rattle.sync_rules.specs.Facts.{Facts, Id, facts}
use Rattle.entry_codec.specs.Standing.{damaged, journal, no_store}
use Rattle.sync_store.specs.Begin.{has_open}
use Rattle.sync_words.specs.declared.outcome.Outcome.{Outcome}
use Rattle.sync_words.specs.declared.outcome.Outcome.TheVariants as outcome
use Rattle.sync_words.specs.declared.status.Status.{Status}
use Rattle.sync_words.specs.declared.status.Status.TheVariants as status
use Rattle.sync_words.specs.Outcomes.{status_of}
use Rattle.commands.specs.Reading.{Asked}
use Rattle.commands.specs.Reading.Asked.{Usage, Do}
use Rattle.commands.specs.declared.command.Command.{Command}
use Rattle.commands.specs.declared.command.Command.TheVariants as command
use Rattle.store_commands.specs.declared.commit.Settling.{Settling}
use Rattle.store_commands.specs.declared.commit.Settling.TheVariants as settling
use Rattle.store_commands.specs.Commit.{HoweverSettled, MayMigrate, WasSpent, needed_by}
use Rattle.store_commands.specs.Compact.{HasCompacted, MayRenew, brief_len, compacting}
use Rattle.store_commands.specs.Entries.{HasAdded, adding, plan_refusal}
use Rattle.store_commands.specs.Init.{HasBegun}
use Rattle.store_commands.specs.Plans.{EntryPlan, adds}
use Rattle.store_commands.specs.Post.{HasPosted, PostStops, PostsBody, group_test}
use Rattle.store_commands.specs.Looking.{HasLooked, denial}
use Rattle.store_commands.specs.Show.{PrintsText}
use Rattle.store_commands.specs.Stopping.{InputStops, NeverReads, StopsEarly}
use Rattle.store_commands.specs.Shown.{Showing}
use Rattle.audit_commands.specs.Audits.{HasAudited}
use Rattle.audit_commands.specs.Texts.{legal_text}
use Rattle.status_commands.specs.Statuses.{HasToldStatus}
use Rattle.sync_node.specs.Courses.{ReadsAs}
use Rattle.sharing_commands.specs.Agreeing.{HasAgreed, agreement}
use Rattle.sharing_commands.specs.Agreement.{agree_test}
use Rattle.mailbox_core.specs.Files.{box_ending}
use Rattle.mailbox_commands.specs.declared.sending.Sending.{Sending}
use Rattle.mailbox_commands.specs.declared.taking.TheConstants.{MAX_MAIL}
use Rattle.store_commands.specs.Errands.{Errand, HasErrandRoom, running}
use Rattle.mailbox_commands.specs.Tests.{mailbox_test}
use Rattle.store_commands.specs.Works.{DoesWork, HasWorked, IsWorkFull, Work}
use Rattle.mailbox_commands.specs.Sending.{HasSentMail, out_errand}
use Rattle.mailbox_commands.specs.Taking.{HasTakenMail, IsMail, IsTooMuch, in_errand, outcome_at}
use Rattle.store_commands.proofs.Stood.{last_lacks}
use Rattle.stream_commands.specs.declared.input.TheConstants.{MAX_INPUT}
use Rattle.sync_top.specs.Complete.{BytesDecide, ComesOut, Complete, NothingFails, ServesCommand}
use Rattle.sync_top.specs.Complete.{StreamDecides}
use Rattle.node_requests.specs.Requests.{sending_of}
use Rattle.sync_top.specs.Duties.{MaySendMail, MayTakeMail, comes_of, serves_of}
use Rattle.stream_commands.specs.Streams.{ReadsStream, ReadsWhole}
use Rattle.sync_top.specs.Run.{WordsComeTo, ReportsOutcome}
use Rattle.stream_commands.specs.Streams.{Streams, TriesClient, outcome_of}
use Rattle.sync_top.specs.Serving.{MayAddPlanned, MayAudit, MayCompact, MayPost, MayShow}
use Rattle.sync_top.proofs.CompleteRuns.{run_comes_out}

-- ---- the bytes decide

test_by : (b : Bool) (x y : Status) → b ≡ false → (if b then x else y) ≡ y
test_by false x y is = refl
test_by true x y is = cc

test_past : (b : Bool) (x y : Status) → b ≡ true → (if b then x else y) ≡ x
test_past true x y is = refl
test_past false x y is = cc

one_past : (n : ℕ) → n ≡ MAX_INPUT + 1 → MAX_INPUT < n
one_past n is = omega (arith, is)

module _ (input input' out out' : Stream) where
  -- an input that was read to its end
  whole_decides : (read : List ℕ) (came : Outcome) → ReadsWhole input input' read → outcome_of
      (ending 0 (take MAX_INPUT read)) ≡ came → status_of came
      ≡ (if nat_lt MAX_INPUT (length read) then status.TooMuch else status_of
      (outcome_of (ending 0 read)))
  whole_decides read came whole is =
      let all : take MAX_INPUT read ≡ read = take_all MAX_INPUT read whole.within in
      let few : nat_lt MAX_INPUT (length read) ≡ false =
      le-ltb MAX_INPUT (length read) whole.within in
      sym (ap status_of is)
      ∙ ap (λ (bytes : List ℕ). status_of (outcome_of (ending 0 bytes))) all
      ∙ sym (test_by (nat_lt MAX_INPUT (length read)) status.TooMuch
      (status_of (outcome_of (ending 0 read))) few)

  bytes_decide : (text : List ℕ) (came : Outcome) (told : List Item → List ℕ → Type 0)
      (r : ReadsStream told input input' out out' came)
      → (CountRose input.faults input'.faults → ⊥) → (CountRose out.faults out'.faults → ⊥)
      → StreamDecides input input' (status_of came)
  bytes_decide text outcome.TooMuch told r source sink =
      let past : MAX_INPUT < length r.read = one_past (length r.read) r.ended.0 in
      let many : nat_lt MAX_INPUT (length r.read) ≡ true = lt-ltb MAX_INPUT (length r.read) past in
      record {
        read = r.read;
        consumed = r.consumed;
        whole = inr r.ended.0;
        decides =
            sym (test_past (nat_lt MAX_INPUT (length r.read)) status.TooMuch
            (status_of (outcome_of (ending 0 r.read))) many);
      }
  bytes_decide text outcome.ReadFault told r source sink = absurd (source r.ended.0)
  bytes_decide text outcome.WriteFault told r source sink = absurd (sink r.ended.0)
  bytes_decide text came told r source sink =
      record {
        read = r.read;
        consumed = r.consumed;
        whole = inl (r.ended.0.at_end, r.ended.0.within);
        decides = whole_decides r.read came r.ended.0 r.ended.1;
      }

  streams_decide : (came : Outcome) (told : List Item → List ℕ → Type 0)
      → Streams told input input' out out' came → (CountRose input.faults input'.faults → ⊥)
      → (CountRose out.faults out'.faults → ⊥)
      → StreamDecides input input' (status_of came) ⊎ (status_of came ≡ status.Memory)
  streams_decide outcome.Memory told streams source sink = inr refl
  streams_decide came told streams source sink = inl (bytes_decide [] came told streams source sink)

  tries_decide : (clients : Meaning) (name descriptor : List ℕ) (o : Option ℕ) (came : Outcome)
      → is_some o ≡ true → TriesClient clients name descriptor o input input' out out' came
      → (CountRose input.faults input'.faults → ⊥) → (CountRose out.faults out'.faults → ⊥)
      → StreamDecides input input' (status_of came) ⊎ (status_of came ≡ status.Memory)
  tries_decide clients name descriptor None came known tries source sink = cc
  tries_decide clients name descriptor (Some kind) came known tries source sink =
      streams_decide came _ tries source sink

-- ---- commands of a store

-- a generation was left
not_spent : {P : Type 0} (files : Option (Two File)) (two two' : Two File) → MayMigrate files
    → files ≡ Some two → WasSpent (read_files two) two' → P
not_spent files two two' next told spent = absurd (next two told spent.0)

-- there was room and a generation for the entry
not_full : (clients : Meaning) (asked : Settling) (e : Entry) (files : Option (Two File))
    (two two' : Two File) (j : List (List Entry))
    → HoweverSettled clients j (λ whole. needed_by whole (e ∷ []) ≤ MAX_JOURNAL)
    → MayMigrate files → files ≡ Some two
    → IsWorkFull clients (adding clients asked (adds e)) j (read_files two) two' → ⊥
not_full clients asked e files two two' j has next told (inl once) =
    let room = has once.first once.settles once.settled in
    omega (arith, room, once.has.over)
not_full clients asked e files two two' j has next told (inr spent) =
    not_spent files two two' next told spent

-- for the errand
not_errand_cut : (clients : Meaning) (errand : Errand) (files : Option (Two File))
    (two two' : Two File) (j : List (List Entry))
    → HasErrandRoom clients errand j → MayMigrate files → files ≡ Some two
    → IsWorkFull clients (running clients errand) j (read_files two) two' → ⊥
not_errand_cut clients errand files two two' j has next told (inl once) =
    let cut = once.has in
    let room = has once.first once.settles once.settled cut.rest cut.next cut.follows in
    omega (arith, room, cut.full.over)
not_errand_cut clients errand files two two' j has next told (inr spent) =
    not_spent files two two' next told spent

-- for the brief account
not_brief_full : (clients : Meaning) (files : Option (Two File)) (two two' : Two File)
    (j : List (List Entry)) → HoweverSettled clients j (λ whole. brief_len whole ≤ MAX_JOURNAL)
    → MayRenew files → files ≡ Some two
    → IsWorkFull clients (compacting clients) j (read_files two) two' → ⊥
not_brief_full clients files two two' j has next told (inl once) = elim once.has.over [
  | inl past ↦ let room = has once.first once.settles once.settled in omega (arith, room, past)
  | inr lacks ↦ next two told lacks
]
not_brief_full clients files two two' j has next told (inr spent) =
    next two told (last_lacks (read_files two) spent.0)

module _ (clients : Meaning) (old new : Outside) (input input' out out' : Stream)
    (fails : NothingFails old new input input' out out') where
  abbrev Done : Outcome → Type 0
  Done came = (status_of came ≡ status.Done) ⊎ (status_of came ≡ status.Memory)

  begun_done : (came : Outcome) → HasBegun old new out out' came → (two : Two File)
      → old.files ≡ Some two → has_open two ≡ false → Done came
  begun_done outcome.Done did two told none = inl refl
  begun_done outcome.WriteFault did two told none = absurd (fails.sink did.by.0)
  begun_done outcome.DiskFault did two told none = absurd (fails.disk did.by.0)
  begun_done outcome.Exists did two told none =
      let now = told_on old new two did.run.same_told told in
      absurd (let is : true ≡ false = sym (((did.told two told).ends now.0 now.1).0) ∙ none in cc)
  begun_done _ did two told none = absurd did.by

  -- a command whose tests hold does not stop early, but for want of memory and by its input
  stopped_done : (test : Facts → Option Refused) (input_is : Outcome → Type 0) (came : Outcome)
      (j : List (List Entry)) → StopsEarly clients test input_is old new out out' came
      → ReadsAs clients old.files j → test (facts j) ≡ None
      → (input_is outcome.ReadFault → ⊥)
      → (came ≡ outcome.TooMuch) ⊎ (came ≡ outcome.Memory)
  stopped_done test input_is outcome.NoStore j did stood tested whole =
      let is : no_store ≡ journal j = sym (did.told stood.0 stood.1).ends ∙ stood.2 in
      cc
  stopped_done test input_is (outcome.Damaged place) j did stood tested whole =
      let is : damaged place.file place.at ≡ journal j = sym (did.told stood.0 stood.1).ends
      ∙ stood.2 in
      cc
  stopped_done test input_is (outcome.Refused why) j did stood tested whole =
      let t = (did.told stood.0 stood.1).ends in
      let both : journal t.before ≡ journal j = sym t.stood ∙ stood.2 in
      let same : t.before ≡ j = cc in
      let is : Some why ≡ None = sym t.has
      ∙ ap (λ (i : List (List Entry)). test (facts i)) same ∙ tested in
      cc
  stopped_done test input_is outcome.DiskFault j did stood tested whole =
      absurd (fails.disk did.by)
  stopped_done test input_is outcome.Memory j did stood tested whole = inr refl
  stopped_done test input_is outcome.ReadFault j did stood tested whole = absurd (whole did.reads)
  stopped_done test input_is outcome.TooMuch j did stood tested whole = inl refl
  stopped_done test input_is _ j did stood tested whole = absurd did.by

  -- nor does one that reads no input, but for want of memory
  unread_done : (test : Facts → Option Refused) (came : Outcome) (j : List (List Entry))
      → StopsEarly clients test NeverReads old new out out' came → ReadsAs clients old.files j
      → test (facts j) ≡ None → Done came
  unread_done test came j did stood tested =
      elim (stopped_done test NeverReads came j did stood tested (λ never. never)) [
        | inl much ↦ absurd (subst NeverReads much did.reads)
        | inr memory ↦ inr (ap status_of memory)
      ]

  -- a work for which there was room is not cut short
  did_not_full : (test : Facts → Option Refused) (comes : Outcome) (work : Facts → Work)
      (j : List (List Entry)) (stood : ReadsAs clients old.files j)
      → is_some new.files ≡ is_some old.files
      → ((two' : Two File)
      → IsWorkFull clients (work (facts j)) j (read_files stood.0) two' → ⊥)
      → DoesWork clients test comes work old new out out' outcome.Full → ⊥
  did_not_full test comes work j stood told_same roomy did =
      let now = told_on old new stood.0 told_same stood.1 in
      let held = did.told stood.0 stood.1 in
      let both : journal held.before ≡ journal j = sym held.stood ∙ stood.2 in
      let same : held.before ≡ j = cc in
      roomy now.0
      (subst (λ (i : List (List Entry)).
      IsWorkFull clients (work (facts i)) i (read_files stood.0) now.0) same
      (held.has.1.ends now.0 now.1))

  -- a work that comes to nothing else is done
  did_done : (test : Facts → Option Refused) (work : Facts → Work) (j : List (List Entry))
      (stood : ReadsAs clients old.files j) → is_some new.files ≡ is_some old.files
      → ((two' : Two File)
      → IsWorkFull clients (work (facts j)) j (read_files stood.0) two' → ⊥)
      → (came : Outcome) → DoesWork clients test outcome.Done work old new out out' came
      → Done came
  did_done test work j stood told_same roomy outcome.Memory did = inr refl
  did_done test work j stood told_same roomy outcome.WriteFault did = absurd (fails.sink did.by)
  did_done test work j stood told_same roomy outcome.DiskFault did = absurd (fails.disk did.by.0)
  did_done test work j stood told_same roomy outcome.Full did =
      absurd (did_not_full test outcome.Done work j stood told_same roomy did)
  did_done test work j stood told_same roomy came did = inl (ap status_of (sym did.by))

  -- nor does a command that does such a work come to anything else
  worked_done : (test : Facts → Option Refused) (work : Facts → Work) (j : List (List Entry))
      (stood : ReadsAs clients old.files j)
      → ((two' : Two File)
      → IsWorkFull clients (work (facts j)) j (read_files stood.0) two' → ⊥)
      → test (facts j) ≡ None → (came : Outcome)
      → HasWorked clients test work old new out out' came → Done came
  worked_done test work j stood roomy tested came did = elim did.did [
    | inl early ↦ unread_done test came j early stood tested
    | inr worked ↦ did_done test work j stood did.run.same_told roomy came worked
  ]

  added_done : (plan : Facts → EntryPlan) (asked : Settling) (came : Outcome)
      → HasAdded clients plan asked old new out out' came → MayAddPlanned clients plan old.files
      → Done came
  added_done plan asked came did may =
      worked_done (λ f. plan_refusal (plan f)) (λ f. adding clients asked (plan f)) may.before
      may.stood
      (λ two' full. not_full clients asked may.entry old.files may.stood.0 two' may.before may.room
      may.next may.stood.1
      (subst (λ (p : EntryPlan).
      IsWorkFull clients (adding clients asked p) may.before (read_files may.stood.0) two')
      may.planned full))
      (ap plan_refusal may.planned) came did

  compacted_done : (came : Outcome) → HasCompacted clients old new out out' came
      → MayCompact clients old.files → Done came
  compacted_done came did may =
      worked_done (λ f. None) (λ f. compacting clients) may.before may.stood
      (λ two' full. not_brief_full clients old.files may.stood.0 two' may.before may.room may.next
      may.stood.1 full) refl came did

  agreed_done : (contact : ℕ) (group : Id) (came : Outcome)
      → HasAgreed clients contact group old new out out' came
      → serves_of clients (command.Agree contact group) old new input input' → Done came
  agreed_done contact group came did may =
      worked_done (λ f. agree_test f contact group)
      (λ f. running clients (agreement clients contact group)) may.before may.stood
      (λ two' full. not_errand_cut clients (agreement clients contact group) old.files may.stood.0
      two' may.before may.room may.next may.stood.1 full) may.tested came did

  mailed_done : (asked : Sending) (came : Outcome) → HasSentMail clients asked old new out out' came
      → MaySendMail clients asked old new → Done came
  mailed_done asked came (inl did) may =
      unread_done (λ f. mailbox_test f asked.contact) came may.before did may.stood may.tested
  mailed_done asked came (inr did) may =
      did_done (λ f. mailbox_test f asked.contact)
      (λ f. running clients (out_errand clients asked did.now)) may.before may.stood
      did.reads.same_told
      (λ two' full. not_errand_cut clients (out_errand clients asked did.now) old.files may.stood.0
      two' may.before (may.room did.now did.reads.clock) may.next may.stood.1 full) came did.did

  abbrev Decided : Outcome → Type 0
  Decided came =
      BytesDecide MAX_MAIL (λ read. outcome_at (box_ending read)) input input' (status_of came)
      ⊎ (status_of came ≡ status.Memory)

  -- the whole input was read
  mail_decides : (read : List ℕ) (came : Outcome) → IsMail input input' read → outcome_at
      (box_ending read) ≡ came → Decided came
  mail_decides read came mail is =
      let few : nat_lt MAX_MAIL (length read) ≡ false = le-ltb MAX_MAIL (length read) mail.within in
      inl (record {
        read = read;
        consumed = mail.consumed;
        whole = inl (mail.at_end, mail.within);
        decides =
            sym (ap status_of is)
            ∙ sym (test_by (nat_lt MAX_MAIL (length read)) status.TooMuch
            (status_of (outcome_at (box_ending read))) few);
      })

  -- the input was too long
  much_decides : IsTooMuch input input' → Decided outcome.TooMuch
  much_decides much =
      let past : MAX_MAIL < length much.read = omega (arith, much.past) in
      let many : nat_lt MAX_MAIL (length much.read) ≡ true =
      lt-ltb MAX_MAIL (length much.read) past in
      inl (record {
        read = much.read;
        consumed = much.consumed;
        whole = inr much.past;
        decides =
            sym (test_past (nat_lt MAX_MAIL (length much.read)) status.TooMuch
            (status_of (outcome_at (box_ending much.read))) many);
      })

  taken_done : (contact : ℕ) (came : Outcome)
      → HasTakenMail clients contact old new input input' out out' came
      → MayTakeMail clients contact input input' old.files → Decided came
  taken_done contact came (inl did) may =
      elim (stopped_done (λ f. mailbox_test f contact)
      (InputStops (IsTooMuch input input') input input') came may.before did may.stood may.tested
      fails.source) [
        | inl much
            ↦ subst Decided (sym much)
            (much_decides (subst (InputStops (IsTooMuch input input') input input') much did.reads))
        | inr memory ↦ inr (ap status_of memory)
      ]
  taken_done contact outcome.Memory (inr did) may = inr refl
  taken_done contact outcome.WriteFault (inr did) may = absurd (fails.sink did.did.by)
  taken_done contact outcome.DiskFault (inr did) may = absurd (fails.disk did.did.by.0)
  taken_done contact outcome.Full (inr did) may =
      absurd (did_not_full (λ f. mailbox_test f contact) (outcome_at (box_ending did.bytes))
      (λ f. running clients (in_errand clients contact did.bytes)) may.before may.stood
      did.run.same_told
      (λ two' full. not_errand_cut clients (in_errand clients contact did.bytes) old.files
      may.stood.0 two' may.before (may.room did.bytes did.reads) may.next may.stood.1 full) did.did)
  taken_done contact came (inr did) may = mail_decides did.bytes came did.reads did.did.by

  printed_done : (text : List ℕ) (came : Outcome) → PrintsText text out out' came → Done came
  printed_done text outcome.Done printed = inl refl
  printed_done text outcome.Memory printed = inr refl
  printed_done text outcome.WriteFault printed = absurd (fails.sink printed.0)
  printed_done text _ printed = absurd printed

  looked_done : (shown : Facts → Showing) (came : Outcome)
      → HasLooked clients shown old new out out' came → MayShow clients shown old.files → Done came
  looked_done shown came did may = elim did.did [
    | inl early
        ↦ unread_done (λ f. denial (shown f)) came may.of early may.stood (ap denial may.is)
    | inr showed ↦ printed_done showed.text came showed.printed
  ]

  audited_done : (came : Outcome) → HasAudited clients old new out out' came
      → MayAudit clients old.files → Done came
  audited_done came did may = elim did.did [
    | inl early ↦ unread_done (λ f. None) came may.of early may.stood refl
    | inr reported ↦ printed_done (legal_text reported.report) came reported.printed
  ]

  status_done : (came : Outcome) → HasToldStatus clients old new out out' came
      → MayAudit clients old.files → Done came
  status_done came did may = elim did.did [
    | inl early ↦ unread_done (λ f. None) came may.of early may.stood refl
    | inr told ↦ printed_done told.text came told.printed
  ]

  body_done : (group : Id) (timestamp : ℕ) (came : Outcome)
      → PostsBody clients group timestamp old new input input' out out' came
      → MayPost clients group timestamp old.files input input' → Done came
  body_done group timestamp came did may =
      added_done _ settling.BeforeAndAfter came did.added (may.may_add did.body did.reads)

  -- it stopped before its body was read
  post_stopped : (group : Id) (timestamp : ℕ) (came : Outcome)
      → PostStops clients group old new input input' out out' came
      → MayPost clients group timestamp old.files input input' → Done came
  post_stopped group timestamp came did may =
      elim (stopped_done (group_test group) (InputStops ⊥ input input') came may.before did
      may.stood
      (ap (λ (b : Bool). if b then None else Some refused.UnknownGroup) may.known) fails.source) [
        | inl much ↦ absurd (subst (InputStops ⊥ input input') much did.reads)
        | inr memory ↦ inr (ap status_of memory)
      ]

  posted_done : (group : Id) (timestamp : ℕ) (came : Outcome)
      → HasPosted clients group timestamp old new input input' out out' came
      → MayPost clients group timestamp old.files input input' → Done came
  posted_done group timestamp outcome.NoStore did may =
      post_stopped group timestamp outcome.NoStore did may
  posted_done group timestamp (outcome.Damaged place) did may =
      post_stopped group timestamp (outcome.Damaged place) did may
  posted_done group timestamp (outcome.Refused refused.UnknownGroup) did may =
      post_stopped group timestamp (outcome.Refused refused.UnknownGroup) did may
  posted_done group timestamp (outcome.Refused why) did may =
      body_done group timestamp (outcome.Refused why) did may
  posted_done group timestamp came (inl did) may = post_stopped group timestamp came did may
  posted_done group timestamp came (inr did) may = body_done group timestamp came did may

  -- by the command
  duty_comes_out : (asked : Command) (came : Outcome)
      → comes_of clients asked old new input input' out out' came
      → serves_of clients asked old new input input'
      → ComesOut clients asked old new input input' (status_of came)
      ⊎ (status_of came ≡ status.Memory)
  duty_comes_out command.Init came did serves =
      begun_done came did.0 serves.0 serves.1 serves.2
  duty_comes_out command.Contact came did serves = added_done _ _ came did.0 serves
  duty_comes_out (command.Group name major descriptor) came did serves =
      added_done _ _ came did.0 serves
  duty_comes_out (command.Share contact group level) came did serves =
      added_done _ _ came did.0 serves
  duty_comes_out (command.Post group timestamp) came did serves =
      posted_done group timestamp came did serves
  duty_comes_out command.Show came did serves = looked_done _ came did.0 serves
  duty_comes_out command.Inbox came did serves = looked_done _ came did.0 serves
  duty_comes_out (command.InboxFrom from count) came did serves =
      looked_done _ came did.0 serves
  duty_comes_out (command.Body id) came did serves = looked_done _ came did.0 serves
  duty_comes_out (command.Tree group from count) came did serves = looked_done _ came did.0 serves
  duty_comes_out command.Audit came did serves = audited_done came did.0 serves
  duty_comes_out command.Status came did serves = status_done came did.0 serves
  duty_comes_out (command.Say group timestamp join name major descriptor) came did serves =
      added_done _ _ came did.0 serves
  duty_comes_out (command.Agree contact group) came did serves =
      agreed_done contact group came did.0 serves
  duty_comes_out command.Compact came did serves = compacted_done came did.0 serves
  duty_comes_out (command.MailboxIn contact) came did serves = taken_done contact came did serves
  duty_comes_out (command.MailboxOut contact latency count) came did serves =
      mailed_done (sending_of contact latency count) came did.0 serves
  duty_comes_out (command.Sync turns quiet links) came did serves =
      run_comes_out clients (record { turns = turns; quiet = quiet }) links old new fails.disk
      fails.links came did.0 serves
  duty_comes_out _ came did serves = absurd did

-- ---- all commands

-- what each command comes to
command_comes_out : (clients : Meaning) (asked : Command) (old new : Outside)
    (input input' out out' : Stream) (came : Outcome)
    → WordsComeTo clients (Do asked) old new input input' out out' came
    → ServesCommand clients asked old new input input'
    → NothingFails old new input input' out out'
    → ComesOut clients asked old new input input' (status_of came)
    ⊎ (status_of came ≡ status.Memory)
command_comes_out clients (command.Try name descriptor) old new input input' out out' came comes
    serves fails =
    tries_decide input input' out out' clients name descriptor (clients.kind_of name 0) came serves
    comes fails.source fails.sink
command_comes_out clients command.Records old new input input' out out' came comes serves fails =
    streams_decide input input' out out' came _ comes fails.source fails.sink
command_comes_out clients command.Quit old new input input' out out' came comes serves fails =
    absurd serves
command_comes_out clients command.Serve old new input input' out out' came comes serves fails =
    absurd serves
command_comes_out clients asked old new input input' out out' came (inl did) serves fails =
    duty_comes_out clients old new input input' out out' fails asked came did serves
command_comes_out clients asked old new input input' out out' came (inr none) serves fails =
    inr (ap status_of none.0)

comes_out : (clients : Meaning) (words : Asked) (old new : Outside) (input input' out out' : Stream)
    (came : Outcome) → WordsComeTo clients words old new input input' out out' came
    → Complete clients words old new input input' out out' (status_of came)
comes_out clients (Usage place) old new input input' out out' came comes = tt
comes_out clients (Do asked) old new input input' out out' came comes =
    command_comes_out clients asked old new input input' out out' came comes

-- the status that was given is that of the outcome
pub complete : (clients : Meaning) (words : Asked) (old new : Outside)
    (input input' out out' err err' : Stream) (came : Outcome) (given : Status)
    → WordsComeTo clients words old new input input' out out' came
    → ReportsOutcome came err err' given
    → Complete clients words old new input input' out out' given
complete clients words old new input input' out out' err err' came given comes reports =
    subst (Complete clients words old new input input' out out') (sym reports.0)
    (comes_out clients words old new input input' out out' came comes)
