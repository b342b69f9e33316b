use Rattle.std.proofs.Common.{◌≡◌, ◌+◌, List, [], ◌∷◌, ℕ, length, refl, sym, ap, ◌∙◌, subst, false, true, arith}
use Rattle.std.proofs.Common.{Ok}
use Rattle.outside.specs.Disk.{RelatesTold}
use Rattle.outside.specs.Files.{Two, File, file_of}
use Rattle.outside.specs.Frames.{IsAtRest}
use Rattle.outside.specs.Outside.{Outside}
use Rattle.outside.specs.Steps.{PassedMoments}
use Rattle.frame_journal.specs.Append.{AppendsFrame, BeforeOrWith}
use Rattle.frame_journal.specs.Group.{group_len}
use Rattle.frame_journal.specs.Journal.{JournalValue}
use Rattle.journal_state.specs.Whole.{KnowsJudgements, StateValue}
use Rattle.sync_rules.specs.declared.entries.Entry.{Entry}
use Rattle.sync_rules.specs.Clients.{Meaning}
use Rattle.sync_rules.specs.Facts.{after_all}
use Rattle.sync_rules.specs.Legal.{Allowed}
use Rattle.entry_codec.specs.Payloads.{payload_len}
use Rattle.sync_store.specs.declared.fault.StoreFault.TheVariants as fault
use Rattle.sync_store.specs.Store.{StoreValue, written_in}
use Rattle.sync_store.specs.Inside.{value_of}
use Rattle.sync_store.specs.Fitting.{FitsFiles, FitsSome}
use Rattle.sync_store.specs.Commits.{GainsBatch, MayAdd}
use Rattle.sync_store.proofs.FitSteps.{adds_err, adds_ok, framed_len, rests}
use Rattle.sync_store.proofs.Growth.{grown_store}
use Rattle.sync_store.proofs.Limits.{counts_few, few_held}
use Rattle.sync_store.proofs.SettleSteps.{adds_ready_fits}
use Rattle.outside.specs.Made.{BreaksIn, DoesAll}
use Rattle.frame_journal.specs.Appends.{append_calls}
use Rattle.sync_store.specs.Appending.{AppendsFor}
use Rattle.sync_store.proofs.SettleSteps.{appends_failed, appends_framed}
use Rattle.sync_store.proofs.store.Store.append.Goals as goal

-- where none waits, the file's end is the store's
ends_at : (end : ℕ) (waiting : List ℕ) → waiting ≡ 0 ∷ [] → end ≡ end + group_len waiting
ends_at end waiting none = omega (arith, ap group_len none)

passed_at : (two : Two File) (o o' : Outside) (file : ℕ) (framed : List ℕ) (m n : ℕ) → m ≡ n
    → PassedMoments two o o' file (BeforeOrWith (file_of two file).now m framed)
    → PassedMoments two o o' file (BeforeOrWith (file_of two file).now n framed)
passed_at two o o' file framed m n at passed =
    subst (λ k. PassedMoments two o o' file (BeforeOrWith (file_of two file).now k framed)) at passed

becomes_at : (o o' : Outside) (file : ℕ) (framed : List ℕ) (m n : ℕ) → m ≡ n
    → RelatesTold (AppendsFrame file m framed) o.files o'.files
    → RelatesTold (AppendsFrame file n framed) o.files o'.files
becomes_at o o' file framed m n at becomes =
    subst (λ k. RelatesTold (AppendsFrame file k framed) o.files o'.files) at becomes

-- what the store becomes once the frame is added and the batch taken
gained : (clients : Meaning) (s : StoreValue) (state : StateValue) (journal : JournalValue) (was : ℕ)
    (batch : List Entry) (framed : List ℕ) → MayAdd clients s batch framed → s.closed ≡ false
    → state.facts ≡ after_all s.state.facts batch → journal.file ≡ s.file
    → s.end ≡ was + group_len s.waiting
    → journal.end ≡ was + length framed → journal.format ≡ s.format
    → journal.generation ≡ s.generation
    → GainsBatch s (record s {
      state = state;
      file = journal.file;
      format = journal.format;
      generation = journal.generation;
      end = journal.end + group_len s.waiting;
    }) batch
gained clients s state journal was batch framed may still facts file is end format generation =
    let long : length framed ≡ 5 + payload_len (written_in s) batch =
    framed_len s batch framed may.is_framed may.payload_is in
    record {
      facts = facts;
      file = file;
      format = format;
      generation = generation;
      end = omega (arith, is, end, long);
      limit = refl;
      closed = still;
    }

pub take_known-requires-clause-allowed : goal.take_known-requires-clause-allowed
take_known-requires-clause-allowed g c =
    let clients = g.C.Clients.meaning c.args.clients.now in (
      clients,
      subst (λ (v : StoreValue). Allowed clients v.state.facts c.args.batch)
          (sym c.self.view_is) c.requires.may.allowed,
    )

pub take_known-requires-clause-numbers : goal.take_known-requires-clause-numbers
take_known-requires-clause-numbers g c =
    let store = c.self.invariant in
    record {
      held = few_held (value_of c.self.inside) store;
      records = λ session.
          omega (
            arith,
            store.numbers.records session,
            store.roomy,
            counts_few (written_in (value_of c.self.inside)) (value_of c.self.inside).end
                (omega (arith, store.roomy)),
          );
    }

pub invariant_of-self : goal.invariant_of-self
invariant_of-self g c =
    let clients = g.C.Clients.meaning c.args.clients.now in
    let s = value_of c.self.inside in
    let may = subst (λ (v : StoreValue). MayAdd clients v c.args.batch c.args.framed.now)
    (sym c.self.view_is) c.requires.may in
    let still : s.closed ≡ false = ap (λ (v : StoreValue). v.closed) c.self.view_is
    ∙ c.requires.ready.still_open in
    grown_store c.cite_laws.ensures clients s _ c.args.batch c.args.framed.now c.self.invariant may
    (gained clients s c.take_known.new.self c.append.new.self c.self.inside.journal.end
    c.args.batch c.args.framed.now may
    still c.take_known.ensures.facts (ap (λ (j : JournalValue). j.file) c.in-Ok.ensures.ok) refl
    (ap (λ (j : JournalValue). j.end) c.in-Ok.ensures.ok)
    (ap (λ (j : JournalValue). j.format) c.in-Ok.ensures.ok)
    (ap (λ (j : JournalValue). j.generation) c.in-Ok.ensures.ok)) c.self.invariant.waits

pub returns-in-Ok-clause-extends : goal.returns-in-Ok-clause-extends
returns-in-Ok-clause-extends g c two told j fits =
    let clients = g.C.Clients.meaning c.args.clients.now in
    let s = value_of c.self.inside in
    let may = subst (λ (v : StoreValue). MayAdd clients v c.args.batch c.args.framed.now)
    (sym c.self.view_is) c.requires.may in
    let fits' = subst (λ (v : StoreValue). FitsFiles clients v j two) (sym c.self.view_is) fits in
    let still : s.closed ≡ false = ap (λ (v : StoreValue). v.closed) c.self.view_is
    ∙ c.requires.ready.still_open in
    let none : s.waiting ≡ 0 ∷ [] = ap (λ (v : StoreValue). v.waiting) c.self.view_is
    ∙ c.requires.ready.none_waits in
    let at = ends_at c.self.inside.journal.end s.waiting none in
    let o = g.D.Disk.tells c.args.disk.now in
    let o' = g.D.Disk.tells c.append.new.disk in
    adds_ok c.cite_laws.ensures.stand clients s _ j two c.args.batch c.args.framed.now tt
    o o' fits' may told
    (passed_at two o o' s.file c.args.framed.now c.self.inside.journal.end s.end at
    (c.in-Ok.ensures.any_moment two told))
    (becomes_at o o' s.file c.args.framed.now c.self.inside.journal.end s.end at
    c.in-Ok.ensures.appended)
    (gained clients s c.take_known.new.self c.append.new.self c.self.inside.journal.end
    c.args.batch c.args.framed.now may
    still c.take_known.ensures.facts (ap (λ (j : JournalValue). j.file) c.in-Ok.ensures.ok) refl
    (ap (λ (j : JournalValue). j.end) c.in-Ok.ensures.ok)
    (ap (λ (j : JournalValue). j.format) c.in-Ok.ensures.ok)
    (ap (λ (j : JournalValue). j.generation) c.in-Ok.ensures.ok)) refl

pub returns-in-Ok-clause-ready : goal.returns-in-Ok-clause-ready
returns-in-Ok-clause-ready g c still =
    let clients = g.C.Clients.meaning c.args.clients.now in
    let s = value_of c.self.inside in
    let o = g.D.Disk.tells c.args.disk.now in
    let o' = g.D.Disk.tells c.append.new.disk in
    let may = subst (λ (v : StoreValue). MayAdd clients v c.args.batch c.args.framed.now)
    (sym c.self.view_is) c.requires.may in
    let gains =
    gained clients s c.take_known.new.self c.append.new.self c.self.inside.journal.end
    c.args.batch c.args.framed.now may
    still c.take_known.ensures.facts (ap (λ (j : JournalValue). j.file) c.in-Ok.ensures.ok) refl
    (ap (λ (j : JournalValue). j.end) c.in-Ok.ensures.ok)
    (ap (λ (j : JournalValue). j.format) c.in-Ok.ensures.ok)
    (ap (λ (j : JournalValue). j.generation) c.in-Ok.ensures.ok) in
    let none : s.waiting ≡ 0 ∷ [] = ap (λ (v : StoreValue). v.waiting) c.self.view_is
    ∙ c.requires.ready.none_waits in
    let at = ends_at c.self.inside.journal.end s.waiting none in
    record {
      still_open = still;
      none_waits = none;
      knows =
          c.take_known.ensures.knows clients
          (subst (λ (v : StoreValue). KnowsJudgements clients v.state) (sym c.self.view_is)
          c.requires.ready.knows);
      fits =
          adds_ready_fits clients s _ c.args.batch (Ok tt) o o' c.in-Ok.ensures.run
          (λ two told j fits. adds_ok c.cite_laws.ensures.stand clients s _ j two c.args.batch
          c.args.framed.now tt o o' fits may told
          (passed_at two o o' s.file c.args.framed.now c.self.inside.journal.end s.end at
          (c.in-Ok.ensures.any_moment two told))
          (becomes_at o o' s.file c.args.framed.now c.self.inside.journal.end s.end at
          c.in-Ok.ensures.appended) gains refl)
          (subst (λ (v : StoreValue). FitsSome clients v o.files) (sym c.self.view_is)
          c.requires.ready.fits) still;
    }

pub returns-in-Err-clause-extends : goal.returns-in-Err-clause-extends
returns-in-Err-clause-extends g c two told j fits =
    let clients = g.C.Clients.meaning c.args.clients.now in
    let s = value_of c.self.inside in
    let may = subst (λ (v : StoreValue). MayAdd clients v c.args.batch c.args.framed.now)
    (sym c.self.view_is) c.requires.may in
    let fits' = subst (λ (v : StoreValue). FitsFiles clients v j two) (sym c.self.view_is) fits in
    let none : s.waiting ≡ 0 ∷ [] = ap (λ (v : StoreValue). v.waiting) c.self.view_is
    ∙ c.requires.ready.none_waits in
    let at = ends_at c.self.inside.journal.end s.waiting none in
    let o = g.D.Disk.tells c.args.disk.now in
    let o' = g.D.Disk.tells c.append.new.disk in
    adds_err c.cite_laws.ensures.stand clients s _ j two c.args.batch c.args.framed.now
    fault.DiskFault o o' fits' may
    (passed_at two o o' s.file c.args.framed.now c.self.inside.journal.end s.end at
    (c.in-Err.ensures.any_moment two told)) refl

pub returns-in-Ok-clause-calls : goal.returns-in-Ok-clause-calls
returns-in-Ok-clause-calls g c =
    record { just = c.in-Ok.ensures.calls.just; most = c.in-Ok.ensures.calls.most }

pub returns-in-Err-clause-calls : goal.returns-in-Err-clause-calls
returns-in-Err-clause-calls g c = record { just = tt; most = c.in-Err.ensures.calls.most }

pub append-requires-clause-fits : goal.append-requires-clause-fits
append-requires-clause-fits g c two told =
    let clients = g.C.Clients.meaning c.args.clients.now in
    let files = (g.D.Disk.tells c.args.disk.now).files in
    let s = value_of c.self.inside in
    let fits = subst (λ (v : StoreValue). FitsSome clients v files) (sym c.self.view_is)
    c.requires.ready.fits in
    let none : s.waiting ≡ 0 ∷ [] = ap (λ (v : StoreValue). v.waiting) c.self.view_is
    ∙ c.requires.ready.none_waits in
    let at = ends_at c.self.inside.journal.end s.waiting none in
    subst (IsAtRest two s.file) (sym at) (rests clients s files fits two told)

pub append-requires-clause-room : goal.append-requires-clause-room
append-requires-clause-room g c =
    let clients = g.C.Clients.meaning c.args.clients.now in
    let may = subst (λ (v : StoreValue). MayAdd clients v c.args.batch c.args.framed.now)
    (sym c.self.view_is) c.requires.may in
    omega (arith, may.still_roomy)

pub returns-in-Ok-clause-ok : goal.returns-in-Ok-clause-ok
returns-in-Ok-clause-ok g c =
    let s = value_of c.self.inside in
    let may =
    subst (λ (v : StoreValue).
    MayAdd (g.C.Clients.meaning c.args.clients.now) v c.args.batch c.args.framed.now)
    (sym c.self.view_is) c.requires.may in
    let still : s.closed ≡ false = ap (λ (v : StoreValue). v.closed) c.self.view_is
    ∙ c.requires.ready.still_open in
    subst (λ (v : StoreValue).
    GainsBatch v (value_of (record {
      alloc = c.self.inside.alloc;
      state = c.take_known.new.self;
      journal = c.append.new.self;
      waiting = c.self.inside.waiting;
      limit = c.self.inside.limit;
      closed = c.self.inside.closed;
    })) c.args.batch)
    c.self.view_is
    (gained (g.C.Clients.meaning c.args.clients.now) s c.take_known.new.self c.append.new.self
    c.self.inside.journal.end
    c.args.batch c.args.framed.now may still c.take_known.ensures.facts
    (ap (λ (j : JournalValue). j.file) c.in-Ok.ensures.ok) refl
    (ap (λ (j : JournalValue). j.end) c.in-Ok.ensures.ok)
    (ap (λ (j : JournalValue). j.format) c.in-Ok.ensures.ok)
    (ap (λ (j : JournalValue). j.generation) c.in-Ok.ensures.ok))

pub returns-in-Ok-clause-appends : goal.returns-in-Ok-clause-appends
returns-in-Ok-clause-appends g c =
    let s = value_of c.self.inside in
    let o = g.D.Disk.tells c.args.disk.now in
    let o' = g.D.Disk.tells c.append.new.disk in
    let framed = c.args.framed.now in
    let none : s.waiting ≡ 0 ∷ [] = ap (λ (v : StoreValue). v.waiting) c.self.view_is
    ∙ c.requires.ready.none_waits in
    let at = ends_at c.self.inside.journal.end s.waiting none in
    let new =
    value_of (record {
      alloc = c.self.inside.alloc;
      state = c.take_known.new.self;
      journal = c.append.new.self;
      waiting = c.self.inside.waiting;
      limit = c.self.inside.limit;
      closed = c.self.inside.closed;
    }) in
    let ends : new.end ≡ s.end + length framed =
    omega (arith, ap (λ (j : JournalValue). j.end) c.in-Ok.ensures.ok) in
    subst (λ (v : StoreValue). AppendsFor v new o o') c.self.view_is
    (appends_framed s new framed o o' c.requires.may.is_framed ends refl
    (subst (λ n. DoesAll (append_calls s.file n framed) o o') at c.in-Ok.ensures.does))

pub returns-in-Err-clause-appends : goal.returns-in-Err-clause-appends
returns-in-Err-clause-appends g c =
    let s = value_of c.self.inside in
    let o = g.D.Disk.tells c.args.disk.now in
    let o' = g.D.Disk.tells c.append.new.disk in
    let framed = c.args.framed.now in
    let none : s.waiting ≡ 0 ∷ [] = ap (λ (v : StoreValue). v.waiting) c.self.view_is
    ∙ c.requires.ready.none_waits in
    let at = ends_at c.self.inside.journal.end s.waiting none in
    let new =
    value_of (record {
      alloc = c.self.inside.alloc;
      state = c.self.inside.state;
      journal = c.append.new.self;
      waiting = c.self.inside.waiting;
      limit = c.self.inside.limit;
      closed = true;
    }) in
    subst (λ (v : StoreValue). AppendsFor v new o o') c.self.view_is
    (appends_failed s new framed o o' c.requires.may.is_framed refl
    (subst (λ n. BreaksIn (append_calls s.file n framed) o o') at c.in-Err.ensures.does))
