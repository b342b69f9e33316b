use Rattle.std.proofs.Common.{◌≡◌, ℕ, ◌≤◌, false, List, [], length, refl, sym, ap, ◌∙◌, subst}
use Rattle.std.proofs.Common.{arith, Result, Ok, Err}
use Rattle.std.specs.List.{AllByRecursion}
use Rattle.sync_rules.specs.declared.entries.Entry.{Entry}
use Rattle.sync_rules.specs.Facts.{after_all}
use Rattle.sync_rules.specs.declared.limits.TheConstants.{MAX_STEPS}
use Rattle.sync_rules.specs.Legal.{IsSettling}
use Rattle.sync_rules.proofs.WorkLaws.{allowed_settling}
use Rattle.entry_codec.specs.Naming.{IsNamed}
use Rattle.entry_codec.specs.Payloads.{names_of}
use Rattle.entry_codec.specs.Spelling.{EntryNames}
use Rattle.entry_codec.proofs.Named.{named_in}
use Rattle.sync_store.specs.declared.fault.StoreFault.{StoreFault}
use Rattle.sync_store.specs.declared.fault.StoreFault.TheVariants as fault
use Rattle.sync_store.specs.Store.{StoreValue, format_meant}
use Rattle.sync_store.specs.Inside.{value_of}
use Rattle.sync_store.specs.Gathering.{GathersSteps}
use Rattle.sync_store.specs.Groups.{HasGroupRoom}
use Rattle.sync_store.proofs.Errors.{err_is}
use Rattle.sync_store.proofs.GroupSteps.{group_some}
use Rattle.sync_store.proofs.Growth.{Came, Filled, filled_framed, filled_from, filled_steps}
use Rattle.sync_store.proofs.Growth.{filled_store, filled_whole, length_nil, none_by, some_by}
use Rattle.sync_store.proofs.Growth.{starved_none}
use Rattle.sync_store.proofs.Steps.{all_steps, names_stay}
use Rattle.sync_store.proofs.store.Store.gather_into.Goals as goal

pub returns-in_err-filled-clause-made : goal.returns-in_err-filled-clause-made
returns-in_err-filled-clause-made g c =
    let clients = g.C.Clients.meaning c.args.clients.now in
    let s = value_of c.self.inside in
    let items = c.fill-filled.new.entries.items in
    let none : items ≡ [] =
    length_nil items (none_by c.is_empty.result _ (length items) c.is_empty.ensures
    c.if-is_empty.true (sym c.fill-filled.new.entries.ok.0)) in
    let facts : c.fill-filled.new.state.facts ≡ s.state.facts = c.fill-filled.ensures.facts
    ∙ ap (λ (xs : List Entry). after_all s.state.facts xs) none in
    let still : s.closed ≡ false = ap (λ (v : StoreValue). v.closed) c.self.view_is
    ∙ c.requires.still_open in
    let new =
    value_of (record {
      alloc = c.self.inside.alloc;
      state = c.fill-filled.new.state;
      journal = c.self.inside.journal;
      waiting = c.self.inside.waiting;
      limit = c.self.inside.limit;
      closed = c.self.inside.closed;
    }) in
    subst (λ (r : Result (Unit {0}) StoreFault). GathersSteps clients c.args.self.now new r)
    (sym (err_is c.from_residual.result fault.Memory c.from_residual.ensures.1))
    (subst (λ (v : StoreValue). GathersSteps clients v new (Err fault.Memory)) c.self.view_is
    (starved_none clients s new fault.Memory
    (record {
      facts = facts;
      file = refl;
      format = refl;
      generation = refl;
      end = refl;
      waiting = refl;
    }) refl still refl))

pub frame_steps-requires-clause-steps : goal.frame_steps-requires-clause-steps
frame_steps-requires-clause-steps g c =
    let clients = g.C.Clients.meaning c.args.clients.now in
    let s = value_of c.self.inside in
    all_steps clients s.state.facts c.as_slice.result.now
    (subst (λ (xs : List Entry). IsSettling clients s.state.facts xs)
    (sym c.as_slice.ensures.value) c.fill-filled.ensures.steps)

pub frame_steps-requires-clause-named : goal.frame_steps-requires-clause-named
frame_steps-requires-clause-named g c =
    let clients = g.C.Clients.meaning c.args.clients.now in
    let s = value_of c.self.inside in
    let f = s.state.facts in
    let es = c.as_slice.result.now in
    let settling = subst (λ (xs : List Entry). IsSettling clients f xs)
    (sym c.as_slice.ensures.value) c.fill-filled.ensures.steps in
    let some : 1 ≤ length es =
    some_by c.is_empty.result _ (length es) c.is_empty.ensures c.if-is_empty.false
    c.as_slice.ensures.len in
    let few : length es ≤ MAX_STEPS =
    omega (arith, c.fill-filled.ensures.few, c.as_slice.ensures.len) in
    let held =
    c.cite_laws.ensures.names clients f es
    (allowed_settling clients f es (some, few, settling)) in
    let same : names_of c.fill-filled.new.state.facts ≡ names_of f =
    ap names_of c.fill-filled.ensures.facts
    ∙ names_stay clients f c.fill-filled.new.entries.items c.fill-filled.ensures.steps in
    let format = c.format_meant-format.result in
    subst (λ (names : List (List ℕ)). AllByRecursion (EntryNames (IsNamed format names)) es)
    (sym same) (named_in format (names_of f) es held)

pub add-requires-clause-framed : goal.add-requires-clause-framed
add-requires-clause-framed g c =
    let clients = g.C.Clients.meaning c.args.clients.now in
    let s = value_of c.self.inside in
    let es = c.as_slice.result.now in
    let framed = c.as_slice-2.result.now in
    let still : s.closed ≡ false = ap (λ (v : StoreValue). v.closed) c.self.view_is
    ∙ c.requires.still_open in
    let filled : Filled clients s c.fill-filled.new.state.facts es framed =
    filled_from clients s c.format_meant-format.result (c.format_meant-format.ensures
    ∙ ap format_meant c.format.ensures.value) c.fill-filled.new.state.facts
    c.fill-filled.new.entries.items es c.frame_steps.new.to.items framed
    c.as_slice.ensures.value c.fill-filled.ensures.steps c.fill-filled.ensures.facts
    (some_by c.is_empty.result _ (length es) c.is_empty.ensures c.if-is_empty.false
    c.as_slice.ensures.len) (omega (arith, c.fill-filled.ensures.few, c.as_slice.ensures.len))
    c.frame_steps.ensures.within
    c.as_slice-2.ensures.value c.frame_steps.ensures.framed c.frame_steps.ensures.len
    c.self.invariant still in
    filled_framed clients s c.fill-filled.new.state.facts es framed filled

pub add-requires-clause-waits : goal.add-requires-clause-waits
add-requires-clause-waits g c = c.self.invariant.waits

pub add-requires-clause-place : goal.add-requires-clause-place
add-requires-clause-place g c = subst HasGroupRoom (sym c.self.view_is) c.requires.room

pub invariant_of-self-2 : goal.invariant_of-self-2
invariant_of-self-2 g c =
    let clients = g.C.Clients.meaning c.args.clients.now in
    let s = value_of c.self.inside in
    let es = c.as_slice.result.now in
    let framed = c.as_slice-2.result.now in
    let still : s.closed ≡ false = ap (λ (v : StoreValue). v.closed) c.self.view_is
    ∙ c.requires.still_open in
    let filled : Filled clients s c.fill-filled.new.state.facts es framed =
    filled_from clients s c.format_meant-format.result (c.format_meant-format.ensures
    ∙ ap format_meant c.format.ensures.value) c.fill-filled.new.state.facts
    c.fill-filled.new.entries.items es c.frame_steps.new.to.items framed
    c.as_slice.ensures.value c.fill-filled.ensures.steps c.fill-filled.ensures.facts
    (some_by c.is_empty.result _ (length es) c.is_empty.ensures c.if-is_empty.false
    c.as_slice.ensures.len) (omega (arith, c.fill-filled.ensures.few, c.as_slice.ensures.len))
    c.frame_steps.ensures.within
    c.as_slice-2.ensures.value c.frame_steps.ensures.framed c.frame_steps.ensures.len
    c.self.invariant still in
    let new =
    value_of (record {
      alloc = c.self.inside.alloc;
      state = c.fill-filled.new.state;
      journal = c.self.inside.journal;
      waiting = c.add.new.self;
      limit = c.self.inside.limit;
      closed = c.self.inside.closed;
    }) in
    let came : Came s new c.fill-filled.new.state.facts framed = record {
      facts_are = refl;
      file = refl;
      format = refl;
      generation = refl;
      end = omega (arith, c.add.ensures.long, group_some s.waiting c.self.invariant.waits);
      limit = refl;
      closed = still;
      joins = c.add.ensures.added;
      long = c.add.ensures.long;
    } in
    filled_store c.cite_laws.ensures clients s new c.fill-filled.new.state.facts es framed filled came

pub invariant_of-self-in_err-filled-2 : goal.invariant_of-self-in_err-filled-2
invariant_of-self-in_err-filled-2 g c =
    let clients = g.C.Clients.meaning c.args.clients.now in
    let s = value_of c.self.inside in
    let es = c.as_slice.result.now in
    let framed = c.as_slice-2.result.now in
    let still : s.closed ≡ false = ap (λ (v : StoreValue). v.closed) c.self.view_is
    ∙ c.requires.still_open in
    let filled : Filled clients s c.fill-filled.new.state.facts es framed =
    filled_from clients s c.format_meant-format.result (c.format_meant-format.ensures
    ∙ ap format_meant c.format.ensures.value) c.fill-filled.new.state.facts
    c.fill-filled.new.entries.items es c.frame_steps.new.to.items framed
    c.as_slice.ensures.value c.fill-filled.ensures.steps c.fill-filled.ensures.facts
    (some_by c.is_empty.result _ (length es) c.is_empty.ensures c.if-is_empty.false
    c.as_slice.ensures.len) (omega (arith, c.fill-filled.ensures.few, c.as_slice.ensures.len))
    c.frame_steps.ensures.within
    c.as_slice-2.ensures.value c.frame_steps.ensures.framed c.frame_steps.ensures.len
    c.self.invariant still in
    let new =
    value_of (record {
      alloc = c.self.inside.alloc;
      state = c.fill-filled.new.state;
      journal = c.self.inside.journal;
      waiting = c.add.new.self;
      limit = c.self.inside.limit;
      closed = c.self.inside.closed;
    }) in
    let came : Came s new c.fill-filled.new.state.facts framed = record {
      facts_are = refl;
      file = refl;
      format = refl;
      generation = refl;
      end = omega (arith, c.add.ensures.long, group_some s.waiting c.self.invariant.waits);
      limit = refl;
      closed = still;
      joins = c.add.ensures.added;
      long = c.add.ensures.long;
    } in
    filled_store c.cite_laws.ensures clients s new c.fill-filled.new.state.facts es framed filled came

pub returns-in_err-filled-2-clause-numbers : goal.returns-in_err-filled-2-clause-numbers
returns-in_err-filled-2-clause-numbers g c =
    let clients = g.C.Clients.meaning c.args.clients.now in
    let s = value_of c.self.inside in
    let es = c.as_slice.result.now in
    let framed = c.as_slice-2.result.now in
    let still : s.closed ≡ false = ap (λ (v : StoreValue). v.closed) c.self.view_is
    ∙ c.requires.still_open in
    let filled : Filled clients s c.fill-filled.new.state.facts es framed =
    filled_from clients s c.format_meant-format.result (c.format_meant-format.ensures
    ∙ ap format_meant c.format.ensures.value) c.fill-filled.new.state.facts
    c.fill-filled.new.entries.items es c.frame_steps.new.to.items framed
    c.as_slice.ensures.value c.fill-filled.ensures.steps c.fill-filled.ensures.facts
    (some_by c.is_empty.result _ (length es) c.is_empty.ensures c.if-is_empty.false
    c.as_slice.ensures.len) (omega (arith, c.fill-filled.ensures.few, c.as_slice.ensures.len))
    c.frame_steps.ensures.within
    c.as_slice-2.ensures.value c.frame_steps.ensures.framed c.frame_steps.ensures.len
    c.self.invariant still in
    let new =
    value_of (record {
      alloc = c.self.inside.alloc;
      state = c.fill-filled.new.state;
      journal = c.self.inside.journal;
      waiting = c.add.new.self;
      limit = c.self.inside.limit;
      closed = c.self.inside.closed;
    }) in
    let came : Came s new c.fill-filled.new.state.facts framed = record {
      facts_are = refl;
      file = refl;
      format = refl;
      generation = refl;
      end = omega (arith, c.add.ensures.long, group_some s.waiting c.self.invariant.waits);
      limit = refl;
      closed = still;
      joins = c.add.ensures.added;
      long = c.add.ensures.long;
    } in
    filled_store c.cite_laws.ensures clients s new c.fill-filled.new.state.facts es framed filled came

pub returns-clause-numbers : goal.returns-clause-numbers
returns-clause-numbers g c =
    let clients = g.C.Clients.meaning c.args.clients.now in
    let s = value_of c.self.inside in
    let es = c.as_slice.result.now in
    let framed = c.as_slice-2.result.now in
    let still : s.closed ≡ false = ap (λ (v : StoreValue). v.closed) c.self.view_is
    ∙ c.requires.still_open in
    let filled : Filled clients s c.fill-filled.new.state.facts es framed =
    filled_from clients s c.format_meant-format.result (c.format_meant-format.ensures
    ∙ ap format_meant c.format.ensures.value) c.fill-filled.new.state.facts
    c.fill-filled.new.entries.items es c.frame_steps.new.to.items framed
    c.as_slice.ensures.value c.fill-filled.ensures.steps c.fill-filled.ensures.facts
    (some_by c.is_empty.result _ (length es) c.is_empty.ensures c.if-is_empty.false
    c.as_slice.ensures.len) (omega (arith, c.fill-filled.ensures.few, c.as_slice.ensures.len))
    c.frame_steps.ensures.within
    c.as_slice-2.ensures.value c.frame_steps.ensures.framed c.frame_steps.ensures.len
    c.self.invariant still in
    let new =
    value_of (record {
      alloc = c.self.inside.alloc;
      state = c.fill-filled.new.state;
      journal = c.self.inside.journal;
      waiting = c.add.new.self;
      limit = c.self.inside.limit;
      closed = c.self.inside.closed;
    }) in
    let came : Came s new c.fill-filled.new.state.facts framed = record {
      facts_are = refl;
      file = refl;
      format = refl;
      generation = refl;
      end = omega (arith, c.add.ensures.long, group_some s.waiting c.self.invariant.waits);
      limit = refl;
      closed = still;
      joins = c.add.ensures.added;
      long = c.add.ensures.long;
    } in
    filled_store c.cite_laws.ensures clients s new c.fill-filled.new.state.facts es framed filled came

pub returns-in_err-filled-2-clause-made : goal.returns-in_err-filled-2-clause-made
returns-in_err-filled-2-clause-made g c =
    let clients = g.C.Clients.meaning c.args.clients.now in
    let s = value_of c.self.inside in
    let es = c.as_slice.result.now in
    let framed = c.as_slice-2.result.now in
    let still : s.closed ≡ false = ap (λ (v : StoreValue). v.closed) c.self.view_is
    ∙ c.requires.still_open in
    let filled : Filled clients s c.fill-filled.new.state.facts es framed =
    filled_from clients s c.format_meant-format.result (c.format_meant-format.ensures
    ∙ ap format_meant c.format.ensures.value) c.fill-filled.new.state.facts
    c.fill-filled.new.entries.items es c.frame_steps.new.to.items framed
    c.as_slice.ensures.value c.fill-filled.ensures.steps c.fill-filled.ensures.facts
    (some_by c.is_empty.result _ (length es) c.is_empty.ensures c.if-is_empty.false
    c.as_slice.ensures.len) (omega (arith, c.fill-filled.ensures.few, c.as_slice.ensures.len))
    c.frame_steps.ensures.within
    c.as_slice-2.ensures.value c.frame_steps.ensures.framed c.frame_steps.ensures.len
    c.self.invariant still in
    let new =
    value_of (record {
      alloc = c.self.inside.alloc;
      state = c.fill-filled.new.state;
      journal = c.self.inside.journal;
      waiting = c.add.new.self;
      limit = c.self.inside.limit;
      closed = c.self.inside.closed;
    }) in
    let came : Came s new c.fill-filled.new.state.facts framed = record {
      facts_are = refl;
      file = refl;
      format = refl;
      generation = refl;
      end = omega (arith, c.add.ensures.long, group_some s.waiting c.self.invariant.waits);
      limit = refl;
      closed = still;
      joins = c.add.ensures.added;
      long = c.add.ensures.long;
    } in
    let room = subst HasGroupRoom (sym c.self.view_is) c.requires.room in
    subst (λ (r : Result (Unit {0}) StoreFault). GathersSteps clients c.args.self.now new r)
    (sym (err_is c.from_residual-in_err-filled-2.result fault.Memory
    c.from_residual-in_err-filled-2.ensures.1))
    (subst (λ (v : StoreValue). GathersSteps clients v new (Err fault.Memory)) c.self.view_is
    (filled_steps clients s new c.fill-filled.new.state.facts es framed (Err fault.Memory) filled
    came room tt))

pub returns-clause-made : goal.returns-clause-made
returns-clause-made g c =
    let clients = g.C.Clients.meaning c.args.clients.now in
    let s = value_of c.self.inside in
    let es = c.as_slice.result.now in
    let framed = c.as_slice-2.result.now in
    let still : s.closed ≡ false = ap (λ (v : StoreValue). v.closed) c.self.view_is
    ∙ c.requires.still_open in
    let filled : Filled clients s c.fill-filled.new.state.facts es framed =
    filled_from clients s c.format_meant-format.result (c.format_meant-format.ensures
    ∙ ap format_meant c.format.ensures.value) c.fill-filled.new.state.facts
    c.fill-filled.new.entries.items es c.frame_steps.new.to.items framed
    c.as_slice.ensures.value c.fill-filled.ensures.steps c.fill-filled.ensures.facts
    (some_by c.is_empty.result _ (length es) c.is_empty.ensures c.if-is_empty.false
    c.as_slice.ensures.len) (omega (arith, c.fill-filled.ensures.few, c.as_slice.ensures.len))
    c.frame_steps.ensures.within
    c.as_slice-2.ensures.value c.frame_steps.ensures.framed c.frame_steps.ensures.len
    c.self.invariant still in
    let new =
    value_of (record {
      alloc = c.self.inside.alloc;
      state = c.fill-filled.new.state;
      journal = c.self.inside.journal;
      waiting = c.add.new.self;
      limit = c.self.inside.limit;
      closed = c.self.inside.closed;
    }) in
    let came : Came s new c.fill-filled.new.state.facts framed = record {
      facts_are = refl;
      file = refl;
      format = refl;
      generation = refl;
      end = omega (arith, c.add.ensures.long, group_some s.waiting c.self.invariant.waits);
      limit = refl;
      closed = still;
      joins = c.add.ensures.added;
      long = c.add.ensures.long;
    } in
    let room = subst HasGroupRoom (sym c.self.view_is) c.requires.room in
    subst (λ (v : StoreValue). GathersSteps clients v new (Ok tt)) c.self.view_is
    (filled_whole clients s new c.fill-filled.new.state.facts es framed _ tt filled came room
    c.as_slice.ensures.len c.in_ok-filled-2.ensures.full)
