use Rattle.std.proofs.Common.{◌≡◌, ◌+◌, ◌-◌, ◌^◌, ◌<◌, [], ◌∷◌, false, true, Ok, Err, inr, refl, sym, ap, ◌∙◌}
use Rattle.std.proofs.Common.{subst}
use Rattle.frame_journal.specs.Group.{group_len}
use Rattle.sync_rules.specs.Steps.{IsSettled}
use Rattle.entry_codec.specs.declared.naming.Format.TheVariants as kind
use Rattle.journal_state.specs.Whole.{KnowsJudgements}
use Rattle.journal_compaction.specs.Compacting.{KeepsOwn, WeighsAccount}
use Rattle.journal_compaction.specs.declared.fault.CompactionFault.{CompactionFault}
use Rattle.sync_store.specs.declared.fault.StoreFault.TheVariants as fault
use Rattle.sync_store.specs.Compactions.{StoreHasCompacted}
use Rattle.sync_store.specs.Fitting.{FitsSome}
use Rattle.sync_store.specs.Inside.{value_of}
use Rattle.sync_store.specs.Store.{IsStore, StoreValue, written_in}
use Rattle.sync_store.proofs.CompactSteps.{GivesBrief, brief_fits, leads_broken, leads_full}
use Rattle.sync_store.proofs.CompactSteps.{leads_shortened, leads_wanting, short_is_two}
use Rattle.sync_store.proofs.CompactSteps.{shortened_store, shortens_at}
use Rattle.sync_store.proofs.MigrateSteps.{lies_at, moved_with, settled_both}
use Rattle.sync_store.proofs.store.Store.shorten.Goals as goal

pub compact-requires-clause-format : goal.compact-requires-clause-format
compact-requires-clause-format g c =
    short_is_two (value_of c.self.inside)
    (subst (λ (v : StoreValue). written_in v ≡ kind.Short) (sym c.self.view_is)
    c.requires.short)

pub compact-requires-clause-settled : goal.compact-requires-clause-settled
compact-requires-clause-settled g c =
    let clients = g.C.Clients.meaning c.args.clients.now in
    let files = (g.D.Disk.tells c.args.disk.now).files in
    settled_both clients (value_of c.self.inside) files
    (subst (λ (v : StoreValue). FitsSome clients v files) (sym c.self.view_is)
    c.requires.ready.fits)

pub invariant_of-self : goal.invariant_of-self
invariant_of-self g c =
    let i = value_of c.self.inside in
    let none : i.waiting ≡ 0 ∷ [] = ap (λ (v : StoreValue). v.waiting) c.self.view_is
    ∙ c.requires.ready.none_waits in
    subst IsStore (sym (lies_at i c.forget.new.self c.in-Ok.journal i.waiting none))
    (shortened_store (g.C.Clients.meaning c.args.clients.now) i
    c.forget.new.self c.self.inside.journal c.in-Ok.journal c.self.invariant
    c.in-Ok.ensures.room c.forget.ensures.facts c.in-Ok.ensures.next)

pub returns-in-Ok-clause-numbers : goal.returns-in-Ok-clause-numbers
returns-in-Ok-clause-numbers g c =
    let i = value_of c.self.inside in
    let none : i.waiting ≡ 0 ∷ [] = ap (λ (v : StoreValue). v.waiting) c.self.view_is
    ∙ c.requires.ready.none_waits in
    subst IsStore (sym (lies_at i c.forget.new.self c.in-Ok.journal i.waiting none))
    (shortened_store (g.C.Clients.meaning c.args.clients.now) i
    c.forget.new.self c.self.inside.journal c.in-Ok.journal c.self.invariant
    c.in-Ok.ensures.room c.forget.ensures.facts c.in-Ok.ensures.next)

pub returns-in-Ok-clause-compacted : goal.returns-in-Ok-clause-compacted
returns-in-Ok-clause-compacted g c =
    let clients = g.C.Clients.meaning c.args.clients.now in
    let i = value_of c.self.inside in
    let none : i.waiting ≡ 0 ∷ [] = ap (λ (v : StoreValue). v.waiting) c.self.view_is
    ∙ c.requires.ready.none_waits in
    let s = moved_with i i.state c.self.inside.journal in
    let view : s ≡ c.args.self.now =
    sym (lies_at i i.state c.self.inside.journal i.waiting none) ∙ c.self.view_is in
    let m = c.self.inside.journal in
    let n = c.in-Ok.journal in
    let state = c.forget.new.self in
    let o = g.D.Disk.tells c.args.disk.now in
    let o' = g.D.Disk.tells c.compact.new.disk in
    let kept = subst IsStore (lies_at i i.state c.self.inside.journal i.waiting none)
    c.self.invariant in
    let still : s.closed ≡ false = ap (λ (v : StoreValue). v.closed) view
    ∙ c.requires.ready.still_open in
    let settled = subst (λ (v : StoreValue). IsSettled clients v.state.facts) (sym view)
    c.requires.settled in
    let short =
    short_is_two s (subst (λ (v : StoreValue). written_in v ≡ kind.Short) (sym view)
    c.requires.short) in
    let further = subst (λ (v : StoreValue). v.generation < 2 ^ 64 - 1) (sym view)
    c.requires.generation in
    subst (λ (v : StoreValue). StoreHasCompacted clients v (record i {
      state = state;
      file = n.file;
      format = n.format;
      generation = n.generation;
      end = n.end + group_len i.waiting;
    }) (Ok tt) o o') view
    (subst (λ (v : StoreValue). StoreHasCompacted clients s v (Ok tt) o o')
    (sym (lies_at i state n i.waiting none))
    (record {
      answer = shortens_at clients s state m n refl refl still settled further c.in-Ok.ensures.room
          c.forget.ensures.facts c.forget.ensures.answers c.in-Ok.ensures.next;
      leads = leads_shortened clients s m o o' short kept c.cite_laws.ensures.keeps
          state n tt settled c.forget.ensures.facts c.in-Ok.ensures.next.format_is
          c.in-Ok.ensures.compacts;
      own = c.in-Ok.ensures.own;
    }))

pub returns-in-Ok-clause-ready : goal.returns-in-Ok-clause-ready
returns-in-Ok-clause-ready g c open' =
    let clients = g.C.Clients.meaning c.args.clients.now in
    let i = value_of c.self.inside in
    let none : i.waiting ≡ 0 ∷ [] = ap (λ (v : StoreValue). v.waiting) c.self.view_is
    ∙ c.requires.ready.none_waits in
    let s = moved_with i i.state c.self.inside.journal in
    let view : s ≡ c.args.self.now =
    sym (lies_at i i.state c.self.inside.journal i.waiting none) ∙ c.self.view_is in
    let m = c.self.inside.journal in
    let n = c.in-Ok.journal in
    let state = c.forget.new.self in
    let o = g.D.Disk.tells c.args.disk.now in
    let o' = g.D.Disk.tells c.compact.new.disk in
    let kept = subst IsStore (lies_at i i.state c.self.inside.journal i.waiting none)
    c.self.invariant in
    let settled = subst (λ (v : StoreValue). IsSettled clients v.state.facts) (sym view)
    c.requires.settled in
    let short =
    short_is_two s (subst (λ (v : StoreValue). written_in v ≡ kind.Short) (sym view)
    c.requires.short) in
    record {
      still_open = open';
      none_waits = none;
      knows =
          c.forget.ensures.knows clients
          (subst (λ (v : StoreValue). KnowsJudgements clients v.state) (sym view)
          c.requires.ready.knows);
      fits =
          subst (λ (v : StoreValue). FitsSome clients v o'.files)
          (sym (lies_at i state n i.waiting none))
          (brief_fits clients s (moved_with s state n) (Ok tt) o o' c.in-Ok.ensures.run
          (leads_shortened clients s m o o' short kept c.cite_laws.ensures.keeps state n
          tt settled c.forget.ensures.facts c.in-Ok.ensures.next.format_is
          c.in-Ok.ensures.compacts)
          (subst (λ (v : StoreValue). FitsSome clients v o.files) (sym view)
          c.requires.ready.fits) open');
    }

pub returns-in-Err-Full-clause-compacted : goal.returns-in-Err-Full-clause-compacted
returns-in-Err-Full-clause-compacted g c =
    let clients = g.C.Clients.meaning c.args.clients.now in
    let i = value_of c.self.inside in
    let none : i.waiting ≡ 0 ∷ [] = ap (λ (v : StoreValue). v.waiting) c.self.view_is
    ∙ c.requires.ready.none_waits in
    let s = moved_with i i.state c.self.inside.journal in
    let view : s ≡ c.args.self.now =
    sym (lies_at i i.state c.self.inside.journal i.waiting none) ∙ c.self.view_is in
    let m = c.self.inside.journal in
    let o = g.D.Disk.tells c.args.disk.now in
    let o' = g.D.Disk.tells c.compact.new.disk in
    let kept = subst IsStore (lies_at i i.state c.self.inside.journal i.waiting none)
    c.self.invariant in
    let short =
    short_is_two s (subst (λ (v : StoreValue). written_in v ≡ kind.Short) (sym view)
    c.requires.short) in
    let over = subst (λ (e : CompactionFault). WeighsAccount clients s.state.facts s.limit (Err e))
    c.in-Err-Full.field-0-is c.in-Err-Full.ensures.room in
    subst (λ (v : StoreValue). StoreHasCompacted clients v v (Err fault.Full) o o') view
    (record {
      answer = (inr over, refl);
      leads = leads_full clients s m o o' short kept
          (subst (λ (e : CompactionFault). GivesBrief clients s m (Err e) o o')
          c.in-Err-Full.field-0-is c.in-Err-Full.ensures.compacts);
      own = subst (λ (e : CompactionFault). KeepsOwn m.file o.files o'.files (Err e))
          c.in-Err-Full.field-0-is c.in-Err-Full.ensures.own;
    })

pub returns-in-Err-Full-clause-ready : goal.returns-in-Err-Full-clause-ready
returns-in-Err-Full-clause-ready g c open' =
    let clients = g.C.Clients.meaning c.args.clients.now in
    let i = value_of c.self.inside in
    let none : i.waiting ≡ 0 ∷ [] = ap (λ (v : StoreValue). v.waiting) c.self.view_is
    ∙ c.requires.ready.none_waits in
    let s = moved_with i i.state c.self.inside.journal in
    let view : s ≡ c.args.self.now =
    sym (lies_at i i.state c.self.inside.journal i.waiting none) ∙ c.self.view_is in
    let m = c.self.inside.journal in
    let o = g.D.Disk.tells c.args.disk.now in
    let o' = g.D.Disk.tells c.compact.new.disk in
    let kept = subst IsStore (lies_at i i.state c.self.inside.journal i.waiting none)
    c.self.invariant in
    let short =
    short_is_two s (subst (λ (v : StoreValue). written_in v ≡ kind.Short) (sym view)
    c.requires.short) in
    let leads = leads_full clients s m o o' short kept
    (subst (λ (e : CompactionFault). GivesBrief clients s m (Err e) o o')
    c.in-Err-Full.field-0-is c.in-Err-Full.ensures.compacts) in
    record {
      still_open = open';
      none_waits = c.requires.ready.none_waits;
      knows = c.requires.ready.knows;
      fits =
          subst (λ (v : StoreValue). FitsSome clients v o'.files) view
          (brief_fits clients s s (Err fault.Full) o o' c.in-Err-Full.ensures.run leads
          (subst (λ (v : StoreValue). FitsSome clients v o.files) (sym view)
          c.requires.ready.fits)
          (ap (λ (v : StoreValue). v.closed) view ∙ open'));
    }

pub returns-in-Err-Memory-clause-compacted : goal.returns-in-Err-Memory-clause-compacted
returns-in-Err-Memory-clause-compacted g c =
    let clients = g.C.Clients.meaning c.args.clients.now in
    let i = value_of c.self.inside in
    let none : i.waiting ≡ 0 ∷ [] = ap (λ (v : StoreValue). v.waiting) c.self.view_is
    ∙ c.requires.ready.none_waits in
    let s = moved_with i i.state c.self.inside.journal in
    let view : s ≡ c.args.self.now =
    sym (lies_at i i.state c.self.inside.journal i.waiting none) ∙ c.self.view_is in
    let m = c.self.inside.journal in
    let o = g.D.Disk.tells c.args.disk.now in
    let o' = g.D.Disk.tells c.compact.new.disk in
    let kept = subst IsStore (lies_at i i.state c.self.inside.journal i.waiting none)
    c.self.invariant in
    let short =
    short_is_two s (subst (λ (v : StoreValue). written_in v ≡ kind.Short) (sym view)
    c.requires.short) in
    let further = subst (λ (v : StoreValue). v.generation < 2 ^ 64 - 1) (sym view)
    c.requires.generation in
    subst (λ (v : StoreValue). StoreHasCompacted clients v v (Err fault.Memory) o o') view
    (record {
      answer = (further, refl);
      leads = leads_wanting clients s m o o' short kept
          (subst (λ (e : CompactionFault). GivesBrief clients s m (Err e) o o')
          c.in-Err-Memory.field-0-is c.in-Err-Memory.ensures.compacts);
      own = subst (λ (e : CompactionFault). KeepsOwn m.file o.files o'.files (Err e))
          c.in-Err-Memory.field-0-is c.in-Err-Memory.ensures.own;
    })

pub returns-in-Err-Memory-clause-ready : goal.returns-in-Err-Memory-clause-ready
returns-in-Err-Memory-clause-ready g c open' =
    let clients = g.C.Clients.meaning c.args.clients.now in
    let i = value_of c.self.inside in
    let none : i.waiting ≡ 0 ∷ [] = ap (λ (v : StoreValue). v.waiting) c.self.view_is
    ∙ c.requires.ready.none_waits in
    let s = moved_with i i.state c.self.inside.journal in
    let view : s ≡ c.args.self.now =
    sym (lies_at i i.state c.self.inside.journal i.waiting none) ∙ c.self.view_is in
    let m = c.self.inside.journal in
    let o = g.D.Disk.tells c.args.disk.now in
    let o' = g.D.Disk.tells c.compact.new.disk in
    let kept = subst IsStore (lies_at i i.state c.self.inside.journal i.waiting none)
    c.self.invariant in
    let short =
    short_is_two s (subst (λ (v : StoreValue). written_in v ≡ kind.Short) (sym view)
    c.requires.short) in
    let leads = leads_wanting clients s m o o' short kept
    (subst (λ (e : CompactionFault). GivesBrief clients s m (Err e) o o')
    c.in-Err-Memory.field-0-is c.in-Err-Memory.ensures.compacts) in
    record {
      still_open = open';
      none_waits = c.requires.ready.none_waits;
      knows = c.requires.ready.knows;
      fits =
          subst (λ (v : StoreValue). FitsSome clients v o'.files) view
          (brief_fits clients s s (Err fault.Memory) o o' c.in-Err-Memory.ensures.run leads
          (subst (λ (v : StoreValue). FitsSome clients v o.files) (sym view)
          c.requires.ready.fits)
          (ap (λ (v : StoreValue). v.closed) view ∙ open'));
    }

pub returns-in-Err-DiskFault-clause-compacted : goal.returns-in-Err-DiskFault-clause-compacted
returns-in-Err-DiskFault-clause-compacted g c =
    let clients = g.C.Clients.meaning c.args.clients.now in
    let i = value_of c.self.inside in
    let none : i.waiting ≡ 0 ∷ [] = ap (λ (v : StoreValue). v.waiting) c.self.view_is
    ∙ c.requires.ready.none_waits in
    let s = moved_with i i.state c.self.inside.journal in
    let view : s ≡ c.args.self.now =
    sym (lies_at i i.state c.self.inside.journal i.waiting none) ∙ c.self.view_is in
    let m = c.self.inside.journal in
    let new : StoreValue = record i { closed = true } in
    let o = g.D.Disk.tells c.args.disk.now in
    let o' = g.D.Disk.tells c.compact.new.disk in
    let kept = subst IsStore (lies_at i i.state c.self.inside.journal i.waiting none)
    c.self.invariant in
    let short =
    short_is_two s (subst (λ (v : StoreValue). written_in v ≡ kind.Short) (sym view)
    c.requires.short) in
    let further = subst (λ (v : StoreValue). v.generation < 2 ^ 64 - 1) (sym view)
    c.requires.generation in
    let room = subst (λ (e : CompactionFault). WeighsAccount clients s.state.facts s.limit (Err e))
    c.in-Err-DiskFault.field-0-is c.in-Err-DiskFault.ensures.room in
    subst (λ (v : StoreValue). StoreHasCompacted clients v new (Err fault.DiskFault) o o')
    view
    (record {
      answer = (
        record { generation = further; roomy = room },
        ap (λ (v : StoreValue).
            record v { closed = true }) (lies_at i i.state m i.waiting none),
      );
      leads = leads_broken clients s m o o' short kept new refl
          (subst (λ (e : CompactionFault). GivesBrief clients s m (Err e) o o')
          c.in-Err-DiskFault.field-0-is c.in-Err-DiskFault.ensures.compacts);
      own = tt;
    })
