use Rattle.std.proofs.Common.{◌≡◌, [], ◌∷◌, refl, sym, ap, ◌∙◌, subst, false}
use Rattle.sync_store.specs.Store.{StoreValue}
use Rattle.sync_store.specs.Inside.{value_of}
use Rattle.sync_store.specs.Groups.{HasGathered, IsGathering}
use Rattle.sync_store.proofs.GroupSteps.{adds_all, adds_failed, emptied_store, end_before}
use Rattle.sync_store.proofs.GroupSteps.{flushed_store, ready_added, rests_before, same_files, same_passed}
use Rattle.sync_store.proofs.GroupAppends.{group_appended, group_appends, group_breaks, group_broken}
use Rattle.sync_store.proofs.store.Store.flush.Goals as goal

pub flush-requires-clause-fits : goal.flush-requires-clause-fits
flush-requires-clause-fits g c =
    let clients = g.C.Clients.meaning c.args.clients.now in
    let s = value_of c.self.inside in
    let files = (g.D.Disk.tells c.args.disk.now).files in
    let open' = subst (λ (v : StoreValue). IsGathering clients v files) (sym c.self.view_is)
    c.requires.gathering in
    rests_before clients open'.before s open'.more files s.file c.self.inside.journal.end
    open'.gathered open'.fits refl refl

pub invariant_of-self : goal.invariant_of-self
invariant_of-self g c =
    let s = value_of c.self.inside in
    emptied_store s _ c.self.invariant
    (flushed_store s c.self.inside.journal c.flush.new.journal c.flush.new.self refl refl refl refl
    c.in-Ok.ensures.ok c.in-Ok.ensures.empty)

pub returns-in-Ok-clause-ok : goal.returns-in-Ok-clause-ok
returns-in-Ok-clause-ok g c =
    let s = value_of c.self.inside in
    flushed_store s c.self.inside.journal c.flush.new.journal c.flush.new.self refl refl refl refl
    c.in-Ok.ensures.ok c.in-Ok.ensures.empty
    ∙ ap (λ (v : StoreValue). record v { waiting = 0 ∷ [] }) c.self.view_is

pub returns-in-Ok-clause-adds : goal.returns-in-Ok-clause-adds
returns-in-Ok-clause-adds g c before kept more gathered =
    let clients = g.C.Clients.meaning c.args.clients.now in
    let s = value_of c.self.inside in
    let o = g.D.Disk.tells c.args.disk.now in
    let o' = g.D.Disk.tells c.flush.new.disk in
    let g' = subst (λ (v : StoreValue). HasGathered clients before v more) (sym c.self.view_is)
    gathered in
    let j = c.self.inside.journal in
    let file : j.file ≡ before.file = g'.file in
    let end : j.end ≡ before.end = sym (end_before clients before s more j.end g' refl) in
    adds_all clients before s more kept c.self.invariant g' c.cite_laws.ensures.stand _ o o'
    (flushed_store s j c.flush.new.journal c.flush.new.self refl refl refl refl
    c.in-Ok.ensures.ok c.in-Ok.ensures.empty)
    (same_passed o o' s.waiting j.file before.file j.end before.end file end
    c.in-Ok.ensures.any_moment)
    (same_files o o' s.waiting j.file before.file j.end before.end file end
    c.in-Ok.ensures.appended)

pub returns-in-Ok-clause-ready : goal.returns-in-Ok-clause-ready
returns-in-Ok-clause-ready g c still =
    let clients = g.C.Clients.meaning c.args.clients.now in
    let s = value_of c.self.inside in
    let o = g.D.Disk.tells c.args.disk.now in
    let o' = g.D.Disk.tells c.flush.new.disk in
    let open' = subst (λ (v : StoreValue). IsGathering clients v o.files) (sym c.self.view_is)
    c.requires.gathering in
    let g' = open'.gathered in
    let before = open'.before in
    let more = open'.more in
    let j = c.self.inside.journal in
    let file : j.file ≡ before.file = g'.file in
    let end : j.end ≡ before.end = sym (end_before clients before s more j.end g' refl) in
    let is = flushed_store s j c.flush.new.journal c.flush.new.self refl refl refl refl
    c.in-Ok.ensures.ok c.in-Ok.ensures.empty in
    ready_added clients s _ o o' open' is still c.in-Ok.ensures.run
    (adds_all clients before s more open'.kept c.self.invariant g' c.cite_laws.ensures.stand _ o o'
    is
    (same_passed o o' s.waiting j.file before.file j.end before.end file end
    c.in-Ok.ensures.any_moment)
    (same_files o o' s.waiting j.file before.file j.end before.end file end
    c.in-Ok.ensures.appended))

pub returns-in-Err-clause-adds : goal.returns-in-Err-clause-adds
returns-in-Err-clause-adds g c before kept more gathered =
    let clients = g.C.Clients.meaning c.args.clients.now in
    let s = value_of c.self.inside in
    let o = g.D.Disk.tells c.args.disk.now in
    let o' = g.D.Disk.tells c.flush.new.disk in
    let g' = subst (λ (v : StoreValue). HasGathered clients before v more) (sym c.self.view_is)
    gathered in
    let j = c.self.inside.journal in
    let file : j.file ≡ before.file = g'.file in
    let end : j.end ≡ before.end = sym (end_before clients before s more j.end g' refl) in
    adds_failed clients before s more kept c.self.invariant g' c.cite_laws.ensures.stand _ o o' refl
    (same_passed o o' s.waiting j.file before.file j.end before.end file end
    c.in-Err.ensures.any_moment)

pub returns-in-Ok-clause-numbers : goal.returns-in-Ok-clause-numbers
returns-in-Ok-clause-numbers g c =
    let s = value_of c.self.inside in
    emptied_store s _ c.self.invariant
    (flushed_store s c.self.inside.journal c.flush.new.journal c.flush.new.self refl refl refl refl
    c.in-Ok.ensures.ok c.in-Ok.ensures.empty)

pub returns-in-Ok-clause-appends : goal.returns-in-Ok-clause-appends
returns-in-Ok-clause-appends g c before more gathered =
    let clients = g.C.Clients.meaning c.args.clients.now in
    let s = value_of c.self.inside in
    let o = g.D.Disk.tells c.args.disk.now in
    let o' = g.D.Disk.tells c.flush.new.disk in
    let g' = subst (λ (v : StoreValue). HasGathered clients before v more) (sym c.self.view_is)
    gathered in
    let j = c.self.inside.journal in
    let file : j.file ≡ before.file = g'.file in
    let end : j.end ≡ before.end = sym (end_before clients before s more j.end g' refl) in
    let is = flushed_store s j c.flush.new.journal c.flush.new.self refl refl refl refl
    c.in-Ok.ensures.ok c.in-Ok.ensures.empty in
    let still : s.closed ≡ false = ap (λ (v : StoreValue). v.closed) c.self.view_is
    ∙ c.requires.gathering.still_open in
    group_appended before s _ j.file j.end o o' file end
    (ap (λ (v : StoreValue). v.end) is ∙ g'.end) still
    (group_appends j.file j.end s.waiting o o' c.self.invariant.waits c.in-Ok.ensures.does)

pub returns-in-Err-clause-appends : goal.returns-in-Err-clause-appends
returns-in-Err-clause-appends g c before more gathered =
    let clients = g.C.Clients.meaning c.args.clients.now in
    let s = value_of c.self.inside in
    let o = g.D.Disk.tells c.args.disk.now in
    let o' = g.D.Disk.tells c.flush.new.disk in
    let g' = subst (λ (v : StoreValue). HasGathered clients before v more) (sym c.self.view_is)
    gathered in
    let j = c.self.inside.journal in
    let file : j.file ≡ before.file = g'.file in
    let end : j.end ≡ before.end = sym (end_before clients before s more j.end g' refl) in
    group_broken before _ j.file j.end o o' file end refl
    (group_breaks j.file j.end s.waiting o o' c.self.invariant.waits c.in-Err.ensures.does)
