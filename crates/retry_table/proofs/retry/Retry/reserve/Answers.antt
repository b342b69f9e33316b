use Rattle.std.proofs.Common.{◌≡◌, ℕ, ◌<◌, List, length, set, get_or, sym, ap, ◌∙◌, arith}
use Rattle.std.proofs.lemmas.List.{set-set, set-get_or, get_or-set_same, get_or_default}
use Rattle.retry_table.specs.Table.{WantedFromContact, Table, with_room}
use Rattle.retry_table.proofs.retry.Retry.reserve.Goals as goal

-- what was read is put back
put_back : {X : Type 0} (xs : List X) (i : ℕ) (x : X) → x ≡ get_or xs i x → set xs i x ≡ xs
put_back xs i x read = ap (set xs i) read ∙ set-get_or xs i x

-- the room that was made is not counted
restored : (ws : List WantedFromContact) (i more room : ℕ) (first read made after last : WantedFromContact) → i < length ws → first ≡ get_or ws i first → read ≡ get_or ws i read → made ≡ with_room more read → after ≡ get_or (set ws i made) i after
    → room ≡ first.room → last ≡ record { ids = after.ids; room = room } → set (set ws i made) i last ≡ ws
restored ws i more room first read made after last within is_first is_read is_made is_after is_room is_last =
    let same : read ≡ first = is_read ∙ get_or_default ws i read first within ∙ sym is_first in
    let kept : after ≡ made = is_after ∙ get_or-set_same ws i made after within in
    let ids : after.ids ≡ first.ids = ap (λ (w : WantedFromContact). w.ids) kept ∙ ap (λ (w : WantedFromContact). w.ids) is_made ∙ ap (λ (w : WantedFromContact). w.ids) same in
    let back : last ≡ first = is_last ∙ (λ j. record { ids = ids j; room = is_room j }) in
    set-set ws i made last ∙ put_back ws i last (back ∙ is_first ∙ (λ j. get_or ws i (sym back j)))

pub returns-in-Err-clause-err : goal.returns-in-Err-clause-err
returns-in-Err-clause-err c =
    let t = c.self.inside in
    let contact = c.args.contact in
    let within : contact < length t.wants.items = omega (arith, c.self.invariant.1) in
    let wants : set (set t.wants.items contact c.reserve.new.self) contact c.lower.new.self ≡ t.wants.items =
    restored t.wants.items contact c.args.wants c.room-room.result c.index.result.now c.index_mut.result.now c.reserve.new.self c.index_mut-in-Err.result.now c.lower.new.self
    within c.index.ensures c.index_mut.ensures.value c.in_ok-reserve.ensures.ok c.index_mut-in-Err.ensures.value c.room-room.ensures c.lower.ensures in
    (λ j. record { rows = (c.in-Err.ensures.err j).rows; wants = wants j; groups = (c.in-Err.ensures.err j).groups }) ∙ c.self.view_is
