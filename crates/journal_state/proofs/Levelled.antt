-- What a level makes of the parts.
use Rattle.std.proofs.Common.{◌≡◌, ℕ, ◌-◌, ◌<◌, ◌≤◌, Bool, true, false, cond, ◌&&◌, ◌||◌}
use Rattle.std.proofs.Common.{nat_eq, nat_lt, List, length, map, Option, None, Some}
use Rattle.std.proofs.Common.{is_some, slice_get, slice_index_or, refl, sym, ◌∙◌, ap, subst, arith}
use Rattle.std.proofs.Common.{eqb-true, unwrap_or}
use Rattle.std.specs.FinMap as fin_map
use Rattle.std.specs.Ordering.{eq_by_cmp}
use Rattle.sync_rules.specs.declared.entries.Level.{Level}
use Rattle.sync_rules.specs.declared.entries.Level.TheVariants as level
use Rattle.sync_rules.specs.Lists.{same_id}
use Rattle.sync_rules.specs.Facts.{Held, Id, group_at, level_at, put_level, pair_cmp, is_invisible}
use Rattle.sync_rules.specs.declared.entries.Entry.TheVariants as entry
use Rattle.sync_rules.specs.Facts.{is_level_shared}
use Rattle.sync_rules.specs.Lists.{is_among}
use Rattle.sync_rules.specs.Sessions.{is_author}
use Rattle.visibility_table.specs.Table as levels
use Rattle.journal_state.specs.Parts.{Parts, answers_of, facts_of, name_at, shared_among}
use Rattle.journal_state.specs.Whole.{IsState, may_go}
use Rattle.journal_state.proofs.Kept.{rows_same, wants_same, within_held}
use Rattle.journal_state.proofs.Next.{many_nodes}
use Rattle.journal_state.proofs.Seen.{there}
use Rattle.retry_table.specs.Table as retry
use Rattle.journal_state.proofs.Paired.{same_group}
use Rattle.sync_rules.proofs.Elements.{same_id-is}
use Rattle.sync_rules.proofs.RowLaws.{hits, hits-is}
use Rattle.sync_rules.proofs.ScanLaws.{pair_total}
use Rattle.journal_state.specs.Room.{room_in}
use Rattle.journal_state.specs.Taking.{SpendsRoom, moved}
use Rattle.journal_state.proofs.Tables.{either, room_spent, one_less}

-- ---- room

pub levels_room : (space : ℕ) (old new : retry.Table) (contact group : ℕ) (ready : Bool) → retry.SetsGroup old new contact group ready
    → SpendsRoom (room_in space old) (room_in (space - 1) new)
levels_room space old new contact group ready l = room_spent space (space - 1) old new (one_less space)
    (λ c. either c contact
    (λ e. subst (λ x. length (retry.rows_of old x) ≤ length (retry.rows_of new x)) (sym e) (let m = l.many in omega (arith, m)))
    (λ apart. let m = ap (λ (ks : List retry.KeptRow). length ks) (l.others c apart) in omega (arith, m)))
    (λ c. let m = ap (λ (ws : List retry.WantedFromContact). (retry.wants_of (record old { wants = ws }) c).room) l.wants in omega (arith, m))

-- ---- levels

level_chosen : (b : Bool) (l : Level) (o : Option Level)
    → unwrap_or (cond b (Some l) o) level.Invisible ≡ cond b l (unwrap_or o level.Invisible)
level_chosen true l o = refl
level_chosen false l o = refl

level_dropped : (b : Bool) (o : Option Level) → unwrap_or (cond b None o) level.Invisible
    ≡ cond b level.Invisible (unwrap_or o level.Invisible)
level_dropped true o = refl
level_dropped false o = refl

-- the level of a contact and a group once one is set
pub level_put : (ls : fin_map.FinMap pair_cmp Level) (c : ℕ) (g : Id) (l : Level) (contact : ℕ) (group : Id)
    → level_at (put_level ls (c, g) l) contact group ≡ cond (hits contact group c g) l (level_at ls contact group)
level_put ls c g level.Invisible contact group =
    ap (λ (o : Option Level). unwrap_or o level.Invisible)
    (fin_map.get-remove pair_total ls (c, g) (contact, group))
    ∙ (level_dropped (eq_by_cmp pair_cmp (contact, group) (c, g)) (fin_map.get ls (contact, group))
    ∙ ap (λ b. cond b level.Invisible (level_at ls contact group)) (hits-is contact c group g))
level_put ls c g level.Visible contact group =
    ap (λ (o : Option Level). unwrap_or o level.Invisible)
    (fin_map.get-insert pair_total ls (c, g) level.Visible (contact, group))
    ∙ (level_chosen (eq_by_cmp pair_cmp (contact, group) (c, g)) level.Visible (fin_map.get ls (contact, group))
    ∙ ap (λ b. cond b level.Visible (level_at ls contact group)) (hits-is contact c group g))
level_put ls c g level.Shared contact group =
    ap (λ (o : Option Level). unwrap_or o level.Invisible)
    (fin_map.get-insert pair_total ls (c, g) level.Shared (contact, group))
    ∙ (level_chosen (eq_by_cmp pair_cmp (contact, group) (c, g)) level.Shared (fin_map.get ls (contact, group))
    ∙ ap (λ b. cond b level.Shared (level_at ls contact group)) (hits-is contact c group g))

-- only a held message is released
pub released_within : (p : Parts) → IsState p → (n group most : ℕ) → retry.group_at p.retry n ≡ Some group → length p.held ≤ most → n < most
released_within p s n group most e le = by (nat_lt n most) refl
  where
    by : (b : Bool) → nat_lt n most ≡ b → n < most
    by true f = grind (arith, f)
    by false f = absurd (let past : most ≤ n = grind (arith, f) in let none : None ≡ Some group = sym (s.unreleased n (omega (arith, past, le))) ∙ e in cc)

-- ---- the parts once a level is set

and_true : (b : Bool) → (b && true) ≡ b
and_true true = refl
and_true false = refl

and_false : (b : Bool) → (b && false) ≡ false
and_false true = refl
and_false false = refl

module _ (p : Parts) (s : IsState p) (c : ℕ) (g : Id) (l : Level) (t : levels.TableOfLevels)
    (made : t ≡ levels.after_entry p.table (entry.Level c g l)) (number : ℕ) (numbered : levels.group_number p.table.groups g ≡ Some number) (new : retry.Table)
    (r : retry.SetsGroup p.retry new c number (is_level_shared l)) (space : ℕ) where
  abbrev gone : List Id
  gone = map (name_at p.nodes) p.delivered

  abbrev open_ids : List Id
  open_ids = shared_among p.held (answers_of p.nodes p.shares)

  -- a message that may be sent to others and is of the group is ready as its level says
  ready_by : (d w b : Bool) (m : Level) (group : ℕ) → nat_eq number group ≡ b → (k : retry.KeptRow) → k.ready ≡ (d && (is_level_shared m && w))
      → (cond (retry.is_of_group (cond (d && w) (Some group) None) number) (retry.with_ready (is_level_shared l) k) k).ready ≡ (d && (is_level_shared (cond b l m) && w))
  ready_by true true true m group e k was = ap (λ x. (cond x (retry.with_ready (is_level_shared l) k) k).ready) e ∙ sym (and_true (is_level_shared l))
  ready_by true true false m group e k was = ap (λ x. (cond x (retry.with_ready (is_level_shared l) k) k).ready) e ∙ was
  ready_by true false b m group e k was = was ∙ (and_false (is_level_shared m) ∙ sym (and_false (is_level_shared (cond b l m))))
  ready_by false w b m group e k was = was

  ready_here : (n : ℕ) (h : Held) → c < 256 → slice_get p.held n ≡ Some h
      → (retry.kept_at new c n).ready ≡ may_go (put_level p.table.levels (c, g) l) gone open_ids c h
  ready_here n h known at =
      let inside : n < length p.held = within_held p.held n h at in
      let node = there p.nodes n (omega (arith, inside, many_nodes p s)) in
      let grouped : levels.group_number p.table.groups h.message.group ≡ Some node.0.group = s.grouped n h node.0 at node.1 in
      let same : nat_eq number node.0.group ≡ same_id g h.message.group = same_group p.table.groups g h.message.group number node.0.group numbered grouped in
      let hit : hits c h.message.group c g ≡ same_id g h.message.group = (let own : nat_eq c c ≡ true = grind arith in ap (λ b. b && same_id g h.message.group) own) in
      ap (λ (k : retry.KeptRow). k.ready) (r.here n)
      ∙ (ap (λ o. (cond (retry.is_of_group o number) (retry.with_ready (is_level_shared l) (retry.kept_at p.retry c n)) (retry.kept_at p.retry c n)).ready) (s.released n h node.0 at node.1)
      ∙ (ready_by (is_among gone h.id) (is_author h.origin || is_among open_ids h.id) (same_id g h.message.group) (level_at p.table.levels c h.message.group) node.0.group same (retry.kept_at p.retry c n) (s.ready c n h known at)
      ∙ ap (λ (m : Level). is_among gone h.id && (is_level_shared m && (is_author h.origin || is_among open_ids h.id)))
      (ap (λ b. cond b l (level_at p.table.levels c h.message.group)) (sym hit) ∙ sym (level_put p.table.levels c g l c h.message.group))))

  ready_there : (contact n : ℕ) (h : Held) → (contact ≡ c → ⊥) → contact < 256 → slice_get p.held n ≡ Some h
      → (retry.kept_at new contact n).ready ≡ may_go (put_level p.table.levels (c, g) l) (map (name_at p.nodes) p.delivered) (shared_among p.held (answers_of p.nodes p.shares)) contact h
  ready_there contact n h apart known at =
      ap (λ (ks : List retry.KeptRow). (retry.kept_in ks n).ready) (r.others contact apart)
      ∙ (s.ready contact n h known at
      ∙ ap (λ (m : Level). is_among (map (name_at p.nodes) p.delivered) h.id && (is_level_shared m && (is_author h.origin || is_among (shared_among p.held (answers_of p.nodes p.shares)) h.id)))
      (sym (level_put p.table.levels c g l contact h.message.group ∙ ap (λ b. cond b l (level_at p.table.levels contact h.message.group)) (miss (nat_eq contact c) refl))))
    where
      miss : (b : Bool) → nat_eq contact c ≡ b → hits contact h.message.group c g ≡ false
      miss true e = absurd (apart (eqb-true contact c e))
      miss false e = ap (λ b. b && same_id g h.message.group) e

  free_here : (n : ℕ) → length p.held ≤ n → retry.kept_at new c n ≡ retry.no_kept
  free_here n beyond =
      r.here n
      ∙ (ap (λ o. cond (retry.is_of_group o number) (retry.with_ready (is_level_shared l) (retry.kept_at p.retry c n)) (retry.kept_at p.retry c n)) (s.unreleased n beyond)
      ∙ s.free_rows c n beyond)

  row_here : (n : ℕ) → (retry.kept_at new c n).row ≡ (retry.kept_at p.retry c n).row
  row_here n = ap (λ (k : retry.KeptRow). k.row) (r.here n) ∙ by (retry.is_of_group (retry.group_at p.retry n) number) (retry.kept_at p.retry c n)
    where
      by : (b : Bool) (k : retry.KeptRow) → (cond b (retry.with_ready (is_level_shared l) k) k).row ≡ k.row
      by true k = refl
      by false k = refl

  pub level_row : (contact n : ℕ) → (retry.kept_at new contact n).row ≡ (retry.kept_at p.retry contact n).row
  level_row contact n = either contact c
      (λ e. subst (λ x. (retry.kept_at new x n).row ≡ (retry.kept_at p.retry x n).row) (sym e) (row_here n))
      (λ apart. ap (λ (ks : List retry.KeptRow). (retry.kept_in ks n).row) (r.others contact apart))

  level_shown : is_some (group_at p.table.groups g) ≡ true → (contact : ℕ) (group : Id) → is_invisible (level_at (put_level p.table.levels (c, g) l) contact group) ≡ false
      → is_some (group_at p.table.groups group) ≡ true
  level_shown known contact group e = by (same_id g group) refl
    where
      by : (b : Bool) → same_id g group ≡ b → is_some (group_at p.table.groups group) ≡ true
      by true q = ap (λ (x : Id). is_some (group_at p.table.groups x)) (sym (same_id-is g group q))
          ∙ known
      by false q =
          s.shown contact group
          (ap is_invisible (sym (level_put p.table.levels c g l contact group
          ∙ ap (λ b. cond b l (level_at p.table.levels contact group)) (ap (λ b. nat_eq contact c && b) q ∙ and_false (nat_eq contact c)))) ∙ e)

  level_hidden : c < p.table.contacts → (contact : ℕ) (group : Id) → p.table.contacts ≤ contact → level_at (put_level p.table.levels (c, g) l) contact group ≡ level.Invisible
  level_hidden met contact group beyond =
      level_put p.table.levels c g l contact group
      ∙ (ap (λ b. cond (b && same_id g group) l (level_at p.table.levels contact group)) (let other : nat_eq contact c ≡ false = grind (arith, met, beyond) in other)
      ∙ s.hidden contact group beyond)

  level_then : c < p.table.contacts → is_some (group_at p.table.groups g) ≡ true
      → IsState (record p { table = levels.after_entry p.table (entry.Level c g l); retry = new; space = space })
  level_then met known = record {
    named = s.named;
    grouped = s.grouped;
    distinct = s.distinct;
    each_share = s.each_share;
    order = s.order;
    within = s.within;
    ended = s.ended;
    many = s.many;
    free_rows = λ contact n beyond. either contact c
        (λ e. ap (λ x. retry.kept_at new x n) e ∙ free_here n beyond)
        (λ apart. ap (λ (ks : List retry.KeptRow). retry.kept_in ks n) (r.others contact apart) ∙ s.free_rows contact n beyond);
    free_wants = λ contact beyond. ap (λ (ws : List retry.WantedFromContact). (retry.wants_of (record p.retry { wants = ws }) contact).ids) r.wants ∙ s.free_wants contact beyond;
    hidden = level_hidden met;
    shown = level_shown known;
    released = λ n h node at here. ap (λ (gs : List (Option ℕ)). slice_index_or gs n None) r.groups ∙ s.released n h node at here;
    unreleased = λ n beyond. ap (λ (gs : List (Option ℕ)). slice_index_or gs n None) r.groups ∙ s.unreleased n beyond;
    ready = λ contact n h below at. either contact c
        (λ e. subst (λ x. (retry.kept_at new x n).ready ≡ may_go (put_level p.table.levels (c, g) l) (map (name_at p.nodes) p.delivered) (shared_among p.held (answers_of p.nodes p.shares)) x h)
        (sym e) (ready_here n h (subst (λ x. x < 256) e below) at))
        (λ apart. ready_there contact n h apart below at);
  }

  pub level_state : c < p.table.contacts → is_some (group_at p.table.groups g) ≡ true → IsState (record p { table = t; retry = new; space = space })
  level_state met known = subst (λ (x : levels.TableOfLevels). IsState (record p { table = x; retry = new; space = space })) (sym made) (level_then met known)

  pub level_facts : facts_of (record p { table = t; retry = new; space = space }) ≡ moved (facts_of p) (entry.Level c g l)
  level_facts =
      ap (λ (x : levels.TableOfLevels). facts_of (record p { table = x; retry = new; space = space })) made
      ∙ (λ i. record (moved (facts_of p) (entry.Level c g l)) {
        rows = rows_same new p.retry p.held level_row i;
        wanted = wants_same new p.retry p.table.contacts (λ contact. ap (λ (ws : List retry.WantedFromContact). (retry.wants_of (record p.retry { wants = ws }) contact).ids) r.wants) i;
      })
