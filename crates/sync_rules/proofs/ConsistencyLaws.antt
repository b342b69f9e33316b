-- The facts of every legal journal fit together: each entry keeps what holds of groups, held messages, levels, rows, wanted
-- ids and ends.
use Rattle.std.proofs.Common.{◌≡◌, ℕ, ◌+◌, ◌<◌, ◌≤◌, Bool, true, false, not, cond, ◌&&◌, ◌||◌, ◌⊎◌}
use Rattle.std.proofs.Common.{nat_eq, eqb-true, List, [], ◌∷◌, ◌++◌, length, length-append, refl}
use Rattle.std.proofs.Common.{sym, ◌∙◌, ap, subst, inl, inr, arith, Option, Some, None, is_some}
use Rattle.std.proofs.Common.{unwrap_or}
use Rattle.std.specs.FinMap as fin_map
use Rattle.std.specs.FinSet as fin_set
use Rattle.std.specs.Ordering.{nat_cmp, eq_by_cmp}
use Rattle.std.specs.Cmp.{nat_cmp_total, unsigned_tied}
use Rattle.std.specs.Cmp.Lexicographic.{slice_cmp}
use Rattle.std.proofs.lemmas.Bool.{and_parts, or_parts, or_cases, or_left, or_right, false≢true, not-true}
use Rattle.sync_ids.specs.Values.{MessageValue}
use Rattle.sync_ids.specs.Ids.{message_id_of}
use Rattle.sync_rules.specs.declared.entries.Entry.{Entry}
use Rattle.sync_rules.specs.declared.entries.Entry.TheVariants as entry
use Rattle.sync_rules.specs.declared.entries.Level.{Level}
use Rattle.sync_rules.specs.declared.entries.Level.TheVariants as level
use Rattle.sync_rules.specs.declared.entries.Out.{Out}
use Rattle.sync_rules.specs.declared.entries.Out.TheVariants as out
use Rattle.sync_rules.specs.declared.entries.Session.{Session}
use Rattle.sync_rules.specs.declared.states.Origin.{Origin}
use Rattle.sync_rules.specs.declared.states.Origin.TheVariants as origin
use Rattle.sync_rules.specs.Clients.{Meaning}
use Rattle.sync_rules.specs.Lists.{same_id, is_among, has_repeat, without, firsts}
use Rattle.sync_rules.specs.Facts.{Facts, Held, Id, Known, Row, Rows, LevelMap, Wants, pair_cmp}
use Rattle.sync_rules.specs.Facts.{after, after_all, nothing, facts, entries_of, group_at, held_at}
use Rattle.sync_rules.specs.Facts.{is_held, session_at, contact_of, put_level, is_no_row, row_at}
use Rattle.sync_rules.specs.Facts.{put_row, change_row, change_rows, row_heard, row_seen, row_acked}
use Rattle.sync_rules.specs.Facts.{row_asked, row_offered, row_sent, row_tried, one_more_try}
use Rattle.sync_rules.specs.Facts.{latency_of, wanted_from, change_each, wanted_by_none, with_want}
use Rattle.sync_rules.specs.Facts.{without_each, authored, arrived, kept_as, known_of, no_row}
use Rattle.sync_rules.specs.Output.{NamesTheOpen}
use Rattle.sync_rules.specs.Legal.{Legal, IsDue, IsKeptFrom}
use Rattle.sync_rules.specs.Meeting.{MeetsNoStep, AllMeet}
use Rattle.sync_rules.specs.Growth.{ContinuesFacts}
use Rattle.sync_rules.specs.Consistency.{ids_of_groups, ids_of_held, IsGroupOf, HasGroups, IsKnownOrigin, IsHeldOf, HasHeld, IsLevelOf, HasLevels, IsRowOf, HasRows, HasWanted, HasEnds, HasSessions, IsConsistent}
use Rattle.sync_rules.proofs.Elements.{same_id-is, same_id_itself, same_id_swap, among-push}
use Rattle.sync_rules.proofs.Sound.{SoundFacts, contains-more}
use Rattle.sync_rules.proofs.Kept.{IsDelivery, IsRefusal, delivery, refusal, sound_after, after_batches-is}
use Rattle.sync_rules.proofs.Runs.{sound_nothing}
use Rattle.sync_rules.proofs.Flags.{is_held-push}
use Rattle.sync_rules.proofs.ScanLaws.{pair_total, pair_tied}
use Rattle.sync_rules.proofs.RowLaws.{among-firsts}
use Rattle.sync_rules.proofs.PeerFacts.{want_put, want_dropped, among-without}
use Rattle.sync_rules.proofs.Outputs.{out_named}
use Rattle.sync_rules.proofs.Continuing.{continues_after}
use Rattle.sync_rules.proofs.StepKinds.{next_is_step}
use Rattle.sync_rules.proofs.MeetingLaws.{legal_meets, meets_fits}
use Rattle.sync_rules.proofs.SessionLaws.{sessions_after_one, sessions_of_nothing, session_contact_known}

-- ---- distinct ids

pub has_repeat-push : (ids : List Id) (x : Id) → has_repeat ids ≡ false → is_among ids x ≡ false → has_repeat (ids ++ x ∷ []) ≡ false
has_repeat-push [] x distinct new = refl
has_repeat-push (y ∷ ids) x distinct new =
    let a = or_parts (is_among ids y) (has_repeat ids) distinct in
    let b = or_parts (same_id y x) (is_among ids x) new in
    let none : is_among (ids ++ x ∷ []) y ≡ false =
    among-push ids x y ∙ ((λ i. (same_id_swap x y ∙ b.0) i || a.0 i)) in
    (λ i. none i || has_repeat-push ids x a.1 b.1 i)

pub without_distinct : (x : Id) (ids : List Id) → has_repeat ids ≡ false → has_repeat (without x ids) ≡ false
without_distinct x [] d = refl
without_distinct x (y ∷ ids) d =
    let a = or_parts (is_among ids y) (has_repeat ids) d in
    elim (same_id y x) as (λ b. has_repeat (cond b (without x ids) (y ∷ without x ids)) ≡ false) [
      | true ↦ without_distinct x ids a.1
      | false ↦
          let none : is_among (without x ids) y ≡ false = among-without x ids y ∙ ap (λ b. b && not (same_id x y)) a.0 in
          λ i. none i || without_distinct x ids a.1 i
    ]

pub without_few : (x : Id) (ids : List Id) → length (without x ids) ≤ length ids
without_few x [] = omega arith
without_few x (y ∷ ids) =
    let h = without_few x ids in
    elim (same_id y x) as (λ b. length (cond b (without x ids) (y ∷ without x ids)) ≤ length (y ∷ ids)) [
      | true ↦ omega (arith, h)
      | false ↦ omega (arith, h)
    ]

pub among_left : (x : Id) (ids : List Id) (id : Id) → is_among (without x ids) id ≡ true → (is_among ids id ≡ true) × (same_id x id ≡ false)
among_left x ids id e =
    let both = and_parts (is_among ids id) (not (same_id x id)) (sym (among-without x ids id) ∙ e) in
    (both.0, not-true (same_id x id) both.1)

-- what is said of a list of wanted ids
record IsWantList (f : Facts) (ids : List Id) : Type 0 where
  distinct : has_repeat ids ≡ false
  not_held : (id : Id) → is_among ids id ≡ true → is_held f.held id ≡ false
  few : length ids ≤ 1000

want_list_without : (f : Facts) (x : Id) (ids : List Id) → IsWantList f ids → IsWantList f (without x ids)
want_list_without f x ids w = record {
  distinct = without_distinct x ids w.distinct;
  not_held = λ id e. w.not_held id (among_left x ids id e).0;
  few = let a : length ids ≤ 1000 = w.few in let b : length (without x ids) ≤ length ids = without_few x ids in omega (arith, a, b);
}

want_list_without_each : (f : Facts) (xs ids : List Id) → IsWantList f ids → IsWantList f (without_each xs ids)
want_list_without_each f [] ids w = w
want_list_without_each f (x ∷ xs) ids w = want_list_without_each f xs (without x ids) (want_list_without f x ids w)

-- ---- what is held and known stays so

held_there : (f g : Facts) → ContinuesFacts f g → (id : Id) (o : Option Held) → held_at f.held id ≡ o → is_some o ≡ true → is_held g.held id ≡ true
held_there f g c id None at e = absurd (false≢true e)
held_there f g c id (Some h) at e = ap is_some (c.same_held id h at)

group_there : (f g : Facts) → ContinuesFacts f g → (id : Id) (o : Option Known) → group_at f.groups id ≡ o → is_some o ≡ true → is_some (group_at g.groups id) ≡ true
group_there f g c id None at e = absurd (false≢true e)
group_there f g c id (Some x) at e = ap is_some (c.same_group id x at)

contact_there : (f g : Facts) → ContinuesFacts f g → (n : ℕ) → n < f.contacts → n < g.contacts
contact_there f g c n k = let up : f.contacts ≤ g.contacts = c.contacts in omega (arith, up, k)

-- ---- groups

ids_of_groups-push : (gs : List Known) (x : Known) → ids_of_groups (gs ++ x ∷ []) ≡ ids_of_groups gs ++ x.id ∷ []
ids_of_groups-push [] x = refl
ids_of_groups-push (g ∷ gs) x = ap (λ (t : List Id). g.id ∷ t) (ids_of_groups-push gs x)

among_groups : (gs : List Known) (id : Id) → is_among (ids_of_groups gs) id ≡ is_some (group_at gs id)
among_groups [] id = refl
among_groups (g ∷ gs) id =
    elim (same_id g.id id) as (λ b. (b || is_among (ids_of_groups gs) id) ≡ is_some (cond b (Some g) (group_at gs id))) [
      | true ↦ refl
      | false ↦ among_groups gs id
    ]

group_at-cases : (gs : List Known) (x : Known) (id : Id) (g : Known) → group_at (gs ++ x ∷ []) id ≡ Some g → (group_at gs id ≡ Some g) ⊎ ((g ≡ x) × (x.id ≡ id))
group_at-cases [] x id g e =
    elim (same_id x.id id) as (λ b. same_id x.id id ≡ b → cond b (Some x) None ≡ Some g → (group_at [] id ≡ Some g) ⊎ ((g ≡ x) × (x.id ≡ id))) [
      | true ↦ λ is e. let same : g ≡ x = cc in inr (same, same_id-is x.id id is)
      | false ↦ λ is e. cc
    ] refl e
group_at-cases (y ∷ gs) x id g e =
    elim (same_id y.id id) as (λ b. cond b (Some y) (group_at (gs ++ x ∷ []) id) ≡ Some g → (cond b (Some y) (group_at gs id) ≡ Some g) ⊎ ((g ≡ x) × (x.id ≡ id))) [
      | true ↦ λ e. inl e
      | false ↦ λ e. group_at-cases gs x id g e
    ] e

pub groups_after_one : (clients : Meaning) (f : Facts) (e : Entry) → MeetsNoStep clients f e → HasGroups f → HasGroups (after f e)
groups_after_one clients f (entry.Contact c) m h = record {
  few_contacts = let k : c < 256 = m.1.1 in let is : c ≡ f.contacts = m.1.0 in omega (arith, k, is);
  few = h.few;
  distinct = h.distinct;
  each = h.each;
}
groups_after_one clients f (entry.Group def) m h =
    let x : Known = known_of def in
    let longer : length (f.groups ++ x ∷ []) ≡ length f.groups + 1 = length-append f.groups (x ∷ []) in
    let few : length f.groups < 1024 = m.1.few in
    record {
      few_contacts = h.few_contacts;
      few = omega (arith, longer, few);
      distinct = ap has_repeat (ids_of_groups-push f.groups x)
          ∙ has_repeat-push (ids_of_groups f.groups) x.id h.distinct (among_groups f.groups x.id ∙ m.1.new);
      each = λ id g at.
          elim (group_at-cases f.groups x id g at) [
            | inl was ↦ h.each id g was
            | inr new ↦
                let first : IsGroupOf x.id x = record { named = refl; is_id = refl } in
                subst (IsGroupOf id) (sym new.0) (subst (λ (w : Id). IsGroupOf w x) new.1 first)
          ];
    }
groups_after_one clients f _ m h = record { few_contacts = h.few_contacts; few = h.few; distinct = h.distinct; each = h.each }

-- ---- held messages

ids_of_held-push : (hs : List Held) (x : Held) → ids_of_held (hs ++ x ∷ []) ≡ ids_of_held hs ++ x.id ∷ []
ids_of_held-push [] x = refl
ids_of_held-push (h ∷ hs) x = ap (λ (t : List Id). h.id ∷ t) (ids_of_held-push hs x)

pub among_held : (hs : List Held) (id : Id) → is_among (ids_of_held hs) id ≡ is_held hs id
among_held [] id = refl
among_held (h ∷ hs) id =
    elim (same_id h.id id) as (λ b. (b || is_among (ids_of_held hs) id) ≡ is_some (cond b (Some h) (held_at hs id))) [
      | true ↦ refl
      | false ↦ among_held hs id
    ]

pub held_at-cases : (hs : List Held) (x : Held) (id : Id) (h : Held) → held_at (hs ++ x ∷ []) id ≡ Some h → (held_at hs id ≡ Some h) ⊎ ((h ≡ x) × (x.id ≡ id))
held_at-cases [] x id h e =
    elim (same_id x.id id) as (λ b. same_id x.id id ≡ b → cond b (Some x) None ≡ Some h → (held_at [] id ≡ Some h) ⊎ ((h ≡ x) × (x.id ≡ id))) [
      | true ↦ λ is e. let same : h ≡ x = cc in inr (same, same_id-is x.id id is)
      | false ↦ λ is e. cc
    ] refl e
held_at-cases (y ∷ hs) x id h e =
    elim (same_id y.id id) as (λ b. cond b (Some y) (held_at (hs ++ x ∷ []) id) ≡ Some h → (cond b (Some y) (held_at hs id) ≡ Some h) ⊎ ((h ≡ x) × (x.id ≡ id))) [
      | true ↦ λ e. inl e
      | false ↦ λ e. held_at-cases hs x id h e
    ] e

known_origin_there : (f g : Facts) → ContinuesFacts f g → (o : Origin) → IsKnownOrigin f o → IsKnownOrigin g o
known_origin_there f g c origin.Author k = tt
known_origin_there f g c (origin.From contact) k = contact_there f g c contact k

held_of_there : (f g : Facts) → ContinuesFacts f g → (id : Id) (h : Held) → IsHeldOf f id h → IsHeldOf g id h
held_of_there f g c id h is = record {
  named = is.named;
  is_id = is.is_id;
  known_group = group_there f g c h.message.group (group_at f.groups h.message.group) refl is.known_group;
  known_origin = known_origin_there f g c h.origin is.known_origin;
}

-- one more held message
held_more : (f g : Facts) (x : Held) → ContinuesFacts f g → g.held ≡ f.held ++ x ∷ [] → is_held f.held x.id ≡ false → IsHeldOf g x.id x → HasHeld f → HasHeld g
held_more f g x c longer new is h = record {
  distinct = ap (λ (hs : List Held). has_repeat (ids_of_held hs)) longer
      ∙ (ap has_repeat (ids_of_held-push f.held x)
      ∙ has_repeat-push (ids_of_held f.held) x.id h.distinct (among_held f.held x.id ∙ new));
  each = λ id y at.
      elim (held_at-cases f.held x id y (ap (λ (hs : List Held). held_at hs id) (sym longer) ∙ at)) [
        | inl was ↦ held_of_there f g c id y (h.each id y was)
        | inr last ↦ subst (IsHeldOf g id) (sym last.0) (subst (λ (w : Id). IsHeldOf g w x) last.1 is)
      ];
}

held_same : (f g : Facts) → ContinuesFacts f g → g.held ≡ f.held → HasHeld f → HasHeld g
held_same f g c same h = record {
  distinct = ap (λ (hs : List Held). has_repeat (ids_of_held hs)) same ∙ h.distinct;
  each = λ id y at. held_of_there f g c id y (h.each id y (ap (λ (hs : List Held). held_at hs id) (sym same) ∙ at));
}

-- a message is kept as one that came from a known contact, or was written here
kept_origin : (clients : Meaning) (f : Facts) (from : Origin) (m : MessageValue) → IsKeptFrom clients f from m → IsKnownOrigin f from
kept_origin clients f origin.Author m k = tt
kept_origin clients f (origin.From contact) m k = k

pub held_after_one : (clients : Meaning) (f : Facts) (e : Entry) → MeetsNoStep clients f e → HasSessions f → HasHeld f → HasHeld (after f e)
held_after_one clients f (entry.Author m) met s h =
    held_more f (after f (entry.Author m)) (authored m) (continues_after f (entry.Author m)) refl met.1.new
    (record { named = refl; is_id = refl; known_group = met.1.known_group; known_origin = tt }) h
held_after_one clients f (entry.Arrive t m) met s h =
    held_more f (after f (entry.Arrive t m)) (arrived (contact_of f.sessions t) m) (continues_after f (entry.Arrive t m)) refl met.1.new
    (record {
      named = refl;
      is_id = refl;
      known_group = met.1.known_group;
      known_origin = session_contact_known f s t (session_at f.sessions t) refl met.1.known_session;
    }) h
held_after_one clients f (entry.Kept from m) met s h =
    held_more f (after f (entry.Kept from m)) (kept_as from m)
    (continues_after f (entry.Kept from m)) refl met.1.1.new
    (record {
      named = refl;
      is_id = refl;
      known_group = met.1.1.known_group;
      known_origin = kept_origin clients f from m met.1.1.kept_from;
    }) h
held_after_one clients f it met s h = held_same f (after f it) (continues_after f it) refl h

-- ---- pairs

pair_hit : (contact c : ℕ) (id x : Id) → eq_by_cmp pair_cmp (contact, id) (c, x) ≡ true → (contact ≡ c) × (id ≡ x)
pair_hit contact c id x e =
    let both = and_parts (nat_eq contact c) (same_id id x) (sym (pair_tied contact c id x) ∙ e) in
    (eqb-true contact c both.0, same_id-is id x both.1)

-- ---- levels

abbrev LevelsIn : Facts → LevelMap → Type 0
LevelsIn g levels = (contact : ℕ) (group : Id) (l : Level) → fin_map.get levels (contact, group) ≡ Some l → IsLevelOf g contact group l

level_insert : (g : Facts) (levels : LevelMap) (c : ℕ) (x : Id) (l : Level) → IsLevelOf g c x l → LevelsIn g levels → LevelsIn g (fin_map.insert levels (c, x) l)
level_insert g levels c x l is has contact group k at =
    elim (eq_by_cmp pair_cmp (contact, group) (c, x)) as (λ b. eq_by_cmp pair_cmp (contact, group) (c, x) ≡ b
    → cond b (Some l) (fin_map.get levels (contact, group)) ≡ Some k → IsLevelOf g contact group k) [
      | true ↦ λ e at.
          let hit = pair_hit contact c group x e in
          let same : l ≡ k = cc in
          subst (IsLevelOf g contact group) same
          (subst (λ (w : Id). IsLevelOf g contact w l) (sym hit.1) (subst (λ (n : ℕ). IsLevelOf g n x l) (sym hit.0) is))
      | false ↦ λ e at. has contact group k at
    ] refl (sym (fin_map.get-insert pair_total levels (c, x) l (contact, group)) ∙ at)

level_remove : (g : Facts) (levels : LevelMap) (c : ℕ) (x : Id) → LevelsIn g levels → LevelsIn g (fin_map.remove levels (c, x))
level_remove g levels c x has contact group k at =
    elim (eq_by_cmp pair_cmp (contact, group) (c, x)) as (λ b. cond b None (fin_map.get levels (contact, group)) ≡ Some k → IsLevelOf g contact group k) [
      | true ↦ λ at. cc
      | false ↦ λ at. has contact group k at
    ] (sym (fin_map.get-remove pair_total levels (c, x) (contact, group)) ∙ at)

level_put : (g : Facts) (levels : LevelMap) (c : ℕ) (x : Id) (l : Level) → c < g.contacts → is_some (group_at g.groups x) ≡ true → LevelsIn g levels → LevelsIn g (put_level levels (c, x) l)
level_put g levels c x level.Invisible k known has = level_remove g levels c x has
level_put g levels c x level.Visible k known has =
    level_insert g levels c x level.Visible (record { not_invisible = refl; known_contact = k; known_group = known }) has
level_put g levels c x level.Shared k known has =
    level_insert g levels c x level.Shared (record { not_invisible = refl; known_contact = k; known_group = known }) has

levels_there : (f g : Facts) (levels : LevelMap) → ContinuesFacts f g → LevelsIn f levels → LevelsIn g levels
levels_there f g levels c has contact group l at =
    let is : IsLevelOf f contact group l = has contact group l at in
    record {
      not_invisible = is.not_invisible;
      known_contact = contact_there f g c contact is.known_contact;
      known_group = group_there f g c group (group_at f.groups group) refl is.known_group;
    }

pub levels_after_one : (clients : Meaning) (f : Facts) (e : Entry) → MeetsNoStep clients f e → HasLevels f → HasLevels (after f e)
levels_after_one clients f (entry.Level c x l) m has =
    let g : Facts = after f (entry.Level c x l) in
    level_put g f.levels c x l m.1.0 m.1.1
    (levels_there f g f.levels (continues_after f (entry.Level c x l)) has)
levels_after_one clients f it m has =
    levels_there f (after f it) f.levels (continues_after f it) has

-- ---- rows

abbrev RowsIn : Facts → Rows → Type 0
RowsIn g rows = (contact : ℕ) (id : Id) (r : Row) → fin_map.get rows (contact, id) ≡ Some r → IsRowOf g contact id r

row_insert : (g : Facts) (rows : Rows) (c : ℕ) (x : Id) (r : Row) → IsRowOf g c x r → RowsIn g rows → RowsIn g (fin_map.insert rows (c, x) r)
row_insert g rows c x r is has contact id k at =
    elim (eq_by_cmp pair_cmp (contact, id) (c, x)) as (λ b. eq_by_cmp pair_cmp (contact, id) (c, x) ≡ b
    → cond b (Some r) (fin_map.get rows (contact, id)) ≡ Some k → IsRowOf g contact id k) [
      | true ↦ λ e at.
          let hit = pair_hit contact c id x e in
          let same : r ≡ k = cc in
          subst (IsRowOf g contact id) same
          (subst (λ (w : Id). IsRowOf g contact w r) (sym hit.1) (subst (λ (n : ℕ). IsRowOf g n x r) (sym hit.0) is))
      | false ↦ λ e at. has contact id k at
    ] refl (sym (fin_map.get-insert pair_total rows (c, x) r (contact, id)) ∙ at)

row_remove : (g : Facts) (rows : Rows) (c : ℕ) (x : Id) → RowsIn g rows → RowsIn g (fin_map.remove rows (c, x))
row_remove g rows c x has contact id k at =
    elim (eq_by_cmp pair_cmp (contact, id) (c, x)) as (λ b. cond b None (fin_map.get rows (contact, id)) ≡ Some k → IsRowOf g contact id k) [
      | true ↦ λ at. cc
      | false ↦ λ at. has contact id k at
    ] (sym (fin_map.get-remove pair_total rows (c, x) (contact, id)) ∙ at)

row_put : (g : Facts) (rows : Rows) (c : ℕ) (x : Id) (r : Row) → c < g.contacts → is_held g.held x ≡ true → r.tries ≤ 64 → RowsIn g rows → RowsIn g (put_row rows (c, x) r)
row_put g rows c x r k held few has =
    elim (is_no_row r) as (λ b. is_no_row r ≡ b → RowsIn g (cond b (fin_map.remove rows (c, x)) (fin_map.insert rows (c, x) r))) [
      | true ↦ λ e. row_remove g rows c x has
      | false ↦ λ e. row_insert g rows c x r (record { not_empty = e; known_contact = k; held = held; few_tries = few }) has
    ] refl

few_tries_at : (g : Facts) (rows : Rows) (c : ℕ) (x : Id) → RowsIn g rows → (o : Option Row)
    → fin_map.get rows (c, x) ≡ o → (unwrap_or o no_row).tries ≤ 64
few_tries_at g rows c x has None at = omega arith
few_tries_at g rows c x has (Some r) at = (has c x r at).few_tries

-- a change that keeps tries within 64
abbrev KeepsTries : (Row → Row) → Type 0
KeepsTries change = (r : Row) → r.tries ≤ 64 → (change r).tries ≤ 64

row_change : (g : Facts) (rows : Rows) (c : ℕ) (x : Id) (change : Row → Row) → KeepsTries change → c < g.contacts → is_held g.held x ≡ true → RowsIn g rows → RowsIn g (change_row rows c x change)
row_change g rows c x change keeps k held has =
    row_put g rows c x (change (row_at rows c x)) k held (keeps (row_at rows c x) (few_tries_at g rows c x has (fin_map.get rows (c, x)) refl)) has

row_changes : (g : Facts) (rows : Rows) (c : ℕ) (ids : List Id) (change : Row → Row) → KeepsTries change → c < g.contacts
    → ((id : Id) → is_among ids id ≡ true → is_held g.held id ≡ true) → RowsIn g rows → RowsIn g (change_rows rows c ids change)
row_changes g rows c [] change keeps k held has = has
row_changes g rows c (x ∷ ids) change keeps k held has =
    row_changes g (change_row rows c x change) c ids change keeps k (λ id e. held id (or_right (same_id x id) (is_among ids id) e))
    (row_change g rows c x change keeps k (held x (or_left (same_id x x) (is_among ids x) (same_id_itself x))) has)

rows_there : (f g : Facts) (rows : Rows) → ContinuesFacts f g → RowsIn f rows → RowsIn g rows
rows_there f g rows c has contact id r at =
    let is : IsRowOf f contact id r = has contact id r at in
    record {
      not_empty = is.not_empty;
      known_contact = contact_there f g c contact is.known_contact;
      held = held_there f g c id (held_at f.held id) refl is.held;
      few_tries = is.few_tries;
    }

raised : (n : ℕ) → one_more_try n ≤ 64
raised n = omega arith

due_session_known : (clients : Meaning) (f : Facts) (o : Option Session) (now : ℕ) (what : Out) → IsDue clients f o now what → is_some o ≡ true
due_session_known clients f None now what due = absurd due
due_session_known clients f (Some s) now what due = refl

-- what an output acknowledges, offers or sends is held
rows_after_output : (f : Facts) (s now : ℕ) (what : Out) → contact_of f.sessions s < f.contacts → NamesTheOpen f (contact_of f.sessions s) what → HasRows f
    → HasRows (after f (entry.Out s now what))
rows_after_output f s now (out.Acks ids) k names has =
    let g : Facts = after f (entry.Out s now (out.Acks ids)) in
    row_changes g f.rows (contact_of f.sessions s) (firsts ids) row_acked (λ r e. e) k
    (λ id e. names id (sym (among-firsts ids id) ∙ e)) (rows_there f g f.rows (continues_after f (entry.Out s now (out.Acks ids))) has)
rows_after_output f s now (out.Requests ids) k names has =
    rows_there f (after f (entry.Out s now (out.Requests ids))) f.rows (continues_after f (entry.Out s now (out.Requests ids))) has
rows_after_output f s now (out.Offers ids) k names has =
    let g : Facts = after f (entry.Out s now (out.Offers ids)) in
    row_changes g f.rows (contact_of f.sessions s) (firsts ids) (row_offered now (latency_of f.sessions s)) (λ r e. raised r.tries) k
    (λ id e. ap is_some (names id (sym (among-firsts ids id) ∙ e)).held) (rows_there f g f.rows (continues_after f (entry.Out s now (out.Offers ids))) has)
rows_after_output f s now (out.Send id) k names has =
    let g : Facts = after f (entry.Out s now (out.Send id)) in
    row_change g f.rows (contact_of f.sessions s) id (row_sent now (latency_of f.sessions s)) (λ r e. raised r.tries) k
    (ap is_some names.held) (rows_there f g f.rows (continues_after f (entry.Out s now (out.Send id))) has)

came_in : (f : Facts) (x : Held) → is_held (f.held ++ x ∷ []) x.id ≡ true
came_in f x = is_held-push f.held x x.id ∙ or_left (same_id x.id x.id) (is_held f.held x.id) (same_id_itself x.id)

pub rows_after_one : (clients : Meaning) (f : Facts) (e : Entry) → SoundFacts clients f → MeetsNoStep clients f e → HasSessions f → HasRows f → HasRows (after f e)
rows_after_one clients f (entry.Arrive t m) sound met s has =
    let e : Entry = entry.Arrive t m in
    let g : Facts = after f (entry.Arrive t m) in
    row_change g f.rows (contact_of f.sessions t) (message_id_of m) row_heard (λ r few. few)
    (session_contact_known f s t (session_at f.sessions t) refl met.1.known_session) (came_in f (arrived (contact_of f.sessions t) m))
    (rows_there f g f.rows (continues_after f (entry.Arrive t m)) has)
rows_after_one clients f (entry.Again t id) sound met s has =
    row_change (after f (entry.Again t id)) f.rows (contact_of f.sessions t) id row_heard (λ r few. few)
    (session_contact_known f s t (session_at f.sessions t) refl met.1.known_session) met.1.held
    (rows_there f (after f (entry.Again t id)) f.rows (continues_after f (entry.Again t id)) has)
rows_after_one clients f (entry.Seen t id) sound met s has =
    row_change (after f (entry.Seen t id)) f.rows (contact_of f.sessions t) id row_seen (λ r few. few)
    (session_contact_known f s t (session_at f.sessions t) refl met.1.known_session) met.1.held
    (rows_there f (after f (entry.Seen t id)) f.rows (continues_after f (entry.Seen t id)) has)
rows_after_one clients f (entry.Asked t id) sound met s has =
    row_change (after f (entry.Asked t id)) f.rows (contact_of f.sessions t) id row_asked (λ r few. omega arith)
    (session_contact_known f s t (session_at f.sessions t) refl met.1.known_session) met.1.held
    (rows_there f (after f (entry.Asked t id)) f.rows (continues_after f (entry.Asked t id)) has)
rows_after_one clients f (entry.Out t now what) sound met s has =
    rows_after_output f t now what
    (session_contact_known f s t (session_at f.sessions t) refl (due_session_known clients f (session_at f.sessions t) now what met.1))
    (out_named clients f sound (session_at f.sessions t) now what met.1) has
rows_after_one clients f (entry.Tried t) sound met s has =
    row_change (after f (entry.Tried t)) f.rows t.contact t.id (row_tried t) (λ r few. omega arith) met.2.known_contact met.2.held
    (rows_there f (after f (entry.Tried t)) f.rows (continues_after f (entry.Tried t)) has)
rows_after_one clients f it sound met s has =
    rows_there f (after f it) f.rows (continues_after f it) has

-- ---- wanted ids

record WantedIn (g : Facts) (wanted : Wants) : Type 0 where
  known_contact : (contact : ℕ) (ids : List Id) → fin_map.get wanted contact ≡ Some ids → contact < g.contacts
  lists : (contact : ℕ) → IsWantList g (wanted_from wanted contact)

nat_hit : (wanted : Wants) (c : ℕ) (new : List Id) (contact : ℕ) (ids : List Id) → fin_map.get (fin_map.insert wanted c new) contact ≡ Some ids
    → (contact ≡ c) ⊎ (fin_map.get wanted contact ≡ Some ids)
nat_hit wanted c new contact ids at =
    elim (eq_by_cmp nat_cmp contact c) as (λ b. eq_by_cmp nat_cmp contact c ≡ b → cond b (Some new) (fin_map.get wanted contact) ≡ Some ids
    → (contact ≡ c) ⊎ (fin_map.get wanted contact ≡ Some ids)) [
      | true ↦ λ e at. inl (eqb-true contact c (sym (unsigned_tied contact c) ∙ e))
      | false ↦ λ e at. inr at
    ] refl (sym (fin_map.get-insert nat_cmp_total wanted c new contact) ∙ at)

-- one contact's list put in another's place
want_list_put : (g : Facts) (wanted : Wants) (c : ℕ) (new : List Id) → c < g.contacts → IsWantList g new → WantedIn g wanted → WantedIn g (fin_map.insert wanted c new)
want_list_put g wanted c new k is has = record {
  known_contact = λ contact ids at.
      elim (nat_hit wanted c new contact ids at) [
        | inl same ↦ subst (λ (n : ℕ). n < g.contacts) (sym same) k
        | inr was ↦ has.known_contact contact ids was
      ];
  lists = λ contact. subst (IsWantList g) (sym (want_put wanted c new contact)) (chosen contact (nat_eq contact c));
}
  where
    chosen : (contact : ℕ) (b : Bool) → IsWantList g (cond b new (wanted_from wanted contact))
    chosen contact true = is
    chosen contact false = has.lists contact

wanted_there : (f g : Facts) (wanted : Wants) → ContinuesFacts f g → g.held ≡ f.held → WantedIn f wanted → WantedIn g wanted
wanted_there f g wanted c same has = record {
  known_contact = λ contact ids at. contact_there f g c contact (has.known_contact contact ids at);
  lists = λ contact.
      let l : IsWantList f (wanted_from wanted contact) = has.lists contact in
      record {
        distinct = l.distinct;
        not_held = λ id e. ap (λ (hs : List Held). is_held hs id) same ∙ l.not_held id e;
        few = l.few;
      };
}

found_some : (h : List Id → List Id) (es : List (ℕ × List Id)) (contact : ℕ) (ids : List Id) → fin_map.find nat_cmp contact (change_each h es) ≡ Some ids
    → is_some (fin_map.find nat_cmp contact es) ≡ true
found_some h [] contact ids at = cc
found_some h (e ∷ es) contact ids at =
    elim (eq_by_cmp nat_cmp contact e.0) as (λ b. cond b (Some (h e.1)) (fin_map.find nat_cmp contact (change_each h es)) ≡ Some ids
    → is_some (cond b (Some e.1) (fin_map.find nat_cmp contact es)) ≡ true) [
      | true ↦ λ at. refl
      | false ↦ λ at. found_some h es contact ids at
    ] at

some_contact : (f : Facts) (wanted : Wants) (contact : ℕ) → WantedIn f wanted → (o : Option (List Id)) → fin_map.get wanted contact ≡ o → is_some o ≡ true → contact < f.contacts
some_contact f wanted contact has None at e = absurd (false≢true e)
some_contact f wanted contact has (Some ids) at e = has.known_contact contact ids at

-- a message that comes to be held is wanted from nobody
wanted_held : (f g : Facts) (x : Held) → ContinuesFacts f g → g.held ≡ f.held ++ x ∷ [] → WantedIn f f.wanted → WantedIn g (wanted_by_none f.wanted x.id)
wanted_held f g x c longer has = record {
  known_contact = λ contact ids at.
      contact_there f g c contact (some_contact f f.wanted contact has (fin_map.get f.wanted contact) refl
      (ap is_some (fin_map.get-entries f.wanted contact)
      ∙ found_some (without x.id) (fin_map.entries f.wanted) contact ids
      (sym (fin_map.get-from_entries nat_cmp_total (change_each (without x.id) (fin_map.entries f.wanted)) contact) ∙ at)));
  lists = λ contact. subst (IsWantList g) (sym (want_dropped f.wanted x.id contact)) (left contact);
}
  where
    left : (contact : ℕ) → IsWantList g (without x.id (wanted_from f.wanted contact))
    left contact =
        let l : IsWantList f (wanted_from f.wanted contact) = has.lists contact in
        let w : IsWantList f (without x.id (wanted_from f.wanted contact)) = want_list_without f x.id (wanted_from f.wanted contact) l in
        record {
          distinct = w.distinct;
          not_held = λ id e.
              ap (λ (hs : List Held). is_held hs id) longer
              ∙ (is_held-push f.held x id
              ∙ (λ i. (among_left x.id (wanted_from f.wanted contact) id e).1 i || w.not_held id e i));
          few = w.few;
        }

wanted_in : (f : Facts) → HasWanted f → WantedIn f f.wanted
wanted_in f h = record {
  known_contact = h.known_contact;
  lists = λ contact. record { distinct = h.distinct contact; not_held = h.not_held contact; few = h.few contact };
}

has_wanted : (g : Facts) → WantedIn g g.wanted → HasWanted g
has_wanted g w = record {
  known_contact = w.known_contact;
  distinct = λ contact. (w.lists contact).distinct;
  not_held = λ contact. (w.lists contact).not_held;
  few = λ contact. (w.lists contact).few;
}

-- an id that is offered first stands behind the others
offered_list : (f : Facts) (ids : List Id) (id : Id) → is_held f.held id ≡ false → is_among ids id ≡ false → length ids < 1000 → IsWantList f ids
    → IsWantList f (with_want (is_held f.held id) ids id)
offered_list f ids id new none few l = subst (IsWantList f) (sym is) (record {
  distinct = has_repeat-push ids id l.distinct none;
  not_held = λ x e.
      elim (or_cases (same_id id x) (is_among ids x) (sym (among-push ids id x) ∙ e)) [
        | inl same ↦ ap (is_held f.held) (sym (same_id-is id x same)) ∙ new
        | inr was ↦ l.not_held x was
      ];
  few = let longer : length (ids ++ id ∷ []) ≡ length ids + 1 = length-append ids (id ∷ []) in omega (arith, longer, few);
})
  where
    is : with_want (is_held f.held id) ids id ≡ ids ++ id ∷ []
    is = λ i. cond (new i || none i) ids (ids ++ id ∷ [])

wanted_after_output : (f : Facts) (s now : ℕ) (what : Out) → contact_of f.sessions s < f.contacts → HasWanted f → HasWanted (after f (entry.Out s now what))
wanted_after_output f s now (out.Requests ids) k h =
    let g : Facts = after f (entry.Out s now (out.Requests ids)) in
    let has : WantedIn g f.wanted = wanted_there f g f.wanted (continues_after f (entry.Out s now (out.Requests ids))) refl (wanted_in f h) in
    has_wanted g (want_list_put g f.wanted (contact_of f.sessions s) (without_each ids (wanted_from f.wanted (contact_of f.sessions s))) k
    (want_list_without_each g ids (wanted_from f.wanted (contact_of f.sessions s)) (has.lists (contact_of f.sessions s))) has)
wanted_after_output f s now (out.Acks ids) k h =
    has_wanted (after f (entry.Out s now (out.Acks ids)))
    (wanted_there f (after f (entry.Out s now (out.Acks ids))) f.wanted (continues_after f (entry.Out s now (out.Acks ids))) refl (wanted_in f h))
wanted_after_output f s now (out.Offers ids) k h =
    has_wanted (after f (entry.Out s now (out.Offers ids)))
    (wanted_there f (after f (entry.Out s now (out.Offers ids))) f.wanted (continues_after f (entry.Out s now (out.Offers ids))) refl (wanted_in f h))
wanted_after_output f s now (out.Send id) k h =
    has_wanted (after f (entry.Out s now (out.Send id)))
    (wanted_there f (after f (entry.Out s now (out.Send id))) f.wanted (continues_after f (entry.Out s now (out.Send id))) refl (wanted_in f h))

same_wanted : (f : Facts) (e : Entry) → (after f e).held ≡ f.held → (after f e).wanted ≡ f.wanted → HasWanted f → HasWanted (after f e)
same_wanted f e held wanted h =
    has_wanted (after f e) (subst (WantedIn (after f e)) (sym wanted) (wanted_there f (after f e) f.wanted (continues_after f e) held (wanted_in f h)))

pub wanted_after_one : (clients : Meaning) (f : Facts) (e : Entry) → MeetsNoStep clients f e → HasSessions f → HasWanted f → HasWanted (after f e)
wanted_after_one clients f (entry.Contact c) met s h =
    let g : Facts = after f (entry.Contact c) in
    let has : WantedIn g f.wanted = wanted_there f g f.wanted (continues_after f (entry.Contact c)) refl (wanted_in f h) in
    let k : c < g.contacts = let is : c ≡ f.contacts = met.1.0 in omega (arith, is) in
    has_wanted g (want_list_put g f.wanted c (wanted_from f.wanted c) k (has.lists c) has)
wanted_after_one clients f (entry.Author m) met s h =
    has_wanted (after f (entry.Author m)) (wanted_held f (after f (entry.Author m)) (authored m) (continues_after f (entry.Author m)) refl (wanted_in f h))
wanted_after_one clients f (entry.Arrive t m) met s h =
    has_wanted (after f (entry.Arrive t m))
    (wanted_held f (after f (entry.Arrive t m)) (arrived (contact_of f.sessions t) m) (continues_after f (entry.Arrive t m)) refl (wanted_in f h))
wanted_after_one clients f (entry.Offered t id) met s h =
    let g : Facts = after f (entry.Offered t id) in
    let c : ℕ = contact_of f.sessions t in
    let has : WantedIn g f.wanted = wanted_there f g f.wanted (continues_after f (entry.Offered t id)) refl (wanted_in f h) in
    has_wanted g (want_list_put g f.wanted (contact_of f.sessions t) (with_want (is_held f.held id) (wanted_from f.wanted (contact_of f.sessions t)) id)
    (session_contact_known f s t (session_at f.sessions t) refl met.1.known_session)
    (offered_list g (wanted_from f.wanted (contact_of f.sessions t)) id met.1.not_held met.1.not_wanted met.1.few (has.lists (contact_of f.sessions t))) has)
wanted_after_one clients f (entry.Kept from m) met s h =
    has_wanted (after f (entry.Kept from m)) (wanted_held f (after f (entry.Kept from m)) (kept_as from m) (continues_after f (entry.Kept from m)) refl (wanted_in f h))
wanted_after_one clients f (entry.Want c id) met s h =
    let g : Facts = after f (entry.Want c id) in
    let has : WantedIn g f.wanted = wanted_there f g f.wanted (continues_after f (entry.Want c id)) refl (wanted_in f h) in
    has_wanted g (want_list_put g f.wanted c (with_want (is_held f.held id) (wanted_from f.wanted c) id) met.2.known_contact
    (offered_list g (wanted_from f.wanted c) id met.2.not_held met.2.not_wanted met.2.few (has.lists c)) has)
wanted_after_one clients f (entry.Out t now what) met s h =
    wanted_after_output f t now what
    (session_contact_known f s t (session_at f.sessions t) refl (due_session_known clients f (session_at f.sessions t) now what met.1)) h
wanted_after_one clients f it met s h = same_wanted f it refl refl h

-- ---- ends

ends_judged : (clients : Meaning) (f : Facts) (id : Id) → is_held f.held id ≡ true → HasEnds f → HasEnds (after f (entry.Judged id))
ends_judged clients f id held h = record {
  judged_held = λ x e.
      elim (or_cases (same_id id x) (fin_set.contains f.judged x) (sym (contains-more f.judged id x) ∙ e)) [
        | inl same ↦ ap (is_held f.held) (sym (same_id-is id x same)) ∙ held
        | inr was ↦ h.judged_held x was
      ];
  delivered_judged = λ x e. contains-more f.judged id x ∙ or_right (same_id id x) (fin_set.contains f.judged x) (h.delivered_judged x e);
  invalid_judged = λ x e. contains-more f.judged id x ∙ or_right (same_id id x) (fin_set.contains f.judged x) (h.invalid_judged x e);
  apart = h.apart;
  distinct = h.distinct;
}

ends_delivered : (clients : Meaning) (f : Facts) (id : Id) → IsDelivery clients f id → HasEnds f → HasEnds (after f (entry.Deliver id))
ends_delivered clients f id d h =
    let none = or_parts (is_among f.delivered d.of.id) (fin_set.contains f.invalid d.of.id) d.delivers.still_open.no_end in
    let judged : fin_set.contains f.judged id ≡ true = ap (fin_set.contains f.judged) d.same ∙ d.delivers.still_open.judged in
    let fresh : is_among f.delivered id ≡ false = ap (is_among f.delivered) d.same ∙ none.0 in
    let valid : fin_set.contains f.invalid id ≡ false = ap (fin_set.contains f.invalid) d.same ∙ none.1 in
    record {
      judged_held = h.judged_held;
      delivered_judged = λ x e.
          elim (or_cases (same_id id x) (is_among f.delivered x) (sym (among-push f.delivered id x) ∙ e)) [
            | inl same ↦ ap (fin_set.contains f.judged) (sym (same_id-is id x same)) ∙ judged
            | inr was ↦ h.delivered_judged x was
          ];
      invalid_judged = h.invalid_judged;
      apart = λ x e.
          elim (or_cases (same_id id x) (is_among f.delivered x) (sym (among-push f.delivered id x) ∙ e)) [
            | inl same ↦ ap (fin_set.contains f.invalid) (sym (same_id-is id x same)) ∙ valid
            | inr was ↦ h.apart x was
          ];
      distinct = has_repeat-push f.delivered id h.distinct fresh;
    }

ends_refused : (clients : Meaning) (f : Facts) (id : Id) → IsRefusal clients f id → HasEnds f → HasEnds (after f (entry.Invalid id))
ends_refused clients f id d h =
    let none = or_parts (is_among f.delivered d.of.id) (fin_set.contains f.invalid d.of.id) d.invalidates.still_open.no_end in
    let judged : fin_set.contains f.judged id ≡ true = ap (fin_set.contains f.judged) d.same ∙ d.invalidates.still_open.judged in
    let fresh : is_among f.delivered id ≡ false = ap (is_among f.delivered) d.same ∙ none.0 in
    record {
      judged_held = h.judged_held;
      delivered_judged = h.delivered_judged;
      invalid_judged = λ x e.
          elim (or_cases (same_id id x) (fin_set.contains f.invalid x) (sym (contains-more f.invalid id x) ∙ e)) [
            | inl same ↦ ap (fin_set.contains f.judged) (sym (same_id-is id x same)) ∙ judged
            | inr was ↦ h.invalid_judged x was
          ];
      apart = λ x e. contains-more f.invalid id x ∙ (λ i. other x e (same_id id x) refl i || h.apart x e i);
      distinct = h.distinct;
    }
  where
    fresh_again : is_among f.delivered id ≡ false
    fresh_again =
        ap (is_among f.delivered) d.same ∙ (or_parts (is_among f.delivered d.of.id) (fin_set.contains f.invalid d.of.id) d.invalidates.still_open.no_end).0

    other : (x : Id) → is_among f.delivered x ≡ true → (b : Bool) → same_id id x ≡ b → b ≡ false
    other x e false is = refl
    other x e true is = absurd (false≢true (sym fresh_again ∙ (ap (is_among f.delivered) (same_id-is id x is) ∙ e)))

ends_there : (f g : Facts) → ContinuesFacts f g → g.judged ≡ f.judged → g.invalid ≡ f.invalid → g.delivered ≡ f.delivered → HasEnds f → HasEnds g
ends_there f g c judged invalid delivered h = record {
  judged_held = λ id e. held_there f g c id (held_at f.held id) refl (h.judged_held id (ap (λ s. fin_set.contains s id) (sym judged) ∙ e));
  delivered_judged = λ id e. ap (λ s. fin_set.contains s id) judged ∙ h.delivered_judged id (ap (λ (ids : List Id). is_among ids id) (sym delivered) ∙ e);
  invalid_judged = λ id e. ap (λ s. fin_set.contains s id) judged ∙ h.invalid_judged id (ap (λ s. fin_set.contains s id) (sym invalid) ∙ e);
  apart = λ id e. ap (λ s. fin_set.contains s id) invalid ∙ h.apart id (ap (λ (ids : List Id). is_among ids id) (sym delivered) ∙ e);
  distinct = ap has_repeat delivered ∙ h.distinct;
}

pub ends_after_one : (clients : Meaning) (f : Facts) (e : Entry) → MeetsNoStep clients f e → HasEnds f → HasEnds (after f e)
ends_after_one clients f (entry.Judged id) met h = ends_judged clients f id (next_is_step clients f (entry.Judged id) met) h
ends_after_one clients f (entry.Deliver id) met h = ends_delivered clients f id (delivery clients f id met) h
ends_after_one clients f (entry.Invalid id) met h = ends_refused clients f id (refusal clients f id met) h
ends_after_one clients f it met h =
    ends_there f (after f it) (continues_after f it) refl refl refl h

-- ---- all of it

pub consistent_after : (clients : Meaning) (f : Facts) (e : Entry) → SoundFacts clients f → MeetsNoStep clients f e → IsConsistent f → IsConsistent (after f e)
consistent_after clients f e sound met c = record {
  sessions = sessions_after_one clients f e met c.sessions;
  groups = groups_after_one clients f e met c.groups;
  held = held_after_one clients f e met c.sessions c.held;
  levels = levels_after_one clients f e met c.levels;
  rows = rows_after_one clients f e sound met c.sessions c.rows;
  wanted = wanted_after_one clients f e met c.sessions c.wanted;
  ends = ends_after_one clients f e met c.ends;
}

pub consistent_all : (clients : Meaning) (f : Facts) (es : List Entry) → SoundFacts clients f → AllMeet clients f es → IsConsistent f → IsConsistent (after_all f es)
consistent_all clients f [] sound m c = c
consistent_all clients f (e ∷ es) sound m c =
    consistent_all clients (after f e) es (sound_after clients f e (meets_fits clients f e m.0) sound) m.1 (consistent_after clients f e sound m.0 c)

no_wants : (contact : ℕ) → wanted_from nothing.wanted contact ≡ []
no_wants contact = ap (λ (o : Option (List Id)). unwrap_or o []) (fin_map.get-empty nat_cmp contact)

pub consistent_nothing : IsConsistent nothing
consistent_nothing = record {
  sessions = sessions_of_nothing;
  groups = record { few_contacts = omega arith; few = omega arith; distinct = refl; each = λ id g at. cc };
  held = record { distinct = refl; each = λ id h at. cc };
  levels = λ contact group l at. let none : None ≡ Some l = sym (fin_map.get-empty pair_cmp (contact, group)) ∙ at in cc;
  rows = λ contact id r at. let none : None ≡ Some r = sym (fin_map.get-empty pair_cmp (contact, id)) ∙ at in cc;
  wanted = record {
    known_contact = λ contact ids at. let none : None ≡ Some ids = sym (fin_map.get-empty nat_cmp contact) ∙ at in cc;
    distinct = λ contact. ap has_repeat (no_wants contact);
    not_held = λ contact id e. refl;
    few = λ contact. let none : length (wanted_from nothing.wanted contact) ≡ 0 = ap length (no_wants contact) in omega (arith, none);
  };
  ends = record {
    judged_held = λ id e. absurd (false≢true (sym (fin_set.contains-empty (slice_cmp nat_cmp) id) ∙ e));
    delivered_judged = λ id e. absurd (false≢true e);
    invalid_judged = λ id e. absurd (false≢true (sym (fin_set.contains-empty (slice_cmp nat_cmp) id) ∙ e));
    apart = λ id e. absurd (false≢true e);
    distinct = refl;
  };
}

pub legal_consistent : (clients : Meaning) (j : List (List Entry)) → Legal clients j → IsConsistent (facts j)
legal_consistent clients j l =
    subst IsConsistent (sym (after_batches-is nothing j))
    (consistent_all clients nothing (entries_of j) (sound_nothing clients) (legal_meets clients j l) consistent_nothing)
