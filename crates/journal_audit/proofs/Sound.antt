-- What holds of plain facts stays so, entry by entry.
use Rattle.std.proofs.Common.{◌≡◌, ℕ, ◌+◌, ◌<◌, ◌≤◌, Bool, true, false, cond, ◌&&◌}
use Rattle.std.proofs.Common.{Option, unwrap_or}
use Rattle.std.proofs.Common.{List, [], ◌∷◌, ◌++◌, Some, None, refl, sym, ◌∙◌, ap, subst, arith}
use Rattle.std.proofs.Common.{is_some, nat_eq, eqb-true}
use Rattle.std.specs.FinMap as fin_map
use Rattle.std.specs.List.{slice_get}
use Rattle.std.proofs.lemmas.Bool.{and_from, and_parts, false≢true}
use Rattle.sync_rules.specs.declared.entries.Level.{Level}
use Rattle.sync_rules.specs.declared.entries.Level.TheVariants as level
use Rattle.sync_rules.specs.Facts.{Held, Id, Known, LevelMap, Rows, group_at, is_invisible, Row}
use Rattle.sync_rules.specs.Facts.{no_row}
use Rattle.sync_rules.specs.Facts.{level_at, pair_cmp, put_level, row_at}
use Rattle.sync_rules.specs.Lists.{same_id}
use Rattle.sync_rules.proofs.Elements.{same_id-is}
use Rattle.sync_rules.proofs.ScanLaws.{level_at_set}
use Rattle.sync_rules.proofs.Sound.{group_at-push}
use Rattle.journal_audit.specs.declared.messages.Line.{Line}
use Rattle.journal_audit.specs.declared.early.Mark.{Mark}
use Rattle.journal_audit.specs.declared.ready.Ready.{Ready}
use Rattle.journal_audit.specs.Early.{AreLate, goes_early, lowered, mark_of}
use Rattle.journal_audit.specs.Lines.{Kept, held_in}
use Rattle.journal_audit.specs.Numbers.{CursorList, from_of}
use Rattle.journal_audit.specs.Plain.{AreGrouped, AreSound, OwesAcks}
use Rattle.journal_audit.specs.Sleeping.{SleeperLists}
use Rattle.journal_audit.proofs.Kept.{lines_none}
use Rattle.journal_audit.proofs.Stands.{stand_level, within_set}

-- ---- tests

never : (b : Bool) → b ≡ true → b ≡ false → ⊥
never b holds fails = false≢true (sym fails ∙ holds)

not_true : (b : Bool) → (b ≡ true → ⊥) → b ≡ false
not_true true h = absurd (h refl)
not_true false h = refl

-- ---- nothing

pub sound_none : (groups : List Known) (levels : LevelMap) (kept : Kept) (rows : Rows) (waiting : List ℕ) (sleepers : SleeperLists) (owed : List (List ℕ)) (ready : Ready) (early : List Mark)
    → levels ≡ fin_map.empty → kept.lines ≡ [] → kept.delivered ≡ [] → rows ≡ fin_map.empty → ((contact : ℕ) → from_of ready.cursors contact ≡ 0) → AreSound 0 groups levels kept rows waiting sleepers owed ready early
sound_none groups levels kept rows waiting sleepers owed ready early no_levels no_lines no_delivered no_rows no_cursor =
    let R : List Line → Type 0 = λ ls. AreGrouped groups (held_in ls) in
    let O : List Line → Type 0 = λ ls. OwesAcks (held_in ls) rows owed in
    record {
      lines = lines_none kept no_lines no_delivered;
      levels_fit = record {
        few = omega arith;
        shown = λ contact group seen. absurd (never _ (ap is_invisible (unset contact group)) seen);
        hidden = λ contact group beyond. unset contact group;
      };
      grouped = subst R (sym no_lines) refl;
      rows_fit = λ contact id none. ap (λ (r : Rows). row_at r contact id) no_rows
          ∙ ap (λ (o : Option Row). unwrap_or o no_row) (fin_map.get-empty pair_cmp (contact, id));
      waits = λ n l at. let wrong : None ≡ Some l = ap (λ (ls : List Line). slice_get ls n) (sym no_lines) ∙ at in cc;
      owes = subst O (sym no_lines) (λ contact n h below at. cc);
      stand = λ contact n l few at. let wrong : None ≡ Some l = ap (λ (ls : List Line). slice_get ls n) (sym no_lines) ∙ at in cc;
      within = λ contact. let none = no_cursor contact in omega (arith, none);
      late = λ contact n l at. let wrong : None ≡ Some l = ap (λ (ls : List Line). slice_get ls n) (sym no_lines) ∙ at in cc;
    }
  where
    unset : (contact : ℕ) (group : Id) → level_at levels contact group ≡ level.Invisible
    unset contact group = ap (λ (l : LevelMap). level_at l contact group) no_levels
        ∙ ap (λ (o : Option Level). unwrap_or o level.Invisible)
        (fin_map.get-empty pair_cmp (contact, group))

module _ (contacts : ℕ) (groups : List Known) (levels : LevelMap) (kept : Kept) (rows : Rows) (waiting : List ℕ) (sleepers : SleeperLists) (owed : List (List ℕ)) (ready : Ready) (early : List Mark)
    (s : AreSound contacts groups levels kept rows waiting sleepers owed ready early) where
  -- ---- contacts, groups and levels

  pub sound_contact : contacts < 256 → AreSound (contacts + 1) groups levels kept rows waiting sleepers owed ready early
  sound_contact below = record {
    lines = s.lines;
    levels_fit = record {
      few = omega (arith, below);
      shown = s.levels_fit.shown;
      hidden = λ contact group beyond. s.levels_fit.hidden contact group (omega (arith, beyond));
    };
    grouped = s.grouped;
    rows_fit = s.rows_fit;
    waits = s.waits;
    owes = s.owes;
    stand = s.stand;
    within = s.within;
    late = s.late;
  }

  grouped_more : (x : Known) (hs : List Held) → AreGrouped groups hs → AreGrouped (groups ++ x ∷ []) hs
  grouped_more x [] all = refl
  grouped_more x (h ∷ hs) all =
      let parts = and_parts (is_some (group_at groups h.message.group)) _ all in
      and_from (is_some (group_at (groups ++ x ∷ []) h.message.group)) _ (ap is_some (group_at-push groups x h.message.group parts.0) ∙ parts.0) (grouped_more x hs parts.1)

  pub sound_group : (x : Known) (groups' : List Known) → groups' ≡ groups ++ x ∷ [] → AreSound contacts groups' levels kept rows waiting sleepers owed ready early
  sound_group x groups' more =
      let At : List Known → Type 0 = λ gs. AreSound contacts gs levels kept rows waiting sleepers owed ready early in
      subst At (sym more)
      (record {
        lines = s.lines;
        levels_fit = record {
          few = s.levels_fit.few;
          shown = λ contact group seen. let was = s.levels_fit.shown contact group seen in ap is_some (group_at-push groups x group was) ∙ was;
          hidden = s.levels_fit.hidden;
        };
        grouped = grouped_more x (held_in kept.lines) s.grouped;
        rows_fit = s.rows_fit;
        waits = s.waits;
        owes = s.owes;
        stand = s.stand;
        within = s.within;
        late = s.late;
      })

  pub sound_level : (c : ℕ) (g : Id) (l : Level) (levels' : LevelMap) (cursors' : CursorList) → c < contacts → is_some (group_at groups g) ≡ true → levels' ≡ put_level levels (c, g) l
      → ((x : ℕ) → from_of cursors' x ≡ cond (nat_eq x c) 0 (from_of ready.cursors x))
      → AreSound contacts groups levels' kept rows waiting sleepers owed (record ready { cursors = cursors' }) early
  sound_level c g l levels' cursors' below known put from_is = record {
    lines = s.lines;
    levels_fit = record { few = s.levels_fit.few; shown = λ x group. shown x group _ refl; hidden = λ x group beyond. hidden x group beyond };
    grouped = s.grouped;
    rows_fit = s.rows_fit;
    waits = s.waits;
    owes = s.owes;
    stand = stand_level levels levels' kept rows ready cursors' c s.lines s.stand others from_is;
    within = within_set kept ready cursors' c 0 s.within (omega arith) from_is;
    late = s.late;
  }
    where
      is : (x : ℕ) (group : Id) → level_at levels' x group ≡ cond (nat_eq x c && same_id group g) l (level_at levels x group)
      is x group = ap (λ (m : LevelMap). level_at m x group) put ∙ level_at_set levels x c group g l

      shown : (x : ℕ) (group : Id) (b : Bool) → (nat_eq x c && same_id group g) ≡ b → is_invisible (level_at levels' x group) ≡ false → is_some (group_at groups group) ≡ true
      shown x group true e seen = let both = and_parts (nat_eq x c) (same_id group g) e in ap (λ (i : Id). is_some (group_at groups i)) (same_id-is group g both.1) ∙ known
      shown x group false e seen = s.levels_fit.shown x group (ap is_invisible (sym (is x group ∙ ap (λ b. cond b l (level_at levels x group)) e)) ∙ seen)

      hidden : (x : ℕ) (group : Id) → contacts ≤ x → level_at levels' x group ≡ level.Invisible
      hidden x group beyond =
          let other : nat_eq x c ≡ false = not_true (nat_eq x c) (λ e. let same : x ≡ c = eqb-true x c e in absurd (omega (arith, below, beyond, same))) in
          is x group ∙ ap (λ b. cond (b && same_id group g) l (level_at levels x group)) other ∙ s.levels_fit.hidden x group beyond

      -- nothing is changed for another contact
      others : (x : ℕ) (group : Id) → nat_eq x c ≡ false → level_at levels' x group ≡ level_at levels x group
      others x group e = is x group ∙ ap (λ b. cond (b && same_id group g) l (level_at levels x group)) e
