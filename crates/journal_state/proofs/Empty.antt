-- The parts of a journal that has no entries, and of one that has groups alone.
use Rattle.std.proofs.Common.{◌≡◌, ℕ, ◌+◌, List, [], ◌∷◌, Some, None, slice_get, slice_index_or, refl, sym, ◌∙◌, ap}
use Rattle.std.proofs.Common.{Option, unwrap_or}
use Rattle.std.specs.FinMap as fin_map
use Rattle.std.proofs.lemmas.Bool.{false≢true}
use Rattle.sync_rules.specs.declared.entries.Level.{Level}
use Rattle.sync_rules.specs.declared.entries.Level.TheVariants as level
use Rattle.sync_rules.specs.declared.states.Start.TheVariants as start
use Rattle.sync_rules.specs.Facts.{Known, Rows, pair_cmp, is_invisible}
use Rattle.brief_account.specs.Account.{with_groups}
use Rattle.retry_table.specs.Table as retry
use Rattle.visibility_table.specs.Table as levels
use Rattle.journal_state.specs.Parts.{Parts, put_rows, rows_from}
use Rattle.journal_state.specs.Whole.{IsState, value_of}

abbrev pub empty_parts : List Known → ℕ → retry.Table → Parts
empty_parts groups room table = record {
  start = start.Empty;
  table = record levels.empty_table { groups = groups };
  held = [];
  begun = record { begun = 0; sessions = []; takes = fin_map.empty; room = room };
  nodes = [];
  shares = [];
  delivered = [];
  retry = table;
  space = 0;
}

no_rows : (contact : ℕ) (ks : List retry.KeptRow) (rows : Rows) → put_rows contact ks [] rows ≡ rows
no_rows contact [] rows = refl
no_rows contact (k ∷ ks) rows = refl

none_from : (contact : ℕ) (each : List (List retry.KeptRow)) → rows_from contact each [] ≡ fin_map.empty
none_from contact [] = refl
none_from contact (ks ∷ each) = no_rows contact ks (rows_from (contact + 1) each []) ∙ none_from (contact + 1) each

pub not_there : {A : Type 0} (n : ℕ) (x : A) → slice_get [] n ≡ Some x → ⊥
not_there n x e = let none : None ≡ Some x = e in cc

pub empty_is_state : (groups : List Known) (room : ℕ) (table : retry.Table) → retry.IsEmpty table → IsState (empty_parts groups room table)
empty_is_state groups room table none = record {
  named = refl;
  grouped = λ n h node at there. absurd (not_there n h at);
  distinct = λ n h at. absurd (not_there n h at);
  each_share = refl;
  order = λ n node at unjudged. absurd (not_there n node at);
  within = refl;
  ended = λ id. refl;
  many = refl;
  free_rows = λ contact n beyond. ap (λ (ks : List retry.KeptRow). retry.kept_in ks n) (none.rows contact);
  free_wants = λ contact beyond. ap (λ (w : retry.WantedFromContact). w.ids) (none.wants contact);
  hidden = λ contact group beyond. ap (λ (o : Option Level). unwrap_or o level.Invisible)
      (fin_map.get-empty pair_cmp (contact, group));
  shown = λ contact group e. absurd
      (false≢true (sym e ∙ ap (λ (o : Option Level). is_invisible (unwrap_or o level.Invisible))
      (fin_map.get-empty pair_cmp (contact, group))));
  released = λ n h node at here. absurd (not_there n h at);
  unreleased = λ n beyond. ap (λ (gs : List (Option ℕ)). slice_index_or gs n None) none.groups;
  ready = λ contact n h known at. absurd (not_there n h at);
}

pub empty_facts : (groups : List Known) (room : ℕ) (table : retry.Table) → (value_of (empty_parts groups room table)).facts ≡ with_groups groups
empty_facts groups room table = λ i. record (with_groups groups) { rows = none_from 0 table.rows i }
