-- The effect of a journal for a contact: all that files of records from the contact change of what a user sees.
use Rattle.std.specs.Prelude.{ℕ, Bool, List}
use Rattle.std.specs.List.{list_any}
use Rattle.std.specs.FinSet as fin_set
use Rattle.sync_ids.specs.Values.{MessageValue}
use Rattle.sync_rules.specs.Allows.{same_message}
use Rattle.sync_rules.specs.Facts.{Facts, Held, Id, row_at}
use Rattle.sync_rules.specs.Lists.{is_among}

-- four sets, each as a test: the messages that are held, and the ids of those that are delivered, of those that are
-- invalid, and of those that the contact has
pub record Effect : Type 0 where
  pub held : MessageValue → Bool
  pub delivered : Id → Bool
  pub invalid : Id → Bool
  pub seen : Id → Bool

-- a message is held, whatever its origin
abbrev pub holds : List Held → MessageValue → Bool
holds held m = list_any (λ h. same_message h.message m) held

abbrev pub effect : ℕ → Facts → Effect
effect contact f = record {
  held = holds f.held;
  delivered = is_among f.delivered;
  invalid = fin_set.contains f.invalid;
  seen = λ id. (row_at f.rows contact id).seen;
}
