-- What the clients of a node mean: the kind of the client of a name and a major version, and what a client says of a
-- message. A statement that holds for every meaning holds whatever the clients answer.
use Rattle.std.specs.Prelude.{ℕ, List, Option}
use Rattle.sync_ids.specs.Values.{MessageValue}
use Rattle.sync_rules.specs.declared.answers.Judgement.{Judgement}

pub record Meaning : Type 0 where
  pub kind_of : List ℕ → ℕ → Option ℕ
  pub verdict : ℕ → MessageValue → Judgement
