-- Which held messages may be delivered and which may never be, by rounds over the held messages and their verdicts alone:
-- no entry of settling, no order and no queue is spoken of.
use Rattle.std.specs.Prelude.{ℕ, zero, suc, Bool, true, false, ◌&&◌, ◌||◌, List, Option, Some, None}
use Rattle.std.specs.List.{list_any, list_all}
use Rattle.sync_rules.specs.declared.answers.Judgement.{Judgement}
use Rattle.sync_rules.specs.declared.answers.Judgement.TheVariants as judgement
use Rattle.sync_rules.specs.Clients.{Meaning}
use Rattle.sync_rules.specs.Facts.{Facts, Held, Id, held_at}
use Rattle.sync_rules.specs.Steps.{is_beside, is_elsewhere, verdict_in}

pub record Graph : Type 0 where
  pub held : List Held
  pub verdict : Held → Judgement

abbrev pub graph_of : Meaning → Facts → Graph
graph_of clients f = record { held = f.held; verdict = λ h. verdict_in clients f.groups h.message }

-- every dependency is held in the same group and passes the test of the round before
abbrev pub good_by : Graph → (Id → Bool) → Id → Judgement → Bool
good_by g was group judgement.Refuse = false
good_by g was group (judgement.Accept deps share) = list_all (λ d. is_beside group (held_at g.held d) && was d) deps

abbrev pub good_next : Graph → (Id → Bool) → Option Held → Bool
good_next g was None = false
good_next g was (Some h) = good_by g was h.message.group (g.verdict h)

-- the good messages of a round: in round 0 none; in each later round the held messages that are accepted and whose
-- dependencies are all held in the same group and good in the round before
abbrev pub good : Graph → ℕ → Id → Bool
good g zero id = false
good g (suc k) id = good_next g (good g k) (held_at g.held id)

-- refused, or with a dependency held in another group
abbrev pub bad_by : Graph → Id → Judgement → Bool
bad_by g group judgement.Refuse = true
bad_by g group (judgement.Accept deps share) = list_any (λ d. is_elsewhere group (held_at g.held d)) deps

abbrev pub bad_first : Graph → Option Held → Bool
bad_first g None = false
bad_first g (Some h) = bad_by g h.message.group (g.verdict h)

-- with a dependency that passes the test of the round before
abbrev pub worse_by : (Id → Bool) → Judgement → Bool
worse_by was judgement.Refuse = false
worse_by was (judgement.Accept deps share) = list_any was deps

abbrev pub bad_more : Graph → (Id → Bool) → Option Held → Bool
bad_more g was None = false
bad_more g was (Some h) = worse_by was (g.verdict h)

-- the bad messages of a round: in round 0 the held messages that are refused or have a dependency held in another group;
-- each later round adds those with a dependency that was bad in the round before
abbrev pub bad : Graph → ℕ → Id → Bool
bad g zero id = bad_first g (held_at g.held id)
bad g (suc k) id = bad g k id || bad_more g (bad g k) (held_at g.held id)
