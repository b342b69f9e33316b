-- The one step that is open to a held message, the next step of a journal, and when a journal is settled.
use Rattle.std.specs.Prelude.{◌≡◌, ℕ, Bool, true, false, cond, ◌&&◌, ◌||◌, List, [], ◌∷◌, Option, Some, None}
use Rattle.std.specs.Option.{option_or}
use Rattle.std.specs.List.{list_any, list_all}
use Rattle.std.specs.FinSet as fin_set
use Rattle.sync_ids.specs.Values.{GroupValue, MessageValue}
use Rattle.sync_rules.specs.declared.answers.Judgement.{Judgement}
use Rattle.sync_rules.specs.declared.answers.Judgement.TheVariants as judgement
use Rattle.sync_rules.specs.declared.entries.Entry.{Entry}
use Rattle.sync_rules.specs.declared.entries.Entry.TheVariants as entry
use Rattle.sync_rules.specs.declared.states.Fate.{Fate}
use Rattle.sync_rules.specs.declared.states.Fate.TheVariants as fate_kind
use Rattle.sync_rules.specs.Clients.{Meaning}
use Rattle.sync_rules.specs.Lists.{same_id, is_among}
use Rattle.sync_rules.specs.Facts.{Facts, Held, Known, Id, held_at, group_at, is_held}

-- ---- judgements

abbrev pub kind_of_def : Meaning → GroupValue → Option ℕ
kind_of_def clients def = clients.kind_of def.name def.major

abbrev pub verdict_by : Meaning → Option ℕ → MessageValue → Judgement
verdict_by clients None m = judgement.Refuse
verdict_by clients (Some kind) m = clients.verdict kind m

abbrev pub verdict_for : Meaning → Option Known → MessageValue → Judgement
verdict_for clients None m = judgement.Refuse
verdict_for clients (Some g) m = verdict_by clients (kind_of_def clients g.def) m

-- what the client of the message's group says of it; Refuse where the group or its client is not known
abbrev pub verdict_in : Meaning → List Known → MessageValue → Judgement
verdict_in clients groups m = verdict_for clients (group_at groups m.group) m

-- the answer for a held message: its judgement, once there is a Judged entry for it
abbrev pub answer_of : Meaning → Facts → Held → Option Judgement
answer_of clients f h = cond (fin_set.contains f.judged h.id) (Some (verdict_in clients f.groups h.message)) None

-- ---- the step of a message

-- a message that is held in this group
abbrev pub is_beside : Id → Option Held → Bool
is_beside group None = false
is_beside group (Some h) = same_id h.message.group group

-- a message that is held in another group
abbrev pub is_elsewhere : Id → Option Held → Bool
is_elsewhere group None = false
is_elsewhere group (Some h) = cond (same_id h.message.group group) false true

-- a dependency of a message of this group that makes the message invalid: it is held in another group (this project's
-- profile), or it is itself invalid
abbrev pub is_failing : Facts → Id → Id → Bool
is_failing f group d = is_elsewhere group (held_at f.held d) || fin_set.contains f.invalid d

-- a dependency of a message of this group that is served: it is held in the same group and delivered
abbrev pub is_served : Facts → Id → Id → Bool
is_served f group d = is_beside group (held_at f.held d) && is_among f.delivered d

-- a message that is Delivered or Invalid
abbrev pub is_ended : Facts → Id → Bool
is_ended f id = is_among f.delivered id || fin_set.contains f.invalid id

abbrev pub step_accepted : Facts → Held → List Id → Option Entry
step_accepted f h deps =
    cond (list_any (is_failing f h.message.group) deps) (Some (entry.Invalid h.id))
    (cond (list_all (is_served f h.message.group) deps) (Some (entry.Deliver h.id)) None)

abbrev pub step_open : Facts → Held → Judgement → Option Entry
step_open f h judgement.Refuse = Some (entry.Invalid h.id)
step_open f h (judgement.Accept deps share) = step_accepted f h deps

abbrev pub step_by : Facts → Held → Option Judgement → Option Entry
step_by f h None = Some (entry.Judged h.id)
step_by f h (Some answer) = cond (is_ended f h.id) None (step_open f h answer)

-- the one step open to a held message (BSP, "Message validation and delivery"): it is judged where it was not; nothing
-- is open where it is Delivered or Invalid; it is invalid where it was refused or a dependency fails; it is delivered
-- where it was accepted and every dependency is served; otherwise nothing is open
abbrev pub step : Meaning → Facts → Held → Option Entry
step clients f h = step_by f h (answer_of clients f h)

abbrev pub first_step : Meaning → Facts → List Held → Option Entry
first_step clients f [] = None
first_step clients f (h ∷ hs) = option_or (step clients f h) (first_step clients f hs)

-- the next step: that of the first held message, in order of arrival, that has one
abbrev pub next : Meaning → Facts → Option Entry
next clients f = first_step clients f f.held

-- a journal is settled where it has no next step
abbrev pub IsSettled : Meaning → Facts → Type 0
IsSettled clients f = next clients f ≡ None

-- ---- states

abbrev pub fate_held : Facts → Id → Fate
fate_held f id =
    cond (fin_set.contains f.invalid id) fate_kind.Invalid
    (cond (is_among f.delivered id) fate_kind.Delivered (cond (fin_set.contains f.judged id) fate_kind.Pending fate_kind.Unknown))

-- the state of the message of an id, none where it is not held. Between two settling batches a refused message is
-- Pending until its Invalid entry stands
abbrev pub fate : Facts → Id → Option Fate
fate f id = cond (is_held f.held id) (Some (fate_held f id)) None
