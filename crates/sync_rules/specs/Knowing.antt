-- What the facts of a legal journal know: the groups of held messages, the messages that an entry names, and the dependencies of
-- what is delivered.
use Rattle.std.specs.Prelude.{◌≡◌, Bool, true, ◌&&◌, List, [], ◌∷◌, ◌++◌, length, count_by, Some, is_some}
use Rattle.std.specs.List.{list_all}
use Rattle.std.specs.FinSet as fin_set
use Rattle.sync_ids.specs.Values.{GroupValue}
use Rattle.sync_rules.specs.declared.answers.Judgement.TheVariants as judgement
use Rattle.sync_rules.specs.declared.entries.Entry.{Entry}
use Rattle.sync_rules.specs.declared.entries.Entry.TheVariants as entry
use Rattle.sync_rules.specs.declared.entries.Out.{Out}
use Rattle.sync_rules.specs.declared.entries.Out.TheVariants as out
use Rattle.sync_rules.specs.Clients.{Meaning}
use Rattle.sync_rules.specs.Lists.{is_among}
use Rattle.sync_rules.specs.Facts.{Facts, Held, Id, Known, after, group_at, held_at, is_held}
use Rattle.sync_rules.specs.Rounds.{bad, good, graph_of}
use Rattle.sync_rules.specs.Steps.{IsSettled, is_beside, verdict_in}

-- ---- groups

-- the group of each held message is known
abbrev pub KnowsGroups : Facts → Type 0
KnowsGroups f = list_all (λ h. is_some (group_at f.groups h.message.group)) f.held ≡ true

-- where the groups of held messages are known, one more group leaves no step open
abbrev pub GroupsLeaveSettled : Type 0
GroupsLeaveSettled = (clients : Meaning) (f : Facts) (def : GroupValue) → KnowsGroups f → IsSettled clients f
    → IsSettled clients (after f (entry.Group def))

-- ---- names

-- the ids by which an output names messages that are held; what it requests is not held
abbrev pub held_named : Out → List Id
held_named (out.Acks ids) = ids
held_named (out.Requests ids) = []
held_named (out.Offers ids) = ids
held_named (out.Send id) = id ∷ []

-- the ids by which an entry names messages that are held: all ids of messages but those that it brings, offers or requests
abbrev pub held_names : Entry → List Id
held_names (entry.Judged id) = id ∷ []
held_names (entry.Deliver id) = id ∷ []
held_names (entry.Invalid id) = id ∷ []
held_names (entry.Again s id) = id ∷ []
held_names (entry.Seen s id) = id ∷ []
held_names (entry.Asked s id) = id ∷ []
held_names (entry.Out s now what) = held_named what
held_names (entry.Tried t) = t.id ∷ []
held_names _ = []

-- whatever a batch names so is held before it
abbrev pub NamesHeld : Facts → List Entry → Type 0
NamesHeld f b = list_all (λ e. list_all (is_held f.held) (held_names e)) b ≡ true

-- ---- what is delivered

-- a delivered message, by what was delivered before it: it is held, its client accepts it, and each dependency is held in the
-- same group and was delivered before
pub record IsServedBehind (clients : Meaning) (groups : List Known) (held : List Held) (before : List Id) (id : Id) : Type 0 where
  pub message : Held
  pub found : held_at held id ≡ Some message
  pub deps : List Id
  pub share : Bool
  pub accepted : verdict_in clients groups message.message ≡ judgement.Accept deps share
  pub served : list_all (λ d. is_beside message.message.group (held_at held d) && is_among before d) deps ≡ true

-- each of these ids is served by those before it
abbrev pub AreServed : Meaning → List Known → List Held → List Id → List Id → Type 0
AreServed clients groups held before [] = Unit {0}
AreServed clients groups held before (id ∷ ids) = IsServedBehind clients groups held before id × AreServed clients groups held (before ++ id ∷ []) ids

-- the dependencies of each delivered message stand before it among the delivered
abbrev pub DeliversInOrder : Meaning → Facts → Type 0
DeliversInOrder clients f = AreServed clients f.groups f.held [] f.delivered

-- ---- counts

-- as many held messages are good as are delivered, and as many are bad as are invalid, the rounds being as many as messages are held
pub record CountsEnds (clients : Meaning) (f : Facts) : Type 0 where
  pub good : count_by (λ h. good (graph_of clients f) (length f.held) h.id) f.held ≡ length f.delivered
  pub bad : count_by (λ h. bad (graph_of clients f) (length f.held) h.id) f.held ≡ count_by (λ h. fin_set.contains f.invalid h.id) f.held
