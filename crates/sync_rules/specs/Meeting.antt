-- What each entry of a legal journal meets at its place, by the facts before it.
use Rattle.std.specs.Prelude.{◌≡◌, ℕ, ◌<◌, true, false, List, [], ◌∷◌, ◌++◌, length, Some, is_some}
use Rattle.sync_ids.specs.Values.{MessageValue}
use Rattle.sync_ids.specs.Ids.{message_id_of}
use Rattle.sync_rules.specs.declared.entries.Entry.{Entry}
use Rattle.sync_rules.specs.declared.entries.Entry.TheVariants as entry
use Rattle.sync_rules.specs.declared.states.Start.TheVariants as start
use Rattle.sync_rules.specs.declared.limits.TheConstants.{MAX_WANTED}
use Rattle.sync_rules.specs.Clients.{Meaning}
use Rattle.sync_rules.specs.Lists.{is_among}
use Rattle.sync_rules.specs.Facts.{Facts, Id, after, after_all, nothing, entries_of, group_at, is_held, session_at, contact_of, level_at, is_invisible, takes_of, wanted_from}
use Rattle.sync_rules.specs.Steps.{IsSettled, next}
use Rattle.sync_rules.specs.Sessions.{is_shown}
use Rattle.sync_rules.specs.Legal.{MayRestore, MayStandAlone, MayWant}

-- a message that comes in on a session: the session and the message's group are known, its id is not held, and the group is
-- not Invisible to the session's contact
pub record ComesIn (f : Facts) (session : ℕ) (m : MessageValue) : Type 0 where
  pub known_session : is_some (session_at f.sessions session) ≡ true
  pub known_group : is_some (group_at f.groups m.group) ≡ true
  pub new : is_held f.held (message_id_of m) ≡ false
  pub shown : is_invisible (level_at f.levels (contact_of f.sessions session) m.group) ≡ false

-- an id that is named on a session and held, in a group that is not Invisible to the session's contact
pub record IsNamedHeld (f : Facts) (session : ℕ) (id : Id) : Type 0 where
  pub known_session : is_some (session_at f.sessions session) ≡ true
  pub held : is_held f.held id ≡ true
  pub shown : is_shown f (contact_of f.sessions session) id ≡ true

-- an id that is offered on a session and comes to be wanted: it is not held and not yet wanted from the session's contact,
-- and fewer than MAX_WANTED ids are
pub record IsNamedNew (f : Facts) (session : ℕ) (id : Id) : Type 0 where
  pub known_session : is_some (session_at f.sessions session) ≡ true
  pub not_held : is_held f.held id ≡ false
  pub not_wanted : is_among (wanted_from f.wanted (contact_of f.sessions session)) id ≡ false
  pub few : length (wanted_from f.wanted (contact_of f.sessions session)) < MAX_WANTED

-- each entry but a step and the first of a brief account stands where no step is open
abbrev pub MeetsNoStep : Meaning → Facts → Entry → Type 0
MeetsNoStep clients f (entry.Take s k) =
    IsSettled clients f × (is_some (session_at f.sessions s) ≡ true) × (k ≡ takes_of f.takes s)
MeetsNoStep clients f (entry.Arrive s m) = IsSettled clients f × ComesIn f s m
MeetsNoStep clients f (entry.Again s id) = IsSettled clients f × IsNamedHeld f s id
MeetsNoStep clients f (entry.Offered s id) = IsSettled clients f × IsNamedNew f s id
MeetsNoStep clients f (entry.Seen s id) = IsSettled clients f × IsNamedHeld f s id
MeetsNoStep clients f (entry.Asked s id) = IsSettled clients f × IsNamedHeld f s id
MeetsNoStep clients f (entry.Judged id) = next clients f ≡ Some (entry.Judged id)
MeetsNoStep clients f (entry.Deliver id) = next clients f ≡ Some (entry.Deliver id)
MeetsNoStep clients f (entry.Invalid id) = next clients f ≡ Some (entry.Invalid id)
MeetsNoStep clients f (entry.Brief n) = f.start ≡ start.Empty
MeetsNoStep clients f (entry.Tried t) = IsSettled clients f × (f.start ≡ start.Opening) × MayRestore f t
MeetsNoStep clients f (entry.Want contact id) = IsSettled clients f × (f.start ≡ start.Opening) × MayWant f contact id
MeetsNoStep clients f e = IsSettled clients f × MayStandAlone clients f e

-- entries of which each meets this behind those before it
abbrev pub AllMeet : Meaning → Facts → List Entry → Type 0
AllMeet clients f [] = Unit {0}
AllMeet clients f (e ∷ es) = MeetsNoStep clients f e × AllMeet clients (after f e) es

-- each entry of a journal meets this at its place
abbrev pub EachMeets : Meaning → List (List Entry) → Type 0
EachMeets clients journal =
    (before behind : List Entry) (e : Entry) → entries_of journal ≡ before ++ e ∷ behind → MeetsNoStep clients (after_all nothing before) e
