-- The groups of a legal journal may be added one after the other.
use Rattle.std.proofs.Common.{◌≡◌, ◌<◌, true, false, List, [], ◌∷◌, ◌++◌, length, refl, sym, subst, append_assoc, append-nil, is_some}
use Rattle.sync_ids.specs.Ids.{group_id_of}
use Rattle.sync_ids.specs.Values.{GroupValue}
use Rattle.sync_rules.specs.declared.entries.Entry.{Entry}
use Rattle.sync_rules.specs.declared.entries.Entry.TheVariants as entry
use Rattle.sync_rules.specs.declared.limits.TheConstants.{MAX_GROUPS}
use Rattle.sync_rules.specs.Clients.{Meaning}
use Rattle.sync_rules.specs.Facts.{Facts, Known, after, after_all, group_at, known_of}
use Rattle.sync_rules.specs.Meeting.{AllMeet, MeetsNoStep}
use Rattle.sync_rules.specs.Steps.{kind_of_def}

-- a group that may be added to these
pub record IsAddable (clients : Meaning) (before : List Known) (def : GroupValue) : Type 0 where
  pub known_client : is_some (kind_of_def clients def) ≡ true
  pub new : is_some (group_at before (group_id_of def)) ≡ false
  pub few : length before < MAX_GROUPS

-- groups that may be added to these, one after the other
abbrev pub AreAdded : Meaning → List Known → List Known → Type 0
AreAdded clients before [] = Unit {0}
AreAdded clients before (g ∷ gs) =
    (g ≡ known_of g.def) × IsAddable clients before g.def × AreAdded clients (before ++ g ∷ []) gs

added_push : (clients : Meaning) (before gs : List Known) (def : GroupValue) → AreAdded clients before gs
    → IsAddable clients (before ++ gs) def
    → AreAdded clients before (gs ++ known_of def ∷ [])
added_push clients before [] def added may =
    (refl, subst (λ (x : List Known). IsAddable clients x def) (append-nil before) may, tt)
added_push clients before (g ∷ gs) def added may = (
  added.0,
  added.1,
  added_push clients (before ++ g ∷ []) gs def added.2
      (subst (λ (x : List Known). IsAddable clients x def) (sym (append_assoc before (g ∷ []) gs)) may),
)

added_one : (clients : Meaning) (f : Facts) (e : Entry) → MeetsNoStep clients f e → AreAdded clients [] f.groups
    → AreAdded clients [] (after f e).groups
added_one clients f (entry.Group def) met added =
    added_push clients [] f.groups def added
    (record { known_client = met.1.known_client; new = met.1.new; few = met.1.few })
added_one clients f _ met added = added

pub added_all : (clients : Meaning) (f : Facts) (es : List Entry) → AllMeet clients f es → AreAdded clients [] f.groups
    → AreAdded clients [] (after_all f es).groups
added_all clients f [] met added = added
added_all clients f (e ∷ es) met added = added_all clients (after f e) es met.1 (added_one clients f e met.0 added)
