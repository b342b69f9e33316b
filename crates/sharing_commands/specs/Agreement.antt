-- The levels that follow from what this device and a contact said in a group.
use Rattle.std.specs.Prelude.{◌≡◌, ◌≢◌, ℕ, true, false, cond, if◌then◌else◌, nat_lt, List, [], ◌∷◌}
use Rattle.std.specs.Prelude.{Option, Some, is_some}
use Rattle.sync_rules.specs.declared.entries.Entry.{Entry}
use Rattle.sync_rules.specs.declared.entries.Level.{Level}
use Rattle.sync_rules.specs.declared.states.Refused.{Refused}
use Rattle.sync_rules.specs.declared.states.Refused.TheVariants as refused
use Rattle.sync_rules.specs.Clients.{Meaning}
use Rattle.sync_rules.specs.Facts.{Facts, Id, after_batches, group_at, level_at}
use Rattle.sync_rules.specs.Lists.{same_id}
use Rattle.client_sharing.specs.declared.agreement.Target.{Target}
use Rattle.client_sharing.specs.Targets.{targets_of}
use Rattle.sharing_commands.specs.Deeds.{all_batches, all_text, target_id}
use Rattle.sharing_commands.specs.Sayings.{sharing_test}
use Rattle.sharing_commands.specs.Words.{said_by_both}

-- the tests of `agree`, over the journal as it was loaded: the contact is known, and the group is a
-- known `sharing` group
abbrev pub agree_test : Facts → ℕ → Id → Option Refused
agree_test f contact group =
    if nat_lt contact f.contacts then sharing_test (group_at f.groups group) else Some
    refused.UnknownContact

abbrev pub agreed_targets : Facts → ℕ → Id → List Target
agreed_targets f contact group = targets_of (said_by_both f contact group)

-- what is added to a settled journal of these facts, and what is printed
abbrev pub agreed_batches : Meaning → ℕ → Id → Facts → List (List Entry)
agreed_batches clients contact group f =
    all_batches clients contact f (agreed_targets f contact group)

abbrev pub agreed_text : Meaning → ℕ → Id → Facts → List ℕ
agreed_text clients contact group f = all_text clients contact f (agreed_targets f contact group)

-- ---- what it leaves

-- the level of the last target of this id, or that from before
abbrev pub last_level : Level → Id → List Target → Level
last_level before id [] = before
last_level before id (t ∷ ts) = last_level (cond (same_id (target_id t) id) t.level before) id ts

-- what the batches of all targets leave of the levels
pub record SetsTargetLevels (contact : ℕ) (ts : List Target) (f later : Facts) : Type 0 where
  -- the contact's level of a group that is known then is that of the group's last target, or as
  -- before
  pub agreed : (id : Id) → is_some (group_at later.groups id) ≡ true
      → level_at later.levels contact id ≡ last_level (level_at f.levels contact id) id ts
  -- and of a group that is not known, as before
  pub unknown : (id : Id) → is_some (group_at later.groups id) ≡ false
      → level_at later.levels contact id ≡ level_at f.levels contact id
  -- so is every level for another contact
  pub others : (other : ℕ) (id : Id) → other ≢ contact
      → level_at later.levels other id ≡ level_at f.levels other id

abbrev pub TargetsSetLevels : Type 0
TargetsSetLevels =
    (clients : Meaning) (contact : ℕ) (f : Facts) (ts : List Target)
    → SetsTargetLevels contact ts f (after_batches f (all_batches clients contact f ts))
