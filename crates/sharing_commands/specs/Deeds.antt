-- What the levels that two people agreed on ask of a journal: entries, each a batch of its own, and
-- a line for each group, by the facts of the journal as it stands then.
use Rattle.std.specs.Prelude.{ℕ, Bool, true, false, if◌then◌else◌, List, [], ◌∷◌, ◌++◌, codes}
use Rattle.std.specs.Prelude.{is_some, Result, Ok, Err}
use Rattle.hex.specs.Hex.{encode_lower}
use Rattle.sync_ids.specs.Ids.{group_id_of}
use Rattle.sync_rules.specs.declared.entries.Entry.{Entry}
use Rattle.sync_rules.specs.declared.entries.Entry.TheVariants as entry
use Rattle.sync_rules.specs.declared.entries.Level.{Level}
use Rattle.sync_rules.specs.declared.entries.Level.TheVariants as level
use Rattle.sync_rules.specs.declared.states.Refused.{Refused}
use Rattle.sync_rules.specs.Clients.{Meaning}
use Rattle.sync_rules.specs.Facts.{Facts, Id, after_batches, group_at, level_at}
use Rattle.sync_store.specs.Refusals.{group_answer}
use Rattle.sync_words.specs.EntryTexts.{set_level_text}
use Rattle.client_sharing.specs.declared.agreement.Target.{Target}
use Rattle.sharing_commands.specs.declared.deed.Deed.{Deed}
use Rattle.sharing_commands.specs.declared.deed.Deed.TheVariants as deed

abbrev pub same_level : Level → Level → Bool
same_level level.Invisible level.Invisible = true
same_level level.Visible level.Visible = true
same_level level.Shared level.Shared = true
same_level a b = false

abbrev pub target_id : Target → Id
target_id t = group_id_of t.def

-- where the group of a target is not known: an Invisible one asks for nothing, and any other for
-- its group, where that may be added
abbrev pub deed_new : Level → Result Id Refused → Deed
deed_new level.Invisible answer = deed.Nothing
deed_new l (Ok id) = deed.Add
deed_new l (Err why) = deed.Skip

-- where it is known, the level is set where it differs
abbrev pub deed_of : Meaning → ℕ → Facts → Target → Deed
deed_of clients contact f t =
    if is_some (group_at f.groups (target_id t))
    then (if same_level (level_at f.levels contact (target_id t)) t.level then deed.Keep else
    deed.Set)
    else deed_new t.level (group_answer clients f t.def)

-- the batches of a deed
abbrev pub deed_batches : ℕ → Target → Deed → List (List Entry)
deed_batches contact t deed.Set = (entry.Level contact (target_id t) t.level ∷ []) ∷ []
deed_batches contact t deed.Add =
    (entry.Group t.def ∷ []) ∷ (entry.Level contact (target_id t) t.level ∷ []) ∷ []
deed_batches contact t d = []

-- a group that is agreed on and can't be added
abbrev pub skipped_group_text : Id → List ℕ
skipped_group_text group = codes "skipped " ++ (encode_lower group ++ 10 ∷ [])

-- its line
abbrev pub deed_text : ℕ → Id → Level → Deed → List ℕ
deed_text contact group l deed.Nothing = []
deed_text contact group l deed.Skip = skipped_group_text group
deed_text contact group l d = set_level_text contact group l

-- ---- all targets

abbrev pub batches_for : Meaning → ℕ → Facts → Target → List (List Entry)
batches_for clients contact f t = deed_batches contact t (deed_of clients contact f t)

abbrev pub text_for : Meaning → ℕ → Facts → Target → List ℕ
text_for clients contact f t = deed_text contact (target_id t) t.level (deed_of clients contact f t)

-- one target after the other, each over the journal as it then stands
abbrev pub all_batches : Meaning → ℕ → Facts → List Target → List (List Entry)
all_batches clients contact f [] = []
all_batches clients contact f (t ∷ ts) =
    batches_for clients contact f t
    ++ all_batches clients contact (after_batches f (batches_for clients contact f t)) ts

abbrev pub all_text : Meaning → ℕ → Facts → List Target → List ℕ
all_text clients contact f [] = []
all_text clients contact f (t ∷ ts) =
    text_for clients contact f t
    ++ all_text clients contact (after_batches f (batches_for clients contact f t)) ts
