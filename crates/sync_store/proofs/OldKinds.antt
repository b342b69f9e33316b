-- Which kinds of entries a format has: a batch that is none of a brief account has older kinds
-- alone.
use Rattle.std.proofs.Common.{◌≡◌, true, false, List, [], ◌∷◌, sym, ◌∙◌}
use Rattle.std.specs.List.{AllByRecursion}
use Rattle.std.proofs.lemmas.Bool.{false≢true}
use Rattle.sync_rules.specs.declared.entries.Entry.{Entry}
use Rattle.sync_rules.specs.declared.entries.Entry.TheVariants as entry
use Rattle.sync_rules.specs.Allows.{is_account_kind}
use Rattle.sync_rules.specs.Clients.{Meaning}
use Rattle.sync_rules.specs.Facts.{Facts}
use Rattle.sync_rules.specs.Legal.{Allowed, IsSettling, MayStandAlone}
use Rattle.sync_rules.specs.EntryTests.{IsSettlingEntry}
use Rattle.sync_rules.proofs.BatchEntries.{record_each}
use Rattle.sync_rules.proofs.BatchKinds.{by_kind, rows_account}
use Rattle.sync_rules.proofs.StepKinds.{is_of_record}
use Rattle.entry_codec.specs.declared.naming.Format.{Format}
use Rattle.entry_codec.specs.Spelling.{IsOfFormat, IsOld}
use Rattle.entry_codec.proofs.FormatKinds.{of_old}
use Rattle.sync_store.proofs.Steps.{all_steps}

abbrev AreOld : List Entry → Type 0
AreOld es = AllByRecursion IsOld es

-- each format has the older kinds
pub kinds_of : (format : Format) (batch : List Entry) → AllByRecursion IsOld batch → AllByRecursion
    (IsOfFormat format) batch
kinds_of format [] old = tt
kinds_of format (e ∷ es) old = (of_old format e old.0, kinds_of format es old.1)

-- ---- steps

step_old : (e : Entry) → IsSettlingEntry e → IsOld e
step_old (entry.Judged id) is = tt
step_old (entry.Deliver id) is = tt
step_old (entry.Invalid id) is = tt
step_old _ is = absurd is

steps_old : (es : List Entry) → AllByRecursion IsSettlingEntry es → AreOld es
steps_old [] steps = tt
steps_old (e ∷ es) steps = (step_old e steps.0, steps_old es steps.1)

pub settling_old : (clients : Meaning) (f : Facts) (es : List Entry) → IsSettling clients f es
    → AllByRecursion IsOld es
settling_old clients f es settling = steps_old es (all_steps clients f es settling)

-- ---- a batch

mark_old : (e : Entry) → is_of_record e ≡ true → IsOld e
mark_old (entry.Brief n) is = absurd (false≢true is)
mark_old (entry.Kept from m) is = absurd (false≢true is)
mark_old (entry.Tried t) is = absurd (false≢true is)
mark_old (entry.Want contact id) is = absurd (false≢true is)
mark_old _ is = tt

-- of a batch of none of a brief account's own kinds
abbrev ArePlainOld : List Entry → Type 0
ArePlainOld b = is_account_kind b ≡ false → AreOld b

stands_old : (clients : Meaning) (f : Facts) (e : Entry) → MayStandAlone clients f e
    → ArePlainOld (e ∷ [])
stands_old clients f (entry.Kept from m) may plain = absurd (false≢true (sym plain))
stands_old clients f (entry.Brief n) may plain = absurd may
stands_old clients f (entry.Tried t) may plain = absurd may
stands_old clients f (entry.Want contact id) may plain = absurd may
stands_old clients f _ may plain = (tt, tt)

pub allowed_old : (clients : Meaning) (f : Facts) (batch : List Entry) → Allowed clients f batch
    → is_account_kind batch ≡ false → AllByRecursion IsOld batch
allowed_old clients f =
    by_kind clients f ArePlainOld (record {
      alone = λ e settled may. stands_old clients f e may;
      of_record = λ s k r settled next plain. (tt, record_each IsOld mark_old f s r);
      steps = λ e es step is plain. settling_old clients f (e ∷ es) is.2;
      brief = λ n empty plain. absurd (false≢true (sym plain));
      rows = λ e es row is plain. absurd (false≢true (sym plain ∙ rows_account e es row));
    })
