-- A journal of which no batch begins a brief account has none of an account's own kinds of entry.
use Rattle.std.proofs.Common.{◌≡◌, true, false, ◌&&◌, List, [], ◌∷◌, ◌++◌, length, refl, sym, ◌∙◌}
use Rattle.std.proofs.Common.{ap}
use Rattle.std.specs.List.{AllByRecursion, list_all}
use Rattle.std.proofs.lemmas.Bool.{and_parts, false≢true}
use Rattle.std.proofs.lemmas.List.Folds.{list_all-append}
use Rattle.sync_rules.specs.declared.entries.Entry.{Entry}
use Rattle.sync_rules.specs.declared.entries.Entry.TheVariants as entry
use Rattle.sync_rules.specs.Allows.{is_opening}
use Rattle.sync_rules.specs.Clients.{Meaning}
use Rattle.sync_rules.specs.CountLaws.{AllBegunListed, is_no_brief}
use Rattle.sync_rules.specs.Facts.{Facts, Journal, after_all, entries_of, facts, nothing}
use Rattle.sync_rules.specs.Legal.{Allowed, GoesOn, Legal, MayStandAlone, SuitsRows}
use Rattle.sync_rules.specs.EntryTests.{IsSettlingEntry}
use Rattle.sync_rules.proofs.BatchEntries.{passes_all, record_each, rows_each, settling_each}
use Rattle.sync_rules.proofs.BatchKinds.{by_kind}
use Rattle.sync_rules.proofs.BegunLaws.{entries_keep}
use Rattle.sync_rules.proofs.Kept.{after_batches-is}
use Rattle.sync_rules.proofs.StartLaws.{facts_closed}
use Rattle.sync_rules.proofs.StepKinds.{is_of_record}
use Rattle.world_laws.specs.Worlds.{HasNoBrief, begins_no_brief}

-- ---- the entries of a batch

abbrev IsNoBrief : Entry → Type 0
IsNoBrief e = is_no_brief e ≡ true

stands_plain : (clients : Meaning) (f : Facts) (e : Entry) → MayStandAlone clients f e → IsNoBrief e
stands_plain clients f (entry.Brief n) may = absurd may
stands_plain clients f _ may = refl

step_plain : (e : Entry) → IsSettlingEntry e → IsNoBrief e
step_plain (entry.Brief n) k = absurd k
step_plain _ k = refl

row_plain : (f : Facts) (e : Entry) → SuitsRows f e → IsNoBrief e
row_plain f (entry.Brief n) s = absurd s
row_plain f _ s = refl

mark_plain : (e : Entry) → is_of_record e ≡ true → IsNoBrief e
mark_plain (entry.Brief n) t = absurd (false≢true t)
mark_plain _ t = refl

-- of a batch that begins no brief account
abbrev HasNoBriefIn : List Entry → Type 0
HasNoBriefIn b = begins_no_brief b ≡ true → AllByRecursion IsNoBrief b

pub batch_plain : (clients : Meaning) (f : Facts) (b : List Entry) → Allowed clients f b → begins_no_brief b ≡ true → list_all is_no_brief b ≡ true
batch_plain clients f b a plain =
    passes_all is_no_brief b (by_kind clients f HasNoBriefIn (record {
      alone = λ e settled may plain. (stands_plain clients f e may, tt);
      of_record = λ s k r settled next plain. (refl, record_each IsNoBrief mark_plain f s r);
      steps = λ e es step is plain. settling_each IsNoBrief step_plain clients f (e ∷ es) is.2;
      brief = λ n empty plain. absurd (false≢true plain);
      rows = λ e es row is plain. rows_each IsNoBrief row_plain f (e ∷ es) is.suits;
    }) b a plain)

-- ---- the entries of a journal

pub entries_plain : (clients : Meaning) (f : Facts) (bs : Journal) → GoesOn clients f bs → HasNoBrief bs → list_all is_no_brief (entries_of bs) ≡ true
entries_plain clients f [] g plain = refl
entries_plain clients f (b ∷ bs) g plain =
    let both = and_parts (begins_no_brief b) (list_all begins_no_brief bs) plain in
    let here = batch_plain clients f b g.0 both.0 in
    let later = entries_plain clients (after_all f b) bs g.1 both.1 in
    list_all-append is_no_brief b (entries_of bs) ∙ (λ i. here i && later i)

-- it is no brief account
pub plain_closed : (clients : Meaning) (j : Journal) → Legal clients j → HasNoBrief j → is_opening (facts j).start ≡ false
plain_closed clients j legal plain = facts_closed j (entries_plain clients nothing j legal plain)

-- every session that has begun is in its list of sessions
pub plain_listed : (clients : Meaning) (j : Journal) → Legal clients j → HasNoBrief j → AllBegunListed (facts j)
plain_listed clients j legal plain =
    let all : AllBegunListed (after_all nothing (entries_of j)) = entries_keep nothing (entries_of j) (entries_plain clients nothing j legal plain) refl in
    ap (λ (f : Facts). f.begun) (after_batches-is nothing j) ∙ (all ∙ sym (ap (λ (f : Facts). length f.sessions) (after_batches-is nothing j)))

-- ---- journals that go on

pub plain_append : (j more : Journal) → HasNoBrief j → HasNoBrief more → HasNoBrief (j ++ more)
plain_append j more first then = list_all-append begins_no_brief j more ∙ (λ i. first i && then i)
