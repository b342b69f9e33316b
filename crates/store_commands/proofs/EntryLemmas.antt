-- An entry that is added, from the loaded store to the line.
use Rattle.std.proofs.Common.{◌≡◌, sym, ap, subst, Some, Ok, Err}
use Rattle.outside.specs.Files.{Two, File, read_files}
use Rattle.outside.specs.Outside.{Outside, DiskRun}
use Rattle.outside.specs.Streams.{Stream, IsIdle}
use Rattle.sync_rules.specs.declared.entries.Entry.{Entry}
use Rattle.sync_rules.specs.declared.states.Refused.{Refused}
use Rattle.sync_rules.specs.Clients.{Meaning}
use Rattle.sync_rules.specs.Facts.{Facts}
use Rattle.file_standing.specs.Standing.{stands}
use Rattle.sync_store.specs.Store.{StoreValue}
use Rattle.sync_words.specs.declared.outcome.Outcome.{Outcome}
use Rattle.sync_words.specs.declared.outcome.Outcome.TheVariants as outcome
use Rattle.store_commands.specs.declared.commit.Settling.{Settling}
use Rattle.store_commands.specs.Entries.{EntryAdded, HasAdded, adding, plan_refusal}
use Rattle.store_commands.specs.Load.{HasFacts, IsLoaded, LoadedBy, LoadKeeps, MayExtend}
use Rattle.store_commands.specs.Plans.{EntryPlan, adds, refuses}
use Rattle.store_commands.specs.Show.{LeavesFilesSo}
use Rattle.store_commands.specs.Works.{RunsWork}
use Rattle.store_commands.proofs.Working.{worked_loaded, worked_none, worked_refused}

pub added_none : (clients : Meaning) (plan : Facts → EntryPlan) (settling : Settling)
    (old new : Outside)
    (out out' : Stream) (came : Outcome) → DiskRun old new
    → ((two : Two File) → old.files ≡ Some two
    → LeavesFilesSo (LoadKeeps (Err came) two) two old new) → LoadedBy old new (Err came)
    → ((two : Two File) → old.files ≡ Some two
    → IsLoaded (stands clients (read_files two)) (Err came)) → IsIdle out out'
    → HasAdded clients plan settling old new out out' came
added_none clients plan settling old new out out' came run rests by loaded idle =
    worked_none clients (λ f. plan_refusal (plan f)) (λ f. adding clients settling (plan f)) old new
    out
    out' came run rests by loaded idle

pub added_refused : (clients : Meaning) (plan : Facts → EntryPlan) (settling : Settling)
    (old new : Outside) (out out' : Stream) (s : StoreValue) (why : Refused) → DiskRun old new
    → ((two : Two File) → old.files ≡ Some two → LeavesFilesSo (LoadKeeps (Ok s) two) two old new)
    → ((two : Two File) → old.files ≡ Some two → HasFacts (stands clients (read_files two)) s)
    → plan s.state.facts ≡ refuses why → IsIdle out out'
    → HasAdded clients plan settling old new out out' (outcome.Refused why)
added_refused clients plan settling old new out out' s why run rests loaded planned idle =
    worked_refused clients (λ f. plan_refusal (plan f)) (λ f. adding clients settling (plan f)) old
    new
    out out' s why run rests loaded (ap plan_refusal planned) idle

pub added_entry : (clients : Meaning) (plan : Facts → EntryPlan) (settling : Settling)
    (o o1 o2 : Outside) (out out' : Stream) (s : StoreValue) (e : Entry) (came : Outcome)
    → DiskRun o o1
    → ((two : Two File) → o.files ≡ Some two → LeavesFilesSo (LoadKeeps (Ok s) two) two o o1)
    → MayExtend clients s o1.files → plan s.state.facts ≡ adds e
    → EntryAdded clients settling s e o1 o2 out out' came
    → HasAdded clients plan settling o o2 out out' came
added_entry clients plan settling o o1 o2 out out' s e came run rests ready planned added =
    worked_loaded clients (λ f. plan_refusal (plan f)) (λ f. adding clients settling (plan f)) o o1
    o2
    out out' s came run rests ready (ap plan_refusal planned)
    (subst
    (λ (p : EntryPlan). RunsWork clients outcome.Done (adding clients settling p) s o1 o2 out out'
    came)
    (sym planned) added)
