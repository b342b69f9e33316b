-- A store that is served, and stays so behind a command.
use Rattle.std.proofs.Common.{◌≡◌, ℕ, List, [], ◌∷◌, refl, sym, ap, ◌∙◌, subst, inl, inr}
use Rattle.std.proofs.Common.{Option, Some, None, Result, Ok, Err, OnOk}
use Rattle.outside.specs.declared.limits.TheConstants.{MAX_JOURNAL}
use Rattle.outside.specs.Disk.{RelatesTold}
use Rattle.outside.specs.Files.{File, NothingPending, SyncsBoth, Two, read_files, settled}
use Rattle.outside.specs.Outside.{Outside}
use Rattle.outside.specs.Streams.{Stream}
use Rattle.outside.proofs.CallSteps.{moments_none, run_none}
use Rattle.sync_ids.specs.Values.{GroupValue}
use Rattle.sync_rules.specs.declared.entries.Entry.{Entry}
use Rattle.sync_rules.specs.declared.entries.Entry.TheVariants as entry
use Rattle.sync_rules.specs.declared.entries.Level.{Level}
use Rattle.sync_rules.specs.declared.states.Refused.{Refused}
use Rattle.sync_rules.specs.Clients.{Meaning}
use Rattle.sync_rules.specs.Facts.{Facts, Id, after_all}
use Rattle.sync_rules.specs.Knowing.{KnowsGroups}
use Rattle.sync_rules.specs.Steps.{IsSettled}
use Rattle.sync_rules.proofs.GroupLaws.{groups_leave_settled}
use Rattle.sync_rules.proofs.StepKinds.{settled_stays}
use Rattle.entry_codec.specs.declared.naming.Format.TheVariants as kind
use Rattle.sync_store.specs.Ready.{IsReady}
use Rattle.sync_store.specs.Refusals.{contact_answer, group_answer, level_answer}
use Rattle.sync_store.specs.Store.{StoreValue, written_in}
use Rattle.sync_words.specs.declared.outcome.Outcome.{Outcome}
use Rattle.sync_words.specs.declared.outcome.Outcome.TheVariants as outcome
use Rattle.sync_words.specs.Outcomes.{came_to}
use Rattle.store_commands.specs.Commit.{ExtendsBy, SettledAnew, SettledBy, StoreStaysReady}
use Rattle.store_commands.specs.Load.{MayExtend}
use Rattle.store_commands.specs.Plans.{EntryPlan, adds, contact_plan, group_plan, level_plan}
use Rattle.store_commands.specs.Plans.{planned}
use Rattle.store_commands.specs.Post.{IsBodyRead, IsPlanOfPost}
use Rattle.store_commands.specs.Running.{PrintsOut}
use Rattle.store_commands.specs.Serving.{IsReadyToServe, IsServed, LeavesSettled, ServesOn}
use Rattle.store_commands.specs.Serving.{StaysSettled, WasLoaded}
use Rattle.store_commands.specs.Show.{PrintsText}

-- ---- a store that is loaded as its files are

-- where nothing is pending in files, they are as if both were synced
pub both_synced : (two : Two File) → NothingPending two 0 → NothingPending two 1 → SyncsBoth two two
both_synced two first second =
    let with_first : File → Two File = λ a. record { first = a; second = two.second } in
    let with_second : File → Two File = λ a. record { first = settled two.first.now; second = a } in
    ap with_first first ∙ ap with_second second

synced_told : (files : Option (Two File))
    → ((two : Two File) → files ≡ Some two → SyncsBoth two two) → RelatesTold SyncsBoth files files
synced_told None each = tt
synced_told (Some two) each = each two refl

same_two : (files : Option (Two File)) (two two' : Two File) → files ≡ Some two → files ≡ Some two'
    → read_files two' ≡ read_files two
same_two files two two' told told' =
    let both : Some two' ≡ Some two = sym told' ∙ told in
    let one : two' ≡ two = cc in
    ap read_files one

pub loaded_now : (clients : Meaning) (s : StoreValue) (o : Outside) → MayExtend clients s o.files
    → WasLoaded clients s o o
loaded_now clients s o opened = record {
  run = run_none o;
  rests = λ two files. record {
    moments = moments_none o _ (λ m w. o.now_is two m files w);
    kept = λ two' files'. same_two o.files two two' files files';
  };
  facts = λ two files.
      let fit = opened.ready.fits two files in
      record { of = fit.0; stood = fit.1.stands_for; are = fit.1.facts_are };
  synced = synced_told o.files (λ two files.
      let fit = opened.ready.fits two files in
      both_synced two fit.1.first_settled fit.1.second_settled);
  opened = opened;
}

module _ (clients : Meaning) (s : StoreValue) (o : Outside) where
  pub ready_now : IsReady clients s o.files → s.limit ≡ MAX_JOURNAL → written_in s ≡ kind.Short
      → IsReadyToServe clients s o
  ready_now ready limited short = record {
    loaded = loaded_now clients s o (record { ready = ready; limited = limited });
    short = short;
  }

  pub served_now : IsReady clients s o.files → s.limit ≡ MAX_JOURNAL → written_in s ≡ kind.Short
      → IsSettled clients s.state.facts → IsServed clients s o
  served_now ready limited short settled =
      record { ready = ready_now ready limited short; settled = settled }

  -- ---- behind a call

  -- a store that stays ready and settled is served, as far as the answer says
  pub serves_by : (o0 : Outside) (r : Result (Unit {0}) Outcome) → s.limit ≡ MAX_JOURNAL
      → written_in s ≡ kind.Short → StoreStaysReady clients s o.files r → StaysSettled clients s r
      → ExtendsBy o0 o r → ServesOn clients s o (came_to r)
  serves_by o0 (Ok u) limited short ready settled by = served_now ready limited short settled
  serves_by o0 (Err outcome.Full) limited short ready settled by =
      served_now ready limited short settled
  serves_by o0 (Err outcome.Memory) limited short ready settled by = ready_now ready limited short
  serves_by o0 (Err outcome.DiskFault) limited short ready settled by = tt
  serves_by o0 (Err _) limited short ready settled by = absurd by

  -- what is printed then leaves it served
  pub serves_printed : (text : List ℕ) (out out' : Stream) (came : Outcome) → IsServed clients s o
      → PrintsText text out out' came → ServesOn clients s o came
  serves_printed text out out' outcome.Done served printed = served
  serves_printed text out out' outcome.WriteFault served printed = served
  serves_printed text out out' outcome.Memory served printed = served.ready
  serves_printed text out out' _ served printed = absurd printed

  pub serves_told : (comes : Outcome) (text : List ℕ) (out out' : Stream) (came : Outcome)
      → IsServed clients s o → PrintsOut comes text out out' came → ServesOn clients s o came
  serves_told comes text out out' outcome.Done served printed = served
  serves_told comes text out out' (outcome.Inside place) served printed = served
  serves_told comes text out out' (outcome.Bad place why) served printed = served
  serves_told comes text out out' (outcome.NoVersion place) served printed = served
  serves_told comes text out out' outcome.WriteFault served printed = served
  serves_told comes text out out' outcome.Memory served printed = served.ready
  serves_told comes text out out' _ served printed = absurd printed

  -- what was not read, or not planned, leaves it served
  pub serves_unread : (input input' : Stream) (came : Outcome) → IsServed clients s o
      → IsBodyRead input input' (Err came) → ServesOn clients s o came
  serves_unread input input' (outcome.Refused why) served unread = served
  serves_unread input input' outcome.ReadFault served unread = served
  serves_unread input input' outcome.Memory served unread = served.ready
  serves_unread input input' _ served unread = absurd unread

  pub serves_unplanned : (plan : EntryPlan) (came : Outcome) → IsServed clients s o
      → IsPlanOfPost plan (Err came) → ServesOn clients s o came
  serves_unplanned plan (outcome.Refused why) served unplanned = served
  serves_unplanned plan outcome.Memory served unplanned = served.ready
  serves_unplanned plan _ served unplanned = absurd unplanned

-- ---- settling

pub settled_stays_so : (clients : Meaning) (s : StoreValue) (r : Result (Unit {0}) Outcome)
    → SettledBy clients s r → StaysSettled clients s r
settled_stays_so clients s (Ok u) settled = settled.1
settled_stays_so clients s (Err outcome.Memory) settled = tt
settled_stays_so clients s (Err outcome.DiskFault) settled = tt
settled_stays_so clients s (Err _) settled = absurd settled

-- a journal in format 2 is not one of format 1
pub anew_stays_so : (clients : Meaning) (s s' : StoreValue) (r : Result (Unit {0}) Outcome)
    → written_in s ≡ kind.Short → SettledAnew clients s s' r → StaysSettled clients s' r
anew_stays_so clients s s' (Ok u) short settled = settled.1
anew_stays_so clients s s' (Err outcome.Full) short settled =
    let both : kind.Short ≡ kind.Whole = sym short ∙ settled.0.whole in cc
anew_stays_so clients s s' (Err outcome.Memory) short settled = tt
anew_stays_so clients s s' (Err outcome.DiskFault) short settled = tt
anew_stays_so clients s s' (Err _) short settled = absurd settled

pub served_ok : (clients : Meaning) (s s' : StoreValue) (o : Outside)
    (r : Result (Unit {0}) Outcome) → s'.limit ≡ MAX_JOURNAL → StoreStaysReady clients s' o.files r
    → SettledAnew clients s s' r → OnOk r (IsServed clients s' o)
served_ok clients s s' o (Ok u) limited ready settled =
    served_now clients s' o ready limited settled.2 settled.1
served_ok clients s s' o (Err came) limited ready settled = tt

-- ---- a batch that leaves a settled journal settled

pub kept_settled : (clients : Meaning) (f f' : Facts) (batch : List Entry) → KnowsGroups f
    → IsSettled clients f → f' ≡ after_all f batch → LeavesSettled batch → IsSettled clients f'
kept_settled clients f f' batch known settled is (inl leaves) =
    subst (λ (g : Facts). IsSettled clients g) (sym is)
    (settled_stays clients f batch leaves settled)
kept_settled clients f f' batch known settled is (inr group) =
    subst (λ (g : Facts). IsSettled clients g) (sym (is ∙ ap (λ b. after_all f b) group.1))
    (groups_leave_settled clients f group.0 known settled)

pub planned_keeps : {A : Type 0} (entry_of : A → Entry) (r : Result A Refused) (e : Entry)
    → ((a : A) → LeavesSettled (entry_of a ∷ [])) → planned entry_of r ≡ adds e
    → LeavesSettled (e ∷ [])
planned_keeps entry_of (Ok a) e each is =
    let same : entry_of a ≡ e = cc in subst (λ (x : Entry). LeavesSettled (x ∷ [])) same (each a)
planned_keeps entry_of (Err why) e each is = cc

pub contact_keeps : (f : Facts) (e : Entry) → contact_plan f ≡ adds e → LeavesSettled (e ∷ [])
contact_keeps f e is =
    planned_keeps (λ n. entry.Contact n) (contact_answer f) e (λ n. inl refl) is

pub group_keeps : (clients : Meaning) (f : Facts) (def : GroupValue) (e : Entry)
    → group_plan clients f def ≡ adds e → LeavesSettled (e ∷ [])
group_keeps clients f def e is =
    planned_keeps (λ (id : Id). entry.Group def) (group_answer clients f def) e
    (λ id. inr (def, refl)) is

pub level_keeps : (f : Facts) (contact : ℕ) (group : Id) (l : Level) (e : Entry)
    → level_plan f contact group l ≡ adds e → LeavesSettled (e ∷ [])
level_keeps f contact group l e is =
    planned_keeps (λ (u : Unit {0}). entry.Level contact group l) (level_answer f contact group) e
    (λ u. inl refl) is
