-- An agreement as an errand, and the command.
use Rattle.std.proofs.Common.{◌≡◌, ℕ, ◌<◌, List, [], ◌∷◌, sym, ap, ◌∙◌}
use Rattle.std.proofs.Common.{append_assoc, append-nil, arith, Some, None, Result, Ok, Err}
use Rattle.std.specs.Prelude.{IsErrAnd, OnOk}
use Rattle.outside.specs.declared.limits.TheConstants.{MAX_JOURNAL}
use Rattle.outside.specs.Files.{Two, File, read_files}
use Rattle.outside.specs.Outside.{DiskRun, Outside}
use Rattle.outside.specs.Streams.{Stream, IsIdle}
use Rattle.outside.specs.Runs.{IsFront}
use Rattle.sync_rules.specs.declared.entries.Entry.{Entry}
use Rattle.sync_rules.specs.declared.states.Refused.{Refused}
use Rattle.sync_rules.specs.Clients.{Meaning}
use Rattle.sync_rules.specs.Facts.{Facts, Id}
use Rattle.sync_rules.specs.Steps.{IsSettled}
use Rattle.file_standing.specs.Standing.{stands}
use Rattle.sync_store.specs.Store.{StoreValue}
use Rattle.sync_words.specs.declared.outcome.Outcome.{Outcome}
use Rattle.sync_words.specs.declared.outcome.Outcome.TheVariants as outcome
use Rattle.sync_words.specs.Outcomes.{came_to}
use Rattle.store_commands.specs.Commit.{ComesAnew, ExtendsBy, SettlesAnew}
use Rattle.store_commands.specs.Load.{HasFacts, IsLoaded, LoadedBy, LoadKeeps, MayExtend}
use Rattle.store_commands.specs.Running.{DoesErrand, DoesSo, RunsErrand}
use Rattle.store_commands.specs.Show.{LeavesFilesSo, PrintsText}
use Rattle.store_commands.specs.Errands.{running}
use Rattle.store_commands.proofs.Errands.{errand_printed}
use Rattle.store_commands.proofs.Follow.{stays}
use Rattle.store_commands.proofs.Passing.{passed}
use Rattle.store_commands.proofs.Working.{prints_plain, worked_loaded, worked_none, worked_refused}
use Rattle.sharing_commands.specs.Adding.{AddsFront, AddsSo}
use Rattle.sharing_commands.specs.Agreeing.{HasAgreed, agreement}
use Rattle.sharing_commands.specs.Agreement.{agree_test, agreed_batches, agreed_text}

-- ---- what the targets ask for

pub front_of : (s : StoreValue) (all front : List (List Entry)) (r : Result (Unit {0}) Outcome)
    → AddsSo s all front r → IsFront front all
front_of s all front (Ok u) so = record { rest = []; whole = sym so.1 ∙ sym (append-nil front) }
front_of s all front (Err outcome.Full) so =
    record { rest = so.1.next ∷ so.1.rest; whole = so.1.parts }
front_of s all front (Err outcome.Memory) so = so.1
front_of s all front (Err outcome.DiskFault) so = so.1
front_of s all front (Err _) so = absurd so

does_so : (clients : Meaning) (contact : ℕ) (group : Id) (f : Facts) (s : StoreValue)
    (front : List (List Entry)) (r : Result (Unit {0}) Outcome)
    → AddsSo s (agreed_batches clients contact group f) front r
    → OnOk r (IsSettled clients s.state.facts)
    → DoesSo clients (agreement clients contact group) f s front r
does_so clients contact group f s front (Ok u) so settled = (so.0, settled, so.1)
does_so clients contact group f s front (Err outcome.Full) so settled = (
  so.0,
  record {
    next = so.1.next;
    follows = record {
      rest = so.1.rest;
      whole = so.1.parts ∙ sym (append_assoc front (so.1.next ∷ []) so.1.rest);
    };
    over = so.1.over;
  },
)
does_so clients contact group f s front (Err outcome.Memory) so settled = tt
does_so clients contact group f s front (Err outcome.DiskFault) so settled = tt
does_so clients contact group f s front (Err _) so settled = absurd so

-- what was added to a settled store is the errand, as far as the answer says
pub agreement_done : (clients : Meaning) (contact : ℕ) (group : Id) (s s' : StoreValue)
    (o o' : Outside) (r : Result (Unit {0}) Outcome)
    → AddsFront clients s s' o o' (agreed_batches clients contact group s.state.facts) r
    → ExtendsBy o o' r → OnOk r (IsSettled clients s'.state.facts)
    → DoesErrand clients (agreement clients contact group) s s' o o' r
agreement_done clients contact group s s' o o' r added by settled = record {
  more = added.front;
  comes = added.adds.comes;
  some = front_of s' (agreed_batches clients contact group s.state.facts) added.front r
      added.answer;
  answer = does_so clients contact group s.state.facts s' added.front r added.answer settled;
  by = by;
}

-- all of it was added to the settled store, and its text printed
pub agreement_printed : (clients : Meaning) (contact : ℕ) (group : Id) (s s1 s2 : StoreValue)
    (o o1 o2 : Outside) (out out' : Stream) (u v : Unit {0}) (given : List ℕ) (came : Outcome)
    → s.limit ≡ MAX_JOURNAL → DiskRun o o1 → SettlesAnew clients s s1 o o1 (Ok u)
    → AddsFront clients s1 s2 o1 o2 (agreed_batches clients contact group s1.state.facts) (Ok v)
    → ExtendsBy o1 o2 (Ok v) → IsSettled clients s2.state.facts
    → given ≡ agreed_text clients contact group s1.state.facts → PrintsText given out out' came
    → RunsErrand clients (agreement clients contact group) s o o2 out out' came
agreement_printed clients contact group s s1 s2 o o1 o2 out out' u v given came limited run settled
    added by still_settled is printed =
    errand_printed clients (agreement clients contact group) s s1 s2 o o1 o2 out out' u v given came
    limited run settled
    (agreement_done clients contact group s1 s2 o1 o2 (Ok v) added by still_settled)
    (λ two1 j1 fits. is ∙ ap (agreed_text clients contact group) (sym fits.facts_are))
    (prints_plain given out out' came printed)

-- a contact that is known stays so while a journal is settled
pub still_known : (clients : Meaning) (contact : ℕ) (s s1 : StoreValue) (o o1 : Outside)
    (more : List (List Entry)) → contact < s.state.facts.contacts
    → ComesAnew clients s s1 o o1 more → contact < s1.state.facts.contacts
still_known clients contact s s1 o o1 more known comes =
    let same : s1.state.facts.contacts ≡ s.state.facts.contacts =
    ap (λ (f : Facts). f.contacts) comes.facts
    ∙ (stays clients s.state.facts more comes.settling).contacts in
    omega (arith, same)

-- ---- the command

module _ (clients : Meaning) (contact : ℕ) (group : Id) (old new : Outside) (out out' : Stream)
  where
    -- no store was loaded
    pub agreed_none : (came : Outcome) → DiskRun old new
        → ((two : Two File) → old.files ≡ Some two
        → LeavesFilesSo (LoadKeeps (Err came) two) two old new) → LoadedBy old new (Err came)
        → ((two : Two File) → old.files ≡ Some two
        → IsLoaded (stands clients (read_files two)) (Err came)) → IsIdle out out'
        → HasAgreed clients contact group old new out out' came
    agreed_none came run rests by loaded idle =
        worked_none clients (λ f. agree_test f contact group)
        (λ f. running clients (agreement clients contact group)) old new out out' came run rests by
        loaded idle

    -- a test failed over it
    pub agreed_refused : (s : StoreValue) (why : Refused) → DiskRun old new
        → ((two : Two File) → old.files ≡ Some two → LeavesFilesSo (LoadKeeps (Ok s) two) two old new)
        → ((two : Two File) → old.files ≡ Some two → HasFacts (stands clients (read_files two)) s)
        → agree_test s.state.facts contact group ≡ Some why → IsIdle out out'
        → HasAgreed clients contact group old new out out' (outcome.Refused why)
    agreed_refused s why run rests loaded tested idle =
        worked_refused clients (λ f. agree_test f contact group)
        (λ f. running clients (agreement clients contact group)) old new out out' s why run rests
        loaded tested idle

    pub agreed_on : (r : Result (Unit {0}) Outcome) (x : Outcome) → IsErrAnd r (λ e. e ≡ x)
        → HasAgreed clients contact group old new out out' x
        → HasAgreed clients contact group old new out out' (came_to r)
    agreed_on r x is =
        passed (λ (came : Outcome). HasAgreed clients contact group old new out out' came) r x is

-- the tests hold over the store that was loaded
pub agreed_loaded : (clients : Meaning) (contact : ℕ) (group : Id) (o o1 o2 : Outside)
    (out out' : Stream) (s : StoreValue) (came : Outcome) → DiskRun o o1
    → ((two : Two File) → o.files ≡ Some two → LeavesFilesSo (LoadKeeps (Ok s) two) two o o1)
    → MayExtend clients s o1.files → agree_test s.state.facts contact group ≡ None
    → RunsErrand clients (agreement clients contact group) s o1 o2 out out' came
    → HasAgreed clients contact group o o2 out out' came
agreed_loaded clients contact group o o1 o2 out out' s came run rests opened tested ran =
    worked_loaded clients (λ f. agree_test f contact group)
    (λ f. running clients (agreement clients contact group)) o o1 o2 out out' s came run rests
    opened tested ran
