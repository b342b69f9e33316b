-- A node that serves, as a command: its journals are sound, and it damages no store.
use Rattle.std.proofs.Common.{◌≡◌, ℕ, zero, suc, List, [], ◌∷◌, ◌++◌, append_assoc, refl, sym, ap, ◌∙◌}
use Rattle.std.proofs.Common.{subst, inl, inr, Err}
use Rattle.std.specs.Prelude.{◌⊎◌}
use Rattle.outside.specs.Files.{Two}
use Rattle.outside.specs.Outside.{Outside}
use Rattle.outside.specs.Streams.{Stream}
use Rattle.outside.proofs.CallSteps.{moments_map}
use Rattle.request_frames.specs.Requests.{Request}
use Rattle.sync_rules.specs.declared.entries.Entry.{Entry}
use Rattle.sync_rules.specs.Clients.{Meaning}
use Rattle.sync_rules.specs.Facts.{ExtendsJournal, Journal}
use Rattle.sync_rules.specs.Hearing.{SettlesJournal}
use Rattle.brief_account.specs.Brief.{brief}
use Rattle.sync_words.specs.declared.outcome.Outcome.{Outcome}
use Rattle.commands.specs.Reading.{Asked, IsReadAs, words_came}
use Rattle.commands.specs.Reading.Asked.{Do, Usage}
use Rattle.commands.specs.declared.command.Command.{Command}
use Rattle.commands.specs.declared.command.Command.TheVariants as command
use Rattle.commands.specs.declared.fault.WordsFault.{WordsFault}
use Rattle.commands.specs.declared.fault.WordsFault.TheVariants as fault
use Rattle.store_commands.specs.Commit.{GoesOnByBatch}
use Rattle.store_commands.specs.Compact.{GoesBrief}
use Rattle.store_commands.specs.Entries.{WhenAdds}
use Rattle.store_commands.specs.Errands.{Errand, ErrandOn}
use Rattle.store_commands.specs.Plans.{EntryPlan, adds, refuses}
use Rattle.node_service.specs.Lives.{requests_of}
use Rattle.node_life.specs.Serving.{HasServed}
use Rattle.node_life.specs.Ways.{GoesOnBy, IsOnWay, IsOnWayThrough, StandsInLife}
use Rattle.node_life.proofs.LifeLemmas.{begins_nothing, begun_moments}
use Rattle.sync_top.specs.Lives.{ServesAs}
use Rattle.sync_top.specs.Run.{AsksServe}
use Rattle.sync_top.specs.Sound.{GoesOnThrough, LifeOpens, LivesAreSound, OpensInLife}
use Rattle.sync_top.specs.Undamaged.{Undamaged}

-- ---- how a journal goes on

extends_none : (j : Journal) → ExtendsJournal j j
extends_none j = ([], sym (append_nil_of j)) where
  append_nil_of : (k : Journal) → k ++ [] ≡ k
  append_nil_of [] = refl
  append_nil_of (b ∷ k) = ap (λ (l : Journal). b ∷ l) (append_nil_of k)

extends_then : (a b c : Journal) → ExtendsJournal b a → ExtendsJournal c b → ExtendsJournal c a
extends_then a b c first second = (
  first.0 ++ second.0,
  second.1 ∙ ap (λ (l : Journal). l ++ second.0) first.1 ∙ append_assoc a first.0 second.0,
)

settles_extends : (clients : Meaning) (j whole : Journal) → SettlesJournal clients j whole
    → ExtendsJournal whole j
settles_extends clients j whole settles = (settles.more, settles.extends)

-- it is extended, or in its place stands the brief account of what extends it
abbrev OneStep : (j whole : Journal) → Type 0
OneStep j whole =
    ExtendsJournal whole j
    ⊎ ((settled : Journal) × ExtendsJournal settled j × (whole ≡ brief settled))

batch_step : (clients : Meaning) (j : Journal) (batch : List Entry) (whole : Journal)
    → GoesOnByBatch clients j batch whole → OneStep j whole
batch_step clients j batch whole (inl settles) = inl (settles_extends clients j whole settles)
batch_step clients j batch whole (inr one) =
    inl (extends_then j one.before whole (settles_extends clients j one.before one.settles)
    (extends_then one.before (one.before ++ batch ∷ []) whole (batch ∷ [], refl)
    (settles_extends clients (one.before ++ batch ∷ []) whole one.settles_again)))

plan_step : (clients : Meaning) (plan : EntryPlan) (j whole : Journal)
    → WhenAdds plan (λ e. GoesOnByBatch clients j (e ∷ []) whole) → OneStep j whole
plan_step clients (refuses why) j whole goes = absurd goes
plan_step clients (adds e) j whole goes = batch_step clients j (e ∷ []) whole goes

errand_step : (clients : Meaning) (errand : Errand) (j whole : Journal)
    → ErrandOn clients errand j whole → OneStep j whole
errand_step clients errand j whole (inl settles) = inl (settles_extends clients j whole settles)
errand_step clients errand j whole (inr once) =
    inl (extends_then j (j ++ once.first) whole (once.first, refl)
    (once.has.between.front, once.has.between.is))

brief_step : (clients : Meaning) (j whole : Journal) → GoesBrief clients j whole → OneStep j whole
brief_step clients j whole (inl settles) = inl (settles_extends clients j whole settles)
brief_step clients j whole (inr once) = inr (j ++ once.first, (once.first, refl), once.has)

command_step : (clients : Meaning) (asked : Command) (request : Request) (j whole : Journal)
    → GoesOnBy clients asked request j whole → OneStep j whole
command_step clients command.Contact request j whole goes = plan_step clients _ j whole goes
command_step clients (command.Group name major descriptor) request j whole goes =
    plan_step clients _ j whole goes
command_step clients (command.Share contact group level) request j whole goes =
    plan_step clients _ j whole goes
command_step clients (command.Post group timestamp) request j whole goes =
    plan_step clients _ j whole goes.2
command_step clients (command.Say group timestamp join name major descriptor) request j whole goes =
    plan_step clients _ j whole goes
command_step clients (command.Agree contact group) request j whole goes =
    errand_step clients _ j whole goes
command_step clients command.Compact request j whole goes = brief_step clients j whole goes
command_step clients (command.MailboxIn contact) request j whole goes =
    errand_step clients _ j whole goes.2
command_step clients (command.MailboxOut contact latency count) request j whole goes =
    errand_step clients _ j whole goes.1
command_step clients _ request j whole goes = absurd goes

-- behind what extends it
step_behind : (a b whole : Journal) → ExtendsJournal b a → OneStep b whole → OneStep a whole
step_behind a b whole first (inl extends) = inl (extends_then a b whole first extends)
step_behind a b whole first (inr account) =
    inr (account.0, extends_then a b account.0 first account.1, account.2)

way_step : (clients : Meaning) (request : Request) (j whole : Journal)
    → IsOnWay clients request j whole → OneStep j whole
way_step clients request j whole (inl settles) = inl (settles_extends clients j whole settles)
way_step clients request j whole (inr once) =
    step_behind j (j ++ once.first) whole (once.first, refl)
    (command_step clients once.has.asked request (j ++ once.first) whole once.has.goes_on)

-- ---- through several requests

abbrev Through : (j whole : Journal) → Type 0
Through j whole = (accounts : ℕ) × GoesOnThrough accounts j whole

through_behind : (accounts : ℕ) (a b whole : Journal) → ExtendsJournal b a
    → GoesOnThrough accounts b whole → GoesOnThrough accounts a whole
through_behind zero a b whole first goes = extends_then a b whole first goes
through_behind (suc accounts) a b whole first goes =
    (goes.0, extends_then a b goes.0 first goes.1, goes.2)

step_through : (a b whole : Journal) → OneStep a b → Through b whole → Through a whole
step_through a b whole (inl extends) goes =
    (goes.0, through_behind goes.0 a b whole extends goes.1)
step_through a b whole (inr account) goes = (
  suc goes.0,
  (
    account.0,
    account.1,
    subst (λ (k : Journal). GoesOnThrough goes.0 k whole) account.2 goes.1,
  ),
)

none_through : (j : Journal) → Through j j
none_through j = (zero, extends_none j)

ways_through : (clients : Meaning) (requests : List Request) (j whole : Journal)
    → IsOnWayThrough clients requests j whole → Through j whole
ways_through clients [] j whole is =
    subst (λ (k : Journal). Through j k) (sym is) (none_through j)
ways_through clients (r ∷ later) j whole (inl way) =
    step_through j whole whole (way_step clients r j whole way) (none_through whole)
ways_through clients (r ∷ later) j whole (inr next) =
    step_through j next.0 whole (way_step clients r j next.0 next.1)
    (ways_through clients later next.0 whole next.2)

life_through : (clients : Meaning) (first : Journal) (requests : List Request)
    (left : Two (List ℕ)) (s : StandsInLife clients first requests left) → Through first s.whole
life_through clients first requests left s = elim s.is [
  | inl settles ↦ (zero, settles_extends clients first s.whole settles)
  | inr once ↦ step_through first (first ++ once.first) s.whole (inl (once.first, refl))
      (ways_through clients requests (first ++ once.first) s.whole once.has)
]

-- ---- the moments of a life

life_opens : LivesAreSound → (clients : Meaning) (first : Journal) (requests : List Request)
    (left : Two (List ℕ)) → StandsInLife clients first requests left
    → OpensInLife clients first left
life_opens law clients first requests left s =
    let through = life_through clients first requests left s in
    law clients first s.whole through.0 left s.stands_for through.1

module _ {H : Type 0} (tells : H → Outside) (law : LivesAreSound) (clients : Meaning) (old new : H)
    (input input' out out' : Stream) (came : Outcome) where
  pub serves_opens : HasServed tells clients old new input input' out out' came
      → LifeOpens clients (tells old) (tells new)
  serves_opens (inl begins) two files =
      moments_map (tells old) (tells new) _ _ (λ m w. elim w [
        | inl now ↦ inl now
        | inr on ↦ inr (record {
          before = on.before;
          stood = on.stood;
          has = life_opens law clients on.before [] m.files on.has;
        })
      ]) (begun_moments clients (tells old) (tells new) out came begins.begun two files)
  serves_opens (inr lives) two files =
      let s = lives.moments two files in
      moments_map (tells old) (tells new) _ _ (λ m w. elim w [
        | inl now ↦ inl now
        | inr on ↦ inr (record {
          before = s.before;
          stood = s.stood;
          has = life_opens law clients s.before (requests_of lives.lived.answered) m.files on;
        })
      ]) s.has

-- whose files open so were never damaged
pub opens_undamaged : (clients : Meaning) (old new : Outside) → LifeOpens clients old new
    → Undamaged clients old new
opens_undamaged clients old new opens two files each =
    moments_map old new _ _ (λ m w. elim w [
      | inl now ↦ each m.files now.image
      | inr on ↦ record { of = on.has.whole; stands_for = on.has.opens }
    ]) (opens two files)

-- ---- the words

module _ {H : Type 0} (tells : H → Outside) (clients : Meaning) where
  -- words that were not read
  pub words_serve : (words : Asked) (o : H) (input out : Stream) (e : WordsFault)
      → IsReadAs words (Err e)
      → ServesAs tells clients words o o input input out out (words_came e)
  words_serve (Usage place) o input out e is = tt
  words_serve (Do command.Serve) o input out (fault.Usage place) is =
      absurd (let both : Do command.Serve ≡ Usage place = is in cc)
  words_serve (Do command.Serve) o input out fault.Memory is = inl (record {
    begun = begins_nothing clients (tells o) out;
    undone = λ e. cc;
    unread = record { same = refl; same_faults = refl };
    quiet = record { same = refl; same_faults = refl };
  })
  words_serve (Do _) o input out e is = tt

  -- other words
  pub others_serve : (asked : Command) (old new : H) (input input' out out' : Stream)
      (came : Outcome) → (asked ≡ command.Serve → ⊥)
      → ServesAs tells clients (Do asked) old new input input' out out' came
  others_serve command.Serve old new input input' out out' came other = absurd (other refl)
  others_serve _ old new input input' out out' came other = tt

  pub as_serve : (asked : Command) (old new : H) (input input' out out' : Stream) (came : Outcome)
      → asked ≡ command.Serve → HasServed tells clients old new input input' out out' came
      → ServesAs tells clients (Do asked) old new input input' out out' came
  as_serve asked old new input input' out out' came is served =
      subst (λ (a : Command). ServesAs tells clients (Do a) old new input input' out out' came)
      (sym is) served

pub no_serve : (asked : Command) → (asked ≡ command.Serve → ⊥) → AsksServe (Do asked) → ⊥
no_serve command.Serve other asks = other refl
no_serve _ other asks = asks

-- a node that serves opens to sound journals
pub words_open : {H : Type 0} (tells : H → Outside) → LivesAreSound → (clients : Meaning)
    (words : Asked) (old new : H) (input input' out out' : Stream) (came : Outcome)
    → ServesAs tells clients words old new input input' out out' came → AsksServe words
    → LifeOpens clients (tells old) (tells new)
words_open tells law clients (Do command.Serve) old new input input' out out' came served asks =
    serves_opens tells law clients old new input input' out out' came served
words_open tells law clients (Do _) old new input input' out out' came served asks = absurd asks
words_open tells law clients (Usage place) old new input input' out out' came served asks =
    absurd asks
