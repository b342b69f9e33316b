-- Each moment of a run of sessions opens to a sound journal: by the headline and the laws of legal
-- journals.
use Rattle.std.proofs.Common.{◌≡◌, ◌⊎◌, ℕ, List, [], ◌∷◌, ◌++◌, append_assoc, sym, ◌∙◌, subst}
use Rattle.std.proofs.Common.{inl, inr}
use Rattle.std.proofs.lemmas.List.{append_cancel_left}
use Rattle.outside.specs.Files.{Two, File, read_files}
use Rattle.outside.specs.Outside.{Moment, Outside}
use Rattle.outside.proofs.CallSteps.{moments_map}
use Rattle.sync_rules.specs.declared.entries.Entry.{Entry}
use Rattle.sync_rules.specs.declared.entries.Entry.TheVariants as entry
use Rattle.sync_rules.specs.declared.entries.Session.{Session}
use Rattle.sync_rules.specs.Clients.{Meaning}
use Rattle.sync_rules.specs.Facts.{Facts, Journal, after_all, after_batches, facts, nothing}
use Rattle.sync_rules.specs.Laws.{BringsOnce, EndsOnce, HasOwnOrigin, IsInOrder, JudgesOnce}
use Rattle.sync_rules.specs.Legal.{Allowed, IsSettlingBatch, Legal}
use Rattle.sync_rules.specs.Output.{SendsTheOpen}
use Rattle.sync_rules.proofs.Settling.{after_batches-append, goes_on_back}
use Rattle.sync_rules.proofs.StepLaws.{next_is_settling}
use Rattle.entry_codec.specs.Standing.{Standing}
use Rattle.file_standing.specs.Standing.{stands}
use Rattle.entry_codec.specs.StandingLaws.{StandingIsLegal}
use Rattle.sync_course.specs.Story.{AllSuitPlanned, SuitsPlanned}
use Rattle.sync_course.specs.Suits.{TakesHeard}
use Rattle.sync_node.specs.Output.{heard_on, sent_on}
use Rattle.sync_node.specs.Suits.{SuitsRun}
use Rattle.commands.specs.declared.command.Command.TheVariants as command
use Rattle.sync_words.specs.declared.link_words.LinkWords.{LinkWords}
use Rattle.commands.specs.Reading.{Asked}
use Rattle.commands.specs.Reading.Asked.{Usage, Do}
use Rattle.store_commands.specs.Stopping.{StoodFor}
use Rattle.sync_run.specs.Headline.{IsUntouched, StandsForRun, sent_at_moment}
use Rattle.sync_run.specs.Headline.{AlwaysLeaves}
use Rattle.sync_top.specs.Run.{AsksServe, AsksSync, Covered}
use Rattle.sync_top.specs.Sound.{AlwaysOpens, LifeOpens, LivesAreSound, OpensSound, RunsAreSound}
use Rattle.sync_top.specs.Sound.{TakesInOrder}

-- ---- the records that were taken

-- the next step takes no record
takes_no_step : (clients : Meaning) (f : Facts) (session k : ℕ) (rest : List Entry)
    → IsSettlingBatch clients f (entry.Take session k ∷ rest) → ⊥
takes_no_step clients f session k rest settling =
    next_is_settling clients f (entry.Take session k) settling.2.0

-- a batch of a run suits it at its place
suits_at : (clients : Meaning) (first : ℕ) (plans : List Session) (heard : ℕ → List ℕ) (f : Facts)
    (before behind : Journal) (b : List Entry)
    → AllSuitPlanned clients first plans heard f (before ++ b ∷ behind)
    → SuitsPlanned clients first plans heard (after_batches f before) b
suits_at clients first plans heard f [] behind b suit = suit.0
suits_at clients first plans heard f (c ∷ before) behind b suit =
    suits_at clients first plans heard (after_all f c) before behind b suit.1

takes_suited : (clients : Meaning) (first : ℕ) (plans : List Session) (heard : ℕ → List ℕ)
    (f : Facts) (session k : ℕ) (rest : List Entry)
    → SuitsPlanned clients first plans heard f (entry.Take session k ∷ rest)
    → TakesHeard first heard f session k rest
takes_suited clients first plans heard f session k rest (inl settling) =
    absurd (takes_no_step clients f session k rest settling)
takes_suited clients first plans heard f session k rest (inr takes) = takes

takes_in_order : (clients : Meaning) (begin whole : Journal) (first : ℕ) (plans : List Session)
    (heard : ℕ → List ℕ) → Legal clients whole → SuitsRun clients begin first plans heard whole
    → TakesInOrder begin whole first heard
takes_in_order clients begin whole first plans heard legal suits before behind session k rest is =
    let b : List Entry = entry.Take session k ∷ rest in
    let more : suits.more ≡ before ++ b ∷ behind =
    append_cancel_left begin suits.more (before ++ b ∷ behind) (sym suits.extends ∙ is
    ∙ append_assoc begin before (b ∷ behind)) in
    let suit : SuitsPlanned clients first plans heard (after_batches (facts begin) before) b =
    suits_at clients first plans heard (facts begin) before behind b
    (subst (λ (m : Journal). AllSuitPlanned clients first plans heard (facts begin) m) more
    suits.suits) in
    let here : after_batches (facts begin) before ≡ facts (begin ++ before) =
    sym (after_batches-append nothing begin before) in
    let allowed : Allowed clients (facts (begin ++ before)) b =
    (goes_on_back clients nothing (begin ++ before) (b ∷ behind)
    (subst (λ (w : Journal). Legal clients w) is legal)).0 in (
      allowed.1.numbered,
      takes_suited clients first plans heard (facts (begin ++ before)) session k rest
          (subst (λ (f : Facts). SuitsPlanned clients first plans heard f b) here suit),
    )

-- ---- the law

pub runs_sound : ((clients : Meaning) (j : Journal) → Legal clients j → BringsOnce j)
    → ((clients : Meaning) (j : Journal) → Legal clients j → JudgesOnce j)
    → ((clients : Meaning) (j : Journal) → Legal clients j → EndsOnce j)
    → ((clients : Meaning) (j : Journal) → Legal clients j → IsInOrder clients j)
    → ((clients : Meaning) (j : Journal) → Legal clients j → HasOwnOrigin j)
    → ((clients : Meaning) (j : Journal) → Legal clients j → SendsTheOpen j)
    → StandingIsLegal → RunsAreSound
runs_sound brings judges ends order origin open_only legal clients words begin heard sent files
    run =
    let is_legal : Legal clients run.whole = legal clients files run.whole run.stands_for in
    record {
      whole = run.whole;
      opens = run.stands_for;
      sound = record {
        legal = is_legal;
        extends = (run.suits.more, run.suits.extends);
        comes_once = brings clients run.whole is_legal;
        judged_once = judges clients run.whole is_legal;
        ends_once = ends clients run.whole is_legal;
        in_order = order clients run.whole is_legal;
        from_where = origin clients run.whole is_legal;
        takes = takes_in_order clients begin run.whole (facts begin).begun run.sessions heard
            is_legal run.suits;
        has_sent = run.has_sent;
        sends_the_open = open_only clients run.whole is_legal;
      };
    }

-- ---- the moments of a run

-- what may be left at a moment of a run opens to a sound journal
opens_then : RunsAreSound → (clients : Meaning) (words : List LinkWords) (two : Two File)
    (old : Outside) (standing : Standing) (heard : ℕ → List ℕ) (m : Moment)
    → IsUntouched two old m
    ⊎ StoodFor standing (λ begin. StandsForRun clients words begin heard (sent_at_moment m) m.files)
    → IsUntouched two old m
    ⊎ StoodFor standing (λ begin. OpensSound clients begin heard (sent_at_moment m) m.files)
opens_then law clients words two old standing heard m (inl untouched) = inl untouched
opens_then law clients words two old standing heard m (inr on) = inr (record {
  before = on.before;
  stood = on.stood;
  has = law clients words on.before heard (sent_at_moment m) m.files on.has;
})

runs_open : RunsAreSound → (clients : Meaning) (words : Asked) (old new : Outside)
    → Covered clients words old new
    → AsksSync words → AlwaysLeaves clients (OpensSound clients) old new
runs_open law clients (Usage place) old new covered sync = absurd sync
runs_open law clients (Do (command.Sync turns quiet links)) old new covered sync =
    λ two files told.
    let leaves = covered two files told in
    record {
      moments =
          moments_map old new _ _
          (opens_then law clients links two old (stands clients (read_files two))
          (heard_on new.links)) leaves.moments;
      ends = λ begin stood.
          law clients links begin (heard_on new.links) (sent_on new.links) (read_files told.two)
          (leaves.ends begin stood);
    }
runs_open law clients (Do _) old new covered sync = absurd sync

pub always_opens : RunsAreSound → (clients : Meaning) (words : Asked) (old new : Outside)
    → Covered clients words old new → (AsksServe words → LifeOpens clients old new)
    → AlwaysOpens clients words old new
always_opens law clients words old new covered serves =
    (runs_open law clients words old new covered, serves)

-- ---- a life of a node

pub lives_sound : ((clients : Meaning) (j : Journal) → Legal clients j → BringsOnce j)
    → ((clients : Meaning) (j : Journal) → Legal clients j → JudgesOnce j)
    → ((clients : Meaning) (j : Journal) → Legal clients j → EndsOnce j)
    → ((clients : Meaning) (j : Journal) → Legal clients j → IsInOrder clients j)
    → ((clients : Meaning) (j : Journal) → Legal clients j → HasOwnOrigin j)
    → StandingIsLegal → LivesAreSound
lives_sound brings judges ends order origin legal clients begin whole accounts files stands_for
    goes_on =
    let is_legal : Legal clients whole = legal clients files whole stands_for in
    record {
      whole = whole;
      opens = stands_for;
      sound = record {
        legal = is_legal;
        accounts = accounts;
        goes_on = goes_on;
        comes_once = brings clients whole is_legal;
        judged_once = judges clients whole is_legal;
        ends_once = ends clients whole is_legal;
        in_order = order clients whole is_legal;
        from_where = origin clients whole is_legal;
      };
    }
