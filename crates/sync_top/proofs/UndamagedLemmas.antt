-- No command damages a store.
use Rattle.std.proofs.Common.{◌≡◌, ℕ, List, sym, ◌∙◌, subst, inl, inr}
use Rattle.std.proofs.Common.{Option, Some}
use Rattle.std.specs.Prelude.{◌⊎◌}
use Rattle.outside.specs.Files.{Two, File, IsImage, read_files}
use Rattle.outside.specs.Outside.{Outside, Moment, MomentsAre, IsNow}
use Rattle.outside.specs.Runs.{TellsAll}
use Rattle.outside.proofs.CallSteps.{moments_map, moments_none}
use Rattle.outside.specs.Streams.{Stream}
use Rattle.sync_rules.specs.declared.entries.Entry.{Entry}
use Rattle.sync_rules.specs.declared.states.Refused.{Refused}
use Rattle.sync_rules.specs.declared.states.Refused.TheVariants as refused
use Rattle.sync_rules.specs.Clients.{Meaning}
use Rattle.sync_rules.specs.Facts.{Facts, Id}
use Rattle.entry_codec.specs.Standing.{Standing, journal, no_store}
use Rattle.file_standing.specs.Standing.{stands}
use Rattle.sync_store.specs.Begin.{InitMoment}
use Rattle.node_life.proofs.BegunLemmas.{no_store_there}
use Rattle.sync_words.specs.declared.outcome.Outcome.{Outcome}
use Rattle.sync_words.specs.declared.outcome.Outcome.TheVariants as outcome
use Rattle.commands.specs.Reading.{Asked}
use Rattle.commands.specs.Reading.Asked.{Usage, Do}
use Rattle.commands.specs.declared.command.Command.{Command}
use Rattle.commands.specs.declared.command.Command.TheVariants as command
use Rattle.store_commands.specs.Init.{HasBegun}
use Rattle.store_commands.specs.Post.{HasPosted, PostStops, PostsBody}
use Rattle.store_commands.specs.Looking.{HasLooked}
use Rattle.store_commands.specs.Stopping.{StoodFor, StopsEarly}
use Rattle.store_commands.specs.Shown.{Showing}
use Rattle.store_commands.specs.Works.{DoesWork, HasWorked, Work}
use Rattle.audit_commands.specs.Audits.{HasAudited}
use Rattle.status_commands.specs.Statuses.{HasToldStatus}
use Rattle.mailbox_commands.specs.declared.sending.Sending.{Sending}
use Rattle.mailbox_commands.specs.Sending.{HasSentMail}
use Rattle.mailbox_commands.specs.Taking.{HasTakenMail}
use Rattle.sync_store.specs.Moments.{JournalMoment}
use Rattle.sync_node.specs.Output.{heard_on}
use Rattle.node_requests.specs.Requests.{sending_of}
use Rattle.sync_top.specs.Duties.{comes_of}
use Rattle.sync_top.proofs.ServeLemmas.{opens_undamaged}
use Rattle.sync_top.specs.Sound.{LifeOpens}
use Rattle.sync_top.specs.Run.{AsksServe, AsksSync, WordsComeTo, ComesOfStore, Covered, KeepsHost}
use Rattle.sync_top.specs.Undamaged.{NeverDamaged, StandsForJournal, Undamaged}
use Rattle.sync_run.specs.Headline.{Headline, IsUntouched, StandsForRun, sent_at_moment}
use Rattle.store_commands.specs.Stopping.{StoodFor}
use Rattle.sync_words.specs.declared.link_words.LinkWords.{LinkWords}

-- ---- the moments of the commands

module _ (clients : Meaning) (old new : Outside) where
  -- nothing is left but what a crash might have left before
  of_now : ((two : Two File) → old.files ≡ Some two → MomentsAre old new (IsNow two old.links))
      → Undamaged clients old new
  of_now moments two files each =
      moments_map old new _ _ (λ m w. each m.files w.image) (moments two files)

  -- a store was begun where there was one: there is no such moment
  begun_moment : (two : Two File) → old.files ≡ Some two
      → ((left : Two (List ℕ)) → IsImage two left → StandsForJournal clients left) → (m : Moment)
      → InitMoment two old.links m
      → StandsForJournal clients m.files
  begun_moment two files each m (inl now) = each m.files now.image
  begun_moment two files each m (inr begun) =
      let some = each (read_files two) (old.reads two files) in
      absurd (let both : no_store ≡ journal some.of = sym (no_store_there clients two begun.0)
      ∙ some.stands_for in cc)

  of_begun : (out out' : Stream) (came : Outcome) → HasBegun old new out out' came
      → Undamaged clients old new
  of_begun out out' came did two files each =
      moments_map old new _ _ (begun_moment two files each) (did.told two files).moments

  of_looked : (shown : Facts → Showing) (out out' : Stream) (came : Outcome)
      → HasLooked clients shown old new out out' came → Undamaged clients old new
  of_looked shown out out' came did = of_now (λ two files. elim did.did [
    | inl early ↦ (early.told two files).rests.moments
    | inr showed ↦ (showed.told two files).rests.moments
  ])

  of_audited : (out out' : Stream) (came : Outcome) → HasAudited clients old new out out' came
      → Undamaged clients old new
  of_audited out out' came did = of_now (λ two files. (did.rests two files).moments)

  of_told : (out out' : Stream) (came : Outcome)
      → HasToldStatus clients old new out out' came → Undamaged clients old new
  of_told out out' came did = of_now (λ two files. elim did.did [
    | inl early ↦ (early.told two files).rests.moments
    | inr printed ↦ (printed.told two files).rests.moments
  ])

  did_moment : (P : List (List Entry) → Type 0) (sent : List (List ℕ)) (two : Two File)
      → ((left : Two (List ℕ)) → IsImage two left → StandsForJournal clients left)
      → (m : Moment) → IsNow two old.links m ⊎ JournalMoment clients P sent m
      → StandsForJournal clients m.files
  did_moment P sent two each m (inl now) = each m.files now.image
  did_moment P sent two each m (inr on) = record { of = on.whole; stands_for = on.stands_for }

  of_did : (test : Facts → Option Refused) (comes : Outcome) (work : Facts → Work)
      (out out' : Stream) (came : Outcome)
      → DoesWork clients test comes work old new out out' came → Undamaged clients old new
  of_did test comes work out out' came did two files each =
      moments_map old new _ _ (did_moment _ _ two each) (did.told two files).has.1.moments

  of_early : (test : Facts → Option Refused) (input_is : Outcome → Type 0) (out out' : Stream)
      (came : Outcome) → StopsEarly clients test input_is old new out out' came
      → Undamaged clients old new
  of_early test input_is out out' came did =
      of_now (λ two files. (did.told two files).rests.moments)

  of_worked : (test : Facts → Option Refused) (work : Facts → Work) (out out' : Stream)
      (came : Outcome) → HasWorked clients test work old new out out' came
      → Undamaged clients old new
  of_worked test work out out' came did = elim did.did [
    | inl early ↦ of_early _ _ out out' came early
    | inr worked ↦ of_did _ _ _ out out' came worked
  ]

  of_taken : (contact : ℕ) (input input' out out' : Stream) (came : Outcome)
      → HasTakenMail clients contact old new input input' out out' came → Undamaged clients old new
  of_taken contact input input' out out' came (inl did) = of_early _ _ out out' came did
  of_taken contact input input' out out' came (inr did) =
      of_did _ _ _ out out' came did.did

  of_mailed : (asked : Sending) (out out' : Stream) (came : Outcome)
      → HasSentMail clients asked old new out out' came → Undamaged clients old new
  of_mailed asked out out' came (inl did) = of_early _ _ out out' came did
  of_mailed asked out out' came (inr did) =
      of_did _ _ _ out out' came did.did

  module _ (group : Id) (timestamp : ℕ) (input input' out out' : Stream) where
    of_stopped : (came : Outcome) → PostStops clients group old new input input' out out' came
        → Undamaged clients old new
    of_stopped came did = of_early _ _ out out' came did

    of_body : (came : Outcome)
        → PostsBody clients group timestamp old new input input' out out' came
        → Undamaged clients old new
    of_body came did = of_worked _ _ out out' came did.added

    of_posted : (came : Outcome)
        → HasPosted clients group timestamp old new input input' out out' came
        → Undamaged clients old new
    of_posted outcome.NoStore did = of_stopped outcome.NoStore did
    of_posted (outcome.Damaged place) did = of_stopped (outcome.Damaged place) did
    of_posted (outcome.Refused refused.UnknownGroup) did =
        of_stopped (outcome.Refused refused.UnknownGroup) did
    of_posted (outcome.Refused why) did = of_body (outcome.Refused why) did
    of_posted came (inl did) = of_stopped came did
    of_posted came (inr did) = of_body came did

  -- a run of sessions leaves what a crash might have left before, or a journal of the run
  left_moment : (words : List LinkWords) (heard : ℕ → List ℕ) (standing : Standing) (two : Two File)
      → ((left : Two (List ℕ)) → IsImage two left → StandsForJournal clients left)
      → (m : Moment) → IsUntouched two old m
      ⊎ StoodFor standing
      (λ begin. StandsForRun clients words begin heard (sent_at_moment m) m.files)
      → StandsForJournal clients m.files
  left_moment words heard standing two each m (inl untouched) = each m.files untouched.now.image
  left_moment words heard standing two each m (inr on) =
      record { of = on.has.whole; stands_for = on.has.stands_for }

  of_run : (words : List LinkWords) → Headline clients words old new → TellsAll new
      → Undamaged clients old new
  of_run words headline told two files each =
      moments_map old new _ _
      (left_moment words (heard_on new.links) (stands clients (read_files two)) two each)
      (headline two files told).moments

  of_store : (did : Outcome → Type 0) (input input' out out' : Stream) (came : Outcome)
      → (did came → Undamaged clients old new)
      → ComesOfStore did old new input input' out out' came → Undamaged clients old new
  of_store did input input' out out' came of_did (inl done) = of_did done
  of_store did input input' out out' came of_did (inr none) =
      of_now (λ two files. (none.1.rests two files).moments)

  -- by the command; that of a run is told of apart
  of_duty : (asked : Command) (input input' out out' : Stream) (came : Outcome)
      → (AsksSync (Do asked) → ⊥)
      → comes_of clients asked old new input input' out out' came → Undamaged clients old new
  of_duty command.Init input input' out out' came other did = of_begun out out' came did.0
  of_duty command.Contact input input' out out' came other did = of_worked _ _ out out' came did.0
  of_duty (command.Group name major descriptor) input input' out out' came other did =
      of_worked _ _ out out' came did.0
  of_duty (command.Share contact group level) input input' out out' came other did =
      of_worked _ _ out out' came did.0
  of_duty (command.Post group timestamp) input input' out out' came other did =
      of_posted group timestamp input input' out out' came did
  of_duty command.Show input input' out out' came other did = of_looked _ out out' came did.0
  of_duty command.Inbox input input' out out' came other did = of_looked _ out out' came did.0
  of_duty (command.InboxFrom from count) input input' out out' came other did =
      of_looked _ out out' came did.0
  of_duty (command.Body id) input input' out out' came other did = of_looked _ out out' came did.0
  of_duty (command.Tree group from count) input input' out out' came other did =
      of_looked _ out out' came did.0
  of_duty command.Audit input input' out out' came other did = of_audited out out' came did.0
  of_duty command.Status input input' out out' came other did = of_told out out' came did.0
  of_duty (command.Say group timestamp join name major descriptor) input input' out out' came other
      did = of_worked _ _ out out' came did.0
  of_duty (command.Agree contact group) input input' out out' came other did =
      of_worked _ _ out out' came did.0
  of_duty command.Compact input input' out out' came other did = of_worked _ _ out out' came did.0
  of_duty (command.MailboxIn contact) input input' out out' came other did =
      of_taken contact input input' out out' came did
  of_duty (command.MailboxOut contact latency count) input input' out out' came other did =
      of_mailed (sending_of contact latency count) out out' came did.0
  of_duty (command.Sync turns quiet links) input input' out out' came other did = absurd (other tt)
  of_duty _ input input' out out' came other did = absurd did

-- ---- all commands

nothing_done : (clients : Meaning) (o : Outside) → Undamaged clients o o
nothing_done clients o two files each =
    moments_none o _ (λ m w. each m.files (o.now_is two m files w).image)

module _ {H : Type 0} (tells : H → Outside) (clients : Meaning) (h h' : H)
    (input input' out out' : Stream) (came : Outcome) where
  kept : h' ≡ h → Undamaged clients (tells h) (tells h')
  kept same =
      subst (λ (x : H). Undamaged clients (tells h) (tells x)) (sym same)
      (nothing_done clients (tells h))

  pub undamaged : (words : Asked) → WordsComeTo clients words (tells h)
      (tells h') input input' out out' came → KeepsHost words h h'
      → Covered clients words (tells h) (tells h')
      → (AsksServe words → LifeOpens clients (tells h) (tells h'))
      → NeverDamaged clients words (tells h) (tells h')
  undamaged (Usage place) comes keeps covered opens told = kept keeps
  undamaged (Do (command.Try name descriptor)) comes keeps covered opens told = kept keeps
  undamaged (Do command.Records) comes keeps covered opens told = kept keeps
  undamaged (Do command.Quit) comes keeps covered opens told = kept keeps
  undamaged (Do command.Serve) comes keeps covered opens told =
      opens_undamaged clients (tells h) (tells h') (opens tt)
  undamaged (Do (command.Sync turns quiet links)) comes keeps covered opens told =
      of_run clients (tells h) (tells h') links covered (told tt)
  undamaged (Do asked) comes keeps covered opens told =
      of_store clients (tells h) (tells h')
      (comes_of clients asked (tells h) (tells h') input input' out out') input input' out
      out' came
      (of_duty clients (tells h) (tells h') asked input input' out out' came (λ sync. sync)) comes
