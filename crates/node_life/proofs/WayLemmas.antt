-- What each moment of a request leaves.
use Rattle.std.proofs.Common.{◌≡◌, ℕ, Bool, true, false, List, [], ◌++◌, append-nil, refl, sym, ap}
use Rattle.std.proofs.Common.{◌∙◌, subst, inl, inr, Option, Some}
use Rattle.std.specs.Prelude.{◌⊎◌, is_some}
use Rattle.std.specs.Io.KnownBytes.{Appends}
use Rattle.outside.specs.Files.{File, IsFileImage, IsImage, Two, read_files}
use Rattle.outside.specs.Links.{sent_of}
use Rattle.outside.specs.Outside.{IsNow, Moment, MomentsAre, Outside}
use Rattle.outside.specs.Streams.{Stream}
use Rattle.outside.proofs.Calm.{settled_only}
use Rattle.outside.proofs.CallSteps.{moments_map, moments_none, moments_then, told_on}
use Rattle.request_frames.specs.Requests.{Request}
use Rattle.sync_rules.specs.declared.states.Refused.{Refused}
use Rattle.sync_rules.specs.declared.states.Refused.TheVariants as refused
use Rattle.sync_rules.specs.Clients.{Meaning}
use Rattle.sync_rules.specs.Facts.{Facts, Id, Journal, facts}
use Rattle.sync_rules.specs.Hearing.{SettlesJournal}
use Rattle.entry_codec.specs.Standing.{Standing, journal, no_store}
use Rattle.file_standing.specs.Standing.{stands}
use Rattle.sync_store.specs.Begin.{InitMoment}
use Rattle.sync_words.specs.declared.outcome.Outcome.{Outcome}
use Rattle.sync_words.specs.declared.outcome.Outcome.TheVariants as outcome
use Rattle.commands.specs.Reading.{Asked, asks}
use Rattle.commands.specs.Reading.Asked.{Do, Usage}
use Rattle.commands.specs.declared.command.Command.{Command}
use Rattle.commands.specs.declared.command.Command.TheVariants as command
use Rattle.store_commands.specs.Commit.{OnceSettled, StandsSynced}
use Rattle.store_commands.specs.Looking.{HasLooked}
use Rattle.store_commands.specs.Post.{HasPosted, PostStops, PostsBody}
use Rattle.store_commands.specs.Shown.{Showing}
use Rattle.store_commands.specs.Stopping.{StopsEarly}
use Rattle.store_commands.specs.Works.{DoesWork, HasWorked, Work}
use Rattle.audit_commands.specs.Audits.{HasAudited}
use Rattle.status_commands.specs.Statuses.{HasToldStatus}
use Rattle.mailbox_commands.specs.Sending.{HasSentMail}
use Rattle.mailbox_commands.specs.Taking.{HasTakenMail}
use Rattle.node_service.specs.Words.{AreWords, parts_of}
use Rattle.node_requests.specs.Requests.{DoesRequest, sending_of}
use Rattle.node_life.specs.Inputs.{ReadsGiven}
use Rattle.node_life.specs.Requests.{AnswersAsked, AnswersRequest, AnswersSettled, Said}
use Rattle.node_life.specs.Requests.{StaysUnsettled}
use Rattle.node_life.specs.Settling.{HasSettled}
use Rattle.node_life.proofs.BegunLemmas.{no_store_there}
use Rattle.node_life.specs.Ways.{GoesOnBy, IsOnWay}

-- ---- files that stand for one journal

-- files stand for a journal that has this
pub record Reached (clients : Meaning) (P : Journal → Type 0) (left : Two (List ℕ)) : Type 0 where
  pub whole : Journal
  pub has : P whole
  pub stands_for : stands clients left ≡ journal whole

pub one_journal : (standing : Standing) (j k : Journal) → standing ≡ journal j → standing ≡ journal k
    → k ≡ j
one_journal standing j k first second = let both : journal k ≡ journal j = sym second ∙ first in cc

-- what a crash leaves where nothing is pending stands for the journal
pub image_stands : (clients : Meaning) (two : Two File) (j : Journal) (left : Two (List ℕ))
    → StandsSynced clients two j → IsImage two left → stands clients left ≡ journal j
image_stands clients two j left synced image =
    let at_first : left.first ≡ two.first.now =
    settled_only two.first.now left.first
    (subst (λ (f : File). IsFileImage f left.first) synced.first_settled image.first) in
    let at_second : left.second ≡ two.second.now =
    settled_only two.second.now left.second
    (subst (λ (f : File). IsFileImage f left.second) synced.second_settled image.second) in
    let of : List ℕ → List ℕ → Two (List ℕ) = λ a b. record { first = a; second = b } in
    let same : left ≡ read_files two =
    ap (λ (b : List ℕ). of b left.second) at_first
    ∙ ap (λ (b : List ℕ). of two.first.now b) at_second in
    ap (stands clients) same ∙ synced.stands_for

-- what is so of each moment of a run is so of the files as they read behind it
pub reads_so : (o o' : Outside) (two' : Two File) (P : Two (List ℕ) → Type 0)
    → MomentsAre o o' (λ m. P m.files) → o'.files ≡ Some two' → P (read_files two')
reads_so o o' two' P moments files' =
    let m : Moment = record { files = read_files two'; sent = sent_of o'.links.told } in
    moments.each m (o'.since o.clock m moments.later (o'.is_now two' m files' (record {
      image = o'.reads two' files';
      sent = refl;
    })))

-- ---- settling

module _ (clients : Meaning) (j : Journal) (two : Two File) (synced : StandsSynced clients two j)
    (o o' : Outside) (files : o.files ≡ Some two) where
  -- each moment of a settling has some of it
  settling_leaves : (came : Outcome) → HasSettled clients o o' came
      → MomentsAre o o' (λ m. Reached clients (SettlesJournal clients j) m.files)
  settling_leaves came did =
      let told = did.did.told two files in
      let same : told.before ≡ j =
      one_journal (stands clients (read_files two)) j told.before synced.stands_for told.stood in
      moments_map o o' _ _ (λ m w. elim w [
        | inl now ↦ record {
          whole = j;
          has = record { more = []; extends = sym (append-nil j); settling = tt };
          stands_for = image_stands clients two j m.files synced now.image;
        }
        | inr on ↦ record {
          whole = on.whole;
          has = subst (λ (k : Journal). SettlesJournal clients k on.whole) same on.has;
          stands_for = on.stands_for;
        }
      ]) told.has.1.moments

  -- and behind it all of it
  settling_ends : (two' : Two File) → o'.files ≡ Some two' → HasSettled clients o o' outcome.Done
      → OnceSettled clients j (StandsSynced clients two')
  settling_ends two' files' did =
      let told = did.did.told two files in
      let same : told.before ≡ j =
      one_journal (stands clients (read_files two)) j told.before synced.stands_for told.stood in
      let whole_is : Journal → Type 0 =
      λ whole. StandsSynced clients two' whole × Appends (Some []) (Some []) [] in
      let ended : OnceSettled clients j whole_is =
      subst (λ (k : Journal). OnceSettled clients k whole_is) same (told.has.1.ends two' files').0 in
      record {
        first = ended.first;
        settles = ended.settles;
        settled = ended.settled;
        filled = ended.filled;
        has = ended.has.0;
      }

-- ---- one command

module _ (clients : Meaning) (P : Journal → Type 0) (j : Journal) (two : Two File)
    (stood : stands clients (read_files two) ≡ journal j) (old new : Outside)
    (files : old.files ≡ Some two) where
  -- as a crash might have left the files before, or gone on so
  abbrev Leaves : Type 0
  Leaves = MomentsAre old new (λ m. IsNow two old.links m ⊎ Reached clients P m.files)

  of_now : MomentsAre old new (IsNow two old.links) → Leaves
  of_now moments = moments_map old new _ _ (λ m w. inl w) moments

  of_early : (test : Facts → Option Refused) (input_is : Outcome → Type 0) (out out' : Stream)
      (came : Outcome) → StopsEarly clients test input_is old new out out' came → Leaves
  of_early test input_is out out' came did = of_now (did.told two files).rests.moments

  of_did : (test : Facts → Option Refused) (comes : Outcome) (work : Facts → Work)
      (out out' : Stream) (came : Outcome)
      → ((whole : Journal) → (work (facts j)).goes_on j whole → P whole)
      → DoesWork clients test comes work old new out out' came → Leaves
  of_did test comes work out out' came goes did =
      let told = did.told two files in
      let same : told.before ≡ j =
      one_journal (stands clients (read_files two)) j told.before stood told.stood in
      moments_map old new _ _ (λ m w. elim w [
        | inl now ↦ inl now
        | inr on ↦ inr (record {
          whole = on.whole;
          has =
              goes on.whole
              (subst (λ (k : Journal). (work (facts k)).goes_on k on.whole) same on.has);
          stands_for = on.stands_for;
        })
      ]) told.has.1.moments

  of_worked : (test : Facts → Option Refused) (work : Facts → Work) (out out' : Stream)
      (came : Outcome) → ((whole : Journal) → (work (facts j)).goes_on j whole → P whole)
      → HasWorked clients test work old new out out' came → Leaves
  of_worked test work out out' came goes did = elim did.did [
    | inl early ↦ of_early _ _ out out' came early
    | inr worked ↦ of_did _ _ _ out out' came goes worked
  ]

  of_looked : (shown : Facts → Showing) (out out' : Stream) (came : Outcome)
      → HasLooked clients shown old new out out' came → Leaves
  of_looked shown out out' came did = of_now (elim did.did [
    | inl early ↦ (early.told two files).rests.moments
    | inr showed ↦ (showed.told two files).rests.moments
  ])

  of_audited : (out out' : Stream) (came : Outcome) → HasAudited clients old new out out' came
      → Leaves
  of_audited out out' came did = of_now (did.rests two files).moments

  of_told : (out out' : Stream) (came : Outcome) → HasToldStatus clients old new out out' came
      → Leaves
  of_told out out' came did = of_now (elim did.did [
    | inl early ↦ (early.told two files).rests.moments
    | inr printed ↦ (printed.told two files).rests.moments
  ])

-- ---- by the command

post_told : (clients : Meaning) (group : Id) (timestamp : ℕ) (old new : Outside)
    (input input' out out' : Stream) (came : Outcome)
    → HasPosted clients group timestamp old new input input' out out' came
    → is_some new.files ≡ is_some old.files
post_told clients group timestamp old new input input' out out' outcome.NoStore did =
    did.run.same_told
post_told clients group timestamp old new input input' out out' (outcome.Damaged place) did =
    did.run.same_told
post_told clients group timestamp old new input input' out out'
    (outcome.Refused refused.UnknownGroup) did = did.run.same_told
post_told clients group timestamp old new input input' out out' (outcome.Refused why) did =
    did.added.run.same_told
post_told clients group timestamp old new input input' out out' came (inl did) = did.run.same_told
post_told clients group timestamp old new input input' out out' came (inr did) =
    did.added.run.same_told

-- files that are told stay told
told_behind : (clients : Meaning) (old new : Outside) (input input' : Stream) (asked : Command)
    (out out' : Stream) (came : Outcome)
    → DoesRequest clients asked old new input input' out out' came
    → is_some new.files ≡ is_some old.files
told_behind clients old new input input' command.Init out out' came did = did.0.run.same_told
told_behind clients old new input input' command.Contact out out' came did = did.0.run.same_told
told_behind clients old new input input' (command.Group name major descriptor) out out' came did = did.0.run.same_told
told_behind clients old new input input' (command.Share contact group level) out out' came did = did.0.run.same_told
told_behind clients old new input input' (command.Post group timestamp) out out' came did =
    post_told clients group timestamp old new input input' out out' came did
told_behind clients old new input input' command.Show out out' came did = did.0.run.same_told
told_behind clients old new input input' command.Inbox out out' came did = did.0.run.same_told
told_behind clients old new input input' (command.InboxFrom from count) out out' came did = did.0.run.same_told
told_behind clients old new input input' (command.Body id) out out' came did = did.0.run.same_told
told_behind clients old new input input' (command.Tree group from count) out out' came did = did.0.run.same_told
told_behind clients old new input input' command.Audit out out' came did = did.0.run.same_told
told_behind clients old new input input' command.Status out out' came did = did.0.run.same_told
told_behind clients old new input input' (command.Say group timestamp join name major descriptor) out out' came did =
    did.0.run.same_told
told_behind clients old new input input' (command.Agree contact group) out out' came did = did.0.run.same_told
told_behind clients old new input input' command.Compact out out' came did = did.0.run.same_told
told_behind clients old new input input' (command.MailboxIn contact) out out' came (inl did) = did.run.same_told
told_behind clients old new input input' (command.MailboxIn contact) out out' came (inr did) = did.run.same_told
told_behind clients old new input input' (command.MailboxOut contact latency count) out out' came did = elim did.0 [
  | inl early ↦ early.run.same_told
  | inr sent ↦ sent.reads.same_told
]
told_behind clients old new input input' _ out out' came did = absurd did

module _ (clients : Meaning) (request : Request) (j : Journal) (two : Two File)
    (synced : StandsSynced clients two j) (old new : Outside) (files : old.files ≡ Some two)
    (input input' : Stream) (given : ReadsGiven request.size request.input input input') where
  abbrev On : Command → Type 0
  On asked = Leaves clients (GoesOnBy clients asked request j) j two synced.stands_for old new files

  taken : (contact : ℕ) (out out' : Stream) (came : Outcome)
      → HasTakenMail clients contact old new input input' out out' came
      → On (command.MailboxIn contact)
  taken contact out out' came (inl did) =
      of_early clients _ j two synced.stands_for old new files _ _ out out' came did
  taken contact out out' came (inr did) =
      of_did clients _ j two synced.stands_for old new files _ _ _ out out' came
      (λ whole goes. (
        did.bytes,
        record { input = input; input' = input'; given = given; has = did.reads },
        goes,
      )) did.did

  mailed : (contact latency count : ℕ) (out out' : Stream) (came : Outcome)
      → HasSentMail clients (sending_of contact latency count) old new out out' came
      → On (command.MailboxOut contact latency count)
  mailed contact latency count out out' came (inl did) =
      of_early clients _ j two synced.stands_for old new files _ _ out out' came did
  mailed contact latency count out out' came (inr did) =
      of_did clients _ j two synced.stands_for old new files _ _ _ out out' came
      (λ whole goes. (did.now, goes)) did.did

  module _ (group : Id) (timestamp : ℕ) (out out' : Stream) where
    post_stopped : (came : Outcome) → PostStops clients group old new input input' out out' came
        → On (command.Post group timestamp)
    post_stopped came did =
        of_early clients _ j two synced.stands_for old new files _ _ out out' came did

    post_did : (came : Outcome)
        → PostsBody clients group timestamp old new input input' out out' came
        → On (command.Post group timestamp)
    post_did came did =
        of_worked clients _ j two synced.stands_for old new files _ _ out out' came
        (λ whole goes. (
          did.body,
          record { input = input; input' = input'; given = given; has = did.reads },
          goes,
        )) did.added

    posted : (came : Outcome) → HasPosted clients group timestamp old new input input' out out' came
        → On (command.Post group timestamp)
    posted outcome.NoStore did = post_stopped outcome.NoStore did
    posted (outcome.Damaged place) did = post_stopped (outcome.Damaged place) did
    posted (outcome.Refused refused.UnknownGroup) did =
        post_stopped (outcome.Refused refused.UnknownGroup) did
    posted (outcome.Refused why) did = post_did (outcome.Refused why) did
    posted came (inl did) = post_stopped came did
    posted came (inr did) = post_did came did

  -- a store is there, so that none is begun
  init_moment : (m : Moment) → InitMoment two old.links m
      → IsNow two old.links m ⊎ Reached clients (GoesOnBy clients command.Init request j) m.files
  init_moment m (inl now) = inl now
  init_moment m (inr begun) =
      absurd (let both : no_store ≡ journal j =
      sym (no_store_there clients two begun.0) ∙ synced.stands_for in cc)

  -- a command leaves at each moment what might have been before, or a journal that goes on by it
  pub leaves : (asked : Command) (out out' : Stream) (came : Outcome)
      → DoesRequest clients asked old new input input' out out' came → On asked
  leaves command.Init out out' came did =
      moments_map old new _ _ init_moment (did.0.told two files).moments
  leaves command.Contact out out' came did =
      of_worked clients _ j two synced.stands_for old new files _ _ out out' came (λ whole goes. goes)
      did.0
  leaves (command.Group name major descriptor) out out' came did =
      of_worked clients _ j two synced.stands_for old new files _ _ out out' came (λ whole goes. goes)
      did.0
  leaves (command.Share contact group level) out out' came did =
      of_worked clients _ j two synced.stands_for old new files _ _ out out' came (λ whole goes. goes)
      did.0
  leaves (command.Post group timestamp) out out' came did =
      posted group timestamp out out' came did
  leaves command.Show out out' came did =
      of_looked clients _ j two synced.stands_for old new files _ out out' came did.0
  leaves command.Inbox out out' came did =
      of_looked clients _ j two synced.stands_for old new files _ out out' came did.0
  leaves (command.InboxFrom from count) out out' came did =
      of_looked clients _ j two synced.stands_for old new files _ out out' came did.0
  leaves (command.Body id) out out' came did =
      of_looked clients _ j two synced.stands_for old new files _ out out' came did.0
  leaves (command.Tree group from count) out out' came did =
      of_looked clients _ j two synced.stands_for old new files _ out out' came did.0
  leaves command.Audit out out' came did =
      of_audited clients _ j two synced.stands_for old new files out out' came did.0
  leaves command.Status out out' came did =
      of_told clients _ j two synced.stands_for old new files out out' came did.0
  leaves (command.Say group timestamp join name major descriptor) out out' came did =
      of_worked clients _ j two synced.stands_for old new files _ _ out out' came (λ whole goes. goes)
      did.0
  leaves (command.Agree contact group) out out' came did =
      of_worked clients _ j two synced.stands_for old new files _ _ out out' came (λ whole goes. goes)
      did.0
  leaves command.Compact out out' came did =
      of_worked clients _ j two synced.stands_for old new files _ _ out out' came (λ whole goes. goes)
      did.0
  leaves (command.MailboxIn contact) out out' came did = taken contact out out' came did
  leaves (command.MailboxOut contact latency count) out out' came did =
      mailed contact latency count out out' came did.0
  leaves _ out out' came did = absurd did

-- ---- a request

module _ {H : Type 0} (tells : H → Outside) (clients : Meaning) (request : Request)
    (words : List (List ℕ)) (j : Journal) (two : Two File) (synced : StandsSynced clients two j)
    (old new : H) (files : (tells old).files ≡ Some two) where
  abbrev OnWay : Type 0
  OnWay = MomentsAre (tells old) (tells new) (λ m. Reached clients (IsOnWay clients request j) m.files)

  unchanged : new ≡ old → OnWay
  unchanged same =
      subst (λ (x : H). MomentsAre (tells old) (tells x) (λ m.
      Reached clients (IsOnWay clients request j) m.files)) (sym same)
      (moments_none (tells old) _ (λ m w. record {
        whole = j;
        has = inl (record { more = []; extends = sym (append-nil j); settling = tt });
        stands_for =
            image_stands clients two j m.files synced ((tells old).now_is two m files w).image;
      }))

  unsettled : (came : Outcome) → HasSettled clients (tells old) (tells new) came → OnWay
  unsettled came did =
      moments_map (tells old) (tells new) _ _ (λ m w. record {
        whole = w.whole;
        has = inl w.has;
        stands_for = w.stands_for;
      }) (settling_leaves clients j two synced (tells old) (tells new) files came did)

  module _ (are : AreWords (parts_of request.words) words) where
    done : (asked : Command) (said : Said) → asks words ≡ Do asked
        → AnswersSettled tells clients (ReadsGiven request.size request.input) asked old new said
        → OnWay
    done asked said asks_so w =
        let told1 =
        told_on (tells old) (tells w.between) two w.settled.run.same_told files in
        let once =
        settling_ends clients j two synced (tells old) (tells w.between) files told1.0 told1.1
        w.settled in
        let behind =
        leaves clients request (j ++ once.first) told1.0 once.has (tells w.between) (tells new)
        told1.1 w.answers.input w.answers.input' w.answers.has asked w.answers.out w.answers.out'
        w.answers.came w.answers.did in
        moments_then (tells old) (tells w.between) (tells new) _
        (moments_map (tells old) (tells w.between) _ _ (λ m r. record {
          whole = r.whole;
          has = inl r.has;
          stands_for = r.stands_for;
        }) (settling_leaves clients j two synced (tells old) (tells w.between) files outcome.Done
        w.settled))
        (moments_map (tells w.between) (tells new) _ _ (λ m r. elim r [
          | inl now ↦ record {
            whole = j ++ once.first;
            has = inl (record { more = once.first; extends = refl; settling = once.settles });
            stands_for = image_stands clients told1.0 (j ++ once.first) m.files once.has now.image;
          }
          | inr on ↦ record {
            whole = on.whole;
            has = inr (record {
              first = once.first;
              settles = once.settles;
              settled = once.settled;
              filled = once.filled;
              has = record {
                words = words;
                are = are;
                asked = asked;
                asks_so = asks_so;
                goes_on = on.has;
              };
            });
            stands_for = on.stands_for;
          }
        ]) behind)

    on_store : (asked : Command) (said : Said) → asks words ≡ Do asked
        → AnswersSettled tells clients (ReadsGiven request.size request.input) asked old new said
        ⊎ StaysUnsettled tells clients old new said → OnWay
    on_store asked said asks_so (inl w) = done asked said asks_so w
    on_store asked said asks_so (inr w) = unsettled w.came w.settled

    by_words : (a : Asked) (said : Said) → asks words ≡ a
        → AnswersAsked tells clients (ReadsGiven request.size request.input) a old new said → OnWay
    by_words (Usage place) said asks_so w = unchanged w.0
    by_words (Do command.Quit) said asks_so w = unchanged w.0
    by_words (Do (command.Sync turns quiet links)) said asks_so w = unchanged w.0
    by_words (Do command.Serve) said asks_so w = unchanged w.0
    by_words (Do (command.Try name descriptor)) said asks_so w = unchanged w.0
    by_words (Do command.Records) said asks_so w = unchanged w.0
    by_words (Do asked) said asks_so w = on_store asked said asks_so w

-- what was told stays told
module _ {H : Type 0} (tells : H → Outside) (clients : Meaning) (request : Request) (old new : H) where
  abbrev StaysTold : Type 0
  StaysTold = is_some (tells new).files ≡ is_some (tells old).files

  same_told : new ≡ old → StaysTold
  same_told same = ap (λ (x : H). is_some (tells x).files) same

  store_told : (asked : Command) (said : Said)
      → AnswersSettled tells clients (ReadsGiven request.size request.input) asked old new said
      ⊎ StaysUnsettled tells clients old new said → StaysTold
  store_told asked said (inl w) =
      told_behind clients (tells w.between) (tells new) w.answers.input w.answers.input' asked
      w.answers.out w.answers.out' w.answers.came w.answers.did ∙ w.settled.run.same_told
  store_told asked said (inr w) = w.settled.run.same_told

  words_told : (a : Asked) (said : Said)
      → AnswersAsked tells clients (ReadsGiven request.size request.input) a old new said
      → StaysTold
  words_told (Usage place) said w = same_told w.0
  words_told (Do command.Quit) said w = same_told w.0
  words_told (Do (command.Sync turns quiet links)) said w = same_told w.0
  words_told (Do command.Serve) said w = same_told w.0
  words_told (Do (command.Try name descriptor)) said w = same_told w.0
  words_told (Do command.Records) said w = same_told w.0
  words_told (Do asked) said w = store_told asked said w

  pub request_told : (came : Outcome) (out : List ℕ) (ends : Bool)
      → AnswersRequest tells clients request old new came out ends → StaysTold
  request_told came out ends w = elim w.does [
    | inl none ↦ same_told none.0
    | inr by ↦ words_told (asks by.words) (record { came = came; out = out; ends = ends }) by.answers
  ]

module _ {H : Type 0} (tells : H → Outside) (clients : Meaning) (request : Request) (j : Journal)
    (two : Two File) (synced : StandsSynced clients two j) (old new : H)
    (files : (tells old).files ≡ Some two) (came : Outcome) (out : List ℕ) (ends : Bool)
    (w : AnswersRequest tells clients request old new came out ends) where
  -- each moment of a request is on its way
  pub request_way : MomentsAre (tells old) (tells new)
      (λ m. Reached clients (IsOnWay clients request j) m.files)
  request_way = elim w.does [
    | inl none ↦ unchanged tells clients request [] j two synced old new files none.0
    | inr by ↦ by_words tells clients request by.words j two synced old new files by.are
        (asks by.words) (record { came = came; out = out; ends = ends }) refl by.answers
  ]

  -- where the node goes on, the files stand behind it for a journal on its way
  pub request_end : ends ≡ false → (two' : Two File) → (tells new).files ≡ Some two'
      → (next : Journal) × IsOnWay clients request j next × StandsSynced clients two' next
  request_end goes_on two' files' = elim w.synced [
    | inl failed ↦ absurd (let both : true ≡ false = sym failed.1 ∙ goes_on in cc)
    | inr here ↦
        let one = here two' files' in
        let reached =
        reads_so (tells old) (tells new) two' (Reached clients (IsOnWay clients request j))
        request_way files' in
        let same : one.of ≡ reached.whole =
        one_journal (stands clients (read_files two')) reached.whole one.of reached.stands_for
        one.synced.stands_for in (
          one.of,
          subst (λ (k : Journal). IsOnWay clients request j k) (sym same) reached.has,
          one.synced,
        )
  ]
