-- A request that leaves the sessions of a store asks nothing of links.
use Rattle.std.proofs.Common.{◌≡◌, ℕ, true, false, ap, ◌∙◌, inl, inr}
use Rattle.std.specs.Prelude.{◌⊎◌}
use Rattle.outside.specs.Outside.{Outside}
use Rattle.outside.specs.Streams.{Stream}
use Rattle.sync_rules.specs.Clients.{Meaning}
use Rattle.sync_rules.specs.Facts.{Id}
use Rattle.sync_rules.specs.declared.states.Refused.TheVariants as refused
use Rattle.sync_words.specs.declared.outcome.Outcome.{Outcome}
use Rattle.sync_words.specs.declared.outcome.Outcome.TheVariants as outcome
use Rattle.commands.specs.Reading.Asked.{Do}
use Rattle.commands.specs.declared.command.Command.{Command}
use Rattle.commands.specs.declared.command.Command.TheVariants as command
use Rattle.store_commands.specs.Post.{HasPosted, PostStops, PostsBody}
use Rattle.node_requests.specs.Requests.{DoesRequest, leaves_sessions}
use Rattle.node_life.specs.Requests.{AnswersAsked, AnswersSettled, Said, StaysUnsettled}

module _ (clients : Meaning) (old new : Outside) (input input' out out' : Stream) where
  -- a post
  posted_or : (group : Id) (timestamp : ℕ) (came : Outcome)
      → PostStops clients group old new input input' out out' came
      ⊎ PostsBody clients group timestamp old new input input' out out' came
      → new.links ≡ old.links
  posted_or group timestamp came (inl stops) = stops.run.same_links
  posted_or group timestamp came (inr posts) = posts.added.run.same_links

  posted_links : (group : Id) (timestamp : ℕ) (came : Outcome)
      → HasPosted clients group timestamp old new input input' out out' came
      → new.links ≡ old.links
  posted_links group timestamp outcome.NoStore stops = stops.run.same_links
  posted_links group timestamp (outcome.Damaged place) stops = stops.run.same_links
  posted_links group timestamp (outcome.Refused refused.UnknownGroup) stops = stops.run.same_links
  posted_links group timestamp (outcome.Refused _) posts = posts.added.run.same_links
  posted_links group timestamp came did = posted_or group timestamp came did

  -- a command
  pub done_links : (asked : Command) (came : Outcome) → leaves_sessions asked ≡ true
      → DoesRequest clients asked old new input input' out out' came → new.links ≡ old.links
  done_links command.Init came leaves did = did.0.run.same_links
  done_links command.Contact came leaves did = did.0.run.same_links
  done_links (command.Group name major descriptor) came leaves did = did.0.run.same_links
  done_links (command.Share contact group level) came leaves did = did.0.run.same_links
  done_links (command.Post group timestamp) came leaves did =
      posted_links group timestamp came did
  done_links command.Show came leaves did = did.0.run.same_links
  done_links command.Inbox came leaves did = did.0.run.same_links
  done_links (command.InboxFrom from count) came leaves did = did.0.run.same_links
  done_links (command.Body id) came leaves did = did.0.run.same_links
  done_links (command.Tree group from count) came leaves did = did.0.run.same_links
  done_links command.Audit came leaves did = did.0.run.same_links
  done_links command.Status came leaves did = did.0.run.same_links
  done_links (command.Say group timestamp join name major descriptor) came leaves did =
      did.0.run.same_links
  done_links (command.Agree contact group) came leaves did = did.0.run.same_links
  done_links command.Compact came leaves did = absurd (let e : false ≡ true = leaves in cc)
  done_links (command.MailboxIn contact) came leaves did =
      absurd (let e : false ≡ true = leaves in cc)
  done_links (command.MailboxOut contact latency count) came leaves did =
      absurd (let e : false ≡ true = leaves in cc)
  done_links _ came leaves did = absurd did

module _ {H : Type 0} (tells : H → Outside) (clients : Meaning)
    (given : (input input' : Stream) → Type 0) (old new : H) (said : Said) where
  settled_links : (asked : Command) → leaves_sessions asked ≡ true
      → AnswersSettled tells clients given asked old new said
      ⊎ StaysUnsettled tells clients old new said
      → (tells new).links ≡ (tells old).links
  settled_links asked leaves (inl done) =
      let answers = done.answers in
      done_links clients (tells done.between) (tells new) answers.input answers.input' answers.out
      answers.out' asked answers.came leaves answers.did
      ∙ done.settled.run.same_links
  settled_links asked leaves (inr undone) = undone.settled.run.same_links

  -- what is answered to a command
  pub answered_links : (asked : Command) → leaves_sessions asked ≡ true
      → AnswersAsked tells clients given (Do asked) old new said
      → (tells new).links ≡ (tells old).links
  answered_links command.Quit leaves answers = ap (λ h. (tells h).links) answers.0
  answered_links (command.Sync turns quiet links) leaves answers =
      ap (λ h. (tells h).links) answers.0
  answered_links command.Serve leaves answers = ap (λ h. (tells h).links) answers.0
  answered_links (command.Try name descriptor) leaves answers =
      ap (λ h. (tells h).links) answers.0
  answered_links command.Records leaves answers = ap (λ h. (tells h).links) answers.0
  answered_links asked leaves answers = settled_links asked leaves answers
