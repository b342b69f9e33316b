-- Commands that may not write leave the files as they are.
use Rattle.std.proofs.Common.{◌≡◌, true, false, sym, subst, inl, inr}
use Rattle.outside.specs.Outside.{Outside}
use Rattle.outside.proofs.CallSteps.{looks_none, run_none}
use Rattle.outside.specs.Streams.{Stream, IsIdle}
use Rattle.sync_rules.specs.Clients.{Meaning}
use Rattle.sync_rules.specs.Facts.{Facts}
use Rattle.sync_words.specs.declared.outcome.Outcome.{Outcome}
use Rattle.commands.specs.Reading.{Asked}
use Rattle.commands.specs.Reading.Asked.{Do, Usage}
use Rattle.commands.specs.declared.command.Command.TheVariants as command
use Rattle.store_commands.specs.Looking.{HasLooked}
use Rattle.store_commands.specs.Shown.{Showing, body_shown, listing_shown}
use Rattle.store_commands.specs.declared.listing.Listing.TheVariants as listing
use Rattle.tree_commands.specs.Trees.{tree_shown}
use Rattle.audit_commands.specs.Audits.{HasAudited}
use Rattle.status_commands.specs.Statuses.{HasToldStatus}
use Rattle.sync_top.specs.Looking.{LooksUnless, OnlyLooks}
use Rattle.sync_top.specs.Run.{WordsComeTo, ComesOfStore, KeepsHost}

looks_at_none : (o : Outside) → OnlyLooks o o
looks_at_none o = record { run = run_none o; moments = λ two told. (looks_none o).moments two told }

module _ (clients : Meaning) (old new : Outside) (input input' out out' : Stream)
    (came : Outcome) where
  looked : (shown : Facts → Showing) → ComesOfStore
      (λ did. HasLooked clients shown old new out out' did × IsIdle input input') old new input
      input' out out' came → OnlyLooks old new
  looked shown (inl did) = record {
    run = did.0.run;
    moments = λ two told. elim did.0.did [
      | inl early ↦ (early.told two told).rests.moments
      | inr showed ↦ (showed.told two told).rests.moments
    ];
  }
  looked shown (inr none) =
      record { run = none.1.run; moments = λ two told. (none.1.rests two told).moments }

  audited : ComesOfStore (λ did. HasAudited clients old new out out' did × IsIdle input input')
      old new input input' out out' came → OnlyLooks old new
  audited (inl did) =
      record { run = did.0.run; moments = λ two told. (did.0.rests two told).moments }
  audited (inr none) =
      record { run = none.1.run; moments = λ two told. (none.1.rests two told).moments }

  told : ComesOfStore (λ did. HasToldStatus clients old new out out' did × IsIdle input input')
      old new input input' out out' came → OnlyLooks old new
  told (inl did) = record {
    run = did.0.run;
    moments = λ two told. elim did.0.did [
      | inl early ↦ (early.told two told).rests.moments
      | inr printed ↦ (printed.told two told).rests.moments
    ];
  }
  told (inr none) =
      record { run = none.1.run; moments = λ two told. (none.1.rests two told).moments }

module _ {H : Type 0} (tells : H → Outside) (clients : Meaning) (h h' : H)
    (input input' out out' : Stream) (came : Outcome) where
  kept : h' ≡ h → OnlyLooks (tells h) (tells h')
  kept same = subst (λ (x : H). OnlyLooks (tells h) (tells x)) (sym same) (looks_at_none (tells h))

  pub only_looks : (words : Asked) → WordsComeTo clients words (tells h)
      (tells h') input input' out out' came → KeepsHost words h h'
      → LooksUnless words (tells h) (tells h')
  only_looks (Usage place) comes keeps = kept keeps
  only_looks (Do (command.Try name descriptor)) comes keeps = λ reads. kept keeps
  only_looks (Do command.Records) comes keeps = λ reads. kept keeps
  only_looks (Do command.Show) comes keeps =
      λ reads. looked clients (tells h) (tells h') input input' out out' came
      (listing_shown listing.Store) comes
  only_looks (Do command.Inbox) comes keeps =
      λ reads. looked clients (tells h) (tells h') input input' out out' came
      (listing_shown listing.Inbox) comes
  only_looks (Do (command.InboxFrom from count)) comes keeps =
      λ reads. looked clients (tells h) (tells h') input input' out out' came
      (listing_shown (listing.InboxFrom from count)) comes
  only_looks (Do (command.Body id)) comes keeps =
      λ reads. looked clients (tells h) (tells h') input input' out out' came (body_shown id) comes
  only_looks (Do (command.Tree group from count)) comes keeps =
      λ reads. looked clients (tells h) (tells h') input input' out out' came
      (tree_shown clients (record { group = group; from = from; count = count })) comes
  only_looks (Do command.Audit) comes keeps =
      λ reads. audited clients (tells h) (tells h') input input' out out' came comes
  only_looks (Do command.Status) comes keeps =
      λ reads. told clients (tells h) (tells h') input input' out out' came comes
  only_looks (Do command.Quit) comes keeps = λ reads. kept keeps
  only_looks (Do _) comes keeps = λ reads. absurd (let e : true ≡ false = reads in cc)
