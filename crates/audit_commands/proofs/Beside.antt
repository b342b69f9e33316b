-- A store whose files are audited: they are as they were.
use Rattle.std.proofs.Common.{◌≡◌, refl, Option, Some, None, sym, ap, ◌∙◌, subst}
use Rattle.std.specs.Prelude.{is_some}
use Rattle.outside.specs.Files.{File, SyncsBoth, Two}
use Rattle.outside.specs.Outside.{Outside}
use Rattle.outside.specs.Streams.{Stream}
use Rattle.sync_rules.specs.Clients.{Meaning}
use Rattle.sync_store.specs.Store.{StoreValue}
use Rattle.sync_words.specs.declared.outcome.Outcome.{Outcome}
use Rattle.sync_words.specs.declared.outcome.Outcome.TheVariants as outcome
use Rattle.store_commands.specs.Load.{MayExtend}
use Rattle.store_commands.specs.Serving.{IsReadyToServe, IsServed, ServesOn}
use Rattle.store_commands.proofs.Serving.{both_synced, loaded_now}
use Rattle.audit_commands.specs.Audits.{HasAudited}

same_files : (old new : Option (Two File)) → is_some new ≡ is_some old
    → ((two two' : Two File) → old ≡ Some two → new ≡ Some two' → two' ≡ two) → new ≡ old
same_files None None told same = refl
same_files None (Some b) told same = cc
same_files (Some a) None told same = cc
same_files (Some a) (Some b) told same = ap Some (same a b refl refl)

module _ (clients : Meaning) (s : StoreValue) (old new : Outside) (out out' : Stream) where
  -- nothing was pending in them, and both were synced
  still : IsServed clients s old → is_some new.files ≡ is_some old.files
      → ((two two' : Two File) → old.files ≡ Some two → new.files ≡ Some two' → SyncsBoth two two')
      → IsReadyToServe clients s new
  still served told synced =
      let opened = served.ready.loaded.opened in
      let same : new.files ≡ old.files =
      same_files old.files new.files told (λ two two' files files'.
      let fit = opened.ready.fits two files in
      synced two two' files files'
      ∙ sym (both_synced two fit.1.first_settled fit.1.second_settled)) in
      record {
        loaded = loaded_now clients s new
            (subst (λ (files : Option (Two File)). MayExtend clients s files) (sym same) opened);
        short = served.ready.short;
      }

  pub audited_serves : (came : Outcome) → HasAudited clients old new out out' came
      → IsServed clients s old → ServesOn clients s new came
  audited_serves outcome.DiskFault audited served = tt
  audited_serves outcome.Memory audited served =
      still served audited.run.same_told
      (λ two two' files files'. (audited.rests two files).kept two' files')
  audited_serves _ audited served = record {
    ready =
        still served audited.run.same_told
        (λ two two' files files'. (audited.rests two files).kept two' files');
    settled = served.settled;
  }
