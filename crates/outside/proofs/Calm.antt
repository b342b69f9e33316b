-- Syncs leave only what a crash might have left before.
use Rattle.std.proofs.Common.{◌≡◌, ℕ, zero, suc, ◌<◌, length, arith, List}
use Rattle.std.proofs.Common.{Some, Result, Ok, Err, refl, sym, ap, ◌∙◌, subst}
use Rattle.std.proofs.lemmas.Grind.{same_number_lists}
use Rattle.outside.specs.declared.failed.Failed.{Failed}
use Rattle.outside.specs.Files.{File, IsFileImage, IsImage, Two, read_files, settled}
use Rattle.outside.specs.Links.{Links, sent_of}
use Rattle.outside.specs.Outside.{Outside, IsNow, DiskCall, MomentsAre}
use Rattle.outside.specs.Disk.{RelatesTold, SyncsFile}
use Rattle.outside.proofs.CallSteps.{moments_none, moments_call, becomes_told, now_images}

-- nothing pending: there is one image
pub settled_only : (bytes c : List ℕ) → IsFileImage (settled bytes) c → c ≡ bytes
settled_only bytes c image =
    let long : length c ≡ length bytes = omega (arith, image.no_shorter, image.no_longer) in
    same_number_lists c bytes long
    (λ k below. let inside : k < length bytes = omega arith in image.kept k inside refl)

settled_back : (f : File) (c : List ℕ) → IsFileImage f f.now → IsFileImage (settled f.now) c
    → IsFileImage f c
settled_back f c reads image = subst (IsFileImage f) (sym (settled_only f.now c image)) reads

sync_back : (file : ℕ) (result : Result (Unit {0}) Failed) (old new : Two File)
    → SyncsFile file result old new → IsImage old (read_files old) → (c : Two (List ℕ))
    → IsImage new c → IsImage old c
sync_back zero (Ok _) old new synced reads c image =
    let there = subst (λ (t : Two File). IsImage t c) synced image in
    record { first = settled_back old.first c.first reads.first there.first; second = there.second }
sync_back (suc _) (Ok _) old new synced reads c image =
    let there = subst (λ (t : Two File). IsImage t c) synced image in
    record {
      first = there.first;
      second = settled_back old.second c.second reads.second there.second;
    }
sync_back file (Err _) old new synced reads c image =
    subst (λ (t : Two File). IsImage t c) synced image

-- A run after which, and at each moment of which, a crash leaves only what it might have left before.
pub record Calm (two : Two File) (o0 o : Outside) : Type 0 where
  pub now : Two File
  pub files : o.files ≡ Some now
  pub images : (c : Two (List ℕ)) → IsImage now c → IsImage two c
  pub links : o.links ≡ o0.links
  pub moments : MomentsAre o0 o (IsNow two o0.links)

pub calm_begun : (two : Two File) (o : Outside) → o.files ≡ Some two → Calm two o o
calm_begun two o files = record {
  now = two;
  files = files;
  images = λ c image. image;
  links = refl;
  moments = moments_none o (IsNow two o.links) (now_images o o two files refl);
}

pub calm_sync : (two : Two File) (o0 o o' : Outside) (file : ℕ) (result : Result (Unit {0}) Failed)
    → Calm two o0 o → DiskCall o o' → RelatesTold (SyncsFile file result) o.files o'.files
    → Calm two o0 o'
calm_sync two o0 o o' file result calm call becomes =
    let told = becomes_told (SyncsFile file result) o.files o'.files calm.now calm.files becomes in
    let links = call.same_links ∙ calm.links in
    let back : (c : Two (List ℕ)) → IsImage told.0 c → IsImage two c =
    λ c image. calm.images c
    (sync_back file result calm.now told.0 told.2 (o.reads calm.now calm.files) c image) in
    record {
      now = told.0;
      files = told.1;
      images = back;
      links = links;
      moments = moments_call o0 o o' (IsNow two o0.links) calm.moments call
          (λ m w. let here = now_images o' o' told.0 told.1 refl m w in
          record {
            image = back m.files here.image;
            sent = here.sent
                ∙ ap (λ (l : Links). sent_of l.told) links;
          });
    }
