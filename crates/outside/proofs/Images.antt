-- Laws of images: bytes put over padded ones, and the bytes of the last sync.
use Rattle.std.specs.Prelude.{◌≡◌, ℕ, ◌-◌, ◌<◌, ◌≤◌, max, List, length, replicate, slice_index}
use Rattle.std.proofs.Common.{refl, ◌∙◌, arith, length-append}
use Rattle.std.proofs.lemmas.List.{length-replicate}
use Rattle.std.proofs.Math.ListN.{get_or-append}
use Rattle.outside.specs.Files.{File, IsFileImage}
use Rattle.outside.specs.Disk.{after_write}
use Rattle.outside.specs.MemDisk.{padded, put}
use Rattle.outside.specs.MemLaws.{image_wrote}

length-padded : (old : List ℕ) (at : ℕ) → length (padded old at) ≡ max (length old) at
length-padded old at =
    omega (
      arith,
      length-append old (replicate (at - length old) 0),
      length-replicate {A = ℕ} (at - length old) 0,
    )

padded_within : (old : List ℕ) (at place : ℕ) → place < length old
    → slice_index (padded old at) place ≡ slice_index old place
padded_within old at place below = get_or-append old (replicate (at - length old) 0) 0 place below

-- an image with the bytes of a write put into it is an image after the write
pub image_put : (file : File) (at : ℕ) (old bytes now : List ℕ) → IsFileImage file old
    → IsFileImage (after_write file at (length bytes) now) (put old at bytes)
image_put file at old bytes now image =
    let long = length-padded old at in
    image_wrote file at (padded old at) bytes now (omega (arith, long))
    (omega (arith, long, image.no_shorter)) (omega (arith, long, image.no_longer))
    (λ place below out.
    let there : place < length old = omega (arith, image.no_shorter, below) in
    padded_within old at place there ∙ image.kept place below out)

-- the bytes of the last sync are an image, where the lengths since then have theirs among them
pub image_synced : (file : File) → file.least ≤ length file.synced
    → length file.synced ≤ file.greatest → IsFileImage file file.synced
image_synced file low high =
    record { no_shorter = low; no_longer = high; kept = λ place below out. refl }
