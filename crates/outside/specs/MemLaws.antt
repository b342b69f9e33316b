-- The laws that what an object in memory tells has as members. A definition names no `proofs/` of
-- its own crate: so what these members need stands here, and what only proofs cite stands there.
use Rattle.std.specs.Prelude.{◌≡◌, ℕ, zero, suc, ◌+◌, ◌<◌, ◌≤◌, max, min, false, List, [], ◌∷◌}
use Rattle.std.specs.Prelude.{◌++◌, length, take, drop, Some, slice_index}
use Rattle.std.specs.List.{list_any}
use Rattle.std.proofs.Common.{refl, sym, ap, ◌∙◌, subst, arith, length-append, length-take}
use Rattle.std.proofs.Common.{length-drop}
use Rattle.std.proofs.lemmas.Bool.Decides.{nat_tests}
use Rattle.std.proofs.lemmas.Bool.{or_parts}
use Rattle.std.proofs.lemmas.List.{places, take_all, get_or-take}
use Rattle.std.proofs.lemmas.List.Folds.{list_any-append}
use Rattle.std.proofs.Math.Bool.{or-false}
use Rattle.outside.specs.Files.{Two, File, IsFileImage, IsImage, settled, is_within, is_written}
use Rattle.outside.specs.Files.{file_of, with_file, read_files}
use Rattle.outside.specs.Disk.{after_write, after_cut, overwritten}
use Rattle.outside.specs.Links.{Links, ToldLink, Answered, HeardOn, sent_of, changed_at}
use Rattle.outside.specs.Outside.{Moment, IsNow}
use Rattle.outside.specs.MemDisk.{Change, wrote, wrote_not, cut, cut_not, synced, dialled, sent}
use Rattle.outside.specs.MemDisk.{answered, hosted, KeptFile, changed, kept_after, both_kept}
use Rattle.outside.specs.MemDisk.{link_changed, links_after, answers_changed, answers_after}
use Rattle.outside.specs.MemMoments.{WasAt, files_at}
use Rattle.outside.specs.LinksTold.{links_heard}

-- ---- images: what writes, cuts and syncs do to what a crash may leave

pub length-overwritten : (old : List ℕ) (at : ℕ) (bytes : List ℕ) → at ≤ length old
    → length (overwritten old at bytes) ≡ max (length old) (at + length bytes)
length-overwritten old at bytes within =
    omega (
      arith,
      length-append (take at old ++ bytes) (drop (at + length bytes) old),
      length-append (take at old) bytes,
      length-take at old,
      length-drop (at + length bytes) old,
    )

-- bytes over others leave the places outside their range
overwritten_else : (old : List ℕ) (at : ℕ) (bytes : List ℕ) (place : ℕ) → at ≤ length old
    → is_within (at, length bytes) place ≡ false
    → slice_index (overwritten old at bytes) place ≡ slice_index old place
overwritten_else old at bytes place within out = grind (arith, places, nat_tests)

-- a place that no range of a longer list has
unwritten_parts : (ranges : List (ℕ × ℕ)) (range : ℕ × ℕ) (place : ℕ)
    → is_written (ranges ++ range ∷ []) place ≡ false
    → (is_written ranges place ≡ false) × (is_within range place ≡ false)
unwritten_parts ranges range place out =
    let spread = list_any-append (λ r. is_within r place) ranges (range ∷ []) in
    let parts =
    or_parts (is_written ranges place) (list_any (λ r. is_within r place) (range ∷ []))
    (sym spread ∙ out) in
    (parts.0, sym (or-false (is_within range place)) ∙ parts.1)

pub settled_image : (bytes : List ℕ) → IsFileImage (settled bytes) bytes
settled_image bytes =
    record { no_shorter = omega arith; no_longer = omega arith; kept = λ place below out. refl }

-- bytes with those of a write over them are an image after the write
pub image_wrote : (file : File) (at : ℕ) (old bytes now : List ℕ) → at ≤ length old
    → file.least ≤ length old
    → length old ≤ max file.greatest at
    → ((place : ℕ) → place < file.least → is_written file.written place ≡ false
    → slice_index old place ≡ slice_index file.synced place)
    → IsFileImage (after_write file at (length bytes) now) (overwritten old at bytes)
image_wrote file at old bytes now within low high kept =
    let long = length-overwritten old at bytes within in
    record {
      no_shorter = omega (arith, low, long);
      no_longer = omega (arith, high, long);
      kept = λ place below out.
          let parts = unwritten_parts file.written (at, length bytes) place out in
          overwritten_else old at bytes place within parts.1 ∙ kept place below parts.0;
    }

-- an image from before a write is one after it
pub image_unwritten : (file : File) (at n : ℕ) (now old : List ℕ) → IsFileImage file old
    → IsFileImage (after_write file at n now) old
image_unwritten file at n now old image = record {
  no_shorter = image.no_shorter;
  no_longer = omega (arith, image.no_longer);
  kept =
      λ place below out. image.kept place below (unwritten_parts file.written (at, n) place out).0;
}

-- an image cut is an image after the cut
pub image_cut : (file : File) (n : ℕ) (now old : List ℕ) → IsFileImage file old
    → IsFileImage (after_cut file n now) (take n old)
image_cut file n now old image = record {
  no_shorter = omega (arith, image.no_shorter, length-take n old);
  no_longer = omega (arith, image.no_longer, length-take n old);
  kept = λ place below out.
      let low : place < n = omega arith in
      let least : place < file.least = omega arith in
      get_or-take n old place 0 low ∙ image.kept place least out;
}

-- an image from before a cut is one after it
pub image_uncut : (file : File) (n : ℕ) (now old : List ℕ) → IsFileImage file old
    → IsFileImage (after_cut file n now) old
image_uncut file n now old image = record {
  no_shorter = omega (arith, image.no_shorter);
  no_longer = image.no_longer;
  kept = λ place below out.
      let least : place < file.least = omega arith in
      image.kept place least out;
}

-- ---- both files as they read are among their images

abbrev ReadsSound : KeptFile → Type 0
ReadsSound k = IsFileImage k.file k.file.now

record BothRead (two : Two KeptFile) : Type 0 where
  pub first : ReadsSound two.first
  pub second : ReadsSound two.second

read_of : (two : Two KeptFile) (file : ℕ) → BothRead two → ReadsSound (file_of two file)
read_of two zero s = s.first
read_of two (suc _) s = s.second

read_with : (two : Two KeptFile) (file : ℕ) (k : KeptFile) → BothRead two → ReadsSound k
    → BothRead (with_file two file k)
read_with two zero k s t = record { first = t; second = s.second }
read_with two (suc _) k s t = record { first = s.first; second = t }

changed_read : (two : Two KeptFile) (c : Change) → BothRead two → BothRead (changed two c)
changed_read two (wrote file at bytes) s =
    let f = (file_of two file).file in
    let i = read_of two file s in
    let a = min at (length f.now) in
    read_with two file _ s (image_wrote f a f.now bytes (overwritten f.now a bytes) (omega arith)
    i.no_shorter (omega (arith, i.no_longer)) i.kept)
changed_read two (wrote_not file at bytes) s =
    let f = (file_of two file).file in
    read_with two file _ s (image_unwritten f (min at (length f.now)) (length bytes) f.now f.now
    (read_of two file s))
changed_read two (cut file n) s =
    let f = (file_of two file).file in
    read_with two file _ s (image_cut f n (take n f.now) f.now (read_of two file s))
changed_read two (cut_not file n) s =
    let f = (file_of two file).file in
    read_with two file _ s (image_uncut f n f.now f.now (read_of two file s))
changed_read two (synced file) s =
    read_with two file _ s (settled_image (file_of two file).file.now)
changed_read two (dialled _) s = s
changed_read two (sent _ _) s = s
changed_read two (answered _ _) s = s
changed_read two hosted s = s

after_read : (two : Two KeptFile) (calls : List Change) → BothRead two
    → BothRead (kept_after two calls)
after_read two [] s = s
after_read two (c ∷ calls) s = after_read (changed two c) calls (changed_read two c s)

-- ---- moments

-- a moment of now
pub was_now : (sent_by : List Change → List (List ℕ)) (start : Two (List ℕ)) (calls : List Change)
    (m : Moment)
    → WasAt sent_by start calls (length calls) m
    → IsImage (files_at start calls) m.files × (m.sent ≡ sent_by calls)
was_now sent_by start calls m w =
    let all : take w.made calls ≡ calls = take_all w.made calls w.since in
    let image = subst (λ (l : List Change). IsImage (files_at start l) m.files) all w.image in
    (image, w.sent ∙ ap sent_by all)

pub is_now_at : (sent_by : List Change → List (List ℕ)) (start : Two (List ℕ)) (calls : List Change)
    (m : Moment)
    → IsImage (files_at start calls) m.files → m.sent ≡ sent_by calls
    → WasAt sent_by start calls (length calls) m
is_now_at sent_by start calls m image sent_is =
    let all : take (length calls) calls ≡ calls = take_all (length calls) calls (omega arith) in
    record {
      made = length calls;
      since = omega arith;
      until = omega arith;
      image = subst (λ (l : List Change). IsImage (files_at start l) m.files) (sym all) image;
      sent = sent_is ∙ ap sent_by (sym all);
    }

-- What is told of these calls, with links whose sent bytes are those of the calls.
module _ (sent_by : List Change → List (List ℕ)) (start : Two (List ℕ)) (calls : List Change)
    (links : Links)
    (sent_is : sent_by calls ≡ sent_of links.told) where
  pub told_now_is : (two : Two File) (m : Moment) → Some (files_at start calls) ≡ Some two
      → WasAt sent_by start calls (length calls) m → IsNow two links m
  told_now_is two m had w =
      let same : files_at start calls ≡ two = cc in
      let now = was_now sent_by start calls m w in
      record {
        image = subst (λ (f : Two File). IsImage f m.files) same now.0;
        sent = now.1 ∙ sent_is;
      }

  pub told_is_now : (two : Two File) (m : Moment) → Some (files_at start calls) ≡ Some two
      → IsNow two links m → WasAt sent_by start calls (length calls) m
  told_is_now two m had now =
      let same : two ≡ files_at start calls = cc in
      is_now_at sent_by start calls m (subst (λ (f : Two File). IsImage f m.files) same now.image)
      (now.sent ∙ sym sent_is)

  pub told_reads : (two : Two File) → Some (files_at start calls) ≡ Some two
      → IsImage two (read_files two)
  told_reads two had =
      let same : files_at start calls ≡ two = cc in
      let settled_both : BothRead (both_kept start) =
      record { first = settled_image start.first; second = settled_image start.second } in
      let read = after_read (both_kept start) calls settled_both in
      subst (λ (f : Two File). IsImage f (read_files f)) same
      (record { first = read.first; second = read.second })

  pub told_since : (t : ℕ) (m : Moment) → t ≤ length calls
      → WasAt sent_by start calls (length calls) m → WasAt sent_by start calls t m
  told_since t m before w =
      record {
        made = w.made;
        since = omega (arith, w.since, before);
        until = w.until;
        image = w.image;
        sent = w.sent;
      }

-- a disk in memory has no links
pub no_links_told : (links : List ToldLink) → Some [] ≡ Some links → length links ≡ 0
no_links_told links had = let same : [] ≡ links = cc in ap length (sym same)

pub no_links_heard : (heard : List HeardOn) → Some [] ≡ Some heard → length heard ≡ 0
no_links_heard heard had = let same : [] ≡ heard = cc in ap length (sym same)

-- ---- each link that was made is told

pub length-changed_at : {A : Type 0} (n : ℕ) (f : A → A) (xs : List A)
    → length (changed_at n f xs) ≡ length xs
length-changed_at n f [] = refl
length-changed_at zero f (x ∷ xs) = refl
length-changed_at (suc n) f (x ∷ xs) = ap suc (length-changed_at n f xs)

pub length-links_heard : (links : List (List Answered)) (failures : ℕ → ℕ)
    → length (links_heard links failures) ≡ length links
length-links_heard [] failures = refl
length-links_heard (_ ∷ links) failures = ap suc (length-links_heard links (λ i. failures (suc i)))

one_longer : {A B : Type 0} (xs : List A) (ys : List B) (x : A) (y : B) → length xs ≡ length ys
    → length (xs ++ x ∷ []) ≡ length (ys ++ y ∷ [])
one_longer xs ys x y e = omega (arith, length-append xs (x ∷ []), length-append ys (y ∷ []))

as_many_changed : (heard : List (List Answered)) (links : List ToldLink) (c : Change)
    → length heard ≡ length links → length (answers_changed heard c) ≡ length (link_changed links c)
as_many_changed heard links (wrote _ _ _) e = e
as_many_changed heard links (wrote_not _ _ _) e = e
as_many_changed heard links (cut _ _) e = e
as_many_changed heard links (cut_not _ _) e = e
as_many_changed heard links (synced _) e = e
as_many_changed heard links (dialled spec) e =
    one_longer heard links [] (record { spec = spec; sent = [] }) e
as_many_changed heard links (sent link bytes) e = e ∙ sym (length-changed_at link _ links)
as_many_changed heard links (answered link answer) e = length-changed_at link _ heard ∙ e
as_many_changed heard links hosted e = refl

pub as_many : (heard : List (List Answered)) (links : List ToldLink) (calls : List Change)
    → length heard ≡ length links
    → length (answers_after heard calls) ≡ length (links_after links calls)
as_many heard links [] e = e
as_many heard links (c ∷ calls) e =
    as_many (answers_changed heard c) (link_changed links c) calls (as_many_changed heard links c e)

pub each_told : (calls : List Change) (links : List ToldLink) → Some (links_after [] calls) ≡ Some links
    → length links ≡ length (links_after [] calls)
each_told calls links had = let same : links_after [] calls ≡ links = cc in ap length (sym same)

pub each_heard : (calls : List Change) (failures : ℕ → ℕ) (heard : List HeardOn)
    → Some (links_heard (answers_after [] calls) failures) ≡ Some heard
    → length heard ≡ length (links_after [] calls)
each_heard calls failures heard had =
    let same : links_heard (answers_after [] calls) failures ≡ heard = cc in
    ap length (sym same) ∙ length-links_heard (answers_after [] calls) failures
    ∙ as_many [] [] calls refl
