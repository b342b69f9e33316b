-- What is kept of a disk in memory is sound, and one call more.
use Rattle.std.specs.Prelude.{◌≡◌, ◌⊎◌, ℕ, zero, suc, ◌≤◌, min, List, [], ◌∷◌, ◌++◌, length, take}
use Rattle.std.proofs.Common.{refl, sym, ap, ◌∙◌, subst, inl, inr, arith, length-append}
use Rattle.std.proofs.lemmas.List.{take-append-le}
use Rattle.std.proofs.lemmas.Bool.{cases_lt}
use Rattle.outside.specs.Files.{Two, IsFileImage, IsImage, file_of, with_file}
use Rattle.outside.specs.Disk.{after_cut, overwritten}
use Rattle.outside.specs.Links.{ToldLink}
use Rattle.outside.specs.Outside.{Moment}
use Rattle.outside.specs.MemDisk.{Change, wrote, wrote_not, cut, cut_not, synced, dialled, sent}
use Rattle.outside.specs.MemDisk.{answered, hosted, KeptFile, kept, changed, kept_after, both_kept}
use Rattle.outside.specs.MemDisk.{after_wrote, after_wrote_not, link_changed, links_after}
use Rattle.outside.specs.MemMoments.{WasAt, files_at}
use Rattle.outside.specs.MemLaws.{settled_image, image_wrote, image_unwritten, image_cut}
use Rattle.outside.specs.MemLaws.{image_uncut}
use Rattle.outside.proofs.Images.{image_put}

-- ---- what is kept is sound: what is read, synced and written are images

pub record IsSound (k : KeptFile) : Type 0 where
  pub reads : IsFileImage k.file k.file.now
  pub low : k.file.least ≤ length k.file.synced
  pub high : length k.file.synced ≤ k.file.greatest
  pub whole : IsFileImage k.file k.whole

pub kept_sound : (bytes : List ℕ) → IsSound (kept bytes)
kept_sound bytes =
    record {
      reads = settled_image bytes;
      low = omega arith;
      high = omega arith;
      whole = settled_image bytes;
    }

pub wrote_sound : (k : KeptFile) (at : ℕ) (bytes : List ℕ) → IsSound k
    → IsSound (after_wrote k at bytes)
wrote_sound k at bytes s =
    let f = k.file in
    let a = min at (length f.now) in
    let now = overwritten f.now a bytes in
    record {
      reads =
          image_wrote f a f.now bytes now (omega arith) s.reads.no_shorter
          (omega (arith, s.reads.no_longer)) s.reads.kept;
      low = s.low;
      high = omega (arith, s.high);
      whole = image_put f a k.whole bytes now s.whole;
    }

pub wrote_not_sound : (k : KeptFile) (at : ℕ) (bytes : List ℕ) → IsSound k
    → IsSound (after_wrote_not k at bytes)
wrote_not_sound k at bytes s =
    let f = k.file in
    let a = min at (length f.now) in
    record {
      reads = image_unwritten f a (length bytes) f.now f.now s.reads;
      low = s.low;
      high = omega (arith, s.high);
      whole = image_put f a k.whole bytes f.now s.whole;
    }

pub cut_sound : (k : KeptFile) (n : ℕ) → IsSound k
    → IsSound (record { file = after_cut k.file n (take n k.file.now); whole = take n k.whole })
cut_sound k n s = record {
  reads = image_cut k.file n (take n k.file.now) k.file.now s.reads;
  low = omega (arith, s.low);
  high = s.high;
  whole = image_cut k.file n (take n k.file.now) k.whole s.whole;
}

pub cut_not_sound : (k : KeptFile) (n : ℕ) → IsSound k
    → IsSound (record { file = after_cut k.file n k.file.now; whole = take n k.whole })
cut_not_sound k n s = record {
  reads = image_uncut k.file n k.file.now k.file.now s.reads;
  low = omega (arith, s.low);
  high = s.high;
  whole = image_cut k.file n k.file.now k.whole s.whole;
}

pub record BothSound (two : Two KeptFile) : Type 0 where
  pub first : IsSound two.first
  pub second : IsSound two.second

pub sound_of : (two : Two KeptFile) (file : ℕ) → BothSound two → IsSound (file_of two file)
sound_of two zero s = s.first
sound_of two (suc _) s = s.second

pub sound_with : (two : Two KeptFile) (file : ℕ) (k : KeptFile) → BothSound two → IsSound k
    → BothSound (with_file two file k)
sound_with two zero k s t = record { first = t; second = s.second }
sound_with two (suc _) k s t = record { first = s.first; second = t }

pub changed_sound : (two : Two KeptFile) (c : Change) → BothSound two → BothSound (changed two c)
changed_sound two (wrote file at bytes) s =
    sound_with two file _ s (wrote_sound (file_of two file) at bytes (sound_of two file s))
changed_sound two (wrote_not file at bytes) s =
    sound_with two file _ s (wrote_not_sound (file_of two file) at bytes (sound_of two file s))
changed_sound two (cut file n) s =
    sound_with two file _ s (cut_sound (file_of two file) n (sound_of two file s))
changed_sound two (cut_not file n) s =
    sound_with two file _ s (cut_not_sound (file_of two file) n (sound_of two file s))
changed_sound two (synced file) s = sound_with two file _ s (kept_sound (file_of two file).file.now)
changed_sound two (dialled _) s = s
changed_sound two (sent _ _) s = s
changed_sound two (answered _ _) s = s
changed_sound two hosted s = s

pub after_sound : (two : Two KeptFile) (calls : List Change) → BothSound two
    → BothSound (kept_after two calls)
after_sound two [] s = s
after_sound two (c ∷ calls) s = after_sound (changed two c) calls (changed_sound two c s)

pub start_sound : (start : Two (List ℕ)) (calls : List Change)
    → BothSound (kept_after (both_kept start) calls)
start_sound start calls =
    after_sound (both_kept start) calls
    (record { first = kept_sound start.first; second = kept_sound start.second })

-- ---- one call more

pub kept_after-push : (two : Two KeptFile) (calls : List Change) (c : Change)
    → kept_after two (calls ++ c ∷ []) ≡ changed (kept_after two calls) c
kept_after-push two [] c = refl
kept_after-push two (d ∷ calls) c = kept_after-push (changed two d) calls c

pub links_after-push : (links : List ToldLink) (calls : List Change) (c : Change)
    → links_after links (calls ++ c ∷ []) ≡ link_changed (links_after links calls) c
links_after-push links [] c = refl
links_after-push links (d ∷ calls) c = links_after-push (link_changed links d) calls c

-- ---- moments

-- one more call: the moments from before it, or those of now
pub was_before : (sent_by : List Change → List (List ℕ)) (start : Two (List ℕ))
    (calls : List Change) (c : Change) (t : ℕ) (m : Moment)
    → WasAt sent_by start (calls ++ c ∷ []) t m
    → WasAt sent_by start calls t m
    ⊎ WasAt sent_by start (calls ++ c ∷ []) (length (calls ++ c ∷ [])) m
was_before sent_by start calls c t m w =
    elim (cases_lt (length calls) w.made) [
      | inl more ↦
          inr (record {
            made = w.made;
            since = omega (arith, length-append calls (c ∷ []));
            until = w.until;
            image = w.image;
            sent = w.sent;
          })
      | inr within ↦
          let same : take w.made (calls ++ c ∷ []) ≡ take w.made calls =
          take-append-le w.made calls (c ∷ []) within in
          inl (record {
            made = w.made;
            since = w.since;
            until = within;
            image = subst (λ (l : List Change). IsImage (files_at start l) m.files) same w.image;
            sent = w.sent ∙ ap sent_by same;
          })
    ]

pub was_kept : (sent_by : List Change → List (List ℕ)) (start : Two (List ℕ)) (calls : List Change)
    (c : Change) (t : ℕ) (m : Moment)
    → WasAt sent_by start calls t m → WasAt sent_by start (calls ++ c ∷ []) t m
was_kept sent_by start calls c t m w =
    let same : take w.made (calls ++ c ∷ []) ≡ take w.made calls =
    take-append-le w.made calls (c ∷ []) w.until in
    record {
      made = w.made;
      since = w.since;
      until = omega (arith, w.until, length-append calls (c ∷ []));
      image = subst (λ (l : List Change). IsImage (files_at start l) m.files) (sym same) w.image;
      sent = w.sent ∙ ap sent_by (sym same);
    }
