-- Where calls on one of two files lead: the other file, and what each moment of these calls leaves.
use Rattle.std.specs.Prelude.{◌≡◌, ℕ, zero, suc, List, Some}
use Rattle.outside.specs.Files.{Two, File, IsFileImage, file_of, with_file}
use Rattle.outside.specs.Links.{sent_of}
use Rattle.outside.specs.Outside.{Outside, Moment, MomentsAre}

-- ---- the two files

-- the file that a number does not name
abbrev pub other_of : {A : Type 0} → Two A → ℕ → A
other_of two zero = two.second
other_of two (suc _) = two.first

-- ---- moments
-- a moment in which this file has Q, the other is as a crash might have left it before, and nothing more was sent
pub record FileMoment (Q : List ℕ → Type 0) (two : Two File) (sent : List (List ℕ)) (file : ℕ) (m : Moment) : Type 0 where
  pub this : Q (file_of m.files file)
  pub other : IsFileImage (other_of two file) (other_of m.files file)
  pub nothing_sent : m.sent ≡ sent

-- ---- calls on one file
-- A run from o0 on came to o: this file is f, the other is as it was, and every moment had Q.
pub record ReachedFile (two : Two File) (o0 o : Outside) (file : ℕ) (Q : List ℕ → Type 0) (f : File) : Type 0 where
  pub files : o.files ≡ Some (with_file two file f)
  pub links : o.links ≡ o0.links
  pub moments : MomentsAre o0 o (FileMoment Q two (sent_of o0.links.told) file)

-- every moment of a run had Q, wherever it ended
abbrev pub PassedMoments : Two File → Outside → Outside → ℕ → (List ℕ → Type 0) → Type 0
PassedMoments two o0 o file Q = MomentsAre o0 o (FileMoment Q two (sent_of o0.links.told) file)
