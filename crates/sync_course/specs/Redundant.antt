-- Which link is kept of those that lead to one contact, and what closes the others.
use Rattle.std.specs.Prelude.{◌≡◌, ℕ, zero, suc, true, false, cond, List, [], ◌∷◌, Some, slice_get}
use Rattle.sync_course.specs.declared.ends.LinkEnd.TheVariants as end
use Rattle.sync_course.specs.Links.{Link, beats, is_beaten}

-- a link that is beaten is beaten by one that is not
pub record KeptRather (links : List Link) (k : ℕ) (b : Link) : Type 0 where
  pub number : ℕ
  pub link : Link
  pub at : slice_get links number ≡ Some link
  pub beats_it : beats number link k b ≡ true
  pub unbeaten : is_beaten 0 links number link ≡ false

-- a link of this number, closed where some link of all is kept rather than it
abbrev pub closed_as : List Link → ℕ → Link → Link
closed_as all k b = record b { stands = cond (is_beaten 0 all k b) end.Redundant b.stands }

-- the first links of a list, so many, closed so; its first has the number k
abbrev pub closed_upto : List Link → ℕ → ℕ → List Link → List Link
closed_upto all k zero links = links
closed_upto all k (suc m) [] = []
closed_upto all k (suc m) (b ∷ links) = closed_as all k b ∷ closed_upto all (suc k) m links
