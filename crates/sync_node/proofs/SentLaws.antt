-- Where a batch found no room: on each link of the course that has not failed all output of its session was sent.
use Rattle.std.proofs.Common.{◌≡◌, ℕ, zero, suc, List, [], ◌∷◌, refl, sym, ap, Some}
use Rattle.std.specs.Prelude.{slice_get}
use Rattle.sync_course.specs.Links as course_links
use Rattle.sync_node.specs.declared.link.Link.{Link}
use Rattle.sync_node.specs.Courses.{link_at, links_from}

-- a link of the course is one of the node
pub from_at : (k n : ℕ) (links : List Link) (heard : ℕ → List ℕ) (x : course_links.Link) → slice_get (links_from k links heard) n ≡ Some x
    → (m : Link) × (slice_get links n ≡ Some m) × (x.stands ≡ m.end)
from_at k n [] heard x at = cc
from_at k zero (y ∷ links) heard x at =
    let same : link_at y (heard k) ≡ x = cc in
    (y, refl, ap (λ (z : course_links.Link). z.stands) (sym same))
from_at k (suc n) (y ∷ links) heard x at = from_at (suc k) n links heard x at
