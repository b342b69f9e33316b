-- Why a link stands Failed: it stood so before, or a call on it failed, and the count of its
-- failures rose.
use Rattle.std.specs.Prelude.{◌≡◌, ◌⊎◌, ℕ, ◌++◌, ◌∷◌, [], List, map, Result, Ok, Err, Some, slice_get}
use Rattle.outside.specs.Faults.{CountRose}
use Rattle.outside.specs.Outside.{Outside}
use Rattle.sync_rules.specs.declared.entries.Session.{Session}
use Rattle.sync_node.specs.declared.link.Link.{Link}
use Rattle.sync_course.specs.declared.ends.LinkEnd.TheVariants as link_end
use Rattle.sync_node.specs.Going.{LetsNothingFall}

-- the link of this number
abbrev pub FailsByCause : ℕ → Link → Link → Outside → Outside → Type 0
FailsByCause number l l' o o' =
    l'.end ≡ link_end.Failed → (l.end ≡ link_end.Failed) ⊎ CountRose (o.links.faults number) (o'.links.faults number)

-- the sessions that run on links
abbrev pub sessions_of : List Link → List Session
sessions_of links = map (λ (l : Link). l.session) links

-- what no calls on a link change or let fall, and why the link failed, if it did
pub record LinkGoes (number : ℕ) (l l' : Link) (o o' : Outside) : Type 0 where
  pub same_session : l'.session ≡ l.session
  pub goes : LetsNothingFall o o'
  pub cause : FailsByCause number l l' o o'

-- the link of this number is there, and stands Failed
pub record StandsFailed (links : List Link) (number : ℕ) : Type 0 where
  pub link : Link
  pub there : slice_get links number ≡ Some link
  pub failed : link.end ≡ link_end.Failed

-- each link
abbrev pub FailByCause : List Link → List Link → Outside → Outside → Type 0
FailByCause links links' o o' =
    (number : ℕ) → StandsFailed links' number
    → StandsFailed links number ⊎ CountRose (o.links.faults number) (o'.links.faults number)

-- the same of all links
pub record LinksGo (links links' : List Link) (o o' : Outside) : Type 0 where
  pub goes : LetsNothingFall o o'
  pub cause : FailByCause links links' o o'

-- where a call answered Ok a link stands behind the others; else they are as before
abbrev pub PushesOne : {T E : Type 0} → Result T E → List Link → List Link → Type 0
PushesOne (Ok _) links links' = (link : Link) × (links' ≡ links ++ link ∷ [])
PushesOne (Err _) links links' = links' ≡ links
