-- What the calls of a node came to: where they led on the machine of a run, or where they stopped.
use Rattle.std.specs.Prelude.{◌≡◌, ◌⊎◌, ℕ, suc, ◌+◌, ◌≤◌, Bool, true, false, cond, not, nat_lt, slice_get, List, [], ◌∷◌, ◌++◌, length, IfSome, Option, None, Some}
use Rattle.entry_codec.specs.Standing.{room_of}
use Rattle.outside.specs.declared.limits.TheConstants.{MAX_JOURNAL}
use Rattle.outside.specs.Outside.{Outside}
use Rattle.sync_rules.specs.declared.entries.Entry.TheVariants as entry
use Rattle.sync_rules.specs.declared.entries.Session.{Session}
use Rattle.sync_rules.specs.Facts.{after_all, session_at}
use Rattle.sync_rules.specs.Clients.{Meaning}
use Rattle.sync_store.specs.Store.{StoreValue, written_in}
use Rattle.sync_course.specs.Acts.{Act, Fail, Send}
use Rattle.sync_course.specs.Links as course_links
use Rattle.sync_course.specs.LinkTurns.{Asks, Doing, Done, Sends}
use Rattle.sync_course.specs.Owing.{ActStep, Owing, paid}
use Rattle.sync_course.specs.Turns.{Attaches, Between, Place, RunStep, Terms, Works, is_at_end}
use Rattle.sync_course.specs.declared.TheConstants.{MAX_OUTPUTS}
use Rattle.sync_node.specs.declared.fault.Fault.{Fault}
use Rattle.sync_node.specs.declared.fault.Fault.TheVariants as fault
use Rattle.sync_node.specs.declared.fault.NodeFault.{NodeFault}
use Rattle.sync_node.specs.declared.fault.NodeFault.TheVariants as node
use Rattle.sync_node.specs.declared.link.Link.{Link}
use Rattle.sync_course.specs.declared.ends.LinkEnd.TheVariants as link_end
use Rattle.sync_node.specs.declared.node.Turned.{Turned}
use Rattle.sync_node.specs.Courses.{AllRead, IsLinkRead, IsReadyToSend, is_still, link_at, links_from, place_at, place_with}
use Rattle.sync_node.specs.Did.{Did}
use Rattle.sync_node.specs.Going.{LetsNothingFall}
use Rattle.sync_node.specs.Sending.{StaysOrFails}
use Rattle.sync_node.specs.Starting.{SessionBegan, StartStops}
use Rattle.sync_node.specs.Went.{Makes, Stopped, Went}

abbrev pub RunActs : Meaning → Terms → Owing Place → Act → Owing Place → Type 0
RunActs clients terms = ActStep (λ (p : Place). p.facts) terms.first (RunStep clients terms)

-- a run led from one place to another, and what was owed was sent
abbrev pub RunWent : Meaning → Terms → Place → Place → StoreValue → StoreValue → Outside → Outside
    → Type 0
RunWent clients terms p q s s' o o' =
    Went clients (RunActs clients terms) (paid p) (paid q) s s' o o'

-- it stopped at a place at which the links stand so
abbrev pub RunStopped : Meaning → Terms → Place → List course_links.Link → StoreValue → StoreValue
    → Outside → Outside → Fault → Type 0
RunStopped clients terms p links s s' o o' e =
    Stopped clients (RunActs clients terms) (λ (q : Owing Place). q.at.links ≡ links) (paid p) s s' o o' e

-- what is said by the fault of work on a store, by what a call of a node answers that was not closed
abbrev pub ByFault : (Fault → Type 0) → NodeFault → Type 0
ByFault P node.Memory = P fault.Memory
ByFault P node.DiskFault = P fault.DiskFault
ByFault P node.Full = P fault.Full
ByFault P node.Closed = ⊥

-- ---- all links, one after the other

-- the first links, so many, had their turn
pub record LinksTurnedTo (clients : Meaning) (terms : Terms) (n : ℕ) (links links' : List Link)
    (s s' : StoreValue) (o o' : Outside) (heard : ℕ → List ℕ) (moved : Bool) (still made : ℕ)
    (quiet : Bool) : Type 0 where
  pub heard' : ℕ → List ℕ
  pub has_read : AllRead heard' links'
  pub went : RunWent clients terms
      (place_at (Works 0 Asks) links heard moved still made s.state.facts)
      (place_at (Works n Asks) links' heard' (cond quiet moved true) still made s'.state.facts) s s' o o'

pub record LinksWent (n : ℕ) (clients : Meaning) (first : ℕ) (links links' : List Link)
    (s s' : StoreValue) (o o' : Outside) (quiet : Bool) : Type 0 where
  pub leads : (terms : Terms) (heard : ℕ → List ℕ) (moved : Bool) (still made : ℕ)
      → terms.first ≡ first → AllRead heard links
      → LinksTurnedTo clients terms n links links' s s' o o' heard moved still made quiet

pub record LinksStopped (clients : Meaning) (first : ℕ) (links links' : List Link)
    (s s' : StoreValue) (o o' : Outside) (e : Fault) : Type 0 where
  pub stops : (terms : Terms) (heard : ℕ → List ℕ) (moved : Bool) (still made : ℕ)
      → terms.first ≡ first → AllRead heard links
      → (heard' : ℕ → List ℕ) × RunStopped clients terms
      (place_at (Works 0 Asks) links heard moved still made s.state.facts)
      (links_from 0 links' heard') s s' o o' e

-- ---- a whole turn

pub record RoundWentTo (clients : Meaning) (terms : Terms) (links links' : List Link)
    (s s' : StoreValue) (o o' : Outside) (heard : ℕ → List ℕ) (moved : Bool) (still made : ℕ)
    (quiet : Bool) : Type 0 where
  pub heard' : ℕ → List ℕ
  pub has_read : AllRead heard' links'
  pub went : RunWent clients terms (place_at Between links heard moved still made s.state.facts)
      (place_at Between links' heard' (not quiet) (cond quiet (suc still) 0) (suc made) s'.state.facts) s s' o o'

-- from a place between two turns that is not the end to the next one; it was still where nothing
-- moved
pub record RoundWent (clients : Meaning) (first : ℕ) (links links' : List Link)
    (s s' : StoreValue) (o o' : Outside) (quiet : Bool) : Type 0 where
  pub leads : (terms : Terms) (heard : ℕ → List ℕ) (moved : Bool) (still made : ℕ)
      → terms.first ≡ first → AllRead heard links
      → is_at_end terms (place_at Between links heard moved still made s.state.facts) ≡ false
      → RoundWentTo clients terms links links' s s' o o' heard moved still made quiet

abbrev pub AllTurned : Meaning → ℕ → List Link → List Link → StoreValue → StoreValue → Outside
    → Outside → Turned → Type 0
AllTurned clients first links links' s s' o o' turned =
    RoundWent clients first links links' s s' o o' (is_still turned)

pub record RoundStopped (clients : Meaning) (first : ℕ) (links links' : List Link)
    (s s' : StoreValue) (o o' : Outside) (e : Fault) : Type 0 where
  pub stops : (terms : Terms) (heard : ℕ → List ℕ) (moved : Bool) (still made : ℕ)
      → terms.first ≡ first → AllRead heard links
      → is_at_end terms (place_at Between links heard moved still made s.state.facts) ≡ false
      → (heard' : ℕ → List ℕ) × RunStopped clients terms
      (place_at Between links heard moved still made s.state.facts) (links_from 0 links' heard') s s' o o' e

-- ---- one call on the link of this number, in its turn

pub record AskedTo (clients : Meaning) (terms : Terms) (n : ℕ) (links links' : List Link)
    (s s' : StoreValue) (o o' : Outside) (heard : ℕ → List ℕ) (moved : Bool) (still made : ℕ)
    (idle : Bool) : Type 0 where
  pub heard' : ℕ → List ℕ
  pub doing : Doing
  pub has_read : AllRead heard' links'
  pub ready : (l : Link) → slice_get links' n ≡ Some l → IsReadyToSend doing l
  pub went : RunWent clients terms
      (place_at (Works n Asks) links heard moved still made s.state.facts)
      (place_at (Works n doing) links' heard' (cond idle moved true) still made s'.state.facts) s s' o o'

-- it was asked once; then it waits for the clock, or it is closed and its turn is done
pub record AskingWent (clients : Meaning) (first n : ℕ) (links links' : List Link)
    (s s' : StoreValue) (o o' : Outside) (idle : Bool) : Type 0 where
  pub leads : (terms : Terms) (heard : ℕ → List ℕ) (moved : Bool) (still made : ℕ)
      → terms.first ≡ first → AllRead heard links
      → AskedTo clients terms n links links' s s' o o' heard moved still made idle

pub record AskingStopped (clients : Meaning) (first n : ℕ) (links links' : List Link)
    (s s' : StoreValue) (o o' : Outside) (e : Fault) : Type 0 where
  pub stops : (terms : Terms) (heard : ℕ → List ℕ) (moved : Bool) (still made : ℕ)
      → terms.first ≡ first → AllRead heard links
      → (heard' : ℕ → List ℕ) × RunStopped clients terms
      (place_at (Works n Asks) links heard moved still made s.state.facts)
      (links_from 0 links' heard') s s' o o' e

-- so many outputs were committed and sent
abbrev pub RunMakes : Meaning → Terms → Place → Place → StoreValue → StoreValue → Outside → Outside
    → ℕ → Type 0
RunMakes clients terms p q s s' o o' count =
    Makes clients (RunActs clients terms) (paid p) (paid q) s s' o o' count

-- all that is due on it at this reading was sent, so many outputs, and its turn is done
pub record OutsSent (clients : Meaning) (first n now : ℕ) (links links' : List Link)
    (s s' : StoreValue) (o o' : Outside) (outs : ℕ) : Type 0 where
  pub has_read : (heard : ℕ → List ℕ) → AllRead heard links → AllRead heard links'
  pub makes : (terms : Terms) (heard : ℕ → List ℕ) (moved : Bool) (still made : ℕ)
      → terms.first ≡ first
      → RunMakes clients terms
      (place_at (Works n (Sends now MAX_OUTPUTS)) links heard moved still made s.state.facts)
      (place_at (Works n Done) links' heard (cond (nat_lt 0 outs) true moved) still made s'.state.facts) s s' o o' outs

pub record OutsStopped (clients : Meaning) (first n now : ℕ) (links links' : List Link)
    (s s' : StoreValue) (o o' : Outside) (e : Fault) : Type 0 where
  pub stops : (terms : Terms) (heard : ℕ → List ℕ) (moved : Bool) (still made : ℕ)
      → terms.first ≡ first
      → RunStopped clients terms
      (place_at (Works n (Sends now MAX_OUTPUTS)) links heard moved still made s.state.facts)
      (links_from 0 links' heard) s s' o o' e

-- ---- a session that begins on the next link

-- The acts of a greeting on the link of this number: both parts went out, the second perhaps empty;
-- or a call failed, and the link is closed.
abbrev pub IsGreeting : ℕ → List ℕ → List ℕ → Link → Link → List Act → Type 0
IsGreeting n first second l l' acts =
    ((acts ≡ Send n first ∷ []) × (second ≡ []) × (l' ≡ l))
    ⊎ (((acts ≡ Send n first ∷ (Send n second ∷ [])) × (l' ≡ l))
    ⊎ (((count : ℕ) × (acts ≡ Fail n first count ∷ []) × (l' ≡ record l { end = link_end.Failed }))
    ⊎ ((count : ℕ) × (acts ≡ Send n first ∷ (Fail n second count ∷ [])) × (l' ≡ record l { end = link_end.Failed }))))

pub record GreetsBy (n : ℕ) (first second : List ℕ) (l l' : Link) (o o' : Outside) : Type 0 where
  pub acts : List Act
  pub is : IsGreeting n first second l l' acts
  pub sent : StaysOrFails l l'
  pub same_files : o'.files ≡ o.files
  pub did : (clients : Meaning) (s : StoreValue)
      → s.end + room_of (written_in s) s.state.facts ≤ MAX_JOURNAL → Did clients acts s s o o'

-- A session began: where no session had its number, as it is in each legal journal, on the link of
-- this number, behind the others, and greeted there. Nothing was heard on it.
pub record StartWent (clients : Meaning) (n : ℕ) (session : Session) (l : Link)
    (s s' : StoreValue) (o o' : Outside) : Type 0 where
  pub begun : SessionBegan clients n session l s s' o o'
  pub has_read : IsLinkRead [] l
  pub facts : s'.state.facts ≡ after_all s.state.facts (entry.Session session ∷ [])
  pub went : session_at s.state.facts.sessions session.number ≡ None → (terms : Terms)
      (left : List Session) (links : List course_links.Link) (moved : Bool) (still made : ℕ) → length links ≡ n
      → session.number ≡ terms.first + n
      → RunWent clients terms (place_with (Attaches (session ∷ left)) links moved still made s.state.facts)
      (place_with (Attaches left) (links ++ link_at l [] ∷ []) moved still made s'.state.facts) s s' o o'

pub record StartStopped (clients : Meaning) (session : Session) (s s' : StoreValue)
    (o o' : Outside) (e : Fault) : Type 0 where
  pub stops : (terms : Terms) (left : List Session) (links : List course_links.Link) (moved : Bool)
      (still made : ℕ)
      → RunStopped clients terms
      (place_with (Attaches (session ∷ left)) links moved still made s.state.facts) links s s' o o' e

-- where beginning it was stopped, if it was, and what it keeps
pub record StartWorks {H : Type 0} (clients : Meaning) (session : Session) (s s' : StoreValue)
    (host host' : H) (o o' : Outside) (stop : Option Fault) : Type 0 where
  pub goes : LetsNothingFall o o'
  pub same_limit : s'.limit ≡ s.limit
  pub same_format : s'.format ≡ s.format
  pub stopped : IfSome stop (StartStopped clients session s s' o o')
  pub stops : IfSome stop (StartStops clients s s' host host' o o')

-- that link stands behind the others
pub record StartWentLast (clients : Meaning) (n : ℕ) (session : Session) (links links' : List Link)
    (s s' : StoreValue) (o o' : Outside) : Type 0 where
  pub link : Link
  pub starts : StartWent clients n session link s s' o o'
  pub pushed : links' ≡ links ++ link ∷ []

-- The next session began: where none had its number, on the link behind those of a node, on which
-- nothing was heard.
pub record BeginWent (clients : Meaning) (session : Session) (links links' : List Link)
    (s s' : StoreValue) (o o' : Outside) : Type 0 where
  pub facts : s'.state.facts ≡ after_all s.state.facts (entry.Session session ∷ [])
  pub has_read : (heard : ℕ → List ℕ) → heard (length links) ≡ [] → AllRead heard links
      → AllRead heard links'
  pub went : session_at s.state.facts.sessions session.number ≡ None → (terms : Terms)
      (left : List Session) (heard : ℕ → List ℕ) (moved : Bool) (still made : ℕ) → heard (length links) ≡ []
      → session.number ≡ terms.first + length links
      → RunWent clients terms
      (place_at (Attaches (session ∷ left)) links heard moved still made s.state.facts)
      (place_at (Attaches left) links' heard moved still made s'.state.facts) s s' o o'

pub record BeginStopped (clients : Meaning) (session : Session) (links links' : List Link)
    (s s' : StoreValue) (o o' : Outside) (e : Fault) : Type 0 where
  pub stops : (terms : Terms) (left : List Session) (heard : ℕ → List ℕ) (moved : Bool)
      (still made : ℕ)
      → RunStopped clients terms
      (place_at (Attaches (session ∷ left)) links heard moved still made s.state.facts)
      (links_from 0 links' heard) s s' o o' e
