-- What a run does to a store and its disk, as a course: where the disk fits the store with a
-- journal, and what the files stand for where a call was broken off.
use Rattle.std.specs.Prelude.{◌≡◌, ◌⊎◌, ℕ, suc, Bool, true, false, cond, not, ◌&&◌, nat_eq, slice_get, List, [], ◌∷◌, ◌++◌, Option, Some}
use Rattle.outside.specs.Files.{Two, File, read_files}
use Rattle.outside.specs.Outside.{Outside}
use Rattle.sync_rules.specs.declared.entries.Entry.{Entry}
use Rattle.sync_rules.specs.declared.entries.Session.{Session}
use Rattle.sync_rules.specs.Clients.{Meaning}
use Rattle.entry_codec.specs.Standing.{journal}
use Rattle.file_standing.specs.Standing.{stands}
use Rattle.sync_store.specs.Store.{StoreValue}
use Rattle.sync_store.specs.Fitting.{FitsFiles}
use Rattle.record_grammar.specs.declared.stream.Item.{Item}
use Rattle.sync_rules.specs.Facts.{Facts}
use Rattle.sync_course.specs.Links as course_links
use Rattle.sync_course.specs.Links.{is_going, is_nonce_kept, is_sent_to}
use Rattle.sync_course.specs.Reading.{HasRead, IsReading}
use Rattle.sync_node.specs.Cuts.{CutBy}
use Rattle.sync_node.specs.declared.link.Link.{Link}
use Rattle.sync_course.specs.declared.ends.LinkEnd.{LinkEnd}
use Rattle.sync_course.specs.declared.ends.LinkEnd.TheVariants as link_end
use Rattle.sync_node.specs.declared.node.Turned.{Turned}
use Rattle.sync_node.specs.declared.node.Turned.TheVariants as turned
use Rattle.sync_course.specs.LinkTurns.{Doing, Done, Sends, Spot, Waits}
use Rattle.sync_course.specs.Paths.{BreaksPath, RunsPath}
use Rattle.sync_course.specs.Turns.{Attaches, Between, Place, RunStep, Stage, Terms, is_at_end}

-- the files are told, and fit the store with this journal
abbrev pub FitsWith : Meaning → StoreValue → Option (Two File) → List (List Entry) → Type 0
FitsWith clients s files j = (two : Two File) × (files ≡ Some two) × FitsFiles clients s j two

-- the files are told, and as they read they stand for this journal
abbrev pub ReadsAs : Meaning → Option (Two File) → List (List Entry) → Type 0
ReadsAs clients files j =
    (two : Two File) × (files ≡ Some two) × (stands clients (read_files two) ≡ journal j)

-- the same of a run
abbrev pub RunRuns : Meaning → Terms → Place → Place → StoreValue → StoreValue → Outside → Outside
    → Type 0
RunRuns clients terms p q s s' o o' =
    RunsPath (RunStep clients terms) (FitsWith clients s o.files)
    (FitsWith clients s' o'.files) p q o o' []

abbrev pub RunBreaks : Meaning → Terms → Place → StoreValue → Outside → Outside → Type 0
RunBreaks clients terms p s o o' =
    BreaksPath (RunStep clients terms) (FitsWith clients s o.files) (ReadsAs clients o'.files) p o o'

-- some of these batches, from the first on, stand in the files as they read, behind the journal
-- that the store had
pub record ReadsFront (clients : Meaning) (may : List (List Entry)) (s : StoreValue)
    (o o' : Outside) : Type 0 where
  pub front : List (List Entry)
  pub others : List (List Entry)
  pub parts : may ≡ front ++ others
  pub reads : (j : List (List Entry)) → FitsWith clients s o.files j
      → ReadsAs clients o'.files (j ++ front)

-- ---- a link of the node as one of a course

-- a link on which these bytes were heard
abbrev pub link_at : Link → List ℕ → course_links.Link
link_at l heard = record {
  contact = l.session.contact;
  nonce = l.nonce;
  heard = heard;
  stands = l.end;
}

abbrev pub spot_at : Doing → Link → List ℕ → Bool → Facts → Spot
spot_at doing l heard moved f = record {
  doing = doing;
  link = link_at l heard;
  moved = moved;
  facts = f;
}

-- in the middle of a piece the items to come are those of its reader and of what is left; once the
-- link is closed there are none
abbrev pub IsTaking : List ℕ → List ℕ → Link → List Item → LinkEnd → Type 0
IsTaking heard left l its link_end.Going = IsReading heard left l.reader its
IsTaking heard left l its _ = its ≡ []

-- ---- hearing

-- a link that is still asked has read all that was heard on it
abbrev pub IsLinkRead : List ℕ → Link → Type 0
IsLinkRead heard l = l.end ≡ link_end.Going → HasRead heard l.reader

-- a link waits for the clock, or it is closed and its turn is done
abbrev pub IsReadyToSend : Doing → Link → Type 0
IsReadyToSend doing l = (doing ≡ Waits) ⊎ ((doing ≡ Done) × (is_sent_to l.end ≡ false))

-- ---- sending

-- a link goes on sending with this room, or it is closed and its turn is done
abbrev pub sends_on : ℕ → ℕ → Link → Doing
sends_on now room l = cond (is_sent_to l.end) (Sends now room) Done

-- ---- all links

-- the links of a node as those of a course, the first with the number k, by what was heard on each
abbrev pub links_from : ℕ → List Link → (ℕ → List ℕ) → List course_links.Link
links_from k [] heard = []
links_from k (l ∷ ls) heard = link_at l (heard k) ∷ links_from (suc k) ls heard

abbrev pub AllRead : (ℕ → List ℕ) → List Link → Type 0
AllRead heard links = (i : ℕ) (l : Link) → slice_get links i ≡ Some l → IsLinkRead (heard i) l

-- a place of a run with these links
abbrev pub place_with : Stage → List course_links.Link → Bool → ℕ → ℕ → Facts → Place
place_with stage links moved still made f =
    record { stage = stage; links = links; moved = moved; still = still; made = made; facts = f }

abbrev pub place_at : Stage → List Link → (ℕ → List ℕ) → Bool → ℕ → ℕ → Facts → Place
place_at stage links heard moved still made f =
    place_with stage (links_from 0 links heard) moved still made f

-- ---- a whole turn

abbrev pub is_still : Turned → Bool
is_still turned.Still = true
is_still turned.Moving = false

-- every link had its turn, and the redundant ones were closed
pub record TurnMade (clients : Meaning) (terms : Terms) (links links' : List Link)
    (s s' : StoreValue) (o o' : Outside) (heard : ℕ → List ℕ) (moved : Bool) (still made : ℕ)
    (quiet : Bool) : Type 0 where
  pub heard' : ℕ → List ℕ
  pub has_read : AllRead heard' links'
  pub runs : RunRuns clients terms (place_at Between links heard moved still made s.state.facts)
      (place_at Between links' heard' (not quiet) (cond quiet (suc still) 0) (suc made) s'.state.facts) s s' o o'

-- from a place between two turns that is not the end, a turn leads to the next one; it was still
-- where nothing moved
pub record MakesTurn (clients : Meaning) (first : ℕ) (links links' : List Link) (s s' : StoreValue)
    (o o' : Outside) (quiet : Bool) : Type 0 where
  pub leads : (terms : Terms) (heard : ℕ → List ℕ) (moved : Bool) (still made : ℕ)
      → terms.first ≡ first → AllRead heard links
      → is_at_end terms (place_at Between links heard moved still made s.state.facts) ≡ false
      → TurnMade clients terms links links' s s' o o' heard moved still made quiet

-- the turn was broken off, where the disk failed or not, whatever its links are then
pub record BreaksTurn (clients : Meaning) (disk : Bool) (first : ℕ) (links : List Link) (s : StoreValue)
    (o o' : Outside) : Type 0 where
  pub stops : (terms : Terms) (heard : ℕ → List ℕ) (moved : Bool) (still made : ℕ)
      → terms.first ≡ first → AllRead heard links
      → is_at_end terms (place_at Between links heard moved still made s.state.facts) ≡ false
      → RunBreaks clients terms (place_at Between links heard moved still made s.state.facts) s o o'
      × CutBy disk s o o'

-- ---- a session that begins on the next link

-- the call was broken off, where the disk failed or not, whatever its links are then
pub record BreaksBeginning (clients : Meaning) (disk : Bool) (session : Session) (links : List Link)
    (s : StoreValue) (o o' : Outside) : Type 0 where
  pub stops : (terms : Terms) (left : List Session) (heard : ℕ → List ℕ) (moved : Bool)
      (still made : ℕ)
      → RunBreaks clients terms
      (place_at (Attaches (session ∷ left)) links heard moved still made s.state.facts) s o o'
      × CutBy disk s o o'

-- ---- redundant links

-- a link is kept rather than another one, where it stands before it or not
abbrev pub outdoes_of : Link → Link → Bool → Bool
outdoes_of a b before =
    is_going a.end
    && (is_going b.end &&
    (nat_eq a.session.contact b.session.contact && is_nonce_kept a.nonce b.nonce before))
