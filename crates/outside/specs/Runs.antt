-- What any run of calls of a host does, on its disk, its links and its clock, and what is told of one link.
use Rattle.std.specs.Prelude.{◌≡◌, ◌≢◌, ℕ, ◌≤◌, List, [], ◌∷◌, ◌++◌, length, take, Option, None, Some, is_some, slice_index_or}
use Rattle.std.specs.List.{flat_map}
use Rattle.outside.specs.declared.host.Heard.{Heard}
use Rattle.outside.specs.declared.host.Heard.TheVariants as heard
use Rattle.outside.specs.Files.{Two, File, IsImage}
use Rattle.outside.specs.Links.{ToldLink, Links, Reply, got, idle, ended, Answered, HeardOn, nothing_heard, sent_of, Planned}
use Rattle.outside.specs.Outside.{Outside, Moment}
use Rattle.outside.specs.Calls.{CallsGoOn}
use Rattle.outside.specs.Disk.{RelatesTold}

-- ---- what is told of one link

-- the bytes sent so far on the link of this number, what it heard, and the answers alone; none where they are not told
abbrev pub sent_at : Option (List ToldLink) → ℕ → List ℕ
sent_at told link = slice_index_or (sent_of told) link []

abbrev pub heard_at : Option (List HeardOn) → ℕ → HeardOn
heard_at None link = nothing_heard
heard_at (Some heard) link = slice_index_or heard link nothing_heard

abbrev pub answers_at : Option (List HeardOn) → ℕ → List Answered
answers_at heard link = (heard_at heard link).answers

-- the bytes of an answer, and of several
abbrev pub reply_bytes : Reply → List ℕ
reply_bytes (got bytes) = bytes
reply_bytes idle = []
reply_bytes ended = []

abbrev pub heard_bytes : List Answered → List ℕ
heard_bytes answers = flat_map (λ a. reply_bytes a.reply) answers

-- ---- fronts
pub record IsFront {A : Type 0} (front all : List A) : Type 0 where
  pub rest : List A
  pub whole : all ≡ front ++ rest

-- an answer is added, or a failure alone
abbrev pub answered_by : Heard → List ℕ → HeardOn → List Answered
answered_by (heard.Got n) buf h = record { failures = h.failures; room = length buf; reply = got (take n buf) } ∷ []
answered_by heard.Idle buf h = record { failures = h.failures; room = length buf; reply = idle } ∷ []
answered_by heard.End buf h = record { failures = h.failures; room = length buf; reply = ended } ∷ []
answered_by heard.Failed buf h = []

-- ---- what no run of calls lets fall
-- readings that are told were told before, and are those told before and then more
abbrev pub ReadingsGoOn : Option (List ℕ) → Option (List ℕ) → Type 0
ReadingsGoOn old None = Unit {0}
ReadingsGoOn None (Some new) = ⊥
ReadingsGoOn (Some old) (Some new) = IsFront old new

pub record LinksGrow (old new : Links) : Type 0 where
  pub dialled : old.dialled ≤ new.dialled
  pub faults : (i : ℕ) → old.faults i ≤ new.faults i
  pub same_told : is_some new.told ≡ is_some old.told
  pub same_heard : is_some new.heard ≡ is_some old.heard
  pub same_planned : is_some new.planned ≡ is_some old.planned
  pub same_upcoming : is_some new.upcoming ≡ is_some old.upcoming
  pub sent : (i : ℕ) → IsFront (sent_at old.told i) (sent_at new.told i)
  pub answers : (i : ℕ) → IsFront (answers_at old.heard i) (answers_at new.heard i)
  pub readings : ReadingsGoOn old.readings new.readings

-- what no run of calls of a host changes or lets fall
pub record HostRun (old new : Outside) : Type 0 where
  pub same_files : is_some new.files ≡ is_some old.files
  pub later : old.disk_faults ≤ new.disk_faults
  pub clock : old.clock ≤ new.clock
  pub links : LinksGrow old.links new.links
  pub calls : RelatesTold CallsGoOn old.calls new.calls

-- ---- told-ness, back and on
-- files, links and what they heard are told
pub record TellsAll (o : Outside) : Type 0 where
  pub two : Two File
  pub files_are : o.files ≡ Some two
  pub links : List ToldLink
  pub links_are : o.links.told ≡ Some links
  pub heard : List HeardOn
  pub heard_are : o.links.heard ≡ Some heard

-- ---- what the other links keep
pub record OthersKeep (link : ℕ) (old new : Links) : Type 0 where
  pub sent : (i : ℕ) → i ≢ link → sent_at new.told i ≡ sent_at old.told i
  pub answers : (i : ℕ) → i ≢ link → answers_at new.heard i ≡ answers_at old.heard i
  pub planned : RelatesTold (λ (p q : ℕ → List Planned). (i : ℕ) → i ≢ link → q i ≡ p i) old.planned new.planned

-- A moment of a send has a front of the bytes more on its link, and nothing more on the others.
pub record SendMoment (o : Outside) (two : Two File) (link : ℕ) (bytes : List ℕ) (m : Moment) : Type 0 where
  pub image : IsImage two m.files
  pub count : ℕ
  pub here : slice_index_or m.sent link [] ≡ sent_at o.links.told link ++ take count bytes
  pub others : (i : ℕ) → i ≢ link → slice_index_or m.sent i [] ≡ sent_at o.links.told i
