-- Links that are dialled for the words of a command, before anything is committed.
use Rattle.std.specs.Prelude.{◌≡◌, ◌≢◌, ◌⊎◌, ℕ, zero, suc, ◌+◌, ◌<◌, ◌≤◌, List, [], ◌∷◌, ◌++◌, length}
use Rattle.std.specs.Prelude.{map, Some, Result, Ok, Err, slice_index_or}
use Rattle.std.specs.Option.{option_map}
use Rattle.outside.specs.declared.failed.Failed.{Failed}
use Rattle.outside.specs.Calls.{NoCall}
use Rattle.outside.specs.Disk.{RelatesTold}
use Rattle.outside.specs.Faults.{one_more}
use Rattle.outside.specs.Files.{Two, File, IsImage}
use Rattle.outside.specs.Links.{HeardOn, ToldLink, Links, nothing_heard}
use Rattle.outside.specs.Outside.{Moment, Outside}
use Rattle.outside.specs.Runs.{IsFront, LinksGrow}
use Rattle.sync_node.specs.Output.{sent_on}
use Rattle.sync_words.specs.declared.link_words.LinkWords.{LinkWords}
use Rattle.sync_run.specs.declared.dialling.Dialled.{Dialled}
use Rattle.sync_run.specs.Plans.{ArePlanned, sessions_from}

-- ---- what was dialled

-- so many links on which nothing was heard
abbrev pub unheard : ℕ → List HeardOn
unheard zero = []
unheard (suc n) = nothing_heard ∷ unheard n

-- links that were dialled for the first of these words, in order, whatever session is the first
abbrev pub AreDialled : List LinkWords → List Dialled → Type 0
AreDialled words links = (first : ℕ) → ArePlanned first words (sessions_from first links)

-- links with the specs of these words, on which nothing was sent
abbrev pub fresh_links : List LinkWords → List ToldLink
fresh_links words = map (λ (w : LinkWords). record { spec = w.spec; sent = [] }) words

-- Links were made for these words, in order. Nothing was sent or heard on any link, and the clock
-- was not read.
pub record MakesLinks (words : List LinkWords) (old new : Links) : Type 0 where
  pub grows : LinksGrow old new
  pub dialled : new.dialled ≡ old.dialled + length words
  pub told : new.told ≡ option_map (λ (ls : List ToldLink). ls ++ fresh_links words) old.told
  pub heard : new.heard ≡ option_map (λ (hs : List HeardOn). hs ++ unheard (length words)) old.heard
  pub same_readings : new.readings ≡ old.readings

-- no call of a link failed
abbrev pub NoneFailed : (old new : ℕ → ℕ) → Type 0
NoneFailed old new = (i : ℕ) → new i ≡ old i

-- one call of this link failed, and no other call of a link
pub record FailedOnce (link : ℕ) (old new : ℕ → ℕ) : Type 0 where
  pub once : new link ≡ one_more (old link)
  pub others : (i : ℕ) → i ≢ link → new i ≡ old i

-- a link was made, with a nonce where the words ask for one, and no call failed; or one call on it
-- failed, its dial or the drawing of its nonce
abbrev pub MakesOne : {T : Type 0} → LinkWords → Result T Failed → Links → Links → Type 0
MakesOne w (Ok _) old new = MakesLinks (w ∷ []) old new × NoneFailed old.faults new.faults
MakesOne w (Err _) old new = FailedOnce old.dialled old.faults new.faults ×
    (MakesLinks [] old new ⊎ MakesLinks (w ∷ []) old new)

-- all links were made, and no call failed; or so many, and one call on the next one failed
abbrev pub MakesAll : List LinkWords → (made : List LinkWords) → ℕ → Result (Unit {0}) Failed
    → Links → Links → Type 0
MakesAll words made count (Ok _) old new =
    (made ≡ words) × (count ≡ length words) × NoneFailed old.faults new.faults
MakesAll words made count (Err _) old new =
    (count < length words) × FailedOnce count old.faults new.faults

-- Links were dialled for these words, up to a call that failed. There were none before.
pub record DialsAll (words : List LinkWords) (links : List Dialled)
    (result : Result (Unit {0}) Failed) (o o' : Outside) : Type 0 where
  pub made : List LinkWords
  pub front : IsFront made words
  pub makes : MakesLinks made o.links o'.links
  pub dialled : AreDialled words links
  pub count : length links ≤ length made
  pub all : MakesAll words made (length links) result o.links o'.links

-- ---- time

-- a moment that might have been now, but that a crash may tell of links on which nothing was sent
pub record IsCalm (two : Two File) (o : Outside) (m : Moment) : Type 0 where
  pub image : IsImage two m.files
  pub same_sent : (link : ℕ) → slice_index_or m.sent link [] ≡ sent_on o.links link

-- Calls that ask nothing of the disk and send nothing. Links may be made.
pub record DialsOnly (o o' : Outside) : Type 0 where
  pub same_files : o'.files ≡ o.files
  pub same_faults : o'.disk_faults ≡ o.disk_faults
  pub no_call : RelatesTold NoCall o.calls o'.calls
  pub later : o.clock ≤ o'.clock
  pub grows : LinksGrow o.links o'.links
  pub sent : (link : ℕ) → sent_on o'.links link ≡ sent_on o.links link
  pub moments : (two : Two File) → o.files ≡ Some two → (t : ℕ) (m : Moment) → t ≤ o.clock
      → o'.moments t m → o.moments t m ⊎ IsCalm two o m

-- calls that change nothing of what is told but the time
pub record PassesTime (o o' : Outside) : Type 0 where
  pub same_files : o'.files ≡ o.files
  pub same_faults : o'.disk_faults ≡ o.disk_faults
  pub no_call : RelatesTold NoCall o.calls o'.calls
  pub same_links : o'.links ≡ o.links
  pub later : o.clock ≤ o'.clock
  pub moments : (two : Two File) → o.files ≡ Some two → (t : ℕ) (m : Moment) → t ≤ o.clock
      → o'.moments t m → o.moments t m
