-- What a disk in memory tells, by the list of its calls.
use Rattle.std.specs.Prelude.{◌≡◌, ℕ, List, [], length, refl, Some}
use Rattle.outside.specs.Links.{Links, ToldLink, HeardOn, sent_of, no_links}
use Rattle.outside.specs.Outside.{Outside}
use Rattle.outside.specs.Calls.{Calls}
use Rattle.outside.specs.MemDisk.{MemDiskValue, Change, calls_of}
use Rattle.outside.specs.MemMoments.{WasAt, files_at}
use Rattle.outside.specs.MemLaws.{told_now_is, told_is_now, told_reads, told_since, no_links_told}
use Rattle.outside.specs.MemLaws.{no_links_heard}

-- these files and these links, with the law that the bytes sent are those of the calls and that
-- each link is told
abbrev pub mem_told : (sent_by : List Change → List (List ℕ)) (calls : Calls) (links : Links) → ℕ
    → sent_by calls.changes ≡ sent_of links.told
    → ((links' : List ToldLink) → links.told ≡ Some links' → length links' ≡ links.dialled)
    → ((heard : List HeardOn) → links.heard ≡ Some heard → length heard ≡ links.dialled)
    → Outside
mem_told sent_by calls links faults sent_is all_told all_heard = record {
  files = Some (files_at calls.start calls.changes);
  links = links;
  clock = length calls.changes;
  moments = WasAt sent_by calls.start calls.changes;
  disk_faults = faults;
  calls = Some calls;
  now_is = told_now_is sent_by calls.start calls.changes links sent_is;
  is_now = told_is_now sent_by calls.start calls.changes links sent_is;
  reads = told_reads sent_by calls.start calls.changes links sent_is;
  since = told_since sent_by calls.start calls.changes links sent_is;
  all_told = all_told;
  all_heard = all_heard;
}

-- a disk in memory tells its files; it has no links
abbrev pub disk_told : MemDiskValue → Outside
disk_told disk =
    mem_told (λ _. []) (calls_of disk) no_links disk.faults refl no_links_told no_links_heard
