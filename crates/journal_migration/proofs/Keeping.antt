-- Calls during which the files stand for one journal, one behind the other.
use Rattle.std.proofs.Common.{◌≡◌, ℕ, ◌-◌, ◌<◌, false, List, Some, arith, inl, inr, sym, ap, subst}
use Rattle.std.proofs.Common.{◌∙◌}
use Rattle.outside.specs.Files.{Two, File, IsFileImage, file_of, read_files}
use Rattle.outside.specs.Frames.{is_open}
use Rattle.outside.specs.Links.{Links, sent_of}
use Rattle.outside.specs.Outside.{DiskRun, IsNow, OnlyReads, Moment, MomentsAre, Outside}
use Rattle.outside.specs.Steps.{FileMoment, PassedMoments, other_of}
use Rattle.outside.proofs.CallSteps.{moments_map, moments_then, told_on}
use Rattle.frame_journal.specs.Create.{BeforeOrShut}
use Rattle.sync_rules.specs.declared.entries.Entry.{Entry}
use Rattle.sync_rules.specs.Clients.{Meaning}
use Rattle.file_standing.specs.Standing.{stands}
use Rattle.journal_migration.specs.Migrating.{HoldsFirst, KeepsJournal, StandsStill}
use Rattle.journal_migration.proofs.Sides.{image_only, own_file, read_file, settled_one}
use Rattle.journal_migration.proofs.Sides.{shut_stands, two_same}

-- one run behind another
pub keeps_then : (clients : Meaning) (j : List (List Entry)) (P Q : Two File → Type 0)
    (o0 o1 o2 : Outside) (two : Two File) → o0.files ≡ Some two → DiskRun o0 o1
    → KeepsJournal clients j P o0 o1
    → ((mid : Two File) → o1.files ≡ Some mid → P mid → KeepsJournal clients j Q o1 o2)
    → KeepsJournal clients j Q o0 o2
keeps_then clients j P Q o0 o1 o2 two told run first later =
    let mid = told_on o0 o1 two run.same_told told in
    let second = later mid.0 mid.1 (first.ends mid.0 mid.1) in
    let same : sent_of o1.links.told ≡ sent_of o0.links.told =
    ap (λ (l : Links). sent_of l.told) run.same_links in
    record {
      moments =
          moments_then o0 o1 o2 (StandsStill clients j (sent_of o0.links.told)) first.moments
          (subst (λ (sent : List (List ℕ)). MomentsAre o1 o2 (StandsStill clients j sent)) same
          second.moments);
      ends = second.ends;
    }

pub keeps_map : (clients : Meaning) (j : List (List Entry)) (P Q : Two File → Type 0)
    (o o' : Outside) → ((two : Two File) → P two → Q two) → KeepsJournal clients j P o o'
    → KeepsJournal clients j Q o o'
keeps_map clients j P Q o o' by keeps =
    record { moments = keeps.moments; ends = λ two told. by two (keeps.ends two told) }

-- calls that only read
pub keeps_looks : (clients : Meaning) (j : List (List Entry)) (own generation : ℕ) (o o' : Outside)
    (two : Two File) → own < 2 → HoldsFirst clients own generation j two → o.files ≡ Some two
    → OnlyReads o o' → KeepsJournal clients j (λ t. t ≡ two) o o'
keeps_looks clients j own generation o o' two few holds told looks = record {
  moments =
      moments_map o o' (IsNow two o.links) (StandsStill clients j (sent_of o.links.told))
      (λ m now.
      let same : m.files ≡ read_files two =
      two_same m.files (read_files two) 0 (omega arith)
      (image_only two 0 m.files.first holds.first_settled now.image.first)
      (image_only two 1 m.files.second holds.second_settled now.image.second) in
      record { stands_for = ap (stands clients) same ∙ holds.stands_for; nothing_sent = now.sent })
      (looks.moments two told);
  ends = λ two' told'. let both : Some two' ≡ Some two =
      sym told' ∙ looks.same_files ∙ told in let same : two' ≡ two = cc in same;
}

-- ---- calls on the other file

-- the file of the journal is as it was
pub own_kept : (clients : Meaning) (j : List (List Entry)) (own generation : ℕ) (two : Two File)
    → own < 2 → HoldsFirst clients own generation j two
    → (Q : List ℕ → Type 0) (sent : List (List ℕ)) (m : Moment)
    → FileMoment Q two sent (1 - own) m → file_of m.files own ≡ (file_of two own).now
own_kept clients j own generation two few holds Q sent m moment =
    image_only two own (file_of m.files own)
    (settled_one two own few holds.first_settled holds.second_settled)
    (subst (λ (f : File). IsFileImage f (file_of m.files own)) (sym (own_file two own few))
    (subst (λ (c : List ℕ). IsFileImage (other_of two (1 - own)) c) (sym (own_file m.files own few))
    moment.other))

-- a moment in which the other file has no open header
pub shut_still : (clients : Meaning) (j : List (List Entry)) (own generation : ℕ) (two : Two File)
    → own < 2 → HoldsFirst clients own generation j two
    → (Q : List ℕ → Type 0) (sent : List (List ℕ)) (m : Moment)
    → FileMoment Q two sent (1 - own) m → is_open (file_of m.files (1 - own)) ≡ false
    → StandsStill clients j sent m
shut_still clients j own generation two few holds Q sent m moment shut = record {
  stands_for =
      (shut_stands clients own generation j two few holds m.files
      (own_kept clients j own generation two few holds Q sent m moment) shut).1;
  nothing_sent = moment.nothing_sent;
}

-- or is as it was
pub same_still : (clients : Meaning) (j : List (List Entry)) (own generation : ℕ) (two : Two File)
    → own < 2 → HoldsFirst clients own generation j two
    → (Q : List ℕ → Type 0) (sent : List (List ℕ)) (m : Moment)
    → FileMoment Q two sent (1 - own) m → file_of m.files (1 - own) ≡ (file_of two (1 - own)).now
    → StandsStill clients j sent m
same_still clients j own generation two few holds Q sent m moment same =
    let this = own_kept clients j own generation two few holds Q sent m moment in
    let all : m.files ≡ read_files two =
    two_same m.files (read_files two) own few (this ∙ sym (read_file two own)) (same
    ∙ sym (read_file two (1 - own))) in
    record {
      stands_for = ap (stands clients) all ∙ holds.stands_for;
      nothing_sent = moment.nothing_sent;
    }

-- the other file is cleared and prepared
pub begun_still : (clients : Meaning) (j : List (List Entry)) (own generation : ℕ) (two : Two File)
    (o o' : Outside) → own < 2 → HoldsFirst clients own generation j two
    → PassedMoments two o o' (1 - own) (BeforeOrShut (file_of two (1 - own)).now)
    → MomentsAre o o' (StandsStill clients j (sent_of o.links.told))
begun_still clients j own generation two o o' few holds passed =
    let Q : List ℕ → Type 0 = BeforeOrShut (file_of two (1 - own)).now in
    let sent = sent_of o.links.told in
    moments_map o o' (FileMoment Q two sent (1 - own)) (StandsStill clients j sent)
    (λ m moment. elim moment.this [
      | inl same ↦ same_still clients j own generation two few holds Q sent m moment same
      | inr shut ↦ shut_still clients j own generation two few holds Q sent m moment shut
    ]) passed
