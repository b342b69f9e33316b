-- A store begun, call by call.
use Rattle.std.proofs.Common.{◌≡◌, ℕ, Bool, true, false, List, [], Option, None, Some, Result, Ok}
use Rattle.std.proofs.Common.{Err, IfOk, refl, sym, ap, ◌∙◌, subst, inl, inr, arith, lit≤}
use Rattle.std.specs.Option.{ForSome}
use Rattle.std.proofs.lemmas.Bool.{or_parts}
use Rattle.std.proofs.lemmas.List.Elements.{All-nil}
use Rattle.outside.specs.Files.{File, IsFileImage, IsImage, SyncsBoth, Two, file_of, settled}
use Rattle.outside.specs.Frames.{HasFrames, IsPayload, is_open, format_in, header_of, journal_file}
use Rattle.outside.specs.Links.{Links, sent_of}
use Rattle.outside.specs.Disk.{RelatesTold}
use Rattle.outside.specs.Outside.{AnyImage, DiskRun, IsNow, Moment, MomentsAre, OnlyReads, Outside}
use Rattle.outside.specs.Steps.{FileMoment, PassedMoments}
use Rattle.outside.proofs.CallSteps.{becomes_told, moments_map, moments_then}
use Rattle.outside.proofs.Calm.{settled_only}
use Rattle.frame_journal.specs.Create.{ClearsFile, CreatesJournal, BeforeOrShut, ShutOrBegun}
use Rattle.frame_journal.specs.Create.{begun_bytes}
use Rattle.frame_journal.specs.declared.fault.DiskFault.{DiskFault}
use Rattle.sync_rules.specs.Clients.{Meaning}
use Rattle.sync_rules.specs.Facts.{nothing}
use Rattle.entry_codec.specs.declared.naming.Format.TheVariants as kind
use Rattle.entry_codec.specs.Naming.{format_of}
use Rattle.entry_codec.specs.Payloads.{payloads}
use Rattle.entry_codec.specs.StandingLaws.{JournalsStand}
use Rattle.entry_codec.specs.Standing.{journal, no_store}
use Rattle.entry_codec.specs.ReadingFiles.{read_standing, stands_in}
use Rattle.file_standing.specs.Standing.{stands}
use Rattle.sync_store.specs.Begin.{BeginsJournal, InitMoment, IsFree, has_open}

-- no header is open
none_open : (m : Two (List ℕ)) → is_open m.first ≡ false → is_open m.second ≡ false
    → journal_file m ≡ None
none_open m first second = cc

shut_stands : (clients : Meaning) (m : Two (List ℕ)) → is_open m.first ≡ false
    → is_open m.second ≡ false → stands clients m ≡ no_store
unfolding read_standing
shut_stands clients m first second = ap (stands_in clients m) (none_open m first second)

-- a journal is begun in file 0
first_open : (m : Two (List ℕ)) → is_open m.first ≡ true → is_open m.second ≡ false
    → journal_file m ≡ Some 0
first_open m first second = cc

begun_open : is_open (begun_bytes 2 1) ≡ true
begun_open = refl

begun_frames : HasFrames (begun_bytes 2 1) (header_of 2 1) (payloads kind.Short nothing [])
begun_frames = record {
  gate = 0;
  rest = [];
  whole = refl;
  closed = λ e. absurd (omega arith);
  long = refl;
  payloads_fit = All-nil IsPayload;
}

begun_stands : JournalsStand → (clients : Meaning) (m : Two (List ℕ)) → m.first ≡ begun_bytes 2 1
    → is_open m.second ≡ false → stands clients m ≡ journal []
begun_stands stand clients m first second =
    stand clients m 0 kind.Short [] (record {
      found = first_open m (ap is_open first ∙ begun_open) second;
      format_is = ap (λ (bytes : List ℕ). format_of (format_in bytes)) first;
      header = header_of 2 1;
      frames =
          subst (λ (bytes : List ℕ).
          HasFrames bytes (header_of 2 1) (payloads kind.Short nothing [])) (sym first)
          begun_frames;
      legal = tt;
      kinds = tt;
      within = tt;
      bounded = lit≤ tt;
    })

-- ---- file 0 emptied, and a journal begun in it

first_shut : (two : Two File) → IsFree two → is_open two.first.now ≡ false
first_shut two free = (or_parts (is_open two.first.now) (is_open two.second.now) free.none_open).0

second_shut : (two : Two File) → IsFree two → is_open two.second.now ≡ false
second_shut two free = (or_parts (is_open two.first.now) (is_open two.second.now) free.none_open).1

second_only : (two : Two File) (c : List ℕ) → IsFree two → IsFileImage two.second c
    → is_open c ≡ false
second_only two c free image =
    ap is_open (settled_only two.second.now c
    (subst (λ (f : File). IsFileImage f c) free.second_settled image)) ∙ second_shut two free

shut_by : (two : Two File) (left : List ℕ) → IsFree two → BeforeOrShut two.first.now left
    → is_open left ≡ false
shut_by two left free either =
    elim either [ inl same ↦ ap is_open same ∙ first_shut two free | inr shut ↦ shut ]

-- what passes while file 0 is emptied
clear_moment : (two : Two File) (links : Links) → IsFree two → (m : Moment) → FileMoment
    (BeforeOrShut two.first.now) two (sent_of links.told) 0 m → InitMoment two links m
clear_moment two links free m moment =
    inr (
      free.none_open,
      inl (λ clients. shut_stands clients m.files (shut_by two m.files.first free moment.this)
          (second_only two m.files.second free moment.other)),
      moment.nothing_sent,
    )

-- and while a journal is begun in it
create_moment : JournalsStand → (two : Two File) (links : Links) → IsFree two → (at : Two File)
    → at.second ≡ two.second → (m : Moment)
    → FileMoment (ShutOrBegun 2 1) at (sent_of links.told) 0 m → InitMoment two links m
create_moment stand two links free at same m moment =
    let other : is_open m.files.second ≡ false =
    second_only two m.files.second free
    (subst (λ (f : File). IsFileImage f m.files.second) same moment.other) in
    elim moment.this [
      | inl shut ↦ inr (
        free.none_open,
        inl (λ clients. shut_stands clients m.files shut other),
        moment.nothing_sent,
      )
      | inr begun ↦ inr (
        free.none_open,
        inr (λ clients. begun_stands stand clients m.files begun other),
        moment.nothing_sent,
      )
    ]

pub clear_moments : (two : Two File) (o0 o o' : Outside) → IsFree two → o.links ≡ o0.links
    → PassedMoments two o o' 0 (BeforeOrShut (file_of two 0).now)
    → MomentsAre o o' (InitMoment two o0.links)
clear_moments two o0 o o' free links passed =
    moments_map o o' (FileMoment (BeforeOrShut two.first.now) two (sent_of o.links.told) 0)
    (InitMoment two o0.links)
    (λ m moment. clear_moment two o0.links free m
    (subst (λ (l : Links). FileMoment (BeforeOrShut two.first.now) two (sent_of l.told) 0 m)
    links moment)) passed

pub create_moments : JournalsStand → (two at : Two File) (o0 o o' : Outside) → IsFree two
    → at.second ≡ two.second → o.links ≡ o0.links → PassedMoments at o o' 0 (ShutOrBegun 2 1)
    → MomentsAre o o' (InitMoment two o0.links)
create_moments stand two at o0 o o' free same links passed =
    moments_map o o' (FileMoment (ShutOrBegun 2 1) at (sent_of o.links.told) 0)
    (InitMoment two o0.links)
    (λ m moment. create_moment stand two o0.links free at same m
    (subst (λ (l : Links). FileMoment (ShutOrBegun 2 1) at (sent_of l.told) 0 m) links moment))
    passed

-- ---- the end

pub begins_from : JournalsStand → (two at end : Two File) → IsFree two → at.second ≡ two.second
    → CreatesJournal 0 2 1 at end → BeginsJournal two end
begins_from stand two at end free same creates =
    let second : end.second ≡ settled two.second.now = creates.other ∙ same ∙ free.second_settled in
    record {
      first = creates.bytes;
      second = second;
      each_image = λ clients left image.
          begun_stands stand clients left
          (settled_only (begun_bytes 2 1) left.first
          (subst (λ (f : File). IsFileImage f left.first) creates.bytes image.first))
          (ap is_open (settled_only two.second.now left.second
          (subst (λ (f : File). IsFileImage f left.second) second image.second))
          ∙ second_shut two free);
    }

-- ---- the calls before

-- after the barrier a crash leaves what it might have left before
settled_now : (o : Outside) (two at : Two File) (links : Links) (m : Moment) → o.files ≡ Some two
    → SyncsBoth two at → IsNow at links m → IsNow two links m
settled_now o two at links m told settles now =
    let image : IsImage (record { first = settled two.first.now; second = settled two.second.now })
    m.files =
    subst (λ (t : Two File). IsImage t m.files) settles now.image in
    let reads = o.reads two told in
    record {
      image = record {
        first =
            subst (IsFileImage two.first)
            (sym (settled_only two.first.now m.files.first image.first)) reads.first;
        second =
            subst (IsFileImage two.second)
            (sym (settled_only two.second.now m.files.second image.second)) reads.second;
      };
      sent = now.sent;
    }

pub look_moments : (o0 o1 o2 : Outside) → AnyImage o0 o1 → DiskRun o0 o1
    → RelatesTold SyncsBoth o0.files o1.files → OnlyReads o1 o2 → AnyImage o0 o2
look_moments o0 o1 o2 first run becomes looks two told =
    let there = becomes_told SyncsBoth o0.files o1.files two told becomes in
    moments_then o0 o1 o2 (IsNow two o0.links) (first two told)
    (moments_map o1 o2 (IsNow there.0 o1.links) (IsNow two o0.links)
    (λ m now. settled_now o0 two there.0 o0.links m told there.2
    (subst (λ (l : Links). IsNow there.0 l m) run.same_links now))
    (looks.moments there.0 there.1))

-- the open headers of files that read the same
open_same : (two at : Two File) → SyncsBoth two at → has_open at ≡ has_open two
open_same two at settles = ap has_open settles

-- a moment of the later calls
pub moment_first : (o : Outside) (two at : Two File) (links : Links) (m : Moment)
    → o.files ≡ Some two → SyncsBoth two at → InitMoment at links m → InitMoment two links m
moment_first o two at links m told settles moment =
    elim moment [
      | inl now ↦ inl (settled_now o two at links m told settles now)
      | inr none ↦ inr (sym (open_same two at settles) ∙ none.0, none.1, none.2)
    ]

pub init_looks : (o0 o1 : Outside) (two : Two File) → o0.files ≡ Some two → AnyImage o0 o1
    → MomentsAre o0 o1 (InitMoment two o0.links)
init_looks o0 o1 two told looks =
    moments_map o0 o1 (IsNow two o0.links) (InitMoment two o0.links) (λ m now.
    inl now) (looks two told)

pub init_then : (o0 o1 o2 : Outside) (two at : Two File) → o0.files ≡ Some two → AnyImage o0 o1
    → DiskRun o0 o1 → SyncsBoth two at → MomentsAre o1 o2 (InitMoment at o1.links)
    → MomentsAre o0 o2 (InitMoment two o0.links)
init_then o0 o1 o2 two at told looks run settles later =
    moments_then o0 o1 o2 (InitMoment two o0.links) (init_looks o0 o1 two told looks)
    (moments_map o1 o2 (InitMoment at o1.links) (InitMoment two o0.links)
    (λ m moment. moment_first o0 two at o0.links m told settles
    (subst (λ (l : Links). InitMoment at l m) run.same_links moment)) later)

-- clear and then create
pub begin_then : JournalsStand → (two at : Two File) (o0 o1 o2 : Outside) → IsFree two
    → o0.files ≡ Some two → PassedMoments two o0 o1 0 (BeforeOrShut (file_of two 0).now)
    → DiskRun o0 o1 → at.second ≡ two.second
    → PassedMoments at o1 o2 0 (ShutOrBegun 2 1) → MomentsAre o0 o2 (InitMoment two o0.links)
begin_then stand two at o0 o1 o2 free told cleared run same created =
    moments_then o0 o1 o2 (InitMoment two o0.links) (clear_moments two o0 o0 o1 free refl cleared)
    (create_moments stand two at o0 o1 o2 free same run.same_links created)

pub begun_becomes : JournalsStand → (o0 o1 o2 : Option (Two File)) → ForSome o0 IsFree → RelatesTold
    (ClearsFile 0) o0 o1 → RelatesTold (CreatesJournal 0 2 1) o1 o2
    → RelatesTold BeginsJournal o0 o2
begun_becomes stand None None None free first second = tt
begun_becomes stand None None (Some c) free first second = absurd second
begun_becomes stand None (Some b) o2 free first second = absurd first
begun_becomes stand (Some a) None o2 free first second = absurd first
begun_becomes stand (Some a) (Some b) None free first second = absurd second
begun_becomes stand (Some a) (Some b) (Some c) free first second =
    begins_from stand a b c (free a refl) first.other second

pub found_first : (result : Result Bool DiskFault) (o0 o1 : Option (Two File))
    → RelatesTold SyncsBoth o0 o1 → IfOk result (λ found. ForSome o1 (λ two. has_open two ≡ found))
    → IfOk result (λ found. ForSome o0 (λ two. has_open two ≡ found))
found_first (Err e) o0 o1 becomes had = tt
found_first (Ok found) o0 o1 becomes had = λ two told. let at =
    becomes_told SyncsBoth o0 o1 two told becomes in sym (open_same two at.0 at.2) ∙ had at.0 at.1
