-- What links show after a step of a world in bytes that is a move or a cut.
use Rattle.std.proofs.Common.{◌≡◌, ℕ, Bool, true, false, if◌then◌else◌, List, refl, sym, subst}
use Rattle.std.proofs.Common.{Option, Some, None, Result, Ok, Err}
use Rattle.std.specs.Prelude.{slice_get, slice_set}
use Rattle.sync_rules.specs.Clients.{Meaning}
use Rattle.world_devices.specs.declared.stop.StepFault.{StepFault}
use Rattle.world_devices.specs.declared.stop.StepFault.TheVariants as fault
use Rattle.world_links.specs.declared.link.Link.{Link}
use Rattle.world_links.specs.declared.moves.Move.{Move}
use Rattle.world_links.specs.declared.moves.Side.{Side}
use Rattle.world_links.specs.Links.{cut, side_end, moved, side_of}
use Rattle.world_links.specs.Moves.{is_possible}
use Rattle.world_laws.specs.Worlds.{WorldLink as RecordLink}
use Rattle.sync_world.specs.Cited.{WorldLaws}
use Rattle.sync_world.specs.Moving.{MakesOfLink, link_cut, link_moved, moved_from}
use Rattle.sync_world.specs.Shown.{MovesShown, ShowsLinks}
use Rattle.sync_world.proofs.ReachLaws.{cut_shown, move_shown, shown_stays}

-- the links are as before, or one of them becomes another one
becomes_shown : (clients : Meaning) (o : Option Link) (i : ℕ) (old new : List Link)
    (result : Result (Unit {0}) StepFault) (xs : List RecordLink)
    → MovesShown clients old xs
    → ((l : Link) → o ≡ Some l → MovesShown clients (slice_set old i l) xs)
    → MakesOfLink o i old new result → MovesShown clients new xs
becomes_shown clients None i old new (Ok u) xs stays moves becomes = absurd becomes
becomes_shown clients None i old new (Err fault.Refused) xs stays moves becomes =
    subst (λ (ls : List Link). MovesShown clients ls xs) (sym becomes) stays
becomes_shown clients None i old new (Err fault.Full) xs stays moves becomes = absurd becomes
becomes_shown clients None i old new (Err fault.Memory) xs stays moves becomes =
    subst (λ (ls : List Link). MovesShown clients ls xs) (sym becomes) stays
becomes_shown clients (Some l) i old new (Ok u) xs stays moves becomes =
    subst (λ (ls : List Link). MovesShown clients ls xs) (sym becomes) (moves l refl)
becomes_shown clients (Some l) i old new (Err fault.Refused) xs stays moves becomes = absurd becomes
becomes_shown clients (Some l) i old new (Err fault.Full) xs stays moves becomes = absurd becomes
becomes_shown clients (Some l) i old new (Err fault.Memory) xs stays moves becomes =
    subst (λ (ls : List Link). MovesShown clients ls xs) (sym becomes) stays

-- ---- moves

record IsMoved (how : Move) (o : Option Link) (m : Link) : Type 0 where
  link : Link
  was : o ≡ Some link
  from : Side
  is : moved how from link ≡ m

if_possible : (how : Move) (from : Side) (l m : Link) (b : Bool)
    → (if b then Some (moved how from l) else None) ≡ Some m → moved how from l ≡ m
if_possible how from l m true is = cc
if_possible how from l m false is = cc

moved_side : (how : Move) (l m : Link) (o : Option Side) → moved_from how l o ≡ Some m → IsMoved how
    (Some l) m
moved_side how l m None is = cc
moved_side how l m (Some from) is =
    record {
      link = l;
      was = refl;
      from = from;
      is = if_possible how from l m (is_possible how (side_end from l).flight) is;
    }

moved_link : (how : Move) (d : ℕ) (o : Option Link) (m : Link) → link_moved how d o ≡ Some m
    → IsMoved how o m
moved_link how d None m is = cc
moved_link how d (Some l) m is = moved_side how l m (side_of d l) is

pub move_becomes_shown : WorldLaws → (clients : Meaning) (how : Move) (d i : ℕ)
    (old new : List Link) (result : Result (Unit {0}) StepFault) (xs : List RecordLink)
    → MakesOfLink (link_moved how d (slice_get old i)) i old new result → ShowsLinks old xs
    → MovesShown clients new xs
move_becomes_shown laws clients how d i old new result xs becomes s =
    becomes_shown clients (link_moved how d (slice_get old i)) i old new result xs
    (shown_stays clients old xs s) (λ m is.
    let moves = moved_link how d (slice_get old i) m is in
    subst (λ (l : Link). MovesShown clients (slice_set old i l) xs) moves.is
    (move_shown laws clients how moves.from i old xs moves.link moves.was s)) becomes

-- ---- cuts

record IsCutOf (o : Option Link) (m : Link) : Type 0 where
  link : Link
  was : o ≡ Some link
  is : cut link ≡ m

if_whole : (l m : Link) (b : Bool) → (if b then None else Some (cut l)) ≡ Some m → cut l ≡ m
if_whole l m true is = cc
if_whole l m false is = cc

cut_link : (o : Option Link) (m : Link) → link_cut o ≡ Some m → IsCutOf o m
cut_link None m is = cc
cut_link (Some l) m is = record { link = l; was = refl; is = if_whole l m l.is_cut is }

pub cut_becomes_shown : WorldLaws → (clients : Meaning) (i : ℕ) (old new : List Link)
    (result : Result (Unit {0}) StepFault) (xs : List RecordLink)
    → MakesOfLink (link_cut (slice_get old i)) i old new result → ShowsLinks old xs
    → MovesShown clients new xs
cut_becomes_shown laws clients i old new result xs becomes s =
    becomes_shown clients (link_cut (slice_get old i)) i old new result xs
    (shown_stays clients old xs s) (λ m is.
    let made = cut_link (slice_get old i) m is in
    subst (λ (l : Link). MovesShown clients (slice_set old i l) xs) made.is
    (cut_shown laws clients i old xs made.link made.was s)) becomes
