-- Frames that wait in a group, and those that were written.
use Rattle.std.proofs.Common.{◌≡◌, ℕ, ◌+◌, ◌≤◌, List, [], ◌∷◌, ◌++◌}
use Rattle.std.proofs.Common.{length, Option, refl, sym, ap, ◌∙◌, subst, arith}
use Rattle.std.proofs.Common.{append_assoc, append-nil, length-append}
use Rattle.std.specs.Prelude.{OnOk, Result, Ok, Err}
use Rattle.frame_journal.specs.declared.fault.DiskFault.{DiskFault}
use Rattle.std.specs.List.{flat_map}
use Rattle.std.specs.Option.{ForSome}
use Rattle.std.proofs.lemmas.Grind.{flat_map-append}
use Rattle.outside.specs.Disk.{RelatesTold}
use Rattle.outside.specs.Files.{Two, File, file_of}
use Rattle.outside.specs.Frames.{HasFrames, IsAtRest, frame_of}
use Rattle.outside.proofs.CallSteps.{becomes_map, becomes_none, becomes_then}
use Rattle.frame_journal.specs.Append.{IsFramed}
use Rattle.frame_journal.specs.Gathering.{AppendsPayloads, GathersFrames, WritesPayloads}
use Rattle.frame_journal.specs.Group.{AppendsFrames, IsGroup, IsJoined, flushed, group_len}
use Rattle.frame_journal.specs.Journal.{JournalValue}
use Rattle.frame_journal.proofs.ClearSteps.{becomes_new}
use Rattle.frame_journal.proofs.Framed.{framed_long}
use Rattle.frame_journal.proofs.GroupSteps.{flushed_moved, joined_none, none_joined}

-- ---- what was written

pub frames_long : (first second : List (List ℕ)) → length (flat_map frame_of (first ++ second))
    ≡ length (flat_map frame_of first) + length (flat_map frame_of second)
frames_long first second =
    ap length (flat_map-append frame_of first second)
    ∙ length-append (flat_map frame_of first) (flat_map frame_of second)

adds_none : (file end : ℕ) (two : Two File) → AppendsPayloads file end [] two two
adds_none file end two = record {
  other = refl;
  frames = λ header payloads frames is.
      subst (HasFrames (file_of two file).now header) (sym (append-nil payloads)) frames;
}

adds_then : (file end : ℕ) (first second : List (List ℕ)) (a b c : Two File)
    → AppendsPayloads file end first a b
    → AppendsPayloads file (end + length (flat_map frame_of first)) second b c
    → AppendsPayloads file end (first ++ second) a c
adds_then file end first second a b c one two = record {
  other = two.other ∙ one.other;
  frames = λ header payloads frames is.
      subst (HasFrames (file_of c file).now header) (append_assoc payloads first second)
      (two.frames header (payloads ++ first) (one.frames header payloads frames is)
      (omega (arith, frames_long payloads first, is)));
}

pub adding_none : (n : JournalValue) (o : Option (Two File)) → WritesPayloads n n [] o o
adding_none n o = record {
  grows = record { file_is = refl; format_is = refl; generation_is = refl; end_is = omega arith };
  adds = becomes_none (AppendsPayloads n.file n.end []) o (adds_none n.file n.end);
}

pub adding_then : (n0 n1 n2 : JournalValue) (first second : List (List ℕ))
    (o0 o1 o2 : Option (Two File))
    → WritesPayloads n0 n1 first o0 o1 → WritesPayloads n1 n2 second o1 o2
    → WritesPayloads n0 n2 (first ++ second) o0 o2
adding_then n0 n1 n2 first second o0 o1 o2 one two =
    let long = length (flat_map frame_of first) in
    let At : ℕ → ℕ → Type 0 = λ file end. RelatesTold (AppendsPayloads file end second) o1 o2 in
    let there : At n0.file (n0.end + long) =
    subst (λ end. At n0.file end) one.grows.end_is
    (subst (λ file. At file n1.end) one.grows.file_is two.adds) in
    record {
      grows = record {
        file_is = two.grows.file_is ∙ one.grows.file_is;
        format_is = two.grows.format_is ∙ one.grows.format_is;
        generation_is = two.grows.generation_is ∙ one.grows.generation_is;
        end_is = omega (arith, one.grows.end_is, two.grows.end_is, frames_long first second);
      };
      adds =
          becomes_then (AppendsPayloads n0.file n0.end first)
          (AppendsPayloads n0.file (n0.end + long) second)
          (AppendsPayloads n0.file n0.end (first ++ second)) o0 o1 o2
          (λ a b c x y. adds_then n0.file n0.end first second a b c x y) one.adds there;
    }

-- ---- frames that wait

-- no call was made
pub gathers_none : (n : JournalValue) (group : List ℕ) (o : Option (Two File))
    → GathersFrames n n group group [] o o
gathers_none n group o = record {
  each = λ waiting joined. record {
    written = [];
    rest = waiting;
    parts = sym (append-nil waiting);
    joined = joined;
    writes = adding_none n o;
  };
}

-- a frame more waits
pub gathers_add : (n : JournalValue) (group group' : List ℕ) (p : List ℕ) (o : Option (Two File))
    → ((waiting : List (List ℕ)) → IsJoined waiting group → IsJoined (waiting ++ p ∷ []) group')
    → GathersFrames n n group group' (p ∷ []) o o
gathers_add n group group' p o added = record {
  each = λ waiting joined. record {
    written = [];
    rest = waiting ++ p ∷ [];
    parts = refl;
    joined = added waiting joined;
    writes = adding_none n o;
  };
}

joined_long : (waiting : List (List ℕ)) (group : List ℕ) → IsJoined waiting group
    → group_len group ≡ length (flat_map frame_of waiting)
joined_long waiting group joined =
    omega (arith, ap length joined.spelled, length-append (flat_map frame_of waiting) (0 ∷ []))

-- those that wait were written
pub gathers_flushed : (n n' : JournalValue) (group : List ℕ) (o o' : Option (Two File))
    → n' ≡ flushed n group → RelatesTold (AppendsFrames n.file n.end group) o o'
    → GathersFrames n n' group (0 ∷ []) [] o o'
gathers_flushed n n' group o o' is becomes =
    let moved = flushed_moved n n' group is in
    record {
      each = λ waiting joined. record {
        written = waiting;
        rest = [];
        parts = refl;
        joined = joined_none;
        writes = record {
          grows = record {
            file_is = moved.file_is;
            format_is = moved.format_is;
            generation_is = moved.generation_is;
            end_is = omega (arith, moved.end_is, joined_long waiting group joined);
          };
          adds =
              becomes_map (AppendsFrames n.file n.end group)
              (AppendsPayloads n.file n.end waiting) o o'
              (λ a b x. record {
                other = x.other;
                frames = λ header payloads frames end_is.
                    x.frames waiting header payloads joined frames end_is;
              }) becomes;
        };
      };
    }

pub gathers_then : (n0 n1 n2 : JournalValue) (g0 g1 g2 : List ℕ) (first second : List (List ℕ))
    (o0 o1 o2 : Option (Two File)) → GathersFrames n0 n1 g0 g1 first o0 o1
    → GathersFrames n1 n2 g1 g2 second o1 o2 → GathersFrames n0 n2 g0 g2 (first ++ second) o0 o2
gathers_then n0 n1 n2 g0 g1 g2 first second o0 o1 o2 one two = record {
  each = λ waiting joined.
      let a = one.each waiting joined in
      let b = two.each a.rest a.joined in
      record {
        written = a.written ++ b.written;
        rest = b.rest;
        parts =
            append_assoc a.written b.written b.rest
            ∙ ap (λ l. a.written ++ l) b.parts
            ∙ sym (append_assoc a.written a.rest second)
            ∙ ap (λ l. l ++ second) a.parts
            ∙ append_assoc waiting first second;
        joined = b.joined;
        writes = adding_then n0 n1 n2 a.written b.written o0 o1 o2 a.writes b.writes;
      };
}

-- where none waited and none waits all were written
pub gathers_whole : (n n' : JournalValue) (added : List (List ℕ)) (o o' : Option (Two File))
    → GathersFrames n n' (0 ∷ []) (0 ∷ []) added o o' → WritesPayloads n n' added o o'
gathers_whole n n' added o o' gathers =
    let all = gathers.each [] joined_none in
    let none : all.rest ≡ [] = none_joined all.rest all.joined in
    subst (λ l. WritesPayloads n n' l o o')
    (sym (append-nil all.written) ∙ ap (λ l. all.written ++ l) (sym none) ∙ all.parts) all.writes

-- some frames wait
pub gathers_waits : (n n' : JournalValue) (g g' : List ℕ) (added : List (List ℕ))
    (o o' : Option (Two File)) → IsGroup g → GathersFrames n n' g g' added o o' → IsGroup g'
gathers_waits n n' g g' added o o' waits gathers =
    let all = gathers.each waits.payloads waits.joined in
    record { payloads = all.rest; joined = all.joined }

pub waits_none : IsGroup (0 ∷ [])
waits_none = record { payloads = []; joined = joined_none }

-- ---- behind a flush

pub flushed_rests : (n n' : JournalValue) (group : List ℕ) (o o' : Option (Two File))
    → n' ≡ flushed n group → RelatesTold (AppendsFrames n.file n.end group) o o'
    → ForSome o' (λ two. IsAtRest two n'.file n'.end)
flushed_rests n n' group o o' is becomes two told =
    let moved = flushed_moved n n' group is in
    let from = becomes_new (AppendsFrames n.file n.end group) o o' two told becomes in
    let Rests : ℕ → ℕ → Type 0 = λ t e. IsAtRest two t e in
    subst (λ (t : ℕ). Rests t n'.end) (sym moved.file_is)
    (subst (Rests n.file) (sym moved.end_is) from.2.at_rest)

-- a frame that a group may hold alone
pub framed_few : (framed : List ℕ) → IsFramed framed → length framed ≤ 1048576
framed_few framed is_framed =
    omega (arith, framed_long framed is_framed, is_framed.fits.1)

-- by the answer of a flush
pub gathers_answer : (n n' : JournalValue) (group group' : List ℕ) (o o' : Option (Two File))
    (result : Result (Unit {0}) DiskFault) → OnOk result (n' ≡ flushed n group)
    → OnOk result (group' ≡ 0 ∷ [])
    → OnOk result (RelatesTold (AppendsFrames n.file n.end group) o o')
    → OnOk result (GathersFrames n n' group group' [] o o')
gathers_answer n n' group group' o o' (Ok u) is empty becomes =
    subst (λ g. GathersFrames n n' group g [] o o') (sym empty)
    (gathers_flushed n n' group o o' is becomes)
gathers_answer n n' group group' o o' (Err e) is empty becomes = tt

-- how far the frames reach, written or not
pub gathers_long : (n n' : JournalValue) (g g' : List ℕ) (added : List (List ℕ))
    (o o' : Option (Two File)) → IsGroup g → GathersFrames n n' g g' added o o'
    → n'.end + group_len g' ≡ n.end + group_len g + length (flat_map frame_of added)
gathers_long n n' g g' added o o' waits gathers =
    let all = gathers.each waits.payloads waits.joined in
    let same : length (flat_map frame_of (all.written ++ all.rest))
    ≡ length (flat_map frame_of (waits.payloads ++ added)) =
    ap (λ (ps : List (List ℕ)). length (flat_map frame_of ps)) all.parts in
    omega (
      arith,
      same,
      all.writes.grows.end_is,
      joined_long waits.payloads g waits.joined,
      joined_long all.rest g' all.joined,
      frames_long all.written all.rest,
      frames_long waits.payloads added,
    )
