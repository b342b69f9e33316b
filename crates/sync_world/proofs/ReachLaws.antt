-- Worlds that steps lead to, and what links show after moves.
use Rattle.std.proofs.Common.{◌≡◌, ℕ, Bool, true, false, if◌then◌else◌, List, [], ◌∷◌, ◌++◌, map}
use Rattle.std.proofs.Common.{length, refl, sym, ◌∙◌, ap, subst, subst₂, inr, Some, append_assoc}
use Rattle.std.proofs.Common.{append-nil}
use Rattle.std.specs.Prelude.{slice_get, slice_set}
use Rattle.sync_ids.specs.declared.records.Record.{Record}
use Rattle.sync_rules.specs.Clients.{Meaning}
use Rattle.sync_rules.specs.Facts.{Journal}
use Rattle.world_links.specs.declared.link.Link.{Link}
use Rattle.world_links.specs.declared.moves.Move.{Move}
use Rattle.world_links.specs.declared.moves.Side.{Side}
use Rattle.world_links.specs.declared.moves.Side.TheVariants as side
use Rattle.world_links.specs.Links.{all_carried, cut, moved}
use Rattle.world_laws.specs.Moves.{Move as WorldMove, Carry, Cut, link_after_move, links_after_move}
use Rattle.world_laws.specs.Moves.{world_after}
use Rattle.world_laws.specs.Worlds.{AreSteps, End, IsStep, WorldLink as RecordLink, World}
use Rattle.world_laws.specs.Worlds.{last_of, unused_end}
use Rattle.sync_world.specs.Cited.{WorldLaws}
use Rattle.sync_world.specs.Shown.{MovesShown, MovesTo, ReachesWorld, ShowsLink, ShowsLinks}
use Rattle.sync_world.specs.Shown.{link_arrived, carried, emptied_end, given_more, is_near, move_of}
use Rattle.sync_world.specs.Shown.{world_of}
use Rattle.sync_world.proofs.ShownMoves.{shown_carried, shown_cut_at, shown_moved_at}

-- ---- steps

pub reaches_none : (clients : Meaning) (w : World) → ReachesWorld clients w w
reaches_none clients w = record { worlds = []; steps = tt; last = refl }

pub reaches_one : (clients : Meaning) (w w' : World) → IsStep clients w w'
    → ReachesWorld clients w w'
reaches_one clients w w' step = record { worlds = w' ∷ []; steps = (step, tt); last = refl }

steps_join : (clients : Meaning) (w : World) (first second : List World) → AreSteps clients w first
    → AreSteps clients (last_of w first) second → AreSteps clients w (first ++ second)
steps_join clients w [] second a b = b
steps_join clients w (x ∷ first) second a b = (a.0, steps_join clients x first second a.1 b)

last_joined : (w : World) (first second : List World) → last_of w (first ++ second) ≡ last_of
    (last_of w first) second
last_joined w [] second = refl
last_joined w (x ∷ first) second = last_joined x first second

pub reaches_then : (clients : Meaning) (a b c : World) → ReachesWorld clients a b
    → ReachesWorld clients b c → ReachesWorld clients a c
reaches_then clients a b c first second = record {
  worlds = first.worlds ++ second.worlds;
  steps =
      steps_join clients a first.worlds second.worlds first.steps
      (subst (λ (w : World). AreSteps clients w second.worlds) (sym first.last) second.steps);
  last =
      last_joined a first.worlds second.worlds
      ∙ (ap (λ (w : World). last_of w second.worlds) first.last ∙ second.last);
}

pub linked_reached : (clients : Meaning) (d e : ℕ) (js : List Journal) (xs : List RecordLink)
    → (d ≡ e → ⊥)
    → ReachesWorld clients (world_of js xs)
    (world_of js (xs ++ record { near = unused_end d; far = unused_end e } ∷ []))
linked_reached clients d e js xs two =
    reaches_one clients (world_of js xs)
    (world_of js (xs ++ record { near = unused_end d; far = unused_end e } ∷ []))
    (inr (d, e, record { two = two; journals = refl; links = refl }))

-- ---- moves

pub moves_none : (clients : Meaning) (w : World) → MovesTo clients w w
moves_none clients w = record { reached = reaches_none clients w; journals = refl }

pub moves_then : (clients : Meaning) (a b c : World) → MovesTo clients a b → MovesTo clients b c
    → MovesTo clients a c
moves_then clients a b c first second = record {
  reached = reaches_then clients a b c first.reached second.reached;
  journals = second.journals ∙ first.journals;
}

pub move_reached : WorldLaws → (clients : Meaning) (w : World) (move : WorldMove) (near : Bool)
    (i : ℕ) → MovesTo clients w (world_after move near i w)
move_reached laws clients w move near i = record {
  reached = reaches_one clients w (world_after move near i w) (laws.moves clients w move near i);
  journals = refl;
}

-- ---- one link of a world becomes another one by moves

-- the links before one, and those behind it, stay
record OneMoves (clients : Meaning) (x y : RecordLink) : Type 0 where
  each : (js : List Journal) (before behind : List RecordLink) → MovesTo clients
      (world_of js (before ++ x ∷ behind)) (world_of js (before ++ y ∷ behind))

one_then : (clients : Meaning) (x y z : RecordLink) → OneMoves clients x y → OneMoves clients y z
    → OneMoves clients x z
one_then clients x y z first second = record {
  each = λ js before behind.
      moves_then clients (world_of js (before ++ x ∷ behind)) (world_of js (before ++ y ∷ behind))
      (world_of js (before ++ z ∷ behind)) (first.each js before behind)
      (second.each js before behind);
}

one_none : (clients : Meaning) (x : RecordLink) → OneMoves clients x x
one_none clients x =
    record { each = λ js before behind. moves_none clients (world_of js (before ++ x ∷ behind)) }

after_at : (move : WorldMove) (near : Bool) (before : List RecordLink) (x : RecordLink)
    (behind : List RecordLink)
    → links_after_move move near (length before) (before ++ x ∷ behind)
    ≡ before ++ link_after_move move near x ∷ behind
after_at move near [] x behind = refl
after_at move near (y ∷ before) x behind =
    ap (λ (l : List RecordLink). y ∷ l) (after_at move near before x behind)

one_move : WorldLaws → (clients : Meaning) (move : WorldMove) (near : Bool) (x : RecordLink)
    → OneMoves clients x (link_after_move move near x)
one_move laws clients move near x = record {
  each = λ js before behind.
      subst (λ (l : List RecordLink).
      MovesTo clients (world_of js (before ++ x ∷ behind)) (world_of js l))
      (after_at move near before x behind)
      (move_reached laws clients (world_of js (before ++ x ∷ behind)) move near (length before));
}

-- an end that was given one record and then others was given all of them
given_next : (x : End) (r : Record) (rs : List Record) → given_more rs
    (given_more (r ∷ []) x) ≡ given_more (r ∷ rs) x
given_next x r rs =
    ap (λ (given : List Record). record x { given = given }) (append_assoc x.given (r ∷ []) rs)

given_none : (x : End) → x ≡ given_more [] x
given_none x = ap (λ (given : List Record). record x { given = given }) (sym (append-nil x.given))

-- all that is in flight from an end is carried, one record after the other
carry_near : WorldLaws → (clients : Meaning) (rs : List Record) (near far : End)
    → OneMoves clients (record { near = record near { flight = rs }; far = far })
    (record { near = emptied_end near; far = given_more rs far })
carry_near laws clients [] near far =
    subst (λ (e : End). OneMoves clients (record { near = emptied_end near; far = far })
    (record { near = emptied_end near; far = e })) (given_none far)
    (one_none clients (record { near = emptied_end near; far = far }))
carry_near laws clients (r ∷ rs) near far =
    let next : RecordLink =
    record { near = record near { flight = rs }; far = given_more (r ∷ []) far } in
    one_then clients (record { near = record near { flight = r ∷ rs }; far = far }) next
    (record { near = emptied_end near; far = given_more (r ∷ rs) far })
    (one_move laws clients Carry true (record {
      near = record near { flight = r ∷ rs };
      far = far;
    }))
    (subst (λ (e : End). OneMoves clients next (record { near = emptied_end near; far = e }))
    (given_next far r rs) (carry_near laws clients rs near (given_more (r ∷ []) far)))

carry_far : WorldLaws → (clients : Meaning) (rs : List Record) (near far : End)
    → OneMoves clients (record { near = near; far = record far { flight = rs } })
    (record { near = given_more rs near; far = emptied_end far })
carry_far laws clients [] near far =
    subst (λ (e : End). OneMoves clients (record { near = near; far = emptied_end far })
    (record { near = e; far = emptied_end far })) (given_none near)
    (one_none clients (record { near = near; far = emptied_end far }))
carry_far laws clients (r ∷ rs) near far =
    let next : RecordLink =
    record { near = given_more (r ∷ []) near; far = record far { flight = rs } } in
    one_then clients (record { near = near; far = record far { flight = r ∷ rs } }) next
    (record { near = given_more (r ∷ rs) near; far = emptied_end far })
    (one_move laws clients Carry false
    (record { near = near; far = record far { flight = r ∷ rs } }))
    (subst (λ (e : End). OneMoves clients next (record { near = e; far = emptied_end far }))
    (given_next near r rs) (carry_far laws clients rs (given_more (r ∷ []) near) far))

one_carried : WorldLaws → (clients : Meaning) (near : Bool) (x : RecordLink) → OneMoves clients x
    (carried near x)
one_carried laws clients true x = carry_near laws clients x.near.flight x.near x.far
one_carried laws clients false x = carry_far laws clients x.far.flight x.near x.far

-- what a link shows after all in flight on it arrived
record OneArrives (clients : Meaning) (l : Link) (x : RecordLink) : Type 0 where
  after : RecordLink
  shown : ShowsLink l after
  moves : OneMoves clients x after

arrives : WorldLaws → (clients : Meaning) (cut : Bool) (l : Link) (x : RecordLink) → ShowsLink l x
    → OneArrives clients (if cut then l else all_carried side.Far (all_carried side.Near l)) x
arrives laws clients true l x s = record { after = x; shown = s; moves = one_none clients x }
arrives laws clients false l x s = record {
  after = carried false (carried true x);
  shown =
      shown_carried side.Far (all_carried side.Near l) (carried true x)
      (shown_carried side.Near l x s);
  moves =
      one_then clients x (carried true x) (carried false (carried true x))
      (one_carried laws clients true x) (one_carried laws clients false (carried true x));
}

-- the same of several links, behind others that stay
record SomeArrive (clients : Meaning) (ls : List Link) (xs : List RecordLink) : Type 0 where
  after : List RecordLink
  shown : ShowsLinks ls after
  each : (js : List Journal) (before : List RecordLink) → MovesTo clients
      (world_of js (before ++ xs)) (world_of js (before ++ after))

behind_next : (before : List RecordLink) (x : RecordLink) (xs : List RecordLink)
    → (before ++ x ∷ []) ++ xs ≡ before ++ x ∷ xs
behind_next before x xs = append_assoc before (x ∷ []) xs

some_next : (clients : Meaning) (l : Link) (ls : List Link) (x : RecordLink) (xs : List RecordLink)
    → OneArrives clients l x → SomeArrive clients ls xs
    → SomeArrive clients (l ∷ ls) (x ∷ xs)
some_next clients l ls x xs first later = record {
  after = first.after ∷ later.after;
  shown = (first.shown, later.shown);
  each = λ js before.
      moves_then clients (world_of js (before ++ x ∷ xs)) (world_of js (before ++ first.after ∷ xs))
      (world_of js (before ++ first.after ∷ later.after))
      (first.moves.each js before xs)
      (subst₂ (λ (a b : List RecordLink). MovesTo clients (world_of js a) (world_of js b))
      (behind_next before first.after xs) (behind_next before first.after later.after)
      (later.each js (before ++ first.after ∷ [])));
}

some_arrive : WorldLaws → (clients : Meaning) (ls : List Link) (xs : List RecordLink)
    → ShowsLinks ls xs → SomeArrive clients (map link_arrived ls) xs
some_arrive laws clients [] [] s =
    record {
      after = [];
      shown = tt;
      each = λ js before. moves_none clients (world_of js (before ++ []));
    }
some_arrive laws clients [] (x ∷ xs) s = absurd s
some_arrive laws clients (l ∷ ls) [] s = absurd s
some_arrive laws clients (l ∷ ls) (x ∷ xs) s =
    some_next clients (link_arrived l) (map link_arrived ls) x xs
    (arrives laws clients l.is_cut l x s.0)
    (some_arrive laws clients ls xs s.1)

-- ---- what links show after moves

pub shown_stays : (clients : Meaning) (ls : List Link) (xs : List RecordLink) → ShowsLinks ls xs
    → MovesShown clients ls xs
shown_stays clients ls xs s =
    record { after = xs; shown = s; moves = λ js. moves_none clients (world_of js xs) }

pub move_shown : WorldLaws → (clients : Meaning) (how : Move) (from : Side) (i : ℕ) (ls : List Link)
    (xs : List RecordLink) (l : Link) → slice_get ls i ≡ Some l
    → ShowsLinks ls xs → MovesShown clients (slice_set ls i (moved how from l)) xs
move_shown laws clients how from i ls xs l is s = record {
  after = links_after_move (move_of how) (is_near from) i xs;
  shown = shown_moved_at how from i ls xs l is s;
  moves = λ js. move_reached laws clients (world_of js xs) (move_of how) (is_near from) i;
}

pub cut_shown : WorldLaws → (clients : Meaning) (i : ℕ) (ls : List Link) (xs : List RecordLink)
    (l : Link) → slice_get ls i ≡ Some l → ShowsLinks ls xs
    → MovesShown clients (slice_set ls i (cut l)) xs
cut_shown laws clients i ls xs l is s = record {
  after = links_after_move Cut true i xs;
  shown = shown_cut_at true i ls xs l is s;
  moves = λ js. move_reached laws clients (world_of js xs) Cut true i;
}

pub all_arrived_shown : WorldLaws → (clients : Meaning) (ls : List Link) (xs : List RecordLink)
    → ShowsLinks ls xs → MovesShown clients (map link_arrived ls) xs
all_arrived_shown laws clients ls xs s =
    let some = some_arrive laws clients ls xs s in
    record { after = some.after; shown = some.shown; moves = λ js. some.each js [] }
