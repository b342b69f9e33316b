-- Batches that a store gathers: none, one, and some behind others.
use Rattle.std.proofs.Common.{◌≡◌, false, List, [], ◌∷◌, ◌++◌, refl, sym, ap}
use Rattle.std.proofs.Common.{◌∙◌}
use Rattle.std.proofs.Common.{subst, append_assoc, arith, Result, Ok, Err}
use Rattle.std.specs.Prelude.{IsErrAnd}
use Rattle.outside.specs.Outside.{DiskRun, Outside}
use Rattle.outside.specs.Runs.{IsFront}
use Rattle.sync_rules.specs.declared.entries.Entry.{Entry}
use Rattle.sync_rules.specs.Clients.{Meaning}
use Rattle.sync_rules.specs.Facts.{after_batches}
use Rattle.sync_store.specs.declared.fault.StoreFault.TheVariants as fault
use Rattle.sync_store.specs.Fitting.{ImagesStand}
use Rattle.sync_store.specs.Gathering.{JoinsBehind}
use Rattle.sync_store.specs.Store.{StoreValue}
use Rattle.mailbox_core.proofs.Joined.{needed_stays}
use Rattle.mailbox_core.proofs.Together.{comes_joined, comes_none, comes_then}
use Rattle.sync_words.specs.declared.outcome.Outcome.{Outcome}
use Rattle.sync_words.specs.declared.outcome.Outcome.TheVariants as outcome
use Rattle.sharing_commands.specs.Adding.{AddsSo, GathersFront, LacksRoomForTarget}

-- ---- none

-- nothing was to be added
pub nothing_added : ImagesStand → (clients : Meaning) (s : StoreValue) (o : Outside) (u : Unit {0})
    → s.closed ≡ false → GathersFront clients s s o o [] (Ok u)
nothing_added images clients s o u still = record {
  front = [];
  comes = comes_none clients images s o still;
  answer = (still, refl);
}

-- memory was wanting
pub none_added : ImagesStand → (clients : Meaning) (s : StoreValue) (o : Outside)
    (all : List (List Entry)) → s.closed ≡ false
    → GathersFront clients s s o o all (Err outcome.Memory)
none_added images clients s o all still = record {
  front = [];
  comes = comes_none clients images s o still;
  answer = (still, record { rest = all; whole = refl });
}

-- ---- one

module _ (clients : Meaning) (s s' : StoreValue) (o o' : Outside) (batch : List Entry) where
  pub one_added : (u : Unit {0}) → DiskRun o o' → JoinsBehind clients s s' batch (Ok u) o o'
      → GathersFront clients s s' o o' (batch ∷ []) (Ok u)
  one_added u run joins = record {
    front = batch ∷ [];
    comes = comes_joined clients s s' batch (Ok u) o o' run joins;
    answer = (joins.1.closed, refl);
  }

  pub one_broken : DiskRun o o' → JoinsBehind clients s s' batch (Err fault.DiskFault) o o'
      → GathersFront clients s s' o o' (batch ∷ []) (Err outcome.DiskFault)
  one_broken run joins = record {
    front = [];
    comes = comes_joined clients s s' batch (Err fault.DiskFault) o o' run joins;
    answer = (joins.1, record { rest = batch ∷ []; whole = refl });
  }

  pub one_left : DiskRun o o' → JoinsBehind clients s s' batch (Err fault.Memory) o o'
      → GathersFront clients s s' o o' (batch ∷ []) (Err outcome.Memory)
  one_left run joins = record {
    front = [];
    comes = comes_joined clients s s' batch (Err fault.Memory) o o' run joins;
    answer = (joins.2, record { rest = batch ∷ []; whole = refl });
  }

  pub one_refused : DiskRun o o' → JoinsBehind clients s s' batch (Err fault.Full) o o'
      → GathersFront clients s s' o o' (batch ∷ []) (Err outcome.Full)
  one_refused run joins = record {
    front = [];
    comes = comes_joined clients s s' batch (Err fault.Full) o o' run joins;
    answer = (
      joins.2,
      record {
        next = batch;
        rest = [];
        parts = refl;
        over = omega (arith, needed_stays s s' batch joins.1, joins.1.limit, joins.0);
      },
    );
  }

-- ---- some behind others

more_front : (xs ys front back : List (List Entry)) → front ≡ xs → IsFront back ys
    → IsFront (front ++ back) (xs ++ ys)
more_front xs ys front back same some = record {
  rest = some.rest;
  whole = ap (λ (z : List (List Entry)). xs ++ z) some.whole
      ∙ sym (append_assoc xs back some.rest)
      ∙ ap (λ (z : List (List Entry)). (z ++ back) ++ some.rest) (sym same);
}

more_lacks : (s : StoreValue) (xs ys front back : List (List Entry)) → front ≡ xs
    → LacksRoomForTarget s ys back → LacksRoomForTarget s (xs ++ ys) (front ++ back)
more_lacks s xs ys front back whole lacks = record {
  next = lacks.next;
  rest = lacks.rest;
  parts = ap (λ (z : List (List Entry)). xs ++ z) lacks.parts
      ∙ sym (append_assoc xs back (lacks.next ∷ lacks.rest))
      ∙ ap (λ (z : List (List Entry)). (z ++ back) ++ lacks.next ∷ lacks.rest) (sym whole);
  over = lacks.over;
}

more_so : (s : StoreValue) (xs ys front back : List (List Entry)) (r : Result (Unit {0}) Outcome)
    → front ≡ xs → AddsSo s ys back r
    → AddsSo s (xs ++ ys) (front ++ back) r
more_so s xs ys front back (Ok u) whole so = (
  so.0,
  ap (λ (z : List (List Entry)). z ++ back) whole
      ∙ ap (λ (z : List (List Entry)). xs ++ z) so.1,
)
more_so s xs ys front back (Err outcome.Full) whole so =
    (so.0, more_lacks s xs ys front back whole so.1)
more_so s xs ys front back (Err outcome.Memory) whole so =
    (so.0, more_front xs ys front back whole so.1)
more_so s xs ys front back (Err outcome.DiskFault) whole so =
    (so.0, more_front xs ys front back whole so.1)
more_so s xs ys front back (Err _) whole so = absurd so

-- the facts of a store that has all of the batches
pub facts_added : (clients : Meaning) (s s' : StoreValue) (o o' : Outside) (all : List (List Entry))
    (u : Unit {0}) → GathersFront clients s s' o o' all (Ok u)
    → s'.state.facts ≡ after_batches s.state.facts all
facts_added clients s s' o o' all u added =
    added.comes.facts added.answer.0 ∙ ap (after_batches s.state.facts) added.answer.1

pub adds_then : (clients : Meaning) (s0 s1 s2 : StoreValue) (o0 o1 o2 : Outside)
    (xs ys : List (List Entry)) (u : Unit {0}) (r : Result (Unit {0}) Outcome)
    → GathersFront clients s0 s1 o0 o1 xs (Ok u) → GathersFront clients s1 s2 o1 o2 ys r
    → GathersFront clients s0 s2 o0 o2 (xs ++ ys) r
adds_then clients s0 s1 s2 o0 o1 o2 xs ys u r first second = record {
  front = first.front ++ second.front;
  comes =
      comes_then clients s0 s1 s2 o0 o1 o2 first.front second.front first.answer.0 first.comes
      second.comes;
  answer = more_so s2 xs ys first.front second.front r first.answer.1 second.answer;
}

-- those behind the ones that were not added
short_front : (all front rest : List (List Entry)) → IsFront front all → IsFront front (all ++ rest)
short_front all front rest some = record {
  rest = some.rest ++ rest;
  whole = ap (λ (z : List (List Entry)). z ++ rest) some.whole ∙ append_assoc front some.rest rest;
}

short_so : (s : StoreValue) (all front rest : List (List Entry)) (came : Outcome)
    → AddsSo s all front (Err came) → AddsSo s (all ++ rest) front (Err came)
short_so s all front rest outcome.Full so = (
  so.0,
  record {
    next = so.1.next;
    rest = so.1.rest ++ rest;
    parts = ap (λ (z : List (List Entry)). z ++ rest) so.1.parts
        ∙ append_assoc front (so.1.next ∷ so.1.rest) rest;
    over = so.1.over;
  },
)
short_so s all front rest outcome.Memory so = (so.0, short_front all front rest so.1)
short_so s all front rest outcome.DiskFault so = (so.0, short_front all front rest so.1)
short_so s all front rest _ so = absurd so

pub adds_short : (clients : Meaning) (s s' : StoreValue) (o o' : Outside)
    (all rest : List (List Entry)) (came : Outcome) → GathersFront clients s s' o o' all (Err came)
    → GathersFront clients s s' o o' (all ++ rest) (Err came)
adds_short clients s s' o o' all rest came added = record {
  front = added.front;
  comes = added.comes;
  answer = short_so s' all added.front rest came added.answer;
}

-- ---- an error that goes on by `?`

pub adds_on : (r : Result (Unit {0}) Outcome) (x : Outcome) → IsErrAnd r (λ e. e ≡ x)
    → (clients : Meaning) (s s' : StoreValue) (o o' : Outside) (all : List (List Entry))
    → GathersFront clients s s' o o' all (Err x) → GathersFront clients s s' o o' all r
adds_on (Ok u) x is clients s s' o o' all added = absurd is
adds_on (Err e) x is clients s s' o o' all added =
    subst (λ (y : Outcome). GathersFront clients s s' o o' all (Err y)) (sym is) added
