-- What stands beside a store, over that store as a call on the store alone left it; and a node of the
-- two.
use Rattle.std.proofs.Common.{◌≡◌, ℕ, ◌+◌, ◌<◌, ◌≤◌, Bool, List, [], ◌∷◌, length, refl, ap, sym, subst, ◌∙◌, arith, Result, Ok, Err}
use Rattle.std.proofs.lemmas.List.{length-append}
use Rattle.outside.specs.Outside.{Outside}
use Rattle.sync_rules.specs.Clients.{Meaning}
use Rattle.sync_rules.specs.Facts.{session_at}
use Rattle.sync_rules.specs.Steps.{IsSettled}
use Rattle.sync_store.specs.Ready.{IsReady}
use Rattle.sync_store.specs.Store.{StoreValue}
use Rattle.outside.specs.declared.limits.TheConstants.{LINKS}
use Rattle.sync_node.specs.declared.link.Link.{Link}
use Rattle.sync_node.specs.Calls.{AsideGoes, CallGoes}
use Rattle.sync_node.specs.Causes.{PushesOne}
use Rattle.sync_node.specs.Courses.{links_from}
use Rattle.sync_course.specs.Links.{without_redundant}
use Rattle.sync_node.specs.Node.{AsideValue, IsAside, IsNode, KeepsSessions, MayRun, NodeValue, new_aside, node_with}
use Rattle.sync_node.specs.Sending.{ClosesSome}
use Rattle.sync_node.proofs.CauseLaws.{closed_attached, links_may, same_long, sessions_closed}

-- ---- the same aside over another store

-- whose sessions are those of before
pub aside_over : (a : AsideValue) (s s' : StoreValue)
    → s'.state.facts.sessions ≡ s.state.facts.sessions
    → s'.state.facts.begun ≡ s.state.facts.begun → IsAside (node_with a s)
    → IsAside (node_with a s')
aside_over a s s' sessions begun aside = record {
  few = aside.few;
  attached = λ opened.
      let attached = aside.attached opened in
      record {
        begun = begun ∙ attached.begun;
        each = λ number l there.
            let was = attached.each number l there in
            record {
              numbered = was.numbered;
              known = ap (λ t. session_at t l.session.number) sessions ∙ was.known;
              waits = was.waits;
            };
      };
}

-- which is ready, and settled where there are links; no link was forgotten
pub may_over : (clients : Meaning) (a : AsideValue) (s s' : StoreValue) (o o' : Outside)
    → MayRun clients (node_with a s) o → IsReady clients s' o'.files
    → (0 < length a.links → IsSettled clients s'.state.facts)
    → o.links.dialled ≤ o'.links.dialled → MayRun clients (node_with a s') o'
may_over clients a s s' o o' may ready settled dialled = λ opened. record {
  ready = ready;
  settled = settled;
  dialled = omega (arith, (may opened).dialled, dialled);
}

-- ---- one that is new

pub aside_new : (s : StoreValue) → IsAside (node_with (new_aside s) s)
aside_new s = record {
  few = omega arith;
  attached = λ _. record { begun = omega arith; each = λ number l there. cc };
}

pub may_new : (clients : Meaning) (s : StoreValue) (o : Outside) → IsReady clients s o.files
    → MayRun clients (node_with (new_aside s) s) o
may_new clients s o ready = λ _. record {
  ready = ready;
  settled = λ some. absurd (omega (arith, some));
  dialled = omega arith;
}

-- ---- one whose redundant links were closed

abbrev with_links : StoreValue → ℕ → Bool → List Link → NodeValue
with_links s first closed links = record {
  store = s;
  first = first;
  links = links;
  closed = closed;
}

module _ {links links' : List Link} (closes : ClosesSome links links') (s : StoreValue) (first : ℕ)
    (closed : Bool) where
  pub kept_closed : KeepsSessions (with_links s first closed links) (with_links s first closed links')
  kept_closed = record { same_first = refl; same_sessions = sessions_closed links links' closes }

  pub aside_closed : IsAside (with_links s first closed links)
      → IsAside (with_links s first closed links')
  aside_closed aside = record {
    few = omega (arith, closes.same_number, aside.few);
    attached = λ opened. closed_attached first links links' s (aside.attached opened) closes;
  }

-- they may go on as before
pub may_closed : (clients : Meaning) (a a' : AsideValue) (s : StoreValue) (o : Outside)
    → a' ≡ record a { links = a'.links } → ClosesSome a.links a'.links
    → MayRun clients (node_with a s) o → MayRun clients (node_with a' s) o
may_closed clients a a' s o rest closes may = λ opened.
    links_may clients a.links a'.links s o closes.same_number
    (may (sym (ap (λ (x : AsideValue). x.closed) rest) ∙ opened))

-- the links were lent to be closed
pub closes_as : {links lent new kept : List Link} → lent ≡ links → kept ≡ new
    → ClosesSome lent new → ClosesSome links kept
closes_as {lent = lent} {kept = kept} is is_kept closes =
    subst (λ (ls : List Link). ClosesSome ls kept) is
    (subst (λ (ls : List Link). ClosesSome lent ls) (sym is_kept) closes)

abbrev ClosesJust : List Link → List Link → Type 0
ClosesJust links links' =
    (heard : ℕ → List ℕ) → links_from 0 links' heard ≡ without_redundant (links_from 0 links heard)

pub exact_as : {links lent new kept : List Link} → lent ≡ links → kept ≡ new
    → ClosesJust lent new → ClosesJust links kept
exact_as {lent = lent} {kept = kept} is is_kept closes =
    subst (λ (ls : List Link). ClosesJust ls kept) is
    (subst (λ (ls : List Link). ClosesJust lent ls) (sym is_kept) closes)

-- ---- a node of the two

pub aside_of : {n : NodeValue} → IsNode n → IsAside n
aside_of node = record { few = omega (arith, node.few); attached = node.attached }

module _ {n n' : NodeValue} (node : IsNode n) where
  -- the links are as many as before
  pub node_same : IsAside n' → length n'.links ≡ length n.links → IsNode n'
  node_same aside same =
      record { few = omega (arith, same, node.few); attached = aside.attached }

  -- on them the sessions are as before
  pub node_kept : IsAside n' → KeepsSessions n n' → IsNode n'
  node_kept aside kept = node_same aside (same_long n'.links n.links kept.same_sessions)

  -- one more was attached, where that did not fail
  pub node_pushed : {T E : Type 0} (result : Result T E) → IsAside n' → length n.links < LINKS
      → PushesOne result n.links n'.links → IsNode n'
  node_pushed (Ok x) aside few pushes =
      let longer : length n'.links ≡ length n.links + 1 =
      ap (λ (ls : List Link). length ls) pushes.1 ∙ length-append n.links (pushes.0 ∷ []) in
      record { few = omega (arith, longer, few); attached = aside.attached }
  node_pushed (Err e) aside few same =
      node_same aside (ap (λ (ls : List Link). length ls) same)

pub as_many : {n n' : NodeValue} → KeepsSessions n n' → length n'.links ≡ length n.links
as_many {n = n} {n' = n'} kept = same_long n'.links n.links kept.same_sessions

-- what a call leaves
pub goes_as : {n n' : NodeValue} {o o' : Outside} → IsNode n' → AsideGoes n n' o o'
    → CallGoes n n' o o'
goes_as node goes = record {
  node = node;
  goes = goes.goes;
  same_limit = goes.same_limit;
  same_format = goes.same_format;
  same_first = goes.same_first;
  cause = goes.cause;
}
