-- What contracts see of a node, what its calls need, and what they do.
use Rattle.std.specs.Prelude.{◌≡◌, ℕ, ◌+◌, ◌<◌, ◌≤◌, Bool, true, false, cond, List, [], ◌∷◌, length, Option, Some, slice_get, Result, Ok, Err, refl}
use Rattle.std.specs.Coded.{Coded, code_by, coded×, coded_bool, coded_list, coded_option, coded_ℕ}
use Rattle.outside.specs.declared.limits.TheConstants.{LINKS}
use Rattle.outside.specs.Outside.{Outside}
use Rattle.sync_rules.specs.declared.entries.Session.{Session}
use Rattle.sync_rules.specs.Clients.{Meaning}
use Rattle.sync_rules.specs.Facts.{Facts, session_at}
use Rattle.sync_rules.specs.Steps.{IsSettled}
use Rattle.sync_store.specs.Store.{StoreValue, store_code}
use Rattle.sync_store.specs.Ready.{IsReady}
use Rattle.sync_node.specs.declared.fault.NodeFault.{NodeFault}
use Rattle.sync_node.specs.declared.fault.NodeFault.TheVariants as fault
use Rattle.sync_node.specs.declared.limits.TheConstants.{MOST_LINKS}
use Rattle.sync_node.specs.declared.link.Link.{Link}
use Rattle.sync_course.specs.contracts.ends.LinkEnd as link_ending
use Rattle.sync_rules.specs.contracts.entries.Session as session
use Rattle.record_stream.specs.Reading.{ReaderState}
use Rattle.sync_course.specs.declared.ends.LinkEnd.{LinkEnd}
use Rattle.sync_course.specs.Links.{is_going}
use Rattle.sync_node.specs.Causes.{sessions_of}
use Rattle.sync_node.specs.Working.{HasGivenItems}

-- the store, the number of sessions when the node was made, the links that are attached, and
-- whether a call failed
pub record NodeValue : Type 0 where
  pub store : StoreValue
  pub first : ℕ
  pub links : List Link
  pub closed : Bool

abbrev pub reader_code : Coded ReaderState
reader_code =
    code_by (ℕ × (List ℕ × Bool)) (coded× coded_ℕ (coded× (coded_list coded_ℕ) coded_bool)) (λ r. (r.place, (r.bytes, r.failed)))
    (λ p. record { place = p.0; bytes = p.1.0; failed = p.1.1 })
    (λ _. refl)

abbrev pub link_code : Coded Link
link_code =
    code_by (Session × (ReaderState × (Option (List ℕ) × LinkEnd)))
    (coded× session.the_row.coded (coded× reader_code (coded× (coded_option (coded_list coded_ℕ)) link_ending.the_row.coded)))
    (λ l. (l.session, (l.reader, (l.nonce, l.end))))
    (λ p. record { session = p.0; reader = p.1.0; nonce = p.1.1.0; end = p.1.1.1 })
    (λ _. refl)

abbrev pub node_code : Coded NodeValue
node_code =
    code_by (StoreValue × (ℕ × (List Link × Bool))) (coded× store_code (coded× coded_ℕ (coded× (coded_list link_code) coded_bool)))
    (λ n. (n.store, (n.first, (n.links, n.closed))))
    (λ p. record { store = p.0; first = p.1.0; links = p.1.1.0; closed = p.1.1.1 })
    (λ _. refl)

-- what a node has beside its store: the number of sessions when it was made, the links that are
-- attached, and whether a call failed
pub record AsideValue : Type 0 where
  pub first : ℕ
  pub links : List Link
  pub closed : Bool

abbrev pub aside_code : Coded AsideValue
aside_code =
    code_by (ℕ × (List Link × Bool)) (coded× coded_ℕ (coded× (coded_list link_code) coded_bool))
    (λ a. (a.first, (a.links, a.closed)))
    (λ p. record { first = p.0; links = p.1.0; closed = p.1.1 })
    (λ _. refl)

-- the node that it is with a store
abbrev pub node_with : AsideValue → StoreValue → NodeValue
node_with a store = record {
  store = store;
  first = a.first;
  links = a.links;
  closed = a.closed;
}

-- what is made beside a store
abbrev pub new_aside : StoreValue → AsideValue
new_aside store = record { first = store.state.facts.begun; links = []; closed = false }

-- a node that is made of a store
abbrev pub new_node : StoreValue → NodeValue
new_node store = record {
  store = store;
  first = store.state.facts.begun;
  links = [];
  closed = false;
}

-- ---- links

-- how many links are still asked
abbrev pub asked_among : List Link → ℕ
asked_among [] = 0
asked_among (l ∷ ls) = cond (is_going l.end) 1 0 + asked_among ls

-- a link of a node has its session in the journal, numbered by the link, and its reader waits for
-- bytes
pub record IsAttached (first : ℕ) (f : Facts) (number : ℕ) (l : Link) : Type 0 where
  pub numbered : l.session.number ≡ first + number
  pub known : session_at f.sessions l.session.number ≡ Some l.session
  pub waits : HasGivenItems l

-- the sessions that began since the node was made are those of its links
pub record AreAttached (first : ℕ) (links : List Link) (f : Facts) : Type 0 where
  pub begun : f.begun ≡ first + length links
  pub each : (number : ℕ) (l : Link) → slice_get links number ≡ Some l → IsAttached first f number l

-- the links are those of some node over this journal
pub record AreSome (links : List Link) (f : Facts) : Type 0 where
  pub first : ℕ
  pub attached : AreAttached first links f

-- links may go on with these clients and this host: the store is ready, the links were dialled on
-- this host, and where there are any the journal is settled
pub record MayGoOn (clients : Meaning) (links : List Link) (s : StoreValue)
    (o : Outside) : Type 0 where
  pub ready : IsReady clients s o.files
  pub settled : 0 < length links → IsSettled clients s.state.facts
  pub dialled : length links ≤ o.links.dialled

-- ---- the node

-- what every node keeps
pub record IsNode (n : NodeValue) : Type 0 where
  pub few : length n.links ≤ LINKS
  pub attached : n.closed ≡ false → AreAttached n.first n.links n.store.state.facts

-- what a node keeps that is made of a store and what stands beside it
pub record IsAside (n : NodeValue) : Type 0 where
  pub few : length n.links ≤ MOST_LINKS
  pub attached : n.closed ≡ false → AreAttached n.first n.links n.store.state.facts

-- where no call failed, the node may go on
abbrev pub MayRun : Meaning → NodeValue → Outside → Type 0
MayRun clients n o = n.closed ≡ false → MayGoOn clients n.links n.store o

-- Whatever a call on its links answers, a node keeps the number of its first session, and on its
-- links, as many as before, the sessions that they had.
pub record KeepsSessions (n n' : NodeValue) : Type 0 where
  pub same_first : n'.first ≡ n.first
  pub same_sessions : sessions_of n'.links ≡ sessions_of n.links

-- what a call answers where an earlier call of the node failed: it does nothing
pub record StaysClosed {T H : Type 0} (n n' : NodeValue) (host host' : H)
    (result : Result T NodeFault) : Type 0 where
  pub answer : result ≡ Err fault.Closed
  pub same : n' ≡ n
  pub same_host : host' ≡ host

-- Closed is no answer of a node that was not closed; after any fault the node is closed, and else
-- it is not.
abbrev pub AnswersAndCloses : {T : Type 0} → Result T NodeFault → NodeValue → Type 0
AnswersAndCloses (Ok _) n' = n'.closed ≡ false
AnswersAndCloses (Err fault.Memory) n' = n'.closed ≡ true
AnswersAndCloses (Err fault.DiskFault) n' = n'.closed ≡ true
AnswersAndCloses (Err fault.Full) n' = n'.closed ≡ true
AnswersAndCloses (Err fault.Closed) n' = ⊥
