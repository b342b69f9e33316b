-- One batch that joins those that wait, and a fault that goes on by `?`.
use Rattle.std.specs.Prelude.{IsErrAnd}
use Rattle.std.proofs.Common.{◌≡◌, ℕ, ◌+◌, ◌≤◌, true, false, Bool, List, sym, ◌∙◌, ap, subst}
use Rattle.std.proofs.Common.{Result, Ok, Err, arith}
use Rattle.outside.specs.Faults.{CountRose}
use Rattle.outside.specs.Outside.{Outside}
use Rattle.entry_codec.specs.Payloads.{payload_len}
use Rattle.entry_codec.specs.Standing.{room_of}
use Rattle.sync_rules.specs.declared.entries.Entry.{Entry}
use Rattle.sync_rules.specs.Clients.{Meaning}
use Rattle.sync_rules.specs.Facts.{after_all}
use Rattle.sync_store.specs.declared.fault.StoreFault.{StoreFault}
use Rattle.sync_store.specs.Commits.{needed}
use Rattle.sync_store.specs.Gathering.{JoinsBehind, KeepsBatches}
use Rattle.sync_store.specs.Store.{StoreValue, format_meant}

pub true≢false : {P : Type 0} (b : Bool) → b ≡ true → b ≡ false → P
true≢false b is not = absurd (let e : true ≡ false = sym is ∙ not in cc)

-- the sum of a store that has the batches of one before is that from before
pub needed_stays : (s new : StoreValue) (batch : List Entry) → KeepsBatches s new
    → needed new batch ≡ needed s batch
needed_stays s new batch stays = λ i.
    stays.end i + 5 + payload_len (format_meant (stays.format i)) batch
    + room_of (format_meant (stays.format i)) (after_all (stays.facts i) batch)

-- a batch that is another one joined those that wait
pub of_its_batch : (clients : Meaning) (s s' : StoreValue) (batch its : List Entry)
    (result : Result (Unit {0}) StoreFault) (o o' : Outside) → batch ≡ its
    → JoinsBehind clients s s' batch result o o' → JoinsBehind clients s s' its result o o'
of_its_batch clients s s' batch its result o o' is joins =
    subst (λ (b : List Entry). JoinsBehind clients s s' b result o o') is joins

-- a fault that goes on by `?`
pub on_error : {A : Type 0} (r : Result A StoreFault) (x : StoreFault)
    (P : Result A StoreFault → Type 0) → IsErrAnd r (λ e. e ≡ x) → P (Err x) → P r
on_error (Ok a) x P is p = absurd is
on_error (Err e) x P is p = subst (λ (y : StoreFault). P (Err y)) (sym is) p

-- ---- a flush that failed

pub closed_so : (s new : StoreValue) → new ≡ record s { closed = true } → new.closed ≡ true
closed_so s new is = ap (λ (v : StoreValue). v.closed) is

-- a count that rose behind one that did not fall
pub rose_behind : (a b c : ℕ) → a ≤ b → CountRose b c → CountRose a c
rose_behind a b c later rose = omega (arith, later, rose)
