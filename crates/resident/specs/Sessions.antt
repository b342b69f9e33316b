-- What the calls of sessions over links do: each settles the journal first, where want of memory had
-- left a step, and is then that call of the node which the era is with its store.
use Rattle.std.specs.Prelude.{◌≡◌, ◌⊎◌, ◌&&◌, ℕ, ◌+◌, ◌<◌, Bool, true, false, not, nat_le, nat_lt}
use Rattle.std.specs.Prelude.{List, length, slice_get}
use Rattle.std.specs.Prelude.{Option, None, Some, Result, Ok, Err, IfErr, IfOk, IsErrAnd, OnOk}
use Rattle.std.specs.Option.{option_map}
use Rattle.outside.specs.Host.{AsksNonce, ReadsClock}
use Rattle.outside.specs.Outside.{DiskRun, Outside, QuietCall}
use Rattle.outside.specs.declared.failed.Failed.{Failed}
use Rattle.sync_rules.specs.Clients.{Meaning}
use Rattle.sync_rules.specs.declared.entries.Mode.{Mode}
use Rattle.sync_rules.specs.declared.entries.Mode.TheVariants as mode
use Rattle.sync_rules.specs.declared.limits.TheConstants.{MAX_SESSIONS}
use Rattle.sync_store.specs.Store.{StoreValue}
use Rattle.sync_words.specs.declared.outcome.Outcome.{Outcome}
use Rattle.sync_words.specs.declared.outcome.Outcome.TheVariants as outcome
use Rattle.store_commands.specs.Commit.{SettlesAs}
use Rattle.store_commands.specs.Serving.{IsReadyToServe, IsServed}
use Rattle.sync_course.specs.declared.ends.LinkEnd.{LinkEnd}
use Rattle.sync_node.specs.declared.fault.NodeFault.{NodeFault}
use Rattle.sync_node.specs.declared.fault.NodeFault.TheVariants as fault
use Rattle.sync_node.specs.declared.limits.TheConstants.{MOST_LINKS}
use Rattle.sync_node.specs.declared.link.Link.{Link}
use Rattle.sync_node.specs.declared.node.Plan.{Plan}
use Rattle.sync_node.specs.Calls.{AsideGoes, AttachStops, CallAnswers, CallStops}
use Rattle.sync_node.specs.Causes.{PushesOne}
use Rattle.sync_node.specs.Node.{AsideValue, KeepsSessions, new_aside, node_with}
use Rattle.sync_node.specs.OnRuns.{AskingStopped, AskingWent, BeginStopped, BeginWent, ByFault}
use Rattle.sync_node.specs.OnRuns.{OutsSent, OutsStopped}
use Rattle.sync_node.specs.Plans.{session_of}
use Rattle.link_host.specs.Coming.{ForgetsLinks, TakesUp}
use Rattle.resident.specs.declared.resident.Resident.{Resident}
use Rattle.resident.specs.Staying.{RunsBeside}

-- ---- the links of an era

-- how many it has taken up
abbrev pub links_in : Option AsideValue → ℕ
links_in None = 0
links_in (Some a) = length a.links

-- how the link of this number stands
abbrev pub end_in : Option AsideValue → ℕ → Option LinkEnd
end_in None link = None
end_in (Some a) link = option_map (λ (l : Link). l.end) (slice_get a.links link)

-- there is such a link, and its session has this number
abbrev pub IsSessionOn : Option AsideValue → (link number : ℕ) → Type 0
IsSessionOn None link number = ⊥
IsSessionOn (Some a) link number = (link < length a.links) × (number ≡ a.first + link)

-- there is such a link, and it stands so
abbrev pub stands_so : (LinkEnd → Bool) → Option LinkEnd → Bool
stands_so test None = false
stands_so test (Some end) = test end

-- ---- behind a call

-- that failed: no era runs, and behind a fault of the disk the node has ended
abbrev pub FailsBehind : NodeFault → Resident → Type 0
FailsBehind fault.DiskFault r = (r.aside ≡ None) × (r.ended ≡ true)
FailsBehind _ r = (r.aside ≡ None) × (r.ended ≡ false)

-- the era goes on as it is now, or the call failed
abbrev pub GoesOnBehind : {T : Type 0} → Result T NodeFault → AsideValue → Resident → Type 0
GoesOnBehind (Ok _) a r = (r.aside ≡ Some a) × (r.ended ≡ false)
GoesOnBehind (Err e) a r = FailsBehind e r

-- what stands behind it
abbrev pub EraStands : {T : Type 0} → Meaning → Result T NodeFault → AsideValue → StoreValue → Outside
    → Type 0
EraStands clients (Ok _) a s o = IsReadyToServe clients s o × RunsBeside a s o
EraStands clients (Err fault.DiskFault) a s o = Unit {0}
EraStands clients (Err fault.Closed) a s o = ⊥
EraStands clients (Err _) a s o = IsReadyToServe clients s o

-- ---- settling first

-- the fault of a call that was stopped so while the journal was settled
abbrev pub fault_of : Outcome → NodeFault
fault_of outcome.Memory = fault.Memory
fault_of _ = fault.DiskFault

-- the journal was settled as far as this says
pub record Settles (clients : Meaning) (s s' : StoreValue) (o o' : Outside)
    (came : Result (Unit {0}) Outcome) : Type 0 where
  pub run : DiskRun o o'
  pub settles : SettlesAs clients s s' o o' came

-- it was settled, and then this was so of the store and the host
pub record OnceSettled {H : Type 0} (tells : H → Outside) (clients : Meaning) (s : StoreValue)
    (old : H) (P : StoreValue → H → Type 0) : Type 0 where
  pub store : StoreValue
  pub host : H
  pub settled : Settles clients s store (tells old) (tells host) (Ok tt)
  pub has : P store host

-- it was not, and nothing else was done
pub record StopsSettling (clients : Meaning) (s s' : StoreValue) (o o' : Outside) (e : NodeFault)
    : Type 0 where
  pub came : Outcome
  pub settled : Settles clients s s' o o' (Err came)
  pub is : e ≡ fault_of came

-- by the answer
abbrev pub SettlesOr : Meaning → (s s' : StoreValue) → (o o' : Outside)
    → Result (Unit {0}) NodeFault → Type 0
SettlesOr clients s s' o o' (Ok _) = Settles clients s s' o o' (Ok tt)
SettlesOr clients s s' o o' (Err e) = StopsSettling clients s s' o o' e

-- what stands behind it
abbrev pub SettledStands : Meaning → Result (Unit {0}) NodeFault → StoreValue → Outside → Type 0
SettledStands clients (Ok _) s o = IsServed clients s o
SettledStands clients (Err fault.Memory) s o = IsReadyToServe clients s o
SettledStands clients (Err _) s o = Unit {0}

-- this was so once it was settled, or it was not settled
abbrev pub SettlesFirst : {T H : Type 0} → (H → Outside) → Meaning → (s s' : StoreValue)
    → (old new : H) → Result T NodeFault → (StoreValue → H → Type 0) → Type 0
SettlesFirst tells clients s s' old new result P =
    OnceSettled tells clients s old P
    ⊎ IsErrAnd result (StopsSettling clients s s' (tells old) (tells new))

-- ---- on a link of the era

-- a link was asked once, or that was stopped
pub record AsksLink {H : Type 0} (tells : H → Outside) (clients : Meaning) (link : ℕ)
    (a a' : AsideValue) (s s' : StoreValue) (old new : H) (result : Result Bool NodeFault)
    : Type 0 where
  pub answers : CallAnswers (node_with a s) (node_with a' s') old new result
  pub goes : AsideGoes (node_with a s) (node_with a' s') (tells old) (tells new)
  pub kept : KeepsSessions (node_with a s) (node_with a' s')
  pub stops : CallStops clients (node_with a' s') (tells old) (tells new) result
  pub went : IfOk result
      (AskingWent clients a.first link a.links a'.links s s' (tells old) (tells new))
  pub stopped : IfErr result (ByFault
      (AskingStopped clients a.first link a.links a'.links s s' (tells old) (tells new)))

-- what was due on it at this reading was sent, or that was stopped
pub record SendsDue {H : Type 0} (tells : H → Outside) (clients : Meaning) (link now : ℕ)
    (a a' : AsideValue) (s s' : StoreValue) (old new : H) (result : Result ℕ NodeFault)
    : Type 0 where
  pub answers : CallAnswers (node_with a s) (node_with a' s') old new result
  pub goes : AsideGoes (node_with a s) (node_with a' s') (tells old) (tells new)
  pub kept : KeepsSessions (node_with a s) (node_with a' s')
  pub stops : CallStops clients (node_with a' s') (tells old) (tells new) result
  pub went : IfOk result
      (OutsSent clients a.first link now a.links a'.links s s' (tells old) (tells new))
  pub stopped : IfErr result (ByFault
      (OutsStopped clients a.first link now a.links a'.links s s' (tells old) (tells new)))

-- the clock was read first
pub record ReadsAndSends {H : Type 0} (tells : H → Outside) (clients : Meaning) (link : ℕ)
    (a a' : AsideValue) (s s' : StoreValue) (old new : H) (result : Result ℕ NodeFault)
    : Type 0 where
  pub read : H
  pub now : ℕ
  pub quiet : QuietCall (tells old) (tells read)
  pub reading : ReadsClock now (tells old).links (tells read).links
  pub sends : SendsDue tells clients link now a a' s s' read new result

-- a call on a link of the era that runs did this, once the journal was settled
pub record OnEra {T H : Type 0} (tells : H → Outside) (clients : Meaning) (r r' : Resident)
    (old new : H) (result : Result T NodeFault)
    (Did : (a a' : AsideValue) → StoreValue → H → Type 0) : Type 0 where
  pub era : AsideValue
  pub ran : r.aside ≡ Some era
  pub left : AsideValue
  pub goes_on : GoesOnBehind result left r'
  pub did : SettlesFirst tells clients r.store r'.store old new result (Did era left)

abbrev pub HearsLink : {H : Type 0} → (H → Outside) → Meaning → ℕ → (r r' : Resident)
    → (old new : H) → Result Bool NodeFault → Type 0
HearsLink tells clients link r r' old new result =
    OnEra tells clients r r' old new result
    (λ a a' s host. AsksLink tells clients link a a' s r'.store host new result)

abbrev pub SendsLink : {H : Type 0} → (H → Outside) → Meaning → ℕ → (r r' : Resident)
    → (old new : H) → Result ℕ NodeFault → Type 0
SendsLink tells clients link r r' old new result =
    OnEra tells clients r r' old new result
    (λ a a' s host. ReadsAndSends tells clients link a a' s r'.store host new result)

-- ---- a session that begins

-- the era that ran; or, where none did, one that begins now, before which all links of the host were
-- forgotten
abbrev pub HasEra : {H : Type 0} → (H → Outside) → Option AsideValue → StoreValue → (old new : H)
    → AsideValue → Type 0
HasEra tells (Some era) s old new a = (a ≡ era) × (new ≡ old)
HasEra tells None s old new a =
    (a ≡ new_aside s) × QuietCall (tells old) (tells new)
    × ForgetsLinks (tells old).links (tells new).links

-- none could be drawn where that failed
abbrev pub nonce_of : Result (List ℕ) Failed → Option (List ℕ)
nonce_of (Ok bytes) = Some bytes
nonce_of (Err _) = None

-- a nonce was asked for, where one is wanted
abbrev pub DrawsNonce : {H : Type 0} → (H → Outside) → (link : ℕ) → Bool → (old new : H)
    → Option (List ℕ) → Type 0
DrawsNonce tells link false old new nonce = (nonce ≡ None) × (new ≡ old)
DrawsNonce tells link true old new nonce =
    (drawn : Result (List ℕ) Failed) × QuietCall (tells old) (tells new)
    × AsksNonce link drawn (tells old).links (tells new).links × (nonce ≡ nonce_of drawn)

-- a session was begun on this link, or that was stopped
pub record BeginsOn {H : Type 0} (tells : H → Outside) (clients : Meaning) (plan : Plan)
    (nonce : Option (List ℕ)) (a a' : AsideValue) (s s' : StoreValue) (old new : H)
    (result : Result (Unit {0}) NodeFault) : Type 0 where
  pub answers : CallAnswers (node_with a s) (node_with a' s') old new result
  pub goes : AsideGoes (node_with a s) (node_with a' s') (tells old) (tells new)
  pub links : PushesOne result a.links a'.links
  pub stops : AttachStops clients (node_with a s) (node_with a' s') old new (tells old) (tells new)
      result
  pub went : OnOk result (BeginWent clients (session_of s.state.facts.begun plan nonce) a.links
      a'.links s s' (tells old) (tells new))
  pub stopped : IfErr result (ByFault (BeginStopped clients
      (session_of s.state.facts.begun plan nonce) a.links a'.links s s' (tells old) (tells new)))

-- a link was taken up for it first, and its nonce drawn
pub record TakesLink {H : Type 0} (tells : H → Outside) (clients : Meaning) (plan : Plan)
    (has_nonce : Bool) (link : ℕ) (a a' : AsideValue) (s s' : StoreValue) (old new : H)
    (result : Result (Unit {0}) NodeFault) : Type 0 where
  pub taken : H
  pub quiet : QuietCall (tells old) (tells taken)
  pub takes : TakesUp link (tells old).links (tells taken).links
  pub drawn : H
  pub nonce : Option (List ℕ)
  pub draws : DrawsNonce tells link has_nonce taken drawn nonce
  pub begins : BeginsOn tells clients plan nonce a a' s s' drawn new result

-- in the era that ran, or in one that began for it
pub record BeginsIn {H : Type 0} (tells : H → Outside) (clients : Meaning) (plan : Plan)
    (has_nonce : Bool) (link : ℕ) (era : Option AsideValue) (a' : AsideValue) (s s' : StoreValue)
    (old new : H) (result : Result (Unit {0}) NodeFault) : Type 0 where
  pub aside : AsideValue
  pub readied : H
  pub readies : HasEra tells era s old readied aside
  pub begun : TakesLink tells clients plan has_nonce link aside a' s s' readied new result

-- no memory was found for the era, and nothing was done
pub record BeginsNoEra {H : Type 0} (era : Option AsideValue) (s s' : StoreValue) (old new : H)
    (result : Result (Unit {0}) NodeFault) : Type 0 where
  pub none : era ≡ None
  pub came : result ≡ Err fault.Memory
  pub same : s' ≡ s
  pub same_host : new ≡ old

-- the number of the link, where its session began
abbrev pub numbered : ℕ → Result (Unit {0}) NodeFault → Result ℕ NodeFault
numbered link (Ok _) = Ok link
numbered link (Err e) = Err e

-- the next session of the era began, over a journal that is settled, or that was stopped
pub record BeginsNow {H : Type 0} (tells : H → Outside) (clients : Meaning) (plan : Plan)
    (has_nonce : Bool) (r r' : Resident) (old new : H) (result : Result ℕ NodeFault) : Type 0 where
  pub link : ℕ
  pub came : Result (Unit {0}) NodeFault
  pub is : result ≡ numbered link came
  pub left : AsideValue
  pub goes_on : GoesOnBehind came left r'
  pub did : BeginsNoEra r.aside r.store r'.store old new came
      ⊎ BeginsIn tells clients plan has_nonce link r.aside left r.store r'.store old new came

-- the journal was not settled, and nothing else was done
pub record StopsFirst {T : Type 0} (clients : Meaning) (r r' : Resident) (o o' : Outside)
    (result : Result T NodeFault) : Type 0 where
  pub why : NodeFault
  pub is : result ≡ Err why
  pub stops : StopsSettling clients r.store r'.store o o' why
  pub fails : FailsBehind why r'

-- once it was settled, or it was not
abbrev pub BeginsSession : {H : Type 0} → (H → Outside) → Meaning → Plan → Bool → (r r' : Resident)
    → (old new : H) → Result ℕ NodeFault → Type 0
BeginsSession tells clients plan has_nonce r r' old new result =
    OnceSettled tells clients r.store old (λ s host.
    BeginsNow tells clients plan has_nonce (record r { store = s }) r' host new result)
    ⊎ StopsFirst clients r r' (tells old) (tells new) result

-- ---- which may begin

-- a session in this mode may have a nonce, or have none
abbrev pub may_have : Mode → Bool → Bool
may_have mode.Interactive has_nonce = true
may_have mode.Batch has_nonce = not has_nonce

-- the node has not ended, the contact is known, the latency is at least 1, a nonce is wanted in
-- interactive mode alone, and the era has a number left for a link and the journal one for a session
abbrev pub may_begin : Resident → Plan → Bool → Bool
may_begin r plan has_nonce =
    not r.ended && (may_have plan.mode has_nonce && (nat_le 1 plan.latency
    && (nat_lt plan.contact r.store.state.facts.contacts
    && (nat_lt (links_in r.aside) MOST_LINKS && nat_lt r.store.state.facts.begun MAX_SESSIONS))))
