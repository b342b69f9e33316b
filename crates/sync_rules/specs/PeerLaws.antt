-- The facts about a contact in the words of entries: an entry is there; the last entry that names the pair; the count after
-- the last Asked or Tried. A session's contact is read at the place of the entry; a session that is not known there counts as one
-- with contact 0, and a legal journal names no such session.
use Rattle.std.specs.Prelude.{◌≡◌, ◌↔◌, ◌⊎◌, ℕ, ◌+◌, min, Bool, true, false, not, cond, ◌&&◌, ◌||◌, nat_eq, List, [], ◌∷◌, ◌++◌}
use Rattle.sync_ids.specs.Ids.{message_id_of}
use Rattle.sync_rules.specs.declared.entries.Entry.{Entry}
use Rattle.sync_rules.specs.declared.entries.Entry.TheVariants as entry
use Rattle.sync_rules.specs.declared.entries.Out.{Out}
use Rattle.sync_rules.specs.declared.entries.Out.TheVariants as out
use Rattle.sync_rules.specs.declared.entries.Tried.{Tried}
use Rattle.sync_rules.specs.declared.limits.TheConstants.{MAX_TRIES}
use Rattle.sync_rules.specs.Lists.{same_id, is_among}
use Rattle.sync_rules.specs.Facts.{Facts, Id, after, after_all, nothing, contact_of, latency_of, is_held, row_at, wanted_from, expiry_after, wait_for}

-- a test of an entry at its place: of the facts before it, and of the entry
abbrev pub Test : Type 0
Test = Facts → Entry → Bool

-- ---- entries of a pair

-- the session is one with this contact
abbrev pub is_with : ℕ → Facts → ℕ → Bool
is_with contact f session = nat_eq contact (contact_of f.sessions session)

-- what a brief account keeps is of the pair
abbrev pub is_of : ℕ → Id → Tried → Bool
is_of contact id t = nat_eq contact t.contact && same_id t.id id

-- the entry makes an acknowledgement owed: an Arrive or Again entry of the message on a session with the contact, or a Tried
-- entry of the pair that says owed
abbrev pub is_heard : ℕ → Id → Test
is_heard contact id f (entry.Arrive s m) = is_with contact f s && same_id (message_id_of m) id
is_heard contact id f (entry.Again s x) = is_with contact f s && same_id x id
is_heard contact id f (entry.Tried t) = is_of contact id t && t.owed
is_heard contact id f _ = false

-- an Arrive, Again or Seen entry, or a Tried entry that says seen
abbrev pub is_shown_seen : ℕ → Id → Test
is_shown_seen contact id f (entry.Arrive s m) = is_with contact f s && same_id (message_id_of m) id
is_shown_seen contact id f (entry.Again s x) = is_with contact f s && same_id x id
is_shown_seen contact id f (entry.Seen s x) = is_with contact f s && same_id x id
is_shown_seen contact id f (entry.Tried t) = is_of contact id t && t.seen
is_shown_seen contact id f _ = false

-- an Asked entry, or a Tried entry that says asked
abbrev pub is_asked : ℕ → Id → Test
is_asked contact id f (entry.Asked s x) = is_with contact f s && same_id x id
is_asked contact id f (entry.Tried t) = is_of contact id t && t.asked
is_asked contact id f _ = false

-- an entry from which tries are counted: an Asked or Tried entry
abbrev pub is_counted_from : ℕ → Id → Test
is_counted_from contact id f (entry.Asked s x) = is_with contact f s && same_id x id
is_counted_from contact id f (entry.Tried t) = is_of contact id t
is_counted_from contact id f _ = false

-- an Offered or Want entry
abbrev pub is_offered : ℕ → Id → Test
is_offered contact id f (entry.Offered s x) = is_with contact f s && same_id x id
is_offered contact id f (entry.Want c x) = nat_eq contact c && same_id x id
is_offered contact id f _ = false

-- what acknowledges, requests, sends, and sends or offers the message
abbrev pub acks : Id → Out → Bool
acks id (out.Acks ids) = is_among ids id
acks id _ = false

abbrev pub requests : Id → Out → Bool
requests id (out.Requests ids) = is_among ids id
requests id _ = false

abbrev pub sends : Id → Out → Bool
sends id (out.Send x) = same_id x id
sends id _ = false

abbrev pub tries : Id → Out → Bool
tries id (out.Send x) = same_id x id
tries id (out.Offers ids) = is_among ids id
tries id _ = false

-- an Out entry to the contact that passes a test
abbrev pub is_out : ℕ → (Out → Bool) → Test
is_out contact test f (entry.Out s now what) = is_with contact f s && test what
is_out contact test f _ = false

-- what ends that an acknowledgement is owed: an Out entry to the contact whose Acks name the message, or a Tried entry of the
-- pair that does not say owed
abbrev pub is_acked : ℕ → Id → Test
is_acked contact id f (entry.Tried t) = is_of contact id t && not t.owed
is_acked contact id f (entry.Out s now what) = is_with contact f s && acks id what
is_acked contact id f _ = false

-- what ends that the message is asked for: an Out entry that sends it to the contact, or a Tried entry of the pair that does
-- not say asked
abbrev pub is_answered : ℕ → Id → Test
is_answered contact id f (entry.Tried t) = is_of contact id t && not t.asked
is_answered contact id f (entry.Out s now what) = is_with contact f s && sends id what
is_answered contact id f _ = false

-- the tries and the expiry that an entry states
abbrev pub tries_stated : Entry → ℕ
tries_stated (entry.Tried t) = t.tries
tries_stated _ = 0

abbrev pub expiry_stated : Entry → ℕ
expiry_stated (entry.Tried t) = wait_for t.tries t.expiry
expiry_stated _ = 0

-- what the last of these entries states, 0 where there is none
abbrev pub last_stated : (Entry → ℕ) → List Entry → ℕ
last_stated stated [] = 0
last_stated stated (e ∷ []) = stated e
last_stated stated (e ∷ d ∷ es) = last_stated stated (d ∷ es)

-- ---- places

-- no entry of these passes at its place, the facts before the first being given
abbrev pub NonePasses : Test → Facts → List Entry → Type 0
NonePasses test f entries = (before behind : List Entry) (e : Entry) → entries ≡ before ++ e ∷ behind → test (after_all f before) e ≡ false

-- the last entry that passes one of two tests passes the first: some entry passes it, and no later one the second
pub record IsLast (first second : Test) (f : Facts) (entries : List Entry) : Type 0 where
  pub before : List Entry
  pub of : Entry
  pub behind : List Entry
  pub stands : entries ≡ before ++ of ∷ behind
  pub passes : first (after_all f before) of ≡ true
  pub then : NonePasses second (after (after_all f before) of) behind

-- how many of these entries pass at their places
abbrev pub count_at : Test → Facts → List Entry → ℕ
count_at test f [] = 0
count_at test f (e ∷ es) = cond (test f e) (1 + count_at test (after f e) es) (count_at test (after f e) es)

-- a test that nothing passes
abbrev pub never : Test
never f e = false

-- entries end with one that passes at its place
pub record EndsWithPassing (test : Test) (entries : List Entry) : Type 0 where
  pub before : List Entry
  pub of : Entry
  pub stands : entries ≡ before ++ of ∷ []
  pub passes : test (after_all nothing before) of ≡ true

-- the entries are cut behind the last one that passes, or before all where none does
pub record IsCutBehind (test : Test) (entries before behind : List Entry) : Type 0 where
  pub stands : entries ≡ before ++ behind
  pub starts : (before ≡ []) ⊎ EndsWithPassing test before
  pub then : NonePasses test (after_all nothing before) behind

-- ---- the six facts

-- seen: there is an Arrive, Again or Seen entry of the message on a session with the contact, or a Tried entry of the pair
-- that says seen
abbrev pub SeenLaw : List Entry → Type 0
SeenLaw entries = (contact : ℕ) (id : Id)
    → ((row_at (after_all nothing entries).rows contact id).seen ≡ true) ↔ IsLast (is_shown_seen contact id) never nothing entries

-- owed: the last entry among the Arrive and Again entries of the message on sessions with the contact, the Out entries to
-- it whose Acks name the message, and the Tried entries of the pair is an Arrive, an Again, or a Tried that says owed
abbrev pub OwedLaw : List Entry → Type 0
OwedLaw entries = (contact : ℕ) (id : Id)
    → ((row_at (after_all nothing entries).rows contact id).owed ≡ true) ↔ IsLast (is_heard contact id) (is_acked contact id) nothing entries

-- asked: the last entry among the Asked entries of the message on sessions with the contact, the Out entries to it that
-- send the message, and the Tried entries of the pair is an Asked, or a Tried that says asked
abbrev pub AskedLaw : List Entry → Type 0
AskedLaw entries = (contact : ℕ) (id : Id)
    → ((row_at (after_all nothing entries).rows contact id).asked ≡ true) ↔ IsLast (is_asked contact id) (is_answered contact id) nothing entries

-- wanted: the id is not held, and the last entry among the Offered entries of the id on sessions with the contact, its Want
-- entries for the contact, and the Out entries to it whose Requests name the id is an Offered or a Want
abbrev pub WantedLaw : List Entry → Type 0
WantedLaw entries = (contact : ℕ) (id : Id)
    → (is_among (wanted_from (after_all nothing entries).wanted contact) id ≡ true)
    ↔ ((is_held (after_all nothing entries).held id ≡ false) × IsLast (is_offered contact id) (is_out contact (requests id)) nothing entries)

-- tries: the number of the Out entries to the contact that send or offer the message after the last Asked or Tried entry
-- of the pair, or of all where there is none, and the tries that this Tried states, cut at MAX_TRIES
abbrev pub TriesLaw : List Entry → Type 0
TriesLaw entries = (contact : ℕ) (id : Id) (before behind : List Entry)
    → IsCutBehind (is_counted_from contact id) entries before behind
    → (row_at (after_all nothing entries).rows contact id).tries
    ≡ min MAX_TRIES (last_stated tries_stated before + count_at (is_out contact (tries id)) (after_all nothing before) behind)

-- expiry: where no such Out entry stands there, what that Tried states, and else 0
abbrev pub NoExpiryLaw : List Entry → Type 0
NoExpiryLaw entries = (contact : ℕ) (id : Id) (before behind : List Entry)
    → IsCutBehind (is_counted_from contact id) entries before behind
    → NonePasses (is_out contact (tries id)) (after_all nothing before) behind
    → (row_at (after_all nothing entries).rows contact id).expiry ≡ last_stated expiry_stated before

-- expiry: otherwise the time of the last Out entry that counts, and twice the latency of its session, doubled with each try
-- but the first; the cut of tries at MAX_TRIES changes no expiry where the latency is at least 1, since it stops at 2^64 - 1
abbrev pub ExpiryLaw : List Entry → Type 0
ExpiryLaw entries = (contact : ℕ) (id : Id) (before behind : List Entry)
    → IsCutBehind (is_counted_from contact id) entries before behind
    → (earlier later : List Entry) (session now : ℕ) (what : Out) → behind ≡ earlier ++ entry.Out session now what ∷ later
    → is_out contact (tries id) (after_all (after_all nothing before) earlier) (entry.Out session now what) ≡ true
    → NonePasses (is_out contact (tries id)) (after (after_all (after_all nothing before) earlier) (entry.Out session now what)) later
    → (row_at (after_all nothing entries).rows contact id).expiry
    ≡ expiry_after now (latency_of (after_all (after_all nothing before) earlier).sessions session)
    (min MAX_TRIES (last_stated tries_stated before + count_at (is_out contact (tries id)) (after_all nothing before) behind))

-- there is such a cut for every test
pub record HasCut (test : Test) (entries : List Entry) : Type 0 where
  pub before : List Entry
  pub behind : List Entry
  pub cut : IsCutBehind test entries before behind

abbrev pub CutLaw : List Entry → Type 0
CutLaw entries = (contact : ℕ) (id : Id) → HasCut (is_counted_from contact id) entries
