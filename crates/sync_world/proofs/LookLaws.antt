-- What is in flight after a look at what a device sent.
use Rattle.std.proofs.Common.{◌≡◌, ℕ, zero, suc, ◌+◌, ◌*◌, ◌^◌, ◌==◌, ◌-◌, ◌≤◌, min, Bool, true}
use Rattle.std.proofs.Common.{unwrap_or}
use Rattle.std.proofs.Common.{false, if◌then◌else◌, List, [], ◌∷◌, ◌++◌, map, length, take, drop}
use Rattle.std.proofs.Common.{refl, sym, ◌∙◌, ap, arith, Option, Some, None, length-append}
use Rattle.std.proofs.Common.{length-drop, length-take, take_at, drop_at}
use Rattle.std.specs.Prelude.{nat_lt}
use Rattle.std.specs.List.{AllByRecursion}
use Rattle.std.proofs.lemmas.Grind.{flat_map-append}
use Rattle.std.proofs.lemmas.List.{map-append}
use Rattle.sync_ids.specs.declared.records.Record.{Record}
use Rattle.sync_ids.specs.Records.{IsRecord}
use Rattle.record_grammar.specs.declared.front.Front.{Front}
use Rattle.record_grammar.specs.declared.front.Front.TheVariants as front
use Rattle.record_grammar.specs.declared.front.Kind.{Kind}
use Rattle.record_grammar.specs.declared.front.Kind.TheVariants as kind
use Rattle.record_grammar.specs.declared.front.Reason.{Reason}
use Rattle.record_grammar.specs.declared.front.Reason.TheVariants as reason
use Rattle.record_grammar.specs.declared.reading.Found.TheVariants as found
use Rattle.record_grammar.specs.Reading.{decided_by, decided_payload, decided_rest, found_at}
use Rattle.record_grammar.specs.Reading.{found_in, found_payload, front_in, kind_of, refused_length}
use Rattle.record_grammar.specs.Reading.{timestamp_in}
use Rattle.record_grammar.specs.Spelling.{spelled, spelling}
use Rattle.entry_codec.specs.Spelling.{IsEntry, IsNonce}
use Rattle.sync_rules.specs.declared.entries.Entry.{Entry}
use Rattle.sync_rules.specs.declared.entries.Entry.TheVariants as entry
use Rattle.sync_rules.specs.Clients.{Meaning}
use Rattle.sync_rules.proofs.DueLaws.{sent_within}
use Rattle.sync_rules.specs.Facts.{Journal, entries_of}
use Rattle.sync_rules.specs.Naming.{BringsWithin, IsWholeNonce}
use Rattle.sync_rules.specs.Output.{sent}
use Rattle.world_links.specs.Ends.{EndValue, flight_behind}
use Rattle.world_links.specs.Flights.{first_len, first_n_records, in_front, len_of}
use Rattle.world_links.specs.Flights.{whole_records}
use Rattle.world_laws.specs.Worlds.{End}
use Rattle.sync_world.specs.Cited.{RecordLaws}
use Rattle.sync_world.specs.Shown.{IsWithinJournal, ShowsEnd}
use Rattle.sync_world.proofs.ShownMoves.{all_append}

-- ---- how long the record at the front is

by_time : (b : Bool) (type_byte n t len : ℕ)
    → (if b then front.Whole type_byte n else front.Bad reason.BadTimestamp) ≡ front.Whole t len
    → len ≡ n
by_time true type_byte n t len is = cc
by_time false type_byte n t len is = cc

payload_len : (k : Kind) (type_byte : ℕ) (payload : List ℕ) (t len : ℕ)
    → decided_payload k type_byte payload ≡ front.Whole t len → len ≡ length payload
payload_len kind.Message type_byte payload t len is =
    by_time (nat_lt (timestamp_in payload) (2 ^ 63)) type_byte (length payload) t len is
payload_len _ type_byte payload t len is = cc

header_len : (o : Option Reason) (b : Bool) (k : Kind) (type_byte : ℕ) (payload : List ℕ)
    (t len : ℕ)
    → decided_by o (if b then front.More else decided_payload k type_byte payload)
    ≡ front.Whole t len → len ≡ length payload
header_len (Some why) b k type_byte payload t len is = cc
header_len None true k type_byte payload t len is = cc
header_len None false k type_byte payload t len is = payload_len k type_byte payload t len is

fits_by : (n len : ℕ) (rest : List ℕ) → len ≡ length (take n rest) → len ≤ length rest
fits_by n len rest is = let short : length (take n rest) ≡ min n (length rest) =
    length-take n rest in omega (arith, is, short)

rest_fits : (bytes : List ℕ) (t len : ℕ) → decided_rest bytes ≡ front.Whole t len
    → 3 + len ≤ length bytes
rest_fits [] t len is = cc
rest_fits (a ∷ []) t len is = cc
rest_fits (a ∷ b ∷ []) t len is = cc
rest_fits (a ∷ b ∷ c ∷ rest) t len is =
    let n : ℕ = b * 256 + c in
    let fits : len ≤ length rest =
    fits_by n len rest (header_len (refused_length (kind_of a) n) (nat_lt (length rest) n)
    (kind_of a) a (take n rest) t len is) in
    omega (arith, fits)

version_fits : (b : Bool) (rest : List ℕ) (t len : ℕ)
    → (if b then decided_rest rest else front.Bad reason.WrongVersion) ≡ front.Whole t len
    → 4 + len ≤ suc (length rest)
version_fits true rest t len is =
    let fits : 3 + len ≤ length rest = rest_fits rest t len is in omega (arith, fits)
version_fits false rest t len is = cc

front_fits : (bytes : List ℕ) (t len : ℕ) → front_in bytes ≡ front.Whole t len
    → 4 + len ≤ length bytes
unfolding front_in
front_fits [] t len is = cc
front_fits (version ∷ rest) t len is = version_fits (version == 0) rest t len is

found_len : (k : Kind) (type_byte : ℕ) (payload : List ℕ) (r : Record) (n : ℕ)
    → found_payload k type_byte payload ≡ found.One r n → n ≡ 4 + length payload
found_len kind.Ack type_byte payload r n is = cc
found_len _ type_byte payload r n is = cc

len_found : (f : Front) (bytes : List ℕ) (r : Record) (n : ℕ)
    → ((t len : ℕ) → f ≡ front.Whole t len → 4 + len ≤ length bytes)
    → found_at f bytes ≡ found.One r n → len_of f ≡ Some n
len_found front.More bytes r n fits is = cc
len_found (front.Bad why) bytes r n fits is = cc
len_found (front.Whole t len) bytes r n fits is =
    let whole : 4 + len ≤ length bytes = fits t len refl in
    let left : length (drop 4 bytes) ≡ length bytes - 4 = length-drop 4 bytes in
    let short : length (take len (drop 4 bytes)) ≡ min len (length (drop 4 bytes)) =
    length-take len (drop 4 bytes) in
    let long : n ≡ 4 + length (take len (drop 4 bytes)) =
    found_len (kind_of t) t (take len (drop 4 bytes)) r n is in
    let same : 4 + len ≡ n = omega (arith, whole, left, short, long) in
    ap (λ (k : ℕ). Some k) same

first_len_found : (bytes : List ℕ) (r : Record) (n : ℕ) → found_in bytes ≡ found.One r n
    → first_len bytes ≡ Some n
unfolding first_len found_in
first_len_found bytes r n is = len_found (front_in bytes) bytes r n (front_fits bytes) is

-- ---- the records that stand in spelled records

none_first : first_len [] ≡ None
unfolding first_len front_in
none_first = refl

none_in : (n : ℕ) → first_n_records n [] ≡ []
unfolding first_n_records
none_in zero = refl
none_in (suc n) =
    ap (λ (o : Option ℕ). in_front [] o (first_n_records n (drop (unwrap_or o 0) []))) none_first

some_long : (r : Record) → 1 ≤ length (spelling r)
unfolding spelling
some_long r = omega arith

next_in : (n len : ℕ) (first more : List ℕ) → first_len (first ++ more) ≡ Some len
    → length first ≡ len
    → first_n_records (suc n) (first ++ more) ≡ first ∷ first_n_records n more
unfolding first_n_records
next_in n len first more is long =
    ap (λ (o : Option ℕ).
    in_front (first ++ more) o (first_n_records n (drop (unwrap_or o 0) (first ++ more)))) is
    ∙ (λ i. take_at first more len long i ∷ first_n_records n (drop_at first more len long i))

all_in : RecordLaws → (n : ℕ) (rs : List Record) → AllByRecursion IsRecord rs
    → length (spelled rs) ≤ n → first_n_records n (spelled rs) ≡ map spelling rs
all_in laws n [] within enough = none_in n
all_in laws zero (r ∷ rs) within enough =
    let some : 1 ≤ length (spelling r) = some_long r in
    let parts : length (spelling r ++ spelled rs) ≡ length (spelling r) + length (spelled rs) =
    length-append (spelling r) (spelled rs) in
    absurd (omega (arith, some, parts, enough))
all_in laws (suc n) (r ∷ rs) within enough =
    let some : 1 ≤ length (spelling r) = some_long r in
    let parts : length (spelling r ++ spelled rs) ≡ length (spelling r) + length (spelled rs) =
    length-append (spelling r) (spelled rs) in
    let left : length (spelled rs) ≤ n = omega (arith, some, parts, enough) in
    let is : first_len (spelling r ++ spelled rs) ≡ Some (length (spelling r)) =
    first_len_found (spelling r ++ spelled rs) r (length (spelling r))
    (laws.read_back r (spelling r) (spelled rs) (record { within = within.0; is = refl })) in
    next_in n (length (spelling r)) (spelling r) (spelled rs) is refl
    ∙ ap (λ (l : List (List ℕ)). spelling r ∷ l) (all_in laws n rs within.1 left)

-- the records that stand in spelled records are their spellings
pub spelled_records_in : RecordLaws → (rs : List Record) → AllByRecursion IsRecord rs
    → whole_records
    (spelled rs) ≡ map spelling rs
unfolding whole_records
spelled_records_in laws rs within = all_in laws (length (spelled rs)) rs within (omega arith)

-- ---- what a session sends

nonce_brings : (o : Option (List ℕ)) → IsNonce o → IsWholeNonce o
nonce_brings None is = tt
nonce_brings (Some nonce) is = is

entry_brings : (e : Entry) → IsEntry e → BringsWithin e
entry_brings (entry.Session s) is = nonce_brings s.nonce is.whole_nonce
entry_brings (entry.Author m) is = is
entry_brings (entry.Arrive s m) is = is.1
entry_brings (entry.Offered s id) is = is.1
entry_brings (entry.Kept from m) is = is.1
entry_brings (entry.Want contact id) is = is.1
entry_brings _ is = tt

batch_brings : (batch rest : List Entry) → AllByRecursion IsEntry batch
    → AllByRecursion BringsWithin rest → AllByRecursion BringsWithin (batch ++ rest)
batch_brings [] rest is later = later
batch_brings (e ∷ batch) rest is later = (entry_brings e is.0, batch_brings batch rest is.1 later)

journal_brings : (j : Journal) → AllByRecursion (AllByRecursion IsEntry) j
    → AllByRecursion BringsWithin (entries_of j)
journal_brings [] is = tt
journal_brings (batch ∷ j) is = batch_brings batch (entries_of j) is.0 (journal_brings j is.1)

-- what a session of a legal journal sends is within its limits
pub sent_limits : RecordLaws → (clients : Meaning) (j : Journal) (number : ℕ)
    → IsWithinJournal clients j → AllByRecursion IsRecord (sent j number)
sent_limits laws clients j number is =
    sent_within laws.whole clients j number is.legal (journal_brings j is.within)

-- ---- a look

all_behind : (rs more : List Record) → AllByRecursion IsRecord (rs ++ more)
    → AllByRecursion IsRecord more
all_behind [] more within = within
all_behind (r ∷ rs) more within = all_behind rs more within.1

-- at bytes that are all of some records and more of them, of which the former were seen
pub looked_flight : RecordLaws → (rs more : List Record) (e : EndValue) → AllByRecursion IsRecord
    (rs ++ more) → e.seen ≡ length (spelled rs)
    → flight_behind false (spelled (rs ++ more)) e ≡ e.flight ++ map spelling more
looked_flight laws rs more e within seen =
    let parts : spelled (rs ++ more) ≡ spelled rs ++ spelled more =
    flat_map-append spelling rs more in
    let behind : drop e.seen (spelled (rs ++ more)) ≡ spelled more =
    ap (λ (bytes : List ℕ). drop e.seen bytes) parts
    ∙ drop_at (spelled rs) (spelled more) e.seen (sym seen) in
    ap (λ (bytes : List ℕ). e.flight ++ whole_records bytes) behind
    ∙ ap (λ (l : List (List ℕ)). e.flight ++ l)
    (spelled_records_in laws more (all_behind rs more within))

pub looked_end : RecordLaws → (rs more : List Record) (e : EndValue) (x : End) (seen : ℕ)
    → AllByRecursion IsRecord (rs ++ more) → e.seen ≡ length (spelled rs) → ShowsEnd e x
    → ShowsEnd (record e { flight = flight_behind false (spelled (rs ++ more)) e; seen = seen })
    (record x { flight = x.flight ++ more })
looked_end laws rs more e x seen within was s = record {
  device = s.device;
  session = s.session;
  flight = looked_flight laws rs more e within was
      ∙ (ap (λ (l : List (List ℕ)). l ++ map spelling more) s.flight
      ∙ sym (map-append spelling x.flight more));
  given = s.given;
  flight_within = all_append x.flight more s.flight_within (all_behind rs more within);
  given_within = s.given_within;
}

-- on a link that is cut nothing comes to be in flight
pub shown_looked_cut : (sent : List ℕ) (seen : ℕ) (e : EndValue) (x : End) → ShowsEnd e x
    → ShowsEnd (record e { flight = flight_behind true sent e; seen = seen }) x
shown_looked_cut sent seen e x s = record {
  device = s.device;
  session = s.session;
  flight = s.flight;
  given = s.given;
  flight_within = s.flight_within;
  given_within = s.given_within;
}

-- an end that a session began on, of which nothing was seen yet
pub shown_attached : (at : Option ℕ) (number : ℕ) (e : EndValue) (x : End) → ShowsEnd e x
    → ShowsEnd (record e { at = at; session = Some number; seen = 0 })
    (record x { session = Some number })
shown_attached at number e x s = record {
  device = s.device;
  session = refl;
  flight = s.flight;
  given = s.given;
  flight_within = s.flight_within;
  given_within = s.given_within;
}

-- an end shows no more than its device, its session, what is in flight and what it was given
pub shown_same : (e e' : EndValue) (x : End) → e'.device ≡ e.device → e'.session ≡ e.session
    → e'.flight ≡ e.flight → e'.given ≡ e.given → ShowsEnd e x → ShowsEnd e' x
shown_same e e' x device session flight given s = record {
  device = s.device ∙ sym device;
  session = s.session ∙ sym session;
  flight = flight ∙ s.flight;
  given = given ∙ s.given;
  flight_within = s.flight_within;
  given_within = s.given_within;
}
