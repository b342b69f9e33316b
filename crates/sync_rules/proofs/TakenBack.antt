-- The record that lists just what some entries name is taken as these entries, if any record is.
use Rattle.std.proofs.Common.{◌≡◌, ℕ, ◌-◌, ◌≤◌, Bool, true, false, not, cond, ◌&&◌, List, [], ◌∷◌, ◌++◌, length, refl, sym, ◌∙◌, ap, inl, inr, ◌⊎◌, arith, Some, None, is_some, nat_eq, nat_lt, nat_le, eqb-true, eq-eqb}
use Rattle.std.specs.Cmp.Lexicographic.{pointwise}
use Rattle.std.specs.List.{list_all}
use Rattle.std.proofs.lemmas.Bool.{and_parts, and_from, false≢true, leb-true, le-leb}
use Rattle.sync_ids.specs.Values.{MessageValue, AreIds, IsIdList, IsMessage, IsVersionList}
use Rattle.sync_ids.specs.Ids.{message_id_of}
use Rattle.sync_ids.specs.Records.{IsRecord}
use Rattle.sync_ids.specs.declared.lists.TheConstants.{MAX_IDS, MAX_VERSIONS}
use Rattle.sync_ids.specs.declared.message.TheConstants.{MAX_BODY, MAX_TIMESTAMP}
use Rattle.sync_ids.specs.declared.records.Record.{Record}
use Rattle.sync_ids.specs.declared.records.Record.TheVariants as record_kind
use Rattle.sync_rules.specs.declared.entries.Entry.{Entry}
use Rattle.sync_rules.specs.declared.entries.Entry.TheVariants as entry
use Rattle.sync_rules.specs.Lists.{is_among, firsts}
use Rattle.sync_rules.specs.Facts.{Facts, Held, Id, contact_of, held_at, is_invisible, level_at, row_at, wanted_from}
use Rattle.sync_rules.specs.Sessions.{is_shown, is_shown_held, is_welcome, one_if, is_remembered, room_after, taken, taken_acks, taken_message_of, taken_offers, taken_requests}
use Rattle.sync_rules.proofs.RowLaws.{firsts_distinct}
use Rattle.sync_rules.specs.Allows.{gives, ids_named, is_id_list, is_message, is_record, is_whole, is_within, read_as, same_entry}
use Rattle.sync_rules.proofs.SameEntries.{arrive_itself, pair_itself, same_entries-is}
use Rattle.sync_rules.proofs.PartsOfIds.{IsPart, part_none, part_skip, part_keep, firsts_of_distinct, firsts_few, firsts_whole}
use Rattle.sync_rules.specs.declared.limits.TheConstants.{MAX_WANTED}

-- ---- limits

abbrev IsFew : {A : Type 0} → ℕ → List A → Type 0
IsFew most xs = (1 ≤ length xs) × (length xs ≤ most)

within_is : {A : Type 0} (most : ℕ) (xs : List A) → is_within most xs ≡ true → IsFew most xs
within_is most xs h =
    let parts = and_parts (nat_le 1 (length xs)) (nat_le (length xs) most) h in
    (leb-true 1 (length xs) parts.0, leb-true (length xs) most parts.1)

is_within-from : {A : Type 0} (most : ℕ) (xs : List A) → 1 ≤ length xs → length xs ≤ most → is_within most xs ≡ true
is_within-from most xs some few =
    and_from (nat_le 1 (length xs)) (nat_le (length xs) most) (le-leb 1 (length xs) some) (le-leb (length xs) most few)

whole_are : (ids : List Id) → list_all is_whole ids ≡ true → AreIds ids
whole_are [] h = tt
whole_are (id ∷ ids) h =
    let parts = and_parts (is_whole id) (list_all is_whole ids) h in
    (eqb-true (length id) 32 parts.0, whole_are ids parts.1)

are_whole : (ids : List Id) → AreIds ids → list_all is_whole ids ≡ true
are_whole [] are = refl
are_whole (id ∷ ids) are = and_from (is_whole id) (list_all is_whole ids) (eq-eqb (length id) 32 are.0) (are_whole ids are.1)

id_list_is : (ids : List Id) → is_id_list ids ≡ true → IsIdList MAX_IDS ids
id_list_is ids h =
    let parts = and_parts (is_within MAX_IDS ids) (list_all is_whole ids) h in
    let few = within_is MAX_IDS ids parts.0 in
    record { some = few.0; few = few.1; whole = whole_are ids parts.1 }

version_list_is : (versions : List ℕ) → is_within MAX_VERSIONS versions ≡ true → IsVersionList versions
version_list_is versions h = let few = within_is MAX_VERSIONS versions h in record { some = few.0; few = few.1 }

message_is : (m : MessageValue) → is_message m ≡ true → IsMessage m
message_is m h =
    let a = and_parts (nat_eq (length m.group) 32) (nat_le m.timestamp MAX_TIMESTAMP && (nat_le 1 (length m.body) && nat_le (length m.body) MAX_BODY)) h in
    let b = and_parts (nat_le m.timestamp MAX_TIMESTAMP) (nat_le 1 (length m.body) && nat_le (length m.body) MAX_BODY) a.1 in
    let c = and_parts (nat_le 1 (length m.body)) (nat_le (length m.body) MAX_BODY) b.1 in
    record {
      whole_group = eqb-true (length m.group) 32 a.0;
      sound_timestamp = leb-true m.timestamp MAX_TIMESTAMP b.0;
      some_body = leb-true 1 (length m.body) c.0;
      short_body = leb-true (length m.body) MAX_BODY c.1;
    }

pub is_message-from : (m : MessageValue) → IsMessage m → is_message m ≡ true
is_message-from m is =
    and_from (nat_eq (length m.group) 32) (nat_le m.timestamp MAX_TIMESTAMP && (nat_le 1 (length m.body) && nat_le (length m.body) MAX_BODY)) (eq-eqb (length m.group) 32 is.whole_group)
    (and_from (nat_le m.timestamp MAX_TIMESTAMP) (nat_le 1 (length m.body) && nat_le (length m.body) MAX_BODY) (le-leb m.timestamp MAX_TIMESTAMP is.sound_timestamp)
    (and_from (nat_le 1 (length m.body)) (nat_le (length m.body) MAX_BODY) (le-leb 1 (length m.body) is.some_body) (le-leb (length m.body) MAX_BODY is.short_body)))

record_is : (r : Record) → is_record r ≡ true → IsRecord r
record_is (record_kind.Ack ids) h = id_list_is ids h
record_is (record_kind.Message m) h = message_is m h
record_is (record_kind.Offer ids) h = id_list_is ids h
record_is (record_kind.Request ids) h = id_list_is ids h
record_is (record_kind.Versions versions) h = version_list_is versions h
record_is (record_kind.Priority nonce) h = eqb-true (length nonce) 16 h

-- ---- what the list of the named ids is taken as

-- a list of ids, each of which was named by one of these entries
pub record Reads (entries : List Entry) (whole : List Id) : Type 0 where
  pub part : IsPart (ids_named entries) whole
  pub same : pointwise same_entry entries entries ≡ true

-- there are no entries, or this record is the one that lists what they name
abbrev IsReadAs : (List Id → Record) → List Entry → Type 0
IsReadAs kind entries = (entries ≡ []) ⊎ ((read_as entries ≡ kind (ids_named entries)) × (1 ≤ length (ids_named entries)))

module _ (f : Facts) (s c : ℕ) where
  -- ---- acknowledgements

  acks_again : (xs : List Id) → taken_acks f s c (ids_named (taken_acks f s c xs)) ≡ taken_acks f s c xs
  acks_again [] = refl
  acks_again (x ∷ xs) =
      elim (is_shown f c x && not (row_at f.rows c x).seen) as (λ b. (is_shown f c x && not (row_at f.rows c x).seen) ≡ b
      → taken_acks f s c (ids_named (one_if b (entry.Seen s x) ++ taken_acks f s c xs)) ≡ one_if b (entry.Seen s x) ++ taken_acks f s c xs) [
        | true ↦ λ e.
            ap (λ b. one_if b (entry.Seen s x) ++ taken_acks f s c (ids_named (taken_acks f s c xs))) e
            ∙ ap (λ (t : List Entry). entry.Seen s x ∷ t) (acks_again xs)
        | false ↦ λ e. acks_again xs
      ] refl

  acks_reads : (xs : List Id) → Reads (taken_acks f s c xs) xs
  acks_reads [] = record { part = part_none; same = refl }
  acks_reads (x ∷ xs) =
      let rest = acks_reads xs in
      elim (is_shown f c x && not (row_at f.rows c x).seen) as (λ b. Reads (one_if b (entry.Seen s x) ++ taken_acks f s c xs) (x ∷ xs)) [
        | true ↦ record {
          part = part_keep (ids_named (taken_acks f s c xs)) xs x rest.part;
          same = and_from (same_entry (entry.Seen s x) (entry.Seen s x)) (pointwise same_entry (taken_acks f s c xs) (taken_acks f s c xs)) (pair_itself s x) rest.same;
        }
        | false ↦ record { part = part_skip (ids_named (taken_acks f s c xs)) xs x rest.part; same = rest.same }
      ]

  acks_read_as : (xs : List Id) → IsReadAs record_kind.Ack (taken_acks f s c xs)
  acks_read_as [] = inl refl
  acks_read_as (x ∷ xs) =
      elim (is_shown f c x && not (row_at f.rows c x).seen) as (λ b. IsReadAs record_kind.Ack (one_if b (entry.Seen s x) ++ taken_acks f s c xs)) [
        | true ↦ inr (refl, omega arith)
        | false ↦ acks_read_as xs
      ]

  -- ---- requests

  requests_again : (xs : List Id) → taken_requests f s c (ids_named (taken_requests f s c xs)) ≡ taken_requests f s c xs
  requests_again [] = refl
  requests_again (x ∷ xs) =
      elim (is_shown f c x) as (λ b. is_shown f c x ≡ b
      → taken_requests f s c (ids_named (one_if b (entry.Asked s x) ++ taken_requests f s c xs)) ≡ one_if b (entry.Asked s x) ++ taken_requests f s c xs) [
        | true ↦ λ e.
            ap (λ b. one_if b (entry.Asked s x) ++ taken_requests f s c (ids_named (taken_requests f s c xs))) e
            ∙ ap (λ (t : List Entry). entry.Asked s x ∷ t) (requests_again xs)
        | false ↦ λ e. requests_again xs
      ] refl

  requests_reads : (xs : List Id) → Reads (taken_requests f s c xs) xs
  requests_reads [] = record { part = part_none; same = refl }
  requests_reads (x ∷ xs) =
      let rest = requests_reads xs in
      elim (is_shown f c x) as (λ b. Reads (one_if b (entry.Asked s x) ++ taken_requests f s c xs) (x ∷ xs)) [
        | true ↦ record {
          part = part_keep (ids_named (taken_requests f s c xs)) xs x rest.part;
          same = and_from (same_entry (entry.Asked s x) (entry.Asked s x)) (pointwise same_entry (taken_requests f s c xs) (taken_requests f s c xs)) (pair_itself s x) rest.same;
        }
        | false ↦ record { part = part_skip (ids_named (taken_requests f s c xs)) xs x rest.part; same = rest.same }
      ]

  requests_read_as : (xs : List Id) → IsReadAs record_kind.Request (taken_requests f s c xs)
  requests_read_as [] = inl refl
  requests_read_as (x ∷ xs) =
      elim (is_shown f c x) as (λ b. IsReadAs record_kind.Request (one_if b (entry.Asked s x) ++ taken_requests f s c xs)) [
        | true ↦ inr (refl, omega arith)
        | false ↦ requests_read_as xs
      ]

  -- ---- offers

  -- what one id is offered as, and then the rest
  abbrev offer_then : Bool → Bool → Id → List Entry → List Entry
  offer_then shown remembered x rest = (one_if shown (entry.Again s x) ++ one_if remembered (entry.Offered s x)) ++ rest

  shown_forgotten : (room : ℕ) (x : Id) → is_shown f c x ≡ true → is_remembered f c room x ≡ false
  shown_forgotten room x h =
      elim (held_at f.held x) as (λ o. is_shown_held f c o ≡ true → (not (is_some o) && (not (is_among (wanted_from f.wanted c) x) && nat_lt 0 room)) ≡ false) [
        | None ↦ λ t. absurd (false≢true t)
        | Some m ↦ λ t. refl
      ] h

  -- an id is shown, or remembered, or neither
  abbrev OneOf : (Bool → Bool → Type 0) → ℕ → Id → Type 0
  OneOf P room x = P (is_shown f c x) (is_remembered f c room x)

  by_offer : (P : Bool → Bool → Type 0) (room : ℕ) (x : Id) → (is_shown f c x ≡ true → is_remembered f c room x ≡ false → P true false)
      → (is_shown f c x ≡ false → is_remembered f c room x ≡ true → P false true) → (is_shown f c x ≡ false → is_remembered f c room x ≡ false → P false false) → OneOf P room x
  by_offer P room x again offered neither =
      elim (is_shown f c x) as (λ a. is_shown f c x ≡ a → P a (is_remembered f c room x)) [
        | true ↦ λ e.
            elim (is_remembered f c room x) as (λ b. is_remembered f c room x ≡ b → P true b) [
              | true ↦ λ r. absurd (false≢true (sym (shown_forgotten room x e) ∙ r))
              | false ↦ λ r. again e r
            ] refl
        | false ↦ λ e.
            elim (is_remembered f c room x) as (λ b. is_remembered f c room x ≡ b → P false b) [
              | true ↦ λ r. offered e r
              | false ↦ λ r. neither e r
            ] refl
      ] refl

  offer_is : (room : ℕ) (x : Id) (a b : Bool) (ids : List Id) → is_shown f c x ≡ a → is_remembered f c room x ≡ b
      → taken_offers f s c room (x ∷ ids) ≡ offer_then a b x (taken_offers f s c (room_after b room) ids)
  offer_is room x a b ids ea eb =
      ap (λ i. offer_then i (is_remembered f c room x) x (taken_offers f s c (room_after (is_remembered f c room x) room) ids)) ea
      ∙ ap (λ i. offer_then a i x (taken_offers f s c (room_after i room) ids)) eb

  offers_again : (xs : List Id) (room : ℕ) → taken_offers f s c room (ids_named (taken_offers f s c room xs)) ≡ taken_offers f s c room xs
  offers_again [] room = refl
  offers_again (x ∷ xs) room =
      by_offer (λ a b. taken_offers f s c room (ids_named (offer_then a b x (taken_offers f s c (room_after b room) xs))) ≡ offer_then a b x (taken_offers f s c (room_after b room) xs)) room x
      (λ ea eb. offer_is room x true false (ids_named (taken_offers f s c room xs)) ea eb ∙ ap (λ (t : List Entry). entry.Again s x ∷ t) (offers_again xs room))
      (λ ea eb. offer_is room x false true (ids_named (taken_offers f s c (room - 1) xs)) ea eb ∙ ap (λ (t : List Entry). entry.Offered s x ∷ t) (offers_again xs (room - 1)))
      (λ ea eb. offers_again xs room)

  offers_reads : (xs : List Id) (room : ℕ) → Reads (taken_offers f s c room xs) xs
  offers_reads [] room = record { part = part_none; same = refl }
  offers_reads (x ∷ xs) room =
      by_offer (λ a b. Reads (offer_then a b x (taken_offers f s c (room_after b room) xs)) (x ∷ xs)) room x
      (λ ea eb. let rest = offers_reads xs room in record {
        part = part_keep (ids_named (taken_offers f s c room xs)) xs x rest.part;
        same = and_from (same_entry (entry.Again s x) (entry.Again s x)) (pointwise same_entry (taken_offers f s c room xs) (taken_offers f s c room xs)) (pair_itself s x) rest.same;
      })
      (λ ea eb. let rest = offers_reads xs (room - 1) in record {
        part = part_keep (ids_named (taken_offers f s c (room - 1) xs)) xs x rest.part;
        same = and_from (same_entry (entry.Offered s x) (entry.Offered s x)) (pointwise same_entry (taken_offers f s c (room - 1) xs) (taken_offers f s c (room - 1) xs)) (pair_itself s x) rest.same;
      })
      (λ ea eb. let rest = offers_reads xs room in record {
        part = part_skip (ids_named (taken_offers f s c room xs)) xs x rest.part;
        same = rest.same;
      })

  offers_read_as : (xs : List Id) (room : ℕ) → IsReadAs record_kind.Offer (taken_offers f s c room xs)
  offers_read_as [] room = inl refl
  offers_read_as (x ∷ xs) room =
      by_offer (λ a b. IsReadAs record_kind.Offer (offer_then a b x (taken_offers f s c (room_after b room) xs))) room x
      (λ ea eb. inr (refl, omega arith))
      (λ ea eb. inr (refl, omega arith))
      (λ ea eb. offers_read_as xs room)

-- ---- a record's entries are given by the record that they name

-- a list is within its limit, and the record of it is taken as these entries
gives_list : (f : Facts) (s : ℕ) (kind : List Id → Record) (entries : List Entry) (ids : List Id) (as_taken : List Id → List Entry)
    → ((xs : List Id) → is_record (kind xs) ≡ is_id_list xs) → ((xs : List Id) → taken f s (kind xs) ≡ as_taken (firsts xs))
    → IsReadAs kind entries → Reads entries (firsts ids) → as_taken (ids_named entries) ≡ entries → IsIdList MAX_IDS ids
    → gives f s entries (read_as entries) ≡ true
gives_list f s kind entries ids as_taken limit takes shape reads again are =
    elim shape [
      | inl none ↦ ap (λ (es : List Entry). gives f s es (read_as es)) none
      | inr is ↦
          let named : List Id = ids_named entries in
          let short : length named ≤ MAX_IDS = omega (arith, reads.part.shorter, firsts_few ids, are.few) in
          let whole : AreIds named = reads.part.whole (firsts_whole ids are.whole) in
          let once : firsts named ≡ named = firsts_of_distinct named (reads.part.distinct (firsts_distinct ids)) in
          let as_before : taken f s (kind named) ≡ entries = takes named ∙ ap as_taken once ∙ again in
          let within : is_record (kind named) ≡ true =
          limit named ∙ and_from (is_within MAX_IDS named) (list_all is_whole named) (is_within-from MAX_IDS named is.1 short) (are_whole named whole) in
          let same : pointwise same_entry entries (taken f s (kind named)) ≡ true = ap (pointwise same_entry entries) as_before ∙ reads.same in
          ap (gives f s entries) is.0 ∙ and_from (is_record (kind named)) (pointwise same_entry entries (taken f s (kind named))) within same
    ]

-- every message's id has 32 bytes
abbrev pub WholeIds : Type 0
WholeIds = (m : MessageValue) → length (message_id_of m) ≡ 32

gives_nothing : (f : Facts) (s : ℕ) → gives f s [] (read_as []) ≡ true
gives_nothing f s = refl

gives_message : WholeIds → (f : Facts) (s : ℕ) (m : MessageValue) → IsMessage m → gives f s (taken f s (record_kind.Message m)) (read_as (taken f s (record_kind.Message m))) ≡ true
gives_message ids f s m is =
    elim (is_welcome f c m.group) as (λ w. is_welcome f c m.group ≡ w → P (cond w (taken_message_of f s c m (held_at f.held id)) [])) [
      | false ↦ λ e. gives_nothing f s
      | true ↦ λ e. elim (held_at f.held id) as (λ o. held_at f.held id ≡ o → P (taken_message_of f s c m o)) [
        | None ↦ λ h. new e h
        | Some x ↦ λ h. elim (not (is_invisible (level_at f.levels c x.message.group))) as (λ b. not (is_invisible (level_at f.levels c x.message.group)) ≡ b → P (one_if b (entry.Again s id))) [
          | false ↦ λ t. gives_nothing f s
          | true ↦ λ t. came_again x h t
        ] refl
      ] refl
    ] refl
  where
    c : ℕ
    c = contact_of f.sessions s

    id : Id
    id = message_id_of m

    P : List Entry → Type 0
    P entries = gives f s entries (read_as entries) ≡ true

    new : is_welcome f c m.group ≡ true → held_at f.held id ≡ None → P (entry.Arrive s m ∷ [])
    new e h =
        let as_before : taken f s (record_kind.Message m) ≡ entry.Arrive s m ∷ [] =
        ap (λ w. cond w (taken_message_of f s c m (held_at f.held id)) []) e ∙ ap (taken_message_of f s c m) h in
        and_from (is_message m) (pointwise same_entry (entry.Arrive s m ∷ []) (taken f s (record_kind.Message m))) (is_message-from m is)
        (ap (pointwise same_entry (entry.Arrive s m ∷ [])) as_before ∙ and_from (same_entry (entry.Arrive s m) (entry.Arrive s m)) true (arrive_itself s m) refl)

    came_again : (x : Held) → held_at f.held id ≡ Some x → not (is_invisible (level_at f.levels c x.message.group)) ≡ true → P (entry.Again s id ∷ [])
    came_again x h t =
        let room : ℕ = MAX_WANTED - length (wanted_from f.wanted c) in
        let shown : is_shown f c id ≡ true = ap (is_shown_held f c) h ∙ t in
        let as_before : taken f s (record_kind.Offer (id ∷ [])) ≡ entry.Again s id ∷ [] =
        offer_is f s c room id true false [] shown (shown_forgotten f s c room id shown) in
        let within : is_record (record_kind.Offer (id ∷ [])) ≡ true = and_from (is_whole id) true (eq-eqb (length id) 32 (ids m)) refl in
        and_from (is_record (record_kind.Offer (id ∷ []))) (pointwise same_entry (entry.Again s id ∷ []) (taken f s (record_kind.Offer (id ∷ [])))) within
        (ap (pointwise same_entry (entry.Again s id ∷ [])) as_before ∙ and_from (same_entry (entry.Again s id) (entry.Again s id)) true (pair_itself s id) refl)

gives_taken : WholeIds → (f : Facts) (s : ℕ) (r : Record) → IsRecord r → gives f s (taken f s r) (read_as (taken f s r)) ≡ true
gives_taken all f s (record_kind.Ack ids) is =
    let c = contact_of f.sessions s in
    gives_list f s record_kind.Ack (taken_acks f s c (firsts ids)) ids (taken_acks f s c) (λ xs. refl) (λ xs. refl)
    (acks_read_as f s c (firsts ids)) (acks_reads f s c (firsts ids)) (acks_again f s c (firsts ids)) is
gives_taken all f s (record_kind.Message m) is = gives_message all f s m is
gives_taken all f s (record_kind.Offer ids) is =
    let c = contact_of f.sessions s in
    let room : ℕ = MAX_WANTED - length (wanted_from f.wanted c) in
    gives_list f s record_kind.Offer (taken_offers f s c room (firsts ids)) ids (taken_offers f s c room) (λ xs. refl) (λ xs. refl)
    (offers_read_as f s c (firsts ids) room) (offers_reads f s c (firsts ids) room) (offers_again f s c (firsts ids) room) is
gives_taken all f s (record_kind.Request ids) is =
    let c = contact_of f.sessions s in
    gives_list f s record_kind.Request (taken_requests f s c (firsts ids)) ids (taken_requests f s c) (λ xs. refl) (λ xs. refl)
    (requests_read_as f s c (firsts ids)) (requests_reads f s c (firsts ids)) (requests_again f s c (firsts ids)) is
gives_taken all f s (record_kind.Versions versions) is = gives_nothing f s
gives_taken all f s (record_kind.Priority nonce) is = gives_nothing f s

-- some record is taken as these entries
pub record SomeRecord (f : Facts) (s : ℕ) (entries : List Entry) : Type 0 where
  pub read : Record
  pub within : IsRecord read
  pub taken_so : entries ≡ taken f s read

pub gives_some : (f : Facts) (s : ℕ) (entries : List Entry) → gives f s entries (read_as entries) ≡ true → SomeRecord f s entries
gives_some f s entries h =
    let parts = and_parts (is_record (read_as entries)) (pointwise same_entry entries (taken f s (read_as entries))) h in
    record {
      read = read_as entries;
      within = record_is (read_as entries) parts.0;
      taken_so = same_entries-is entries (taken f s (read_as entries)) parts.1;
    }

pub some_gives : WholeIds → (f : Facts) (s : ℕ) (entries : List Entry) (r : Record) → IsRecord r → entries ≡ taken f s r → gives f s entries (read_as entries) ≡ true
some_gives all f s entries r is same = ap (λ (es : List Entry). gives f s es (read_as es)) same ∙ gives_taken all f s r is
