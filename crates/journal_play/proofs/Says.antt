-- The text of a journal that took records says the state of each message.
use Rattle.std.proofs.Common.{◌≡◌, ℕ, ◌+◌, ◌-◌, ◌≤◌, Bool, true, false, cond, not, ◌&&◌, ◌||◌, List, [], ◌∷◌, ◌++◌, length, map, refl, sym, ◌∙◌, ap, subst, inl, inr, Some, None, is_some}
use Rattle.std.specs.List.{list_any, filter}
use Rattle.std.specs.FinSet as fin_set
use Rattle.std.specs.Cmp.Lexicographic.{slice_cmp}
use Rattle.std.specs.Ordering.{nat_cmp}
use Rattle.std.proofs.lemmas.Bool.{false≢true, false_from_ne_true, or_left, or_right}
use Rattle.std.proofs.lemmas.Grind.{flat_map-append}
use Rattle.sync_ids.specs.Values.{GroupValue, MessageValue}
use Rattle.sync_ids.specs.Ids.{group_id_of, message_id_of}
use Rattle.sync_ids.specs.Records.{IsRecord}
use Rattle.sync_ids.specs.declared.records.Record.{Record}
use Rattle.sync_ids.specs.declared.records.Record.TheVariants as record_kind
use Rattle.sync_rules.specs.declared.entries.Entry.{Entry}
use Rattle.sync_rules.specs.declared.entries.Entry.TheVariants as entry
use Rattle.sync_rules.specs.declared.states.Fate.TheVariants as fate_kind
use Rattle.sync_rules.specs.Clients.{Meaning}
use Rattle.sync_rules.specs.Lists.{same_id, is_among, firsts, In}
use Rattle.sync_rules.specs.Facts.{Facts, Held, Id, held_at, is_held, arrived, after, after_all, after_batches, facts, entries_of, nothing, contact_of, takes_of, session_at, is_invisible, level_at, wanted_from}
use Rattle.sync_rules.specs.Steps.{verdict_in, is_ended, fate, IsSettled, kind_of_def}
use Rattle.sync_rules.specs.Sessions.{taken, taken_message, taken_message_of, is_welcome, one_if}
use Rattle.sync_rules.specs.Legal.{Legal, IsSettling, AllSettling}
use Rattle.sync_rules.specs.Rounds.{Graph, good, bad, graph_of}
use Rattle.sync_rules.specs.Laws.{DecidesStates}
use Rattle.sync_rules.specs.EntryTests.{IsSettlingEntry, delivers, ends, invalidates}
use Rattle.sync_rules.specs.Hearing.{HearsRecord, IsHearing, take_batch, one_session}
use Rattle.sync_rules.proofs.Elements.{In-push_cases, same_id_itself, tally, tally-is}
use Rattle.sync_rules.proofs.StepLaws.{next_is_settling}
use Rattle.sync_rules.proofs.RoundLaws.{disjoint, Grows, good_grows, bad_grows}
use Rattle.sync_rules.proofs.Sound.{SoundFacts, held_at-In}
use Rattle.sync_rules.proofs.Kept.{after_batches-is}
use Rattle.sync_rules.proofs.Runs.{legal_sound}
use Rattle.sync_rules.proofs.Flags.{scanned, delivered_scan, invalid_scan, ended_scan, ends_once}
use Rattle.sync_rules.proofs.Settling.{settled_law, goes_on_both, after_batches-append}
use Rattle.sync_rules.proofs.WorkLaws.{facts-push, settles_legal}
use Rattle.sync_rules.proofs.HearLaws.{one_session_hears, Stays, stays_all, stays_batches}
use Rattle.journal_play.specs.Texts.{ends_told, unended, lines_text}
use Rattle.journal_play.specs.Playing.{PlaysRecords, IsTextOf}
use Rattle.journal_play.specs.Fates.{is_brought, with_record, with_records, brought, graph_with, is_good, is_bad, is_decided, state_of, state_line, SaysFates}
use Rattle.journal_play.proofs.Steps.{delivered_held, bad_held, good_held, invalid_held, no_two, of_group, verdict_of}
use Rattle.journal_play.proofs.Texts.{text-append}
use Rattle.journal_play.proofs.Brought.{Brings, plays_brings}
use Rattle.journal_play.proofs.Orders.{IsDistinct, IsDistinct-filter, In-filter, of_filter, same_elements}
use Rattle.journal_play.proofs.Named.{or_false, messages_at, In_arrived, IsRight, of_told, to_told, distinct_told, told_text, unended_text}
use Rattle.journal_play.proofs.Takes.{quiet_acks, quiet_requests, quiet_offers, takes_all, one_more_take}
use Rattle.sync_rules.specs.declared.limits.TheConstants.{MAX_WANTED}

-- ---- a journal that takes records stays legal and settled

settling_entry_takes : (f : Facts) (e : Entry) → IsSettlingEntry e → (after f e).takes ≡ f.takes
settling_entry_takes f (entry.Judged id) k = refl
settling_entry_takes f (entry.Deliver id) k = refl
settling_entry_takes f (entry.Invalid id) k = refl
settling_entry_takes f _ k = absurd k

settling_takes : (clients : Meaning) (f : Facts) (es : List Entry) → IsSettling clients f es → (after_all f es).takes ≡ f.takes
settling_takes clients f [] s = refl
settling_takes clients f (e ∷ es) s =
    settling_takes clients (after f e) es s.1 ∙ settling_entry_takes f e (next_is_settling clients f e s.0)

all_settling_takes : (clients : Meaning) (f : Facts) (bs : List (List Entry)) → AllSettling clients f bs → (after_batches f bs).takes ≡ f.takes
all_settling_takes clients f [] s = refl
all_settling_takes clients f (b ∷ bs) s = all_settling_takes clients (after_all f b) bs s.1 ∙ settling_takes clients f b s.0.2

message_takes : (f g : Facts) (contact : ℕ) (m : MessageValue) → (after_all g (taken_message f 0 contact m)).takes ≡ g.takes
message_takes f g contact m =
    elim (is_welcome f contact m.group) as (λ b. (after_all g (cond b (taken_message_of f 0 contact m (held_at f.held (message_id_of m))) [])).takes ≡ g.takes) [
      | true ↦
          elim (held_at f.held (message_id_of m)) as (λ o. (after_all g (taken_message_of f 0 contact m o)).takes ≡ g.takes) [
            | None ↦ refl
            | Some h ↦
                elim (not (is_invisible (level_at f.levels contact h.message.group))) as (λ b. (after_all g (one_if b (entry.Again 0 (message_id_of m)))).takes ≡ g.takes) [
                  | true ↦ refl
                  | false ↦ refl
                ]
          ]
      | false ↦ refl
    ]

taken_takes : (f g : Facts) (r : Record) → (after_all g (taken f 0 r)).takes ≡ g.takes
taken_takes f g (record_kind.Ack ids) = takes_all g (taken f 0 (record_kind.Ack ids)) (quiet_acks f 0 (contact_of f.sessions 0) (firsts ids))
taken_takes f g (record_kind.Message m) = message_takes f g (contact_of f.sessions 0) m
taken_takes f g (record_kind.Offer ids) =
    takes_all g (taken f 0 (record_kind.Offer ids))
    (quiet_offers f 0 (contact_of f.sessions 0) (MAX_WANTED - length (wanted_from f.wanted (contact_of f.sessions 0))) (firsts ids))
taken_takes f g (record_kind.Request ids) = takes_all g (taken f 0 (record_kind.Request ids)) (quiet_requests f 0 (contact_of f.sessions 0) (firsts ids))
taken_takes f g (record_kind.Versions versions) = refl
taken_takes f g (record_kind.Priority nonce) = refl

hears_on : (clients : Meaning) (old : List (List Entry)) (k : ℕ) (r : Record) (new : List (List Entry)) → IsHearing clients old 0 0 k → IsRecord r
    → HearsRecord clients old 0 k r new → IsHearing clients new 0 0 (k + 1)
hears_on clients old k r new h within is =
    let f : Facts = facts old in
    let taking : List Entry = take_batch (facts old) 0 k r in
    let more = is.settles.more in
    let legal : Legal clients (old ++ taking ∷ []) =
    goes_on_both clients nothing old (taking ∷ []) h.legal (
      (
        h.settled,
        record { known_session = h.known_session; numbered = h.numbered; read = r; within = within; taken_so = refl },
      ),
      tt,
    ) in
    let mid : facts (old ++ taking ∷ []) ≡ after_all f taking = facts-push old taking in
    let end : facts new ≡ after_batches (facts (old ++ taking ∷ [])) more = ap facts is.settles.extends ∙ after_batches-append nothing (old ++ taking ∷ []) more in
    let whole : facts new ≡ after_batches (after_all f taking) more = end ∙ ap (λ (g : Facts). after_batches g more) mid in
    let first : Stays f (after_all f taking) 0 = stays_all f taking 0 h.known_session in
    let last : Stays (after_all f taking) (after_batches (after_all f taking) more) 0 = stays_batches (after_all f taking) more 0 first.known in
    let settling : AllSettling clients (after_all f taking) more = subst (λ (g : Facts). AllSettling clients g more) mid is.settles.settling in
    let same : (after_batches (after_all f taking) more).takes ≡ (after f (entry.Take 0 k)).takes =
    all_settling_takes clients (after_all f taking) more settling ∙ taken_takes f (after f (entry.Take 0 k)) r in
    record {
      legal = settles_legal clients (old ++ taking ∷ []) new is.settles legal;
      settled = is.settled;
      known_session = ap (λ (g : Facts). is_some (session_at g.sessions 0)) whole ∙ last.known;
      same_contact = ap (λ (g : Facts). contact_of g.sessions 0) whole ∙ (last.contact ∙ (first.contact ∙ h.same_contact));
      numbered =
          ap (λ (n : ℕ). n + 1) h.numbered
          ∙ (sym (one_more_take f.takes 0) ∙ sym (ap (λ (g : Facts). takes_of g.takes 0) whole ∙ ap (λ t. takes_of t 0) same));
    }

-- a legal and settled journal
record IsSound (clients : Meaning) (j : List (List Entry)) : Type 0 where
  pub legal : Legal clients j
  pub settled : IsSettled clients (facts j)

plays_on : (clients : Meaning) (j : List (List Entry)) (k : ℕ) (records : List Record) (later : List (List Entry)) → IsHearing clients j 0 0 k
    → PlaysRecords clients j k records later → IsSound clients later
plays_on clients j k [] later h p = subst (IsSound clients) p (record { legal = h.legal; settled = h.settled })
plays_on clients j k (r ∷ records) later h p = plays_on clients p.0 (k + 1) records later (hears_on clients j k r p.0 h p.1 p.2) p.3

and_false : (b : Bool) → (b && false) ≡ false
and_false true = refl
and_false false = refl

-- ---- what entries tell

delivered_told : (id : Id) (j : List (List Entry)) → is_among (facts j).delivered id ≡ list_any (delivers id) (entries_of j)
delivered_told id j =
    ap (λ (f : Facts). is_among f.delivered id) (after_batches-is nothing j)
    ∙ scanned (delivers id) (λ f. is_among f.delivered id) (delivered_scan id) nothing (entries_of j)
    ∙ or_false (list_any (delivers id) (entries_of j))

invalid_told : (id : Id) (j : List (List Entry)) → fin_set.contains (facts j).invalid id ≡ list_any (invalidates id) (entries_of j)
invalid_told id j =
    ap (λ (f : Facts). fin_set.contains f.invalid id) (after_batches-is nothing j)
    ∙ scanned (invalidates id) (λ f. fin_set.contains f.invalid id) (invalid_scan id) nothing (entries_of j)
    ∙ ap (λ b. list_any (invalidates id) (entries_of j) || b) (fin_set.contains-empty (slice_cmp nat_cmp) id)
    ∙ or_false (list_any (invalidates id) (entries_of j))

ended_told : (id : Id) (j : List (List Entry)) → is_ended (facts j) id ≡ list_any (ends id) (entries_of j)
ended_told id j =
    ap (λ (f : Facts). is_ended f id) (after_batches-is nothing j)
    ∙ scanned (ends id) (λ f. is_ended f id) (ended_scan id) nothing (entries_of j)
    ∙ ap (λ b. list_any (ends id) (entries_of j) || b) (fin_set.contains-empty (slice_cmp nat_cmp) id)
    ∙ or_false (list_any (ends id) (entries_of j))

-- ---- the rounds

same_bool : (a b : Bool) → (a ≡ true → b ≡ true) → (b ≡ true → a ≡ true) → a ≡ b
same_bool true b up down = sym (up refl)
same_bool false true up down = down refl
same_bool false false up down = refl

fate_is : (f : Facts) (id : Id) → is_held f.held id ≡ true → (i d : Bool) → fin_set.contains f.invalid id ≡ i → is_among f.delivered id ≡ d
    → fate f id ≡ Some (cond i fate_kind.Invalid (cond d fate_kind.Delivered (cond (fin_set.contains f.judged id) fate_kind.Pending fate_kind.Unknown)))
fate_is f id held i d ei ed =
    (λ k. cond (held k) (Some (cond (ei k) fate_kind.Invalid (cond (ed k) fate_kind.Delivered (cond (fin_set.contains f.judged id) fate_kind.Pending fate_kind.Unknown)))) None)

is_delivered_by : (i d j : Bool) → Some (cond i fate_kind.Invalid (cond d fate_kind.Delivered (cond j fate_kind.Pending fate_kind.Unknown))) ≡ Some fate_kind.Delivered → d ≡ true
is_delivered_by true d j e = absurd (let x : Some fate_kind.Invalid ≡ Some fate_kind.Delivered = e in cc)
is_delivered_by false true j e = refl
is_delivered_by false false true e = absurd (let x : Some fate_kind.Pending ≡ Some fate_kind.Delivered = e in cc)
is_delivered_by false false false e = absurd (let x : Some fate_kind.Unknown ≡ Some fate_kind.Delivered = e in cc)

is_invalid_by : (i d j : Bool) → Some (cond i fate_kind.Invalid (cond d fate_kind.Delivered (cond j fate_kind.Pending fate_kind.Unknown))) ≡ Some fate_kind.Invalid → i ≡ true
is_invalid_by true d j e = refl
is_invalid_by false true j e = absurd (let x : Some fate_kind.Delivered ≡ Some fate_kind.Invalid = e in cc)
is_invalid_by false false true e = absurd (let x : Some fate_kind.Pending ≡ Some fate_kind.Invalid = e in cc)
is_invalid_by false false false e = absurd (let x : Some fate_kind.Unknown ≡ Some fate_kind.Invalid = e in cc)

module _ (clients : Meaning) (f : Facts) (sound : SoundFacts clients f) (decides : DecidesStates clients f) (id : Id) where
  n : ℕ
  n = length f.held

  delivered_good : is_among f.delivered id ≡ good (graph_of clients f) (length f.held) id
  delivered_good =
      same_bool (is_among f.delivered id) (good (graph_of clients f) (length f.held) id)
      (λ d.
      let held : is_held f.held id ≡ true = delivered_held clients f sound id d in
      let valid : fin_set.contains f.invalid id ≡ false = no_two clients f sound id d in
      (decides id held).delivered.0 (fate_is f id held false true valid d))
      (λ g.
      let held : is_held f.held id ≡ true = good_held (graph_of clients f) (length f.held) id g in
      is_delivered_by (fin_set.contains f.invalid id) (is_among f.delivered id) (fin_set.contains f.judged id)
      (sym (fate_is f id held (fin_set.contains f.invalid id) (is_among f.delivered id) refl refl) ∙ (decides id held).delivered.1 g))

  invalid_bad : fin_set.contains f.invalid id ≡ bad (graph_of clients f) (length f.held) id
  invalid_bad =
      same_bool (fin_set.contains f.invalid id) (bad (graph_of clients f) (length f.held) id)
      (λ i.
      let held : is_held f.held id ≡ true = invalid_held clients f sound id i in
      (decides id held).invalid.0 (fate_is f id held true (is_among f.delivered id) i refl))
      (λ b.
      let held : is_held f.held id ≡ true = bad_held (graph_of clients f) (length f.held) id b in
      is_invalid_by (fin_set.contains f.invalid id) (is_among f.delivered id) (fin_set.contains f.judged id)
      (sym (fate_is f id held (fin_set.contains f.invalid id) (is_among f.delivered id) refl refl) ∙ (decides id held).invalid.1 b))

-- ---- the rounds over the messages alone

module _ (clients : Meaning) (def : GroupValue) (kind : ℕ) (known : kind_of_def clients def ≡ Some kind)
    (messages : List MessageValue) (f : Facts) (sound : SoundFacts clients f) (b : Brings def messages f) where
  verdict_at : (id : Id) (h : Held) → held_at f.held id ≡ Some h → clients.verdict kind h.message ≡ verdict_in clients f.groups h.message
  verdict_at id h e = sym (verdict_of clients def kind f.groups h.message known b.groups (of_group clients def f b.groups sound h (held_at-In f.held id h e)))

  there : Grows (graph_of clients f) (graph_with clients kind messages)
  there = record {
    held = λ id h e. record { found = h; at = ap (λ hs. held_at hs id) (sym b.held) ∙ e; same = refl };
    verdict = λ id h x e later same. ap (clients.verdict kind) same ∙ verdict_at id h e;
  }

  back : Grows (graph_with clients kind messages) (graph_of clients f)
  back = record {
    held = λ id h e. record { found = h; at = ap (λ hs. held_at hs id) b.held ∙ e; same = refl };
    verdict = λ id h x e later same. sym (verdict_at id x later) ∙ ap (clients.verdict kind) same;
  }

  good_same : (id : Id) → good (graph_of clients f) (length f.held) id ≡ good (graph_with clients kind messages) (length (map (arrived 0) messages)) id
  good_same id =
      let n : ℕ = length (map (arrived 0) messages) in
      ap (λ (hs : List Held). good (graph_of clients f) (length hs) id) b.held
      ∙ same_bool (good (graph_of clients f) n id) (good (graph_with clients kind messages) n id)
      (good_grows (graph_of clients f) (graph_with clients kind messages) there n id)
      (good_grows (graph_with clients kind messages) (graph_of clients f) back n id)

  bad_same : (id : Id) → bad (graph_of clients f) (length f.held) id ≡ bad (graph_with clients kind messages) (length (map (arrived 0) messages)) id
  bad_same id =
      let n : ℕ = length (map (arrived 0) messages) in
      ap (λ (hs : List Held). bad (graph_of clients f) (length hs) id) b.held
      ∙ same_bool (bad (graph_of clients f) n id) (bad (graph_with clients kind messages) n id)
      (bad_grows (graph_of clients f) (graph_with clients kind messages) there n id)
      (bad_grows (graph_with clients kind messages) (graph_of clients f) back n id)

-- ---- each message once

IsDistinct-push : (messages : List MessageValue) (m : MessageValue) → IsDistinct messages → (In m messages → ⊥) → IsDistinct (messages ++ m ∷ [])
IsDistinct-push [] m d new = (λ h. h, tt)
IsDistinct-push (x ∷ messages) m d new = (
  λ h. elim (In-push_cases x m messages h) [ inl t ↦ d.0 t | inr e ↦ new (inl (sym e)) ],
  IsDistinct-push messages m d.1 (λ h. new (inr h)),
)

brought_of : (messages : List MessageValue) (m : MessageValue) → In m messages → is_brought messages (message_id_of m) ≡ true
brought_of [] m h = absurd h
brought_of (x ∷ messages) m h =
    elim h [
      | inl e ↦ or_left (same_id (message_id_of x) (message_id_of m)) (is_brought messages (message_id_of m)) (ap (λ w. same_id (message_id_of w) (message_id_of m)) (sym e) ∙ same_id_itself (message_id_of m))
      | inr t ↦ or_right (same_id (message_id_of x) (message_id_of m)) (is_brought messages (message_id_of m)) (brought_of messages m t)
    ]

record_distinct : (group : Id) (messages : List MessageValue) (r : Record) → IsDistinct messages → IsDistinct (with_record group messages r)
record_distinct group messages (record_kind.Message m) d =
    elim (is_brought messages (message_id_of m)) as (λ b. is_brought messages (message_id_of m) ≡ b
    → IsDistinct (cond (same_id m.group group && not b) (messages ++ m ∷ []) messages)) [
      | true ↦ λ e. subst (λ c. IsDistinct (cond c (messages ++ m ∷ []) messages)) (sym (and_false (same_id m.group group))) d
      | false ↦ λ e.
          elim (same_id m.group group) as (λ c. IsDistinct (cond (c && true) (messages ++ m ∷ []) messages)) [
            | true ↦ IsDistinct-push messages m d (λ h. false≢true (sym e ∙ brought_of messages m h))
            | false ↦ d
          ]
    ] refl
record_distinct group messages _ d = d

brought_distinct : (group : Id) (messages : List MessageValue) (records : List Record) → IsDistinct messages → IsDistinct (with_records group messages records)
brought_distinct group messages [] d = d
brought_distinct group messages (r ∷ records) d = brought_distinct group (with_record group messages r) records (record_distinct group messages r d)

-- ---- the whole text

state_good : (g : Graph) (m : MessageValue) → is_good g m ≡ true → state_of g m ≡ fate_kind.Delivered
state_good g m e = ap (λ b. cond b fate_kind.Delivered (cond (is_bad g m) fate_kind.Invalid fate_kind.Pending)) e

state_bad : (g : Graph) (m : MessageValue) → is_bad g m ≡ true → state_of g m ≡ fate_kind.Invalid
state_bad g m e =
    let none : is_good g m ≡ false = false_from_ne_true (is_good g m) (λ t. disjoint g (length g.held) (length g.held) (message_id_of m) t e) in
    (λ i. cond (none i) fate_kind.Delivered (cond (e i) fate_kind.Invalid fate_kind.Pending))

pub says : (clients : Meaning) (kind : ℕ) (def : GroupValue) (records : List Record) (text : List ℕ) → kind_of_def clients def ≡ Some kind
    → IsTextOf clients def records text → SaysFates clients kind (group_id_of def) records text
says clients kind def records text known is =
    let j : List (List Entry) = is.journal in
    let es : List Entry = entries_of j in
    let f : Facts = facts j in
    let s = plays_on clients (one_session def) 0 records j (one_session_hears clients def (ap is_some known)) is.plays in
    let sound : SoundFacts clients f = legal_sound clients j s.legal in
    let decides : DecidesStates clients f = settled_law clients j s.legal s.settled in
    let messages : List MessageValue = brought (group_id_of def) records in
    let held : List Held = map (arrived 0) messages in
    let b : Brings def messages f = plays_brings clients def records j is.plays in
    let g : Graph = graph_with clients kind messages in
    let names : (m : MessageValue) → In m messages → held_at held (message_id_of m) ≡ Some (arrived 0 m) =
    λ m h. ap (λ hs. held_at hs (message_id_of m)) (sym b.held) ∙ sound.names (arrived 0 m) (subst (In (arrived 0 m)) (sym b.held) (In_arrived messages m h)) in
    let delivered : (m : MessageValue) → is_among f.delivered (message_id_of m) ≡ is_good g m =
    λ m. delivered_good clients f sound decides (message_id_of m) ∙ good_same clients def kind known messages f sound b (message_id_of m) in
    let invalid : (m : MessageValue) → fin_set.contains f.invalid (message_id_of m) ≡ is_bad g m =
    λ m. invalid_bad clients f sound decides (message_id_of m) ∙ bad_same clients def kind known messages f sound b (message_id_of m) in
    let ended : (m : MessageValue) → is_ended f (message_id_of m) ≡ is_decided g m = λ m. (λ i. delivered m i || invalid m i) in
    let right : IsRight messages names g es = record {
      delivered = λ m inside h. state_good g m (sym (delivered m) ∙ delivered_told (message_id_of m) j ∙ h);
      invalid = λ m inside h. state_bad g m (sym (invalid m) ∙ invalid_told (message_id_of m) j ∙ h);
    } in
    let few : (id : Id) → tally (ends id) es ≤ 1 = λ id. subst (λ n. n ≤ 1) (sym (tally-is (ends id) es)) (ends_once clients j s.legal id) in
    record {
      decided = messages_at held (ends_told es);
      each_once =
          same_elements (filter (is_decided g) messages) (messages_at held (ends_told es))
          (IsDistinct-filter (is_decided g) messages (brought_distinct (group_id_of def) [] records tt))
          (distinct_told messages names es few)
          (λ z h. let r = of_filter (is_decided g) messages z h in
          to_told messages names es z r.0 (sym (ended_told (message_id_of z) j) ∙ (ended z ∙ r.1)))
          (λ z h. let r = of_told messages names es z h in
          In-filter (is_decided g) messages z r.0 (sym (ended z) ∙ (ended_told (message_id_of z) j ∙ r.1)));
      lines =
          is.printed
          ∙ ap (λ hs. lines_text hs (ends_told es ++ unended f hs)) b.held
          ∙ text-append held (ends_told es) (unended f held)
          ∙ (λ i. told_text messages names g es right i ++ unended_text messages names g f ended messages (λ m h. h) i)
          ∙ sym (flat_map-append (state_line g) (messages_at held (ends_told es))
          (filter (λ m. not (is_decided g m)) messages));
    }
