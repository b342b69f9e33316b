-- What goes out is open to the contact, and what a session sends only grows.
use Rattle.std.proofs.Common.{◌≡◌, ℕ, zero, suc, Bool, true, false, not, cond, ◌&&◌, ◌||◌, ◌⊎◌, nat_eq, nat_le, List, [], ◌∷◌, ◌++◌, length, take, refl, sym, ◌∙◌, ap, subst, inl, inr, append_assoc, Option, Some, None, is_some}
use Rattle.std.specs.Option.{option_or}
use Rattle.std.specs.FinSet as fin_set
use Rattle.std.proofs.lemmas.Bool.{and_parts, or_cases, or_left, or_right, false≢true}
use Rattle.sync_ids.specs.declared.lists.TheConstants.{MAX_IDS}
use Rattle.sync_ids.specs.declared.records.Record.{Record}
use Rattle.sync_rules.specs.declared.entries.Entry.{Entry}
use Rattle.sync_rules.specs.declared.entries.Entry.TheVariants as entry
use Rattle.sync_rules.specs.declared.entries.Out.{Out}
use Rattle.sync_rules.specs.declared.entries.Out.TheVariants as out
use Rattle.sync_rules.specs.declared.entries.Mode.{Mode}
use Rattle.sync_rules.specs.declared.entries.Mode.TheVariants as mode_kind
use Rattle.sync_rules.specs.declared.entries.Session.{Session}
use Rattle.sync_rules.specs.declared.states.Fate.TheVariants as fate_kind
use Rattle.sync_rules.specs.Clients.{Meaning}
use Rattle.sync_rules.specs.Lists.{same_id, is_among, In}
use Rattle.sync_rules.specs.Facts.{Facts, Held, Id, after, after_all, after_batches, nothing, facts, entries_of, held_at, is_held, session_at, contact_in, level_at, is_level_shared, row_at, ExtendsJournal}
use Rattle.sync_rules.specs.Steps.{fate, fate_held}
use Rattle.sync_rules.specs.Rounds.{graph_of}
use Rattle.sync_rules.specs.Sessions.{ids_where, shared_ids, is_sendable, is_author, is_ripe}
use Rattle.sync_rules.specs.Sessions.{owed_to, wanted_of, send_of, offers_of, first_id, acks_due}
use Rattle.sync_rules.specs.Sessions.{requests_due, send_due, offers_due, due_by, due_on_any_way}
use Rattle.sync_rules.specs.Sessions.{goes_sooner, sooner_of, sooner_offers_of, sooner_due}
use Rattle.sync_rules.specs.Legal.{Legal, IsDue}
use Rattle.sync_rules.specs.Output.{IsOpen, NamesTheOpen, SendsTheOpen, records_by, records_in}
use Rattle.sync_rules.specs.Output.{message_record, first_records, sent, sent_if_begun, GoesOnFrom}
use Rattle.sync_rules.proofs.Elements.{same_id-is, same_id_itself}
use Rattle.sync_rules.proofs.RoundLaws.{disjoint}
use Rattle.sync_rules.proofs.Sound.{SoundFacts}
use Rattle.sync_rules.proofs.Kept.{Fits, AllFit, AllFit_front, AllFit_back, sound_after, sound_all, after_batches-is}
use Rattle.sync_rules.proofs.Runs.{legal_fits, sound_nothing}
use Rattle.sync_rules.proofs.Settling.{good_if_delivered, bad_if_invalid, prefix_legal, after_batches-append}
use Rattle.sync_rules.proofs.Continuing.{continues_all, continues_batches}

-- ---- the ids that pass a test

pub record FoundBy (test : Held → Bool) (hs : List Held) (id : Id) : Type 0 where
  pub of : Held
  pub inside : In of hs
  pub same : of.id ≡ id
  pub passes : test of ≡ true

found_later : (test : Held → Bool) (h : Held) (hs : List Held) (id : Id) → FoundBy test hs id → FoundBy test (h ∷ hs) id
found_later test h hs id x = record { of = x.of; inside = inr x.inside; same = x.same; passes = x.passes }

pub found_by : (test : Held → Bool) (hs : List Held) (id : Id) → is_among (ids_where test hs) id ≡ true → FoundBy test hs id
found_by test [] id e = absurd (false≢true e)
found_by test (h ∷ hs) id e =
    elim (test h) as (λ b. test h ≡ b → is_among (cond b (h.id ∷ ids_where test hs) (ids_where test hs)) id ≡ true → FoundBy test (h ∷ hs) id) [
      | true ↦ λ t e.
          elim (or_cases (same_id h.id id) (is_among (ids_where test hs) id) e) [
            | inl s ↦ record { of = h; inside = inl refl; same = same_id-is h.id id s; passes = t }
            | inr r ↦ found_later test h hs id (found_by test hs id r)
          ]
      | false ↦ λ t e. found_later test h hs id (found_by test hs id e)
    ] refl e

pub among-take : (n : ℕ) (ids : List Id) (id : Id) → is_among (take n ids) id ≡ true → is_among ids id ≡ true
among-take zero [] id e = e
among-take (suc n) [] id e = e
among-take zero (x ∷ ids) id e = absurd (false≢true e)
among-take (suc n) (x ∷ ids) id e =
    elim (or_cases (same_id x id) (is_among (take n ids) id) e) [
      | inl s ↦ or_left (same_id x id) (is_among ids id) s
      | inr r ↦ or_right (same_id x id) (is_among ids id) (among-take n ids id r)
    ]

pub first-among : (ids : List Id) (id : Id) → first_id ids ≡ Some id → is_among ids id ≡ true
first-among [] id e = cc
first-among (x ∷ ids) id e =
    let same : x ≡ id = cc in
    or_left (same_id x id) (is_among ids id) (ap (λ (w : Id). same_id w id) same ∙ same_id_itself id)

-- ---- what is due names what is open

pub option_or-cases : (a b : Option Out) (what : Out) → option_or a b ≡ Some what → (a ≡ Some what)
    ⊎ (b ≡ Some what)
option_or-cases None b what e = inr e
option_or-cases (Some x) b what e = inl e

module _ (clients : Meaning) (f : Facts) (s : SoundFacts clients f) where
  held_among : (test : Held → Bool) (id : Id) → FoundBy test f.held id → is_held f.held id ≡ true
  held_among test id x = ap (λ (w : Id). is_held f.held w) (sym x.same) ∙ ap is_some (s.names x.of x.inside)

  not_invalid : (id : Id) → is_among f.delivered id ≡ true → (b : Bool) → fin_set.contains f.invalid id ≡ b → b ≡ false
  not_invalid id d true i =
      absurd (disjoint (graph_of clients f) (length f.held) (length f.held) id (good_if_delivered clients f s id d) (bad_if_invalid clients f s id i))
  not_invalid id d false i = refl

  is_delivered : (id : Id) → is_held f.held id ≡ true → is_among f.delivered id ≡ true → fate f id ≡ Some fate_kind.Delivered
  is_delivered id held d =
      let none : fin_set.contains f.invalid id ≡ false = not_invalid id d (fin_set.contains f.invalid id) refl in
      ap (λ b. cond b (Some (fate_held f id)) None) held
      ∙ λ i. Some (cond (none i) fate_kind.Invalid (cond (d i) fate_kind.Delivered (cond (fin_set.contains f.judged id) fate_kind.Pending fate_kind.Unknown)))

  open_if : (shared : List Id) (contact : ℕ) (id : Id) (h : Held) → In h f.held → h.id ≡ id → is_sendable f shared contact h ≡ true → IsOpen f contact id
  open_if shared contact id h inside same t =
      let at : held_at f.held id ≡ Some h = ap (held_at f.held) (sym same) ∙ s.names h inside in
      let one = and_parts (is_among f.delivered h.id)
      (is_level_shared (level_at f.levels contact h.message.group) && (not (row_at f.rows contact h.id).seen && (is_author h.origin || is_among shared h.id))) t in
      let two = and_parts (is_level_shared (level_at f.levels contact h.message.group))
      (not (row_at f.rows contact h.id).seen && (is_author h.origin || is_among shared h.id)) one.1 in
      record {
        message = h;
        held = at;
        delivered = is_delivered id (ap is_some at) (ap (is_among f.delivered) (sym same) ∙ one.0);
        shared = two.0;
      }

  acks_named : (contact : ℕ) (what : Out) (ids : List Id) → ((id : Id) → is_among ids id ≡ true → is_held f.held id ≡ true)
      → acks_due ids ≡ Some what → NamesTheOpen f contact what
  acks_named contact what [] held e = cc
  acks_named contact what (x ∷ ids) held e =
      let same : out.Acks (x ∷ ids) ≡ what = cc in
      subst (NamesTheOpen f contact) same held

  requests_named : (contact : ℕ) (what : Out) (mode : Mode) (ids : List Id) → requests_due mode ids ≡ Some what → NamesTheOpen f contact what
  requests_named contact what mode_kind.Batch ids e = cc
  requests_named contact what mode_kind.Interactive [] e = cc
  requests_named contact what mode_kind.Interactive (x ∷ ids) e =
      let same : out.Requests (x ∷ ids) ≡ what = cc in
      subst (NamesTheOpen f contact) same tt

  send_named : (contact : ℕ) (what : Out) (o : Option Id) → ((id : Id) → o ≡ Some id → IsOpen f contact id) → send_due o ≡ Some what → NamesTheOpen f contact what
  send_named contact what None open_to e = cc
  send_named contact what (Some id) open_to e =
      let same : out.Send id ≡ what = cc in
      subst (NamesTheOpen f contact) same (open_to id refl)

  offers_named : (contact : ℕ) (what : Out) (mode : Mode) (ids : List Id) → ((id : Id) → is_among ids id ≡ true → IsOpen f contact id)
      → offers_due mode ids ≡ Some what → NamesTheOpen f contact what
  offers_named contact what mode_kind.Batch ids open_to e = cc
  offers_named contact what mode_kind.Interactive [] open_to e = cc
  offers_named contact what mode_kind.Interactive (x ∷ ids) open_to e =
      let same : out.Offers (x ∷ ids) ≡ what = cc in
      subst (NamesTheOpen f contact) same open_to

  owed_held : (contact : ℕ) (id : Id) → is_among (owed_to f contact) id ≡ true → is_held f.held id ≡ true
  owed_held contact id e =
      let test : Held → Bool = λ h. (row_at f.rows contact h.id).owed in
      held_among test id (found_by test f.held id (among-take MAX_IDS (ids_where test f.held) id e))

  send_open : (shared : List Id) (contact : ℕ) (mode : Mode) (now : ℕ) (id : Id) → send_of f shared contact mode now ≡ Some id → IsOpen f contact id
  send_open shared contact mode now id e =
      let test : Held → Bool = λ h. is_sendable f shared contact h && is_ripe mode now (row_at f.rows contact h.id) in
      let x = found_by test f.held id (first-among (ids_where test f.held) id e) in
      open_if shared contact id x.of x.inside x.same
      (and_parts (is_sendable f shared contact x.of) (is_ripe mode now (row_at f.rows contact x.of.id)) x.passes).0

  offers_open : (shared : List Id) (contact now : ℕ) (id : Id) → is_among (offers_of f shared contact now) id ≡ true → IsOpen f contact id
  offers_open shared contact now id e =
      let rest : Held → Bool = λ h. not (row_at f.rows contact h.id).asked && nat_le (row_at f.rows contact h.id).expiry now in
      let test : Held → Bool = λ h. is_sendable f shared contact h && rest h in
      let x = found_by test f.held id (among-take MAX_IDS (ids_where test f.held) id e) in
      open_if shared contact id x.of x.inside x.same (and_parts (is_sendable f shared contact x.of) (rest x.of) x.passes).0

  sooner_open : (shared : List Id) (contact latency now : ℕ) (id : Id)
      → is_among (ids_where (λ h. is_sendable f shared contact h && goes_sooner latency now (row_at f.rows contact h.id)) f.held) id ≡ true → IsOpen f contact id
  sooner_open shared contact latency now id e =
      let rest : Held → Bool = λ h. goes_sooner latency now (row_at f.rows contact h.id) in
      let test : Held → Bool = λ h. is_sendable f shared contact h && rest h in
      let x = found_by test f.held id e in
      open_if shared contact id x.of x.inside x.same (and_parts (is_sendable f shared contact x.of) (rest x.of) x.passes).0

  sooner_named : (contact : ℕ) (what : Out) (mode : Mode) (o : Option Id) (ids : List Id) → ((id : Id) → o ≡ Some id → IsOpen f contact id)
      → ((id : Id) → is_among ids id ≡ true → IsOpen f contact id) → sooner_due mode o ids ≡ Some what → NamesTheOpen f contact what
  sooner_named contact what mode_kind.Batch o ids one all e = send_named contact what o one e
  sooner_named contact what mode_kind.Interactive o ids one all e = offers_named contact what mode_kind.Interactive ids all e

  any_way_named : (shared : List Id) (x : Session) (now : ℕ) (what : Out) → due_on_any_way f shared x now ≡ Some what → NamesTheOpen f x.contact what
  any_way_named shared x now what e =
      let offers : Option Out = offers_due x.mode (offers_of f shared x.contact now) in
      let send : Option Out = send_due (send_of f shared x.contact x.mode now) in
      let requests : Option Out = requests_due x.mode (wanted_of f x.contact) in
      elim (option_or-cases (acks_due (owed_to f x.contact))
      (option_or requests (option_or send offers)) what e) [
        | inl a ↦ acks_named x.contact what (owed_to f x.contact) (owed_held x.contact) a
        | inr r ↦
            elim (option_or-cases requests (option_or send offers) what r) [
              | inl a ↦ requests_named x.contact what x.mode (wanted_of f x.contact) a
              | inr r ↦
                  elim (option_or-cases send offers what r) [
                    | inl a ↦ send_named x.contact what (send_of f shared x.contact x.mode now) (send_open shared x.contact x.mode now) a
                    | inr a ↦ offers_named x.contact what x.mode (offers_of f shared x.contact now) (offers_open shared x.contact now) a
                  ]
            ]
      ]

  due_named : (shared : List Id) (x : Session) (now : ℕ) (what : Out) → due_by f shared x now ≡ Some what → NamesTheOpen f x.contact what
  due_named shared x now what e =
      let test : Held → Bool = λ h. is_sendable f shared x.contact h && goes_sooner x.latency now (row_at f.rows x.contact h.id) in
      elim (option_or-cases (due_on_any_way f shared x now)
      (sooner_due x.mode (sooner_of f shared x.contact x.latency now) (sooner_offers_of f shared x.contact x.latency now)) what e) [
        | inl a ↦ any_way_named shared x now what a
        | inr b ↦
            sooner_named x.contact what x.mode (sooner_of f shared x.contact x.latency now) (sooner_offers_of f shared x.contact x.latency now)
            (λ id is. sooner_open shared x.contact x.latency now id (first-among (ids_where test f.held) id is))
            (λ id among. sooner_open shared x.contact x.latency now id (among-take MAX_IDS (ids_where test f.held) id among)) b
      ]

  pub out_named : (o : Option Session) (now : ℕ) (what : Out) → IsDue clients f o now what → NamesTheOpen f (contact_in o) what
  out_named None now what d = absurd d
  out_named (Some x) now what d = due_named (shared_ids clients f) x now what d

pub sends_the_open : (clients : Meaning) (j : List (List Entry)) → Legal clients j → SendsTheOpen j
sends_the_open clients j l before behind session now what stands =
    let e : Entry = entry.Out session now what in
    let fit : AllFit clients nothing (before ++ e ∷ behind) = subst (AllFit clients nothing) stands (legal_fits clients j l) in
    let f : Facts = after_all nothing before in
    let back : AllFit clients f (e ∷ behind) = AllFit_back clients nothing before (e ∷ behind) fit in
    let s : SoundFacts clients f = sound_all clients nothing before (AllFit_front clients nothing before (e ∷ behind) fit) (sound_nothing clients) in
    out_named clients f s (session_at f.sessions session) now what back.0

-- ---- what is sent only grows

pub held_stays : (f : Facts) (es : List Entry) (id : Id) (h : Held) → held_at f.held id ≡ Some h → held_at (after_all f es).held id ≡ Some h
held_stays f es id h at = (continues_all f es).same_held id h at

pub records-append : (held : List Held) (session : ℕ) (es fs : List Entry) → records_in held session (es ++ fs) ≡ records_in held session es ++ records_in held session fs
records-append held session [] fs = refl
records-append held session (e ∷ es) fs =
    ap (λ (t : List Record). records_by held session e ++ t) (records-append held session es fs)
    ∙ sym (append_assoc (records_by held session e) (records_in held session es) (records_in held session fs))

-- held messages of one list that are found in another
abbrev pub FoundIn : List Held → List Held → Type 0
FoundIn held later = (id : Id) (h : Held) → held_at held id ≡ Some h → held_at later id ≡ Some h

send_kept : (clients : Meaning) (f : Facts) (s : SoundFacts clients f) (o : Option Session) (now : ℕ) (id : Id) (held later : List Held)
    → IsDue clients f o now (out.Send id) → FoundIn f.held held → FoundIn held later
    → message_record (held_at later id) ≡ message_record (held_at held id)
send_kept clients f s o now id held later due first then =
    let is : IsOpen f (contact_in o) id = out_named clients f s o now (out.Send id) due in
    let one : held_at held id ≡ Some is.message = first id is.message is.held in
    ap message_record (then id is.message one ∙ sym one)

record_kept : (clients : Meaning) (f : Facts) (s : SoundFacts clients f) (e : Entry) (session : ℕ) (held later : List Held)
    → Fits clients f e → FoundIn f.held held → FoundIn held later → records_by later session e ≡ records_by held session e
record_kept clients f s (entry.Out x now (out.Acks ids)) session held later fit first then = refl
record_kept clients f s (entry.Out x now (out.Requests ids)) session held later fit first then = refl
record_kept clients f s (entry.Out x now (out.Offers ids)) session held later fit first then = refl
record_kept clients f s (entry.Out x now (out.Send id)) session held later fit first then =
    ap (λ (r : List Record). cond (nat_eq x session) r []) (send_kept clients f s (session_at f.sessions x) now id held later fit first then)
record_kept clients f s _ session held later fit first then = refl

records_kept : (clients : Meaning) (f : Facts) (s : SoundFacts clients f) (es : List Entry) (session : ℕ) (later : List Held)
    → AllFit clients f es → FoundIn (after_all f es).held later → records_in later session es ≡ records_in (after_all f es).held session es
records_kept clients f s [] session later fit then = refl
records_kept clients f s (e ∷ es) session later fit then =
    let g : Facts = after f e in
    let one : records_by later session e ≡ records_by (after_all g es).held session e =
    record_kept clients f s e session (after_all g es).held later fit.0 (λ id h at. held_stays f (e ∷ es) id h at) then in
    let rest : records_in later session es ≡ records_in (after_all g es).held session es =
    records_kept clients g (sound_after clients f e fit.0 s) es session later fit.1 then in
    λ i. one i ++ rest i

pub entries_of-append : (bs cs : List (List Entry)) → entries_of (bs ++ cs) ≡ entries_of bs ++ entries_of cs
entries_of-append [] cs = refl
entries_of-append (b ∷ bs) cs = ap (λ (t : List Entry). b ++ t) (entries_of-append bs cs) ∙ sym (append_assoc b (entries_of bs) (entries_of cs))

grows_by : (clients : Meaning) (j before more : List (List Entry)) (session : ℕ) → j ≡ before ++ more → Legal clients j → (o : Option Session)
    → session_at (facts before).sessions session ≡ o
    → GoesOnFrom (sent j session) (sent_if_begun o before session)
grows_by clients j before more session stands l None at = record { more = sent j session; goes_on = refl }
grows_by clients j before more session stands l (Some x) at =
    let es : List Entry = entries_of before in
    let legal : Legal clients before = prefix_legal clients j before (more, stands) l in
    let was : facts before ≡ after_all nothing es = after_batches-is nothing before in
    let now : facts j ≡ after_batches (facts before) more = ap facts stands ∙ after_batches-append nothing before more in
    let known : session_at (facts j).sessions session ≡ Some x =
    ap (λ (f : Facts). session_at f.sessions session) now ∙ (continues_batches (facts before) more).same_session session x at in
    let whole : entries_of j ≡ es ++ entries_of more = ap entries_of stands ∙ entries_of-append before more in
    let later : facts j ≡ after_all (after_all nothing es) (entries_of more) =
    now ∙ (after_batches-is (facts before) more ∙ ap (λ (f : Facts). after_all f (entries_of more)) was) in
    let then : FoundIn (after_all nothing es).held (facts j).held =
    λ id h e. ap (λ (f : Facts). held_at f.held id) later ∙ held_stays (after_all nothing es) (entries_of more) id h e in
    let kept : records_in (facts j).held session es ≡ records_in (facts before).held session es =
    records_kept clients nothing (sound_nothing clients) es session (facts j).held (legal_fits clients before legal) then
    ∙ ap (λ (f : Facts). records_in f.held session es) (sym was) in
    let rest : List Record = records_in (facts j).held session (entries_of more) in
    record {
      more = rest;
      goes_on =
          ap (λ (o : Option Session). sent_if_begun o j session) known
          ∙ (ap (λ (t : List Record). first_records x ++ t)
          (ap (records_in (facts j).held session) whole
          ∙ (records-append (facts j).held session es (entries_of more)
          ∙ ap (λ (t : List Record). t ++ rest) kept))
          ∙ sym (append_assoc (first_records x) (records_in (facts before).held session es) rest));
    }

pub sent_only_grows : (clients : Meaning) (j before : List (List Entry)) (session : ℕ) → ExtendsJournal j before → Legal clients j
    → GoesOnFrom (sent j session) (sent before session)
sent_only_grows clients j before session (more, stands) l =
    grows_by clients j before more session stands l (session_at (facts before).sessions session) refl
