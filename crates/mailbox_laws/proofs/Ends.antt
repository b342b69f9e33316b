-- Two lists of files with the same set of records lead to one effect.
use Rattle.std.proofs.Common.{◌≡◌, ◌≢◌, ℕ, true, not, ◌&&◌, List, [], length, refl, sym, ◌∙◌, ap, subst, inl, inr, Option, Some, None, is_some}
use Rattle.std.specs.List.{list_any}
use Rattle.std.specs.FinSet as fin_set
use Rattle.std.proofs.lemmas.Bool.{and_parts, and_from, or_cases, or_left, or_right, false≢true}
use Rattle.sync_ids.specs.Values.{MessageValue}
use Rattle.sync_ids.specs.Ids.{message_id_of}
use Rattle.sync_ids.specs.declared.records.Record.{Record}
use Rattle.sync_ids.specs.declared.records.Record.TheVariants as record_kind
use Rattle.sync_rules.specs.declared.entries.Entry.{Entry}
use Rattle.sync_rules.specs.Allows.{same_message}
use Rattle.sync_rules.specs.Clients.{Meaning}
use Rattle.sync_rules.specs.Consistency.{HasHeld}
use Rattle.sync_rules.specs.Facts.{Facts, Held, Id, facts, group_at, held_at, is_held, is_invisible, level_at, row_at}
use Rattle.sync_rules.specs.Legal.{Legal}
use Rattle.sync_rules.specs.Lists.{is_among, same_id}
use Rattle.sync_rules.specs.Rounds.{graph_of}
use Rattle.sync_rules.specs.Sessions.{is_shown, is_shown_held, is_welcome}
use Rattle.sync_rules.specs.Steps.{IsSettled, verdict_in}
use Rattle.sync_rules.proofs.ConsistencyLaws.{legal_consistent}
use Rattle.sync_rules.proofs.RoundLaws.{Grows, HoldsMessage, bad_grows, good_grows}
use Rattle.sync_rules.proofs.Runs.{legal_sound}
use Rattle.sync_rules.proofs.Settling.{bad_if_invalid, bad_is_invalid, good_if_delivered, good_is_delivered, prefix_legal}
use Rattle.sync_rules.proofs.Sound.{SoundFacts, held_at-In}
use Rattle.mailbox_laws.specs.Effects.{Effect, effect, holds}
use Rattle.mailbox_laws.specs.Boxes.{ReadsBoxes}
use Rattle.mailbox_laws.specs.Order.{HaveOwnIds, IsThere, SameRecords, SetsDecide, StartsAlike, joined}
use Rattle.mailbox_laws.proofs.Tests.{any_at, both_true, finds, holds_at, same_message-is}
use Rattle.mailbox_laws.proofs.Standing.{Stands, shows, stands_first}
use Rattle.mailbox_laws.proofs.Reading.{boxes_extend, boxes_settled, stands_boxes}

-- records were taken behind the facts at the start, and the journal ended settled
record Ended (clients : Meaning) (contact : ℕ) (s : Facts) (records : List Record) (f : Facts) : Type 0 where
  names : HasHeld s
  sound : SoundFacts clients s
  end_names : HasHeld f
  end_sound : SoundFacts clients f
  settled : IsSettled clients f
  stands : Stands contact s records f

-- a look-up that finds something
record Found (o : Option Held) : Type 0 where
  it : Held
  is : o ≡ Some it

found_some : (o : Option Held) → is_some o ≡ true → Found o
found_some None h = absurd (false≢true h)
found_some (Some x) h = record { it = x; is = refl }

-- ---- what one end shows, the other shows

module _ (clients : Meaning) (contact : ℕ) (s t f g : Facts) (rs qs : List Record) (a : Ended clients contact s rs f)
    (b : Ended clients contact t qs g)
    (same : SameRecords rs qs) (alike : StartsAlike contact s t) (own : HaveOwnIds s rs) where
  welcome_over : (group : Id) → is_welcome s contact group ≡ is_welcome t contact group
  welcome_over group =
      λ i. is_some (group_at (alike.groups i) group) && not (is_invisible (level_at (alike.levels i) contact group))

  -- what is held at the one start is held at the other
  held_first : (id : Id) (h : Held) → held_at s.held id ≡ Some h → HoldsMessage t.held id h
  held_first id h e =
      let there : holds t.held h.message ≡ true = ap (λ (x : Effect). x.held h.message) (sym alike.effect)
      ∙ holds_at s.held h (held_at-In s.held id h e) in
      let x = finds (λ (y : Held). same_message y.message h.message) t.held there in
      let is : x.found.message ≡ h.message = same_message-is x.found.message h.message x.passes in
      let at : held_at t.held x.found.id ≡ Some x.found = b.sound.names x.found x.inside in
      let one : x.found.id ≡ id =
      (b.names.each x.found.id x.found at).is_id ∙ (ap message_id_of is ∙ sym (a.names.each id h e).is_id) in
      record { found = x.found; at = subst (λ (k : Id). held_at t.held k ≡ Some x.found) one at; same = is }

  -- a message that is held at the other end stood at the one start or in a record
  there_back : (id : Id) (x : Held) → held_at g.held id ≡ Some x → IsThere s rs x.message
  there_back id x e =
      elim (b.stands.came id x e) [
        | inl was ↦ inl (ap (λ (y : Effect). y.held x.message) alike.effect ∙ holds_at t.held x
            (held_at-In t.held id x was))
        | inr c ↦ inr ((same (record_kind.Message x.message)).1 c.stands)
      ]

  held_over : (id : Id) (h : Held) → held_at f.held id ≡ Some h → HoldsMessage g.held id h
  held_over id h e =
      elim (a.stands.came id h e) [
        | inl was ↦
            let x = held_first id h was in
            record { found = x.found; at = b.stands.kept id x.found x.at; same = x.same }
        | inr c ↦
            let held : is_held g.held (message_id_of h.message) ≡ true =
            b.stands.holds h.message ((same (record_kind.Message h.message)).0 c.stands)
            (sym (welcome_over h.message.group) ∙ c.welcome) in
            let x = found_some (held_at g.held (message_id_of h.message)) held in
            let at : held_at g.held id ≡ Some x.it = ap (held_at g.held) c.named ∙ x.is in
            let one : message_id_of x.it.message ≡ message_id_of h.message = sym (b.end_names.each id x.it at).is_id
            ∙ c.named in
            record {
              found = x.it;
              at = at;
              same = own x.it.message h.message (there_back id x.it at) (inr c.stands)
                  one;
            }
      ]

  holds_over : (m : MessageValue) → holds f.held m ≡ true → holds g.held m ≡ true
  holds_over m h =
      let x = finds (λ (y : Held). same_message y.message m) f.held h in
      let is : x.found.message ≡ m = same_message-is x.found.message m x.passes in
      let there = held_over x.found.id x.found (a.end_sound.names x.found x.inside) in
      subst (λ (k : MessageValue). holds g.held k ≡ true) (there.same ∙ is)
      (holds_at g.held there.found (held_at-In g.held x.found.id there.found there.at))

  -- ---- rounds

  grows : Grows (graph_of clients f) (graph_of clients g)
  grows = record {
    held = held_over;
    verdict =
        λ id h x e later is. λ i. verdict_in clients ((b.stands.groups ∙ (sym alike.groups ∙ sym a.stands.groups)) i)
        (is i);
  }

  delivered_over : (id : Id) → is_among f.delivered id ≡ true → is_among g.delivered id ≡ true
  delivered_over id e =
      good_is_delivered clients g b.end_sound b.settled (length f.held) id
      (good_grows (graph_of clients f) (graph_of clients g) grows (length f.held) id
      (good_if_delivered clients f a.end_sound id e))

  invalid_over : (id : Id) → fin_set.contains f.invalid id ≡ true → fin_set.contains g.invalid id ≡ true
  invalid_over id e =
      bad_is_invalid clients g b.end_sound b.settled (length f.held) id
      (bad_grows (graph_of clients f) (graph_of clients g) grows (length f.held) id
      (bad_if_invalid clients f a.end_sound id e))

  -- ---- what the contact has

  shown_over : (id : Id) → is_shown s contact id ≡ true → is_shown t contact id ≡ true
  shown_over id h = by (held_at s.held id) refl h where
    by : (o : Option Held) → held_at s.held id ≡ o → is_shown_held s contact o ≡ true → is_shown t contact id ≡ true
    by None e k = absurd (false≢true k)
    by (Some x) e k =
        let there = held_first id x e in
        ap (is_shown_held t contact) there.at
        ∙ ((λ i. not (is_invisible (level_at (sym alike.levels i) contact (there.same i).group))) ∙ k)

  named_over : (ids : List Id) (id : Id) → (is_among ids id && is_shown s contact id) ≡ true →
      (is_among ids id && is_shown t contact id) ≡ true
  named_over ids id h =
      let both = and_parts (is_among ids id) (is_shown s contact id) h in
      and_from (is_among ids id) (is_shown t contact id) both.0 (shown_over id both.1)

  shows_over : (id : Id) (r : Record) → shows contact s id r ≡ true → shows contact t id r ≡ true
  shows_over id (record_kind.Ack ids) h = named_over ids id h
  shows_over id (record_kind.Message m) h = ap (λ w. same_id (message_id_of m) id && w) (sym (welcome_over m.group)) ∙ h
  shows_over id (record_kind.Offer ids) h = named_over ids id h
  shows_over id (record_kind.Request ids) h = h
  shows_over id (record_kind.Versions versions) h = h
  shows_over id (record_kind.Priority nonce) h = h

  seen_over : (id : Id) → (row_at f.rows contact id).seen ≡ true → (row_at g.rows contact id).seen ≡ true
  seen_over id h =
      b.stands.seen id
      ∙ elim (or_cases (list_any (shows contact s id) rs) (row_at s.rows contact id).seen (sym (a.stands.seen id) ∙ h)) [
        | inl told ↦
            let x = finds (shows contact s id) rs told in
            or_left (list_any (shows contact t id) qs) (row_at t.rows contact id).seen
            (any_at (shows contact t id) qs x.found ((same x.found).0 x.inside) (shows_over id x.found x.passes))
        | inr was ↦
            or_right (list_any (shows contact t id) qs) (row_at t.rows contact id).seen
            (ap (λ (y : Effect). y.seen id) (sym alike.effect) ∙ was)
      ]

-- ---- both ways

back_alike : (contact : ℕ) (s t : Facts) → StartsAlike contact s t → StartsAlike contact t s
back_alike contact s t alike =
    record { groups = sym alike.groups; levels = sym alike.levels; effect = sym alike.effect }

back_there : (contact : ℕ) (s t : Facts) (rs qs : List Record) → SameRecords rs qs → StartsAlike contact s t →
    (m : MessageValue) → IsThere t qs m → IsThere s rs m
back_there contact s t rs qs same alike m (inl held) = inl (ap (λ (x : Effect). x.held m) alike.effect ∙ held)
back_there contact s t rs qs same alike m (inr inside) = inr ((same (record_kind.Message m)).1 inside)

module _ (clients : Meaning) (contact : ℕ) (s t f g : Facts) (rs qs : List Record) (a : Ended clients contact s rs f)
    (b : Ended clients contact t qs g)
    (same : SameRecords rs qs) (alike : StartsAlike contact s t) (own : HaveOwnIds s rs) where
  back_same : SameRecords qs rs
  back_same r = ((same r).1, (same r).0)

  back_own : HaveOwnIds t qs
  back_own m other one two e =
      own m other (back_there contact s t rs qs same alike m one) (back_there contact s t rs qs same alike other two) e

  one_effect : effect contact f ≡ effect contact g
  one_effect =
      let back : StartsAlike contact t s = back_alike contact s t alike in
      let held : (m : MessageValue) → holds f.held m ≡ holds g.held m = λ m.
      both_true (holds f.held m) (holds g.held m) (holds_over clients contact s t f g rs qs a b same alike own m)
      (holds_over clients contact t s g f qs rs b a back_same back back_own m) in
      let delivered : (id : Id) → is_among f.delivered id ≡ is_among g.delivered id = λ id.
      both_true (is_among f.delivered id) (is_among g.delivered id)
      (delivered_over clients contact s t f g rs qs a b same alike own id)
      (delivered_over clients contact t s g f qs rs b a back_same back back_own id) in
      let invalid : (id : Id) → fin_set.contains f.invalid id ≡ fin_set.contains g.invalid id = λ id.
      both_true (fin_set.contains f.invalid id) (fin_set.contains g.invalid id)
      (invalid_over clients contact s t f g rs qs a b same alike own id)
      (invalid_over clients contact t s g f qs rs b a back_same back back_own id) in
      let seen : (id : Id) → (row_at f.rows contact id).seen ≡ (row_at g.rows contact id).seen = λ id.
      both_true (row_at f.rows contact id).seen (row_at g.rows contact id).seen
      (seen_over clients contact s t f g rs qs a b same alike own id)
      (seen_over clients contact t s g f qs rs b a back_same back back_own id) in
      λ i. record { held = λ m. held m i; delivered = λ id. delivered id i; invalid = λ id. invalid id i; seen = λ id. seen id i }

-- ---- the law

ended : (clients : Meaning) (contact : ℕ) (old new : List (List Entry)) (files : List (List Record)) → files ≢ []
    → ReadsBoxes clients contact old files new → Legal clients new → HaveOwnIds (facts old) (joined files)
    → Ended clients contact (facts old) (joined files) (facts new)
ended clients contact old new files some reads legal own =
    let before : Legal clients old = prefix_legal clients new old (boxes_extend clients contact old files new reads)
    legal in
    let names : HasHeld (facts old) = (legal_consistent clients old before).held in
    record {
      names = names;
      sound = legal_sound clients old before;
      end_names = (legal_consistent clients new legal).held;
      end_sound = legal_sound clients new legal;
      settled = boxes_settled clients contact old files new some reads;
      stands =
          stands_boxes clients contact (facts old) (joined files) own names old files new [] (λ x i. i) legal
          (stands_first contact (facts old)) reads;
    }

pub sets_decide : SetsDecide
sets_decide clients contact old new other end files others some some_others same reads reads_others legal legal_end alike own =
    let own_others : HaveOwnIds (facts other) (joined others) = λ m x one two e.
    own m x (back_there contact (facts old) (facts other) (joined files) (joined others) same alike m one)
    (back_there contact (facts old) (facts other) (joined files) (joined others) same alike x two) e in
    one_effect clients contact (facts old) (facts other) (facts new) (facts end) (joined files) (joined others)
    (ended clients contact old new files some reads legal own)
    (ended clients contact other end others some_others reads_others legal_end own_others)
    same alike own
