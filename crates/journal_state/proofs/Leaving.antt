-- The steps that are left after a batch that is no settling batch: as many as before, and 2 more where the batch brings a message.
use Rattle.std.proofs.Common.{◌≡◌, ℕ, ◌+◌, ◌-◌, Bool, true, false, not, cond, ◌&&◌, ◌||◌, List, [], ◌∷◌, ◌++◌, map, length, refl, sym, ◌∙◌, ap, subst, arith, Option, Some, None, is_some}
use Rattle.std.specs.List.{list_any}
use Rattle.std.specs.FinSet as fin_set
use Rattle.std.proofs.lemmas.Bool.{false≢true}
use Rattle.sync_ids.specs.Ids.{message_id_of}
use Rattle.sync_ids.specs.declared.records.Record.{Record}
use Rattle.sync_ids.specs.declared.records.Record.TheVariants as record_kind
use Rattle.sync_rules.specs.declared.entries.Entry.{Entry}
use Rattle.sync_rules.specs.declared.entries.Entry.TheVariants as entry
use Rattle.sync_rules.specs.Clients.{Meaning}
use Rattle.sync_rules.specs.Lists.{same_id, is_among, firsts}
use Rattle.sync_rules.specs.Facts.{Facts, Held, Id, Ids, after, after_all, arrived, authored, contact_of, held_at, is_invisible, level_at, row_at, wanted_from}
use Rattle.sync_rules.specs.Legal.{Allowed, MayStandAlone}
use Rattle.sync_rules.proofs.BatchKinds.{by_kind, rows_account, steps_settle}
use Rattle.sync_rules.specs.declared.limits.TheConstants.{MAX_WANTED}
use Rattle.sync_rules.specs.Sessions.{is_shown, is_welcome, one_if, is_remembered, room_after, taken, taken_acks, taken_message_of, taken_offers, taken_requests}
use Rattle.sync_rules.specs.Allows.{is_account_kind, is_settling_kind}
use Rattle.sync_rules.specs.Left.{left_among, left_of}
use Rattle.message_graph.specs.declared.nodes.Node.{Node}
use Rattle.message_graph.specs.Nodes as nodes
use Rattle.journal_state.specs.Bringing.{brings_one}
use Rattle.journal_state.specs.Parts.{Parts, facts_of, is_judged}
use Rattle.journal_state.specs.Whole.{IsState}
use Rattle.sync_rules.proofs.Elements.{same_id_swap}
use Rattle.journal_state.specs.Sound.{AreApart, JudgesHeld}
use Rattle.journal_state.proofs.Apart.{first_apart, passes, set_named}

-- ---- the steps left by the parts of the facts that they read

abbrev one_left : Ids → Ids → List Id → Id → ℕ
one_left judged invalid delivered id = cond (fin_set.contains judged id) (cond (is_among delivered id || fin_set.contains invalid id) 0 1) 2

abbrev left_by : Ids → Ids → List Id → List Held → ℕ
left_by judged invalid delivered [] = 0
left_by judged invalid delivered (h ∷ hs) = one_left judged invalid delivered h.id + left_by judged invalid delivered hs

left_among_is : (f : Facts) (hs : List Held) → left_among f hs ≡ left_by f.judged f.invalid f.delivered hs
left_among_is f [] = refl
left_among_is f (h ∷ hs) = ap (λ n. one_left f.judged f.invalid f.delivered h.id + n) (left_among_is f hs)

left_is : (f : Facts) → left_of f ≡ left_by f.judged f.invalid f.delivered f.held
left_is f = left_among_is f f.held

left_push : (judged invalid : Ids) (delivered : List Id) (hs : List Held) (h : Held) → fin_set.contains judged h.id ≡ false
    → left_by judged invalid delivered (hs ++ h ∷ []) ≡ left_by judged invalid delivered hs + 2
left_push judged invalid delivered [] h new =
    let one : one_left judged invalid delivered h.id ≡ 2 = ap (λ b. cond b (cond (is_among delivered h.id || fin_set.contains invalid h.id) 0 1) 2) new in
    let sum : one_left judged invalid delivered h.id + 0 ≡ 2 = omega (arith, one) in
    sum ∙ (let e : 2 ≡ 0 + 2 = refl in e)
left_push judged invalid delivered (x ∷ hs) h new =
    let rest = left_push judged invalid delivered hs h new in
    let own : ℕ = one_left judged invalid delivered x.id in
    let sum : own + left_by judged invalid delivered (hs ++ h ∷ []) ≡ (own + left_by judged invalid delivered hs) + 2 = omega (arith, rest) in
    sum

-- ---- entries that bring nothing

-- the entry brings no message and is no step
abbrev is_quiet : Entry → Bool
is_quiet (entry.Author m) = false
is_quiet (entry.Arrive s m) = false
is_quiet (entry.Kept from m) = false
is_quiet (entry.Judged id) = false
is_quiet (entry.Deliver id) = false
is_quiet (entry.Invalid id) = false
is_quiet _ = true

quiet_left : (f : Facts) (e : Entry) → is_quiet e ≡ true → left_of (after f e) ≡ left_of f
quiet_left f (entry.Author m) q = absurd (false≢true q)
quiet_left f (entry.Arrive s m) q = absurd (false≢true q)
quiet_left f (entry.Kept from m) q = absurd (false≢true q)
quiet_left f (entry.Judged id) q = absurd (false≢true q)
quiet_left f (entry.Deliver id) q = absurd (false≢true q)
quiet_left f (entry.Invalid id) q = absurd (false≢true q)
quiet_left f e q = left_is (after f e) ∙ sym (left_is f)

brings_not : (e : Entry) → is_quiet e ≡ true → brings_one e ≡ false
brings_not (entry.Author m) q = absurd (false≢true q)
brings_not (entry.Arrive s m) q = absurd (false≢true q)
brings_not (entry.Kept from m) q = absurd (false≢true q)
brings_not _ q = refl

-- the steps left after some entries
abbrev IsLeftAfter : Facts → List Entry → Type 0
IsLeftAfter f es = left_of (after_all f es) ≡ left_of f + cond (list_any brings_one es) 2 0

abbrev AllQuiet : List Entry → Type 0
AllQuiet [] = Unit {0}
AllQuiet (e ∷ es) = (is_quiet e ≡ true) × AllQuiet es

none_brought : (es : List Entry) → AllQuiet es → list_any brings_one es ≡ false
none_brought [] q = refl
none_brought (e ∷ es) q = ap (λ b. b || list_any brings_one es) (brings_not e q.0) ∙ none_brought es q.1

quiet_all : (f : Facts) (es : List Entry) → AllQuiet es → left_of (after_all f es) ≡ left_of f
quiet_all f [] q = refl
quiet_all f (e ∷ es) q = quiet_all (after f e) es q.1 ∙ quiet_left f e q.0

plus_none : (n : ℕ) (b : Bool) → b ≡ false → n ≡ n + cond b 2 0
plus_none n b e = let zero_more : n ≡ n + 0 = omega arith in zero_more ∙ sym (ap (λ x. n + cond x 2 0) e)

quiet_is : (f : Facts) (es : List Entry) → AllQuiet es → IsLeftAfter f es
quiet_is f es q = quiet_all f es q ∙ plus_none (left_of f) (list_any brings_one es) (none_brought es q)

-- ---- what a record is taken as

quiet_append : (xs ys : List Entry) → AllQuiet xs → AllQuiet ys → AllQuiet (xs ++ ys)
quiet_append [] ys a b = b
quiet_append (x ∷ xs) ys a b = (a.0, quiet_append xs ys a.1 b)

quiet_if : (b : Bool) (e : Entry) → is_quiet e ≡ true → AllQuiet (one_if b e)
quiet_if true e q = (q, tt)
quiet_if false e q = tt

module _ (f : Facts) (s c : ℕ) where
  quiet_acks : (ids : List Id) → AllQuiet (taken_acks f s c ids)
  quiet_acks [] = tt
  quiet_acks (x ∷ ids) =
      quiet_append (one_if (is_shown f c x && not (row_at f.rows c x).seen) (entry.Seen s x)) (taken_acks f s c ids)
      (quiet_if (is_shown f c x && not (row_at f.rows c x).seen) (entry.Seen s x) refl) (quiet_acks ids)

  quiet_requests : (ids : List Id) → AllQuiet (taken_requests f s c ids)
  quiet_requests [] = tt
  quiet_requests (x ∷ ids) =
      quiet_append (one_if (is_shown f c x) (entry.Asked s x)) (taken_requests f s c ids) (quiet_if (is_shown f c x) (entry.Asked s x) refl) (quiet_requests ids)

  quiet_offers : (room : ℕ) (ids : List Id) → AllQuiet (taken_offers f s c room ids)
  quiet_offers room [] = tt
  quiet_offers room (x ∷ ids) =
      let again : List Entry = one_if (is_shown f c x) (entry.Again s x) in
      let offered : List Entry = one_if (is_remembered f c room x) (entry.Offered s x) in
      quiet_append (again ++ offered) (taken_offers f s c (room_after (is_remembered f c room x) room) ids)
      (quiet_append again offered (quiet_if (is_shown f c x) (entry.Again s x) refl) (quiet_if (is_remembered f c room x) (entry.Offered s x) refl))
      (quiet_offers (room_after (is_remembered f c room x) room) ids)

brought_left : (f g : Facts) (h : Held) → g.judged ≡ f.judged → g.invalid ≡ f.invalid → g.delivered ≡ f.delivered → g.held ≡ f.held ++ h ∷ []
    → fin_set.contains f.judged h.id ≡ false → left_of g ≡ left_of f + 2
brought_left f g h j i d held new =
    left_is g
    ∙ ((λ k. left_by (j k) (i k) (d k) (held k))
    ∙ (left_push f.judged f.invalid f.delivered f.held h new
    ∙ ap (λ n. n + 2) (sym (left_is f))))

taken_left : (f : Facts) (s k : ℕ) (r : Record) → JudgesHeld f → IsLeftAfter f (entry.Take s k ∷ taken f s r)
taken_left f s k (record_kind.Ack ids) j = quiet_is f (entry.Take s k ∷ taken f s (record_kind.Ack ids)) (refl, quiet_acks f s (contact_of f.sessions s) (firsts ids))
taken_left f s k (record_kind.Request ids) j = quiet_is f (entry.Take s k ∷ taken f s (record_kind.Request ids)) (refl, quiet_requests f s (contact_of f.sessions s) (firsts ids))
taken_left f s k (record_kind.Offer ids) j =
    quiet_is f (entry.Take s k ∷ taken f s (record_kind.Offer ids))
    (refl, quiet_offers f s (contact_of f.sessions s) (MAX_WANTED - length (wanted_from f.wanted (contact_of f.sessions s))) (firsts ids))
taken_left f s k (record_kind.Versions versions) j = quiet_is f (entry.Take s k ∷ []) (refl, tt)
taken_left f s k (record_kind.Priority nonce) j = quiet_is f (entry.Take s k ∷ []) (refl, tt)
taken_left f s k (record_kind.Message m) j = by_welcome (is_welcome f c m.group) where
  c : ℕ
  c = contact_of f.sessions s

  id : Id
  id = message_id_of m

  by_held : (o : Option Held) → held_at f.held id ≡ o → IsLeftAfter f (entry.Take s k ∷ taken_message_of f s c m o)
  by_held None none =
      brought_left f (after (after f (entry.Take s k)) (entry.Arrive s m)) (arrived c m) refl refl refl refl (j id none)
  by_held (Some h) there =
      quiet_is f (entry.Take s k ∷ one_if (not (is_invisible (level_at f.levels c h.message.group))) (entry.Again s id))
      (refl, quiet_if (not (is_invisible (level_at f.levels c h.message.group))) (entry.Again s id) refl)

  by_welcome : (w : Bool) → IsLeftAfter f (entry.Take s k ∷ cond w (taken_message_of f s c m (held_at f.held id)) [])
  by_welcome true = by_held (held_at f.held id) refl
  by_welcome false = quiet_is f (entry.Take s k ∷ []) (refl, tt)

-- ---- batches

not_held : (o : Option Held) → is_some o ≡ false → o ≡ None
not_held None e = refl
not_held (Some h) e = absurd (false≢true (sym e))

-- of a batch that settles nothing and is of no brief account
abbrev LeavesPlain : Facts → List Entry → Type 0
LeavesPlain f b = is_settling_kind b ≡ false → is_account_kind b ≡ false → IsLeftAfter f b

stands_left : (clients : Meaning) (f : Facts) → JudgesHeld f → (e : Entry)
    → MayStandAlone clients f e
    → LeavesPlain f (e ∷ [])
stands_left clients f j (entry.Contact c) may kind plain =
    quiet_is f (entry.Contact c ∷ []) (refl, tt)
stands_left clients f j (entry.Group def) may kind plain =
    quiet_is f (entry.Group def ∷ []) (refl, tt)
stands_left clients f j (entry.Level c g l) may kind plain =
    quiet_is f (entry.Level c g l ∷ []) (refl, tt)
stands_left clients f j (entry.Session s) may kind plain =
    quiet_is f (entry.Session s ∷ []) (refl, tt)
stands_left clients f j (entry.Out s now what) may kind plain =
    quiet_is f (entry.Out s now what ∷ []) (refl, tt)
stands_left clients f j (entry.Author m) may kind plain =
    brought_left f (after f (entry.Author m)) (authored m) refl refl refl refl
    (j (message_id_of m) (not_held (held_at f.held (message_id_of m)) may.new))
stands_left clients f j (entry.Kept from m) may kind plain = absurd (false≢true (sym plain))
stands_left clients f j _ may kind plain = absurd may

pub left_after_batch : (clients : Meaning) (f : Facts) (b : List Entry) → Allowed clients f b → is_settling_kind b ≡ false → is_account_kind b ≡ false → JudgesHeld f
    → left_of (after_all f b) ≡ left_of f + cond (list_any brings_one b) 2 0
left_after_batch clients f b a kind plain j =
    by_kind clients f (LeavesPlain f) (record {
      alone = λ e settled may. stands_left clients f j e may;
      of_record = λ s k r settled next kind plain. taken_left f s k r j;
      steps = λ e es step is kind plain. absurd (false≢true (sym kind ∙ steps_settle e es step));
      brief = λ n empty kind plain. absurd (false≢true (sym plain));
      rows = λ e es row is kind plain. absurd (false≢true (sym plain ∙ rows_account e es row));
    }) b a kind plain

-- ---- of a state, only held messages are judged

none_named : (ns : List Node) (hs : List Held) → map (λ (n : Node). n.name) ns ≡ map (λ (h : Held). h.id) hs → (id : Id) → held_at hs id ≡ None → nodes.node_named ns id ≡ None
none_named [] hs e id none = refl
none_named (n ∷ ns) [] e id none = absurd (let wrong : n.name ∷ map (λ (x : Node). x.name) ns ≡ [] = e in cc)
none_named (n ∷ ns) (h ∷ hs) e id none =
    let whole : n.name ∷ map (λ (x : Node). x.name) ns ≡ h.id ∷ map (λ (x : Held). x.id) hs = e in
    let own : n.name ≡ h.id = cc in
    let rest : map (λ (x : Node). x.name) ns ≡ map (λ (x : Held). x.id) hs = cc in
    let same : same_id id n.name ≡ same_id h.id id = ap (same_id id) own ∙ same_id_swap id h.id in
    ap (λ b. cond b (Some n) (nodes.node_named ns id)) same
    ∙ elim (same_id h.id id) as (λ b. cond b (Some h) (held_at hs id) ≡ None → cond b (Some n) (nodes.node_named ns id) ≡ None) [
      | true ↦ λ w. absurd (let wrong : Some h ≡ None = w in cc)
      | false ↦ λ w. none_named ns hs rest id w
    ] none

pub judges_held : (p : Parts) → IsState p → JudgesHeld (facts_of p)
judges_held p s id none =
    let whole : AreApart (map (λ (n : Node). n.name) p.nodes) = subst AreApart (sym s.named) (first_apart p.held s.distinct) in
    set_named is_judged p.nodes whole id ∙ ap (passes is_judged) (none_named p.nodes p.held s.named id none)

-- the steps left after a batch, as they are counted
pub left_told : (f : Facts) → JudgesHeld f → (b : List Entry) → (clients : Meaning) → Allowed clients f b → is_settling_kind b ≡ false → is_account_kind b ≡ false
    → (n : ℕ) → n ≡ left_of f → (t : Bool) → t ≡ list_any brings_one b → n + cond t 2 0 ≡ left_of (after_all f b)
left_told f held b clients a kind plain n is t brought =
    (λ i. is i + cond (brought i) 2 0) ∙ sym (left_after_batch clients f b a kind plain held)
