-- Looks at messages by their numbers.
use Rattle.std.proofs.Common.{◌≡◌, ℕ, zero, suc, ◌+◌, ◌≤◌, ◌<◌, Bool, true, false, cond, not, ◌&&◌, ◌||◌, nat_le, List, [], ◌∷◌, ◌++◌, drop, length, take, Option, Some, None, refl, sym, ◌∙◌, ap, arith}
use Rattle.std.specs.List.{cons_option, slice_get}
use Rattle.std.specs.List.Sorted.{IsStrictlySortedBy}
use Rattle.std.specs.Ordering.{nat_cmp}
use Rattle.std.proofs.lemmas.Bool.{and_parts, false≢true, lt-leb}
use Rattle.std.proofs.lemmas.List.{append_assoc, append-nil, drop_all, take-append-le}
use Rattle.sync_rules.specs.declared.entries.Mode.{Mode}
use Rattle.sync_rules.specs.declared.entries.Mode.TheVariants as mode
use Rattle.sync_rules.specs.Facts.{Held, Id, Row, is_level_shared, level_at, row_at}
use Rattle.sync_rules.specs.Lists.{is_among}
use Rattle.sync_rules.specs.Sessions.{first_id, goes_sooner, ids_where, is_author, is_ripe, is_sendable}
use Rattle.journal_audit.specs.Early.{goes_early, mark_of}
use Rattle.journal_audit.proofs.Stands.{late_still}
use Rattle.journal_audit.specs.declared.facts.PlainFacts.{PlainFacts}
use Rattle.journal_audit.specs.declared.messages.Line.{Line}
use Rattle.journal_audit.specs.declared.ready.Ready.{Ready}
use Rattle.journal_audit.specs.Lines.{held_in, held_of}
use Rattle.journal_audit.specs.Looks.{ids_at, is_line_sendable, is_offered, is_owed, is_sent, is_sooner, picked, seen_of}
use Rattle.journal_audit.specs.Bringing.{IsBroughtAt}
use Rattle.journal_audit.specs.Numbers.{from_of, has, has_alarm, has_for}
use Rattle.journal_audit.specs.Plain.{IsPlainSound, facts_of, shared_in}
use Rattle.journal_audit.specs.Standing.{may_go, set_for, shares, stands}
use Rattle.journal_audit.proofs.Lines.{among_flagged, get_held, held_get, own_flag}
use Rattle.journal_audit.proofs.Sparse.{cons_cond, sparse}

-- ---- one message

-- what is picked of the message of a line
pub picked_line : (test : Held → Bool) (ls : List Line) (n : ℕ) (l : Line) (b : Bool) → slice_get ls n ≡ Some l → b ≡ test (held_of l)
    → cond b (Some l.id) None ≡ picked test (slice_get (held_in ls) n)
picked_line test ls n l b at is = ap (λ (x : Bool). cond x (Some l.id) None) is ∙ sym (ap (picked test) (get_held ls n l at))

-- a message may be sent by what is kept of it
pub sendable_line : (p : PlainFacts) (contact n : ℕ) (l : Line) → IsPlainSound p → slice_get p.messages.lines n ≡ Some l
    → is_line_sendable p.levels contact l (row_at p.rows contact l.id) ≡ is_sendable (facts_of p) (shared_in p.messages.lines) contact (held_of l)
sendable_line p contact n l sound at =
    let ls = p.messages.lines in
    let row = row_at p.rows contact l.id in
    let ended = sound.lines.ended n l at in
    let shared : is_among (shared_in ls) l.id ≡ (l.judged && shares l.answer) =
    among_flagged (λ x. x.judged && shares x.answer) ls l.id ∙ own_flag (λ x. x.judged && shares x.answer) ls n l sound.lines.distinct at in
    λ i. sym ended i && (is_level_shared (level_at p.levels contact l.message.group) && (not row.seen && (is_author l.origin || sym shared i)))

pub sent_line : (p : PlainFacts) (contact : ℕ) (mode : Mode) (now n : ℕ) (l : Line) → IsPlainSound p → slice_get p.messages.lines n ≡ Some l
    → (is_line_sendable p.levels contact l (row_at p.rows contact l.id) && is_ripe mode now (row_at p.rows contact l.id)) ≡ is_sent (seen_of p) contact mode now (held_of l)
sent_line p contact mode now n l sound at = ap (λ b. b && is_ripe mode now (row_at p.rows contact l.id)) (sendable_line p contact n l sound at)

pub offered_line : (p : PlainFacts) (contact now n : ℕ) (l : Line) → IsPlainSound p → slice_get p.messages.lines n ≡ Some l
    → (is_line_sendable p.levels contact l (row_at p.rows contact l.id) && (not (row_at p.rows contact l.id).asked && nat_le (row_at p.rows contact l.id).expiry now))
    ≡ is_offered (seen_of p) contact now (held_of l)
offered_line p contact now n l sound at =
    let row = row_at p.rows contact l.id in
    ap (λ b. b && (not row.asked && nat_le row.expiry now)) (sendable_line p contact n l sound at)

pub sooner_line : (p : PlainFacts) (contact latency now n : ℕ) (l : Line) → IsPlainSound p → slice_get p.messages.lines n ≡ Some l
    → (is_line_sendable p.levels contact l (row_at p.rows contact l.id) && goes_sooner latency now (row_at p.rows contact l.id)) ≡ is_sooner (seen_of p) contact latency now (held_of l)
sooner_line p contact latency now n l sound at = ap (λ b. b && goes_sooner latency now (row_at p.rows contact l.id)) (sendable_line p contact n l sound at)

-- ---- lists that are cut

-- nothing is left
pub none_left : {X : Type 0} (most : ℕ) (xs ys whole all : List X) → all ≡ take most xs → ys ≡ [] → take most (xs ++ ys) ≡ whole → all ≡ whole
none_left most xs ys whole all is none so = is ∙ (ap (take most) (sym (ap (λ t. xs ++ t) none ∙ append-nil xs)) ∙ so)

-- there are enough
pub enough : {X : Type 0} (most n : ℕ) (xs ys whole all : List X) → all ≡ take most xs → n ≡ length xs → most ≤ n → take most (xs ++ ys) ≡ whole → all ≡ whole
enough most n xs ys whole all is len long so = is ∙ (sym (take-append-le most xs ys (omega (arith, len, long))) ∙ so)

-- ---- all that there are

-- a test that is false beside a set of numbers picks the same among them as among all
pub owed_all : (p : PlainFacts) (contact : ℕ) (ns : List ℕ) → IsPlainSound p → contact < 256 → IsStrictlySortedBy nat_cmp ns → ((n : ℕ) → has ns n ≡ has_for p.owed contact n)
    → ids_at (is_owed (seen_of p) contact) (held_in p.messages.lines) ns ≡ ids_where (is_owed (seen_of p) contact) (held_in p.messages.lines)
owed_all p contact ns sound few ascends same =
    sparse (is_owed (seen_of p) contact) (held_in p.messages.lines) ns ascends (λ n h at out. sound.owes contact n h few at (sym (same n) ∙ out))

-- ---- from a number on

-- the message of a number, and those behind it
pub ids_from : (test : Held → Bool) (held : List Held) (n : ℕ)
    → ids_where test (drop n held) ≡ cons_option (picked test (slice_get held n)) (ids_where test (drop (suc n) held))
ids_from test [] zero = refl
ids_from test [] (suc n) = refl
ids_from test (h ∷ hs) zero = sym (cons_cond (test h) h.id (ids_where test hs))
ids_from test (h ∷ hs) (suc n) = ids_from test hs n

-- the first of those from a number on, by its message
pub first_here : (test : Held → Bool) (held : List Held) (n : ℕ) (id : Id) (o whole : Option Id) → o ≡ Some id → o ≡ picked test (slice_get held n)
    → first_id (ids_where test (drop n held)) ≡ whole → Some id ≡ whole
first_here test held n id o whole is by so =
    sym (ap first_id (ids_from test held n) ∙ ap (λ (p : Option Id). first_id (cons_option p (ids_where test (drop (suc n) held)))) (sym by ∙ is)) ∙ so

pub first_next : (test : Held → Bool) (held : List Held) (n : ℕ) (o whole : Option Id) → o ≡ None → o ≡ picked test (slice_get held n)
    → first_id (ids_where test (drop n held)) ≡ whole → first_id (ids_where test (drop (n + 1) held)) ≡ whole
first_next test held n o whole is by so =
    let one : n + 1 ≡ suc n = omega arith in
    ap (λ (k : ℕ). first_id (ids_where test (drop k held))) one
    ∙ (sym (ap first_id (ids_from test held n) ∙ ap (λ (p : Option Id). first_id (cons_option p (ids_where test (drop (suc n) held)))) (sym by ∙ is)) ∙ so)

-- those that were found, with those from a number on, by its message
pub list_here : (most : ℕ) (test : Held → Bool) (held : List Held) (n : ℕ) (id : Id) (o : Option Id) (xs ys whole : List Id) → o ≡ Some id
    → o ≡ picked test (slice_get held n) → ys ≡ xs ++ id ∷ [] → take most (xs ++ ids_where test (drop n held)) ≡ whole
    → take most (ys ++ ids_where test (drop (n + 1) held)) ≡ whole
list_here most test held n id o xs ys whole is by pushed so =
    let one : n + 1 ≡ suc n = omega arith in
    let rest : List Id = ids_where test (drop (suc n) held) in
    let all : ids_where test (drop n held) ≡ id ∷ rest =
    ids_from test held n ∙ ap (λ (p : Option Id). cons_option p rest) (sym by ∙ is) in
    (λ i. take most (pushed i ++ ids_where test (drop (one i) held)))
    ∙ (ap (take most) (append_assoc xs (id ∷ []) rest) ∙ (sym (ap (λ t. take most (xs ++ t)) all) ∙ so))

pub list_next : (most : ℕ) (test : Held → Bool) (held : List Held) (n : ℕ) (o : Option Id) (xs ys whole : List Id) → o ≡ None
    → o ≡ picked test (slice_get held n) → ys ≡ xs → take most (xs ++ ids_where test (drop n held)) ≡ whole
    → take most (ys ++ ids_where test (drop (n + 1) held)) ≡ whole
list_next most test held n o xs ys whole is by same so =
    let one : n + 1 ≡ suc n = omega arith in
    let rest : List Id = ids_where test (drop (suc n) held) in
    let all : ids_where test (drop n held) ≡ rest =
    ids_from test held n ∙ ap (λ (p : Option Id). cons_option p rest) (sym by ∙ is) in
    (λ i. take most (same i ++ ids_where test (drop (one i) held))) ∙ (sym (ap (λ t. take most (xs ++ t)) all) ∙ so)

-- beyond the end there is none
pub none_from : (test : Held → Bool) (held : List Held) (n : ℕ) → length held ≤ n → ids_where test (drop n held) ≡ []
none_from test held n beyond = ap (ids_where test) (drop_all n held beyond)

-- ---- among those that may go

goes_by : (a b c d j h : Bool) → (a && (b && (c && (d || (j && h))))) ≡ true → (a && (b && (c && (d || h)))) ≡ true
goes_by true true true true j h e = refl
goes_by true true true false true h e = e
goes_by true true true false false h e = absurd (false≢true e)
goes_by true true false d j h e = absurd (false≢true e)
goes_by true false c d j h e = absurd (false≢true e)
goes_by false b c d j h e = absurd (false≢true e)

-- what may be sent may go
sendable_goes : (p : PlainFacts) (contact n : ℕ) (l : Line) → IsPlainSound p → slice_get p.messages.lines n ≡ Some l
    → is_sendable (facts_of p) (shared_in p.messages.lines) contact (held_of l) ≡ true → may_go p.levels contact l (row_at p.rows contact l.id) ≡ true
sendable_goes p contact n l sound at sendable =
    goes_by l.delivered (is_level_shared (level_at p.levels contact l.message.group)) (not (row_at p.rows contact l.id).seen) (is_author l.origin) l.judged (shares l.answer)
    (sendable_line p contact n l sound at ∙ sendable)

-- none is left behind the end
none_behind : (ds : List ℕ) (k n : ℕ) → k ≡ length ds → has (drop k ds) n ≡ false
none_behind ds k n all = ap (λ (t : List ℕ). has t n) (drop_all k ds (omega (arith, all)))

-- where all was brought, what may be sent stands where it belongs
stands_brought : (p : PlainFacts) (contact now n : ℕ) (l : Line) → IsPlainSound p → contact < 256 → IsBroughtAt p contact now → slice_get p.messages.lines n ≡ Some l
    → is_sendable (facts_of p) (shared_in p.messages.lines) contact (held_of l) ≡ true → stands p.ready contact n (row_at p.rows contact l.id) ≡ true
stands_brought p contact now n l sound few brought at sendable =
    sound.stand contact n l few at (none_behind p.messages.delivered (from_of p.ready.cursors contact) n brought.all) (sendable_goes p contact n l sound at sendable)

-- one that was asked for is in the set
asked_in : (ready : Ready) (contact n : ℕ) (r : Row) → stands ready contact n r ≡ true → r.asked ≡ true → has_for ready.asked contact n ≡ false → ⊥
asked_in ready contact n r standing asked out =
    let first = (and_parts (not r.asked || has_for ready.asked contact n) (has_for ready.awake contact n || has_alarm ready.alarms contact r.expiry n) standing).0 in
    false≢true (sym (λ i. not (asked i) || out i) ∙ first)

-- one whose time has come is in the set
awake_in : (ready : Ready) (contact now n : ℕ) (r : Row) → ((t m : ℕ) → has_alarm ready.alarms contact t m ≡ true → now < t) → stands ready contact n r ≡ true
    → nat_le r.expiry now ≡ true → has_for ready.awake contact n ≡ false → ⊥
awake_in ready contact now n r ahead standing timely out =
    let second = (and_parts (not r.asked || has_for ready.asked contact n) (has_for ready.awake contact n || has_alarm ready.alarms contact r.expiry n) standing).1 in
    let later : now < r.expiry = ahead r.expiry n (sym (ap (λ b. b || has_alarm ready.alarms contact r.expiry n) out) ∙ second) in
    false≢true (sym (lt-leb r.expiry now later) ∙ timely)

not_true : (b : Bool) → (b ≡ true → ⊥) → b ≡ false
not_true true none = absurd (none refl)
not_true false none = refl

sent_in : (p : PlainFacts) (contact : ℕ) (m : Mode) (now n : ℕ) (l : Line) → IsPlainSound p → contact < 256 → IsBroughtAt p contact now → slice_get p.messages.lines n ≡ Some l
    → has_for (set_for p.ready m) contact n ≡ false → is_sent (seen_of p) contact m now (held_of l) ≡ true → ⊥
sent_in p contact mode.Interactive now n l sound few brought at out sent =
    let row = row_at p.rows contact l.id in
    let both = and_parts (is_sendable (facts_of p) (shared_in p.messages.lines) contact (held_of l)) row.asked sent in
    asked_in p.ready contact n row (stands_brought p contact now n l sound few brought at both.0) both.1 out
sent_in p contact mode.Batch now n l sound few brought at out sent =
    let row = row_at p.rows contact l.id in
    let both = and_parts (is_sendable (facts_of p) (shared_in p.messages.lines) contact (held_of l)) (nat_le row.expiry now) sent in
    awake_in p.ready contact now n row brought.ahead (stands_brought p contact now n l sound few brought at both.0) both.1 out

offered_in : (p : PlainFacts) (contact now n : ℕ) (l : Line) → IsPlainSound p → contact < 256 → IsBroughtAt p contact now → slice_get p.messages.lines n ≡ Some l
    → has_for p.ready.awake contact n ≡ false → is_offered (seen_of p) contact now (held_of l) ≡ true → ⊥
offered_in p contact now n l sound few brought at out offered =
    let row = row_at p.rows contact l.id in
    let both = and_parts (is_sendable (facts_of p) (shared_in p.messages.lines) contact (held_of l)) (not row.asked && nat_le row.expiry now) offered in
    awake_in p.ready contact now n row brought.ahead (stands_brought p contact now n l sound few brought at both.0)
    (and_parts (not row.asked) (nat_le row.expiry now) both.1).1 out

-- what is picked among a set is what is picked of all, where all was brought
pub sent_among : (p : PlainFacts) (contact : ℕ) (m : Mode) (now : ℕ) (ns : List ℕ) → IsPlainSound p → contact < 256 → IsBroughtAt p contact now → IsStrictlySortedBy nat_cmp ns
    → ((n : ℕ) → has ns n ≡ has_for (set_for p.ready m) contact n)
    → ids_at (is_sent (seen_of p) contact m now) (held_in p.messages.lines) ns ≡ ids_where (is_sent (seen_of p) contact m now) (held_in p.messages.lines)
sent_among p contact m now ns sound few brought ascends same =
    sparse (is_sent (seen_of p) contact m now) (held_in p.messages.lines) ns ascends
    (λ n h at out.
    let line = held_get p.messages.lines n h at in
    ap (is_sent (seen_of p) contact m now) line.is
    ∙ not_true (is_sent (seen_of p) contact m now (held_of line.line)) (sent_in p contact m now n line.line sound few brought line.at (sym (same n) ∙ out)))

pub offered_among : (p : PlainFacts) (contact now : ℕ) (ns : List ℕ) → IsPlainSound p → contact < 256 → IsBroughtAt p contact now → IsStrictlySortedBy nat_cmp ns
    → ((n : ℕ) → has ns n ≡ has_for p.ready.awake contact n)
    → ids_at (is_offered (seen_of p) contact now) (held_in p.messages.lines) ns ≡ ids_where (is_offered (seen_of p) contact now) (held_in p.messages.lines)
offered_among p contact now ns sound few brought ascends same =
    sparse (is_offered (seen_of p) contact now) (held_in p.messages.lines) ns ascends
    (λ n h at out.
    let line = held_get p.messages.lines n h at in
    ap (is_offered (seen_of p) contact now) line.is
    ∙ not_true (is_offered (seen_of p) contact now (held_of line.line)) (offered_in p contact now n line.line sound few brought line.at (sym (same n) ∙ out)))

-- ---- before a contact's mark

late_not : (d l s o g : Bool) → (not s && g) ≡ false → ((d && (l && (not s && o))) && g) ≡ false
late_not true true true o g e = refl
late_not true true false true g e = e
late_not true true false false g e = refl
late_not true false s o g e = refl
late_not false l s o g e = refl

-- where none of the first messages passes, those behind them are all
pub late_front : (test : Held → Bool) (held : List Held) (from : ℕ) → ((n : ℕ) (h : Held) → n < from → slice_get held n ≡ Some h → test h ≡ false)
    → ids_where test (drop from held) ≡ ids_where test held
late_front test held zero none = refl
late_front test [] (suc from) none = refl
late_front test (h ∷ held) (suc from) none =
    late_front test held from (λ n x low at. none (suc n) x (omega (arith, low)) at)
    ∙ ap (λ b. cond b (h.id ∷ ids_where test held) (ids_where test held)) (sym (none zero h (omega arith) refl))

pub sooner_from : (p : PlainFacts) (contact latency now start : ℕ) → IsPlainSound p → start ≤ (mark_of p.early contact).from
    → ((n : ℕ) → n < start → (mark_of p.early contact).latency ≤ latency) → ((n : ℕ) → n < start → (mark_of p.early contact).now ≤ now)
    → ids_where (is_sooner (seen_of p) contact latency now) (drop start (held_in p.messages.lines)) ≡ ids_where (is_sooner (seen_of p) contact latency now) (held_in p.messages.lines)
sooner_from p contact latency now start sound begins quick early =
    late_front (is_sooner (seen_of p) contact latency now) (held_in p.messages.lines) start
    (λ n h low at.
    let line = held_get p.messages.lines n h at in
    let l = line.line in
    let mark = mark_of p.early contact in
    let under : n < mark.from = omega (arith, low, begins) in
    let row : Row = row_at p.rows contact l.id in
    let off : goes_early latency now row ≡ false =
    late_still mark.latency latency mark.now now row (quick n low) (early n low) (sound.late contact n l line.at under) in
    ap (is_sooner (seen_of p) contact latency now) line.is
    ∙ late_not (is_among (facts_of p).delivered l.id) (is_level_shared (level_at p.levels contact l.message.group)) row.seen
    (is_author l.origin || is_among (shared_in p.messages.lines) l.id) (goes_sooner latency now row) off)
