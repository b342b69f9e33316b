-- Entries that change a line or rows.
use Rattle.std.proofs.Common.{◌≡◌, ℕ, ◌+◌, ◌<◌, true, false, List, [], ◌∷◌, length, drop, Option, Some, None, cond, is_some, ◌++◌, Result, Ok, Err, OnOk, refl, sym, ◌∙◌, ap, subst, get_or}
use Rattle.std.specs.List.{list_all, slice_get}
use Rattle.std.proofs.lemmas.Bool.{and_parts, false≢true}
use Rattle.std.proofs.lemmas.List.{drop_more}
use Rattle.sync_ids.specs.Ids.{message_id_of}
use Rattle.sync_ids.specs.Values.{MessageValue}
use Rattle.sync_rules.specs.Clients.{Meaning}
use Rattle.sync_rules.specs.declared.states.Origin.{Origin}
use Rattle.sync_rules.specs.declared.states.Origin.TheVariants as origin
use Rattle.sync_rules.specs.declared.entries.Entry.{Entry}
use Rattle.sync_rules.specs.declared.entries.Entry.TheVariants as entry
use Rattle.sync_rules.specs.declared.entries.Out.{Out}
use Rattle.sync_rules.specs.declared.entries.Out.TheVariants as out
use Rattle.sync_rules.specs.Facts.{Facts, Held, Id, Row, Rows, change_row, change_rows, contact_of, held_at, is_held, kept_as, latency_of, row_acked, row_heard, row_offered}
use Rattle.sync_rules.specs.Views.{IsPlace}
use Rattle.sync_rules.proofs.Elements.{same_id_itself}
use Rattle.sync_rules.proofs.PartsOfIds.{firsts_of_distinct}
use Rattle.sync_rules.proofs.Sound.{held_at-push_new}
use Rattle.journal_audit.specs.declared.facts.PlainFacts.{PlainFacts}
use Rattle.journal_audit.specs.declared.messages.Line.{Line}
use Rattle.journal_audit.specs.Changes.{BecomesFacts, BecomesKnown, FitsOut, with_rows}
use Rattle.journal_audit.specs.Lines.{held_in, held_of}
use Rattle.journal_audit.specs.Plain.{IsPlainSound, KnowsMeanings, facts_of, rest_after}
use Rattle.journal_audit.proofs.Lines.{get_held}

-- the line of a number that was found under an id has that id
pub line_named : (ls : List Line) (id : Id) (n : ℕ) (l : Line) → IsPlace (held_in ls) id n → slice_get ls n ≡ Some l → l.id ≡ id
line_named ls id n l place at =
    let one : Some (held_of l) ≡ Some place.message = sym (get_held ls n l at) ∙ place.stands in
    let same : held_of l ≡ place.message = cc in
    ap (λ (h : Held). h.id) same ∙ place.named

-- ---- many rows

-- some rows of a contact were changed, and these are left
pub record RowsSoFar (before now : PlainFacts) (contact : ℕ) (ids left : List Id) (f : Row → Row) : Type 0 where
  pub facts : facts_of now ≡ with_rows (facts_of before) now.rows
  pub sound : IsPlainSound now
  pub knows : (clients : Meaning) → KnowsMeanings clients before → KnowsMeanings clients now
  pub so_far : change_rows now.rows contact left f ≡ change_rows before.rows contact ids f
  pub held : list_all (is_held (facts_of now).held) left ≡ true

pub rows_begun : (p : PlainFacts) (contact : ℕ) (ids : List Id) (f : Row → Row) → IsPlainSound p → list_all (is_held (facts_of p).held) ids ≡ true → RowsSoFar p p contact ids ids f
rows_begun p contact ids f sound held = record { facts = refl; sound = sound; knows = λ clients knows. knows; so_far = refl; held = held }

-- the next id, and those behind it
next_of : (before now : PlainFacts) (contact : ℕ) (ids : List Id) (n : ℕ) (id : Id) (f : Row → Row) → n < length ids → id ≡ get_or ids n id → RowsSoFar before now contact ids (drop n ids) f
    → RowsSoFar before now contact ids (id ∷ drop (n + 1) ids) f
next_of before now contact ids n id f within at so =
    let left : drop n ids ≡ id ∷ drop (n + 1) ids = drop_more ids n id within ∙ ap (λ (x : Id). x ∷ drop (n + 1) ids) (sym at) in
    subst (λ (l : List Id). RowsSoFar before now contact ids l f) left so

pub next_held : (before now : PlainFacts) (contact : ℕ) (ids : List Id) (n : ℕ) (id : Id) (f : Row → Row) → n < length ids → id ≡ get_or ids n id
    → RowsSoFar before now contact ids (drop n ids) f → is_held (facts_of now).held id ≡ true
next_held before now contact ids n id f within at so =
    (and_parts (is_held (facts_of now).held id) _ (next_of before now contact ids n id f within at so).held).0

pub rows_more : (before now next : PlainFacts) (contact : ℕ) (ids : List Id) (n : ℕ) (id : Id) (f : Row → Row) → n < length ids → id ≡ get_or ids n id
    → RowsSoFar before now contact ids (drop n ids) f → BecomesFacts now next (with_rows (facts_of now) (change_row now.rows contact id f))
    → RowsSoFar before next contact ids (drop (n + 1) ids) f
rows_more before now next contact ids n id f within at so more =
    let here = next_of before now contact ids n id f within at so in
    let rows : next.rows ≡ change_row now.rows contact id f = ap (λ (x : Facts). x.rows) more.facts in
    let held : (facts_of next).held ≡ (facts_of now).held = ap (λ (x : Facts). x.held) more.facts in
    record {
      facts =
          more.facts
          ∙ (λ i. with_rows (so.facts i) (sym rows i));
      sound = more.sound;
      knows = λ clients knows. more.knows clients (so.knows clients knows);
      so_far = ap (λ (r : Rows). change_rows r contact (drop (n + 1) ids) f) rows ∙ here.so_far;
      held = ap (λ (hs : List Held). list_all (is_held hs) (drop (n + 1) ids)) held ∙ (and_parts (is_held (facts_of now).held id) _ here.held).1;
    }

pub rows_done : (before now : PlainFacts) (contact : ℕ) (ids left : List Id) (f : Row → Row) → left ≡ [] → RowsSoFar before now contact ids left f
    → BecomesFacts before now (with_rows (facts_of before) (change_rows before.rows contact ids f))
rows_done before now contact ids left f none so = record {
  facts = so.facts ∙ ap (with_rows (facts_of before)) (ap (λ (l : List Id). change_rows now.rows contact l f) (sym none) ∙ so.so_far);
  sound = so.sound;
  knows = so.knows;
}

-- ---- what was sent

-- acknowledgements and offers of distinct ids, each for itself
pub acks_facts : (f : Facts) (session now contact : ℕ) (what : Out) (ids given : List Id) → what ≡ out.Acks ids → FitsOut f what → given ≡ ids → contact ≡ contact_of f.sessions session
    → with_rows f (change_rows f.rows contact given row_acked) ≡ rest_after f (entry.Out session now what)
acks_facts f session now contact what ids given is fits same on =
    let named = subst (FitsOut f) is fits in
    (λ i. with_rows f (change_rows f.rows (on i) ((same ∙ sym (firsts_of_distinct ids named.distinct)) i) row_acked))
    ∙ ap (λ (w : Out). rest_after f (entry.Out session now w)) (sym is)

pub offers_facts : (f : Facts) (session now contact latency : ℕ) (what : Out) (ids given : List Id) → what ≡ out.Offers ids → FitsOut f what → given ≡ ids
    → contact ≡ contact_of f.sessions session → latency ≡ latency_of f.sessions session
    → with_rows f (change_rows f.rows contact given (row_offered now latency)) ≡ rest_after f (entry.Out session now what)
offers_facts f session now contact latency what ids given is fits same on slow =
    let named = subst (FitsOut f) is fits in
    (λ i. with_rows f (change_rows f.rows (on i) ((same ∙ sym (firsts_of_distinct ids named.distinct)) i) (row_offered now (slow i))))
    ∙ ap (λ (w : Out). rest_after f (entry.Out session now w)) (sym is)

-- ---- an arrival

not_some : {X : Type 0} (o : Option X) → is_some o ≡ false → o ≡ None
not_some None none = refl
not_some (Some x) none = absurd (false≢true (sym none))

pub arrived_held : (hs before : List Held) (from : Origin) (m : MessageValue) (id : Id) → hs ≡ before ++ kept_as from m ∷ [] → is_held before (message_id_of m) ≡ false
    → id ≡ message_id_of m → is_held hs id ≡ true
arrived_held hs before from m id more new named =
    (λ i. is_held (more i) (named i))
    ∙ (ap is_some (held_at-push_new before (kept_as from m) (message_id_of m) (not_some (held_at before (message_id_of m)) new))
    ∙ ap (λ b. is_some (cond b (Some (kept_as from m)) None)) (same_id_itself (message_id_of m)))

-- the message is held, and its row is changed
pub arrived_facts : (f : Facts) (session contact : ℕ) (m : MessageValue) (id : Id) (next : Facts) → contact ≡ contact_of f.sessions session → id ≡ message_id_of m
    → next ≡ rest_after f (entry.Kept (origin.From contact) m) → with_rows next (change_row next.rows contact id row_heard) ≡ rest_after f (entry.Arrive session m)
arrived_facts f session contact m id next on named is =
    (λ i. with_rows (is i) (change_row (is i).rows contact id row_heard))
    ∙ (λ i. with_rows (rest_after f (entry.Kept (origin.From (on i)) m)) (change_row f.rows (on i) (named i) row_heard))

-- ---- any entry

-- what clients say is known of what the facts became
pub known_now : {X E : Type 0} {f : Facts} (clients : Meaning) (old new : PlainFacts) (r : Result X E) (next : Facts) → f ≡ next → KnowsMeanings clients old → OnOk r (BecomesFacts old new f)
    → OnOk r (BecomesKnown clients new next)
known_now {f = f} clients old new (Ok x) next same knows becomes = record {
  facts = becomes.facts ∙ same;
  sound = becomes.sound;
  knows = becomes.knows clients knows;
}
known_now clients old new (Err e) next same knows becomes = tt

-- and so for an entry that was told apart
pub entry_now : {X E : Type 0} {e : Entry} (clients : Meaning) (old new : PlainFacts) (r : Result X E) (given : Entry) → given ≡ e → KnowsMeanings clients old
    → OnOk r (BecomesFacts old new (rest_after (facts_of old) e)) → OnOk r (BecomesKnown clients new (rest_after (facts_of old) given))
entry_now {e = e} clients old new r given is knows becomes =
    known_now {f = rest_after (facts_of old) e} clients old new r (rest_after (facts_of old) given) (ap (λ (x : Entry). rest_after (facts_of old) x) (sym is)) knows becomes
