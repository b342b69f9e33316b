-- What reading and writing come to over journals.
use Rattle.std.proofs.Common.{◌≡◌, ℕ, ◌+◌, ◌<◌, true, false, cond, List, [], ◌∷◌, ◌++◌, refl, sym}
use Rattle.std.proofs.Common.{◌∙◌, ap, subst, inl, inr, arith, append_assoc, append-nil, Some, None}
use Rattle.std.proofs.Common.{nat_eq, eqb-true}
use Rattle.std.specs.List.{AllByRecursion}
use Rattle.sync_ids.specs.declared.records.Record.{Record}
use Rattle.sync_rules.specs.declared.entries.Entry.{Entry}
use Rattle.sync_rules.specs.declared.entries.Entry.TheVariants as entry
use Rattle.sync_rules.specs.declared.entries.Session.{Session}
use Rattle.sync_rules.specs.Clients.{Meaning}
use Rattle.sync_rules.specs.Facts.{Facts, after, after_batches, facts, session_at, takes_of}
use Rattle.sync_rules.specs.Growth.{output_of}
use Rattle.sync_rules.specs.Hearing.{HearsRecord, take_batch}
use Rattle.sync_rules.specs.Legal.{AllSettling, Legal}
use Rattle.sync_rules.specs.Steps.{IsSettled}
use Rattle.sync_rules.proofs.Continuing.{facts-append, legal-append}
use Rattle.sync_rules.proofs.OutputLaws.{not_begun_sent, sent_append}
use Rattle.sync_rules.proofs.SessionLaws.{legal_sessions}
use Rattle.sync_rules.proofs.WorkLaws.{facts-push, settles_itself}
use Rattle.mailbox_laws.specs.Boxes.{HearsAll, box_session, with_box}
use Rattle.mailbox_core.specs.Laws.{OutputsAreSent, ReadsAreBoxes}
use Rattle.mailbox_core.specs.Taking.{AllTaken, TakesRecord, TakesTo}

abbrev Batches : Type 0
Batches = List (List Entry)

-- ---- no session has the next number

none_above : (n : ℕ) (ss : List Session) → AllByRecursion (λ (s : Session). s.number < n) ss
    → session_at ss n ≡ None
none_above n [] below = refl
none_above n (s ∷ ss) below =
    elim (nat_eq s.number n) as (λ b. nat_eq s.number n ≡ b
    → cond b (Some s) (session_at ss n) ≡ None) [
      | true ↦ λ e. let same : s.number ≡ n =
          eqb-true s.number n e in let less : s.number < n = below.0 in absurd
          (omega (arith, same, less))
      | false ↦ λ e. none_above n ss below.1
    ] refl

next_free : (clients : Meaning) (j : Batches) → Legal clients j → session_at (facts j).sessions
    (facts j).begun ≡ None
next_free clients j legal =
    none_above (facts j).begun (facts j).sessions (legal_sessions clients j legal).below

-- ---- a file that is read

record_heard : (clients : Meaning) (session k : ℕ) (j : Batches) (r : Record) (more : Batches)
    → TakesRecord clients
    (facts j) session k r more
    → IsSettled clients (after_batches (facts j) more)
    → HearsRecord clients j session k r (j ++ more)
record_heard clients session k j r more takes settled =
    let its : List Entry = take_batch (facts j) session k r in
    record {
      settles = record {
        more = takes.settling;
        extends = ap (λ (bs : Batches). j ++ bs) takes.is
            ∙ sym (append_assoc j (its ∷ []) takes.settling);
        settling = subst (λ (f : Facts). AllSettling clients f takes.settling)
            (sym (facts-push j its)) takes.settles;
      };
      settled = subst (IsSettled clients) (sym (facts-append j more)) settled;
    }

hears_all : (clients : Meaning) (session k : ℕ) (j : Batches) (rs : List Record) (more : Batches)
    → TakesTo clients session AllTaken (facts j) k rs more
    → HearsAll clients session k j rs (j ++ more)
hears_all clients session k j [] more at = ap (λ (bs : Batches). j ++ bs) at.1 ∙ append-nil j
hears_all clients session k j (r ∷ rs) more (inl at) = let none : r ∷ rs ≡ [] = at.0 in cc
hears_all clients session k j (r ∷ rs) more (inr then) =
    let later : TakesTo clients session AllTaken (facts (j ++ then.first)) (k + 1) rs then.rest =
    subst (λ (f : Facts). TakesTo clients session AllTaken f (k + 1) rs then.rest)
    (sym (facts-append j then.first))
    then.later in
    let whole : (j ++ then.first) ++ then.rest ≡ j ++ more = append_assoc j then.first then.rest
    ∙ ap
    (λ (bs : Batches). j ++ bs) (sym then.is) in (
      j ++ then.first,
      record_heard clients session k j r then.first then.takes then.settled,
      subst (λ (new : Batches). HearsAll clients session (k + 1) (j ++ then.first) rs new) whole
          (hears_all clients session (k + 1) (j ++ then.first) rs then.rest later),
    )

pub reads_are_boxes : ReadsAreBoxes
reads_are_boxes clients contact j more records legal settled reads =
    let n : ℕ = (facts j).begun in
    let start : List Entry = entry.Session (box_session n contact) ∷ [] in
    let none : takes_of (facts j).takes n ≡ 0 =
    (legal_sessions clients j legal).untaken n (next_free clients j legal)
    in
    let there : after (facts j) (entry.Session (box_session n contact))
    ≡ facts (with_box contact j) = sym
    (facts-push j start) in
    let taken : TakesTo clients n AllTaken (facts (with_box contact j)) 0 records reads.rest =
    subst (λ (f : Facts). TakesTo clients n AllTaken f 0 records reads.rest) there
    (subst (λ (k : ℕ). TakesTo clients n AllTaken
    (after (facts j) (entry.Session (box_session n contact)))
    k records reads.rest) none reads.later) in
    let whole : with_box contact j ++ reads.rest ≡ j ++ more =
    append_assoc j (start ∷ []) reads.rest ∙ ap
    (λ (bs : Batches). j ++ bs) (sym reads.is) in
    record {
      before = j;
      settles = settles_itself clients j;
      settled = settled;
      hears =
          subst (HearsAll clients n 0 (with_box contact j) records) whole
          (hears_all clients n 0 (with_box contact j) records reads.rest taken);
    }

-- ---- a file that is written

pub outputs_are_sent : OutputsAreSent
outputs_are_sent clients j more legal goes =
    sent_append clients j more (facts j).begun (legal-append clients j more legal goes)
    ∙ ap (λ (rs : List Record). rs ++ output_of (facts j) (facts j).begun more)
    (not_begun_sent clients j (facts j).begun legal (next_free clients j legal)).1
