-- Batches that are tested and taken, entry by entry.
use Rattle.std.proofs.Common.{◌≡◌, ℕ, suc, Bool, true, false, cond, ◌&&◌, List, [], ◌∷◌, Option}
use Rattle.std.proofs.Common.{Some, None, refl, sym, ◌∙◌, ap, subst}
use Rattle.std.specs.List.{list_all, slice_get}
use Rattle.std.proofs.lemmas.Bool.{and_from, and_parts, false≢true, or_left, or_right}
use Rattle.std.specs.Prelude.{nat_lt}
use Rattle.session_core.specs.Known.{IsOfAll}
use Rattle.sync_rules.specs.declared.answers.Judgement.{Judgement}
use Rattle.sync_rules.specs.declared.answers.Judgement.TheVariants as judgement
use Rattle.sync_rules.specs.declared.entries.Entry.{Entry}
use Rattle.sync_rules.specs.declared.entries.Entry.TheVariants as entry
use Rattle.sync_rules.specs.declared.entries.Out.{Out}
use Rattle.sync_rules.specs.declared.entries.Out.TheVariants as out
use Rattle.sync_rules.specs.Allows.{AllowsIsAllowed, allows, is_some_of, same_entry, settles, suits_rows}
use Rattle.sync_rules.specs.Clients.{Meaning}
use Rattle.sync_rules.specs.Consistency.{IsConsistent}
use Rattle.sync_rules.specs.Facts.{Facts, Held, Id, after, after_all, contact_in, is_held, nothing, session_at}
use Rattle.sync_rules.specs.Lists.{is_among, same_id}
use Rattle.sync_rules.specs.Meeting.{AllMeet, MeetsNoStep}
use Rattle.sync_rules.specs.Naming.{NamesDistinct}
use Rattle.sync_rules.specs.Sessions.{ids_where, may_share, shared_ids}
use Rattle.sync_rules.specs.Steps.{answer_of, next}
use Rattle.sync_rules.specs.Growth.{IsStepOf}
use Rattle.sync_rules.proofs.Elements.{same_id_itself}
use Rattle.sync_rules.proofs.ConsistencyLaws.{consistent_after, legal_consistent}
use Rattle.sync_rules.proofs.DueLaws.{due_names_distinct}
use Rattle.sync_rules.proofs.Kept.{sound_after}
use Rattle.sync_rules.proofs.MeetingLaws.{allowed_meets, meets_fits}
use Rattle.sync_rules.proofs.Runs.{goes_on_sound, sound_nothing}
use Rattle.sync_rules.proofs.SameEntries.{same_entry-is}
use Rattle.sync_rules.proofs.Sound.{SoundFacts}
use Rattle.sync_rules.proofs.StepKinds.{next_is_step}
use Rattle.journal_audit.specs.declared.facts.PlainFacts.{PlainFacts}
use Rattle.journal_audit.specs.declared.messages.Line.{Line}
use Rattle.journal_audit.specs.Changes.{BecomesKnown, MayTakeEntry, FitsOut}
use Rattle.journal_audit.specs.Lines.{held_in, held_of, ids_flagged}
use Rattle.journal_audit.specs.Plain.{IsPlainSound, KnowsMeanings, facts_of, shared_in}
use Rattle.journal_audit.specs.Standing.{shares}
use Rattle.journal_audit.specs.Playing.{AllFit, IsOfLegal, all_go, goes}
use Rattle.journal_audit.proofs.Lines.{flagged_is, own_flag}
use Rattle.journal_audit.proofs.Steps.{known_at}

-- ---- what may be sent on

flagged_where : (flag : Line → Bool) (test : Held → Bool) (ls : List Line) → ((n : ℕ) (l : Line) → slice_get ls n ≡ Some l → flag l ≡ test (held_of l))
    → ids_flagged flag ls ≡ ids_where test (held_in ls)
flagged_where flag test [] same = refl
flagged_where flag test (l ∷ ls) same =
    λ i. cond (same 0 l refl i) (l.id ∷ flagged_where flag test ls (λ n x at. same (suc n) x at) i) (flagged_where flag test ls (λ n x at. same (suc n) x at) i)

pub shared_is : (clients : Meaning) (p : PlainFacts) → IsPlainSound p → KnowsMeanings clients p → shared_in p.messages.lines ≡ shared_ids clients (facts_of p)
shared_is clients p sound knows =
    let ls = p.messages.lines in
    flagged_where (λ l. l.judged && shares l.answer) (λ h. may_share (answer_of clients (facts_of p) h)) ls
    (λ n l at. by l.judged l.answer
    ∙ (λ i. may_share (cond ((sym (flagged_is (λ x. x.judged) ls l.id ∙ own_flag (λ x. x.judged) ls n l sound.lines.distinct at)) i)
    (Some (known_at clients p ls n l knows at i)) None)))
  where
    by : (b : Bool) (answer : Judgement) → (b && shares answer) ≡ may_share (cond b (Some answer) None)
    by true judgement.Refuse = refl
    by true (judgement.Accept deps share) = refl
    by false answer = refl

-- ---- entries fit

-- the next step fits
step_fits : (f : Facts) (e : Entry) → IsStepOf f e → MayTakeEntry f e
step_fits f (entry.Judged id) is = is
step_fits f (entry.Deliver id) is = is
step_fits f (entry.Invalid id) is = is
step_fits f _ is = absurd is

next_fits : (clients : Meaning) (f : Facts) (e : Entry) (o : Option Entry) → next clients f ≡ o → is_some_of same_entry o e ≡ true → MayTakeEntry f e
next_fits clients f e None is go = absurd (false≢true go)
next_fits clients f e (Some x) is go = step_fits f e (next_is_step clients f e (is ∙ ap (λ (y : Entry). Some y) (same_entry-is x e go)))

-- a row or a wanted id that suits fits
rows_fit : (f : Facts) (e : Entry) → suits_rows f e ≡ true → MayTakeEntry f e
rows_fit f (entry.Tried t) go = (and_parts (is_held f.held t.id) _ (and_parts (nat_lt t.contact f.contacts) _ go).1).0
rows_fit f (entry.Want contact id) go = tt
rows_fit f _ go = absurd (false≢true go)

pub goes_fits : (clients : Meaning) (rows : Bool) (f : Facts) (e : Entry) → goes clients rows f e ≡ true → MayTakeEntry f e
goes_fits clients true f e go = rows_fit f e go
goes_fits clients false f e go = next_fits clients f e (next clients f) refl go

-- ---- an allowed batch fits

each_held : (f : Facts) (ids : List Id) → ((id : Id) → is_among ids id ≡ true → is_held f.held id ≡ true) → list_all (is_held f.held) ids ≡ true
each_held f [] held = refl
each_held f (x ∷ ids) held =
    and_from (is_held f.held x) (list_all (is_held f.held) ids) (held x (or_left (same_id x x) (is_among ids x) (same_id_itself x)))
    (each_held f ids (λ id among. held id (or_right (same_id x id) (is_among ids id) among)))

out_fits : (f : Facts) (contact : ℕ) (what : Out) → NamesDistinct f contact what → FitsOut f what
out_fits f contact (out.Acks ids) names = record { distinct = names.0.distinct; held = each_held f ids names.1 }
out_fits f contact (out.Requests ids) names = tt
out_fits f contact (out.Offers ids) names = record { distinct = names.0.distinct; held = each_held f ids names.1 }
out_fits f contact (out.Send id) names = names

meeting_fits : (clients : Meaning) (f : Facts) (e : Entry) → IsConsistent f → MeetsNoStep clients f e → MayTakeEntry f e
meeting_fits clients f (entry.Contact c) fit m = m.1
meeting_fits clients f (entry.Level c g l) fit m = m.1
meeting_fits clients f (entry.Author x) fit m = record { known_group = m.1.known_group; new = m.1.new }
meeting_fits clients f (entry.Arrive s x) fit m = record { known_group = m.1.known_group; new = m.1.new }
meeting_fits clients f (entry.Judged id) fit m = next_is_step clients f (entry.Judged id) m
meeting_fits clients f (entry.Deliver id) fit m = next_is_step clients f (entry.Deliver id) m
meeting_fits clients f (entry.Invalid id) fit m = next_is_step clients f (entry.Invalid id) m
meeting_fits clients f (entry.Again s id) fit m = m.1.held
meeting_fits clients f (entry.Seen s id) fit m = m.1.held
meeting_fits clients f (entry.Asked s id) fit m = m.1.held
meeting_fits clients f (entry.Out s now what) fit m = out_fits f (contact_in (session_at f.sessions s)) what (due_names_distinct f fit.held fit.wanted clients (session_at f.sessions s) now what m.1)
meeting_fits clients f (entry.Kept from x) fit m =
    record { known_group = m.1.1.known_group; new = m.1.1.new }
meeting_fits clients f (entry.Tried t) fit m = m.2.held
meeting_fits clients f _ fit m = tt

all_meeting_fit : (clients : Meaning) (f : Facts) (es : List Entry) → SoundFacts clients f → IsConsistent f → AllMeet clients f es → AllFit f es
all_meeting_fit clients f [] sound fit meet = tt
all_meeting_fit clients f (e ∷ es) sound fit meet = (
  meeting_fits clients f e fit meet.0,
  all_meeting_fit clients (after f e) es (sound_after clients f e (meets_fits clients f e meet.0) sound) (consistent_after clients f e sound meet.0 fit) meet.1,
)

pub allowed_fits : (clients : Meaning) (p : PlainFacts) (b : List Entry) → AllowsIsAllowed → IsOfLegal clients p → allows clients (facts_of p) b ≡ true → AllFit (facts_of p) b
allowed_fits clients p b law of test =
    let sound = goes_on_sound clients nothing of.done of.legal (sound_nothing clients) in
    all_meeting_fit clients (facts_of p) b (subst (SoundFacts clients) (sym of.facts_are) sound) (subst IsConsistent (sym of.facts_are) (legal_consistent clients of.done of.legal))
    (allowed_meets clients (facts_of p) b ((law clients (facts_of p) b).0 test))

-- ---- entries one after the other

-- entries are taken, and these are left
pub record PlaysOn (clients : Meaning) (rows : Bool) (old now : PlainFacts) (whole left : List Entry) : Type 0 where
  pub sound : IsPlainSound now
  pub knows : KnowsMeanings clients now
  pub same_test : all_go clients rows (facts_of now) left ≡ all_go clients rows (facts_of old) whole
  pub same_end : after_all (facts_of now) left ≡ after_all (facts_of old) whole

pub plays_more : (clients : Meaning) (rows : Bool) (old now next : PlainFacts) (whole left rest : List Entry) (e : Entry) → PlaysOn clients rows old now whole left → left ≡ e ∷ rest
    → goes clients rows (facts_of now) e ≡ true → BecomesKnown clients next (after (facts_of now) e) → PlaysOn clients rows old next whole rest
plays_more clients rows old now next whole left rest e on is go more = record {
  sound = more.sound;
  knows = more.knows;
  same_test =
      ap (λ (f : Facts). all_go clients rows f rest) more.facts
      ∙ (sym (ap (λ b. b && all_go clients rows (after (facts_of now) e) rest) go) ∙ (sym (ap (all_go clients rows (facts_of now)) is) ∙ on.same_test));
  same_end = ap (λ (f : Facts). after_all f rest) more.facts ∙ (sym (ap (after_all (facts_of now)) is) ∙ on.same_end);
}

-- ---- entries that fit

pub record TakesOn (clients : Meaning) (old now : PlainFacts) (known : Option Id) (whole left : List Entry) : Type 0 where
  pub sound : IsPlainSound now
  pub knows : KnowsMeanings clients now
  pub fit : AllFit (facts_of now) left
  pub named : IsOfAll known left
  pub same_end : after_all (facts_of now) left ≡ after_all (facts_of old) whole

pub takes_more : (clients : Meaning) (old now next : PlainFacts) (known : Option Id) (whole left rest : List Entry) (e : Entry) → TakesOn clients old now known whole left → left ≡ e ∷ rest
    → BecomesKnown clients next (after (facts_of now) e) → TakesOn clients old next known whole rest
takes_more clients old now next known whole left rest e on is more = record {
  sound = more.sound;
  knows = more.knows;
  fit = subst (λ (f : Facts). AllFit f rest) (sym more.facts) (subst (AllFit (facts_of now)) is on.fit).1;
  named = (subst (IsOfAll known) is on.named).1;
  same_end = ap (λ (f : Facts). after_all f rest) more.facts ∙ (sym (ap (after_all (facts_of now)) is) ∙ on.same_end);
}

-- ---- the tests by kind

pub all_steps : (clients : Meaning) (f : Facts) (es : List Entry) → all_go clients false f es ≡ settles clients f es
all_steps clients f [] = refl
all_steps clients f (e ∷ es) = ap (λ b. is_some_of same_entry (next clients f) e && b) (all_steps clients (after f e) es)
