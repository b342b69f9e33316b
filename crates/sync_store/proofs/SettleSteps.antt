-- Settling, one batch after another.
use Rattle.std.proofs.Common.{◌≡◌, ℕ, ◌+◌, ◌*◌, length, true, false, List, [], ◌∷◌, ◌++◌, Some}
use Rattle.std.proofs.Common.{Result, Ok, Err, refl, sym, ap, ◌∙◌, subst, inl, inr, arith}
use Rattle.std.proofs.Common.{append-nil, append_assoc, length-append}
use Rattle.outside.specs.Files.{Two, File}
use Rattle.outside.specs.Links.{Links, sent_of}
use Rattle.outside.specs.Made.{BreaksIn, DoesAll}
use Rattle.outside.specs.Outside.{Outside, DiskRun, MakesAtMost, MakesJust}
use Rattle.frame_journal.specs.Append.{IsFramed}
use Rattle.frame_journal.specs.Appends.{Appends, BreaksAppends, append_calls}
use Rattle.frame_journal.proofs.Appending.{appends_none, appends_one, appends_then, breaks_behind, breaks_one, frames_of_one}
use Rattle.outside.proofs.CallSteps.{moments_map, moments_then, told_back}
use Rattle.outside.proofs.CallSteps.{told_on}
use Rattle.outside.proofs.CallCounts.{just_most, just_none, just_then, most_none, most_then}
use Rattle.sync_rules.specs.declared.entries.Entry.{Entry}
use Rattle.sync_rules.specs.Clients.{Meaning}
use Rattle.entry_codec.specs.declared.naming.Format.{Format}
use Rattle.entry_codec.specs.Standing.{step_len}
use Rattle.sync_store.specs.declared.fault.StoreFault.{StoreFault}
use Rattle.sync_store.specs.Store.{StoreValue}
use Rattle.sync_store.specs.Fitting.{FitsFiles, FitsSome}
use Rattle.sync_store.specs.Appending.{AppendsFor, CallsFor}
use Rattle.sync_store.specs.Moments.{JournalMoment, LeadsTo, WithAtMost, journal_with}
use Rattle.sync_store.specs.Moments.{RunsCommit, IsBetween}
use Rattle.sync_store.specs.Runs.{LeadsBy}
use Rattle.sync_store.specs.Settling.{settling_len, steps_in}
use Rattle.sync_store.proofs.FitSteps.{true≢false}
use Rattle.sync_store.proofs.FormatLaws.{steps_both}
use Rattle.sync_store.proofs.Steps.{steps_in-append}

-- a weaker word on a run
pub leads_map : (clients : Meaning) (P P' Q Q' : List (List Entry) → Type 0) (s : StoreValue)
    (o o' : Outside) → ((whole : List (List Entry)) → P whole → P' whole)
    → ((whole : List (List Entry)) → Q whole → Q' whole) → LeadsTo clients P Q s o o'
    → LeadsTo clients P' Q' s o o'
leads_map clients P P' Q Q' s o o' p q run = record {
  moments =
      moments_map o o' (JournalMoment clients P (sent_of o.links.told))
      (JournalMoment clients P' (sent_of o.links.told))
      (λ m moment. record {
        whole = moment.whole;
        has = p moment.whole moment.has;
        stands_for = moment.stands_for;
        nothing_sent = moment.nothing_sent;
      }) run.moments;
  ends = λ still two told. let there =
      run.ends still two told in (there.0, q there.0 there.1, there.2);
}

-- ---- journals with a front of further batches

between_first : (j xs ys whole : List (List Entry)) → IsBetween j xs whole → IsBetween j
    (xs ++ ys) whole
between_first j xs ys whole b = record {
  front = b.front;
  rest = b.rest ++ ys;
  parts = ap (λ (l : List (List Entry)). l ++ ys) b.parts ∙ append_assoc b.front b.rest ys;
  is = b.is;
}

between_then : (j xs ys whole : List (List Entry)) → IsBetween (j ++ xs) ys whole → IsBetween j
    (xs ++ ys) whole
between_then j xs ys whole b = record {
  front = xs ++ b.front;
  rest = b.rest;
  parts = ap (λ (l : List (List Entry)). xs ++ l) b.parts ∙ sym (append_assoc xs b.front b.rest);
  is = b.is ∙ append_assoc j xs b.front;
}

between_one : (j : List (List Entry)) (batch : List Entry) (whole : List (List Entry))
    → WithAtMost j batch whole → IsBetween j (batch ∷ []) whole
between_one j batch whole (inl before) =
    record { front = []; rest = batch ∷ []; parts = refl; is = before ∙ sym (append-nil j) }
between_one j batch whole (inr with_it) =
    record { front = batch ∷ []; rest = []; parts = refl; is = with_it }

-- ---- no batch, and one

-- the calls of no group, of one, and of groups behind others
-- ---- no batch, and one

-- nothing was asked of the disk
pub appends_same : (s new : StoreValue) (o : Outside) → new.end ≡ s.end → new.closed ≡ s.closed
    → AppendsFor s new o o
appends_same s new o end closed = record {
  all = λ still. subst (λ (n : ℕ). Appends s.file s.end n o o) (sym end)
      (appends_none s.file s.end o);
  broken = λ opened shut. true≢false new.closed shut (closed ∙ opened);
}

-- a frame was appended, or a call failed in that
pub appends_framed : (s new : StoreValue) (framed : List ℕ) (o o' : Outside) → IsFramed framed
    → new.end ≡ s.end + length framed → new.closed ≡ s.closed
    → DoesAll (append_calls s.file s.end framed) o o' → AppendsFor s new o o'
appends_framed s new framed o o' is_framed end closed does = record {
  all = λ still. subst (λ (n : ℕ). Appends s.file s.end n o o') (sym end)
      (appends_one s.file s.end framed o o' (frames_of_one framed is_framed) does);
  broken = λ opened shut. true≢false new.closed shut (closed ∙ opened);
}

pub appends_failed : (s new : StoreValue) (framed : List ℕ) (o o' : Outside) → IsFramed framed
    → new.closed ≡ true → BreaksIn (append_calls s.file s.end framed) o o' → AppendsFor s new o o'
appends_failed s new framed o o' is_framed closed breaks = record {
  all = λ still. true≢false new.closed closed still;
  broken = λ opened shut.
      breaks_one s.file s.end framed o o' (frames_of_one framed is_framed) breaks;
}

appends_both : (s0 s1 s2 : StoreValue) (o0 o1 o2 : Outside) → s1.file ≡ s0.file
    → s1.closed ≡ false → AppendsFor s0 s1 o0 o1 → AppendsFor s1 s2 o1 o2 → AppendsFor s0 s2 o0 o2
appends_both s0 s1 s2 o0 o1 o2 file still first second = record {
  all = λ opened.
      appends_then s0.file s0.end s1.end s2.end o0 o1 o2 (first.all still)
      (subst (λ (f : ℕ). Appends f s1.end s2.end o1 o2) file (second.all opened));
  broken = λ opened shut.
      breaks_behind s0.file s0.end s1.end o0 o1 o2 (first.all still)
      (subst (λ (f : ℕ). BreaksAppends f s1.end o1 o2) file (second.broken still shut));
}

-- the calls of no group, of one, and of groups behind others
pub calls_none : (s new : StoreValue) (o : Outside) → new.end ≡ s.end → new.closed ≡ s.closed
    → CallsFor 0 s new o o
calls_none s new o end closed =
    record { just = λ still. just_none o; most = most_none 0 o; appends = appends_same s new o end closed }

pub calls_one : (s new : StoreValue) (o o' : Outside) → MakesJust 4 o o' → AppendsFor s new o o'
    → CallsFor 1 s new o o'
calls_one s new o o' just appends =
    record { just = λ still. just; most = just_most 4 o o' just; appends = appends }

-- a call failed
pub calls_closed : (s new : StoreValue) (o o' : Outside) → new.closed ≡ true → MakesAtMost 4 o o'
    → AppendsFor s new o o' → CallsFor 1 s new o o'
calls_closed s new o o' closed most appends =
    record { just = λ still. true≢false new.closed closed still; most = most; appends = appends }

pub calls_runs : (s0 s1 s2 : StoreValue) (o0 o1 o2 : Outside) (m n : ℕ) → s1.file ≡ s0.file
    → s1.closed ≡ false → CallsFor m s0 s1 o0 o1 → CallsFor n s1 s2 o1 o2
    → CallsFor (m + n) s0 s2 o0 o2
calls_runs s0 s1 s2 o0 o1 o2 m n file still first second =
    let all : 4 * m + 4 * n ≡ 4 * (m + n) = omega arith in
    record {
      just = λ opened. subst (λ (n : ℕ). MakesJust n o0 o2) all
          (just_then (4 * m) (4 * n) o0 o1 o2 (first.just still) (second.just opened));
      most =
          subst (λ (n : ℕ). MakesAtMost n o0 o2) all
          (most_then (4 * m) (4 * n) o0 o1 o2 first.most second.most);
      appends = appends_both s0 s1 s2 o0 o1 o2 file still first.appends second.appends;
    }

pub leads_one : (clients : Meaning) (j : List (List Entry)) (batch : List Entry) (new : StoreValue)
    (u : Unit {0}) (o o' : Outside) → RunsCommit clients batch (Ok u) new o o' j
    → LeadsTo clients (IsBetween j (batch ∷ [])) (λ whole. whole ≡ j ++ batch ∷ []) new o o'
leads_one clients j batch new u o o' adds =
    leads_map clients (WithAtMost j batch) (IsBetween j (batch ∷ [])) (λ whole.
    whole ≡ journal_with j batch (Ok u)) (λ whole. whole ≡ j ++ batch ∷ []) new o o'
    (between_one j batch) (λ whole is. is) adds

-- the store is closed, so nothing is said of its end
pub leads_one_closed : (clients : Meaning) (j : List (List Entry)) (batch : List Entry)
    (new : StoreValue) (e : StoreFault) (o o' : Outside)
    → RunsCommit clients batch (Err e) new o o' j → new.closed ≡ true
    → LeadsTo clients (IsBetween j (batch ∷ [])) (λ whole. whole ≡ j ++ batch ∷ []) new o o'
leads_one_closed clients j batch new e o o' adds closed = record {
  moments =
      moments_map o o' (JournalMoment clients (WithAtMost j batch) (sent_of o.links.told))
      (JournalMoment clients (IsBetween j (batch ∷ [])) (sent_of o.links.told))
      (λ m moment. record {
        whole = moment.whole;
        has = between_one j batch moment.whole moment.has;
        stands_for = moment.stands_for;
        nothing_sent = moment.nothing_sent;
      }) adds.moments;
  ends = λ still two told. true≢false new.closed closed still;
}

-- ---- batches and then further ones

pub settling_len-append : (f : Format) (xs ys : List (List Entry)) → settling_len f
    (xs ++ ys) ≡ settling_len f xs + settling_len f ys
settling_len-append f xs ys =
    omega (
      arith,
      ap (λ n. step_len f * n) (steps_in-append xs ys),
      steps_both f (steps_in xs) (steps_in ys),
      length-append xs ys,
    )

-- the moments and the end of one run behind another
pub leads_then : (clients : Meaning) (s0 s1 s2 : StoreValue) (o0 o1 o2 : Outside)
    (xs ys : List (List Entry)) → s1.closed ≡ false → DiskRun o0 o1
    → LeadsBy clients s0 s1 o0 o1 xs → LeadsBy clients s1 s2 o1 o2 ys
    → LeadsBy clients s0 s2 o0 o2 (xs ++ ys)
leads_then clients s0 s1 s2 o0 o1 o2 xs ys still run first second two told j fits =
    let begun = first two told j fits in
    let there = told_on o0 o1 two run.same_told told in
    let mid = begun.ends still there.0 there.1 in
    let later =
    second there.0 there.1 (j ++ xs)
    (subst (λ (k : List (List Entry)). FitsFiles clients s1 k there.0) mid.1 mid.2) in
    let same : sent_of o1.links.told ≡ sent_of o0.links.told =
    ap (λ (l : Links). sent_of l.told) run.same_links in
    let sent0 = sent_of o0.links.told in
    record {
      moments =
          moments_then o0 o1 o2 (JournalMoment clients (IsBetween j (xs ++ ys)) sent0)
          (moments_map o0 o1 (JournalMoment clients (IsBetween j xs) sent0)
          (JournalMoment clients (IsBetween j (xs ++ ys)) sent0)
          (λ m moment. record {
            whole = moment.whole;
            has = between_first j xs ys moment.whole moment.has;
            stands_for = moment.stands_for;
            nothing_sent = moment.nothing_sent;
          }) begun.moments)
          (moments_map o1 o2 (JournalMoment clients (IsBetween (j ++ xs) ys)
          (sent_of o1.links.told)) (JournalMoment clients (IsBetween j (xs ++ ys)) sent0)
          (λ m moment. record {
            whole = moment.whole;
            has = between_then j xs ys moment.whole moment.has;
            stands_for = moment.stands_for;
            nothing_sent = moment.nothing_sent ∙ same;
          }) later.moments);
      ends = λ open' two' told'. let end =
          later.ends open' two' told' in (end.0, end.1 ∙ append_assoc j xs ys, end.2);
    }

-- at the end of a commit the disk fits the store
pub adds_ready_fits : (clients : Meaning) (s s' : StoreValue) (batch : List Entry)
    (result : Result (Unit {0}) StoreFault) (o o' : Outside) → DiskRun o o'
    → ((two : Two File) → o.files ≡ Some two → (j : List (List Entry)) → FitsFiles clients s j two
    → RunsCommit clients batch result s' o o' j) → FitsSome clients s o.files
    → s'.closed ≡ false
    → FitsSome clients s' o'.files
adds_ready_fits clients s s' batch result o o' run adds fits still two' told' =
    let there = told_back o o' two' run.same_told told' in
    let begun = fits there.0 there.1 in
    let end = (adds there.0 there.1 begun.0 begun.1).ends still two' told' in
    (end.0, end.2)
