-- From what a call did to a host in memory to what it tells of its links.
use Rattle.std.proofs.Common.{◌≡◌, ◌≢◌, ℕ, zero, suc, ◌+◌, ◌-◌, ◌<◌, ◌≤◌, true, false, List, [], ◌∷◌, ◌++◌, length, take, replicate, None, Some, Result, Ok, Err, refl, sym, ap, ◌∙◌, subst, inl, inr, arith, length-append, append-nil, append_assoc}
use Rattle.std.specs.Prelude.{if◌then◌else◌, nat_lt, slice_index, ◌^◌, ◌/◌}
use Rattle.std.proofs.lemmas.List.{take_all, take_more, replicate-append-replicate}
use Rattle.std.proofs.lemmas.Bool.{lt-ltb, ltb-true, ltb-false}
use Rattle.std.specs.Option.{option_map}
use Rattle.outside.specs.declared.failed.Failed.{Failed}
use Rattle.outside.specs.declared.host.Heard.{Heard}
use Rattle.outside.specs.declared.host.Heard.TheVariants as heard
use Rattle.outside.specs.Faults.{one_more}
use Rattle.outside.specs.Links.{Links, ToldLink, Reply, got, idle, ended, Answered, nothing_heard, hear_reply, hear_failure, changed_at, with_sent}
use Rattle.outside.specs.Host.{LinkCause, DialsLink, MakesLink, HearsAnswer, hear, SendsOnLink, ReadsClock, GrowsReadings}
use Rattle.outside.specs.MemDisk.{dialled, sent, answered, MemDiskValue, answers_after, with_call}
use Rattle.outside.proofs.MemSound.{links_after-push}
use Rattle.outside.specs.MemHost.{MemHostValue, Readings, last_of, first_readings, readings_told, next_reading, upcoming_of, plans_of, links_of, RaisesCount, BeginsAgain, MakesDial, MakesAnswer, RepliesOnLink, MakesSend, MakesReading}
use Rattle.outside.specs.LinksTold.{links_heard, links_told}
use Rattle.outside.specs.MemLaws.{as_many, length-changed_at}
use Rattle.outside.specs.Planned.{AnswersAsPlanned}
use Rattle.outside.proofs.HostCalls.{answers_after-push}
use Rattle.outside.proofs.ClockSteps.{if_true, if_false}

-- ---- counts

pub raised_cause : {T E : Type 0} (link : ℕ) (old new : List ℕ) (e : E) → RaisesCount link old new → LinkCause {T = T} link (λ i. slice_index old i) (λ i. slice_index new i) (Err e)
raised_cause link old new e r = record { later = r.later; counts = r.raised; others = r.others }

pub same_cause : {T E : Type 0} (link : ℕ) (old new : List ℕ) (t : T) → new ≡ old → LinkCause {E = E} link (λ i. slice_index old i) (λ i. slice_index new i) (Ok t)
same_cause link old new t e = record { later = omega (arith, ap (λ l. slice_index l link) e); counts = ap (λ l. slice_index l link) e; others = λ i _. ap (λ l. slice_index l i) e }

-- ---- what was heard

heard_same : (links : List (List Answered)) (F G : ℕ → ℕ) → ((i : ℕ) → G i ≡ F i)
    → links_heard links G ≡ links_heard links F
heard_same [] F G e = refl
heard_same (a ∷ links) F G e =
    ap (λ n. record { answers = a; failures = n } ∷ links_heard links (λ i. G (suc i))) (e 0)
    ∙ ap (λ h. record { answers = a; failures = F 0 } ∷ h) (heard_same links (λ i. F (suc i)) (λ i. G (suc i)) (λ i. e (suc i)))

-- a link more
heard_more : (links : List (List Answered)) (F G : ℕ → ℕ) → G (length links) ≡ 0
    → ((i : ℕ) → i ≢ length links → G i ≡ F i)
    → links_heard (links ++ [] ∷ []) G ≡ links_heard links F ++ nothing_heard ∷ []
heard_more [] F G begun others = ap (λ n. record { answers = []; failures = n } ∷ []) begun
heard_more (a ∷ links) F G begun others =
    ap (λ n. record { answers = a; failures = n } ∷ links_heard (links ++ [] ∷ []) (λ i. G (suc i)))
    (others 0 (omega arith))
    ∙ ap (λ h. record { answers = a; failures = F 0 } ∷ h)
    (heard_more links (λ i. F (suc i)) (λ i. G (suc i)) begun (λ i other. others (suc i) (λ same. other (omega (arith, same)))))

-- an answer on a link
heard_reply : (link room : ℕ) (reply : Reply) (links : List (List Answered)) (F G : ℕ → ℕ) → G link ≡ 0 → ((i : ℕ) → i ≢ link → G i ≡ F i)
    → links_heard
    (changed_at link (λ l. l ++ record { failures = F link; room = room; reply = reply } ∷ [])
    links) G ≡ changed_at link (hear_reply room reply) (links_heard links F)
heard_reply link room reply [] F G begun others = refl
heard_reply zero room reply (a ∷ links) F G begun others =
    let now = a ++ record { failures = F 0; room = room; reply = reply } ∷ [] in
    ap (λ n. record { answers = now; failures = n } ∷ links_heard links (λ i. G (suc i))) begun
    ∙ ap (λ h. record { answers = now; failures = 0 } ∷ h) (heard_same links (λ i. F (suc i)) (λ i. G (suc i)) (λ i. others (suc i) (omega arith)))
heard_reply (suc link) room reply (a ∷ links) F G begun others =
    let change : List Answered → List Answered = λ l. l ++ record { failures = F (suc link); room = room; reply = reply } ∷ [] in
    ap (λ n. record { answers = a; failures = n } ∷ links_heard (changed_at link change links)
    (λ i. G (suc i))) (others 0 (omega arith))
    ∙ ap (λ h. record { answers = a; failures = F 0 } ∷ h)
    (heard_reply link room reply links (λ i. F (suc i)) (λ i. G (suc i)) begun (λ i other. others (suc i) (λ same. other (omega (arith, same)))))

-- a failure on a link
heard_failure : (link : ℕ) (links : List (List Answered)) (F G : ℕ → ℕ) → G link ≡ one_more (F link) → ((i : ℕ) → i ≢ link → G i ≡ F i)
    → links_heard links G ≡ changed_at link hear_failure (links_heard links F)
heard_failure link [] F G raised others = refl
heard_failure zero (a ∷ links) F G raised others =
    ap (λ n. record { answers = a; failures = n } ∷ links_heard links (λ i. G (suc i))) raised
    ∙ ap (λ h. record { answers = a; failures = one_more (F 0) } ∷ h) (heard_same links (λ i. F (suc i)) (λ i. G (suc i)) (λ i. others (suc i) (omega arith)))
heard_failure (suc link) (a ∷ links) F G raised others =
    ap (λ n. record { answers = a; failures = n } ∷ links_heard links (λ i. G (suc i)))
    (others 0 (omega arith))
    ∙ ap (λ h. record { answers = a; failures = F 0 } ∷ h)
    (heard_failure link links (λ i. F (suc i)) (λ i. G (suc i)) raised (λ i other. others (suc i) (λ same. other (omega (arith, same)))))

-- what is told of an unchanged disk
told_same : (old new : MemDiskValue) → new ≡ old → Some (links_of new) ≡ Some (links_of old)
told_same old new e = ap (λ (d : MemDiskValue). Some (links_of d)) e

heard_on_same : (old new : MemDiskValue) (s s' : List ℕ) → new ≡ old → s' ≡ s
    → Some (links_heard (answers_after [] new.calls) (λ i. slice_index s' i))
    ≡ Some (links_heard (answers_after [] old.calls) (λ i. slice_index s i))
heard_on_same old new s s' e same =
    ap (λ (d : MemDiskValue). Some (links_heard (answers_after [] d.calls) (λ i. slice_index s' i)))
    e
    ∙ ap (λ l. Some (links_heard (answers_after [] old.calls) (λ i. slice_index l i))) same

-- ---- a dial

abbrev links_in : MemHostValue → Links
links_in host = links_told host.disk.calls host.silences host.faults host.clock host.scripts

dial_made : (spec : List ℕ) (link : ℕ) (old new : MemHostValue) → link ≡ length (links_of old.disk) → new.disk ≡ with_call (dialled spec) old.disk → BeginsAgain link old.silences new.silences
    → MakesLink spec (Ok link) (links_in old) (links_in new)
dial_made spec link old new number e silences =
    let calls = old.disk.calls in
    let made : links_of new.disk ≡ links_of old.disk ++ record { spec = spec; sent = [] } ∷ [] = ap links_of e ∙ links_after-push [] calls (dialled spec) in
    let heard : answers_after [] new.disk.calls ≡ answers_after [] calls ++ [] ∷ [] =
    ap (λ (d : MemDiskValue). answers_after [] d.calls) e ∙ answers_after-push [] calls (dialled spec) in
    let as_many_is : length (answers_after [] calls) ≡ link = as_many [] [] calls refl ∙ sym number in
    let F : ℕ → ℕ = λ i. slice_index old.silences i in
    let G : ℕ → ℕ = λ i. slice_index new.silences i in (
      number,
      ap length made ∙ length-append (links_of old.disk) (record { spec = spec; sent = [] } ∷ []),
      ap Some made,
      ap (λ a. Some (links_heard a G)) heard
          ∙ ap Some (heard_more (answers_after [] calls) F G (ap G as_many_is ∙ silences.begun) (λ i other. silences.others i (λ same. other (same ∙ sym as_many_is)))),
    )

pub dials_links : (spec : List ℕ) (result : Result ℕ Failed) (old new : MemHostValue) → MakesDial spec result old new → DialsLink spec result (links_in old) (links_in new)
dials_links spec (Ok link) old new makes = record {
  made = dial_made spec link old new makes.outcome.number makes.outcome.disk makes.outcome.silences;
  same_readings = ap (λ (h : MemHostValue). readings_told h.clock) makes.rest;
  same_planned = ap (λ (h : MemHostValue). Some (plans_of h.scripts)) makes.rest;
  same_upcoming = ap (λ (h : MemHostValue). Some (upcoming_of h.clock)) makes.rest;
  faults = same_cause (length (links_of old.disk)) old.faults new.faults link makes.outcome.faults;
}
dials_links spec (Err e) old new makes =
    let same : new.disk ≡ old.disk = elim makes.outcome.cause [ inl due ↦ due.disk | inr none ↦ none.disk ] in
    record {
      made = (
        ap (λ (d : MemDiskValue). length (links_of d)) same,
        told_same old.disk new.disk same,
        heard_on_same old.disk new.disk old.silences new.silences same makes.outcome.silences,
      );
      same_readings = ap (λ (h : MemHostValue). readings_told h.clock) makes.rest;
      same_planned = ap (λ (h : MemHostValue). Some (plans_of h.scripts)) makes.rest;
      same_upcoming = ap (λ (h : MemHostValue). Some (upcoming_of h.clock)) makes.rest;
      faults = raised_cause (length (links_of old.disk)) old.faults new.faults e makes.outcome.faults;
    }

-- ---- an answer

replied : (link room : ℕ) (reply : Reply) (old new : MemHostValue) → RepliesOnLink link room reply old new
    → Some (links_heard (answers_after [] new.disk.calls) (λ i. slice_index new.silences i))
    ≡ option_map (changed_at link (hear_reply room reply))
    (Some (links_heard (answers_after [] old.disk.calls) (λ i. slice_index old.silences i)))
replied link room reply old new r =
    let calls = old.disk.calls in
    let a : Answered = record { failures = slice_index old.silences link; room = room; reply = reply } in
    let F : ℕ → ℕ = λ i. slice_index old.silences i in
    let G : ℕ → ℕ = λ i. slice_index new.silences i in
    ap (λ (d : MemDiskValue). Some (links_heard (answers_after [] d.calls) G)) r.disk
    ∙ ap (λ h. Some (links_heard h G)) (answers_after-push [] calls (answered link a))
    ∙ ap Some (heard_reply link room reply (answers_after [] calls) F G r.silences.begun r.silences.others)

replied_told : (link room : ℕ) (reply : Reply) (old new : MemHostValue) → RepliesOnLink link room reply old new → links_of new.disk ≡ links_of old.disk
replied_told link room reply old new r = ap links_of r.disk ∙ links_after-push [] old.disk.calls (answered link _)

-- what an answer changes, where a function gives what was heard
hears_reply : (link : ℕ) (answer : Heard) (buf : List ℕ) (reply : Reply) (old new : MemHostValue) → new.clock ≡ old.clock
    → AnswersAsPlanned link answer buf (plans_of old.scripts) (plans_of new.scripts)
    → changed_at link (hear answer buf) ≡ changed_at link (hear_reply (length buf) reply) → RepliesOnLink link (length buf) reply old new → HearsAnswer link answer buf (links_in old) (links_in new)
hears_reply link answer buf reply old new clock planned same r = record {
  same_dialled = ap length (replied_told link (length buf) reply old new r);
  same_told = ap Some (replied_told link (length buf) reply old new r);
  heard = replied link (length buf) reply old new r
      ∙ ap (λ f. option_map f
      (Some (links_heard (answers_after [] old.disk.calls) (λ i. slice_index old.silences i))))
      (sym same);
  same_readings = ap readings_told clock;
  planned = planned;
  same_upcoming = ap (λ k. Some (upcoming_of k)) clock;
  later = omega (arith, ap (λ l. slice_index l link) r.faults);
  others = λ i _. ap (λ l. slice_index l i) r.faults;
}

pub answers_links : (link : ℕ) (answer : Heard) (buf : List ℕ) (old new : MemHostValue) → MakesAnswer link answer buf old new → HearsAnswer link answer buf (links_in old) (links_in new)
answers_links link (heard.Got n) buf old new makes = hears_reply link (heard.Got n) buf (got (take n buf)) old new (ap (λ (h : MemHostValue). h.clock) makes.rest) makes.outcome.plan refl makes.outcome
answers_links link heard.Idle buf old new makes = hears_reply link heard.Idle buf idle old new (ap (λ (h : MemHostValue). h.clock) makes.rest) makes.outcome.plan refl makes.outcome
answers_links link heard.End buf old new makes = hears_reply link heard.End buf ended old new (ap (λ (h : MemHostValue). h.clock) makes.rest) makes.outcome.plan refl makes.outcome
answers_links link heard.Failed buf old new makes =
    let out = makes.outcome in
    let same : new.disk ≡ old.disk = elim out.cause [ inl due ↦ due.disk | inr none ↦ none.disk ] in
    record {
      same_dialled = ap (λ (d : MemDiskValue). length (links_of d)) same;
      same_told = told_same old.disk new.disk same;
      heard =
          ap (λ (d : MemDiskValue). Some
          (links_heard (answers_after [] d.calls) (λ i. slice_index new.silences i))) same
          ∙ ap Some (heard_failure link (answers_after [] old.disk.calls) (λ i. slice_index old.silences i) (λ i. slice_index new.silences i) out.silences.raised out.silences.others);
      same_readings = ap (λ (h : MemHostValue). readings_told h.clock) makes.rest;
      planned = elim out.cause [ inl due ↦ inl due.plan | inr none ↦ inr (ap plans_of none.scripts) ];
      same_upcoming = ap (λ (h : MemHostValue). Some (upcoming_of h.clock)) makes.rest;
      later = out.faults.later;
      others = out.faults.others;
    }

-- ---- a send

sent_told : (old new : MemHostValue) (link : ℕ) (bytes : List ℕ) → new.disk ≡ with_call (sent link bytes) old.disk → Some (links_of new.disk) ≡ option_map (with_sent link bytes) (Some (links_of old.disk))
sent_told old new link bytes e = ap (λ (d : MemDiskValue). Some (links_of d)) e ∙ ap Some (links_after-push [] old.disk.calls (sent link bytes))

sent_heard : (old new : MemHostValue) (link : ℕ) (bytes : List ℕ) → new.disk ≡ with_call (sent link bytes) old.disk → new.silences ≡ old.silences
    → Some (links_heard (answers_after [] new.disk.calls) (λ i. slice_index new.silences i))
    ≡ Some (links_heard (answers_after [] old.disk.calls) (λ i. slice_index old.silences i))
sent_heard old new link bytes e same =
    ap (λ (d : MemDiskValue). Some
    (links_heard (answers_after [] d.calls) (λ i. slice_index new.silences i))) e
    ∙ ap (λ h. Some (links_heard h (λ i. slice_index new.silences i)))
    (answers_after-push [] old.disk.calls (sent link bytes))
    ∙ ap (λ l. Some (links_heard (answers_after [] old.disk.calls) (λ i. slice_index l i))) same

length-changed : (link : ℕ) (bytes : List ℕ) (links : List ToldLink) → length (with_sent link bytes links) ≡ length links
length-changed link bytes links = length-changed_at link _ links

-- what a send leaves, where these bytes went out
pub record WentOut (link : ℕ) (bytes : List ℕ) (old new : MemHostValue) : Type 0 where
  pub told : Some (links_of new.disk) ≡ option_map (with_sent link bytes) (Some (links_of old.disk))
  pub dialled : length (links_of new.disk) ≡ length (links_of old.disk)
  pub heard : Some (links_heard (answers_after [] new.disk.calls) (λ i. slice_index new.silences i))
      ≡ Some (links_heard (answers_after [] old.disk.calls) (λ i. slice_index old.silences i))

went_out : (old new : MemHostValue) (link : ℕ) (bytes : List ℕ) → new.disk ≡ with_call (sent link bytes) old.disk → new.silences ≡ old.silences → WentOut link bytes old new
went_out old new link bytes e same = record {
  told = sent_told old new link bytes e;
  dialled = ap (λ (d : MemDiskValue). length (links_of d)) e ∙ ap length (links_after-push [] old.disk.calls (sent link bytes)) ∙ length-changed link bytes (links_of old.disk);
  heard = sent_heard old new link bytes e same;
}

nothing_sent : (link : ℕ) (links : List ToldLink) → with_sent link [] links ≡ links
nothing_sent link [] = refl
nothing_sent zero (l ∷ links) = ap (λ b. record l { sent = b } ∷ links) (append-nil l.sent)
nothing_sent (suc link) (l ∷ links) = ap (λ ls. l ∷ ls) (nothing_sent link links)

none_out : (old new : MemHostValue) (link : ℕ) → new.disk ≡ old.disk → new.silences ≡ old.silences → WentOut link [] old new
none_out old new link e same = record {
  told = told_same old.disk new.disk e ∙ ap Some (sym (nothing_sent link (links_of old.disk)));
  dialled = ap (λ (d : MemDiskValue). length (links_of d)) e;
  heard = heard_on_same old.disk new.disk old.silences new.silences e same;
}

pub sends_links : (link : ℕ) (bytes : List ℕ) (result : Result (Unit {0}) Failed) (old new : MemHostValue) → MakesSend link bytes result old new → SendsOnLink link bytes result (links_in old) (links_in new)
sends_links link bytes (Ok u) old new makes =
    let silent = ap (λ (h : MemHostValue). h.silences) makes.rest in
    let out = went_out old new link bytes makes.outcome.disk silent in
    record {
      same_dialled = out.dialled;
      sent = out.told;
      same_heard = out.heard;
      same_readings = ap (λ (h : MemHostValue). readings_told h.clock) makes.rest;
      same_planned = ap (λ (h : MemHostValue). Some (plans_of h.scripts)) makes.rest;
      same_upcoming = ap (λ (h : MemHostValue). Some (upcoming_of h.clock)) makes.rest;
      faults = same_cause link old.faults new.faults u makes.outcome.faults;
    }
sends_links link bytes (Err e) old new makes =
    let silent = ap (λ (h : MemHostValue). h.silences) makes.rest in
    let part : (n : ℕ) × WentOut link (take n bytes) old new =
    elim makes.outcome.cause [
      | inl due ↦ (length bytes / 2, went_out old new link (take (length bytes / 2) bytes) due.disk silent)
      | inr none ↦ (0, none_out old new link none.disk silent)
    ] in
    record {
      same_dialled = part.1.dialled;
      sent = (part.0, part.1.told);
      same_heard = part.1.heard;
      same_readings = ap (λ (h : MemHostValue). readings_told h.clock) makes.rest;
      same_planned = ap (λ (h : MemHostValue). Some (plans_of h.scripts)) makes.rest;
      same_upcoming = ap (λ (h : MemHostValue). Some (upcoming_of h.clock)) makes.rest;
      faults = raised_cause link old.faults new.faults e makes.outcome.faults;
    }

-- ---- a reading

one_reading_more : (given : List ℕ) (made : ℕ) → first_readings (made + 1) given ≡ first_readings made given ++ next_reading (record { given = given; made = made }) ∷ []
one_reading_more given made =
    let last = last_of given in
    elim (nat_lt made (length given)) as (λ b. nat_lt made (length given) ≡ b → first_readings (made + 1) given ≡ first_readings made given ++ next_reading (record { given = given; made = made }) ∷ []) [
      | true ↦ λ test.
          let within : made < length given = ltb-true made (length given) test in
          let now : made - length given ≡ 0 = omega (arith, within) in
          let then_none : made + 1 - length given ≡ 0 = omega (arith, within) in
          let reading : next_reading (record { given = given; made = made }) ≡ slice_index given made = if_true (nat_lt made (length given)) (slice_index given made) last test in
          ap (λ n. take (made + 1) given ++ replicate n last) then_none ∙ append-nil (take (made + 1) given) ∙ take_more given made 0 within
          ∙ ap (λ r. take made given ++ r ∷ []) (sym reading)
          ∙ ap (λ l. l ++ next_reading (record { given = given; made = made }) ∷ []) (sym (ap (λ n. take made given ++ replicate n last) now ∙ append-nil (take made given)))
      | false ↦ λ test.
          let past : length given ≤ made = ltb-false made (length given) test in
          let more : made + 1 - length given ≡ (made - length given) + 1 = omega (arith, past) in
          let reading : next_reading (record { given = given; made = made }) ≡ last = if_false (nat_lt made (length given)) (slice_index given made) last test in
          ap (λ n. take (made + 1) given ++ replicate n last) more
          ∙ ap (λ l. l ++ replicate ((made - length given) + 1) last) (take_all (made + 1) given (omega (arith, past)) ∙ sym (take_all made given past))
          ∙ ap (λ l. take made given ++ l) (sym (replicate-append-replicate (made - length given) 1 last))
          ∙ sym (append_assoc (take made given) (replicate (made - length given) last) (last ∷ []))
          ∙ ap (λ r. first_readings made given ++ r ∷ []) (sym reading)
    ] refl

told_more : (clock : Readings) (made' : ℕ) → made' ≡ one_more clock.made → GrowsReadings (next_reading clock) (readings_told clock) (readings_told (record clock { made = made' }))
told_more clock made' e =
    let most = 2 ^ 64 - 1 in
    elim (nat_lt made' most) as (λ b. nat_lt made' most ≡ b → GrowsReadings (next_reading clock) (readings_told clock) (if b then Some (first_readings made' clock.given) else None)) [
      | true ↦ λ test.
          let below : made' < most = ltb-true made' most test in
          let before : nat_lt clock.made most ≡ true = lt-ltb clock.made most (omega (arith, e, below)) in
          let next : made' ≡ clock.made + 1 = omega (arith, e, below) in
          subst (λ b. GrowsReadings (next_reading clock) (if b then Some (first_readings clock.made clock.given) else None) (Some (first_readings made' clock.given))) (sym before)
          (ap (λ n. first_readings n clock.given) next ∙ one_reading_more clock.given clock.made)
      | false ↦ λ test. tt
    ] refl

pub reading_links : (reading : ℕ) (old new : MemHostValue) → MakesReading reading old new → ReadsClock reading (links_in old) (links_in new)
reading_links reading old new makes =
    let same : new.disk ≡ old.disk = ap (λ (h : MemHostValue). h.disk) makes.rest in
    let clock : new.clock ≡ record old.clock { made = one_more old.clock.made } = ap (λ (h : MemHostValue). h.clock) makes.rest in
    record {
      same_dialled = ap (λ (d : MemDiskValue). length (links_of d)) same;
      same_faults = ap (λ (h : MemHostValue). λ (i : ℕ). slice_index h.faults i) makes.rest;
      same_told = told_same old.disk new.disk same;
      same_heard = heard_on_same old.disk new.disk old.silences new.silences same (ap (λ (h : MemHostValue). h.silences) makes.rest);
      readings =
          subst (λ (r : ℕ). GrowsReadings r (readings_told old.clock) (readings_told new.clock)) (sym makes.is_next)
          (subst (λ (k : Readings). GrowsReadings (next_reading old.clock) (readings_told old.clock) (readings_told k)) (sym clock) (told_more old.clock (one_more old.clock.made) refl));
      same_planned = ap (λ (h : MemHostValue). Some (plans_of h.scripts)) makes.rest;
      upcoming = makes.upcoming;
    }
