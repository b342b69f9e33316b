-- What a command comes to whose links were dialled, by what the run on them came to.
use Rattle.std.proofs.Common.{◌≡◌, ℕ, suc, Bool, true, false, cond, nat_eq, eqb-true, eq-eqb}
use Rattle.std.proofs.Common.{List, [], ◌∷◌, ◌++◌}
use Rattle.std.specs.Bool.{if◌then◌else◌}
use Rattle.std.proofs.Common.{length, append-nil, refl, sym, ◌∙◌, ap, subst, arith, inl, inr}
use Rattle.std.proofs.Common.{Option, None, Some, is_some, Result, Ok, Err}
use Rattle.std.specs.Option.{option_map}
use Rattle.std.proofs.lemmas.List.{nil_from_length}
use Rattle.outside.specs.declared.failed.Failed.{Failed}
use Rattle.outside.specs.Faults.{one_more}
use Rattle.outside.specs.Links.{HeardOn}
use Rattle.outside.specs.Outside.{Outside}
use Rattle.outside.proofs.RunLaws.{grow_then, told_after}
use Rattle.entry_codec.specs.Standing.{journal}
use Rattle.file_standing.specs.Standing.{stands}
use Rattle.sync_rules.specs.declared.entries.Session.{Session}
use Rattle.sync_rules.specs.Clients.{Meaning}
use Rattle.sync_rules.specs.Facts.{Journal, facts}
use Rattle.sync_store.specs.Store.{StoreValue}
use Rattle.sync_course.specs.Acts.{AtFront, batches_in, events_of}
use Rattle.sync_course.specs.Events.{Event, GrowsBy, TellsEvents, failures_after, heard_after}
use Rattle.sync_course.specs.Events.{readings_of}
use Rattle.sync_course.specs.Owing.{Owing, paid}
use Rattle.sync_course.specs.Turns.{Place, Terms, first_place}
use Rattle.sync_course.proofs.ToldLaws.{told_none}
use Rattle.sync_node.proofs.CourseLaws.{fits_on}
use Rattle.sync_node.specs.Courses.{FitsWith, ReadsAs}
use Rattle.sync_node.specs.Did.{SinceThen}
use Rattle.sync_node.specs.Going.{LetsNothingFall}
use Rattle.sync_node.specs.Output.{sent_on}
use Rattle.sync_words.specs.declared.link_words.LinkWords.{LinkWords}
use Rattle.sync_course.specs.Closing.{Closing}
use Rattle.store_commands.specs.Commit.{MayMigrate}
use Rattle.sync_words.specs.declared.outcome.Outcome.{Outcome}
use Rattle.sync_words.specs.declared.outcome.Outcome.TheVariants as outcome
use Rattle.sync_words.specs.Links.{has_nonce}
use Rattle.sync_run.specs.declared.dialling.Dialled.{Dialled}
use Rattle.sync_run.specs.declared.run.Limits.{Limits}
use Rattle.sync_run.specs.Courses.{HearsRun, RanShort, RanSoFar, ReadsShort, RunWasSpent}
use Rattle.sync_run.specs.Courses.{dialled_faults, terms_of}
use Rattle.sync_run.specs.Dialling.{DialsOnly, DialsAll, FailedOnce, MakesLinks, NoneFailed}
use Rattle.sync_run.specs.Dialling.{unheard}
use Rattle.sync_run.specs.Parts.{AnswersAt, RanDialled, RanOnLinks, RunDid, undialled_link}
use Rattle.sync_run.specs.Plans.{ArePlanned, sessions_from}
use Rattle.sync_run.proofs.DialLaws.{calms_run, makes_then}
use Rattle.sync_run.proofs.RestLaws.{image_read}
use Rattle.sync_run.proofs.RunActs.{answers_map, did_behind}

-- ---- sessions that words plan

sessions_count : (first : ℕ) (links : List Dialled)
    → length (sessions_from first links) ≡ length links
sessions_count first [] = refl
sessions_count first (d ∷ links) = ap suc (sessions_count (suc first) links)

some_nonce : (b : Bool) → is_some (cond {A = Option (List ℕ)} b (Some []) None) ≡ b
some_nonce true = refl
some_nonce false = refl

-- sessions as the words plan them, of which none began
some_planned : (first : ℕ) (words : List LinkWords)
    → (sessions : List Session) × ArePlanned first words sessions × (length sessions ≡ length words)
some_planned first [] = ([], tt, refl)
some_planned first (w ∷ words) =
    let rest = some_planned (suc first) words in (
      record {
        number = first;
        contact = w.contact;
        mode = w.mode;
        latency = w.latency;
        nonce = cond (has_nonce w) (Some []) None;
      } ∷ rest.0,
      (
        record {
          numbered = refl;
          same_contact = refl;
          same_mode = refl;
          same_latency = refl;
          nonce = some_nonce (has_nonce w);
        },
        rest.1,
      ),
      ap suc rest.2,
    )

-- ---- what is told

-- on links that were made, of which there were none before
heard_by_run : (es : List Event) (n : ℕ) (o0 o1 o : Option (List HeardOn))
    → ((h : List HeardOn) → o0 ≡ Some h → length h ≡ 0)
    → o1 ≡ option_map (λ (hs : List HeardOn). hs ++ unheard n) o0
    → o ≡ option_map (heard_after es) o1
    → o ≡ option_map (λ (h : List HeardOn). heard_after es (unheard n)) o0
heard_by_run es n None o1 o none made told = told ∙ ap (option_map (heard_after es)) made
heard_by_run es n (Some h) o1 o none made told =
    told ∙ ap (option_map (heard_after es)) made
    ∙ ap (λ (hs : List HeardOn). Some (heard_after es (hs ++ unheard n)))
    (nil_from_length h (none h refl))

hears_dialled : (undialled : Option ℕ) (words : List LinkWords) (es : List Event)
    (o0 o1 o : Outside) → o0.links.dialled ≡ 0 → MakesLinks words o0.links o1.links
    → ((link : ℕ) → o1.links.faults link ≡ dialled_faults undialled link (o0.links.faults link))
    → TellsEvents es o1 o
    → o.links.dialled ≡ o1.links.dialled → HearsRun undialled es o0.links o.links
hears_dialled undialled words es o0 o1 o none makes dials told same =
    let number : o.links.dialled ≡ length words = omega (arith, same, makes.dialled, none) in
    record {
      heard =
          heard_by_run es (length words) o0.links.heard o1.links.heard o.links.heard (λ h is.
          o0.all_heard h is ∙ none) makes.heard told.heard
          ∙ ap (λ (n : ℕ). option_map (λ (h : List HeardOn). heard_after es (unheard n))
          o0.links.heard) (sym number);
      readings = subst (λ (r : Option (List ℕ)). GrowsBy (readings_of es) r o.links.readings)
          makes.same_readings told.readings;
      faults = λ link. told.faults link ∙ ap (failures_after link es) (dials link);
    }

-- the dial of one link was the one call that failed
once_counted : (link : ℕ) (old new : ℕ → ℕ) → FailedOnce link old new
    → (i : ℕ) → new i ≡ dialled_faults (Some link) i (old i)
once_counted link old new failed i =
    elim (nat_eq link i) as (λ b. nat_eq link i ≡ b
    → new i ≡ (if b then one_more (old i) else old i)) [
      | true ↦ λ is. subst (λ (k : ℕ). new k ≡ one_more (old k)) (eqb-true link i is) failed.once
      | false ↦ λ is. failed.others i (λ same.
          let equal : nat_eq link i ≡ true = eq-eqb link i (sym same) in
          cc)
    ] refl

-- sessions ran, so the command did not end by a dial
was_dialled : (clients : Meaning) (limits : Limits) (terms : Terms) (to : Owing Place) (j : Journal)
    (Short Whole Spent : Type 0) (r : Result Closing Outcome)
    → AnswersAt clients limits terms to j Short Whole Spent ⊥ r → undialled_link r ≡ None
was_dialled clients limits terms to j Short Whole Spent (Ok ends) answer = refl
was_dialled clients limits terms to j Short Whole Spent (Err (outcome.LinkFailed link)) answer =
    absurd answer
was_dialled clients limits terms to j Short Whole Spent (Err _) answer = refl

-- ---- dials before other acts

module _ (clients : Meaning) (s : StoreValue) (o0 o1 : Outside) (calms : DialsOnly o0 o1)
    (j : Journal)
    (fit : FitsWith clients s o0.files j) where
  -- the files are as they were, with nothing pending
  calm_since : SinceThen o0 o1 (AtFront clients [] j (sent_on o0.links))
  calm_since = record {
    later = calms.later;
    before = λ t m since at. elim (calms.moments fit.0 fit.1 t m since at) [
      | inl old ↦ inl old
      | inr calm ↦ inr (record {
        before = [];
        behind = [];
        parts = refl;
        stands_for =
            ap (stands clients) (image_read fit.0 m.files fit.2.first_settled fit.2.second_settled
            calm.image)
            ∙ fit.2.stands_for ∙ ap (λ (l : Journal). journal l) (sym (append-nil j));
        part = λ link. [];
        begun = λ link. record { rest = []; whole = refl };
        has_sent = λ link. calm.same_sent link ∙ sym (append-nil (sent_on o0.links link));
      })
    ];
  }

  calm_reads : ReadsAs clients o1.files j
  calm_reads =
      let now = fits_on clients s o0 o1 calms.same_files j fit in (now.0, now.1, now.2.stands_for)

  -- they are no acts
  abbrev did_nothing : (terms : Terms) (from : Place) → RunDid clients terms from j o0 o1
  did_nothing terms from = record {
    acts = [];
    to = paid from;
    path = refl;
    next = [];
    quiet = tt;
    beyond = paid from;
    goes_on = refl;
    sent = λ told link. calms.sent link ∙ sym (append-nil (sent_on o0.links link));
    reads = subst (λ (k : Journal). ReadsAs clients o1.files k) (sym (append-nil j)) calm_reads;
    moments = λ told. calm_since;
  }

-- ---- by the answer of the dials

module _ (clients : Meaning) (limits : Limits) (words : List LinkWords) (links : List Dialled)
    (s : StoreValue) (o0 o1 : Outside) (none : o0.links.dialled ≡ 0) (calms : DialsOnly o0 o1) where
  -- nothing was done behind the dials
  spent_so : (o : Outside) → MakesLinks words o0.links o1.links → RunWasSpent [] o1 o
      → RunWasSpent words o0 o
  spent_so o makes spent = record {
    last = λ two told. spent.last two (calms.same_files ∙ told);
    still = λ two two' told told'. spent.still two two' (calms.same_files ∙ told) told';
    links =
        subst (λ (ws : List LinkWords). MakesLinks ws o0.links o.links) (append-nil words)
        (makes_then words [] o0.links o1.links o.links makes spent.links);
  }

  pub dialled_ran : (u : Unit {0}) (lent : List Dialled) (o : Outside) (r : Result Closing Outcome)
      → DialsAll words links (Ok u) o0 o1 → lent ≡ links → LetsNothingFall o1 o
      → RanDialled clients limits lent s o1 o r
      → (j : Journal) → FitsWith clients s o0.files j → RanOnLinks clients limits words j o0 o r
  dialled_ran u lent o r dials is goes ran j fit =
      let makes : MakesLinks words o0.links o1.links =
      subst (λ (ws : List LinkWords). MakesLinks ws o0.links o1.links) dials.all.0 dials.makes in
      let sessions : List Session = sessions_from (facts j).begun links in
      let terms : Terms = terms_of limits j in
      let start : Place = first_place sessions (facts j) in
      let over =
      (subst (λ (ds : List Dialled). RanDialled clients limits ds s o1 o r) is ran) j
      (fits_on clients s o0 o1 calms.same_files j fit) in
      record {
        sessions = sessions;
        planned = dials.dialled (facts j).begun;
        all_planned = sessions_count (facts j).begun links ∙ dials.all.1;
        did =
            did_behind clients terms start start j j o0 o1 o
            (did_nothing clients s o0 o1 calms j fit terms start) refl refl (sym (append-nil j))
            (told_after o0 o1 (calms_run o0 o1 calms)) over.did;
        made = inl (omega (arith, goes.same_dialled, makes.dialled, none));
        grows = grow_then o0.links o1.links o.links calms.grows goes.links;
        hears =
            subst (λ (d : Option ℕ). HearsRun d (events_of over.did.acts) o0.links o.links)
            (sym (was_dialled clients limits terms over.did.to (j ++ batches_in over.did.acts)
            (ReadsShort o.files) (MayMigrate o1.files) (RunWasSpent [] o1 o) r over.answer))
            (hears_dialled None words (events_of over.did.acts) o0 o1 o none makes dials.all.2
            over.told goes.same_dialled);
        answer =
            answers_map clients limits terms over.did.to (ReadsShort o.files) (MayMigrate o1.files)
            (RunWasSpent [] o1 o) ⊥ (MayMigrate o0.files) (RunWasSpent words o0 o)
            (o.files ≡ o0.files)
            (j ++ batches_in over.did.acts) (j ++ batches_in over.did.acts) refl
            (λ may two told. may two (calms.same_files ∙ told)) (spent_so o makes)
            (λ undialled. absurd undialled) r over.answer;
      }

  -- a dial failed
  pub undialled_ran : (e : Failed) (link : ℕ) → link ≡ length links
      → DialsAll words links (Err e) o0 o1 → (j : Journal) → FitsWith clients s o0.files j
      → RanOnLinks clients limits words j o0 o1 (Err (outcome.LinkFailed link))
  undialled_ran e link at dials j fit =
      let some = some_planned (facts j).begun words in
      record {
        sessions = some.0;
        planned = some.1;
        all_planned = some.2;
        did =
            did_nothing clients s o0 o1 calms j fit (terms_of limits j)
            (first_place some.0 (facts j));
        made = inr refl;
        grows = calms.grows;
        hears =
            hears_dialled (Some link) dials.made [] o0 o1 o1 none dials.makes
            (once_counted link o0.links.faults o1.links.faults
            (subst (λ (n : ℕ). FailedOnce n o0.links.faults o1.links.faults) (sym at)
            dials.all.1)) (told_none o1) refl;
        answer = calms.same_files;
      }

-- the run did not begin
abbrev none_ran : (clients : Meaning) (limits : Limits) (words made : List LinkWords) (j : Journal)
    (o0 o : Outside) → o0.links.dialled ≡ 0 → MakesLinks made o0.links o.links
    → NoneFailed o0.links.faults o.links.faults
    → ReadsAs clients o.files j → RanSoFar clients limits words j o0 o
none_ran clients limits words made j o0 o none makes unfailed reads =
    let some = some_planned (facts j).begun words in
    record {
      sessions = some.0;
      planned = some.1;
      all_planned = some.2;
      events = [];
      last = first_place some.0 (facts j);
      course = refl;
      all_made = λ begun. absurd (omega (arith, begun));
      hears = hears_dialled None made [] o0 o o none makes unfailed (told_none o) refl;
      reads = subst (λ (k : Journal). ReadsAs clients o.files k) (sym (append-nil j)) reads;
    }

pub unbegun : (clients : Meaning) (limits : Limits) (words made : List LinkWords) (j : Journal)
    (o0 o : Outside) → o0.links.dialled ≡ 0 → MakesLinks made o0.links o.links
    → NoneFailed o0.links.faults o.links.faults → ReadsAs clients o.files j → RanSoFar clients limits words j o0 o
unbegun = none_ran

-- the same for want of memory
pub unbegun_starved : (clients : Meaning) (limits : Limits) (words made : List LinkWords)
    (j : Journal) (o0 o : Outside) → o0.links.dialled ≡ 0 → MakesLinks made o0.links o.links
    → NoneFailed o0.links.faults o.links.faults
    → ReadsAs clients o.files j → RanShort clients limits words j o0 o
unbegun_starved clients limits words made j o0 o none makes unfailed reads = record {
  run = none_ran clients limits words made j o0 o none makes unfailed reads;
  short = λ begun. absurd (omega (arith, begun));
}
