-- What calls did, one behind the other.
use Rattle.std.proofs.Common.{◌≡◌, ℕ, ◌+◌, ◌*◌, List, [], ◌++◌, append-nil, append_assoc, length, length-append, refl, sym, ◌∙◌, ap, subst, inl, inr, arith}
use Rattle.frame_journal.specs.Appends.{Appends, BreaksAppends}
use Rattle.frame_journal.proofs.Appending.{appends_none, appends_then, breaks_behind}
use Rattle.outside.specs.Outside.{MakesAtMost, Moment, Outside}
use Rattle.outside.specs.Runs.{TellsAll}
use Rattle.outside.proofs.CallCounts.{most_none, most_then}
use Rattle.sync_rules.specs.Clients.{Meaning}
use Rattle.sync_rules.specs.Facts.{Journal}
use Rattle.entry_codec.specs.Standing.{journal}
use Rattle.sync_store.specs.Store.{StoreValue}
use Rattle.sync_course.specs.Acts.{Act, AtFront, batches_in, events_of, sends_on}
use Rattle.sync_course.specs.Events.{Event, TellsEvents as Tells}
use Rattle.sync_course.proofs.ActLaws.{batches_in-append, events_of-append, next_wide, sends_on-append}
use Rattle.sync_course.proofs.ToldLaws.{told_none, told_then}
use Rattle.sync_node.specs.Courses.{FitsWith, ReadsAs}
use Rattle.sync_node.specs.Did.{ComesAtFronts, Did, DidSome, HasSentBy, SinceThen}
use Rattle.sync_node.specs.Going.{LetsNothingFall}
use Rattle.sync_node.specs.Output.{sent_on}
use Rattle.sync_node.proofs.CourseLaws.{told_as}
use Rattle.sync_node.proofs.SafeLaws.{goes_none}
use Rattle.sync_node.proofs.WorkLaws.{goes_then}

-- ---- told-ness, on

pub told_on : (o o' : Outside) → LetsNothingFall o o' → TellsAll o → TellsAll o'
told_on o o' goes told =
    let files = told_as o.files o'.files told.two goes.same_files told.files_are in
    let links = told_as o.links.told o'.links.told told.links goes.links.same_told told.links_are in
    let heard = told_as o.links.heard o'.links.heard told.heard goes.links.same_heard
    told.heard_are in
    record {
      two = files.0;
      files_are = files.1;
      links = links.0;
      links_are = links.1;
      heard = heard.0;
      heard_are = heard.1;
    }

-- ---- moments

-- more acts come behind
pub front_wide : (clients : Meaning) (acts more : List Act) (j : Journal) (sent : ℕ → List ℕ)
    (m : Moment) → AtFront clients acts j sent m → AtFront clients (acts ++ more) j sent m
front_wide clients acts more j sent m at = record {
  before = at.before;
  behind = at.behind ++ more;
  parts = ap (λ (l : List Act). l ++ more) at.parts ∙ append_assoc at.before at.behind more;
  stands_for = at.stands_for;
  part = at.part;
  begun = λ link. next_wide link (at.part link) at.behind more (at.begun link);
  has_sent = at.has_sent;
}

-- they came behind others
pub front_shift : (clients : Meaning) (first acts : List Act) (j : Journal)
    (sent sent1 : ℕ → List ℕ) (m : Moment)
    → ((link : ℕ) → sent1 link ≡ sent link ++ sends_on link first)
    → AtFront clients acts (j ++ batches_in first) sent1 m
    → AtFront clients (first ++ acts) j sent m
front_shift clients first acts j sent sent1 m more at = record {
  before = first ++ at.before;
  behind = at.behind;
  parts = ap (λ (l : List Act). first ++ l) at.parts ∙ sym (append_assoc first at.before at.behind);
  stands_for =
      at.stands_for
      ∙ ap journal (append_assoc j (batches_in first) (batches_in at.before)
      ∙ ap (λ (l : Journal). j ++ l) (sym (batches_in-append first at.before)));
  part = at.part;
  begun = at.begun;
  has_sent = λ link.
      at.has_sent link
      ∙ ap (λ (l : List ℕ). l ++ (sends_on link at.before ++ at.part link)) (more link)
      ∙ append_assoc (sent link) (sends_on link first) (sends_on link at.before ++ at.part link)
      ∙ ap (λ (l : List ℕ). sent link ++ l)
      (sym (append_assoc (sends_on link first) (sends_on link at.before) (at.part link))
      ∙ ap (λ (l : List ℕ). l ++ at.part link) (sym (sends_on-append link first at.before)));
}

pub since_none : (o : Outside) (P : Moment → Type 0) → SinceThen o o P
since_none o P = record { later = omega arith; before = λ t m since at. inl at }

pub since_then : (o o1 o2 : Outside) (P Q R : Moment → Type 0) → ((m : Moment) → P m → R m)
    → ((m : Moment) → Q m → R m) → SinceThen o o1 P → SinceThen o1 o2 Q → SinceThen o o2 R
since_then o o1 o2 P Q R from_first from_second first second = record {
  later = omega (arith, first.later, second.later);
  before = λ t m since at. elim (second.before t m (omega (arith, since, first.later)) at) [
    | inl mid ↦ elim (first.before t m since mid) [
      | inl old ↦ inl old
      | inr p ↦ inr (from_first m p)
    ]
    | inr q ↦ inr (from_second m q)
  ];
}

-- ---- one behind the other

pub did_none : (clients : Meaning) (s : StoreValue) (o : Outside) → Did clients [] s s o o
did_none clients s o = record {
  goes = goes_none o;
  tells = told_none o;
  sent = λ told link. sym (append-nil (sent_on o.links link));
  limit = refl;
  format = refl;
  fits = λ j fit. subst (λ (k : Journal). FitsWith clients s o.files k) (sym (append-nil j)) fit;
  calls = most_none 0 o;
  file = refl;
  appends = appends_none s.file s.end o;
  moments = λ told j fit. since_none o (AtFront clients [] j (sent_on o.links));
}

-- the calls of the batches of two lists, and of some that were next
calls_add : (acts bs : List Act) (next : Journal)
    → 4 * length (batches_in acts) + 4 * length (next ++ batches_in bs)
    ≡ 4 * length (next ++ batches_in (acts ++ bs))
calls_add acts bs next =
    let both : length (batches_in (acts ++ bs)) ≡ length (batches_in acts) + length (batches_in bs) =
    ap (λ (l : Journal). length l) (batches_in-append acts bs) ∙ length-append (batches_in acts) (batches_in bs) in
    let first : length (next ++ batches_in bs) ≡ length next + length (batches_in bs) =
    length-append next (batches_in bs) in
    let all : length (next ++ batches_in (acts ++ bs)) ≡ length next + length (batches_in (acts ++ bs)) =
    length-append next (batches_in (acts ++ bs)) in
    omega (arith, both, first, all)

sent_then : (acts bs : List Act) (o o1 o2 : Outside) → LetsNothingFall o o1 → HasSentBy acts o o1
    → HasSentBy bs o1 o2 → HasSentBy (acts ++ bs) o o2
sent_then acts bs o o1 o2 goes first second told link =
    second (told_on o o1 goes told) link
    ∙ ap (λ (l : List ℕ). l ++ sends_on link bs) (first told link)
    ∙ append_assoc (sent_on o.links link) (sends_on link acts) (sends_on link bs)
    ∙ ap (λ (l : List ℕ). sent_on o.links link ++ l) (sym (sends_on-append link acts bs))

tells_then : (acts bs : List Act) (o o1 o2 : Outside) → Tells (events_of acts) o o1
    → Tells (events_of bs) o1 o2 → Tells (events_of (acts ++ bs)) o o2
tells_then acts bs o o1 o2 first second =
    subst (λ (es : List Event). Tells es o o2) (sym (events_of-append acts bs))
    (told_then (events_of acts) (events_of bs) o o1 o2 first second)

-- the moments of acts, and of further ones behind them
fronts_then : (clients : Meaning) (acts bs : List Act) (s s1 s2 : StoreValue) (o o1 o2 : Outside)
    → Did clients acts s s1 o o1 → ComesAtFronts clients bs s1 o1 o2
    → ComesAtFronts clients (acts ++ bs) s o o2
fronts_then clients acts bs s s1 s2 o o1 o2 first second told j fit =
    since_then o o1 o2 _ _ (AtFront clients (acts ++ bs) j (sent_on o.links))
    (λ m at. front_wide clients acts bs j (sent_on o.links) m at)
    (λ m at. front_shift clients acts bs j (sent_on o.links) (sent_on o1.links) m (first.sent told) at)
    (first.moments told j fit)
    (second (told_on o o1 first.goes told) (j ++ batches_in acts) (first.fits j fit))

pub did_then : {clients : Meaning} {acts bs : List Act} {s s1 s2 : StoreValue} {o o1 o2 : Outside}
    → Did clients acts s s1 o o1 → Did clients bs s1 s2 o1 o2 → Did clients (acts ++ bs) s s2 o o2
did_then {clients = clients} {acts = acts} {bs = bs} {s = s} {s1 = s1} {s2 = s2} {o = o} {o1 =
    o1} {o2 = o2} first second = record {
      goes = goes_then o o1 o2 first.goes second.goes;
      tells = tells_then acts bs o o1 o2 first.tells second.tells;
      sent = sent_then acts bs o o1 o2 first.goes first.sent second.sent;
      limit = second.limit ∙ first.limit;
      format = second.format ∙ first.format;
      fits = λ j fit.
          subst (λ (k : Journal). FitsWith clients s2 o2.files k)
          (append_assoc j (batches_in acts) (batches_in bs)
          ∙ ap (λ (l : Journal). j ++ l) (sym (batches_in-append acts bs)))
          (second.fits (j ++ batches_in acts) (first.fits j fit));
      calls =
          subst (λ (n : ℕ). MakesAtMost n o o2) (calls_add acts bs [])
          (most_then (4 * length (batches_in acts)) (4 * length (batches_in bs)) o o1 o2 first.calls
          second.calls);
      file = second.file ∙ first.file;
      appends =
          appends_then s.file s.end s1.end s2.end o o1 o2 first.appends
          (subst (λ (f : ℕ). Appends f s1.end s2.end o1 o2) first.file second.appends);
      moments = fronts_then clients acts bs s s1 s2 o o1 o2 first second.moments;
    }

pub some_then : {clients : Meaning} {acts bs next : List Act} {s s1 s2 : StoreValue}
    {o o1 o2 : Outside} → Did clients acts s s1 o o1 → DidSome clients bs next s1 s2 o1 o2
    → DidSome clients (acts ++ bs) next s s2 o o2
some_then {clients = clients} {acts = acts} {bs = bs} {next = next} {s = s} {s1 = s1} {s2 = s2} {o =
    o} {o1 = o1} {o2 = o2} first second = record {
      goes = goes_then o o1 o2 first.goes second.goes;
      tells = tells_then acts bs o o1 o2 first.tells second.tells;
      sent = sent_then acts bs o o1 o2 first.goes first.sent second.sent;
      limit = second.limit ∙ first.limit;
      format = second.format ∙ first.format;
      reads = λ j fit.
          subst (λ (k : Journal). ReadsAs clients o2.files k)
          (append_assoc j (batches_in acts) (batches_in bs)
          ∙ ap (λ (l : Journal). j ++ l) (sym (batches_in-append acts bs)))
          (second.reads (j ++ batches_in acts) (first.fits j fit));
      calls =
          subst (λ (n : ℕ). MakesAtMost n o o2) (calls_add acts bs (batches_in next))
          (most_then (4 * length (batches_in acts)) (4 * length (batches_in next ++ batches_in bs)) o
          o1 o2 first.calls second.calls);
      breaks =
          breaks_behind s.file s.end s1.end o o1 o2 first.appends
          (subst (λ (f : ℕ). BreaksAppends f s1.end o1 o2) first.file second.breaks);
      moments =
          subst (λ (acts : List Act). ComesAtFronts clients acts s o o2)
          (sym (append_assoc acts bs next))
          (fronts_then clients acts (bs ++ next) s s1 s2 o o1 o2 first second.moments);
    }
