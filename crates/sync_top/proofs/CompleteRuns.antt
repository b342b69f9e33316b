-- A run of sessions comes to what its course decides: each other outcome has a cause.
use Rattle.std.proofs.Common.{◌≡◌, ℕ, zero, suc, Bool, true, false, List, [], ◌∷◌, ◌++◌, refl}
use Rattle.std.proofs.Common.{sym, ◌∙◌, ap, subst, inl, inr, arith, None, Some, Result, Ok, Err}
use Rattle.std.specs.Prelude.{◌≢◌, ◌⊎◌, slice_get, map, ◌||◌}
use Rattle.std.specs.List.{list_any}
use Rattle.outside.specs.Faults.{CountRose}
use Rattle.outside.specs.Files.{read_files}
use Rattle.outside.specs.Outside.{Outside}
use Rattle.record_grammar.specs.Stream.{records, records_of}
use Rattle.record_grammar.specs.declared.stream.Ending.TheVariants as ends
use Rattle.record_grammar.specs.declared.stream.Item.{Item}
use Rattle.record_grammar.specs.declared.stream.Item.TheVariants as item
use Rattle.sync_ids.specs.declared.records.Record.{Record}
use Rattle.sync_rules.specs.declared.entries.Entry.{Entry}
use Rattle.sync_rules.specs.Clients.{Meaning}
use Rattle.sync_rules.specs.Facts.{facts}
use Rattle.entry_codec.specs.Standing.{Standing, damaged, journal, no_store}
use Rattle.file_standing.specs.Standing.{stands}
use Rattle.sync_course.specs.declared.ends.LinkEnd.{LinkEnd}
use Rattle.sync_course.specs.declared.ends.LinkEnd.TheVariants as end
use Rattle.sync_course.specs.Links.{Link, closes}
use Rattle.sync_course.specs.Turns.{is_over}
use Rattle.sync_node.specs.Courses.{ReadsAs}
use Rattle.sync_words.specs.declared.link_words.LinkWords.{LinkWords}
use Rattle.sync_course.specs.Closing.{Closing}
use Rattle.sync_words.specs.declared.outcome.Outcome.{Outcome}
use Rattle.sync_words.specs.declared.outcome.Outcome.TheVariants as outcome
use Rattle.sync_words.specs.declared.status.Status.{Status}
use Rattle.sync_words.specs.declared.status.Status.TheVariants as status
use Rattle.sync_words.specs.Outcomes.{ends_status, first_bad, link_status, links_came_to}
use Rattle.sync_words.specs.Outcomes.{links_status, status_of}
use Rattle.sync_run.specs.declared.run.Limits.{Limits}
use Rattle.sync_run.specs.Causes.{FailuresRose, IsCaused}
use Rattle.sync_run.specs.Courses.{RunComesTo, RanToEnd, WasFull, run_test}
use Rattle.sync_run.specs.Ends.{LacksVersion, StandsByHeard}
use Rattle.sync_run.specs.Ran.{HasRun}
use Rattle.sync_top.specs.Complete.{AllHeardWell, CourseDecides, HeardWell}
use Rattle.sync_top.specs.Serving.{MaySync}

-- ---- the status of links

-- links that all ended well
all_done : (over : Bool) (ends : List LinkEnd)
    → ((i : ℕ) (e : LinkEnd) → slice_get ends i ≡ Some e → link_status over e ≡ status.Done)
    → ends_status over ends ≡ status.Done
all_done over [] each = refl
all_done over (e ∷ ends) each =
    ap (λ (s : Status). first_bad s (ends_status over ends)) (each zero e refl)
    ∙ all_done over ends (λ i x at. each (suc i) x at)

first_unfailed : (s t : Status) → s ≢ status.LinkFault → t ≢ status.LinkFault
    → first_bad s t ≢ status.LinkFault
first_unfailed status.Done t first rest = rest
first_unfailed s t first rest = first

end_unfailed : (over : Bool) (e : LinkEnd) → (e ≡ end.Failed → ⊥)
    → link_status over e ≢ status.LinkFault
end_unfailed over end.Failed fails = absurd (fails refl)
end_unfailed true _ fails = λ is. cc
end_unfailed false _ fails = λ is. cc

all_unfailed : (over : Bool) (ends : List LinkEnd)
    → ((i : ℕ) (e : LinkEnd) → slice_get ends i ≡ Some e → e ≡ end.Failed → ⊥)
    → ends_status over ends ≢ status.LinkFault
all_unfailed over [] each = λ is. cc
all_unfailed over (e ∷ ends) each =
    first_unfailed (link_status over e) (ends_status over ends)
    (end_unfailed over e (each zero e refl))
    (all_unfailed over ends (λ i x at. each (suc i) x at))

-- ---- links on which all was heard well

-- the link of a place that stands so
pub record IsEndOf (links : List Link) (i : ℕ) (e : LinkEnd) : Type 0 where
  pub link : Link
  pub there : slice_get links i ≡ Some link
  pub is : e ≡ link.stands

end_of_link : (links : List Link) (i : ℕ) (e : LinkEnd)
    → slice_get (map (λ (l : Link). l.stands) links) i ≡ Some e → IsEndOf links i e
end_of_link [] i e at = cc
end_of_link (x ∷ links) zero e at =
    let is : e ≡ x.stands = cc in
    record { link = x; there = refl; is = is }
end_of_link (x ∷ links) (suc i) e at =
    let rest = end_of_link links i e at in
    record { link = rest.link; there = rest.there; is = rest.is }

-- a VERSIONS among the records heard
any_front : (front : List Item) (place : ℕ) (r : Record) (behind : List Item) → closes r ≡ true
    → list_any closes (records_of (front ++ item.One place r ∷ behind)) ≡ true
unfolding records_of
any_front [] place r behind is = ap (λ (b : Bool). b || list_any closes (records_of behind)) is
any_front (item.One at x ∷ front) place r behind is =
    or_true (closes x) (any_front front place r behind is)
  where
    or_true : (b : Bool) → list_any closes (records_of (front ++ item.One place r ∷ behind)) ≡ true
        → (b || list_any closes (records_of (front ++ item.One place r ∷ behind))) ≡ true
    or_true true rest = refl
    or_true false rest = rest
any_front (item.Skipped at type_byte len ∷ front) place r behind is =
    any_front front place r behind is

lacks_none : (place : ℕ) (heard : List ℕ) → LacksVersion place heard → list_any closes
    (records heard) ≡ false → ⊥
lacks_none place heard lacks none =
    let some : list_any closes (records heard) ≡ true =
    ap (λ (its : List Item). list_any closes (records_of its)) lacks.stands
    ∙ any_front lacks.before place lacks.read lacks.behind lacks.closes_it in
    let both : true ≡ false = sym some ∙ none in
    cc

-- a link of a run that is over, which did not fail
well_done : (stands : LinkEnd) (heard : List ℕ) → StandsByHeard stands heard → HeardWell heard
    → (stands ≡ end.Failed → ⊥) → link_status true stands ≡ status.Done
well_done end.Going heard by well fails = refl
well_done end.Clean heard by well fails = refl
well_done end.Redundant heard by well fails = refl
well_done (end.Inside place) heard by well fails =
    let both : ends.Inside place ≡ ends.Clean = sym by ∙ well.whole in cc
well_done (end.Bad place why) heard by well fails =
    let both : ends.Bad place why ≡ ends.Clean = sym by ∙ well.whole in cc
well_done (end.NoVersion place) heard by well fails =
    absurd (lacks_none place heard by well.versions)
well_done end.Failed heard by well fails = absurd (fails refl)

module _ (clients : Meaning) (limits : Limits) (words : List LinkWords) (old new : Outside)
    (disk : CountRose old.disk_faults new.disk_faults → ⊥)
    (links : (link : ℕ) → CountRose (old.links.faults link) (new.links.faults link) → ⊥) where
  abbrev ComesOut : Outcome → Type 0
  ComesOut came =
      CourseDecides clients limits words old new (status_of came) ⊎ (status_of came ≡ status.Memory)

  unfailed : (closed : Closing) → FailuresRose old new closed → (i : ℕ) (e : LinkEnd)
      → slice_get closed.ends i ≡ Some e → e ≡ end.Failed → ⊥
  unfailed closed caused i e at failed = links i (caused i e at failed)

  module _ (begin : List (List Entry)) (lines : Closing) (caused : FailuresRose old new lines)
      (ran : RanToEnd clients limits words begin old new lines) where
    ran_done : is_over limits.quiet ran.run.last ≡ true → AllHeardWell ran.run.last
        → links_status lines ≡ status.Done
    ran_done over well =
        let quiet : lines.over ≡ true = ap (λ (c : Closing). c.over) ran.closes ∙ over in
        ap (λ (b : Bool). ends_status b lines.ends) quiet
        ∙ all_done true lines.ends (λ i e at.
        let closed : slice_get (map (λ (l : Link). l.stands) ran.run.last.links) i ≡ Some e =
        subst (λ (c : Closing). slice_get c.ends i ≡ Some e) ran.closes at in
        let stood = end_of_link ran.run.last.links i e closed in
        ap (link_status true) stood.is
        ∙ well_done stood.link.stands stood.link.heard (ran.by_heard i stood.link stood.there)
        (well i stood.link stood.there) (λ failed.
        unfailed lines caused i e at (stood.is ∙ failed)))

    course_decides : ReadsAs clients old.files begin → CourseDecides clients limits words old new
        (links_status lines)
    course_decides stood = record {
      begin = begin;
      stood = stood;
      ends = lines;
      ran = ran;
      decides = refl;
      unfailed = all_unfailed lines.over lines.ends (unfailed lines caused);
      is_done = ran_done;
    }

  module _ (may : MaySync clients limits words old new) where
    abbrev stood : Standing
    stood = stands clients (read_files may.stood.0)

    same_begin : (j : List (List Entry)) → stood ≡ journal j → j ≡ may.before
    same_begin j is = let both : journal j ≡ journal may.before = sym is ∙ may.stood.2 in cc

    not_full : WasFull clients limits words may.before old new → ⊥
    not_full (inl over) =
        let room = may.room over.run over.batch over.next over.steps in
        omega (arith, room, over.over)
    not_full (inr spent) = may.next may.stood.0 may.stood.1 (spent.last may.stood.0 may.stood.1)

    result_comes : (r : Result Closing Outcome) (came : Outcome) → came ≡ links_came_to r
        → IsCaused words old new r → RunComesTo clients limits words stood old new r → ComesOut came
    result_comes (Ok lines) came is caused comes =
        let ran : RanToEnd clients limits words may.before old new lines =
        subst (λ (j : List (List Entry)). RanToEnd clients limits words j old new lines)
        (same_begin comes.before comes.stood) comes.has.1 in
        subst ComesOut (sym is) (inl (course_decides may.before lines caused ran may.stood))
    result_comes (Err (outcome.LinkFailed link)) came is caused comes =
        absurd (links link (omega (arith, caused.1.once)))
    result_comes (Err outcome.DiskFault) came is caused comes = absurd (disk caused)
    result_comes (Err outcome.Memory) came is caused comes = inr (ap status_of is)
    result_comes (Err outcome.NoStore) came is caused comes =
        let both : no_store ≡ journal may.before = sym comes ∙ may.stood.2 in cc
    result_comes (Err (outcome.Damaged place)) came is caused comes =
        let both : damaged place.file place.at ≡ journal may.before = sym comes ∙ may.stood.2 in cc
    result_comes (Err (outcome.Refused why)) came is caused comes =
        let fails : run_test (facts may.before) words ≡ Some why =
        subst (λ (j : List (List Entry)). run_test (facts j) words ≡ Some why)
        (same_begin comes.before comes.stood) comes.has.0 in
        let both : Some why ≡ None = sym fails ∙ may.tested in
        cc
    result_comes (Err outcome.Full) came is caused comes =
        let full : WasFull clients limits words may.before old new =
        subst (λ (j : List (List Entry)). WasFull clients limits words j old new)
        (same_begin comes.before comes.stood) comes.has.1 in
        absurd (not_full full)
    result_comes (Err _) came is caused comes = absurd caused

  pub run_comes_out : (came : Outcome) → HasRun clients limits words old new came
      → MaySync clients limits words old new → ComesOut came
  run_comes_out came did may =
      result_comes may did.result came did.is did.caused (did.told may.stood.0 may.stood.1).comes
