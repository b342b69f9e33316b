-- At each place of a run each link stands by what was heard on it.
use Rattle.std.proofs.Common.{◌≡◌, ℕ, ◌+◌, Bool, true, false, cond, eq-eqb, List, [], ◌∷◌}
use Rattle.std.proofs.Common.{◌++◌, length, take, append-nil, append_assoc, refl, sym, ◌∙◌, ap}
use Rattle.std.proofs.Common.{subst, inl, inr, Option, None, Some}
use Rattle.std.specs.Prelude.{slice_get}
use Rattle.std.proofs.lemmas.List.{take-append-drop}
use Rattle.record_grammar.specs.Stream.{ending, items}
use Rattle.record_grammar.specs.declared.stream.Ending.{Ending}
use Rattle.record_grammar.specs.declared.stream.Ending.TheVariants as ending_kind
use Rattle.record_grammar.specs.declared.stream.Item.{Item}
use Rattle.record_grammar.specs.declared.stream.Item.TheVariants as item
use Rattle.sync_ids.specs.declared.records.Record.{Record}
use Rattle.sync_rules.specs.declared.entries.Session.{Session}
use Rattle.sync_rules.specs.Clients.{Meaning}
use Rattle.sync_rules.specs.Facts.{Facts}
use Rattle.sync_course.specs.declared.ends.LinkEnd.{LinkEnd}
use Rattle.sync_course.specs.declared.ends.LinkEnd.TheVariants as end
use Rattle.sync_course.specs.Events.{Event}
use Rattle.sync_course.specs.Free.{Free, FreeStep, Hold, Holds, first_free, forget, spot_in}
use Rattle.sync_course.specs.Links.{Link, closes, is_going, items_after, link_of, stands_behind}
use Rattle.sync_course.specs.Links.{stands_ended}
use Rattle.sync_course.specs.LinkTurns.{Doing, LinkStep, Spot}
use Rattle.sync_course.specs.Pending.{pending}
use Rattle.sync_course.specs.Turns.{Course, Place, Terms, first_place}
use Rattle.sync_course.proofs.FreeLaws.{run_is_free}
use Rattle.sync_course.proofs.FreeSteps.{Closed, Joined, Kept, LinkGoes, Stepped, free_link}
use Rattle.sync_course.proofs.FreeSteps.{pending_in}
use Rattle.sync_course.proofs.LinkSteps.{link_by_cases}
use Rattle.sync_course.proofs.PathLaws.{path_keeps}
use Rattle.sync_run.specs.Ends.{AllStandByHeard, StandsByHeard}

-- a link stands so by what was heard on it, of which these items are the last, and are yet to be
-- taken
record IsByHeard (its : List Item) (heard : List ℕ) (stands : LinkEnd) : Type 0 where
  front : List Item
  parts : items 0 heard ≡ front ++ its
  so : StandsByHeard stands heard

-- with no item to be taken
no_items : (heard : List ℕ) (stands : LinkEnd) → StandsByHeard stands heard
    → IsByHeard [] heard stands
no_items heard stands so =
    record { front = items 0 heard; parts = sym (append-nil (items 0 heard)); so = so }

-- the first item was taken, or passed over
one_less : (it : Item) (its : List Item) (heard : List ℕ) (stands : LinkEnd)
    → IsByHeard (it ∷ its) heard stands → IsByHeard its heard stands
one_less it its heard stands by = record {
  front = by.front ++ it ∷ [];
  parts = by.parts ∙ sym (append_assoc by.front (it ∷ []) its);
  so = by.so;
}

-- ---- how a link stands

going_stands : (heard : List ℕ) (stands : LinkEnd) → is_going stands ≡ true
    → StandsByHeard stands heard
going_stands heard end.Going going = tt
going_stands heard _ going = cc

ended_stands : (heard : List ℕ) (e : Ending) → ending 0 heard ≡ e
    → StandsByHeard (stands_ended e) heard
ended_stands heard ending_kind.Clean is = is
ended_stands heard (ending_kind.Inside place) is = is
ended_stands heard (ending_kind.Bad place why) is = is

behind_stands : (heard : List ℕ) (stands : LinkEnd) (e : Ending) → ending 0 heard ≡ e
    → StandsByHeard stands heard → StandsByHeard (stands_behind stands e) heard
behind_stands heard end.Going ending_kind.Clean is so = tt
behind_stands heard end.Going (ending_kind.Inside place) is so = tt
behind_stands heard end.Going (ending_kind.Bad place why) is so = is
behind_stands heard _ e is so = so

redundant_stands : (heard : List ℕ) (stands : LinkEnd) (beaten : Bool)
    → StandsByHeard stands heard → StandsByHeard (cond beaten end.Redundant stands) heard
redundant_stands heard stands true so = tt
redundant_stands heard stands false so = so

-- ---- the steps

taken_by : (place : ℕ) (r : Record) (its : List Item) (heard : List ℕ) (stands : LinkEnd)
    → IsByHeard (item.One place r ∷ its) heard stands
    → IsByHeard (items_after r its) heard (cond (closes r) (end.NoVersion place) stands)
taken_by place r its heard stands by = by_closing (closes r) refl
  where
    by_closing : (b : Bool) → closes r ≡ b
        → IsByHeard (cond b [] its) heard (cond b (end.NoVersion place) stands)
    by_closing true is = no_items heard (end.NoVersion place) (record {
      read = r;
      before = by.front;
      behind = its;
      stands = by.parts;
      closes_it = is;
    })
    by_closing false is = one_less (item.One place r) its heard stands by

step_by : (clients : Meaning) (n session : ℕ) (p q : Spot) (e : Event)
    → LinkStep clients n session p e q → IsByHeard (pending p.doing) p.link.heard p.link.stands
    → IsByHeard (pending q.doing) q.link.heard q.link.stands
step_by clients n session p q e s =
    let heard : List ℕ = p.link.heard in
    let stands : LinkEnd = p.link.stands in
    link_by_cases clients n session p
    (λ (doing : Doing) (x : Event) (r : Spot). IsByHeard (pending doing) heard stands
    → IsByHeard (pending r.doing) r.link.heard r.link.stands) (record {
      hears = λ bytes going by. record {
        front = take (length (items 0 heard)) (items 0 (heard ++ bytes));
        parts = sym (take-append-drop (length (items 0 heard)) (items 0 (heard ++ bytes)));
        so = going_stands (heard ++ bytes) stands going;
      };
      idles = λ going by. by;
      ends = λ going by. no_items heard _ (ended_stands heard (ending 0 heard) refl);
      misses = λ going by. no_items heard end.Failed tt;
      unasked = λ is by. by;
      settles = λ its b settling by. by;
      takes = λ place r its allowed by. taken_by place r its heard stands by;
      skips = λ place type_byte len its by. one_less _ its heard stands by;
      all_taken = λ settled by.
          no_items heard _ (behind_stands heard stands (ending 0 heard) refl by.so);
      reads = λ now is_open by. by;
      closed = λ is by. by;
      puts = λ now room what is_due allowed by. by;
      enough = λ now room is by. by;
      put = λ now room by. by;
      breaks = λ now room by. no_items heard end.Failed tt;
    }) q e s

-- ---- all links

-- a link, if there is one
abbrev IsBy : List Item → Option Link → Type 0
IsBy its None = Unit {0}
IsBy its (Some link) = IsByHeard its link.heard link.stands

abbrev AllBy : List Event → Free → Type 0
AllBy before p = (i : ℕ) → IsBy (pending_in p.hold i) (slice_get p.links i)

is_by : (its its' : List Item) (o o' : Option Link) → its' ≡ its → o' ≡ o → IsBy its o
    → IsBy its' o'
is_by its its' o o' items is by =
    subst (λ (l : List Item). IsBy l o') (sym items) (subst (IsBy its) (sym is) by)

module _ (clients : Meaning) (first : ℕ) where
  goes_by : (e : Event) (p q : Free) (i : ℕ) → LinkGoes clients first e p q i
      → IsBy (pending_in p.hold i) (slice_get p.links i)
      → IsBy (pending_in q.hold i) (slice_get q.links i)
  goes_by e p q i (Kept k) by = is_by _ _ _ _ k.pends k.same by
  goes_by e p q i (Closed c) by =
      let was = subst (IsBy (pending_in p.hold i)) c.at by in
      is_by (pending_in p.hold i) _ (Some (record c.was {
        stands = cond c.beaten end.Redundant c.was.stands;
      })) _ c.pends c.now (record {
        front = was.front;
        parts = was.parts;
        so = redundant_stands c.was.heard c.was.stands c.beaten was.so;
      })
  goes_by e p q i (Joined j) by =
      let so : StandsByHeard j.stands [] =
      elim j.way [
        | inl passes ↦ subst (λ (x : LinkEnd). StandsByHeard x []) (sym passes.1) tt
        | inr broke ↦ subst (λ (x : LinkEnd). StandsByHeard x []) (sym broke.1) tt
      ] in
      is_by [] _ (Some (link_of j.session j.stands)) _ j.pends j.now (no_items [] j.stands so)
  goes_by e p q i (Stepped t) by =
      let does : (d : Doing) (h : Hold) → h ≡ Holds i d → pending_in h i ≡ pending d =
      λ d h is. ap (λ (x : Hold). pending_in x i) is
      ∙ ap (λ (b : Bool). cond b (pending d) []) (eq-eqb i i refl) in
      is_by (pending t.spot.doing) _ (Some t.spot.link) _ (does t.spot.doing q.hold t.holds) t.now
      (step_by clients i (first + i) (spot_in t.doing t.link t.moved p) t.spot e t.steps
      (is_by (pending_in p.hold i) (pending t.doing) (slice_get p.links i) (Some t.link)
      (sym (does t.doing p.hold t.held)) (sym t.at) by))

pub course_by_heard : (clients : Meaning) (terms : Terms) (sessions : List Session) (f : Facts)
    (events : List Event) (last : Place) → Course clients terms sessions f events last
    → AllStandByHeard last
course_by_heard clients terms sessions f events last course i link at =
    let all : AllBy events (forget last) =
    path_keeps (FreeStep clients terms.first) AllBy
    (λ before p q e by t i.
    goes_by clients terms.first e p q i (free_link clients terms.first p q e i t) (by i)) [] events
    (first_free f) (forget last) (λ k. tt)
    (run_is_free clients terms (first_place sessions f) last events course.path) in
    (subst (IsBy (pending_in (forget last).hold i)) at (all i)).so
