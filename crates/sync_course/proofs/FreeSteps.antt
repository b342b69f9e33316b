-- The steps of a node, case by case; what each adds to the journal, and what it leaves of the link
-- of a number.
use Rattle.std.proofs.Common.{◌≡◌, ◌⊎◌, ℕ, zero, suc, ◌+◌, Bool, true, cond, nat_eq, List}
use Rattle.std.proofs.Common.{[], ◌∷◌, ◌++◌, length, refl, sym, ◌∙◌, ap, subst, inl, inr, arith}
use Rattle.std.proofs.Common.{None, Some}
use Rattle.std.specs.Option.{option_map}
use Rattle.std.specs.Prelude.{slice_get}
use Rattle.std.proofs.lemmas.Bool.{cases_eq, ne_eqb}
use Rattle.record_grammar.specs.declared.stream.Item.{Item}
use Rattle.record_grammar.specs.declared.stream.Item.TheVariants as item
use Rattle.sync_ids.specs.declared.records.Record.{Record}
use Rattle.sync_rules.specs.declared.entries.Entry.{Entry}
use Rattle.sync_rules.specs.declared.entries.Entry.TheVariants as entry
use Rattle.sync_rules.specs.declared.entries.Out.{Out}
use Rattle.sync_rules.specs.declared.entries.Session.{Session}
use Rattle.sync_rules.specs.Clients.{Meaning}
use Rattle.sync_rules.specs.Facts.{Facts, after_all, session_at, takes_of}
use Rattle.sync_rules.specs.Growth.{output_in}
use Rattle.sync_rules.proofs.StepKinds.{takes_one}
use Rattle.sync_rules.proofs.StepLaws.{next_is_settling}
use Rattle.sync_rules.proofs.WorkLaws.{allowed_settling}
use Rattle.sync_rules.specs.Legal.{Allowed, IsDue, IsSettlingBatch}
use Rattle.sync_rules.specs.EntryTests.{IsSettlingEntry}
use Rattle.sync_course.specs.declared.TheConstants.{MAX_OUTPUTS}
use Rattle.sync_course.specs.declared.ends.LinkEnd.{LinkEnd}
use Rattle.sync_course.specs.declared.ends.LinkEnd.TheVariants as end
use Rattle.sync_course.specs.Events.{Event, Commit, Break, Pass, batches_of}
use Rattle.sync_course.specs.Free.{Begins, Free, FreeFrom, FreeStep, Hold, HoldStep, Holds}
use Rattle.sync_course.specs.Free.{IsNothingUnderWay, IsPlain, Rests, TakesUpOrCloses, holding}
use Rattle.sync_course.specs.Free.{joined_by, spot_in}
use Rattle.sync_course.specs.Links.{Link, is_beaten, is_going, is_sent_to, link_of}
use Rattle.sync_course.specs.Links.{without_redundant}
use Rattle.sync_course.specs.LinkTurns.{Asks, Takes, Waits, Sends, Done, Doing, LinkStep, Spot}
use Rattle.sync_course.specs.LinkTurns.{next_take, out_batch}
use Rattle.sync_course.specs.Pending.{pending}
use Rattle.sync_course.specs.Redundant.{closed_as}
use Rattle.sync_course.specs.Story.{begun_by}
use Rattle.sync_course.proofs.RunLaws.{settled_takes, takes_other, beaten_going, closed_each, cond_same, cond_self}
use Rattle.sync_course.proofs.RunLaws.{get_middle, Moves, moves_none, moves_one, settled_begun}
use Rattle.sync_course.proofs.LiftLaws.{get_other, get_set, get_within}
use Rattle.sync_course.proofs.LinkSteps.{Spares, link_by_cases, link_spares}

-- ---- the steps

module _ (clients : Meaning) (first : ℕ) (p : Free) (T : Event → Free → Type 0) where
  -- a property of the event and the place behind it, for each step of a node
  pub record FreeCases : Type 0 where
    pub stays : T Pass p
    pub turns : (hold : Hold) → IsNothingUnderWay p.hold → IsNothingUnderWay hold
        → T Pass (record p { hold = hold })
    pub sends : (n now : ℕ) (link : Link) → IsNothingUnderWay p.hold
        → slice_get p.links n ≡ Some link
        → is_sent_to link.stands ≡ true
        → T Pass (record p { hold = Holds n (Sends now MAX_OUTPUTS) })
    pub closes : IsNothingUnderWay p.hold
        → T Pass (record p { hold = Rests; links = without_redundant p.links })
    pub adds : (b : List Entry) → p.hold ≡ Rests
        → IsSettlingBatch clients p.facts b ⊎ (IsPlain b × Allowed clients p.facts b)
        → T (Commit b) (record p { facts = after_all p.facts b })
    pub begins : (x : Session) → p.hold ≡ Rests → Allowed clients p.facts (entry.Session x ∷ [])
        → T (Commit (entry.Session x ∷ []))
        (record p { hold = Begins x; facts = after_all p.facts (entry.Session x ∷ []) })
    pub greets : (x : Session) → p.hold ≡ Begins x → T Pass (joined_by x end.Going p)
    pub breaks : (x : Session) → p.hold ≡ Begins x
        → T (Break (length p.links)) (joined_by x end.Failed p)
    pub works : (n : ℕ) (doing : Doing) (link : Link) (moved : Bool) (e : Event) (spot : Spot)
        → p.hold ≡ Holds n doing → slice_get p.links n ≡ Some link
        → LinkStep clients n (first + n) (spot_in doing link moved p) e spot
        → T e (holding n spot p)

  module _ (cases : FreeCases) where
    to : {e : Event} {q r : Free} → q ≡ r → T e r → T e q
    to {e = e} same t = subst (T e) (sym same) t

    by_move : (q : Free) → TakesUpOrCloses p.hold p q → T Pass q
    by_move q m =
        elim m.1 [
          | inl turns ↦ to turns.leads (cases.turns turns.hold m.0 turns.idle)
          | inr others ↦ elim others [
            | inl sends ↦
                to sends.leads
                (cases.sends sends.number sends.now sends.link m.0 sends.there sends.is_open)
            | inr closes ↦ to closes (cases.closes m.0)
          ]
        ]

    by_hold : (hold : Hold) (e : Event) (q : Free) → p.hold ≡ hold
        → HoldStep clients first hold e p q → T e q
    by_hold Rests (Commit b) q is t =
        elim t [
          | inl adds ↦ to adds.1 (cases.adds b is adds.0)
          | inr begins ↦
              to begins.leads
              (subst (λ c. T (Commit c)
              (record p { hold = Begins begins.session; facts = after_all p.facts c }))
              (sym begins.is)
              (cases.begins begins.session is
              (subst (Allowed clients p.facts) begins.is begins.allowed)))
        ]
    by_hold (Begins x) Pass q is t = to t (cases.greets x is)
    by_hold (Begins x) (Break on) q is t =
        to t.1 (subst (λ k. T (Break k) (joined_by x end.Failed p)) (sym t.0) (cases.breaks x is))
    by_hold (Holds n doing) e q is t =
        to t.leads (cases.works n doing t.link t.moved e t.spot is t.there t.steps)
    by_hold _ _ q is t = absurd t

    by_event : (e : Event) (q : Free) → FreeFrom clients first p.hold e p q → T e q
    by_event Pass q t =
        elim t [
          | inl same ↦ to same cases.stays
          | inr others ↦ elim others [ inl m ↦ by_move q m | inr h ↦ by_hold p.hold Pass q refl h ]
        ]
    by_event e q t = by_hold p.hold e q refl t

    pub free_by_cases : (q : Free) (e : Event) → FreeStep clients first p e q → T e q
    free_by_cases q e t = by_event e q t

-- ---- what a step adds to the journal

module _ (clients : Meaning) (first : ℕ) (p : Free) (T : Event → Facts → Type 0) where
  -- a property of the event and the facts behind it
  pub record BatchCases : Type 0 where
    pub none : (e : Event) → batches_of (e ∷ []) ≡ [] → T e p.facts
    pub settles : (b : List Entry) → IsSettlingBatch clients p.facts b
        → T (Commit b) (after_all p.facts b)
    pub adds : (b : List Entry) → p.hold ≡ Rests → IsPlain b → Allowed clients p.facts b
        → T (Commit b) (after_all p.facts b)
    pub begins : (x : Session) → p.hold ≡ Rests → Allowed clients p.facts (entry.Session x ∷ [])
        → T (Commit (entry.Session x ∷ [])) (after_all p.facts (entry.Session x ∷ []))
    pub takes : (n place : ℕ) (r : Record) (its : List Item) (link : Link)
        → p.hold ≡ Holds n (Takes (item.One place r ∷ its)) → slice_get p.links n ≡ Some link
        → Allowed clients p.facts (next_take p.facts (first + n) r)
        → T (Commit (next_take p.facts (first + n) r))
        (after_all p.facts (next_take p.facts (first + n) r))
    pub puts : (n now room : ℕ) (what : Out) (link : Link) → p.hold ≡ Holds n (Sends now (suc room))
        → slice_get p.links n ≡ Some link
        → IsDue clients p.facts (session_at p.facts.sessions (first + n)) now what
        → Allowed clients p.facts (out_batch (first + n) now what)
        → T (Commit (out_batch (first + n) now what))
        (after_all p.facts (out_batch (first + n) now what))

  module _ (cases : BatchCases) where
    by_link : (n : ℕ) (doing : Doing) (link : Link) (moved : Bool) (e : Event) (spot : Spot)
        → p.hold ≡ Holds n doing → slice_get p.links n ≡ Some link
        → LinkStep clients n (first + n) (spot_in doing link moved p) e spot → T e spot.facts
    by_link n doing link moved e spot holds there steps =
        link_by_cases clients n (first + n) (spot_in doing link moved p)
        (λ d x r. p.hold ≡ Holds n d → T x r.facts) (record {
          hears = λ bytes going holds. cases.none _ refl;
          idles = λ going holds. cases.none _ refl;
          ends = λ going holds. cases.none _ refl;
          misses = λ going holds. cases.none _ refl;
          unasked = λ going holds. cases.none _ refl;
          settles = λ its b settling holds. cases.settles b settling;
          takes = λ place r its allowed holds. cases.takes n place r its link holds there allowed;
          skips = λ place type_byte len its holds. cases.none _ refl;
          all_taken = λ settled holds. cases.none _ refl;
          reads = λ now is_open holds. cases.none _ refl;
          closed = λ is holds. cases.none _ refl;
          puts = λ now room what is_due allowed holds.
              cases.puts n now room what link holds there is_due allowed;
          enough = λ now room is holds. cases.none _ refl;
          put = λ now room holds. cases.none _ refl;
          breaks = λ now room holds. cases.none _ refl;
        }) spot e steps holds

    pub free_batches : (q : Free) (e : Event) → FreeStep clients first p e q → T e q.facts
    free_batches q e t =
        free_by_cases clients first p (λ x r. T x r.facts) (record {
          stays = cases.none Pass refl;
          turns = λ hold calm then. cases.none Pass refl;
          sends = λ n now link calm there is_open. cases.none Pass refl;
          closes = λ calm. cases.none Pass refl;
          adds = λ b rests adds.
              elim adds [
                | inl settles ↦ cases.settles b settles
                | inr plain ↦ cases.adds b rests plain.0 plain.1
              ];
          begins = λ x rests allowed. cases.begins x rests allowed;
          greets = λ x begins. cases.none Pass refl;
          breaks = λ x begins. cases.none _ refl;
          works = λ n doing link moved x spot holds there steps.
              by_link n doing link moved x spot holds there steps;
        }) q e t

-- a plain entry leaves the number of the sessions, what was taken, and the output of each session
pub record OnlyAdds (f : Facts) (b : List Entry) : Type 0 where
  pub begun : (after_all f b).begun ≡ f.begun
  pub begins : begun_by (b ∷ []) ≡ []
  pub takes : (m : ℕ) → takes_of (after_all f b).takes m ≡ takes_of f.takes m
  pub puts : (session : ℕ) → output_in f session b ≡ []

pub plain_adds : (f : Facts) (b : List Entry) → IsPlain b → OnlyAdds f b
plain_adds f (entry.Contact c ∷ []) is =
    record { begun = refl; begins = refl; takes = λ m. refl; puts = λ session. refl }
plain_adds f (entry.Group def ∷ []) is =
    record { begun = refl; begins = refl; takes = λ m. refl; puts = λ session. refl }
plain_adds f (entry.Level c g l ∷ []) is =
    record { begun = refl; begins = refl; takes = λ m. refl; puts = λ session. refl }
plain_adds f (entry.Author m ∷ []) is =
    record { begun = refl; begins = refl; takes = λ m. refl; puts = λ session. refl }
plain_adds f _ is = absurd is

apart : (first n i : ℕ) → (n ≡ i → ⊥) → first + i ≡ first + n → ⊥
apart first n i other same =
    other (let s : first + i ≡ first + n = same in let e : n ≡ i = omega (arith, s) in e)

-- no session begins by settling, and no plain entry is among it
pub record OnlySettles (b : List Entry) : Type 0 where
  pub begins : begun_by (b ∷ []) ≡ []
  pub plain : IsPlain b → ⊥

pub settling_adds : (clients : Meaning) (f : Facts) (b : List Entry) → IsSettlingBatch clients f b
    → OnlySettles b
settling_adds clients f [] s = absurd (omega arith)
settling_adds clients f (e ∷ es) s = by_entry e es (next_is_settling clients f e s.2.0)
  where
    by_entry : (e : Entry) (es : List Entry) → IsSettlingEntry e → OnlySettles (e ∷ es)
    by_entry (entry.Judged id) es k = record { begins = refl; plain = λ plain. plain }
    by_entry (entry.Deliver id) es k = record { begins = refl; plain = λ plain. plain }
    by_entry (entry.Invalid id) es k = record { begins = refl; plain = λ plain. plain }
    by_entry _ es k = absurd k

-- an event that commits no plain entry
abbrev pub NotPlain : Event → Type 0
NotPlain (Commit b) = IsPlain b → ⊥
NotPlain _ = Unit {0}

none_plain : (e : Event) → batches_of (e ∷ []) ≡ [] → NotPlain e
none_plain (Commit b) none = cc
none_plain _ none = tt

-- What a step adds: its batch may follow; sessions begin by it, and no link that is in hand begins
-- one or adds a plain entry; what was taken on a link stays, unless it is the one that takes.
pub record StepAdds (clients : Meaning) (first : ℕ) (p : Free) (e : Event)
    (g : Facts) : Type 0 where
  pub moves : Moves clients (batches_of (e ∷ [])) p.facts g
  pub begun : g.begun ≡ p.facts.begun + length (begun_by (batches_of (e ∷ [])))
  pub begins : (p.hold ≡ Rests → ⊥) → begun_by (batches_of (e ∷ [])) ≡ []
  pub stays : (p.hold ≡ Rests → ⊥) → g.begun ≡ p.facts.begun
  pub plain : (p.hold ≡ Rests → ⊥) → NotPlain e
  pub takes : (i : ℕ) → ((its : List Item) → p.hold ≡ Holds i (Takes its) → ⊥)
      → takes_of g.takes (first + i) ≡ takes_of p.facts.takes (first + i)

none_begins : (bs : List (List Entry)) (f g : Facts) → begun_by bs ≡ [] → g.begun ≡ f.begun
    → g.begun ≡ f.begun + length (begun_by bs)
none_begins bs f g none same =
    let more : length (begun_by bs) ≡ 0 = ap (λ l. length l) none in
    let is : g.begun ≡ f.begun = same in
    omega (arith, more, is)

module _ (clients : Meaning) (first : ℕ) (p : Free) where
  -- a batch by which no session begins
  adds_none : (b : List Entry) → Allowed clients p.facts b → begun_by (b ∷ []) ≡ []
      → (after_all p.facts b).begun ≡ p.facts.begun → ((p.hold ≡ Rests → ⊥) → IsPlain b → ⊥)
      → ((i : ℕ) → ((its : List Item) → p.hold ≡ Holds i (Takes its) → ⊥)
      → takes_of (after_all p.facts b).takes (first + i) ≡ takes_of p.facts.takes (first + i))
      → StepAdds clients first p (Commit b) (after_all p.facts b)
  adds_none b allowed begins begun plain takes = record {
    moves = moves_one allowed;
    begun = none_begins (b ∷ []) p.facts (after_all p.facts b) begins begun;
    begins = λ busy. begins;
    stays = λ busy. begun;
    plain = plain;
    takes = takes;
  }

  adds_nothing : (e : Event) → batches_of (e ∷ []) ≡ [] → StepAdds clients first p e p.facts
  adds_nothing e none = record {
    moves = subst (λ bs. Moves clients bs p.facts p.facts) (sym none) (moves_none refl);
    begun = none_begins (batches_of (e ∷ [])) p.facts p.facts (ap begun_by none) refl;
    begins = λ busy. ap begun_by none;
    stays = λ busy. refl;
    plain = λ busy. none_plain e none;
    takes = λ i others. refl;
  }

  pub step_adds : (q : Free) (e : Event) → FreeStep clients first p e q
      → StepAdds clients first p e q.facts
  step_adds q e t =
      free_batches clients first p (λ x g. StepAdds clients first p x g)
      (record {
        none = adds_nothing;
        settles = λ b settling.
            let only = settling_adds clients p.facts b settling in
            adds_none b (allowed_settling clients p.facts b settling) only.begins
            (settled_begun clients p.facts b settling) (λ busy. only.plain)
            (λ i others. settled_takes clients p.facts b (first + i) settling);
        adds = λ b rests plain allowed.
            let only = plain_adds p.facts b plain in
            adds_none b allowed only.begins only.begun (λ busy. absurd (busy rests))
            (λ i others. only.takes (first + i));
        begins = λ x rests allowed. record {
          moves = moves_one allowed;
          begun = refl;
          begins = λ busy. absurd (busy rests);
          stays = λ busy. absurd (busy rests);
          plain = λ busy. absurd (busy rests);
          takes = λ i others. refl;
        };
        takes = λ n place r its link holds at allowed.
            adds_none (next_take p.facts (first + n) r) allowed refl
            (takes_one clients p.facts (first + n) _ _ allowed).begun (λ busy plain. plain)
            (λ i others.
            takes_other clients p.facts (first + n) (first + i) r allowed
            (apart first n i
            (λ same. others (item.One place r ∷ its)
            (subst (λ k. p.hold ≡ Holds k (Takes (item.One place r ∷ its))) same holds))));
        puts = λ n now room what link holds at is_due allowed.
            adds_none (out_batch (first + n) now what) allowed refl refl (λ busy plain. plain)
            (λ i others. refl);
      }) q e t

-- ---- what a step leaves of the link of a number

-- the items that the link of this number is to take
abbrev pub pending_in : Hold → ℕ → List Item
pending_in (Holds n doing) i = cond (nat_eq n i) (pending doing) []
pending_in _ i = []

pub held_pends : {h : Hold} {i : ℕ} {doing : Doing} → h ≡ Holds i doing
    → pending_in h i ≡ pending doing
held_pends {i = i} is = ap (λ h. pending_in h i) is ∙ cond_self i []

-- the link, or that there is none, stays; the event is of no call of it, and nothing of it is taken
pub record IsKept (first : ℕ) (e : Event) (p q : Free) (i : ℕ) : Type 0 where
  pub same : slice_get q.links i ≡ slice_get p.links i
  pub spares : Spares i e
  pub pends : pending_in q.hold i ≡ pending_in p.hold i
  pub takes : takes_of q.facts.takes (first + i) ≡ takes_of p.facts.takes (first + i)

-- it is closed where it is redundant
pub record IsClosed (e : Event) (p q : Free) (i : ℕ) : Type 0 where
  pub was : Link
  pub at : slice_get p.links i ≡ Some was
  pub beaten : Bool
  pub going : beaten ≡ true → is_going was.stands ≡ true
  pub now : slice_get q.links i ≡ Some
      (record was { stands = cond beaten end.Redundant was.stands })
  pub spares : Spares i e
  pub pends : pending_in q.hold i ≡ pending_in p.hold i
  pub facts : q.facts ≡ p.facts

-- it is the next one, of the session that begins
pub record IsJoined (e : Event) (p q : Free) (i : ℕ) : Type 0 where
  pub session : Session
  pub stands : LinkEnd
  pub is_next : i ≡ length p.links
  pub begins : p.hold ≡ Begins session
  pub now : slice_get q.links i ≡ Some (link_of session stands)
  pub pends : pending_in q.hold i ≡ []
  pub facts : q.facts ≡ p.facts
  pub way : ((e ≡ Pass) × (stands ≡ end.Going)) ⊎ ((e ≡ Break i) × (stands ≡ end.Failed))

-- it made a step
pub record IsStepped (clients : Meaning) (first : ℕ) (e : Event) (p q : Free) (i : ℕ) : Type 0 where
  pub doing : Doing
  pub link : Link
  pub moved : Bool
  pub spot : Spot
  pub at : slice_get p.links i ≡ Some link
  pub now : slice_get q.links i ≡ Some spot.link
  pub held : p.hold ≡ Holds i doing
  pub holds : q.hold ≡ Holds i spot.doing
  pub steps : LinkStep clients i (first + i) (spot_in doing link moved p) e spot
  pub facts : q.facts ≡ spot.facts

pub data LinkGoes (clients : Meaning) (first : ℕ) (e : Event) (p q : Free) (i : ℕ) : Type 0 where
  Kept : IsKept first e p q i → LinkGoes clients first e p q i
  Closed : IsClosed e p q i → LinkGoes clients first e p q i
  Joined : IsJoined e p q i → LinkGoes clients first e p q i
  Stepped : IsStepped clients first e p q i → LinkGoes clients first e p q i

idle_pends : (hold : Hold) (i : ℕ) → IsNothingUnderWay hold → pending_in hold i ≡ []
idle_pends Rests i calm = refl
idle_pends (Begins s) i calm = absurd calm
idle_pends (Holds n Asks) i calm = cond_same (nat_eq n i) []
idle_pends (Holds n Waits) i calm = cond_same (nat_eq n i) []
idle_pends (Holds n Done) i calm = cond_same (nat_eq n i) []
idle_pends (Holds n _) i calm = absurd calm

get_push_other : {A : Type 0} (xs : List A) (x : A) (i : ℕ) → (i ≡ length xs → ⊥)
    → slice_get (xs ++ x ∷ []) i ≡ slice_get xs i
get_push_other [] x zero other = absurd (other refl)
get_push_other [] x (suc i) other = refl
get_push_other (y ∷ xs) x zero other = refl
get_push_other (y ∷ xs) x (suc i) other = get_push_other xs x i (λ same. other (ap suc same))

module _ (clients : Meaning) (first : ℕ) where
  abbrev Goes : Event → Free → Free → ℕ → Type 0
  Goes e p q i = LinkGoes clients first e p q i

  links_stay : {e : Event} {p r : Free} {i : ℕ} → r.links ≡ p.links → Spares i e
      → pending_in r.hold i ≡ pending_in p.hold i
      → takes_of r.facts.takes (first + i) ≡ takes_of p.facts.takes (first + i) → Goes e p r i
  links_stay {i = i} same spares pends takes =
      Kept (record {
        same = ap (λ l. slice_get l i) same;
        spares = spares;
        pends = pends;
        takes = takes;
      })

  joins_go : (e : Event) (p : Free) (x : Session) (stands : LinkEnd) (i : ℕ) → p.hold ≡ Begins x
      → ((i ≡ length p.links → ⊥) → Spares i e)
      → (i ≡ length p.links
      → ((e ≡ Pass) × (stands ≡ end.Going)) ⊎ ((e ≡ Break i) × (stands ≡ end.Failed)))
      → Goes e p (joined_by x stands p) i
  joins_go e p x stands i is spares way =
      elim (cases_eq i (length p.links)) [
        | inl same ↦
            Joined (record {
              session = x;
              stands = stands;
              is_next = same;
              begins = is;
              now =
                  subst (λ k. slice_get (p.links ++ link_of x stands ∷ []) k
                  ≡ Some (link_of x stands))
                  (sym same) (get_middle p.links [] (link_of x stands));
              pends = refl;
              facts = refl;
              way = way same;
            })
        | inr other ↦
            Kept (record {
              same = get_push_other p.links (link_of x stands) i other;
              spares = spares other;
              pends = sym (ap (λ h. pending_in h i) is);
              takes = refl;
            })
      ]

  pub free_link : (p q : Free) (e : Event) (i : ℕ) → FreeStep clients first p e q → Goes e p q i
  free_link p q e i t =
      free_by_cases clients first p
      (λ x r. (((its : List Item) → p.hold ≡ Holds i (Takes its) → ⊥)
      → takes_of r.facts.takes (first + i) ≡ takes_of p.facts.takes (first + i))
      → Goes x p r i) (record {
        stays = λ takes. links_stay refl tt refl refl;
        turns = λ hold calm then takes.
            links_stay refl tt (idle_pends hold i then ∙ sym (idle_pends p.hold i calm)) refl;
        sends = λ n now link calm there is_open takes.
            links_stay refl tt (cond_same (nat_eq n i) [] ∙ sym (idle_pends p.hold i calm)) refl;
        closes = λ calm takes.
            let closed = closed_each p.links 0 p.links i in
            let pends = sym (idle_pends p.hold i calm) in
            elim (slice_get p.links i) as (λ o. slice_get p.links i ≡ o
            → Goes Pass p (record p { hold = Rests; links = without_redundant p.links }) i) [
              | None ↦ λ none.
                  Kept (record {
                    same = closed ∙ ap (option_map (closed_as p.links (0 + i))) none ∙ sym none;
                    spares = tt;
                    pends = pends;
                    takes = refl;
                  })
              | Some was ↦ λ at.
                  Closed (record {
                    was = was;
                    at = at;
                    beaten = is_beaten 0 p.links (0 + i) was;
                    going = beaten_going 0 (0 + i) p.links was;
                    now = closed ∙ ap (option_map (closed_as p.links (0 + i))) at;
                    spares = tt;
                    pends = pends;
                    facts = refl;
                  })
            ] refl;
        adds = λ b rests adds takes.
            links_stay refl tt refl
            (takes (λ its holds. let both : Rests ≡ Holds i (Takes its) = sym rests ∙ holds in cc));
        begins = λ x rests allowed takes.
            links_stay refl tt (sym (ap (λ h. pending_in h i) rests)) refl;
        greets = λ x begins takes.
            joins_go Pass p x end.Going i begins (λ other. tt) (λ same. inl (refl, refl));
        breaks = λ x begins takes.
            joins_go (Break (length p.links)) p x end.Failed i begins (λ other same.
            other (sym same))
            (λ same. inr (ap (λ k. Break k) (sym same), refl));
        works = λ n doing link moved x spot holds there steps takes.
            elim (cases_eq i n) [
              | inl same ↦
                  subst (λ k. Goes x p (holding n spot p) k) (sym same)
                  (Stepped (record {
                    doing = doing;
                    link = link;
                    moved = moved;
                    spot = spot;
                    at = there;
                    now = get_set p.links n spot.link (get_within p.links n link there);
                    held = holds;
                    holds = refl;
                    steps = steps;
                    facts = refl;
                  }))
              | inr other ↦
                  let apart = ne_eqb n i (λ same. other (sym same)) in
                  Kept (record {
                    same = get_other p.links n i spot.link other;
                    spares =
                        link_spares clients n (first + n) i (spot_in doing link moved p) spot x
                        other steps;
                    pends =
                        ap (λ b. cond b (pending spot.doing) []) apart
                        ∙ sym (ap (λ b. cond b (pending doing) []) apart)
                        ∙ sym (ap (λ h. pending_in h i) holds);
                    takes =
                        takes (λ its held.
                        let both : Holds n doing ≡ Holds i (Takes its) = sym holds ∙ held in
                        other (let at : n ≡ i = cc in sym at));
                  })
            ];
      }) q e t ((step_adds clients first p q e t).takes i)
