-- What each place of a run keeps: where the journal is settled, and at which reading a link sends; so
-- each output is due at its place. What the last still turns had, Idle answers alone and nothing due
-- at the readings made in them; and how a run stands that is over.
use Rattle.std.proofs.Common.{◌≡◌, ℕ, ◌+◌, Bool, cond, List, [], ◌∷◌, refl, sym, ap, subst}
use Rattle.std.proofs.Common.{Option, Some, suc, ◌++◌, None, zero, ◌<◌, ◌≤◌, true, false}
use Rattle.std.proofs.Common.{length, ◌∙◌, subst₂, inl, inr, arith, not, ◌||◌, nat_le, append-nil}
use Rattle.sync_rules.specs.declared.entries.Entry.{Entry}
use Rattle.sync_rules.specs.Clients.{Meaning}
use Rattle.sync_rules.specs.Facts.{Facts, facts}
use Rattle.sync_rules.specs.Steps.{IsSettled}
use Rattle.sync_rules.proofs.StepKinds.{settled_stays}
use Rattle.sync_course.specs.Events.{Event, Commit, batches_of, Hear, Miss, Read}
use Rattle.sync_course.specs.LinkTurns.{Doing, LinkStep, Puts, Sends, Spot, Takes, out_batch, Asks}
use Rattle.sync_course.specs.LinkTurns.{Waits, Done, IsEnough}
use Rattle.sync_course.specs.Paths.{Path}
use Rattle.sync_course.specs.Quiet.{reading_after, reading_by, last_reading, IsQuietAt, idles_after}
use Rattle.sync_course.specs.Quiet.{idles_by, idles_with, EndsQuiet}
use Rattle.sync_course.specs.Turns.{Place, RunStep, Settles, Stage, Terms, Works, spot_of}
use Rattle.sync_course.specs.Turns.{Between, Ended, turn_ended, with_spot, Course}
use Rattle.sync_course.specs.Turns.{first_place, is_over, some_going}
use Rattle.sync_course.proofs.LinkSteps.{link_by_cases, Spares, link_spares}
use Rattle.sync_course.proofs.FreeLaws.{run_by_cases, step_is_free}
use Rattle.sync_rules.specs.declared.entries.Out.{Out}
use Rattle.sync_rules.specs.Legal.{IsSettlingBatch, Legal}
use Rattle.sync_rules.proofs.StepLaws.{next_is_settling}
use Rattle.sync_course.proofs.PathLaws.{path_parts}
use Rattle.sync_course.specs.Free.{Holds, IsPlain, forget, hold_at}
use Rattle.sync_course.proofs.FreeSteps.{free_batches}
use Rattle.sync_course.specs.DueOutputs.{IsDueAt, OutIsDue}
use Rattle.std.specs.Prelude.{slice_get, nat_lt}
use Rattle.std.proofs.lemmas.Bool.{cases_eq, false≢true, ne_eqb, and_parts, leb-true, ltb-true}
use Rattle.std.proofs.lemmas.Bool.{or_left, or_right}
use Rattle.sync_course.specs.declared.TheConstants.{MAX_OUTPUTS}
use Rattle.sync_course.specs.declared.ends.LinkEnd.{LinkEnd}
use Rattle.sync_course.specs.Links.{Link, is_going, is_sent_to}
use Rattle.sync_course.proofs.LiftLaws.{get_other, get_set, get_within}
use Rattle.sync_course.proofs.RunLaws.{cond_self, IsClosedFrom, redundant_get}
use Rattle.record_grammar.specs.Laws.{RecordsJoin, StreamsGoOn}
use Rattle.record_grammar.specs.Stream.{records, records_of}
use Rattle.sync_rules.specs.declared.entries.Session.{Session}
use Rattle.sync_course.specs.Pending.{pending_at}
use Rattle.sync_course.proofs.FreeSound.{get_same, run_counted}
use Rattle.sync_course.specs.Suits.{IsCounted, AreRecordsTaken, keeps_all}
use Rattle.sync_rules.specs.declared.entries.Entry.TheVariants as entry
use Rattle.sync_course.specs.declared.ends.LinkEnd.TheVariants as end

-- the journal is settled but while items are taken
abbrev pub SettledDoing : Meaning → Doing → Facts → Type 0
SettledDoing clients (Takes its) f = Unit {0}
SettledDoing clients _ f = IsSettled clients f

-- what sends at a reading sends at the last one
abbrev pub IsRead : Option ℕ → Doing → Type 0
IsRead reading (Sends now room) = reading ≡ Some now
IsRead reading (Puts now room) = reading ≡ Some now
IsRead reading _ = Unit {0}

abbrev pub SpotKeeps : Meaning → Option ℕ → Doing → Facts → Type 0
SpotKeeps clients reading doing f = SettledDoing clients doing f × IsRead reading doing

-- so it is at each place, but before the first session
abbrev pub PlaceKeeps : Meaning → (ℕ → Option ℕ) → Stage → Facts → Type 0
PlaceKeeps clients readings (Settles left) f = Unit {0}
PlaceKeeps clients readings (Works n doing) f = SpotKeeps clients (readings n) doing f
PlaceKeeps clients readings _ f = IsSettled clients f

link_keeps : (clients : Meaning) (n session : ℕ) (reading : Option ℕ) (p q : Spot) (e : Event)
    → LinkStep clients n session p e q → SpotKeeps clients reading p.doing p.facts
    → SpotKeeps clients (reading_by n reading e) q.doing q.facts
link_keeps clients n session reading p q e s =
    link_by_cases clients n session p
    (λ doing x r. SpotKeeps clients reading doing p.facts
    → SpotKeeps clients (reading_by n reading x) r.doing r.facts) (record {
      hears = λ bytes going k. (tt, tt);
      idles = λ going k. (k.0, tt);
      ends = λ going k. (k.0, tt);
      misses = λ going k. (k.0, tt);
      unasked = λ is k. (k.0, tt);
      settles = λ its b settling k. (tt, tt);
      takes = λ place r its allowed k. (tt, tt);
      skips = λ place type_byte len its k. (tt, tt);
      all_taken = λ settled k. (settled, tt);
      reads = λ now is_open k. (k.0, cond_self n reading);
      closed = λ is k. (k.0, tt);
      puts = λ now room what is_due allowed k.
          (settled_stays clients p.facts (out_batch session now what) refl k.0, k.1);
      enough = λ now room is k. (k.0, tt);
      put = λ now room k. k;
      breaks = λ now room k. (k.0, tt);
    }) q e s

-- ---- a link in a turn that did not move

-- what events say of a link: how many of its last answers were all Idle, and the last reading made for it
pub record LinkTold : Type 0 where
  pub idles : ℕ
  pub reading : Option ℕ

abbrev pub nothing_told : LinkTold
nothing_told = record { idles = 0; reading = None }

abbrev pub told_by : ℕ → LinkTold → Event → LinkTold
told_by i told e = record { idles = idles_by i told.idles e; reading = reading_by i told.reading e }

abbrev pub told_after : ℕ → LinkTold → List Event → LinkTold
told_after i told es =
    record { idles = idles_after i told.idles es; reading = reading_after i told.reading es }

-- a link that is asked answered Idle so often
abbrev pub IsIdle : ℕ → ℕ → Link → Type 0
IsIdle turns idles link = is_going link.stands ≡ true → turns ≤ idles

-- a link behind its turn
pub record HadTurn (clients : Meaning) (f : Facts) (session still : ℕ) (told : LinkTold) (link : Link) : Type 0 where
  pub idle : IsIdle (suc still) told.idles link
  pub quiet : is_sent_to link.stands ≡ true → IsQuietAt clients f session told.reading

-- a link in its turn, by what it does
abbrev pub IsStill : Meaning → Facts → ℕ → ℕ → LinkTold → Doing → Link → Type 0
IsStill clients f session still told Asks link = IsIdle still told.idles link
IsStill clients f session still told (Takes its) link = ⊥
IsStill clients f session still told Waits link = IsIdle (suc still) told.idles link
IsStill clients f session still told (Sends now room) link =
    (room ≡ MAX_OUTPUTS) × (told.reading ≡ Some now) × IsIdle (suc still) told.idles link
IsStill clients f session still told (Puts now room) link = ⊥
IsStill clients f session still told Done link = HadTurn clients f session still told link

-- a step behind which the turn has not moved: it had not moved before, and the facts are the same
pub record StillStep (clients : Meaning) (session still : ℕ) (told : LinkTold) (p q : Spot) : Type 0 where
  pub unmoved : p.moved ≡ false
  pub facts : q.facts ≡ p.facts
  pub so : IsStill clients q.facts session still told q.doing q.link

stays_still : {clients : Meaning} {session still : ℕ} {told : LinkTold} {p q : Spot}
    → p.moved ≡ false → q.facts ≡ p.facts
    → IsStill clients q.facts session still told q.doing q.link
    → StillStep clients session still told p q
stays_still unmoved same so = record { unmoved = unmoved; facts = same; so = so }

-- an event behind which a spot has moved is no step of a still turn
moved : {A : Type 0} → true ≡ false → A
moved is = absurd (false≢true (sym is))

still_step : (clients : Meaning) (n session still : ℕ) (told : LinkTold) (p q : Spot) (e : Event)
    → LinkStep clients n session p e q → q.moved ≡ false
    → (p.moved ≡ false → IsStill clients p.facts session still told p.doing p.link)
    → StillStep clients session still (told_by n told e) p q
still_step clients n session still told p q e s =
    link_by_cases clients n session p
    (λ doing x r. r.moved ≡ false
    → (p.moved ≡ false → IsStill clients p.facts session still told doing p.link)
    → StillStep clients session still (told_by n told x) p r) (record {
      hears = λ bytes going unmoved claim. moved unmoved;
      idles = λ going unmoved claim.
          stays_still unmoved refl (λ asked.
          let before = claim unmoved asked in
          let more = cond_self n told.idles in
          subst (λ k. suc still ≤ k) (sym more) (omega (arith, before)));
      ends = λ going unmoved claim. moved unmoved;
      misses = λ going unmoved claim. moved unmoved;
      unasked = λ is unmoved claim.
          stays_still unmoved refl (λ going. absurd (false≢true (sym is ∙ going)));
      settles = λ its b settling unmoved claim. absurd (claim unmoved);
      takes = λ place r its allowed unmoved claim. absurd (claim unmoved);
      skips = λ place type_byte len its unmoved claim. absurd (claim unmoved);
      all_taken = λ settled unmoved claim. absurd (claim unmoved);
      reads = λ now is_open unmoved claim.
          stays_still unmoved refl (refl, cond_self n told.reading, claim unmoved);
      closed = λ is unmoved claim.
          stays_still unmoved refl (record {
            idle = claim unmoved;
            quiet = λ sent. absurd (false≢true (sym is ∙ sent));
          });
      puts = λ now room what is_due allowed unmoved claim. moved unmoved;
      enough = λ now room enough unmoved claim.
          let so = claim unmoved in
          stays_still unmoved refl (record {
            idle = so.2;
            quiet = λ sent.
                subst (IsQuietAt clients p.facts session) (sym so.1)
                (subst (λ k. IsEnough clients p.facts session now k) so.0 enough);
          });
      put = λ now room unmoved claim. absurd (claim unmoved);
      breaks = λ now room unmoved claim. moved unmoved;
    }) q e s

-- an event says nothing of another link
spared_told : (i : ℕ) (told : LinkTold) (e : Event) → Spares i e → told_by i told e ≡ told
spared_told i told (Hear on reply) apart =
    ap (λ b. record told { idles = cond b (idles_with reply told.idles) told.idles }) (ne_eqb on i apart)
spared_told i told (Miss on) apart =
    ap (λ b. record told { idles = cond b 0 told.idles }) (ne_eqb on i apart)
spared_told i told (Read on now) apart =
    ap (λ b. record told { reading = cond b (Some now) told.reading }) (ne_eqb on i apart)
spared_told i told _ spares = refl

-- ---- a place of a run

-- what a link does in a turn, where the one of a number does this: those before it are done, and those behind it are yet to ask
abbrev pub phase : ℕ → Doing → ℕ → Doing
phase zero doing zero = doing
phase zero doing (suc i) = Asks
phase (suc n) doing zero = Done
phase (suc n) doing (suc i) = phase n doing i

phase_here : (n : ℕ) (doing : Doing) → phase n doing n ≡ doing
phase_here zero doing = refl
phase_here (suc n) doing = phase_here n doing

phase_other : (n i : ℕ) (doing next : Doing) → (i ≡ n → ⊥) → phase n doing i ≡ phase n next i
phase_other zero zero doing next other = absurd (other refl)
phase_other zero (suc i) doing next other = refl
phase_other (suc n) zero doing next other = refl
phase_other (suc n) (suc i) doing next other =
    phase_other n i doing next (λ same. other (ap suc same))

phase_past : (n i : ℕ) (doing : Doing) → i < n → phase n doing i ≡ Done
phase_past zero i doing past = absurd (omega arith)
phase_past (suc n) zero doing past = refl
phase_past (suc n) (suc i) doing past = phase_past n i doing (omega (arith, past))

phase_first : (i : ℕ) → phase 0 Asks i ≡ Asks
phase_first zero = refl
phase_first (suc i) = refl

phase_next : (n i : ℕ) → phase n Done i ≡ phase (suc n) Asks i
phase_next zero zero = refl
phase_next zero (suc i) = sym (phase_first i)
phase_next (suc n) zero = refl
phase_next (suc n) (suc i) = phase_next n i

get_none : {A : Type 0} (xs : List A) (n : ℕ) → slice_get xs n ≡ None → length xs ≤ n
get_none [] n none = omega arith
get_none (x ∷ xs) zero none = cc
get_none (x ∷ xs) (suc n) none = let rest = get_none xs n none in omega (arith, rest)

-- what no redundant link is, a link was that it is where redundant ones were closed
closed_so : (test : LinkEnd → Bool) → test end.Redundant ≡ false → (b : Bool) (stands : LinkEnd)
    → test (cond b end.Redundant stands) ≡ true → test stands ≡ true
closed_so test none true stands is = absurd (false≢true (sym none ∙ is))
closed_so test none false stands is = is

module _ (clients : Meaning) (terms : Terms) where
  -- between two turns: each link that is asked answered Idle in as many turns as were still, and
  -- behind a still turn nothing is due
  pub record BetweenTurns (told : ℕ → LinkTold) (p : Place) : Type 0 where
    pub idle : (i : ℕ) (link : Link) → slice_get p.links i ≡ Some link
        → IsIdle p.still (told i).idles link
    pub quiet : 0 < p.still → (i : ℕ) (link : Link) → slice_get p.links i ≡ Some link
        → is_sent_to link.stands ≡ true
        → IsQuietAt clients p.facts (terms.first + i) (told i).reading

  -- the link of a number, by what it does
  abbrev pub StillLink : (ℕ → LinkTold) → Place → ℕ → Link → Doing → Type 0
  StillLink told p i link doing =
      IsStill clients p.facts (terms.first + i) p.still (told i) doing link

  -- in a turn that did not move: each link, by its phase
  abbrev pub InTurn : (ℕ → LinkTold) → ℕ → Doing → Place → Type 0
  InTurn told n doing p = (i : ℕ) (link : Link) → slice_get p.links i ≡ Some link
      → StillLink told p i link (phase n doing i)

  abbrev pub IsStillAt : (ℕ → LinkTold) → Stage → Place → Type 0
  IsStillAt told Between p = BetweenTurns told p
  IsStillAt told Ended p = BetweenTurns told p
  IsStillAt told (Works n doing) p = p.moved ≡ false → InTurn told n doing p
  IsStillAt told _ p = p.still ≡ 0

  still_closed : (told : ℕ → LinkTold) (n : ℕ) (doing : Doing) (p : Place) → slice_get p.links n ≡ None
      → (b : Bool) → (b ≡ false → InTurn told n doing p)
      → BetweenTurns told (record (turn_ended p) { still = cond b 0 (suc p.still) })
  still_closed told n doing p none true t = record {
    idle = λ i link at going. omega arith;
    quiet = λ some i link at sent. absurd (omega arith);
  }
  still_closed told n doing p none false t =
      let had : (i : ℕ) (link : Link) → (c : IsClosedFrom i p.links link)
      → StillLink told p i c.was Done =
      λ i link c.
      let within = get_within p.links i c.was c.at in
      let past = get_none p.links n none in
      subst (StillLink told p i c.was)
      (phase_past n i doing (omega (arith, within, past))) (t refl i c.was c.at) in
      record {
        idle = λ i link at going.
            let c = redundant_get p.links i link at in
            (had i link c).idle
            (closed_so is_going refl c.beaten c.was.stands
            (sym (ap (λ l. is_going l.stands) c.is) ∙ going));
        quiet = λ some i link at sent.
            let c = redundant_get p.links i link at in
            (had i link c).quiet
            (closed_so is_sent_to refl c.beaten c.was.stands
            (sym (ap (λ l. is_sent_to l.stands) c.is) ∙ sent));
      }

  still_works : (told : ℕ → LinkTold) (n : ℕ) (doing : Doing) (link : Link) (e : Event) (spot : Spot) (p : Place)
      → slice_get p.links n ≡ Some link → LinkStep clients n (terms.first + n) (spot_of doing link p) e spot
      → (p.moved ≡ false → InTurn told n doing p) → spot.moved ≡ false
      → InTurn (λ i. told_by i (told i) e) n spot.doing (with_spot n spot p)
  still_works told n doing link e spot p at steps t unmoved i other there =
      let from = spot_of doing link p in
      let q = with_spot n spot p in
      let now : ℕ → LinkTold = λ k. told_by k (told k) e in
      let st =
      still_step clients n (terms.first + n) p.still (told n) from spot e steps unmoved
      (λ was. subst (StillLink told p n link) (phase_here n doing) (t was n link at)) in
      elim (cases_eq i n) [
        | inl same ↦
            subst (λ k. (l : Link) → slice_get q.links k ≡ Some l
            → StillLink now q k l (phase n spot.doing k)) (sym same)
            (λ l at_n. subst₂ (IsStill clients spot.facts (terms.first + n) p.still (now n))
            (sym (phase_here n spot.doing))
            (get_same (get_set p.links n spot.link (get_within p.links n link at)) at_n) st.so) other there
        | inr apart ↦
            let same =
            spared_told i (told i) e (link_spares clients n (terms.first + n) i from spot e apart steps) in
            subst₂ (λ f x. IsStill clients f (terms.first + i) p.still x (phase n spot.doing i) other)
            (sym st.facts) (sym same)
            (subst (StillLink told p i other) (phase_other n i doing spot.doing apart)
            (t st.unmoved i other (sym (get_other p.links n i spot.link apart) ∙ there)))
      ]

  -- ---- the steps of the run

  abbrev KeepsAt : (ℕ → LinkTold) → Stage → Place → Type 0
  KeepsAt told stage p =
      PlaceKeeps clients (λ i. (told i).reading) stage p.facts × IsStillAt told stage p

  step_keeps : (told : ℕ → LinkTold) (p q : Place) (e : Event)
      → RunStep clients terms p e q → KeepsAt told p.stage p
      → KeepsAt (λ i. told_by i (told i) e) q.stage q
  step_keeps told p q e t =
      run_by_cases clients terms p
      (λ stage x r. KeepsAt told stage p
      → KeepsAt (λ i. told_by i (told i) x) r.stage r) (record {
        settles = λ left b settling k. (tt, k.1);
        settled = λ left settled k. (settled, k.1);
        begins = λ x left allowed k.
            (settled_stays clients p.facts (entry.Session x ∷ []) refl k.0, k.1);
        greets = λ x left k. k;
        breaks = λ x left k. k;
        all_begun = λ k. (
          k.0,
          record {
            idle = λ i link at going. omega (arith, k.1);
            quiet = λ some i link at sent. absurd (omega (arith, k.1, some));
          },
        );
        ends = λ over k. (k.0, record { idle = k.1.idle; quiet = k.1.quiet });
        turns = λ on k. (
          (k.0, tt),
          λ unmoved i link at.
              subst (StillLink told p i link) (sym (phase_first i))
              (k.1.idle i link at),
        );
        works = λ n doing link x spot at steps k. (
          link_keeps clients n (terms.first + n) (told n).reading (spot_of doing link p) spot x steps k.0,
          λ unmoved. still_works told n doing link x spot p at steps k.1 unmoved,
        );
        goes_on = λ n link at k. (
          (k.0.0, tt),
          λ unmoved i other there.
              subst (StillLink told p i other) (phase_next n i)
              (k.1 unmoved i other there),
        );
        turn_ends = λ n none k. (k.0.0, still_closed told n Asks p none p.moved k.1);
      }) q e t

  path_keeps_still : (told : ℕ → LinkTold) (p q : Place) (es : List Event)
      → Path (RunStep clients terms) p es q → KeepsAt told p.stage p
      → KeepsAt (λ i. told_after i (told i) es) q.stage q
  path_keeps_still told p q [] path k =
      subst (λ x. KeepsAt told x.stage x) (sym path) k
  path_keeps_still told p q (e ∷ es) path k =
      path_keeps_still (λ i. told_by i (told i) e) path.0 q es
      path.2 (step_keeps told p path.0 e path.1 k)

  -- behind events from the first place on
  pub run_keeps : (sessions : List Session) (f : Facts) (q : Place) (es : List Event)
      → Path (RunStep clients terms) (first_place sessions f) es q
      → KeepsAt (λ i. told_after i nothing_told es) q.stage q
  run_keeps sessions f q es path =
      path_keeps_still (λ i. nothing_told) (first_place sessions f) q es path (tt, refl)

-- ---- outputs

-- a link that is in hand sends at the last reading
in_hand : (clients : Meaning) (readings : ℕ → Option ℕ) (stage : Stage) (f : Facts) (n : ℕ)
    (doing : Doing) → hold_at stage ≡ Holds n doing → PlaceKeeps clients readings stage f
    → IsRead (readings n) doing
in_hand clients readings (Works m does) f n doing is k =
    let number : m ≡ n = cc in
    let same : does ≡ doing = cc in
    subst (λ i. IsRead (readings i) doing) number
    (subst (λ d. IsRead (readings m) d) same k.1)
in_hand clients readings _ f n doing is k = cc

-- the output that an event commits, if it commits one, is due
abbrev pub OutDue : Meaning → ℕ → (ℕ → Option ℕ) → Facts → Event → Type 0
OutDue clients first readings f (Commit (entry.Out session now what ∷ rest)) =
    IsDueAt clients first readings f session now what
OutDue clients first readings f _ = Unit {0}

module _ (clients : Meaning) (first : ℕ) (readings : ℕ → Option ℕ) (f : Facts) where
  none_due : (e : Event) → batches_of (e ∷ []) ≡ [] → OutDue clients first readings f e
  none_due (Commit b) none = cc
  none_due _ none = tt

  settling_due : (b : List Entry) → IsSettlingBatch clients f b
      → OutDue clients first readings f (Commit b)
  settling_due (entry.Out session now what ∷ rest) settling =
      absurd (next_is_settling clients f (entry.Out session now what) settling.2.0)
  settling_due _ settling = tt

  plain_due : (b : List Entry) → IsPlain b → OutDue clients first readings f (Commit b)
  plain_due (entry.Out session now what ∷ rest) plain = absurd plain
  plain_due _ plain = tt

step_out : (clients : Meaning) (terms : Terms) (readings : ℕ → Option ℕ) (p q : Place) (e : Event)
    → RunStep clients terms p e q → PlaceKeeps clients readings p.stage p.facts
    → OutDue clients terms.first readings p.facts e
step_out clients terms readings p q e t k =
    free_batches clients terms.first (forget p)
    (λ x g. OutDue clients terms.first readings p.facts x) (record {
      none = λ x none. none_due clients terms.first readings p.facts x none;
      settles = λ b settling. settling_due clients terms.first readings p.facts b settling;
      adds = λ b rests plain allowed. plain_due clients terms.first readings p.facts b plain;
      begins = λ x rests allowed. tt;
      takes = λ n place r its link holds at allowed. tt;
      puts = λ n now room what link holds at is_due allowed. record {
        link = n;
        on = refl;
        read = in_hand clients readings p.stage p.facts n (Sends now (suc room)) holds k;
        is_due = is_due;
      };
    }) (forget q) e (step_is_free clients terms p q e t)

pub out_is_due : (clients : Meaning) (terms : Terms) (sessions : List Session) (f : Facts)
    (before behind : List Event) (session now : ℕ) (what : Out) (to : Place)
    → Path (RunStep clients terms) (first_place sessions f)
    (before ++ Commit (out_batch session now what) ∷ behind) to
    → OutIsDue clients terms (first_place sessions f) before session now what
out_is_due clients terms sessions f before behind session now what to path =
    let parts =
    path_parts (RunStep clients terms) (first_place sessions f) to before
    (Commit (out_batch session now what) ∷ behind) path in
    record {
      at = parts.0;
      leads = parts.1;
      is_due =
          step_out clients terms (λ i. last_reading i before) parts.0 parts.2.0
          (Commit (out_batch session now what)) parts.2.1
          (run_keeps clients terms sessions f parts.0 before parts.1).0;
    }

-- ---- a run that is over

going_there : (links : List Link) (i : ℕ) (link : Link) → slice_get links i ≡ Some link → is_going link.stands ≡ true → some_going links ≡ true
going_there [] i link at going = cc
going_there (x ∷ links) zero link at going =
    let same : x ≡ link = cc in
    or_left (is_going x.stands) (some_going links) (ap (λ l. is_going l.stands) same ∙ going)
going_there (x ∷ links) (suc i) link at going = or_right (is_going x.stands) (some_going links) (going_there links i link at going)

-- where a link is asked yet, a run that is over had its quiet turns
had_quiet : (some_is enough : Bool) → (not some_is || enough) ≡ true → some_is ≡ true → enough ≡ true
had_quiet true enough over is = over
had_quiet false enough over is = absurd (false≢true is)

all_counted : (f : Facts) (session : ℕ) (link : Link) → keeps_all link.stands ≡ true → IsCounted f session [] link → AreRecordsTaken f session link
unfolding records_of
all_counted f session link keeps c =
    let whole : records link.heard ≡ c.done = c.parts ∙ ap (λ l. c.done ++ l) (c.whole keeps) ∙ append-nil c.done in
    c.count ∙ ap length (sym whole)

pub course_ends_quiet : StreamsGoOn → RecordsJoin → (clients : Meaning) (terms : Terms) (sessions : List Session) (j : List (List Entry)) (events : List Event) (last : Place)
    → Legal clients j → Course clients terms sessions (facts j) events last
    → is_over terms.quiet last ≡ true → EndsQuiet clients terms events last
course_ends_quiet go_on join clients terms sessions j events last legal course over =
    let keeps = run_keeps clients terms sessions (facts j) last events course.path in
    let settled : IsSettled clients last.facts =
    subst (λ st. PlaceKeeps clients (λ i. last_reading i events) st last.facts) course.at_end keeps.0 in
    let told : ℕ → LinkTold = λ i. told_after i nothing_told events in
    let still : BetweenTurns clients terms told last =
    subst (λ st. IsStillAt clients terms told st last) course.at_end keeps.1 in
    let counted = run_counted go_on join clients terms sessions j events last legal
    (record { numbered = course.numbered; path = course.path }) in
    let parts = and_parts (nat_lt 0 last.still) (not (some_going last.links) || nat_le terms.quiet last.still) over in
    let some : 0 < last.still = ltb-true 0 last.still parts.0 in
    record {
      settled = settled;
      idle = λ i link at going.
          let quiet : terms.quiet ≤ last.still =
          leb-true terms.quiet last.still
          (had_quiet (some_going last.links) (nat_le terms.quiet last.still) parts.1 (going_there last.links i link at going)) in
          let idles = still.idle i link at going in
          omega (arith, quiet, idles);
      nothing_due = still.quiet some;
      all_taken = λ i link at keeps.
          all_counted last.facts (terms.first + i) link keeps
          (subst (λ its. IsCounted last.facts (terms.first + i) its link)
          (ap (λ st. pending_at st i) course.at_end) (counted i link at));
    }
