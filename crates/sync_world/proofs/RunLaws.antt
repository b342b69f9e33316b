-- A device that runs, as a step of a world.
use Rattle.std.proofs.Common.{◌≡◌, ◌⊎◌, ℕ, zero, suc, ◌<◌, ◌==◌, ◌&&◌, ◌||◌, Bool, true, false}
use Rattle.std.proofs.Common.{if◌then◌else◌, List, [], ◌∷◌, ◌++◌, map, length, refl, sym, ◌∙◌, ap}
use Rattle.std.proofs.Common.{subst, inl, inr, arith, eq-eqb, eqb-true, Option, Some, None}
use Rattle.std.proofs.Common.{append-nil}
use Rattle.std.specs.Prelude.{nat_eq, slice_set}
use Rattle.std.proofs.lemmas.Bool.{and_from, and_parts, false≢true}
use Rattle.sync_ids.specs.declared.records.Record.{Record}
use Rattle.sync_rules.specs.Clients.{Meaning}
use Rattle.sync_rules.specs.Lists.{In}
use Rattle.sync_rules.proofs.Elements.{In-append_cases, In-append_left, In-append_right}
use Rattle.sync_rules.specs.Facts.{Journal, facts}
use Rattle.sync_rules.specs.Legal.{GoesOn}
use Rattle.sync_rules.specs.Output.{sent}
use Rattle.world_laws.specs.Worlds.{AllHeard, End, HasNoBrief, HasSession}
use Rattle.world_laws.specs.Worlds.{WorldLink as RecordLink, RunsDevice, WasGiven, WayRuns, WaysRun}
use Rattle.world_laws.specs.Worlds.{World, contact_for, journal_at, journal_in, link_in, way_in}
use Rattle.world_laws.specs.Worlds.{way_of}
use Rattle.sync_world.specs.Shown.{BeginsAt, EndRuns, IsGivenAt, RunsLinkOfDevice, LinksRun}
use Rattle.sync_world.specs.Shown.{MovesTo, ReachesWorld, emptied, emptied_end, given_on, heard_by}
use Rattle.sync_world.specs.Shown.{is_session, left_link, world_of}
use Rattle.sync_world.proofs.ReachLaws.{reaches_one}

-- ---- ends

pub end_same : (d : ℕ) (j : Journal) (other : ℕ) (x : End) → EndRuns d j other x x
end_same d j other x =
    record { device = refl; given = refl; session = inl refl; flight = λ r inside. inl inside }

pub end_emptied : (d : ℕ) (j : Journal) (other : ℕ) (x : End) → EndRuns d j other x (emptied_end x)
end_emptied d j other x =
    record { device = refl; given = refl; session = inl refl; flight = λ r inside. absurd inside }

pub end_sends : (d : ℕ) (j : Journal) (other number : ℕ) (more : List Record) (x : End)
    → x.device ≡ d → x.session ≡ Some number
    → ((r : Record) → In r more → In r (sent j number))
    → EndRuns d j other x (record x { flight = x.flight ++ more })
end_sends d j other number more x own on inside = record {
  device = refl;
  given = refl;
  session = inl refl;
  flight = λ r among.
      elim (In-append_cases r x.flight more among) [
        | inl was ↦ inl was
        | inr new ↦ inr (record {
          own = own;
          is = record { number = number; on = on; inside = inside r new };
        })
      ];
}

pub end_begins : (d : ℕ) (j : Journal) (other number : ℕ) (more : List Record) (x : End)
    → x.device ≡ d → x.session ≡ None
    → HasSession j number (contact_for d other) → ((r : Record) → In r more → In r (sent j number))
    → EndRuns d j other x (record x { session = Some number; flight = x.flight ++ more })
end_begins d j other number more x own fresh known inside = record {
  device = refl;
  given = refl;
  session = inr (record { own = own; fresh = fresh; number = number; begun = refl; known = known });
  flight = λ r among.
      elim (In-append_cases r x.flight more among) [
        | inl was ↦ inl was
        | inr new ↦ inr (record {
          own = own;
          is = record { number = number; on = refl; inside = inside r new };
        })
      ];
}

-- ---- links

pub link_same : (d : ℕ) (j : Journal) (x : RecordLink) → RunsLinkOfDevice d j x x
link_same d j x =
    record { near = end_same d j x.far.device x.near; far = end_same d j x.near.device x.far }

pub link_near : (d : ℕ) (j : Journal) (x : RecordLink) (near : End)
    → EndRuns d j x.far.device x.near near
    → RunsLinkOfDevice d j x (record { near = near; far = x.far })
link_near d j x near runs = record { near = runs; far = end_same d j x.near.device x.far }

pub link_far : (d : ℕ) (j : Journal) (x : RecordLink) (far : End)
    → EndRuns d j x.near.device x.far far
    → RunsLinkOfDevice d j x (record { near = x.near; far = far })
link_far d j x far runs = record { near = end_same d j x.far.device x.near; far = runs }

begins_emptied : (d : ℕ) (j : Journal) (other : ℕ) (x y : End) → (y.session ≡ x.session)
    ⊎ BeginsAt d j other x y
    → (y.session ≡ x.session) ⊎ BeginsAt d j other x (emptied_end y)
begins_emptied d j other x y (inl same) = inl same
begins_emptied d j other x y (inr b) =
    inr (record {
      own = b.own;
      fresh = b.fresh;
      number = b.number;
      begun = b.begun;
      known = b.known;
    })

runs_emptied : (d : ℕ) (j : Journal) (other : ℕ) (x y : End) → EndRuns d j other x y
    → EndRuns d j other x (emptied_end y)
runs_emptied d j other x y runs = record {
  device = runs.device;
  given = runs.given;
  session = begins_emptied d j other x y runs.session;
  flight = λ r inside. absurd inside;
}

-- and is cut then
pub link_emptied : (d : ℕ) (j : Journal) (x y : RecordLink) → RunsLinkOfDevice d j x y
    → RunsLinkOfDevice d j x (emptied y)
link_emptied d j x y runs =
    record {
      near = runs_emptied d j x.far.device x.near y.near runs.near;
      far = runs_emptied d j x.near.device x.far y.far runs.far;
    }

link_if : (d : ℕ) (j : Journal) (x : RecordLink) (b : Bool) → RunsLinkOfDevice d j x
    (if b then emptied x else x)
link_if d j x true = link_emptied d j x x (link_same d j x)
link_if d j x false = link_same d j x

pub link_left : (d : ℕ) (j : Journal) (x : RecordLink) → RunsLinkOfDevice d j x (left_link d x)
link_left d j x = link_if d j x ((x.near.device == d) || (x.far.device == d))

way_of_ends : (d : ℕ) (j : Journal) (a b a' b' : End) → EndRuns d j b.device a a'
    → EndRuns d j a.device b b'
    → WayRuns d j (record { sender = a; receiver = b }) (record { sender = a'; receiver = b' })
way_of_ends d j a b a' b' sends hears = record {
  sender = sends.device;
  receiver = hears.device;
  session = elim sends.session [
    | inl same ↦ inl same
    | inr begins ↦ inr (record {
      own = begins.own;
      fresh = begins.fresh;
      number = begins.number;
      begun = begins.begun;
      known = begins.known;
    })
  ];
  flight = λ r inside.
      elim (sends.flight r inside) [
        | inl was ↦ inl was
        | inr new ↦ inr (record { own = new.own; is = new.is })
      ];
  given = λ r inside. inl (subst (λ (rs : List Record). In r rs) hears.given inside);
}

pub way_runs : (d : ℕ) (j : Journal) (near : Bool) (x y : RecordLink) → RunsLinkOfDevice d j x y
    → WayRuns d j (way_of near x) (way_of near y)
way_runs d j true x y runs = way_of_ends d j x.near x.far y.near y.far runs.near runs.far
way_runs d j false x y runs = way_of_ends d j x.far x.near y.far y.near runs.far runs.near

-- ---- several links

pub links_same : (d : ℕ) (j : Journal) (xs : List RecordLink) → LinksRun d j xs xs
links_same d j [] = tt
links_same d j (x ∷ xs) = (link_same d j x, links_same d j xs)

pub links_set : (d : ℕ) (j : Journal) (i : ℕ) (xs : List RecordLink) (x y : RecordLink)
    → link_in xs i ≡ Some x → RunsLinkOfDevice d j x y → LinksRun d j xs (slice_set xs i y)
links_set d j i [] x y is runs = tt
links_set d j zero (z ∷ xs) x y is runs = let same : z ≡ x =
    cc in (subst (λ (k : RecordLink). RunsLinkOfDevice d j k y) (sym same) runs, links_same d j xs)
links_set d j (suc i) (z ∷ xs) x y is runs = (link_same d j z, links_set d j i xs x y is runs)

pub links_left : (d : ℕ) (j : Journal) (xs : List RecordLink) → LinksRun d j xs
    (map (left_link d) xs)
links_left d j [] = tt
links_left d j (x ∷ xs) = (link_left d j x, links_left d j xs)

pub ways_run : (d : ℕ) (j : Journal) (xs ys : List RecordLink) → LinksRun d j xs ys
    → (i : ℕ) (near : Bool)
    → WaysRun d j (way_in near (link_in xs i)) (way_in near (link_in ys i))
ways_run d j [] [] runs i near = tt
ways_run d j [] (y ∷ ys) runs i near = absurd runs
ways_run d j (x ∷ xs) [] runs i near = absurd runs
ways_run d j (x ∷ xs) (y ∷ ys) runs zero near = way_runs d j near x y runs.0
ways_run d j (x ∷ xs) (y ∷ ys) runs (suc i) near = ways_run d j xs ys runs.1 i near

-- ---- what was heard

record IsGivenOn (d session : ℕ) (x : End) (r : Record) : Type 0 where
  own : x.device ≡ d
  on : x.session ≡ Some session
  inside : In r x.given

session_is : (o : Option ℕ) (session : ℕ) → is_session o session ≡ true → o ≡ Some session
session_is None session is = absurd (false≢true is)
session_is (Some number) session is = ap (λ (k : ℕ). Some k) (eqb-true number session is)

is_given : (d session : ℕ) (x : End) (r : Record) → In r (given_on d session x)
    → IsGivenOn d session x r
is_given d session x r inside =
    elim (nat_eq x.device d && is_session x.session session) as (λ b.
    (nat_eq x.device d && is_session x.session session) ≡ b → In r (if b then x.given else [])
    → IsGivenOn d session x r) [
      | true ↦ λ both among.
          let parts = and_parts (nat_eq x.device d) (is_session x.session session) both in
          record {
            own = eqb-true x.device d parts.0;
            on = session_is x.session session parts.1;
            inside = among;
          }
      | false ↦ λ both among. absurd among
    ] refl inside

given_is : (d session : ℕ) (x : End) (r : Record) → IsGivenOn d session x r
    → In r (given_on d session x)
given_is d session x r given =
    let own : nat_eq x.device d ≡ true = ap (λ (k : ℕ). nat_eq k d) given.own ∙ eq-eqb d d refl in
    let on : is_session x.session session ≡ true =
    ap (λ (o : Option ℕ). is_session o session) given.on ∙ eq-eqb session session refl in
    let both : (nat_eq x.device d && is_session x.session session) ≡ true =
    and_from (nat_eq x.device d) (is_session x.session session) own on in
    subst (λ (b : Bool). In r (if b then x.given else [])) (sym both) given.inside

-- the same behind one more link
given_later : (d session : ℕ) (x : RecordLink) (xs : List RecordLink) (r : Record)
    → IsGivenAt d session xs r → IsGivenAt d session (x ∷ xs) r
given_later d session x xs r given = record {
  number = suc given.number;
  near = given.near;
  link = given.link;
  stands = given.stands;
  own = given.own;
  on = given.on;
  inside = given.inside;
}

-- what is heard by the ends of a device was given to one of them
pub heard_given : (d session : ℕ) (xs : List RecordLink) (r : Record) → In r (heard_by d xs session)
    → IsGivenAt d session xs r
heard_given d session [] r inside = absurd inside
heard_given d session (x ∷ xs) r inside =
    elim (In-append_cases r (given_on d session x.near) (given_on d session x.far
    ++ heard_by d xs session) inside) [
      | inl near ↦
          let given = is_given d session x.near r near in
          record {
            number = zero;
            near = false;
            link = x;
            stands = refl;
            own = given.own;
            on = given.on;
            inside = given.inside;
          }
      | inr behind ↦
          elim (In-append_cases r (given_on d session x.far) (heard_by d xs session) behind) [
            | inl far ↦
                let given = is_given d session x.far r far in
                record {
                  number = zero;
                  near = true;
                  link = x;
                  stands = refl;
                  own = given.own;
                  on = given.on;
                  inside = given.inside;
                }
            | inr later ↦ given_later d session x xs r (heard_given d session xs r later)
          ]
    ]

heard_one : (d session : ℕ) (near : Bool) (x : RecordLink) (xs : List RecordLink) (r : Record)
    → IsGivenOn d session (way_of near x).receiver r
    → In r (heard_by d (x ∷ xs) session)
heard_one d session true x xs r given =
    In-append_right r (given_on d session x.near) (given_on d session x.far
    ++ heard_by d xs session)
    (In-append_left r (given_on d session x.far) (heard_by d xs session)
    (given_is d session x.far r given))
heard_one d session false x xs r given =
    In-append_left r (given_on d session x.near) (given_on d session x.far ++ heard_by d xs session)
    (given_is d session x.near r given)

heard_at : (d session : ℕ) (i : ℕ) (near : Bool) (xs : List RecordLink) (x : RecordLink)
    (r : Record) → link_in xs i ≡ Some x
    → IsGivenOn d session (way_of near x).receiver r → In r (heard_by d xs session)
heard_at d session i near [] x r is given = cc
heard_at d session zero near (y ∷ xs) x r is given =
    let same : x ≡ y = cc in
    heard_one d session near y xs r
    (subst (λ (k : RecordLink). IsGivenOn d session (way_of near k).receiver r) same given)
heard_at d session (suc i) near (y ∷ xs) x r is given =
    In-append_right r (given_on d session y.near) (given_on d session y.far
    ++ heard_by d xs session)
    (In-append_right r (given_on d session y.far) (heard_by d xs session)
    (heard_at d session i near xs x r is given))

-- and what one of them was given is heard
pub given_heard : (d session : ℕ) (xs : List RecordLink) (r : Record) → IsGivenAt d session xs r
    → In r (heard_by d xs session)
given_heard d session xs r given =
    heard_at d session given.number given.near xs given.link r given.stands
    (record { own = given.own; on = given.on; inside = given.inside })

pub was_given : (w : World) (d session : ℕ) (r : Record) → IsGivenAt d session w.links r
    → WasGiven w d session r
was_given w d session r given = record {
  link = given.number;
  near = given.near;
  way = way_of given.near given.link;
  stands = ap (way_in given.near) given.stands;
  own = given.own;
  on = given.on;
  inside = given.inside;
}

-- ---- journals

pub journal_set_own : (js : List Journal) (d : ℕ) (j : Journal) → d < length js → journal_in
    (slice_set js d j) d ≡ j
journal_set_own [] d j within = absurd (omega arith)
journal_set_own (k ∷ js) zero j within = refl
journal_set_own (k ∷ js) (suc d) j within = journal_set_own js d j (omega (arith, within))

pub journal_set_other : (js : List Journal) (d : ℕ) (j : Journal) (e : ℕ) → (e ≡ d → ⊥) → journal_in
    (slice_set js d j) e ≡ journal_in js e
journal_set_other [] d j e other = refl
journal_set_other (k ∷ js) zero j zero other = absurd (other refl)
journal_set_other (k ∷ js) zero j (suc e) other = refl
journal_set_other (k ∷ js) (suc d) j zero other = refl
journal_set_other (k ∷ js) (suc d) j (suc e) other =
    journal_set_other js d j e (λ same. other (ap suc same))

-- ---- the step

pub device_runs : (clients : Meaning) (d : ℕ) (old new : World) (more : Journal)
    (heard : ℕ → List Record) → journal_at new d ≡ journal_at old d ++ more
    → GoesOn clients (facts (journal_at old d)) more → HasNoBrief more
    → ((e : ℕ) → (e ≡ d → ⊥) → journal_at new e ≡ journal_at old e)
    → AllHeard heard (facts (journal_at old d)) more
    → ((session : ℕ) (r : Record) → In r (heard session) → In r (heard_by d new.links session))
    → LinksRun d (journal_at new d) old.links new.links → RunsDevice clients d old new
device_runs clients d old new more heard goes_on allowed plain others all_heard given links =
    record {
      more = more;
      goes_on = goes_on;
      allowed = allowed;
      plain = plain;
      others = others;
      heard = heard;
      all_heard = all_heard;
      was_given = λ session r inside.
          was_given new d session r (heard_given d session new.links r (given session r inside));
      ways = λ i near. ways_run d (journal_at new d) old.links new.links links i near;
    }

-- the journal of a device is set, and its links go on
pub run_reached : (clients : Meaning) (d : ℕ) (js : List Journal) (xs ys : List RecordLink)
    (j more : Journal) (heard : ℕ → List Record) → d < length js
    → j ≡ journal_in js d ++ more → GoesOn clients (facts (journal_in js d)) more → HasNoBrief more
    → AllHeard heard (facts (journal_in js d)) more
    → ((session : ℕ) (r : Record) → In r (heard session) → In r (heard_by d ys session))
    → LinksRun d j xs ys
    → ReachesWorld clients (world_of js xs) (world_of (slice_set js d j) ys)
run_reached clients d js xs ys j more heard within goes_on allowed plain all_heard given links =
    let own : journal_in (slice_set js d j) d ≡ j = journal_set_own js d j within in
    reaches_one clients (world_of js xs) (world_of (slice_set js d j) ys)
    (inl (
      d,
      device_runs clients d (world_of js xs) (world_of (slice_set js d j) ys) more heard (own
          ∙ goes_on) allowed plain (journal_set_other js d j) all_heard given
          (subst (λ (k : Journal). LinksRun d k xs ys) (sym own) links),
    ))

-- a device that starts anew with the journal that it had: it has no link any more
pub left_reached : (clients : Meaning) (d : ℕ) (js : List Journal) (xs : List RecordLink)
    → MovesTo clients (world_of js xs) (world_of js (map (left_link d) xs))
left_reached clients d js xs = record {
  reached = reaches_one clients (world_of js xs) (world_of js (map (left_link d) xs))
      (inl (
        d,
        device_runs clients d (world_of js xs) (world_of js (map (left_link d) xs)) [] (λ session.
            []) (sym (append-nil (journal_in js d))) tt refl (λ e other. refl) tt
            (λ session r inside. absurd inside) (links_left d (journal_in js d) xs),
      ));
  journals = refl;
}
