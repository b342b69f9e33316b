-- The bytes heard on each link of a node grow by those of the answers that its events have; and so do those that are told.
use Rattle.std.proofs.Common.{◌≡◌, ℕ, zero, suc, ◌+◌, ◌<◌, ◌≤◌, cond, nat_eq, List, [], ◌∷◌, ◌++◌, length, append-nil, append_assoc, refl, sym, ◌∙◌, ap, subst, inl, inr, arith}
use Rattle.std.specs.Prelude.{slice_get, slice_index_or}
use Rattle.std.proofs.lemmas.List.{get_or_past}
use Rattle.std.proofs.lemmas.Bool.{cases_eq, ne_eqb}
use Rattle.std.proofs.lemmas.Grind.{flat_map-append}
use Rattle.outside.specs.Links.{HeardOn, Reply, changed_at, ended, got, hear_failure, hear_reply, idle, nothing_heard}
use Rattle.outside.specs.Runs.{heard_bytes, reply_bytes}
use Rattle.outside.proofs.RunLaws.{changed_at_other, changed_at_same}
use Rattle.sync_rules.specs.Clients.{Meaning}
use Rattle.sync_course.specs.declared.TheConstants.{PIECE_LEN}
use Rattle.sync_course.specs.Events.{Event, Hear, Miss, heard_after, heard_by}
use Rattle.sync_course.specs.Free.{Free, FreeStep, spot_in}
use Rattle.sync_course.specs.LinkTurns.{LinkStep, Spot}
use Rattle.sync_course.specs.Paths.{Path}
use Rattle.sync_course.specs.Story.{heard_at}
use Rattle.sync_course.specs.Suits.{heard_in}
use Rattle.sync_course.proofs.FreeSteps.{Closed, Joined, Kept, LinkGoes, Stepped, free_link}
use Rattle.sync_course.proofs.LinkSteps.{Spares, link_by_cases}
use Rattle.sync_course.proofs.LiftLaws.{get_past}
use Rattle.sync_course.proofs.RunLaws.{cond_same, cond_self}

-- the bytes that an event brings on a link, and those of several
abbrev pub bytes_by : ℕ → Event → List ℕ
bytes_by i (Hear n reply) = cond (nat_eq n i) (reply_bytes reply) []
bytes_by i _ = []

abbrev pub bytes_of : ℕ → List Event → List ℕ
bytes_of i [] = []
bytes_of i (e ∷ es) = bytes_by i e ++ bytes_of i es

-- ---- the steps

none_more : (a b : List ℕ) → a ≡ b → a ≡ b ++ []
none_more a b same = same ∙ sym (append-nil b)

-- on another link an event brings nothing
spared_bytes : (i : ℕ) (e : Event) → Spares i e → bytes_by i e ≡ []
spared_bytes i (Hear on reply) apart =
    ap (λ b. cond b (reply_bytes reply) []) (ne_eqb on i apart)
spared_bytes i _ spares = refl

-- on its own link a step adds what its event brings
link_adds : (clients : Meaning) (n session : ℕ) (p q : Spot) (e : Event)
    → LinkStep clients n session p e q → q.link.heard ≡ p.link.heard ++ bytes_by n e
link_adds clients n session p q e s =
    let none : p.link.heard ≡ p.link.heard ++ [] = sym (append-nil p.link.heard) in
    let replied : (reply : Reply) → p.link.heard ++ reply_bytes reply
    ≡ p.link.heard ++ bytes_by n (Hear n reply) =
    λ reply. ap (λ l. p.link.heard ++ l) (sym (cond_self n [])) in
    link_by_cases clients n session p
    (λ doing x r. r.link.heard ≡ p.link.heard ++ bytes_by n x)
    (record {
      hears = λ bytes going. replied (got bytes);
      idles = λ going. none ∙ replied idle;
      ends = λ going. none ∙ replied ended;
      misses = λ going. none;
      unasked = λ is. none;
      settles = λ its b settling. none;
      takes = λ place r its allowed. none;
      skips = λ place type_byte len its. none;
      all_taken = λ settled. none;
      reads = λ now is_open. none;
      closed = λ is. none;
      puts = λ now room what is_due allowed. none;
      enough = λ now room is. none;
      put = λ now room. none;
      breaks = λ now room. none;
    }) q e s

module _ (clients : Meaning) (first : ℕ) where
  -- each step adds on each link what its event brings
  stays_heard : (e : Event) (p q : Free) (i : ℕ) → Spares i e → heard_at q i ≡ heard_at p i
      → heard_at q i ≡ heard_at p i ++ bytes_by i e
  stays_heard e p q i spares same =
      none_more (heard_at q i) (heard_at p i) same
      ∙ ap (λ l. heard_at p i ++ l) (sym (spared_bytes i e spares))

  goes_add : (e : Event) (p q : Free) (i : ℕ) → LinkGoes clients first e p q i
      → heard_at q i ≡ heard_at p i ++ bytes_by i e
  goes_add e p q i (Kept k) = stays_heard e p q i k.spares (ap heard_in k.same)
  goes_add e p q i (Closed c) =
      stays_heard e p q i c.spares (ap heard_in c.now ∙ sym (ap heard_in c.at))
  goes_add e p q i (Joined j) =
      let none : heard_at p i ≡ [] =
      ap heard_in (ap (slice_get p.links) j.is_next ∙ get_past p.links) in
      let nothing : bytes_by i e ≡ [] =
      elim j.way [ inl passes ↦ ap (bytes_by i) passes.0 | inr broke ↦ ap (bytes_by i) broke.0 ] in
      none_more (heard_at q i) (heard_at p i) (ap heard_in j.now ∙ sym none)
      ∙ ap (λ l. heard_at p i ++ l) (sym nothing)
  goes_add e p q i (Stepped t) =
      ap heard_in t.now
      ∙ link_adds clients i (first + i) (spot_in t.doing t.link t.moved p) t.spot e t.steps
      ∙ ap (λ o. heard_in o ++ bytes_by i e) (sym t.at)

  -- so does a path
  pub free_path_adds : (es : List Event) (p q : Free) (i : ℕ) → Path (FreeStep clients first) p es q → heard_at q i ≡ heard_at p i ++ bytes_of i es
  free_path_adds [] p q i path = none_more (heard_at q i) (heard_at p i) (ap (λ x. heard_at x i) path)
  free_path_adds (e ∷ es) p q i path =
      free_path_adds es path.0 q i path.2
      ∙ ap (λ l. l ++ bytes_of i es) (goes_add e p path.0 i (free_link clients first p path.0 e i path.1))
      ∙ append_assoc (heard_at p i) (bytes_by i e) (bytes_of i es)

-- ---- what is told

-- what one answer adds to the bytes of a link's answers
replied : (h : HeardOn) (room : ℕ) (reply : Reply) → heard_bytes (hear_reply room reply h).answers ≡ heard_bytes h.answers ++ reply_bytes reply
replied h room reply =
    flat_map-append (λ a. reply_bytes a.reply) h.answers (record { failures = h.failures; room = room; reply = reply } ∷ [])
    ∙ ap (λ l. heard_bytes h.answers ++ l) (append-nil (reply_bytes reply))

-- the bytes that are told to be heard on a link
abbrev pub at_of : List HeardOn → ℕ → List ℕ
at_of h i = heard_bytes (slice_index_or h i nothing_heard).answers

length_changed : (n : ℕ) (f : HeardOn → HeardOn) (h : List HeardOn) → length (changed_at n f h) ≡ length h
length_changed n f [] = refl
length_changed zero f (x ∷ h) = refl
length_changed (suc n) f (x ∷ h) = ap suc (length_changed n f h)

length_heard : (e : Event) (h : List HeardOn) → length (heard_by e h) ≡ length h
length_heard (Hear n reply) h = length_changed n (hear_reply PIECE_LEN reply) h
length_heard (Miss n) h = length_changed n hear_failure h
length_heard _ h = refl

-- the answers of one link change by these bytes
changed_bytes : (n : ℕ) (f : HeardOn → HeardOn) (more : List ℕ) (h : List HeardOn) (i : ℕ)
    → i < length h
    → ((x : HeardOn) → heard_bytes (f x).answers ≡ heard_bytes x.answers ++ more)
    → at_of (changed_at n f h) i ≡ at_of h i ++ cond (nat_eq n i) more []
changed_bytes n f more h i within adds =
    elim (cases_eq i n) [
      | inl same ↦
          subst (λ k. at_of (changed_at k f h) i ≡ at_of h i ++ cond (nat_eq k i) more []) same
          (ap (λ x. heard_bytes x.answers) (changed_at_same i f h nothing_heard within)
          ∙ adds (slice_index_or h i nothing_heard)
          ∙ ap (λ l. at_of h i ++ l) (sym (cond_self i [])))
      | inr apart ↦
          none_more _ _
          (ap (λ x. heard_bytes x.answers) (changed_at_other n f h i nothing_heard apart))
          ∙ ap (λ b. at_of h i ++ cond b more []) (sym (ne_eqb n i (λ same. apart (sym same))))
    ]

event_tells : (e : Event) (h : List HeardOn) (i : ℕ) → i < length h → at_of (heard_by e h) i ≡ at_of h i ++ bytes_by i e
event_tells (Hear n reply) h i within =
    changed_bytes n (hear_reply PIECE_LEN reply) (reply_bytes reply) h i within
    (λ x. replied x PIECE_LEN reply)
event_tells (Miss n) h i within =
    changed_bytes n hear_failure [] h i within (λ x. sym (append-nil (heard_bytes x.answers)))
    ∙ ap (λ l. at_of h i ++ l) (cond_same (nat_eq n i) [])
event_tells _ h i within = sym (append-nil (at_of h i))

pub events_tell : (es : List Event) (h : List HeardOn) (i : ℕ) → i < length h → at_of (heard_after es h) i ≡ at_of h i ++ bytes_of i es
events_tell [] h i within = sym (append-nil (at_of h i))
events_tell (e ∷ es) h i within =
    events_tell es (heard_by e h) i (omega (arith, within, length_heard e h))
    ∙ ap (λ l. l ++ bytes_of i es) (event_tells e h i within)
    ∙ append_assoc (at_of h i) (bytes_by i e) (bytes_of i es)

length_after : (es : List Event) (h : List HeardOn) → length (heard_after es h) ≡ length h
length_after [] h = refl
length_after (e ∷ es) h = length_after es (heard_by e h) ∙ length_heard e h

-- of a link that is not told of nothing is heard
pub none_tell : (es : List Event) (h : List HeardOn) (i : ℕ) → length h ≤ i → at_of (heard_after es h) i ≡ []
none_tell es h i past =
    ap (λ x. heard_bytes x.answers)
    (get_or_past (heard_after es h) i nothing_heard (omega (arith, past, length_after es h)))
