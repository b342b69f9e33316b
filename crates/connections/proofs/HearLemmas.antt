-- What a connection stands for as it hears.
use Rattle.std.proofs.Common.{◌≡◌, ◌==◌, ℕ, ◌-◌, ◌≤◌, zero, suc, List, [], ◌∷◌, ◌++◌, length, take, drop}
use Rattle.std.proofs.Common.{refl, sym, ap, ◌∙◌, subst, inl, inr, arith, append-nil, length-drop}
use Rattle.std.proofs.lemmas.List.{append_assoc, take-append-drop}
use Rattle.request_frames.specs.Laws.{KeepingGoesOn, ReadingMore, ReadingsAreWhole}
use Rattle.request_frames.specs.Laws.{ReadingsGoOn, TellsOne, ToldBy}
use Rattle.request_frames.specs.Reading.{Awaits, LeavesAt, end_at}
use Rattle.request_frames.specs.Requests.{Request, ending, requests}
use Rattle.request_frames.specs.declared.reader.Next.{Next}
use Rattle.request_frames.specs.declared.reader.Next.TheVariants as next
use Rattle.request_frames.specs.declared.reader.Stage.{Stage}
use Rattle.request_frames.specs.declared.reader.Stage.TheVariants as stage
use Rattle.node_service.specs.Ears.{EndsInFault}
use Rattle.node_service.specs.Lives.{fault_answer}
use Rattle.connections.specs.declared.connection.Standing.{Standing}
use Rattle.connections.specs.declared.connection.Standing.TheVariants as standing
use Rattle.connections.specs.Connections.{ConnectionValue}
use Rattle.connections.specs.Hearing.{AsksFor, AsksNext, ConnectionStands, FaultTold, HeardAll, HeardTo, HearsOn, HearsSome, TellsFault}

drop_all : (n : ℕ) (xs : List ℕ) → n ≡ length xs → drop n xs ≡ []
drop_all zero [] is = refl
drop_all zero (x ∷ xs) is = absurd (omega (arith, is))
drop_all (suc n) [] is = refl
drop_all (suc n) (x ∷ xs) is = drop_all n xs (omega (arith, is))

take_all : (n : ℕ) (xs : List ℕ) → length xs ≤ n → take n xs ≡ xs
take_all zero [] within = refl
take_all zero (x ∷ xs) within = absurd (omega arith)
take_all (suc n) [] within = refl
take_all (suc n) (x ∷ xs) within = ap (λ (r : List ℕ). x ∷ r) (take_all n xs (omega arith))

-- a part up to the end
pub range_rest : (at : ℕ) (xs : List ℕ) → take (length xs - at) (drop at xs) ≡ drop at xs
range_rest at xs = take_all (length xs - at) (drop at xs) (omega (arith, length-drop at xs))

-- ---- what is heard, by where it stands then

-- where it stands is known
pub hears_at : (old new : ConnectionValue) (s : Standing) → new.standing ≡ s
    → ((brought : List ℕ) (told : List Request) → ConnectionStands brought told old → HeardTo brought told new s)
    → HeardAll new s → TellsFault s old.waits new.waits → new.has_ended ≡ old.has_ended → new.watch ≡ old.watch
    → new.most_out ≡ old.most_out → HearsOn old new
hears_at old new s is hears all told has_ended watch most_out = record {
  hears = λ brought read stands.
      subst (λ (t : Standing). HeardTo brought read new t) (sym is) (hears brought read stands);
  all = subst (λ (t : Standing). HeardAll new t) (sym is) all;
  told = subst (λ (t : Standing). TellsFault t old.waits new.waits) (sym is) told;
  has_ended = has_ended;
  watch = watch;
  most_out = most_out;
}

-- ---- some of what was brought was heard

module _ (go : ReadingsGoOn) (old new : ConnectionValue) (n : Next) (heard : HearsSome old new n)
    (brought : List ℕ) (told : List Request) (s : ConnectionStands brought told old) where
  more : ReadingMore s.heard (take heard.used old.rest) told n new.reader
  more = go s.heard (take heard.used old.rest) told old.reader new.reader n s.has heard.reads

  stands_then : ConnectionStands brought (told ++ more.behind) new
  stands_then = record {
    heard = s.heard ++ take heard.used old.rest;
    has = more.has_read;
    read_is = s.read_is
        ∙ ap (λ (r : List ℕ). s.heard ++ r) (sym (take-append-drop heard.used old.rest))
        ∙ sym (append_assoc s.heard (take heard.used old.rest) (drop heard.used old.rest))
        ∙ ap (λ (r : List ℕ). (s.heard ++ take heard.used old.rest) ++ r) (sym heard.rest);
  }

  stands_quiet : more.behind ≡ [] → ConnectionStands brought told new
  stands_quiet none =
      subst (λ (t : List Request). ConnectionStands brought t new)
      (ap (λ (b : List Request). told ++ b) none ∙ append-nil told) stands_then

  pub heard_words : n ≡ next.Words → ConnectionStands brought told new
  heard_words is = stands_quiet (subst (λ (k : Next). ToldBy k more.behind new.reader) is more.tells)

  pub heard_more : n ≡ next.More → ConnectionStands brought told new
  heard_more is = stands_quiet (subst (λ (k : Next). ToldBy k more.behind new.reader) is more.tells)

  pub heard_request : n ≡ next.Whole → AsksNext brought told new
  heard_request is =
      let t : TellsOne more.behind new.reader =
      subst (λ (k : Next). ToldBy k more.behind new.reader) is more.tells in
      record {
        request = t.request;
        stands = subst (λ (b : List Request). ConnectionStands brought (told ++ b) new) t.alone stands_then;
        words = t.words;
        keeps = t.keeps;
      }

  pub heard_fault : ReadingsAreWhole → n ≡ next.Fault → EndsInFault brought told
  heard_fault whole is =
      let quiet = stands_quiet (subst (λ (k : Next). ToldBy k more.behind new.reader) is more.tells) in
      let left : (heard.used ≡ length old.rest) × (new.reader.at ≡ stage.Fault) =
      subst (λ (k : Next). LeavesAt k heard.used (length old.rest) new.reader) is heard.left in
      let none : new.rest ≡ [] = heard.rest ∙ drop_all heard.used old.rest left.0 in
      let all : brought ≡ quiet.heard =
      quiet.read_is ∙ ap (λ (r : List ℕ). quiet.heard ++ r) none ∙ append-nil quiet.heard in
      let at_fault = left.1 in
      let waits : Awaits new.reader = rw at_fault tt in
      let w = whole quiet.heard told new.reader quiet.has waits in (
        ap requests all ∙ w.0,
        ap ending all ∙ w.1 ∙ ap (λ (at : Stage). end_at at (length new.reader.front == 0)) left.1,
      )

-- ---- what a turn of hearing comes to

module _ (go : ReadingsGoOn) (old mid : ConnectionValue) where
  same_waits : (n : Next) → HearsSome old mid n → mid.waits ≡ old.waits
  same_waits n h = ap (λ (c : ConnectionValue). c.waits) h.same

  pub turn_whole : (time : ℕ) → HearsSome old mid next.Whole
      → HearsOn old (record mid { standing = standing.Asks time })
  turn_whole time h =
      hears_at old (record mid { standing = standing.Asks time }) (standing.Asks time) refl
      (λ brought told s.
      let a = heard_request go old mid next.Whole h brought told s refl in
      record { request = a.request; stands = a.stands; words = a.words; keeps = a.keeps })
      tt (same_waits next.Whole h)
      (ap (λ (c : ConnectionValue). c.has_ended) h.same) (ap (λ (c : ConnectionValue). c.watch) h.same)
      (ap (λ (c : ConnectionValue). c.most_out) h.same)

  pub turn_more : old.standing ≡ standing.Hears → HearsSome old mid next.More → HearsOn old mid
  turn_more hears h =
      hears_at old mid standing.Hears (ap (λ (c : ConnectionValue). c.standing) h.same ∙ hears)
      (λ brought told s. heard_more go old mid next.More h brought told s refl)
      (h.rest ∙ drop_all h.used old.rest h.left.0, h.left.1) (same_waits next.More h)
      (ap (λ (c : ConnectionValue). c.has_ended) h.same) (ap (λ (c : ConnectionValue). c.watch) h.same)
      (ap (λ (c : ConnectionValue). c.most_out) h.same)

  pub turn_fault : ReadingsAreWhole → (new : ConnectionValue) → HearsSome old mid next.Fault → FaultTold mid new
      → HearsOn old new
  turn_fault whole new h f =
      hears_at old new standing.Fault (ap (λ (c : ConnectionValue). c.standing) f.same)
      (λ brought told s. heard_fault go old mid next.Fault h brought told s whole refl)
      tt
      (elim f.waits [
        | inl is ↦ inl (is ∙ same_waits next.Fault h)
        | inr is ↦ inr (is ∙ ap (λ (w : List ℕ). w ++ fault_answer) (same_waits next.Fault h))
      ])
      (ap (λ (c : ConnectionValue). c.has_ended) f.same ∙ ap (λ (c : ConnectionValue). c.has_ended) h.same)
      (ap (λ (c : ConnectionValue). c.watch) f.same ∙ ap (λ (c : ConnectionValue). c.watch) h.same)
      (ap (λ (c : ConnectionValue). c.most_out) f.same ∙ ap (λ (c : ConnectionValue). c.most_out) h.same)

-- what was heard on from where it stood as before
pub hears_through : (old mid new : ConnectionValue)
    → ((brought : List ℕ) (told : List Request) → ConnectionStands brought told old → ConnectionStands brought told mid)
    → mid.waits ≡ old.waits → mid.has_ended ≡ old.has_ended → mid.watch ≡ old.watch → mid.most_out ≡ old.most_out
    → HearsOn mid new → HearsOn old new
hears_through old mid new goes waits has_ended watch most_out h = record {
  hears = λ brought told s. h.hears brought told (goes brought told s);
  all = h.all;
  told = subst (λ (w : List ℕ). TellsFault new.standing w new.waits) waits h.told;
  has_ended = h.has_ended ∙ has_ended;
  watch = h.watch ∙ watch;
  most_out = h.most_out ∙ most_out;
}

pub turn_words : ReadingsGoOn → (old mid new : ConnectionValue) → HearsSome old mid next.Words → HearsOn mid new
    → HearsOn old new
turn_words go old mid new h on =
    hears_through old mid new (λ brought told s. heard_words go old mid next.Words h brought told s refl)
    (ap (λ (c : ConnectionValue). c.waits) h.same) (ap (λ (c : ConnectionValue). c.has_ended) h.same)
    (ap (λ (c : ConnectionValue). c.watch) h.same) (ap (λ (c : ConnectionValue). c.most_out) h.same) on

-- it was said how much of the input is kept
pub turn_asked : KeepingGoesOn → (old mid new : ConnectionValue) → AsksFor (record old { standing = standing.Hears }) mid
    → HearsOn mid new → HearsOn old new
turn_asked keeping old mid new asks on =
    hears_through old mid new
    (λ brought told s. record {
      heard = s.heard;
      has = keeping s.heard told old.reader mid.reader asks.most s.has asks.keeps;
      read_is = s.read_is ∙ ap (λ (c : ConnectionValue). s.heard ++ c.rest) (sym asks.same);
    })
    (ap (λ (c : ConnectionValue). c.waits) asks.same) (ap (λ (c : ConnectionValue). c.has_ended) asks.same)
    (ap (λ (c : ConnectionValue). c.watch) asks.same) (ap (λ (c : ConnectionValue). c.most_out) asks.same) on

-- it waits before a long input
pub turn_waits : (old : ConnectionValue) (time : ℕ) → HearsOn old (record old { standing = standing.Waits time })
turn_waits old time =
    hears_at old (record old { standing = standing.Waits time }) (standing.Waits time) refl
    (λ brought told s. record { heard = s.heard; has = s.has; read_is = s.read_is })
    tt refl refl refl refl

-- ---- what is brought

pub brought_more : (brought bytes : List ℕ) (told : List Request) (c : ConnectionValue) → ConnectionStands brought told c
    → ConnectionStands (brought ++ bytes) told (record c { rest = c.rest ++ bytes })
brought_more brought bytes told c s = record {
  heard = s.heard;
  has = s.has;
  read_is = ap (λ (r : List ℕ). r ++ bytes) s.read_is ∙ append_assoc s.heard c.rest bytes;
}

pub all_told : ReadingsAreWhole → (brought : List ℕ) (told : List Request) (c : ConnectionValue)
    → ConnectionStands brought told c → c.rest ≡ [] → Awaits c.reader → requests brought ≡ told
all_told whole brought told c s none waits =
    ap requests (s.read_is ∙ ap (λ (r : List ℕ). s.heard ++ r) none ∙ append-nil s.heard)
    ∙ (whole s.heard told c.reader s.has waits).0
