-- What an ear stands for as it hears.
use Rattle.std.proofs.Common.{◌≡◌, ◌==◌, ℕ, zero, suc, ◌+◌, ◌-◌, ◌≤◌, List, [], ◌∷◌, ◌++◌, length}
use Rattle.std.proofs.Common.{take, drop, length-append, refl, sym, ap, ◌∙◌, subst, arith}
use Rattle.std.proofs.Common.{Option, Some, None, Ok, Err, append-nil, slice_range}
use Rattle.std.specs.Io.KnownBytes.{Consumes, Keeps}
use Rattle.std.proofs.lemmas.List.{append_assoc, drop-drop, take-append-drop}
use Rattle.outside.specs.Faults.{CountRose}
use Rattle.outside.specs.Streams.{Stream}
use Rattle.request_frames.specs.Laws.{HasRead, KeepingGoesOn, ReadingMore, ReadingsAreWhole}
use Rattle.request_frames.specs.Laws.{ReadingsGoOn, TellsOne, ToldBy}
use Rattle.request_frames.specs.Reading.{Awaits, LeavesAt, ReaderState}
use Rattle.request_frames.specs.Reading.{StandsFor, end_at}
use Rattle.request_frames.specs.Requests.{Request, ending, requests}
use Rattle.request_frames.specs.declared.reader.Ending.{Ending}
use Rattle.request_frames.specs.declared.reader.Next.{Next}
use Rattle.request_frames.specs.declared.reader.Next.TheVariants as next
use Rattle.request_frames.specs.declared.reader.Stage.{Stage}
use Rattle.request_frames.specs.declared.reader.Stage.TheVariants as stage
use Rattle.node_service.specs.declared.ear.Ear.{Ear}
use Rattle.node_service.specs.Ears.{AsksOn, EarStands, EndsInFault, HasTold, HearsSome}
use Rattle.node_service.specs.Ears.{StandsBehind}
use Rattle.node_service.specs.Ears.{CameBy, HearsOn, IsEar, ReadsPiece, TellsNext, rest_of}
use Rattle.outside.specs.declared.failed.Failed.{Failed}
use Rattle.node_service.specs.declared.ear.Came.{Came}
use Rattle.node_service.specs.declared.ear.Came.TheVariants as came
use Rattle.node_service.proofs.WordLemmas.{drop_past}

-- ---- the rest of a piece

none_taken : (n : ℕ) → take {A = ℕ} n [] ≡ []
none_taken zero = refl
none_taken (suc n) = refl

-- what is left of a part, once some of its front was taken
pub drop_range : (piece : List ℕ) (at len used : ℕ)
    → slice_range piece (at + used) len ≡ drop used (slice_range piece at len)
drop_range piece at len used =
    ap (λ (r : List ℕ). take (len - (at + used)) r) (sym (drop-drop used at piece))
    ∙ ap (λ (n : ℕ). take n (drop used (drop at piece))) less
    ∙ sym (drop_taken used (len - at) (drop at piece)) where
      less : len - (at + used) ≡ len - at - used
      less = omega arith

      drop_taken : (used m : ℕ) (xs : List ℕ) → drop used (take m xs) ≡ take (m - used) (drop used xs)
      drop_taken zero m xs = ap (λ (n : ℕ). take n xs) (omega arith)
      drop_taken (suc used) zero xs =
          let none : 0 ≡ 0 - suc used = omega arith in
          ap (λ (n : ℕ). take n (drop (suc used) xs)) none
      drop_taken (suc used) (suc m) [] = sym (none_taken (suc m - suc used))
      drop_taken (suc used) (suc m) (x ∷ xs) =
          let less : m - used ≡ suc m - suc used = omega arith in
          drop_taken used m xs ∙ ap (λ (n : ℕ). take n (drop used xs)) less

pub rest_gone : (old new : Ear) (used : ℕ) → rest_of new ≡ drop used (rest_of old)
    → used ≡ length (rest_of old) → rest_of new ≡ []
rest_gone old new used is all = is ∙ drop_past used (rest_of old) (omega (arith, all))

-- ---- what streams give

consumes_none : (bytes : Option (List ℕ)) → Consumes bytes bytes []
consumes_none None = tt
consumes_none (Some xs) = refl

pub consumes_both : (a b c : Option (List ℕ)) (x y : List ℕ) → Consumes a b x → Consumes b c y
    → Consumes a c (x ++ y)
consumes_both None b c x y first second = tt
consumes_both (Some xs) None c x y first second = absurd first
consumes_both (Some xs) (Some ys) None x y first second = absurd second
consumes_both (Some xs) (Some ys) (Some zs) x y first second =
    first ∙ ap (λ (r : List ℕ). x ++ r) second ∙ sym (append_assoc x y zs)

consumes_keeps : (a b c : Option (List ℕ)) (x : List ℕ) → Consumes a b x → Keeps b c
    → Consumes a c x
consumes_keeps None b c x first second = tt
consumes_keeps (Some xs) None c x first second = absurd first
consumes_keeps (Some xs) (Some ys) None x first second = absurd second
consumes_keeps (Some xs) (Some ys) (Some zs) x first second =
    first ∙ ap (λ (r : List ℕ). x ++ r) (sym second)

no_length : (xs : List ℕ) → length xs ≡ 0 → xs ≡ []
no_length [] is = refl
no_length (x ∷ xs) is = absurd (omega (arith, is))

not_none : (n : ℕ) → (n ≡ 0 → ⊥) → 1 ≤ n
not_none zero some = absurd (some refl)
not_none (suc n) some = omega arith

-- ---- requests that were told

pub stands_told : (read : List ℕ) (told : List Request) (reader : ReaderState) (rest : List ℕ)
    → StandsBehind read told reader rest → HasTold read told
stands_told read told reader rest s = record {
  later = requests (s.has.held ++ rest);
  requests_are = ap requests s.read_is ∙ s.has.requests_are rest;
}

-- all of what was read was heard
module _ (whole : ReadingsAreWhole) (read : List ℕ) (told : List Request) (reader : ReaderState)
    (rest : List ℕ) (s : StandsBehind read told reader rest) (none : rest ≡ []) where
  heard_all : read ≡ s.heard
  heard_all = s.read_is ∙ ap (λ (r : List ℕ). s.heard ++ r) none ∙ append-nil s.heard

  pub all_told : Awaits reader → requests read ≡ told
  all_told waits = ap requests heard_all ∙ (whole s.heard told reader s.has waits).0

  pub all_end : (how : Ending) → Awaits reader
      → ((held : List ℕ) → StandsFor held reader → how ≡ ending held)
      → ending read ≡ how
  all_end how waits ends_so =
      let none_more : ending s.heard ≡ ending s.has.held =
      rw (append-nil s.heard, append-nil s.has.held) at (s.has.ending_is []) in
      ap ending heard_all ∙ none_more ∙ sym (ends_so s.has.held s.has.stands)

  pub all_fault : reader.at ≡ stage.Fault → EndsInFault read told
  all_fault is =
      let waits : Awaits reader = rw is tt in
      let w = whole s.heard told reader s.has waits in (
        ap requests heard_all ∙ w.0,
        ap ending heard_all ∙ w.1
            ∙ ap (λ (at : Stage). end_at at (length reader.front == 0)) is,
      )

-- ---- some of the rest was heard

module _ (go : ReadingsGoOn) (read : List ℕ) (told : List Request) (old new : Ear) (n : Next)
    (heard : HearsSome old new n) (s : EarStands read told old) where
  more : ReadingMore s.heard (take heard.used (rest_of old)) told n new.reader
  more = go s.heard (take heard.used (rest_of old)) told old.reader new.reader n s.has heard.reads

  stands_then : EarStands read (told ++ more.behind) new
  stands_then = record {
    heard = s.heard ++ take heard.used (rest_of old);
    has = more.has_read;
    read_is = s.read_is
        ∙ ap (λ (r : List ℕ). s.heard ++ r) (sym (take-append-drop heard.used (rest_of old)))
        ∙ sym (append_assoc s.heard (take heard.used (rest_of old)) (drop heard.used (rest_of old)))
        ∙ ap (λ (r : List ℕ). (s.heard ++ take heard.used (rest_of old)) ++ r) (sym heard.rest);
  }

  stands_quiet : more.behind ≡ [] → EarStands read told new
  stands_quiet none =
      subst (λ (t : List Request). EarStands read t new)
      (ap (λ (b : List Request). told ++ b) none ∙ append-nil told) stands_then

  pub heard_words : n ≡ next.Words → EarStands read told new
  heard_words is = stands_quiet (subst (λ (k : Next). ToldBy k more.behind new.reader) is more.tells)

  pub heard_more : n ≡ next.More → EarStands read told new
  heard_more is = stands_quiet (subst (λ (k : Next). ToldBy k more.behind new.reader) is more.tells)

  pub heard_request : n ≡ next.Whole → TellsNext read told new
  heard_request is =
      let t : TellsOne more.behind new.reader =
      subst (λ (k : Next). ToldBy k more.behind new.reader) is more.tells in
      record {
        request = t.request;
        stands = subst (λ (b : List Request). EarStands read (told ++ b) new) t.alone stands_then;
        words = t.words;
        keeps = t.keeps;
      }

  pub heard_fault : ReadingsAreWhole → n ≡ next.Fault → EndsInFault read told
  heard_fault whole is =
      let quiet = stands_quiet (subst (λ (k : Next). ToldBy k more.behind new.reader) is more.tells) in
      let left : (heard.used ≡ length (rest_of old)) × (new.reader.at ≡ stage.Fault) =
      subst (λ (k : Next). LeavesAt k heard.used (length (rest_of old)) new.reader) is heard.left in
      all_fault whole read told new.reader (rest_of new) quiet (rest_gone old new heard.used heard.rest left.0) left.1

-- it was said how much of the input is kept
pub asked_stands : KeepingGoesOn → (read : List ℕ) (told : List Request) (old new : Ear)
    → AsksOn old new → EarStands read told old → EarStands read told new
asked_stands keeping read told old new asks s = record {
  heard = s.heard;
  has = keeping s.heard told old.reader new.reader asks.most s.has asks.keeps;
  read_is = s.read_is ∙ ap (λ (r : List ℕ). s.heard ++ r) (sym asks.rest);
}

-- ---- pieces that were read

-- so many pieces were read, with these bytes, and the ear stands behind them
pub record SoFar (input input' : Stream) (old now : Ear) (pieces : ℕ) : Type 0 where
  pub more : List ℕ
  pub consumed : Consumes input.bytes input'.bytes more
  pub later : input.faults ≤ input'.faults
  pub counted : pieces ≤ length more
  pub sound : IsEar now
  pub stands : (read : List ℕ) (told : List Request) → EarStands read told old
      → EarStands (read ++ more) told now

pub nothing_far : (input : Stream) (e : Ear) → IsEar e → SoFar input input e e 0
nothing_far input e sound = record {
  more = [];
  consumed = consumes_none input.bytes;
  later = omega arith;
  counted = omega arith;
  sound = sound;
  stands = λ read told s.
      subst (λ (r : List ℕ). EarStands r told e) (sym (append-nil read)) s;
}

module _ (input input' : Stream) (old now heard : Ear) (pieces : ℕ)
    (far : SoFar input input' old now pieces) where
  -- the ear went on by a turn, and came to what ends this
  pub comes_now : (c : Came) → ((read : List ℕ) (told : List Request)
      → EarStands read told now → CameBy read told (length far.more) input input' heard c)
      → HearsOn input input' old heard c
  comes_now c by = record {
    more = far.more;
    consumed = far.consumed;
    later = far.later;
    by = λ read told s. by (read ++ far.more) told (far.stands read told s);
  }

  -- the input ended
  pub comes_end : ReadingsAreWhole → (input2 : Stream) (new : Ear) (n : ℕ) (how : Ending)
      → ((read : List ℕ) (told : List Request) → EarStands read told now → EarStands read told heard)
      → rest_of heard ≡ [] → Awaits heard.reader
      → ReadsPiece input'.bytes input2.bytes heard new (Ok n) → n ≡ 0
      → input'.faults ≤ input2.faults
      → ((held : List ℕ) → StandsFor held new.reader → how ≡ ending held)
      → HearsOn input input2 old new (came.End how)
  comes_end whole input2 new n how goes none waits read is later ends_so = record {
    more = far.more;
    consumed =
        subst (λ (x : List ℕ). Consumes input.bytes input2.bytes x)
        (ap (λ (r : List ℕ). far.more ++ r) (no_length (rest_of new) (read.2 ∙ is)) ∙ append-nil far.more)
        (consumes_both input.bytes input'.bytes input2.bytes far.more (rest_of new) far.consumed read.1);
    later = omega (arith, far.later, later);
    by = λ before told s.
        let there = goes (before ++ far.more) told (far.stands before told s) in (
          all_told whole (before ++ far.more) told heard.reader (rest_of heard) there none waits,
          all_end whole (before ++ far.more) told heard.reader (rest_of heard) there none how waits
              (λ held stands. ends_so held
              (subst (λ (r : ReaderState). StandsFor held r) (sym read.0) stands)),
          read.3 is,
        );
  }

  -- a read failed
  pub comes_fault : ReadingsAreWhole → (input2 : Stream) (new : Ear) (e : Failed)
      → ((read : List ℕ) (told : List Request) → EarStands read told now → EarStands read told heard)
      → rest_of heard ≡ [] → Awaits heard.reader
      → ReadsPiece input'.bytes input2.bytes heard new (Err e)
      → input'.faults ≤ input2.faults → CountRose input'.faults input2.faults
      → HearsOn input input2 old new came.ReadFault
  comes_fault whole input2 new e goes none waits read later rose = record {
    more = far.more;
    consumed = consumes_keeps input.bytes input'.bytes input2.bytes far.more far.consumed read.1;
    later = omega (arith, far.later, later);
    by = λ before told s.
        let there = goes (before ++ far.more) told (far.stands before told s) in (
          all_told whole (before ++ far.more) told heard.reader (rest_of heard) there none waits,
          omega (arith, far.later, rose),
        );
  }

  -- another piece was read
  pub piece_far : (input2 : Stream) (new : Ear) (n : ℕ)
      → ((read : List ℕ) (told : List Request) → EarStands read told now → EarStands read told heard)
      → rest_of heard ≡ [] → ReadsPiece input'.bytes input2.bytes heard new (Ok n)
      → input'.faults ≤ input2.faults → (n ≡ 0 → ⊥) → IsEar new
      → SoFar input input2 old new (pieces + 1)
  piece_far input2 new n goes none read later some sound = record {
    more = far.more ++ rest_of new;
    consumed = consumes_both input.bytes input'.bytes input2.bytes far.more (rest_of new) far.consumed read.1;
    later = omega (arith, far.later, later);
    counted = omega (arith, far.counted, length-append far.more (rest_of new), read.2, not_none n some);
    sound = sound;
    stands = λ before told s.
        behind before told (goes (before ++ far.more) told (far.stands before told s));
  } where
    behind : (before : List ℕ) (told : List Request) → EarStands (before ++ far.more) told heard
        → EarStands (before ++ (far.more ++ rest_of new)) told new
    behind before told s = record {
      heard = s.heard;
      has = subst (λ (r : ReaderState). HasRead s.heard told r) (sym read.0) s.has;
      read_is =
          sym (append_assoc before far.more (rest_of new))
          ∙ ap (λ (b : List ℕ). b ++ rest_of new)
          (s.read_is ∙ ap (λ (r : List ℕ). s.heard ++ r) none ∙ append-nil s.heard);
    }
