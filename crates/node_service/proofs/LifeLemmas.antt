-- A life as it goes on, request behind request.
use Rattle.std.proofs.Common.{◌≡◌, ℕ, ◌+◌, ◌-◌, ◌^◌, ◌≤◌, false, List, [], ◌∷◌, ◌++◌, length}
use Rattle.std.proofs.Common.{length-append, flat_map}
use Rattle.std.proofs.Common.{ap, append-nil, ◌∙◌, refl, subst, sym, inl, inr, arith, Option}
use Rattle.std.proofs.Common.{Some, None, Result, Ok, Err}
use Rattle.std.specs.Prelude.{◌⊎◌}
use Rattle.std.specs.Io.KnownBytes.{Appends, Consumes}
use Rattle.std.proofs.lemmas.List.{append_assoc}
use Rattle.outside.specs.Faults.{CountRose}
use Rattle.outside.specs.Streams.{GetsFront, Stream}
use Rattle.request_frames.specs.Requests.{Request, ending, requests}
use Rattle.sync_words.specs.declared.outcome.Outcome.{Outcome}
use Rattle.sync_words.specs.declared.outcome.Outcome.TheVariants as outcome
use Rattle.node_service.specs.Ears.{CameBy, EarStands, HasTold, HearsOn, IsEar, TellsNext, rest_of}
use Rattle.node_service.specs.Lives.{Answered, AnsweredOn, Answers, GoOn, GoOnToLast, HasLived}
use Rattle.node_service.specs.Lives.{last_of}
use Rattle.node_service.specs.Lives.{life_text}
use Rattle.node_service.specs.Lives.{EndsByInput, EndsByRequest, fault_answer, greeting}
use Rattle.node_service.specs.Lives.{requests_of}
use Rattle.node_service.specs.Lives.{spelled_answer}
use Rattle.node_service.specs.Serving.{AnswersAlike, AnswersNext, TellsFault, ToldNext, stopped_as}
use Rattle.node_service.specs.declared.ear.Came.{Came}
use Rattle.node_service.specs.declared.ear.Came.TheVariants as came
use Rattle.node_service.specs.declared.life.Stop.{Stop}
use Rattle.node_service.specs.declared.life.Stop.TheVariants as stop
use Rattle.node_service.proofs.EarLemmas.{consumes_both, stands_told}
use Rattle.node_service.proofs.TellLemmas.{appends_both, front_behind, keeps_whole, rose_later}
use Rattle.request_frames.specs.Laws.{KeepsOf}
use Rattle.request_frames.specs.Reading.{IsWhole}
use Rattle.request_frames.specs.declared.reader.Ending.{Ending}
use Rattle.request_frames.specs.declared.reader.Ending.TheVariants as ends
use Rattle.node_service.specs.declared.ear.Ear.{Ear}

consumes_none : (b : Option (List ℕ)) → Consumes b b []
consumes_none None = tt
consumes_none (Some xs) = refl

-- no memory was found at first
pub lived_none : {H : Type 0} (answers : Answers H) (o : H) (input out : Stream)
    → HasLived answers o o input input out out outcome.Memory
lived_none {H} answers o input out = record {
  read = [];
  consumed = consumes_none input.bytes;
  answered = [];
  are = tt;
  last = refl;
  go_on = tt;
  later = requests [];
  requests_are = refl;
  ended = inr (record {
    none_read = refl;
    none_answered = refl;
    unread = record { same = refl; same_faults = refl };
    quiet = record { same = refl; same_faults = refl };
  });
}

-- ---- one answer more

module _ {H : Type 0} (answers : Answers H) where
  answered_more : (o : H) (before : List (Answered H)) (a : Answered H) → AnsweredOn answers o before
      → answers a.request (last_of o before) a.after a.came a.out a.ends
      → AnsweredOn answers o (before ++ a ∷ [])
  answered_more o [] a are does = (does, tt)
  answered_more o (b ∷ before) a are does = (are.0, answered_more b.after before a are.1 does)

last_more : {H : Type 0} (o : H) (before : List (Answered H)) (a : Answered H)
    → last_of o (before ++ a ∷ []) ≡ a.after
last_more o [] a = refl
last_more o (b ∷ before) a = last_more b.after before a

go_on_more : {H : Type 0} (before : List (Answered H)) (a : Answered H) → GoOn before → a.ends ≡ false
    → GoOn (before ++ a ∷ [])
go_on_more [] a on is = (is, tt)
go_on_more (b ∷ before) a on is = (on.0, go_on_more before a on.1 is)

-- a node that went on behind each went on behind each but the last
go_on_all : {H : Type 0} (answered : List (Answered H)) → GoOn answered → GoOnToLast answered
go_on_all [] on = tt
go_on_all (a ∷ []) on = tt
go_on_all (a ∷ b ∷ later) on = (on.0, go_on_all (b ∷ later) on.1)

go_on_before : {H : Type 0} (before : List (Answered H)) (a : Answered H) → GoOn before
    → GoOnToLast (before ++ a ∷ [])
go_on_before [] a on = tt
go_on_before (b ∷ []) a on = (on.0, tt)
go_on_before (b ∷ c ∷ before) a on = (on.0, go_on_before (c ∷ before) a on.1)

requests_more : {H : Type 0} (before : List (Answered H)) (a : Answered H)
    → requests_of (before ++ a ∷ []) ≡ requests_of before ++ a.request ∷ []
requests_more [] a = refl
requests_more (b ∷ before) a = ap (λ (r : List Request). b.request ∷ r) (requests_more before a)

told_more : {H : Type 0} (before : List (Answered H)) (a : Answered H)
    → flat_map (λ (x : Answered H). spelled_answer x.came x.out) (before ++ a ∷ [])
    ≡ flat_map (λ (x : Answered H). spelled_answer x.came x.out) before ++ spelled_answer a.came a.out
told_more [] a = append-nil (spelled_answer a.came a.out)
told_more {H} (b ∷ before) a =
    ap (λ (t : List ℕ). spelled_answer b.came b.out ++ t) (told_more before a)
    ∙ sym (append_assoc (spelled_answer b.came b.out)
    (flat_map (λ (x : Answered H). spelled_answer x.came x.out) before) (spelled_answer a.came a.out))

text_more : {H : Type 0} (before : List (Answered H)) (a : Answered H)
    → life_text (before ++ a ∷ []) ≡ life_text before ++ spelled_answer a.came a.out
text_more {H} before a =
    ap (λ (t : List ℕ). greeting ++ t) (told_more before a)
    ∙ sym (append_assoc greeting
    (flat_map (λ (x : Answered H). spelled_answer x.came x.out) before) (spelled_answer a.came a.out))

-- ---- a life so far

pub record LivedSo {H : Type 0} (first now : Answers H) (old host : H)
    (input input' out out' : Stream) (ear : Ear) (count : ℕ) : Type 0 where
  pub read : List ℕ
  pub consumed : Consumes input.bytes input'.bytes read
  pub answered : List (Answered H)
  pub are : AnsweredOn first old answered
  pub last : host ≡ last_of old answered
  pub go_on : GoOn answered
  pub stands : EarStands read (requests_of answered) ear
  pub told : Appends out.bytes out'.bytes (life_text answered)
  pub sound : IsEar ear
  pub in_later : input.faults ≤ input'.faults
  pub out_later : out.faults ≤ out'.faults
  pub counted : count ≤ length answered
  pub alike : AnswersAlike now first

pub lived_first : {H : Type 0} (answers : Answers H) (o : H) (input out out' : Stream) (ear : Ear)
    → IsEar ear → EarStands [] [] ear → Appends out.bytes out'.bytes greeting
    → out.faults ≤ out'.faults → LivedSo answers answers o o input input out out' ear 0
lived_first {H} answers o input out out' ear sound stands told later = record {
  read = [];
  consumed = consumes_none input.bytes;
  answered = [];
  are = tt;
  last = refl;
  go_on = tt;
  stands = stands;
  told = subst (λ (t : List ℕ). Appends out.bytes out'.bytes t) (sym (append-nil greeting)) told;
  sound = sound;
  in_later = omega arith;
  out_later = later;
  counted = omega arith;
  alike = λ request old new came out ends does. does;
}

-- the greeting was not written
pub lived_untold : {H : Type 0} (answers : Answers H) (o : H) (input out out' : Stream)
    → CountRose out.faults out'.faults → GetsFront out out' greeting
    → HasLived answers o o input input out out' outcome.WriteFault
lived_untold {H} answers o input out out' rose gets = record {
  read = [];
  consumed = consumes_none input.bytes;
  answered = [];
  are = tt;
  last = refl;
  go_on = tt;
  later = requests [];
  requests_are = refl;
  ended = inr (record {
    rose = rose;
    more = [];
    more_is = inl refl;
    told =
        subst (λ (t : List ℕ). GetsFront out out' t)
        (sym (append-nil greeting) ∙ sym (append-nil (life_text {H = H} []))) gets;
  });
}

-- more requests than can be counted were answered
pub lived_counted : {H : Type 0} (first now : Answers H) (old host : H)
    (input input' out out' : Stream) (ear : Ear) (count : ℕ)
    → LivedSo first now old host input input' out out' ear count → 2 ^ 64 - 1 ≤ count
    → HasLived first old host input input' out out' outcome.TooMuch
lived_counted first now old host input input' out out' ear count l many =
    let there = stands_told l.read (requests_of l.answered) ear.reader (rest_of ear) l.stands in
    record {
      read = l.read;
      consumed = l.consumed;
      answered = l.answered;
      are = l.are;
      last = l.last;
      go_on = go_on_all l.answered l.go_on;
      later = there.later;
      requests_are = there.requests_are;
      ended = inr (l.go_on, omega (arith, many, l.counted), l.told);
    }

module _ {H : Type 0} (first now : Answers H) (old host : H) (input input' input2 out out' : Stream)
    (ear ear2 : Ear) (count : ℕ) (l : LivedSo first now old host input input' out out' ear count)
    (c : Came) (h : HearsOn input' input2 ear ear2 c) where
  abbrev all : List ℕ
  all = l.read ++ h.more

  consumed_all : Consumes input.bytes input2.bytes all
  consumed_all =
      consumes_both input.bytes input'.bytes input2.bytes l.read h.more l.consumed h.consumed

  by : (d : Came) → c ≡ d → CameBy all (requests_of l.answered) (length h.more) input' input2 ear2 d
  by d is =
      subst (λ (x : Came).
      CameBy all (requests_of l.answered) (length h.more) input' input2 ear2 x) is
      (h.by l.read (requests_of l.answered) l.stands)

  -- it ended by its input
  ends_by : (out2 : Stream) (came : Outcome) (later : List Request)
      → requests all ≡ requests_of l.answered ++ later
      → EndsByInput all l.answered input input2 out out2 came
      → HasLived first old host input input2 out out2 came
  ends_by out2 came later are ended = record {
    read = all;
    consumed = consumed_all;
    answered = l.answered;
    are = l.are;
    last = l.last;
    go_on = go_on_all l.answered l.go_on;
    later = later;
    requests_are = are;
    ended = inr ended;
  }

  told_all : Appends out.bytes out'.bytes (life_text l.answered ++ [])
  told_all =
      subst (λ (t : List ℕ). Appends out.bytes out'.bytes t)
      (sym (append-nil (life_text l.answered))) l.told

  none_later : requests all ≡ requests_of l.answered → requests all ≡ requests_of l.answered ++ []
  none_later are = are ∙ sym (append-nil (requests_of l.answered))

  pub ends_done : (how : Ending) → (how ≡ ends.Fault → ⊥) → c ≡ came.End how
      → HasLived first old host input input2 out out' outcome.Done
  ends_done how well is =
      let b = by (came.End how) is in
      ends_by out' outcome.Done [] (none_later b.0) (
        record { go_on = l.go_on; requests_are = b.0; told = told_all },
        b.2,
        λ fault. well (sym b.1 ∙ fault),
      )

  pub ends_read_fault : c ≡ came.ReadFault
      → HasLived first old host input input2 out out' outcome.ReadFault
  ends_read_fault is =
      let b = by came.ReadFault is in
      ends_by out' outcome.ReadFault [] (none_later b.0) (
        record { go_on = l.go_on; requests_are = b.0; told = told_all },
        rose_later input.faults input'.faults input2.faults l.in_later b.1,
      )

  pub ends_too_much : c ≡ came.TooMuch
      → HasLived first old host input input2 out out' outcome.TooMuch
  ends_too_much is =
      let b = by came.TooMuch is in
      ends_by out' outcome.TooMuch b.0.later b.0.requests_are (
        l.go_on,
        omega (arith, b.1, length-append l.read h.more),
        l.told,
      )

  -- what follows is no request
  ends_fault : (out2 : Stream) → requests all ≡ requests_of l.answered → ending all ≡ ends.Fault
      → (r : Outcome) → TellsFault out' out2 r → HasLived first old host input input2 out out2 r
  ends_fault out2 are fault outcome.NoRequest told =
      ends_by out2 outcome.NoRequest [] (none_later are) (
        record {
          go_on = l.go_on;
          requests_are = are;
          told = appends_both out.bytes out'.bytes out2.bytes (life_text l.answered) fault_answer
              l.told told;
        },
        fault,
      )
  ends_fault out2 are fault outcome.WriteFault told =
      ends_by out2 outcome.WriteFault [] (none_later are) (record {
        rose = rose_later out.faults out'.faults out2.faults l.out_later told.0;
        more = fault_answer;
        more_is = inr (refl, fault);
        told = front_behind out out' out2 (life_text l.answered) fault_answer l.told told.1;
      })
  ends_fault out2 are fault _ told = absurd told

  pub ends_at_fault : c ≡ came.Fault → (out2 : Stream) (r : Outcome) → TellsFault out' out2 r
      → HasLived first old host input input2 out out2 r
  ends_at_fault is out2 r told =
      let b = by came.Fault is in ends_fault out2 b.0 b.1 r told

  pub ends_in_fault : c ≡ came.End ends.Fault → (out2 : Stream) (r : Outcome)
      → TellsFault out' out2 r → HasLived first old host input input2 out out2 r
  ends_in_fault is out2 r told =
      let b = by (came.End ends.Fault) is in ends_fault out2 b.0 b.1 r told

  pub next_whole : c ≡ came.Request → IsWhole ear2.reader.at
  next_whole is =
      let t = by came.Request is in keeps_whole t.request ear2.reader.at ear2.reader.kept t.keeps

  -- ---- a request was heard and answered

  module _ (is : c ≡ came.Request) (host2 : H) (out2 : Stream) (result : Result (Unit {0}) Stop)
      (next : (request : Request) → request.words ≡ ear2.reader.front
      → KeepsOf request ear2.reader.at ear2.reader.kept
      → AnswersNext now request host host2 out' out2 result) where
    heard : TellsNext all (requests_of l.answered) ear2
    heard = by came.Request is

    n : AnswersNext now heard.request host host2 out' out2 result
    n = next heard.request heard.words heard.keeps

    abbrev more : List (Answered H)
    more = l.answered ++ n.a ∷ []

    are_more : AnsweredOn first old more
    are_more =
        answered_more first old l.answered n.a l.are
        (subst (λ (r : Request).
        first r (last_of old l.answered) n.a.after n.a.came n.a.out n.a.ends) (sym n.has.request_is)
        (subst (λ (x : H).
        first heard.request (last_of old l.answered) x n.a.came n.a.out n.a.ends) (sym n.has.after)
        (subst (λ (x : H). first heard.request x host2 n.a.came n.a.out n.a.ends) l.last
        (l.alike heard.request host host2 n.a.came n.a.out n.a.ends n.has.does))))

    last_then : host2 ≡ last_of old more
    last_then = sym n.has.after ∙ sym (last_more old l.answered n.a)

    stands_then : EarStands all (requests_of more) ear2
    stands_then =
        subst (λ (t : List Request). EarStands all t ear2)
        (ap (λ (r : Request). requests_of l.answered ++ r ∷ []) (sym n.has.request_is)
        ∙ sym (requests_more l.answered n.a)) heard.stands

    has_told : HasTold all (requests_of more)
    has_told = stands_told all (requests_of more) ear2.reader (rest_of ear2) stands_then

    told_then : Appends out'.bytes out2.bytes (spelled_answer n.a.came n.a.out)
        → Appends out.bytes out2.bytes (life_text more)
    told_then told =
        subst (λ (t : List ℕ). Appends out.bytes out2.bytes t) (sym (text_more l.answered n.a))
        (appends_both out.bytes out'.bytes out2.bytes (life_text l.answered)
        (spelled_answer n.a.came n.a.out) l.told told)

    front_then : GetsFront out' out2 (spelled_answer n.a.came n.a.out)
        → GetsFront out out2 (life_text more)
    front_then told =
        subst (λ (t : List ℕ). GetsFront out out2 t) (sym (text_more l.answered n.a))
        (front_behind out out' out2 (life_text l.answered) (spelled_answer n.a.came n.a.out) l.told
        told)

    lived_then : (came : Outcome) → EndsByRequest more out out2 came
        ⊎ EndsByInput all more input input2 out out2 came
        → HasLived first old host2 input input2 out out2 came
    lived_then came ended = record {
      read = all;
      consumed = consumed_all;
      answered = more;
      are = are_more;
      last = last_then;
      go_on = go_on_before l.answered n.a l.go_on;
      later = has_told.later;
      requests_are = has_told.requests_are;
      ended = ended;
    }

    told_result : ToldNext n.a out' out2 result
    told_result = n.told

    pub goes_on : (now2 : Answers H) → AnswersAlike now2 now → result ≡ Ok tt → IsEar ear2
        → out'.faults ≤ out2.faults
        → LivedSo first now2 old host2 input input2 out out2 ear2 (count + 1)
    goes_on now2 alike ok sound later =
        let t : ToldNext n.a out' out2 (Ok tt) =
        subst (λ (r : Result (Unit {0}) Stop). ToldNext n.a out' out2 r) ok told_result in
        record {
          read = all;
          consumed = consumed_all;
          answered = more;
          are = are_more;
          last = last_then;
          go_on = go_on_more l.answered n.a l.go_on t.0;
          stands = stands_then;
          told = told_then t.1;
          sound = sound;
          in_later = omega (arith, l.in_later, h.later);
          out_later = omega (arith, l.out_later, later);
          counted = omega (arith, l.counted, length-append l.answered (n.a ∷ []));
          alike = λ request o o' came shown ends does.
              l.alike request o o' came shown ends (alike request o o' came shown ends does);
        }

    pub stops : (why : Stop) → result ≡ Err why
        → HasLived first old host2 input input2 out out2 (stopped_as why)
    stops why is_err =
        by_why why (subst (λ (r : Result (Unit {0}) Stop). ToldNext n.a out' out2 r) is_err told_result) where
          by_why : (why : Stop) → ToldNext n.a out' out2 (Err why)
              → HasLived first old host2 input input2 out out2 (stopped_as why)
          by_why (stop.With came) t = lived_then came (inl (record {
            front = l.answered;
            last = n.a;
            are = refl;
            go_on = l.go_on;
            ends = t.0;
            is = t.1;
            told = told_then t.2;
          }))
          by_why stop.Untold t = lived_then outcome.WriteFault (inr (record {
            rose = rose_later out.faults out'.faults out2.faults l.out_later t.0;
            more = [];
            more_is = inl refl;
            told = subst (λ (s : List ℕ). GetsFront out out2 s) (sym (append-nil (life_text more)))
                (front_then t.1);
          }))
