-- What is written to a sink, part behind part.
use Rattle.std.proofs.Common.{◌≡◌, ℕ, ◌≤◌, List, ◌++◌, ap, ◌∙◌, refl, subst, sym, arith, Option}
use Rattle.std.proofs.Common.{Some, None}
use Rattle.std.proofs.Common.{Result, Ok, Err}
use Rattle.std.specs.Prelude.{Bool, OnErr, OnOk}
use Rattle.std.specs.Io.KnownBytes.{Appends}
use Rattle.std.proofs.lemmas.List.{append_assoc}
use Rattle.outside.specs.Faults.{CountRose}
use Rattle.outside.specs.Streams.{GetsFront, GetsText, Stream}
use Rattle.outside.specs.declared.failed.Failed.{Failed}
use Rattle.request_frames.specs.Laws.{KeepsOf}
use Rattle.request_frames.specs.Reading.{IsWhole, asked_at, size_at}
use Rattle.request_frames.specs.Requests.{Request}
use Rattle.request_frames.specs.declared.head.InputSize.{InputSize}
use Rattle.request_frames.specs.declared.reader.Stage.{Stage}
use Rattle.request_frames.specs.declared.reader.Stage.TheVariants as stage
use Rattle.sync_words.specs.declared.outcome.Outcome.{Outcome}
use Rattle.node_service.specs.Lives.{Answers, spelled_answer}
use Rattle.node_service.specs.Serving.{AnswersNext, EndsAs, ToldNext, WritesFront, WritesText}
use Rattle.node_service.specs.declared.life.Stop.{Stop}
use Rattle.node_service.specs.declared.life.Stop.TheVariants as stop

pub appends_both : (a b c : Option (List ℕ)) (x y : List ℕ) → Appends a b x → Appends b c y
    → Appends a c (x ++ y)
appends_both None b c x y first second = tt
appends_both (Some xs) None c x y first second = absurd first
appends_both (Some xs) (Some ys) None x y first second = absurd second
appends_both (Some xs) (Some ys) (Some zs) x y first second =
    second ∙ ap (λ (s : List ℕ). s ++ y) first ∙ append_assoc xs x y

-- a front of a text is one of a longer text
pub front_longer : (old new : Stream) (x y : List ℕ) → GetsFront old new x → GetsFront old new (x ++ y)
front_longer old new x y f = record {
  got = f.got;
  rest = f.rest ++ y;
  front = ap (λ (s : List ℕ). s ++ y) f.front ∙ append_assoc f.got f.rest y;
  appended = f.appended;
}

-- a whole text, and a front of the next
pub front_behind : (old mid new : Stream) (x y : List ℕ) → Appends old.bytes mid.bytes x
    → GetsFront mid new y → GetsFront old new (x ++ y)
front_behind old mid new x y whole f = record {
  got = x ++ f.got;
  rest = f.rest;
  front = ap (λ (s : List ℕ). x ++ s) f.front ∙ sym (append_assoc x f.got f.rest);
  appended = appends_both old.bytes mid.bytes new.bytes x f.got whole f.appended;
}

pub rose_later : (a b c : ℕ) → a ≤ b → CountRose b c → CountRose a c
rose_later a b c later rose = omega (arith, later, rose)

module _ (o m1 m2 n : Stream) (x y z : List ℕ) (first : o.faults ≤ m1.faults)
    (second : m1.faults ≤ m2.faults) (one : Appends o.bytes m1.bytes x)
    (two : Appends m1.bytes m2.bytes y) where
  -- three parts, of which the last may fail
  pub parts_told : (r : Result (Unit {0}) Failed) → GetsText m2 n z
      → OnOk r (Appends m2.bytes n.bytes z) → OnErr r (CountRose m2.faults n.faults)
      → WritesText (x ++ (y ++ z)) o n r
  parts_told (Ok u) gets ok failed =
      appends_both o.bytes m1.bytes n.bytes x (y ++ z) one
      (appends_both m1.bytes m2.bytes n.bytes y z two ok)
  parts_told (Err e) gets ok failed = (
    omega (arith, first, second, failed),
    front_behind o m1 n x (y ++ z) one (front_behind m1 m2 n y z two gets.0),
  )

-- ---- a request that was heard

whole_is : (at : Stage) (size : InputSize) (most : ℕ) → IsWhole at → Some size ≡ size_at at
    → Some most ≡ asked_at at → stage.Whole size most ≡ at
whole_is (stage.Whole s m) size most whole sized asked =
    let one : size ≡ s = cc in
    let two : most ≡ m = cc in
    ap (λ (k : InputSize). stage.Whole k most) one ∙ ap (λ (k : ℕ). stage.Whole s k) two
whole_is stage.Head size most whole sized asked = absurd whole
whole_is (stage.Words h) size most whole sized asked = absurd whole
whole_is (stage.Asked s) size most whole sized asked = absurd whole
whole_is (stage.Input s m came) size most whole sized asked = absurd whole
whole_is stage.Fault size most whole sized asked = absurd whole

pub keeps_so : (request : Request) (at : Stage) (size : InputSize) (most : ℕ) (kept given : List ℕ)
    → IsWhole at → Some size ≡ size_at at → Some most ≡ asked_at at → given ≡ kept
    → KeepsOf request at kept → KeepsOf request (stage.Whole size most) given
keeps_so request at size most kept given whole sized asked same keeps =
    subst (λ (k : List ℕ). KeepsOf request (stage.Whole size most) k) (sym same)
    (subst (λ (a : Stage). KeepsOf request a kept) (sym (whole_is at size most whole sized asked))
    keeps)

-- what is kept of a request is kept behind it
pub keeps_whole : (request : Request) (at : Stage) (kept : List ℕ) → KeepsOf request at kept
    → IsWhole at
keeps_whole request (stage.Whole s m) kept keeps = tt
keeps_whole request stage.Head kept keeps = absurd keeps
keeps_whole request (stage.Words h) kept keeps = absurd keeps
keeps_whole request (stage.Asked s) kept keeps = absurd keeps
keeps_whole request (stage.Input s m came) kept keeps = absurd keeps
keeps_whole request stage.Fault kept keeps = absurd keeps

-- ---- a request that was answered

module _ {H : Type 0} (answers : Answers H) (request : Request) (old new : H) (came : Outcome)
    (shown : List ℕ) (ends : Bool) (o o' : Stream)
    (does : answers request old new came shown ends) where
  told_ended : (r : Result (Unit {0}) Stop) → EndsAs ends came r
      → Appends o.bytes o'.bytes (spelled_answer came shown)
      → ToldNext (record { request = request; after = new; came = came; out = shown; ends = ends }) o o' r
  told_ended (Ok u) is told = (is, told)
  told_ended (Err (stop.With with)) is told = (is.0, is.1, told)
  told_ended (Err stop.Untold) is told = absurd is

  -- its answer was told
  pub next_told : (r : Result (Unit {0}) Stop) → EndsAs ends came r
      → Appends o.bytes o'.bytes (spelled_answer came shown)
      → AnswersNext answers request old new o o' r
  next_told r is told = record {
    a = record { request = request; after = new; came = came; out = shown; ends = ends };
    has = record { request_is = refl; does = does; after = refl };
    told = told_ended r is told;
  }

  -- or not
  pub next_untold : WritesFront (spelled_answer came shown) o o'
      → AnswersNext answers request old new o o' (Err stop.Untold)
  next_untold told = record {
    a = record { request = request; after = new; came = came; out = shown; ends = ends };
    has = record { request_is = refl; does = does; after = refl };
    told = told;
  }

-- a front of an answer, by what it shows
pub front_same : (came : Outcome) (x y : List ℕ) (o o' : Stream) → x ≡ y
    → WritesFront (spelled_answer came x) o o' → WritesFront (spelled_answer came y) o o'
front_same came x y o o' same =
    subst (λ (shown : List ℕ). WritesFront (spelled_answer came shown) o o') same
