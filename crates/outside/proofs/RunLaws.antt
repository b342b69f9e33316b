-- Runs of any calls of a host: they join, one call more at a time, and what each does to what is told of a link.
use Rattle.std.specs.Prelude.{◌≡◌, ◌≢◌, ℕ, zero, suc, ◌<◌, ◌≤◌, List, [], ◌∷◌, ◌++◌, map, length, take, Option, None, Some, Result, Ok, Err, is_some, slice_index_or}
use Rattle.std.specs.Option.{option_map}
use Rattle.std.proofs.Common.{refl, sym, ap, ◌∙◌, subst, inl, inr, arith, append-nil, append_assoc}
use Rattle.std.proofs.lemmas.Bool.{cases_eq}
use Rattle.std.proofs.lemmas.List.{take_all}
use Rattle.outside.specs.declared.failed.Failed.{Failed}
use Rattle.outside.specs.declared.host.Heard.{Heard}
use Rattle.outside.specs.declared.host.Heard.TheVariants as heard
use Rattle.outside.specs.Files.{Two, File}
use Rattle.outside.specs.Links.{ToldLink, Links, HeardOn, nothing_heard, changed_at, with_sent, sent_of, Planned}
use Rattle.outside.specs.Outside.{Outside, Moment, IsNow, QuietCall, DiskRun}
use Rattle.outside.specs.Disk.{RelatesTold}
use Rattle.outside.specs.Planned.{AnswersAsPlanned, UsesReading}
use Rattle.outside.specs.Host.{LinkCause, DialsLink, AsksNonce, HearsAnswer, hear, SendsOnLink, SendsPart, ReadsClock, GrowsReadings}
use Rattle.outside.specs.Runs.{sent_at, heard_at, answers_at, IsFront, answered_by, ReadingsGoOn, LinksGrow, HostRun, TellsAll, OthersKeep, SendMoment}

pub front_same : {A : Type 0} (a b : List A) → b ≡ a → IsFront a b
front_same a b same = record { rest = []; whole = same ∙ sym (append-nil a) }

pub front_then : {A : Type 0} (a b c : List A) → IsFront a b → IsFront b c → IsFront a c
front_then a b c first second = record {
  rest = first.rest ++ second.rest;
  whole = second.whole ∙ ap (λ l. l ++ second.rest) first.whole ∙ append_assoc a first.rest second.rest;
}

-- ---- one item of a list
pub changed_at_same : {A : Type 0} (n : ℕ) (f : A → A) (xs : List A) (d : A) → n < length xs → slice_index_or (changed_at n f xs) n d ≡ f (slice_index_or xs n d)
changed_at_same n f [] d within = absurd (omega arith)
changed_at_same zero f (x ∷ xs) d within = refl
changed_at_same (suc n) f (x ∷ xs) d within = changed_at_same n f xs d (omega arith)

pub changed_at_other : {A : Type 0} (n : ℕ) (f : A → A) (xs : List A) (i : ℕ) (d : A) → i ≢ n → slice_index_or (changed_at n f xs) i d ≡ slice_index_or xs i d
changed_at_other n f [] i d other = refl
changed_at_other zero f (x ∷ xs) zero d other = absurd (other refl)
changed_at_other zero f (x ∷ xs) (suc i) d other = refl
changed_at_other (suc n) f (x ∷ xs) zero d other = refl
changed_at_other (suc n) f (x ∷ xs) (suc i) d other = changed_at_other n f xs i d (λ same. other (ap suc same))

-- one item more that is the default
pushed_default : {A : Type 0} (xs : List A) (d : A) (i : ℕ) → slice_index_or (xs ++ d ∷ []) i d ≡ slice_index_or xs i d
pushed_default [] d zero = refl
pushed_default [] d (suc i) = refl
pushed_default (x ∷ xs) d zero = refl
pushed_default (x ∷ xs) d (suc i) = pushed_default xs d i

-- ---- bytes sent
sent_same : (link : ℕ) (bytes : List ℕ) (links : List ToldLink) → link < length links → slice_index_or (map (λ (l : ToldLink). l.sent) (with_sent link bytes links)) link [] ≡ slice_index_or (map (λ (l : ToldLink). l.sent) links) link [] ++ bytes
sent_same link bytes [] within = absurd (omega arith)
sent_same zero bytes (l ∷ links) within = refl
sent_same (suc link) bytes (l ∷ links) within = sent_same link bytes links (omega arith)

sent_other : (link : ℕ) (bytes : List ℕ) (links : List ToldLink) (i : ℕ) → i ≢ link → slice_index_or (map (λ (l : ToldLink). l.sent) (with_sent link bytes links)) i [] ≡ slice_index_or (map (λ (l : ToldLink). l.sent) links) i []
sent_other link bytes [] i other = refl
sent_other zero bytes (l ∷ links) zero other = absurd (other refl)
sent_other zero bytes (l ∷ links) (suc i) other = refl
sent_other (suc link) bytes (l ∷ links) zero other = refl
sent_other (suc link) bytes (l ∷ links) (suc i) other = sent_other link bytes links i (λ same. other (ap suc same))

sent_front : (link : ℕ) (bytes : List ℕ) (links : List ToldLink) (i : ℕ) → IsFront (slice_index_or (map (λ (l : ToldLink). l.sent) links) i []) (slice_index_or (map (λ (l : ToldLink). l.sent) (with_sent link bytes links)) i [])
sent_front link bytes [] i = front_same _ _ refl
sent_front zero bytes (l ∷ links) zero = record { rest = bytes; whole = refl }
sent_front zero bytes (l ∷ links) (suc i) = front_same _ _ refl
sent_front (suc link) bytes (l ∷ links) zero = front_same _ _ refl
sent_front (suc link) bytes (l ∷ links) (suc i) = sent_front link bytes links i

sent_pushed : (links : List ToldLink) (spec : List ℕ) (i : ℕ) → slice_index_or (map (λ (l : ToldLink). l.sent) (links ++ record { spec = spec; sent = [] } ∷ [])) i [] ≡ slice_index_or (map (λ (l : ToldLink). l.sent) links) i []
sent_pushed [] spec zero = refl
sent_pushed [] spec (suc i) = refl
sent_pushed (l ∷ links) spec zero = refl
sent_pushed (l ∷ links) spec (suc i) = sent_pushed links spec i

-- the same where it is told or not
pub sent_at-with_sent : (told : Option (List ToldLink)) (links : List ToldLink) (link : ℕ) (bytes : List ℕ) → told ≡ Some links → link < length links → sent_at (option_map (with_sent link bytes) told) link ≡ sent_at told link ++ bytes
sent_at-with_sent told links link bytes is_told within =
    subst (λ (t : Option (List ToldLink)). sent_at (option_map (with_sent link bytes) t) link ≡ sent_at t link ++ bytes) (sym is_told) (sent_same link bytes links within)

pub sent_at-other : (told : Option (List ToldLink)) (link : ℕ) (bytes : List ℕ) (i : ℕ) → i ≢ link → sent_at (option_map (with_sent link bytes) told) i ≡ sent_at told i
sent_at-other None link bytes i other = refl
sent_at-other (Some links) link bytes i other = sent_other link bytes links i other

sent_at-front : (told : Option (List ToldLink)) (link : ℕ) (bytes : List ℕ) (i : ℕ) → IsFront (sent_at told i) (sent_at (option_map (with_sent link bytes) told) i)
sent_at-front None link bytes i = front_same _ _ refl
sent_at-front (Some links) link bytes i = sent_front link bytes links i

sent_at-pushed : (told : Option (List ToldLink)) (spec : List ℕ) (i : ℕ) → sent_at (option_map (λ ls. ls ++ record { spec = spec; sent = [] } ∷ []) told) i ≡ sent_at told i
sent_at-pushed None spec i = refl
sent_at-pushed (Some links) spec i = sent_pushed links spec i

-- ---- answers heard

heard_at-pushed : (told : Option (List HeardOn)) (i : ℕ) → heard_at (option_map (λ hs. hs ++ nothing_heard ∷ []) told) i ≡ heard_at told i
heard_at-pushed None i = refl
heard_at-pushed (Some heard) i = pushed_default heard nothing_heard i

pub answers_hear : (answer : Heard) (buf : List ℕ) (h : HeardOn) → (hear answer buf h).answers ≡ h.answers ++ answered_by answer buf h
answers_hear (heard.Got n) buf h = refl
answers_hear heard.Idle buf h = refl
answers_hear heard.End buf h = refl
answers_hear heard.Failed buf h = sym (append-nil h.answers)

hear_front : (answer : Heard) (buf : List ℕ) (h : HeardOn) → IsFront h.answers (hear answer buf h).answers
hear_front answer buf h = record { rest = answered_by answer buf h; whole = answers_hear answer buf h }

hears_front : (link : ℕ) (answer : Heard) (buf : List ℕ) (hs : List HeardOn) (i : ℕ)
    → IsFront (slice_index_or hs i nothing_heard).answers (slice_index_or (changed_at link (hear answer buf) hs) i nothing_heard).answers
hears_front link answer buf [] i = front_same _ _ refl
hears_front zero answer buf (h ∷ hs) zero = hear_front answer buf h
hears_front zero answer buf (h ∷ hs) (suc i) = front_same _ _ refl
hears_front (suc link) answer buf (h ∷ hs) zero = front_same _ _ refl
hears_front (suc link) answer buf (h ∷ hs) (suc i) = hears_front link answer buf hs i

answers_at-front : (told : Option (List HeardOn)) (link : ℕ) (answer : Heard) (buf : List ℕ) (i : ℕ) → IsFront (answers_at told i) (answers_at (option_map (changed_at link (hear answer buf)) told) i)
answers_at-front None link answer buf i = front_same _ _ refl
answers_at-front (Some heard) link answer buf i = hears_front link answer buf heard i

reads_same : (old new : Option (List ℕ)) → new ≡ old → ReadingsGoOn old new
reads_same None None same = tt
reads_same (Some a) None same = tt
reads_same None (Some b) same = cc
reads_same (Some a) (Some b) same = front_same a b cc

reads_then : (a b c : Option (List ℕ)) → ReadingsGoOn a b → ReadingsGoOn b c → ReadingsGoOn a c
reads_then a b None first second = tt
reads_then a None (Some z) first second = absurd second
reads_then None (Some y) (Some z) first second = absurd first
reads_then (Some x) (Some y) (Some z) first second = front_then x y z first second

reads_grown : (reading : ℕ) (old new : Option (List ℕ)) → GrowsReadings reading old new → ReadingsGoOn old new
reads_grown reading old None grows = tt
reads_grown reading None (Some new) grows = grows
reads_grown reading (Some old) (Some new) grows = record { rest = reading ∷ []; whole = grows }

becomes_some : {A : Type 0} (step : A → A → Type 0) (old new : Option A) → RelatesTold step old new → is_some new ≡ is_some old
becomes_some step None None becomes = refl
becomes_some step None (Some b) becomes = absurd becomes
becomes_some step (Some a) None becomes = absurd becomes
becomes_some step (Some a) (Some b) becomes = refl

is_some-option_map : {A B : Type 0} (f : A → B) (o : Option A) → is_some (option_map f o) ≡ is_some o
is_some-option_map f None = refl
is_some-option_map f (Some a) = refl

counts_later : {T E : Type 0} (link : ℕ) (old new : ℕ → ℕ) (result : Result T E) → LinkCause link old new result → (i : ℕ) → old i ≤ new i
counts_later link old new result cause i =
    elim (cases_eq i link) [
      | inl here ↦ subst (λ (k : ℕ). old k ≤ new k) (sym here) cause.later
      | inr other ↦ omega (arith, cause.others i other)
    ]

-- ---- one call
pub grow_same : (old new : Links) → new ≡ old → LinksGrow old new
grow_same old new same = record {
  dialled = omega (arith, ap (λ (l : Links). l.dialled) same);
  faults = λ i. omega (arith, ap (λ (l : Links). l.faults i) same);
  same_told = ap (λ (l : Links). is_some l.told) same;
  same_heard = ap (λ (l : Links). is_some l.heard) same;
  same_planned = ap (λ (l : Links). is_some l.planned) same;
  same_upcoming = ap (λ (l : Links). is_some l.upcoming) same;
  sent = λ i. front_same _ _ (ap (λ (l : Links). sent_at l.told i) same);
  answers = λ i. front_same _ _ (ap (λ (l : Links). answers_at l.heard i) same);
  readings = reads_same old.readings new.readings (ap (λ (l : Links). l.readings) same);
}

pub grow_then : (a b c : Links) → LinksGrow a b → LinksGrow b c → LinksGrow a c
grow_then a b c first second = record {
  dialled = omega (arith, first.dialled, second.dialled);
  faults = λ i. omega (arith, first.faults i, second.faults i);
  same_told = second.same_told ∙ first.same_told;
  same_heard = second.same_heard ∙ first.same_heard;
  same_planned = second.same_planned ∙ first.same_planned;
  same_upcoming = second.same_upcoming ∙ first.same_upcoming;
  sent = λ i. front_then _ _ _ (first.sent i) (second.sent i);
  answers = λ i. front_then _ _ _ (first.answers i) (second.answers i);
  readings = reads_then a.readings b.readings c.readings first.readings second.readings;
}

-- the parts of a call that makes, sends and hears nothing
grow_rest : (old new : Links) → old.dialled ≤ new.dialled → ((i : ℕ) → old.faults i ≤ new.faults i) → is_some new.told ≡ is_some old.told → is_some new.heard ≡ is_some old.heard
    → ((i : ℕ) → IsFront (sent_at old.told i) (sent_at new.told i)) → ((i : ℕ) → IsFront (answers_at old.heard i) (answers_at new.heard i))
    → new.readings ≡ old.readings → is_some new.planned ≡ is_some old.planned → new.upcoming ≡ old.upcoming → LinksGrow old new
grow_rest old new dialled faults told heard sent answers readings planned upcoming = record {
  dialled = dialled;
  faults = faults;
  same_told = told;
  same_heard = heard;
  same_planned = planned;
  same_upcoming = ap is_some upcoming;
  sent = sent;
  answers = answers;
  readings = reads_same old.readings new.readings readings;
}

fronts_sent : (old new : Option (List ToldLink)) → new ≡ old → (i : ℕ) → IsFront (sent_at old i) (sent_at new i)
fronts_sent old new same i = front_same _ _ (ap (λ t. sent_at t i) same)

fronts_heard : (old new : Option (List HeardOn)) → new ≡ old → (i : ℕ) → IsFront (answers_at old i) (answers_at new i)
fronts_heard old new same i = front_same _ _ (ap (λ t. answers_at t i) same)

pub grow_dial : (spec : List ℕ) (result : Result ℕ Failed) (old new : Links) → DialsLink spec result old new → LinksGrow old new
grow_dial spec (Ok link) old new d =
    grow_rest old new (omega (arith, d.made.1)) (counts_later old.dialled old.faults new.faults (Ok link) d.faults)
    (ap is_some d.made.2 ∙ is_some-option_map _ old.told)
    (ap is_some d.made.3 ∙ is_some-option_map _ old.heard)
    (λ i. front_same _ _ (ap (λ t. sent_at t i) d.made.2 ∙ sent_at-pushed old.told spec i))
    (λ i. front_same _ _ (ap (λ t. answers_at t i) d.made.3 ∙ ap (λ (h : HeardOn). h.answers) (heard_at-pushed old.heard i)))
    d.same_readings
    (ap is_some d.same_planned)
    d.same_upcoming
grow_dial spec (Err e) old new d =
    grow_rest old new (omega (arith, d.made.0)) (counts_later old.dialled old.faults new.faults (Err e) d.faults) (ap is_some d.made.1) (ap is_some d.made.2) (fronts_sent _ _ d.made.1)
    (fronts_heard _ _ d.made.2)
    d.same_readings
    (ap is_some d.same_planned)
    d.same_upcoming

pub grow_nonce : (link : ℕ) (result : Result (List ℕ) Failed) (old new : Links) → AsksNonce link result old new → LinksGrow old new
grow_nonce link result old new a =
    grow_rest old new (omega (arith, a.same_dialled)) (counts_later link old.faults new.faults result a.faults) (ap is_some a.same_told) (ap is_some a.same_heard) (fronts_sent _ _ a.same_told)
    (fronts_heard _ _ a.same_heard)
    a.same_readings
    (ap is_some a.same_planned)
    a.same_upcoming

pub grow_hear : (link : ℕ) (answer : Heard) (buf : List ℕ) (old new : Links) → HearsAnswer link answer buf old new → LinksGrow old new
grow_hear link answer buf old new h =
    grow_rest old new (omega (arith, h.same_dialled))
    (λ i. elim (cases_eq i link) [ inl here ↦ subst (λ (k : ℕ). old.faults k ≤ new.faults k) (sym here) h.later | inr other ↦ omega (arith, h.others i other) ])
    (ap is_some h.same_told)
    (ap is_some h.heard ∙ is_some-option_map _ old.heard)
    (fronts_sent _ _ h.same_told)
    (λ i. subst (λ (t : Option (List HeardOn)). IsFront (answers_at old.heard i) (answers_at t i)) (sym h.heard) (answers_at-front old.heard link answer buf i))
    h.same_readings
    (becomes_some (AnswersAsPlanned link answer buf) old.planned new.planned h.planned)
    h.same_upcoming

-- the bytes that went out in a send
pub went_out : (link : ℕ) (bytes : List ℕ) (result : Result (Unit {0}) Failed) (old new : Links) → SendsOnLink link bytes result old new
    → (count : ℕ) × (new.told ≡ option_map (with_sent link (take count bytes)) old.told)
went_out link bytes (Ok u) old new s =
    (length bytes, s.sent ∙ ap (λ b. option_map (with_sent link b) old.told) (sym (take_all (length bytes) bytes (omega arith))))
went_out link bytes (Err e) old new s = s.sent

pub grow_send : (link : ℕ) (bytes : List ℕ) (result : Result (Unit {0}) Failed) (old new : Links) → SendsOnLink link bytes result old new → LinksGrow old new
grow_send link bytes result old new s =
    let out = went_out link bytes result old new s in
    grow_rest old new (omega (arith, s.same_dialled)) (counts_later link old.faults new.faults result s.faults) (ap is_some out.1 ∙ is_some-option_map _ old.told) (ap is_some s.same_heard)
    (λ i. subst (λ (t : Option (List ToldLink)). IsFront (sent_at old.told i) (sent_at t i)) (sym out.1) (sent_at-front old.told link (take out.0 bytes) i))
    (fronts_heard _ _ s.same_heard)
    s.same_readings
    (ap is_some s.same_planned)
    s.same_upcoming

pub grow_read : (reading : ℕ) (old new : Links) → ReadsClock reading old new → LinksGrow old new
grow_read reading old new r = record {
  dialled = omega (arith, r.same_dialled);
  faults = λ i. omega (arith, ap (λ (f : ℕ → ℕ). f i) r.same_faults);
  same_told = ap is_some r.same_told;
  same_heard = ap is_some r.same_heard;
  same_planned = ap is_some r.same_planned;
  same_upcoming = becomes_some (UsesReading reading) old.upcoming new.upcoming r.upcoming;
  sent = fronts_sent _ _ r.same_told;
  answers = fronts_heard _ _ r.same_heard;
  readings = reads_grown reading old.readings new.readings r.readings;
}

-- ---- runs

-- a run on the disk alone is one
pub host_run : (o o' : Outside) → DiskRun o o' → o.clock ≤ o'.clock → HostRun o o'
host_run o o' run clock = record { same_files = run.same_told; later = run.later; clock = clock; links = grow_same o.links o'.links run.same_links; calls = run.calls }

some_of : {A : Type 0} (a b : Option A) (x : A) → is_some b ≡ is_some a → b ≡ Some x → (y : A) × (a ≡ Some y)
some_of None None x same told = cc
some_of None (Some b) x same told = cc
some_of (Some a) b x same told = (a, refl)

pub told_after : (o o' : Outside) → HostRun o o' → TellsAll o → TellsAll o'
told_after o o' run told =
    let files = some_of o'.files o.files told.two (sym run.same_files) told.files_are in
    let links = some_of o'.links.told o.links.told told.links (sym run.links.same_told) told.links_are in
    let heard = some_of o'.links.heard o.links.heard told.heard (sym run.links.same_heard) told.heard_are in
    record { two = files.0; files_are = files.1; links = links.0; links_are = links.1; heard = heard.0; heard_are = heard.1 }

plans_same : (link : ℕ) (p q : Option (ℕ → List Planned)) → q ≡ p → RelatesTold (λ (p q : ℕ → List Planned). (i : ℕ) → i ≢ link → q i ≡ p i) p q
plans_same link None None same = tt
plans_same link None (Some q) same = cc
plans_same link (Some p) None same = cc
plans_same link (Some p) (Some q) same = λ i _. let one : q ≡ p = cc in ap (λ (f : ℕ → List Planned). f i) one

pub others_dial : (link : ℕ) (spec : List ℕ) (result : Result ℕ Failed) (old new : Links) → DialsLink spec result old new → OthersKeep link old new
others_dial link spec (Ok made) old new d = record {
  sent = λ i _. ap (λ t. sent_at t i) d.made.2 ∙ sent_at-pushed old.told spec i;
  answers = λ i _. ap (λ t. answers_at t i) d.made.3 ∙ ap (λ (h : HeardOn). h.answers) (heard_at-pushed old.heard i);
  planned = plans_same link old.planned new.planned d.same_planned;
}
others_dial link spec (Err e) old new d = record {
  sent = λ i _. ap (λ t. sent_at t i) d.made.1;
  answers = λ i _. ap (λ t. answers_at t i) d.made.2;
  planned = plans_same link old.planned new.planned d.same_planned;
}

pub others_nonce : (link other_link : ℕ) (result : Result (List ℕ) Failed) (old new : Links) → AsksNonce other_link result old new → OthersKeep link old new
others_nonce link other_link result old new a = record {
  sent = λ i _. ap (λ t. sent_at t i) a.same_told;
  answers = λ i _. ap (λ t. answers_at t i) a.same_heard;
  planned = plans_same link old.planned new.planned a.same_planned;
}

-- ---- moments
-- the moments of a call that sends nothing are as those before it
pub quiet_moments : (o o' : Outside) (two : Two File) → QuietCall o o' → o'.links.told ≡ o.links.told → o.files ≡ Some two → (m : Moment) → o'.moments o'.clock m → IsNow two o.links m
quiet_moments o o' two call same files m w =
    let now = o'.now_is two m (call.same_files ∙ files) w in
    record { image = now.image; sent = now.sent ∙ ap sent_of same }

pub send_moments : (o : Outside) (told : TellsAll o) (link : ℕ) (bytes : List ℕ) → link < o.links.dialled → (m : Moment) → SendsPart o link bytes m → SendMoment o told.two link bytes m
send_moments o told link bytes within m part =
    let inside : link < length told.links = omega (arith, within, o.all_told told.links told.links_are) in
    record {
      image = part.image told.two told.files_are;
      count = part.count;
      here = ap (λ (s : List (List ℕ)). slice_index_or s link []) part.sent ∙ sent_at-with_sent o.links.told told.links link (take part.count bytes) told.links_are inside;
      others = λ i other. ap (λ (s : List (List ℕ)). slice_index_or s i []) part.sent ∙ sent_at-other o.links.told link (take part.count bytes) i other;
    }
