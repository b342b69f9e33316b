-- Calls that make links, ask for nonces and end links: they change no file and send nothing.
use Rattle.std.proofs.Common.{◌≡◌, ℕ, zero, suc, ◌+◌, ◌<◌, ◌≤◌, List, [], ◌∷◌, ◌++◌, length, take, drop}
use Rattle.std.proofs.Common.{refl, sym, ap, ◌∙◌, subst, inl, inr, arith, Option, None, Some, Result, Ok}
use Rattle.std.proofs.Common.{Err, is_some, slice_index_or, append-nil, append_assoc, add-one}
use Rattle.std.specs.Bool.{if◌then◌else◌}
use Rattle.std.specs.Result.{is_ok}
use Rattle.std.specs.List.{slice_get}
use Rattle.std.specs.Option.{option_map}
use Rattle.std.proofs.lemmas.Bool.{cases_eq}
use Rattle.std.proofs.lemmas.List.{length-append, length-take, map-append, take-append-drop}
use Rattle.outside.specs.declared.failed.Failed.{Failed}
use Rattle.outside.specs.Host.{AsksNonce, DialsLink, LinkCause}
use Rattle.outside.specs.Links.{HeardOn, ToldLink, Links, nothing_heard}
use Rattle.outside.specs.Outside.{IsNow, Outside, QuietCall}
use Rattle.outside.proofs.CallCounts.{no_call_none, no_call_then, no_call_goes_on}
use Rattle.outside.specs.Runs.{HostRun, IsFront, LinksGrow}
use Rattle.outside.proofs.RunLaws.{grow_dial, grow_nonce, grow_same, grow_then, others_dial, others_nonce}
use Rattle.sync_run.proofs.CauseLaws.{once_behind}
use Rattle.sync_node.specs.Output.{sent_on}
use Rattle.sync_node.specs.Plans.{session_of}
use Rattle.sync_words.specs.declared.link_words.LinkWords.{LinkWords}
use Rattle.sync_run.specs.declared.dialling.Dialled.{Dialled}
use Rattle.sync_run.specs.Dialling.{AreDialled, DialsOnly, DialsAll, FailedOnce, MakesAll, MakesLinks, MakesOne}
use Rattle.sync_run.specs.Dialling.{NoneFailed, PassesTime, fresh_links, unheard}
use Rattle.sync_run.specs.Plans.{ArePlanned, IsPlanned, sessions_from}

-- ---- calls that send nothing

pub calms_then : (o0 o1 o2 : Outside) → DialsOnly o0 o1 → DialsOnly o1 o2 → DialsOnly o0 o2
calms_then o0 o1 o2 first second = record {
  same_files = second.same_files ∙ first.same_files;
  same_faults = second.same_faults ∙ first.same_faults;
  no_call = no_call_then o0 o1 o2 first.no_call second.no_call;
  later = omega (arith, first.later, second.later);
  grows = grow_then o0.links o1.links o2.links first.grows second.grows;
  sent = λ link. second.sent link ∙ first.sent link;
  moments = λ two told t m before w.
      elim (second.moments two (first.same_files ∙ told) t m (omega (arith, before, first.later))
      w) [
        | inl old ↦ first.moments two told t m before old
        | inr calm ↦ inr (record {
          image = calm.image;
          same_sent = λ link. calm.same_sent link ∙ first.sent link;
        })
      ];
}

calms_call : (o o' : Outside) → QuietCall o o' → LinksGrow o.links o'.links
    → ((link : ℕ) → sent_on o'.links link ≡ sent_on o.links link) → DialsOnly o o'
calms_call o o' call grows sent = record {
  same_files = call.same_files;
  same_faults = call.same_faults;
  no_call = call.calls;
  later = call.time.later;
  grows = grows;
  sent = sent;
  moments = λ two told t m before w. elim (call.time.nothing_else t m before w) [
    | inl old ↦ inl old
    | inr now ↦
        let is = o'.now_is two m (call.same_files ∙ told) now in
        inr (record {
          image = is.image;
          same_sent = λ link.
              ap (λ (s : List (List ℕ)). slice_index_or s link []) is.sent ∙ sent link;
        })
  ];
}

pub calms_dial : (o o' : Outside) (spec : List ℕ) (result : Result ℕ Failed) → QuietCall o o'
    → DialsLink spec result o.links o'.links → DialsOnly o o'
calms_dial o o' spec result call dials =
    calms_call o o' call (grow_dial spec result o.links o'.links dials)
    (λ link. (others_dial (suc link) spec result o.links o'.links dials).sent link
    (λ same. absurd (omega (arith, same))))

pub calms_nonce : (o o' : Outside) (of : ℕ) (result : Result (List ℕ) Failed) → QuietCall o o'
    → AsksNonce of result o.links o'.links → DialsOnly o o'
calms_nonce o o' of result call asks =
    calms_call o o' call (grow_nonce of result o.links o'.links asks)
    (λ link. (others_nonce (suc link) of result o.links o'.links asks).sent link
    (λ same. absurd (omega (arith, same))))

-- ---- calls that leave all but the time

pub stills_none : (o : Outside) → PassesTime o o
stills_none o = record {
  same_files = refl;
  same_faults = refl;
  no_call = no_call_none o;
  same_links = refl;
  later = omega arith;
  moments = λ two told t m before w. w;
}

pub stills_then : (o0 o1 o2 : Outside) → PassesTime o0 o1 → PassesTime o1 o2 → PassesTime o0 o2
stills_then o0 o1 o2 first second = record {
  same_files = second.same_files ∙ first.same_files;
  same_faults = second.same_faults ∙ first.same_faults;
  no_call = no_call_then o0 o1 o2 first.no_call second.no_call;
  same_links = second.same_links ∙ first.same_links;
  later = omega (arith, first.later, second.later);
  moments = λ two told t m before w.
      first.moments two told t m before
      (second.moments two (first.same_files ∙ told) t m (omega (arith, before, first.later)) w);
}

pub stills_call : (o o' : Outside) → QuietCall o o' → o'.links ≡ o.links → PassesTime o o'
stills_call o o' call same = record {
  same_files = call.same_files;
  same_faults = call.same_faults;
  no_call = call.calls;
  same_links = same;
  later = call.time.later;
  moments = λ two told t m before w. elim (call.time.nothing_else t m before w) [
    | inl old ↦ old
    | inr now ↦
        let is = o'.now_is two m (call.same_files ∙ told) now in
        o.since t m before (o.is_now two m told (subst (λ (l : Links). IsNow two l m) same is))
  ];
}

pub calms_stills : (o o' : Outside) → PassesTime o o' → DialsOnly o o'
calms_stills o o' stills = record {
  same_files = stills.same_files;
  same_faults = stills.same_faults;
  no_call = stills.no_call;
  later = stills.later;
  grows = grow_same o.links o'.links stills.same_links;
  sent = λ link. ap (λ (l : Links). sent_on l link) stills.same_links;
  moments = λ two told t m before w. inl (stills.moments two told t m before w);
}

-- a run of such calls is one of a host
pub calms_run : (o o' : Outside) → DialsOnly o o' → HostRun o o'
calms_run o o' calms = record {
  same_files = ap is_some calms.same_files;
  later = omega (arith, calms.same_faults);
  clock = calms.later;
  links = calms.grows;
  calls = no_call_goes_on o o' calms.no_call;
}

-- ---- links that are made

pub no_links_made : (o o' : Outside) → o'.links ≡ o.links → MakesLinks [] o.links o'.links
no_links_made o o' same = record {
  grows = grow_same o.links o'.links same;
  dialled =
      let plain : o.links.dialled ≡ o.links.dialled + 0 = omega arith in
      ap (λ (l : Links). l.dialled) same ∙ plain;
  told = ap (λ (l : Links). l.told) same ∙ none_more o.links.told;
  heard = ap (λ (l : Links). l.heard) same ∙ none_more o.links.heard;
  same_readings = ap (λ (l : Links). l.readings) same;
}
  where
    none_more : {A : Type 0} (x : Option (List A)) → x ≡ option_map (λ (l : List A). l ++ []) x
    none_more None = refl
    none_more (Some l) = ap (λ (k : List _). Some k) (sym (append-nil l))

both_more : {A : Type 0} (t : Option (List A)) (xs ys zs : List A) → zs ≡ xs ++ ys
    → option_map (λ (l : List A). l ++ ys) (option_map (λ (l : List A). l ++ xs) t)
    ≡ option_map (λ (l : List A). l ++ zs) t
both_more None xs ys zs is = refl
both_more (Some l) xs ys zs is = ap Some (append_assoc l xs ys ∙ ap (λ r. l ++ r) (sym is))

unheard_words : (ws vs : List LinkWords)
    → unheard (length (ws ++ vs)) ≡ unheard (length ws) ++ unheard (length vs)
unheard_words [] vs = refl
unheard_words (w ∷ ws) vs = ap (λ l. nothing_heard ∷ l) (unheard_words ws vs)

pub makes_then : (ws vs : List LinkWords) (a b c : Links) → MakesLinks ws a b → MakesLinks vs b c
    → MakesLinks (ws ++ vs) a c
makes_then ws vs a b c first second = record {
  grows = grow_then a b c first.grows second.grows;
  dialled = omega (arith, first.dialled, second.dialled, length-append ws vs);
  told = second.told ∙ ap (option_map (λ (ls : List ToldLink). ls ++ fresh_links vs)) first.told
      ∙ both_more a.told (fresh_links ws) (fresh_links vs) (fresh_links (ws ++ vs))
      (map-append (λ (w : LinkWords). record { spec = w.spec; sent = [] }) ws vs);
  heard =
      second.heard ∙ ap (option_map (λ (hs : List HeardOn). hs ++ unheard (length vs))) first.heard
      ∙ both_more a.heard (unheard (length ws)) (unheard (length vs))
      (unheard (length (ws ++ vs))) (unheard_words ws vs);
  same_readings = second.same_readings ∙ first.same_readings;
}

pub makes_dialled : (w : LinkWords) (spec : List ℕ) (link : ℕ) (old new : Links) → spec ≡ w.spec
    → DialsLink spec (Ok link) old new → MakesLinks (w ∷ []) old new
makes_dialled w spec link old new is dials = record {
  grows = grow_dial spec (Ok link) old new dials;
  dialled = omega (arith, dials.made.1);
  told = dials.made.2 ∙ ap (λ (s : List ℕ). option_map (λ (ls : List ToldLink).
      ls ++ record { spec = s; sent = [] } ∷ []) old.told) is;
  heard = dials.made.3;
  same_readings = dials.same_readings;
}

pub makes_asked : (ws : List LinkWords) (link : ℕ) (result : Result (List ℕ) Failed)
    (a b c : Links) → MakesLinks ws a b → AsksNonce link result b c → MakesLinks ws a c
makes_asked ws link result a b c makes asks = record {
  grows = grow_then a b c makes.grows (grow_nonce link result b c asks);
  dialled = asks.same_dialled ∙ makes.dialled;
  told = asks.same_told ∙ makes.told;
  heard = asks.same_heard ∙ makes.heard;
  same_readings = asks.same_readings ∙ makes.same_readings;
}

-- ---- all links of some words

take_next : {A : Type 0} (xs : List A) (i : ℕ) (x : A) → slice_get xs i ≡ Some x
    → take (suc i) xs ≡ take i xs ++ x ∷ []
take_next [] i x there = cc
take_next (y ∷ ys) zero x there = cc
take_next (y ∷ ys) (suc i) x there = ap (λ l. y ∷ l) (take_next ys i x there)

pub makes_next : (words : List LinkWords) (i : ℕ) (w : LinkWords) (a b c : Links)
    → slice_get words i ≡ Some w → MakesLinks (take i words) a b → MakesLinks (w ∷ []) b c
    → MakesLinks (take (i + 1) words) a c
makes_next words i w a b c there first second =
    let next : take (i + 1) words ≡ take i words ++ w ∷ [] =
    rw add-one (take_next words i w there) in
    subst (λ (ws : List LinkWords). MakesLinks ws a c) (sym next)
    (makes_then (take i words) (w ∷ []) a b c first second)

front_take : {A : Type 0} (i : ℕ) (xs : List A) → IsFront (take i xs) xs
front_take i xs = record { rest = drop i xs; whole = sym (take-append-drop i xs) }

pub dialled_push : (first : ℕ) (words : List LinkWords) (links : List Dialled) (w : LinkWords)
    (d : Dialled) → ArePlanned first words (sessions_from first links)
    → slice_get words (length links) ≡ Some w
    → ((n : ℕ) → IsPlanned n w (session_of n d.plan d.nonce))
    → ArePlanned first words (sessions_from first (links ++ d ∷ []))
dialled_push first [] [] w d are there is = cc
dialled_push first (v ∷ words) [] w d are there is =
    let same : w ≡ v = cc in (
      subst (λ (x : LinkWords). IsPlanned first x (session_of first d.plan d.nonce)) same
          (is first),
      tt,
    )
dialled_push first [] (x ∷ links) w d are there is = absurd are
dialled_push first (v ∷ words) (x ∷ links) w d are there is =
    (are.0, dialled_push (suc first) words links w d are.1 there is)

-- ---- a call that failed

-- no count changed where the call of one link succeeded
none_by : {T : Type 0} (link : ℕ) (t : T) (old new : ℕ → ℕ)
    → LinkCause {E = Failed} link old new (Ok t) → NoneFailed old new
none_by link t old new cause i = elim (cases_eq i link) [
  | inl here ↦ subst (λ (k : ℕ). new k ≡ old k) (sym here) cause.counts
  | inr other ↦ cause.others i other
]

once_by : {T : Type 0} (link : ℕ) (e : Failed) (old new : ℕ → ℕ)
    → LinkCause {T = T} link old new (Err e) → FailedOnce link old new
once_by link e old new cause = record { once = cause.counts; others = cause.others }

pub none_then : (a b c : ℕ → ℕ) → NoneFailed a b → NoneFailed b c → NoneFailed a c
none_then a b c first second i = second i ∙ first i

-- a dial that failed
pub dial_fails : (spec : List ℕ) (e : Failed) (a b : Links) → DialsLink spec (Err e) a b
    → FailedOnce a.dialled a.faults b.faults
dial_fails spec e a b dials = once_by a.dialled e a.faults b.faults dials.faults

-- a dial, and a nonce that was drawn
pub dial_well : (spec : List ℕ) (link : ℕ) (a b : Links) → DialsLink spec (Ok link) a b
    → NoneFailed a.faults b.faults
dial_well spec link a b dials = none_by a.dialled link a.faults b.faults dials.faults

pub nonce_well : (link : ℕ) (nonce : List ℕ) (a b : Links) → AsksNonce link (Ok nonce) a b
    → NoneFailed a.faults b.faults
nonce_well link nonce a b asks = none_by link nonce a.faults b.faults asks.faults

-- a nonce that could not be drawn for the link that was dialled
pub nonce_fails : (spec : List ℕ) (link : ℕ) (e : Failed) (a b c d : Links)
    → DialsLink spec (Ok link) a b → AsksNonce link (Err e) b c → d ≡ c
    → FailedOnce a.dialled a.faults d.faults
nonce_fails spec link e a b c d dials asks same =
    let failed : FailedOnce a.dialled b.faults c.faults =
    subst (λ (k : ℕ). FailedOnce k b.faults c.faults) dials.made.0
    (once_by link e b.faults c.faults asks.faults) in
    subst (λ (l : Links). FailedOnce a.dialled a.faults l.faults) (sym same)
    (once_behind a.dialled a.faults b.faults c.faults (dial_well spec link a b dials) failed)

-- the call on the link of this number failed
pub dial_stops : (words : List LinkWords) (links : List Dialled) (i : ℕ) (w : LinkWords)
    (e : Failed) (o0 o1 o2 : Outside) → o0.links.dialled ≡ 0 → length links ≡ i
    → slice_get words i ≡ Some w → i < length words → AreDialled words links
    → MakesLinks (take i words) o0.links o1.links → NoneFailed o0.links.faults o1.links.faults
    → MakesOne {T = Unit {0}} w (Err e) o1.links o2.links → DialsAll words links (Err e) o0 o2
dial_stops words links i w e o0 o1 o2 none long there within are makes unfailed one =
    let len : (n : ℕ) → n ≤ length words → length (take n words) ≡ n =
    λ n most. omega (arith, length-take n words, most) in
    let at : o1.links.dialled ≡ length links =
    omega (arith, makes.dialled, none, len i (omega (arith, within)), long) in
    let failed : FailedOnce (length links) o1.links.faults o2.links.faults =
    subst (λ (k : ℕ). FailedOnce k o1.links.faults o2.links.faults) at one.0 in
    let all : MakesAll words [] (length links) (Err e) o0.links o2.links =
    (omega (arith, within, long), once_behind (length links) _ _ _ unfailed failed) in
    elim one.1 [
      | inl none_made ↦ record {
        made = take i words ++ [];
        front = subst (λ (l : List LinkWords). IsFront l words) (sym (append-nil (take i words)))
            (front_take i words);
        makes = makes_then (take i words) [] o0.links o1.links o2.links makes none_made;
        dialled = are;
        count = omega (
          arith,
          long,
          len i (omega (arith, within)),
          length-append (take i words) [],
        );
        all = all;
      }
      | inr one_made ↦ record {
        made = take (i + 1) words;
        front = front_take (i + 1) words;
        makes = makes_next words i w o0.links o1.links o2.links there makes one_made;
        dialled = are;
        count = omega (arith, long, len (i + 1) (omega (arith, within)));
        all = all;
      }
    ]

-- a value that was put behind others
pub pushed : {A T E : Type 0} (r : Result T E) (t : T) (new xs ys : List A) → r ≡ Ok t
    → new ≡ (if is_ok r then ys else xs) → new ≡ ys
pushed r t new xs ys ok is = is ∙ ap (λ q. if is_ok q then ys else xs) ok
