-- Laws for callers: what the calls of a store come to, for a course: which batches stand behind a
-- call, whatever it answers.
use Rattle.std.proofs.Common.{◌≡◌, false, List, [], ◌∷◌, ◌++◌, append-nil, refl, sym, ◌∙◌, ap, subst, inl, inr, Option, Some, None, is_some}
use Rattle.outside.specs.Files.{Two, File, read_files}
use Rattle.outside.specs.Links.{sent_of}
use Rattle.outside.specs.Outside.{LinkCall, MakesAtMost, Outside, Moment}
use Rattle.outside.proofs.CallCounts.{most_link, most_none}
use Rattle.sync_rules.specs.declared.entries.Entry.{Entry}
use Rattle.sync_rules.specs.Clients.{Meaning}
use Rattle.sync_rules.specs.Facts.{Journal}
use Rattle.entry_codec.specs.Standing.{journal}
use Rattle.sync_store.specs.Store.{StoreValue}
use Rattle.sync_store.specs.Fitting.{FitsFiles, FitsSome}
use Rattle.sync_store.specs.Moments.{IsBetween, LeadsTo, WithAtMost}
use Rattle.sync_node.specs.Courses.{FitsWith, ReadsFront}

-- files that are told on one side of a call are told on the other
pub told_as : {A : Type 0} (a b : Option A) (x : A) → is_some b ≡ is_some a → a ≡ Some x
    → (y : A) × (b ≡ Some y)
told_as None b x same is = cc
told_as (Some a) None x same is = cc
told_as (Some a) (Some b) x same is = (b, refl)

-- the journal that files fit a store with is one
one_fit : (clients : Meaning) (s : StoreValue) (j k : Journal) (two : Two File)
    → FitsFiles clients s j two → FitsFiles clients s k two → j ≡ k
one_fit clients s j k two first second =
    let e : journal j ≡ journal k = sym first.stands_for ∙ second.stands_for in
    cc

-- calls that leave files and store
pub fits_on : (clients : Meaning) (s : StoreValue) (o o' : Outside) → o'.files ≡ o.files
    → (j : Journal) → FitsWith clients s o.files j
    → FitsWith clients s o'.files j
fits_on clients s o o' same j fit =
    subst (λ (f : Option (Two File)). FitsWith clients s f j) (sym same) fit

-- where the store is still open, what a call committed stands behind the journal
pub fits_grown : (clients : Meaning) (s s' : StoreValue) (more : Journal) (o o' : Outside)
    (P : Journal → Journal → Type 0) → is_some o'.files ≡ is_some o.files
    → s'.closed ≡ false
    → ((two : Two File) → o.files ≡ Some two → (j : Journal) → FitsFiles clients s j two
    → LeadsTo clients (P j) (λ whole. whole ≡ j ++ more) s' o o')
    → (j : Journal) → FitsWith clients s o.files j
    → FitsWith clients s' o'.files (j ++ more)
fits_grown clients s s' more o o' P told still leads j fit =
    let two' = told_as o.files o'.files fit.0 told fit.1 in
    let end = (leads fit.0 fit.1 j fit.2).ends still two'.0 two'.1 in
    (two'.0, two'.1, subst (λ (whole : Journal). FitsFiles clients s' whole two'.0) end.1 end.2)

-- whatever the call answered, the files as they read stand for the journal with some of what it was
-- to commit
pub reads_front : (clients : Meaning) (s s' : StoreValue) (may : Journal) (o o' : Outside)
    (P Q : Journal → Journal → Type 0) → FitsSome clients s o.files → is_some o'.files ≡ is_some o.files
    → ((j whole : Journal) → P j whole → IsBetween j may whole)
    → ((two : Two File) → o.files ≡ Some two → (j : Journal) → FitsFiles clients s j two → LeadsTo clients (P j) (Q j) s' o o')
    → ReadsFront clients may s o o'
reads_front clients s s' may o o' P Q fits told between leads = by_files o.files refl
  where
    by_files : (files : Option (Two File)) → o.files ≡ files → ReadsFront clients may s o o'
    by_files None is = record {
      front = [];
      others = may;
      parts = refl;
      reads = λ j fit. let no_files : None ≡ Some fit.0 = sym is ∙ fit.1 in cc;
    }
    by_files (Some two) is =
        let j0 : Journal = (fits two is).0 in
        let fit0 : FitsFiles clients s j0 two = (fits two is).1 in
        let led = leads two is j0 fit0 in
        let two' = told_as o.files o'.files two told is in
        let m : Moment = record { files = read_files two'.0; sent = sent_of o'.links.told } in
        let now : o'.moments o'.clock m = o'.is_now two'.0 m two'.1 (record { image = o'.reads two'.0 two'.1; sent = refl }) in
        let at = led.moments.each m (o'.since o.clock m led.moments.later now) in
        let cut = between j0 at.whole at.has in
        record {
          front = cut.front;
          others = cut.rest;
          parts = cut.parts;
          reads = λ j fit.
              let files : Some two ≡ Some fit.0 = sym is ∙ fit.1 in
              let same_two : two ≡ fit.0 = cc in
              let same : j0 ≡ j =
              one_fit clients s j0 j two fit0 (subst (λ (t : Two File). FitsFiles clients s j t) (sym same_two) fit.2) in
              (two'.0, two'.1, at.stands_for ∙ ap journal (cut.is ∙ ap (λ (k : Journal). k ++ cut.front) same));
        }

-- ---- one batch

pub at_most_between : (batch : List Entry) (j whole : Journal) → WithAtMost j batch whole
    → IsBetween j (batch ∷ []) whole
at_most_between batch j whole at_most =
    elim at_most [
      | inl same ↦ record { front = []; rest = batch ∷ []; parts = refl; is = same ∙ sym (append-nil j) }
      | inr more ↦ record { front = batch ∷ []; rest = []; parts = refl; is = more }
    ]

-- a call on the links or the clock asks the disk nothing
pub quiet_most : (during : Moment → Type 0) (o o' : Outside) → LinkCall during o o'
    → MakesAtMost 0 o o'
quiet_most during o o' call = most_link 0 during o o o' (most_none 0 o) call
