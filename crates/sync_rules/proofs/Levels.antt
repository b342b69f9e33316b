-- Which groups are known: each that is not Invisible to some contact.
use Rattle.std.proofs.Common.{◌≡◌, ℕ, true, false, cond, ◌&&◌, nat_eq, List, [], ◌∷◌, refl, sym, ◌∙◌, ap, subst, is_some}
use Rattle.std.proofs.lemmas.Bool.{and_parts, false≢true}
use Rattle.sync_rules.specs.declared.entries.Entry.{Entry}
use Rattle.sync_rules.specs.declared.entries.Entry.TheVariants as entry
use Rattle.sync_rules.specs.declared.entries.Level.{Level}
use Rattle.sync_rules.specs.Clients.{Meaning}
use Rattle.sync_rules.specs.Lists.{same_id}
use Rattle.sync_rules.specs.Facts.{Facts, Id, after, after_all, nothing, facts, entries_of, group_at, level_at, is_invisible, known_of}
use Rattle.sync_rules.specs.Legal.{Legal}
use Rattle.sync_rules.specs.Views.{KnowsShown}
use Rattle.sync_rules.proofs.Elements.{same_id-is}
use Rattle.sync_rules.proofs.Sound.{group_at-push}
use Rattle.sync_rules.proofs.Kept.{Fits, AllFit, after_batches-is}
use Rattle.sync_rules.proofs.Runs.{legal_fits}
use Rattle.sync_rules.proofs.ScanLaws.{level_at_set, level_found}

-- ---- legal journals

-- setting the level of a known group
level_keeps : (f : Facts) (c : ℕ) (g : Id) (l : Level) → is_some (group_at f.groups g) ≡ true → KnowsShown f → KnowsShown (after f (entry.Level c g l))
level_keeps f c g l known shown contact group seen =
    elim (nat_eq contact c && same_id group g) as (λ b. (nat_eq contact c && same_id group g) ≡ b
    → is_invisible (cond b l (level_at f.levels contact group)) ≡ false → is_some (group_at f.groups group) ≡ true) [
      | true ↦ λ e _. let both = and_parts (nat_eq contact c) (same_id group g) e in
          ap (λ (x : Id). is_some (group_at f.groups x)) (same_id-is group g both.1) ∙ known
      | false ↦ λ e s. shown contact group s
    ] refl (ap is_invisible (sym (level_at_set f.levels contact c group g l)) ∙ seen)

shown_after : (clients : Meaning) (f : Facts) (e : Entry) → Fits clients f e → KnowsShown f → KnowsShown (after f e)
shown_after clients f (entry.Level c g l) fit shown = level_keeps f c g l fit shown
shown_after clients f (entry.Group def) fit shown = λ contact group seen.
    let was : is_some (group_at f.groups group) ≡ true = shown contact group seen in
    ap is_some (group_at-push f.groups (known_of def) group was) ∙ was
shown_after clients f _ fit shown = shown

shown_all : (clients : Meaning) (f : Facts) (es : List Entry) → AllFit clients f es → KnowsShown f → KnowsShown (after_all f es)
shown_all clients f [] fit shown = shown
shown_all clients f (e ∷ es) fit shown = shown_all clients (after f e) es fit.1 (shown_after clients f e fit.0 shown)

shown_nothing : KnowsShown nothing
shown_nothing contact group seen =
    absurd (false≢true (sym seen ∙ ap is_invisible (sym (level_found contact group []))))

pub legal_knows_shown : (clients : Meaning) (j : List (List Entry)) → Legal clients j → KnowsShown (facts j)
legal_knows_shown clients j l =
    subst KnowsShown (sym (after_batches-is nothing j)) (shown_all clients nothing (entries_of j) (legal_fits clients j l) shown_nothing)
