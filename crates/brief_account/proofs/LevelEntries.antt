-- The levels of a brief account: its Level entries may follow one after the other, and make known the levels told.
use Rattle.std.proofs.Common.{◌≡◌, ℕ, zero, suc, ◌<◌, ◌≤◌, true, false, cond, ◌||◌, List, [], ◌∷◌}
use Rattle.std.proofs.Common.{◌++◌, Option, Some, None, is_some, refl, sym, ◌∙◌, ap, subst, arith}
use Rattle.std.proofs.Common.{unwrap_or}
use Rattle.std.specs.FinMap as fin_map
use Rattle.std.proofs.lemmas.Bool.{or_left, or_right, false≢true}
use Rattle.sync_rules.specs.declared.entries.Entry.{Entry}
use Rattle.sync_rules.specs.declared.entries.Level.{Level}
use Rattle.sync_rules.specs.declared.entries.Level.TheVariants as level
use Rattle.sync_rules.specs.declared.states.Start.TheVariants as start
use Rattle.sync_rules.specs.Clients.{Meaning}
use Rattle.sync_rules.specs.Lists.{same_id, is_among}
use Rattle.sync_rules.specs.Facts.{Facts, Id, Known, LevelMap, after, after_all, facts, group_at}
use Rattle.sync_rules.specs.Facts.{is_invisible, level_at}
use Rattle.sync_rules.specs.Steps.{IsSettled}
use Rattle.sync_rules.specs.Legal.{GoesOn, Legal}
use Rattle.sync_rules.specs.Consistency.{HasLevels, IsLevelOf, ids_of_groups}
use Rattle.sync_rules.proofs.Elements.{same_id_itself}
use Rattle.sync_rules.proofs.Kept.{after_all-append}
use Rattle.sync_rules.proofs.StepKinds.{same_next}
use Rattle.sync_rules.proofs.ConsistencyLaws.{legal_consistent}
use Rattle.brief_account.specs.Brief.{each_alone, level_entries, level_entry, levels_of}
use Rattle.brief_account.proofs.PeersMaps.{fill, fill_below, filled_whole, put}

-- facts of a brief account whose levels are these
abbrev with_levels : Facts → LevelMap → Facts
with_levels g levels = record g { start = start.Opening; levels = levels }

among_groups : (gs : List Known) (id : Id) → is_among (ids_of_groups gs) id ≡ is_some (group_at gs id)
among_groups [] id = refl
among_groups (g ∷ gs) id =
    elim (same_id g.id id) as (λ b. (b || is_among (ids_of_groups gs) id) ≡ is_some (cond b (Some g) (group_at gs id))) [
      | true ↦ refl
      | false ↦ among_groups gs id
    ]

-- ---- what they make known

-- no level that is stored is Invisible
abbrev ShowsAll : LevelMap → Type 0
ShowsAll from = (contact : ℕ) (group : Id) (l : Level) → fin_map.get from (contact, group) ≡ Some l
    → is_invisible l ≡ false

one_put : (g : Facts) (into : LevelMap) (c : ℕ) (id : Id) (o : Option Level)
    → ((l : Level) → o ≡ Some l → is_invisible l ≡ false)
    → after_all (with_levels g into) (level_entry c id (unwrap_or o level.Invisible))
    ≡ with_levels g (put into (c, id) o)
one_put g into c id None shown = refl
one_put g into c id (Some level.Invisible) shown = absurd (false≢true (sym (shown level.Invisible refl)))
one_put g into c id (Some level.Visible) shown = refl
one_put g into c id (Some level.Shared) shown = refl

module _ (g : Facts) (from : LevelMap) (shown : ShowsAll from) where
  all_put : (into : LevelMap) (c : ℕ) (gs : List Known)
      → after_all (with_levels g into) (levels_of from c gs) ≡ with_levels g (fill from into c (ids_of_groups gs))
  all_put into c [] = refl
  all_put into c (x ∷ gs) =
      after_all-append (with_levels g into) (level_entry c x.id (level_at from c x.id)) (levels_of from c gs)
      ∙ (ap (λ h. after_all h (levels_of from c gs)) (one_put g into c x.id (fin_map.get from (c, x.id)) (shown c x.id))
      ∙ all_put (put into (c, x.id) (fin_map.get from (c, x.id))) c gs)

  below_put : (into : LevelMap) (gs : List Known) (n : ℕ)
      → after_all (with_levels g into) (level_entries from gs n)
      ≡ with_levels g (fill_below from into (ids_of_groups gs) n)
  below_put into gs zero = refl
  below_put into gs (suc n) =
      after_all-append (with_levels g into) (level_entries from gs n) (levels_of from n gs)
      ∙ (ap (λ h. after_all h (levels_of from n gs)) (below_put into gs n)
      ∙ all_put (fill_below from into (ids_of_groups gs) n) n gs)

-- the levels afterwards are those that are told
levels_reached : (f g : Facts) → HasLevels f → g.start ≡ start.Opening → g.levels ≡ fin_map.empty
    → after_all g (level_entries f.levels f.groups f.contacts) ≡ record g { levels = f.levels }
levels_reached f g has opening none =
    (λ i. after_all (record g { start = opening i; levels = none i }) (level_entries f.levels f.groups f.contacts))
    ∙ (below_put g f.levels (λ contact group l at. (has contact group l at).not_invisible) fin_map.empty f.groups
    f.contacts
    ∙ (λ i. record g { start = sym opening i; levels = whole i }))
  where
    whole : fill_below f.levels fin_map.empty (ids_of_groups f.groups) f.contacts ≡ f.levels
    whole = filled_whole f.levels (ids_of_groups f.groups) f.contacts
        (λ contact group l at.
        let is : IsLevelOf f contact group l = has contact group l at in
        (is.known_contact, among_groups f.groups group ∙ is.known_group))

-- ---- that they may follow

alone_both : (clients : Meaning) (h : Facts) (es fs : List Entry) → GoesOn clients h (each_alone es)
    → GoesOn clients (after_all h es) (each_alone fs)
    → GoesOn clients h (each_alone (es ++ fs))
alone_both clients h [] fs a b = b
alone_both clients h (e ∷ es) fs a b = (a.0, alone_both clients (after h e) es fs a.1 b)

module _ (clients : Meaning) (g : Facts) (settled : IsSettled clients g) (from : LevelMap) (shown : ShowsAll from) where
  still_settled : (into : LevelMap) → IsSettled clients (with_levels g into)
  still_settled into =
      same_next clients g (with_levels g into)
      (record { groups = refl; held = refl; judged = refl; invalid = refl; delivered = refl }) ∙ settled

  one_follows : (into : LevelMap) (c : ℕ) (id : Id) (l : Level) → c < g.contacts → is_some (group_at g.groups id) ≡ true
      → GoesOn clients (with_levels g into) (each_alone (level_entry c id l))
  one_follows into c id level.Invisible known group = tt
  one_follows into c id level.Visible known group = ((refl, still_settled into, (known, group)), tt)
  one_follows into c id level.Shared known group = ((refl, still_settled into, (known, group)), tt)

  all_follow : (into : LevelMap) (c : ℕ) (gs : List Known) → c < g.contacts
      → ((id : Id) → is_among (ids_of_groups gs) id ≡ true → is_some (group_at g.groups id) ≡ true)
      → GoesOn clients (with_levels g into) (each_alone (levels_of from c gs))
  all_follow into c [] known groups = tt
  all_follow into c (x ∷ gs) known groups =
      alone_both clients (with_levels g into) (level_entry c x.id (level_at from c x.id)) (levels_of from c gs)
      (one_follows into c x.id (level_at from c x.id) known
      (groups x.id (or_left (same_id x.id x.id) (is_among (ids_of_groups gs) x.id) (same_id_itself x.id))))
      (subst (λ h. GoesOn clients h (each_alone (levels_of from c gs)))
      (sym (one_put g into c x.id (fin_map.get from (c, x.id)) (shown c x.id)))
      (all_follow (put into (c, x.id) (fin_map.get from (c, x.id))) c gs known
      (λ id e. groups id (or_right (same_id x.id id) (is_among (ids_of_groups gs) id) e))))

  below_follow : (into : LevelMap) (gs : List Known) (n : ℕ) → n ≤ g.contacts
      → ((id : Id) → is_among (ids_of_groups gs) id ≡ true → is_some (group_at g.groups id) ≡ true)
      → GoesOn clients (with_levels g into) (each_alone (level_entries from gs n))
  below_follow into gs zero few groups = tt
  below_follow into gs (suc n) few groups =
      alone_both clients (with_levels g into) (level_entries from gs n) (levels_of from n gs)
      (below_follow into gs n (omega (arith, few)) groups)
      (subst (λ h. GoesOn clients h (each_alone (levels_of from n gs))) (sym (below_put g from shown into gs n))
      (all_follow (fill_below from into (ids_of_groups gs) n) n gs (omega (arith, few)) groups))

-- the Level entries of facts with levels as those of a legal journal
levels_follow : (clients : Meaning) (f g : Facts) → HasLevels f → g.start ≡ start.Opening → g.contacts ≡ f.contacts
    → g.groups ≡ f.groups
    → IsSettled clients g → GoesOn clients g (each_alone (level_entries f.levels f.groups f.contacts))
levels_follow clients f g has opening contacts groups settled =
    subst (λ h. GoesOn clients h (each_alone (level_entries f.levels f.groups f.contacts)))
    (λ i. record g { start = sym opening i })
    (below_follow clients g settled f.levels (λ contact group l at. (has contact group l at).not_invisible) g.levels
    f.groups f.contacts
    (omega (arith, contacts))
    (λ id e. ap (λ (gs : List Known). is_some (group_at gs id)) groups ∙ (sym (among_groups f.groups id) ∙ e)))

-- ---- of legal journals

pub levels_told : (clients : Meaning) (j : List (List Entry)) → Legal clients j → (g : Facts) → g.start ≡ start.Opening
    → g.contacts ≡ (facts j).contacts → g.groups ≡ (facts j).groups → IsSettled clients g
    → GoesOn clients g (each_alone (level_entries (facts j).levels (facts j).groups (facts j).contacts))
levels_told clients j l g opening contacts groups settled =
    levels_follow clients (facts j) g (legal_consistent clients j l).levels opening contacts groups settled

pub levels_after : (clients : Meaning) (j : List (List Entry)) → Legal clients j → (g : Facts) → g.start ≡ start.Opening
    → g.levels ≡ fin_map.empty
    → after_all g (level_entries (facts j).levels (facts j).groups (facts j).contacts)
    ≡ record g { levels = (facts j).levels }
levels_after clients j l g opening none = levels_reached (facts j) g (legal_consistent clients j l).levels opening none
