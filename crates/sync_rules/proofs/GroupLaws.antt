-- The groups of held messages, and what one more group leaves.
use Rattle.std.proofs.Common.{◌≡◌, Bool, true, cond, List, [], ◌∷◌, refl, ◌∙◌, ap, inl, inr, Some, None, is_some}
use Rattle.std.specs.Option.{option_or}
use Rattle.std.specs.List.{list_all}
use Rattle.std.specs.FinSet as fin_set
use Rattle.std.proofs.lemmas.Bool.{and_parts, and_from}
use Rattle.sync_ids.specs.Values.{GroupValue}
use Rattle.sync_rules.specs.declared.answers.Judgement.{Judgement}
use Rattle.sync_rules.specs.declared.entries.Entry.{Entry}
use Rattle.sync_rules.specs.declared.entries.Entry.TheVariants as entry
use Rattle.sync_rules.specs.Clients.{Meaning}
use Rattle.sync_rules.specs.Facts.{Facts, Held, after, facts, group_at, known_of}
use Rattle.sync_rules.specs.Steps.{first_step, step, step_by}
use Rattle.sync_rules.specs.Legal.{Legal}
use Rattle.sync_rules.specs.Knowing.{GroupsLeaveSettled, KnowsGroups}
use Rattle.sync_rules.specs.Lists.{In}
use Rattle.sync_rules.proofs.Sound.{SoundFacts, verdict_stays}
use Rattle.sync_rules.proofs.Runs.{legal_sound}

all_from : {A : Type 0} (test : A → Bool) (xs : List A) → ((x : A) → In x xs → test x ≡ true) → list_all test xs ≡ true
all_from test [] each = refl
all_from test (x ∷ xs) each =
    and_from (test x) (list_all test xs) (each x (inl refl)) (all_from test xs (λ y inside. each y (inr inside)))

pub sound_knows : (clients : Meaning) (f : Facts) → SoundFacts clients f → KnowsGroups f
sound_knows clients f s = all_from (λ h. is_some (group_at f.groups h.message.group)) f.held s.known

pub legal_knows : (clients : Meaning) (j : List (List Entry)) → Legal clients j → KnowsGroups (facts j)
legal_knows clients j l = sound_knows clients (facts j) (legal_sound clients j l)

-- the steps of messages whose groups are known
module _ (clients : Meaning) (f : Facts) (def : GroupValue) where
  same_step : (h : Held) → is_some (group_at f.groups h.message.group) ≡ true → step clients (after f (entry.Group def)) h ≡ step clients f h
  same_step h known =
      ap (λ (v : Judgement). step_by f h (cond (fin_set.contains f.judged h.id) (Some v) None))
      (verdict_stays clients f.groups (known_of def) h.message known)

  same_first : (hs : List Held) → list_all (λ h. is_some (group_at f.groups h.message.group)) hs ≡ true
      → first_step clients (after f (entry.Group def)) hs ≡ first_step clients f hs
  same_first [] known = refl
  same_first (h ∷ hs) known =
      let both = and_parts (is_some (group_at f.groups h.message.group)) (list_all (λ x. is_some (group_at f.groups x.message.group)) hs) known in
      λ i. option_or (same_step h both.0 i) (same_first hs both.1 i)

pub groups_leave_settled : GroupsLeaveSettled
groups_leave_settled clients f def known settled = same_first clients f def f.held known ∙ settled
