-- What a brief account tells of the messages of a legal journal: it may be told behind the head, it leaves what is held and
-- what has ended as the journal has it, and where no step is open it is a function of the facts.
use Rattle.std.proofs.Common.{◌≡◌, List, refl, sym, ◌∙◌, ap}
use Rattle.sync_rules.specs.declared.entries.Entry.{Entry}
use Rattle.sync_rules.specs.Clients.{Meaning}
use Rattle.sync_rules.specs.Facts.{Facts, after_all, entries_of, facts, nothing}
use Rattle.sync_rules.specs.Growth.{HasSameSteps}
use Rattle.sync_rules.specs.Legal.{Legal}
use Rattle.sync_rules.specs.Steps.{IsSettled}
use Rattle.sync_rules.proofs.Kept.{after_batches-is}
use Rattle.sync_rules.proofs.MeetingLaws.{legal_meets}
use Rattle.sync_rules.proofs.Runs.{sound_nothing}
use Rattle.sync_rules.proofs.SessionLaws.{sessions_of_nothing}
use Rattle.sync_rules.proofs.StepKinds.{same_next}
use Rattle.brief_account.specs.Account.{account, brief_of, told_of, with_groups}
use Rattle.brief_account.specs.Brief.{account_with, brief, retold}
use Rattle.brief_account.proofs.Accounts.{all_told_held, kept_in, same_account, told_account}
use Rattle.brief_account.proofs.Alongside.{GoesAlong, told_along}
use Rattle.brief_account.proofs.Emptied.{HasEmptyWanted, contacts_empty}
use Rattle.brief_account.proofs.Heads.{headed}
use Rattle.brief_account.proofs.ToldLeaves.{IsLeftByTold, left_by_told}

-- the facts of the head of a brief account
abbrev pub head_facts : Facts → Facts
head_facts f = record (headed f.begun f.contacts f.groups) { levels = f.levels }

-- what is told of the messages of a journal
abbrev pub told_in : List (List Entry) → List Entry
told_in j = retold nothing (entries_of j)

module _ (clients : Meaning) (j : List (List Entry)) (legal : Legal clients j) where
  pub told_goes_along : GoesAlong clients (facts j) (facts j) (head_facts (facts j)) (told_in j)
  told_goes_along =
      told_along clients (facts j) (entries_of j) nothing (head_facts (facts j)) (legal_meets clients j legal)
      (sound_nothing clients)
      sessions_of_nothing (sym (after_batches-is nothing j))
      (record { opening = refl; held = refl; judged = refl; invalid = refl; delivered = refl })
      (record { contacts = refl; groups = refl })

  pub head_empty : HasEmptyWanted (head_facts (facts j))
  head_empty = contacts_empty (facts j).contacts

  pub told_leaves : IsLeftByTold (head_facts (facts j)) (after_all (head_facts (facts j)) (told_in j))
  told_leaves = left_by_told clients (head_facts (facts j)) (told_in j) told_goes_along.tells head_empty

  pub told_same_steps : HasSameSteps (facts j) (after_all (head_facts (facts j)) (told_in j))
  told_same_steps = record {
    groups = told_goes_along.has_whole.groups;
    held = told_goes_along.along.held;
    judged = told_goes_along.along.judged;
    invalid = told_goes_along.along.invalid;
    delivered = told_goes_along.along.delivered;
  }

  pub kept_is : kept_in (told_in j) ≡ (facts j).held
  kept_is =
      sym (all_told_held clients (head_facts (facts j)) (told_in j) told_goes_along.tells)
      ∙ told_goes_along.along.held

  module _ (settled : IsSettled clients (facts j)) where
    pub told_settled : IsSettled clients (after_all (head_facts (facts j)) (told_in j))
    told_settled = same_next clients (facts j) (after_all (head_facts (facts j)) (told_in j)) told_same_steps ∙ settled

    pub told_is : told_in j ≡ told_of clients (facts j)
    told_is =
        told_account clients (told_in j) (head_facts (facts j)) told_goes_along.tells refl told_settled
        ∙ (ap (account clients (head_facts (facts j))) kept_is
        ∙ same_account clients (head_facts (facts j)) (with_groups (facts j).groups) (facts j).held
        (record { groups = refl; held = refl; judged = refl; invalid = refl; delivered = refl }))

    pub brief_by_facts : brief j ≡ brief_of clients (facts j)
    brief_by_facts = ap (account_with (facts j)) told_is
