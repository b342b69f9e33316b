-- The brief account of a legal and settled journal is legal and settled, and makes known the same but for the sessions.
use Rattle.std.proofs.Common.{◌≡◌, ◌≤◌, List, [], ◌++◌, refl, sym, ◌∙◌, ap, subst, arith}
use Rattle.sync_rules.specs.declared.entries.Entry.{Entry}
use Rattle.sync_rules.specs.declared.limits.TheConstants.{MAX_CONTACTS, MAX_ROWS, MAX_STEPS}
use Rattle.sync_rules.specs.Clients.{Meaning}
use Rattle.sync_rules.specs.Facts.{Facts, after_all, after_batches, entries_of, facts, nothing}
use Rattle.sync_rules.specs.Legal.{GoesOn, Legal}
use Rattle.sync_rules.specs.Steps.{IsSettled}
use Rattle.sync_rules.proofs.ConsistencyLaws.{legal_consistent}
use Rattle.sync_rules.proofs.Kept.{after_all-append, after_batches-is}
use Rattle.sync_rules.proofs.MeetingLaws.{legal_meets}
use Rattle.sync_rules.proofs.Settling.{after_batches-append, goes_on_both}
use Rattle.sync_rules.proofs.StepKinds.{same_next}
use Rattle.brief_account.specs.Brief.{brief, contact_entries, each_alone, filled, group_entries, head_entries, is_kept, level_entries, never_alone, peer_entries, without_sessions}
use Rattle.brief_account.specs.Laws.{KeepsFacts}
use Rattle.brief_account.proofs.Added.{added_all, AreAdded}
use Rattle.brief_account.proofs.Alongside.{GoesAlong}
use Rattle.brief_account.proofs.Emptied.{HasEmptyWanted}
use Rattle.brief_account.proofs.Filled.{filled_entries}
use Rattle.brief_account.proofs.Heads.{alone_after, alone_then, contacts_give, contacts_go, groups_give, groups_go, headed, opened}
use Rattle.brief_account.proofs.LevelEntries.{levels_after, levels_told}
use Rattle.brief_account.proofs.Peers.{peers_after, peers_told}
use Rattle.brief_account.proofs.ToldBatches.{told_goes}
use Rattle.brief_account.proofs.ToldLaws.{head_empty, head_facts, told_goes_along, told_in, told_leaves, told_settled}
use Rattle.brief_account.proofs.ToldLeaves.{IsLeftByTold, still_empty}

module _ (clients : Meaning) (j : List (List Entry)) (legal : Legal clients j) where
  abbrev f : Facts
  f = facts j

  abbrev begins : List Entry
  begins = contact_entries f.contacts ++ group_entries f.groups ++ level_entries f.levels f.groups f.contacts

  abbrev groups_there : Facts
  groups_there = headed f.begun f.contacts f.groups

  -- ---- the head

  groups_added : AreAdded clients [] f.groups
  groups_added = subst (λ (x : Facts). AreAdded clients [] x.groups) (sym (after_batches-is nothing j))
      (added_all clients nothing (entries_of j) (legal_meets clients j legal) tt)

  few_contacts : f.contacts ≤ MAX_CONTACTS
  few_contacts = (legal_consistent clients j legal).groups.few_contacts

  contacts_and_groups : GoesOn clients (headed f.begun 0 [])
      (each_alone (contact_entries f.contacts ++ group_entries f.groups))
  contacts_and_groups =
      alone_then clients (headed f.begun 0 []) (headed f.begun f.contacts []) (contact_entries f.contacts)
      (group_entries f.groups)
      (contacts_go clients f.begun f.contacts few_contacts) (contacts_give f.begun f.contacts)
      (groups_go clients f.begun f.contacts [] f.groups groups_added)

  contacts_and_groups_give : after_all (headed f.begun 0 []) (contact_entries f.contacts ++ group_entries f.groups)
      ≡ groups_there
  contacts_and_groups_give =
      after_all-append (headed f.begun 0 []) (contact_entries f.contacts) (group_entries f.groups)
      ∙ (ap (λ (x : Facts). after_all x (group_entries f.groups)) (contacts_give f.begun f.contacts)
      ∙ groups_give clients f.begun f.contacts [] f.groups groups_added)

  head_goes : GoesOn clients nothing (each_alone (head_entries f))
  head_goes = (
    (refl, refl),
    subst (λ (x : Facts). GoesOn clients x (each_alone begins)) (sym (opened f.begun))
        (alone_then clients (headed f.begun 0 []) groups_there (contact_entries f.contacts ++ group_entries f.groups)
        (level_entries f.levels f.groups f.contacts) contacts_and_groups contacts_and_groups_give
        (levels_told clients j legal groups_there refl refl refl refl)),
  )

  head_gives : after_all nothing (head_entries f) ≡ head_facts f
  head_gives =
      let levels : after_all groups_there (level_entries f.levels f.groups f.contacts) ≡ head_facts f =
      levels_after clients j legal groups_there refl refl in
      ap (λ (x : Facts). after_all x begins) (opened f.begun)
      ∙ (after_all-append (headed f.begun 0 []) (contact_entries f.contacts ++ group_entries f.groups)
      (level_entries f.levels f.groups f.contacts)
      ∙ (ap (λ (x : Facts). after_all x (level_entries f.levels f.groups f.contacts)) contacts_and_groups_give ∙ levels))

  -- ---- all of it

  module _ (settled : IsSettled clients f) where
    abbrev told_facts : Facts
    told_facts = after_all (head_facts f) (told_in j)

    goes : GoesAlong clients f f (head_facts f) (told_in j)
    goes = told_goes_along clients j legal

    leaves : IsLeftByTold (head_facts f) told_facts
    leaves = told_leaves clients j legal

    told_empty : HasEmptyWanted told_facts
    told_empty = still_empty (head_facts f) told_facts leaves (head_empty clients j legal)

    peers_go : GoesOn clients told_facts (filled MAX_ROWS never_alone [] (peer_entries f f.contacts))
    peers_go =
        peers_told clients j legal told_facts goes.along.opening (told_settled clients j legal settled)
        goes.has_whole.contacts goes.along.held leaves.rows told_empty

    peers_give : after_all told_facts (peer_entries f f.contacts) ≡ without_sessions f
    peers_give =
        peers_after clients j legal told_facts goes.along.opening goes.has_whole.contacts goes.along.held leaves.rows
        told_empty
        ∙ (λ i. record {
          start = goes.along.opening i;
          contacts = goes.has_whole.contacts i;
          groups = goes.has_whole.groups i;
          levels = leaves.levels i;
          begun = leaves.begun i;
          sessions = leaves.sessions i;
          takes = leaves.takes i;
          held = goes.along.held i;
          judged = goes.along.judged i;
          invalid = goes.along.invalid i;
          delivered = goes.along.delivered i;
          rows = f.rows;
          wanted = f.wanted;
        })

    abbrev peers : List (List Entry)
    peers = filled MAX_ROWS never_alone [] (peer_entries f f.contacts)

    abbrev head_and_told : List (List Entry)
    head_and_told = each_alone (head_entries f) ++ filled MAX_STEPS is_kept [] (told_in j)

    head_there : after_batches nothing (each_alone (head_entries f)) ≡ head_facts f
    head_there = alone_after nothing (head_entries f) ∙ head_gives

    told_there : after_batches nothing head_and_told ≡ told_facts
    told_there =
        after_batches-append nothing (each_alone (head_entries f)) (filled MAX_STEPS is_kept [] (told_in j))
        ∙ (ap (λ (x : Facts). after_batches x (filled MAX_STEPS is_kept [] (told_in j))) head_there
        ∙ (after_batches-is (head_facts f) (filled MAX_STEPS is_kept [] (told_in j))
        ∙ ap (after_all (head_facts f)) (filled_entries MAX_STEPS is_kept [] (told_in j))))

    head_and_told_goes : GoesOn clients nothing head_and_told
    head_and_told_goes =
        goes_on_both clients nothing (each_alone (head_entries f)) (filled MAX_STEPS is_kept [] (told_in j)) head_goes
        (subst (λ (x : Facts). GoesOn clients x (filled MAX_STEPS is_kept [] (told_in j))) (sym head_there)
        (told_goes clients (told_in j) (head_facts f) [] tt (omega arith) goes.tells))

    brief_legal : Legal clients (brief j)
    brief_legal =
        goes_on_both clients nothing head_and_told peers head_and_told_goes
        (subst (λ (x : Facts). GoesOn clients x peers) (sym told_there) peers_go)

    brief_facts : facts (brief j) ≡ without_sessions f
    brief_facts =
        after_batches-append nothing head_and_told peers
        ∙ (ap (λ (x : Facts). after_batches x peers) told_there
        ∙ (after_batches-is told_facts peers
        ∙ (ap (after_all told_facts) (filled_entries MAX_ROWS never_alone [] (peer_entries f f.contacts)) ∙ peers_give)))

    pub brief_keeps : KeepsFacts clients j
    brief_keeps = record {
      legal = brief_legal;
      settled = subst (IsSettled clients) (sym brief_facts)
          (same_next clients f (without_sessions f)
          (record { groups = refl; held = refl; judged = refl; invalid = refl; delivered = refl }) ∙ settled);
      same = brief_facts;
    }
