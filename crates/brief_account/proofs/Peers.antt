-- The rows and wanted ids of a brief account: their entries may follow in batches, and make known the rows and wanted ids
-- told.
use Rattle.std.proofs.Common.{◌≡◌, ℕ, zero, suc, ◌<◌, ◌≤◌, true, cond, nat_lt, List, [], ◌++◌, Some, None, sym, ◌∙◌, ap, subst, arith}
use Rattle.std.specs.FinMap as fin_map
use Rattle.std.proofs.lemmas.Bool.{lt-ltb}
use Rattle.sync_rules.specs.declared.entries.Entry.{Entry}
use Rattle.sync_rules.specs.declared.states.Start.TheVariants as start
use Rattle.sync_rules.specs.declared.limits.TheConstants.{MAX_ROWS}
use Rattle.sync_rules.specs.Clients.{Meaning}
use Rattle.sync_rules.specs.Lists.{is_among}
use Rattle.sync_rules.specs.Facts.{Facts, Held, Id, Rows, after_all, facts, is_held, pair_cmp, wanted_from}
use Rattle.sync_rules.specs.Steps.{IsSettled}
use Rattle.sync_rules.specs.Legal.{AreRows, GoesOn, Legal}
use Rattle.sync_rules.specs.Consistency.{IsRowOf, ids_of_held}
use Rattle.sync_rules.proofs.ConsistencyLaws.{among_held}
use Rattle.brief_account.specs.Brief.{filled, never_alone, peer_entries, row_entries, want_entries}
use Rattle.brief_account.proofs.Emptied.{HasEmptyWanted}
use Rattle.brief_account.proofs.PeersBatches.{filled_follow}
use Rattle.brief_account.proofs.PeersKnown.{HasPeers, legal_has_peers}
use Rattle.brief_account.proofs.PeersMaps.{fill_below, filled_whole, not_filled}
use Rattle.brief_account.proofs.PeersRows.{IsTold, rows_told, told_none, told_then}
use Rattle.brief_account.proofs.PeersWants.{not_yet_wanted, wants_below, wants_told, wants_whole}

module _ (f g : Facts) (has : HasPeers f) (held : g.held ≡ f.held) (empty : HasEmptyWanted g) where
  held_there : (id : Id) → is_among (ids_of_held f.held) id ≡ true → is_held g.held id ≡ true
  held_there id e = ap (λ (hs : List Held). is_held hs id) held ∙ (sym (among_held f.held id) ∙ e)

  empty_there : (contact : ℕ) → contact < g.contacts → fin_map.get g.wanted contact ≡ Some []
  empty_there contact known = empty contact ∙ ap (λ b. cond b (Some []) None) (lt-ltb contact g.contacts known)

  below_told : (rows : Rows) (n : ℕ) → n ≤ g.contacts → ((contact : ℕ) (id : Id) → fin_map.get rows (contact, id) ≡ None)
      → IsTold g (peer_entries f n) rows g.wanted (fill_below f.rows rows (ids_of_held f.held) n)
      (wants_below f.wanted g.wanted n)
  below_told rows zero few none = told_none g rows g.wanted
  below_told rows (suc n) few none =
      let known : n < g.contacts = omega (arith, few) in
      let was = fill_below f.rows rows (ids_of_held f.held) n in
      let now = fill_below f.rows rows (ids_of_held f.held) (suc n) in
      let mine : List Id = wanted_from f.wanted n in
      told_then g (peer_entries f n ++ row_entries f.rows n f.held) (want_entries n mine) rows g.wanted
      now (wants_below f.wanted g.wanted n) now (wants_below f.wanted g.wanted (suc n))
      (told_then g (peer_entries f n) (row_entries f.rows n f.held) rows g.wanted
      was (wants_below f.wanted g.wanted n) now (wants_below f.wanted g.wanted n)
      (below_told rows n (omega (arith, few)) none)
      (rows_told f g has.rows has.waits (wants_below f.wanted g.wanted n) n known was f.held has.held.distinct held_there
      (λ id e. not_filled f.rows rows (ids_of_held f.held) n n id (omega arith) ∙ none n id)))
      (wants_told g now n known (wants_below f.wanted g.wanted n) [] mine
      (not_yet_wanted f.wanted g.wanted n (λ contact k. empty_there contact (omega (arith, k, known))))
      (λ id e. ap (λ (hs : List Held). is_held hs id) held ∙ has.wanted.not_held n id e)
      (has.wanted.distinct n) (has.wanted.few n))

  whole_told : g.contacts ≡ f.contacts → IsTold g (peer_entries f f.contacts) fin_map.empty g.wanted f.rows f.wanted
  whole_told contacts =
      subst (λ (rows : Rows). IsTold g (peer_entries f f.contacts) fin_map.empty g.wanted rows f.wanted) rows
      (subst (IsTold g (peer_entries f f.contacts) fin_map.empty g.wanted
      (fill_below f.rows fin_map.empty (ids_of_held f.held) f.contacts)) wanted
      (below_told fin_map.empty f.contacts (omega (arith, contacts))
      (λ contact id. fin_map.get-empty pair_cmp (contact, id))))
    where
      rows : fill_below f.rows fin_map.empty (ids_of_held f.held) f.contacts ≡ f.rows
      rows = filled_whole f.rows (ids_of_held f.held) f.contacts
          (λ contact id r at.
          let is : IsRowOf f contact id r = has.rows contact id r at in
          (is.known_contact, among_held f.held id ∙ is.held))

      wanted : wants_below f.wanted g.wanted f.contacts ≡ f.wanted
      wanted = wants_whole f.wanted g.wanted f.contacts
          (λ contact. empty contact ∙ ap (λ (n : ℕ). cond (nat_lt contact n) (Some []) None) contacts)
          has.wanted.known_contact has.lists

-- ---- of legal journals

pub peers_told : (clients : Meaning) (j : List (List Entry)) → Legal clients j → (g : Facts) → g.start ≡ start.Opening
    → IsSettled clients g
    → g.contacts ≡ (facts j).contacts → g.held ≡ (facts j).held → g.rows ≡ fin_map.empty → HasEmptyWanted g
    → GoesOn clients g (filled MAX_ROWS never_alone [] (peer_entries (facts j) (facts j).contacts))
peers_told clients j l g opening settled contacts held none empty =
    filled_follow clients g (peer_entries (facts j) (facts j).contacts) opening settled
    (subst (λ h. AreRows h (peer_entries (facts j) (facts j).contacts))
    (λ i. record g { start = sym opening i; rows = sym none i })
    (whole_told (facts j) g (legal_has_peers clients j l) held empty contacts).suits)

pub peers_after : (clients : Meaning) (j : List (List Entry)) → Legal clients j → (g : Facts) → g.start ≡ start.Opening
    → g.contacts ≡ (facts j).contacts → g.held ≡ (facts j).held → g.rows ≡ fin_map.empty → HasEmptyWanted g
    → after_all g (peer_entries (facts j) (facts j).contacts)
    ≡ record g { rows = (facts j).rows; wanted = (facts j).wanted }
peers_after clients j l g opening contacts held none empty =
    (λ i. after_all (record g { start = opening i; rows = none i }) (peer_entries (facts j) (facts j).contacts))
    ∙ ((whole_told (facts j) g (legal_has_peers clients j l) held empty contacts).reached
    ∙ (λ i. record g { start = sym opening i; rows = (facts j).rows; wanted = (facts j).wanted }))
