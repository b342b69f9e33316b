-- What a brief account holds, how many batches it has and what it weighs, each as a sum over its parts.
use Rattle.std.proofs.Common.{◌≡◌, ℕ, ◌+◌, ◌*◌, List, [], ◌∷◌, ◌++◌, length, length-append, refl, ◌∙◌, ap, arith}
use Rattle.sync_rules.specs.declared.entries.Entry.{Entry}
use Rattle.sync_rules.specs.declared.limits.TheConstants.{MAX_ROWS, MAX_STEPS}
use Rattle.sync_rules.specs.Facts.{Facts, entries_of}
use Rattle.brief_account.specs.Batches.{account_batches, account_entries_weigh, entries_weigh, weighs}
use Rattle.brief_account.specs.Brief.{account_with, each_alone, filled, head_entries, is_kept, never_alone, peer_entries}
use Rattle.brief_account.proofs.Filled.{alone_entries, entries-append, filled_count, filled_entries, weigh-append, weighs_all}

pub alone_count : (es : List Entry) → length (each_alone es) ≡ length es
alone_count [] = refl
alone_count (e ∷ es) = let rest = alone_count es in omega (arith, rest)

module _ (f : Facts) (told : List Entry) where
  abbrev head : List (List Entry)
  head = each_alone (head_entries f)

  abbrev messages : List (List Entry)
  messages = filled MAX_STEPS is_kept [] told

  abbrev peers : List (List Entry)
  peers = filled MAX_ROWS never_alone [] (peer_entries f f.contacts)

  pub account_entries : entries_of (account_with f told) ≡ head_entries f ++ told ++ peer_entries f f.contacts
  account_entries =
      entries-append (head ++ messages) peers
      ∙ ((λ i. entries-append head messages i ++ filled_entries MAX_ROWS never_alone [] (peer_entries f f.contacts) i)
      ∙ (λ i. (alone_entries (head_entries f) i ++ filled_entries MAX_STEPS is_kept [] told i)
      ++ peer_entries f f.contacts))

  pub account_count : length (account_with f told) ≡ account_batches f told
  account_count =
      let whole = length-append (head ++ messages) peers in
      let first = length-append head messages in
      let a = alone_count (head_entries f) in
      let b = filled_count MAX_STEPS is_kept [] told in
      let c = filled_count MAX_ROWS never_alone [] (peer_entries f f.contacts) in
      omega (arith, whole, first, a, b, c)

  pub account_weighs : (weight : Entry → ℕ) (frame : ℕ)
      → weighs weight frame (account_with f told) ≡ account_batches f told * frame + account_entries_weigh weight f told
  account_weighs weight frame =
      let whole = weigh-append weight (head_entries f ++ told) (peer_entries f f.contacts) in
      let first = weigh-append weight (head_entries f) told in
      let sum : entries_weigh weight (head_entries f ++ told ++ peer_entries f f.contacts) ≡ account_entries_weigh weight f told =
      omega (arith, whole, first) in
      weighs_all weight frame (account_with f told)
      ∙ (λ i. account_count i * frame + (ap (entries_weigh weight) account_entries ∙ sum) i)
