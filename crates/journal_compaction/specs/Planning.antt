-- A plan of a brief account: the items of its three parts, and what is written of them.
use Rattle.std.specs.Prelude.{ℕ, ◌+◌, List, [], ◌++◌}
use Rattle.std.specs.List.{AllByRecursion}
use Rattle.sync_rules.specs.declared.limits.TheConstants.{MAX_ROWS, MAX_STEPS}
use Rattle.sync_rules.specs.Clients.{Meaning}
use Rattle.sync_rules.specs.Facts.{Facts}
use Rattle.brief_account.specs.Account.{told_of}
use Rattle.brief_account.specs.Brief.{head_entries, peer_entries}
use Rattle.entry_codec.specs.declared.naming.Format.TheVariants as kind
use Rattle.entry_codec.specs.Spelling.{IsEntry}
use Rattle.entry_codec.specs.Standing.{room_of}
use Rattle.journal_compaction.specs.declared.plan.Plan.{Plan}
use Rattle.journal_compaction.specs.Items.{AreItems, IsItem, entry_of, is_alone, is_peer, is_told}
use Rattle.journal_compaction.specs.Paging.{items_len, pages}

-- the parts of a plan are those of the brief account of these facts
pub record IsPlan (clients : Meaning) (f : Facts) (p : Plan) : Type 0 where
  pub head : AreItems f is_alone p.head.items (head_entries f)
  pub told : AreItems f is_told p.told.items (told_of clients f)
  pub peers : AreItems f is_peer p.peers.items (peer_entries f f.contacts)

-- what the items of a plan name is there
pub record AreItemsKnown (f : Facts) (p : Plan) : Type 0 where
  pub head : AllByRecursion (IsItem f) p.head.items
  pub told : AllByRecursion (IsItem f) p.told.items
  pub peers : AllByRecursion (IsItem f) p.peers.items

-- their entries are within their limits
pub record AreWritten (f : Facts) (p : Plan) : Type 0 where
  pub head : AllByRecursion (λ i. IsEntry (entry_of f i)) p.head.items
  pub told : AllByRecursion (λ i. IsEntry (entry_of f i)) p.told.items
  pub peers : AllByRecursion (λ i. IsEntry (entry_of f i)) p.peers.items

-- the payloads of a plan
abbrev pub plan_pages : Facts → Plan → List (List ℕ)
plan_pages f p =
    pages f MAX_STEPS 0 [] p.head.items
    ++ (pages f MAX_STEPS 0 [] p.told.items ++ pages f MAX_ROWS 0 [] p.peers.items)

-- where a journal with a plan's payloads ends, and the room behind it for the steps that are left
abbrev pub plan_len : Facts → Plan → ℕ
plan_len f p =
    15 + items_len f MAX_STEPS 0 p.head.items + items_len f MAX_STEPS 0 p.told.items
    + items_len f MAX_ROWS 0
    p.peers.items
    + room_of kind.Short f
