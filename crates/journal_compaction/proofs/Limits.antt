-- Whether the brief account and its room are within a limit.
use Rattle.std.proofs.Common.{◌≡◌, ℕ, ◌+◌, ◌-◌, ◌^◌, ◌<◌, ◌≤◌, min, Result, Err, sym, subst, arith}
use Rattle.outside.specs.declared.limits.TheConstants.{MAX_JOURNAL}
use Rattle.frame_journal.specs.Journal.{JournalValue}
use Rattle.sync_rules.specs.Clients.{Meaning}
use Rattle.sync_rules.specs.Facts.{Facts}
use Rattle.journal_migration.specs.declared.fault.MigrationFault.{MigrationFault}
use Rattle.journal_migration.specs.declared.fault.MigrationFault.TheVariants as migration
use Rattle.journal_compaction.specs.declared.fault.CompactionFault.{CompactionFault}
use Rattle.journal_compaction.specs.declared.plan.Plan.{Plan}
use Rattle.journal_compaction.specs.Compacting.{WeighsAccount, compacted_len}
use Rattle.journal_compaction.specs.Faults.{fault_of}
use Rattle.journal_compaction.specs.Paging.{frames_len}
use Rattle.journal_compaction.specs.Planning.{IsPlan, plan_len, plan_pages}
use Rattle.journal_compaction.proofs.Sections.{plan_end, plan_weighs}

module _ (clients : Meaning) (f : Facts) (p : Plan) (limit len : ℕ) (few : limit ≤ MAX_JOURNAL)
    (plan : IsPlan clients f p) (is : len ≡ min (plan_len f p) (2 ^ 64 - 1)) where
  pub too_long : limit < len → limit < compacted_len clients f
  too_long past = omega (arith, past, is, plan_weighs clients f p plan)

  pub within_limit : len ≤ limit → compacted_len clients f ≤ limit
  within_limit within = omega (arith, within, few, is, plan_weighs clients f p plan)

  -- there is room for all frames behind the beginning
  pub frames_fit : (end : ℕ) → end ≡ 15 → len ≤ limit → end + frames_len
      (plan_pages f p) ≤ MAX_JOURNAL
  frames_fit end begun within =
      omega (arith, begun, within_limit within, few, plan_end clients f p plan)

-- a fault while it was written
weighs_fault : (clients : Meaning) (f : Facts) (limit : ℕ) (e : MigrationFault)
    → compacted_len clients f ≤ limit
    → WeighsAccount clients f limit (Err (fault_of e))
weighs_fault clients f limit migration.Memory within = tt
weighs_fault clients f limit migration.DiskFault within = within

pub fault_weighs : (clients : Meaning) (f : Facts) (limit : ℕ) (e : MigrationFault)
    (result : Result JournalValue CompactionFault) → compacted_len clients f ≤ limit
    → result ≡ Err (fault_of e)
    → WeighsAccount clients f limit result
fault_weighs clients f limit e result within is =
    subst (λ (r : Result JournalValue CompactionFault). WeighsAccount clients f limit r) (sym is)
    (weighs_fault clients f limit e within)
