-- What the reading of a file comes to over journals.
use Rattle.std.specs.Prelude.{ℕ, List, ◌++◌}
use Rattle.sync_rules.specs.declared.entries.Entry.{Entry}
use Rattle.sync_rules.specs.Clients.{Meaning}
use Rattle.sync_rules.specs.Facts.{after_batches, facts}
use Rattle.sync_rules.specs.Legal.{AllSettling, Legal}
use Rattle.sync_rules.specs.Steps.{IsSettled}
use Rattle.mailbox_laws.specs.Boxes.{ReadsBox}
use Rattle.mailbox_core.specs.Files.{box_records}
use Rattle.store_commands.specs.Errands.{Errand}
use Rattle.mailbox_commands.specs.Taking.{in_errand}

-- A legal journal, with all of its settling and then the whole errand of a file that is read
-- (`IsRun` says that a run left it so): into it that file was read as the law of sets has it.
abbrev pub MailIsBoxed : Type 0
MailIsBoxed =
    (clients : Meaning) (contact : ℕ) (bytes : List ℕ) (j first rest : List (List Entry))
    → Legal clients j
    → AllSettling clients (facts j) first → IsSettled clients (after_batches (facts j) first)
    → Errand.whole (in_errand clients contact bytes) (after_batches (facts j) first) rest
    → ReadsBox clients contact j (box_records bytes) (j ++ (first ++ rest))
