-- What the reading and the writing of files come to over journals.
use Rattle.std.specs.Prelude.{◌≡◌, ℕ, List, ◌++◌}
use Rattle.sync_ids.specs.declared.records.Record.{Record}
use Rattle.sync_rules.specs.declared.entries.Entry.{Entry}
use Rattle.sync_rules.specs.Clients.{Meaning}
use Rattle.sync_rules.specs.Facts.{facts}
use Rattle.sync_rules.specs.Growth.{output_of}
use Rattle.sync_rules.specs.Legal.{GoesOn, Legal}
use Rattle.sync_rules.specs.Output.{sent}
use Rattle.sync_rules.specs.Steps.{IsSettled}
use Rattle.mailbox_laws.specs.Boxes.{ReadsBox}
use Rattle.mailbox_core.specs.Reading.{ReadsTo}
use Rattle.mailbox_core.specs.Taking.{AllTaken}

-- a file that is read into a legal and settled journal is read as the law of sets has it
abbrev pub ReadsAreBoxes : Type 0
ReadsAreBoxes =
    (clients : Meaning) (contact : ℕ) (j more : List (List Entry)) (records : List Record)
    → Legal clients j
    → IsSettled clients (facts j) → ReadsTo clients contact AllTaken (facts j) records more
    → ReadsBox clients contact j records (j ++ more)

-- what batches add to the output of a session that begins with them is all that it sends
abbrev pub OutputsAreSent : Type 0
OutputsAreSent =
    (clients : Meaning) (j more : List (List Entry)) → Legal clients j
    → GoesOn clients (facts j) more
    → sent (j ++ more) (facts j).begun ≡ output_of (facts j) (facts j).begun more
