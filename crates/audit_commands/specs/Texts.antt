-- The line that `audit` prints.
use Rattle.std.specs.Prelude.{ℕ, Bool, true, false, List, [], ◌∷◌, ◌++◌, codes}
use Rattle.std.specs.Fmt.{decimal}
use Rattle.journal_audit.specs.declared.report.Report.{Report}

-- whether no step is open, in a word
abbrev pub settled_text : Bool → List ℕ
settled_text true = codes "settled"
settled_text false = codes "open"

-- a legal journal: its batches, its entries, its good and its bad messages, and whether it is
-- settled
abbrev pub legal_text : Report → List ℕ
legal_text r =
    codes "legal "
    ++ (decimal r.batches
    ++ (32 ∷ decimal r.entries
    ++ (32 ∷ decimal r.good ++ (32 ∷ decimal r.bad ++ (32 ∷ settled_text r.settled ++ 10 ∷ [])))))
