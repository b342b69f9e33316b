-- What a reading answers, beside what was to be read.
use Rattle.std.specs.Prelude.{◌≡◌, ℕ, List, Option, Some, None, Result, Ok, Err, option_map}
use Rattle.std.specs.Borrow.{Bor}
use Rattle.world_scripts.specs.Forms.{LineLeft, labels_in}
use Rattle.world_scripts.specs.declared.fault.LineFault.{LineFault}
use Rattle.world_scripts.specs.declared.fault.LineFault.TheVariants as fault
use Rattle.world_scripts.specs.declared.step.WorldStep.{WorldStep}

-- a value and what is left behind it, or nothing
abbrev pub ReadsValue : {V : Type 0} → (LineLeft → Option (V × LineLeft)) → LineLeft → Option V
    → LineLeft → Type 0
ReadsValue p old (Some value) new = p old ≡ Some (value, new)
ReadsValue p old None new = p old ≡ None

-- the same of a text that is lent
abbrev pub ReadsLineText : (LineLeft → Option (List ℕ × LineLeft)) → LineLeft
    → Option (Bor (List ℕ)) → LineLeft
    → Type 0
ReadsLineText p old (Some text) new = p old ≡ Some (text.now, new)
ReadsLineText p old None new = p old ≡ None

-- what was read is what stands there; memory may be wanting
abbrev pub IsValueRead : {V : Type 0} → Option V → Result V LineFault → Type 0
IsValueRead there (Ok value) = there ≡ Some value
IsValueRead there (Err fault.NoForm) = there ≡ None
IsValueRead there (Err fault.Memory) = Unit {0}

-- a post with the word that its parents' labels are written as, and its text
abbrev pub post_with : (List ℕ → List ℕ → WorldStep) → List ℕ → List ℕ → Option WorldStep
post_with made word text = option_map (λ parents. made parents text) (labels_in word)
