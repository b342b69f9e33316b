-- What a reader of a part answers.
use Rattle.std.specs.Prelude.{◌≡◌, ℕ, List, Option, Some, None, Result, Ok, Err}
use Rattle.std.specs.Borrow.{Bor}
use Rattle.std.specs.Global.{Vec}
use Rattle.entry_codec.specs.declared.stop.Stop.{Stop}
use Rattle.entry_codec.specs.declared.stop.Stop.TheVariants as stop

-- a part is read from the front of some bytes, and the rest is left; or no such part stands there
abbrev pub ReadsPartFrom : {A : Type 0} → (List ℕ → Option (A × List ℕ)) → List ℕ → Result A Stop → List ℕ → Type 0
ReadsPartFrom p old (Ok a) new = p old ≡ Some (a, new)
ReadsPartFrom p old (Err stop.BadEntry) new = p old ≡ None
ReadsPartFrom p old (Err stop.Memory) new = Unit {0}

-- the same of bytes that are lent
abbrev pub ReadsSlice : (List ℕ → Option (List ℕ × List ℕ)) → List ℕ → Result (Bor (List ℕ)) Stop → List ℕ → Type 0
ReadsSlice p old (Ok a) new = p old ≡ Some (a.now, new)
ReadsSlice p old (Err stop.BadEntry) new = p old ≡ None
ReadsSlice p old (Err stop.Memory) new = Unit {0}

-- the same of a text that is lent
abbrev pub ReadsText : (List ℕ → Option (List ℕ × List ℕ)) → List ℕ → Result (Bor (List ℕ)) Stop → List ℕ → Type 0
ReadsText p old r new = ReadsSlice p old r new

-- the same of a list that is made
abbrev pub ReadsList : {A : Type 0} → (List ℕ → Option (List A × List ℕ)) → List ℕ → Result (Vec A) Stop → List ℕ → Type 0
ReadsList p old (Ok a) new = p old ≡ Some (a.items, new)
ReadsList p old (Err stop.BadEntry) new = p old ≡ None
ReadsList p old (Err stop.Memory) new = Unit {0}
