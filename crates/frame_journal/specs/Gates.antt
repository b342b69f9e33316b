-- What syncs of both files do, and writes behind a gate and of it.
use Rattle.std.specs.Prelude.{◌≡◌, ℕ, ◌+◌, ◌-◌, List, [], ◌∷◌, ◌++◌, take, drop}
use Rattle.outside.specs.Files.{Two, File, file_of, with_file, settled}
use Rattle.outside.specs.Disk.{overwritten}

-- bytes stand behind a gate, which stands before `end`, and nothing is pending in the file
abbrev pub WritesBehind : ℕ → ℕ → List ℕ → Two File → Two File → Type 0
WritesBehind file end bytes old new = new ≡ with_file old file (settled (overwritten (file_of old file).now end bytes))

-- the gate before `end` is open, and nothing is pending in the file
abbrev pub OpensGate : ℕ → ℕ → Two File → Two File → Type 0
OpensGate file end old new = new ≡ with_file old file (settled (overwritten (file_of old file).now (end - 1) (1 ∷ [])))

-- the bytes before a place are as they were
abbrev pub KeepsFront : List ℕ → ℕ → List ℕ → Type 0
KeepsFront bytes end left = take end left ≡ take end bytes

-- all bytes but the one at a place are as they were
abbrev pub KeepsAllBut : List ℕ → ℕ → List ℕ → Type 0
KeepsAllBut bytes place left = (gate : ℕ) × (left ≡ take place bytes ++ gate ∷ drop (place + 1) bytes)
