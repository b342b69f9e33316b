-- What reads leave, and what they read.
use Rattle.std.proofs.Common.{◌≡◌, ℕ, ◌≤◌, length, take, arith, ◌++◌, List}
use Rattle.std.proofs.Common.{sym, ap, ◌∙◌}
use Rattle.std.proofs.Math.Seq.{take-append_seam, take-length}
use Rattle.outside.specs.Outside.{Outside, DiskCall, OnlyReads}
use Rattle.outside.specs.Calls.{ChangesNone}
use Rattle.outside.specs.Disk.{ReadsBytes, RelatesTold}
use Rattle.outside.proofs.CallSteps.{looks_call, looks_none}

pub looks_once : (o o' : Outside) → DiskCall o o' → o'.files ≡ o.files → o.disk_faults ≤ o'.disk_faults
    → RelatesTold ChangesNone o.calls o'.calls → OnlyReads o o'
looks_once o o' call same later unchanged = looks_call o o o' (looks_none o) call same later unchanged

pub looks_twice : (o o' o'' : Outside) → OnlyReads o o' → DiskCall o' o'' → o''.files ≡ o'.files → o'.disk_faults ≤ o''.disk_faults
    → RelatesTold ChangesNone o'.calls o''.calls → OnlyReads o o''
looks_twice o o' o'' looks call same later unchanged = looks_call o o' o'' looks call same later unchanged

-- a read of so many bytes from the begin into a buffer that is as long, of which all that was read is kept
pub read_whole : (bytes buf tail all : List ℕ) (n len room : ℕ) → ReadsBytes bytes 0 buf n → length buf ≡ len → room ≡ len → len ≡ length bytes → all ≡ take n (take room (buf ++ tail)) → all ≡ bytes
read_whole bytes buf tail all n len room reads long roomy same is =
    let count : n ≡ length bytes = omega (arith, reads.count, long, same) in
    let fit : length buf ≡ room = omega (arith, long, roomy) in
    is
    ∙ (ap (take n) (ap (λ k. take k (buf ++ tail)) (sym fit) ∙ take-append_seam buf tail)
    ∙ (reads.given ∙ (ap (λ (k : ℕ). take k bytes) count ∙ take-length bytes)))
