-- What a link of a host brings in all: what was heard on it, and what is planned on it.
use Rattle.std.specs.Prelude.{◌≡◌, ℕ, List, [], ◌∷◌, ◌++◌}
use Rattle.outside.specs.Links.{Planned, piece}
use Rattle.outside.specs.Runs.{answers_at, heard_bytes, sent_at}
use Rattle.outside.specs.HostTold.{host_told}
use Rattle.outside.specs.MemHost.{MemHostValue, plans_of}
use Rattle.outside.specs.declared.answer.Answer.{Answer}
use Rattle.outside.specs.declared.answer.Answer.TheVariants as answer

-- the bytes of a plan
abbrev pub planned_bytes : List Planned → List ℕ
planned_bytes [] = []
planned_bytes (piece bytes ∷ rest) = bytes ++ planned_bytes rest
planned_bytes (_ ∷ rest) = planned_bytes rest

-- all bytes that a link brings: those heard on it, and behind them those that are planned on it
abbrev pub brought_on : MemHostValue → ℕ → List ℕ
brought_on host link = heard_bytes (answers_at (host_told host).links.heard link) ++ planned_bytes (plans_of host.scripts link)

-- nothing is planned on any link
pub record IsSilent (host : MemHostValue) : Type 0 where
  pub plans : (link : ℕ) → plans_of host.scripts link ≡ []

-- the bytes that were sent on a link
abbrev pub sent_by_host : MemHostValue → ℕ → List ℕ
sent_by_host host link = sent_at (host_told host).links.told link

-- the bytes of an answer
abbrev pub bytes_of : Answer → List ℕ
bytes_of (answer.Bytes bytes) = bytes.items
bytes_of answer.Idle = []
bytes_of answer.End = []
bytes_of answer.Fail = []
