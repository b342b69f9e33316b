-- What a session sends, as bytes, and what a link heard and was sent.
use Rattle.std.specs.Prelude.{ℕ, ◌+◌, List}
use Rattle.outside.specs.Links.{Links}
use Rattle.outside.specs.Runs.{IsFront, answers_at, heard_bytes, sent_at}
use Rattle.record_grammar.specs.Spelling.{spelled}
use Rattle.sync_rules.specs.Output.{sent}
use Rattle.sync_rules.specs.Facts.{Journal}

-- the bytes of all that a session sends, by its journal
unfoldable pub output : Journal → ℕ → List ℕ
output journal session = spelled (sent journal session)

-- the bytes heard so far on a link, and those sent
abbrev pub heard_on : Links → ℕ → List ℕ
heard_on links link = heard_bytes (answers_at links.heard link)

abbrev pub sent_on : Links → ℕ → List ℕ
sent_on links link = sent_at links.told link

-- on each link the bytes sent are a front of its session's output; the sessions of the links are
-- numbered from `first` on
abbrev pub AreOutput : Journal → ℕ → (ℕ → List ℕ) → Type 0
AreOutput journal first sent = (link : ℕ) → IsFront (sent link) (output journal (first + link))
