use Rattle.entry_codec.proofs.Journals.{stands_legal}
use Rattle.entry_codec.proofs.laws.standing_is_legal.Goals as goal

pub returns : goal.returns
returns c clients files j stand = stands_legal clients (λ f batch granted. (c.allows_is_allowed.ensures clients f batch).0 granted) files j stand
