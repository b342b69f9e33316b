use Rattle.entry_codec.proofs.Journals.{stands_has}
use Rattle.entry_codec.proofs.laws.journals_stand.Goals as goal

pub returns : goal.returns
returns c clients files file format j holds =
    stands_has clients (λ f batch allowed. (c.allows_is_allowed.ensures clients f batch).1 allowed) c.message_ids_are_whole.ensures files file format j holds
