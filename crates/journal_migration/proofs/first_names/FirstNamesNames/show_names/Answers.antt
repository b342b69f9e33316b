use Rattle.journal_migration.proofs.FirstIds.{first_names}
use Rattle.journal_migration.proofs.first_names.FirstNamesNames.show_names.Goals as goal

pub returns : goal.returns
returns c =
    first_names c.message_ids_are_whole.ensures c.args.self.now.state.now c.args.self.now.count
    c.show_sound.ensures
