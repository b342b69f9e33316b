use Rattle.journal_migration.proofs.FirstIds.{sound_names}
use Rattle.sync_store.proofs.formats.HeldNamesNames.show_names.Goals as goal

pub returns : goal.returns
returns c =
    sound_names c.message_ids_are_whole.ensures c.args.self.now.state.now c.show_sound.ensures
