use Rattle.std.proofs.Common.{[], ◌∷◌, subst}
use Rattle.session_core.specs.Known.{IsOfAll}
use Rattle.sync_rules.specs.declared.entries.Entry.{Entry}
use Rattle.store_commands.proofs.entries.add_line.Goals as goal

pub known_id-requires : goal.known_id-requires
known_id-requires c =
    (subst (λ (e : Entry). IsOfAll c.args.id (e ∷ [])) c.in-Author.is c.requires).0
