use Rattle.std.proofs.Common.{ap, sym, ◌∙◌}
use Rattle.sync_course.specs.Links.{closes}
use Rattle.mailbox_core.proofs.Versions.{foreign_is}
use Rattle.mailbox_core.proofs.reading.is_foreign.Goals as goal

pub returns-in-Versions : goal.returns-in-Versions
returns-in-Versions c =
    foreign_is c.in-Versions.versions c.versions_ok.result c.versions_ok.ensures
    ∙ ap closes (sym c.in-Versions.is)
