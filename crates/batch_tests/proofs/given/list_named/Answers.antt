use Rattle.std.proofs.Common.{◌∙◌}
use Rattle.batch_tests.proofs.Arrivals.{id_list-from}
use Rattle.batch_tests.proofs.given.list_named.Goals as goal

pub returns-in-Ok : goal.returns-in-Ok
returns-in-Ok c = (c.in-Ok.ensures.made ∙ c.in_ok-ids_named.ensures, id_list-from c.in-Ok.ids c.in-Ok.ensures.within)
