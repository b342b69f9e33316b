use Rattle.brief_account.proofs.ToldLaws.{brief_by_facts}
use Rattle.brief_account.proofs.by_facts.Goals as goal

pub returns : goal.returns
returns c = brief_by_facts
