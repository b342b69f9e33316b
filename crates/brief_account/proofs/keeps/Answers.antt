use Rattle.brief_account.proofs.BriefLaws.{brief_keeps}
use Rattle.brief_account.proofs.keeps.Goals as goal

pub returns : goal.returns
returns c = brief_keeps
