use Rattle.sync_course.proofs.KeptLaws.{closed_whole, closes_next, kept_rather}
use Rattle.sync_course.proofs.laws.redundant_links_have_better.Goals as goal

pub returns-clause-better : goal.returns-clause-better
returns-clause-better c = kept_rather

pub returns-clause-next : goal.returns-clause-next
returns-clause-next c = closes_next

pub returns-clause-whole : goal.returns-clause-whole
returns-clause-whole c = λ links. closed_whole links 0 links
