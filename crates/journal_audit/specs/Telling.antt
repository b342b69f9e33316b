-- What is told of facts.
use Rattle.std.specs.Prelude.{◌≡◌, true, false}
use Rattle.sync_rules.specs.Allows.{is_settled}
use Rattle.sync_rules.specs.Clients.{Meaning}
use Rattle.sync_rules.specs.Rounds.{Graph}
use Rattle.journal_audit.specs.declared.reading.Played.{Played}
use Rattle.journal_audit.specs.declared.report.Report.{Report}
use Rattle.journal_audit.specs.Lines.{held_in}
use Rattle.journal_audit.specs.Plain.{KnowsMeanings, facts_of}
use Rattle.journal_audit.specs.Rounding.{IsGraphOfLines, round_count}

pub record TellsReport (p : Played) (r : Report) : Type 0 where
  pub batches : r.batches ≡ p.batches
  pub entries : r.entries ≡ p.entries
  pub good : (g : Graph) → IsGraphOfLines g p.facts.messages.lines → r.good ≡ round_count true g (held_in p.facts.messages.lines)
  pub bad : (g : Graph) → IsGraphOfLines g p.facts.messages.lines → r.bad ≡ round_count false g (held_in p.facts.messages.lines)
  pub settled : (clients : Meaning) → KnowsMeanings clients p.facts → r.settled ≡ is_settled clients (facts_of p.facts)
