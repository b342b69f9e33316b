-- The facts of a journal as data: a code for each part, by which what a contract sees can hold them.
use Rattle.std.specs.Prelude.{ℕ, List, Option, refl}
use Rattle.std.specs.Coded.{Coded, code_by, coded×, coded_list, coded_option, coded_ℕ}
use Rattle.std.specs.FinMap as fin_map
use Rattle.std.specs.FinSet as fin_set
use Rattle.std.specs.Ordering.{nat_cmp}
use Rattle.sync_rules.specs.contracts.answers.Judgement as judgement
use Rattle.sync_rules.specs.contracts.entries.Session as session
use Rattle.sync_rules.specs.contracts.states.Start as start
use Rattle.sync_rules.specs.declared.answers.Judgement.{Judgement}
use Rattle.sync_rules.specs.declared.entries.Session.{Session}
use Rattle.sync_rules.specs.declared.states.Start.{Start}
use Rattle.sync_rules.specs.Codes.{held_code, id_code, known_code, levels_code, rows_code}
use Rattle.sync_rules.specs.Codes.{wants_code}
use Rattle.sync_rules.specs.Facts.{Facts, Held, Id, Ids, Known, LevelMap, Rows, Wants}

abbrev pub sessions_code : Coded (List Session)
sessions_code = coded_list session.the_row.coded

abbrev pub takes_code : Coded (fin_map.FinMap nat_cmp ℕ)
takes_code = fin_map.code coded_ℕ coded_ℕ

abbrev pub ids_code : Coded Ids
ids_code = fin_set.code id_code

-- how the journal began, the contacts, groups, levels and sessions; the messages; what is owed and wanted
abbrev Before : Type 0
Before = Start × (ℕ × (List Known × (LevelMap × (ℕ × (List Session × fin_map.FinMap nat_cmp ℕ)))))

abbrev Messages : Type 0
Messages = List Held × (Ids × (Ids × List Id))

abbrev before_code : Coded Before
before_code =
    coded× start.the_row.coded
    (coded× coded_ℕ (coded× (coded_list known_code) (coded× levels_code (coded× coded_ℕ (coded× sessions_code takes_code)))))

abbrev messages_code : Coded Messages
messages_code = coded× (coded_list held_code) (coded× ids_code (coded× ids_code (coded_list id_code)))

abbrev pub facts_code : Coded Facts
facts_code =
    code_by (Before × (Messages × (Rows × Wants))) (coded× before_code (coded× messages_code (coded× rows_code wants_code)))
    (λ f. (
      (f.start, (f.contacts, (f.groups, (f.levels, (f.begun, (f.sessions, f.takes)))))),
      ((f.held, (f.judged, (f.invalid, f.delivered))), (f.rows, f.wanted)),
    ))
    (λ p. record {
      start = p.0.0;
      contacts = p.0.1.0;
      groups = p.0.1.1.0;
      levels = p.0.1.1.1.0;
      begun = p.0.1.1.1.1.0;
      sessions = p.0.1.1.1.1.1.0;
      takes = p.0.1.1.1.1.1.1;
      held = p.1.0.0;
      judged = p.1.0.1.0;
      invalid = p.1.0.1.1.0;
      delivered = p.1.0.1.1.1;
      rows = p.1.1.0;
      wanted = p.1.1.1;
    }) (λ _. refl)

abbrev pub answers_code : Coded (List (Option Judgement))
answers_code = coded_list (coded_option judgement.the_row.coded)
