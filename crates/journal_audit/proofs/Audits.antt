-- What an audit answers.
use Rattle.std.proofs.Common.{◌≡◌, ℕ, zero, suc, Bool, true, false, List, Option, Some, None, Result, Ok, Err, refl, sym, ◌∙◌, ap, subst, is_none}
use Rattle.std.specs.Option.{option_map, IfSome}
use Rattle.std.specs.Result.{IsErrAnd}
use Rattle.outside.specs.Files.{File, Two, file_of, read_files}
use Rattle.outside.specs.Frames.{format_in, journal_file}
use Rattle.entry_codec.specs.declared.naming.Format.{Format}
use Rattle.entry_codec.specs.Naming.{format_of}
use Rattle.entry_codec.specs.Standing.{Standing, damaged}
use Rattle.file_standing.specs.Standing.{stands}
use Rattle.entry_codec.proofs.FrontLaws.{front_format, front_none, front_start}
use Rattle.std.proofs.lemmas.Bool.{false≢true}
use Rattle.sync_rules.specs.declared.entries.Entry.{Entry}
use Rattle.sync_rules.specs.Allows.{is_settled}
use Rattle.sync_rules.specs.Clients.{Meaning}
use Rattle.sync_rules.specs.Facts.{Facts, facts}
use Rattle.sync_rules.specs.Knowing.{CountsEnds}
use Rattle.sync_rules.specs.Legal.{Legal}
use Rattle.sync_rules.specs.Rounds.{graph_of}
use Rattle.sync_rules.specs.Steps.{IsSettled, next}
use Rattle.journal_audit.specs.declared.fault.AuditFault.{AuditFault}
use Rattle.journal_audit.specs.declared.fault.AuditFault.TheVariants as fault
use Rattle.journal_audit.specs.declared.facts.PlainFacts.{PlainFacts}
use Rattle.journal_audit.specs.declared.files.Taken.{Taken}
use Rattle.journal_audit.specs.declared.reading.Played.{Played}
use Rattle.journal_audit.specs.declared.report.Report.{Report}
use Rattle.journal_audit.specs.Answers.{IsAuditOf, IsAudited, IsFileTaken, ReportsFrames, SaysOfStanding}
use Rattle.journal_audit.specs.Files.{IsFileFound}
use Rattle.journal_audit.specs.Lines.{held_in}
use Rattle.journal_audit.specs.Plain.{KnowsMeanings, facts_of}
use Rattle.journal_audit.specs.Reading.{IsDamage, IsJournalRead, whole_of}
use Rattle.journal_audit.specs.Rounding.{IsGraphOfLines, round_count}
use Rattle.journal_audit.specs.Telling.{TellsReport}

-- an answer that is this error
pub err_is : {T E : Type 0} (r : Result T E) (e : E) → IsErrAnd r (λ x. x ≡ e) → r ≡ Err e
err_is (Ok x) e is = absurd is
err_is (Err x) e is = ap (λ y. Err y) is

-- ---- the journal's file

pub found_some : (files : Two (List ℕ)) (o : Option (ℕ × ℕ)) (found : ℕ × ℕ) → journal_file files ≡ option_map (λ (x : ℕ × ℕ). x.0) o → IfSome o (λ x. x.1 ≡ format_in (file_of files x.0)) → o ≡ Some found
    → IsFileFound files (Ok found)
found_some files o found file format is =
    let P : Option (ℕ × ℕ) → Type 0 = λ x. IfSome x (λ y. y.1 ≡ format_in (file_of files y.0)) in
    (file ∙ ap (option_map (λ (x : ℕ × ℕ). x.0)) is, sym (subst P is format))

pub as_read : (two : Two File) (file : ℕ) → file_of (read_files two) file ≡ (file_of two file).now
as_read two zero = refl
as_read two (suc n) = refl

pub taken_other : (clients : Meaning) (files : Two (List ℕ)) (file number : ℕ) → IsFileFound files (Ok (file, number)) → format_of number ≡ None → stands clients files ≡ damaged file 5
taken_other clients files file number found none = front_format clients files file found.0 (ap format_of found.1 ∙ none)

pub taken_file : (clients : Meaning) (files : Two (List ℕ)) (file number : ℕ) (format : Format) (bytes : List ℕ) → IsFileFound files (Ok (file, number)) → format_of number ≡ Some format
    → bytes ≡ file_of files file → stands clients files ≡ whole_of clients file format bytes
taken_file clients files file number format bytes found known all =
    (front_start clients files file format found.0 (ap format_of found.1 ∙ known)).going ∙ ap (whole_of clients file format) (sym all)

pub taken_fault : (clients : Meaning) (files : Two (List ℕ)) (e : AuditFault) → IsFileFound files (Err e) → IsFileTaken clients files (Err e)
taken_fault clients files fault.Memory found = tt
taken_fault clients files fault.NoStore found = front_none clients files found
taken_fault clients files (fault.Damaged place) found = absurd found
taken_fault clients files fault.DiskFault found = tt

-- ---- the report

settled_is : (clients : Meaning) (f : Facts) (o : Bool) → o ≡ true → o ≡ is_settled clients f → IsSettled clients f
settled_is clients f o on is = by (next clients f) (sym is ∙ on) where
  by : (e : Option Entry) → is_none e ≡ true → e ≡ None
  by None none = refl
  by (Some e) none = absurd (false≢true none)

graph_is : (clients : Meaning) (p : PlainFacts) → KnowsMeanings clients p → IsGraphOfLines (graph_of clients (facts_of p)) p.messages.lines
graph_is clients p knows = record { held_is = refl; verdicts = knows }

counted : (clients : Meaning) (p : Played) (f : Facts) (of_good : Bool) (n : ℕ) → facts_of p.facts ≡ f → n ≡ round_count of_good (graph_of clients (facts_of p.facts)) (held_in p.facts.messages.lines)
    → n ≡ round_count of_good (graph_of clients f) f.held
counted clients p f of_good n is told = told ∙ ap (λ (x : Facts). round_count of_good (graph_of clients x) x.held) is

pub audit_of : ((clients : Meaning) (j : List (List Entry)) → Legal clients j → IsSettled clients (facts j) → CountsEnds clients (facts j)) → (clients : Meaning) (whole : Standing) (p : Played) (r : Report)
    → IsJournalRead clients whole p → TellsReport p r → IsAuditOf clients whole r
audit_of law clients whole p r read told =
    let of = read.of in
    let graph = graph_is clients p.facts of.knows in
    let good = counted clients p (facts of.done) true r.good of.facts_are (told.good (graph_of clients (facts_of p.facts)) graph) in
    let bad = counted clients p (facts of.done) false r.bad of.facts_are (told.bad (graph_of clients (facts_of p.facts)) graph) in
    let settled : r.settled ≡ is_settled clients (facts of.done) = told.settled clients of.knows ∙ ap (is_settled clients) of.facts_are in
    record {
      done = of.done;
      stands_for = read.stands_for;
      legal = of.legal;
      report = record { batches = told.batches ∙ read.batches; entries = told.entries ∙ read.entries; good = good; bad = bad; settled = settled };
      ends = λ on.
          let ends = law clients of.done of.legal (settled_is clients (facts of.done) r.settled on settled) in
          record { good = good ∙ ends.good; bad = bad ∙ ends.bad };
    }

-- ---- the answer

damage_said : (clients : Meaning) (standing : Standing) (e : AuditFault) → IsDamage standing e → SaysOfStanding clients standing (Err e)
damage_said clients standing fault.Memory damage = tt
damage_said clients standing fault.NoStore damage = absurd damage
damage_said clients standing (fault.Damaged place) damage = damage
damage_said clients standing fault.DiskFault damage = tt

reports_say : (clients : Meaning) (standing : Standing) (r : Result Report AuditFault) → ReportsFrames clients standing r → SaysOfStanding clients standing r
reports_say clients standing (Ok r) reports = reports
reports_say clients standing (Err e) reports = damage_said clients standing e reports

pub audited : (clients : Meaning) (files : Two (List ℕ)) (t : Taken) (r : Result Report AuditFault) → IsFileTaken clients files (Ok t) → ReportsFrames clients (whole_of clients t.file t.format t.bytes.items) r
    → IsAudited clients files r
audited clients files t r taken reports = subst (λ (s : Standing). SaysOfStanding clients s r) (sym taken) (reports_say clients (whole_of clients t.file t.format t.bytes.items) r reports)

pub untaken : (clients : Meaning) (files : Two (List ℕ)) (e : AuditFault) → IsFileTaken clients files (Err e) → IsAudited clients files (Err e)
untaken clients files fault.Memory taken = tt
untaken clients files fault.NoStore taken = taken
untaken clients files (fault.Damaged place) taken = taken
untaken clients files fault.DiskFault taken = tt
