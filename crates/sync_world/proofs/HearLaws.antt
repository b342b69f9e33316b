-- What an end hears is among the records that it was given.
use Rattle.std.proofs.Common.{◌≡◌, ℕ, List, ◌++◌, sym, ◌∙◌, ap, subst}
use Rattle.std.specs.List.{AllByRecursion}
use Rattle.outside.specs.Runs.{IsFront}
use Rattle.sync_ids.specs.declared.records.Record.{Record}
use Rattle.sync_ids.specs.Records.{IsRecord}
use Rattle.record_grammar.specs.Spelling.{spelled}
use Rattle.record_grammar.specs.Stream.{records}
use Rattle.sync_rules.specs.Lists.{In}
use Rattle.sync_rules.proofs.Elements.{In-append_left}
use Rattle.world_links.specs.Ends.{EndValue}
use Rattle.world_laws.specs.Worlds.{End}
use Rattle.sync_world.specs.Cited.{RecordLaws}
use Rattle.sync_world.specs.Shown.{ShowsEnd}

pub front_records : RecordLaws → (rs : List Record) (bytes : List ℕ) (r : Record)
    → AllByRecursion IsRecord rs → IsFront bytes (spelled rs) → In r (records bytes) → In r rs
front_records laws rs bytes r within front inside =
    let cut : (later : List Record) × (records (bytes ++ front.rest) ≡ records bytes ++ later) =
    laws.fronts bytes front.rest in
    let parts : rs ≡ records bytes ++ cut.0 = sym (laws.streams rs within).1
    ∙ (ap records front.whole ∙ cut.1) in
    subst (In r) (sym parts) (In-append_left r (records bytes) cut.0 inside)

pub given_front_records : RecordLaws → (e : EndValue) (x : End) (bytes : List ℕ) (r : Record)
    → ShowsEnd e x → IsFront bytes e.given → In r (records bytes) → In r x.given
given_front_records laws e x bytes r s front inside =
    front_records laws x.given bytes r s.given_within (record {
      rest = front.rest;
      whole = sym s.given ∙ front.whole;
    }) inside
