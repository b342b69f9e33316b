use Rattle.std.proofs.Common.{◌≡◌, ◌++◌, List, ℕ, true, OnOk, sym, subst}
use Rattle.sync_rules.specs.declared.entries.Entry.{Entry}
use Rattle.sync_rules.specs.Lists.{is_among}
use Rattle.entry_codec.specs.declared.naming.Format.TheVariants as kind
use Rattle.entry_codec.specs.Payloads.{names_of}
use Rattle.entry_codec.specs.Spelling.{EntryNames, spelling_in}
use Rattle.journal_compaction.proofs.Named.{all_names, item_named}
use Rattle.journal_compaction.proofs.items.append_owned.Goals as goal

pub write_short-requires-clause-named : goal.write_short-requires-clause-named
write_short-requires-clause-named c =
    let f = c.args.state.now.facts in
    let Names : List (List ℕ) → Entry
    → Type 0 = λ names e. EntryNames (λ id. is_among names id ≡ true) e in
    subst (λ (names : List (List ℕ)). Names names c.entry_of.result)
    (sym (all_names f c.held.result c.held.ensures))
    (subst (λ (e : Entry). EntryNames (λ id. is_among (names_of f) id ≡ true) e)
    (sym c.entry_of.ensures.value)
    (item_named f c.args.item c.requires.there))

pub returns-clause-ok : goal.returns-clause-ok
returns-clause-ok c =
    let f = c.args.state.now.facts in
    let Wrote : List (List ℕ) → Entry → Type 0 =
    λ names e. OnOk c.write_short.result (c.write_short.new.to.items
    ≡ c.args.to.now.items ++ spelling_in kind.Short names e) in
    subst (λ (e : Entry). Wrote (names_of f) e) c.entry_of.ensures.value
    (subst (λ (names : List (List ℕ)). Wrote names c.entry_of.result)
    (all_names f c.held.result c.held.ensures)
    c.write_short.ensures.ok)
