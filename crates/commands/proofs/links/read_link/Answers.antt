use Rattle.std.proofs.Common.{◌+◌, drop, ap, sym, ◌∙◌, rules}
use Rattle.commands.specs.Reading.{word_then, StopsLink}
use Rattle.sync_words.specs.Words.{texts}
use Rattle.sync_words.specs.Words.{positive_in, spec_in}
use Rattle.commands.specs.declared.links.TheConstants.{MAX_LATENCY}
use Rattle.commands.proofs.LinkLemmas.{at_latency, at_spec, link_stopped, behind_latency}
use Rattle.commands.proofs.links.read_link.Goals as goal

pub returns-in_err-latency-clause-err : goal.returns-in_err-latency-clause-err
returns-in_err-latency-clause-err c =
    let before = c.args.before.now in
    let words = texts c.args.words.now in
    let contact = c.in_ok-contact.contact in
    let mode = c.in_ok-mode.mode in
    let stops : StopsLink before words c.args.place c.in_err-latency.field-0.0 =
    link_stopped before words c.args.place (positive_in MAX_LATENCY) (c.args.place + 2) c.in_err-latency.field-0.0
    (λ next latency. behind_latency before next contact mode latency)
    (at_latency before words c.args.place contact mode c.in_ok-contact.ensures.ok c.in_ok-mode.ensures.ok) c.in_err-latency.ensures.err in
    search rules

pub returns-in_err-spec-clause-err : goal.returns-in_err-spec-clause-err
returns-in_err-spec-clause-err c =
    let before = c.args.before.now in
    let words = texts c.args.words.now in
    let contact = c.in_ok-contact.contact in
    let mode = c.in_ok-mode.mode in
    let latency = c.in_ok-latency.latency in
    let stops : StopsLink before words c.args.place c.in_err-spec.field-0.0 =
    link_stopped before words c.args.place (spec_in c.has_std.result) (c.args.place + 3) c.in_err-spec.field-0.0
    (λ next spec. next (record { contact = contact; mode = mode; latency = latency; spec = spec }))
    (λ next. at_spec before words c.args.place contact mode latency c.in_ok-contact.ensures.ok c.in_ok-mode.ensures.ok c.in_ok-latency.ensures.ok next
    ∙ ap (λ has. word_then (spec_in has) (λ spec. next (record { contact = contact; mode = mode; latency = latency; spec = spec })) (c.args.place + 3) (drop (c.args.place + 3) words)) (sym c.has_std.ensures))
    c.in_err-spec.ensures.err in
    search rules
