use Rattle.std.proofs.Common.{ap, ◌∙◌}
use Rattle.outside.specs.Links.{Links}
use Rattle.sync_node.specs.Going.{specs_of}
use Rattle.sync_words.specs.declared.outcome.Outcome.TheVariants as outcome
use Rattle.sync_run.proofs.CauseLaws.{caused_behind}
use Rattle.sync_run.proofs.LeavingLaws.{starved_early, ended_early, leaves_as, load_caused}
use Rattle.sync_run.proofs.LeavingLaws.{load_comes, loaded_unfull, refused_caused, refused_comes}
use Rattle.sync_run.proofs.RanLaws.{headline_ran, ran_told}
use Rattle.sync_run.proofs.RestLaws.{load_rests, rests_ready}
use Rattle.sync_run.proofs.WordLaws.{specs_kept}
use Rattle.sync_run.proofs.run.sync_links.Goals as goal

pub run_links-ended-requires-clause-unused : goal.run_links-ended-requires-clause-unused
run_links-ended-requires-clause-unused g c =
    ap (λ (l : Links). l.dialled) c.load_store.ensures.run.same_links ∙ c.requires.unused

pub run_links-ended-requires-clause-ready : goal.run_links-ended-requires-clause-ready
run_links-ended-requires-clause-ready g c = c.in_ok-store.ensures.opened.ready

-- the load gave no store
pub returns-in_err-store : goal.returns-in_err-store
returns-in_err-store g c =
    let words = c.args.links.now in
    let old = g.H.Disk.tells c.args.host.now in
    let new = g.H.Disk.tells c.load_store.new.disk in
    let load = c.load_store.ensures in
    let end = c.in_err-store.ensures in
    let came = c.in_err-store.field-0.0 in
    let e =
    ended_early _ c.args.limits words old new c.requires.unused load.run
    (λ two told. (load.rests two told).moments) load.reads c.from_residual.result
    came c.from_residual.ensures.1 (loaded_unfull old new came end.by)
    (load_rests _ _ came end.settled)
    (load_caused words old new came end.by)
    (λ two told. load_comes _ c.args.limits words two old new c.requires.unused told
    load.run.same_links load.reads came end.by (end.loaded two told)) in
    record {
      headline = e.headline;
      told = e.told;
      specs = e.specs;
      caused = e.caused;
      leaves = e.leaves;
    }

-- a test of the words failed
pub returns-in_err-test_words : goal.returns-in_err-test_words
returns-in_err-test_words g c =
    let words = c.args.links.now in
    let old = g.H.Disk.tells c.args.host.now in
    let new = g.H.Disk.tells c.load_store.new.disk in
    let load = c.load_store.ensures in
    let why = c.in_err-test_words.field-0.0 in
    let tested = c.in_err-test_words.ensures.tested in
    let e =
    ended_early _ c.args.limits words old new c.requires.unused load.run
    (λ two told. (load.rests two told).moments) load.reads c.from_residual-in_err-test_words.result
    (outcome.Refused why) c.from_residual-in_err-test_words.ensures.1 (λ same. cc)
    (rests_ready _ _ _ c.in_ok-store.ensures.opened.ready)
    (refused_caused c.in_ok-store.store.state.facts words old new why tested)
    (λ two told. refused_comes _ c.args.limits words two old new c.requires.unused told
    load.run.same_links load.reads _ (c.in_ok-store.ensures.loaded two told) why tested) in
    record {
      headline = e.headline;
      told = e.told;
      specs = e.specs;
      caused = e.caused;
      leaves = e.leaves;
    }

-- want of memory for the links
pub returns-in_err-dialled : goal.returns-in_err-dialled
returns-in_err-dialled g c =
    let words = c.args.links.now in
    let old = g.H.Disk.tells c.args.host.now in
    let new = g.H.Disk.tells c.load_store.new.disk in
    let load = c.load_store.ensures in
    let e =
    ended_early _ c.args.limits words old new c.requires.unused load.run
    (λ two told. (load.rests two told).moments) load.reads c.from_residual-in_err-dialled.result
    outcome.Memory c.from_residual-in_err-dialled.ensures.1 (λ same. cc)
    (rests_ready _ _ _ c.in_ok-store.ensures.opened.ready)
    tt
    (λ two told. starved_early _ c.args.limits words two old new c.requires.unused told
    load.run.same_links load.reads) in
    record {
      headline = e.headline;
      told = e.told;
      specs = e.specs;
      caused = e.caused;
      leaves = e.leaves;
    }

-- the run on the links
pub returns : goal.returns
returns g c =
    let words = c.args.links.now in
    let old = g.H.Disk.tells c.args.host.now in
    let loaded = g.H.Disk.tells c.load_store.new.disk in
    let ended = g.H.Disk.tells c.run_links-ended.new.host in
    let new = g.H.Disk.tells c.hang_up_all.new.host in
    let load = c.load_store.ensures in
    let same = c.hang_up_all.ensures.same_links in
    let ran = c.run_links-ended.ensures in
    record {
      headline = λ two told.
          headline_ran _ c.args.limits words _ old loaded ended new c.requires.unused load.run
          load.reads c.hang_up_all.ensures
          two told (load.rests two told).moments (c.in_ok-store.ensures.loaded two told)
          c.in_ok-store.ensures.opened.ready.fits _ ran.ran c.moments_stand.ensures
          c.batches_suit_as_planned.ensures;
      told = λ two told.
          ran_told _ c.args.limits words _ old loaded ended new c.requires.unused load.run
          load.reads c.hang_up_all.ensures two
          told (load.rests two told).moments (c.in_ok-store.ensures.loaded two told)
          c.in_ok-store.ensures.opened.ready.fits _ ran.ran c.in_ok-test_words.ensures.tested
          c.all_is_sent.ensures c.runs_end_quiet.ensures ran.rests;
      specs = specs_kept words ended new (ap (λ (l : Links). specs_of l.told) same) ran.links.specs;
      caused =
          caused_behind words old loaded ended new load.run same c.hang_up_all.ensures.same_faults
          c.run_links-ended.result ran.links.caused;
      leaves = leaves_as words old loaded ended new c.run_links-ended.result load.run.same_links
          same ran.links.leaves;
    }
