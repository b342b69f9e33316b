use Rattle.std.proofs.Common.{◌≡◌, Some, sym, subst}
use Rattle.outside.specs.Files.{Two, File, file_of}
use Rattle.outside.specs.Frames.{IsAtRest}
use Rattle.outside.specs.Disk.{RelatesTold}
use Rattle.outside.specs.Steps.{PassedMoments}
use Rattle.frame_journal.specs.Append.{WritesAndOpensGate, AppendsFrame, Gated, BeforeOrWith}
use Rattle.frame_journal.specs.Journal.{JournalValue}
use Rattle.frame_journal.proofs.AppendSteps.{rest_within, gated_frames, passed_map, opens_appends, becomes_map}
use Rattle.frame_journal.proofs.journal.Journal.append.Goals as goal

pub open_behind-requires-clause-fits : goal.open_behind-requires-clause-fits
open_behind-requires-clause-fits g c two told =
    rest_within two c.self.inside.file c.self.inside.end (subst (λ (v : JournalValue). IsAtRest two v.file v.end) (sym c.self.view_is) (c.requires.fits two told))

pub returns-in_err-open_behind-clause-any_moment : goal.returns-in_err-open_behind-clause-any_moment
returns-in_err-open_behind-clause-any_moment g c two told =
    let o = g.D.Disk.tells c.args.disk.now in
    let o' = g.D.Disk.tells c.open_behind.new.disk in
    let s = c.self.inside in
    let framed = c.args.framed.now in
    let bytes = (file_of two s.file).now in
    let run = passed_map two o o' s.file (Gated bytes s.end framed) (BeforeOrWith bytes s.end framed) (λ left. gated_frames bytes left s.end framed c.requires.framed) (c.in_err-open_behind.ensures.any_moment two told) in
    subst (λ (v : JournalValue). PassedMoments two o o' v.file (BeforeOrWith (file_of two v.file).now v.end framed)) c.self.view_is run

pub returns-clause-appended : goal.returns-clause-appended
returns-clause-appended g c =
    let o = g.D.Disk.tells c.args.disk.now in
    let o' = g.D.Disk.tells c.open_behind.new.disk in
    let framed = c.args.framed.now in
    let P : JournalValue → Type 0 = λ v. RelatesTold (AppendsFrame v.file v.end framed) o.files o'.files in
    let s = c.self.inside in
    let rest = λ (two : Two File) (told : o.files ≡ Some two). subst (λ (v : JournalValue). IsAtRest two v.file v.end) (sym c.self.view_is) (c.requires.fits two told) in
    subst P c.self.view_is
    (becomes_map (WritesAndOpensGate s.file s.end framed) (AppendsFrame s.file s.end framed) o.files o'.files
    (λ (two two' : Two File) told opened. opens_appends s.file s.end framed two two' c.requires.framed (rest two told) opened) c.in_ok-open_behind.ensures.opened)

pub returns-clause-any_moment : goal.returns-clause-any_moment
returns-clause-any_moment g c two told =
    let o = g.D.Disk.tells c.args.disk.now in
    let o' = g.D.Disk.tells c.open_behind.new.disk in
    let s = c.self.inside in
    let framed = c.args.framed.now in
    let bytes = (file_of two s.file).now in
    let run = passed_map two o o' s.file (Gated bytes s.end framed) (BeforeOrWith bytes s.end framed) (λ left. gated_frames bytes left s.end framed c.requires.framed) (c.in_ok-open_behind.ensures.any_moment two told) in
    subst (λ (v : JournalValue). PassedMoments two o o' v.file (BeforeOrWith (file_of two v.file).now v.end framed)) c.self.view_is run
