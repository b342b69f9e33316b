use Rattle.std.proofs.Common.{◌≡◌, ◌∷◌, ◌-◌, List, ℕ, Some, drop, length, sym, subst, take}
use Rattle.outside.specs.Files.{Two, File, file_of}
use Rattle.outside.specs.Frames.{IsAtRest}
use Rattle.outside.specs.Disk.{RelatesTold}
use Rattle.outside.specs.Steps.{PassedMoments}
use Rattle.frame_journal.specs.Append.{WritesAndOpensGate, Gated}
use Rattle.frame_journal.specs.Group.{AppendsFrames, BeforeOrWithAll, IsGroup}
use Rattle.frame_journal.specs.Journal.{JournalValue}
use Rattle.frame_journal.proofs.AppendSteps.{rest_within, passed_map, becomes_map}
use Rattle.frame_journal.proofs.GroupSteps.{gated_all, joined_front, opens_all}
use Rattle.frame_journal.proofs.journal.Journal.append_group.Goals as goal

pub open_behind-requires-clause-fits : goal.open_behind-requires-clause-fits
open_behind-requires-clause-fits g c two told =
    rest_within two c.self.inside.file c.self.inside.end
    (subst (λ (v : JournalValue). IsAtRest two v.file v.end) (sym c.self.view_is)
    (c.requires.fits two told))

pub returns-in_err-open_behind-clause-any_moment : goal.returns-in_err-open_behind-clause-any_moment
returns-in_err-open_behind-clause-any_moment g c two told =
    let o = g.D.Disk.tells c.args.disk.now in
    let o' = g.D.Disk.tells c.open_behind.new.disk in
    let s = c.self.inside in
    let group = c.args.group.now in
    let framed = take (length group - 1) (drop 1 group) in
    let bytes = (file_of two s.file).now in
    let is = joined_front c.requires.group.payloads group c.requires.group.joined c.requires.some in
    let run = passed_map two o o' s.file (Gated bytes s.end framed)
    (BeforeOrWithAll bytes s.end (1 ∷ framed)) (λ left. gated_all bytes left s.end framed)
    (c.in_err-open_behind.ensures.any_moment two told) in
    subst (λ (v : JournalValue).
    PassedMoments two o o' v.file (BeforeOrWithAll (file_of two v.file).now v.end group))
    c.self.view_is
    (subst (λ (l : List ℕ). PassedMoments two o o' s.file (BeforeOrWithAll bytes s.end l)) (sym is)
    run)

pub returns-clause-appended : goal.returns-clause-appended
returns-clause-appended g c =
    let o = g.D.Disk.tells c.args.disk.now in
    let o' = g.D.Disk.tells c.open_behind.new.disk in
    let group = c.args.group.now in
    let framed = take (length group - 1) (drop 1 group) in
    let is = joined_front c.requires.group.payloads group c.requires.group.joined c.requires.some in
    let s = c.self.inside in
    let rest = λ (two : Two File) (told : o.files ≡ Some two).
    subst (λ (v : JournalValue). IsAtRest two v.file v.end) (sym c.self.view_is)
    (c.requires.fits two told) in
    subst (λ (v : JournalValue). RelatesTold (AppendsFrames v.file v.end group) o.files o'.files)
    c.self.view_is
    (subst (λ (l : List ℕ). RelatesTold (AppendsFrames s.file s.end l) o.files o'.files) (sym is)
    (becomes_map (WritesAndOpensGate s.file s.end framed) (AppendsFrames s.file s.end (1 ∷ framed))
    o.files o'.files
    (λ (two two' : Two File) told opened.
    opens_all s.file s.end framed two two' (subst IsGroup is c.requires.group) (rest two told)
    opened)
    c.in_ok-open_behind.ensures.opened))

pub returns-clause-any_moment : goal.returns-clause-any_moment
returns-clause-any_moment g c two told =
    let o = g.D.Disk.tells c.args.disk.now in
    let o' = g.D.Disk.tells c.open_behind.new.disk in
    let s = c.self.inside in
    let group = c.args.group.now in
    let framed = take (length group - 1) (drop 1 group) in
    let bytes = (file_of two s.file).now in
    let is = joined_front c.requires.group.payloads group c.requires.group.joined c.requires.some in
    let run = passed_map two o o' s.file (Gated bytes s.end framed)
    (BeforeOrWithAll bytes s.end (1 ∷ framed)) (λ left. gated_all bytes left s.end framed)
    (c.in_ok-open_behind.ensures.any_moment two told) in
    subst (λ (v : JournalValue).
    PassedMoments two o o' v.file (BeforeOrWithAll (file_of two v.file).now v.end group))
    c.self.view_is
    (subst (λ (l : List ℕ). PassedMoments two o o' s.file (BeforeOrWithAll bytes s.end l)) (sym is)
    run)
