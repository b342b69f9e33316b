use Rattle.std.proofs.Common.{◌∙◌, subst}
use Rattle.outside.specs.Files.{file_of}
use Rattle.frame_journal.specs.declared.frame.Gate.{Gate}
use Rattle.frame_journal.specs.Next.{IsGate}
use Rattle.frame_journal.proofs.Read.{frame_read}
use Rattle.frame_journal.proofs.frame.next_at.Goals as goal

pub returns-in-Ok-true-clause-next : goal.returns-in-Ok-true-clause-next
returns-in-Ok-true-clause-next g c two told =
    let bytes = (file_of two c.args.file).now in
    let gate = subst (λ (r : Gate). IsGate bytes c.args.place r) c.in-Ok-Open.field-0-is (c.in-Ok-Open.ensures.gate two told (c.requires.fits two told)) in
    let payload = c.in-Ok-true.ensures.bytes two (c.read_gate.ensures.looks.same_files ∙ told) gate.whole in
    frame_read bytes c.read_payload.new.to.items c.args.place c.in-Ok-Open.size gate payload.1
