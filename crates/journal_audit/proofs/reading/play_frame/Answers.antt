use Rattle.std.proofs.Common.{◌∙◌, ap, ◌+◌, arith, length, List}
use Rattle.sync_rules.specs.declared.entries.Entry.{Entry}
use Rattle.journal_audit.proofs.Gates.{batch_refused, batch_unread, frame_more}
use Rattle.journal_audit.proofs.Named.{names_are}
use Rattle.journal_audit.proofs.reading.play_frame.Goals as goal

pub read_payload-requires : goal.read_payload-requires
read_payload-requires g c =
    names_are c.message_ids_are_whole.ensures (g.C.Clients.meaning c.args.clients.now) c.args.played.now.facts c.requires.so_far.of c.len-few.ensures.few

pub returns-in_default : goal.returns-in_default
returns-in_default g c =
    batch_unread (g.C.Clients.meaning c.args.clients.now) c.args.file c.args.format c.args.bytes.now c.args.played.now c.args.size c.payload_at-payload.result.now c.in_ok-batch.field-0
    c.requires.so_far c.requires.frame c.payload_at-payload.ensures c.in_ok-batch.ensures c.in_default.is

pub returns-then-not-branch : goal.returns-then-not-branch
returns-then-not-branch g c =
    batch_refused (g.C.Clients.meaning c.args.clients.now) c.args.file c.args.format c.args.bytes.now c.args.played.now c.args.size c.payload_at-payload.result.now c.in_ok-batch.field-0
    c.in-Some.batch c.admit.new.facts c.in_ok-admit.field-0 c.requires.so_far c.requires.frame c.payload_at-payload.ensures c.in_ok-batch.ensures c.in-Some.is c.in_ok-admit.ensures c.if-not-branch.true

pub returns : goal.returns
returns g c = (
  frame_more (g.C.Clients.meaning c.args.clients.now) c.args.file c.args.format c.args.bytes.now c.args.played.now c.args.size c.payload_at-payload.result.now c.in_ok-batch.field-0
      c.in-Some.batch c.admit.new.facts c.in_ok-admit.field-0 c.in_ok-played.field-0 c.in_ok-played-2.field-0 c.allows_is_allowed.ensures
      c.requires.so_far c.requires.frame c.payload_at-payload.ensures c.in_ok-batch.ensures c.in-Some.is c.in_ok-admit.ensures c.if-not-branch.false
      c.in_ok-played.ensures (c.in_ok-played-2.ensures ∙ ap (λ (es : List Entry). c.args.played.now.entries + length es) c.entries.ensures.value),
  omega arith,
)
