use Rattle.std.proofs.Common.{sym, ◌∙◌, rules}
use Rattle.mailbox_commands.proofs.Early.{tested_begins}
use Rattle.mailbox_commands.proofs.Taken.{bytes_refused, bytes_taken, bytes_too_much}
use Rattle.mailbox_commands.proofs.taking.take_mail_bytes.Goals as goal

pub returns-in-Some-clause-taken : goal.returns-in-Some-clause-taken
returns-in-Some-clause-taken g c start was =
    bytes_refused (g.C.Clients.meaning c.args.clients.now) c.args.contact c.args.bytes.now _ _ _
    c.args.store.now was c.in-Some.why (sym c.refusal.ensures ∙ c.in-Some.is)

pub returns-then-bytes-gt-MAX_MAIL-clause-taken : goal.returns-then-bytes-gt-MAX_MAIL-clause-taken
returns-then-bytes-gt-MAX_MAIL-clause-taken g c start was =
    bytes_too_much (g.C.Clients.meaning c.args.clients.now) c.args.contact c.args.bytes.now _ _ _
    c.args.store.now was (sym c.refusal.ensures ∙ c.in_default.is) (search rules)

pub take_bytes-requires : goal.take_bytes-requires
take_bytes-requires g c = record {
  ready = c.requires.ready;
  begins =
      tested_begins c.args.store.now.state.facts c.args.contact (sym c.refusal.ensures
      ∙ c.in_default.is);
}

pub returns-clause-taken : goal.returns-clause-taken
returns-clause-taken g c start was =
    bytes_taken (g.C.Clients.meaning c.args.clients.now) c.args.contact c.args.bytes.now _ _ _
    c.args.store.now was _ _ _ (sym c.refusal.ensures ∙ c.in_default.is) (search rules)
    c.take_bytes.ensures.ran

pub returns-clause-serves : goal.returns-clause-serves
returns-clause-serves g c served = c.take_bytes.ensures.serves served.ready.short
