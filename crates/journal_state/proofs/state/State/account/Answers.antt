use Rattle.std.proofs.Common.{sym, ap, subst, arith}
use Rattle.std.proofs.lemmas.List.{drop_all}
use Rattle.sync_rules.specs.Clients.{Meaning}
use Rattle.sync_rules.specs.Facts.{Facts}
use Rattle.brief_account.specs.Account.{account}
use Rattle.journal_state.specs.Telling.{TellsTo}
use Rattle.journal_state.proofs.Telling.{tells_all, tells_none}
use Rattle.journal_state.proofs.state.State.account.Goals as goal

pub loop-n-init : goal.loop-n-init
loop-n-init g c =
    let clients : Meaning = g.C.Clients.meaning c.args.clients.now in
    let f : Facts = c.args.self.now.facts in
    let fresh = c.in_ok-fresh.ensures.facts in
    record {
      told =
          subst (TellsTo clients f c.in_ok-fresh.fresh.facts 0) (sym c.new-told.ensures.items)
          (tells_none clients f c.in_ok-fresh.fresh.facts (ap (λ (x : Facts). account clients x f.held) fresh) (ap (λ (x : Facts). x.groups) fresh) (ap (λ (x : Facts). x.held) fresh));
      knows = c.in_ok-fresh.ensures.knows clients;
    }

pub returns : goal.returns
returns g c =
    let f : Facts = c.args.self.now.facts in
    record {
      told =
          tells_all (g.C.Clients.meaning c.args.clients.now) f c.loop-n.fresh.facts c.loop-n.n c.loop-n.told.items c.loop-n.invariant.told
          (drop_all c.loop-n.n f.held (omega (arith, c.held-n-end.ensures, c.loop-n-test.false)));
      within = c.loop-n.invariant.told.within;
    }
