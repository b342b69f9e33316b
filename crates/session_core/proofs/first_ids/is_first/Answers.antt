use Rattle.session_core.proofs.First.{told_first, joined}
use Rattle.session_core.proofs.first_ids.is_first.Goals as goal

pub returns-in_ok-is_new-clause-first : goal.returns-in_ok-is_new-clause-first
returns-in_ok-is_new-clause-first c =
    told_first _ _ c.args.known.now.keys c.args.id.now
    c.if-is_shared.ensures c.in_ok-is_new.ensures.added

pub returns-in_ok-is_new-clause-known : goal.returns-in_ok-is_new-clause-known
returns-in_ok-is_new-clause-known c =
    joined _ c.args.id.now c.args.known.now.keys c.insert.new.self.keys
    c.if-is_shared.ensures c.in_ok-is_new.ensures.updates.0
