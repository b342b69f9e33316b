-- The four batches are those of the definition.
use Rattle.std.proofs.Common.{◌≡◌, List, sym, subst, refl}
use Rattle.sync_rules.specs.declared.entries.Entry.{Entry}
use Rattle.sync_rules.specs.Hearing.{IsHearing, one_session}
use Rattle.sync_rules.proofs.HearLaws.{one_session_hears}
use Rattle.plain_rules.proofs.hearing.begin_session.Goals as goal

pub returns-clause-hearing : goal.returns-clause-hearing
returns-clause-hearing c =
    let e : c.push_one-4.new.j.items ≡ one_session c.args.def =
    rw (c.in_ok-push_one-4.ensures.ok, c.in_ok-push_one-3.ensures.ok, c.in_ok-push_one-2.ensures.ok, c.in_ok-push_one.ensures.ok, c.new-j.ensures.items, c.group_id-group.ensures) refl in
    λ clients known. subst (λ (j : List (List Entry)). IsHearing clients j 0 0 0) (sym e) (one_session_hears clients c.args.def known)
