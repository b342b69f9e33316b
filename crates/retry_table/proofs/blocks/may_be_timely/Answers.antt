use Rattle.std.proofs.Common.{◌≡◌, ◌-◌, ◌^◌, false, nat_le, sym, ap, subst, ◌∙◌}
use Rattle.retry_table.specs.declared.blocks.Times.{Times}
use Rattle.retry_table.specs.Queues.{is_timely}
use Rattle.retry_table.proofs.Expiries.{not_sooner, not_to_offer, not_to_send}
use Rattle.retry_table.proofs.blocks.may_be_timely.Goals as goal

pub returns-in-ToSend : goal.returns-in-ToSend
returns-in-ToSend c = λ late.
    subst (λ (t : Times). is_timely t c.args.bound c.args.row ≡ false) (sym c.in-ToSend.is)
    (not_to_send c.args.bound c.args.row (ap (λ e. nat_le e c.args.bound) (sym c.expiry.ensures) ∙ late))

pub returns-in-ToOffer : goal.returns-in-ToOffer
returns-in-ToOffer c = λ late.
    subst (λ (t : Times). is_timely t c.args.bound c.args.row ≡ false) (sym c.in-ToOffer.is)
    (not_to_offer c.args.bound c.args.row (ap (λ e. nat_le e c.args.bound) (sym c.expiry-in-ToOffer.ensures) ∙ late))

pub returns-in-Sooner : goal.returns-in-Sooner
returns-in-Sooner c = λ late.
    subst (λ (t : Times). is_timely t c.args.bound c.args.row ≡ false) (sym c.in-Sooner.is)
    (not_sooner c.in-Sooner.field-0 c.args.bound c.args.row (ap (λ e. nat_le (2 ^ 64 - 1 - e) c.args.bound) (sym c.expiry-in-Sooner.ensures) ∙ late))
