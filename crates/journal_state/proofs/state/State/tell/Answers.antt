use Rattle.std.proofs.Common.{◌≡◌, Result, Ok, Err, OnOk, sym, ap, subst, ◌∙◌}
use Rattle.sync_ids.specs.Ids.{message_id_of}
use Rattle.sync_ids.specs.Values.{MessageValue}
use Rattle.sync_rules.specs.declared.entries.Entry.TheVariants as entry
use Rattle.sync_rules.specs.Facts.{Held, after}
use Rattle.journal_state.specs.Taking.{CanHold}
use Rattle.journal_state.specs.Telling.{kept_entry}
use Rattle.journal_state.proofs.Telling.{can_keep, held_there, own_id, shown_there, tells_more}
use Rattle.journal_state.proofs.state.State.tell.Goals as goal

on_ok : {T E A B : Type 0} (r : Result T E) → (A → B) → OnOk r A → OnOk r B
on_ok (Ok x) f a = f a
on_ok (Err e) f a = tt

pub keep_copy-requires : goal.keep_copy-requires
keep_copy-requires g c =
    let hs = c.args.other.now.facts.held in
    let there = held_there hs c.args.n c.requires.within in
    let id : there.0.id ≡ c.id_at.result = shown_there (λ (h : Held). h.id) hs c.args.n there.0 c.id_at.result there.1 c.id_at.ensures in
    let message : there.0.message ≡ c.message.result.now = shown_there (λ (h : Held). h.message) hs c.args.n there.0 c.message.result.now there.1 c.message.ensures in
    record {
      named = sym id ∙ (own_id c.args.other.now c.show_sound.ensures c.args.n there.0 there.1 ∙ ap message_id_of message);
      can =
          subst (λ (m : MessageValue). CanHold c.args.self.now.facts m) message
          (can_keep c.args.other.now c.show_sound.ensures c.args.self.now.facts c.args.n there.0 there.1 c.requires.within c.requires.told.groups c.requires.told.held);
    }

pub returns-clause-told : goal.returns-clause-told
returns-clause-told g c =
    let hs = c.args.other.now.facts.held in
    let there = held_there hs c.args.n c.requires.within in
    let message : there.0.message ≡ c.message.result.now = shown_there (λ (h : Held). h.message) hs c.args.n there.0 c.message.result.now there.1 c.message.ensures in
    let from : there.0.origin ≡ c.origin.result = shown_there (λ (h : Held). h.origin) hs c.args.n there.0 c.origin.result there.1 c.origin.ensures in
    let kept : c.keep_copy.new.self.facts ≡ after c.args.self.now.facts (kept_entry there.0) =
    c.in_ok-keep_copy.ensures.facts ∙ (λ i. after c.args.self.now.facts (entry.Kept (sym from i) (sym message i))) in
    on_ok c.tell_steps.result
    (λ s. tells_more (g.C.Clients.meaning c.args.clients.now) c.args.other.now.facts c.args.self.now.facts c.keep_copy.new.self.facts c.tell_steps.new.self.facts c.args.n there.0
    c.args.told.now.items c.push.new.self.items c.tell_steps.new.told.items c.requires.told there.1 c.requires.within
    (own_id c.args.other.now c.show_sound.ensures c.args.n there.0 there.1) kept c.in_ok-push.ensures.items s)
    c.tell_steps.ensures.steps
