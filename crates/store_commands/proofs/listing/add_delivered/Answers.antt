use Rattle.std.proofs.Common.{◌≡◌, ◌++◌, length, ap, ◌∙◌, sym, Option}
use Rattle.std.specs.String.{string_bytes}
use Rattle.sync_rules.specs.Facts.{Held}
use Rattle.sync_words.specs.HeldTexts.{inbox_text}
use Rattle.store_commands.specs.Shown.{delivered_line}
use Rattle.store_commands.proofs.Lines.{delivered_shown}
use Rattle.store_commands.proofs.listing.add_delivered.Goals as goal

pub returns : goal.returns
returns c = λ id e.
    let place = c.delivered_at-n.ensures.place id e in
    let old = string_bytes c.args.to.now in
    let m = c.message-message.result.now in
    let shown =
    delivered_shown c.args.store.now.state.facts.held c.delivered_at-n.result place.message
    c.id_at-id.result m c.origin.result place.stands c.id_at-id.ensures
    c.message-message.ensures c.origin.ensures in
    let same_len : length c.body.result.now ≡ length m.body = ap length c.body.ensures.value in
    let written : string_bytes c.inbox_line.new.to
    ≡ old ++ inbox_text c.id_at-id.result c.group-group.result c.timestamp.result
    c.origin.result (length c.body.result.now) =
    c.in_ok-inbox_line.ensures in
    let said : inbox_text c.id_at-id.result c.group-group.result c.timestamp.result c.origin.result
    (length c.body.result.now)
    ≡ inbox_text c.id_at-id.result m.group m.timestamp c.origin.result (length m.body) =
    rw (c.group-group.ensures, c.timestamp.ensures.value, same_len) in
    written ∙ ap (λ z. old ++ z) (said ∙ shown)
    ∙ ap (λ (h : Option Held). old ++ delivered_line h) (sym place.first)
