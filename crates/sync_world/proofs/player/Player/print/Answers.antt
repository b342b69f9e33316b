use Rattle.std.specs.String.{string_bytes}
use Rattle.sync_world.proofs.ToldLaws.{prints_text}
use Rattle.sync_world.proofs.player.Player.print.Goals as goal

pub returns-in-Ok : goal.returns-in-Ok
returns-in-Ok g c =
    prints_text c.args.self.now _ (string_bytes c.in_ok-text.text) c.as_str.result.now
    c.many_devices_stand.ensures c.in_ok-text.ensures c.as_str.ensures.value c.in-Ok.ensures.ok

pub returns : goal.returns
returns g c = (
  c.in-Err.ensures.cause.failed,
  prints_text c.args.self.now _ (string_bytes c.in_ok-text.text) c.as_str.result.now
      c.many_devices_stand.ensures c.in_ok-text.ensures c.as_str.ensures.value
      c.in-Err.ensures.gets.0,
)
