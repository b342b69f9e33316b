use Rattle.std.proofs.Common.{ap}
use Rattle.store_commands.specs.Plans.{planned}
use Rattle.store_commands.proofs.Posts.{post_id}
use Rattle.store_commands.proofs.plans.plan_message.Goals as goal

pub returns-in-Ok : goal.returns-in-Ok
returns-in-Ok g c = (
  ap (planned _) c.in-Ok.ensures,
  post_id (g.C.Clients.meaning c.args.clients.now) c.args.store.now.state.facts c.args.message
      c.in-Ok.id c.in-Ok.ensures,
)
