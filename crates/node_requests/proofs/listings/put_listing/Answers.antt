use Rattle.store_commands.specs.Shown.{listing_shown}
use Rattle.store_commands.proofs.Looks.{looked}
use Rattle.node_requests.proofs.listings.put_listing.Goals as goal

pub returns : goal.returns
returns g c clients start was =
    looked clients (listing_shown c.args.listing) (g.D.Disk.tells start)
    (g.D.Disk.tells c.args.disk.now) _ _ _ c.args.store.now was.run was.rests was.facts was.synced
    c.put_text.ensures
