use Rattle.node_requests.proofs.Putting.{put_failed}
use Rattle.node_requests.proofs.listings.put_bytes.Goals as goal

pub returns-in-Err : goal.returns-in-Err
returns-in-Err c =
    put_failed c.args.bytes.items c.args.out.now c.put.new.self c.in-Err.ensures.puts
    c.in-Err.ensures.counts
