use Rattle.node_service.proofs.EarLemmas.{drop_range}
use Rattle.node_service.proofs.ear.Ear.hear_some.Goals as goal

pub returns-clause-heard : goal.returns-clause-heard
returns-clause-heard c =
    let e = c.hear-heard.ensures in
    record {
      used = c.hear-heard.result.used;
      reads = rw c.as_slice.ensures.value at e.reads;
      rest = drop_range c.args.self.now.piece.items c.args.self.now.at c.args.self.now.len c.hear-heard.result.used;
      within = rw c.as_slice.ensures.value at e.within;
      left = rw c.as_slice.ensures.value at e.left;
      asked = e.asked;
    }
