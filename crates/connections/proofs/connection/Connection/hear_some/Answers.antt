use Rattle.std.proofs.Common.{refl, sym}
use Rattle.std.proofs.lemmas.List.{drop-drop}
use Rattle.connections.proofs.HearLemmas.{range_rest}
use Rattle.connections.proofs.connection.Connection.hear_some.Goals as goal

pub returns : goal.returns
returns c =
    let e = c.hear-heard.ensures in
    rw (← c.self.view_is)
    record {
      used = c.hear-heard.result.used;
      reads = rw (c.as_slice.ensures.value, range_rest c.self.inside.at c.self.inside.piece.items) at e.reads;
      rest = sym (drop-drop c.hear-heard.result.used c.self.inside.at c.self.inside.piece.items);
      left = rw (c.as_slice.ensures.value, range_rest c.self.inside.at c.self.inside.piece.items) at e.left;
      asked = e.asked;
      same = refl;
    }
