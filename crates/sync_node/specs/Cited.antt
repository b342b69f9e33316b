-- The laws of the crates below that the proofs of this one rest on.
use Rattle.record_grammar.specs.Laws.{EndingsAreOfRests, RestsGiveNothing}
use Rattle.record_stream.specs.Pieces.{ReadingsFollow, ReadingsWiden}
use Rattle.sync_store.specs.Fitting.{ImagesStand}

pub record NodeCallLaws : Type 0 where
  pub widen : ReadingsWiden
  pub follow : ReadingsFollow
  pub images : ImagesStand
  pub ends : EndingsAreOfRests
  pub rests_give : RestsGiveNothing
