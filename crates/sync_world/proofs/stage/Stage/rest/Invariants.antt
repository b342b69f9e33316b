use Rattle.std.proofs.Common.{◌≡◌, false}
use Rattle.sync_world.specs.Doing.{ground_of}
use Rattle.sync_world.specs.Standing.{LeadsFromShown}
use Rattle.sync_world.proofs.RoundLaws.{RestsSo}
use Rattle.sync_world.proofs.stage.Stage.rest.Given as goal

abbrev pub invariant-rounds : goal.invariant-rounds
invariant-rounds l = record {
  fault : l.self.fault ≡ l.initial.self.fault;
  goes : LeadsFromShown false l.initial.self l.self;
  rests : RestsSo l._round l.rounds (ground_of l.initial.self) (ground_of l.self);
  groups : l.self.groups ≡ l.initial.self.groups;
  posts : l.self.posts.items ≡ l.initial.self.posts.items;
}
