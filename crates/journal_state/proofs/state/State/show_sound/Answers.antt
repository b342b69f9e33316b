use Rattle.std.proofs.Common.{◌≤◌, length, subst, arith}
use Rattle.std.proofs.lemmas.List.{length-map}
use Rattle.journal_state.specs.Inside.{parts}
use Rattle.journal_state.specs.Parts.{name_at}
use Rattle.journal_state.specs.Sound.{IsSound}
use Rattle.journal_state.proofs.Apart.{first_apart}
use Rattle.journal_state.proofs.Fated.{few_ended}
use Rattle.journal_state.proofs.Firsts.{delivers_judged}
use Rattle.journal_state.proofs.GroupsKnown.{knows_groups}
use Rattle.journal_state.proofs.Leaving.{judges_held}
use Rattle.journal_state.proofs.state.State.show_sound.Goals as goal

pub returns : goal.returns
returns c =
    let s = c.self.inside in
    let p = parts s in
    subst IsSound c.self.view_is
    (record {
      named = c.show_named.ensures;
      distinct = first_apart s.messages.held c.self.invariant.state.distinct;
      few = let is = c.len-held.ensures in omega (arith, is);
      known = knows_groups p c.self.invariant.state;
      groups = c.show_distinct.ensures;
      judged = judges_held p c.self.invariant.state;
      ended = delivers_judged p c.self.invariant.state;
      delivered =
          let few : length s.delivered.items ≤ length s.messages.held = few_ended p c.self.invariant.state in
          let many = length-map s.delivered.items (name_at s.graph.nodes) in
          omega (arith, few, many);
      fresh = c.self.invariant.fresh;
    })
