use Rattle.journal_state.proofs.state.State.take_author.Goals as goal

pub returns : goal.returns
returns c = record { facts = c.hold.ensures.facts; knows = c.hold.ensures.knows; room = c.hold.ensures.room }
