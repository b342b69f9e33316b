use Rattle.connections.proofs.desk.hear_next.Goals as goal

pub returns-then-may_be_long : goal.returns-then-may_be_long
returns-then-may_be_long c = (c.args.may, c.hear.ensures)

pub returns-else-may_be_long : goal.returns-else-may_be_long
returns-else-may_be_long c = (c.args.may, c.hear.ensures)
