use Rattle.join_rows.proofs.many_rows.Goals as goal

pub returns-then-standard : goal.returns-then-standard
returns-then-standard c = rw c.if-standard.true

pub returns-else-standard : goal.returns-else-standard
returns-else-standard c = rw c.if-standard.false
