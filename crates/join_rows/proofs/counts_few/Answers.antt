use Rattle.join_rows.proofs.counts_few.Goals as goal

pub returns-then-not-standard : goal.returns-then-not-standard
returns-then-not-standard c = rw c.if-not-standard.true-raw

pub returns-else-not-standard : goal.returns-else-not-standard
returns-else-not-standard c = rw c.if-not-standard.false-raw
