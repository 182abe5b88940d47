use borrow.Author.Tests.{le-leb, lt-leb}
use Rattle.check_problem.proofs.join_bounded.Goals as goal

pub returns-then-n-gt-UNKNOWNS : goal.returns-then-n-gt-UNKNOWNS
returns-then-n-gt-UNKNOWNS c = simp (lt-leb _ _ c.if-n-gt-UNKNOWNS.true)

pub returns-then-m-gt-ROWS : goal.returns-then-m-gt-ROWS
returns-then-m-gt-ROWS c = simp (le-leb _ _ c.if-n-gt-UNKNOWNS.false, lt-leb _ _ c.if-m-gt-ROWS.true)

pub returns : goal.returns
returns c = simp (le-leb _ _ c.if-n-gt-UNKNOWNS.false, le-leb _ _ c.if-m-gt-ROWS.false) c.cones_bounded.ensures
