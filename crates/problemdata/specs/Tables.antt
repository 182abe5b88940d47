-- A problem of the code as one of the definitions.
use Rattle.csc.specs.declared.CscMatrix.{CscMatrix}
use Rattle.problemdata.specs.declared.Problem.{Problem as Lent}
use Rattle.std.specs.Prelude.{List}
use Rattle.layout.specs.Problems.Problem.{Problem, problem}
use Rattle.layout.specs.Rows.Blocks.{Part}
use Rattle.layout.specs.Calls.Join.{joined_parts}

abbrev pub problem_of : Lent → Problem
problem_of p =
    problem p.n p.m p.p.starts.now p.p.rows.now p.p.values.now p.q.now p.a.starts.now p.a.rows.now p.a.values.now p.b.now
    p.cones.now p.alphas.now p.count p.words.now

-- the parts of its cones
abbrev pub parts_of : Lent → List Part
parts_of p = joined_parts p.cones.now p.count p.words.now
