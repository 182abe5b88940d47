-- Two problems and their pool, by what the calls write to their outputs (document 02, Q-11). Definitions only.
use Rattle.std.specs.Prelude.{◌+◌}
use Rattle.layout.specs.Problems.Problem.{Problem, Route}
use Rattle.layout.specs.Calls.Cut.{Augmented, front_on}
use Rattle.layout.specs.Calls.Pool.{pool}
use Rattle.layout.specs.Calls.Tables.{Tables, problem_at}

-- the pool as its caller has it: the prefixes of the outputs as tables, with the n of both and the sums of m and of the pattern counts
abbrev pub pool_at : Problem → Problem → Tables → Problem
pool_at one two t = problem_at one.n (one.m + two.m) (one.pattern_count + two.pattern_count) (pool one two) t

-- what a cut has written: the prefixes of its outputs
abbrev pub cut_at : Route → Problem → Augmented → Augmented
cut_at route p out = record {
  P = record {
    starts = front_on route p 0 out.P.starts;
    rows = front_on route p 1 out.P.rows;
    values = front_on route p 2 out.P.values;
  };
  q = front_on route p 3 out.q;
  A = record {
    starts = front_on route p 4 out.A.starts;
    rows = front_on route p 5 out.A.rows;
    values = front_on route p 6 out.A.values;
  };
  b = front_on route p 7 out.b;
  cones = front_on route p 8 out.cones;
  alphas = front_on route p 9 out.alphas;
  map = front_on route p 10 out.map;
}
