-- Two problems with the same layout: the outputs of their cuts on one route compared.
use Rattle.std.specs.Prelude.{ℕ, ◌≡◌, List, T}
use Rattle.layout.specs.General.Lists.{same_by}
use Rattle.layout.specs.General.Floats.{same_bits}
use Rattle.layout.specs.Problems.Problem.{Problem, Route}
use Rattle.layout.specs.Calls.Cut.{Augmented, sizes, cut_refusal, front_on}

-- Outputs `a` of a cut of p and `c` of a cut of q agree in all but the values of P, q, A and b.
pub record SameWritten (route : Route) (p q : Problem) (a c : Augmented) : Type 0 where
  pub p_starts : front_on route p 0 a.P.starts ≡ front_on route q 0 c.P.starts
  pub p_rows : front_on route p 1 a.P.rows ≡ front_on route q 1 c.P.rows
  pub a_starts : front_on route p 4 a.A.starts ≡ front_on route q 4 c.A.starts
  pub a_rows : front_on route p 5 a.A.rows ≡ front_on route q 5 c.A.rows
  pub cones : front_on route p 8 a.cones ≡ front_on route q 8 c.cones
  pub alphas : T (same_by same_bits (front_on route p 9 a.alphas) (front_on route q 9 c.alphas))
  pub map : front_on route p 10 a.map ≡ front_on route q 10 c.map
  -- corresponding outputs have equal lengths, so that one set of buffers serves both problems
  pub lengths : sizes route p ≡ sizes route q
  pub rooms : (buffers : List ℕ) → cut_refusal route p buffers ≡ cut_refusal route q buffers
