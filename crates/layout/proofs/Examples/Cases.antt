-- The twelve marked cases of document 01, P1 to P12, each computed from the definitions; the problem with one seam as a case of
-- demand 3; and cases of document 02.
use mathlib.Core.Path.{◌≡◌, refl}
use mathlib.Core.Bool.{true, false}
use mathlib.Core.List.{List, [], ◌∷◌, ◌++◌, map}
use Prim.Native.Nat.{ℕ, ◌+◌, ◌*◌, ◌^◌}
use lib.ListN.{length, take}
use lib.IntN.{ℤ, pos, negsuc, neg_ℤ, ◌-ℤ◌}
use lib.Ieee.{Float, nan, fin, of_int, add, div, eq, le, fits, to_bits, binary64}
use Rattle.layout.specs.General.Lists.{sum}
use Rattle.layout.specs.General.Floats.{zero64, one64, minus_one64, count, Doubles, magnitude, exact_sum}
use Rattle.layout.specs.General.Triangle.{pair_index, index_row, index_column}
use Rattle.layout.specs.Problems.Problem.{Problem, problem, standard, compact, Solution}
use Rattle.layout.specs.Problems.Cones.{records}
use Rattle.layout.specs.Problems.Patterns.{Pattern, renumber, no_parent}
use Rattle.layout.specs.Rows.Blocks.{parts, standard_rows, compact_rows}
use Rattle.layout.specs.Checks.{first_failing, layout, refusal}
use Rattle.layout.specs.Cuts.Compact.{compact_a, compact_b, block_of, cone_map, map_words, no_pattern_number}
use Rattle.layout.specs.Cuts.Standard.{standard_a, standard_b}
use Rattle.layout.specs.Joinings.Reverse.{compact_reverse, standard_reverse}
use Rattle.layout.specs.Calls.Join.{join_checks}
use Rattle.layout.specs.Calls.SameLayout.{same_layout}
use Rattle.layout.specs.Equations.Equations.{AllFinite, SameSolutions}
use Rattle.layout.specs.Equations.Rounding.{terms_at, blocks_at, blocks_in, error_bound, returned, RoundingErrors}
use Rattle.layout.specs.Calls.ChangeRoute.{changed, change_refusal}
use Rattle.layout.specs.Equations.BothRoutes.{OneProblem}
use Rattle.layout.specs.Calls.CutBetween.{limits_failing}
use Rattle.layout.specs.Calls.CutMany.{sides_b, sides_failing}
use Rattle.layout.specs.Calls.Pool.{pool, pool_checks, pool_refusal}
use Rattle.layout.specs.Calls.Generate.{draw, generated, generate_refusal}
use Rattle.layout.proofs.Checks.Accepted.{accepted-sound}
use Rattle.layout.proofs.Theorems.Demand3.{demand3}
use Rattle.layout.proofs.Equations.BlockSums.{sound_rounding}
use Rattle.layout.proofs.Theorems.BothRoutes.{both_routes}

-- the f64 of a whole number
abbrev pub f : ℕ → Float
f k = of_int binary64 (pos k)

p1 : pair_index 0 0 ≡ 0
p1 = refl

p2 : (pair_index 0 1 ≡ 1) × (pair_index 1 0 ≡ 1)
p2 = (refl, refl)

p3 : pair_index 2 5 ≡ 17
p3 = refl

p4 : pair_index 255 255 ≡ 32895
p4 = refl

p5 : (index_row 0 ≡ 0) × (index_column 0 ≡ 0)
p5 = (refl, refl)

p6 : (index_row 3 ≡ 0) × (index_column 3 ≡ 2)
p6 = (refl, refl)

abbrev snodes_before : Pattern
snodes_before = record {
  orig_index = 0;
  vertex_count = 3;
  ordering = 2 ∷ 0 ∷ 1 ∷ [];
  cliques =
      record { parent = 1; snode = 2 ∷ []; separator = 0 ∷ [] }
      ∷ record { parent = no_parent; snode = 0 ∷ 1 ∷ []; separator = [] } ∷ [];
}

abbrev snodes_after : Pattern
snodes_after = record {
  orig_index = 0;
  vertex_count = 3;
  ordering = 1 ∷ 2 ∷ 0 ∷ [];
  cliques =
      record { parent = 1; snode = 0 ∷ []; separator = 1 ∷ [] }
      ∷ record { parent = no_parent; snode = 1 ∷ 2 ∷ []; separator = [] } ∷ [];
}

p7 : renumber snodes_before ≡ snodes_after
p7 = refl

-- document 01's problem with three projectors and one seam, for given rows of A and a given b
abbrev seam_with : List ℕ → List Float → Problem
seam_with rows b = record {
  n = 1;
  m = 6;
  P = record { starts = 0 ∷ 0 ∷ []; rows = []; values = [] };
  q = zero64 ∷ [];
  A = record { starts = 0 ∷ 5 ∷ []; rows = rows; values = f 10 ∷ f 20 ∷ f 30 ∷ f 40 ∷ f 50 ∷ [] };
  b = b;
  cones = 6 ∷ 3 ∷ 0 ∷ [];
  alphas = [];
  pattern_count = 1;
  pattern_words = 0 ∷ 3 ∷ 2 ∷ 0 ∷ 1 ∷ 2 ∷ 1 ∷ 1 ∷ 1 ∷ 0 ∷ 1 ∷ no_parent ∷ 2 ∷ 0 ∷ 1 ∷ 2 ∷ [];
}

abbrev pub seam : Problem
seam = seam_with (0 ∷ 1 ∷ 2 ∷ 4 ∷ 5 ∷ []) (f 1 ∷ f 2 ∷ f 3 ∷ f 0 ∷ f 4 ∷ f 5 ∷ [])

seam_accepted : (refusal compact seam ≡ 0) × (refusal standard seam ≡ 0)
unfolding of_int add div eq
seam_accepted = (refl, refl)

-- P8 and P9 in one: both columns of A, and b
p8_9 : (compact_a seam ≡ record {
  starts = 0 ∷ 5 ∷ 7 ∷ [];
  rows = 0 ∷ 1 ∷ 2 ∷ 3 ∷ 4 ∷ 0 ∷ 5 ∷ [];
  values = f 30 ∷ f 40 ∷ f 50 ∷ f 10 ∷ f 20 ∷ minus_one64 ∷ one64 ∷ [];
})
    × (compact_b seam ≡ f 3 ∷ f 4 ∷ f 5 ∷ f 1 ∷ f 2 ∷ f 0 ∷ [])
unfolding of_int add div eq
p8_9 = (refl, refl)

abbrev both : List Float → Solution
both vs = record { x = f 9 ∷ f 8 ∷ []; s = vs; z = vs; tau = zero64; kappa = zero64 }

p10 : compact_reverse 1 6 (layout seam) (both (f 3 ∷ f 4 ∷ f 5 ∷ f 1 ∷ f 2 ∷ f 7 ∷ [])) ≡ record {
  x = f 9 ∷ [];
  s = f 1 ∷ f 2 ∷ f 10 ∷ f 0 ∷ f 4 ∷ f 5 ∷ [];
  z = f 1 ∷ f 2 ∷ f 7 ∷ f 0 ∷ f 4 ∷ f 5 ∷ [];
  tau = one64;
  kappa = one64;
}
unfolding of_int add div eq
p10 = refl

p11_rows : standard_rows (layout seam) ≡ 0 ∷ 1 ∷ 2 ∷ 2 ∷ 4 ∷ 5 ∷ []
p11_rows = refl

p11_sizes : (length (standard_b seam) ≡ 12) × (length (standard_a seam).starts ≡ 8)
p11_sizes = (refl, refl)

p11 : standard_reverse 1 6 (layout seam)
    (both (f 0 ∷ f 0 ∷ f 0 ∷ f 0 ∷ f 0 ∷ f 0 ∷ f 1 ∷ f 2 ∷ f 7 ∷ f 3 ∷ f 4 ∷ f 5 ∷ [])) ≡ record {
      x = f 9 ∷ [];
      s = f 1 ∷ f 2 ∷ f 10 ∷ f 0 ∷ f 4 ∷ f 5 ∷ [];
      z = f 1 ∷ f 2 ∷ f 5 ∷ f 0 ∷ f 4 ∷ f 5 ∷ [];
      tau = one64;
      kappa = one64;
    }
unfolding of_int add div eq
p11 = refl

p12 : refusal compact (seam_with (0 ∷ 1 ∷ 2 ∷ 3 ∷ 5 ∷ []) (f 1 ∷ f 2 ∷ f 3 ∷ f 0 ∷ f 4 ∷ f 5 ∷ [])) ≡ 9
unfolding of_int add div eq
p12 = refl

-- the rest of that line: with b[3] = 1 the same, with b[3] = -0.0 accepted
p12_b : (refusal compact (seam_with (0 ∷ 1 ∷ 2 ∷ 4 ∷ 5 ∷ []) (f 1 ∷ f 2 ∷ f 3 ∷ f 1 ∷ f 4 ∷ f 5 ∷ [])) ≡ 9)
    × (refusal compact (seam_with (0 ∷ 1 ∷ 2 ∷ 4 ∷ 5 ∷ []) (f 1 ∷ f 2 ∷ f 3 ∷ fin true 0 (pos 0) ∷ f 4 ∷ f 5 ∷ [])) ≡ 0)
unfolding of_int add div eq
p12_b = (refl, refl)

-- demand 3 applies to this problem, which is accepted and finite
seam_finite : AllFinite seam
unfolding of_int
seam_finite = tt

seam_same : SameSolutions seam
seam_same = demand3 seam seam_accepted.0 seam_finite

-- ---- Q-7: no columns

-- the seam without columns
abbrev fixed : Problem
fixed = record {
  n = 0;
  m = 6;
  P = record { starts = 0 ∷ []; rows = []; values = [] };
  q = [];
  A = record { starts = 0 ∷ []; rows = []; values = [] };
  b = seam.b;
  cones = seam.cones;
  alphas = [];
  pattern_count = 1;
  pattern_words = seam.pattern_words;
}

fixed_accepted : (refusal compact fixed ≡ 0) × (join_checks compact 0 6 fixed.cones 1 fixed.pattern_words ≡ 0)
unfolding of_int eq
fixed_accepted = (refl, refl)

-- overlap columns start at 0, and b moves as usual
fixed_cut : (compact_a fixed ≡ record { starts = 0 ∷ 2 ∷ []; rows = 0 ∷ 5 ∷ []; values = minus_one64 ∷ one64 ∷ [] })
    × (compact_b fixed ≡ compact_b seam)
unfolding of_int eq
fixed_cut = (refl, refl)

fixed_finite : AllFinite fixed
unfolding of_int
fixed_finite = tt

-- demand 3 also covers solutions with an empty x
fixed_same : SameSolutions fixed
fixed_same = demand3 fixed fixed_accepted.0 fixed_finite

-- ---- Q-3: first rows and row counts in the cone map

seam_map : cone_map (layout seam) ≡ block_of 0 0 1 0 3 ∷ block_of 0 0 0 3 3 ∷ []
seam_map = refl

-- a cone without rows also has the number of rows before it as its first row
empty_cone : map_words (cone_map (parts (records (1 ∷ 2 ∷ 0 ∷ 6 ∷ 0 ∷ 0 ∷ 1 ∷ 4 ∷ 0 ∷ [])) []))
    ≡ 0 ∷ no_pattern_number ∷ 0 ∷ 0 ∷ 2 ∷ 1 ∷ no_pattern_number ∷ 0 ∷ 2 ∷ 0 ∷ 2 ∷ no_pattern_number ∷ 0 ∷ 2 ∷ 4 ∷ []
empty_cone = refl

-- ---- Q-10: exponents

-- one power cone of exponent α
abbrev powered : Float → Problem
powered α = record {
  n = 0;
  m = 3;
  P = record { starts = 0 ∷ []; rows = []; values = [] };
  q = [];
  A = record { starts = 0 ∷ []; rows = []; values = [] };
  b = f 1 ∷ f 2 ∷ f 3 ∷ [];
  cones = 4 ∷ 0 ∷ 0 ∷ [];
  alphas = α ∷ [];
  pattern_count = 0;
  pattern_words = [];
}

exponents : (same_layout (powered zero64) (powered zero64) ≡ true) × (same_layout (powered zero64) (powered one64) ≡ false)
    × (same_layout (powered zero64) (powered (fin true 0 (pos 0))) ≡ false)
unfolding to_bits
exponents = (refl, refl, refl)

-- ---- Q-4: repeated entries

-- -0.0 alone in row 0; 2 ^ 53, 1 and 1 in row 2; 50 in row 5
abbrev repeated : Problem
repeated = record {
  n = 1;
  m = 6;
  P = seam.P;
  q = seam.q;
  A = record {
    starts = 0 ∷ 5 ∷ [];
    rows = 0 ∷ 2 ∷ 2 ∷ 2 ∷ 5 ∷ [];
    values = fin true 0 (pos 0) ∷ fin false 1 (pos 53) ∷ one64 ∷ one64 ∷ f 50 ∷ [];
  };
  b = seam.b;
  cones = seam.cones;
  alphas = [];
  pattern_count = 1;
  pattern_words = seam.pattern_words;
}

repeated_accepted : (refusal compact repeated ≡ 0) × (refusal standard repeated ≡ 0)
unfolding of_int add eq
repeated_accepted = (refl, refl)

-- added from left to right, each sum rounded: from right to left it would be 2 ^ 53 + 2
repeated_cut : compact_a repeated ≡ record {
  starts = 0 ∷ 3 ∷ 5 ∷ [];
  rows = 0 ∷ 2 ∷ 3 ∷ 0 ∷ 5 ∷ [];
  values = fin false 1 (pos 53) ∷ f 50 ∷ fin true 0 (pos 0) ∷ minus_one64 ∷ one64 ∷ [];
}
unfolding of_int add eq
repeated_cut = refl

-- the standard route keeps repeats as stored
repeated_standard : (take 5 (standard_a repeated).rows ≡ repeated.A.rows) × (take 5 (standard_a repeated).values ≡ repeated.A.values)
repeated_standard = (refl, refl)

-- row indices that decrease are refused
falling : refusal standard (seam_with (0 ∷ 2 ∷ 1 ∷ 4 ∷ 5 ∷ []) seam.b) ≡ 3
unfolding of_int eq
falling = refl

repeated_finite : AllFinite repeated
unfolding of_int add
repeated_finite = tt

repeated_same : SameSolutions repeated
repeated_same = demand3 repeated repeated_accepted.0 repeated_finite

-- ---- Q-9: rounding errors

-- Q-9 applies to P10's s, which has a double for each augmented row
abbrev seam_s : List Float
seam_s = f 3 ∷ f 4 ∷ f 5 ∷ f 1 ∷ f 2 ∷ f 7 ∷ []

seam_doubles : Doubles seam_s
unfolding of_int fits
seam_doubles = tt

seam_rounding : RoundingErrors 6 (layout seam) seam_s
seam_rounding = sound_rounding (accepted-sound compact seam seam_accepted.0) seam_s refl seam_doubles

-- two blocks add to row 2, the last clique's first
seam_terms : (blocks_at 2 (compact_rows (layout seam)) ≡ 2) × (sum (map (blocks_in 2) (layout seam)) ≡ 2)
    × (terms_at 2 (compact_rows (layout seam)) seam_s ≡ f 3 ∷ f 7 ∷ [])
unfolding of_int
seam_terms = (refl, refl, refl)

-- with terms 1 and 2 ^ -53 the sum is rounded to 1: 2 ^ 53 times the error counts 2 ^ 1074, and the bound is twice the terms' magnitudes
seam-error :
    let s = one64 ∷ f 4 ∷ f 5 ∷ f 1 ∷ f 2 ∷ fin false 1 (negsuc 52) ∷ [] in
    (2 ^ 53 * magnitude (count (returned 6 (layout seam) s 2) -ℤ exact_sum (terms_at 2 (compact_rows (layout seam)) s)) ≡ 2 ^ 1074)
    × (error_bound 2 (compact_rows (layout seam)) s ≡ 2 ^ 1075 + 2 ^ 1022)
unfolding of_int add
seam-error = (refl, refl)

-- ---- Q-12: a change of route

-- a standard solution whose first m values of s and z are v
abbrev standard_solution : Float → Solution
standard_solution v = record {
  x = f 9 ∷ f 1 ∷ f 1 ∷ f 1 ∷ f 1 ∷ f 1 ∷ f 1 ∷ [];
  s = v ∷ v ∷ v ∷ v ∷ v ∷ v ∷ f 1 ∷ f 2 ∷ f 7 ∷ f 3 ∷ f 4 ∷ f 5 ∷ [];
  z = v ∷ v ∷ v ∷ v ∷ v ∷ v ∷ f 6 ∷ f 5 ∷ f 4 ∷ f 3 ∷ f 2 ∷ f 1 ∷ [];
  tau = f 2;
  kappa = f 3;
}

seam_changed : changed 1 6 (layout seam) (standard_solution (f 8)) ≡ record {
  x = f 9 ∷ zero64 ∷ [];
  s = f 3 ∷ f 4 ∷ f 5 ∷ f 1 ∷ f 2 ∷ f 7 ∷ [];
  z = f 3 ∷ f 2 ∷ f 1 ∷ f 6 ∷ f 5 ∷ f 4 ∷ [];
  tau = f 2;
  kappa = f 3;
}
seam_changed = refl

-- accepted; an output too short; a solution of another length
seam_refusals : (change_refusal 1 6 seam.cones 1 seam.pattern_words (standard_solution (f 8)) (2 ∷ 6 ∷ 6 ∷ 2 ∷ []) ≡ 0)
    × (change_refusal 1 6 seam.cones 1 seam.pattern_words (both []) (2 ∷ 5 ∷ 6 ∷ 2 ∷ []) ≡ 11)
    × (change_refusal 1 6 seam.cones 1 seam.pattern_words (both []) (2 ∷ 6 ∷ 6 ∷ 2 ∷ []) ≡ 12)
seam_refusals = (refl, refl, refl)

-- ---- Q-13: both routes state the same problem

seam_one : OneProblem seam
seam_one = both_routes seam seam_accepted.1 seam_accepted.0 tt seam_finite

-- ---- Q-8: limits

-- the seam's b with v in its first row
abbrev side_of : Float → List Float
side_of v = v ∷ f 2 ∷ f 3 ∷ zero64 ∷ f 4 ∷ f 5 ∷ []

-- accepted; a low above its high; a NaN; a wrong length before that, and a value other than zero in an uncovered row after it
seam_limits : (limits_failing seam (side_of (f 1)) (side_of (f 2)) ≡ 0) × (limits_failing seam (side_of (f 2)) (side_of (f 1)) ≡ 16)
    × (limits_failing seam (side_of nan) (side_of (f 1)) ≡ 16) × (limits_failing seam (f 2 ∷ []) (side_of (f 1)) ≡ 4)
    × (limits_failing seam (side_of (f 1)) (f 1 ∷ f 2 ∷ f 3 ∷ f 1 ∷ f 4 ∷ f 5 ∷ []) ≡ 9)
unfolding of_int eq le
seam_limits = (refl, refl, refl, refl, refl)

-- ---- Q-1: many right sides

-- accepted; no side, and too many sides; a list too short; a value other than zero in an uncovered row of the second side
seam_sides : (sides_failing seam 2 (side_of (f 1) ++ side_of (f 2)) ≡ 0) × (sides_failing seam 0 [] ≡ 1) × (sides_failing seam 65 [] ≡ 1)
    × (sides_failing seam 2 (side_of (f 1)) ≡ 4)
    × (sides_failing seam 2 (side_of (f 1) ++ (f 1 ∷ f 2 ∷ f 3 ∷ f 1 ∷ f 4 ∷ f 5 ∷ [])) ≡ 9)
unfolding of_int eq
seam_sides = (refl, refl, refl, refl, refl)

seam_sides_b : sides_b seam 2 (side_of (f 1) ++ side_of (f 2))
    ≡ f 3 ∷ f 4 ∷ f 5 ∷ f 1 ∷ f 2 ∷ zero64 ∷ f 3 ∷ f 4 ∷ f 5 ∷ f 2 ∷ f 2 ∷ zero64 ∷ []
unfolding of_int eq
seam_sides_b = refl

-- ---- Q-11: two problems pooled

-- the seam pooled with itself: accepted; outputs too short; and pooled with a problem of another n
seam_pool : (first_failing (pool_checks seam seam) ≡ 0) × (pool_refusal seam seam [] ≡ 11) × (pool_refusal seam fixed [] ≡ 17)
seam_pool = (refl, refl, refl)

-- in the cone map the second's entries follow the first's, raised
seam_pool-map : cone_map (layout (pool seam seam)) ≡ block_of 0 0 1 0 3 ∷ block_of 0 0 0 3 3 ∷ block_of 1 1 1 6 3 ∷ block_of 1 1 0 9 3 ∷ []
seam_pool-map = refl

-- column 0: the first's entries above the second's; then the first's overlap column, then the second's
seam_pool-rows : (compact_a (pool seam seam)).rows ≡ 0 ∷ 1 ∷ 2 ∷ 3 ∷ 4 ∷ 6 ∷ 7 ∷ 8 ∷ 9 ∷ 10 ∷ 0 ∷ 5 ∷ 6 ∷ 11 ∷ []
seam_pool-rows = refl

-- the first's repeats are added in the pool as in its own cut
repeated_pool : (compact_a (pool repeated seam)).rows ≡ 0 ∷ 2 ∷ 3 ∷ 6 ∷ 7 ∷ 8 ∷ 9 ∷ 10 ∷ 0 ∷ 5 ∷ 6 ∷ 11 ∷ []
repeated_pool = refl

-- ---- Q-5: the generator

-- whole numbers as doubles
abbrev ints : List ℤ → List Float
ints zs = map (of_int binary64) zs

abbrev minus : ℕ → ℤ
minus k = neg_ℤ (pos k)

-- 4 vertices and band 1: pairs of vertices two or three places apart in the ordering are not covered
four_vertices : generated 7 4 1 2 ≡ problem 2 10
    (0 ∷ 0 ∷ 0 ∷ []) [] [] (zero64 ∷ zero64 ∷ [])
    (0 ∷ 5 ∷ 9 ∷ []) (0 ∷ 1 ∷ 4 ∷ 5 ∷ 9 ∷ 1 ∷ 2 ∷ 4 ∷ 9 ∷ [])
    (ints (pos 36 ∷ minus 30 ∷ minus 20 ∷ minus 12 ∷ minus 34 ∷ minus 93 ∷ minus 43 ∷ minus 16 ∷ pos 15 ∷ []))
    (ints (pos 23 ∷ pos 88 ∷ minus 22 ∷ pos 0 ∷ pos 73 ∷ pos 21 ∷ pos 30 ∷ pos 0 ∷ pos 0 ∷ minus 66 ∷ []))
    (6 ∷ 4 ∷ 0 ∷ []) [] 1
    (0 ∷ 4 ∷ 3 ∷ 2 ∷ 1 ∷ 0 ∷ 3 ∷ 1 ∷ 1 ∷ 1 ∷ 0 ∷ 1 ∷ 2 ∷ 1 ∷ 1 ∷ 1 ∷ 2 ∷ no_parent ∷ 2 ∷ 0 ∷ 2 ∷ 3 ∷ [])
unfolding draw of_int
four_vertices = refl

generator_refusals : (generate_refusal 0 4 1 2 [] ≡ 15) × (generate_refusal 7 65 1 2 [] ≡ 15) × (generate_refusal 7 4 4 2 [] ≡ 15)
    × (generate_refusal 7 4 1 2 [] ≡ 11) × (generate_refusal 7 4 1 2 (3 ∷ 0 ∷ 0 ∷ 2 ∷ 3 ∷ 9 ∷ 9 ∷ 10 ∷ 3 ∷ 0 ∷ 22 ∷ []) ≡ 0)
unfolding draw
generator_refusals = (refl, refl, refl, refl, refl)
