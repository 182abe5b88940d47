-- The change of route (document 02, Q-12): a standard solution as a compact one, and exact totals of s by original row. Its refusal number,
-- its results and its contract.
use Rattle.std.specs.Prelude.{ℕ, suc, ◌+◌, ◌<◌, ◌≡◌, List, [], ◌∷◌, ◌++◌, map, length, get_or, set, replicate, take, drop, T, ℤ, pos, ◌+ℤ◌, Float}
use Rattle.std.specs.Float.{nan}
use Rattle.layout.specs.General.Lists.{all, sum, walk}
use Rattle.layout.specs.General.Floats.{zero64, finite, count}
use Rattle.layout.specs.Problems.Problem.{Solution, standard, compact}
use Rattle.layout.specs.Rows.Blocks.{Part, standard_rows, block_row_count, overlap_count}
use Rattle.layout.specs.Rows.Orders.{block_lengths, compact_order}
use Rattle.layout.specs.Checks.{check, first_failing, check10}
use Rattle.layout.specs.Equations.Equations.{at, compact_totals}
use Rattle.layout.specs.Calls.Answers.{or_else, roomy}
use Rattle.layout.specs.Calls.Join.{joined_parts, added_count, slack_count, solution_fits, join_checks, Rejoined, rejoined_of, rejoined_rooms, HoldsRejoined}

-- the first n of x, then +0.0 for each overlap; s and z after their first m, block by block in compact order; τ and κ copied
abbrev pub changed : ℕ → ℕ → List Part → Solution → Solution
changed n m ps sol = record {
  x = take n sol.x ++ replicate (added_count compact ps) zero64;
  s = compact_order ps (drop m sol.s);
  z = compact_order ps (drop m sol.z);
  tau = sol.tau;
  kappa = sol.kappa;
}

-- the lengths of the call's outputs: x, s, z and the two scalars
abbrev pub changed_sizes : ℕ → ℕ → List Part → List ℕ
changed_sizes n m ps = (n + added_count compact ps) ∷ slack_count compact m ps ∷ slack_count compact m ps ∷ 2 ∷ []

-- the refusal number: checks 1 to 10 of a standard joining, 10 of the compact route, 11 for the outputs, 12 for the solution's lengths
abbrev pub change_refusal : ℕ → ℕ → List ℕ → ℕ → List ℕ → Solution → List ℕ → ℕ
change_refusal n m cones k words sol rooms =
    let ps = joined_parts cones k words in
    or_else (join_checks standard n m cones k words)
    (first_failing
    (check 10 (check10 compact m ps) ∷ check 11 (roomy (changed_sizes n m ps) rooms) ∷ check 12 (solution_fits standard n m ps sol) ∷ []))

-- ---- s by original row in exact sums, as the joinings form it

-- finite doubles as whole counts
abbrev pub counts : List Float → List ℤ
counts vs = map count vs

-- the list ws with v added to its value at index o
abbrev pub add_exact_at : ℕ → ℤ → List ℤ → List ℤ
add_exact_at o v ws = set ws o (at ws o +ℤ v)

-- on the standard route, from a value for each column of H; `compactTotals` is the same for the compact route
abbrev pub standard_totals : ℕ → List Part → List ℤ → List ℤ
standard_totals m ps vs = walk add_exact_at (standard_rows ps) vs (replicate m (pos 0))

-- ---- what Q-12 asks to be proved

-- What holds for a standard solution `sol` and the compact solution `given` that a change of route gives.
pub record RouteChanged (n m : ℕ) (ps : List Part) (sol given : Solution) : Type 0 where
  -- its lengths are those that a compact joining asks for
  pub fits : T (solution_fits compact n m ps given)
  -- the first n unknowns are copied, and each added one is +0.0
  pub unknowns : given.x ≡ take n sol.x ++ replicate (overlap_count ps) zero64
  -- The block of clique c of a part, k values of s and of z, is moved bit for bit. Within the part, the earlier cliques' blocks come
  -- before it on the standard route, and the later cliques' blocks on the compact route.
  pub blocks : (qs : List Part) (x : Part) (rs : List Part) (c : ℕ) → ps ≡ qs ++ (x ∷ rs) → c < length (block_lengths x)
      → let k = get_or (block_lengths x) c 0 in
      let from = m + (block_row_count qs + sum (take c (block_lengths x))) in
      let to = block_row_count qs + sum (drop (suc c) (block_lengths x)) in
      (take k (drop to given.s) ≡ take k (drop from sol.s)) × (take k (drop to given.z) ≡ take k (drop from sol.z))
  pub scalars : (given.tau ≡ sol.tau) × (given.kappa ≡ sol.kappa)
  -- where every s moved is finite, the exact total of s at each original row is the same
  pub totals : T (all finite (drop m sol.s))
      → compact_totals m ps (counts given.s) ≡ standard_totals m ps (counts (drop m sol.s))

-- ---- the contract

pub record ChangeRoute (n m : ℕ) (cones : List ℕ) (count : ℕ) (words : List ℕ) (sol : Solution) (before after : Rejoined) (r : ℕ) : Type 0 where
  pub number : r ≡ change_refusal n m cones count words sol (rejoined_rooms before)
  pub tables : HoldsRejoined r (rejoined_of (changed n m (joined_parts cones count words) sol)) before after

-- the compact solution: the prefixes of the outputs
abbrev pub held : ℕ → ℕ → List Part → Rejoined → Solution
held n m ps a = record {
  x = take (n + added_count compact ps) a.x;
  s = take (slack_count compact m ps) a.s;
  z = take (slack_count compact m ps) a.z;
  tau = get_or a.scalars 0 nan;
  kappa = get_or a.scalars 1 nan;
}
