-- Right sides written one after another.
use Prim.Native.Nat.{ℕ, zero, suc, ◌+◌, ◌*◌, ◌≤◌}
use native.Mathlib.Nat.{mul-le-mul_right}
use native.Mathlib.Numerals.{add-one}
use native.Mathlib.Omega.{arith}
use mathlib.Core.Path.{◌≡◌, sym, ap, ◌∙◌}
use mathlib.Core.List.{List, [], ◌∷◌, ◌++◌, map, append-nil}
use lib.ListN.{length, length-append, length-map}
use lib.Seq.{take_all}
use lib.Ieee.{Float}
use Rattle.layout.specs.General.Lists.{below, join, part}
use Rattle.layout.specs.Problems.Problem.{Problem, with_b, compact}
use Rattle.layout.specs.Rows.Blocks.{compact_rows}
use Rattle.layout.specs.Checks.{layout, refusal}
use Rattle.layout.specs.Cuts.Compact.{compact_b}
use Rattle.layout.specs.Calls.CutMany.{side, with_side, sides_b}
use Rattle.layout.proofs.Lists.Starts.{join-append}
use Rattle.layout.proofs.Lists.Keeps.{below_more}
use Rattle.layout.proofs.Lists.Joins.{join_same}
use Rattle.layout.proofs.Theorems.Sides.{side-first, side-part}
use Rattle.rows_codes.specs.Codes.{cut_code}
use Rattle.sparsevector.specs.Values.{code_value}
use Rattle.sparsevector.specs.Sides.{moved_sides}
use Rattle.sparsevector.proofs.Rows.{compact_values}

module _ (m : ℕ) (codes : List ℕ) (sides : List Float) where
  abbrev moved_side : ℕ → List Float
  moved_side k = map (code_value (part (k * m) (k * m + m) sides)) codes

  pub moved_more : (k : ℕ) → moved_sides m codes sides (k + 1) ≡ moved_sides m codes sides k ++ moved_side k
  moved_more k =
      ap (join moved_side) (below_more k) ∙ join-append moved_side (below k) (k ∷ [])
      ∙ ap (λ (r : List Float). moved_sides m codes sides k ++ r) (append-nil (moved_side k))

  pub length_moved : (k : ℕ) → length (moved_sides m codes sides k) ≡ k * length codes
  length_moved zero = omega arith
  length_moved (suc k) =
      omega (arith, ap length (ap (moved_sides m codes sides) (sym (add-one k)) ∙ moved_more k), length-append (moved_sides m codes sides k) (moved_side k), length-map codes (code_value (part (k * m) (k * m + m) sides)), length_moved k)

-- run k + 1 of count runs of n elements ends within the list
pub run_ends : (n k count size : ℕ) → suc k ≤ count → count * n ≤ size → k * n + n ≤ size
run_ends n k count size l h = omega (arith, mul-le-mul_right n l)

-- by the row codes of an accepted problem, the values are the augmented right sides, whatever these are
pub moved_sides_lem : (p : Problem) → refusal compact p ≡ 0 → (sides : List Float) (count : ℕ)
    → moved_sides p.m (map cut_code (compact_rows (layout p))) sides count ≡ sides_b p count sides
moved_sides_lem p ok sides count =
    let codes = map cut_code (compact_rows (layout p)) in
    join_same (λ k. map (code_value (part (k * p.m) (k * p.m + p.m) sides)) codes) (λ k. compact_b (with_side p sides k)) (below count) (λ k h.
    ap (λ (b : List Float). map (code_value b) codes) (sym (side-part p.m k sides)) ∙ compact_values p ok (side p.m k sides))

-- a list of a single right side
pub one_side : (p : Problem) (b : List Float) → length b ≡ p.m → sides_b p 1 b ≡ compact_b (with_b p b)
one_side p b e =
    append-nil (compact_b (with_side p b 0))
    ∙ ap (λ (c : List Float). compact_b (with_b p c)) (side-first p.m b ∙ take_all p.m b (omega (arith, e)))
