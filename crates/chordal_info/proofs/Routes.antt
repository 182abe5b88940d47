-- Checks 9 and 10 in order, for a route given by its number.
use Prim.Native.Nat.{ℕ, zero, suc}
use mathlib.Core.Path.{◌≡◌, refl, ap}
use mathlib.Core.Bool.{Bool, true, false, cond}
use mathlib.Core.List.{List, [], ◌∷◌}
use lib.Ieee.{Float}
use Rattle.layout.specs.Problems.Problem.{Problem, Route, standard, compact}
use Rattle.layout.specs.Rows.Blocks.{Part}
use Rattle.layout.specs.Checks.{layout, check9, check10, check, first_failing}
use Rattle.layout.specs.Calls.Answers.{route_of}
use Rattle.check_covered.specs.Covered.{entries_right}
use Rattle.chordal_info.specs.Sizes.{rows_fit}
use Rattle.chordal_info.specs.Routes.{entries_check, Counted}
use Rattle.chordal_info.proofs.Sizes.{rows_fit_lem}

-- ---- the first failing one of checks 9 and 10

abbrev in_order : Bool → Bool → ℕ
in_order entries rows = first_failing (check 9 entries ∷ check 10 rows ∷ [])

pub entries_fail : (entries rows : Bool) → entries ≡ false → in_order entries rows ≡ 9
entries_fail entries rows e = rw e

pub entries_pass : (entries rows : Bool) → entries ≡ true → in_order entries rows ≡ cond rows 0 10
entries_pass entries rows e = rw e

-- ---- check 9 for a route number

module _ (r m : ℕ) (rows : List ℕ) (b : List Float) (ps : List Part) where
  pub entries_standard : r ≡ 0 → entries_check (route_of r) m rows b ps ≡ true
  entries_standard e = ap (λ (k : ℕ). entries_check (route_of k) m rows b ps) e

pub entries_compact : (r m : ℕ) (rows : List ℕ) (b : List Float) (ps : List Part) → (r ≡ 0 → ⊥)
    → entries_check (route_of r) m rows b ps ≡ entries_right m rows b ps
entries_compact zero m rows b ps h = absurd (h refl)
entries_compact (suc r) m rows b ps h = refl

-- ---- check 10 from the counted rows and overlaps

module _ (route : Route) (m : ℕ) (ps : List Part) (rows overlaps : ℕ) (h : Counted ps rows overlaps) where
  counted_fit : rows_fit route m rows overlaps ≡ check10 route m ps
  counted_fit = rw (h.0, h.1) (rows_fit_lem route m ps)

  pub counted_rows : let tenth : Bool → ℕ = λ t. cond t 0 10 in tenth (rows_fit route m rows overlaps) ≡ tenth (check10 route m ps)
  counted_rows = let tenth : Bool → ℕ = λ t. cond t 0 10 in ap tenth counted_fit

-- check 9 of a problem depends only on m, the rows of A's entries, b and the parts
pub entries-check : (route : Route) (p : Problem) → check9 route p ≡ entries_check route p.m p.A.rows p.b (layout p)
entries-check standard p = refl
entries-check compact p = refl
