-- The right sides in a list, tested one by one, and their values in covered rows.
use Prim.Native.Nat.{ℕ, suc, ◌+◌, ◌-◌, ◌*◌, ◌≤◌, ◌<◌}
use native.Mathlib.Nat.{mul-le-mul_right}
use native.Mathlib.Omega.{arith}
use mathlib.Core.Path.{◌≡◌, ap, ◌∙◌}
use mathlib.Core.Bool.{Bool, true, false}
use mathlib.Core.List.{List}
use lib.ListN.{length, drop, replicate, length-drop}
use lib.Seq.{length-take-le}
use lib.Ieee.{Float}
use Rattle.layout.specs.General.Lists.{all, up_from, part}
use Rattle.layout.specs.Checks.{values_on}
use Rattle.layout.proofs.Lists.Members.{has-up_from}
use Rattle.rows_blocks.specs.Vertices.{marked}
use Rattle.check_covered.specs.Covered.{values_marked, sides_marked, sides_on}
use Rattle.check_covered.proofs.Marks.{all_same, cleared_values}

-- ---- a test of the numbers from k up to, not including, last

module _ (test : ℕ → Bool) (k last : ℕ) where
  ahead : k < last → up_from k (last - k) ≡ up_from k (suc (last - (k + 1)))
  ahead l = let e : last - k ≡ suc (last - (k + 1)) = omega arith in ap (up_from k) e

  pub next-passes : k < last → test k ≡ true → all test (up_from k (last - k)) ≡ all test (up_from (k + 1) (last - (k + 1)))
  next-passes l e =
      let f : suc k ≡ k + 1 = omega arith in
      ap (all test) (ahead l) ∙ rw e (ap (λ (j : ℕ). all test (up_from j (last - (k + 1)))) f)

  pub next_fails : k < last → test k ≡ false → all test (up_from k (last - k)) ≡ false
  next_fails l e = ap (all test) (ahead l) ∙ rw e

  pub none_left : last ≤ k → all test (up_from k (last - k)) ≡ true
  none_left l = let e : last - k ≡ 0 = omega arith in ap (λ (j : ℕ). all test (up_from k j)) e

-- ---- side k of m values

pub side-ends : (m k last size : ℕ) → k < last → last * m ≤ size → k * m + m ≤ size
side-ends m k last size l h = omega (arith, mul-le-mul_right m l)

pub side-length : (m k : ℕ) (sides : List Float) → k * m + m ≤ length sides → length (part (k * m) (k * m + m) sides) ≡ m
side-length m k sides h =
    let e : k * m + m - k * m ≡ m = omega arith in
    length-take-le (k * m + m - k * m) (drop (k * m) sides) (omega (arith, length-drop (k * m) sides)) ∙ e

-- in a table that was all false before marking the covered rows, the test by marks is the test by covered rows
pub cleared_sides : (n : ℕ) (os : List ℕ) (m first last : ℕ) (sides : List Float) → m ≤ n → last * m ≤ length sides
    → sides_marked (marked true os (replicate n false)) m first last sides ≡ sides_on os m first last sides
cleared_sides n os m first last sides room h =
    all_same (λ k. values_marked (marked true os (replicate n false)) (part (k * m) (k * m + m) sides)) (λ k. values_on os m (part (k * m) (k * m + m) sides))
    (up_from first (last - first)) (λ k t.
    let side = part (k * m) (k * m + m) sides in
    let size : length side ≡ m = side-length m k sides (side-ends m k last (length sides) (omega (arith, (has-up_from k first (last - first)).0 t)) h) in
    cleared_values n os side (omega arith) ∙ ap (λ (j : ℕ). values_on os j side) size)
