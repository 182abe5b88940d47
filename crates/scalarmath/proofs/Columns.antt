-- The column of an svec index t below triangle 256, from the integer root of 8t + 1.
use Prim.Native.Nat.{ℕ, zero, suc, ◌+◌, ◌-◌, ◌*◌, ◌/◌, ◌≤◌, ◌<◌}
use native.Mathlib.Nat.{mul-le-mul}
use native.Mathlib.Omega.{arith}
use mathlib.Core.Path.{◌≡◌, refl, sym, ap, ◌∙◌}
use mathlib.Core.Logic.{inl, inr}
use Rattle.layout.specs.General.Triangle.{triangle, index_row, index_column}
use Rattle.layout.proofs.Lists.Tests.{lt_or_le}
use Rattle.layout.proofs.Numbers.Triangles.{triangle-suc, triangle_mono, index_row_lem, index_column_lem}

twice_triangle : (k : ℕ) → 2 * triangle k ≡ k * suc k
twice_triangle zero = refl
twice_triangle (suc k) = let e = twice_triangle k in omega (arith, triangle-suc k)

-- the column that the root gives
abbrev pub root_column : ℕ → ℕ
root_column s = (s + 1) / 2 - 1

pub record AtColumn (t c : ℕ) : Type 0 where
  pub small : c ≤ 255
  pub starts : triangle c ≤ t
  pub row : t - triangle c ≡ index_row t
  pub column : c ≡ index_column t

between : (t c : ℕ) → t ≤ 32895 → triangle c ≤ t → t < triangle (suc c) → AtColumn t c
between t c l a b =
    let small : c ≤ 255 = elim (lt_or_le c 256) [ inl h ↦ omega arith | inr h ↦ absurd (omega (arith, triangle_mono 256 c h)) ] in
    let i = t - triangle c in
    let e : triangle c + i ≡ t = omega arith in
    let low : i ≤ c = omega (arith, triangle-suc c) in
    record {
      small = small;
      starts = a;
      row = sym (index_row_lem i c low (omega arith)) ∙ ap index_row e;
      column = sym (index_column_lem i c low (omega arith)) ∙ ap index_column e;
    }

pub root-column : (t s : ℕ) → t ≤ 32895 → s * s ≤ 8 * t + 1 → 8 * t + 1 < (s + 1) * (s + 1) → AtColumn t (root_column s)
root-column t zero l a b = absurd (omega arith)
root-column t (suc k) l a b =
    let s = suc k in
    let c = root_column s in
    let low : (2 * c + 1) * (2 * c + 1) ≤ s * s = mul-le-mul {n₂ = s} {m₂ = s} (omega arith) (omega arith) in
    let high : (s + 1) * (s + 1) ≤ (2 * c + 3) * (2 * c + 3) = mul-le-mul {n₂ = 2 * c + 3} {m₂ = 2 * c + 3} (omega arith) (omega arith) in
    between t c l (omega (arith, twice_triangle c)) (omega (arith, twice_triangle (suc c)))
