-- Bounds that check 1 gives on a record's sizes and on its rows.
use Prim.Native.Nat.{ℕ, zero, suc, ◌≤◌}
use native.Mathlib.Omega.{arith}
use mathlib.Core.Path.{◌≡◌}
use mathlib.Core.Bool.{true, not, ◌&&◌, ◌||◌}
use lib.Dec.{T, leb, leb→le}
use Rattle.layout.specs.Problems.Cones.{Cone, row_count, is_psd}
use Rattle.layout.specs.General.Triangle.{triangle}
use Rattle.layout.specs.Checks.{sizes_bounded}
use Rattle.layout.proofs.Lists.Tests.{and_iff, passes}
use Rattle.layout.proofs.Numbers.Triangles.{triangle_mono}
use Rattle.supportedcone.specs.Cases.{cone_record}

module _ (c : Cone) (h : sizes_bounded c ≡ true) where
  sizes : T (leb c.first 65536 && leb c.second 65536)
  sizes = ((and_iff (leb c.first 65536 && leb c.second 65536) (not (is_psd c) || leb c.first 256)).0 (passes (sizes_bounded c) h)).0

  pub first-bounded : c.first ≤ 65536
  first-bounded = leb→le c.first 65536 ((and_iff (leb c.first 65536) (leb c.second 65536)).0 sizes).0

  pub second-bounded : c.second ≤ 65536
  second-bounded = leb→le c.second 65536 ((and_iff (leb c.first 65536) (leb c.second 65536)).0 sizes).1

pub psd-bounded : (a c : ℕ) → sizes_bounded (cone_record 6 a c) ≡ true → a ≤ 256
psd-bounded a c h = leb→le a 256 ((and_iff (leb a 65536 && leb c 65536) (leb a 256)).0 (passes (sizes_bounded (cone_record 6 a c)) h)).1

triangle-bounded : (a c : ℕ) → sizes_bounded (cone_record 6 a c) ≡ true → triangle a ≤ 32896
triangle-bounded a c h = triangle_mono a 256 (psd-bounded a c h)

pub rows-bounded : (c : Cone) → sizes_bounded c ≡ true → row_count c ≤ 131072
rows-bounded c h = go c.kind c.first c.second h
  where
    go : (k a s : ℕ) → sizes_bounded (cone_record k a s) ≡ true → row_count (cone_record k a s) ≤ 131072
    go zero a s h = omega (arith, first-bounded (cone_record 0 a s) h)
    go (suc zero) a s h = omega (arith, first-bounded (cone_record 1 a s) h)
    go (suc (suc zero)) a s h = omega (arith, first-bounded (cone_record 2 a s) h)
    go (suc (suc (suc zero))) a s h = omega arith
    go (suc (suc (suc (suc zero)))) a s h = omega arith
    go (suc (suc (suc (suc (suc zero))))) a s h = omega (arith, first-bounded (cone_record 5 a s) h, second-bounded (cone_record 5 a s) h)
    go (suc (suc (suc (suc (suc (suc zero)))))) a s h = omega (arith, triangle-bounded a s h)
    go (suc (suc (suc (suc (suc (suc (suc k))))))) a s h = omega arith
