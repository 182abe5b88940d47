-- The rows that a drawn ordering's band covers, computed from the ordering's inverse.
use Prim.Native.Nat.{ℕ, ◌≤◌, ◌<◌}
use native.Mathlib.Omega.{arith}
use mathlib.Core.Path.{◌≡◌, sym, ap, subst, ◌∙◌}
use mathlib.Core.List.{List}
use lib.ListN.{length, get_or, take}
use lib.Dec.{T}
use Rattle.layout.specs.General.Lists.{has, keep, below, written, Below, is_permutation}
use Rattle.layout.specs.General.Triangle.{triangle}
use Rattle.layout.specs.Checks.{covered_rows}
use Rattle.layout.specs.Calls.Inverse.{inverse}
use Rattle.layout.specs.Calls.Generate.{drawn_ordering, band_parts, band_rows}
use Rattle.layout.proofs.Lists.Members.{place_found, has-keep, has-below, has_get_or, length-below}
use Rattle.layout.proofs.Lists.Distinct.{permutation-has, length-keep}
use Rattle.layout.proofs.Lists.Buffers.{written-whole, take-written}
use Rattle.layout.proofs.Numbers.Triangles.{triangle_mono}
use Rattle.layout.proofs.Generators.Orderings.{ordering_permutes}
use Rattle.layout.proofs.Generators.BandRows.{in_band_at, band-rows-by}
use Rattle.utils.specs.Scattered.{scattered}
use Rattle.utils.proofs.Scattered.{length-inverse, inverse-at, scattered-inverse, permutation-below}

module _ (os : List ℕ) (v w : ℕ) where
  -- there are at most 2,080 covered rows, each a row of the cone
  pub rows_few : v ≤ 64 → length (band_rows os v w) ≤ 2080
  rows_few few =
      omega (arith, length-keep (λ q. has q (covered_rows (band_parts os v w))) (below (triangle v)), length-below (triangle v), triangle_mono v 64 few)

  pub rows-low : Below (triangle v) (band_rows os v w)
  rows-low i l =
      (has-below (get_or (band_rows os v w) i 0) (triangle v)).0
      ((has-keep (λ q. has q (covered_rows (band_parts os v w))) (get_or (band_rows os v w) i 0) (below (triangle v))).0 (has_get_or (band_rows os v w) i 0 l)).0

  -- the prefix of a table to which they were written
  pub rows_front : (rs old : List ℕ) (k : ℕ) → k ≡ length (band_rows os v w) → rs ≡ written (band_rows os v w) old → take k rs ≡ band_rows os v w
  rows_front rs old k e f = rw (e, f) (take-written (band_rows os v w) old)

permutes : (seed v : ℕ) → 0 < v → (os : List ℕ) → os ≡ drawn_ordering seed v → T (is_permutation os) × (length os ≡ v)
permutes seed v some os drawn = subst (λ (xs : List ℕ). T (is_permutation xs) × (length xs ≡ v)) (sym drawn) (ordering_permutes seed v some)

-- the numbers of a drawn ordering of v vertices are below any n that is at least v
pub ordering-low : (seed v : ℕ) → 0 < v → (os : List ℕ) → os ≡ drawn_ordering seed v → (n : ℕ) → v ≤ n → Below n os
ordering-low seed v some os drawn n h = let (ok, long) = permutes seed v some os drawn in permutation-below os n ok (omega arith)

-- where ps is the inverse of a drawn ordering, written over old
module _ (seed v : ℕ) (some : 0 < v) (os ps old : List ℕ) (drawn : os ≡ drawn_ordering seed v)
    (put : ps ≡ scattered 0 os old) (size : length old ≡ v) where
  permuted : T (is_permutation os) × (length os ≡ v)
  permuted = permutes seed v some os drawn

  places_are : ps ≡ inverse os
  places_are =
      put ∙ scattered-inverse os old permuted.0 (omega (arith, permuted.1))
      ∙ written-whole (inverse os) old (omega (arith, permuted.1, length-inverse os))

  pub places_long : length ps ≡ v
  places_long = ap length places_are ∙ length-inverse os ∙ permuted.1

  pub places_low : v ≤ 64 → Below 64 ps
  places_low few i l =
      let li : i < length os = omega (arith, places_long, permuted.1) in
      let (at, e) = place_found i os 0 ((permutation-has os permuted.0 i).1 li) in
      omega (arith, ap (λ (xs : List ℕ). get_or xs i 0) places_are, inverse-at os i li, permuted.1)

  pub places_rows : (w : ℕ) → w < v → v ≤ 64 → keep (in_band_at ps w) (below (triangle (length ps))) ≡ band_rows (drawn_ordering seed v) v w
  places_rows w l few =
      rw (places_long, places_are)
      (sym (band-rows-by os v w l permuted.0 permuted.1 (omega arith)) ∙ ap (λ (xs : List ℕ). band_rows xs v w) drawn)
