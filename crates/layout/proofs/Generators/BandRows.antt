-- The rows that the generator's pattern covers: those of two vertices whose indices in the ordering are at most w apart.
use Prim.Native.Nat.{ℕ, suc, ◌+◌, ◌-◌, ◌≤◌, ◌<◌}
use native.Mathlib.Omega.{arith}
use mathlib.Core.Path.{◌≡◌, sym, ap, ap₂, subst, ◌∙◌}
use mathlib.Core.Logic.Iff
use mathlib.Core.Logic.{◌↔◌, inl, inr}
use mathlib.Core.Bool.{Bool, ◌&&◌}
use mathlib.Core.List.{List, map, append-nil}
use lib.ListN.{length, get_or}
use lib.Dec.{T, leb}
use Rattle.layout.specs.General.Lists.{has, rises, keep, below, place_of, is_permutation}
use Rattle.layout.specs.General.Triangle.{triangle, index_row, index_column}
use Rattle.layout.specs.Problems.Patterns.{Pattern, clique_at, clique_count, members}
use Rattle.layout.specs.Rows.Blocks.{original_row, pattern_rows}
use Rattle.layout.specs.Checks.{covered_rows}
use Rattle.layout.specs.Calls.Inverse.{inverse}
use Rattle.layout.specs.Calls.Generate.{band, band_parts, band_rows}
use Rattle.layout.proofs.Lists.Tests.{and_iff, leb_iff, lt_or_le, same_tests}
use Rattle.layout.proofs.Lists.Members.{place_found, has-keep, has-below, get_or_map, length-below, get_or-below}
use Rattle.layout.proofs.Lists.Distinct.{permutation-has}
use Rattle.layout.proofs.Numbers.Triangles.{triangle-column, triangle-pair, triangle_injective, pair_index-le, index_row_lem, index_column_lem}
use Rattle.layout.proofs.Lists.Rising.{rises-up_from, rises-keep}
use Rattle.layout.proofs.Patterns.Originals.{sorted-bounded}
use Rattle.layout.proofs.Patterns.Cliques.{clique_vertices, in_original}
use Rattle.layout.proofs.Rows.Rows.{covered_pairs}
use Rattle.layout.proofs.Lists.Keeps.{keep_same}
use Rattle.layout.proofs.Generators.Band.{band-count, band-right, in_band_lem}

-- whether a and b are at most w apart
abbrev pub within : ℕ → ℕ → ℕ → Bool
within w a b = leb a (b + w) && leb b (a + w)

-- the test `inBand`, with each vertex's index in the ordering read from a table
abbrev pub in_band_at : List ℕ → ℕ → ℕ → Bool
in_band_at places w r = within w (get_or places (index_row r) 0) (get_or places (index_column r) 0)

-- whether the two vertices of row r have indices in the ordering that are at most w apart
abbrev in_band : List ℕ → ℕ → ℕ → Bool
in_band os w r = within w (place_of (index_row r) os) (place_of (index_column r) os)

within_iff : (w a b : ℕ) → T (within w a b) ↔ ((a ≤ b + w) × (b ≤ a + w))
within_iff w a b = simp (and_iff, leb_iff) Iff.rfl

-- `inBand` at the row of the pair (i, j)
band-pair : (os : List ℕ) (w i j : ℕ) → i ≤ j → j < 256 → in_band os w (triangle j + i) ≡ within w (place_of i os) (place_of j os)
band-pair os w i j le m = ap₂ (λ (a b : ℕ). within w (place_of a os) (place_of b os)) (index_row_lem i j le m) (index_column_lem i j le m)

pub band-pair-at : (places : List ℕ) (w i j : ℕ) → i ≤ j → j < 256 → in_band_at places w (triangle j + i) ≡ within w (get_or places i 0) (get_or places j 0)
band-pair-at places w i j le m = ap₂ (λ (a b : ℕ). within w (get_or places a 0) (get_or places b 0)) (index_row_lem i j le m) (index_column_lem i j le m)

module _ (os : List ℕ) (v w : ℕ) (l : w < v) (permutes : T (is_permutation os)) (many : length os ≡ v) where
  abbrev p : Pattern
  p = band os v w

  place : (i : ℕ) → i < v → (place_of i os < v) × (get_or os (place_of i os) 0 ≡ i)
  place i m = let (a, e) = place_found i os 0 ((permutation-has os permutes i).1 (omega arith)) in (omega arith, e)

  -- clique c contains the original vertices with indices c to c + w in the ordering
  held_by : (c i : ℕ) → c < clique_count (band os v w) → i < v
      → T (has i (clique_vertices (band os v w) c)) ↔ ((c ≤ place_of i os) × (place_of i os < c + suc w))
  held_by c i lc m =
      let (la, ea) = place i m in
      subst (λ (x : ℕ). T (has x (clique_vertices (band os v w) c)) ↔ ((c ≤ place_of i os) × (place_of i os < c + suc w))) ea
      (Iff.trans (in_original p (band-right os v w l permutes many) c (place_of i os) lc la) (in_band_lem os v w l c (place_of i os) lc))

  -- indices that are at most w apart are both in the range of one clique
  both : (a b : ℕ) → a < v → b < v → a ≤ b + w → b ≤ a + w
      → (c : ℕ) × (c < suc (v - suc w)) × (c ≤ a) × (a < c + suc w) × (c ≤ b) × (b < c + suc w)
  both a b la lb h g = elim (lt_or_le a (v - suc w)) [
    | inl m ↦ elim (lt_or_le a b) [
      | inl n ↦ (a, omega arith, omega arith, omega arith, omega arith, omega arith)
      | inr n ↦ (b, omega arith, omega arith, omega arith, omega arith, omega arith)
    ]
    | inr m ↦ elim (lt_or_le b (v - suc w)) [
      | inl n ↦ (b, omega arith, omega arith, omega arith, omega arith, omega arith)
      | inr n ↦ (v - suc w, omega arith, omega arith, omega arith, omega arith, omega arith)
    ]
  ]

  covered_rows_lem : covered_rows (band_parts os v w) ≡ map original_row (pattern_rows (band os v w) 0 0)
  covered_rows_lem = ap (map original_row) (append-nil (pattern_rows p 0 0))

  -- the row of the pair (i, j) is covered exactly where its vertices' indices are at most w apart
  pub covered_iff : (i j : ℕ) → i ≤ j → j < v
      → T (has (triangle j + i) (covered_rows (band_parts os v w))) ↔ T (within w (place_of i os) (place_of j os))
  covered_iff i j le m = (
    λ h.
        let (c, x, y, lc, held, lxy, e) = (covered_pairs p (band-right os v w l permutes many) 0 0 (triangle j + i)).0 (subst (λ (rs : List ℕ). T (has (triangle j + i) rs)) covered_rows_lem h) in
        let (ex, ey) = triangle_injective i j x y le lxy (omega (arith, pair_index-le x y lxy)) in
        let (hx, hy) = held in
        let a = (held_by c i lc (omega arith)).0 (subst (λ (z : ℕ). T (has z (clique_vertices p c))) (sym ex) hx) in
        let b = (held_by c j lc m).0 (subst (λ (z : ℕ). T (has z (clique_vertices p c))) (sym ey) hy) in
        (within_iff w (place_of i os) (place_of j os)).1 (omega arith, omega arith),
    λ h.
        let near = (within_iff w (place_of i os) (place_of j os)).0 h in
        let (c, lc, ha, hb, hc, hd) = both (place_of i os) (place_of j os) (place i (omega arith)).0 (place j m).0 near.0 near.1 in
        let lc' : c < clique_count p = omega (arith, band-count os v w l) in
        subst (λ (rs : List ℕ). T (has (triangle j + i) rs)) (sym covered_rows_lem) ((covered_pairs p (band-right os v w l permutes many) 0 0 (triangle j + i)).1
        (c, i, j, lc', ((held_by c i lc' (omega arith)).1 (ha, hb), (held_by c j lc' m).1 (hc, hd)), le, omega (arith, pair_index-le i j le))),
  )

  -- as an equation, which a loop over j and i can use
  covered_test : (i j : ℕ) → i ≤ j → j < v
      → has (triangle j + i) (covered_rows (band_parts os v w)) ≡ within w (place_of i os) (place_of j os)
  covered_test i j le m = same_tests _ _ (covered_iff i j le m)

  -- the generator's rows are exactly the covered ones, and they strictly increase
  pub band-rows_cover : (r : ℕ) → T (has r (band_rows os v w)) ↔ T (has r (covered_rows (band_parts os v w)))
  band-rows_cover r = Iff.trans (has-keep (λ q. has q (covered_rows (band_parts os v w))) r (below (triangle v))) (
    λ h. h.1,
    λ h. ((has-below r (triangle v)).1 (low h), h),
  )
    where
      low : T (has r (covered_rows (band_parts os v w))) → r < triangle v
      low h =
          let (c, i, j, lc, held, le, e) = (covered_pairs p (band-right os v w l permutes many) 0 0 r).0 (subst (λ (rs : List ℕ). T (has r rs)) covered_rows_lem h) in
          let m : j < v = sorted-bounded p (members (clique_at p c)) j held.1 in
          omega (arith, pair_index-le i j le, triangle-column i j v le m)

  pub band-rows_rise : T (rises (band_rows os v w))
  band-rows_rise = rises-keep (λ q. has q (covered_rows (band_parts os v w))) (below (triangle v)) (rises-up_from 0 (triangle v))

  -- they are the rows that pass `inBand`
  band-rows_test : v ≤ 256 → band_rows os v w ≡ keep (in_band os w) (below (triangle v))
  band-rows_test few = keep_same (λ r. has r (covered_rows (band_parts os v w))) (in_band os w) (below (triangle v)) (λ r h.
      let (i, j, le, m, e) = triangle-pair v r ((has-below r (triangle v)).0 h) in
      ap (λ (x : ℕ). has x (covered_rows (band_parts os v w))) e ∙ covered_test i j le m
      ∙ sym (ap (in_band os w) e ∙ band-pair os w i j le (omega arith)))

  -- and those that pass `inBandAt`, with the ordering's inverse as the table
  pub band-rows-by : v ≤ 256 → band_rows os v w ≡ keep (in_band_at (inverse os) w) (below (triangle v))
  band-rows-by few = band-rows_test few ∙ keep_same (in_band os w) (in_band_at (inverse os) w) (below (triangle v)) (λ r h.
      let (i, j, le, m, e) = triangle-pair v r ((has-below r (triangle v)).0 h) in
      let at : (x : ℕ) → x < v → get_or (inverse os) x 0 ≡ place_of x os =
      λ x lx. get_or_map (λ u. place_of u os) (below (length os)) x 0 0 (omega (arith, length-below (length os)))
      ∙ ap (λ (u : ℕ). place_of u os) (get_or-below (length os) x 0 (omega arith)) in
      ap (in_band os w) e ∙ band-pair os w i j le (omega arith)
      ∙ ap₂ (within w) (sym (at i (omega arith))) (sym (at j m))
      ∙ sym (ap (in_band_at (inverse os) w) e ∙ band-pair-at (inverse os) w i j le (omega arith)))
