-- The cone map of a sound problem has at most 16,384 entries, because a PSD cone with v vertices has at least 8 v - 64 rows.
use Prim.Native.Nat.{ℕ, zero, suc, ◌+◌, ◌*◌, ◌≤◌}
use native.Mathlib.Omega.{arith}
use mathlib.Core.Logic.{inl, inr}
use mathlib.Core.List.{List, [], ◌∷◌, map}
use lib.ListN.{length}
use Rattle.layout.specs.General.Lists.{sum}
use Rattle.layout.specs.General.Triangle.{triangle}
use Rattle.layout.specs.Problems.Cones.{records, row_count}
use Rattle.layout.specs.Problems.Patterns.{patterns}
use Rattle.layout.specs.Rows.Blocks.{Part, whole, cut, cone_rows, cone_count}
use Rattle.layout.specs.Checks.{Sound, Laid}
use Rattle.layout.specs.Cuts.Compact.{cone_map}
use Rattle.layout.specs.Calls.Join.{joined_parts}
use Rattle.layout.proofs.Lists.Tests.{lt_or_le}
use Rattle.layout.proofs.Checks.Accepted.{sound-cone-count}
use Rattle.layout.proofs.Numbers.Triangles.{triangle-suc}
use Rattle.layout.proofs.Rows.Laid.{sound-laid, sound-total, parts-count}
use Rattle.layout.proofs.Columns.Sizes.{map-count}
use Rattle.layout.proofs.Patterns.WordCounts.{cliques-few}

side-few : (v : ℕ) → 8 * v ≤ triangle v + 64
side-few zero = omega arith
side-few (suc v) = elim (lt_or_le v 8) [
  | inl h ↦ omega arith
  | inr h ↦ omega (arith, side-few v, triangle-suc v)
]

parts-few : (row : ℕ) (ps : List Part) → Laid row ps → 8 * cone_count ps ≤ sum (map cone_rows ps) + 64 * length ps
parts-few row [] h = omega arith
parts-few row (whole i c r ∷ ps) h = omega (arith, parts-few (row + row_count c) ps h.1)
parts-few row (cut i r k p ∷ ps) h =
    omega (arith, parts-few (row + triangle p.vertex_count) ps h.2, cliques-few p h.1, side-few p.vertex_count)

module _ {m : ℕ} {cones : List ℕ} {count : ℕ} {words : List ℕ} (h : Sound m cones count words) where
  pub map-few : length (cone_map (joined_parts cones count words)) ≤ 16384
  map-few =
      let ps = joined_parts cones count words in
      omega (arith, map-count 0 ps, parts-few 0 ps (sound-laid h).0, sound-total h, h.few, parts-count 0 0 0 (records cones) (patterns count words), sound-cone-count h)
